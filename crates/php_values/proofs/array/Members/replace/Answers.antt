use Rattle.std.proofs.Common.{rules, ◌≡◌, Some, sym, ◌∙◌, ap, subst, arith, set}
use Rattle.plain_values.specs.Plain.{Pairs, keys}
use Rattle.php_values.specs.View.{plain_key, plain_of, pairs_of}
use Rattle.plain_values.specs.Members.{put_pair}
use Rattle.php_values.specs.Index.{place}
use Rattle.php_values.specs.declared.key.Key.{Key}
use Rattle.php_values.specs.declared.array.Value.{Value}
use Rattle.php_values.proofs.Places.{length-keys, place_lt, put_present}
use Rattle.php_values.proofs.IndexLemmas.{indexed_changed}
use Rattle.php_values.proofs.array.Members.replace.Goals as goal

pub index_mut-requires : goal.index_mut-requires
index_mut-requires c =
    let at : place (keys (pairs_of c.self.inside.pairs.items)) (plain_key c.args.key.now) ≡ Some c.args.place = subst (λ (ps : Pairs). place (keys ps) (plain_key c.args.key.now) ≡ Some c.args.place) (sym c.self.view_is) c.requires.known in
    omega (arith, place_lt (keys (pairs_of c.self.inside.pairs.items)) (plain_key c.args.key.now) c.args.place at, length-keys c.self.inside.pairs.items)

pub invariant_of-self : goal.invariant_of-self
invariant_of-self c =
    let at : place (keys (pairs_of c.self.inside.pairs.items)) (plain_key c.args.key.now) ≡ Some c.args.place = subst (λ (ps : Pairs). place (keys ps) (plain_key c.args.key.now) ≡ Some c.args.place) (sym c.self.view_is) c.requires.known in
    indexed_changed c.self.inside.pairs.items c.self.inside.places c.self.inside.largest c.self.inside.deepest.depth c.self.inside.deepest.count c.deepest_after-self-inside.result.depth c.deepest_after-self-inside.result.count (plain_key c.args.key.now) c.args.value c.args.place c.index_mut.result.now c.depth-before.result c.depth-after.result c.deref.result.now c.self.invariant at c.requires.shallow (search rules) c.index_mut.ensures.value c.depth-before.ensures.depth c.depth-after.ensures.depth c.deref.ensures.value c.deepest_after-self-inside.ensures

pub returns : goal.returns
returns c =
    let at : place (keys (pairs_of c.self.inside.pairs.items)) (plain_key c.args.key.now) ≡ Some c.args.place = subst (λ (ps : Pairs). place (keys ps) (plain_key c.args.key.now) ≡ Some c.args.place) (sym c.self.view_is) c.requires.known in
    ap (λ (x : Key × Value). pairs_of (set c.self.inside.pairs.items c.args.place (x.0, c.args.value))) c.index_mut.ensures.value
    ∙ put_present c.self.inside.pairs.items (plain_key c.args.key.now) c.args.value c.args.place c.index_mut.result.now at
    ∙ ap (λ (ps : Pairs). put_pair ps (plain_key c.args.key.now) (plain_of c.args.value)) c.self.view_is
