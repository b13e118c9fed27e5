use Rattle.std.proofs.Common.{◌≡◌, ◌<◌, ◌^◌, ℕ, ℤ, rules, ◌++◌, ◌∷◌, [], List, Option, Some, None, cond, length, sym, ◌∙◌, ap, subst}
use Rattle.std.specs.BTreeMap.{is_at}
use Rattle.std.specs.BTreeMap as tree
use Rattle.plain_values.specs.Plain.{Pairs, keys}
use Rattle.php_values.specs.View.{plain_key, plain_of, pairs_of}
use Rattle.plain_values.specs.Members.{put_pair}
use Rattle.php_values.specs.Index.{place, IsIndexed, HasDeepest}
use Rattle.php_values.specs.declared.key.Key.{Key}
use Rattle.php_values.specs.declared.array.Value.{Value}
use Rattle.php_values.specs.contracts.key.KeyOrd.TheImpl as key_order
use Rattle.php_values.proofs.Places.{put_absent}
use Rattle.php_values.proofs.IndexLemmas.{indexed_add}
use Rattle.php_values.proofs.array.Members.add.Goals as goal

pub invariant_of-self-2 : goal.invariant_of-self-2
invariant_of-self-2 c =
    let absent : place (keys (pairs_of c.self.inside.pairs.items)) (plain_key c.args.key) ≡ None = subst (λ (ps : Pairs). place (keys ps) (plain_key c.args.key) ≡ None) (sym c.self.view_is) c.requires.absent in
    let items : c.push.new.self.items ≡ c.self.inside.pairs.items ++ (c.args.key, c.args.value) ∷ [] = c.in-Ok.ensures.items ∙ ap (λ (xs : List (Key × Value)). xs ++ (c.args.key, c.args.value) ∷ []) c.in_ok-reserve.ensures.items in
    let count : c.len.result ≡ length c.self.inside.pairs.items = c.len.ensures ∙ c.in_ok-reserve.ensures.len ∙ c.self.inside.pairs.ok.0 in
    let updates : (q : Key) → tree.get key_order.ghosts.cmp c.insert.new.self q ≡ cond (is_at (key_order.ghosts.cmp c.args.key) q) (Some (length c.self.inside.pairs.items)) (tree.get key_order.ghosts.cmp c.self.inside.places q) =
    subst (λ (k : Key). (q : Key) → tree.get key_order.ghosts.cmp c.insert.new.self q ≡ cond (is_at (key_order.ghosts.cmp k) q) (Some (length c.self.inside.pairs.items)) (tree.get key_order.ghosts.cmp c.self.inside.places q)) c.in_ok-own.ensures
    (subst (λ (n : ℕ). (q : Key) → tree.get key_order.ghosts.cmp c.insert.new.self q ≡ cond (is_at (key_order.ghosts.cmp c.in_ok-own.own) q) (Some n) (tree.get key_order.ghosts.cmp c.self.inside.places q)) count c.in_ok-insert.ensures.updates.0) in
    let short : length c.self.inside.pairs.items < 2 ^ 63 = search rules in
    let now : HasDeepest c.self.inside.deepest.depth c.self.inside.deepest.count c.self.inside.pairs.items = record { is_depth = c.self.invariant.depth; is_count = c.self.invariant.count } in
    let found : HasDeepest c.deepest_with-self-inside.result.depth c.deepest_with-self-inside.result.count (c.self.inside.pairs.items ++ (c.args.key, c.args.value) ∷ []) = c.deepest_with-self-inside.ensures c.self.inside.pairs.items (c.args.key, c.args.value) short now c.depth.ensures.depth in
    let added = indexed_add c.self.inside.pairs.items c.self.inside.places c.insert.new.self c.self.inside.largest c.self.inside.deepest.depth c.self.inside.deepest.count c.deepest_with-self-inside.result.depth c.deepest_with-self-inside.result.count c.args.key c.args.value c.self.invariant found absent c.requires.shallow updates in
    subst (λ (xs : List (Key × Value)). IsIndexed xs c.insert.new.self c.larger-self-inside.result c.deepest_with-self-inside.result.depth c.deepest_with-self-inside.result.count) (sym items)
    (subst (λ (z : Option ℤ). IsIndexed (c.self.inside.pairs.items ++ (c.args.key, c.args.value) ∷ []) c.insert.new.self z c.deepest_with-self-inside.result.depth c.deepest_with-self-inside.result.count) (sym c.larger-self-inside.ensures) added)

pub returns-clause-ok : goal.returns-clause-ok
returns-clause-ok c =
    let absent : place (keys (pairs_of c.self.inside.pairs.items)) (plain_key c.args.key) ≡ None = subst (λ (ps : Pairs). place (keys ps) (plain_key c.args.key) ≡ None) (sym c.self.view_is) c.requires.absent in
    let items : c.push.new.self.items ≡ c.self.inside.pairs.items ++ (c.args.key, c.args.value) ∷ [] = c.in-Ok.ensures.items ∙ ap (λ (xs : List (Key × Value)). xs ++ (c.args.key, c.args.value) ∷ []) c.in_ok-reserve.ensures.items in
    ap pairs_of items ∙ put_absent c.self.inside.pairs.items c.args.key c.args.value absent ∙ ap (λ (ps : Pairs). put_pair ps (plain_key c.args.key) (plain_of c.args.value)) c.self.view_is
