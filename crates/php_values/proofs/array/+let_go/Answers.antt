use Rattle.std.proofs.Common.{rules, ◌≡◌, ◌<◌, ◌≤◌, ℕ, Some, get_or, set, length, sym, subst, arith}
use Rattle.plain_values.specs.Plain.{Pairs, keys, depth, deepest}
use Rattle.php_values.specs.View.{plain_of, plain_key, pairs_of, plain_path}
use Rattle.php_values.specs.Writes.{KeepsMember}
use Rattle.php_values.specs.Index.{place}
use Rattle.php_values.specs.declared.key.Key.{Key}
use Rattle.php_values.specs.declared.array.Value.{Value}
use Rattle.php_values.proofs.Places.{length-keys, place_lt, deepest_at, not_deeper}
use Rattle.php_values.proofs.IndexLemmas.{indexed_changed}
use Rattle.php_values.proofs.WriteLemmas.{released_at}
use Rattle.php_values.proofs.array.+let_go.Goals as goal

pub Members::let_go-index_mut-requires : goal.Members::let_go-index_mut-requires
Members::let_go-index_mut-requires t c =
    let at : place (keys (pairs_of c.self.inside.pairs.items)) (plain_key c.args.key.now) ≡ Some c.in-Some.place = rw c.self.view_is (sym c.in-Some.ensures.place) in
    omega (arith, place_lt (keys (pairs_of c.self.inside.pairs.items)) (plain_key c.args.key.now) c.in-Some.place at, length-keys c.self.inside.pairs.items)

pub Members::let_go-invariant_of-self : goal.Members::let_go-invariant_of-self
Members::let_go-invariant_of-self t c =
    let at : place (keys (pairs_of c.self.inside.pairs.items)) (plain_key c.args.key.now) ≡ Some c.in-Some.place = rw c.self.view_is (sym c.in-Some.ensures.place) in
    let within : c.in-Some.place < length c.self.inside.pairs.items = omega (arith, place_lt (keys (pairs_of c.self.inside.pairs.items)) (plain_key c.args.key.now) c.in-Some.place at, length-keys c.self.inside.pairs.items) in
    let old_shallow : depth (plain_of c.index_mut.result.now.1) < 1000 =
    rw c.index_mut.ensures.value (deepest_at c.self.inside.pairs.items c.in-Some.place 1000 c.index_mut.result.now (subst (λ (n : ℕ). n < 1000) c.self.invariant.depth c.self.invariant.shallow) within) in
    let new_shallow : depth (plain_of c.let_go.new.self) < 1000 = let low = c.let_go.ensures.shallow in omega (arith, old_shallow, low) in
    indexed_changed c.self.inside.pairs.items c.self.inside.places c.self.inside.largest c.self.inside.deepest.depth c.self.inside.deepest.count c.deepest_after-self-inside.result.depth c.deepest_after-self-inside.result.count (plain_key c.args.key.now) c.let_go.new.self c.in-Some.place c.index_mut.result.now c.depth-before.result c.depth-after.result c.deref.result.now c.self.invariant at new_shallow (search rules) c.index_mut.ensures.value c.depth-before.ensures.depth c.depth-after.ensures.depth c.deref.ensures.value c.deepest_after-self-inside.ensures

pub Members::let_go-returns-in-Some-clause-writes : goal.Members::let_go-returns-in-Some-clause-writes
Members::let_go-returns-in-Some-clause-writes t c =
    let at : place (keys (pairs_of c.self.inside.pairs.items)) (plain_key c.args.key.now) ≡ Some c.in-Some.place = rw c.self.view_is (sym c.in-Some.ensures.place) in
    subst (λ (ps : Pairs). KeepsMember (plain_key c.args.key.now) (plain_path c.args.rest.now) ps (pairs_of (set c.self.inside.pairs.items c.in-Some.place (c.index_mut.result.now.0, c.let_go.new.self)))) c.self.view_is
    (released_at c.self.inside.pairs.items (plain_key c.args.key.now) c.in-Some.place c.index_mut.result.now c.let_go.new.self (plain_path c.args.rest.now) at c.index_mut.ensures.value c.let_go.ensures.writes)

pub Members::let_go-returns-in-Some-clause-shallow : goal.Members::let_go-returns-in-Some-clause-shallow
Members::let_go-returns-in-Some-clause-shallow t c =
    let at : place (keys (pairs_of c.self.inside.pairs.items)) (plain_key c.args.key.now) ≡ Some c.in-Some.place = rw c.self.view_is (sym c.in-Some.ensures.place) in
    let within : c.in-Some.place < length c.self.inside.pairs.items = omega (arith, place_lt (keys (pairs_of c.self.inside.pairs.items)) (plain_key c.args.key.now) c.in-Some.place at, length-keys c.self.inside.pairs.items) in
    let low : depth (plain_of c.let_go.new.self) ≤ depth (plain_of (get_or c.self.inside.pairs.items c.in-Some.place c.index_mut.result.now).1) = subst (λ (p : Key × Value). depth (plain_of c.let_go.new.self) ≤ depth (plain_of p.1)) c.index_mut.ensures.value c.let_go.ensures.shallow in
    subst (λ (ps : Pairs). deepest (pairs_of (set c.self.inside.pairs.items c.in-Some.place (c.index_mut.result.now.0, c.let_go.new.self))) ≤ deepest ps) c.self.view_is
    (not_deeper c.self.inside.pairs.items c.in-Some.place c.index_mut.result.now (c.index_mut.result.now.0, c.let_go.new.self) within low)
