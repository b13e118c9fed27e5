use Rattle.std.proofs.Common.{rules, ◌≡◌, inr, ◌<◌, ℕ, Some, Ok, sym, ◌∙◌, ap, subst, length, arith}
use Rattle.std.proofs.lemmas.Result.{err_from_is_err_and}
use Rattle.plain_values.specs.Plain.{Pairs, null, array, keys, depth}
use Rattle.php_values.specs.View.{plain_of, plain_key, pairs_of, plain_path}
use Rattle.plain_values.specs.Members.{put_pair}
use Rattle.php_values.specs.Writes.{write_if}
use Rattle.php_values.specs.Index.{place}
use Rattle.php_values.specs.declared.key.Key.{Key}
use Rattle.php_values.proofs.Places.{length-keys, place_lt, deepest_at}
use Rattle.php_values.proofs.IndexLemmas.{indexed_changed}
use Rattle.php_values.proofs.WriteLemmas.{null_shut, changed_at, fault_at, changed_new, fault_new, written_fits}
use Rattle.php_values.proofs.array.+write.Goals as goal

pub Value::write_if-returns-then-not-fits-2-clause-err : goal.Value::write_if-returns-then-not-fits-2-clause-err
Value::write_if-returns-then-not-fits-2-clause-err t c =
    inr (null_shut c.args.fits (plain_path c.args.path.now) (plain_of c.args.new) (plain_of c.args.self.now) c.if-not-fits-2.true (ap plain_of c.in-Null.is))

pub Members::write-index_mut-requires : goal.Members::write-index_mut-requires
Members::write-index_mut-requires t c =
    let at : place (keys (pairs_of c.self.inside.pairs.items)) (plain_key c.args.key.now) ≡ Some c.in-Some.place = rw c.self.view_is (sym c.in-Some.ensures.place) in
    omega (arith, place_lt (keys (pairs_of c.self.inside.pairs.items)) (plain_key c.args.key.now) c.in-Some.place at, length-keys c.self.inside.pairs.items)

pub Members::write-invariant_of-self-in-Some : goal.Members::write-invariant_of-self-in-Some
Members::write-invariant_of-self-in-Some t c =
    let at : place (keys (pairs_of c.self.inside.pairs.items)) (plain_key c.args.key.now) ≡ Some c.in-Some.place = rw c.self.view_is (sym c.in-Some.ensures.place) in
    let within : c.in-Some.place < length c.self.inside.pairs.items = omega (arith, place_lt (keys (pairs_of c.self.inside.pairs.items)) (plain_key c.args.key.now) c.in-Some.place at, length-keys c.self.inside.pairs.items) in
    let old_shallow : depth (plain_of c.index_mut.result.now.1) < 1000 =
    rw c.index_mut.ensures.value (deepest_at c.self.inside.pairs.items c.in-Some.place 1000 c.index_mut.result.now (subst (λ (n : ℕ). n < 1000) c.self.invariant.depth c.self.invariant.shallow) within) in
    let new_shallow : depth (plain_of c.write_if.new.self) < 1000 = written_fits c.args.fits (plain_path c.args.rest.now) (plain_of c.args.new) (plain_of c.index_mut.result.now.1) (plain_of c.write_if.new.self) c.requires old_shallow c.in_ok-write_if-in-Some.ensures.ok in
    indexed_changed c.self.inside.pairs.items c.self.inside.places c.self.inside.largest c.self.inside.deepest.depth c.self.inside.deepest.count c.deepest_after-self-inside.result.depth c.deepest_after-self-inside.result.count (plain_key c.args.key.now) c.write_if.new.self c.in-Some.place c.index_mut.result.now c.depth-before.result c.depth-after.result c.deref.result.now c.self.invariant at new_shallow (search rules) c.index_mut.ensures.value c.depth-before.ensures.depth c.depth-after.ensures.depth c.deref.ensures.value c.deepest_after-self-inside.ensures

pub Members::write-returns-in_ok-write_if-in-Some-clause-ok : goal.Members::write-returns-in_ok-write_if-in-Some-clause-ok
Members::write-returns-in_ok-write_if-in-Some-clause-ok t c =
    let at : place (keys (pairs_of c.self.inside.pairs.items)) (plain_key c.args.key.now) ≡ Some c.in-Some.place = rw c.self.view_is (sym c.in-Some.ensures.place) in
    rw (← c.self.view_is) (changed_at c.self.inside.pairs.items (plain_key c.args.key.now) c.in-Some.place c.index_mut.result.now c.write_if.new.self (write_if c.args.fits (plain_path c.args.rest.now) (plain_of c.args.new)) at c.index_mut.ensures.value c.in_ok-write_if-in-Some.ensures.ok)

pub Members::write-returns-in_err-write_if-in-Some-clause-err : goal.Members::write-returns-in_err-write_if-in-Some-clause-err
Members::write-returns-in_err-write_if-in-Some-clause-err t c =
    let at : place (keys (pairs_of c.self.inside.pairs.items)) (plain_key c.args.key.now) ≡ Some c.in-Some.place = rw c.self.view_is (sym c.in-Some.ensures.place) in
    let p = err_from_is_err_and c.from_residual.result c.from_residual.ensures.1 in
    rw (p.1, p.2, ← c.self.view_is)
    (fault_at c.self.inside.pairs.items (plain_key c.args.key.now) c.in-Some.place c.index_mut.result.now c.in_err-write_if-in-Some.field-0.0 (write_if c.args.fits (plain_path c.args.rest.now) (plain_of c.args.new)) at c.index_mut.ensures.value c.in_err-write_if-in-Some.ensures.err)

pub Members::write-add-requires-clause-shallow : goal.Members::write-add-requires-clause-shallow
Members::write-add-requires-clause-shallow t c = written_fits c.args.fits (plain_path c.args.rest.now) (plain_of c.args.new) null (plain_of c.write_if-in-None.new.self) c.requires (omega arith) c.in_ok-write_if-in-None.ensures.ok

pub Members::write-returns-in_ok-add-in-None-clause-ok : goal.Members::write-returns-in_ok-add-in-None-clause-ok
Members::write-returns-in_ok-add-in-None-clause-ok t c =
    changed_new c.args.self.now (plain_key c.args.key.now) (plain_of c.write_if-in-None.new.self) (write_if c.args.fits (plain_path c.args.rest.now) (plain_of c.args.new)) (sym c.in-None.ensures.place) c.in_ok-write_if-in-None.ensures.ok
    ∙ ap (λ (ps : Pairs). Ok (array ps)) (sym (c.in_ok-add-in-None.ensures.ok ∙ ap (λ (k : Key). put_pair c.args.self.now (plain_key k) (plain_of c.write_if-in-None.new.self)) c.in_ok-share-in-None.ensures))

pub Members::write-returns-in_err-write_if-in-None-clause-err : goal.Members::write-returns-in_err-write_if-in-None-clause-err
Members::write-returns-in_err-write_if-in-None-clause-err t c =
    let p = err_from_is_err_and c.from_residual-in_err-write_if-in-None.result c.from_residual-in_err-write_if-in-None.ensures.1 in
    rw (p.1, p.2) (fault_new c.args.self.now (plain_key c.args.key.now) c.in_err-write_if-in-None.field-0.0 (write_if c.args.fits (plain_path c.args.rest.now) (plain_of c.args.new)) (sym c.in-None.ensures.place) c.in_err-write_if-in-None.ensures.err)
