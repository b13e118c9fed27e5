use Rattle.std.proofs.Common.{rules, ◌≡◌, ◌<◌, length, arith, ap, sym, subst, get_or}
use Rattle.std.proofs.lemmas.Bool.Decides.{nat_tests}
use Rattle.plain_values.specs.Plain.{weight_of}
use Rattle.php_values.specs.View.{plain_of}
use Rattle.php_values.specs.declared.key.Key.{Key}
use Rattle.php_values.specs.declared.array.Value.{Value}
use Rattle.value_operations.proofs.SameLemmas.{same_length, weight_at, Alike, alike_at, alike_step}
use Rattle.value_operations.proofs.identity.+same.Goals as goal

pub same_pairs-returns-then-a-b : goal.same_pairs-returns-then-a-b
same_pairs-returns-then-a-b t c = (λ h. grind arith, λ e. let l : length c.args.a.now ≡ length c.args.b.now = same_length c.args.a.now c.args.b.now e in grind (arith, nat_tests))

pub same_pairs-same_pair-requires : goal.same_pairs-same_pair-requires
same_pairs-same_pair-requires t c =
    let w : weight_of (plain_of (get_or c.args.a.now c.loop-place.place c.index-a-place.result).1) < _ = weight_at c.args.a.now c.loop-place.place c.index-a-place.result c.loop-place-test.true in
    let e = ap (λ (p : Key × Value). weight_of (plain_of p.1)) c.index-a-place.is in
    (omega (arith, w, e, c.decreases), tt)

pub same_pairs-returns-then-not-same_pair : goal.same_pairs-returns-then-not-same_pair
same_pairs-returns-then-not-same_pair t c = (
  λ h. grind arith,
  λ e.
      let a = alike_at c.args.a.now c.args.b.now c.loop-place.place c.index-a-place.result c.index-b-place.result e c.loop-place-test.true in
      c.if-not-same_pair.ensures.1
      (subst (λ (x : Key × Value). Alike x c.index-b-place.result) (sym c.index-a-place.is)
      (subst (λ (y : Key × Value). Alike (get_or c.args.a.now c.loop-place.place c.index-a-place.result) y) (sym c.index-b-place.is) a)),
)

pub same_pairs-loop-place-preserved : goal.same_pairs-loop-place-preserved
same_pairs-loop-place-preserved t c =
    alike_step c.args.a.now c.args.b.now c.loop-place.place c.index-a-place.result c.index-b-place.result c.loop-place.invariant c.loop-place-test.true (omega arith)
    (subst (λ (x : Key × Value). Alike x (get_or c.args.b.now c.loop-place.place c.index-b-place.result)) c.index-a-place.is
    (subst (λ (y : Key × Value). Alike c.index-a-place.result y) c.index-b-place.is
    (c.if-not-same_pair.ensures.0 (search rules))))
