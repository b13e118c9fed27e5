-- Ranges are made from the last byte down.
use Rattle.std.proofs.Common.{◌≡◌, ◌∙◌, ◌≤◌, ℕ, suc, Bool, true, false, List, Some, None, Result, Ok, Err, IfOk, refl, sym, ap, arith}
use Rattle.std.specs.Prelude.{◌↔◌, IsTrue, not, slice_index_or, if◌then◌else◌}
use Rattle.text_base.specs.ByteSet.{Has}
use Rattle.derivatives.specs.Expressions.{Expr, nothing, range}
use Rattle.derivatives.specs.Derivatives.{either_of}
use Rattle.derivatives.specs.Standing.{IsExpr, IsMade, Grows, expr_at}
use Rattle.derivatives.specs.declared.arena.Arena.{Arena}
use Rattle.text_base.specs.declared.memory.NoMemory.{NoMemory}
use Rattle.derivatives.proofs.BehindLemmas.{grows_on}
use Rattle.derivatives.proofs.NodeLemmas.{expr_stays}
use Rattle.byte_forms.specs.Classes.{in_class}
use Rattle.byte_forms.specs.Ranges.{ranges_below}
use Rattle.byte_forms.specs.Runs.{IsLonger, RunSoFar}
use Rattle.byte_forms.specs.declared.class.ByteClass.{ByteClass}
use Rattle.byte_forms.specs.declared.forming.Run.{Run}

same_truth : (x y : Bool) → (x ≡ true → y ≡ true) → (y ≡ true → x ≡ true) → x ≡ y
same_truth true y f g = sym (f refl)
same_truth false true f g = g refl
same_truth false false f g = refl

in_set : (set : List Bool) (b : ℕ) (t : Bool) → IsTrue t ↔ Has set b → t ≡ slice_index_or set b false
in_set set b t is = same_truth t (slice_index_or set b false) is.0 is.1

pub class_has : (class : ByteClass) (b : ℕ) (t : Bool) → class.others ≡ false → IsTrue t ↔ Has class.set b → t ≡ in_class class b
class_has class b t e is =
    in_set class.set b t is ∙ ap (λ (o : Bool). if o then not (slice_index_or class.set b false) else slice_index_or class.set b false) (sym e)

pub class_lacks : (class : ByteClass) (b : ℕ) (t : Bool) → class.others ≡ true → IsTrue t ↔ Has class.set b → not t ≡ in_class class b
class_lacks class b t e is =
    ap not (in_set class.set b t is) ∙ ap (λ (o : Bool). if o then not (slice_index_or class.set b false) else slice_index_or class.set b false) (sym e)

-- One byte more, below the others.

pub step_opened : (test : ℕ → Bool) (b : ℕ) (e : Expr) → true ≡ test b → ranges_below test (suc b) None e ≡ ranges_below test b (Some b) e
step_opened test b e h = rw (sym h) refl

pub step_longer : (test : ℕ → Bool) (b last : ℕ) (e : Expr) → true ≡ test b → ranges_below test (suc b) (Some last) e ≡ ranges_below test b (Some last) e
step_longer test b last e h = rw (sym h) refl

pub step_none : (test : ℕ → Bool) (b : ℕ) (e : Expr) → false ≡ test b → ranges_below test (suc b) None e ≡ ranges_below test b None e
step_none test b e h = rw (sym h) refl

pub step_closed : (test : ℕ → Bool) (b last : ℕ) (e : Expr) → false ≡ test b
    → ranges_below test (suc b) (Some last) e ≡ ranges_below test b None (either_of (range (suc b) last) e)
step_closed test b last e h = rw (sym h) refl

-- A range before others.

pub or_range_made : (a b c : Arena) (n form low high : ℕ) (o : Result ℕ NoMemory) → IsExpr a form → Grows a b → IsMade b n (range low high)
    → IfOk o (λ r. IsMade c r (either_of (expr_at b n) (expr_at b form))) → IfOk o (λ r. IsMade c r (either_of (range low high) (expr_at a form)))
or_range_made a b c n form low high (Ok r) is g m made =
    let stays = expr_stays a b g form is in
    record { is_expr = made.is_expr; is = made.is ∙ ap (λ (z : Expr). either_of z (expr_at b form)) m.is ∙ ap (λ (z : Expr). either_of (range low high) z) stays.is }
or_range_made a b c n form low high (Err e) is g m made = tt

-- All bytes of a class.

pub run_begun : (class : ByteClass) (bound : ℕ) (initial arena : Arena) (n : ℕ) → bound ≤ 256 → Grows initial arena → IsMade arena n nothing
    → RunSoFar class bound initial arena (record { form = n; last = None }) bound
run_begun class bound initial arena n l g m = record {
  is_expr = m.is_expr;
  grows = g;
  within = l;
  wide = tt;
  is = ap (λ (e : Expr). ranges_below (in_class class) bound None e) m.is;
}

pub run_more : (class : ByteClass) (bound : ℕ) (initial a b : Arena) (run longer : Run) (below k : ℕ) (t : Bool) → RunSoFar class bound initial a run below
    → below ≡ suc k → IsLonger t k a run b longer → Grows a b → t ≡ in_class class k → RunSoFar class bound initial b longer k
run_more class bound initial a b run longer below k t so e step g has = record {
  is_expr = step.is_expr;
  grows = grows_on initial a b so.grows g;
  within = (let w = so.within in omega (arith, e, w));
  wide = step.wide;
  is = sym (step.is (in_class class) has) ∙ ap (λ (n : ℕ). ranges_below (in_class class) n run.last (expr_at a run.form)) (sym e) ∙ so.is;
}

pub run_done : (class : ByteClass) (bound : ℕ) (initial arena : Arena) (n below : ℕ) → below ≡ 0 → RunSoFar class bound initial arena (record { form = n; last = None }) below
    → IsMade arena n (ranges_below (in_class class) bound None nothing)
run_done class bound initial arena n below e so = record {
  is_expr = so.is_expr;
  is = ap (λ (k : ℕ). ranges_below (in_class class) k None (expr_at arena n)) (sym e) ∙ so.is;
}

pub run_closed : (class : ByteClass) (bound : ℕ) (initial a b : Arena) (n last r below : ℕ) → below ≡ 0
    → RunSoFar class bound initial a (record { form = n; last = Some last }) below → IsMade b r (either_of (range 0 last) (expr_at a n))
    → IsMade b r (ranges_below (in_class class) bound None nothing)
run_closed class bound initial a b n last r below e so made = record {
  is_expr = made.is_expr;
  is = made.is ∙ ap (λ (k : ℕ). ranges_below (in_class class) k (Some last) (expr_at a n)) (sym e) ∙ so.is;
}
