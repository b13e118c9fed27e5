-- Expressions of patterns, in an arena that grows.
use Rattle.std.proofs.Common.{◌≡◌, ◌∙◌, ℕ, Bool, List, None, Result, Ok, Err, IfOk, refl, sym, ap, subst}
use Rattle.std.specs.Prelude.{◌↔◌}
use Rattle.derivatives.specs.Expressions.{Expr, nothing, empty, star, Matches}
use Rattle.derivatives.specs.Derivatives.{chain_of, either_of}
use Rattle.derivatives.specs.Standing.{IsExpr, IsMade, Grows, expr_at}
use Rattle.derivatives.specs.declared.arena.Arena.{Arena}
use Rattle.text_base.specs.declared.memory.NoMemory.{NoMemory}
use Rattle.derivatives.proofs.NodeLemmas.{expr_stays}
use Rattle.byte_forms.specs.Classes.{in_class}
use Rattle.byte_forms.specs.Ranges.{ranges_below}
use Rattle.byte_forms.specs.declared.class.ByteClass.{ByteClass}
use Rattle.byte_forms.proofs.ByteLemmas.{ranges_alike}
use Rattle.page_policy.specs.Patterns.{Pattern, byte_of, void, seq, alt, any, some, maybe, is_meant}
use Rattle.page_policy.specs.Forms.{byte_form, form_of, IsForm}
use Rattle.page_policy.specs.Machine.{repeated}
use Rattle.page_policy.specs.Views.{IsClass}
use Rattle.page_policy.specs.declared.part.Repeat.{Repeat}
use Rattle.page_policy.specs.declared.part.Repeat.TheVariants.{Any, AtLeastOnce, AtMostOnce}
use Rattle.page_policy.proofs.FitLemmas.{class_meant}

-- what is made stays
pub made_on : (a b : Arena) (n : ℕ) (p : Pattern) → Grows a b → IsForm a n p → IsForm b n p
made_on a b n p g m =
    let s = expr_stays a b g n m.is_expr in
    record { is_expr = s.is_expr; is = s.is ∙ m.is }

pub void_form : (a : Arena) (n : ℕ) → IsMade a n empty → IsForm a n void
void_form a n m = m

pub seq_form : (a b : Arena) (x y r : ℕ) (p q : Pattern) → IsForm a x p → IsForm a y q → IsMade b r (chain_of (expr_at a x) (expr_at a y)) → IsForm b r (seq p q)
seq_form a b x y r p q f g m = record {
  is_expr = m.is_expr;
  is = m.is ∙ ap (λ (z : Expr). chain_of z (expr_at a y)) f.is ∙ ap (λ (z : Expr). chain_of (form_of p) z) g.is;
}

pub alt_form : (a b : Arena) (x y r : ℕ) (p q : Pattern) → IsForm a x p → IsForm a y q → IsMade b r (either_of (expr_at a x) (expr_at a y)) → IsForm b r (alt p q)
alt_form a b x y r p q f g m = record {
  is_expr = m.is_expr;
  is = m.is ∙ ap (λ (z : Expr). either_of z (expr_at a y)) f.is ∙ ap (λ (z : Expr). either_of (form_of p) z) g.is;
}

pub any_form : (a b : Arena) (x r : ℕ) (p : Pattern) → IsForm a x p → IsMade b r (star (expr_at a x)) → IsForm b r (any p)
any_form a b x r p f m = record { is_expr = m.is_expr; is = m.is ∙ ap star f.is }

pub some_form : (a b : Arena) (x y r : ℕ) (p : Pattern) → IsForm a x p → IsForm a y (any p) → IsMade b r (chain_of (expr_at a x) (expr_at a y)) → IsForm b r (some p)
some_form a b x y r p f g m = record {
  is_expr = m.is_expr;
  is = m.is ∙ ap (λ (z : Expr). chain_of z (expr_at a y)) f.is ∙ ap (λ (z : Expr). chain_of (form_of p) z) g.is;
}

pub maybe_form : (a b : Arena) (x y r : ℕ) (p : Pattern) → IsForm a x void → IsForm a y p → IsMade b r (either_of (expr_at a x) (expr_at a y)) → IsForm b r (maybe p)
maybe_form a b x y r p f g m = record {
  is_expr = m.is_expr;
  is = m.is ∙ ap (λ (z : Expr). either_of z (expr_at a y)) f.is ∙ ap (λ (z : Expr). either_of empty z) g.is;
}

pub byte_form_made : (a : Arena) (n : ℕ) (class : ByteClass) (out : Bool) (rs : List (ℕ × ℕ)) → IsMade a n (ranges_below (in_class class) 256 None nothing)
    → IsClass class out rs → IsForm a n (byte_of out rs)
unfolding byte_form
byte_form_made a n class out rs m is = record {
  is_expr = m.is_expr;
  is = m.is ∙ ranges_alike (in_class class) (is_meant out rs) 256 None nothing (class_meant class out rs is);
}

-- What is made, where memory is left.

pub made_is_expr : (a : Arena) (x : Expr) (o : Result ℕ NoMemory) → IfOk o (λ n. IsMade a n x) → IfOk o (λ n. IsExpr a n)
made_is_expr a x (Ok n) m = m.is_expr
made_is_expr a x (Err e) m = tt

pub byte_made : (a : Arena) (class : ByteClass) (o : Result ℕ NoMemory) → IfOk o (λ n. IsMade a n (ranges_below (in_class class) 256 None nothing))
    → IfOk o (λ n. (out : Bool) (rs : List (ℕ × ℕ)) → IsClass class out rs → IsForm a n (byte_of out rs))
byte_made a class (Ok n) m = λ out rs is. byte_form_made a n class out rs m is
byte_made a class (Err e) m = tt

pub any_made : (a b : Arena) (x : ℕ) (r : Repeat) (o : Result ℕ NoMemory) → r ≡ Any → IfOk o (λ n. IsMade b n (star (expr_at a x)))
    → IfOk o (λ n. (p : Pattern) → IsForm a x p → IsForm b n (repeated r p))
any_made a b x r (Ok n) is m = λ p f. subst (λ (q : Repeat). IsForm b n (repeated q p)) (sym is) (any_form a b x n p f m)
any_made a b x r (Err e) is m = tt

pub some_made : (a b c : Arena) (x y : ℕ) (r : Repeat) (o : Result ℕ NoMemory) → r ≡ AtLeastOnce → Grows a b → IsMade b y (star (expr_at a x))
    → IfOk o (λ n. IsMade c n (chain_of (expr_at b x) (expr_at b y))) → IfOk o (λ n. (p : Pattern) → IsForm a x p → IsForm c n (repeated r p))
some_made a b c x y r (Ok n) is g more m = λ p f.
    subst (λ (q : Repeat). IsForm c n (repeated q p)) (sym is) (some_form b c x y n p (made_on a b x p g f) (any_form a b x y p f more) m)
some_made a b c x y r (Err e) is g more m = tt

pub maybe_made : (a b c : Arena) (x y : ℕ) (r : Repeat) (o : Result ℕ NoMemory) → r ≡ AtMostOnce → Grows a b → IsMade b x empty
    → IfOk o (λ n. IsMade c n (either_of (expr_at b x) (expr_at b y))) → IfOk o (λ n. (p : Pattern) → IsForm a y p → IsForm c n (repeated r p))
maybe_made a b c x y r (Ok n) is g none m = λ p f.
    subst (λ (q : Repeat). IsForm c n (repeated q p)) (sym is) (maybe_form b c x y n p (void_form b x none) (made_on a b y p g f) m)
maybe_made a b c x y r (Err e) is g none m = tt
