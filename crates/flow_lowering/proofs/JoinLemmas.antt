-- The code of a join by the number of its parts.
use Rattle.std.proofs.Common.{◌≡◌, ℕ, List, [], ◌∷◌, ◌++◌, length, refl, sym, subst, arith, Result, Ok, Err, IfOk}
use Rattle.text_base.specs.declared.numbers.Slot.{Slot}
use Rattle.php_syntax.specs.declared.tree.Expr.{Expr}
use Rattle.php_syntax.specs.Trees.{exprs_of}
use Rattle.plain_values.specs.Plain.{text}
use Rattle.flow_code.specs.Points.{concat_source}
use Rattle.flow_code.specs.Code.{Code, both, computed}
use Rattle.flow_code.specs.Expressions.{literal, join_code}
use Rattle.flow_lowering.specs.Emits.{Progress, Emits}

lone_code : (es : List Expr) (a : Code (List ℕ)) → length es ≡ 1 → join_code (exprs_of es) a ≡ computed (both a (literal (text [])) (λ (xs : List ℕ) (x : ℕ). xs ++ x ∷ [])) concat_source
unfolding join_code
lone_code [] a e = absurd (omega (arith, e))
lone_code (x ∷ []) a e = refl
lone_code (x ∷ y ∷ es) a e = absurd (omega (arith, e))

other_code : (es : List Expr) (a : Code (List ℕ)) → (length es ≡ 1 → ⊥) → join_code (exprs_of es) a ≡ computed a concat_source
unfolding join_code
other_code [] a e = refl
other_code (x ∷ []) a e = absurd (e refl)
other_code (x ∷ y ∷ es) a e = refl

-- the end of a join, by what it leaves behind the code of its parts
abbrev pub Finishes : Progress → Progress → List ℕ → (Code (List ℕ) → Code ℕ) → Slot → Type 0
Finishes old new slots code slot = (start : Progress) (all : Code (List ℕ)) → Emits start old all slots → Emits start new (code all) slot.0

finishes_as : (old new : Progress) (slots : List ℕ) (code code' : Code (List ℕ) → Code ℕ) (slot : Slot) → ((a : Code (List ℕ)) → code' a ≡ code a) → Finishes old new slots code slot → Finishes old new slots code' slot
finishes_as old new slots code code' slot same h start all k = subst (λ (c : Code ℕ). Emits start new c slot.0) (sym (same all)) (h start all k)

pub lone_finishes : {E : Type 0} (old new : Progress) (slots : List ℕ) (es : List Expr) (r : Result Slot E) → length es ≡ 1 → IfOk r (Finishes old new slots (λ a. computed (both a (literal (text [])) (λ (xs : List ℕ) (x : ℕ). xs ++ x ∷ [])) concat_source)) → IfOk r (Finishes old new slots (join_code (exprs_of es)))
lone_finishes old new slots es (Ok slot) e h = finishes_as old new slots _ (join_code (exprs_of es)) slot (λ a. lone_code es a e) h
lone_finishes old new slots es (Err fault) e h = h

pub other_finishes : {E : Type 0} (old new : Progress) (slots : List ℕ) (es : List Expr) (r : Result Slot E) → (length es ≡ 1 → ⊥) → IfOk r (Finishes old new slots (λ a. computed a concat_source)) → IfOk r (Finishes old new slots (join_code (exprs_of es)))
other_finishes old new slots es (Ok slot) e h = finishes_as old new slots _ (join_code (exprs_of es)) slot (λ a. other_code es a e) h
other_finishes old new slots es (Err fault) e h = h
