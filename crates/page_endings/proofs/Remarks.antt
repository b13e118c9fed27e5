-- Comments, sections and instructions end.
use Rattle.std.proofs.Common.{◌≡◌, ℕ, zero, suc, Bool, true, false, List, [], ◌∷◌, ◌++◌, Option, Some, None, refl, ap, arith, length, length-append}
use Rattle.std.specs.Prelude.{if◌then◌else◌, nat_le, ◌&&◌}
use Rattle.std.proofs.lemmas.Bool.Decides.{nat_tests}
use Rattle.text_base.specs.declared.page_token.PageToken.{PageToken}
use Rattle.text_base.specs.declared.page_token.PageToken.TheVariants as token
use Rattle.dtd_model.specs.Table.{Table}
use Rattle.page_model.specs.Places.{Place, at_beginning, behind_mark, behind}
use Rattle.piece_steps.specs.Readers.{go, done}
use Rattle.page_model.specs.Fronts.{nothing, in_comment, in_section, in_target, behind_target, in_instruction, reserved}
use Rattle.page_steps.specs.PageSteps.{OpenMove, open_move}
use Rattle.page_endings.specs.Laws.{Ends}
use Rattle.page_endings.proofs.Going.{if_true, if_false, goes, ended}

module _ (table : Table) where
  pub nothing_ends : Ends table nothing
  nothing_ends = ended table nothing 97 refl at
    where
      at : (place : Place) → (next : Place) × (tokens : List PageToken) × (open_move table place nothing 97 ≡ done next tokens)
      at at_beginning = (behind 0, token.Text ∷ [], refl)
      at behind_mark = (behind 0, token.Text ∷ [], refl)
      at (behind k) = (behind 0, token.Text ∷ [], refl)

  -- behind two dashes
  closed : (dashes : ℕ) → nat_le 2 dashes ≡ true → Ends table (in_comment dashes)
  closed dashes h = ended table (in_comment dashes) 62 refl (λ place. (behind 0, token.Misc ∷ [], if_true (nat_le 2 dashes) _ _ h))

  dash : (dashes : ℕ) → nat_le 2 dashes ≡ false → Ends table (in_comment (suc dashes)) → Ends table (in_comment dashes)
  dash dashes h e = goes table (in_comment dashes) (in_comment (suc dashes)) 45 refl (λ place. if_false (nat_le 2 dashes) _ _ h) e

  pub comment_ends : (dashes : ℕ) → Ends table (in_comment dashes)
  comment_ends zero = dash 0 refl (dash 1 refl (closed 2 refl))
  comment_ends (suc zero) = dash 1 refl (closed 2 refl)
  comment_ends (suc (suc n)) = closed (suc (suc n)) large
    where
      large : nat_le 2 (suc (suc n)) ≡ true
      large = grind (arith, nat_tests)

  bracket : (brackets g : ℕ) → ((place : Place) → open_move table place (in_section brackets) 93 ≡ go (in_section g)) → Ends table (in_section g) → Ends table (in_section brackets)
  bracket brackets g e h = goes table (in_section brackets) (in_section g) 93 refl e h

  two : Ends table (in_section 2)
  two = ended table (in_section 2) 62 refl (λ place. (behind 0, token.Text ∷ [], refl))

  one : Ends table (in_section 1)
  one = bracket 1 2 (λ place. refl) two

  pub section_ends : (brackets : ℕ) → Ends table (in_section brackets)
  section_ends brackets = goes table (in_section brackets) (in_section 0) 97 refl (λ place. refl) (bracket 0 1 (λ place. refl) one)

  pub instruction_ends : (asked : Bool) → Ends table (in_instruction asked)
  instruction_ends asked =
      goes table (in_instruction asked) (in_instruction true) 63 refl (λ place. refl)
      (ended table (in_instruction true) 62 refl (λ place. (behind 0, token.Misc ∷ [], refl)))

  pub behind_target_ends : Ends table behind_target
  behind_target_ends = ended table behind_target 62 refl (λ place. (behind 0, token.Misc ∷ [], refl))

  other_target : Ends table (in_target None)
  other_target = goes table (in_target None) behind_target 63 refl (λ place. refl) behind_target_ends

  and_false : (b : Bool) → (b && false) ≡ false
  and_false true = refl
  and_false false = refl

  -- a target that ends in `a` is not `xml`
  not_reserved : (target : List ℕ) → reserved (target ++ 97 ∷ []) ≡ None
  not_reserved [] = refl
  not_reserved (x ∷ []) = by _
    where
      by : (b : Bool) → (if (b && false) then Some (x ∷ 97 ∷ []) else None) ≡ None
      by b = if_false (b && false) (Some (x ∷ 97 ∷ [])) None (and_false b)
  not_reserved (x ∷ y ∷ []) = by _ _
    where
      by : (a b : Bool) → (if (a && (b && false)) then Some (x ∷ y ∷ 97 ∷ []) else None) ≡ None
      by true true = refl
      by true false = refl
      by false b = refl
  not_reserved (x ∷ y ∷ z ∷ target) = by (nat_le (length (x ∷ y ∷ z ∷ (target ++ 97 ∷ []))) 3) long _
    where
      long : nat_le (length (x ∷ y ∷ z ∷ (target ++ 97 ∷ []))) 3 ≡ false
      long = let l = length-append target (97 ∷ []) in grind (arith, nat_tests)

      by : (a : Bool) → a ≡ false → (b : Bool) → (if (a && b) then Some (x ∷ y ∷ z ∷ (target ++ 97 ∷ [])) else None) ≡ None
      by true q b = cc
      by false q b = refl

  pub target_ends : (o : Option (List ℕ)) → Ends table (in_target o)
  target_ends None = goes table (in_target None) (in_target None) 97 refl (λ place. refl) other_target
  target_ends (Some []) = goes table (in_target (Some [])) (in_target None) 97 refl (λ place. refl) other_target
  target_ends (Some (t ∷ target)) =
      goes table (in_target (Some (t ∷ target))) (in_target None) 97 refl
      (λ place. ap (λ (o : Option (List ℕ)). let m : OpenMove = go (in_target o) in m) (not_reserved (t ∷ target))) other_target
