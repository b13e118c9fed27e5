-- Rows of so many slots.
use Rattle.std.proofs.Common.{◌≡◌, List, [], ◌∷◌, length, map, get_or, sym, ap, arith}
use Rattle.text_base.specs.declared.numbers.Slot.{Slot}
use Rattle.flow_code.specs.View.{slot_number}

pub one_slot : (xs : List Slot) (a : Slot) → length xs ≡ 1 → a ≡ get_or xs 0 a → map slot_number xs ≡ a.0 ∷ []
one_slot [] a n p = absurd (omega arith)
one_slot (x ∷ []) a n p = ap (λ (y : Slot). y.0 ∷ []) (sym p)
one_slot (x ∷ y ∷ xs) a n p = absurd (omega arith)

pub two_slots : (xs : List Slot) (a b : Slot) → length xs ≡ 2 → a ≡ get_or xs 0 a → b ≡ get_or xs 1 b → map slot_number xs ≡ a.0 ∷ b.0 ∷ []
two_slots [] a b n p q = absurd (omega arith)
two_slots (x ∷ []) a b n p q = absurd (omega arith)
two_slots (x ∷ y ∷ []) a b n p q = λ i. (sym p i).0 ∷ (sym q i).0 ∷ []
two_slots (x ∷ y ∷ z ∷ xs) a b n p q = absurd (omega arith)

pub three_slots : (xs : List Slot) (a b c : Slot) → length xs ≡ 3 → a ≡ get_or xs 0 a → b ≡ get_or xs 1 b → c ≡ get_or xs 2 c → map slot_number xs ≡ a.0 ∷ b.0 ∷ c.0 ∷ []
three_slots [] a b c n p q r = absurd (omega arith)
three_slots (x ∷ []) a b c n p q r = absurd (omega arith)
three_slots (x ∷ y ∷ []) a b c n p q r = absurd (omega arith)
three_slots (x ∷ y ∷ z ∷ []) a b c n p q r = λ i. (sym p i).0 ∷ (sym q i).0 ∷ (sym r i).0 ∷ []
three_slots (x ∷ y ∷ z ∷ w ∷ xs) a b c n p q r = absurd (omega arith)
