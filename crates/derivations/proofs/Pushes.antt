-- One node more.
use Rattle.std.proofs.Common.{◌≡◌, ℕ, zero, suc, ◌+◌, ◌<◌, ◌≤◌, ◌⊎◌, inl, inr, true, List, [], ◌∷◌, ◌++◌, length, min, Some, Result, Ok, Err, refl, sym, ◌∙◌, ap, subst, arith, slice_get}
use Rattle.std.specs.Prelude.{IsTrue, OnOk, OnErr}
use Rattle.std.specs.Cmp.{first_so, second_so}
use Rattle.std.proofs.lemmas.Bool.{ltb-true}
use Rattle.derivations.specs.declared.node.Part.{Part}
use Rattle.derivations.specs.declared.node.Part.TheVariants.{Byte, Token, Inner}
use Rattle.derivations.specs.declared.node.Parts.{Parts}
use Rattle.derivations.specs.declared.node.Parts.TheVariants.{Empty, One, Two}
use Rattle.derivations.specs.declared.node.Node.{Node}
use Rattle.derivations.specs.Nodes.{most, length_of, part_length, parts_length, part_below, parts_below}
use Rattle.derivations.specs.Lawful.{AreLawful}

get_before : (xs ys : List Node) (m : ℕ) → m < length xs → slice_get (xs ++ ys) m ≡ slice_get xs m
get_before [] ys m h = absurd (omega (arith, h))
get_before (x ∷ xs) ys zero h = refl
get_before (x ∷ xs) ys (suc m) h = get_before xs ys m (omega (arith, h))

get_cases : (xs : List Node) (x : Node) (n : ℕ) (y : Node) → slice_get (xs ++ x ∷ []) n ≡ Some y → ((n < length xs) × (slice_get xs n ≡ Some y)) ⊎ ((n ≡ length xs) × (x ≡ y))
get_cases [] x zero y e = let same : x ≡ y = cc in inr (refl, same)
get_cases [] x (suc n) y e = cc
get_cases (z ∷ xs) x zero y e = inl (omega arith, e)
get_cases (z ∷ xs) x (suc n) y e = elim (get_cases xs x n y e) [
  | inl k ↦ inl (omega (arith, k.0), k.1)
  | inr k ↦ inr (omega (arith, k.0), k.1)
]

part_same : (xs ys : List Node) (n : ℕ) (p : Part) → n ≤ length xs → part_below n p ≡ true → part_length (xs ++ ys) p ≡ part_length xs p
part_same xs ys n (Byte b) h k = refl
part_same xs ys n (Token t) h k = refl
part_same xs ys n (Inner m) h k = let l = ltb-true m n k in ap length_of (get_before xs ys m (omega (arith, h, l)))

parts_same : (xs ys : List Node) (n : ℕ) (p : Parts) → n ≤ length xs → parts_below n p ≡ true → parts_length (xs ++ ys) p ≡ parts_length xs p
parts_same xs ys n Empty h k = refl
parts_same xs ys n (One a) h k = part_same xs ys n a h k
parts_same xs ys n (Two a b) h k =
    ap (λ (l : ℕ). min (l + part_length (xs ++ ys) b) most) (part_same xs ys n a h (first_so (part_below n a) (part_below n b) k))
    ∙ ap (λ (l : ℕ). min (part_length xs a + l) most) (part_same xs ys n b h (second_so (part_below n a) (part_below n b) k))

pub grown : (old : List Node) (production : ℕ) (parts : Parts) → AreLawful old → IsTrue (parts_below (length old) parts) → AreLawful (old ++ (record { production = production; parts = parts; length = parts_length old parts }) ∷ [])
grown old production parts lawful below =
    record {
      before = λ n y e. elim (get_cases old last n y e) [
        | inl k ↦ lawful.before n y k.1
        | inr k ↦ subst (λ (z : Node). IsTrue (parts_below n z.parts)) k.1 (subst (λ (m : ℕ). parts_below m parts ≡ true) (sym k.0) below)
      ];
      lengths = λ n y e. elim (get_cases old last n y e) [
        | inl k ↦ lawful.lengths n y k.1 ∙ sym (parts_same old (last ∷ []) n y.parts (omega (arith, k.0)) (lawful.before n y k.1))
        | inr k ↦ subst (λ (z : Node). z.length ≡ parts_length (old ++ last ∷ []) z.parts) k.1 (sym (parts_same old (last ∷ []) (length old) parts (omega arith) below))
      ];
    }
  where
    last : Node
    last = record { production = production; parts = parts; length = parts_length old parts }

pub pushed : {E : Type 0} (r : Result (Unit {0}) E) (old new : List Node) (production length' : ℕ) (parts : Parts) → AreLawful old → IsTrue (parts_below (length old) parts) → length' ≡ parts_length old parts → OnOk r (new ≡ old ++ (record { production = production; parts = parts; length = length' }) ∷ []) → OnErr r (new ≡ old) → AreLawful new
pushed (Ok x) old new production l parts lawful below e ok err =
    subst AreLawful (sym (ok ∙ ap (λ (k : ℕ). old ++ (record { production = production; parts = parts; length = k }) ∷ []) e)) (grown old production parts lawful below)
pushed (Err x) old new production l parts lawful below e ok err = subst AreLawful (sym err) lawful
