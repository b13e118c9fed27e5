-- Pieces are cut at the leftmost occurrences.
use Rattle.std.proofs.Common.{◌≡◌, ℕ, zero, suc, ◌-◌, ◌≤◌, false, List, [], ◌∷◌, ◌++◌, length, nat_eq, refl, sym, ◌∙◌, ap, subst, inl, inr, arith}
use Rattle.std.specs.List.{starts_with}
use Rattle.std.proofs.lemmas.Bool.{cases_Bool, both_ways}
use Rattle.std.proofs.lemmas.List.{append_cancel_left}
use Rattle.string_functions.specs.Pieces.{pieces_past, join_of}
use Rattle.string_functions.specs.Leftmost.{OccursFrom, AreLeftmost}
use Rattle.string_functions.proofs.PiecesLaws.{starts_with-append, pieces_past-cons, join_of-pieces_past}

-- where the bytes do not stand at the front, they stand nowhere before the place behind it
begins_later : (c : ℕ) (sep : List ℕ) (b : ℕ) (rest : List ℕ) (place : ℕ) → starts_with nat_eq (b ∷ rest) (c ∷ sep) ≡ false → OccursFrom (c ∷ sep) rest place → OccursFrom (c ∷ sep) (b ∷ rest) (suc place)
begins_later c sep b rest place away from [] after e =
    absurd (both_ways (starts_with nat_eq (b ∷ rest) (c ∷ sep)) away (ap (λ (text : List ℕ). starts_with nat_eq text (c ∷ sep)) e ∙ starts_with-append (c ∷ sep) after))
begins_later c sep b rest place away from (x ∷ before) after e =
    let below : rest ≡ before ++ ((c ∷ sep) ++ after) = cc in
    let h = from before after below in
    omega (arith, h)

stands_nowhere : (c : ℕ) (sep : List ℕ) (b : ℕ) (rest : List ℕ) → starts_with nat_eq (b ∷ rest) (c ∷ sep) ≡ false → AreLeftmost (c ∷ sep) (rest ∷ []) → AreLeftmost (c ∷ sep) ((b ∷ rest) ∷ [])
stands_nowhere c sep b rest away none [] after e =
    both_ways (starts_with nat_eq (b ∷ rest) (c ∷ sep)) away (ap (λ (text : List ℕ). starts_with nat_eq text (c ∷ sep)) e ∙ starts_with-append (c ∷ sep) after)
stands_nowhere c sep b rest away none (x ∷ before) after e =
    let below : rest ≡ before ++ ((c ∷ sep) ++ after) = cc in none before after below

-- a byte in front of which the separator does not begin
AreLeftmost-in_first : (c : ℕ) (sep : List ℕ) (b : ℕ) (rest first : List ℕ) (others : List (List ℕ)) → join_of (c ∷ sep) (first ∷ others) ≡ rest → starts_with nat_eq (b ∷ rest) (c ∷ sep) ≡ false → AreLeftmost (c ∷ sep) (first ∷ others) → AreLeftmost (c ∷ sep) ((b ∷ first) ∷ others)
AreLeftmost-in_first c sep b rest first [] is away h = stands_nowhere c sep b first (subst (λ (text : List ℕ). starts_with nat_eq (b ∷ text) (c ∷ sep) ≡ false) (sym is) away) h
AreLeftmost-in_first c sep b rest first (next ∷ others) is away h =
    (begins_later c sep b (join_of (c ∷ sep) (first ∷ next ∷ others)) (length first) (subst (λ (text : List ℕ). starts_with nat_eq (b ∷ text) (c ∷ sep) ≡ false) (sym is) away) h.0, h.1)

pub AreLeftmost-pieces_past : (c : ℕ) (sep : List ℕ) (left : ℕ) (text : List ℕ) → AreLeftmost (c ∷ sep) (pieces_past (c ∷ sep) left text)
AreLeftmost-pieces_past c sep left [] = λ before after e. nothing before after e
  where
    nothing : (before after : List ℕ) → [] ≡ before ++ ((c ∷ sep) ++ after) → ⊥
    nothing [] after e = cc
    nothing (x ∷ before) after e = cc
AreLeftmost-pieces_past c sep (suc left) (b ∷ rest) = AreLeftmost-pieces_past c sep left rest
AreLeftmost-pieces_past c sep zero (b ∷ rest) =
    elim (cases_Bool (starts_with nat_eq (b ∷ rest) (c ∷ sep))) [
      | inl here ↦
          let again = AreLeftmost-pieces_past c sep (length (c ∷ sep) - 1) rest in
          let (first, others, is) = pieces_past-cons (c ∷ sep) (length (c ∷ sep) - 1) rest in
          let tail : AreLeftmost (c ∷ sep) (first ∷ others) = subst (λ (pieces : List (List ℕ)). AreLeftmost (c ∷ sep) pieces) is again in
          rw (here, is) ((λ before after e. omega arith), tail)
      | inr away ↦
          let again = AreLeftmost-pieces_past c sep 0 rest in
          let (first, others, is) = pieces_past-cons (c ∷ sep) 0 rest in
          let tail : AreLeftmost (c ∷ sep) (first ∷ others) = subst (λ (pieces : List (List ℕ)). AreLeftmost (c ∷ sep) pieces) is again in
          let whole : join_of (c ∷ sep) (first ∷ others) ≡ rest = ap (join_of (c ∷ sep)) (sym is) ∙ join_of-pieces_past c sep 0 rest in
          rw (away, is) (AreLeftmost-in_first c sep b rest first others whole away tail)
    ]

-- two texts that begin with lists of one length, and then go on
split_same : (a b v w : List ℕ) → length a ≡ length b → a ++ v ≡ b ++ w → (a ≡ b) × (v ≡ w)
split_same [] [] v w l e = (refl, e)
split_same [] (y ∷ b) v w l e = absurd (omega (arith, l))
split_same (x ∷ a) [] v w l e = absurd (omega (arith, l))
split_same (x ∷ a) (y ∷ b) v w l e =
    let below = split_same a b v w (omega (arith, l)) cc in
    let head : x ≡ y = cc in
    (ap (λ (z : ℕ). z ∷ a) head ∙ ap (λ (zs : List ℕ). y ∷ zs) below.0, below.1)

-- there is one way only to cut a text at the leftmost occurrences
pub leftmost_is_unique : (sep : List ℕ) (ps qs : List (List ℕ)) → AreLeftmost sep ps → AreLeftmost sep qs → join_of sep ps ≡ join_of sep qs → ps ≡ qs
leftmost_is_unique sep [] qs h k e = absurd h
leftmost_is_unique sep (p ∷ ps) [] h k e = absurd k
leftmost_is_unique sep (p ∷ []) (q ∷ []) h k e = ap (λ (x : List ℕ). x ∷ []) e
leftmost_is_unique sep (p ∷ []) (q ∷ r ∷ qs) h k e = absurd (h q (join_of sep (r ∷ qs)) e)
leftmost_is_unique sep (p ∷ o ∷ ps) (q ∷ []) h k e = absurd (k p (join_of sep (o ∷ ps)) (sym e))
leftmost_is_unique sep (p ∷ o ∷ ps) (q ∷ r ∷ qs) h k e =
    let not_later : length p ≤ length q = h.0 q (join_of sep (r ∷ qs)) e in
    let not_sooner : length q ≤ length p = k.0 p (join_of sep (o ∷ ps)) (sym e) in
    let same : length p ≡ length q = omega (arith, not_later, not_sooner) in
    let cut = split_same p q (sep ++ join_of sep (o ∷ ps)) (sep ++ join_of sep (r ∷ qs)) same e in
    let rest : join_of sep (o ∷ ps) ≡ join_of sep (r ∷ qs) = append_cancel_left sep (join_of sep (o ∷ ps)) (join_of sep (r ∷ qs)) cut.1 in
    ap (λ (x : List ℕ). x ∷ o ∷ ps) cut.0 ∙ ap (λ (xs : List (List ℕ)). q ∷ xs) (leftmost_is_unique sep (o ∷ ps) (r ∷ qs) h.1 k.1 rest)
