-- The grammar of the text `a`.
use Rattle.std.proofs.Common.{◌≡◌, ◌↔◌, ◌≤◌, ℕ, List, [], ◌∷◌, map, inl, inr, refl, sym, ap, subst, arith}
use Rattle.std.specs.Prelude.{Contains}
use Rattle.string_functions.proofs.Members.{Contains-nil, Contains-cons_cases}
use Rattle.text_base.specs.declared.byte_range.ByteRange.{ByteRange}
use Rattle.text_base.specs.declared.numbers.Nt as nt
use Rattle.text_base.specs.declared.letter.Letter.{Letter}
use Rattle.text_base.specs.declared.letter.Letter.TheVariants.{OfByte}
use Rattle.cfg_grammar.specs.declared.symbol.Symbol.{Symbol}
use Rattle.cfg_grammar.specs.declared.symbol.Symbol.TheVariants.{Range, Nt}
use Rattle.cfg_grammar.specs.declared.production.Right.TheVariants.{Empty, One, Two}
use Rattle.cfg_grammar.specs.declared.production.Production.{Production}
use Rattle.cfg_grammar.specs.Derives.{Derives}
use Rattle.given_texts.specs.Closed.{HasText}

module _ (r : ByteRange) (low : r.lo ≡ 97) (high : r.hi ≡ 97) where
  abbrev only : Production
  only = record { left = record { 0 = 0 }; right = One (Range r) }

  abbrev letter : List Production
  letter = only ∷ []

  one : (p : Production) → Contains letter p → only ≡ p
  one p h =
      elim (Contains-cons_cases only [] p h) [
        | inl e ↦ e
        | inr none ↦ Contains-nil p none
      ]

  of_range : (s : Symbol) (v : List Letter) → Derives letter s v → s ≡ Range r → v ≡ OfByte 97 ∷ []
  of_range _ _ (Derives.by_range q b within) e =
      let same : q ≡ r = cc in
      let above : r.lo ≤ b = subst (λ (z : ByteRange). z.lo ≤ b) same within.0 in
      let below : b ≤ r.hi = subst (λ (z : ByteRange). b ≤ z.hi) same within.1 in
      ap (λ (n : ℕ). OfByte n ∷ []) (omega (arith, low, high, above, below))
  of_range _ _ (Derives.by_token t) e = absurd (cc)
  of_range _ _ (Derives.by_empty left has) e = absurd (cc)
  of_range _ _ (Derives.by_one left a v has d) e = absurd (cc)
  of_range _ _ (Derives.by_two left a b u v has d f) e = absurd (cc)

  of_start : (s : Symbol) (v : List Letter) → Derives letter s v → (a : nt.Nt) → s ≡ Nt a → v ≡ OfByte 97 ∷ []
  of_start _ _ (Derives.by_range q b within) a e = absurd (cc)
  of_start _ _ (Derives.by_token t) a e = absurd (cc)
  of_start _ _ (Derives.by_empty left has) a e = let h : One (Range r) ≡ Empty = ap (λ (p : Production). p.right) (one (record { left = left; right = Empty }) has) in absurd (cc)
  of_start _ _ (Derives.by_one left b v has d) a e =
      let h : One (Range r) ≡ One b = ap (λ (p : Production). p.right) (one (record { left = left; right = One b }) has) in
      let same : Range r ≡ b = cc in
      of_range b v d (sym same)
  of_start _ _ (Derives.by_two left b c u v has d f) a e = let h : One (Range r) ≡ Two b c = ap (λ (p : Production). p.right) (one (record { left = left; right = Two b c }) has) in absurd (cc)

  as_text : (w : List ℕ) → map OfByte w ≡ OfByte 97 ∷ [] → w ≡ 97 ∷ []
  as_text [] e = absurd (cc)
  as_text (b ∷ []) e = let same : b ≡ 97 = cc in ap (λ (n : ℕ). n ∷ []) same
  as_text (b ∷ c ∷ w) e = absurd (cc)

  pub letter_texts : (w : List ℕ) → (w ≡ 97 ∷ []) ↔ HasText letter (Nt (record { 0 = 0 })) w
  letter_texts w = (
    λ e. subst (λ (z : List ℕ). HasText letter (Nt (record { 0 = 0 })) z) (sym e)
        (Derives.by_one (record { 0 = 0 }) (Range r) (OfByte 97 ∷ []) (0, omega arith, refl) (Derives.by_range r 97 (omega (arith, low), omega (arith, high)))),
    λ h. as_text w (of_start (Nt (record { 0 = 0 })) (map OfByte w) h (record { 0 = 0 }) refl),
  )
