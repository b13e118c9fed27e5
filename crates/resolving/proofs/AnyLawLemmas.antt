-- All texts over some bytes, by one nonterminal.
use Rattle.std.proofs.Common.{◌≡◌, ℕ, suc, List, [], ◌∷◌, ◌++◌, map, Contains, refl, ◌∙◌, ap, subst, arith}
use Rattle.std.specs.Prelude.{All}
use Rattle.std.proofs.lemmas.List.Elements.{All-nil, All-cons}
use Rattle.text_base.specs.declared.byte_range.ByteRange.{ByteRange}
use Rattle.text_base.specs.declared.numbers.Nt as nt
use Rattle.text_base.specs.declared.letter.Letter.{Letter}
use Rattle.text_base.specs.declared.letter.Letter.TheVariants.{OfByte}
use Rattle.text_base.specs.ByteRange.{InRange}
use Rattle.cfg_grammar.specs.declared.symbol.Symbol.{Symbol}
use Rattle.cfg_grammar.specs.declared.symbol.Symbol.TheVariants.{Range, Nt}
use Rattle.cfg_grammar.specs.declared.production.Right.{Right}
use Rattle.cfg_grammar.specs.declared.production.Right.TheVariants.{Empty, One, Two}
use Rattle.cfg_grammar.specs.declared.production.Production.{Production}
use Rattle.cfg_grammar.specs.Derives.{Derives}

-- the right sides of the nonterminal: nothing, or a byte of a range before it
pub data IsAnyRight (E : ℕ → Type 0) (t : nt.Nt) (right : Right) : Type 0 where
  stop : right ≡ Empty → IsAnyRight E t right
  go : (r : ByteRange) → ((c : ℕ) → InRange r c → E c) → right ≡ Two (Range r) (Nt t) → IsAnyRight E t right

pub record AllOver (E : ℕ → Type 0) (w : List Letter) : Type 0 where
  pub text : List ℕ
  pub is : w ≡ map OfByte text
  pub all : All E text

module _ (E : ℕ → Type 0) (t : nt.Nt) (ps : List Production) where
  range_letters : (a : Symbol) (w : List Letter) → Derives ps a w → (r : ByteRange) → a ≡ Range r → (b : ℕ) × InRange r b × (w ≡ OfByte b ∷ [])
  range_letters _ _ (Derives.by_range q b within) r e = (b, subst (λ (z : ByteRange). InRange z b) (same q r e) within, refl)
    where
      same : (q r : ByteRange) → Range q ≡ Range r → q ≡ r
      same q r e = cc
  range_letters _ _ (Derives.by_token k) r e = absurd (cc)
  range_letters _ _ (Derives.by_empty left has) r e = absurd (clash left r e)
    where
      clash : (a : nt.Nt) (r : ByteRange) → Nt a ≡ Range r → ⊥
      clash a r e = cc
  range_letters _ _ (Derives.by_one left a w has d) r e = absurd (clash left r e)
    where
      clash : (a : nt.Nt) (r : ByteRange) → Nt a ≡ Range r → ⊥
      clash a r e = cc
  range_letters _ _ (Derives.by_two left a b v w has d f) r e = absurd (clash left r e)
    where
      clash : (a : nt.Nt) (r : ByteRange) → Nt a ≡ Range r → ⊥
      clash a r e = cc

  module _ (own : (right : Right) → Contains ps (record { left = t; right = right }) → IsAnyRight E t right) where
    one_no : (a : Symbol) → IsAnyRight E t (One a) → ⊥
    one_no a (IsAnyRight.stop e) = cc
    one_no a (IsAnyRight.go r h e) = cc

    empty_two : (a b : Symbol) → Two a b ≡ Empty → ⊥
    empty_two a b e = cc

    first_of : (a b c d : Symbol) → Two a b ≡ Two c d → a ≡ c
    first_of a b c d e = cc

    second_of : (a b c d : Symbol) → Two a b ≡ Two c d → b ≡ d
    second_of a b c d e = cc

    same_nt : (a b : nt.Nt) → Nt a ≡ Nt b → a ≡ b
    same_nt a b e = cc

    pub any_sound : (s : Symbol) (w : List Letter) → Derives ps s w → s ≡ Nt t → AllOver E w
    any_sound _ _ (Derives.by_range q b within) e = absurd (clash q t e)
      where
        clash : (r : ByteRange) (a : nt.Nt) → Range r ≡ Nt a → ⊥
        clash r a e = cc
    any_sound _ _ (Derives.by_token k) e = absurd (cc)
    any_sound _ _ (Derives.by_empty left has) e = record { text = []; is = refl; all = All-nil E }
    any_sound _ w (Derives.by_one left a _ has d) e = absurd (one_no a (own (One a) (subst (λ (z : nt.Nt). Contains ps (record { left = z; right = One a })) (same_nt left t e) has)))
    any_sound _ _ (Derives.by_two left a b v w has d f) e = so (own (Two a b) (subst (λ (z : nt.Nt). Contains ps (record { left = z; right = Two a b })) (same_nt left t e) has)) (any_sound b w f)
      where
        so : IsAnyRight E t (Two a b) → (b ≡ Nt t → AllOver E w) → AllOver E (v ++ w)
        so (IsAnyRight.stop e) further = absurd (empty_two a b e)
        so (IsAnyRight.go r h e) further =
            let l = range_letters a v d r (first_of a b (Range r) (Nt t) e) in
            let rest = further (second_of a b (Range r) (Nt t) e) in
            record {
              text = l.0 ∷ rest.text;
              is = ap (λ (z : List Letter). z ++ w) l.2 ∙ ap (λ (z : List Letter). OfByte l.0 ∷ z) rest.is;
              all = All-cons E l.0 rest.text (h l.0 l.1) rest.all;
            }

  pub any_complete : Contains ps (record { left = t; right = Empty }) → ((c : ℕ) → E c → (r : ByteRange) × InRange r c × Contains ps (record { left = t; right = Two (Range r) (Nt t) }))
      → (text : List ℕ) → All E text → Derives ps (Nt t) (map OfByte text)
  any_complete ends puts [] all = Derives.by_empty t ends
  any_complete ends puts (b ∷ text) all =
      let p = puts b (all 0 b (omega arith)) in
      let rest = any_complete ends puts text (λ k d lt. all (suc k) d (omega arith)) in
      Derives.by_two t (Range p.0) (Nt t) (OfByte b ∷ []) (map OfByte text) p.2 (Derives.by_range p.0 b p.1) rest
