-- Derivations by productions with higher numbers.
use Rattle.std.proofs.Common.{◌≡◌, ◌≤◌, ◌+◌, ℕ, true, List, [], ◌∷◌, ◌++◌, Contains, refl, sym, ◌∙◌, ap, subst, arith}
use Rattle.text_base.specs.declared.byte_range.ByteRange.{ByteRange}
use Rattle.text_base.specs.declared.page_token.PageToken.{PageToken}
use Rattle.text_base.specs.declared.numbers.Nt as nt
use Rattle.text_base.specs.declared.letter.Letter.{Letter}
use Rattle.text_base.specs.declared.letter.Letter.TheVariants.{OfByte, OfToken}
use Rattle.cfg_grammar.specs.declared.symbol.Symbol.{Symbol}
use Rattle.cfg_grammar.specs.declared.symbol.Symbol.TheVariants.{Range, Token, Nt}
use Rattle.cfg_grammar.specs.declared.production.Right.{Right}
use Rattle.cfg_grammar.specs.declared.production.Right.TheVariants.{Empty, One, Two}
use Rattle.cfg_grammar.specs.declared.production.Production.{Production}
use Rattle.cfg_grammar.specs.Tokens.{is_no_token, production_without_token}
use Rattle.cfg_grammar.specs.Derives.{Derives}
use Rattle.resolving.specs.Drafts.{moved_symbol, moved_right, moved}
use Rattle.resolving.proofs.LetterLemmas.{IsPlain, first_in, plain_first, plain_second, both_so}

-- the same by more productions
pub derives_more : (ps qs : List Production) → ((p : Production) → Contains ps p → Contains qs p) → (a : Symbol) (w : List Letter) → Derives ps a w → Derives qs a w
derives_more ps qs more _ _ (Derives.by_range r b within) = Derives.by_range r b within
derives_more ps qs more _ _ (Derives.by_token t) = Derives.by_token t
derives_more ps qs more _ _ (Derives.by_empty left has) = Derives.by_empty left (more (record { left = left; right = Empty }) has)
derives_more ps qs more _ w (Derives.by_one left a _ has d) = Derives.by_one left a w (more (record { left = left; right = One a }) has) (derives_more ps qs more a w d)
derives_more ps qs more _ _ (Derives.by_two left a b v w has d e) = Derives.by_two left a b v w (more (record { left = left; right = Two a b }) has) (derives_more ps qs more a v d) (derives_more ps qs more b w e)

range_is : (base : ℕ) (r : ByteRange) (t : Symbol) → Range r ≡ moved_symbol base t → t ≡ Range r
range_is base r (Range q) e = sym e
range_is base r (Token k) e = absurd (cc)
range_is base r (Nt a) e = absurd (cc)

token_is : (base : ℕ) (k : PageToken) (t : Symbol) → Token k ≡ moved_symbol base t → t ≡ Token k
token_is base k (Range q) e = absurd (cc)
token_is base k (Token j) e = sym e
token_is base k (Nt a) e = absurd (cc)

-- a nonterminal that is moved
pub record IsMovedNt (base : ℕ) (a : nt.Nt) (t : Symbol) : Type 0 where
  pub source : nt.Nt
  pub is : t ≡ Nt source
  pub number : a.0 ≡ base + source.0

pub nt_is : (base : ℕ) (a : nt.Nt) (t : Symbol) → Nt a ≡ moved_symbol base t → IsMovedNt base a t
nt_is base a (Range q) e = absurd (cc)
nt_is base a (Token k) e = absurd (cc)
nt_is base a (Nt b) e = record { source = b; is = refl; number = number a (record { 0 = base + b.0 }) e }
  where
    number : (x y : nt.Nt) → Nt x ≡ Nt y → x.0 ≡ y.0
    number x y e = cc

empty_is : (base : ℕ) (r : Right) → Empty ≡ moved_right base r → r ≡ Empty
empty_is base Empty e = refl
empty_is base (One a) e = absurd (cc)
empty_is base (Two a b) e = absurd (cc)

record IsMovedOne (base : ℕ) (a : Symbol) (r : Right) : Type 0 where
  pub source : Symbol
  pub is : r ≡ One source
  pub symbol : a ≡ moved_symbol base source

one_is : (base : ℕ) (a : Symbol) (r : Right) → One a ≡ moved_right base r → IsMovedOne base a r
one_is base a Empty e = absurd (cc)
one_is base a (One b) e = record { source = b; is = refl; symbol = inner a (moved_symbol base b) e }
  where
    inner : (x y : Symbol) → One x ≡ One y → x ≡ y
    inner x y e = cc
one_is base a (Two b c) e = absurd (cc)

record IsMovedTwo (base : ℕ) (a b : Symbol) (r : Right) : Type 0 where
  pub first : Symbol
  pub second : Symbol
  pub is : r ≡ Two first second
  pub first_symbol : a ≡ moved_symbol base first
  pub second_symbol : b ≡ moved_symbol base second

two_is : (base : ℕ) (a b : Symbol) (r : Right) → Two a b ≡ moved_right base r → IsMovedTwo base a b r
two_is base a b Empty e = absurd (cc)
two_is base a b (One c) e = absurd (cc)
two_is base a b (Two c d) e = record { first = c; second = d; is = refl; first_symbol = one a b (moved_symbol base c) (moved_symbol base d) e; second_symbol = two a b (moved_symbol base c) (moved_symbol base d) e }
  where
    one : (x y z u : Symbol) → Two x y ≡ Two z u → x ≡ z
    one x y z u e = cc

    two : (x y z u : Symbol) → Two x y ≡ Two z u → y ≡ u
    two x y z u e = cc

nt_from : (a b : nt.Nt) → a.0 ≡ b.0 → a ≡ b
nt_from a b e = ap (λ (n : ℕ). let z : nt.Nt = record { 0 = n } in z) e

-- the productions with high numbers are those of the image
abbrev pub AreOwn : ℕ → List Production → List Production → Type 0
AreOwn base image ps = (p : Production) → Contains ps p → base ≤ p.left.0 → (q : Production) × Contains image q × (p ≡ moved base q)

module _ (base : ℕ) (image ps : List Production) (own : AreOwn base image ps) where
  -- the source of a production
  source_of : (left : nt.Nt) (right : Right) (x : nt.Nt) → Contains ps (record { left = left; right = right }) → left.0 ≡ base + x.0 → (r : Right) × Contains image (record { left = x; right = r }) × (right ≡ moved_right base r)
  source_of left right x has number =
      let q = own (record { left = left; right = right }) has (omega arith) in
      let e : base + x.0 ≡ base + q.0.left.0 = sym number ∙ ap (λ (p : Production). p.left.0) q.2 in
      let same : q.0.left ≡ x = nt_from q.0.left x (omega arith) in
      (q.0.right, subst (λ (z : nt.Nt). Contains image (record { left = z; right = q.0.right })) same q.1, ap (λ (p : Production). p.right) q.2)

  pub unmoved : (a : Symbol) (w : List Letter) → Derives ps a w → (t : Symbol) → a ≡ moved_symbol base t → Derives image t w
  unmoved _ _ (Derives.by_range r b within) t e = subst (λ (z : Symbol). Derives image z (OfByte b ∷ [])) (sym (range_is base r t e)) (Derives.by_range r b within)
  unmoved _ _ (Derives.by_token k) t e = subst (λ (z : Symbol). Derives image z (OfToken k ∷ [])) (sym (token_is base k t e)) (Derives.by_token k)
  unmoved _ _ (Derives.by_empty left has) t e =
      let x = nt_is base left t e in
      let q = source_of left Empty x.source has x.number in
      subst (λ (z : Symbol). Derives image z []) (sym x.is) (Derives.by_empty x.source (subst (λ (r : Right). Contains image (record { left = x.source; right = r })) (empty_is base q.0 q.2) q.1))
  unmoved _ w (Derives.by_one left a _ has d) t e =
      let x = nt_is base left t e in
      let q = source_of left (One a) x.source has x.number in
      let o = one_is base a q.0 q.2 in
      subst (λ (z : Symbol). Derives image z w) (sym x.is) (Derives.by_one x.source o.source w (subst (λ (r : Right). Contains image (record { left = x.source; right = r })) o.is q.1) (unmoved a w d o.source o.symbol))
  unmoved _ _ (Derives.by_two left a b v w has d f) t e =
      let x = nt_is base left t e in
      let q = source_of left (Two a b) x.source has x.number in
      let o = two_is base a b q.0 q.2 in
      subst (λ (z : Symbol). Derives image z (v ++ w)) (sym x.is) (Derives.by_two x.source o.first o.second v w (subst (λ (r : Right). Contains image (record { left = x.source; right = r })) o.is q.1) (unmoved a v d o.first o.first_symbol) (unmoved b w f o.second o.second_symbol))

-- a symbol that derives letters without a page token is none
plain_symbol : (image : List Production) (a : Symbol) (w : List Letter) → Derives image a w → IsPlain w → is_no_token a ≡ true
plain_symbol image _ _ (Derives.by_range r b within) h = refl
plain_symbol image _ _ (Derives.by_token k) h = absurd (h.none k (first_in (OfToken k) []))
plain_symbol image _ _ (Derives.by_empty left has) h = refl
plain_symbol image _ _ (Derives.by_one left a w has d) h = refl
plain_symbol image _ _ (Derives.by_two left a b v w has d e) h = refl

module _ (base : ℕ) (image ps : List Production) (has_all : (q : Production) → Contains image q → production_without_token q ≡ true → Contains ps (moved base q)) where
  pub is_moved : (a : Symbol) (w : List Letter) → Derives image a w → IsPlain w → Derives ps (moved_symbol base a) w
  is_moved _ _ (Derives.by_range r b within) h = Derives.by_range r b within
  is_moved _ _ (Derives.by_token k) h = Derives.by_token k
  is_moved _ _ (Derives.by_empty left has) h = Derives.by_empty (record { 0 = base + left.0 }) (has_all (record { left = left; right = Empty }) has refl)
  is_moved _ w (Derives.by_one left a _ has d) h =
      Derives.by_one (record { 0 = base + left.0 }) (moved_symbol base a) w (has_all (record { left = left; right = One a }) has (both_so (is_no_token a) true (plain_symbol image a w d h) refl)) (is_moved a w d h)
  is_moved _ _ (Derives.by_two left a b v w has d e) h =
      let hv = plain_first v w h in
      let hw = plain_second v w h in
      Derives.by_two (record { 0 = base + left.0 }) (moved_symbol base a) (moved_symbol base b) v w
      (has_all (record { left = left; right = Two a b }) has (both_so (is_no_token a) _ (plain_symbol image a v d hv) (both_so (is_no_token b) true (plain_symbol image b w e hw) refl)))
      (is_moved a v d hv) (is_moved b w e hw)
