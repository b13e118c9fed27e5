-- What closed lists of pairs know.
use Rattle.std.proofs.Common.{◌≡◌, ℕ, zero, suc, ◌+◌, ◌<◌, ◌≤◌, ◌⊎◌, inl, inr, List, [], ◌∷◌, ◌++◌, length, Contains, refl, sym, ◌∙◌, ap, subst, arith, Some, slice_get}
use Rattle.std.proofs.lemmas.Bool.{cases_lt}
use Rattle.std.proofs.lemmas.List.Elements.{Contains-append_right, Contains-append_cases}
use Rattle.text_base.specs.declared.byte_range.ByteRange.{ByteRange}
use Rattle.text_base.specs.declared.letter.Letter.{Letter}
use Rattle.text_base.specs.declared.letter.Letter.TheVariants.{OfByte, OfToken}
use Rattle.text_base.specs.declared.page_token.PageToken.{PageToken}
use Rattle.text_base.specs.declared.numbers.Nt as nt
use Rattle.cfg_grammar.specs.declared.symbol.Symbol.{Symbol}
use Rattle.cfg_grammar.specs.declared.symbol.Symbol.TheVariants.{Range, Token, Nt}
use Rattle.cfg_grammar.specs.declared.production.Right.TheVariants.{One, Two}
use Rattle.cfg_grammar.specs.declared.production.Production.{Production}
use Rattle.cfg_grammar.specs.Derives.{Derives, DerivesIn}
use Rattle.useful_nonterminals.specs.Useful.{IsUseful}
use Rattle.summary_decision.specs.Pairs.{tokens_in}
use Rattle.summary_decision.specs.Closed.{Pair, HasSum, IsClosed, IsTaken, IsComplete}

pub tokens_append : (v w : List Letter) → tokens_in (v ++ w) ≡ tokens_in v ++ tokens_in w
tokens_append [] w = refl
tokens_append (OfByte b ∷ v) w = tokens_append v w
tokens_append (OfToken t ∷ v) w = ap (λ (l : List PageToken). t ∷ l) (tokens_append v w)

-- a place of a list holds what stands there, and the reverse
pub contained : {X : Type 0} (xs : List X) (n : ℕ) (x : X) → slice_get xs n ≡ Some x → Contains xs x
contained [] n x e = cc
contained (y ∷ xs) zero x e = let same : y ≡ x = cc in subst (λ (z : _). Contains (y ∷ xs) z) same (0, omega arith, refl)
contained (y ∷ xs) (suc n) x e = Contains-append_right (y ∷ []) xs x (contained xs n x e)

pub placed : {X : Type 0} (xs : List X) (x : X) → Contains xs x → (n : ℕ) × (n < length xs) × (slice_get xs n ≡ Some x)
placed [] x c = absurd (omega (arith, c.1))
placed (y ∷ xs) x (zero, l, e) = (0, omega arith, ap Some e)
placed (y ∷ xs) x (suc n, l, e) = elim (Contains-append_cases (y ∷ []) xs x (suc n, l, e)) [
  | inl d ↦ (0, omega arith, ap Some (only y x d))
  | inr d ↦ let k = placed xs x d in (suc k.0, omega (arith, k.1), k.2)
]
  where
    only : {X : Type 0} (y x : X) → Contains (y ∷ []) x → y ≡ x
    only y x (zero, l, e) = e
    only y x (suc n, l, e) = absurd (omega (arith, l))

module _ {S : Type 0} (sum_of : List PageToken → S) (composed : S → S → S) where
  -- a sum among the first so many, and one more
  cases_more : (known : List (Pair S)) (n : ℕ) (a : nt.Nt) (s : S) → slice_get known n ≡ Some (a.0, s) → (b : Symbol) (t : S) → HasSum sum_of composed known (n + 1) b t → HasSum sum_of composed known n b t ⊎ ((b ≡ Nt a) × (t ≡ s))
  cases_more known n a s at (Range range) t h = inl h
  cases_more known n a s at (Token token) t h = inl h
  cases_more known n a s at (Nt b) t h = elim (cases_lt h.0 n) [
    | inl l ↦ inl (h.0, l, h.2)
    | inr l ↦
        let same : h.0 ≡ n = omega (arith, l, h.1) in
        let one : Some (a.0, s) ≡ Some (b.0, t) = sym at ∙ ap (slice_get known) (sym same) ∙ h.2 in
        let pair : (a.0, s) ≡ (b.0, t) = cc in
        inr (ap (λ (p : Pair S). Nt (record { 0 = p.0 })) (sym pair), ap (λ (p : Pair S). p.1) (sym pair))
  ]

  more : (known : List (Pair S)) (n : ℕ) (b : Symbol) (t : S) → HasSum sum_of composed known n b t → HasSum sum_of composed known (n + 1) b t
  more known n (Range range) t h = h
  more known n (Token token) t h = h
  more known n (Nt b) t h = (h.0, omega (arith, h.1), h.2)

  -- a production whose symbol is the pair's nonterminal
  renamed_one : (ps : List Production) (left a : nt.Nt) (b : Symbol) → b ≡ Nt a → Contains ps (record { left = left; right = One b }) → Contains ps (record { left = left; right = One (Nt a) })
  renamed_one ps left a b e c = subst (λ (x : Symbol). Contains ps (record { left = left; right = One x })) e c

  renamed_first : (ps : List Production) (left a : nt.Nt) (b c : Symbol) → b ≡ Nt a → Contains ps (record { left = left; right = Two b c }) → Contains ps (record { left = left; right = Two (Nt a) c })
  renamed_first ps left a b c e h = subst (λ (x : Symbol). Contains ps (record { left = left; right = Two x c })) e h

  renamed_second : (ps : List Production) (left a : nt.Nt) (b c : Symbol) → c ≡ Nt a → Contains ps (record { left = left; right = Two b c }) → Contains ps (record { left = left; right = Two b (Nt a) })
  renamed_second ps left a b c e h = subst (λ (x : Symbol). Contains ps (record { left = left; right = Two b x })) e h

  pub takes_one : (ps : List Production) (start : nt.Nt) (known : List (Pair S)) (n : ℕ) (a : nt.Nt) (s : S) → slice_get known n ≡ Some (a.0, s) → IsClosed sum_of composed ps start known n → IsTaken sum_of composed ps start known n a s → IsClosed sum_of composed ps start known (n + 1)
  takes_one ps start known n a s at closed taken =
      record {
        empties = closed.empties;
        ones = λ left b t c u h. elim (cases_more known n a s at b t h) [
          | inl old ↦ closed.ones left b t c u old
          | inr new ↦ subst (λ (x : S). Contains known (left.0, x)) (sym new.1) (taken.ones left (renamed_one ps left a b new.0 c) u)
        ];
        twos = λ left b d t r c u h k. elim (cases_more known n a s at b t h) [
          | inr new ↦ subst (λ (x : S). Contains known (left.0, composed x r)) (sym new.1) (taken.firsts left d r (renamed_first ps left a b d new.0 c) u k)
          | inl old ↦ elim (cases_more known n a s at d r k) [
            | inl both ↦ closed.twos left b d t r c u old both
            | inr new ↦ subst (λ (x : S). Contains known (left.0, composed t x)) (sym new.1) (taken.seconds left b t (renamed_second ps left a b d new.0 c) u old)
          ]
        ];
      }

  module _ (appended : (u v : List PageToken) → sum_of (u ++ v) ≡ composed (sum_of u) (sum_of v)) (ps : List Production) (start : nt.Nt) (known : List (Pair S)) where
    joined : (v w : List Letter) → composed (sum_of (tokens_in v)) (sum_of (tokens_in w)) ≡ sum_of (tokens_in (v ++ w))
    joined v w = sym (appended (tokens_in v) (tokens_in w)) ∙ ap sum_of (sym (tokens_append v w))

    derives_in : (a : Symbol) (w : List Letter) (h : ℕ) → DerivesIn ps a w h → Derives ps a w
    derives_in a w h (DerivesIn.by_range range byte i) = Derives.by_range range byte i
    derives_in a w h (DerivesIn.by_token token) = Derives.by_token token
    derives_in a w h (DerivesIn.by_empty left c) = Derives.by_empty left c
    derives_in a w h (DerivesIn.by_one left b v j c d) = Derives.by_one left b v c (derives_in b v j d)
    derives_in a w h (DerivesIn.by_two left b c u v i j m d e) = Derives.by_two left b c u v m (derives_in b u i d) (derives_in c v j e)

    -- the symbols of a useful production that derive something are useful
    useful_first : (left : nt.Nt) (b c : Symbol) (u v : List Letter) → IsUseful ps start left → Contains ps (record { left = left; right = Two b c }) → Derives ps b u → Derives ps c v → (x : nt.Nt) → b ≡ Nt x → IsUseful ps start x
    useful_first left b c u v serves i d e x same =
        IsUseful.as_first left x c u v serves (renamed_first ps left x b c same i) (subst (λ (y : Symbol). Derives ps y u) same d) e

    useful_second : (left : nt.Nt) (b c : Symbol) (u v : List Letter) → IsUseful ps start left → Contains ps (record { left = left; right = Two b c }) → Derives ps b u → Derives ps c v → (x : nt.Nt) → c ≡ Nt x → IsUseful ps start x
    useful_second left b c u v serves i d e x same =
        IsUseful.as_second left x b u v serves (renamed_second ps left x b c same i) d (subst (λ (y : Symbol). Derives ps y v) same e)

    useful_alone : (left : nt.Nt) (b : Symbol) (w : List Letter) → IsUseful ps start left → Contains ps (record { left = left; right = One b }) → Derives ps b w → (x : nt.Nt) → b ≡ Nt x → IsUseful ps start x
    useful_alone left b w serves i d x same =
        IsUseful.alone left x w serves (renamed_one ps left x b same i) (subst (λ (y : Symbol). Derives ps y w) same d)

    -- a symbol's sentence has its sum, where it is a letter or its nonterminal is complete
    symbol_sum : (n k : ℕ) → IsComplete sum_of composed ps start known n k → (a : Symbol) (w : List Letter) (h : ℕ) → h ≤ k → ((x : nt.Nt) → a ≡ Nt x → IsUseful ps start x) → DerivesIn ps a w h → HasSum sum_of composed known n a (sum_of (tokens_in w))
    symbol_sum n k complete (Range range) w h l serves d = of_range range w h d
      where
        of_range : (range : ByteRange) (w : List Letter) (h : ℕ) → DerivesIn ps (Range range) w h → sum_of [] ≡ sum_of (tokens_in w)
        of_range range w h (DerivesIn.by_range r byte i) = refl
    symbol_sum n k complete (Token token) w h l serves d = of_token token w h d
      where
        of_token : (token : PageToken) (w : List Letter) (h : ℕ) → DerivesIn ps (Token token) w h → sum_of (token ∷ []) ≡ sum_of (tokens_in w)
        of_token token w h (DerivesIn.by_token t) = refl
    symbol_sum n k complete (Nt x) w h l serves d = complete x w h l (serves x refl) d

    there : (a : nt.Nt) (s : S) → Contains known (a.0, s) → HasSum sum_of composed known (length known) (Nt a) s
    there a s c = let p = placed known (a.0, s) c in (p.0, p.1, p.2)

    pub closed_complete : (n k : ℕ) → IsClosed sum_of composed ps start known n → IsComplete sum_of composed ps start known n k → IsComplete sum_of composed ps start known (length known) (k + 1)
    closed_complete n k closed complete a w h l serves (DerivesIn.by_empty left c) = there left (sum_of []) (closed.empties left c serves)
    closed_complete n k closed complete a w h l serves (DerivesIn.by_one left b v j c d) =
        there left (sum_of (tokens_in v))
        (closed.ones left b (sum_of (tokens_in v)) c serves
        (symbol_sum n k complete b v j (omega (arith, l)) (useful_alone left b v serves c (derives_in b v j d)) d))
    closed_complete n k closed complete a w h l serves (DerivesIn.by_two left b c u v i j m d e) =
        there left (sum_of (tokens_in (u ++ v)))
        (subst (λ (s : S). Contains known (left.0, s)) (joined u v)
        (closed.twos left b c (sum_of (tokens_in u)) (sum_of (tokens_in v)) m serves
        (symbol_sum n k complete b u i (omega (arith, l)) (useful_first left b c u v serves m (derives_in b u i d) (derives_in c v j e)) d)
        (symbol_sum n k complete c v j (omega (arith, l)) (useful_second left b c u v serves m (derives_in b u i d) (derives_in c v j e)) e)))

    -- over itself
    pub closed_all : IsClosed sum_of composed ps start known (length known) → (a : Symbol) (w : List Letter) → ((x : nt.Nt) → a ≡ Nt x → IsUseful ps start x) → Derives ps a w → HasSum sum_of composed known (length known) a (sum_of (tokens_in w))
    closed_all closed a w serves (Derives.by_range range byte i) = refl
    closed_all closed a w serves (Derives.by_token token) = refl
    closed_all closed a w serves (Derives.by_empty left c) = there left (sum_of []) (closed.empties left c (serves left refl))
    closed_all closed a w serves (Derives.by_one left b v c d) =
        there left (sum_of (tokens_in v))
        (closed.ones left b (sum_of (tokens_in v)) c (serves left refl) (closed_all closed b v (useful_alone left b v (serves left refl) c d) d))
    closed_all closed a w serves (Derives.by_two left b c u v m d e) =
        there left (sum_of (tokens_in (u ++ v)))
        (subst (λ (s : S). Contains known (left.0, s)) (joined u v)
        (closed.twos left b c (sum_of (tokens_in u)) (sum_of (tokens_in v)) m (serves left refl)
        (closed_all closed b u (useful_first left b c u v (serves left refl) m d e) d)
        (closed_all closed c v (useful_second left b c u v (serves left refl) m d e) e)))

    pub closed_has_all : IsClosed sum_of composed ps start known (length known) → (a : nt.Nt) (w : List Letter) → IsUseful ps start a → Derives ps (Nt a) w → Contains known (a.0, sum_of (tokens_in w))
    closed_has_all closed a w serves d =
        let p = closed_all closed (Nt a) w (λ x e. subst (IsUseful ps start) (same e) serves) d in
        contained known p.0 (a.0, sum_of (tokens_in w)) p.2
      where
        same : {a x : nt.Nt} → Nt a ≡ Nt x → a ≡ x
        same e = cc
