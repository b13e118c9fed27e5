-- What productions derive, with others behind them.
use Rattle.std.proofs.Common.{◌≡◌, ◌≤◌, ◌<◌, ◌+◌, ◌-◌, ◌&&◌, ◌↔◌, nat_lt, ℕ, Bool, true, List, ◌++◌, inl, inr, refl, sym, ◌∙◌, ap, subst, arith}
use Rattle.std.specs.Prelude.{⊤, Contains}
use Rattle.std.specs.List.{list_all}
use Rattle.std.proofs.lemmas.Bool.{ltb-true, and_parts, and_from}
use Rattle.std.proofs.lemmas.List.Elements.{Contains-append_left, Contains-append_right, Contains-append_cases, All-contains}
use Rattle.std.proofs.lemmas.List.Sums.{AllPass-from_list_all}
use Rattle.text_base.specs.declared.numbers.Nt as nt
use Rattle.text_base.specs.declared.letter.Letter.{Letter}
use Rattle.cfg_grammar.specs.declared.symbol.Symbol.{Symbol}
use Rattle.cfg_grammar.specs.declared.symbol.Symbol.TheVariants.{Range, Token, Nt}
use Rattle.cfg_grammar.specs.declared.production.Right.{Right}
use Rattle.cfg_grammar.specs.declared.production.Right.TheVariants.{Empty, One, Two}
use Rattle.cfg_grammar.specs.declared.production.Production.{Production}
use Rattle.cfg_grammar.specs.Below.{AreBelow, symbol_below, symbols_of, production_below}
use Rattle.cfg_grammar.specs.Derives.{Derives}
use Rattle.useful_nonterminals.specs.Follows.{IsMarked}
use Rattle.useful_nonterminals.specs.Useful.{IsProductive}
use Rattle.given_texts.specs.Moved.{moved_symbol, moved_right, moved_production}
use Rattle.given_texts.specs.Kept.{symbol_kept, right_kept, kept}
use Rattle.given_texts.proofs.Kept.{mark_read, kept_from, kept_has}

-- lower numbers again
unfoldable pub lowered_symbol : ℕ → Symbol → Symbol
lowered_symbol base (Range r) = Range r
lowered_symbol base (Token t) = Token t
lowered_symbol base (Nt a) = Nt (record { 0 = a.0 - base })

lowered_right : ℕ → Right → Right
lowered_right base Empty = Empty
lowered_right base (One a) = One (lowered_symbol base a)
lowered_right base (Two a b) = Two (lowered_symbol base a) (lowered_symbol base b)

lowered_production : ℕ → Production → Production
lowered_production base p = record { left = record { 0 = p.left.0 - base }; right = lowered_right base p.right }

nt_is : (base : ℕ) (a : nt.Nt) → record { 0 = base + a.0 - base } ≡ a
nt_is base a = ap (λ (n : ℕ). let z : nt.Nt = record { 0 = n } in z) (omega arith)

symbol_is : (base : ℕ) (s : Symbol) → lowered_symbol base (moved_symbol base s) ≡ s
unfolding lowered_symbol
symbol_is base (Range r) = refl
symbol_is base (Token t) = refl
symbol_is base (Nt a) = ap (λ (z : nt.Nt). Nt z) (nt_is base a)

right_is : (base : ℕ) (r : Right) → lowered_right base (moved_right base r) ≡ r
unfolding lowered_right
right_is base Empty = refl
right_is base (One a) = ap (λ (s : Symbol). One s) (symbol_is base a)
right_is base (Two a b) = ap (λ (s : Symbol). Two s (lowered_symbol base (moved_symbol base b))) (symbol_is base a) ∙ ap (λ (s : Symbol). Two a s) (symbol_is base b)

production_is : (base : ℕ) (p : Production) → lowered_production base (moved_production base p) ≡ p
unfolding lowered_production
production_is base p =
    ap (λ (l : nt.Nt). let z : Production = record { left = l; right = lowered_right base (moved_right base p.right) } in z) (nt_is base p.left)
    ∙ ap (λ (r : Right). let z : Production = record { left = p.left; right = r } in z) (right_is base p.right)

-- numbers that are not low
unfoldable pub IsHigh : ℕ → Symbol → Type 0
IsHigh base (Range r) = ⊤
IsHigh base (Token t) = ⊤
IsHigh base (Nt a) = base ≤ a.0

AreHigh : ℕ → Right → Type 0
AreHigh base Empty = ⊤
AreHigh base (One a) = IsHigh base a
AreHigh base (Two a b) = IsHigh base a × IsHigh base b

moved_is_high : (base : ℕ) (s : Symbol) → IsHigh base (moved_symbol base s)
unfolding IsHigh
moved_is_high base (Range r) = tt
moved_is_high base (Token t) = tt
moved_is_high base (Nt a) = omega arith

moved_are_high : (base : ℕ) (r : Right) → AreHigh base (moved_right base r)
unfolding AreHigh
moved_are_high base Empty = tt
moved_are_high base (One a) = moved_is_high base a
moved_are_high base (Two a b) = (moved_is_high base a, moved_is_high base b)

module _ (base : ℕ) (marks : List Bool) (given ps : List Production) (below : AreBelow base given) (exact : (a : nt.Nt) → IsMarked marks a.0 ↔ IsProductive ps a) where
  abbrev pub both : List Production
  both = given ++ kept marks base ps

  -- what is given derives the same
  in_both : (p : Production) → Contains given p → Contains both p
  in_both p h = Contains-append_left given (kept marks base ps) p h

  pub of_given : (s : Symbol) (w : List Letter) → Derives given s w → Derives both s w
  of_given _ _ (Derives.by_range r b within) = Derives.by_range r b within
  of_given _ _ (Derives.by_token t) = Derives.by_token t
  of_given _ _ (Derives.by_empty left has) = Derives.by_empty left (in_both (record { left = left; right = Empty }) has)
  of_given _ w (Derives.by_one left a _ has d) = Derives.by_one left a w (in_both (record { left = left; right = One a }) has) (of_given a w d)
  of_given _ _ (Derives.by_two left a b v w has d e) = Derives.by_two left a b v w (in_both (record { left = left; right = Two a b }) has) (of_given a v d) (of_given b w e)

  given_below : (p : Production) → Contains given p → production_below base p ≡ true
  given_below p h = All-contains (λ (z : Production). production_below base z ≡ true) given p (AllPass-from_list_all (production_below base) given below) h

  -- a production with a low number is one of those that are given
  is_given : (p : Production) → Contains both p → p.left.0 < base → Contains given p
  is_given p h less =
      elim (Contains-append_cases given (kept marks base ps) p h) [
        | inl there ↦ there
        | inr other ↦
            let k = kept_from marks base ps p other in
            let e : base + k.source.left.0 ≡ p.left.0 = ap (λ (q : Production). q.left.0) k.is in
            absurd (omega (arith, e, less))
      ]

  pub to_given : (s : Symbol) (w : List Letter) → Derives both s w → symbol_below base s ≡ true → Derives given s w
  to_given _ _ (Derives.by_range r b within) low = Derives.by_range r b within
  to_given _ _ (Derives.by_token t) low = Derives.by_token t
  to_given _ _ (Derives.by_empty left has) low = Derives.by_empty left (is_given (record { left = left; right = Empty }) has (ltb-true left.0 base low))
  to_given _ w (Derives.by_one left a _ has d) low =
      let there = is_given (record { left = left; right = One a }) has (ltb-true left.0 base low) in
      let fits = and_parts (nat_lt left.0 base) (symbol_below base a && true) (given_below (record { left = left; right = One a }) there) in
      Derives.by_one left a w there (to_given a w d (and_parts (symbol_below base a) true fits.1).0)
  to_given _ _ (Derives.by_two left a b v w has d e) low =
      let there = is_given (record { left = left; right = Two a b }) has (ltb-true left.0 base low) in
      let fits = and_parts (nat_lt left.0 base) (symbol_below base a && (symbol_below base b && true)) (given_below (record { left = left; right = Two a b }) there) in
      let two = and_parts (symbol_below base a) (symbol_below base b && true) fits.1 in
      Derives.by_two left a b v w there (to_given a v d two.0) (to_given b w e (and_parts (symbol_below base b) true two.1).0)

  -- what the grammar derives is derived with higher numbers
  symbol_is_kept : (s : Symbol) (w : List Letter) → Derives ps s w → symbol_kept marks s ≡ true
  symbol_is_kept (Range r) w d = refl
  symbol_is_kept (Token t) w d = refl
  symbol_is_kept (Nt a) w d = mark_read marks a.0 ((exact a).1 (w, d))

  is_kept : (p : Production) → Contains ps p → right_kept marks p.right ≡ true → Contains both (moved_production base p)
  is_kept p h is = Contains-append_right given (kept marks base ps) (moved_production base p) (kept_has marks base ps p h is)

  pub of_request : (s : Symbol) (w : List Letter) → Derives ps s w → Derives both (moved_symbol base s) w
  of_request _ _ (Derives.by_range r b within) = Derives.by_range r b within
  of_request _ _ (Derives.by_token t) = Derives.by_token t
  of_request _ _ (Derives.by_empty left has) = Derives.by_empty (record { 0 = base + left.0 }) (is_kept (record { left = left; right = Empty }) has refl)
  of_request _ w (Derives.by_one left a _ has d) =
      Derives.by_one (record { 0 = base + left.0 }) (moved_symbol base a) w (is_kept (record { left = left; right = One a }) has (and_from (symbol_kept marks a) true (symbol_is_kept a w d) refl)) (of_request a w d)
  of_request _ _ (Derives.by_two left a b v w has d e) =
      Derives.by_two (record { 0 = base + left.0 }) (moved_symbol base a) (moved_symbol base b) v w
      (is_kept (record { left = left; right = Two a b }) has (and_from (symbol_kept marks a) (symbol_kept marks b && true) (symbol_is_kept a v d) (and_from (symbol_kept marks b) true (symbol_is_kept b w e) refl)))
      (of_request a v d) (of_request b w e)

  -- and nothing else is
  source_of : (p : Production) → Contains both p → base ≤ p.left.0 → Contains ps (lowered_production base p) × AreHigh base p.right
  source_of p h high =
      elim (Contains-append_cases given (kept marks base ps) p h) [
        | inl there ↦
            let less = ltb-true p.left.0 base (and_parts (nat_lt p.left.0 base) (list_all (symbol_below base) (symbols_of p.right)) (given_below p there)).0 in
            absurd (omega (arith, less, high))
        | inr other ↦
            let k = kept_from marks base ps p other in
            subst (λ (q : Production). Contains ps (lowered_production base q) × AreHigh base q.right) k.is (subst (λ (q : Production). Contains ps q) (sym (production_is base k.source)) k.has, moved_are_high base k.source.right)
      ]

  pub to_request : (s : Symbol) (w : List Letter) → Derives both s w → IsHigh base s → Derives ps (lowered_symbol base s) w
  unfolding lowered_symbol lowered_right lowered_production IsHigh AreHigh
  to_request _ _ (Derives.by_range r b within) high = Derives.by_range r b within
  to_request _ _ (Derives.by_token t) high = Derives.by_token t
  to_request _ _ (Derives.by_empty left has) high = Derives.by_empty (record { 0 = left.0 - base }) (source_of (record { left = left; right = Empty }) has high).0
  to_request _ w (Derives.by_one left a _ has d) high =
      let q = source_of (record { left = left; right = One a }) has high in
      Derives.by_one (record { 0 = left.0 - base }) (lowered_symbol base a) w q.0 (to_request a w d q.1)
  to_request _ _ (Derives.by_two left a b v w has d e) high =
      let q = source_of (record { left = left; right = Two a b }) has high in
      Derives.by_two (record { 0 = left.0 - base }) (lowered_symbol base a) (lowered_symbol base b) v w q.0 (to_request a v d q.1.0) (to_request b w e q.1.1)
