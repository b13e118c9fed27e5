-- Productions under new names.
use Rattle.std.proofs.Common.{◌≡◌, ℕ, zero, suc, ◌<◌, ◌≤◌, inl, inr, Bool, true, false, ◌&&◌, List, [], ◌∷◌, ◌++◌, length, Contains, Option, None, Some, refl, sym, ◌∙◌, ap, subst, arith}
use Rattle.std.specs.Prelude.{option_to_list, nat_lt}
use Rattle.std.specs.List.{list_all}
use Rattle.std.proofs.lemmas.Bool.{lt-ltb}
use Rattle.std.proofs.lemmas.List.Elements.{Contains-append_left, Contains-append_right, Contains-append_cases}
use Rattle.text_base.specs.declared.byte_range.ByteRange.{ByteRange}
use Rattle.text_base.specs.declared.page_token.PageToken.{PageToken}
use Rattle.text_base.specs.declared.numbers.Nt as nt
use Rattle.cfg_grammar.specs.declared.symbol.Symbol.{Symbol}
use Rattle.cfg_grammar.specs.declared.symbol.Symbol.TheVariants.{Range, Token, Nt}
use Rattle.cfg_grammar.specs.declared.production.Right.{Right}
use Rattle.cfg_grammar.specs.declared.production.Right.TheVariants.{Empty, One, Two}
use Rattle.cfg_grammar.specs.declared.production.Production.{Production}
use Rattle.cfg_grammar.specs.Below.{symbols_of, symbol_below, production_below}
use Rattle.useful_nonterminals.specs.Naming.{name_at, as_named, named_symbol, as_one, as_two, named_right, as_production, named_production, named_productions}

pub none_some : {X : Type 0} (x : X) → None ≡ Some x → ⊥
none_some x h = cc

pub some_same : {X : Type 0} (x y : X) → Some x ≡ Some y → x ≡ y
some_same x y h = cc

listed : {X : Type 0} (o : Option X) (x : X) → Contains (option_to_list o) x → o ≡ Some x
listed None x (n, l, e) = absurd (omega (arith, l))
listed (Some y) x (zero, l, e) = ap (λ z. Some z) e
listed (Some y) x (suc n, l, e) = absurd (omega (arith, l))

only_one : {X : Type 0} (y x : X) → Contains (y ∷ []) x → y ≡ x
only_one y x (zero, l, e) = e
only_one y x (suc n, l, e) = absurd (omega (arith, l))

module _ (names : List (Option ℕ)) where
  -- where a named production comes from
  pub named_in : (ps : List Production) (p' : Production) → Contains (named_productions names ps) p' → (p : Production) × Contains ps p × (named_production names p ≡ Some p')
  named_in [] p' c = absurd (let l = c.1 in omega (arith, l))
  named_in (p ∷ ps) p' c = elim (Contains-append_cases (option_to_list (named_production names p)) (named_productions names ps) p' c) [
    | inl here ↦ (p, (0, omega arith, refl), listed (named_production names p) p' here)
    | inr there ↦
        let found = named_in ps p' there in
        (found.0, Contains-append_right (p ∷ []) ps found.0 found.1, found.2)
  ]

  pub in_named : (ps : List Production) (p p' : Production) → Contains ps p → named_production names p ≡ Some p' → Contains (named_productions names ps) p'
  in_named [] p p' c e = absurd (let l = c.1 in omega (arith, l))
  in_named (q ∷ ps) p p' c e = elim (Contains-append_cases (q ∷ []) ps p c) [
    | inl here ↦
        let is : named_production names q ≡ Some p' = ap (named_production names) (only_one q p here) ∙ e in
        Contains-append_left (option_to_list (named_production names q)) (named_productions names ps) p' (subst (λ (o : Option Production). Contains (option_to_list o) p') (sym is) (0, omega arith, refl))
    | inr there ↦ Contains-append_right (option_to_list (named_production names q)) (named_productions names ps) p' (in_named ps p p' there e)
  ]

  pub as_few : (ps : List Production) → length (named_productions names ps) ≤ length ps
  as_few [] = omega arith
  as_few (p ∷ ps) = one (named_production names p) (named_productions names ps) (length ps) (as_few ps)
    where
      one : (o : Option Production) (xs : List Production) (n : ℕ) → length xs ≤ n → length (option_to_list o ++ xs) ≤ suc n
      one None xs n h = omega (arith, h)
      one (Some q) xs n h = omega (arith, h)

  -- what a name that is given says
  pub named_back : (o : Option ℕ) (x' : Symbol) → as_named o ≡ Some x' → (k : ℕ) × (o ≡ Some k) × (x' ≡ Nt (record { 0 = k }))
  named_back None x' e = absurd (none_some x' e)
  named_back (Some k) x' e = (k, refl, sym (some_same (Nt (record { 0 = k })) x' e))

  no_range : (o : Option ℕ) (range : ByteRange) → as_named o ≡ Some (Range range) → ⊥
  no_range None range e = cc
  no_range (Some k) range e = cc

  no_token : (o : Option ℕ) (token : PageToken) → as_named o ≡ Some (Token token) → ⊥
  no_token None token e = cc
  no_token (Some k) token e = cc

  pub range_back : (x : Symbol) (range : ByteRange) → named_symbol names x ≡ Some (Range range) → x ≡ Range range
  range_back (Range r) range e = some_same (Range r) (Range range) e
  range_back (Token t) range e = cc
  range_back (Nt a) range e = absurd (no_range (name_at names a) range e)

  pub token_back : (x : Symbol) (token : PageToken) → named_symbol names x ≡ Some (Token token) → x ≡ Token token
  token_back (Range r) token e = cc
  token_back (Token t) token e = some_same (Token t) (Token token) e
  token_back (Nt a) token e = absurd (no_token (name_at names a) token e)

  as_number : (o : Option ℕ) (left : nt.Nt) → as_named o ≡ Some (Nt left) → o ≡ Some left.0
  as_number None left e = cc
  as_number (Some k) left e = ap (λ (x : Symbol). number x) (some_same (Nt (record { 0 = k })) (Nt left) e)
    where
      number : Symbol → Option ℕ
      number (Range r) = None
      number (Token t) = None
      number (Nt a) = Some a.0

  pub nonterminal_back : (x : Symbol) (left : nt.Nt) → named_symbol names x ≡ Some (Nt left) → (a : nt.Nt) × (x ≡ Nt a) × (name_at names a ≡ Some left.0)
  nonterminal_back (Range r) left e = cc
  nonterminal_back (Token t) left e = cc
  nonterminal_back (Nt a) left e = (a, refl, as_number (name_at names a) left e)

  pub production_back : (o : Option ℕ) (r : Option Right) (p' : Production) → as_production o r ≡ Some p' → (o ≡ Some p'.left.0) × (r ≡ Some p'.right)
  production_back None r p' e = absurd (none_some p' e)
  production_back (Some k) None p' e = absurd (none_some p' e)
  production_back (Some k) (Some r) p' e =
      let same = some_same (record { left = record { 0 = k }; right = r }) p' e in
      (ap (λ (p : Production). Some p.left.0) same, ap (λ (p : Production). Some p.right) same)

  not_one : (o : Option Symbol) → as_one o ≡ Some Empty → ⊥
  not_one None e = cc
  not_one (Some a) e = cc

  not_two : (o q : Option Symbol) → as_two o q ≡ Some Empty → ⊥
  not_two None q e = cc
  not_two (Some a) None e = cc
  not_two (Some a) (Some b) e = cc

  two_is_not_one : (o q : Option Symbol) (a' : Symbol) → as_two o q ≡ Some (One a') → ⊥
  two_is_not_one None q a' e = cc
  two_is_not_one (Some a) None a' e = cc
  two_is_not_one (Some a) (Some b) a' e = cc

  one_is_not_two : (o : Option Symbol) (a' b' : Symbol) → as_one o ≡ Some (Two a' b') → ⊥
  one_is_not_two None a' b' e = cc
  one_is_not_two (Some a) a' b' e = cc

  one_is : (o : Option Symbol) (a' : Symbol) → as_one o ≡ Some (One a') → o ≡ Some a'
  one_is None a' e = cc
  one_is (Some a) a' e = let same : a ≡ a' = cc in ap (λ (x : Symbol). Some x) same

  two_are : (o q : Option Symbol) (a' b' : Symbol) → as_two o q ≡ Some (Two a' b') → (o ≡ Some a') × (q ≡ Some b')
  two_are None q a' b' e = absurd (none_some (Two a' b') e)
  two_are (Some a) None a' b' e = absurd (none_some (Two a' b') e)
  two_are (Some a) (Some b) a' b' e =
      let one : a ≡ a' = cc in
      let two : b ≡ b' = cc in
      (ap (λ (x : Symbol). Some x) one, ap (λ (x : Symbol). Some x) two)

  pub empty_back : (r : Right) → named_right names r ≡ Some Empty → r ≡ Empty
  empty_back Empty e = refl
  empty_back (One a) e = absurd (not_one (named_symbol names a) e)
  empty_back (Two a b) e = absurd (not_two (named_symbol names a) (named_symbol names b) e)

  pub one_back : (r : Right) (a' : Symbol) → named_right names r ≡ Some (One a') → (a : Symbol) × (r ≡ One a) × (named_symbol names a ≡ Some a')
  one_back Empty a' e = cc
  one_back (One a) a' e = (a, refl, one_is (named_symbol names a) a' e)
  one_back (Two a b) a' e = absurd (two_is_not_one (named_symbol names a) (named_symbol names b) a' e)

  pub two_back : (r : Right) (a' b' : Symbol) → named_right names r ≡ Some (Two a' b') → (a : Symbol) × (b : Symbol) × (r ≡ Two a b) × (named_symbol names a ≡ Some a') × (named_symbol names b ≡ Some b')
  two_back Empty a' b' e = cc
  two_back (One a) a' b' e = absurd (one_is_not_two (named_symbol names a) a' b' e)
  two_back (Two a b) a' b' e =
      let k = two_are (named_symbol names a) (named_symbol names b) a' b' e in
      (a, b, refl, k.0, k.1)

  -- a token that stands in a named right side stands in the one that it comes from
  pub token_stands : (r r' : Right) (token : PageToken) → named_right names r ≡ Some r' → Contains (symbols_of r') (Token token) → Contains (symbols_of r) (Token token)
  token_stands r Empty token e c = absurd (let l = c.1 in omega (arith, l))
  token_stands r (One a') token e c =
      let k = one_back r a' e in
      let is : k.0 ≡ Token token = token_back k.0 token (k.2 ∙ ap (λ (x : Symbol). Some x) (only_one a' (Token token) c)) in
      subst (λ (q : Right). Contains (symbols_of q) (Token token)) (sym k.1) (0, omega arith, is)
  token_stands r (Two a' b') token e c =
      let k = two_back r a' b' e in
      subst (λ (q : Right). Contains (symbols_of q) (Token token)) (sym k.2) (elim (Contains-append_cases (a' ∷ []) (b' ∷ []) (Token token) c) [
        | inl first ↦ (0, omega arith, token_back k.0 token (k.3 ∙ ap (λ (x : Symbol). Some x) (only_one a' (Token token) first)))
        | inr second ↦ (1, omega arith, token_back k.1 token (k.4 ∙ ap (λ (x : Symbol). Some x) (only_one b' (Token token) second)))
      ])

  -- names are below a count
  module _ (count : ℕ) (below : (a : nt.Nt) (k : ℕ) → name_at names a ≡ Some k → k < count) where
    symbol_fits : (x x' : Symbol) → named_symbol names x ≡ Some x' → symbol_below count x' ≡ true
    symbol_fits x (Range r) e = refl
    symbol_fits x (Token t) e = refl
    symbol_fits x (Nt left) e = let k = nonterminal_back x left e in lt-ltb left.0 count (below k.0 left.0 k.2)

    both_true : (a b : Bool) → a ≡ true → b ≡ true → (a && b) ≡ true
    both_true true b h k = k
    both_true false b h k = h

    right_fits : (r r' : Right) → named_right names r ≡ Some r' → list_all (symbol_below count) (symbols_of r') ≡ true
    right_fits r Empty e = refl
    right_fits r (One a') e = let k = one_back r a' e in both_true (symbol_below count a') true (symbol_fits k.0 a' k.2) refl
    right_fits r (Two a' b') e =
        let k = two_back r a' b' e in
        both_true (symbol_below count a') (symbol_below count b' && true) (symbol_fits k.0 a' k.3) (both_true (symbol_below count b') true (symbol_fits k.1 b' k.4) refl)

    pub all_below : (ps : List Production) → list_all (production_below count) (named_productions names ps) ≡ true
    all_below [] = refl
    all_below (p ∷ ps) = one (named_production names p) refl (named_productions names ps) (all_below ps)
      where
        one : (o : Option Production) → named_production names p ≡ o → (xs : List Production) → list_all (production_below count) xs ≡ true → list_all (production_below count) (option_to_list o ++ xs) ≡ true
        one None e xs h = h
        one (Some p') e xs h =
            let k = production_back (name_at names p.left) (named_right names p.right) p' e in
            both_true (production_below count p') (list_all (production_below count) xs)
            (both_true (nat_lt p'.left.0 count) (list_all (symbol_below count) (symbols_of p'.right)) (lt-ltb p'.left.0 count (below p.left p'.left.0 k.0)) (right_fits p.right p'.right k.1))
            h
