-- What the rules of productions say of derivations.
use Rattle.std.proofs.Common.{◌≡◌, ℕ, ◌<◌, ◌⊎◌, inl, inr, zero, suc, Bool, true, false, ◌&&◌, ◌==◌, if◌then◌else◌, List, [], ◌∷◌, get_or, Contains, refl, sym, ◌∙◌, ap, subst, arith, Option, Some, None}
use Rattle.std.specs.List.{All, flat_map, list_all}
use Rattle.std.specs.Cmp.{first_so, second_so}
use Rattle.std.proofs.lemmas.List.Elements.{Contains-append_cases, Contains-append_left, Contains-append_right, All-nil, All-cons, All-append}
use Rattle.std.proofs.lemmas.Bool.{ltb-true}
use Rattle.std.proofs.lemmas.Option.{same_Some}
use Rattle.cfg_grammar.specs.declared.symbol.Symbol.{Symbol}
use Rattle.cfg_grammar.specs.declared.symbol.Symbol.TheVariants.{Range, Token, Nt}
use Rattle.cfg_grammar.specs.declared.production.Right.{Right}
use Rattle.cfg_grammar.specs.declared.production.Right.TheVariants.{Empty, One, Two}
use Rattle.cfg_grammar.specs.declared.production.Production.{Production}
use Rattle.cfg_grammar.specs.Below.{symbol_below, production_below, symbols_of}
use Rattle.useful_nonterminals.specs.Follows.{IsRuleBelow}
use Rattle.useful_nonterminals.specs.Rules.{number_in, both, numbers_in, fact_for, rule_for, facts_of, rules_of, steps_to, step_for, steps_of, start_of}

-- members of a list that is joined of lists
pub in_flat_map : {X Y : Type 0} (f : X → List Y) (xs : List X) (y : Y) → Contains (flat_map f xs) y → (x : X) × Contains xs x × Contains (f x) y
in_flat_map f [] y c = absurd (omega (arith, c.1))
in_flat_map {X} {Y} f (x ∷ xs) y c =
    elim (Contains-append_cases (f x) (flat_map f xs) y c) [
      | inl here ↦ (x, (0, omega arith, refl), here)
      | inr later ↦ let r = in_flat_map f xs y later in (r.0, Contains-append_right (x ∷ []) xs r.0 r.1, r.2)
    ]

only : {X : Type 0} (y x : X) → Contains (y ∷ []) x → y ≡ x
only y x (zero, l, e) = e
only y x (suc n, l, e) = absurd (omega (arith, l))

pub flat_map_has : {X Y : Type 0} (f : X → List Y) (xs : List X) (x : X) (y : Y) → Contains xs x → Contains (f x) y → Contains (flat_map f xs) y
flat_map_has f [] x y c d = absurd (omega (arith, c.1))
flat_map_has {X} {Y} f (z ∷ xs) x y c d =
    elim (Contains-append_cases (z ∷ []) xs x c) [
      | inl here ↦ Contains-append_left (f z) (flat_map f xs) y (subst (λ (w : X). Contains (f w) y) (sym (only z x here)) d)
      | inr later ↦ Contains-append_right (f z) (flat_map f xs) y (flat_map_has f xs x y later d)
    ]

-- the nonterminals on the right
abbrev pub IsOn : ℕ → Right → Type 0
IsOn n Empty = ⊥
IsOn n (One a) = number_in a ≡ Some n
IsOn n (Two a b) = (number_in a ≡ Some n) ⊎ (number_in b ≡ Some n)

pair_of_some : (a b : ℕ) (ab : ℕ × ℕ) → Some (a, b) ≡ Some ab → (a ≡ ab.0) × (b ≡ ab.1)
pair_of_some a b ab e =
    let one : (a, b) ≡ ab = same_Some (a, b) ab e in
    (ap (λ (p : ℕ × ℕ). p.0) one, ap (λ (p : ℕ × ℕ). p.1) one)

both_none : (a b : Option ℕ) (n : ℕ) → both a b ≡ None → ((a ≡ Some n) ⊎ (b ≡ Some n)) → ⊥
both_none None None n e (inl h) = cc
both_none None None n e (inr h) = cc
both_none None (Some b) n e h = cc
both_none (Some a) None n e h = cc
both_none (Some a) (Some b) n e h = cc

both_some : (a b : Option ℕ) (n : ℕ) (ab : ℕ × ℕ) → both a b ≡ Some ab → ((a ≡ Some n) ⊎ (b ≡ Some n)) → (ab.0 ≡ n) ⊎ (ab.1 ≡ n)
both_some None None n ab e h = cc
both_some None (Some b) n ab e (inl h) = cc
both_some None (Some b) n ab e (inr h) = inl (sym (pair_of_some b b ab e).0 ∙ same_Some b n h)
both_some (Some a) None n ab e (inl h) = inl (sym (pair_of_some a a ab e).0 ∙ same_Some a n h)
both_some (Some a) None n ab e (inr h) = cc
both_some (Some a) (Some b) n ab e (inl h) = inl (sym (pair_of_some a b ab e).0 ∙ same_Some a n h)
both_some (Some a) (Some b) n ab e (inr h) = inr (sym (pair_of_some a b ab e).1 ∙ same_Some b n h)

both_are : (a b : Option ℕ) (ab : ℕ × ℕ) → both a b ≡ Some ab → ((a ≡ Some ab.0) ⊎ (b ≡ Some ab.0)) × ((a ≡ Some ab.1) ⊎ (b ≡ Some ab.1))
both_are None None ab e = cc
both_are None (Some b) ab e = let p = pair_of_some b b ab e in (inr (ap Some p.0), inr (ap Some p.1))
both_are (Some a) None ab e = let p = pair_of_some a a ab e in (inl (ap Some p.0), inl (ap Some p.1))
both_are (Some a) (Some b) ab e = let p = pair_of_some a b ab e in (inl (ap Some p.0), inr (ap Some p.1))

pub numbers_none : (r : Right) (n : ℕ) → numbers_in r ≡ None → IsOn n r → ⊥
numbers_none Empty n e h = h
numbers_none (One a) n e h = both_none (number_in a) None n e (inl h)
numbers_none (Two a b) n e h = both_none (number_in a) (number_in b) n e h

pub numbers_some : (r : Right) (n : ℕ) (ab : ℕ × ℕ) → numbers_in r ≡ Some ab → IsOn n r → (ab.0 ≡ n) ⊎ (ab.1 ≡ n)
numbers_some Empty n ab e h = absurd h
numbers_some (One a) n ab e h = both_some (number_in a) None n ab e (inl h)
numbers_some (Two a b) n ab e h = both_some (number_in a) (number_in b) n ab e h

pub numbers_are : (r : Right) (ab : ℕ × ℕ) → numbers_in r ≡ Some ab → IsOn ab.0 r × IsOn ab.1 r
numbers_are Empty ab e = cc
numbers_are (One a) ab e = let p = both_are (number_in a) None ab e in (one ab.0 p.0, one ab.1 p.1)
  where
    one : (n : ℕ) → ((number_in a ≡ Some n) ⊎ (None ≡ Some n)) → number_in a ≡ Some n
    one n (inl h) = h
    one n (inr h) = cc
numbers_are (Two a b) ab e = both_are (number_in a) (number_in b) ab e

-- numbers are below the count
symbol_is_below : (count n : ℕ) (a : Symbol) → symbol_below count a ≡ true → number_in a ≡ Some n → n < count
symbol_is_below count n (Range r) h e = cc
symbol_is_below count n (Token t) h e = cc
symbol_is_below count n (Nt a) h e = subst (λ (k : ℕ). k < count) (same_Some a.0 n e) (ltb-true a.0 count h)

right_is_below : (count n : ℕ) (r : Right) → list_all (symbol_below count) (symbols_of r) ≡ true → IsOn n r → n < count
right_is_below count n Empty h o = absurd o
right_is_below count n (One a) h o = symbol_is_below count n a (first_so (symbol_below count a) true h) o
right_is_below count n (Two a b) h (inl o) = symbol_is_below count n a (first_so (symbol_below count a) (symbol_below count b && true) h) o
right_is_below count n (Two a b) h (inr o) = symbol_is_below count n b (first_so (symbol_below count b) true (second_so (symbol_below count a) (symbol_below count b && true) h)) o

module _ (count : ℕ) where
  fact_below : (left : ℕ) (o : Option (ℕ × ℕ)) → left < count → All (λ (n : ℕ). n < count) (fact_for left o)
  fact_below left None l = All-cons (λ (n : ℕ). n < count) left [] l (All-nil (λ (n : ℕ). n < count))
  fact_below left (Some ab) l = All-nil (λ (n : ℕ). n < count)

  rule_is_below : (left : ℕ) (o : Option (ℕ × ℕ)) → left < count → ((ab : ℕ × ℕ) → o ≡ Some ab → (ab.0 < count) × (ab.1 < count)) → All (IsRuleBelow count) (rule_for left o)
  rule_is_below left None l f = All-nil (IsRuleBelow count)
  rule_is_below left (Some ab) l f =
      let p = f ab refl in
      All-cons (IsRuleBelow count) (record { first = ab.0; second = ab.1; conclusion = left }) [] (record { first = p.0; second = p.1; conclusion = l }) (All-nil (IsRuleBelow count))

  second_below : (same : Bool) (left b : ℕ) → left < count → b < count → All (IsRuleBelow count) (if same then [] else record { first = left; second = left; conclusion = b } ∷ [])
  second_below true left b l m = All-nil (IsRuleBelow count)
  second_below false left b l m =
      All-cons (IsRuleBelow count) (record { first = left; second = left; conclusion = b }) [] (record { first = l; second = l; conclusion = m }) (All-nil (IsRuleBelow count))

  step_if_below : (test : Bool) (left a b : ℕ) → left < count → a < count → b < count → All (IsRuleBelow count) (if test then steps_to left a b else [])
  step_if_below true left a b l k m =
      All-cons (IsRuleBelow count) (record { first = left; second = left; conclusion = a }) (if a == b then [] else record { first = left; second = left; conclusion = b } ∷ [])
      (record { first = l; second = l; conclusion = k }) (second_below (a == b) left b l m)
  step_if_below false left a b l k m = All-nil (IsRuleBelow count)

  step_is_below : (marks : List Bool) (left : ℕ) (o : Option (ℕ × ℕ)) → left < count → ((ab : ℕ × ℕ) → o ≡ Some ab → (ab.0 < count) × (ab.1 < count)) → All (IsRuleBelow count) (step_for marks left o)
  step_is_below marks left None l f = All-nil (IsRuleBelow count)
  step_is_below marks left (Some ab) l f = let p = f ab refl in step_if_below (get_or marks ab.0 false && get_or marks ab.1 false) left ab.0 ab.1 l p.0 p.1

  left_below : (p : Production) → production_below count p ≡ true → p.left.0 < count
  left_below p h = ltb-true p.left.0 count (first_so _ _ h)

  pair_below : (p : Production) → production_below count p ≡ true → (ab : ℕ × ℕ) → numbers_in p.right ≡ Some ab → (ab.0 < count) × (ab.1 < count)
  pair_below p h ab e =
      let o = numbers_are p.right ab e in
      let all : list_all (symbol_below count) (symbols_of p.right) ≡ true = second_so _ _ h in
      (right_is_below count ab.0 p.right all o.0, right_is_below count ab.1 p.right all o.1)

  pub facts_below : (ps : List Production) → list_all (production_below count) ps ≡ true → All (λ (n : ℕ). n < count) (facts_of ps)
  facts_below [] h = All-nil (λ (n : ℕ). n < count)
  facts_below (p ∷ ps) h =
      All-append (λ (n : ℕ). n < count) (fact_for p.left.0 (numbers_in p.right)) (facts_of ps)
      (fact_below p.left.0 (numbers_in p.right) (left_below p (first_so (production_below count p) (list_all (production_below count) ps) h)))
      (facts_below ps (second_so (production_below count p) (list_all (production_below count) ps) h))

  pub rules_below : (ps : List Production) → list_all (production_below count) ps ≡ true → All (IsRuleBelow count) (rules_of ps)
  rules_below [] h = All-nil (IsRuleBelow count)
  rules_below (p ∷ ps) h =
      let here = first_so (production_below count p) (list_all (production_below count) ps) h in
      All-append (IsRuleBelow count) (rule_for p.left.0 (numbers_in p.right)) (rules_of ps)
      (rule_is_below p.left.0 (numbers_in p.right) (left_below p here) (pair_below p here))
      (rules_below ps (second_so (production_below count p) (list_all (production_below count) ps) h))

  pub steps_below : (marks : List Bool) (ps : List Production) → list_all (production_below count) ps ≡ true → All (IsRuleBelow count) (steps_of marks ps)
  steps_below marks [] h = All-nil (IsRuleBelow count)
  steps_below marks (p ∷ ps) h =
      let here = first_so (production_below count p) (list_all (production_below count) ps) h in
      All-append (IsRuleBelow count) (step_for marks p.left.0 (numbers_in p.right)) (steps_of marks ps)
      (step_is_below marks p.left.0 (numbers_in p.right) (left_below p here) (pair_below p here))
      (steps_below marks ps (second_so (production_below count p) (list_all (production_below count) ps) h))

  start_if_below : (test : Bool) (start : ℕ) → start < count → All (λ (n : ℕ). n < count) (if test then start ∷ [] else [])
  start_if_below true start l = All-cons (λ (n : ℕ). n < count) start [] l (All-nil (λ (n : ℕ). n < count))
  start_if_below false start l = All-nil (λ (n : ℕ). n < count)

  pub start_below : (marks : List Bool) (start : ℕ) → start < count → All (λ (n : ℕ). n < count) (start_of marks start)
  start_below marks start l = start_if_below (get_or marks start false) start l
