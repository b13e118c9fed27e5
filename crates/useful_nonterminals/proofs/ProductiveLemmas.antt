-- What derives something, and what is useful, is what follows.
use Rattle.std.proofs.Common.{◌≡◌, ℕ, ◌<◌, ◌⊎◌, ◌↔◌, inl, inr, zero, suc, Bool, true, false, ◌&&◌, ◌==◌, if◌then◌else◌, List, [], ◌∷◌, ◌++◌, length, get_or, Contains, refl, sym, ◌∙◌, ap, subst, arith, Option, Some, None, true≢false}
use Rattle.std.specs.Cmp.{first_so, second_so}
use Rattle.std.proofs.lemmas.Option.{same_Some, get_or_from_slice_get, slice_get_read}
use Rattle.std.proofs.lemmas.Bool.{cases_lt, eqb-true}
use Rattle.std.proofs.lemmas.List.{get_or_default, get_or_past}
use Rattle.text_base.specs.declared.letter.Letter.{Letter}
use Rattle.text_base.specs.declared.letter.Letter.TheVariants.{OfByte, OfToken}
use Rattle.text_base.specs.declared.numbers.Nt as nt
use Rattle.cfg_grammar.specs.declared.symbol.Symbol.{Symbol}
use Rattle.cfg_grammar.specs.declared.symbol.Symbol.TheVariants.{Range, Token, Nt}
use Rattle.cfg_grammar.specs.declared.production.Right.{Right}
use Rattle.cfg_grammar.specs.declared.production.Right.TheVariants.{Empty, One, Two}
use Rattle.cfg_grammar.specs.declared.production.Production.{Production}
use Rattle.cfg_grammar.specs.Derives.{Derives}
use Rattle.useful_nonterminals.specs.declared.rule.Rule.{Rule}
use Rattle.useful_nonterminals.specs.Follows.{Follows, IsMarked}
use Rattle.useful_nonterminals.specs.Useful.{IsProductive, IsUseful}
use Rattle.useful_nonterminals.specs.Rules.{number_in, numbers_in, fact_for, rule_for, facts_of, rules_of, steps_to, step_for, steps_of, start_of}
use Rattle.useful_nonterminals.proofs.RuleLemmas.{in_flat_map, flat_map_has, IsOn, numbers_none, numbers_some, numbers_are}

only : {X : Type 0} (y x : X) → Contains (y ∷ []) x → y ≡ x
only y x (zero, l, e) = e
only y x (suc n, l, e) = absurd (omega (arith, l))

none_in : {X : Type 0} (x : X) → Contains [] x → ⊥
none_in x c = absurd (omega (arith, c.1))

in_fact : (left n : ℕ) (o : Option (ℕ × ℕ)) → Contains (fact_for left o) n → (left ≡ n) × (o ≡ None)
in_fact left n None c = (only left n c, refl)
in_fact left n (Some ab) c = absurd (none_in n c)

in_rule : (left : ℕ) (rule : Rule) (o : Option (ℕ × ℕ)) → Contains (rule_for left o) rule → (ab : ℕ × ℕ) × (o ≡ Some ab) × (ab.0 ≡ rule.first) × (ab.1 ≡ rule.second) × (left ≡ rule.conclusion)
in_rule left rule None c = absurd (none_in rule c)
in_rule left rule (Some ab) c = let e = only _ rule c in (ab, refl, ap (λ (r : Rule). r.first) e, ap (λ (r : Rule). r.second) e, ap (λ (r : Rule). r.conclusion) e)

module _ (ps : List Production) where
  -- what derives something, by its number
  abbrev Makes : ℕ → Type 0
  Makes n = IsProductive ps (record { 0 = n })

  symbol_makes : (a : Symbol) → ((n : ℕ) → number_in a ≡ Some n → Makes n) → (w : List Letter) × Derives ps a w
  symbol_makes (Range range) f = (OfByte range.lo ∷ [], Derives.by_range range range.lo (omega arith, range.ordered))
  symbol_makes (Token token) f = (OfToken token ∷ [], Derives.by_token token)
  symbol_makes (Nt a) f = f a.0 refl

  production_makes : (left : nt.Nt) (r : Right) → Contains ps (record { left = left; right = r }) → ((n : ℕ) → IsOn n r → Makes n) → IsProductive ps left
  production_makes left Empty c f = ([], Derives.by_empty left c)
  production_makes left (One a) c f = let p = symbol_makes a f in (p.0, Derives.by_one left a p.0 c p.1)
  production_makes left (Two a b) c f =
      let p = symbol_makes a (λ n e. f n (inl e)) in
      let q = symbol_makes b (λ n e. f n (inr e)) in
      (p.0 ++ q.0, Derives.by_two left a b p.0 q.0 c p.1 q.1)

  pub follows_makes : (n : ℕ) → Follows (facts_of ps) (rules_of ps) n → Makes n
  follows_makes n (Follows.by_fact k c) =
      let p = in_flat_map (λ (p : Production). fact_for p.left.0 (numbers_in p.right)) ps n c in
      let e = in_fact p.0.left.0 n (numbers_in p.0.right) p.2 in
      subst Makes e.0 (production_makes p.0.left p.0.right p.1 (λ k h. absurd (numbers_none p.0.right k e.1 h)))
  follows_makes n (Follows.by_rule a b k c f g) =
      let p = in_flat_map (λ (p : Production). rule_for p.left.0 (numbers_in p.right)) ps (record { first = a; second = b; conclusion = n }) c in
      let e = in_rule p.0.left.0 (record { first = a; second = b; conclusion = n }) (numbers_in p.0.right) p.2 in
      subst Makes e.4 (production_makes p.0.left p.0.right p.1 (λ k h. elim (numbers_some p.0.right k e.0 e.1 h) [
        | inl same ↦ subst Makes (sym e.2 ∙ same) (follows_makes a f)
        | inr same ↦ subst Makes (sym e.3 ∙ same) (follows_makes b g)
      ]))

  -- where all nonterminals on the right follow, the left does
  left_follows : (left : nt.Nt) (r : Right) → Contains ps (record { left = left; right = r }) → ((n : ℕ) → IsOn n r → Follows (facts_of ps) (rules_of ps) n) → Follows (facts_of ps) (rules_of ps) left.0
  left_follows left r c f = by_numbers (numbers_in r) refl
    where
      by_numbers : (o : Option (ℕ × ℕ)) → numbers_in r ≡ o → Follows (facts_of ps) (rules_of ps) left.0
      by_numbers None e =
          Follows.by_fact left.0 (flat_map_has (λ (p : Production). fact_for p.left.0 (numbers_in p.right)) ps (record { left = left; right = r }) left.0 c
          (subst (λ (o : Option (ℕ × ℕ)). Contains (fact_for left.0 o) left.0) (sym e) (0, omega arith, refl)))
      by_numbers (Some ab) e =
          let h = numbers_are r ab e in
          Follows.by_rule ab.0 ab.1 left.0
          (flat_map_has (λ (p : Production). rule_for p.left.0 (numbers_in p.right)) ps (record { left = left; right = r }) (record { first = ab.0; second = ab.1; conclusion = left.0 }) c
          (subst (λ (o : Option (ℕ × ℕ)). Contains (rule_for left.0 o) (record { first = ab.0; second = ab.1; conclusion = left.0 })) (sym e) (0, omega arith, refl)))
          (f ab.0 h.0) (f ab.1 h.1)

  derives_follows : (a : Symbol) (w : List Letter) → Derives ps a w → (n : ℕ) → number_in a ≡ Some n → Follows (facts_of ps) (rules_of ps) n
  derives_follows a w (Derives.by_range range byte i) n e = cc
  derives_follows a w (Derives.by_token token) n e = cc
  derives_follows a w (Derives.by_empty left c) n e = subst (Follows (facts_of ps) (rules_of ps)) (same_Some left.0 n e) (left_follows left Empty c (λ k h. absurd h))
  derives_follows a w (Derives.by_one left b v c d) n e =
      subst (Follows (facts_of ps) (rules_of ps)) (same_Some left.0 n e) (left_follows left (One b) c (λ k h. derives_follows b v d k h))
  derives_follows a w (Derives.by_two left b d u v c f g) n e =
      subst (Follows (facts_of ps) (rules_of ps)) (same_Some left.0 n e) (left_follows left (Two b d) c (λ k h. elim h [
        | inl one ↦ derives_follows b u f k one
        | inr other ↦ derives_follows d v g k other
      ]))

  pub productive_follows : (a : nt.Nt) → IsProductive ps a ↔ Follows (facts_of ps) (rules_of ps) a.0
  productive_follows a = (λ p. derives_follows (Nt a) p.0 p.1 a.0 refl, λ f. follows_makes a.0 f)

  -- what is useful, where what derives something is marked
  module _ (start : nt.Nt) (marks : List Bool) (exact : (a : nt.Nt) → IsMarked marks a.0 ↔ IsProductive ps a) where
    test_makes : (n : ℕ) → get_or marks n false ≡ true → Makes n
    test_makes n e =
        elim (cases_lt n (length marks)) [
          | inl below ↦ (exact (record { 0 = n })).0 (slice_get_read marks (length marks) n true refl below (sym (at_default below)))
          | inr above ↦ absurd (true≢false (sym e ∙ get_or_past marks n false above))
        ]
      where
        at_default : n < length marks → get_or marks n true ≡ true
        at_default below = get_or_default marks n true false below ∙ e

    makes_test : (n : ℕ) → Makes n → get_or marks n false ≡ true
    makes_test n p = get_or_from_slice_get marks n true false ((exact (record { 0 = n })).1 p)

    abbrev Steps : ℕ → Type 0
    Steps n = Follows (start_of marks start.0) (steps_of marks ps) n

    in_start : (test : Bool) (s n : ℕ) → Contains (if test then s ∷ [] else []) n → (test ≡ true) × (s ≡ n)
    in_start true s n c = (refl, only s n c)
    in_start false s n c = absurd (none_in n c)

    in_second : (same : Bool) (left b : ℕ) (rule : Rule) → Contains (if same then [] else record { first = left; second = left; conclusion = b } ∷ []) rule → (left ≡ rule.first) × (b ≡ rule.conclusion)
    in_second true left b rule c = absurd (none_in rule c)
    in_second false left b rule c = let e = only _ rule c in (ap (λ (r : Rule). r.first) e, ap (λ (r : Rule). r.conclusion) e)

    in_step_if : (test : Bool) (left a b : ℕ) (rule : Rule) → Contains (if test then steps_to left a b else []) rule → (test ≡ true) × (left ≡ rule.first) × ((a ≡ rule.conclusion) ⊎ (b ≡ rule.conclusion))
    in_step_if true left a b rule (zero, l, e) = (refl, ap (λ (r : Rule). r.first) e, inl (ap (λ (r : Rule). r.conclusion) e))
    in_step_if true left a b rule (suc n, l, e) = let h = in_second (a == b) left b rule (n, omega (arith, l), e) in (refl, h.0, inr h.1)
    in_step_if false left a b rule c = absurd (none_in rule c)

    in_step : (left : ℕ) (rule : Rule) (o : Option (ℕ × ℕ)) → Contains (step_for marks left o) rule → (ab : ℕ × ℕ) × (o ≡ Some ab) × ((get_or marks ab.0 false && get_or marks ab.1 false) ≡ true) × (left ≡ rule.first) × ((ab.0 ≡ rule.conclusion) ⊎ (ab.1 ≡ rule.conclusion))
    in_step left rule None c = absurd (none_in rule c)
    in_step left rule (Some ab) c = let h = in_step_if (get_or marks ab.0 false && get_or marks ab.1 false) left ab.0 ab.1 rule c in (ab, refl, h.0, h.1, h.2)

    -- what stands on the right of a useful production is useful
    useful_on : (left : nt.Nt) (r : Right) → Contains ps (record { left = left; right = r }) → IsUseful ps start left → ((n : ℕ) → IsOn n r → Makes n) → (n : ℕ) → IsOn n r → IsUseful ps start (record { 0 = n })
    useful_on left Empty c u f n h = absurd h
    useful_on left (One (Range range)) c u f n h = cc
    useful_on left (One (Token token)) c u f n h = cc
    useful_on left (One (Nt a)) c u f n h =
        let p = f a.0 refl in
        subst (λ (k : ℕ). IsUseful ps start (record { 0 = k })) (same_Some a.0 n h) (IsUseful.alone left a p.0 u c p.1)
    useful_on left (Two (Range range) b) c u f n (inl h) = cc
    useful_on left (Two (Token token) b) c u f n (inl h) = cc
    useful_on left (Two (Nt a) b) c u f n (inl h) =
        let p = f a.0 (inl refl) in
        let q = symbol_makes b (λ k e. f k (inr e)) in
        subst (λ (k : ℕ). IsUseful ps start (record { 0 = k })) (same_Some a.0 n h) (IsUseful.as_first left a b p.0 q.0 u c p.1 q.1)
    useful_on left (Two b (Range range)) c u f n (inr h) = cc
    useful_on left (Two b (Token token)) c u f n (inr h) = cc
    useful_on left (Two b (Nt a)) c u f n (inr h) =
        let p = symbol_makes b (λ k e. f k (inl e)) in
        let q = f a.0 (inr refl) in
        subst (λ (k : ℕ). IsUseful ps start (record { 0 = k })) (same_Some a.0 n h) (IsUseful.as_second left a b p.0 q.0 u c p.1 q.1)

    both_make : (r : Right) (ab : ℕ × ℕ) → numbers_in r ≡ Some ab → (get_or marks ab.0 false && get_or marks ab.1 false) ≡ true → (n : ℕ) → IsOn n r → Makes n
    both_make r ab e t n h =
        elim (numbers_some r n ab e h) [
          | inl same ↦ subst Makes same (test_makes ab.0 (first_so (get_or marks ab.0 false) (get_or marks ab.1 false) t))
          | inr same ↦ subst Makes same (test_makes ab.1 (second_so (get_or marks ab.0 false) (get_or marks ab.1 false) t))
        ]

    follows_useful : (n : ℕ) → Steps n → IsUseful ps start (record { 0 = n })
    follows_useful n (Follows.by_fact k c) =
        let e = in_start (get_or marks start.0 false) start.0 n c in
        let p = test_makes start.0 e.0 in
        subst (λ (k : ℕ). IsUseful ps start (record { 0 = k })) e.1 (IsUseful.at_start p.0 p.1)
    follows_useful n (Follows.by_rule a b k c f g) =
        let p = in_flat_map (λ (p : Production). step_for marks p.left.0 (numbers_in p.right)) ps (record { first = a; second = b; conclusion = n }) c in
        let e = in_step p.0.left.0 (record { first = a; second = b; conclusion = n }) (numbers_in p.0.right) p.2 in
        let u : IsUseful ps start p.0.left = subst (λ (x : ℕ). IsUseful ps start (record { 0 = x })) (sym e.3) (follows_useful a f) in
        let o = numbers_are p.0.right e.0 e.1 in
        elim e.4 [
          | inl same ↦ subst (λ (x : ℕ). IsUseful ps start (record { 0 = x })) same (useful_on p.0.left p.0.right p.1 u (both_make p.0.right e.0 e.1 e.2) e.0.0 o.0)
          | inr same ↦ subst (λ (x : ℕ). IsUseful ps start (record { 0 = x })) same (useful_on p.0.left p.0.right p.1 u (both_make p.0.right e.0 e.1 e.2) e.0.1 o.1)
        ]

    has_start : (test : Bool) (s : ℕ) → test ≡ true → Contains (if test then s ∷ [] else []) s
    has_start true s e = (0, omega arith, refl)
    has_start false s e = cc

    has_second : (same : Bool) (left a b : ℕ) → (same ≡ true → a ≡ b) → Contains {X = Rule} (record { first = left; second = left; conclusion = a } ∷ (if same then [] else record { first = left; second = left; conclusion = b } ∷ [])) (record { first = left; second = left; conclusion = b })
    has_second true left a b e = (0, omega arith, ap (λ (n : ℕ). record { first = left; second = left; conclusion = n }) (e refl))
    has_second false left a b e = (1, omega arith, refl)

    has_step : (test : Bool) (left a b : ℕ) → test ≡ true → Contains {X = Rule} (if test then steps_to left a b else []) (record { first = left; second = left; conclusion = a }) × Contains {X = Rule} (if test then steps_to left a b else []) (record { first = left; second = left; conclusion = b })
    has_step true left a b e = ((0, omega arith, refl), has_second (a == b) left a b (eqb-true a b))
    has_step false left a b e = cc

    both_true : (x y : Bool) → x ≡ true → y ≡ true → (x && y) ≡ true
    both_true true true e f = refl
    both_true true false e f = f
    both_true false y e f = e

    -- what stands on the right is reached from the left
    reached_on : (left : nt.Nt) (r : Right) → Contains ps (record { left = left; right = r }) → Steps left.0 → ((n : ℕ) → IsOn n r → Makes n) → (n : ℕ) → IsOn n r → Steps n
    reached_on left r c s f n h = by_numbers (numbers_in r) refl
      where
        by_numbers : (o : Option (ℕ × ℕ)) → numbers_in r ≡ o → Steps n
        by_numbers None e = absurd (numbers_none r n e h)
        by_numbers (Some ab) e =
            let o = numbers_are r ab e in
            let t = has_step (get_or marks ab.0 false && get_or marks ab.1 false) left.0 ab.0 ab.1 (both_true _ _ (makes_test ab.0 (f ab.0 o.0)) (makes_test ab.1 (f ab.1 o.1))) in
            let step : (rule : Rule) → Contains (step_for marks left.0 (Some ab)) rule → Contains (steps_of marks ps) rule = λ rule d.
            flat_map_has (λ (p : Production). step_for marks p.left.0 (numbers_in p.right)) ps (record { left = left; right = r }) rule c
            (subst (λ (z : Option (ℕ × ℕ)). Contains (step_for marks left.0 z) rule) (sym e) d) in
            elim (numbers_some r n ab e h) [
              | inl same ↦ subst Steps same (Follows.by_rule left.0 left.0 ab.0 (step (record { first = left.0; second = left.0; conclusion = ab.0 }) t.0) s s)
              | inr same ↦ subst Steps same (Follows.by_rule left.0 left.0 ab.1 (step (record { first = left.0; second = left.0; conclusion = ab.1 }) t.1) s s)
            ]

    derived_makes : (b : Symbol) (w : List Letter) → Derives ps b w → (n : ℕ) → number_in b ≡ Some n → Makes n
    derived_makes b w d n e = follows_makes n (derives_follows b w d n e)

    useful_steps : (a : nt.Nt) → IsUseful ps start a → Steps a.0
    useful_steps a (IsUseful.at_start w d) = Follows.by_fact start.0 (has_start (get_or marks start.0 false) start.0 (makes_test start.0 (w, d)))
    useful_steps a (IsUseful.alone left b w u c d) = reached_on left (One (Nt b)) c (useful_steps left u) (λ n e. derived_makes (Nt b) w d n e) a.0 refl
    useful_steps a (IsUseful.as_first left b s v w u c d e) =
        reached_on left (Two (Nt b) s) c (useful_steps left u) (λ n h. elim h [ inl one ↦ derived_makes (Nt b) v d n one | inr other ↦ derived_makes s w e n other ]) a.0 (inl refl)
    useful_steps a (IsUseful.as_second left b s v w u c d e) =
        reached_on left (Two s (Nt b)) c (useful_steps left u) (λ n h. elim h [ inl one ↦ derived_makes s v d n one | inr other ↦ derived_makes (Nt b) w e n other ]) a.0 (inr refl)

    pub useful_follows : (a : nt.Nt) → IsUseful ps start a ↔ Follows (start_of marks start.0) (steps_of marks ps) a.0
    useful_follows a = (useful_steps a, λ f. follows_useful a.0 f)

pub same_both : {A B C : Type 0} → (A ↔ B) → (C ↔ B) → (A ↔ C)
same_both p q = (λ a. q.1 (p.0 a), λ c. p.1 (q.0 c))

pub follows_along : {A : Type 0} {facts others : List ℕ} {rules steps : List Rule} (n : ℕ) → facts ≡ others → rules ≡ steps → (A ↔ Follows facts rules n) → (A ↔ Follows others steps n)
follows_along {A} {facts} {others} {rules} {steps} n e f h = subst (λ (xs : List ℕ). A ↔ Follows xs steps n) e (subst (λ (rs : List Rule). A ↔ Follows facts rs n) f h)
