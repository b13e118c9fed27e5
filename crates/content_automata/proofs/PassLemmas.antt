-- Each lawful content model has a match, before whatever passes a test.
use Rattle.std.proofs.Common.{◌≡◌, ℕ, zero, suc, ◌<◌, Bool, true, false, ◌&&◌, ◌||◌, List, [], ◌∷◌, ◌++◌, inl, inr, refl, ap, ◌∙◌, subst, arith}
use Rattle.std.specs.Prelude.{if◌then◌else◌}
use Rattle.std.specs.Cmp.{first_so, second_so}
use Rattle.std.proofs.lemmas.Bool.{eq-eqb, ltb-true}
use Rattle.std.proofs.lemmas.List.Elements.{Contains-append_cases}
use Rattle.dtd_model.specs.Table.{Model, one, sequence, choice, optional, any_number, at_least_one, Models, no_models, more_models}
use Rattle.dtd_model.specs.Matches.{may_be_empty, after}
use Rattle.dtd_model.specs.Lawful.{is_within, are_within, has_matches, all_have_matches, is_nonempty}
use Rattle.content_automata.proofs.Passing.{then_passes, nothing_passes, sequence_passes, choice_passes, at_least_one_passes}
use Rattle.content_automata.specs.Tables.{AreElements}

-- some elements that are declared pass the test
pub record Passes (count : ℕ) (test : List ℕ → Bool) : Type 0 where
  pub list : List ℕ
  pub below : AreElements count list
  pub passes : test list ≡ true

or_left : (a b : Bool) → a ≡ true → (a || b) ≡ true
or_left true b h = refl
or_left false b h = absurd (let no : ⊥ = cc in no)

or_right : (a b : Bool) → b ≡ true → (a || b) ≡ true
or_right true b h = refl
or_right false b h = h

pub one_more : (count e : ℕ) (es : List ℕ) → e < count → AreElements count es → AreElements count (e ∷ es)
one_more count e es h below d (zero, w, is) = subst (λ (k : ℕ). k < count) is h
one_more count e es h below d (suc i, w, is) = below d (i, omega (arith, w), is)

pub both_below : (count : ℕ) (es fs : List ℕ) → AreElements count es → AreElements count fs → AreElements count (es ++ fs)
both_below count es fs a b d is = elim (Contains-append_cases es fs d is) [ inl in_es ↦ a d in_es | inr in_fs ↦ b d in_fs ]

-- nothing of the model, and then what passes
empty_passes : (m : Model) (test : List ℕ → Bool) (es : List ℕ) → may_be_empty m ≡ true → test es ≡ true → then_passes m test es ≡ true
empty_passes m test [] e h = ap (λ (b : Bool). b && test []) e ∙ h
empty_passes m test (d ∷ es) e h = or_left (may_be_empty m && test (d ∷ es)) (then_passes (after d m) test es) (ap (λ (b : Bool). b && test (d ∷ es)) e ∙ h)

one_passes : (e : ℕ) (test : List ℕ → Bool) (es : List ℕ) → test es ≡ true → then_passes (one e) test (e ∷ es) ≡ true
unfolding may_be_empty after
one_passes e test es h =
    ap (λ (b : Bool). then_passes (if b then sequence no_models else choice no_models) test es) (eq-eqb e e refl) ∙ nothing_passes test es ∙ h

mutual
  unfolding may_be_empty after is_within has_matches

  pub passes_model : (count : ℕ) (m : Model) (test : List ℕ → Bool) → is_within count m ≡ true → has_matches m ≡ true → Passes count test → Passes count (then_passes m test)
  passes_model count (one e) test w h p = record { list = e ∷ p.list; below = one_more count e p.list (ltb-true e count w) p.below; passes = one_passes e test p.list p.passes }
  passes_model count (sequence ms) test w h p = passes_in_turn count ms test w h p
  passes_model count (choice ms) test w h p = passes_some count ms test w (first_so (is_nonempty ms) (all_have_matches ms) h) (second_so (is_nonempty ms) (all_have_matches ms) h) p
  passes_model count (optional m) test w h p = record { list = p.list; below = p.below; passes = empty_passes (optional m) test p.list refl p.passes }
  passes_model count (any_number m) test w h p = record { list = p.list; below = p.below; passes = empty_passes (any_number m) test p.list refl p.passes }
  passes_model count (at_least_one m) test w h p =
      let again : Passes count (then_passes (any_number m) test) = record { list = p.list; below = p.below; passes = empty_passes (any_number m) test p.list refl p.passes } in
      let found = passes_model count m (then_passes (any_number m) test) w h again in
      record { list = found.list; below = found.below; passes = at_least_one_passes m test found.list ∙ found.passes }

  pub passes_in_turn : (count : ℕ) (ms : Models) (test : List ℕ → Bool) → are_within count ms ≡ true → all_have_matches ms ≡ true → Passes count test → Passes count (then_passes (sequence ms) test)
  passes_in_turn count no_models test w h p = record { list = p.list; below = p.below; passes = nothing_passes test p.list ∙ p.passes }
  passes_in_turn count (more_models m ms) test w h p =
      let others = passes_in_turn count ms test (second_so (is_within count m) (are_within count ms) w) (second_so (has_matches m) (all_have_matches ms) h) p in
      let found = passes_model count m (then_passes (sequence ms) test) (first_so (is_within count m) (are_within count ms) w) (first_so (has_matches m) (all_have_matches ms) h) others in
      record { list = found.list; below = found.below; passes = sequence_passes m ms test found.list ∙ found.passes }

  pub passes_some : (count : ℕ) (ms : Models) (test : List ℕ → Bool) → are_within count ms ≡ true → is_nonempty ms ≡ true → all_have_matches ms ≡ true → Passes count test → Passes count (then_passes (choice ms) test)
  passes_some count no_models test w n h p = cc
  passes_some count (more_models m ms) test w n h p =
      let found = passes_model count m test (first_so (is_within count m) (are_within count ms) w) (first_so (has_matches m) (all_have_matches ms) h) p in
      record { list = found.list; below = found.below; passes = choice_passes m ms test found.list ∙ or_left (then_passes m test found.list) (then_passes (choice ms) test found.list) found.passes }
