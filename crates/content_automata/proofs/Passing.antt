-- What a content model and then a test take: laws that turn derivatives into tests.
use Rattle.std.proofs.Common.{◌≡◌, ℕ, ◌≤◌, Bool, true, false, ◌&&◌, ◌||◌, List, [], ◌∷◌, length, refl, ap, sym, ◌∙◌, arith}
use Rattle.std.specs.Prelude.{if◌then◌else◌}
use Rattle.dtd_model.specs.Table.{Model, sequence, choice, any_number, at_least_one, Models, no_models, more_models}
use Rattle.dtd_model.specs.Matches.{may_be_empty, after, after_first, after_each, both, model_matches}
use Rattle.content_automata.proofs.Bools.{or_false, and_joined, each_whole, choice_step, sequence_step, plus_step}

-- a match of the model stands first, and what is left passes the test
abbrev pub then_passes : Model → (List ℕ → Bool) → List ℕ → Bool
then_passes m test [] = may_be_empty m && test []
then_passes m test (e ∷ es) = (may_be_empty m && test (e ∷ es)) || then_passes (after e m) test es

abbrev pub is_nil : List ℕ → Bool
is_nil [] = true
is_nil (e ∷ es) = false

and_true : (a : Bool) → (a && true) ≡ a
and_true true = refl
and_true false = refl

and_false : (a : Bool) → (a && false) ≡ false
and_false true = refl
and_false false = refl

-- a match is one with nothing left
pub whole_match : (m : Model) (es : List ℕ) → then_passes m is_nil es ≡ model_matches m es
whole_match m [] = and_true (may_be_empty m)
whole_match m (e ∷ es) = ap (λ (b : Bool). b || then_passes (after e m) is_nil es) (and_false (may_be_empty m)) ∙ whole_match (after e m) es

-- only the tests of what may be left count
pub same_short : (m : Model) (p q : List ℕ → Bool) (n : ℕ) (es : List ℕ) → ((rest : List ℕ) → length rest ≤ n → p rest ≡ q rest) → length es ≤ n → then_passes m p es ≡ then_passes m q es
same_short m p q n [] h short = ap (λ (b : Bool). may_be_empty m && b) (h [] short)
same_short m p q n (e ∷ es) h short =
    ap (λ (b : Bool). (may_be_empty m && b) || then_passes (after e m) p es) (h (e ∷ es) short)
    ∙ ap (λ (b : Bool). (may_be_empty m && q (e ∷ es)) || b) (same_short (after e m) p q n es h (omega arith))

pub same_tests : (m : Model) (p q : List ℕ → Bool) (es : List ℕ) → ((rest : List ℕ) → p rest ≡ q rest) → then_passes m p es ≡ then_passes m q es
same_tests m p q es h = same_short m p q (length es) es (λ rest short. h rest) (omega arith)

pub never_passes : (test : List ℕ → Bool) (es : List ℕ) → then_passes (choice no_models) test es ≡ false
unfolding may_be_empty after
never_passes test [] = refl
never_passes test (e ∷ es) = never_passes test es

pub choice_passes : (m : Model) (ms : Models) (test : List ℕ → Bool) (es : List ℕ) → then_passes (choice (more_models m ms)) test es ≡ (then_passes m test es || then_passes (choice ms) test es)
unfolding may_be_empty after
choice_passes m ms test [] = each_whole (may_be_empty m) (may_be_empty (choice ms)) (test [])
choice_passes m ms test (e ∷ es) =
    ap (λ (b : Bool). (may_be_empty (choice (more_models m ms)) && test (e ∷ es)) || b) (choice_passes (after e m) (after_each e ms) test es)
    ∙ choice_step (may_be_empty m) (may_be_empty (choice ms)) (test (e ∷ es)) (then_passes (after e m) test es) (then_passes (choice (after_each e ms)) test es)

pub nothing_passes : (test : List ℕ → Bool) (es : List ℕ) → then_passes (sequence no_models) test es ≡ test es
unfolding may_be_empty after
nothing_passes test [] = refl
nothing_passes test (e ∷ es) = ap (λ (b : Bool). test (e ∷ es) || b) (never_passes test es) ∙ or_false (test (e ∷ es))

pub sequence_passes : (m : Model) (ms : Models) (test : List ℕ → Bool) (es : List ℕ) → then_passes (sequence (more_models m ms)) test es ≡ then_passes m (then_passes (sequence ms) test) es
unfolding may_be_empty after
sequence_passes m ms test [] = and_joined (may_be_empty m) (may_be_empty (sequence ms)) (test [])
sequence_passes m ms test (e ∷ es) =
    ap (λ (b : Bool). (may_be_empty (sequence (more_models m ms)) && test (e ∷ es)) || b)
    (choice_passes (sequence (more_models (after e m) ms)) (later (may_be_empty m)) test es
    ∙ ap (λ (b : Bool). b || then_passes (choice (later (may_be_empty m))) test es) (sequence_passes (after e m) ms test es)
    ∙ ap (λ (b : Bool). then_passes (after e m) (then_passes (sequence ms) test) es || b) (rest (may_be_empty m)))
    ∙ sequence_step (may_be_empty m) (may_be_empty (sequence ms)) (test (e ∷ es)) (then_passes (after e m) (then_passes (sequence ms) test) es) (then_passes (choice (after_first e ms)) test es)
  where
    later : Bool → Models
    later x = if x then after_first e ms else no_models

    rest : (x : Bool) → then_passes (choice (if x then after_first e ms else no_models)) test es ≡ (x && then_passes (choice (after_first e ms)) test es)
    rest true = refl
    rest false = never_passes test es

-- a particle and then another
pub both_pass : (a b : Model) (test : List ℕ → Bool) (es : List ℕ) → then_passes (both a b) test es ≡ then_passes a (then_passes b test) es
both_pass a b test es =
    sequence_passes a (more_models b no_models) test es
    ∙ same_tests a (then_passes (sequence (more_models b no_models)) test) (then_passes b test) es
    (λ rest. sequence_passes b no_models test rest ∙ same_tests b (then_passes (sequence no_models) test) test rest (nothing_passes test))

pub any_number_passes : (m : Model) (test : List ℕ → Bool) (e : ℕ) (es : List ℕ) → then_passes (any_number m) test (e ∷ es) ≡ (test (e ∷ es) || then_passes (after e m) (then_passes (any_number m) test) es)
unfolding may_be_empty after
any_number_passes m test e es = ap (λ (b : Bool). test (e ∷ es) || b) (both_pass (after e m) (any_number m) test es)

pub at_least_one_passes : (m : Model) (test : List ℕ → Bool) (es : List ℕ) → then_passes (at_least_one m) test es ≡ then_passes m (then_passes (any_number m) test) es
unfolding may_be_empty after
at_least_one_passes m test [] = refl
at_least_one_passes m test (e ∷ es) =
    ap (λ (b : Bool). (may_be_empty m && test (e ∷ es)) || b) (both_pass (after e m) (any_number m) test es)
    ∙ plus_step (may_be_empty m) (test (e ∷ es)) (then_passes (after e m) (then_passes (any_number m) test) es)
    ∙ sym (ap (λ (b : Bool). (may_be_empty m && b) || then_passes (after e m) (then_passes (any_number m) test) es) (any_number_passes m test e es))
