-- The parts of a particle, one after another.
use Rattle.std.proofs.Common.{◌≡◌, ℕ, ◌+◌, ◌<◌, ◌≤◌, List, [], ◌∷◌, ◌++◌, drop, length, get_or, sym, ◌∙◌, ap, drop-cons, suc, zero, refl, arith}
use Rattle.std.proofs.lemmas.List.{append-nil}
use Rattle.std.specs.Prelude.{Result, Ok, Err, OnOk}
use Rattle.dtd_model.specs.declared.dtd.Particle.{Particle}
use Rattle.dtd_model.specs.Table.{Models, no_models, more_models, model_of, models_in}
use Rattle.dtd_model.specs.Matches.{may_be_empty}
use Rattle.content_automata.specs.declared.places.Behind.{Behind}
use Rattle.content_automata.specs.Positions.{Position, firsts, places, places_in_turn, places_of_each}
use Rattle.content_automata.specs.PlaceViews.{next_of}
use Rattle.content_automata.specs.Counts.{beginnings, ahead, pairs, pairs_in_turn, before_it}

-- the first of the parts that are left
pub next_part : (parts : List Particle) (i : ℕ) (part : Particle) → i < length parts → part ≡ get_or parts i part → models_in (drop i parts) ≡ more_models (model_of part) (models_in (drop (suc i) parts))
next_part parts i part h e = ap models_in (drop-cons parts i part h) ∙ ap (λ (p : Particle). more_models (model_of p) (models_in (drop (suc i) parts))) (sym e)

-- nothing is left behind the last of them
past_last : (parts : List Particle) (n : ℕ) → length parts ≤ n → drop n parts ≡ []
past_last [] zero h = refl
past_last [] (suc n) h = refl
past_last (p ∷ parts) zero h = absurd (omega (arith, h))
past_last (p ∷ parts) (suc n) h = past_last parts n (omega (arith, h))

pub no_more : (parts : List Particle) (n : ℕ) → length parts ≤ n → models_in (drop n parts) ≡ no_models
no_more parts n h = ap models_in (past_last parts n h)

last_part : (parts : List Particle) (i : ℕ) (part : Particle) → i < length parts → part ≡ get_or parts i part → i + 1 ≡ length parts → models_in (drop i parts) ≡ more_models (model_of part) no_models
last_part parts i part h e last = next_part parts i part h e ∙ ap (more_models (model_of part)) (no_more parts (suc i) (omega (arith, last)))

-- behind the last part of a sequence comes what may come behind the sequence
pub last_in_turn : (parts : List Particle) (i at : ℕ) (part : Particle) (b : Behind) → i < length parts → part ≡ get_or parts i part → i + 1 ≡ length parts → places_in_turn at (models_in (drop i parts)) (next_of b) ≡ places at (model_of part) (next_of b)
unfolding places firsts may_be_empty
last_in_turn parts i at part b h e last = ap (λ (ms : Models). places_in_turn at ms (next_of b)) (last_part parts i part h e last) ∙ append-nil (places at (model_of part) (next_of b))

pub last_of_each : (parts : List Particle) (i at : ℕ) (part : Particle) (b : Behind) → i < length parts → part ≡ get_or parts i part → i + 1 ≡ length parts → places_of_each at (models_in (drop i parts)) (next_of b) ≡ places at (model_of part) (next_of b)
unfolding places
last_of_each parts i at part b h e last = ap (λ (ms : Models). places_of_each at ms (next_of b)) (last_part parts i part h e last) ∙ append-nil (places at (model_of part) (next_of b))

-- what is put down at last
pub put_last : {E : Type 0} (r : Result (Unit {0}) E) (mid new put left all : List Position) → OnOk r (new ≡ mid ++ put) → left ≡ put → mid ++ left ≡ all → OnOk r (new ≡ all)
put_last (Ok x) mid new put left all made same was = made ∙ ap (λ (ps : List Position). mid ++ ps) (sym same) ∙ was
put_last (Err e) mid new put left all made same was = made

-- one part more, from the last to the first
pub pairs_more : (parts : List Particle) (i left : ℕ) (part : Particle) (behind sum next new added : ℕ) → i + 1 ≡ left → i < length parts → part ≡ get_or parts i part → sum ≡ pairs_in_turn (models_in (drop left parts)) behind → next ≡ ahead (models_in (drop left parts)) behind → added ≡ pairs (model_of part) next → new ≡ added + sum → new ≡ pairs_in_turn (models_in (drop i parts)) behind
unfolding pairs
pairs_more parts i left part behind sum next new added step h e was ahead_was made is =
    let at : suc i ≡ left = omega (arith, step) in
    is
    ∙ ap (λ (n : ℕ). added + n) (was ∙ ap (λ (k : ℕ). pairs_in_turn (models_in (drop k parts)) behind) (sym at))
    ∙ ap (λ (n : ℕ). n + pairs_in_turn (models_in (drop (suc i) parts)) behind) (made ∙ ap (pairs (model_of part)) (ahead_was ∙ ap (λ (k : ℕ). ahead (models_in (drop k parts)) behind) (sym at)))
    ∙ ap (λ (ms : Models). pairs_in_turn ms behind) (sym (next_part parts i part h e))

pub ahead_more : (parts : List Particle) (i left : ℕ) (part : Particle) (behind next new : ℕ) → i + 1 ≡ left → i < length parts → part ≡ get_or parts i part → next ≡ ahead (models_in (drop left parts)) behind → new ≡ before_it (model_of part) next → new ≡ ahead (models_in (drop i parts)) behind
unfolding beginnings
ahead_more parts i left part behind next new step h e was is =
    let at : suc i ≡ left = omega (arith, step) in
    is
    ∙ ap (before_it (model_of part)) (was ∙ ap (λ (k : ℕ). ahead (models_in (drop k parts)) behind) (sym at))
    ∙ ap (λ (ms : Models). ahead ms behind) (sym (next_part parts i part h e))

pub ruleset parts = (next_part)
