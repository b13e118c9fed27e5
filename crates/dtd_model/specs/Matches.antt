-- When a list of child elements fits a content model, by derivatives (XML 1.0, 3.2.1; Brzozowski 1964).
use Rattle.std.specs.Prelude.{ℕ, Bool, true, false, ◌==◌, ◌&&◌, ◌||◌, if◌then◌else◌, List, [], ◌∷◌, nat_eq, nat_lt}
use Rattle.std.specs.List.{list_all, list_any}
use Rattle.dtd_model.specs.Table.{Model, one, sequence, choice, optional, any_number, at_least_one, Models, no_models, more_models, Holding, nothing, anything, text_and, children}

-- the particle matches no element at all
unfoldable mutual
  -- whether the empty list of elements matches the particle
  pub may_be_empty : Model → Bool
  may_be_empty (one e) = false
  may_be_empty (sequence ms) = all_may_be_empty ms
  may_be_empty (choice ms) = some_may_be_empty ms
  may_be_empty (optional m) = true
  may_be_empty (any_number m) = true
  may_be_empty (at_least_one m) = may_be_empty m

  -- whether the empty list matches each of the particles, so that it matches their sequence
  pub all_may_be_empty : Models → Bool
  all_may_be_empty no_models = true
  all_may_be_empty (more_models m ms) = may_be_empty m && all_may_be_empty ms

  -- whether the empty list matches one of the particles, so that it matches the choice among them
  pub some_may_be_empty : Models → Bool
  some_may_be_empty no_models = false
  some_may_be_empty (more_models m ms) = may_be_empty m || some_may_be_empty ms

-- one particle, and then another
abbrev pub both : Model → Model → Model
both a b = sequence (more_models a (more_models b no_models))

-- what may follow the element `e`, where the particle begins with it
unfoldable mutual
  -- the derivative of the particle by the element: matched by just the lists that match the particle once the element is put before them
  pub after : ℕ → Model → Model
  after e (one f) = if e == f then sequence no_models else choice no_models
  after e (sequence ms) = choice (after_first e ms)
  after e (choice ms) = choice (after_each e ms)
  after e (optional m) = after e m
  after e (any_number m) = both (after e m) (any_number m)
  after e (at_least_one m) = both (after e m) (any_number m)

  -- of a sequence: the element stands in its first particle, or in a later one if those before may be empty
  pub after_first : ℕ → Models → Models
  after_first e no_models = no_models
  after_first e (more_models m ms) =
      more_models (sequence (more_models (after e m) ms)) (if may_be_empty m then after_first e ms else no_models)

  -- of a choice: the derivative of each of its particles, in their order
  pub after_each : ℕ → Models → Models
  after_each e no_models = no_models
  after_each e (more_models m ms) = more_models (after e m) (after_each e ms)

-- the particle matches these elements in turn
abbrev pub model_matches : Model → List ℕ → Bool
model_matches m [] = may_be_empty m
model_matches m (e ∷ es) = model_matches (after e m) es

-- these elements in turn are what an element may hold, where so many are declared
abbrev pub matches : ℕ → Holding → List ℕ → Bool
matches count nothing [] = true
matches count nothing (e ∷ es) = false
matches count anything es = list_all (λ e. nat_lt e count) es
matches count (text_and allowed) es = list_all (λ e. list_any (nat_eq e) allowed) es
matches count (children m) es = model_matches m es
