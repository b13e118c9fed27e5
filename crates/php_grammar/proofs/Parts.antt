-- A check of many states in parts, each of which is computed alone, since what one declaration may compute has a limit.
use Rattle.std.proofs.Common.{◌≡◌, ℕ, zero, suc, Bool, true, List, [], ◌∷◌, refl, subst, sym}
use Rattle.std.specs.Prelude.{slice_index_or, take, drop}
use Rattle.std.proofs.lemmas.Bool.{and_parts, and_from}
use Rattle.lr_tables.specs.declared.step.Step.{Step}
use Rattle.lr_tables.specs.Certificates.{State, behind}
use Rattle.lr_tables.specs.Checks.{state_ok, states_ok}
use Rattle.lr_tables.specs.FrontChecks.{row_enters, rows_enter}

one_less : (n : ℕ) (xs : List ℕ) → behind n (behind 1 xs) ≡ behind (suc n) xs
one_less zero [] = refl
one_less (suc n) [] = refl
one_less n (x ∷ xs) = refl

module _ (lefts rights : List ℕ) (terminals : ℕ) (facts : List (ℕ × Bool × ℕ)) (rules : List (ℕ × List ℕ × ℕ × ℕ)) (all : List State) where
  abbrev okay : List ℕ → List (List Step) → List State → Bool
  okay = states_ok lefts rights terminals facts rules all

  -- the first n states pass, and the others
  pub states_in_parts : (n : ℕ) (accesses : List ℕ) (rows : List (List Step)) (states : List State) → okay accesses rows (take n states) ≡ true
      → okay (behind n accesses) (drop n rows) (drop n states) ≡ true → okay accesses rows states ≡ true
  states_in_parts zero accesses rows states h k = k
  states_in_parts (suc n) accesses rows [] h k = refl
  states_in_parts (suc n) accesses [] (state ∷ states) h k = h
  states_in_parts (suc n) accesses (row ∷ rows) (state ∷ states) h k =
      let parts = and_parts (state_ok lefts rights terminals facts rules all (slice_index_or accesses 0 0) row state) (okay (behind 1 accesses) rows (take n states)) h in
      and_from _ _ parts.0 (states_in_parts n (behind 1 accesses) rows states parts.1
      (subst (λ (xs : List ℕ). okay xs (drop n rows) (drop n states) ≡ true) (sym (one_less n accesses)) k))

module _ (terminals : ℕ) (lefts rights : List ℕ) (rules : List (ℕ × List ℕ × ℕ × ℕ)) (samples : List (ℕ × ℕ × List ℕ)) (all : List State) where
  abbrev enter : List ℕ → List State → List (List Step) → Bool
  enter = rows_enter terminals lefts rights rules samples all

  -- the first n rows pass, and the others
  pub rows_in_parts : (n : ℕ) (accesses : List ℕ) (states : List State) (rows : List (List Step)) → enter accesses states (take n rows) ≡ true
      → enter (behind n accesses) (drop n states) (drop n rows) ≡ true → enter accesses states rows ≡ true
  rows_in_parts zero accesses states rows h k = k
  rows_in_parts (suc n) accesses states [] h k = refl
  rows_in_parts (suc n) accesses [] (row ∷ rows) h k = h
  rows_in_parts (suc n) accesses (state ∷ states) (row ∷ rows) h k =
      let parts = and_parts (row_enters terminals lefts rights rules samples all (slice_index_or accesses 0 0) state 0 row) (enter (behind 1 accesses) states (take n rows)) h in
      and_from _ _ parts.0 (rows_in_parts n (behind 1 accesses) states rows parts.1
      (subst (λ (xs : List ℕ). enter xs (drop n states) (drop n rows) ≡ true) (sym (one_less n accesses)) k))
