-- Tables in memory as those of lr_tables.
use Rattle.std.specs.Prelude.{ℕ, zero, suc, ◌-◌, ◌/◌, ◌%◌, nat_eq, if◌then◌else◌, List, [], ◌∷◌, ◌++◌, slice_index_or}
use Rattle.lr_tables.specs.declared.step.Step.{Step}
use Rattle.lr_tables.specs.declared.step.Step.TheVariants.{Fail, Go, Reduce, Accept}
use Rattle.lr_tables.specs.Machine as machine
use Rattle.lr_machine.specs.declared.tables.Tables.{Tables}

-- what a number says: 0 and 1 that nothing goes on and that the input is read, else the even ones a state, the odd ones a rule
abbrev pub step_for : ℕ → Step
step_for n = if nat_eq n 0 then Fail else (if nat_eq n 1 then Accept else (if nat_eq (n % 2) 0 then Go (n / 2 - 1) else Reduce (n / 2 - 1)))

-- the steps that the numbers of a row say
abbrev pub row_of : List ℕ → List Step
row_of [] = []
row_of (n ∷ ns) = step_for n ∷ row_of ns

-- the same of each row
abbrev pub steps_of : List (List ℕ) → List (List Step)
steps_of [] = []
steps_of (ns ∷ rows) = row_of ns ∷ steps_of rows

-- what the state of this number does at each nonterminal: a row of some, by its place there
abbrev pub gotos_of : List (List ℕ) → List ℕ → ℕ → List ℕ
gotos_of gotos [] s = []
gotos_of gotos (p ∷ places) zero = slice_index_or gotos p []
gotos_of gotos (p ∷ places) (suc s) = gotos_of gotos places s

-- what each state does at each symbol: at the terminals, and behind them at the nonterminals
abbrev pub rows_of : List (List ℕ) → List (List ℕ) → List ℕ → List (List ℕ)
rows_of [] gotos places = []
rows_of (row ∷ rows) gotos [] = row ∷ rows_of rows gotos []
rows_of (row ∷ rows) gotos (p ∷ places) = (row ++ slice_index_or gotos p []) ∷ rows_of rows gotos places

-- the tables in memory as those of the definitions
abbrev pub shown : {T : ℕ} {N : ℕ} → Tables T N → machine.Tables
shown t = record {
  grammar = record { terminals = t.terminals; start = t.start; rules = t.rules.now; lefts = t.lefts.now; rights = t.rights.now };
  rows = steps_of (rows_of t.rows.now t.gotos.now t.goto_of.now);
  accesses = t.accesses.now;
}
