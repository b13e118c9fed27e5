-- What each step of the worklist adds. No public clause cites it.
use Rattle.std.specs.Prelude.{◌≡◌, ◌≤◌, ◌+◌, ◌⊎◌, ℕ, List, ◌∷◌, [], ◌++◌, Contains, length}
use Rattle.numbered_sets.specs.Numbers.{Keeps}
use Rattle.least_sets.specs.Forms.{Form}
use Rattle.least_sets.specs.Simulations.{Alike}
use Rattle.loose_sets.specs.declared.name.SetName.{SetName}
use Rattle.given_texts.specs.Closed.{Closed}
use Rattle.system_writing.specs.Forms.{all_names, text_bytes}
use Rattle.system_writing.specs.Drafts.{IsAt, IsDraft}
use Rattle.system_writing.specs.Sizes.{numbers_due, lines_due}
use Rattle.extraction.specs.declared.work.Work.{Work}
use Rattle.extraction.specs.Numbered.{NamedIn, rows_of_name, bytes_of}

-- each name has a nonterminal
abbrev pub IsPaired : Work → Type 0
IsPaired work = length work.numbers.items ≡ length work.names.keys

-- the nonterminal of a name
abbrev pub HasNumber : Work → SetName → ℕ → Type 0
HasNumber work n k = IsAt work.names.keys work.numbers.items n k

-- the draft stands for these rows
abbrev pub Stands : List (SetName × Form SetName) → List SetName → Closed → Work → Type 0
Stands rows starts closed work = IsDraft rows starts work.names.keys work.numbers.items closed work.draft

-- names that have the property were added, each with a nonterminal; those that were there keep theirs
pub record Adds (old new : Work) (P : SetName → Type 0) : Type 0 where
  pub names : Keeps old.names.keys new.names.keys
  pub numbers : Keeps old.numbers.items new.numbers.items
  pub paired : IsPaired new
  pub only : (n : SetName) → Contains new.names.keys n → Contains old.names.keys n ⊎ P n

-- nonterminals for the names that were added, and so many more at most, and so many productions and rules
abbrev pub Grows : Work → Work → ℕ → ℕ → Type 0
Grows old new n m =
    (numbers_due new.draft + length old.names.keys ≤ numbers_due old.draft + length new.names.keys + n)
    × (lines_due new.draft ≤ lines_due old.draft + m)

-- the name has the nonterminal, and nothing else was added
pub record IsNameNumbered (old new : Work) (n : SetName) (k : ℕ) : Type 0 where
  pub adds : Adds old new (λ m. m ≡ n)
  pub at : HasNumber new n k
  pub stands : (rows : List (SetName × Form SetName)) (starts : List SetName) (closed : Closed) → Stands rows starts closed old
      → Stands rows starts closed new
  pub grows : Grows old new 0 0

-- each name in the form has its nonterminal, and nothing else was added
pub record IsFormNumbered (old new : Work) (f : Form SetName) (g : Form ℕ) : Type 0 where
  pub adds : Adds old new (Contains (all_names f))
  pub alike : Alike (HasNumber new) f g
  pub stands : (rows : List (SetName × Form SetName)) (starts : List SetName) (closed : Closed) → Stands rows starts closed old
      → Stands rows starts closed new
  pub grows : Grows old new 0 0

-- a row was written for this form of a name that has this nonterminal
pub record IsRowWritten (old new : Work) (set : ℕ) (f : Form SetName) : Type 0 where
  pub adds : Adds old new (Contains (all_names f))
  pub stands : (rows : List (SetName × Form SetName)) (starts : List SetName) (closed : Closed) (n : SetName) → HasNumber old n set
      → Stands rows starts closed old → Stands (rows ++ (n, f) ∷ []) starts closed new
  pub grows : Grows old new (text_bytes f) (text_bytes f + 1)

-- a row was written for each of these forms of a name that has this nonterminal
pub record AddsRows (old new : Work) (P : SetName → Type 0) (set : ℕ) (forms : List (Form SetName)) : Type 0 where
  pub adds : Adds old new P
  pub stands : (rows : List (SetName × Form SetName)) (starts : List SetName) (closed : Closed) (n : SetName) → HasNumber old n set
      → Stands rows starts closed old → Stands (rows ++ rows_of_name n forms) starts closed new
  pub grows : Grows old new (bytes_of forms) (length forms + bytes_of forms)

-- the name may be asked for, and stands in one of the forms
pub record AskedIn (asks : SetName → Type 0) (forms : List (Form SetName)) (n : SetName) : Type 0 where
  pub asked : asks n
  pub named : NamedIn forms n

-- the system begins with the sets of these names too
pub record Begins (old new : Work) (names : List SetName) : Type 0 where
  pub adds : Adds old new (Contains names)
  pub stands : (rows : List (SetName × Form SetName)) (starts : List SetName) (closed : Closed) → Stands rows starts closed old
      → Stands rows (starts ++ names) closed new
  pub grows : Grows old new 0 (length names)
