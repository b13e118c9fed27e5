-- What tables promise that pass the check. Sentences are those of `IsDerived`, so of derivations in which each rule stands behind and before
-- what its powers allow.
use Rattle.std.specs.Prelude.{◌≡◌, ℕ, ◌+◌, ◌-◌, ◌<◌, true, List, [], length}
use Rattle.lr_tables.specs.declared.event.Event as event
use Rattle.lr_tables.specs.Grammars.{Grammar, IsDerived, IsFirstWrong}
use Rattle.lr_tables.specs.Machine.{Tables, Read, Wrong, run}
use Rattle.lr_tables.specs.Certificates.{Certificate}
use Rattle.lr_tables.specs.Checks.{moves_ok, tables_ok, paid, weight_of}
use Rattle.lr_tables.specs.FrontChecks.{is_certified}

-- tables with a certificate that a computation accepts
pub record AreChecked (t : Tables) : Type 0 where
  pub certificate : Certificate
  pub passes : is_certified t certificate ≡ true

-- whatever is read is derived, by what is told of it
abbrev pub IsSound : Type 0
IsSound = (t : Tables) → moves_ok t ≡ true → (n : ℕ) (ks : List ℕ) (es : List event.Event) → run t n [] ks ≡ Read es → IsDerived t.grammar ks es

-- Whatever is derived is read, with what is told of it, in as many turns as the tokens pay for and a few more: so nothing else is derived
-- of these tokens.
abbrev pub IsComplete : Type 0
IsComplete = (t : Tables) (c : Certificate) → tables_ok t c.most c.facts c.states ≡ true → (ks : List ℕ) (es : List event.Event) → IsDerived t.grammar ks es
    → (n : ℕ) → paid c.most ks + weight_of t.grammar.terminals c.facts t.grammar.start < n → run t n [] ks ≡ Read es

-- where the machine stops before tokens, the first of them is the first that no sentence goes on with
abbrev pub IsPlaced : Type 0
IsPlaced = (t : Tables) → AreChecked t → (n : ℕ) (ks left : List ℕ) → run t n [] ks ≡ Wrong left → IsFirstWrong t.grammar ks (length ks - length left)

-- tokens have one such place at most, whatever the grammar is
abbrev pub IsOnePlace : Type 0
IsOnePlace = (g : Grammar) (ks : List ℕ) (one other : ℕ) → IsFirstWrong g ks one → IsFirstWrong g ks other → one ≡ other
