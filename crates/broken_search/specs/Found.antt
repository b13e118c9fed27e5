-- What a search for a broken page finds, and why it finds none.
use Rattle.std.specs.Prelude.{ℕ, List}
use Rattle.cfg_grammar.specs.declared.grammar.Grammar.{Grammar}
use Rattle.dtd_model.specs.Table.{Table}
use Rattle.derivations.specs.declared.derivation.Derivation.{Derivation}
use Rattle.page_model.specs.Broken.{Broken}
use Rattle.grammar_image.specs.declared.refusal.ImageRefusal.{ImageRefusal}
use Rattle.grammar_image.specs.declared.refusal.ImageRefusal.TheVariants.{Large, Memory}
use Rattle.grammar_image.specs.Refusals.{IsCause}
use Rattle.derivatives.specs.declared.arena.Arena.{Arena}
use Rattle.page_model.specs.Places.{Place}
use Rattle.way_reader.specs.declared.way.Way.{Way}
use Rattle.way_reader.specs.Ways.{first_state}
use Rattle.broken_readers.specs.Laws.{WayStep}
use Rattle.broken_readers.specs.Starts.{AreLooseWays}

-- it is a derivation of one of the pages, which is broken by the definition
pub record IsBrokenPage (table : Table) (IsPage : List ℕ → Type 0) (Derives : Derivation → List ℕ → Type 0) (derivation : Derivation) :
    Type 0 where
  pub page : List ℕ
  pub is_page : IsPage page
  pub broken : Broken table page
  pub derives : Derives derivation page

-- why a search has no answer: there are so many items, over the limit, in the image of the grammar under the machine that echoes with a
-- reader by ways that are the loose forms as wholes; want of memory says nothing
abbrev pub IsSearchCause : Table → Grammar → ℕ → ImageRefusal → Type 0
IsSearchCause table grammar items (Large count) = (a : Arena) × (starts : Place → List Way) × AreLooseWays table a starts
    × IsCause grammar.productions.items (WayStep a starts) grammar.start first_state items (Large count)
IsSearchCause table grammar items Memory = Unit {0}
