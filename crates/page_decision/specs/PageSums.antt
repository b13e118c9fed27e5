-- Which summary goes with a goal.
use Rattle.std.specs.Prelude.{◌≡◌, ⊤}
use Rattle.dtd_model.specs.Table.{Table}
use Rattle.page_automata.specs.PageAutomaton.{parts_of}
use Rattle.segment_summary.specs.declared.segments.Segments.{Segments}
use Rattle.segment_summary.specs.Parts.{parts_in}
use Rattle.page_decision.specs.declared.goal.Goal.{Goal}
use Rattle.page_decision.specs.Telling.{AreStatesOf}
use Rattle.page_decision.specs.declared.sums.PageSums.{PageSums}

-- the segments are those of the definition, over states that decide it
pub record AreSegmentsOf (table : Table) (segments : Segments) : Type 0 where
  pub states : AreStatesOf table (parts_in segments).states
  pub parts : parts_in segments ≡ parts_of table (parts_in segments).states

-- the summary is that of the goal
abbrev pub AreSumsOf : Goal → Table → PageSums → Type 0
AreSumsOf Goal.Valid table (PageSums.BySegments segments) = AreSegmentsOf table segments
AreSumsOf Goal.Valid table (PageSums.ByNesting nesting) = ⊥
AreSumsOf Goal.Nested table (PageSums.BySegments segments) = ⊥
AreSumsOf Goal.Nested table (PageSums.ByNesting nesting) = ⊤
