-- What a point does with slots and where it goes on, as flow_code says it, and the plain form of what the code keeps of it.
use Rattle.std.specs.Prelude.{ℕ, List, [], ◌∷◌, Option, map}
use Rattle.text_base.specs.declared.numbers.Slot.{Slot}
use Rattle.flow_code.specs.Points.{PlainPoint}
use Rattle.flow_code.specs.Lawful.{reads, sets, nexts}
use Rattle.flow_code.specs.View.{slot_number, maybe_slot}
use Rattle.flow_graph.specs.declared.step.Exits.{Exits}
use Rattle.flow_graph.specs.declared.step.Exits.TheVariants as exits
use Rattle.flow_graph.specs.declared.step.Step.{Step}

-- the slot that is set, where it goes on, and the slots that are read
pub record PlainStep : Type 0 where
  pub sets_of : Option ℕ
  pub nexts_of : List ℕ
  pub reads_of : List ℕ

-- what a point does with slots and where it goes on
abbrev pub step_of_point : PlainPoint → PlainStep
step_of_point i = record { sets_of = sets i; nexts_of = nexts i; reads_of = reads i }

-- the same for points in a row
abbrev pub steps_of_points : List PlainPoint → List PlainStep
steps_of_points is = map step_of_point is

-- the numbers of slots, in their order
abbrev pub numbers : List Slot → List ℕ
numbers xs = map slot_number xs

-- the plain form of where a point goes on
abbrev pub exits_seen : Exits → List ℕ
exits_seen exits.Ends = []
exits_seen (exits.On p) = p.0 ∷ []
exits_seen (exits.Either p q) = p.0 ∷ q.0 ∷ []

-- the plain form of what the code keeps of a point
abbrev pub step_seen : Step → PlainStep
step_seen s = record { sets_of = maybe_slot s.sets; nexts_of = exits_seen s.exits; reads_of = numbers s.reads.items }

-- the same for points in a row
abbrev pub steps_seen : List Step → List PlainStep
steps_seen xs = map step_seen xs
