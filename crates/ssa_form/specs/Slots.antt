-- Slots that points read.
use Rattle.std.specs.Prelude.{◌≡◌, ℕ, Some, Contains}
use Rattle.flow_code.specs.Points.{PlainPoint, PlainFlow, point_at}
use Rattle.flow_code.specs.Lawful.{reads}

-- some point reads the slot
pub record IsReadSlot (flow : PlainFlow) (x : ℕ) : Type 0 where
  pub number : ℕ
  pub point : PlainPoint
  pub there : point_at flow number ≡ Some point
  pub it : Contains (reads point) x
