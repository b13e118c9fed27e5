-- What the work on an image keeps.
use Rattle.std.specs.Prelude.{◌≡◌, ◌<◌, ℕ, List, Some, slice_get, All}
use Rattle.text_base.specs.declared.byte_range.ByteRange.{ByteRange}
use Rattle.text_base.specs.declared.letter.Letter.{Letter}
use Rattle.cfg_grammar.specs.declared.symbol.Symbol.TheVariants.{Range}
use Rattle.cfg_grammar.specs.declared.production.Production.{Production}
use Rattle.grammar_chart.specs.declared.chart.Chart.{Chart}
use Rattle.grammar_chart.specs.Kept.{IsChartOf}
use Rattle.grammar_image.specs.Answers.{IsReading, IsAnsweredAt}

-- the chart is one over the numbers of states that the machine gave, each reading is a step of the machine, and the
-- machine was asked by each range that is opened
pub record IsWorked {S : Type 0} (steps : S → ℕ → S → List Letter → Type 0) (gives : S → Type 0) (first : S) (ps : List Production)
    (states : List S) (c : Chart) : Type 0 where
  pub chart : IsChartOf ps c
  pub begins : slice_get states 0 ≡ Some first
  pub given : All gives states
  pub readings : All (IsReading steps states) c.readings.items
  pub answered : (k : ℕ) (range : ByteRange) (i : ℕ) → k < c.opened
      → slice_get c.entries.keys k ≡ Some (record { symbol = Range range; state = i })
      → IsAnsweredAt steps states c.passages.keys c.readings.items range i
