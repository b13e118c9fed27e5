-- What a chart keeps, and how it goes on.
use Rattle.std.specs.Prelude.{◌≡◌, ◌+◌, ◌<◌, ◌≤◌, ℕ, List, map, length, Some, slice_get}
use Rattle.numbered_sets.specs.declared.chains.Chains.{Chains}
use Rattle.numbered_sets.specs.Chains.{AreChains}
use Rattle.cfg_grammar.specs.declared.production.Production.{Production}
use Rattle.numbered_sets.specs.Numbers.{Keeps}
use Rattle.cfg_grammar.specs.declared.symbol.Symbol.TheVariants.{Range}
use Rattle.text_base.specs.declared.byte_range.ByteRange.{ByteRange}
use Rattle.grammar_chart.specs.declared.chart.Chart.{Chart}
use Rattle.grammar_chart.specs.declared.turns.Turn.{Turn}
use Rattle.grammar_chart.specs.declared.turns.Turn.TheVariants.{Went, Asks, Done}
use Rattle.grammar_chart.specs.Charts.{IsChart}

-- the lists of the chart keep what a chart of these productions keeps
abbrev pub IsChartOf : List Production → Chart → Type 0
IsChartOf ps c = IsChart ps c.from c.entries.keys c.visits.items c.begun.items c.passages.keys c.readings.items c.opened c.taken c.left

-- what is listed stays, and no reading is added
pub record GoesOn (old new : Chart) : Type 0 where
  pub from : new.from ≡ old.from
  pub entries : Keeps old.entries.keys new.entries.keys
  pub begun : Keeps old.begun.items new.begun.items
  pub passages : Keeps old.passages.keys new.passages.keys
  pub readings : new.readings.items ≡ old.readings.items

-- the numbers of the nonterminals on the left
abbrev pub lefts_of : List Production → List ℕ
lefts_of ps = map (λ p. p.left.0) ps

-- for each nonterminal, the places of its productions
abbrev pub AreProductionsOf : List Production → Chains → Type 0
AreProductionsOf ps chains = AreChains (lefts_of ps) chains.last.items chains.before.items

-- so many more entries are opened, begun productions taken up and passages let through
pub record IsCounted (old new : Chart) (opened taken left : ℕ) : Type 0 where
  pub opened_more : new.opened ≡ old.opened + opened
  pub taken_more : new.taken ≡ old.taken + taken
  pub left_more : new.left ≡ old.left + left

-- the steps that are taken
abbrev pub steps_of : Chart → ℕ
steps_of c = c.opened + c.taken + c.left

-- a step was taken, and no range was opened by it
pub record Goes (ps : List Production) (old new : Chart) : Type 0 where
  pub chart : IsChartOf ps new
  pub goes_on : GoesOn old new
  pub counted : steps_of new ≡ steps_of old + 1
  pub ranges : (k : ℕ) (range : ByteRange) (s : ℕ) → k < new.opened
      → slice_get new.entries.keys k ≡ Some (record { symbol = Range range; state = s }) → k < old.opened

-- nothing is left to be done
pub record IsDone (c : Chart) : Type 0 where
  pub opened : length c.entries.keys ≤ c.opened
  pub taken : length c.begun.items ≤ c.taken
  pub left : length c.passages.keys ≤ c.left

-- what a turn did: one step; or the next entry is a range, whose readings the machine is asked for; or all is done
abbrev pub IsTurn : List Production → Chart → Chart → Turn → Type 0
IsTurn ps old new Went = Goes ps old new
IsTurn ps old new (Asks range s) =
    (new ≡ old) × (slice_get old.entries.keys old.opened ≡ Some (record { symbol = Range range; state = s }))
    × (old.opened < 9223372036854775808)
IsTurn ps old new Done = (new ≡ old) × IsDone old
