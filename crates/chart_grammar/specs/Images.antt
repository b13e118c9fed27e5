-- Which grammar is the image of a filled chart.
use Rattle.std.specs.Prelude.{◌≡◌, ◌+◌, ◌≤◌, ℕ, suc, List, length}
use Rattle.cfg_grammar.specs.declared.grammar.Grammar.{Grammar}
use Rattle.cfg_grammar.specs.declared.production.Production.{Production}
use Rattle.grammar_chart.specs.declared.chart.Chart.{Chart}
use Rattle.numbered_sets.specs.Numbers.{AreDifferent}
use Rattle.chart_grammar.specs.declared.lifts.Last.{Last}
use Rattle.chart_grammar.specs.declared.saying.Outputs.{Outputs}
use Rattle.chart_grammar.specs.Lifts.{AreLifts}
use Rattle.chart_grammar.specs.Paid.{IsPaid}

-- it begins in 0, and has all productions of the image; so many, for outputs that letters of the machine pay for
pub record IsImageOf (ps : List Production) (c : Chart) (ls : List Last) (g : Grammar) : Type 0 where
  pub starts : g.start ≡ record { 0 = 0 }
  pub outputs : Outputs
  pub lifts : AreLifts ps c.from c.begun.items c.passages.keys c.readings.items outputs.fronts.keys (suc (length c.passages.keys)) ls
      g.productions.items
  pub wholes : ℕ
  pub few_wholes : wholes ≤ length c.begun.items
  pub paid : IsPaid c.from c.passages.keys c.readings.items ls (suc (length c.passages.keys)) wholes outputs
  pub different_fronts : AreDifferent outputs.fronts.keys
  pub different_said : AreDifferent outputs.said.keys
  pub different_heads : AreDifferent outputs.heads.keys
  pub count : g.count ≡ suc (length c.passages.keys) + length outputs.fronts.keys
  pub few : length g.productions.items ≤ length outputs.out.items + length outputs.fronts.keys
