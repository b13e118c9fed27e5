use Rattle.std.proofs.Common.{◌≡◌, List, length}
use Rattle.text_base.specs.declared.numbers.Nt as nt
use Rattle.cfg_grammar.specs.declared.production.Production.{Production}
use Rattle.grammar_chart.specs.declared.keys.Passage.{Passage}
use Rattle.chart_grammar.specs.Sources.{AreSources}
use Rattle.grammar_image.specs.Echoes.{CopiesBytes}
use Rattle.grammar_image.specs.Traces.{AreTraces, AreMade}
use Rattle.grammar_image.proofs.leading.leads_of.Given as goal

abbrev pub invariant-loop-place : goal.invariant-loop-place
invariant-loop-place l = record {
  made : AreMade l.made.nodes.items l.leads.items;
  traces : (ps qs : List Production) (start : nt.Nt) (fs : List Passage) → AreSources ps start fs l.sources qs → CopiesBytes start fs qs → AreTraces ps fs qs l.nodes l.marks l.made.nodes.items l.leads.items;
  all : length l.leads.items ≡ l.place;
}
