use Rattle.std.proofs.Common.{sym}
use Rattle.std.proofs.lemmas.List.Elements.{All-contains}
use Rattle.grammar_chart.specs.Rules.{ReadingStep}
use Rattle.grammar_chart.specs.Charts.{IsEntered}
use Rattle.grammar_chart.proofs.AddingLemmas.{contains_at}
use Rattle.grammar_chart.proofs.BelowLemmas.{nonterminal_below}
use Rattle.grammar_chart.proofs.chart.turn.Goals as goal

pub open_nonterminal-requires-clause-below : goal.open_nonterminal-requires-clause-below
open_nonterminal-requires-clause-below c =
    let chart = c.args.chart.now in
    let ps = c.args.productions.now in
    let at = sym c.in-Some-entry_at.ensures.value in
    let e = All-contains (IsEntered ps chart.from chart.readings.items) chart.entries.keys c.in-Some-entry_at.entry c.requires.chart.sound.entered (contains_at chart.entries.keys chart.opened c.in-Some-entry_at.entry at) in
    nonterminal_below _ ps (ReadingStep chart.readings.items) chart.from 0 _ c.in-Nt.left _ c.requires.below c.requires.from e c.in-Nt.is
