use Rattle.std.proofs.Common.{◌↔◌, List, length, subst, ◌∙◌}
use Rattle.text_base.specs.declared.letter.Letter.{Letter}
use Rattle.text_base.specs.declared.numbers.Nt as nt
use Rattle.cfg_grammar.specs.Derives.{Derives}
use Rattle.cfg_grammar.specs.declared.symbol.Symbol as symbols
use Rattle.fst_core.specs.Outputs.{Outputs}
use Rattle.fst_core.specs.Weight.{IsSmall}
use Rattle.grammar_image.proofs.BeginLemmas.{worked_begins}
use Rattle.grammar_image.proofs.imaging.imaged_over.Goals as goal

pub fill-requires-clause-worked : goal.fill-requires-clause-worked
fill-requires-clause-worked g c =
    let m = c.args.machine.now in
    worked_begins (g.M.Machine.steps m) (g.M.Machine.gives m) (g.M.Machine.first m) c.args.productions.now c.in_ok-states.states.keys c.in_ok-chart.chart c.in_ok-states.ensures.first c.in_ok-states.ensures.given (c.in_ok-chart.ensures.chart c.args.productions.now) c.in_ok-chart.ensures.readings c.in_ok-chart.ensures.opened

pub returns-in-Ok-finish-clause-sentences : goal.returns-in-Ok-finish-clause-sentences
returns-in-Ok-finish-clause-sentences g c =
    let m = c.args.machine.now in
    let P : nt.Nt → Type 0 = λ a. (w : List Letter) → Derives c.in-Ok-finish.image.grammar.productions.items (symbols.Symbol.Nt c.in-Ok-finish.image.grammar.start) w ↔ Outputs c.args.productions.now (symbols.Symbol.Nt a) (g.M.Machine.first m) (g.M.Machine.steps m) (g.M.Machine.ends m) w in
    subst (λ (a : nt.Nt). P a) (c.in-Ok.ensures.from ∙ c.in_ok-chart.ensures.from) c.in-Ok-finish.ensures.sentences

pub returns-in-Ok-finish-clause-small : goal.returns-in-Ok-finish-clause-small
returns-in-Ok-finish-clause-small g c =
    let m = c.args.machine.now in
    let P : nt.Nt → Type 0 = λ a. IsSmall c.args.productions.now (g.M.Machine.steps m) (g.M.Machine.ends m) a (g.M.Machine.first m) c.in-Ok-finish.image.grammar.count (length c.in-Ok-finish.image.grammar.productions.items) in
    subst (λ (a : nt.Nt). P a) (c.in-Ok.ensures.from ∙ c.in_ok-chart.ensures.from) c.in-Ok-finish.ensures.small
