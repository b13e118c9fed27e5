use Rattle.std.proofs.Common.{◌∙◌, List, length, ap, subst, sym, refl}
use Rattle.text_base.specs.declared.numbers.Nt as nt
use Rattle.grammar_chart.specs.declared.keys.Passage.{Passage}
use Rattle.chart_grammar.specs.declared.lifts.Last.{Last}
use Rattle.chart_grammar.specs.Sources.{NoneIsOfToken, AreSources, ArePutOut}
use Rattle.grammar_image.specs.Lasts.{AreLastsBelow}
use Rattle.grammar_image.specs.Numbered.{NumberedSteps, NumberedEnds}
use Rattle.grammar_image.proofs.SentenceLemmas.{sentences}
use Rattle.grammar_image.proofs.LargeLemmas.{has_items}
use Rattle.grammar_image.proofs.SmallLemmas.{small}
use Rattle.grammar_image.proofs.RestLemmas.{image_of_whole}
use Rattle.grammar_image.proofs.PutLemmas.{none_is_of_token, put_out}
use Rattle.grammar_image.proofs.imaging.finish.Goals as goal

pub returns-clause-sentences : goal.returns-clause-sentences
returns-clause-sentences g c =
    let m = c.args.machine.now in
    let states = c.args.states.keys in
    let lasts = subst (λ (ls : List Last). AreLastsBelow (g.M.Machine.ends m) states (length states) ls) (sym c.as_slice.ensures.value) c.in_ok-lasts.ensures in
    let image = image_of_whole c.args.productions.now c.args.chart c.let_go.new.chart c.as_slice.result.now c.in_ok-grammar.field-0.grammar c.let_go.ensures.from c.let_go.ensures.begun c.let_go.ensures.passages c.let_go.ensures.readings c.in_ok-grammar.ensures.image in
    sentences (g.M.Machine.steps m) (g.M.Machine.ends m) (g.M.Machine.gives m) (g.M.Machine.first m) c.args.productions.now states c.args.chart c.as_slice.result.now c.in_ok-grammar.field-0.grammar c.requires.worked c.requires.done c.count-entries.ensures.different c.count-passages.ensures.different lasts image

pub returns-clause-small : goal.returns-clause-small
returns-clause-small g c =
    let m = c.args.machine.now in
    let states = c.args.states.keys in
    let chart = c.args.chart in
    let ps = c.args.productions.now in
    let apart = c.count-states.ensures.different in
    let lasts = subst (λ (ls : List Last). AreLastsBelow (g.M.Machine.ends m) states (length states) ls) (sym c.as_slice.ensures.value) c.in_ok-lasts.ensures in
    let image = image_of_whole ps chart c.let_go.new.chart c.as_slice.result.now c.in_ok-grammar.field-0.grammar c.let_go.ensures.from c.let_go.ensures.begun c.let_go.ensures.passages c.let_go.ensures.readings c.in_ok-grammar.ensures.image in
    let items = has_items (g.M.Machine.steps m) (g.M.Machine.gives m) (g.M.Machine.first m) ps states chart c.requires.worked apart (length chart.begun.items) refl in
    small (g.M.Machine.steps m) (g.M.Machine.gives m) (g.M.Machine.ends m) (g.M.Machine.first m) ps states chart c.requires.worked c.as_slice.result.now lasts apart c.count-passages.ensures.different c.in_ok-grammar.field-0.grammar image items

pub returns-clause-sources : goal.returns-clause-sources
returns-clause-sources g c =
    let ps = c.args.productions.now in
    let chart = c.args.chart in
    let rest = c.let_go.new.chart in
    let qs = c.in_ok-grammar.field-0.grammar.productions.items in
    let none = subst (λ (fs : List Passage). NoneIsOfToken fs) (sym c.let_go.ensures.passages) (none_is_of_token ps chart c.requires.worked.chart) in
    subst (λ (fs : List Passage). AreSources ps chart.from fs c.in_ok-grammar.field-0.sources.items qs) (sym (ap (λ (v : _). v.keys) c.into_passages.ensures))
    (subst (λ (a : nt.Nt). AreSources ps a rest.passages.keys c.in_ok-grammar.field-0.sources.items qs) c.let_go.ensures.from (c.in_ok-grammar.ensures.sources none))

pub returns-clause-put_out : goal.returns-clause-put_out
returns-clause-put_out g c =
    let m = c.args.machine.now in
    let states = c.args.states.keys in
    let chart = c.args.chart in
    let ps = c.args.productions.now in
    let made = c.in_ok-grammar.field-0.grammar in
    let lasts = subst (λ (ls : List Last). AreLastsBelow (g.M.Machine.ends m) states (length states) ls) (sym c.as_slice.ensures.value) c.in_ok-lasts.ensures in
    let image = image_of_whole ps chart c.let_go.new.chart c.as_slice.result.now made c.let_go.ensures.from c.let_go.ensures.begun c.let_go.ensures.passages c.let_go.ensures.readings c.in_ok-grammar.ensures.image in
    subst (λ (fs : List Passage). ArePutOut chart.from fs made.productions.items (NumberedSteps (g.M.Machine.steps m) states) (NumberedEnds (g.M.Machine.ends m) states))
    (sym (ap (λ (v : _). v.keys) c.into_passages.ensures ∙ c.let_go.ensures.passages))
    (put_out (g.M.Machine.steps m) (g.M.Machine.ends m) (g.M.Machine.gives m) (g.M.Machine.first m) ps states chart c.as_slice.result.now made c.requires.worked lasts image)
