use Rattle.page_decision.proofs.EchoLemmas.{sourced_image}
use Rattle.short_page.proofs.TextLemmas.{has_derived, text_answer}
use Rattle.short_page.proofs.finding.shortest.Goals as goal

pub lead_back-requires-clause-sources : goal.lead_back-requires-clause-sources
lead_back-requires-clause-sources g c =
    let m = c.args.machine.now in
    let source = c.args.grammar.now in
    let image = c.in_ok-image.image in
    sourced_image (g.M.Machine.first m) (g.M.Machine.steps m) (g.M.Machine.ends m) image.states.keys source.productions.items source.start image.passages.keys image.sources.items image.grammar.productions.items
    c.requires c.in_ok-image.ensures.sources c.in_ok-image.ensures.put_out

pub lead_back-requires-clause-derived : goal.lead_back-requires-clause-derived
lead_back-requires-clause-derived g c =
    let s = c.args.summary.now in
    has_derived (g.S.Summary.sum_of s) (g.S.Summary.is_whole s) (g.S.Summary.tag_count s) c.in_ok-image.image.grammar c.args.pairs c.in-Ok.answer c.in-Ok.ensures

pub returns-in-Ok-lead_back-clause-answer : goal.returns-in-Ok-lead_back-clause-answer
returns-in-Ok-lead_back-clause-answer g c =
    let s = c.args.summary.now in
    let m = c.args.machine.now in
    let grammar = c.args.grammar.now in
    let image = c.in_ok-image.image in
    text_answer (g.M.Machine.first m) (g.M.Machine.steps m) (g.M.Machine.ends m) c.requires c.derivations_derive.ensures (g.S.Summary.sum_of s) (g.S.Summary.is_whole s) (g.S.Summary.tag_count s) grammar image.grammar c.texts_fit.ensures
    (record { sentences = c.in_ok-image.ensures.sentences; small = c.in_ok-image.ensures.small }) c.args.pairs c.in-Ok.answer c.in-Ok.ensures c.in-Ok-lead_back.led c.in-Ok-lead_back.ensures
