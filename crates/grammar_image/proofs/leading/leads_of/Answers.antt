use Rattle.std.proofs.Common.{◌+◌, ◌∙◌, None, sym, ap, subst, length, get_or, slice_get}
use Rattle.std.specs.Prelude.{slice_index_or}
use Rattle.std.proofs.lemmas.Option.{slice_get-get_or}
use Rattle.derivations.specs.declared.node.Node.{Node}
use Rattle.derivations.specs.declared.node.Parts.TheVariants.{Empty}
use Rattle.derivations.proofs.ForkLemmas.{longer}
use Rattle.grammar_image.specs.Leads.{Leads}
use Rattle.grammar_image.specs.Marks.{marked_at}
use Rattle.grammar_image.proofs.LeadLemmas.{made_more}
use Rattle.grammar_image.proofs.NodeLemmas.{traces_more}
use Rattle.grammar_image.proofs.leading.leads_of.Goals as goal

pub loop-place-preserved : goal.loop-place-preserved
loop-place-preserved c =
    let was = c.loop-place.invariant in
    let nodes = c.args.nodes.now in
    let sources = c.args.sources.now in
    let marks = c.args.marks.now in
    let firsts = c.args.firsts.now in
    let none : Node = record { production = 0; parts = Empty; length = 0 } in
    let node = get_or nodes c.loop-place.place none in
    let old = c.loop-place.made.nodes.items in
    let new = c.lead.new.made.nodes.items in
    let leads = c.loop-place.leads.items in
    let after = c.push.new.self.items in
    let is_marked = c.marked_at-is_marked.result in
    let first = c.first_at-first.result in
    let lead = c.in_ok-lead.lead in
    let led = subst (λ os. Leads is_marked old new os sources first node lead) c.as_slice.ensures.value c.in_ok-lead.ensures in
    let here = ap (slice_get nodes) was.all ∙ slice_get-get_or nodes c.loop-place.place none c.loop-place-test.true in
    record {
      made = made_more is_marked old new leads after sources first node lead was.made led c.in_ok-push.ensures.items;
      traces = λ ps qs start fs are copies.
          traces_more ps qs start fs sources are copies nodes marks firsts old new leads after is_marked first node lead c.requires.lawful c.requires.marks.closed c.requires.firsts c.requires.all_firsts here
          (c.marked_at-is_marked.ensures ∙ ap (marked_at marks) (sym was.all)) (c.first_at-first.ensures ∙ ap (λ n. slice_index_or firsts n None) (sym was.all)) led c.in_ok-push.ensures.items
          (was.traces ps qs start fs are copies);
      all = ap (λ os. length os) c.in_ok-push.ensures.items ∙ longer leads lead ∙ ap (λ n. n + 1) was.all;
    }
