use Rattle.std.proofs.Common.{◌∙◌, List, refl, sym, ap}
use Rattle.std.proofs.lemmas.Result.{IfOk-weaker}
use Rattle.text_base.specs.declared.letter.Letter.{Letter}
use Rattle.derivations.specs.Lawful.{Grows}
use Rattle.derivations.specs.Stands.{IsDerivation}
use Rattle.grammar_image.specs.Leads.{node_of}
use Rattle.grammar_image.specs.Echoes.{text_of}
use Rattle.cfg_grammar.specs.declared.symbol.Symbol.TheVariants as symbol
use Rattle.grammar_image.proofs.RootLemmas.{root_below, root_found, copied, found}
use Rattle.grammar_image.proofs.tracing.source_of.Goals as goal

pub rooted-requires : goal.rooted-requires
rooted-requires c =
    let lead = c.first_led-lead.result in
    root_below c.leads_of.new.made.nodes.items lead c.in-Some.root c.leads_of.new.made.lawful (ap (λ ns. node_of ns lead) (sym c.as_slice-4.ensures) ∙ sym c.node_of.ensures ∙ c.in-Some.is)

pub unreachable-requires : goal.unreachable-requires
unreachable-requires c =
    let lead = c.first_led-lead.result in
    let ps = c.args.productions.now in
    let qs = c.args.image.now.productions.items in
    let fs = c.requires.sources.passages in
    let made = c.leads_of.new.made.nodes.items in
    let w = c.requires.derived.0 in
    let none = ap (λ ns. node_of ns lead) (sym c.as_slice-4.ensures) ∙ sym c.node_of.ensures ∙ c.in-None.is in
    let to = found ps qs c.args.start fs c.args.sources.now c.args.derivation.now.nodes.nodes.items c.as_slice-nodes.result.now c.as_slice.result.now c.in_ok-marks.marks.items made c.in_ok-leads.leads.items
    c.as_slice-3.result.now c.last_node.result lead c.args.image.now.start w c.requires.sources.come c.requires.sources.copy c.args.derivation.now.nodes.lawful c.as_slice-nodes.ensures c.as_slice.ensures.value c.in_ok-marks.ensures.marks
    (c.in_ok-leads.ensures.traces ps qs c.args.start fs c.requires.sources.come c.requires.sources.copy) c.in_ok-leads.ensures.all c.last_node.ensures c.as_slice-3.ensures.value c.first_led-lead.ensures
    c.requires.begins c.requires.derived.1 in
    root_found ps made to.0 (symbol.Nt c.args.start) c.args.start (text_of w) refl to.2 (ap (node_of made) (sym to.1) ∙ none)

pub returns : goal.returns
returns c =
    let lead = c.first_led-lead.result in
    let ps = c.args.productions.now in
    let qs = c.args.image.now.productions.items in
    let fs = c.requires.sources.passages in
    let made = c.leads_of.new.made.nodes.items in
    let at = ap (λ ns. node_of ns lead) (sym c.as_slice-4.ensures) ∙ sym c.node_of.ensures ∙ c.in-Some.is in
    IfOk-weaker c.rooted.result (λ source. Grows made source.nodes.nodes.items c.in-Some.root.production c.in-Some.root.parts)
    (λ source. (w : List Letter) → IsDerivation qs c.args.derivation.now.nodes.nodes.items c.args.image.now.start w → IsDerivation ps source.nodes.nodes.items c.args.start (text_of w))
    (λ source grows w derived.
    let to = found ps qs c.args.start fs c.args.sources.now c.args.derivation.now.nodes.nodes.items c.as_slice-nodes.result.now c.as_slice.result.now c.in_ok-marks.marks.items made c.in_ok-leads.leads.items
    c.as_slice-3.result.now c.last_node.result lead c.args.image.now.start w c.requires.sources.come c.requires.sources.copy c.args.derivation.now.nodes.lawful c.as_slice-nodes.ensures c.as_slice.ensures.value c.in_ok-marks.ensures.marks
    (c.in_ok-leads.ensures.traces ps qs c.args.start fs c.requires.sources.come c.requires.sources.copy) c.in_ok-leads.ensures.all c.last_node.ensures c.as_slice-3.ensures.value c.first_led-lead.ensures
    c.requires.begins derived in
    copied ps made source.nodes.nodes.items c.in-Some.root grows to.0 (symbol.Nt c.args.start) (text_of w) (ap (node_of made) (sym to.1) ∙ at) to.2)
    c.rooted.ensures
