use Rattle.std.proofs.Common.{◌≡◌, List, length, subst, arith}
use Rattle.cfg_grammar.specs.declared.production.Production.{Production}
use Rattle.resolving.specs.Draft.{Puts}
use Rattle.resolving.specs.Images.{AddsProductions}
use Rattle.resolving.proofs.ImageLemmas.{grammar_added}
use Rattle.resolving.proofs.images.add_grammar.Goals as goal

pub returns : goal.returns
returns c =
    let old = c.args.draft.now in
    let len : c.len-base.result ≡ length old.chains.last.items = omega (arith, c.len-base.ensures, old.chains.last.ok.0) in
    grammar_added c.args.left c.args.image.now c.len-base.result old c.widen.new.draft c.put.new.draft c.put_moved.new.draft len c.in_ok-widen.ensures
    (subst (λ (p : Production). Puts c.widen.new.draft c.put.new.draft p) c.link.ensures c.in_ok-put.ensures)
    (subst (λ (qs : List Production). AddsProductions c.len-base.result qs (length qs) c.put.new.draft c.put_moved.new.draft) c.as_slice.ensures.value c.in_ok-put_moved.ensures)
