use Rattle.std.proofs.Common.{length, refl, sym, ◌∙◌, subst}
use Rattle.std.proofs.lemmas.Option.{slice_get_read}
use Rattle.cfg_grammar.specs.declared.production.Production.{Production}
use Rattle.resolving.specs.Draft.{Puts}
use Rattle.resolving.proofs.ImageLemmas.{moved_more}
use Rattle.resolving.proofs.images.put_moved.Goals as goal

pub loop-production-preserved : goal.loop-production-preserved
loop-production-preserved c =
    let at = slice_get_read c.args.productions.now (length c.args.productions.now) c.loop-production.production-index c.production-item.result refl c.loop-production-test.true c.production-item.is in
    moved_more c.args.base c.args.productions.now c.loop-production.production-index c.production-item.result c.args.draft.now c.loop-production.draft c.put.new.draft at
    (sym c.is_without_token.ensures ∙ c.if-not-is_without_token.false) c.loop-production.invariant
    (subst (λ (p : Production). Puts c.loop-production.draft c.put.new.draft p) c.moved.ensures c.in_ok-put.ensures)
