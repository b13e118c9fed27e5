use Rattle.std.proofs.Common.{◌∙◌, sym, subst}
use Rattle.std.proofs.lemmas.Result.{on_ok_weaker}
use Rattle.system_writing.specs.Steps.{WritesText, WritesWhere}
use Rattle.system_writing.proofs.waiting.add_where.Goals as goal

pub returns-then-is_marked : goal.returns-then-is_marked
returns-then-is_marked c =
    on_ok_weaker c.add_text.result (λ writes. WritesWhere.marked c.args.lines.now c.add_text.new.lines c.args.text.now (sym c.is_marked.ensures ∙ c.if-is_marked.true)
    (subst (λ w. WritesText c.args.lines.now c.add_text.new.lines c.args.text.now.set w) c.as_slice.ensures writes)) c.add_text.ensures

pub returns : goal.returns
returns c = WritesWhere.unmarked c.args.lines.now c.args.text.now (sym c.is_marked.ensures ∙ c.if-is_marked.false)
