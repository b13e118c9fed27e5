use Rattle.std.proofs.Common.{◌∙◌, ap}
use Rattle.string_ops.specs.CutBack.{phase_of, back_ends, back_last}
use Rattle.string_ops.proofs.CutBackLemmas.{ends_some, ends_none}
use Rattle.string_ops.proofs.cut_back.add_last.Goals as goal

pub returns-then-ends-clause-ends : goal.returns-then-ends-clause-ends
returns-then-ends-clause-ends c =
    let cut = c.args.cut in
    let is = c.may_end-ends.ensures ∙ ap (λ p. back_ends cut.last cut.len p c.number.result) c.phase.ensures ∙ ap (λ k. back_ends cut.last cut.len (phase_of cut.last cut.len c.args.state) k) c.number.ensures.value in
    ends_some c.args.table.now.ends.items c.stop_silently.new.table.ends.items c.args.state c.may_end-ends.result (back_last cut.last cut.len c.args.state) c.if-ends.true is c.in_ok-stop_silently.ensures.ends

pub returns-clause-ends : goal.returns-clause-ends
returns-clause-ends c =
    let cut = c.args.cut in
    let is = c.may_end-ends.ensures ∙ ap (λ p. back_ends cut.last cut.len p c.number.result) c.phase.ensures ∙ ap (λ k. back_ends cut.last cut.len (phase_of cut.last cut.len c.args.state) k) c.number.ensures.value in
    ends_none c.args.table.now.ends.items c.args.state c.may_end-ends.result (back_last cut.last cut.len c.args.state) c.if-ends.false is
