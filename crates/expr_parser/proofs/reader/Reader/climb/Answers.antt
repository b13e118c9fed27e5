use Rattle.std.proofs.Common.{sym, ◌∙◌}
use Rattle.expr_machine.specs.declared.frame.Focus.TheVariants as focus
use Rattle.expr_parser.specs.Heads.{terminals_of}
use Rattle.expr_parser.proofs.ClimbLemmas as cl
use Rattle.expr_parser.proofs.reader.Reader.climb.Goals as goal

pub levels-init : goal.levels-init
levels-init c = cl.leads_here (focus.Operand c.args.level) c.args.self.now (terminals_of c.args.rest.now)

pub levels-preserved : goal.levels-preserved
levels-preserved c =
    cl.leads_looser c.runs_go_on.ensures (focus.Operand c.args.level) c.levels.level (focus.Operand c.in-Operand.next) c.args.self.now (terminals_of c.args.rest.now) c.levels.invariant
    (λ e. c.if-wanted-level_rank.false (c.wanted_rank-wanted.ensures ∙ e ∙ sym c.level_rank.ensures))
    (sym c.operator_next.ensures ∙ cl.none_of c.operator_next.result (sym c.if-is_some.ensures))
    c.in-Operand.ensures

pub levels-smaller : goal.levels-smaller
levels-smaller c = cl.falls c.levels.level c.in-Operand.next c.in-Operand.ensures

pub returns-in_default : goal.returns-in_default
returns-in_default c =
    cl.leads_looser c.runs_go_on.ensures (focus.Operand c.args.level) c.levels.level c.looser.result c.args.self.now (terminals_of c.args.rest.now) c.levels.invariant
    (λ e. c.if-wanted-level_rank.false (c.wanted_rank-wanted.ensures ∙ e ∙ sym c.level_rank.ensures))
    (sym c.operator_next.ensures ∙ cl.none_of c.operator_next.result (sym c.if-is_some.ensures))
    c.looser.ensures
