use Rattle.std.proofs.Common.{ap, sym, ◌∙◌}
use Rattle.expr_machine.specs.Machine as machine
use Rattle.expr_machine.specs.Machine.{Move, moves}
use Rattle.expr_parser.specs.Heads.{terminals_of}
use Rattle.expr_parser.proofs.MovedLemmas.{moved}
use Rattle.expr_parser.proofs.FrameLemmas as fl
use Rattle.expr_parser.proofs.reader.Reader.level.Goals as goal

pub returns-then-wanted_rank-level_rank : goal.returns-then-wanted_rank-level_rank
returns-then-wanted_rank-level_rank c = moved c.right.result _ _ _ (fl.level_right c.args.level c.args.self.now _ (sym c.wanted_rank.ensures ∙ c.if-wanted_rank-level_rank.true ∙ c.level_rank.ensures)) c.right.ensures

pub returns : goal.returns
returns c = moved c.chain.result _ _ _ (fl.level_chain c.args.level c.args.self.now _ (λ e. c.if-wanted_rank-level_rank.false (c.wanted_rank.ensures ∙ e ∙ sym c.level_rank.ensures)) ∙ ap (λ o. machine.chain_move o c.args.level c.args.self.now (terminals_of c.args.rest.now)) (sym c.operator_next.ensures)) c.chain.ensures
