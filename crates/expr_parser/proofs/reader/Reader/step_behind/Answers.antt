use Rattle.std.proofs.Common.{sym, ◌∙◌}
use Rattle.expr_parser.specs.Heads.{terminals_of}
use Rattle.expr_parser.proofs.MovedLemmas.{moved}
use Rattle.expr_parser.proofs.PlaceLemmas as pl
use Rattle.expr_parser.proofs.reader.Reader.step_behind.Goals as goal

pub returns-then-is_zero : goal.returns-then-is_zero
returns-then-is_zero c = pl.step_goes c.args.up c.args.place.name c.args.place.keys c.args.place.gap c.args.self.now c.args.sign (terminals_of c.args.behind.now) (sym c.is_zero.ensures ∙ c.if-is_zero.true)

pub returns : goal.returns
returns c = moved c.operand.result _ _ _ (pl.step_operand c.args.up c.args.place.name c.args.place.keys c.args.place.gap c.args.self.now c.args.sign (terminals_of c.args.behind.now) (terminals_of c.args.rest.now) (sym c.is_zero.ensures ∙ c.if-is_zero.false) c.requires) c.operand.ensures
