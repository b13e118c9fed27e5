use Rattle.std.proofs.Common.{sym, ◌∙◌}
use Rattle.expr_parser.specs.Heads.{terminals_of}
use Rattle.expr_parser.proofs.MovedLemmas.{moved}
use Rattle.expr_parser.proofs.PlaceLemmas as pl
use Rattle.expr_parser.proofs.reader.Reader.assign.Goals as goal

pub returns-then-wants_whole : goal.returns-then-wants_whole
returns-then-wants_whole c = moved c.open.result _ _ _ (pl.assign_whole c.args.place.name c.args.place.keys c.args.place.gap c.args.self.now (terminals_of c.args.behind.now) (sym c.wants_whole.ensures ∙ c.if-wants_whole.true)) c.open.ensures

pub returns : goal.returns
returns c = moved c.operand.result _ _ _ (pl.assign_operand c.args.place.name c.args.place.keys c.args.place.gap c.args.self.now (terminals_of c.args.behind.now) (terminals_of c.args.rest.now) (sym c.wants_whole.ensures ∙ c.if-wants_whole.false) c.requires) c.operand.ensures
