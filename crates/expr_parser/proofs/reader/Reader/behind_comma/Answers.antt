use Rattle.std.proofs.Common.{sym, ◌∙◌}
use Rattle.expr_parser.specs.Heads.{terminals_of}
use Rattle.expr_parser.proofs.MovedLemmas.{moved}
use Rattle.expr_parser.proofs.ItemLemmas as il
use Rattle.expr_parser.proofs.reader.Reader.behind_comma.Goals as goal

pub returns-then-closed_next : goal.returns-then-closed_next
returns-then-closed_next c = il.comma_closed c.args.brackets c.args.keyed c.args.count c.in_ok-count.count c.args.self.now (terminals_of c.args.rest.now) _ c.in_ok-count.ensures c.behind_first.ensures (sym c.closed_next.ensures ∙ c.if-closed_next.true)

pub returns : goal.returns
returns c = moved c.begin_item.result _ _ _ (il.comma_open c.args.brackets c.args.keyed c.args.count c.in_ok-count.count c.args.self.now (terminals_of c.args.rest.now) c.in_ok-count.ensures (sym c.closed_next.ensures ∙ c.if-closed_next.false)) c.begin_item.ensures
