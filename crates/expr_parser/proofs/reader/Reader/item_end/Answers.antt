use Rattle.std.proofs.Common.{ap, sym, ◌∙◌}
use Rattle.expr_machine.specs.Machine as machine
use Rattle.expr_machine.specs.Machine.{Move, moves}
use Rattle.expr_parser.specs.Heads.{terminals_of}
use Rattle.expr_parser.proofs.MovedLemmas.{moved}
use Rattle.expr_parser.proofs.NextLemmas as nl
use Rattle.expr_parser.proofs.ItemLemmas as il
use Rattle.expr_parser.proofs.reader.Reader.item_end.Goals as goal

pub returns-then-closed_next : goal.returns-then-closed_next
returns-then-closed_next c = il.end_closed c.args.brackets c.args.keyed c.args.count c.in_ok-count.count c.args.self.now (terminals_of c.args.rest.now) _ c.in_ok-count.ensures c.behind_first.ensures (sym c.closed_next.ensures ∙ c.if-closed_next.true)

pub returns-in-None : goal.returns-in-None
returns-in-None c = il.end_open c.args.brackets c.args.keyed c.args.count c.args.self.now (terminals_of c.args.rest.now) (sym c.closed_next.ensures ∙ c.if-closed_next.false) ∙ nl.next_item_other c.args.brackets c.args.keyed c.args.count c.args.self.now _ c.in-None.ensures

pub returns-in-Some : goal.returns-in-Some
returns-in-Some c = moved c.behind_comma.result _ _ _ (il.end_open c.args.brackets c.args.keyed c.args.count c.args.self.now (terminals_of c.args.rest.now) (sym c.closed_next.ensures ∙ c.if-closed_next.false) ∙ ap (machine.next_item_move c.args.brackets c.args.keyed c.args.count c.args.self.now) c.in-Some.ensures) c.behind_comma.ensures
