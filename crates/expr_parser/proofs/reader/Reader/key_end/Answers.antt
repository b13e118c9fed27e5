use Rattle.std.proofs.Common.{[], ap, sym, ◌∙◌}
use Rattle.expr_machine.specs.declared.frame.Focus.TheVariants as focus
use Rattle.expr_machine.specs.Machine as machine
use Rattle.expr_machine.specs.Machine.{Move, moves}
use Rattle.expr_parser.specs.Heads.{terminals_of}
use Rattle.expr_parser.proofs.NextLemmas as nl
use Rattle.expr_parser.proofs.reader.Reader.key_end.Goals as goal

pub returns-in-None : goal.returns-in-None
returns-in-None c = nl.key_end_other c.args.name c.args.keys c.args.gap c.args.self.now _ c.in-None.ensures

pub returns-in_ok-keys-in-Some : goal.returns-in_ok-keys-in-Some
returns-in_ok-keys-in-Some c = ap (machine.key_end_move c.args.name c.args.keys c.args.gap c.args.self.now) c.in-Some.ensures ∙ ap (λ n. moves (focus.Place c.args.name n c.args.gap) c.args.self.now (terminals_of c.in-Some.behind.now) []) (sym c.in_ok-keys-in-Some.ensures)
