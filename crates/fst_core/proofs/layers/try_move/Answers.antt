use Rattle.fst_core.proofs.LayerLemmas.{moves_otherwise, moves_on}
use Rattle.fst_core.proofs.layers.try_move.Goals as goal

pub returns-in_default : goal.returns-in_default
returns-in_default c = λ text.
    moves_otherwise c.args.table.now c.args.step.now c.args.next.now.keys c.args.written c.args.byte text c.args.output.now (rw c.as_slice.ensures.value at c.in_default.ensures.puts)

pub returns : goal.returns
returns c = λ text.
    moves_on c.args.table.now c.args.step.now c.args.next.now.keys c.add_reached.new.next.keys c.args.written c.in-Some.written c.args.byte text c.args.output.now c.if-byte-step.false c.if-step-byte.false
    c.in-Some.ensures.within (rw c.as_slice.ensures.value at c.in-Some.ensures.puts) c.in_ok-add_reached.ensures
