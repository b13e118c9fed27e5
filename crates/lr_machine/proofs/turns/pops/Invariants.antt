use Rattle.std.proofs.Common.{◌≡◌, drop}
use Rattle.lr_tables.specs.Grammars.{named}
use Rattle.lr_tables.specs.Machine as machine
use Rattle.lr_machine.specs.Shown.{shown}
use Rattle.lr_machine.proofs.turns.pops.Given as goal

abbrev pub invariant-loop-symbol : goal.invariant-loop-symbol
invariant-loop-symbol g l = machine.pops (shown l.tables) (named (drop l.symbol-index l.back)) l.states ≡ machine.pops (shown l.fn.tables) (named l.fn.back) l.fn.states
