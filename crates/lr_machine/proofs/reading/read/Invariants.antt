use Rattle.std.proofs.Common.{◌≡◌, ◌-◌, []}
use Rattle.lr_tables.specs.Machine as machine
use Rattle.lr_machine.specs.declared.reading.TheConstants.{TURNS}
use Rattle.lr_machine.specs.Shown.{shown}
use Rattle.lr_machine.specs.Turns.{joined}
use Rattle.lr_machine.proofs.reading.read.Given as goal

-- what was told so far, and what is read of the rest in the turns that are left
abbrev pub invariant-loop-turn : goal.invariant-loop-turn
invariant-loop-turn g l = joined l.reader.events.items (machine.run (shown l.tables) (TURNS - l._turn) l.reader.states l.rest) ≡ machine.run (shown l.fn.tables) TURNS [] l.fn.kinds
