-- What a turn of the machine gives.
use Rattle.std.specs.Prelude.{◌≡◌, ℕ, List, ◌++◌}
use Rattle.lr_tables.specs.declared.event.Event as event
use Rattle.lr_tables.specs.Machine.{Answer, Read, Wrong, Going}
use Rattle.lr_machine.specs.declared.turns.Turn.{Turn}
use Rattle.lr_machine.specs.declared.turns.Turn.TheVariants.{On, Done, Stuck}
use Rattle.lr_machine.specs.declared.turns.Reader.{Reader}

-- what was told before, and then this
abbrev pub joined : List event.Event → Answer → Answer
joined es (Read fs) = Read (es ++ fs)
joined es (Wrong ks) = Wrong ks
joined es (Going stack ks) = Going stack ks

-- What was told before and is told now, whatever is read of the rest: `outcome` is what the machine comes to from before the turn, where
-- `rest` is left, as a function of what it comes to from any later place.
abbrev pub Turns : Turn → List ℕ → Reader → Reader → ((List ℕ → List ℕ → Answer) → Answer) → Type 0
Turns (On later) rest before after outcome = (next : List ℕ → List ℕ → Answer) → joined after.events.items (next after.states later.now) ≡ joined before.events.items (outcome next)
Turns Done rest before after outcome = (next : List ℕ → List ℕ → Answer) → Read after.events.items ≡ joined before.events.items (outcome next)
Turns Stuck rest before after outcome = (next : List ℕ → List ℕ → Answer) → outcome next ≡ Wrong rest
