-- Moves that only lead to a looser level.
use Rattle.std.specs.Prelude.{◌≡◌, ◌≤◌, List}
use Rattle.script_grammar.specs.Terminals.{Terminal}
use Rattle.expr_machine.specs.declared.frame.Focus.{Focus}
use Rattle.expr_machine.specs.declared.frame.Frame.{Frame}
use Rattle.expr_machine.specs.Values.{PlainValue}
use Rattle.expr_machine.specs.Reading.{weight, reads_on}

-- from another place on the same is read, and the place is nearer to the end
abbrev pub Leads : Focus → Focus → List Frame → List Terminal → Type 0
Leads f g fs ts = ((vs : List PlainValue) → reads_on f fs ts vs ≡ reads_on g fs ts vs) × (weight g fs ts ≤ weight f fs ts)
