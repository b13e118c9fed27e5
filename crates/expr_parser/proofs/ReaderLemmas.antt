-- What a run makes of the values, by what its next move is.
use Rattle.std.proofs.Common.{◌≡◌, Bool, true, false, List, ap, ◌∙◌}
use Rattle.std.specs.Prelude.{None}
use Rattle.script_grammar.specs.Terminals.{Terminal}
use Rattle.expr_machine.specs.declared.frame.Focus.{Focus}
use Rattle.expr_machine.specs.declared.frame.Frame.{Frame}
use Rattle.expr_machine.specs.Actions.{Action}
use Rattle.expr_machine.specs.Machine.{Move, moves}
use Rattle.expr_machine.specs.Values.{PlainValue, execute}
use Rattle.expr_machine.specs.Reading.{reads_on, reads_after, reads_next}
use Rattle.expr_builder.specs.Outcomes.{Applied}

pub read_goes : (fine : Bool) (m : Move) (ts : List Terminal) (vs ws : List PlainValue) (f : Focus) (fs : List Frame) (r : List Terminal) (acts : List Action) → fine ≡ true → m ≡ moves f fs r acts → Applied fine (execute acts vs) ws → reads_next ts vs m ≡ reads_on f fs r ws
read_goes true m ts vs ws f fs r acts t e h = ap (reads_next ts vs) e ∙ ap (λ x. reads_after x f fs r) h
read_goes false m ts vs ws f fs r acts t e h = absurd (cc)

pub read_breaks : (fine : Bool) (m : Move) (ts : List Terminal) (vs ws : List PlainValue) (f : Focus) (fs : List Frame) (r : List Terminal) (acts : List Action) → fine ≡ false → m ≡ moves f fs r acts → Applied fine (execute acts vs) ws → reads_next ts vs m ≡ None
read_breaks true m ts vs ws f fs r acts t e h = absurd (cc)
read_breaks false m ts vs ws f fs r acts t e h = ap (reads_next ts vs) e ∙ ap (λ x. reads_after x f fs r) h
