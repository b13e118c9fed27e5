use Rattle.derivatives.proofs.BehindLemmas.{grows_on}
use Rattle.byte_forms.proofs.forming.class_form.Goals as goal

pub returns-in-Some-clause-keeps : goal.returns-in-Some-clause-keeps
returns-in-Some-clause-keeps c =
    grows_on c.args.arena.now c.nothing.new.self c.or_range.new.arena c.in_ok-nothing.ensures.keeps
    (grows_on c.nothing.new.self c.loop-below.arena c.or_range.new.arena c.loop-below.invariant.grows c.or_range.ensures.keeps)
