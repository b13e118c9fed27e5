-- What a run that has ended is seen as.
use Rattle.script_meaning.specs.Meaning.{Outcome}
use Rattle.script_runs.specs.Frames.{plain_end}
use Rattle.script_runs.specs.declared.ended.Ended.{Ended}

-- what it printed, and how it ended
abbrev pub plain_outcome : Ended → Outcome
plain_outcome ended = record { printed = ended.printed; end = plain_end ended.end }
