use Rattle.std.proofs.Common.{◌≡◌, ◌++◌, length, take}
use Rattle.phpsa_texts.specs.Shown.{shown_behind}
use Rattle.phpsa_texts.specs.declared.shown.TheConstants.{NAME_LIMIT}
use Rattle.phpsa_texts.proofs.shown.shown_name.Given as goal

-- what is written, and what is left to write
abbrev pub invariant-loop-first : goal.invariant-loop-first
invariant-loop-first l = l.text ++ shown_behind l.more l.rest ≡ shown_behind 0 (take NAME_LIMIT l.name)

abbrev pub decreases-loop-first : goal.decreases-loop-first
decreases-loop-first l = length l.rest
