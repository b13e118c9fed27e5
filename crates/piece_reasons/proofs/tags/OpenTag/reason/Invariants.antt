use Rattle.std.proofs.Common.{length, map}
use Rattle.page_rules.specs.Views.{attribute_of}
use Rattle.piece_reasons.specs.Tags.{HasCome}
use Rattle.piece_reasons.proofs.tags.OpenTag.reason.Given as goal

abbrev pub invariant-loop-first : goal.invariant-loop-first
invariant-loop-first l = HasCome l.behind (map attribute_of l.done.items) l.left

abbrev pub decreases-loop-first : goal.decreases-loop-first
decreases-loop-first l = length l.left
