use Rattle.std.proofs.Common.{◌≡◌, ◌+◌, ◌≤◌, length, map}
use Rattle.std.specs.Prelude.{codes}
use Rattle.dtd_model.specs.Table.{rule_of}
use Rattle.page_model.specs.Valid.{place_of}
use Rattle.segment_summary.proofs.rules.root_of.Given as goal

abbrev pub invariant-loop-first : goal.invariant-loop-first
invariant-loop-first l =
    record {
      place : l.place + place_of (map rule_of l.rest) (codes "html") ≡ place_of (map rule_of l.elements) (codes "html");
      within : l.place + length l.rest ≤ length l.elements;
    }

abbrev pub decreases-loop-first : goal.decreases-loop-first
decreases-loop-first l = length l.rest
