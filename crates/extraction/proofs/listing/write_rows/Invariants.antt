use Rattle.std.proofs.Common.{◌≡◌, ◌++◌}
use Rattle.std.specs.Vec.Iter.{into_iter_items}
use Rattle.point_listing.specs.Forms.{forms_seen}
use Rattle.extraction.specs.Steps.{AddsRows}
use Rattle.extraction.specs.Numbered.{NamedIn}
use Rattle.extraction.proofs.listing.write_rows.Given as goal

abbrev pub invariant-loop-named : goal.invariant-loop-named
invariant-loop-named l =
    record {
      split : l.fn.forms.items ≡ l.yielded ++ into_iter_items l.named-iterator;
      adds : AddsRows l.initial.work l.work (NamedIn (forms_seen l.fn.forms.items)) l.set (forms_seen l.yielded);
    }
