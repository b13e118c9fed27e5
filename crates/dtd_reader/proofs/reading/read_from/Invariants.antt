use Rattle.std.proofs.Common.{◌≡◌}
use Rattle.io_edge.specs.Told.{Content, Stays}
use Rattle.dtd_texts.specs.Spells.{seen_from}
use Rattle.dtd_reader.specs.SoFar.{SoFar}
use Rattle.dtd_reader.specs.Views.{position_of, work_left}
use Rattle.dtd_reader.proofs.reading.read_from.Given as goal

-- whatever the rest leads to, so does the text, and no count rose
abbrev pub invariant-steps : goal.invariant-steps
invariant-steps g l =
    ((content : Content) → Stays (g.F.Files.content l.files) content → SoFar (seen_from l.fn.origin.root.now l.fn.origin.name.now content) l.fn.text (position_of l.reader))
    × Stays (g.F.Files.content l.initial.files) (g.F.Files.content l.files)
    × (g.F.Files.faults l.files ≡ g.F.Files.faults l.initial.files)
    × (g.F.Files.misses l.files ≡ g.F.Files.misses l.initial.files)

abbrev pub decreases-steps : goal.decreases-steps
decreases-steps g l = work_left (position_of l.reader)
