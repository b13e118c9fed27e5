use Rattle.std.proofs.Common.{◌≡◌, ◌+◌, drop, map, codes}
use Rattle.dtd_model.specs.Table.{rule_of}
use Rattle.page_model.specs.Valid.{place_of}
use Rattle.page_validator.proofs.progress.html_place.Given as goal

abbrev pub invariant-loop-i : goal.invariant-loop-i
invariant-loop-i l = l.i + place_of (map rule_of (drop l.i l.dtd.elements.items)) (codes "html") ≡ place_of (map rule_of l.dtd.elements.items) (codes "html")
