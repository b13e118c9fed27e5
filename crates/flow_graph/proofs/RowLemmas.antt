-- Rows, side by side.
use Rattle.std.proofs.Common.{append_assoc}
use Rattle.std.proofs.lemmas.List.{append-nil, map-append}

pub ruleset ends = (append-nil, append_assoc, map-append)
