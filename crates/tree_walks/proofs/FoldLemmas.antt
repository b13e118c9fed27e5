-- What is visited one list after the other.
use Rattle.std.proofs.lemmas.List.{append-nil}
use Rattle.std.proofs.Common.{append_assoc}
use Rattle.std.proofs.lemmas.Grind.{fold-append}

pub ruleset ends = (append-nil, append_assoc, fold-append)
