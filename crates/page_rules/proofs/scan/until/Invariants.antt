use Rattle.std.proofs.Common.{◌≡◌, take, drop}
use Rattle.page_model.specs.Scan.{until}
use Rattle.page_rules.proofs.Untils.{behind_front}
use Rattle.page_rules.proofs.scan.until.Given as goal

abbrev pub invariant-loop-i : goal.invariant-loop-i
invariant-loop-i l = until l.word l.cs ≡ behind_front (take l.i l.cs) (until l.word (drop l.i l.cs))
