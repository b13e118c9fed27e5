use Rattle.std.proofs.Common.{◌≡◌, drop}
use Rattle.page_model.specs.Scan.{strip}
use Rattle.page_rules.proofs.scan.strip.Given as goal

abbrev pub invariant-loop-byte : goal.invariant-loop-byte
invariant-loop-byte l = strip (drop l.byte-index l.word) l.rest ≡ strip l.word l.cs
