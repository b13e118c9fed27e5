use Rattle.std.proofs.Common.{◌≡◌, ◌≤◌, drop}
use Rattle.dtd_model.specs.References.{number_written}
use Rattle.page_rules.proofs.references.is_number.Given as goal

abbrev pub invariant-loop-c : goal.invariant-loop-c
invariant-loop-c l = (number_written l.base l.number (drop l.c-index l.digits) ≡ number_written l.base 0 l.digits) × (l.number ≤ 0x10FFFF)
