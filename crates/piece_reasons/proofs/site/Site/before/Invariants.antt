use Rattle.std.proofs.Common.{◌≡◌, ◌-◌, drop, length}
use Rattle.std.specs.Str.{encode_utf8_all}
use Rattle.piece_reasons.proofs.site.Site.before.Given as goal

abbrev pub invariant-loop-c : goal.invariant-loop-c
invariant-loop-c l = l.at - length (encode_utf8_all (drop l.c-index l.left)) ≡ l.self.size - length (encode_utf8_all l.left)
