use Rattle.std.proofs.Common.{◌≡◌, drop}
use Rattle.std.specs.List.{list_any}
use Rattle.std.specs.Prelude.{bytes_eq}
use Rattle.page_rules.proofs.values.is_one_of.Given as goal

abbrev pub invariant-loop-token : goal.invariant-loop-token
invariant-loop-token l = list_any (bytes_eq l.word) (drop l.token-index l.tokens.items) ≡ list_any (bytes_eq l.word) l.tokens.items
