use Rattle.std.proofs.Common.{◌≡◌, drop}
use Rattle.std.specs.Str.{str_eq_ignore_ascii_case}
use Rattle.page_rules.proofs.words.is_word_in_any_case.Given as goal

abbrev pub invariant-loop-byte : goal.invariant-loop-byte
invariant-loop-byte l = str_eq_ignore_ascii_case l.rest (drop l.byte-index l.word) ≡ str_eq_ignore_ascii_case l.cs l.word
