use Rattle.std.proofs.Common.{◌≡◌, ◌++◌, length, map, string_bytes}
use Rattle.several_files.proofs.words.add_words.Given as goal

-- what is put, and what is left to put
abbrev pub invariant-loop-word : goal.invariant-loop-word
invariant-loop-word l = map string_bytes l.words.items ++ map string_bytes l.rest ≡ map string_bytes l.initial.words.items ++ map string_bytes l.more

abbrev pub decreases-loop-word : goal.decreases-loop-word
decreases-loop-word l = length l.rest
