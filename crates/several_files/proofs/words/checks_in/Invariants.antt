use Rattle.std.proofs.Common.{◌≡◌, ◌++◌, length, map, string_bytes}
use Rattle.several_files.specs.Words as spec
use Rattle.several_files.specs.Views.{file_as}
use Rattle.several_files.specs.declared.words.Place.TheVariants.{Free}
use Rattle.several_files.proofs.words.checks_in.Given as goal

-- what is put, and what is left to put
abbrev pub invariant-loop-word : goal.invariant-loop-word
invariant-loop-word l = (map string_bytes l.options.items ++ spec.words_where spec.is_option_at l.place (map string_bytes l.rest)
    ≡ spec.words_where spec.is_option_at Free (map string_bytes l.words))
    × (map file_as l.files.items ++ map spec.given (spec.words_where spec.is_name_at l.place (map string_bytes l.rest))
    ≡ map spec.given (spec.words_where spec.is_name_at Free (map string_bytes l.words)))

abbrev pub decreases-loop-word : goal.decreases-loop-word
decreases-loop-word l = length l.rest
