use Rattle.std.proofs.Common.{◌≡◌, drop, map}
use Rattle.builtin_meaning.specs.Names.{find_function}
use Rattle.builtin_meaning.proofs.named.function_in.Given as goal

abbrev pub invariant-loop-word : goal.invariant-loop-word
invariant-loop-word l =
    find_function (map (λ row. (row.0.now, row.1)) l.rows) l.name ≡ find_function (map (λ row. (row.0.now, row.1)) (drop l.word-index l.rows)) l.name
