use Rattle.std.proofs.Common.{◌≡◌, drop, map}
use Rattle.script_grammar.specs.Terminals.{find_word}
use Rattle.script_grammar.proofs.keyword.word_in.Given as goal

abbrev pub invariant-loop-word : goal.invariant-loop-word
invariant-loop-word l =
    find_word (map (λ row. (row.0.now, row.1)) l.rows) l.name ≡ find_word (map (λ row. (row.0.now, row.1)) (drop l.word-index l.rows)) l.name
