use Rattle.std.proofs.Common.{◌≡◌, ◌++◌, ℕ, List, drop}
use Rattle.lexical_grammar.specs.Spelled.{quoted}
use Rattle.php_writer.proofs.marks.Writer.quote.Given as goal

-- what is left to put stands behind what is put
abbrev pub invariant-loop-byte : goal.invariant-loop-byte
invariant-loop-byte l = (rest : List ℕ) → l.self.bytes ++ (quoted (drop l.byte-index l.text) ++ rest) ≡ l.initial.self.bytes ++ (quoted l.text ++ rest)
