-- One step of cutting: what stands at the head of the bytes.
use Rattle.std.specs.Prelude.{ℕ, Option, Some, None}
use Rattle.php_syntax.specs.Tokens.{PlainKind}
use Rattle.lexical_grammar.specs.declared.fault.LexicalFault.{LexicalFault}

-- outside PHP or inside it
pub data Mode : Type 0 where
  outside : Mode
  inside : Mode

-- so many bytes, which give this token or none, and in which mode the file goes on; or a fault, so many bytes on
pub data Step : Type 0 where
  goes : Option PlainKind → ℕ → Mode → Step
  refuses : LexicalFault → ℕ → Step

-- a token, and PHP goes on
abbrev pub gives : PlainKind → ℕ → Option Step
gives kind n = Some (goes (Some kind) n inside)

-- bytes that give no token, and PHP goes on
abbrev pub passes : ℕ → Option Step
passes n = Some (goes None n inside)

-- a fault
abbrev pub faults : LexicalFault → ℕ → Option Step
faults fault n = Some (refuses fault n)

-- the first of two readings of the head that there is
abbrev pub or_else : Option Step → Option Step → Option Step
or_else None second = second
or_else (Some step) second = Some step
