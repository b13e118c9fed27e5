use Rattle.std.proofs.Common.{◌≡◌, drop}
use Rattle.std.specs.Str.{str_to_ascii_lowercase}
use Rattle.script_grammar.specs.Terminals.{same_bytes}
use Rattle.php_writer.proofs.names.is_lowered.Given as goal

-- what is left to test decides
abbrev pub invariant-loop-byte : goal.invariant-loop-byte
invariant-loop-byte l = same_bytes (str_to_ascii_lowercase (drop l.byte-index l.name)) (drop l.byte-index l.name) ≡ same_bytes (str_to_ascii_lowercase l.name) l.name
