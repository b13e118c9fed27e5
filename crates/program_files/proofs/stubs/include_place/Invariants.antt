use Rattle.std.proofs.Common.{◌≡◌, drop}
use Rattle.php_syntax.specs.Tokens.{plain_tokens}
use Rattle.program_files.specs.Stubs.{include_place}
use Rattle.program_files.proofs.stubs.include_place.Given as goal

-- what is left decides
abbrev pub invariant-loop-token : goal.invariant-loop-token
invariant-loop-token l = include_place (plain_tokens (drop l.token-index l.tokens)) ≡ include_place (plain_tokens l.tokens)
