use Rattle.std.proofs.Common.{◌<◌, length}
use Rattle.page_lexer.specs.Lexing.{lexer_states}
use Rattle.page_reader_tests.proofs.reading.stepped_words.Given as goal

abbrev pub invariant-loop-byte : goal.invariant-loop-byte
invariant-loop-byte l = l.state.0 < length (lexer_states l.lexer)
