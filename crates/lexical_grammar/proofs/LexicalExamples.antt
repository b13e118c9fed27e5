-- The lexical grammar on worked examples and near misses outside templates.
use Rattle.std.proofs.Common.{◌≡◌, ℕ, zero, suc, ◌+◌, List, [], ◌∷◌, ◌++◌, map, drop, refl, Option, Some, None, pos, codes}
use Rattle.php_syntax.specs.declared.token.Sign.TheVariants as s
use Rattle.php_syntax.specs.Tokens.{PlainToken, PlainKind, inline, variable, name, integer, text, sign}
use Rattle.lexical_grammar.specs.Steps.{Mode, outside, inside, goes, refuses}
use Rattle.lexical_grammar.specs.declared.fault.LexicalFault.{LexicalFault}
use Rattle.lexical_grammar.specs.declared.fault.LexicalFault.TheVariants.{BadByte, Unclosed, Float, BigInt}
use Rattle.lexical_grammar.specs.Cuts.{step, opener_step, lexeme_step, between_step, word_step, text_step, mark_step, blank_step, line_comment_step, block_comment_step, leaving_step}
use Rattle.lexical_grammar.specs.Words.{name_step, variable_step, number_step}
use Rattle.lexical_grammar.specs.Signs.{sign_step, cast_step}
use Rattle.lexical_grammar.specs.Rows.{row}
use Rattle.lexical_grammar.specs.Texts.{single_step, double_step, simple_key, braced_key, subscript_at, subscripts, escape_at, dollar_at, brace_at, unit_at}
use Rattle.lexical_grammar.specs.Heredocs.{heredoc_step, nowdoc_step, indented_at, body_step}

-- what a file comes to: its tokens, or the fault and its place
pub data Answer : Type 0 where
  cut_to : List PlainToken → Answer
  stopped : LexicalFault → ℕ → Answer

abbrev pub and_token : Option PlainKind → ℕ → Answer → Answer
and_token None at answer = answer
and_token (Some kind) at (cut_to tokens) = cut_to (record { kind = kind; at = at } ∷ tokens)
and_token (Some kind) at (stopped fault place) = stopped fault place

-- at most so many steps in turn
abbrev pub answer : ℕ → Mode → ℕ → List ℕ → Answer
answer zero mode at bytes = cut_to []
answer (suc fuel) mode at [] = cut_to []
answer (suc fuel) mode at (b ∷ bytes) = elim (step mode (b ∷ bytes)) [ goes token n next ↦ and_token token at (answer fuel next (at + n) (drop n (b ∷ bytes))) | refuses fault n ↦ stopped fault (at + n) ]

-- a file, and a piece inside PHP
abbrev pub file : List ℕ → Answer
file bytes = answer 60 outside 0 bytes

abbrev pub piece : List ℕ → Answer
piece bytes = answer 60 inside 0 bytes

-- a token at its place
abbrev pub tok : PlainKind → ℕ → PlainToken
tok kind at = record { kind = kind; at = at }

-- openers in any case, with one blank; the bytes outside PHP; a short opener is text
openers : map file ((codes "a<?PhP\t1")
    ∷ (codes "<?php\r\n;")
    ∷ (codes "<?php")
    ∷ (codes "<?php\n\n;")
    ∷ (codes "<?phpx<?=x")
    ∷ (codes "<? x ?>")
    ∷ (codes "<?=1?>\n\n<")
    ∷ (codes "") ∷ []) ≡ cut_to (tok (inline (codes "a")) 0 ∷ tok (integer (pos 1)) 7 ∷ [])
    ∷ cut_to (tok (sign s.Semicolon) 7 ∷ [])
    ∷ cut_to ([])
    ∷ cut_to (tok (sign s.Semicolon) 7 ∷ [])
    ∷ cut_to (tok (inline (codes "<?phpx")) 0 ∷ tok (name (codes "echo")) 6 ∷ tok (name (codes "x")) 9 ∷ [])
    ∷ cut_to (tok (inline (codes "<? x ?>")) 0 ∷ [])
    ∷ cut_to (tok (name (codes "echo")) 0 ∷ tok (integer (pos 1)) 3 ∷ tok (sign s.Semicolon) 4 ∷ tok (inline (codes "\n<")) 7 ∷ [])
    ∷ cut_to ([]) ∷ []
unfolding step opener_step lexeme_step between_step word_step text_step mark_step blank_step line_comment_step block_comment_step leaving_step name_step variable_step number_step sign_step cast_step row single_step double_step simple_key braced_key subscript_at subscripts escape_at dollar_at brace_at unit_at heredoc_step nowdoc_step indented_at body_step
openers = refl

-- `?>` gives a semicolon and takes one line end with it; `??>` is not one
leaving : map piece ((codes "?>\r\nx")
    ∷ (codes "?>\rx")
    ∷ (codes "?> x")
    ∷ (codes "??>") ∷ []) ≡ cut_to (tok (sign s.Semicolon) 0 ∷ tok (inline (codes "x")) 4 ∷ [])
    ∷ cut_to (tok (sign s.Semicolon) 0 ∷ tok (inline (codes "x")) 3 ∷ [])
    ∷ cut_to (tok (sign s.Semicolon) 0 ∷ tok (inline (codes " x")) 2 ∷ [])
    ∷ cut_to (tok (sign s.Coalesce) 0 ∷ tok (sign s.Greater) 2 ∷ []) ∷ []
unfolding step opener_step lexeme_step between_step word_step text_step mark_step blank_step line_comment_step block_comment_step leaving_step name_step variable_step number_step sign_step cast_step row single_step double_step simple_key braced_key subscript_at subscripts escape_at dollar_at brace_at unit_at heredoc_step nowdoc_step indented_at body_step
leaving = refl

-- comments end before `?>`, a line end or the end; `/*/` opens one and does not close it
comments : map piece ((codes "# a ?>b")
    ∷ (codes "// a\r1")
    ∷ (codes "//?")
    ∷ (codes "/* ?> */1")
    ∷ (codes "/**/1")
    ∷ (codes " /*/")
    ∷ (codes "#[A]")
    ∷ (codes "1 / 2") ∷ []) ≡ cut_to (tok (sign s.Semicolon) 4 ∷ tok (inline (codes "b")) 6 ∷ [])
    ∷ cut_to (tok (integer (pos 1)) 5 ∷ [])
    ∷ cut_to ([])
    ∷ cut_to (tok (integer (pos 1)) 8 ∷ [])
    ∷ cut_to (tok (integer (pos 1)) 4 ∷ [])
    ∷ stopped Unclosed 1
    ∷ stopped BadByte 0
    ∷ stopped BadByte 2 ∷ []
unfolding step opener_step lexeme_step between_step word_step text_step mark_step blank_step line_comment_step block_comment_step leaving_step name_step variable_step number_step sign_step cast_step row single_step double_step simple_key braced_key subscript_at subscripts escape_at dollar_at brace_at unit_at heredoc_step nowdoc_step indented_at body_step
comments = refl

-- names and variables
words : map piece ((codes "_a1 $b")
    ∷ (codes "Echo")
    ∷ (codes "$ a")
    ∷ (codes "$1")
    ∷ (codes "a" ++ (195 ∷ [])) ∷ []) ≡ cut_to (tok (name (codes "_a1")) 0 ∷ tok (variable (codes "b")) 4 ∷ [])
    ∷ cut_to (tok (name (codes "Echo")) 0 ∷ [])
    ∷ stopped BadByte 0
    ∷ stopped BadByte 0
    ∷ stopped BadByte 1 ∷ []
unfolding step opener_step lexeme_step between_step word_step text_step mark_step blank_step line_comment_step block_comment_step leaving_step name_step variable_step number_step sign_step cast_step row single_step double_step simple_key braced_key subscript_at subscripts escape_at dollar_at brace_at unit_at heredoc_step nowdoc_step indented_at body_step
words = refl

-- integers; floats, octal literals, large ones and letters behind them are refused
numbers : map piece ((codes "0 10")
    ∷ (codes "9223372036854775807")
    ∷ (codes "9223372036854775808")
    ∷ (codes "012")
    ∷ (codes "0x1")
    ∷ (codes "12a")
    ∷ (codes "1e")
    ∷ (codes " 1.5")
    ∷ (codes "1.")
    ∷ (codes ".5")
    ∷ (codes "1e5")
    ∷ (codes "1E+5")
    ∷ (codes "00.5")
    ∷ (codes "1 . 5") ∷ []) ≡ cut_to (tok (integer (pos 0)) 0 ∷ tok (integer (pos 10)) 2 ∷ [])
    ∷ cut_to (tok (integer (pos 9223372036854775807)) 0 ∷ [])
    ∷ stopped BigInt 0
    ∷ stopped BadByte 1
    ∷ stopped BadByte 1
    ∷ stopped BadByte 2
    ∷ stopped BadByte 1
    ∷ stopped Float 1
    ∷ stopped Float 0
    ∷ stopped Float 0
    ∷ stopped Float 0
    ∷ stopped Float 0
    ∷ stopped Float 0
    ∷ cut_to (tok (integer (pos 1)) 0 ∷ tok (sign s.Dot) 2 ∷ tok (integer (pos 5)) 4 ∷ []) ∷ []
unfolding step opener_step lexeme_step between_step word_step text_step mark_step blank_step line_comment_step block_comment_step leaving_step name_step variable_step number_step sign_step cast_step row single_step double_step simple_key braced_key subscript_at subscripts escape_at dollar_at brace_at unit_at heredoc_step nowdoc_step indented_at body_step
numbers = refl

-- the longest sign is taken
signs : map piece ((codes "====")
    ∷ (codes "!==!=!")
    ∷ (codes "??=??")
    ∷ (codes "<><=<")
    ∷ (codes "+++")
    ∷ (codes "$a&&$b")
    ∷ (codes "&")
    ∷ (codes "|x") ∷ []) ≡ cut_to (tok (sign s.Identical) 0 ∷ tok (sign s.Assign) 3 ∷ [])
    ∷ cut_to (tok (sign s.NotIdentical) 0 ∷ tok (sign s.NotEqual) 3 ∷ tok (sign s.Not) 5 ∷ [])
    ∷ cut_to (tok (sign s.CoalesceAssign) 0 ∷ tok (sign s.Coalesce) 3 ∷ [])
    ∷ cut_to (tok (sign s.LessGreater) 0 ∷ tok (sign s.LessEqual) 2 ∷ tok (sign s.Less) 4 ∷ [])
    ∷ cut_to (tok (sign s.Increment) 0 ∷ tok (sign s.Plus) 2 ∷ [])
    ∷ cut_to (tok (variable (codes "a")) 0 ∷ tok (sign s.And) 2 ∷ tok (variable (codes "b")) 4 ∷ [])
    ∷ stopped BadByte 0
    ∷ stopped BadByte 0 ∷ []
unfolding step opener_step lexeme_step between_step word_step text_step mark_step blank_step line_comment_step block_comment_step leaving_step name_step variable_step number_step sign_step cast_step row single_step double_step simple_key braced_key subscript_at subscripts escape_at dollar_at brace_at unit_at heredoc_step nowdoc_step indented_at body_step
signs = refl

-- casts in any case, with spaces and tabs inside
casts : map piece ((codes "(int)")
    ∷ (codes "( \tSTRING )")
    ∷ (codes "(int\n)")
    ∷ (codes "(inta)")
    ∷ (codes "()") ∷ []) ≡ cut_to (tok (sign s.CastInt) 0 ∷ [])
    ∷ cut_to (tok (sign s.CastString) 0 ∷ [])
    ∷ cut_to (tok (sign s.OpenParen) 0 ∷ tok (name (codes "int")) 1 ∷ tok (sign s.CloseParen) 5 ∷ [])
    ∷ cut_to (tok (sign s.OpenParen) 0 ∷ tok (name (codes "inta")) 1 ∷ tok (sign s.CloseParen) 5 ∷ [])
    ∷ cut_to (tok (sign s.OpenParen) 0 ∷ tok (sign s.CloseParen) 1 ∷ []) ∷ []
unfolding step opener_step lexeme_step between_step word_step text_step mark_step blank_step line_comment_step block_comment_step leaving_step name_step variable_step number_step sign_step cast_step row single_step double_step simple_key braced_key subscript_at subscripts escape_at dollar_at brace_at unit_at heredoc_step nowdoc_step indented_at body_step
casts = refl

-- two escapes; any other backslash stands for itself
single_quoted_texts : map piece ((codes "'a\\'b'")
    ∷ (codes "'\\\\'")
    ∷ (codes "'\\n$x'")
    ∷ (codes "''")
    ∷ (codes "'a ?>\n'1")
    ∷ (codes " '\\'") ∷ []) ≡ cut_to (tok (text (codes "a'b")) 0 ∷ [])
    ∷ cut_to (tok (text (codes "\\")) 0 ∷ [])
    ∷ cut_to (tok (text (codes "\\n$x")) 0 ∷ [])
    ∷ cut_to (tok (text (codes "")) 0 ∷ [])
    ∷ cut_to (tok (text (codes "a ?>\n")) 0 ∷ tok (integer (pos 1)) 7 ∷ [])
    ∷ stopped Unclosed 1 ∷ []
unfolding step opener_step lexeme_step between_step word_step text_step mark_step blank_step line_comment_step block_comment_step leaving_step name_step variable_step number_step sign_step cast_step row single_step double_step simple_key braced_key subscript_at subscripts escape_at dollar_at brace_at unit_at heredoc_step nowdoc_step indented_at body_step
single_quoted_texts = refl
