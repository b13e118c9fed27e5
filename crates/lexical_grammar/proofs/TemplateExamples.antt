-- The lexical grammar on worked examples and near misses of templates, heredocs and nowdocs.
use Rattle.std.proofs.Common.{◌≡◌, [], ◌∷◌, ◌++◌, map, refl, pos, codes}
use Rattle.php_syntax.specs.declared.token.Sign.TheVariants as s
use Rattle.php_syntax.specs.Tokens.{name, text, template, sign, plain_part, read_part, text_key, int_key, var_key}
use Rattle.lexical_grammar.specs.declared.fault.LexicalFault.TheVariants.{Unclosed, Escape}
use Rattle.lexical_grammar.specs.Cuts.{step, opener_step, lexeme_step, between_step, word_step, text_step, mark_step, blank_step, line_comment_step, block_comment_step, leaving_step}
use Rattle.lexical_grammar.specs.Words.{name_step, variable_step, number_step}
use Rattle.lexical_grammar.specs.Signs.{sign_step, cast_step}
use Rattle.lexical_grammar.specs.Rows.{row}
use Rattle.lexical_grammar.specs.Texts.{single_step, double_step, simple_key, braced_key, subscript_at, subscripts, escape_at, dollar_at, brace_at, unit_at}
use Rattle.lexical_grammar.specs.Heredocs.{heredoc_step, nowdoc_step, indented_at, return_at, body_step}
use Rattle.lexical_grammar.proofs.LexicalExamples.{cut_to, stopped, piece, tok}

-- the escapes of a text in double quotes; every other one is refused
escapes : map piece ((codes "\"\\n\\r\\t\\\\\\$\\\"\"")
    ∷ (codes "\"\"")
    ∷ (codes "\"a\\x41\"")
    ∷ (codes "\"\\0\"")
    ∷ (codes "\"\\'\"")
    ∷ (codes " \"a")
    ∷ (codes "\"\\")
    ∷ (codes "\"\\x") ∷ []) ≡ cut_to (tok (text (codes "\n\r\t\\$\"")) 0 ∷ [])
    ∷ cut_to (tok (text (codes "")) 0 ∷ [])
    ∷ stopped Escape 2
    ∷ stopped Escape 1
    ∷ stopped Escape 1
    ∷ stopped Unclosed 1
    ∷ stopped Unclosed 0
    ∷ stopped Unclosed 0 ∷ []
unfolding step opener_step lexeme_step between_step word_step text_step mark_step blank_step line_comment_step block_comment_step leaving_step name_step variable_step number_step sign_step cast_step row single_step double_step simple_key braced_key subscript_at subscripts escape_at dollar_at brace_at unit_at heredoc_step nowdoc_step indented_at return_at body_step
escapes = refl

-- the forms in which a variable is read, and those that are refused
interpolations : map piece ((codes "\"a$b.\"")
    ∷ (codes "\"$x[k]$x[0]$x[$y]\"")
    ∷ (codes "\"{$x}{$x['a\"]'][7][$z]}\"")
    ∷ (codes "\"$ {a} $\"")
    ∷ (codes "\"{ $x\"")
    ∷ (codes "\"${x}\"")
    ∷ (codes "\"a{$x->y}\"")
    ∷ (codes "\"$x->y\"")
    ∷ (codes "\"$x?->y\"")
    ∷ (codes "\"$x- >\"")
    ∷ (codes "\"$x[01]\"")
    ∷ (codes "\"$x[-1]\"")
    ∷ (codes "\"$x['a']\"")
    ∷ (codes "\"{$x[a]}\"")
    ∷ (codes "\"{$x[\"a\"]}\"")
    ∷ (codes "\"$x" ++ (233 ∷ []) ++ codes "\"")
    ∷ (codes "\"$x[9223372036854775808]\"") ∷ []) ≡ cut_to (tok (template (plain_part (codes "a") ∷ read_part (codes "b") ([]) ∷ plain_part (codes ".") ∷ [])) 0 ∷ [])
    ∷ cut_to (tok (template (read_part (codes "x") (text_key (codes "k") ∷ []) ∷ read_part (codes "x") (int_key (pos 0) ∷ []) ∷ read_part (codes "x") (var_key (codes "y") ∷ []) ∷ [])) 0 ∷ [])
    ∷ cut_to (tok (template (read_part (codes "x") ([]) ∷ read_part (codes "x") (text_key (codes "a\"]") ∷ int_key (pos 7) ∷ var_key (codes "z") ∷ []) ∷ [])) 0 ∷ [])
    ∷ cut_to (tok (text (codes "$ {a} $")) 0 ∷ [])
    ∷ cut_to (tok (template (plain_part (codes "{ ") ∷ read_part (codes "x") ([]) ∷ [])) 0 ∷ [])
    ∷ stopped Escape 1
    ∷ stopped Escape 2
    ∷ stopped Escape 1
    ∷ stopped Escape 1
    ∷ cut_to (tok (template (read_part (codes "x") ([]) ∷ plain_part (codes "- >") ∷ [])) 0 ∷ [])
    ∷ stopped Escape 1
    ∷ stopped Escape 1
    ∷ stopped Escape 1
    ∷ stopped Escape 1
    ∷ stopped Escape 1
    ∷ stopped Escape 1
    ∷ stopped Escape 1 ∷ []
unfolding step opener_step lexeme_step between_step word_step text_step mark_step blank_step line_comment_step block_comment_step leaving_step name_step variable_step number_step sign_step cast_step row single_step double_step simple_key braced_key subscript_at subscripts escape_at dollar_at brace_at unit_at heredoc_step nowdoc_step indented_at return_at body_step
interpolations = refl

-- the last line end is no part of the text; a longer name does not end it; CR LF ends lines, CR alone does not, and is refused before the name
heredocs : map piece ((codes "<<<A\na\nA;")
    ∷ (codes "<<<A\nA")
    ∷ (codes "<<<A\n\nA")
    ∷ (codes "<<<A\r\na\r\nA1\r\nA")
    ∷ (codes "<<<A\na\rAB\r\r\nA")
    ∷ (codes "<<<A\na\rA\nA")
    ∷ (codes "<<<A\n\r \tA\nA")
    ∷ (codes "<<<A\n\"$x\"\nA.")
    ∷ (codes "<<<A\na\n A\nA")
    ∷ (codes "<<<A\n\tA\nA")
    ∷ (codes "<<<A\n AB\nA")
    ∷ (codes "<<<A\n\\\"\nA")
    ∷ (codes "<<<A\nx\\\nA")
    ∷ (codes "<<<A\n\\q\n A\nA")
    ∷ (codes "<<<A\na A")
    ∷ (codes "<<<A\n\\q")
    ∷ (codes "<<< A") ∷ []) ≡ cut_to (tok (text (codes "a")) 0 ∷ tok (sign s.Semicolon) 8 ∷ [])
    ∷ cut_to (tok (text (codes "")) 0 ∷ [])
    ∷ cut_to (tok (text (codes "")) 0 ∷ [])
    ∷ cut_to (tok (text (codes "a\r\nA1")) 0 ∷ [])
    ∷ cut_to (tok (text (codes "a\rAB\r")) 0 ∷ [])
    ∷ stopped Escape 6
    ∷ stopped Escape 5
    ∷ cut_to (tok (template (plain_part (codes "\"") ∷ read_part (codes "x") ([]) ∷ plain_part (codes "\"") ∷ [])) 0 ∷ tok (sign s.Dot) 11 ∷ [])
    ∷ stopped Escape 7
    ∷ stopped Escape 5
    ∷ cut_to (tok (text (codes " AB")) 0 ∷ [])
    ∷ stopped Escape 5
    ∷ stopped Escape 6
    ∷ stopped Escape 5
    ∷ stopped Unclosed 0
    ∷ stopped Unclosed 0
    ∷ cut_to (tok (sign s.Less) 0 ∷ tok (sign s.Less) 1 ∷ tok (sign s.Less) 2 ∷ tok (name (codes "A")) 4 ∷ []) ∷ []
unfolding step opener_step lexeme_step between_step word_step text_step mark_step blank_step line_comment_step block_comment_step leaving_step name_step variable_step number_step sign_step cast_step row single_step double_step simple_key braced_key subscript_at subscripts escape_at dollar_at brace_at unit_at heredoc_step nowdoc_step indented_at return_at body_step
heredocs = refl

-- nothing is replaced
nowdocs : map piece ((codes "<<<'A'\n\\n$x{$\nA")
    ∷ (codes "<<<'A'\n A\nA")
    ∷ (codes "<<<'A'\na\rA\nA")
    ∷ (codes "<<<'A'\na") ∷ []) ≡ cut_to (tok (text (codes "\\n$x{$")) 0 ∷ [])
    ∷ stopped Escape 7
    ∷ stopped Escape 8
    ∷ stopped Unclosed 0 ∷ []
unfolding step opener_step lexeme_step between_step word_step text_step mark_step blank_step line_comment_step block_comment_step leaving_step name_step variable_step number_step sign_step cast_step row single_step double_step simple_key braced_key subscript_at subscripts escape_at dollar_at brace_at unit_at heredoc_step nowdoc_step indented_at return_at body_step
nowdocs = refl
