-- What the lexer and the parser say of a script.
use Rattle.std.proofs.Common.{◌≡◌, ◌≤◌, ◌<◌, ℕ, List, length, refl, subst, sym, arith, inl, inr}
use Rattle.std.specs.Prelude.{Result, Ok, Err, IfErr}
use Rattle.php_syntax.specs.Tokens.{PlainToken}
use Rattle.php_syntax.specs.Trees.{PlainFile}
use Rattle.script_grammar.specs.Terminals.{terminals}
use Rattle.text_base.specs.declared.limits.TheConstants.{FILE_LIMIT}
use Rattle.lexical_grammar.specs.Cuts.{Cuts}
use Rattle.php_syntax.specs.Height.{file_height}
use Rattle.script_grammar.specs.Grammar.{SpellsTree, IsTooDeep, most_open}
use Rattle.php_lexer.specs.declared.refusal.LexRefusal.{LexRefusal}
use Rattle.php_lexer.specs.declared.refusal.LexRefusal.TheVariants as lexed
use Rattle.php_lexer.specs.Refusals as lexing
use Rattle.php_parser.specs.declared.refusal.ParseRefusal.{ParseRefusal}
use Rattle.php_parser.specs.declared.refusal.ParseRefusal.TheVariants as parsed
use Rattle.php_parser.specs.Refusals as parsing
use Rattle.program_files.specs.declared.tree.Unread.{Unread}
use Rattle.program_files.specs.Unread.{lexed_as, parsed_as, IsUnread}

pub shallow : (tokens : List PlainToken) (tree : PlainFile) → (most_open 0 (terminals tokens) ≤ 200) × (file_height tree ≤ 200) → ((other : PlainFile) → SpellsTree tokens other → other ≡ tree) → IsTooDeep tokens → ⊥
shallow tokens tree (few, low) only (inl many) = omega (arith, few, many)
shallow tokens tree (few, low) only (inr (other, spelled, high)) =
    let highest : 200 < file_height tree = subst (λ t. 200 < file_height t) (only other spelled) high in
    omega (arith, low, highest)

lexed_cause : (script : List ℕ) (e : LexRefusal) → length script ≤ FILE_LIMIT → lexing.IsCauseOf script e → IsUnread script (lexed_as e)
lexed_cause script (lexed.Breaks fault at) fits (short, breaks) = record { fault = fault; at = at; short = short; breaks = breaks; said = refl }
lexed_cause script (lexed.TooLong len) fits (long, is) = absurd (omega (arith, fits, long))
lexed_cause script lexed.Memory fits free = tt

parsed_cause : (script : List ℕ) (tokens : List PlainToken) (e : ParseRefusal) → Cuts script tokens → parsing.IsCauseOf tokens e → IsUnread script (parsed_as e)
parsed_cause script tokens (parsed.NotInSubset at) cut (within, none) = record { tokens = tokens; cut = cut; nothing = none; within = within }
parsed_cause script tokens (parsed.TooDeep at) cut deep = record { tokens = tokens; cut = cut; deep = deep }
parsed_cause script tokens parsed.Memory cut free = tt

pub refused_tokens : {X : Type 0} (script : List ℕ) (e : LexRefusal) (result : Result X Unread) → length script ≤ FILE_LIMIT → lexing.IsCauseOf script e → IfErr result (λ r. r ≡ lexed_as e)
    → IfErr result (λ r. IsUnread script r)
refused_tokens script e (Ok x) fits cause is = tt
refused_tokens script e (Err r) fits cause is = subst (IsUnread script) (sym is) (lexed_cause script e fits cause)

pub refused_tree : {X : Type 0} (script : List ℕ) (tokens : List PlainToken) (e : ParseRefusal) (result : Result X Unread) → Cuts script tokens → parsing.IsCauseOf tokens e → IfErr result (λ r. r ≡ parsed_as e)
    → IfErr result (λ r. IsUnread script r)
refused_tree script tokens e (Ok x) cut cause is = tt
refused_tree script tokens e (Err r) cut cause is = subst (IsUnread script) (sym is) (parsed_cause script tokens e cut cause)
