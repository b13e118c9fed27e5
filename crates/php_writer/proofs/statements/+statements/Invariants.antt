use Rattle.std.proofs.Common.{◌≡◌, ◌++◌, ◌+◌, ◌*◌, List, drop}
use Rattle.script_grammar.specs.declared.keyword.Keyword.TheVariants as words
use Rattle.php_syntax.specs.Trees.{plain_stmt, stmts_of, arms_of}
use Rattle.php_syntax.specs.Height.{stmt_height, stmts_height, arms_height}
use Rattle.spellable.specs.Marks.{Mark, all_written}
use Rattle.php_writer.specs.Written.{stmts_marks, arms_marks}
use Rattle.php_writer.proofs.statements.+statements.Given as goal

abbrev pub decreases-statement : goal.decreases-statement
decreases-statement l = 8 * stmt_height (plain_stmt l.stmt.now)

abbrev pub decreases-statements : goal.decreases-statements
decreases-statements l = 8 * stmts_height (stmts_of l.stmts.now) + 1

abbrev pub decreases-body : goal.decreases-body
decreases-body l = 8 * stmts_height (stmts_of l.stmts.now) + 2

abbrev pub decreases-otherwise : goal.decreases-otherwise
decreases-otherwise l = 8 * stmts_height (stmts_of l.stmts.now) + 3

abbrev pub decreases-arm : goal.decreases-arm
decreases-arm l = 8 * stmts_height (stmts_of l.arm.now.1.items) + 3

abbrev pub decreases-branches : goal.decreases-branches
decreases-branches l = 8 * arms_height (arms_of l.arms.now) + 4

-- what is left to write stands behind what is written
abbrev pub invariant-statements-loop-stmt : goal.invariant-statements-loop-stmt
invariant-statements-loop-stmt l = (behind : List Mark) → l.out.bytes ++ all_written (stmts_marks (stmts_of (drop l.stmt-index l.stmts)) behind) ≡ l.initial.out.bytes ++ all_written (stmts_marks (stmts_of l.stmts) behind)

abbrev pub invariant-branches-loop-another : goal.invariant-branches-loop-another
invariant-branches-loop-another l = (behind : List Mark) → l.out.bytes ++ all_written (arms_marks (arms_of (drop l.another-index l.rest)) words.ElseIf behind) ≡ l.initial.out.bytes ++ all_written (arms_marks (arms_of l.rest) words.ElseIf behind)
