use mathlib.Core.Logic.{inl}
use Rattle.expr_parser.specs.Heads.{terminals_of}
use Rattle.php_syntax.specs.Tokens.{plain_tokens}
use Rattle.php_syntax.specs.Trees.{plain_file}
use Rattle.php_parser.proofs.Spelled.{tree_read, only_tree_read, tall_read, none_read, not_too_deep, file_is, tall_is, stuck_is}
use Rattle.php_parser.proofs.parser.parse.Goals as goal

pub returns-in-Some-clause-refused : goal.returns-in-Some-clause-refused
unfolding terminals_of
returns-in-Some-clause-refused c = inl c.in-Some.ensures

pub returns-in-File-clause-tree : goal.returns-in-File-clause-tree
unfolding terminals_of
returns-in-File-clause-tree c =
    let m = file_is _ c.in_ok-tree.field-0 c.in-File.tree c.in_ok-tree.ensures c.in-File.is
    in (tree_read c.what_is_read_is_a_file.ensures c.actions_make_files.ensures (plain_tokens c.args.tokens.now) m.0 (plain_file c.in-File.tree) m.1 m.2).0

pub returns-in-File-clause-only : goal.returns-in-File-clause-only
unfolding terminals_of
returns-in-File-clause-only c =
    let m = file_is _ c.in_ok-tree.field-0 c.in-File.tree c.in_ok-tree.ensures c.in-File.is
    in only_tree_read c.files_are_read.ensures c.actions_make_files.ensures (plain_tokens c.args.tokens.now) m.0 (plain_file c.in-File.tree) m.1 m.2

pub returns-in-File-clause-within : goal.returns-in-File-clause-within
unfolding terminals_of
returns-in-File-clause-within c =
    let m = file_is _ c.in_ok-tree.field-0 c.in-File.tree c.in_ok-tree.ensures c.in-File.is
    in (c.in_default.ensures, (tree_read c.what_is_read_is_a_file.ensures c.actions_make_files.ensures (plain_tokens c.args.tokens.now) m.0 (plain_file c.in-File.tree) m.1 m.2).1)

pub returns-in-Tall-clause-refused : goal.returns-in-Tall-clause-refused
unfolding terminals_of
returns-in-Tall-clause-refused c =
    let m = tall_is _ c.in_ok-tree.field-0 c.in-Tall.at c.in_ok-tree.ensures c.in-Tall.is
    in tall_read c.what_is_read_is_a_file.ensures c.actions_make_files.ensures (plain_tokens c.args.tokens.now) m.0 m.1 m.2

pub returns-in-Stuck-clause-refused : goal.returns-in-Stuck-clause-refused
unfolding terminals_of
returns-in-Stuck-clause-refused c =
    let none = stuck_is _ c.in_ok-tree.field-0 c.in-Stuck.at c.in_ok-tree.ensures c.in-Stuck.is
    in (not_too_deep c.files_are_read.ensures c.actions_make_files.ensures (plain_tokens c.args.tokens.now) none c.in_default.ensures, none_read c.files_are_read.ensures c.actions_make_files.ensures (plain_tokens c.args.tokens.now) none)
