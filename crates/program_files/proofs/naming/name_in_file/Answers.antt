use Rattle.std.proofs.Common.{◌≡◌, ◌∙◌, List, ℕ, subst}
use Rattle.php_syntax.specs.declared.tree.FileTree.{FileTree}
use Rattle.php_syntax.specs.Trees.{plain_file}
use Rattle.program_rules.specs.Bodies.{file_with_bodies}
use Rattle.program_files.specs.Steps.{placed_include}
use Rattle.program_files.proofs.Visits.{file_replaced}
use Rattle.program_files.proofs.naming.name_in_file.Goals as goal

pub returns : goal.returns
returns c =
    let same : c.in-Ok.file.now ≡ c.args.file.now = c.in-Ok.ensures.cases.0 ∙ c.as_slice.ensures in
    let tree : FileTree = record { body = c.name_in.new.stmts; functions = c.name_in_functions.new.functions } in
    subst (λ (x : List ℕ). plain_file tree ≡ file_with_bodies (placed_include c.args.names.now.keys c.args.main.now x) (plain_file c.args.tree.now)) same
    (file_replaced (placed_include c.args.names.now.keys c.args.main.now c.in-Ok.file.now) c.args.tree.now c.name_in.new.stmts c.name_in_functions.new.functions c.in_ok-name_in-in-Ok.ensures c.in_ok-name_in_functions-in-Ok.ensures)
