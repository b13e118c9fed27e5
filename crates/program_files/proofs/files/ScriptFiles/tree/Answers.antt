use Rattle.std.proofs.Common.{◌∙◌, ◌<◌, ◌≤◌, length, ap, subst, List, get_or}
use Rattle.php_syntax.specs.declared.tree.FileTree.{FileTree}
use Rattle.program_files.proofs.Pairs.{tree_at, tree_found, no_tree}
use Rattle.program_files.proofs.files.ScriptFiles.tree.Goals as goal

pub returns-then-place-trees : goal.returns-then-place-trees
returns-then-place-trees c =
    let e = c.as_slice-trees.ensures.value in
    let lt : c.args.place < length c.args.self.now.trees.items = subst (λ (ts : List FileTree). c.args.place < length ts) e c.if-place-trees.true in
    tree_found c.args.self.now.trees.items c.args.place c.index-trees-place.result lt (c.index-trees-place.is ∙ ap (λ (ts : List FileTree). get_or ts c.args.place c.index-trees-place.result) e)
    ∙ tree_at c.args.self.now.names.keys c.args.self.now.trees.items c.args.place c.args.self.now.paired

pub returns-else-place-trees : goal.returns-else-place-trees
returns-else-place-trees c =
    let e = c.as_slice-trees.ensures.value in
    let le : length c.args.self.now.trees.items ≤ c.args.place = subst (λ (ts : List FileTree). length ts ≤ c.args.place) e c.if-place-trees.false in
    no_tree c.args.self.now.trees.items c.args.place le ∙ tree_at c.args.self.now.names.keys c.args.self.now.trees.items c.args.place c.args.self.now.paired
