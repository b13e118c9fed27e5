use Rattle.std.proofs.Common.{◌∙◌, ap, sym, List, [], ◌∷◌, ◌++◌, ℕ, length}
use Rattle.php_syntax.specs.declared.tree.FileTree.{FileTree}
use Rattle.program_files.specs.View.{paired}
use Rattle.program_files.proofs.Pairs.{named_last, counted, paired_push}
use Rattle.program_files.proofs.files.ScriptFiles.with.Goals as goal

pub invariant_of-result : goal.invariant_of-result
invariant_of-result c =
    let names = c.in_ok-insert.ensures.keys ∙ named_last c.args.self.names.keys c.args.self.trees.items c.args.name c.args.self.paired c.requires in
    record {
      paired = ap (λ (ns : List (List ℕ)). length ns) names ∙ counted c.args.self.names.keys c.args.self.trees.items c.args.name c.args.tree c.args.self.paired ∙ sym (ap (λ (ts : List FileTree). length ts) c.in_ok-push.ensures.items);
    }

pub returns : goal.returns
returns c =
    let names = c.in_ok-insert.ensures.keys ∙ named_last c.args.self.names.keys c.args.self.trees.items c.args.name c.args.self.paired c.requires in
    ap (λ (ns : List (List ℕ)). paired ns c.push.new.self.items) names ∙ ap (λ (ts : List FileTree). paired (c.args.self.names.keys ++ c.args.name ∷ []) ts) c.in_ok-push.ensures.items
    ∙ paired_push c.args.self.names.keys c.args.self.trees.items c.args.name c.args.tree c.args.self.paired
