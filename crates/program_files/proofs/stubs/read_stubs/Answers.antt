use Rattle.std.proofs.Common.{List, ℕ, Option, option_map, ap}
use Rattle.std.specs.Borrow.{Bor}
use Rattle.php_syntax.specs.declared.tree.FunctionDef.{FunctionDef}
use Rattle.php_syntax.specs.Trees.{functions_of_list}
use Rattle.program_files.proofs.StubLemmas.{no_stubs}
use Rattle.program_files.proofs.stubs.read_stubs.Goals as goal

pub returns-in-None-clause-ok : goal.returns-in-None-clause-ok
returns-in-None-clause-ok g c =
    no_stubs (g.F.Files.content c.args.source.now) _ _ _ (option_map (λ (text : Bor (List ℕ)). text.now) c.args.stubs) _ (ap (λ (o : Option (Bor (List ℕ))). option_map (λ (text : Bor (List ℕ)). text.now) o) c.in-None.is)
    (ap (λ (fs : List FunctionDef). functions_of_list fs) c.new.ensures.items)
