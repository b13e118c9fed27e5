use Rattle.tree_walks.specs.Seen.{calls_seen}
use Rattle.php_syntax.specs.Trees.{functions_of_list}
use Rattle.program_files.specs.View.{files_of}
use Rattle.function_rules.proofs.CallLemmas.{calls_with_stubs}
use Rattle.function_rules.proofs.found_calls.calls_of.Goals as goal

pub returns : goal.returns
returns c = calls_with_stubs (files_of c.args.files.now) (functions_of_list c.args.stubs.now) (calls_seen c.in_ok-calls.calls.items) (calls_seen c.find_calls.new.found.items) c.in_ok-calls.ensures c.in_ok-find_calls.ensures
