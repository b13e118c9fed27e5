use Rattle.program_sizes.proofs.ProgramLemmas.{one_script_each, one_tree_each}
use Rattle.program_sizes.proofs.loading_laws.each_has_one_tree.Goals as goal

pub returns-clause-script : goal.returns-clause-script
returns-clause-script c = one_script_each c.one_token_list.ensures c.one_tree.ensures

pub returns-clause-tree : goal.returns-clause-tree
returns-clause-tree c = one_tree_each c.one_token_list.ensures c.one_tree.ensures
