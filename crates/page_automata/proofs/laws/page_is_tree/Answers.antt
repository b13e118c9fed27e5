use Rattle.page_automata.proofs.StepLemmas.{lawful}
use Rattle.page_automata.proofs.PageLemmas.{page_is_tree}
use Rattle.page_automata.proofs.laws.page_is_tree.Goals as goal

pub returns-clause-automaton : goal.returns-clause-automaton
returns-clause-automaton c = λ p own. lawful p own

pub returns-clause-tree : goal.returns-clause-tree
returns-clause-tree c = λ table t decides own ts. page_is_tree table t decides own ts
