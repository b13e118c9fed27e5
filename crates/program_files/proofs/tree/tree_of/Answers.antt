use Rattle.std.proofs.Common.{rules}
use Rattle.php_syntax.specs.Tokens.{plain_tokens}
use Rattle.php_syntax.specs.Trees.{plain_file}
use Rattle.program_files.proofs.ScriptLemmas.{shallow, refused_tokens, refused_tree}
use Rattle.program_files.proofs.tree.tree_of.Goals as goal

pub returns-in_err-tokens-clause-err : goal.returns-in_err-tokens-clause-err
returns-in_err-tokens-clause-err c = refused_tokens c.args.script.now c.in_err-tokens.field-0.0 c.from_residual.result c.requires c.in_err-tokens.ensures.refused (search rules)

pub returns-in_err-tree-clause-err : goal.returns-in_err-tree-clause-err
returns-in_err-tree-clause-err c = refused_tree c.args.script.now (plain_tokens c.in_ok-tokens.tokens.items) c.in_err-tree.field-0.0 c.from_residual-in_err-tree.result c.in_ok-tokens.ensures.tokens.1 (rw c.as_slice.ensures.value at c.in_err-tree.ensures.refused) (search rules)

pub returns-clause-ok : goal.returns-clause-ok
returns-clause-ok c = record {
  tokens = plain_tokens c.in_ok-tokens.tokens.items;
  cut = c.in_ok-tokens.ensures.tokens.1;
  spelled = rw c.as_slice.ensures.value at c.in_ok-tree.ensures.tree;
  within = shallow (plain_tokens c.in_ok-tokens.tokens.items) (plain_file c.in_ok-tree.tree) (rw c.as_slice.ensures.value at c.in_ok-tree.ensures.within) (rw c.as_slice.ensures.value at c.in_ok-tree.ensures.only);
}
