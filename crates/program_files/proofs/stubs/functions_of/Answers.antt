use Rattle.std.proofs.Common.{◌≡◌, ◌∙◌, ◌<◌, ◌≤◌, ◌++◌, List, ℕ, length, inr, refl, ap, arith, rules}
use Rattle.php_syntax.specs.Tokens.{plain_tokens}
use Rattle.php_syntax.specs.Trees.{plain_file}
use Rattle.program_rules.specs.Includes.{includes_of_file}
use Rattle.program_files.proofs.ScriptLemmas.{shallow, refused_tree}
use Rattle.program_files.proofs.StubLemmas.{or_unread, includes_some, includes_none}
use Rattle.program_files.proofs.stubs.functions_of.Goals as goal

pub returns-in_err-tree-clause-err : goal.returns-in_err-tree-clause-err
returns-in_err-tree-clause-err c = or_unread c.args.script.now c.from_residual-in_err-tree.result
    (refused_tree c.args.script.now (plain_tokens c.in_ok-tokens.tokens.items) c.in_err-tree.field-0.0 c.from_residual-in_err-tree.result c.in_ok-tokens.ensures.tokens.1 (rw c.as_slice.ensures.value at c.in_err-tree.ensures.refused) (search rules))

pub returns-then-len-gt0-clause-err : goal.returns-then-len-gt0-clause-err
returns-then-len-gt0-clause-err c =
    let tokens = plain_tokens c.in_ok-tokens.tokens.items in
    let tree = plain_file c.in_ok-tree.tree in
    let found : c.find_includes.new.found.items ≡ includes_of_file tree = c.in_ok-find_includes.ensures ∙ ap (λ (xs : List (List ℕ)). xs ++ includes_of_file tree) c.new-found.ensures.items in
    let some : 0 < length c.find_includes.new.found.items = omega (arith, c.len.ensures, c.if-len-gt0.true) in
    let within = shallow tokens tree (rw c.as_slice.ensures.value at c.in_ok-tree.ensures.within) (rw c.as_slice.ensures.value at c.in_ok-tree.ensures.only) in
    inr (
      c.include_place-at.result,
      refl,
      includes_some c.args.script.now tokens tree c.find_includes.new.found.items c.include_place-at.result c.in_ok-tokens.ensures.tokens.1 (rw c.as_slice.ensures.value at c.in_ok-tree.ensures.tree) within found some
          (rw c.as_slice-then-len-gt0.ensures.value at c.include_place-at.ensures),
    )

pub returns-clause-ok : goal.returns-clause-ok
returns-clause-ok c =
    let tokens = plain_tokens c.in_ok-tokens.tokens.items in
    let tree = plain_file c.in_ok-tree.tree in
    let found : c.find_includes.new.found.items ≡ includes_of_file tree = c.in_ok-find_includes.ensures ∙ ap (λ (xs : List (List ℕ)). xs ++ includes_of_file tree) c.new-found.ensures.items in
    let none : length c.find_includes.new.found.items ≤ 0 = omega (arith, c.len.ensures, c.if-len-gt0.false) in
    let within = shallow tokens tree (rw c.as_slice.ensures.value at c.in_ok-tree.ensures.within) (rw c.as_slice.ensures.value at c.in_ok-tree.ensures.only) in record {
      tree = tree;
      is_stub = record {
        is_script = record { tokens = tokens; cut = c.in_ok-tokens.ensures.tokens.1; spelled = rw c.as_slice.ensures.value at c.in_ok-tree.ensures.tree; within = within };
        whole = includes_none tree c.find_includes.new.found.items found none;
      };
      are = refl;
    }
