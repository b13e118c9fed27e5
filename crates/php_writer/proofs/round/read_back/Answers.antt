use Rattle.std.proofs.Common.{rules, sym}
use Rattle.php_syntax.specs.Tokens.{plain_tokens}
use Rattle.php_syntax.specs.Trees.{plain_file}
use Rattle.php_writer.proofs.RoundLemmas.{cut_so, lex_refused, parse_refused, under}
use Rattle.php_writer.proofs.round.read_back.Goals as goal

pub returns-in_err-tokens-clause-refused : goal.returns-in_err-tokens-clause-refused
returns-in_err-tokens-clause-refused c = under (plain_file c.args.tree.now) _ (λ spelled.
    lex_refused c.never_both.ensures c.in_ok-file.file (plain_file c.args.tree.now) c.in_err-tokens.field-0.0 c.from_residual-in_err-tokens.result
    c.in_ok-file.ensures.exact (c.in_ok-file.ensures.spells spelled) (rw c.as_slice.ensures at c.in_err-tokens.ensures.refused) (search rules))

pub returns-in_err-again-clause-refused : goal.returns-in_err-again-clause-refused
returns-in_err-again-clause-refused c = under (plain_file c.args.tree.now) _ (λ spelled.
    let cut = rw c.as_slice.ensures at c.in_ok-tokens.ensures.tokens
    in parse_refused c.in_ok-file.file (plain_tokens c.in_ok-tokens.tokens.items) (plain_file c.args.tree.now) c.in_err-again.field-0.0 c.from_residual-in_err-again.result
    c.in_ok-file.ensures.exact cut.1
    (cut_so c.one_token_list.ensures c.in_ok-file.file (plain_file c.args.tree.now) (plain_tokens c.in_ok-tokens.tokens.items) (c.in_ok-file.ensures.spells spelled) cut.1)
    (rw c.as_slice-2.ensures.value at c.in_err-again.ensures.refused) (search rules))

pub returns-clause-same : goal.returns-clause-same
returns-clause-same c = λ spelled.
    let cut = rw c.as_slice.ensures at c.in_ok-tokens.ensures.tokens
    in sym ((rw c.as_slice-2.ensures.value at c.in_ok-again.ensures.only) (plain_file c.args.tree.now)
    (cut_so c.one_token_list.ensures c.in_ok-file.file (plain_file c.args.tree.now) (plain_tokens c.in_ok-tokens.tokens.items) (c.in_ok-file.ensures.spells spelled) cut.1))
