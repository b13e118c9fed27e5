use Rattle.std.proofs.Common.{◌+◌, option_map, inl}
use Rattle.php_syntax.specs.Tokens.{plain_kind, plain_tokens}
use Rattle.lexical_grammar.proofs.CutLemmas.{cut_once, never_both}
use Rattle.php_lexer.specs.View.{mode_of}
use Rattle.php_lexer.proofs.SoFarLemmas.{so_far_more, so_far_end, so_far_broken}
use Rattle.php_lexer.proofs.RefusalLemmas.{one_refusal}
use Rattle.php_lexer.proofs.lexer.lex.Goals as goal

pub steps-preserved : goal.steps-preserved
steps-preserved c =
    let within = rw c.in-Goes.is at c.in_ok-fault.ensures.within
    in (
      so_far_more c.args.file.now (mode_of c.steps.mode) (mode_of c.in-Goes.next) c.steps.at c.in-Goes.n _ (option_map plain_kind c.in-Goes.kind) (plain_tokens c.steps.tokens.items) (plain_tokens c.put_token.new.tokens.items)
          c.steps.invariant.0 c.steps-test.true c.behind.ensures.value (rw c.in-Goes.is at c.in_ok-fault.ensures.value) within.1 c.in_ok-put_token-in-Goes.ensures,
      c.steps.invariant.1,
    )

pub returns-clause-tokens : goal.returns-clause-tokens
returns-clause-tokens c = (c.steps.invariant.1, so_far_end c.args.file.now (mode_of c.steps.mode) c.steps.at (plain_tokens c.steps.tokens.items) c.steps.invariant.0 c.steps-test.false)

pub returns-clause-only : goal.returns-clause-only
returns-clause-only c = λ tokens short cut. cut_once (so_far_end c.args.file.now (mode_of c.steps.mode) c.steps.at (plain_tokens c.steps.tokens.items) c.steps.invariant.0 c.steps-test.false) cut

pub returns-clause-faults : goal.returns-clause-faults
returns-clause-faults c = λ fault at short broken. never_both (so_far_end c.args.file.now (mode_of c.steps.mode) c.steps.at (plain_tokens c.steps.tokens.items) c.steps.invariant.0 c.steps-test.false) broken

pub returns-in-Refuses-clause-refused : goal.returns-in-Refuses-clause-refused
returns-in-Refuses-clause-refused c = (
  c.steps.invariant.1,
  so_far_broken c.args.file.now (mode_of c.steps.mode) c.steps.at c.in-Refuses.n _ c.in-Refuses.fault (plain_tokens c.steps.tokens.items) c.steps.invariant.0 c.steps-test.true c.behind.ensures.value (rw c.in-Refuses.is at c.in_ok-fault.ensures.value),
)

pub returns-in-Refuses-clause-only : goal.returns-in-Refuses-clause-only
returns-in-Refuses-clause-only c = λ tokens short cut. absurd (never_both cut
    (so_far_broken c.args.file.now (mode_of c.steps.mode) c.steps.at c.in-Refuses.n _ c.in-Refuses.fault (plain_tokens c.steps.tokens.items) c.steps.invariant.0 c.steps-test.true c.behind.ensures.value (rw c.in-Refuses.is at c.in_ok-fault.ensures.value)))

pub returns-in-Refuses-clause-faults : goal.returns-in-Refuses-clause-faults
returns-in-Refuses-clause-faults c = λ fault at short broken. inl (one_refusal c.args.file.now c.in-Refuses.fault fault (c.steps.at + c.in-Refuses.n) at
    (so_far_broken c.args.file.now (mode_of c.steps.mode) c.steps.at c.in-Refuses.n _ c.in-Refuses.fault (plain_tokens c.steps.tokens.items) c.steps.invariant.0 c.steps-test.true c.behind.ensures.value (rw c.in-Refuses.is at c.in_ok-fault.ensures.value)) broken)
