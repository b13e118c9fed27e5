use Rattle.std.proofs.Common.{subst, sym}
use Rattle.program_rules.specs.View.{program_of}
use Rattle.loose_grammar.specs.declared.refusal.GrammarRefusal.{GrammarRefusal}
use Rattle.loose_grammar.specs.Refusals.{IsGrammarRefusal}
use Rattle.loose_grammar.proofs.PageLemmas.{page_grammar, operation_refusal}
use Rattle.loose_grammar.proofs.making.grammar_of.Goals as goal

pub returns-in_ok-trim-in-Ok-clause-grammar : goal.returns-in_ok-trim-in-Ok-clause-grammar
returns-in_ok-trim-in-Ok-clause-grammar c =
    page_grammar (program_of c.args.program.now) c.args.system c.in_ok-joined.joined c.in-Ok.grammar _ c.requires c.in_ok-joined.ensures c.in-Ok.ensures.resolved c.in-Ok.ensures.exact c.in_ok-trim-in-Ok.ensures

pub returns-in-Err-clause-refusal : goal.returns-in-Err-clause-refusal
returns-in-Err-clause-refusal c =
    let program = program_of c.args.program.now in
    subst (λ (r : GrammarRefusal). IsGrammarRefusal program r) (sym c.refusal_of.ensures)
    (operation_refusal program c.args.system c.in_ok-joined.joined c.in-Err.refusal c.requires c.in_ok-joined.ensures c.in-Err.ensures.cause)
