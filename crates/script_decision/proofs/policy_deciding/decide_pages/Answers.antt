use Rattle.std.proofs.Common.{subst}
use Rattle.std.proofs.lemmas.Result.{IfOk-weaker}
use Rattle.derivatives.specs.Expressions.{Expr}
use Rattle.loose_grammar.specs.declared.refusal.TheConstants.{ITEM_LIMIT}
use Rattle.policy_matching.specs.Matching.{IsAnswer}
use Rattle.program_rules.specs.View.{program_of, lawful_program}
use Rattle.script_decision.proofs.PolicyLemmas.{says_of_runs}
use Rattle.script_decision.proofs.policy_deciding.decide_pages.Goals as goal

pub returns-clause-answer : goal.returns-clause-answer
returns-clause-answer c =
    IfOk-weaker c.show.result _ _
    (λ a f p form. f p (program_of c.args.program.now) c.args.grammar.now c.requires.grammar (subst (λ (e : Expr). IsAnswer e c.args.grammar.now ITEM_LIMIT c.in_ok-found.found) form.is c.in_ok-found.ensures.answer)) c.show.ensures

pub returns-clause-sound : goal.returns-clause-sound
returns-clause-sound c =
    let program = program_of c.args.program.now in
    IfOk-weaker c.show.result _ _
    (λ a f p form. says_of_runs p program (c.fitting_loose_pages_make_fitting_runs.ensures p program (lawful_program c.args.program.now) c.requires.texts) a
    (f p program c.args.grammar.now c.requires.grammar (subst (λ (e : Expr). IsAnswer e c.args.grammar.now ITEM_LIMIT c.in_ok-found.found) form.is c.in_ok-found.ensures.answer))) c.show.ensures
