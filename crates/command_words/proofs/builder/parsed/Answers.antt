use Rattle.std.proofs.Common.{ap, ◌∙◌, ◌≡◌, map, string_bytes, subst, refl, true}
use Rattle.std.proofs.lemmas.Result.{IfErr-weaker}
use Rattle.clap.specs.Words.{App, takes, fault_of, FailsBy, is_simple_and_free}
use Rattle.clap.proofs.OnLiterals.{clap_on_literals}
use Rattle.command_words.specs.Program as spec
use Rattle.command_words.proofs.builder.parsed.Goals as goal

is_free : is_simple_and_free spec.phpsa ≡ true
unfolding spec.phpsa clap_on_literals
is_free = refl

pub returns-clause-err : goal.returns-clause-err
returns-clause-err c = IfErr-weaker c.try_get_matches_from.result _ _ (λ e h t. h (ap (λ (a : App). takes a (map string_bytes c.args.words.now)) c.in_ok-program.ensures.app ∙ t)) c.try_get_matches_from.ensures.passes

pub returns-clause-kinds : goal.returns-clause-kinds
returns-clause-kinds c = subst (λ (a : App). FailsBy (fault_of a (map string_bytes c.args.words.now)) c.try_get_matches_from.result) c.in_ok-program.ensures.app
    (c.try_get_matches_from.ensures.kinds (ap is_simple_and_free c.in_ok-program.ensures.app ∙ is_free))
