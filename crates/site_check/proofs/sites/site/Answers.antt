use Rattle.std.proofs.Common.{◌≡◌, ◌+◌, ◌++◌, ◌∷◌, [], List, ℕ, sym, subst, take, map}
use Rattle.std.specs.Prelude.{string_bytes}
use Rattle.site_check.specs.declared.line.Line.{Line}
use Rattle.site_check.specs.Site.{Moment, moment, AreAnswered}
use Rattle.site_check.proofs.Answering.{leads_on, answered_leads, answered_behind, names_more, missing_counted, failed_counted}
use Rattle.site_check.proofs.sites.site.Goals as goal

pub returns-in_err-line-clause-leads : goal.returns-in_err-line-clause-leads
returns-in_err-line-clause-leads g c =
    leads_on _ _ _ (answered_leads (g.A.Answers.may c.args.answers.now) _ _ _ _ c.loop-name.invariant) c.answer.ensures.leads

pub returns-in_err-push-clause-leads : goal.returns-in_err-push-clause-leads
returns-in_err-push-clause-leads g c =
    leads_on _ _ _ (answered_leads (g.A.Answers.may c.args.answers.now) _ _ _ _ c.loop-name.invariant) c.answer.ensures.leads

pub loop-name-preserved : goal.loop-name-preserved
loop-name-preserved g c =
    let first : Moment = moment (g.F.Files.content c.args.files.now) (g.F.Files.faults c.args.files.now) (g.F.Files.misses c.args.files.now) in
    let before : Moment = moment (g.F.Files.content c.loop-name.files) (g.F.Files.faults c.loop-name.files) (g.F.Files.misses c.loop-name.files) in
    let now : Moment = moment (g.F.Files.content c.answer.new.files) (g.F.Files.faults c.answer.new.files) (g.F.Files.misses c.answer.new.files) in
    let names : map string_bytes (take (c.loop-name.name-index + 1) c.args.names.now) ≡ map string_bytes (take c.loop-name.name-index c.args.names.now) ++ string_bytes c.name-item.result ∷ [] =
    names_more string_bytes c.args.names.now c.loop-name.name-index c.name-item.result c.loop-name-test.true c.name-item.is in
    let behind = answered_behind (g.A.Answers.may c.args.answers.now) first before now (map string_bytes (take c.loop-name.name-index c.args.names.now)) c.loop-name.lines.items
    c.as_str.result.now c.in_ok-line.line c.loop-name.invariant c.in_ok-line.ensures.answered in
    let named = subst (λ (n : List ℕ). AreAnswered (g.A.Answers.may c.args.answers.now) first now (map string_bytes (take c.loop-name.name-index c.args.names.now) ++ n ∷ [])
    (c.loop-name.lines.items ++ c.in_ok-line.line ∷ [])) c.as_str.ensures.value behind in
    let told = subst (λ (ns : List (List ℕ)). AreAnswered (g.A.Answers.may c.args.answers.now) first now ns (c.loop-name.lines.items ++ c.in_ok-line.line ∷ [])) (sym names) named in
    subst (λ (ls : List Line). AreAnswered (g.A.Answers.may c.args.answers.now) first now (map string_bytes (take (c.loop-name.name-index + 1) c.args.names.now)) ls) (sym c.in_ok-push.ensures.items) told

pub returns-clause-leads : goal.returns-clause-leads
returns-clause-leads g c = answered_leads (g.A.Answers.may c.args.answers.now) _ _ _ _ c.loop-name.invariant

pub returns-clause-missing : goal.returns-clause-missing
returns-clause-missing g c small = missing_counted (g.A.Answers.may c.args.answers.now) _ _ _ _ c.loop-name.invariant small

pub returns-clause-failed : goal.returns-clause-failed
returns-clause-failed g c small = failed_counted (g.A.Answers.may c.args.answers.now) _ _ _ _ c.loop-name.invariant small
