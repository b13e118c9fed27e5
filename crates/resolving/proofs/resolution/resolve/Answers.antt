use Rattle.std.proofs.Common.{length, refl, arith}
use Rattle.resolving.proofs.StepLemmas.{all_exact}
use Rattle.resolving.proofs.DraftLemmas.{draft_of_system, system_drafted}
use Rattle.resolving.proofs.OrderLemmas.{resolved_of}
use Rattle.resolving.proofs.resolution.resolve.Goals as goal

pub add_rules-requires-clause-draft : goal.add_rules-requires-clause-draft
add_rules-requires-clause-draft c = draft_of_system c.args.s.now c.in_ok-draft.draft c.in_ok-draft.ensures

pub add_rules-requires-clause-begins : goal.add_rules-requires-clause-begins
add_rules-requires-clause-begins c = system_drafted c.args.s.now c.in_ok-draft.draft c.in_ok-draft.ensures

pub returns-clause-resolved : goal.returns-clause-resolved
returns-clause-resolved c =
    let d = c.add_rules.new.draft in
    let added = c.in-Ok.ensures.added in
    resolved_of c.args.s.now _ d added refl (omega (arith, c.len-count.ensures, d.chains.last.ok.0)) refl

pub returns-clause-exact : goal.returns-clause-exact
returns-clause-exact c =
    let d = c.add_rules.new.draft in
    let added = c.in-Ok.ensures.added in
    all_exact c.args.s.now d.productions.items (length d.chains.last.items) added.is_draft.is_draft added.done c.args.s.now.start c.args.s.now.start_below
