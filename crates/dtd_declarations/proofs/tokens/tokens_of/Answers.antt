use Rattle.std.proofs.Common.{◌≡◌, rules}
use Rattle.std.proofs.lemmas.List.{nil_from_length}
use Rattle.dtd_declarations.proofs.TokenRows.{row_pushed, row_end}
use Rattle.dtd_declarations.proofs.tokens.tokens_of.Goals as goal

pub loop-first-preserved : goal.loop-first-preserved
loop-first-preserved c = row_pushed c.loop-first.tokens.items c.push.new.self.items _ c.token-n.result.0 c.token-n.result.1 c.in-Some.first.now c.loop-first.rest.now c.in-Some.others.now c.behind-rest.result.now
    c.in_ok-push.ensures.items (search rules) c.token-n.ensures.value c.token-n.ensures.length c.token-n.ensures.some c.behind-rest.ensures.value c.loop-first.invariant

pub returns : goal.returns
returns c = row_end _ _ _ (nil_from_length _ c.in_default.ensures.cases) c.loop-first.invariant
