use Rattle.std.proofs.Common.{◌≡◌, ◌∷◌, subst, List, ℕ, rules}
use Rattle.page_rules.specs.Views.{literal_of}
use Rattle.piece_reasons.specs.Tags.{IsNoValue}
use Rattle.piece_reasons.proofs.Found.{no_value, equals_here, whole_of}
use Rattle.piece_reasons.proofs.attributes.First.whole.Goals as goal

pub returns-in-Err-clause-whole : goal.returns-in-Err-clause-whole
returns-in-Err-clause-whole c = λ entities declared done.
    let e : c.split-2.result.1.now ≡ 61 ∷ c.in-Some-eq61-default.at_value.now = search rules in
    no_value entities declared done c.args.self.now.left.now c.args.self.now.name.now c.args.self.now.behind.now c.in-Some-eq61-default.at_value.now c.in-Err.why
    (equals_here c.args.self.now.behind.now c.split-2.result.1.now c.in-Some-eq61-default.at_value.now c.split-2.ensures.rest e)
    (subst (λ (xs : List ℕ). IsNoValue xs c.in-Err.why) c.split-3.ensures.rest c.in-Err.ensures)

pub returns-in-Ok-clause-whole : goal.returns-in-Ok-clause-whole
returns-in-Ok-clause-whole c =
    let e : c.split-2.result.1.now ≡ 61 ∷ c.in-Some-eq61-default.at_value.now = search rules in
    whole_of c.args.self.now.left.now c.args.self.now.at.now c.args.self.now.name.now c.args.self.now.behind.now c.split-2.result.1.now c.in-Some-eq61-default.at_value.now c.split-3.result.1.now
    c.split.result.0.now c.split-2.result.0.now c.split-3.result.0.now (literal_of c.in-Ok.value) c.in-Ok.rest.now
    c.args.self.now.begins c.args.self.now.named c.split.ensures.front c.split-2.ensures.front c.split-2.ensures.rest e
    c.split-3.ensures.front c.split-3.ensures.rest c.in-Ok.ensures
