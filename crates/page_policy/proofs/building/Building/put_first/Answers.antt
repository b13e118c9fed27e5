use Rattle.page_policy.specs.Machine as spec
use Rattle.page_policy.proofs.BuildLemmas.{row_longer}
use Rattle.page_policy.proofs.building.Building.put_first.Goals as goal

pub returns : goal.returns
returns c = λ p q o os f h.
    row_longer c.args.self.now.arena c.repeated.new.arena c.chain.new.self c.in_ok-form.form c.args.self.now.row c.in_ok-self.field-0 c.args.self.now.others c.args.self.now.outer
    (spec.repeated c.args.repeat p) q o os c.in_ok-form.ensures.keeps c.in_ok-self.ensures.keeps (c.in_ok-form.ensures.made p f) h c.in_ok-self.ensures.made
