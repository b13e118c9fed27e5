use Rattle.page_policy.proofs.PutLemmas.{held_on, byte_put, bar_put, close_put, none_open, outer_held, joined_is_expr, open_put}
use Rattle.page_policy.proofs.building.Building.put.Goals as goal

pub put_first-requires-clause-held : goal.put_first-requires-clause-held
put_first-requires-clause-held c =
    held_on c.args.self.now.arena c.byte_form.new.arena c.args.self.now.row c.args.self.now.others c.args.self.now.outer c.in_ok-form-in-Byte.ensures.keeps c.requires

pub returns-in_ok-put_first-in-Byte : goal.returns-in_ok-put_first-in-Byte
returns-in_ok-put_first-in-Byte c =
    byte_put c.args.self.now c.put_first.new.self c.byte_form.new.arena c.in_ok-form-in-Byte.form c.args.part.now c.in-Byte.class c.in-Byte.repeat c.in-Byte.is
    c.in_ok-form-in-Byte.ensures.keeps c.in_ok-form-in-Byte.ensures.made c.in_ok-put_first-in-Byte.ensures

pub returns-in_ok-self-in-Bar : goal.returns-in_ok-self-in-Bar
returns-in_ok-self-in-Bar c =
    bar_put c.args.self.now c.joined.new.self c.empty.new.self c.in_ok-others-in-Bar.others c.in_ok-self-in-Bar.field-0 c.args.part.now c.in-Bar.is
    c.in_ok-others-in-Bar.ensures.made c.in_ok-others-in-Bar.ensures.keeps c.in_ok-self-in-Bar.ensures.keeps c.in_ok-self-in-Bar.ensures.made

pub returns-in_ok-self-in-Close : goal.returns-in_ok-self-in-Close
returns-in_ok-self-in-Close c =
    close_put c.args.self.now c.empty-in-Close.new.self c.push.new.self c.in_ok-self-in-Close.field-0 c.args.part.now c.in-Close.repeat c.in-Close.is
    c.in_ok-push-in-Close.ensures.ok c.in_ok-self-in-Close.ensures.keeps c.in_ok-self-in-Close.ensures.made

pub returns-in_default : goal.returns-in_default
returns-in_default c = none_open c.args.self.now c.joined-in-Open.new.self c.args.part.now c.in-Open.is c.in_ok-form-in-Open.ensures.keeps c.in_default.ensures.0

pub put_first-requires-in-Open-clause-form : goal.put_first-requires-in-Open-clause-form
put_first-requires-in-Open-clause-form c = joined_is_expr c.args.self.now c.joined-in-Open.new.self.arena c.in_ok-form-in-Open.form c.in_ok-form-in-Open.ensures.made c.requires

pub put_first-requires-in-Open-clause-held : goal.put_first-requires-in-Open-clause-held
put_first-requires-in-Open-clause-held c =
    outer_held c.args.self.now c.joined-in-Open.new.self c.in-Some.frame c.pop.new.self c.in_ok-form-in-Open.ensures.keeps c.in-Some.ensures c.requires

pub returns-in_ok-put_first-in-Open : goal.returns-in_ok-put_first-in-Open
returns-in_ok-put_first-in-Open c =
    open_put c.args.self.now c.joined-in-Open.new.self c.put_first-in-Open.new.self c.in_ok-form-in-Open.form c.in-Some.frame c.pop.new.self c.args.part.now c.in-Open.is
    c.in_ok-form-in-Open.ensures.made c.in_ok-form-in-Open.ensures.keeps c.in-Some.ensures c.in_ok-put_first-in-Open.ensures
