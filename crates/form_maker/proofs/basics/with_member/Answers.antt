use Rattle.derivatives.proofs.Choices.{if_ok}
use Rattle.derivatives.proofs.BehindLemmas.{grows_on}
use Rattle.form_maker.proofs.Members.{not_shown, first_made}
use Rattle.form_maker.proofs.basics.with_member.Goals as goal

pub returns-in_ok-list-in-Empty-clause-made : goal.returns-in_ok-list-in-Empty-clause-made
returns-in_ok-list-in-Empty-clause-made c = if_ok c.among.result
    (λ r all. first_made c.args.arena.now c.no_members.new.self c.member.new.self c.among.new.self c.args.all c.args.one c.in_ok-list-in-Empty.list r c.in_ok-none-in-Empty.none c.args.required
    (not_shown c.is_nothing.result c.if-is_nothing.false c.is_nothing.ensures) c.in-Empty.ensures.expression c.requires.one c.in_ok-none-in-Empty.ensures.keeps c.in_ok-none-in-Empty.ensures.made
    c.in_ok-list-in-Empty.ensures.made all) c.among.ensures.made

pub returns-in_ok-list-in-Empty-clause-keeps : goal.returns-in_ok-list-in-Empty-clause-keeps
returns-in_ok-list-in-Empty-clause-keeps c =
    grows_on c.args.arena.now c.member.new.self c.among.new.self (grows_on c.args.arena.now c.no_members.new.self c.member.new.self c.in_ok-none-in-Empty.ensures.keeps c.in_ok-list-in-Empty.ensures.keeps)
    c.among.ensures.keeps

pub returns-in_ok-list-in-Among-clause-keeps : goal.returns-in_ok-list-in-Among-clause-keeps
returns-in_ok-list-in-Among-clause-keeps c =
    grows_on c.args.arena.now c.member-in-Among.new.self c.among-in-Among.new.self c.in_ok-list-in-Among.ensures.keeps c.among-in-Among.ensures.keeps
