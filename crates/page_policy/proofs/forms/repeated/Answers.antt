use Rattle.std.proofs.Common.{sym}
use Rattle.page_policy.proofs.FormLemmas.{any_made, some_made, maybe_made}
use Rattle.page_policy.proofs.forms.repeated.Goals as goal

pub returns-in-Any-clause-made : goal.returns-in-Any-clause-made
returns-in-Any-clause-made c = any_made c.args.arena.now c.star.new.self c.args.form c.args.repeat c.star.result c.in-Any.is c.star.ensures.made

pub returns-in_ok-more-in-AtLeastOnce-clause-made : goal.returns-in_ok-more-in-AtLeastOnce-clause-made
returns-in_ok-more-in-AtLeastOnce-clause-made c =
    some_made c.args.arena.now c.star-in-AtLeastOnce.new.self c.chain.new.self c.args.form c.in_ok-more-in-AtLeastOnce.more c.args.repeat c.chain.result c.in-AtLeastOnce.is
    c.in_ok-more-in-AtLeastOnce.ensures.keeps c.in_ok-more-in-AtLeastOnce.ensures.made c.chain.ensures.made

pub returns-in_ok-none-in-AtMostOnce-clause-made : goal.returns-in_ok-none-in-AtMostOnce-clause-made
returns-in_ok-none-in-AtMostOnce-clause-made c =
    maybe_made c.args.arena.now c.empty.new.self c.either.new.self c.in_ok-none-in-AtMostOnce.none c.args.form c.args.repeat c.either.result c.in-AtMostOnce.is
    c.in_ok-none-in-AtMostOnce.ensures.keeps c.in_ok-none-in-AtMostOnce.ensures.made c.either.ensures.made
