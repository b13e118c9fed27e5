use Rattle.std.proofs.Common.{arith}
use Rattle.derivatives.proofs.Choices.{if_ok}
use Rattle.derivatives.proofs.BehindLemmas.{grows_on, expr_on, list_on, when_true, when_false, chain_behind, either_behind, star_behind, among_behind, member_behind, Taken}
use Rattle.derivatives.proofs.arena.Arena.+derivative.Goals as goal

pub derivative-returns-in_ok-second-in-Chain-clause-made : goal.derivative-returns-in_ok-second-in-Chain-clause-made
derivative-returns-in_ok-second-in-Chain-clause-made t c = if_ok c.either.result (λ r all. chain_behind c.args.byte c.args.self.now c.derivative.new.self c.chain.new.self c.derivative-then-may_end.new.self c.either.new.self c.args.place c.in-Chain.x c.in-Chain.y c.in_ok-first-in-Chain.first c.in_ok-begun-in-Chain.begun c.in_ok-second-in-Chain.second r c.in-Chain.ensures.expression c.in-Chain.ensures.parts.1 c.in_ok-first-in-Chain.ensures.keeps c.in_ok-second-in-Chain.ensures.keeps
    c.in_ok-first-in-Chain.ensures.made c.in_ok-begun-in-Chain.ensures.made
    (when_true c.args.byte c.args.self.now c.chain.new.self c.derivative-then-may_end.new.self c.in-Chain.x c.in-Chain.y c.in_ok-second-in-Chain.second c.may_end.result c.if-may_end.true c.may_end.ensures (grows_on c.args.self.now c.derivative.new.self c.chain.new.self c.in_ok-first-in-Chain.ensures.keeps c.in_ok-begun-in-Chain.ensures.keeps) c.in-Chain.ensures.parts.0 c.in-Chain.ensures.parts.1 c.in_ok-second-in-Chain.ensures.made)
    all) c.either.ensures.made

pub derivative-returns-in_ok-second-in-Chain-clause-keeps : goal.derivative-returns-in_ok-second-in-Chain-clause-keeps
derivative-returns-in_ok-second-in-Chain-clause-keeps t c = grows_on c.args.self.now c.derivative-then-may_end.new.self c.either.new.self (grows_on c.args.self.now c.chain.new.self c.derivative-then-may_end.new.self (grows_on c.args.self.now c.derivative.new.self c.chain.new.self c.in_ok-first-in-Chain.ensures.keeps c.in_ok-begun-in-Chain.ensures.keeps) c.in_ok-second-in-Chain.ensures.keeps) c.either.ensures.keeps

pub derivative-returns-in_ok-failed-in-Chain-clause-made : goal.derivative-returns-in_ok-failed-in-Chain-clause-made
derivative-returns-in_ok-failed-in-Chain-clause-made t c = if_ok c.either-else-may_end.result (λ r all. chain_behind c.args.byte c.args.self.now c.derivative.new.self c.chain.new.self c.nothing-else-may_end.new.self c.either-else-may_end.new.self c.args.place c.in-Chain.x c.in-Chain.y c.in_ok-first-in-Chain.first c.in_ok-begun-in-Chain.begun c.in_ok-failed-in-Chain.failed r c.in-Chain.ensures.expression c.in-Chain.ensures.parts.1 c.in_ok-first-in-Chain.ensures.keeps c.in_ok-failed-in-Chain.ensures.keeps
    c.in_ok-first-in-Chain.ensures.made c.in_ok-begun-in-Chain.ensures.made
    (when_false c.args.byte c.args.self.now c.chain.new.self c.nothing-else-may_end.new.self c.in-Chain.x c.in-Chain.y c.in_ok-failed-in-Chain.failed c.may_end.result c.if-may_end.false c.may_end.ensures (grows_on c.args.self.now c.derivative.new.self c.chain.new.self c.in_ok-first-in-Chain.ensures.keeps c.in_ok-begun-in-Chain.ensures.keeps) c.in-Chain.ensures.parts.0 c.in_ok-failed-in-Chain.ensures.made)
    all) c.either-else-may_end.ensures.made

pub derivative-returns-in_ok-failed-in-Chain-clause-keeps : goal.derivative-returns-in_ok-failed-in-Chain-clause-keeps
derivative-returns-in_ok-failed-in-Chain-clause-keeps t c = grows_on c.args.self.now c.nothing-else-may_end.new.self c.either-else-may_end.new.self (grows_on c.args.self.now c.chain.new.self c.nothing-else-may_end.new.self (grows_on c.args.self.now c.derivative.new.self c.chain.new.self c.in_ok-first-in-Chain.ensures.keeps c.in_ok-begun-in-Chain.ensures.keeps) c.in_ok-failed-in-Chain.ensures.keeps) c.either-else-may_end.ensures.keeps

pub derivative-returns-in_ok-second-in-Either-clause-made : goal.derivative-returns-in_ok-second-in-Either-clause-made
derivative-returns-in_ok-second-in-Either-clause-made t c = if_ok c.either-in-Either.result (λ r all. either_behind c.args.byte c.args.self.now c.derivative-in-Either.new.self c.derivative-in-Either-2.new.self c.either-in-Either.new.self c.args.place c.in-Either.x c.in-Either.y c.in_ok-first-in-Either.first c.in_ok-second-in-Either.second r
    c.in-Either.ensures.expression c.in-Either.ensures.parts.1 c.in_ok-first-in-Either.ensures.keeps c.in_ok-second-in-Either.ensures.keeps c.in_ok-first-in-Either.ensures.made c.in_ok-second-in-Either.ensures.made all) c.either-in-Either.ensures.made

pub derivative-returns-in_ok-first-in-Star-clause-made : goal.derivative-returns-in_ok-first-in-Star-clause-made
derivative-returns-in_ok-first-in-Star-clause-made t c = if_ok c.chain-in-Star.result (λ r all. star_behind c.args.byte c.args.self.now c.derivative-in-Star.new.self c.chain-in-Star.new.self c.args.place c.in-Star.x c.in_ok-first-in-Star.first r
    c.in-Star.ensures.expression c.requires c.in_ok-first-in-Star.ensures.keeps c.in_ok-first-in-Star.ensures.made all) c.chain-in-Star.ensures.made

pub derivative-returns-in_ok-front-in-Among-clause-made : goal.derivative-returns-in_ok-front-in-Among-clause-made
derivative-returns-in_ok-front-in-Among-clause-made t c = if_ok c.members_derivative.result (λ r all. among_behind c.args.byte c.args.self.now c.no_members.new.self c.members_derivative.new.self c.args.place c.in-Among.list c.in_ok-front-in-Among.front r
    c.in-Among.ensures.expression c.in-Among.ensures.parts c.in_ok-front-in-Among.ensures.keeps c.in_ok-front-in-Among.ensures.made all) c.members_derivative.ensures.made

pub derivative-returns-in_ok-front-in-Among-clause-keeps : goal.derivative-returns-in_ok-front-in-Among-clause-keeps
derivative-returns-in_ok-front-in-Among-clause-keeps t c = grows_on c.args.self.now c.no_members.new.self c.members_derivative.new.self c.in_ok-front-in-Among.ensures.keeps c.members_derivative.ensures.keeps

pub members_derivative-returns-in_err-first-in-Some-clause-keeps : goal.members_derivative-returns-in_err-first-in-Some-clause-keeps
members_derivative-returns-in_err-first-in-Some-clause-keeps t c = grows_on c.args.self.now c.among.new.self c.derivative.new.self (grows_on c.args.self.now c.onto.new.self c.among.new.self c.in_ok-others-in-Some.ensures.keeps c.in_ok-all-in-Some.ensures.keeps) c.in_err-first-in-Some.ensures.keeps

pub members_derivative-returns-in_err-begun-in-Some-clause-keeps : goal.members_derivative-returns-in_err-begun-in-Some-clause-keeps
members_derivative-returns-in_err-begun-in-Some-clause-keeps t c = grows_on c.args.self.now c.derivative.new.self c.chain.new.self (grows_on c.args.self.now c.among.new.self c.derivative.new.self (grows_on c.args.self.now c.onto.new.self c.among.new.self c.in_ok-others-in-Some.ensures.keeps c.in_ok-all-in-Some.ensures.keeps) c.in_ok-first-in-Some.ensures.keeps) c.in_err-begun-in-Some.ensures.keeps

pub members_derivative-returns-in_err-further-in-Some-clause-keeps : goal.members_derivative-returns-in_err-further-in-Some-clause-keeps
members_derivative-returns-in_err-further-in-Some-clause-keeps t c = grows_on c.args.self.now c.chain.new.self c.member.new.self (grows_on c.args.self.now c.derivative.new.self c.chain.new.self (grows_on c.args.self.now c.among.new.self c.derivative.new.self (grows_on c.args.self.now c.onto.new.self c.among.new.self c.in_ok-others-in-Some.ensures.keeps c.in_ok-all-in-Some.ensures.keeps) c.in_ok-first-in-Some.ensures.keeps) c.in_ok-begun-in-Some.ensures.keeps) c.in_err-further-in-Some.ensures.keeps

pub members_derivative-returns-in_err-later-in-Some-clause-keeps : goal.members_derivative-returns-in_err-later-in-Some-clause-keeps
members_derivative-returns-in_err-later-in-Some-clause-keeps t c = grows_on c.args.self.now c.member.new.self c.members_derivative.new.self (grows_on c.args.self.now c.chain.new.self c.member.new.self (grows_on c.args.self.now c.derivative.new.self c.chain.new.self (grows_on c.args.self.now c.among.new.self c.derivative.new.self (grows_on c.args.self.now c.onto.new.self c.among.new.self c.in_ok-others-in-Some.ensures.keeps c.in_ok-all-in-Some.ensures.keeps) c.in_ok-first-in-Some.ensures.keeps) c.in_ok-begun-in-Some.ensures.keeps) c.in_ok-further-in-Some.ensures.keeps) c.in_err-later-in-Some.ensures.keeps

pub members_derivative-chain-requires-clause-second : goal.members_derivative-chain-requires-clause-second
members_derivative-chain-requires-clause-second t c = expr_on c.among.new.self c.derivative.new.self c.in_ok-first-in-Some.ensures.keeps c.in_ok-all-in-Some.all c.in_ok-all-in-Some.ensures.made.is_expr

pub members_derivative-member-requires-clause-expression : goal.members_derivative-member-requires-clause-expression
members_derivative-member-requires-clause-expression t c = expr_on c.args.self.now c.chain.new.self (grows_on c.args.self.now c.derivative.new.self c.chain.new.self (grows_on c.args.self.now c.among.new.self c.derivative.new.self (grows_on c.args.self.now c.onto.new.self c.among.new.self c.in_ok-others-in-Some.ensures.keeps c.in_ok-all-in-Some.ensures.keeps) c.in_ok-first-in-Some.ensures.keeps) c.in_ok-begun-in-Some.ensures.keeps) c.in-Some.x c.in-Some.ensures.some.is_expr

pub members_derivative-member-requires-clause-others : goal.members_derivative-member-requires-clause-others
members_derivative-member-requires-clause-others t c = list_on c.args.self.now c.chain.new.self (grows_on c.args.self.now c.derivative.new.self c.chain.new.self (grows_on c.args.self.now c.among.new.self c.derivative.new.self (grows_on c.args.self.now c.onto.new.self c.among.new.self c.in_ok-others-in-Some.ensures.keeps c.in_ok-all-in-Some.ensures.keeps) c.in_ok-first-in-Some.ensures.keeps) c.in_ok-begun-in-Some.ensures.keeps) c.args.front c.requires.front

pub members_derivative-members_derivative-requires : goal.members_derivative-members_derivative-requires
members_derivative-members_derivative-requires t c = (omega (arith, c.in-Some.ensures.some.rest_below), (c.in_ok-further-in-Some.ensures.made.is_list, list_on c.args.self.now c.member.new.self (grows_on c.args.self.now c.chain.new.self c.member.new.self (grows_on c.args.self.now c.derivative.new.self c.chain.new.self (grows_on c.args.self.now c.among.new.self c.derivative.new.self (grows_on c.args.self.now c.onto.new.self c.among.new.self c.in_ok-others-in-Some.ensures.keeps c.in_ok-all-in-Some.ensures.keeps) c.in_ok-first-in-Some.ensures.keeps) c.in_ok-begun-in-Some.ensures.keeps) c.in_ok-further-in-Some.ensures.keeps) c.in-Some.rest c.in-Some.ensures.some.is_list))

pub members_derivative-either-requires-clause-first : goal.members_derivative-either-requires-clause-first
members_derivative-either-requires-clause-first t c = expr_on c.chain.new.self c.members_derivative.new.self (grows_on c.chain.new.self c.member.new.self c.members_derivative.new.self c.in_ok-further-in-Some.ensures.keeps c.in_ok-later-in-Some.ensures.keeps) c.in_ok-begun-in-Some.begun c.in_ok-begun-in-Some.ensures.made.is_expr

pub members_derivative-returns-in_ok-later-in-Some-clause-keeps : goal.members_derivative-returns-in_ok-later-in-Some-clause-keeps
members_derivative-returns-in_ok-later-in-Some-clause-keeps t c = grows_on c.args.self.now c.members_derivative.new.self c.either.new.self (grows_on c.args.self.now c.member.new.self c.members_derivative.new.self (grows_on c.args.self.now c.chain.new.self c.member.new.self (grows_on c.args.self.now c.derivative.new.self c.chain.new.self (grows_on c.args.self.now c.among.new.self c.derivative.new.self (grows_on c.args.self.now c.onto.new.self c.among.new.self c.in_ok-others-in-Some.ensures.keeps c.in_ok-all-in-Some.ensures.keeps) c.in_ok-first-in-Some.ensures.keeps) c.in_ok-begun-in-Some.ensures.keeps) c.in_ok-further-in-Some.ensures.keeps) c.in_ok-later-in-Some.ensures.keeps) c.either.ensures.keeps

pub members_derivative-returns-in_ok-later-in-Some-clause-made : goal.members_derivative-returns-in_ok-later-in-Some-clause-made
members_derivative-returns-in_ok-later-in-Some-clause-made t c =
    let taken : Taken c.args.byte c.args.self.now c.onto.new.self c.among.new.self c.derivative.new.self c.chain.new.self c.member.new.self c.members_derivative.new.self c.args.front c.in-Some.x c.in-Some.rest c.in_ok-others-in-Some.others c.in_ok-all-in-Some.all c.in_ok-first-in-Some.first c.in_ok-begun-in-Some.begun c.in_ok-further-in-Some.further c.in_ok-later-in-Some.later c.in-Some.required = record {
      g1 = c.in_ok-others-in-Some.ensures.keeps;
      g2 = c.in_ok-all-in-Some.ensures.keeps;
      g3 = c.in_ok-first-in-Some.ensures.keeps;
      g4 = c.in_ok-begun-in-Some.ensures.keeps;
      g5 = c.in_ok-further-in-Some.ensures.keeps;
      g6 = c.in_ok-later-in-Some.ensures.keeps;
      others = c.in_ok-others-in-Some.ensures.made;
      all = c.in_ok-all-in-Some.ensures.made;
      first = c.in_ok-first-in-Some.ensures.made;
      begun = c.in_ok-begun-in-Some.ensures.made;
      further = c.in_ok-further-in-Some.ensures.made;
      later = c.in_ok-later-in-Some.ensures.made;
    } in
    if_ok c.either.result (λ r all. member_behind c.args.byte c.args.self.now c.onto.new.self c.among.new.self c.derivative.new.self c.chain.new.self c.member.new.self c.members_derivative.new.self c.either.new.self c.args.front c.args.list c.in-Some.x c.in-Some.rest c.in_ok-others-in-Some.others c.in_ok-all-in-Some.all c.in_ok-first-in-Some.first c.in_ok-begun-in-Some.begun c.in_ok-further-in-Some.further c.in_ok-later-in-Some.later r c.in-Some.required c.in-Some.ensures.some c.requires.front taken all) c.either.ensures.made
