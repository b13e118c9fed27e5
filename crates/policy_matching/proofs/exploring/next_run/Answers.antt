use Rattle.std.proofs.Common.{arith}
use Rattle.policy_matching.proofs.StateLemmas.{one_more}
use Rattle.policy_matching.proofs.exploring.next_run.Goals as goal

pub returns-clause-reaches : goal.returns-clause-reaches
returns-clause-reaches c =
    one_more c.args.arena.now c.derivative.new.self c.args.places.now.keys c.number.new.keys.keys c.args.place c.in_ok-behind.behind c.args.byte
    c.in_ok-behind.ensures.keeps c.in_ok-to.ensures.keeps c.in_ok-to.ensures.adds (omega arith) c.in_ok-behind.ensures.made
