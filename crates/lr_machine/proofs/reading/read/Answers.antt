use Rattle.lr_machine.specs.declared.reading.TheConstants.{TURNS}
use Rattle.lr_machine.specs.Shown.{shown}
use Rattle.lr_machine.proofs.ReadingLemmas.{on_kept, done_is, stuck_is}
use Rattle.lr_machine.proofs.reading.read.Goals as goal

pub loop-turn-preserved : goal.loop-turn-preserved
loop-turn-preserved g c =
    let l = c.loop-turn in
    on_kept (shown c.args.tables.now) TURNS l._turn l.rest.now l.reader c.go_on.new.reader _ c.in-Ok.turned c.in-On.later c.in-On.is c.in-Ok.ensures c.loop-turn-test.true l.invariant

pub returns-in-Done : goal.returns-in-Done
returns-in-Done g c =
    let l = c.loop-turn in
    done_is (shown c.args.tables.now) TURNS l._turn l.rest.now l.reader c.go_on.new.reader _ c.in-Ok.turned c.in-Done.is c.in-Ok.ensures c.loop-turn-test.true l.invariant

pub returns-in-Stuck : goal.returns-in-Stuck
returns-in-Stuck g c =
    let l = c.loop-turn in
    record {
      left = l.rest.now;
      stops = stuck_is (shown c.args.tables.now) TURNS l._turn l.rest.now l.reader c.go_on.new.reader _ c.in-Ok.turned c.in-Stuck.is c.in-Ok.ensures c.loop-turn-test.true l.invariant;
      is = c.saturating_sub.ensures;
    }
