use Rattle.std.proofs.Common.{◌<◌, length, arith}
use Rattle.strong_components.proofs.CloseLemmas.{popped, closes_more}
use Rattle.strong_components.proofs.closing.close_path.Goals as goal

pub loop-path-preserved-in-Some : goal.loop-path-preserved-in-Some
loop-path-preserved-in-Some c =
    let p = popped c.args.path.now.items c.loop-path.path.items c.pop.new.self.items c.in-Some.node c.loop-path.invariant.path c.loop-path.invariant.shorter c.in-Some.ensures.items in
    let t : c.args.start < length c.loop-path.path.items = omega (arith, c.loop-path.path.ok.0, c.len.ensures) in
    let l = p.next in
    let s = c.loop-path.invariant.shorter in
    record {
      start = omega arith;
      path = p.path;
      shorter = omega arith;
      closes = closes_more c.args.marks.now.items c.args.path.now.items (length c.loop-path.path.items) (length c.pop.new.self.items) c.args.number c.loop-path.marks.items c.in-Some.node l c.loop-path.invariant.closes p.at (c.requires.within _ _ p.at);
    }
