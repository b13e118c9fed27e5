use Rattle.std.proofs.Common.{◌<◌, arith}
use Rattle.chart_grammar.proofs.OutputLemmas.{one_of_some, some_both}
use Rattle.chart_grammar.proofs.outputs.write_reading.Goals as goal

pub returns-then-branch-clause-writes : goal.returns-then-branch-clause-writes
returns-then-branch-clause-writes c =
    let r = c.args.reading.now in
    let old = c.args.outputs.now in
    let new = c.write_whole_range.new.outputs in
    one_of_some c.args.passages.now.keys c.args.base r old.fronts.keys new.fronts.keys old.out.items new.out.items c.in_ok-write_whole_range.ensures.some
    (λ byte within passed. let x = c.in_ok-write_whole_range.ensures.has c.if-branch.true passed in (r.range, x.0, within, x.1, x.2))

pub returns : goal.returns
returns c =
    let r = c.args.reading.now in
    let old = c.args.outputs.now in
    let mid = c.write_whole_range.new.outputs in
    let new = c.write_bytes.new.outputs in
    record {
      writes = one_of_some c.args.passages.now.keys c.args.base r old.fronts.keys new.fronts.keys old.out.items new.out.items
          (some_both c.args.passages.now.keys c.args.base r old.fronts.keys mid.fronts.keys new.fronts.keys old.out.items mid.out.items new.out.items c.in_ok-write_whole_range.ensures.some c.in_ok-write_bytes.ensures.some)
          (λ byte within passed.
          let small : r.range.hi < 256 = omega arith in
          let below : byte < 256 = (let h = within.1 in omega (arith, small, h)) in
          c.in_ok-write_bytes.ensures.has byte below within passed);
      filed = c.in_ok-write_bytes.ensures.filed;
      pays = λ from rs ls before h p. c.in_ok-write_bytes.ensures.pays from rs ls before h (c.in_ok-write_whole_range.ensures.pays from rs ls before h p);
    }
