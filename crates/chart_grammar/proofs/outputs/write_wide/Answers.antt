use Rattle.std.proofs.Common.{Option, subst, arith}
use Rattle.std.specs.Prelude.{IfSome}
use Rattle.std.specs.declared.vec.Vec.{Vec}
use Rattle.std.specs.declared.alloc.Global.{Global}
use Rattle.cfg_grammar.specs.declared.symbol.Symbol.{Symbol}
use Rattle.chart_grammar.specs.Outs.{IsOutput}
use Rattle.chart_grammar.proofs.PaidLemmas.{wide_some, wide_has, wide_pays, wide_filed, stays_some, stays_filed, stays_paid}
use Rattle.chart_grammar.proofs.outputs.write_wide.Goals as goal

pub returns-then-branch : goal.returns-then-branch
returns-then-branch c =
    let r = c.args.reading.now in
    let puts = subst (λ (o : Option (Vec Symbol Global)). IfSome o (λ v. IsOutput r.range c.as_slice.result.now v.items)) c.in-Some.is c.in_ok-symbols.ensures.puts in
    let fs = c.args.passages.now.keys in
    let old = c.args.outputs.now in
    let new = c.say_wide.new.outputs in
    let says = c.in_ok-say_wide.ensures.says c.if-branch.true in
    record {
      some = wide_some fs c.args.base r r.range c.in-Some-nonterminal_of.left c.as_slice.result.now c.in-Some.symbols.items c.as_slice-2.result.now old new c.in-Some-nonterminal_of.ensures.some (omega arith) (omega arith) c.as_slice.ensures.value puts c.as_slice-2.ensures.value says;
      has = λ t. wide_has fs c.args.base r r.range c.in-Some-nonterminal_of.left c.as_slice.result.now c.in-Some.symbols.items c.as_slice-2.result.now old new c.in-Some-nonterminal_of.ensures.some (omega arith) (omega arith) c.as_slice.ensures.value puts c.as_slice-2.ensures.value says;
      filed = wide_filed c.args.base old new c.in-Some-nonterminal_of.left.0 r.range.lo c.as_slice-2.result.now says c.requires.filed;
      pays = wide_pays fs c.args.base r r.range c.in-Some-nonterminal_of.left c.as_slice.result.now c.in-Some.symbols.items c.as_slice-2.result.now old new c.in-Some-nonterminal_of.ensures.some (omega arith) (omega arith) c.as_slice.ensures.value puts c.as_slice-2.ensures.value says c.requires.some;
    }

pub returns-clause-some : goal.returns-clause-some
returns-clause-some c = stays_some c.args.passages.now.keys c.args.base c.args.reading.now c.args.outputs.now c.say_wide.new.outputs (c.in_ok-say_wide.ensures.stays c.if-branch.false)

pub returns-clause-filed : goal.returns-clause-filed
returns-clause-filed c = stays_filed c.args.outputs.now c.say_wide.new.outputs (c.in_ok-say_wide.ensures.stays c.if-branch.false) c.requires.filed

pub returns-clause-pays : goal.returns-clause-pays
returns-clause-pays c = λ from rs ls before h p. stays_paid from c.args.passages.now.keys rs ls c.args.base before c.args.outputs.now c.say_wide.new.outputs (c.in_ok-say_wide.ensures.stays c.if-branch.false) p
