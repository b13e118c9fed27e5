use Rattle.std.proofs.Common.{Option, subst, refl, arith}
use Rattle.std.specs.Prelude.{IfSome}
use Rattle.std.specs.declared.vec.Vec.{Vec}
use Rattle.std.specs.declared.alloc.Global.{Global}
use Rattle.text_base.specs.declared.byte_range.ByteRange.{ByteRange}
use Rattle.cfg_grammar.specs.declared.symbol.Symbol.{Symbol}
use Rattle.chart_grammar.specs.Outs.{IsOutput}
use Rattle.chart_grammar.proofs.PaidLemmas.{end_writes, end_pays, says_filed}
use Rattle.chart_grammar.proofs.outputs.write_end.Goals as goal

pub returns : goal.returns
returns c =
    let none : ByteRange = record { lo = 0; hi = 0; ordered = omega arith } in
    let puts = subst (λ (o : Option (Vec Symbol Global)). IfSome o (λ v. IsOutput none c.as_slice.result.now v.items)) c.in-Some.is c.in_ok-symbols.ensures.puts in
    let fs = c.args.passages.now.keys in
    let a = c.in-Some-nonterminal_of.passage in
    let old = c.args.outputs.now in
    let new = c.say.new.outputs in
    let says = c.in_ok-say.ensures in
    let filed = says_filed c.args.base old new 0 a.0 c.as_slice-2.result.now says c.requires.filed in
    record {
      writes = end_writes c.args.from fs c.args.base c.args.last.now none a c.as_slice.result.now c.in-Some.symbols.items c.as_slice-2.result.now old new c.in-Some-nonterminal_of.ensures.some refl refl c.as_slice.ensures.value puts c.as_slice-2.ensures.value says filed;
      filed = filed;
      pays = end_pays c.args.from fs c.args.base c.args.last.now none a c.as_slice.result.now c.in-Some.symbols.items c.as_slice-2.result.now old new c.in-Some-nonterminal_of.ensures.some refl refl c.as_slice.ensures.value puts c.as_slice-2.ensures.value says;
    }
