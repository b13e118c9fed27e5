use Rattle.std.proofs.Common.{◌≡◌, List, Option, subst, rules}
use Rattle.std.specs.Prelude.{IfSome}
use Rattle.std.specs.declared.vec.Vec.{Vec}
use Rattle.std.specs.declared.alloc.Global.{Global}
use Rattle.cfg_grammar.specs.declared.symbol.Symbol.{Symbol}
use Rattle.chart_grammar.specs.Outs.{IsOutput}
use Rattle.chart_grammar.proofs.PaidLemmas.{said_some, said_has, said_pays, says_filed}
use Rattle.chart_grammar.proofs.outputs.write_part.Goals as goal

pub returns : goal.returns
returns c =
    let puts = subst (λ (o : Option (Vec Symbol Global)). IfSome o (λ v. IsOutput c.args.part c.as_slice.result.now v.items)) c.in-Some.is c.in_ok-symbols.ensures.puts in
    let fs = c.args.passages.now.keys in
    let r = c.args.reading.now in
    let old = c.args.outputs.now in
    let new = c.say.new.outputs in
    let says = c.in_ok-say.ensures in
    let filed = says_filed c.args.base old new c.in-Some-nonterminal_of.left.0 0 c.as_slice-2.result.now says c.requires.filed in
    record {
      some = said_some fs c.args.base r c.args.part c.in-Some-nonterminal_of.left c.as_slice.result.now c.in-Some.symbols.items c.as_slice-2.result.now old new c.in-Some-nonterminal_of.ensures.some c.requires.low c.requires.high c.as_slice.ensures.value puts c.as_slice-2.ensures.value says;
      has = λ t. said_has fs c.args.base r c.args.part c.in-Some-nonterminal_of.left c.as_slice.result.now c.in-Some.symbols.items c.as_slice-2.result.now old new c.in-Some-nonterminal_of.ensures.some c.requires.low c.requires.high c.as_slice.ensures.value puts c.as_slice-2.ensures.value says filed;
      single = search rules;
      filed = filed;
      pays = said_pays fs c.args.base r c.args.part c.in-Some-nonterminal_of.left c.as_slice.result.now c.in-Some.symbols.items c.as_slice-2.result.now old new c.in-Some-nonterminal_of.ensures.some c.requires.low c.requires.high c.as_slice.ensures.value puts c.as_slice-2.ensures.value says c.requires.one;
    }
