use Rattle.std.proofs.Common.{◌≡◌, ◌+◌, ℕ, suc, length, arith, add-one, ap, ◌∙◌, sym, refl, subst, List}
use Rattle.std.proofs.lemmas.Bool.{false≢true}
use Rattle.numbered_sets.specs.Numbers.{AreDifferent}
use Rattle.cfg_grammar.specs.declared.production.Production.{Production}
use Rattle.chart_grammar.specs.declared.fronts.Front.{Front}
use Rattle.chart_grammar.specs.Lifts.{AreLifts}
use Rattle.chart_grammar.proofs.AssembleLemmas.{assembled_outputs, assembled_paid, all_below}
use Rattle.chart_grammar.specs.Sources.{AreSources}
use Rattle.chart_grammar.proofs.SourceLemmas.{come_none, outputs_behind, are_sources}
use Rattle.chart_grammar.proofs.assembly.grammar_of.Goals as goal

pub unreachable-requires : goal.unreachable-requires
unreachable-requires c =
    let chart = c.args.chart.now in
    let fs = chart.passages.keys in
    let o1 = c.outputs_of-outputs.result in
    let o2 = c.write_readings.new.outputs in
    let o3 = c.write_ends.new.outputs in
    let fr = o3.fronts.keys in
    let based : c.count.result + 1 ≡ suc (length fs) = ap (λ (n : ℕ). n + 1) c.count.ensures.length ∙ add-one (length fs) in
    let spelled : c.as_slice.result.now ≡ fr = c.as_slice.ensures.keys ∙ ap (λ (v : _). v.keys) c.into_parts-fronts.ensures.fronts in
    let lifts = assembled_outputs c.args.productions.now chart.from chart.begun.items c.as_slice-begun.result.now fs chart.readings.items c.as_slice-readings.result.now (c.count.result + 1) c.args.lasts.now o1 o2 o3 c.as_slice.result.now c.write_wholes.new.out.items c.new-wholes.result.items c.into_parts-fronts.result.1.items c.write_fronts.new.out.items c.new-wholes.ensures.items c.as_slice-begun.ensures.value c.as_slice-readings.ensures.value spelled based (ap (λ (v : _). v.items) c.outputs_of-outputs.ensures.out) (ap (λ (v : _). v.items) c.into_parts-fronts.ensures.out) c.in_ok-write_wholes.ensures.writes c.in_ok-write_readings.ensures.writes c.in_ok-write_ends.ensures.writes c.in_ok-write_fronts.ensures.puts c.in_ok-write_fronts.ensures.has in
    let long = ap (λ (v : _). length v.keys) c.into_parts-fronts.ensures.fronts in
    let total : (c.count.result + 1) + c.count-2.result ≡ suc (length fs) + length fr = omega (arith, based, c.count-2.ensures.length, long) in
    let below = all_below fs fr (suc (length fs)) ((c.count.result + 1) + c.count-2.result) refl total c.args.productions.now chart.from chart.begun.items chart.readings.items c.args.lasts.now c.write_fronts.new.out.items lifts in
    false≢true (c.in-None.ensures.variant.1 (omega (arith, based), below))

pub returns-clause-image : goal.returns-clause-image
returns-clause-image c =
    let chart = c.args.chart.now in
    let fs = chart.passages.keys in
    let o1 = c.outputs_of-outputs.result in
    let o2 = c.write_readings.new.outputs in
    let o3 = c.write_ends.new.outputs in
    let fr = o3.fronts.keys in
    let based : c.count.result + 1 ≡ suc (length fs) = ap (λ (n : ℕ). n + 1) c.count.ensures.length ∙ add-one (length fs) in
    let same = ap (λ (v : _). v.keys) c.into_parts-fronts.ensures.fronts in
    let spelled : c.as_slice.result.now ≡ fr = c.as_slice.ensures.keys ∙ same in
    let first = ap (λ (v : _). v.items) c.outputs_of-outputs.ensures.out in
    let last = ap (λ (v : _). v.items) c.into_parts-fronts.ensures.out in
    let lifts = assembled_outputs c.args.productions.now chart.from chart.begun.items c.as_slice-begun.result.now fs chart.readings.items c.as_slice-readings.result.now (c.count.result + 1) c.args.lasts.now o1 o2 o3 c.as_slice.result.now c.write_wholes.new.out.items c.new-wholes.result.items c.into_parts-fronts.result.1.items c.write_fronts.new.out.items c.new-wholes.ensures.items c.as_slice-begun.ensures.value c.as_slice-readings.ensures.value spelled based first last c.in_ok-write_wholes.ensures.writes c.in_ok-write_readings.ensures.writes c.in_ok-write_ends.ensures.writes c.in_ok-write_fronts.ensures.puts c.in_ok-write_fronts.ensures.has in
    let kept = c.in-Some.ensures.kept in
    let none = ap length c.new-wholes.ensures.items in
    let begun = ap length c.as_slice-begun.ensures.value in
    let long = ap length same in
    let written = c.in_ok-write_fronts.ensures.few in
    let lasts = ap length last in
    let fronts = ap length spelled in
    let wholes = c.in_ok-write_wholes.ensures.few in
    let all = ap length kept.2 in
    record {
      starts = kept.0;
      outputs = o3;
      lifts = subst (λ (qs : List Production). AreLifts c.args.productions.now chart.from chart.begun.items fs chart.readings.items fr (suc (length fs)) c.args.lasts.now qs) (sym kept.2) lifts;
      wholes = length c.write_wholes.new.out.items;
      few_wholes = omega (arith, none, begun, wholes);
      paid = assembled_paid chart.from fs chart.readings.items c.as_slice-readings.result.now c.args.lasts.now (c.count.result + 1) c.write_wholes.new.out.items o1 o2 o3 c.as_slice-readings.ensures.value based first c.outputs_of-outputs.ensures.fronts c.outputs_of-outputs.ensures.said c.outputs_of-outputs.ensures.heads c.outputs_of-outputs.ensures.wide c.in_ok-write_readings.ensures.pay c.in_ok-write_ends.ensures.pay;
      different_fronts = subst (λ (xs : List Front). AreDifferent xs) same c.count-2.ensures.different;
      different_said = c.count-said.ensures.different;
      different_heads = c.count-heads.ensures.different;
      count = (let k = kept.1 in omega (arith, k, based, c.count-2.ensures.length, long));
      few = omega (arith, all, written, lasts, fronts);
    }

pub returns-clause-sources : goal.returns-clause-sources
returns-clause-sources c = λ none.
    let chart = c.args.chart.now in
    let ps = c.args.productions.now in
    let fs = chart.passages.keys in
    let o1 = c.outputs_of-outputs.result in
    let o2 = c.write_readings.new.outputs in
    let o3 = c.write_ends.new.outputs in
    let based : c.count.result + 1 ≡ suc (length fs) = ap (λ (n : ℕ). n + 1) c.count.ensures.length ∙ add-one (length fs) in
    let spelled : c.as_slice.result.now ≡ o3.fronts.keys = c.as_slice.ensures.keys ∙ ap (λ (v : _). v.keys) c.into_parts-fronts.ensures.fronts in
    let first = ap (λ (v : _). v.items) c.outputs_of-outputs.ensures.out in
    let last = ap (λ (v : _). v.items) c.into_parts-fronts.ensures.out in
    let wholes = c.write_wholes.new.out.items in
    let four = c.write_fronts.new.out.items in
    let lifts = assembled_outputs ps chart.from chart.begun.items c.as_slice-begun.result.now fs chart.readings.items c.as_slice-readings.result.now (c.count.result + 1) c.args.lasts.now o1 o2 o3 c.as_slice.result.now wholes c.new-wholes.result.items c.into_parts-fronts.result.1.items four c.new-wholes.ensures.items c.as_slice-begun.ensures.value c.as_slice-readings.ensures.value spelled based first last c.in_ok-write_wholes.ensures.writes c.in_ok-write_readings.ensures.writes c.in_ok-write_ends.ensures.writes c.in_ok-write_fronts.ensures.puts c.in_ok-write_fronts.ensures.has in
    let come = c.in_ok-write_wholes.ensures.sources (come_none ps fs c.new-sources.result.items c.new-wholes.result.items c.new-sources.ensures.items c.new-wholes.ensures.items) in
    let behind = outputs_behind chart.from fs c.as_slice-readings.result.now (c.count.result + 1) c.args.lasts.now o1 o2 o3 c.as_slice.result.now wholes c.into_parts-fronts.result.1.items four based first last c.in_ok-write_readings.ensures.writes c.in_ok-write_ends.ensures.writes c.in_ok-write_fronts.ensures.puts in
    subst (λ (qs : List Production). AreSources ps chart.from fs c.write_wholes.new.sources.items qs) (sym c.in-Some.ensures.kept.2)
    (are_sources ps chart.from chart.begun.items fs chart.readings.items o3.fronts.keys (suc (length fs)) c.args.lasts.now four lifts refl c.write_wholes.new.sources.items wholes come behind none)
