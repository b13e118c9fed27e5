use Rattle.std.proofs.Common.{[], refl}
use Rattle.chart_grammar.specs.declared.fronts.Front.{Front}
use Rattle.chart_grammar.specs.Writing.{WholeMade, WholeHas}
use Rattle.chart_grammar.proofs.WriteLemmas.{writes_nothing}
use Rattle.chart_grammar.proofs.SourceLemmas.{whole_comes, come_pushed}
use Rattle.chart_grammar.proofs.lifts.write_whole.Goals as goal

pub returns-in_ok-push-in-Some-2-clause-sources : goal.returns-in_ok-push-in-Some-2-clause-sources
returns-in_ok-push-in-Some-2-clause-sources c = λ h.
    let ps = c.args.productions.now in
    let fs = c.args.passages.now.keys in
    come_pushed ps fs c.args.sources.now.items c.push-in-Some.new.self.items c.args.out.now.items c.push.new.self.items c.args.one.place c.in-Some.production c.in_ok-push-in-Some-2.ensures.items c.in_ok-push-in-Some.ensures.items
    (whole_comes ps fs c.args.one c.in-Some.production c.in-Some.ensures.some) h

pub returns-in-None-clause-writes : goal.returns-in-None-clause-writes
returns-in-None-clause-writes c =
    let ps = c.args.productions.now in
    let fs = c.args.passages.now.keys in
    writes_nothing {X = Front} (WholeMade ps fs) (WholeHas ps fs) c.args.one [] [] c.args.out.now.items c.args.out.now.items (λ n x h. h) refl
    (λ q none placed passed read. absurd (c.in-None.ensures.none q placed none passed read))
