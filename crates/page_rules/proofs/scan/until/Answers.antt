use Rattle.std.proofs.Common.{◌≡◌, List, ℕ, sym, ◌∙◌, ap, drop}
use Rattle.std.specs.Prelude.{Option, None, Some}
use Rattle.page_model.specs.Scan.{strip, until}
use Rattle.page_rules.proofs.Untils.{not_here, here}
use Rattle.page_rules.proofs.scan.until.Goals as goal

pub returns-in-Some : goal.returns-in-Some
returns-in-Some c =
    let e : Some c.in-Some.behind.now ≡ strip c.args.word.now (drop c.loop-i.i c.args.cs.now) = c.in-Some.ensures ∙ ap (strip c.args.word.now) c.from.ensures in
    here c.args.word.now c.args.cs.now c.in-Some.behind.now c.loop-i.i (until c.args.word.now c.args.cs.now) c.loop-i-test.true (sym e) c.loop-i.invariant

pub loop-i-preserved : goal.loop-i-preserved
loop-i-preserved c =
    let n : Option (List ℕ) = None in
    let e : n ≡ strip c.args.word.now (drop c.loop-i.i c.args.cs.now) = c.in_default.ensures ∙ ap (strip c.args.word.now) c.from.ensures in
    not_here c.args.word.now c.args.cs.now c.loop-i.i (until c.args.word.now c.args.cs.now) c.loop-i-test.true (sym e) c.loop-i.invariant
