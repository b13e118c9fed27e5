use Rattle.std.proofs.Common.{◌≡◌, ℕ, List, ◌+◌, sym, ◌∙◌, ◌++◌, ◌∷◌, [], map, ap, arith, subst}
use Rattle.text_base.specs.declared.page_token.PageToken.{PageToken}
use Rattle.fst_core.specs.declared.out.Out.TheVariants.{Same, Token}
use Rattle.echoing_machine.specs.Groups.{AreMovesBelow}
use Rattle.echoing_machine.proofs.Adding.{run_more}
use Rattle.echoing_machine.proofs.machine.moves_by.Goals as goal

pub loop-next-preserved : goal.loop-next-preserved
loop-next-preserved g c =
    let next = g.R.ByteReader.next c.args.reader.now c.args.state.now in
    let puts = g.R.ByteReader.puts c.args.reader.now c.args.state.now in
    let run = c.run_from-run.result in
    let begun : run.lo ≡ c.loop-next.next = c.run_from-run.ensures.begin in
    let before : AreMovesBelow next puts c.args.range.lo run.lo c.loop-next.moves.items =
    subst (λ (n : ℕ). AreMovesBelow next puts c.args.range.lo n c.loop-next.moves.items) (sym begun) c.loop-next.invariant.moves in
    let behind : AreMovesBelow next puts c.args.range.lo (run.hi + 1) c.add_run.new.moves.items =
    run_more next puts c.args.range.lo run c.loop-next.moves.items c.add_run.new.moves.items c.in_ok-step.step.to c.in_ok-out.out.items
    (omega (arith, c.loop-next.invariant.least, begun)) c.in_ok-step.ensures.to
    (c.in_ok-out.ensures ∙ ap (λ (ts : List PageToken). map Token ts ++ Same ∷ []) c.in_ok-step.ensures.emit)
    c.run_from-run.ensures.alike before c.in_ok-add_run.ensures in
    record {
      least = omega (arith, c.loop-next.invariant.least, begun, run.ordered, c.from-next-in-loop-next.ensures);
      most = omega (arith, c.run_from-run.ensures.end, c.from-next-in-loop-next.ensures);
      moves = subst (λ (n : ℕ). AreMovesBelow next puts c.args.range.lo (n + 1) c.add_run.new.moves.items) (sym c.from-next-in-loop-next.ensures) behind;
    }

pub returns : goal.returns
returns g c =
    let at : c.loop-next.next ≡ c.args.range.hi + 1 = omega (arith, c.loop-next.invariant.most, c.from.ensures, c.loop-next-test.false) in
    subst (λ (n : ℕ). AreMovesBelow (g.R.ByteReader.next c.args.reader.now c.args.state.now) (g.R.ByteReader.puts c.args.reader.now c.args.state.now) c.args.range.lo n c.loop-next.moves.items) at c.loop-next.invariant.moves
