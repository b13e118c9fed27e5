use Rattle.std.proofs.Common.{◌≡◌, ◌∙◌, List, ℕ, Err, arith, rules, subst, sym, take}
use Rattle.std.specs.Prelude.{OnErr}
use Rattle.std.specs.Io.KnownBytes.{Appends}
use Rattle.io_edge.specs.Taken.{AppendsPrefix}
use Rattle.derivations.specs.Stacked.{pending}
use Rattle.derivations.proofs.WriteLemmas.{part_more, in_part}
use Rattle.derivations.proofs.sentence_writing.put_first.Goals as goal

pub returns-in_err-put-clause-err : goal.returns-in_err-put-clause-err
returns-in_err-put-clause-err g c =
    let written = g.S.Sink.written in
    let all = pending c.args.forks.now c.args.stack.now.items in
    let is : c.from_residual.result ≡ Err c.in_err-put.field-0.0 = search rules in
    subst (λ r. OnErr r (AppendsPrefix (written c.args.sink.now) (written c.put.new.self) (take c.args.most all))) (sym is)
    (in_part _ (written c.parts.sink) _ all _ _ _ _ _ c.parts.invariant.so_far
    (subst (λ (v : List ℕ). AppendsPrefix (written c.parts.sink) (written c.put.new.self) v) c.as_slice.ensures.value c.in_err-put.ensures.err)
    c.fill.ensures.made c.fill.ensures.few)

pub parts-preserved : goal.parts-preserved
parts-preserved g c =
    let written = g.S.Sink.written in
    record {
      stacked = c.fill.ensures.stacked;
      room = c.fill.ensures.room;
      wide = c.fill.ensures.wide;
      so_far = part_more _ (written c.parts.sink) _ _ _ _ _ _ _ _ c.parts.invariant.so_far
          (subst (λ (v : List ℕ). Appends (written c.parts.sink) (written c.put.new.self) v) c.as_slice.ensures.value c.in_ok-put.ensures.ok)
          c.fill.ensures.made c.fill.ensures.few (let l = c.len.ensures in omega (arith, l, c.fill.new.chunk.ok.0));
      faults = c.in_ok-put.ensures.unfailed (λ e. cc) ∙ c.parts.invariant.faults;
    }
