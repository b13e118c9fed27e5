use Rattle.std.proofs.Common.{◌≡◌, ◌∙◌, List, ℕ, ap, subst, take}
use Rattle.std.specs.Prelude.{OnErr}
use Rattle.io_edge.specs.Taken.{AppendsPrefix}
use Rattle.derivations.specs.Stacked.{pending}
use Rattle.derivations.specs.Walks.{sentence_in}
use Rattle.derivations.proofs.StackLemmas.{root_pending}
use Rattle.derivations.proofs.sentence_writing.yield_into.Goals as goal

pub returns-clause-err : goal.returns-clause-err
returns-clause-err g c =
    let written = g.S.Sink.written in
    let walk = c.args.walk.now in
    let same : pending c.as_slice.result.now c.restart.new.stack.items ≡ sentence_in walk =
    ap (λ fs. pending fs c.restart.new.stack.items) c.as_slice.ensures.value ∙ ap (pending walk.forks.items) c.restart.ensures.items ∙ root_pending walk.forks.items walk.root in
    subst (λ (v : List ℕ). OnErr c.put_first.result (AppendsPrefix (written c.args.sink.now) (written c.put_first.new.sink) (take c.args.most v))) same c.put_first.ensures.err
