use Rattle.std.proofs.Common.{refl}
use Rattle.extraction.proofs.RowLemmas.{begins_none, begins_taken}
use Rattle.extraction.proofs.listing.begin_with.Goals as goal

pub loop-name-init : goal.loop-name-init
loop-name-init c = begins_none c.args.work.now c.requires

pub number_name-requires : goal.number_name-requires
number_name-requires c = c.loop-name.invariant.adds.paired

pub loop-name-preserved : goal.loop-name-preserved
loop-name-preserved c =
    begins_taken c.args.work.now c.loop-name.work c.number_name.new.work (record c.number_name.new.work { draft = c.add_start.new.self }) c.args.starts.now c.loop-name.name-index _ _ c.in_ok-set.set c.loop-name-test.true c.loop-name.invariant refl c.in_ok-set.ensures
    refl refl c.in_ok-add_start.ensures
