use Rattle.std.proofs.Common.{◌∙◌, arith, length-set}
use Rattle.program_files.specs.View.{files_of}
use Rattle.program_sizes.proofs.TableLemmas.{file_is_there, table_step, table_all}
use Rattle.program_sizes.proofs.table.table_of.Goals as goal

pub unreachable-requires : goal.unreachable-requires
unreachable-requires c = file_is_there (files_of c.args.files.now) c.args.order.now c.loop-place.place-index c.requires c.loop-place-test.true c.in-None.ensures

pub loop-place-preserved : goal.loop-place-preserved
loop-place-preserved c = record {
  first = table_step (files_of c.args.files.now) c.args.order.now c.loop-place.place-index c.in-Some.tree.now c.loop-place.table.items c.as_slice.result.now c.as_slice-in-Some.result.now c.size_of_stmts-size.result c.requires c.loop-place-test.true c.in-Some.ensures
      c.loop-place.invariant.size c.loop-place.invariant.first c.as_slice.ensures.value c.as_slice-in-Some.ensures.value c.size_of_stmts-size.ensures;
  size = length-set c.loop-place.table.items _ _ ∙ c.loop-place.invariant.size;
  within = omega arith;
}

pub returns : goal.returns
returns c = table_all (files_of c.args.files.now) c.args.order.now c.loop-place.place-index c.loop-place.table.items c.requires (let h = c.loop-place.invariant.within in omega arith) c.loop-place.invariant.first
