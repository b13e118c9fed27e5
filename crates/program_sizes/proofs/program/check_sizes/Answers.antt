use Rattle.std.specs.Prelude.{length}
use Rattle.php_syntax.specs.Trees.{plain_file, functions_of_list}
use Rattle.program_files.specs.View.{files_of}
use Rattle.program_sizes.proofs.TableLemmas.{size_is, is_within, too_many_places, too_many_nodes, too_high}
use Rattle.program_sizes.proofs.program.check_sizes.Goals as goal

pub returns-then-size-gt-PLACE_LIMIT-clause-err : goal.returns-then-size-gt-PLACE_LIMIT-clause-err
returns-then-size-gt-PLACE_LIMIT-clause-err c =
    let sized = size_is (files_of c.args.files.now) c.args.order.now c.in_ok-table.table.items (plain_file c.args.main.now) (functions_of_list c.args.stubs.now) c.size_of_program-size.result c.requires.whole c.requires.main c.requires.stubs.whole c.in_ok-table.ensures (rw c.as_slice.ensures.value at c.size_of_program-size.ensures) in
    too_many_places (files_of c.args.files.now) (functions_of_list c.args.stubs.now) (length c.args.order.now) (plain_file c.args.main.now) c.size_of_program-size.result sized c.if-size-gt-PLACE_LIMIT.true

pub returns-then-size-gt-NODE_LIMIT-clause-err : goal.returns-then-size-gt-NODE_LIMIT-clause-err
returns-then-size-gt-NODE_LIMIT-clause-err c =
    let sized = size_is (files_of c.args.files.now) c.args.order.now c.in_ok-table.table.items (plain_file c.args.main.now) (functions_of_list c.args.stubs.now) c.size_of_program-size.result c.requires.whole c.requires.main c.requires.stubs.whole c.in_ok-table.ensures (rw c.as_slice.ensures.value at c.size_of_program-size.ensures) in
    too_many_nodes (files_of c.args.files.now) (functions_of_list c.args.stubs.now) (length c.args.order.now) (plain_file c.args.main.now) c.size_of_program-size.result sized c.if-size-gt-PLACE_LIMIT.false c.if-size-gt-NODE_LIMIT.true

pub returns-then-size-gt-PROGRAM_HEIGHT_LIMIT-clause-err : goal.returns-then-size-gt-PROGRAM_HEIGHT_LIMIT-clause-err
returns-then-size-gt-PROGRAM_HEIGHT_LIMIT-clause-err c =
    let sized = size_is (files_of c.args.files.now) c.args.order.now c.in_ok-table.table.items (plain_file c.args.main.now) (functions_of_list c.args.stubs.now) c.size_of_program-size.result c.requires.whole c.requires.main c.requires.stubs.whole c.in_ok-table.ensures (rw c.as_slice.ensures.value at c.size_of_program-size.ensures) in
    too_high (files_of c.args.files.now) (functions_of_list c.args.stubs.now) (length c.args.order.now) (plain_file c.args.main.now) c.size_of_program-size.result sized c.if-size-gt-PLACE_LIMIT.false c.if-size-gt-NODE_LIMIT.false c.if-size-gt-PROGRAM_HEIGHT_LIMIT.true

pub returns-clause-ok : goal.returns-clause-ok
returns-clause-ok c =
    let sized = size_is (files_of c.args.files.now) c.args.order.now c.in_ok-table.table.items (plain_file c.args.main.now) (functions_of_list c.args.stubs.now) c.size_of_program-size.result c.requires.whole c.requires.main c.requires.stubs.whole c.in_ok-table.ensures (rw c.as_slice.ensures.value at c.size_of_program-size.ensures) in
    is_within (files_of c.args.files.now) (functions_of_list c.args.stubs.now) (length c.args.order.now) (plain_file c.args.main.now) c.size_of_program-size.result sized c.if-size-gt-PLACE_LIMIT.false c.if-size-gt-NODE_LIMIT.false c.if-size-gt-PROGRAM_HEIGHT_LIMIT.false
