use Rattle.std.proofs.Common.{◌<◌, length, refl, arith}
use Rattle.std.proofs.lemmas.Option.{slice_get_read}
use Rattle.page_lexer.proofs.Known.{set_noted, set_keeps, set_only}
use Rattle.page_lexer.proofs.rows.set_step.Goals as goal

pub returns-clause-keeps : goal.returns-clause-keeps
returns-clause-keeps c =
    let within : c.args.state.0 < length c.args.rows.now.items = omega (arith, c.requires.within, c.args.rows.now.ok.0) in
    let at = slice_get_read c.args.rows.now.items (length c.args.rows.now.items) c.args.state.0 c.index_mut.result.now refl within c.index_mut.ensures.value in
    set_keeps c.args.rows.now.items c.args.state.0 c.args.byte c.index_mut.result.now c.set_in.new.row c.args.step at c.set_in.ensures c.requires.new

pub returns-clause-noted : goal.returns-clause-noted
returns-clause-noted c =
    let within : c.args.state.0 < length c.args.rows.now.items = omega (arith, c.requires.within, c.args.rows.now.ok.0) in
    let at = slice_get_read c.args.rows.now.items (length c.args.rows.now.items) c.args.state.0 c.index_mut.result.now refl within c.index_mut.ensures.value in
    set_noted c.args.rows.now.items c.args.state.0 c.args.byte c.index_mut.result.now c.set_in.new.row c.args.step at c.set_in.ensures

pub returns-clause-only : goal.returns-clause-only
returns-clause-only c =
    let within : c.args.state.0 < length c.args.rows.now.items = omega (arith, c.requires.within, c.args.rows.now.ok.0) in
    let at = slice_get_read c.args.rows.now.items (length c.args.rows.now.items) c.args.state.0 c.index_mut.result.now refl within c.index_mut.ensures.value in
    set_only c.args.rows.now.items c.args.state.0 c.args.byte c.index_mut.result.now c.set_in.new.row c.args.step at c.set_in.ensures
