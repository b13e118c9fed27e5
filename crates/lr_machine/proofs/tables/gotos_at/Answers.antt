use Rattle.lr_machine.proofs.RowLemmas.{gotos_found, gotos_not_there, gotos_past}
use Rattle.lr_machine.proofs.tables.gotos_at.Goals as goal

pub returns-in-Some-get : goal.returns-in-Some-get
returns-in-Some-get g c =
    let t = c.args.tables.now in
    let at = c.in-Some.ensures.lookup in
    let there = c.in-Some-get.ensures.lookup in
    gotos_found t.gotos.now t.goto_of.now c.in-Some-get.row.now c.args.state c.in-Some.place.now at.0 at.1 there.0 there.1

pub returns-in-None-get : goal.returns-in-None-get
returns-in-None-get g c =
    let t = c.args.tables.now in
    let at = c.in-Some.ensures.lookup in
    gotos_not_there t.gotos.now t.goto_of.now c.args.state c.in-Some.place.now at.0 at.1 c.in-None-get.ensures.lookup.0

pub returns-in-None : goal.returns-in-None
returns-in-None g c = gotos_past c.args.tables.now.gotos.now c.args.tables.now.goto_of.now c.args.state c.in-None.ensures.lookup.0
