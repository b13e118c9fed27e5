use Rattle.std.proofs.Common.{◌≡◌, ◌<◌, ℕ, length, refl, arith}
use Rattle.std.proofs.lemmas.Result.{on_ok_weaker}
use Rattle.strong_components.proofs.ListLemmas.{mark_at}
use Rattle.strong_components.proofs.LabelLemmas.{passed, merged, next_opened}
use Rattle.strong_components.proofs.opening.follow.Goals as goal

pub index-requires : goal.index-requires
index-requires c =
    let e = c.requires.keeps.waiting_edge c.args.edge (0, omega arith, refl) in
    let lt = c.requires.within e.0 c.args.edge.to e.2 in
    omega (arith, lt, c.requires.keeps.size, c.args.search.now.marks.ok.0)

pub open_node-requires-clause-node : goal.open_node-requires-clause-node
open_node-requires-clause-node c =
    let e = c.requires.keeps.waiting_edge c.args.edge (0, omega arith, refl) in
    c.requires.within e.0 c.args.edge.to e.2

pub returns-in-Done : goal.returns-in-Done
returns-in-Done c =
    let e = c.requires.keeps.waiting_edge c.args.edge (0, omega arith, refl) in
    let lt = c.requires.within e.0 c.args.edge.to e.2 in
    passed c.args.edges.now c.args.search.now c.args.edge c.in-Done.field-0 c.requires.keeps
    (mark_at c.args.search.now.marks.items c.args.edge.to c.index.result.now _ (omega (arith, lt, c.requires.keeps.size)) c.index.ensures c.in-Done.is)

pub returns-in-Open : goal.returns-in-Open
returns-in-Open c =
    let e = c.requires.keeps.waiting_edge c.args.edge (0, omega arith, refl) in
    let lt = c.requires.within e.0 c.args.edge.to e.2 in
    merged c.args.edges.now c.args.search.now _ c.args.edge c.in-Open.place c.requires.keeps c.requires.last
    (mark_at c.args.search.now.marks.items c.args.edge.to c.index.result.now _ (omega (arith, lt, c.requires.keeps.size)) c.index.ensures c.in-Open.is)
    refl refl c.join.ensures refl refl

pub returns-in-New : goal.returns-in-New
returns-in-New c =
    let e = c.requires.keeps.waiting_edge c.args.edge (0, omega arith, refl) in
    let lt = c.requires.within e.0 c.args.edge.to e.2 in
    on_ok_weaker c.open_node.result (λ o. next_opened c.args.edges.now c.args.search.now c.open_node.new.search c.args.edge c.in-New.field-0 o c.requires.keeps c.requires.last
    (mark_at c.args.search.now.marks.items c.args.edge.to c.index.result.now _ (omega (arith, lt, c.requires.keeps.size)) c.index.ensures c.in-New.is))
    c.open_node.ensures
