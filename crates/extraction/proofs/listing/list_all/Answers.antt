use Rattle.std.proofs.Common.{◌≡◌, ◌<◌, Some, slice_get, length, refl, sym, ◌∙◌, arith}
use Rattle.std.proofs.lemmas.Option.{slice_get_read, slice_get_within}
use Rattle.system_writing.proofs.Places.{contains_at}
use Rattle.extraction.proofs.RowLemmas.{listed_none, listed_more, listed_all}
use Rattle.extraction.proofs.listing.list_all.Goals as goal

pub loop-name-init : goal.loop-name-init
loop-name-init g c = listed_none (g.L.Lister.asks c.args.lister.now) (g.L.Lister.lists c.args.lister.now) c.args.work.now c.requires.paired c.requires.asked

pub index-set-requires : goal.index-set-requires
index-set-requires g c =
    let work = c.loop-name.work in
    let within = slice_get_within work.names.keys c.loop-name.taken c.in-Some.name (sym c.name_at.ensures.value ∙ c.in-Some.is) in
    omega (arith, within, c.loop-name.invariant.paired, work.numbers.ok.0)

pub take_up-requires-clause-asked : goal.take_up-requires-clause-asked
take_up-requires-clause-asked g c = c.loop-name.invariant.asked c.in-Some.name (contains_at c.loop-name.work.names.keys c.loop-name.taken c.in-Some.name (sym c.name_at.ensures.value ∙ c.in-Some.is))

pub take_up-requires-clause-paired : goal.take_up-requires-clause-paired
take_up-requires-clause-paired g c = c.loop-name.invariant.paired

pub loop-name-preserved : goal.loop-name-preserved
loop-name-preserved g c =
    let work = c.loop-name.work in
    let here : slice_get work.names.keys c.loop-name.taken ≡ Some c.in-Some.name = sym c.name_at.ensures.value ∙ c.in-Some.is in
    let within = slice_get_within work.names.keys c.loop-name.taken c.in-Some.name here in
    let less : c.loop-name.taken < length work.numbers.items = omega (arith, within, c.loop-name.invariant.paired) in
    listed_more (g.L.Lister.asks c.args.lister.now) (g.L.Lister.lists c.args.lister.now) c.args.work.now work c.take_up.new.work c.loop-name.taken c.index-set.result.now c.in-Some.name c.loop-name.invariant here
    (slice_get_read work.numbers.items (length work.numbers.items) c.loop-name.taken c.index-set.result.now refl less c.index-set.ensures) c.in_ok-take_up.ensures

pub returns-clause-rows : goal.returns-clause-rows
returns-clause-rows g c = listed_all (g.L.Lister.asks c.args.lister.now) (g.L.Lister.lists c.args.lister.now) c.args.work.now c.loop-name.work c.loop-name.taken (sym c.name_at.ensures.value ∙ c.in_default.is) c.loop-name.invariant

pub returns-clause-different : goal.returns-clause-different
returns-clause-different g c = c.name_at.ensures.different
