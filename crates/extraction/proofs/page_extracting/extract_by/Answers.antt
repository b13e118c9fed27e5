use Rattle.std.proofs.Common.{List, subst, sym}
use Rattle.flow_code.specs.View.{plain_flow}
use Rattle.given_texts.specs.Given.{closed_of}
use Rattle.loose_sets.specs.declared.name.SetName.{SetName}
use Rattle.extraction.specs.Ends.{AreEnds}
use Rattle.extraction.proofs.Pages.{start_pages, ends_asked}
use Rattle.extraction.proofs.Rules.{loose_rules}
use Rattle.extraction.proofs.Extracted as extracted
use Rattle.extraction.proofs.page_extracting.extract_by.Goals as goal

pub begin_with-requires : goal.begin_with-requires
begin_with-requires g c = extracted.none_paired c.in_ok-work.work c.in_ok-work.ensures.names c.in_ok-work.ensures.numbers

pub list_all-requires-clause-asked : goal.list_all-requires-clause-asked
list_all-requires-clause-asked g c =
    let ends = subst (λ (names : List SetName). AreEnds (plain_flow c.args.flow.now) names) (sym c.deref.ensures.value) c.in_ok-starts.ensures in
    extracted.begun_asked (g.L.Lister.asks c.args.lister.now) (g.L.Lister.lists c.args.lister.now) c.args.given c.deref.result.now c.in_ok-work.work c.begin_with.new.work c.begin_with.new.work c.in_ok-work.ensures.names c.in_ok-work.ensures.numbers c.in_ok-work.ensures.draft c.in_ok-begin_with.ensures
    (ends_asked (plain_flow c.args.flow.now) (g.L.Lister.asks c.args.lister.now) (g.L.Lister.lists c.args.lister.now) c.requires.lists c.deref.result.now ends)

pub list_all-requires-clause-paired : goal.list_all-requires-clause-paired
list_all-requires-clause-paired g c = c.in_ok-begin_with.ensures.adds.paired

pub finish-requires : goal.finish-requires
finish-requires g c =
    extracted.is_below (g.L.Lister.asks c.args.lister.now) (g.L.Lister.lists c.args.lister.now) c.args.given c.deref.result.now c.in_ok-work.work c.begin_with.new.work c.list_all.new.work c.in_ok-work.ensures.names c.in_ok-work.ensures.numbers c.in_ok-work.ensures.draft c.in_ok-begin_with.ensures
    c.in_ok-list_all.ensures.rows

pub returns-clause-pages : goal.returns-clause-pages
returns-clause-pages g c =
    let flow = plain_flow c.args.flow.now in
    let asks = g.L.Lister.asks c.args.lister.now in
    let lists = g.L.Lister.lists c.args.lister.now in
    let reading = c.args.reading.now in
    let ends = subst (λ (names : List SetName). AreEnds flow names) (sym c.deref.ensures.value) c.in_ok-starts.ensures in
    start_pages (g.R.Reading.outputs reading) (g.R.Reading.request reading) (g.R.Reading.circular reading) (g.R.Reading.monotone reading) flow asks lists c.deref.result.now c.list_all.new.work.names.keys c.in_ok-list_all.ensures.rows.asked
    (extracted.whole asks lists c.args.given c.deref.result.now c.in_ok-work.work c.begin_with.new.work c.list_all.new.work c.in_ok-work.ensures.names c.in_ok-work.ensures.numbers c.in_ok-work.ensures.draft c.in_ok-begin_with.ensures c.in_ok-list_all.ensures.rows)
    ends (closed_of c.args.given) c.requires.closed c.in_ok-system.system
    (extracted.system asks lists c.args.given c.deref.result.now c.in_ok-work.work c.begin_with.new.work c.list_all.new.work c.in_ok-work.ensures.names c.in_ok-work.ensures.numbers c.in_ok-work.ensures.draft c.in_ok-begin_with.ensures c.in_ok-list_all.ensures.rows c.in_ok-system.system c.in_ok-system.ensures)
    c.requires.lists

pub returns-clause-rules : goal.returns-clause-rules
returns-clause-rules g c =
    let flow = plain_flow c.args.flow.now in
    let asks = g.L.Lister.asks c.args.lister.now in
    let lists = g.L.Lister.lists c.args.lister.now in
    let reading = c.args.reading.now in
    loose_rules (g.R.Reading.outputs reading) (g.R.Reading.request reading) (g.R.Reading.circular reading) (g.R.Reading.monotone reading) flow asks lists c.deref.result.now c.list_all.new.work.names.keys c.in_ok-list_all.ensures.rows.asked
    (extracted.whole asks lists c.args.given c.deref.result.now c.in_ok-work.work c.begin_with.new.work c.list_all.new.work c.in_ok-work.ensures.names c.in_ok-work.ensures.numbers c.in_ok-work.ensures.draft c.in_ok-begin_with.ensures c.in_ok-list_all.ensures.rows)
    (closed_of c.args.given) c.requires.closed c.in_ok-system.system
    (extracted.system asks lists c.args.given c.deref.result.now c.in_ok-work.work c.begin_with.new.work c.list_all.new.work c.in_ok-work.ensures.names c.in_ok-work.ensures.numbers c.in_ok-work.ensures.draft c.in_ok-begin_with.ensures c.in_ok-list_all.ensures.rows c.in_ok-system.system c.in_ok-system.ensures)
    c.requires.lists

pub returns-clause-made : goal.returns-clause-made
returns-clause-made g c =
    let flow = plain_flow c.args.flow.now in
    let asks = g.L.Lister.asks c.args.lister.now in
    let lists = g.L.Lister.lists c.args.lister.now in
    let ends = subst (λ (names : List SetName). AreEnds flow names) (sym c.deref.ensures.value) c.in_ok-starts.ensures in
    extracted.made asks lists c.args.given c.deref.result.now c.in_ok-work.work c.begin_with.new.work c.list_all.new.work c.in_ok-work.ensures.names c.in_ok-work.ensures.numbers c.in_ok-work.ensures.draft c.in_ok-begin_with.ensures c.in_ok-list_all.ensures.rows c.in_ok-system.system c.in_ok-system.ensures
    flow (g.R.Reading.request c.args.reading.now) ends c.in_ok-list_all.ensures.different c.requires.closed
