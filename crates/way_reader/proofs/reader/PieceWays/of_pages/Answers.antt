use Rattle.std.proofs.Common.{ℕ, List, map, ap, ◌∙◌}
use Rattle.dtd_model.specs.TableOf.{table_of}
use Rattle.derivatives.specs.Standing.{expr_at}
use Rattle.page_forms.specs.Forms.{forms}
use Rattle.way_reader.specs.Reader.{starts_at}
use Rattle.way_reader.proofs.Forms.{whole_forms}
use Rattle.way_reader.proofs.PagesRead.{pages_are_read}
use Rattle.way_reader.proofs.StartLemmas.{starts_whole}
use Rattle.way_reader.proofs.reader.PieceWays.of_pages.Goals as goal

pub returns-clause-forms : goal.returns-clause-forms
returns-clause-forms c =
    let a = c.in_ok-arena.field-0.arena in
    starts_whole (table_of c.args.indexed.now.dtd.now) a c.as_slice.result.now c.element_count.result c.in_ok-starts.starts
    (ap (λ (ns : List ℕ). map (expr_at a) ns) c.as_slice.ensures.value ∙ c.in_ok-arena.ensures) c.element_count.ensures c.in_ok-starts.ensures

pub returns-clause-reads : goal.returns-clause-reads
returns-clause-reads c =
    let a = c.in_ok-arena.field-0.arena in
    let table = table_of c.args.indexed.now.dtd.now in
    pages_are_read table c.args.indexed.now.dtd.now.lawful a (starts_at c.in_ok-starts.starts)
    (whole_forms (forms table) a (starts_at c.in_ok-starts.starts)
    (starts_whole table a c.as_slice.result.now c.element_count.result c.in_ok-starts.starts (ap (λ (ns : List ℕ). map (expr_at a) ns) c.as_slice.ensures.value ∙ c.in_ok-arena.ensures) c.element_count.ensures
    c.in_ok-starts.ensures))
