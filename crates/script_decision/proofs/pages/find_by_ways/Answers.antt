use Rattle.std.proofs.Common.{Option, Some, None, IfNone, arith}
use Rattle.std.proofs.lemmas.Result.{IfOk-weaker}
use Rattle.cfg_grammar.specs.declared.symbol.Symbol as symbols
use Rattle.dtd_model.specs.TableOf.{table_of}
use Rattle.fst_core.specs.Outputs.{DerivesText}
use Rattle.way_reader.specs.Reader.{starts_at}
use Rattle.coarse_forms.specs.Languages.{coarse_forms}
use Rattle.broken_readers.proofs.Finding.{coarse_puts_no_tags, none_coarse}
use Rattle.script_decision.proofs.pages.find_by_ways.Goals as goal

pub find_broken-requires : goal.find_broken-requires
find_broken-requires c =
    let a = c.args.ways.now.arena in
    let starts = starts_at c.args.ways.now.starts in
    let texts = c.whole_forms_have_texts.ensures coarse_forms a starts c.requires in
    c.coarse_finds_broken.ensures (table_of c.args.dtd.now) c.args.dtd.now.lawful a starts texts

if_none : {A P Q : Type 0} (o : Option A) → (P → Q) → IfNone o P → IfNone o Q
if_none (Some a) go h = tt
if_none None go h = go h

pub returns-clause-none : goal.returns-clause-none
returns-clause-none c =
    let pages = DerivesText c.args.grammar.now.productions.items (symbols.Symbol.Nt c.args.grammar.now.start) in
    let a = c.args.ways.now.arena in
    let starts = starts_at c.args.ways.now.starts in
    let texts = c.whole_forms_have_texts.ensures coarse_forms a starts c.requires in
    IfOk-weaker c.find_broken.result _ _ (λ found is. if_none found (λ all. none_coarse c.coarse_misses_none.ensures a starts texts pages c.texts_fit.ensures all) is)
    (c.find_broken.ensures.none (omega arith) (λ page tokens there put. coarse_puts_no_tags c.coarse_tells_broken.ensures a starts texts page tokens (c.texts_fit.ensures page there) put))
