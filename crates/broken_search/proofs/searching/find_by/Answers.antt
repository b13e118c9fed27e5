use Rattle.std.proofs.Common.{arith}
use Rattle.std.proofs.lemmas.Result.{IfOk-weaker, IfErr-weaker}
use Rattle.cfg_grammar.specs.declared.symbol.Symbol as symbols
use Rattle.derivations.specs.declared.derivation.Derivation.{Derivation}
use Rattle.dtd_model.specs.TableOf.{table_of}
use Rattle.fst_core.specs.Outputs.{DerivesText}
use Rattle.page_decision.specs.TextVerdicts.{IsDerivationOf}
use Rattle.way_reader.specs.Reader.{starts_at}
use Rattle.broken_forms.specs.LooseForms.{loose_forms}
use Rattle.broken_readers.proofs.Finding.{loose_puts_no_tags}
use Rattle.broken_search.proofs.SearchLemmas.{if_some, if_none, is_broken, none_broken, search_cause}
use Rattle.broken_search.proofs.searching.find_by.Goals as goal

pub returns-clause-found : goal.returns-clause-found
returns-clause-found c =
    let pages = DerivesText c.args.grammar.now.productions.items (symbols.Symbol.Nt c.args.grammar.now.start) in
    let a = c.args.ways.now.arena in
    let starts = starts_at c.args.ways.now.starts in
    let texts = c.whole_forms_have_texts.ensures (loose_forms (table_of c.args.dtd.now)) a starts c.requires in
    IfOk-weaker c.find_wrong.result _ _
    (λ found is. if_some _ _ found (λ (d : Derivation) wrong. is_broken c.loose_misses_none.ensures (table_of c.args.dtd.now) a starts texts pages c.texts_fit.ensures (IsDerivationOf c.args.grammar.now) d wrong) is)
    c.find_wrong.ensures.found

pub returns-clause-none : goal.returns-clause-none
returns-clause-none c =
    let pages = DerivesText c.args.grammar.now.productions.items (symbols.Symbol.Nt c.args.grammar.now.start) in
    let a = c.args.ways.now.arena in
    let starts = starts_at c.args.ways.now.starts in
    let texts = c.whole_forms_have_texts.ensures (loose_forms (table_of c.args.dtd.now)) a starts c.requires in
    IfOk-weaker c.find_wrong.result _ _
    (λ found is. if_none found (λ none. none_broken c.loose_misses_none.ensures (table_of c.args.dtd.now) a starts texts pages c.texts_fit.ensures (IsDerivationOf c.args.grammar.now)
    (λ page tokens there put. loose_puts_no_tags c.loose_tells_broken.ensures (table_of c.args.dtd.now) a starts texts page tokens (c.texts_fit.ensures page there) put) _ 2 (omega arith) none) is)
    c.find_wrong.ensures.none

pub returns-clause-cause : goal.returns-clause-cause
returns-clause-cause c =
    IfErr-weaker c.find_wrong.result _ _ (λ refusal cause. search_cause (table_of c.args.dtd.now) c.args.grammar.now c.args.items c.args.ways.now.arena (starts_at c.args.ways.now.starts) c.requires refusal cause) c.find_wrong.ensures.cause

pub find_wrong-requires : goal.find_wrong-requires
find_wrong-requires c =
    let a = c.args.ways.now.arena in
    let starts = starts_at c.args.ways.now.starts in
    let texts = c.whole_forms_have_texts.ensures (loose_forms (table_of c.args.dtd.now)) a starts c.requires in
    (c.loose_finds_broken.ensures (table_of c.args.dtd.now) c.args.dtd.now.lawful a starts texts).echoing
