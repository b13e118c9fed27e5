use Rattle.std.proofs.Common.{◌∙◌, ◌++◌, ◌∷◌, [], Some, get_or, sym, ap, subst}
use Rattle.std.proofs.lemmas.Option.{slice_get_within, slice_get-get_or}
use Rattle.std.proofs.lemmas.Result.{IfOk-weaker}
use Rattle.dtd_model.specs.Table.{Table}
use Rattle.dtd_model.specs.TableOf.{table_of}
use Rattle.numbered_sets.specs.Numbers.{AddsOnly}
use Rattle.page_reader.specs.States.{first_state}
use Rattle.page_reader.specs.declared.state.ReaderState.{ReaderState}
use Rattle.merged_reader.specs.States.{merged_next}
use Rattle.page_lexer.specs.Lexing.{lexer_table, lexer_states, lexer_state_behind}
use Rattle.page_lexer.proofs.Behind.{one_more}
use Rattle.page_lexer.proofs.lexer.PageLexer.step.Goals as goal

pub returns-clause-adds : goal.returns-clause-adds
returns-clause-adds c = λ bytes at.
    let t = lexer_table c.args.self.now in
    subst (λ (s : ReaderState). AddsOnly (lexer_states c.args.self.now) c.step.new.self.states.keys s) (sym (one_more (merged_next t) first_state bytes c.args.byte))
    (c.step.ensures.adds (lexer_state_behind t bytes) at)

pub returns-clause-asked : goal.returns-clause-asked
returns-clause-asked c = λ step known. let a = c.step.ensures.asked step known in (a.0, ap (λ (n : _). record { numbered = n }) a.1)

pub returns-clause-met : goal.returns-clause-met
returns-clause-met c =
    let states = lexer_states c.args.self.now in
    let at = slice_get-get_or states c.args.state.0 first_state c.requires in
    IfOk-weaker c.step.result _ _ (λ step is. slice_get_within c.step.new.self.states.keys step.to.0 _ is.to) (c.step.ensures.step (get_or states c.args.state.0 first_state) at)

pub returns-clause-to : goal.returns-clause-to
returns-clause-to c = λ bytes at.
    let t = lexer_table c.args.self.now in
    let same = ap (λ (r : _). table_of r.indexed.now.dtd.now) (sym c.step.ensures.reader) in
    IfOk-weaker c.step.result _ _
    (λ step is. is.to ∙ ap (λ (s : ReaderState). Some s) (sym (one_more (merged_next t) first_state bytes c.args.byte)) ∙ ap (λ (u : Table). Some (lexer_state_behind u (bytes ++ c.args.byte ∷ []))) same)
    (c.step.ensures.step (lexer_state_behind t bytes) at)

pub returns-clause-emit : goal.returns-clause-emit
returns-clause-emit c = λ bytes at. IfOk-weaker c.step.result _ _ (λ step is. is.emit) (c.step.ensures.step (lexer_state_behind (lexer_table c.args.self.now) bytes) at)
