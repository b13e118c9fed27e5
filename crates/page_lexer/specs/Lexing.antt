-- The states of a lexer of pages, by their numbers.
use Rattle.std.specs.Prelude.{◌≡◌, ℕ, List, Some, slice_get}
use Rattle.dtd_model.specs.Table.{Table}
use Rattle.dtd_model.specs.TableOf.{table_of}
use Rattle.page_lexer.specs.declared.rows.Row.{Row}
use Rattle.page_model.specs.Fronts.{Front, HasFront}
use Rattle.page_reader.specs.States.{first_state}
use Rattle.page_reader.specs.declared.state.ReaderState.{ReaderState}
use Rattle.merged_reader.specs.States.{merged_next}
use Rattle.reader_fronts.specs.Laws.{state_over}
use Rattle.page_lexer.specs.declared.lexer.PageLexer.{PageLexer}

-- the definition of the lexer
abbrev pub lexer_table : PageLexer → Table
lexer_table lexer = table_of lexer.numbered.reader.indexed.now.dtd.now

-- the states that were met, each at its number
abbrev pub lexer_states : PageLexer → List ReaderState
lexer_states lexer = lexer.numbered.states.keys

-- the state of the reader behind these bytes of a page
abbrev pub lexer_state_behind : Table → List ℕ → ReaderState
lexer_state_behind table bytes = state_over (merged_next table) first_state bytes

-- the state with this number is the one behind these bytes of a page
abbrev pub IsBehind : PageLexer → ℕ → List ℕ → Type 0
IsBehind lexer number bytes = slice_get (lexer_states lexer) number ≡ Some (lexer_state_behind (lexer_table lexer) bytes)

-- the steps that are known
abbrev pub lexer_rows : PageLexer → List Row
lexer_rows lexer = lexer.numbered.rows.items

-- states behind texts with one front have one number
abbrev pub HasOneStateForEachFront : PageLexer → Type 0
HasOneStateForEachFront lexer = (first second : List ℕ) (f : Front) → HasFront (lexer_table lexer) first f → HasFront (lexer_table lexer) second f
    → (m n : ℕ) → IsBehind lexer m first → IsBehind lexer n second → m ≡ n
