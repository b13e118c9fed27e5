-- What is known of broken pages where a limit was passed: there is none, or the search for one passed its own limit.
use Rattle.std.specs.Prelude.{ℕ, List}
use Rattle.cfg_grammar.specs.declared.grammar.Grammar.{Grammar}
use Rattle.cfg_grammar.specs.declared.symbol.Symbol.TheVariants.{Nt}
use Rattle.fst_core.specs.Outputs.{DerivesText}
use Rattle.grammar_image.specs.declared.refusal.ImageRefusal.TheVariants.{Large}
use Rattle.script_meaning.specs.Programs.{PlainProgram}
use Rattle.dtd_model.specs.Table.{Table}
use Rattle.page_model.specs.Broken.{Broken}
use Rattle.loose_grammar.specs.declared.refusal.TheConstants.{ITEM_LIMIT}
use Rattle.loose_grammar.specs.Pages.{IsLoosePage, IsPageGrammar}
use Rattle.broken_search.specs.Found.{IsSearchCause}

-- no such page is broken by the definition
abbrev pub NoneIsBroken : Table → (List ℕ → Type 0) → Type 0
NoneIsBroken table IsPage = (page : List ℕ) → IsPage page → Broken table page → ⊥

-- of a grammar: no page that it derives is broken, or its image under the reader of loose pieces has over 8,000,000 items
pub data IsSearchedIn (table : Table) (grammar : Grammar) : Type 0 where
  none_derived : NoneIsBroken table (DerivesText grammar.productions.items (Nt grammar.start)) → IsSearchedIn table grammar
  large_image : (count : ℕ) → IsSearchCause table grammar ITEM_LIMIT (Large count) → IsSearchedIn table grammar

-- of a program: no loose page is broken, or the search in the grammar of loose pages that is made of it has over 8,000,000 items
pub data IsSearched (table : Table) (program : PlainProgram) : Type 0 where
  none_loose : NoneIsBroken table (IsLoosePage program) → IsSearched table program
  large_search : (grammar : Grammar) (count : ℕ) → IsPageGrammar program grammar → IsSearchCause table grammar ITEM_LIMIT (Large count)
      → IsSearched table program
