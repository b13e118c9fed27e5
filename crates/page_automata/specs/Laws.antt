-- The laws of the automaton of a document type definition.
use Rattle.std.specs.Prelude.{◌↔◌, List, length}
use Rattle.text_base.specs.declared.page_token.PageToken.{PageToken}
use Rattle.dtd_model.specs.Table.{Table}
use Rattle.content_automata.specs.Tables.{Table as States}
use Rattle.content_automata.specs.Decides.{Decides, HasOwners}
use Rattle.page_model.specs.TokenTree.{TokenTree}
use Rattle.tag_sums.specs.Automaton.{IsAutomaton}
use Rattle.tag_sums.specs.Trees.{IsPage}
use Rattle.page_automata.specs.PageAutomaton.{Parts, parts_of, page_automaton}

-- its states are in range and belong to elements
abbrev pub PageIsAutomaton : Type 0
PageIsAutomaton = (p : Parts) → HasOwners (length p.besides) p.states → IsAutomaton (page_automaton p)

-- tokens are a page by the automaton exactly where they are the flat list of a tree that is as declared
abbrev pub PageIsTree : Type 0
PageIsTree = (table : Table) (t : States) → Decides table t → HasOwners (length table.elements) t → (tokens : List PageToken)
    → IsPage (page_automaton (parts_of table t)) tokens ↔ TokenTree table tokens
