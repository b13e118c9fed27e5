-- When a sum is whole.
use Rattle.std.specs.Prelude.{◌↔◌, Bool, true, false, ◌&&◌, List, [], ◌∷◌, Some, nat_eq, length, IsTrue}
use Rattle.std.specs.Option.{option_eq}
use Rattle.text_base.specs.declared.page_token.PageToken.{PageToken}
use Rattle.dtd_model.specs.Table.{Table}
use Rattle.content_automata.specs.Tables.{Table as States}
use Rattle.content_automata.specs.Decides.{Decides, HasOwners}
use Rattle.page_model.specs.TokenTree.{TokenTree}
use Rattle.tag_sums.specs.Automaton.{Automaton}
use Rattle.tag_sums.specs.Sum.{Sum, broken, reduced, target, sum_of}
use Rattle.page_automata.specs.PageAutomaton.{parts_of, page_automaton}

-- the list is empty
abbrev pub no_list : {X : Type 0} → List X → Bool
no_list [] = true
no_list (x ∷ xs) = false

-- nothing is unmatched, and the tokens lead from before the page to behind its root
abbrev pub is_whole : Automaton → Sum → Bool
is_whole a broken = false
is_whole a (reduced cs m os) = no_list cs && (no_list os && option_eq nat_eq (target m a.page_start) (Some a.page_done))

-- a sum is whole exactly where the tokens are the flat list of a tree that is as declared
abbrev pub WholeIsTree : Type 0
WholeIsTree = (table : Table) (t : States) → Decides table t → HasOwners (length table.elements) t → (tokens : List PageToken)
    → IsTrue (is_whole (page_automaton (parts_of table t)) (sum_of (page_automaton (parts_of table t)) tokens)) ↔ TokenTree table tokens
