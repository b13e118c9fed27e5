-- What a summary's fields stand for.
use Rattle.tag_sums.specs.Automaton.{Automaton, IsAutomaton}
use Rattle.segment_summary.specs.declared.segments.Segments.{Segments}
use Rattle.page_automata.specs.PageAutomaton.{Parts, page_automaton}
use Rattle.page_automata.proofs.StepLemmas.{lawful}

-- the parts of the automaton: its states, what may stand besides elements, the root, and whether that needs no document type declaration
abbrev pub parts_in : Segments → Parts
parts_in s = record { states = s.contents; besides = s.besides.items; root = s.root; free = s.is_free }

-- the automaton of the page that a summary is made for
abbrev pub automaton_of : Segments → Automaton
automaton_of s = page_automaton (parts_in s)

-- it is an automaton: its states are in range, and labels lead from a state to one of the same element
pub is_lawful : (s : Segments) → IsAutomaton (automaton_of s)
is_lawful s = lawful (parts_in s) s.owners
