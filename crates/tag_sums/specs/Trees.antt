-- The tokens of a tree whose elements hold what they may.
use Rattle.std.specs.Prelude.{◌≡◌, ℕ, List, [], ◌∷◌, ◌++◌, Some}
use Rattle.text_base.specs.declared.page_token.PageToken.{PageToken}
use Rattle.text_base.specs.declared.page_token.PageToken.TheVariants.{Start, End}
use Rattle.tag_sums.specs.Labels.{Mark, Label, child, other, token_of}
use Rattle.tag_sums.specs.Automaton.{Automaton, along, Holds}

-- nodes beside one another: what is no element, and elements with the nodes in them
pub data Nodes : Type 0 where
  no_nodes : Nodes
  mark : Mark → Nodes → Nodes
  element : ℕ → Nodes → Nodes → Nodes

-- the tags of the element at a place
abbrev pub start_tag : ℕ → PageToken
start_tag e = Start (record { 0 = e })

-- the end tag of the element at a place
abbrev pub end_tag : ℕ → PageToken
end_tag e = End (record { 0 = e })

-- the tokens of the nodes in the order of the page, those of an element between its tags
abbrev pub tokens_of : Nodes → List PageToken
tokens_of no_nodes = []
tokens_of (mark m rest) = token_of m ∷ tokens_of rest
tokens_of (element e inside rest) = start_tag e ∷ (tokens_of inside ++ end_tag e ∷ tokens_of rest)

-- the nodes, but for those inside elements
abbrev pub labels_of : Nodes → List Label
labels_of no_nodes = []
labels_of (mark m rest) = other m ∷ labels_of rest
labels_of (element e inside rest) = child e ∷ labels_of rest

-- each element holds what it may
abbrev pub AreValid : Automaton → Nodes → Type 0
AreValid a no_nodes = Unit {0}
AreValid a (mark m rest) = AreValid a rest
AreValid a (element e inside rest) = Holds a e (labels_of inside) × AreValid a inside × AreValid a rest

-- the tokens are those of such nodes, which lead from before the page to behind its root
abbrev pub IsPage : Automaton → List PageToken → Type 0
IsPage a tokens = (nodes : Nodes) × (tokens_of nodes ≡ tokens) × AreValid a nodes
    × (along a a.page_start (labels_of nodes) ≡ Some a.page_done)
