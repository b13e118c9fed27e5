-- A page as a tree: its prolog, and nodes beside one another (XML 1.0, 2.1, 2.8 and 3). Its pieces in order are those of
-- its prolog and of its nodes, with a start tag before what stands in an element and an end tag behind it.
use Rattle.std.specs.Prelude.{◌≡◌, ℕ, Bool, true, false, List, [], ◌∷◌, Option, Some, None}
use Rattle.std.specs.Str.{encode_utf8_all}
use Rattle.page_model.specs.Parts.{Tag, Leaf}
use Rattle.page_model.specs.Prolog.{Declaration, Doctype}
use Rattle.page_model.specs.Places.{at_beginning}
use Rattle.page_model.specs.Pieces.{Piece, mark, declaration, doctype, start_tag, empty_tag, end_tag, leaf, pieces_then, ArePieces}

-- nodes beside one another; each is followed by the nodes behind it
pub data Nodes : Type 0 where
  no_nodes : Nodes
  other : Leaf → Nodes → Nodes
  -- a start tag, the nodes in the element, and the white space in its end tag, which has the same name (XML 1.0, 3.1)
  element : Tag → Nodes → List ℕ → Nodes → Nodes
  empty_element : Tag → Nodes → Nodes

-- the pieces of the nodes, and those behind them
abbrev pub nodes_then : Nodes → List Piece → List Piece
nodes_then no_nodes behind = behind
nodes_then (other l more) behind = leaf l ∷ nodes_then more behind
nodes_then (element tag inside space more) behind = start_tag tag ∷ nodes_then inside (end_tag tag.name space ∷ nodes_then more behind)
nodes_then (empty_element tag more) behind = empty_tag tag ∷ nodes_then more behind

-- what may stand before the root and its neighbours: nodes and the document type declaration, or neither
pub data Prolog : Type 0 where
  no_doctype : Prolog
  with_doctype : Nodes → Doctype → Prolog

-- the pieces of the prolog, and those behind them
abbrev pub prolog_then : Prolog → List Piece → List Piece
prolog_then no_doctype behind = behind
prolog_then (with_doctype nodes d) behind = nodes_then nodes (doctype d ∷ behind)

-- a page: maybe a byte order mark, maybe the XML declaration, the prolog, and nodes
pub record Page : Type 0 where
  pub mark : Bool
  pub declaration : Option Declaration
  pub prolog : Prolog
  pub nodes : Nodes

-- the byte order mark, where there is one, and the pieces behind it
abbrev pub mark_then : Bool → List Piece → List Piece
mark_then true behind = mark ∷ behind
mark_then false behind = behind

-- the XML declaration, where there is one, and the pieces behind it
abbrev pub declared_then : Option Declaration → List Piece → List Piece
declared_then None behind = behind
declared_then (Some d) behind = declaration d ∷ behind

-- the pieces of a page, in the order in which they stand in it
abbrev pub pieces_of : Page → List Piece
pieces_of page = mark_then page.mark (declared_then page.declaration (prolog_then page.prolog (nodes_then page.nodes [])))

-- the page is spelled by these bytes, which are UTF-8 (XML 1.0, 4.3.3)
pub record PageSpells (page : Page) (bytes : List ℕ) : Type 0 where
  pub pieces : ArePieces at_beginning (pieces_of page)
  pub spelled : encode_utf8_all (pieces_then (pieces_of page) []) ≡ bytes
