-- The pieces that a page is cut into (XML 1.0, 2.1, 2.8 and 3.1), the characters that spell each, and which piece may
-- stand where. A page is a list of pieces; that an end tag answers a start tag is a matter of trees (specs/Nodes.antt).
use Rattle.std.specs.Prelude.{◌≡◌, ℕ, suc, Bool, true, not, ◌==◌, ◌&&◌, if◌then◌else◌, List, [], ◌∷◌, ◌++◌, min}
use Rattle.std.specs.List.{list_all}
use Rattle.xml_text.specs.Characters.{is_blank}
use Rattle.xml_text.specs.Names.{is_name}
use Rattle.page_model.specs.Parts.{Tag, tag_then, IsTag, Leaf, character, reference, section, comment, instruction, leaf_then, IsLeaf}
use Rattle.page_model.specs.Prolog.{Declaration, declaration_then, IsDeclaration, Doctype, doctype_then, IsDoctype}
use Rattle.page_model.specs.Places.{Place, at_beginning, behind_mark, behind, is_early, brackets}

-- one piece of a page: the mark, a declaration, a tag, or a leaf (a character, a reference, a section, a comment or an instruction)
pub data Piece : Type 0 where
  -- the byte order mark (XML 1.0, 4.3.3)
  mark : Piece
  declaration : Declaration → Piece
  doctype : Doctype → Piece
  start_tag : Tag → Piece
  -- the tag of an empty element
  empty_tag : Tag → Piece
  -- the name and the white space of an end tag
  end_tag : List ℕ → List ℕ → Piece
  leaf : Leaf → Piece

-- the character U+FEFF; `<` tag `>`; `<` tag `/>`; `</` name, white space `>`
abbrev pub piece_then : Piece → List ℕ → List ℕ
piece_then mark rest = 0xFEFF ∷ rest
piece_then (declaration d) rest = declaration_then d rest
piece_then (doctype d) rest = doctype_then d rest
piece_then (start_tag tag) rest = 60 ∷ tag_then tag (62 ∷ rest)
piece_then (empty_tag tag) rest = 60 ∷ tag_then tag (47 ∷ 62 ∷ rest)
piece_then (end_tag name space) rest = 60 ∷ 47 ∷ (name ++ (space ++ 62 ∷ rest))
piece_then (leaf l) rest = leaf_then l rest

-- the characters of the pieces in turn, and those behind them
abbrev pub pieces_then : List Piece → List ℕ → List ℕ
pieces_then [] rest = rest
pieces_then (p ∷ ps) rest = piece_then p (pieces_then ps rest)

-- At the beginning U+FEFF is the mark and no character of text; `>` does not follow `]]` in text (XML 1.0, 2.4).
abbrev pub may_follow : Place → Leaf → Bool
may_follow at_beginning (character c) = not (c == 0xFEFF)
may_follow behind_mark (character c) = true
may_follow (behind k) (character c) = not (c == 62 && k == 2)
may_follow place (reference r) = true
may_follow place (section text) = true
may_follow place (comment text) = true
may_follow place (instruction target text) = true

-- the piece is one that XML allows at this place
abbrev pub IsPiece : Place → Piece → Type 0
IsPiece place mark = place ≡ at_beginning
IsPiece place (declaration d) = (is_early place ≡ true) × IsDeclaration d
IsPiece place (doctype d) = IsDoctype d
IsPiece place (start_tag tag) = IsTag tag
IsPiece place (empty_tag tag) = IsTag tag
IsPiece place (end_tag name space) = (is_name name ≡ true) × (list_all is_blank space ≡ true)
IsPiece place (leaf l) = (may_follow place l ≡ true) × IsLeaf l

-- the place behind a leaf: a character `]` is one more of those that are the last, up to two; behind any other leaf there are none
abbrev pub behind_leaf : Place → Leaf → Place
behind_leaf place (character c) = behind (if c == 93 then min 2 (suc (brackets place)) else 0)
behind_leaf place (reference r) = behind 0
behind_leaf place (section text) = behind 0
behind_leaf place (comment text) = behind 0
behind_leaf place (instruction target text) = behind 0

-- the place behind the piece
abbrev pub after : Place → Piece → Place
after place mark = behind_mark
after place (declaration d) = behind 0
after place (doctype d) = behind 0
after place (start_tag tag) = behind 0
after place (empty_tag tag) = behind 0
after place (end_tag name space) = behind 0
after place (leaf l) = behind_leaf place l

-- the place behind all of the pieces, where the first of them stands at this place
abbrev pub after_all : Place → List Piece → Place
after_all place [] = place
after_all place (p ∷ ps) = after_all (after place p) ps

-- each piece is one that XML allows behind those before it
abbrev pub ArePieces : Place → List Piece → Type 0
ArePieces place [] = Unit {0}
ArePieces place (p ∷ ps) = IsPiece place p × ArePieces (after place p) ps
