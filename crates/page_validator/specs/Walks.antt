-- What the private functions promise of the pass over a page. Nobody has to believe it: the contract of `check_page`
-- does not speak of it.
use Rattle.std.specs.Prelude.{◌≡◌, ℕ, true, List, [], ◌∷◌, Option, Some, None}
use Rattle.std.specs.Borrow.{Bor}
use Rattle.std.specs.Str.{IsUtf8, encode_utf8_all}
use Rattle.std.specs.declared.alloc.Global.{Global}
use Rattle.std.specs.declared.vec.Vec.{Vec}
use Rattle.text_base.specs.declared.page_token.PageToken.{PageToken}
use Rattle.dtd_model.specs.Table.{Table}
use Rattle.content_automata.specs.Tables as automata
use Rattle.page_rules.specs.Views.{place_of}
use Rattle.page_rules.specs.declared.parts.Place.{Place}
use Rattle.page_model.specs.Laws.{GoodPieces}
use Rattle.page_validator.specs.Machine.{State, step, accepts}
use Rattle.page_model.specs.PageTokens.{AreLawful, piece_tokens, tokens_then}
use Rattle.page_model.specs.Pieces.{Piece, pieces_then, after}
use Rattle.page_model.specs.Places as places
use Rattle.page_model.specs.Cutting.{cut_at}
use Rattle.page_model.specs.Scan.{then_some}

-- the characters of the bytes; none where they are not UTF-8
abbrev pub IsDecoded : List ℕ → Option (Vec ℕ Global) → Type 0
IsDecoded page None = IsUtf8 page → ⊥
IsDecoded page (Some cs) = encode_utf8_all cs.items ≡ page

-- the state behind tokens in turn
abbrev pub moved : Table → automata.Table → State → List PageToken → Option State
moved d t state [] = Some state
moved d t state (tok ∷ toks) = then_some (step d t state tok) (λ next. moved d t next toks)

-- a valid page goes on so
abbrev pub Ahead : Table → automata.Table → places.Place → State → List ℕ → Type 0
Ahead d t place state cs = (ps : List Piece) × AreLawful d place ps × (pieces_then ps [] ≡ cs)
    × (accepts d t state (tokens_then d ps []) ≡ true)

-- the piece stands at the head, before the rest
abbrev pub Reads : Table → places.Place → List ℕ → Piece → List ℕ → Type 0
Reads d place cs piece rest = let z : Piece × List ℕ = (piece, rest) in cut_at d place cs ≡ Some z

-- a lawful piece, and the state behind its tokens
pub record Follows (d : Table) (t : automata.Table) (place : places.Place) (state : State) (cs : List ℕ) (new : State) (next : places.Place)
    (rest : List ℕ) : Type 0 where
  pub piece : Piece
  pub cut : Reads d place cs piece rest
  pub place_is : next ≡ after place piece
  pub moves : moved d t state (piece_tokens d piece) ≡ Some new

-- no lawful piece, or one whose tokens may not stand there
pub data IsStuck (d : Table) (t : automata.Table) (place : places.Place) (state : State) (cs : List ℕ) : Type 0 where
  no_piece : cut_at d place cs ≡ None → IsStuck d t place state cs
  no_move : (piece : Piece) (rest : List ℕ) → Reads d place cs piece rest → moved d t state (piece_tokens d piece) ≡ None
      → IsStuck d t place state cs

-- a step of the pass: none exactly where it is stuck
abbrev pub IsNext : Table → automata.Table → places.Place → State → List ℕ → State → Option (Place × Bor (List ℕ)) → Type 0
IsNext d t place state cs new None = IsStuck d t place state cs
IsNext d t place state cs new (Some z) = Follows d t place state cs new (place_of z.0) z.1.now

-- none where the characters are a valid page
abbrev pub IsWalk : Table → List ℕ → Option ℕ → Type 0
IsWalk d cs None = GoodPieces d cs
IsWalk d cs (Some left) = GoodPieces d cs → ⊥
