-- A valid page goes on piece by piece.
use Rattle.std.proofs.Common.{◌≡◌, ℕ, Bool, true, false, List, [], ◌∷◌, ◌++◌, Option, Some, None, refl, sym, ◌∙◌, ap, subst, length, arith, ◌<◌, length-append}
use Rattle.text_base.specs.declared.page_token.PageToken.{PageToken}
use Rattle.dtd_model.specs.Table.{Table}
use Rattle.content_automata.specs.Decides.{Decides}
use Rattle.content_automata.specs.Tables as automata
use Rattle.page_model.specs.Laws.{GoodPieces}
use Rattle.page_model.proofs.Appended.{piece_more}
use Rattle.page_model.proofs.Once.{some_character}
use Rattle.page_model.proofs.Whole.{valid_good, good_valid}
use Rattle.page_model.specs.Nodes.{pieces_of}
use Rattle.page_model.specs.Valid.{Valid}
use Rattle.std.specs.Str.{IsUtf8, encode_utf8_all}
use Rattle.page_validator.proofs.Scalars.{pieces_utf8}
use Rattle.page_validator.specs.Machine.{State, step, and_on, accepts, start, is_done}
use Rattle.page_validator.proofs.Accepting.{accepting}
use Rattle.page_validator.proofs.Rooted.{whole}
use Rattle.page_model.specs.PageTokens.{AreLawful, piece_tokens, tokens_then}
use Rattle.page_model.specs.Pieces.{Piece, piece_then, pieces_then, after}
use Rattle.page_model.specs.Places.{Place, at_beginning}
use Rattle.page_model.specs.Attributes.{is_allowed}
use Rattle.page_model.specs.Cutting.{cut_at, kept, is_fit}
use Rattle.page_model.specs.Reading.{piece_at}
use Rattle.page_model.specs.Right.{is_right}
use Rattle.std.proofs.lemmas.Bool.{and_left, and_right, and_from, eqb-true}
use Rattle.std.specs.Prelude.{nat_eq}
use Rattle.page_validator.specs.Views.{Goes}
use Rattle.page_rules.specs.declared.piece_tokens.Taken.{Taken}
use Rattle.page_rules.specs.Takes.{Takes, taken_tokens}
use Rattle.page_model.specs.Scan.{then_some}
use Rattle.page_model.proofs.CutLemmas.{cut_is, cut_read}
use Rattle.page_validator.specs.Walks.{moved, Ahead, Reads, Follows, IsStuck, no_piece, no_move}

-- the tokens of a piece, and then those behind it
accepts_moved : (d : Table) (t : automata.Table) (state : State) (ts us : List PageToken) → accepts d t state (ts ++ us) ≡ and_on (moved d t state ts) (λ next. accepts d t next us)
accepts_moved d t state [] us = refl
accepts_moved d t state (tok ∷ ts) us = at (step d t state tok) (λ s. accepts_moved d t s ts us)
  where
    at : (o : Option State) → ((s : State) → accepts d t s (ts ++ us) ≡ and_on (moved d t s ts) (λ next. accepts d t next us)) → and_on o (λ next. accepts d t next (ts ++ us)) ≡ and_on (then_some o (λ next. moved d t next ts)) (λ next. accepts d t next us)
    at None ih = refl
    at (Some s) ih = ih s

pub on : (d : Table) (t : automata.Table) (place next : Place) (state new : State) (cs rest : List ℕ) → Follows d t place state cs new next rest → Ahead d t next new rest → Ahead d t place state cs
on d t place next state new cs rest f a =
    let c = cut_is d place cs (f.piece, rest) f.cut in (
      f.piece ∷ a.0,
      (c.lawful, subst (λ (p : Place). AreLawful d p a.0) f.place_is a.1),
      ap (piece_then f.piece) a.2 ∙ c.is,
      accepts_moved d t state (piece_tokens d f.piece) (tokens_then d a.0 []) ∙ ap (λ (o : Option State). and_on o (λ s. accepts d t s (tokens_then d a.0 []))) f.moves ∙ a.3,
    )

-- the first piece of what goes on is the one that stands there
pub record Begins (d : Table) (t : automata.Table) (place : Place) (state : State) (cs : List ℕ) : Type 0 where
  pub piece : Piece
  pub rest : List ℕ
  pub cut : Reads d place cs piece rest
  pub pieces : List Piece
  pub lawful : AreLawful d (after place piece) pieces
  pub spelled : pieces_then pieces [] ≡ rest
  pub goes : and_on (moved d t state (piece_tokens d piece)) (λ s. accepts d t s (tokens_then d pieces [])) ≡ true

begins : (d : Table) (t : automata.Table) (place : Place) (state : State) (cs : List ℕ) → (cs ≡ [] → ⊥) → Ahead d t place state cs → Begins d t place state cs
begins d t place state cs some a = at a.0 a.1 a.2 a.3
  where
    at : (ps : List Piece) → AreLawful d place ps → pieces_then ps [] ≡ cs → accepts d t state (tokens_then d ps []) ≡ true → Begins d t place state cs
    at [] l e g = absurd (some (sym e))
    at (p ∷ ps) l e g = record {
      piece = p;
      rest = pieces_then ps [];
      cut = ap (cut_at d place) (sym e) ∙ cut_read d place p (pieces_then ps []) l.0;
      pieces = ps;
      lawful = l.1;
      spelled = refl;
      goes = sym (accepts_moved d t state (piece_tokens d p) (tokens_then d ps [])) ∙ g;
    }

same_read : (a b : Piece × List ℕ) → Some a ≡ Some b → a ≡ b
same_read a b e = cc

pub stuck : (d : Table) (t : automata.Table) (place : Place) (state : State) (cs : List ℕ) → (cs ≡ [] → ⊥) → IsStuck d t place state cs → Ahead d t place state cs → ⊥
stuck d t place state cs some (no_piece none) a =
    let b = begins d t place state cs some a in
    let z : Piece × List ℕ = (b.piece, b.rest) in
    let e : None ≡ Some z = sym none ∙ b.cut in
    cc
stuck d t place state cs some (no_move piece rest cut none) a =
    let b = begins d t place state cs some a in
    let s = same_read (piece, rest) (b.piece, b.rest) (sym cut ∙ b.cut) in
    let p : piece ≡ b.piece = ap (λ (z : Piece × List ℕ). z.0) s in
    let g : false ≡ true = sym (ap (λ (o : Option State). and_on o (λ s. accepts d t s (tokens_then d b.pieces []))) (ap (λ (q : Piece). moved d t state (piece_tokens d q)) (sym p) ∙ none)) ∙ b.goes in
    cc

pub back : (d : Table) (t : automata.Table) (place next : Place) (state new : State) (cs rest : List ℕ) → (cs ≡ [] → ⊥) → Follows d t place state cs new next rest → Ahead d t place state cs → Ahead d t next new rest
back d t place next state new cs rest some f a =
    let b = begins d t place state cs some a in
    let s = same_read (f.piece, rest) (b.piece, b.rest) (sym f.cut ∙ b.cut) in
    let p : f.piece ≡ b.piece = ap (λ (z : Piece × List ℕ). z.0) s in
    let r : rest ≡ b.rest = ap (λ (z : Piece × List ℕ). z.1) s in
    let m : moved d t state (piece_tokens d b.piece) ≡ Some new = ap (λ (q : Piece). moved d t state (piece_tokens d q)) (sym p) ∙ f.moves in (
      b.pieces,
      subst (λ (q : Place). AreLawful d q b.pieces) (ap (after place) (sym p) ∙ sym f.place_is) b.lawful,
      b.spelled ∙ sym r,
      sym (ap (λ (o : Option State). and_on o (λ s. accepts d t s (tokens_then d b.pieces []))) m) ∙ b.goes,
    )

-- at the end
pub ended : (d : Table) (t : automata.Table) (place : Place) (state : State) → is_done state.0 state.1 ≡ true → Ahead d t place state []
ended d t place state h = ([], tt, refl, h)

pub not_ended : (d : Table) (t : automata.Table) (place : Place) (state : State) → is_done state.0 state.1 ≡ false → Ahead d t place state [] → ⊥
not_ended d t place state h a = at a.0 a.1 a.2 a.3
  where
    at : (ps : List Piece) → AreLawful d place ps → pieces_then ps [] ≡ [] → accepts d t state (tokens_then d ps []) ≡ true → ⊥
    at [] l e g = let f : false ≡ true = sym h ∙ g in cc
    at (p ∷ ps) l e g = some_character place p (pieces_then ps []) l.0.is e

pub good_ahead : (d : Table) (t : automata.Table) → Decides d t → (cs : List ℕ) → GoodPieces d cs → Ahead d t at_beginning start cs
good_ahead d t decides cs g = (g.pieces, g.lawful, g.spelled, accepting d t decides (tokens_then d g.pieces []) g.tree)

pub ahead_good : (d : Table) (t : automata.Table) → Decides d t → (cs : List ℕ) → Ahead d t at_beginning start cs → GoodPieces d cs
ahead_good d t decides cs a = record { pieces = a.0; lawful = a.1; spelled = a.2; tree = whole d t decides (tokens_then d a.0 []) a.3 }

-- what stands behind a piece is shorter
pub shorter : (d : Table) (place : Place) (cs : List ℕ) (p : Piece) (rest : List ℕ) → Reads d place cs p rest → length rest < length cs
shorter d place cs p rest e =
    let c = cut_is d place cs (p, rest) e in
    at (piece_then p []) refl (sym c.is ∙ piece_more p rest) (λ h. some_character place p [] c.lawful.is h)
  where
    at : (xs : List ℕ) → piece_then p [] ≡ xs → cs ≡ piece_then p [] ++ rest → (piece_then p [] ≡ [] → ⊥) → length rest < length cs
    at [] h f some = absurd (some h)
    at (x ∷ xs) h f some =
        let l : length cs ≡ length ((x ∷ xs) ++ rest) = ap length (f ∙ ap (λ (w : List ℕ). w ++ rest) h) in
        let m = length-append (x ∷ xs) rest in
        omega arith

-- How a piece is cut, from what was read and tested.

pub not_read : (d : Table) (place : Place) (cs : List ℕ) → piece_at place cs ≡ None → cut_at d place cs ≡ None
unfolding cut_at
not_read d place cs e = ap (λ o. then_some o (λ found. kept (is_fit d place found.0) found)) e

kept_by : (d : Table) (place : Place) (cs : List ℕ) (z : Piece × List ℕ) (b : Bool) → piece_at place cs ≡ Some z → is_fit d place z.0 ≡ b → cut_at d place cs ≡ kept b z
unfolding cut_at
kept_by d place cs z b e f = ap (λ o. then_some o (λ found. kept (is_fit d place found.0) found)) e ∙ ap (λ (x : Bool). kept x z) f

pub not_right : (d : Table) (place : Place) (cs : List ℕ) (z : Piece × List ℕ) → piece_at place cs ≡ Some z → is_right place z.0 ≡ false → cut_at d place cs ≡ None
not_right d place cs z e h = kept_by d place cs z false e (and_left (is_right place z.0) (is_allowed d z.0) h)

pub not_allowed : (d : Table) (place : Place) (cs : List ℕ) (z : Piece × List ℕ) → piece_at place cs ≡ Some z → is_allowed d z.0 ≡ false → cut_at d place cs ≡ None
not_allowed d place cs z e h = kept_by d place cs z false e (and_right (is_right place z.0) (is_allowed d z.0) h)

pub is_cut : (d : Table) (place : Place) (cs : List ℕ) (z : Piece × List ℕ) → piece_at place cs ≡ Some z → is_right place z.0 ≡ true → is_allowed d z.0 ≡ true → cut_at d place cs ≡ Some z
is_cut d place cs z e h g = kept_by d place cs z true e (and_from (is_right place z.0) (is_allowed d z.0) h g)

pub stuck_by : (d : Table) (t : automata.Table) (place : Place) (state : State) (cs : List ℕ) → cut_at d place cs ≡ None → IsStuck d t place state cs
stuck_by d t place state cs h = no_piece h

pub goes_on : (o : Option State) (new : State) (b : Bool) → Goes o new b → b ≡ true → o ≡ Some new
goes_on o new true g e = g
goes_on o new false g e = cc

pub goes_not : (o : Option State) (new : State) (b : Bool) → Goes o new b → b ≡ false → o ≡ None
goes_not o new true g e = cc
goes_not o new false g e = g

pub follows_from : (d : Table) (t : automata.Table) (place next : Place) (state new : State) (cs : List ℕ) (z : Piece × List ℕ) (taken : Taken) (b : Bool) → piece_at place cs ≡ Some z → is_right place z.0 ≡ true → Takes d z.0 (Some taken)
    → Goes (moved d t state (taken_tokens taken)) new b → b ≡ true → next ≡ after place z.0 → Follows d t place state cs new next z.1
follows_from d t place next state new cs z taken b e right takes goes holds is = record {
  piece = z.0;
  cut = is_cut d place cs z e right takes.0;
  place_is = is;
  moves = ap (moved d t state) (sym takes.1) ∙ goes_on (moved d t state (taken_tokens taken)) new b goes holds;
}

pub stuck_from : (d : Table) (t : automata.Table) (place : Place) (state new : State) (cs : List ℕ) (z : Piece × List ℕ) (taken : Taken) (b : Bool) → piece_at place cs ≡ Some z → is_right place z.0 ≡ true → Takes d z.0 (Some taken)
    → Goes (moved d t state (taken_tokens taken)) new b → b ≡ false → IsStuck d t place state cs
stuck_from d t place state new cs z taken b e right takes goes fails =
    no_move z.0 z.1 (is_cut d place cs z e right takes.0) (ap (moved d t state) (sym takes.1) ∙ goes_not (moved d t state (taken_tokens taken)) new b goes fails)

pub nonempty : (xs : List ℕ) (b : Bool) → b ≡ nat_eq (length xs) 0 → b ≡ false → xs ≡ [] → ⊥
nonempty xs b e f h = let g : true ≡ false = sym (ap (λ (ys : List ℕ). nat_eq (length ys) 0) h) ∙ sym e ∙ f in cc

pub empty_is : (xs : List ℕ) (b : Bool) → b ≡ nat_eq (length xs) 0 → b ≡ true → xs ≡ []
empty_is [] b e f = refl
empty_is (x ∷ xs) b e f = let g : length (x ∷ xs) ≡ 0 = eqb-true (length (x ∷ xs)) 0 (sym e ∙ f) in absurd (omega arith)

-- A page is valid exactly where its characters are good pieces, and it has none where it is not UTF-8.

pub valid_if : (d : Table) (cs bytes : List ℕ) → encode_utf8_all cs ≡ bytes → GoodPieces d cs → Valid d bytes
valid_if d cs bytes e g = subst (Valid d) e (good_valid d cs g)

pub not_valid : (d : Table) (cs bytes : List ℕ) → encode_utf8_all cs ≡ bytes → (GoodPieces d cs → ⊥) → Valid d bytes → ⊥
not_valid d cs bytes e n v = n (valid_good d cs (subst (Valid d) (sym e) v))

pub not_utf8 : (d : Table) (bytes : List ℕ) → (IsUtf8 bytes → ⊥) → Valid d bytes → ⊥
not_utf8 d bytes n v = n (subst IsUtf8 v.spells.spelled (pieces_utf8 at_beginning (pieces_of v.page) v.spells.pieces))
