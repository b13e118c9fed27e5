-- The state behind a text: none exactly where no piece can come of the rest, else that of the open piece.
use Rattle.std.proofs.Common.{◌≡◌, ℕ, List, [], ◌∷◌, ◌++◌, Some, None, refl, sym, ◌∙◌, ap}
use Rattle.piece_steps.specs.Languages.{Language, AllLawful, behind_all, spelled_then, NoPiece, CanGoOn}
use Rattle.piece_steps.specs.Readers.{Reader, Outcome, whole, failed, stuck, ends, state_after}
use Rattle.piece_steps.specs.Reads.{Reads}
use Rattle.piece_steps.proofs.Outcomes.{state_by, state_of_ends, fails_on, goes_on}

-- over pieces and a rest it is the state behind the rest
pub state_behind : {P Q T S : Type 0} (l : Language P Q T) (r : Reader P T S) → Reads l r → (ps : List Q) (place : P) (rest : List ℕ) → AllLawful l place ps
    → state_after r (Some (r.first place)) (spelled_then l ps rest) ≡ state_after r (Some (r.first (behind_all l place ps))) rest
state_behind l r f [] place rest h = refl
state_behind l r f (p ∷ ps) place rest h =
    state_of_ends r (l.spell p ++ spelled_then l ps rest) (r.first place)
    ∙ ap (state_by r) (f.complete place p (spelled_then l ps rest) h.0)
    ∙ state_behind l r f ps (l.after place p) rest h.1

-- of what failed, no piece can come
pub not_failed : {P Q T S : Type 0} (l : Language P Q T) (r : Reader P T S) → Reads l r → (place : P) (text : List ℕ) → CanGoOn l place text → ends r (r.first place) text ≡ failed → ⊥
not_failed {P} {Q} {T} {S} l r f place text (more, p, rest, h, e) q =
    let on : ends r (r.first place) (text ++ more) ≡ failed = fails_on r text (r.first place) more q in
    let whole_is = f.complete place p rest h in
    let z : whole (l.after place p) (l.tokens p) rest ≡ failed = sym whole_is ∙ ap (ends r (r.first place)) e ∙ on in
    cc

-- from each state that is reached some symbols lead to the end of a piece
abbrev pub AllCanEnd : {P T S : Type 0} → Reader P T S → Type 0
AllCanEnd {P} {T} {S} r = (place : P) (text : List ℕ) (g : S) → ends r (r.first place) text ≡ stuck g → (more : List ℕ) × (behind : P) × (tokens : List T) × (ends r g more ≡ whole behind tokens [])

-- then the state of a rest that no piece begins tells whether a piece can come of it
pub live : {P Q T S : Type 0} (l : Language P Q T) (r : Reader P T S) → Reads l r → AllCanEnd r → (place : P) (text : List ℕ) (g : S) → ends r (r.first place) text ≡ stuck g → CanGoOn l place text
live l r f can place text g e =
    let c = can place text g e in
    let b = f.sound place c.1 c.2 (text ++ c.0) [] (goes_on r text (r.first place) g c.0 e ∙ c.3) in
    (c.0, b.piece, [], b.lawful, b.spelled)

pub none_where_dead : {P Q T S : Type 0} (l : Language P Q T) (r : Reader P T S) → Reads l r → AllCanEnd r → (place : P) (text : List ℕ) → NoPiece l place text → (CanGoOn l place text → ⊥) → state_after r (Some (r.first place)) text ≡ None
none_where_dead {P} {Q} {T} {S} l r f can place text none dead = state_of_ends r text (r.first place) ∙ at (ends r (r.first place) text) refl
  where
    at : (o : Outcome P T S) → ends r (r.first place) text ≡ o → state_by r o ≡ None
    at (whole behind tokens rest) e = let b = f.sound place behind tokens text rest e in absurd (none b.piece rest b.lawful b.spelled)
    at failed e = refl
    at (stuck g) e = absurd (dead (live l r f can place text g e))

pub dead_where_none : {P Q T S : Type 0} (l : Language P Q T) (r : Reader P T S) → Reads l r → (place : P) (text : List ℕ) → NoPiece l place text → state_after r (Some (r.first place)) text ≡ None → CanGoOn l place text → ⊥
dead_where_none {P} {Q} {T} {S} l r f place text none e on = at (ends r (r.first place) text) refl (sym (state_of_ends r text (r.first place)) ∙ e)
  where
    at : (o : Outcome P T S) → ends r (r.first place) text ≡ o → state_by r o ≡ None → ⊥
    at (whole behind tokens rest) q i = let b = f.sound place behind tokens text rest q in none b.piece rest b.lawful b.spelled
    at failed q i = not_failed l r f place text on q
    at (stuck g) q i = cc
