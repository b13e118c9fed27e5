-- What is owed for the forms of pieces, so that a reader reads the pieces of a language.
use Rattle.std.specs.Prelude.{◌≡◌, ℕ, true, false, List, ◌++◌}
use Rattle.piece_steps.specs.Languages.{Language}
use Rattle.piece_steps.specs.Readers.{go, Reader, whole, ends}

-- the text is a lawful piece and then these, and the piece has this place behind it and these tokens
pub record Begins {P Q T : Type 0} (l : Language P Q T) (place : P) (text : List ℕ) (behind : P) (tokens : List T) (rest : List ℕ) :
    Type 0 where
  pub piece : Q
  pub lawful : l.Lawful place piece
  pub spelled : l.spell piece ++ rest ≡ text
  pub leads : l.after place piece ≡ behind
  pub gives : l.tokens piece ≡ tokens

-- the reader reads the pieces of the language and nothing else
pub record Reads {P Q T S : Type 0} (l : Language P Q T) (r : Reader P T S) : Type 0 where
  -- nothing is open where a piece begins, and something behind its first symbol
  pub closed : (place : P) → r.is_open (r.first place) ≡ false
  pub opens : (s g : S) (b : ℕ) → r.step s b ≡ go g → r.is_open g ≡ true
  -- each lawful piece is read to its end, whatever stands behind it
  pub complete : (place : P) (p : Q) (rest : List ℕ) → l.Lawful place p
      → ends r (r.first place) (l.spell p ++ rest) ≡ whole (l.after place p) (l.tokens p) rest
  -- what is read to an end is a lawful piece
  pub sound : (place behind : P) (tokens : List T) (text rest : List ℕ) → ends r (r.first place) text ≡ whole behind tokens rest
      → Begins l place text behind tokens rest
