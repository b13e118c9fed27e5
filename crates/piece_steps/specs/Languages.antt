-- Pieces that a text is cut into, whatever they are: which is lawful at a place, how each is spelled, the place behind it, and
-- its tokens. A text is a list of symbols, bytes or characters.
use Rattle.std.specs.Prelude.{◌≡◌, ℕ, List, [], ◌∷◌, ◌++◌}

-- pieces `Q` at places `P` with tokens `T`
pub record Language (P Q T : Type 0) : Type 1 where
  pub Lawful : P → Q → Type 0
  pub spell : Q → List ℕ
  pub after : P → Q → P
  pub tokens : Q → List T

-- the pieces are lawful, each behind those before it
abbrev pub AllLawful : {P Q T : Type 0} → Language P Q T → P → List Q → Type 0
AllLawful l place [] = Unit {0}
AllLawful l place (p ∷ ps) = l.Lawful place p × AllLawful l (l.after place p) ps

-- the place behind the pieces
abbrev pub behind_all : {P Q T : Type 0} → Language P Q T → P → List Q → P
behind_all l place [] = place
behind_all l place (p ∷ ps) = behind_all l (l.after place p) ps

-- the symbols of the pieces, and those behind them
abbrev pub spelled_then : {P Q T : Type 0} → Language P Q T → List Q → List ℕ → List ℕ
spelled_then l [] rest = rest
spelled_then l (p ∷ ps) rest = l.spell p ++ spelled_then l ps rest

-- the tokens of the pieces, and those behind them
abbrev pub tokens_then : {P Q T : Type 0} → Language P Q T → List Q → List T → List T
tokens_then l [] behind = behind
tokens_then l (p ∷ ps) behind = l.tokens p ++ tokens_then l ps behind

-- no lawful piece begins the text
abbrev pub NoPiece : {P Q T : Type 0} → Language P Q T → P → List ℕ → Type 0
NoPiece {Q = Q} l place text = (p : Q) (rest : List ℕ) → l.Lawful place p → l.spell p ++ rest ≡ text → ⊥

-- with more symbols behind it, a lawful piece begins the text
abbrev pub CanGoOn : {P Q T : Type 0} → Language P Q T → P → List ℕ → Type 0
CanGoOn {Q = Q} l place text = (more : List ℕ) × (p : Q) × (rest : List ℕ) × l.Lawful place p × (l.spell p ++ rest ≡ text ++ more)

-- a rest gives one token, where it is no empty one
abbrev pub left_tokens : {T : Type 0} → T → List ℕ → List T
left_tokens bad [] = []
left_tokens bad (b ∷ bs) = bad ∷ []

-- the text is lawful pieces in turn and a rest that none begins, and has these tokens
pub record HasTokens {P Q T : Type 0} (l : Language P Q T) (bad : T) (place : P) (text : List ℕ) (tokens : List T) : Type 0 where
  pub pieces : List Q
  pub rest : List ℕ
  pub lawful : AllLawful l place pieces
  pub spelled : spelled_then l pieces rest ≡ text
  pub none : NoPiece l (behind_all l place pieces) rest
  pub are : tokens_then l pieces (left_tokens bad rest) ≡ tokens
