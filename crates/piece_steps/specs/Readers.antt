-- A reader of pieces that goes from symbol to symbol, and what it does over a whole text.
use Rattle.std.specs.Prelude.{ℕ, Bool, if◌then◌else◌, List, [], ◌∷◌, ◌++◌, Option, Some, None}

-- what one symbol does inside a piece
pub data Move (P T S : Type 0) : Type 0 where
  -- the piece goes on
  go : S → Move P T S
  -- the piece ends with the symbol; the place behind it, and its tokens
  done : P → List T → Move P T S
  -- no piece can come of it
  fail : Move P T S

-- a reader with states `S`
pub record Reader (P T S : Type 0) : Type 0 where
  -- where a piece begins
  pub first : P → S
  pub step : S → ℕ → Move P T S
  -- some of a piece is read
  pub is_open : S → Bool
  -- what is put out for a rest that no piece begins
  pub bad : T

-- One piece.

-- what comes of a text from some state on, as far as the first piece
pub data Outcome (P T S : Type 0) : Type 0 where
  -- a piece ended: the place behind it, its tokens, and what is left
  whole : P → List T → List ℕ → Outcome P T S
  failed : Outcome P T S
  -- the text ended in a piece, or before one
  stuck : S → Outcome P T S

-- the outcome by a move: what the text that is left leads to, or the end of the piece
abbrev pub next : {P T S : Type 0} → Move P T S → (S → Outcome P T S) → List ℕ → Outcome P T S
next (go s) more left = more s
next (done place tokens) more left = whole place tokens left
next fail more left = failed

-- from a state up to the end of the piece
abbrev pub ends : {P T S : Type 0} → Reader P T S → S → List ℕ → Outcome P T S
ends r s [] = stuck s
ends r s (b ∷ bs) = next (r.step s b) (λ g. ends r g bs) bs

-- A whole text. Where no piece can come of the rest any more there is no state.

-- the state behind a move: where a piece ends, that before the next one
abbrev pub to_state : {P T S : Type 0} → Reader P T S → Move P T S → Option S
to_state r (go s) = Some s
to_state r (done place tokens) = Some (r.first place)
to_state r fail = None

-- what a move puts out: the tokens of a piece that ends, or the token for a rest that no piece begins
abbrev pub put_out : {P T S : Type 0} → Reader P T S → Move P T S → List T
put_out r (go s) = []
put_out r (done place tokens) = tokens
put_out r fail = r.bad ∷ []

-- the state behind the text
abbrev pub state_after : {P T S : Type 0} → Reader P T S → Option S → List ℕ → Option S
state_after r None text = None
state_after r (Some s) [] = Some s
state_after r (Some s) (b ∷ bs) = state_after r (to_state r (r.step s b)) bs

-- what is put out where the text ends
abbrev pub last_tokens : {P T S : Type 0} → Reader P T S → S → List T
last_tokens r s = if r.is_open s then r.bad ∷ [] else []

-- all that is put out over the text
abbrev pub all_tokens : {P T S : Type 0} → Reader P T S → Option S → List ℕ → List T
all_tokens r None text = []
all_tokens r (Some s) [] = last_tokens r s
all_tokens r (Some s) (b ∷ bs) = put_out r (r.step s b) ++ all_tokens r (to_state r (r.step s b)) bs

-- A reader that fails sooner.

-- the move, where a state that it leads to passes, and else a failure
abbrev pub kept : {P T S : Type 0} → (S → Bool) → Move P T S → Move P T S
kept test (go s) = if test s then go s else fail
kept test (done place tokens) = done place tokens
kept test fail = fail

-- the reader, but that it fails at each state that does not pass
abbrev pub narrowed : {P T S : Type 0} → (S → Bool) → Reader P T S → Reader P T S
narrowed test r = record { first = r.first; step = λ s b. kept test (r.step s b); is_open = r.is_open; bad = r.bad }
