-- What a reader does inside one kind of open piece: a small machine that goes on, leaves, or stops.
use Rattle.std.specs.Prelude.{◌≡◌, ℕ, Bool, false, if◌then◌else◌, List, [], ◌∷◌, Option, Some, None, nat_eq}
use Rattle.piece_steps.specs.Readers.{Move, go, fail, Reader}

-- what one symbol does to the small machine: on to a state, out of it, or nothing that it allows
pub data Turn (B : Type 0) : Type 0 where
  on : B → Turn B
  out : Turn B
  stop : Turn B

-- what is left where the machine leaves, by its turn: from the next state on, or these symbols
abbrev pub turned : {B : Type 0} → Turn B → (B → Option (List ℕ)) → List ℕ → Option (List ℕ)
turned (on g) more left = more g
turned out more left = Some left
turned stop more left = None

-- what is left where the machine leaves
abbrev pub past : {B : Type 0} → (B → ℕ → Turn B) → B → List ℕ → Option (List ℕ)
past turn b [] = None
past turn b (c ∷ cs) = turned (turn b c) (λ g. past turn g cs) cs

-- the move of the reader
abbrev pub inside : {P T S B : Type 0} → (B → S) → Move P T S → Turn B → Move P T S
inside wrap exit (on g) = go (wrap g)
inside wrap exit out = exit
inside wrap exit stop = fail

-- in these states the reader does what the machine does, and makes this move where it leaves
abbrev pub IsInside : {P T S B : Type 0} → Reader P T S → (B → S) → (B → ℕ → Turn B) → Move P T S → Type 0
IsInside {B = B} r wrap turn exit = (b : B) (c : ℕ) → r.step (wrap b) c ≡ inside wrap exit (turn b c)

-- A text up to a closing symbol: each symbol before it is a step, and the last state is a good one.

-- what is asked of the state, if there is one
abbrev pub accepted : {B : Type 0} → Option B → (B → Bool) → Bool
accepted None more = false
accepted (Some g) more = more g

-- whether the steps over all symbols lead from the state to a good one
abbrev pub accepts : {B : Type 0} → (B → ℕ → Option B) → (B → Bool) → B → List ℕ → Bool
accepts step good b [] = good b
accepts step good b (c ∷ cs) = accepted (step b c) (λ g. accepts step good g cs)

-- on to the state of a step, or stop where there is none
abbrev pub stepped : {B : Type 0} → Option B → Turn B
stepped None = stop
stepped (Some g) = on g

-- the machine of such a text: out by the closing symbol in a good state, and else a step
abbrev pub closing : {B : Type 0} → (B → ℕ → Option B) → (B → Bool) → ℕ → B → ℕ → Turn B
closing step good closer b c = if nat_eq c closer then (if good b then out else stop) else stepped (step b c)
