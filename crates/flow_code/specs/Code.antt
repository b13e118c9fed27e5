-- Pieces of code: points whose numbers, and the numbers of whose slots, are known once it is known where they begin. A point goes on to
-- the one behind it where nothing else is said.
use Rattle.std.specs.Prelude.{ℕ, ◌+◌, List, [], ◌∷◌, ◌++◌}
use Rattle.flow_code.specs.Points.{PlainSource, PlainPoint, set_point}

-- code that leaves something in its slots: how many points and how many slots are its own, its points from the number of its first point
-- and of its first slot, and what it leaves, as the slot of a value
pub record Code (A : Type 0) : Type 0 where
  pub size : ℕ
  pub slots : ℕ
  pub points : ℕ → ℕ → List PlainPoint
  pub gives : ℕ → A

-- nothing to do for it
abbrev pub known : {A : Type 0} → A → Code A
known x = record { size = 0; slots = 0; points = λ p t. []; gives = λ t. x }

-- no code, for which no slot stands
abbrev pub no_code : Code ℕ
no_code = known 0

-- the same code, which leaves something made of it
abbrev pub left : {A B : Type 0} → Code A → (A → B) → Code B
left a f = record { size = a.size; slots = a.slots; points = a.points; gives = λ t. f (a.gives t) }

-- one behind the other
abbrev pub both : {A B C : Type 0} → Code A → Code B → (A → B → C) → Code C
both a b join = record {
  size = a.size + b.size;
  slots = a.slots + b.slots;
  points = λ p t. a.points p t ++ b.points (p + a.size) (t + a.slots);
  gives = λ t. join (a.gives t) (b.gives (t + a.slots));
}

-- a fresh slot set to what is computed of it
abbrev pub computed : {A : Type 0} → Code A → (A → PlainSource) → Code ℕ
computed a source = record {
  size = a.size + 1;
  slots = a.slots + 1;
  points = λ p t. a.points p t ++ set_point (t + a.slots) (source (a.gives t)) (p + a.size + 1) ∷ [];
  gives = λ t. t + a.slots;
}

-- the same, which leaves something made of what was left before and of the fresh slot
abbrev pub computed_with : {A B : Type 0} → Code A → (A → PlainSource) → (A → ℕ → B) → Code B
computed_with a source join = record {
  size = a.size + 1;
  slots = a.slots + 1;
  points = λ p t. a.points p t ++ set_point (t + a.slots) (source (a.gives t)) (p + a.size + 1) ∷ [];
  gives = λ t. join (a.gives t) (t + a.slots);
}

-- a fresh slot set to a source that needs nothing before it
abbrev pub from_source : PlainSource → Code ℕ
from_source source = computed (known source) (λ s. s)

-- where `break` and `continue` lead
pub record Targets : Type 0 where
  pub stop : ℕ
  pub again : ℕ

-- code of statements, which leaves nothing
pub record Block : Type 0 where
  pub size : ℕ
  pub slots : ℕ
  pub points : Targets → ℕ → ℕ → List PlainPoint

-- no statement: no point and no slot
abbrev pub no_block : Block
no_block = record { size = 0; slots = 0; points = λ to p t. [] }

-- one block and then another, whose points and slots follow those of the first; `break` and `continue` lead alike in both
abbrev pub ◌before◌ : Block → Block → Block
a before b = record {
  size = a.size + b.size;
  slots = a.slots + b.slots;
  points = λ to p t. a.points to p t ++ b.points to (p + a.size) (t + a.slots);
}

infixr 6 ◌before◌
-- what the code leaves is not asked for
abbrev pub run_code : {A : Type 0} → Code A → Block
run_code a = record { size = a.size; slots = a.slots; points = λ to p t. a.points p t }

-- one more point, which may name what the code leaves, where `break` and `continue` lead, and its own number
abbrev pub ending : {A : Type 0} → Code A → (A → Targets → ℕ → PlainPoint) → Block
ending a point = record {
  size = a.size + 1;
  slots = a.slots;
  points = λ to p t. a.points p t ++ point (a.gives t) to (p + a.size) ∷ [];
}
