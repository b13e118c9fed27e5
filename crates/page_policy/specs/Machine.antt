-- How a pattern file is read: its parts are cut off from the left, and put together from the right. No public clause cites this.
use Rattle.std.specs.Prelude.{◌≡◌, ◌==◌, if◌then◌else◌, ℕ, Bool, List, [], ◌∷◌, Option, Some, None}
use Rattle.page_policy.specs.Patterns.{Pattern, byte_of, void, seq, alt, any, some, maybe}
use Rattle.page_policy.specs.Grammar.{Byte}
use Rattle.page_policy.specs.declared.part.Repeat.{Repeat}
use Rattle.page_policy.specs.declared.part.Repeat.TheVariants.{Once, Any, AtLeastOnce, AtMostOnce}

-- a part: a byte, or a bracket that closes, with how often it stands; a bracket that opens; `|`
pub data PlainPart : Type 0 where
  byte : Bool → List (ℕ × ℕ) → Repeat → PlainPart
  opened : PlainPart
  closed : Repeat → PlainPart
  barred : PlainPart

-- how often, by the byte that comes next, and what stands behind it
abbrev pub repeat_at : List ℕ → Repeat × List ℕ
repeat_at [] = (Once, [])
repeat_at (b ∷ rest) =
    if b == 42 then (Any, rest) else if b == 43 then (AtLeastOnce, rest) else if b == 63 then (AtMostOnce, rest) else (Once, b ∷ rest)

-- the part stands at the head of the bytes u, and w behind it
pub data PartAt : PlainPart → List ℕ → List ℕ → Type 0 where
  is_byte : {out : Bool} {rs : List (ℕ × ℕ)} {r : Repeat} {u v w : List ℕ} → Byte out rs u v → repeat_at v ≡ (r, w) → PartAt (byte out rs r) u w
  opens : {w : List ℕ} → PartAt opened (40 ∷ w) w
  closes : {r : Repeat} {u w : List ℕ} → repeat_at u ≡ (r, w) → PartAt (closed r) (41 ∷ u) w
  bars : {w : List ℕ} → PartAt barred (124 ∷ w) w

-- the bytes are cut into these parts
pub data Cut : List PlainPart → List ℕ → Type 0 where
  all : Cut [] []
  further : {x : PlainPart} {xs : List PlainPart} {u v : List ℕ} → PartAt x u v → Cut xs v → Cut (x ∷ xs) u

-- so often
abbrev pub repeated : Repeat → Pattern → Pattern
repeated Once p = p
repeated Any p = any p
repeated AtLeastOnce p = some p
repeated AtMostOnce p = maybe p

-- a row before the alternatives behind it
abbrev pub joined : Pattern → Option Pattern → Pattern
joined row None = row
joined row (Some others) = alt row others

-- what stands behind a bracket that is not open yet: the row there, the alternatives behind it, and how often the bracket stands
abbrev pub Outer : Type 0
Outer = Pattern × Option Pattern × Repeat

-- What is read of the end of a file: nothing that could be, or the row that begins here, the alternatives behind it, and of each bracket
-- that is not open yet the same behind it, with how often it stands.
pub data State : Type 0 where
  wrong : State
  at : Pattern → Option Pattern → List Outer → State

-- one part more, before what is read
abbrev pub put : PlainPart → State → State
put x wrong = wrong
put (byte out rs r) (at row others outer) = at (seq (repeated r (byte_of out rs)) row) others outer
put barred (at row others outer) = at void (Some (joined row others)) outer
put (closed r) (at row others outer) = at void None ((row, others, r) ∷ outer)
put opened (at row others []) = wrong
put opened (at row others (o ∷ outer)) = at (seq (repeated o.2 (joined row others)) o.0) o.1 outer

-- what is read of these parts
abbrev pub state_of : List PlainPart → State
state_of [] = at void None []
state_of (x ∷ xs) = put x (state_of xs)
