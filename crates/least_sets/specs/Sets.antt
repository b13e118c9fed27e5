-- The least sets of texts, and of bytes, that meet a table.
use Rattle.std.specs.Prelude.{ℕ, List, ◌++◌, Contains}
use Rattle.op_system.specs.declared.op.Op.{Op}
use Rattle.op_system.specs.declared.op.Op.TheVariants.{Any}
use Rattle.least_sets.specs.Forms.{Form, text_form, same_form, join_form, before_form, request_form, integer_form, apply_form, yes_form, where_form, names}
use Rattle.least_sets.specs.Bytes.{Adds, Turns}
use Rattle.least_sets.specs.Integers.{IsInteger}

-- a set that says yes or no says yes
pub data Says {N : Type 0} (R : N → Form N → Type 0) : N → Type 0 where
  -- the table says so
  yes : (a : N) → R a yes_form → Says R a
  -- the set is the same as one that says yes
  same : (a c : N) → R a (same_form c) → Says R c → Says R a

-- a set depends on the sets that its forms name, on those that these name, and so on
pub data DependsOn {N : Type 0} (R : N → Form N → Type 0) : N → N → Type 0 where
  -- each set depends on itself
  itself : (a : N) → DependsOn R a a
  -- one of its forms names a set that depends on it
  over : (a b c : N) (f : Form N) → R a f → Contains (names f) b → DependsOn R b c → DependsOn R a c

-- an operation that makes a set is in a cycle where its operand depends on that set; `Any` is taken so always
pub data IsCircular {N : Type 0} (R : N → Form N → Type 0) : N → Op → N → Type 0 where
  -- the operand depends on the set that is made
  cycle : (a c : N) (op : Op) → DependsOn R c a → IsCircular R a op c
  -- `Any` on whatever operand
  any : (a c : N) → IsCircular R a Any c

-- the bytes of the texts of a set, where those of an operation's outputs are said by the bytes of its inputs alone
pub data Byte {N : Type 0} (R : N → Form N → Type 0) (request : List ℕ → Type 0) : N → ℕ → Type 0 where
  -- a byte of a text of the table
  text : (a : N) (w : List ℕ) (b : ℕ) → R a (text_form w) → Contains w b → Byte R request a b
  -- a byte of a set that it is the same as
  same : (a c : N) (b : ℕ) → R a (same_form c) → Byte R request c b → Byte R request a b
  -- of the first of two sets that are joined; the second may be empty
  first : (a c d : N) (b : ℕ) → R a (join_form c d) → Byte R request c b → Byte R request a b
  -- of the second of them
  second : (a c d : N) (b : ℕ) → R a (join_form c d) → Byte R request d b → Byte R request a b
  -- of the text before a set
  prefix : (a c : N) (w : List ℕ) (b : ℕ) → R a (before_form w c) → Contains w b → Byte R request a b
  -- of the set behind a text
  behind : (a c : N) (w : List ℕ) (b : ℕ) → R a (before_form w c) → Byte R request c b → Byte R request a b
  -- of a text of the request
  asked : (a : N) (w : List ℕ) (b : ℕ) → R a request_form → request w → Contains w b → Byte R request a b
  -- of an integer in decimal
  integer : (a : N) (w : List ℕ) (b : ℕ) → R a integer_form → IsInteger w → Contains w b → Byte R request a b
  -- of a text that is there where a set says yes
  where_yes : (a c : N) (w : List ℕ) (b : ℕ) → R a (where_form w c) → Says R c → Contains w b → Byte R request a b
  -- a byte that an operation adds whatever its input
  added : (a c : N) (op : Op) (b : ℕ) → R a (apply_form op c) → Adds op b → Byte R request a b
  -- what an operation makes of a byte of its operand
  turned : (a c : N) (op : Op) (b e : ℕ) → R a (apply_form op c) → Byte R request c b → Turns op b e → Byte R request a e

-- the texts of a set. An operation in a cycle has all texts over its bytes as outputs, beside those that it has on its operand; where
-- operations
-- are read as PHP has them, these are such texts too, so that the sets are those with its outputs replaced (Minamide, Static Approximation
-- of
-- Dynamically Generated Web Pages, WWW 2005)
pub data In {N : Type 0} (R : N → Form N → Type 0) (outputs : Op → List ℕ → List ℕ → Type 0) (request : List ℕ → Type 0)
    (circular : (ℕ → Type 0) → List ℕ → Type 0) : N → List ℕ → Type 0 where
  -- a text of the table
  text : (a : N) (w : List ℕ) → R a (text_form w) → In R outputs request circular a w
  -- a text of a set that it is the same as
  same : (a c : N) (w : List ℕ) → R a (same_form c) → In R outputs request circular c w → In R outputs request circular a w
  -- a text of one set and a text of another behind it
  join : (a c d : N) (u v : List ℕ) → R a (join_form c d) → In R outputs request circular c u → In R outputs request circular d v
      → In R outputs request circular a (u ++ v)
  -- a text of the table and a text of a set behind it
  before : (a c : N) (u v : List ℕ) → R a (before_form u c) → In R outputs request circular c v → In R outputs request circular a (u ++ v)
  -- a text of the request
  asked : (a : N) (w : List ℕ) → R a request_form → request w → In R outputs request circular a w
  -- an integer in decimal
  integer : (a : N) (w : List ℕ) → R a integer_form → IsInteger w → In R outputs request circular a w
  -- a text that is there where a set says yes
  where_yes : (a c : N) (w : List ℕ) → R a (where_form w c) → Says R c → In R outputs request circular a w
  -- what an operation puts out on a text of its operand
  apply : (a c : N) (op : Op) (u w : List ℕ) → R a (apply_form op c) → In R outputs request circular c u → outputs op u w
      → In R outputs request circular a w
  -- where the operation is in a cycle, each text over the bytes of the set
  over_bytes : (a c : N) (op : Op) (w : List ℕ) → R a (apply_form op c) → IsCircular R a op c → circular (Byte R request a) w
      → In R outputs request circular a w
