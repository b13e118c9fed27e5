-- Tables whose sets stand for those of another table.
use Rattle.std.specs.Prelude.{◌≡◌, ℕ, Bool, true, false, List}
use Rattle.op_system.specs.declared.op.Op.{Op}
use Rattle.least_sets.specs.Forms.{Form, text_form, same_form, join_form, before_form, request_form, integer_form, apply_form, yes_form, where_form}

-- a set takes over the texts of another one: it is that set, or takes over one that does
pub data TakesOver {N : Type 0} (R : N → Form N → Type 0) : N → N → Type 0 where
  itself : (a : N) → TakesOver R a a
  through : (a b c : N) → R a (same_form b) → TakesOver R b c → TakesOver R a c

-- a set takes over one that stands for the name
pub record Holds {N M : Type 0} (S : M → Form M → Type 0) (E : N → M → Type 0) (a : N) (b : M) : Type 0 where
  pub within : M
  pub takes : TakesOver S b within
  pub stands : E a within

-- the forms are one, but for sets that stand for those of the other
pub data Alike {N M : Type 0} (H : N → M → Type 0) : Form N → Form M → Type 0 where
  text : (w : List ℕ) → Alike H (text_form w) (text_form w)
  same : (a : N) (b : M) → H a b → Alike H (same_form a) (same_form b)
  join : (a c : N) (b d : M) → H a b → H c d → Alike H (join_form a c) (join_form b d)
  before : (w : List ℕ) (a : N) (b : M) → H a b → Alike H (before_form w a) (before_form w b)
  asked : Alike H request_form request_form
  integer : Alike H integer_form integer_form
  apply : (op : Op) (a : N) (b : M) → H a b → Alike H (apply_form op a) (apply_form op b)
  yes : Alike H yes_form yes_form
  where_yes : (w : List ℕ) (a : N) (b : M) → H a b → Alike H (where_form w a) (where_form w b)

-- the form takes over another set
unfoldable pub is_same : {N : Type 0} → Form N → Bool
is_same (same_form a) = true
is_same _ = false

-- a row of the second table which does what one of the first does
pub record HasRow {N M : Type 0} (S : M → Form M → Type 0) (E : N → M → Type 0) (f : Form N) (b : M) : Type 0 where
  pub form : Form M
  pub row : S b form
  pub alike : Alike (Holds S E) f form

-- the second table does what the first does, where its sets stand for those of the first by E: a set that takes over another holds what
-- stands for it, each
-- other row is there, and one set alone stands for one that an operation makes
pub record Simulates {N M : Type 0} (R : N → Form N → Type 0) (S : M → Form M → Type 0) (E : N → M → Type 0) : Type 0 where
  pub same : (a c : N) (b : M) → E a b → R a (same_form c) → Holds S E c b
  pub other : (a : N) (f : Form N) (b : M) → E a b → R a f → is_same f ≡ false → HasRow S E f b
  pub one : (a c : N) (op : Op) (b d : M) → R a (apply_form op c) → E a b → E a d → b ≡ d

-- more bytes give no fewer texts
abbrev pub IsMonotone : ((ℕ → Type 0) → List ℕ → Type 0) → Type 1
IsMonotone circular = (bytes more : ℕ → Type 0) (w : List ℕ) → ((b : ℕ) → bytes b → more b) → circular bytes w → circular more w
