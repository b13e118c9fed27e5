-- In which ways the texts of a set may be made of those of others. A table says for each set, by its name, which ways it has.
use Rattle.std.specs.Prelude.{ℕ, List, [], ◌∷◌}
use Rattle.op_system.specs.declared.op.Op.{Op}

-- one way in which texts of a set are made, where sets have such names
pub data Form (N : Type 0) : Type 0 where
  -- one text
  text_form : List ℕ → Form N
  -- each text of another set
  same_form : N → Form N
  -- a text of each, joined
  join_form : N → N → Form N
  -- a text before each of another set
  before_form : List ℕ → N → Form N
  -- each text that the request may bring
  request_form : Form N
  -- the decimal form of each integer of 64 bits, and of those others that have no more digits (specs/Integers.antt)
  integer_form : Form N
  -- each output of an operation on a text of another set
  apply_form : Op → N → Form N
  -- of a set that only says yes or no: yes
  yes_form : Form N
  -- one text, where another set says yes
  where_form : List ℕ → N → Form N

-- the sets of texts that a form names
unfoldable pub names : {N : Type 0} → Form N → List N
names (text_form w) = []
names (same_form a) = a ∷ []
names (join_form a b) = a ∷ b ∷ []
names (before_form w a) = a ∷ []
names request_form = []
names integer_form = []
names (apply_form op a) = a ∷ []
names yes_form = []
names (where_form w a) = []

-- the same form by other names
unfoldable pub renamed : {N M : Type 0} → (N → M) → Form N → Form M
renamed f (text_form w) = text_form w
renamed f (same_form a) = same_form (f a)
renamed f (join_form a b) = join_form (f a) (f b)
renamed f (before_form w a) = before_form w (f a)
renamed f request_form = request_form
renamed f integer_form = integer_form
renamed f (apply_form op a) = apply_form op (f a)
renamed f yes_form = yes_form
renamed f (where_form w a) = where_form w (f a)
