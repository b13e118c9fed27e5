-- What the nonterminals of a system stand for, and the rows of each: a table over names, with its texts written byte by byte and the given
-- texts from a closed grammar.
use Rattle.std.specs.Prelude.{ℕ, Bool, true, false, List, [], ◌∷◌, Contains}
use Rattle.text_base.specs.declared.byte_range.ByteRange.{ByteRange}
use Rattle.text_base.specs.declared.numbers.Nt as nt
use Rattle.text_base.specs.ByteRange.{InRange}
use Rattle.cfg_grammar.specs.declared.symbol.Symbol.{Symbol}
use Rattle.cfg_grammar.specs.declared.symbol.Symbol.TheVariants.{Range, Token, Nt}
use Rattle.cfg_grammar.specs.declared.production.Right.TheVariants.{Empty, One, Two}
use Rattle.op_system.specs.declared.op.Op.{Op}
use Rattle.least_sets.specs.Forms.{Form, text_form, same_form, join_form, before_form, request_form, integer_form, apply_form, where_form}
use Rattle.given_texts.specs.Closed.{Closed}

-- what a nonterminal or a symbol of the system stands for
pub data Part (N : Type 0) : Type 0 where
  -- the sets to begin with, together
  start_part : Part N
  set_part : N → Part N
  -- a text, or the end of one
  end_part : List ℕ → Part N
  range_part : ByteRange → Part N
  closed_part : ℕ → Part N
  -- a page token, which closed grammars do not have
  token_part : Part N

-- a set, or the start: what stands at one number alone
unfoldable pub is_set : {N : Type 0} → Part N → Bool
is_set start_part = true
is_set (set_part k) = true
is_set _ = false

-- the part that a symbol of a closed grammar is
unfoldable pub symbol_part : {N : Type 0} → Symbol → Part N
symbol_part (Range r) = range_part r
symbol_part (Token t) = token_part
symbol_part (Nt a) = closed_part a.0

-- the row of a part: the sets to begin with, what a set has by the table, what an end of a text is, and the closed grammar as it is
pub data PartRow {N : Type 0} (table : N → Form N → Type 0) (starts says : N → Type 0) (closed : Closed) : Part N → Form (Part N) → Type 0 where
  start : (k : N) → starts k → PartRow table starts says closed start_part (same_form (set_part k))
  -- what a set has by the table, where it is given which sets say yes
  nothing : (k : N) → table k (text_form []) → PartRow table starts says closed (set_part k) (text_form [])
  text : (k : N) (b : ℕ) (w : List ℕ) → table k (text_form (b ∷ w))
      → PartRow table starts says closed (set_part k) (same_form (end_part (b ∷ w)))
  same : (k j : N) → table k (same_form j) → PartRow table starts says closed (set_part k) (same_form (set_part j))
  join : (k i j : N) → table k (join_form i j) → PartRow table starts says closed (set_part k) (join_form (set_part i) (set_part j))
  before_nothing : (k j : N) → table k (before_form [] j) → PartRow table starts says closed (set_part k) (same_form (set_part j))
  before : (k : N) (b : ℕ) (j : N) (w : List ℕ) → table k (before_form (b ∷ w) j)
      → PartRow table starts says closed (set_part k) (join_form (end_part (b ∷ w)) (set_part j))
  asked : (k : N) → table k request_form → PartRow table starts says closed (set_part k) (same_form (closed_part closed.request))
  integer : (k : N) → table k integer_form → PartRow table starts says closed (set_part k) (same_form (closed_part closed.integer))
  apply : (k j : N) (op : Op) → table k (apply_form op j) → PartRow table starts says closed (set_part k) (apply_form op (set_part j))
  where_nothing : (k j : N) → table k (where_form [] j) → says j → PartRow table starts says closed (set_part k) (text_form [])
  where_yes : (k : N) (b : ℕ) (j : N) (w : List ℕ) → table k (where_form (b ∷ w) j) → says j
      → PartRow table starts says closed (set_part k) (same_form (end_part (b ∷ w)))
  -- a text is its first byte and what is behind it
  last : (b : ℕ) → PartRow table starts says closed (end_part (b ∷ [])) (text_form (b ∷ []))
  first : (b c : ℕ) (w : List ℕ)
      → PartRow table starts says closed (end_part (b ∷ c ∷ w)) (join_form (end_part (b ∷ [])) (end_part (c ∷ w)))
  range : (r : ByteRange) (b : ℕ) → InRange r b → PartRow table starts says closed (range_part r) (text_form (b ∷ []))
  -- the closed grammar as it is
  closed_empty : (left : nt.Nt) → Contains closed.productions (record { left = left; right = Empty })
      → PartRow table starts says closed (closed_part left.0) (text_form [])
  closed_one : (left : nt.Nt) (a : Symbol) → Contains closed.productions (record { left = left; right = One a })
      → PartRow table starts says closed (closed_part left.0) (same_form (symbol_part a))
  closed_two : (left : nt.Nt) (a b : Symbol) → Contains closed.productions (record { left = left; right = Two a b })
      → PartRow table starts says closed (closed_part left.0) (join_form (symbol_part a) (symbol_part b))
