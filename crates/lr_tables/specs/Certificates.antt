-- What comes with tables, so that a computation sees that they are right. Nothing of it needs trust.
use Rattle.std.specs.Prelude.{ℕ, zero, suc, Bool, true, false, List, [], ◌∷◌, nat_eq, bit_and, if◌then◌else◌, slice_index_or}
use Rattle.lr_tables.specs.declared.rule.Rule.{Rule}
use Rattle.lr_tables.specs.Grammars.{side}

-- What a state is known by. `kernel`: rules with a place in their right sides behind the first symbol, and the terminals that may follow
-- the whole, as the bits of a number. `closed`: nonterminals that may begin here, and what may follow them; each stands in a rule at a
-- place, of the kernel or, at place 0, of a nonterminal that comes later in the list.
pub record State : Type 0 where
  pub kernel : List (ℕ × ℕ × ℕ)
  pub closed : List (ℕ × ℕ × ℕ × ℕ)

-- what stands for a state that there is not
abbrev pub no_state : State
no_state = record { kernel = []; closed = [] }

-- `most` is one less than the turns that a token pays for. `facts`: of each nonterminal the terminals that it may begin with, as bits,
-- whether it may be empty, and a weight. `samples`: for nonterminals a rule and tokens that are derived by it; the samples of the symbols
-- in it come later in the list.
pub record Certificate : Type 0 where
  pub most : ℕ
  pub facts : List (ℕ × Bool × ℕ)
  pub samples : List (ℕ × ℕ × List ℕ)
  pub states : List State

-- the other truth value
abbrev pub not_true : Bool → Bool
not_true true = false
not_true false = true

-- the rules: left side, right side, and the powers before and behind which it stands
abbrev pub sides : List Rule → List (ℕ × List ℕ × ℕ × ℕ)
sides [] = []
sides (r ∷ rules) = (r.left, side r, r.before, r.behind) ∷ sides rules

-- the right side of the rule of this number
abbrev pub side_at : List (ℕ × List ℕ × ℕ × ℕ) → ℕ → List ℕ
side_at all p = (slice_index_or all p (0, [], 0, 0)).1

-- what stands behind so many symbols
abbrev pub behind : ℕ → List ℕ → List ℕ
behind zero xs = xs
behind (suc n) [] = []
behind (suc n) (x ∷ xs) = behind n xs

-- each bit of the one number is one of the other
abbrev pub is_sub : ℕ → ℕ → Bool
is_sub a b = nat_eq (bit_and a b) a

-- what may follow the nonterminal where it begins, as bits; none where it does not begin
abbrev pub closed_of : List (ℕ × ℕ × ℕ × ℕ) → ℕ → ℕ
closed_of [] x = 0
closed_of (c ∷ closed) x = if nat_eq c.0 x then c.1 else closed_of closed x
