-- The machine that goes by tables (Knuth, On the translation of languages from left to right): it shifts a token, or replaces the right side
-- of a rule on its stack of states by the left side.
use Rattle.std.specs.Prelude.{ℕ, zero, suc, List, [], ◌∷◌, Option, Some, None, slice_get, slice_index_or, nat_lt, nat_eq, if◌then◌else◌}
use Rattle.lr_tables.specs.declared.rule.Rule.{Rule}
use Rattle.lr_tables.specs.declared.step.Step.{Step}
use Rattle.lr_tables.specs.declared.step.Step.TheVariants.{Fail, Go, Reduce, Accept}
use Rattle.lr_tables.specs.declared.event.Event as event
use Rattle.lr_tables.specs.Grammars.{Grammar, named, is_barred}
pub use Rattle.lr_tables.specs.Grammars.{head}

-- a grammar, for each state what it does at each symbol, and for each state the symbol that leads to it
pub record Tables : Type 0 where
  pub grammar : Grammar
  pub rows : List (List Step)
  pub accesses : List ℕ

-- the last state, and 0, where the machine begins, on an empty stack
abbrev pub top : List ℕ → ℕ
top [] = 0
top (s ∷ stack) = s

-- what a state does at a symbol
abbrev pub entry : Tables → ℕ → ℕ → Step
entry t s x = slice_index_or (slice_index_or t.rows s []) x Fail

-- the symbol that leads to a state
abbrev pub access : Tables → ℕ → ℕ
access t s = slice_index_or t.accesses s 0

-- the stack without symbols that stand on it
abbrev pub pops : Tables → List ℕ → List ℕ → Option (List ℕ)
pops t [] stack = Some stack
pops t (x ∷ xs) [] = None
pops t (x ∷ xs) (s ∷ stack) = if nat_eq (access t s) x then pops t xs stack else None

-- What the machine comes to: all is read, and this is told of it; nothing goes on where these tokens are left; or so many turns were
-- not enough, and it is at this stack with these tokens left.
pub data Answer : Type 0 where
  Read : List event.Event → Answer
  Wrong : List ℕ → Answer
  Going : List ℕ → List ℕ → Answer

-- this is told, and then the rest
abbrev pub told : event.Event → Answer → Answer
told e (Read es) = Read (e ∷ es)
told e (Wrong ks) = Wrong ks
told e (Going stack ks) = Going stack ks

-- One turn; `next` is what comes of the stack and the tokens behind it.
module _ (t : Tables) (next : List ℕ → List ℕ → Answer) where
  -- the left side of a rule goes onto the stack
  abbrev pub put : Step → List ℕ → List ℕ → Answer
  put Fail stack ks = Wrong ks
  put (Go s) stack ks = next (s ∷ stack) ks
  put (Reduce p) stack ks = Wrong ks
  put Accept stack ks = Wrong ks

  -- the right side of the rule is off the stack
  abbrev pub replaced : ℕ → Rule → Option (List ℕ) → List ℕ → Answer
  replaced p r None ks = Wrong ks
  replaced p r (Some stack) ks = if is_barred t.grammar r (access t (top stack)) then Wrong ks else told (event.TheVariants.Rule p) (put (entry t (top stack) r.left) stack ks)

  abbrev pub reduced : ℕ → Option Rule → List ℕ → List ℕ → Answer
  reduced p None stack ks = Wrong ks
  reduced p (Some r) stack ks = replaced p r (pops t (named r.back) stack) ks

  -- a token is read, and the state goes onto the stack
  abbrev pub shifted : ℕ → List ℕ → List ℕ → Answer
  shifted s stack [] = Wrong []
  shifted s stack (k ∷ ks) = if nat_lt k t.grammar.terminals then told event.TheVariants.Token (next (s ∷ stack) ks) else Wrong (k ∷ ks)

  -- nothing is left, and only the start stands on the stack
  abbrev pub accepted : List ℕ → List ℕ → Answer
  accepted [] ks = Wrong ks
  accepted (s ∷ []) [] = if nat_eq (access t s) t.grammar.start then Read [] else Wrong []
  accepted (s ∷ []) (k ∷ ks) = Wrong (k ∷ ks)
  accepted (s ∷ (u ∷ stack)) ks = Wrong ks

  abbrev pub acted : Step → List ℕ → List ℕ → Answer
  acted Fail stack ks = Wrong ks
  acted (Go s) stack ks = shifted s stack ks
  acted (Reduce p) stack ks = reduced p (slice_get t.grammar.rules p) stack ks
  acted Accept stack ks = accepted stack ks

-- what comes of a stack and tokens in so many turns
unfoldable pub run : Tables → ℕ → List ℕ → List ℕ → Answer
run t zero stack ks = Going stack ks
run t (suc n) stack ks = acted t (run t n) (entry t (top stack) (head ks)) stack ks
