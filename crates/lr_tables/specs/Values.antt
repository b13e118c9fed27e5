-- What derivations mean: a value by an action for each rule, and the same made on a stack as it is told (Aho, Sethi and Ullman, Compilers,
-- 5.1: synthesized attributes).
use Rattle.std.specs.Prelude.{◌≡◌, ℕ, true, false, List, [], ◌∷◌, Option, Some, None, slice_get, nat_lt}
use Rattle.lr_tables.specs.declared.rule.Rule.{Rule}
use Rattle.lr_tables.specs.declared.event.Event as event
use Rattle.lr_tables.specs.Grammars.{Grammar, head, is_blocked, is_barred, onto, side, IsDerived}
use Rattle.lr_tables.specs.Machine.{Tables}
use Rattle.lr_tables.specs.Certificates.{Certificate}
use Rattle.lr_tables.specs.Checks.{tables_ok}

-- tokens with their kinds, values, what a token gives, and what a rule makes of the values of its right side, if it makes anything
pub record Meaning : Type 1 where
  pub Token : Type 0
  pub Value : Type 0
  pub kind : Token → ℕ
  pub leaf : Token → Value
  pub act : ℕ → List Value → Option Value

-- the kinds of tokens
abbrev pub kinds : (m : Meaning) → List m.Token → List ℕ
kinds m [] = []
kinds m (k ∷ ks) = m.kind k ∷ kinds m ks

-- Behind a symbol, from a list of tokens to what is left of it, a symbol has a value: a token what it gives, a nonterminal what one of
-- its rules makes of the values of the right side. Which rules stand where is as in `Derives`.
mutual
  pub data Has (g : Grammar) (m : Meaning) : ℕ → ℕ → List m.Token → List m.Token → m.Value → Type 0 where
    token : (prev : ℕ) (k : m.Token) (rest : List m.Token) → nat_lt (m.kind k) g.terminals ≡ true → Has g m prev (m.kind k) (k ∷ rest) rest (m.leaf k)
    made : (prev p : ℕ) (r : Rule) (from rest : List m.Token) (vs : List m.Value) (v : m.Value) → slice_get g.rules p ≡ Some r
        → is_barred g r prev ≡ false → is_blocked g r (head (kinds m rest)) ≡ false
        → Have g m prev (side r) from rest vs → m.act p vs ≡ Some v → Has g m prev r.left from rest v

  pub data Have (g : Grammar) (m : Meaning) : ℕ → List ℕ → List m.Token → List m.Token → List m.Value → Type 0 where
    nothing : (prev : ℕ) (rest : List m.Token) → Have g m prev [] rest rest []
    further : (prev x : ℕ) (xs : List ℕ) (from mid rest : List m.Token) (v : m.Value) (vs : List m.Value)
        → Has g m prev x from mid v → Have g m x xs mid rest vs → Have g m prev (x ∷ xs) from rest (v ∷ vs)

-- the whole input has this value
abbrev pub HasValue : (g : Grammar) (m : Meaning) → List m.Token → m.Value → Type 0
HasValue g m ks v = Has g m 0 g.start ks [] v

-- a value for each symbol from the stack, in the order of the symbols, before those given
abbrev pub taken : {A : Type 0} → List ℕ → List A → List A → Option (List A × List A)
taken [] stack vs = Some (vs, stack)
taken (x ∷ xs) [] vs = None
taken (x ∷ xs) (v ∷ stack) vs = taken xs stack (v ∷ vs)

-- One event; `next` is what comes of the tokens and the stack behind it.
module _ (g : Grammar) (m : Meaning) (next : List m.Token → List m.Value → Option (List m.Value)) where
  -- what was made goes onto the stack, if anything was
  abbrev pub kept : List m.Token → List m.Value → Option m.Value → Option (List m.Value)
  kept ks stack None = None
  kept ks stack (Some v) = next ks (v ∷ stack)

  -- the values of a right side are off the stack
  abbrev pub acted_on : ℕ → List m.Token → Option (List m.Value × List m.Value) → Option (List m.Value)
  acted_on p ks None = None
  acted_on p ks (Some t) = kept ks t.1 (m.act p t.0)

  -- the left side of a rule is completed
  abbrev pub by_rule : ℕ → List m.Token → List m.Value → Option Rule → Option (List m.Value)
  by_rule p ks stack None = None
  by_rule p ks stack (Some r) = acted_on p ks (taken (onto (side r) []) stack [])

  -- a token is read
  abbrev pub by_token : List m.Token → List m.Value → Option (List m.Value)
  by_token [] stack = None
  by_token (k ∷ ks) stack = next ks (m.leaf k ∷ stack)

-- the stack that events make of tokens
unfoldable pub make : (g : Grammar) (m : Meaning) → List event.Event → List m.Token → List m.Value → Option (List m.Value)
make g m [] ks stack = Some stack
make g m (event.TheVariants.Token ∷ es) ks stack = by_token g m (make g m es) ks stack
make g m (event.TheVariants.Rule p ∷ es) ks stack = by_rule g m (make g m es) p ks stack (slice_get g.rules p)

-- a value of tokens is made of what is told of one of their derivations
abbrev pub AreMade : Type 1
AreMade = (g : Grammar) (m : Meaning) (ks : List m.Token) (v : m.Value) → HasValue g m ks v
    → (es : List event.Event) × (IsDerived g (kinds m ks) es) × (make g m es ks [] ≡ Some (v ∷ []))

-- and what is made of what is told of a derivation is a value
abbrev pub AreMeant : Type 1
AreMeant = (g : Grammar) (m : Meaning) (ks : List m.Token) (es : List event.Event) (stack : List m.Value)
    → IsDerived g (kinds m ks) es → make g m es ks [] ≡ Some stack → (v : m.Value) × (stack ≡ v ∷ []) × HasValue g m ks v

-- tokens have one value at most, where the tables pass their check
abbrev pub HaveOneValue : Type 1
HaveOneValue = (t : Tables) (c : Certificate) → tables_ok t c.most c.facts c.states ≡ true → (m : Meaning) (ks : List m.Token) (v w : m.Value)
    → HasValue t.grammar m ks v → HasValue t.grammar m ks w → v ≡ w
