-- Grammars as data, and what they derive: rules whose operators have powers in place of levels of nonterminals (as in Aho, Sethi and
-- Ullman, Compilers, 4.8, but as a part of what is derived and not of how it is read).
use Rattle.std.specs.Prelude.{◌≡◌, ℕ, zero, suc, ◌+◌, ◌<◌, ◌≤◌, Bool, true, false, List, [], ◌∷◌, ◌++◌, Some, length, take, slice_get, slice_index_or, nat_lt}
use Rattle.lr_tables.specs.declared.rule.Rule.{Rule}
use Rattle.lr_tables.specs.declared.event.Event as event

-- the symbols up to the first 0
abbrev pub named : List ℕ → List ℕ
named [] = []
named (zero ∷ xs) = []
named (suc x ∷ xs) = suc x ∷ named xs

-- xs, turned round, before ys
abbrev pub onto : List ℕ → List ℕ → List ℕ
onto [] ys = ys
onto (x ∷ xs) ys = onto xs (x ∷ ys)

-- the right side of a rule, from the left
abbrev pub side : Rule → List ℕ
side r = onto (named r.back) []

-- the first token, and 0 at the end
abbrev pub head : List ℕ → ℕ
head [] = 0
head (k ∷ ks) = k

-- Symbols are numbers: terminals are those below `terminals`, and 0 among them is the end of the input. A symbol has a power to the left
-- and one to the right, 0 where the lists are too short.
pub record Grammar : Type 0 where
  pub terminals : ℕ
  pub start : ℕ
  pub rules : List Rule
  pub lefts : List ℕ
  pub rights : List ℕ

-- the rule does not stand before this token, whose power to the left is greater
abbrev pub is_blocked : Grammar → Rule → ℕ → Bool
is_blocked g r k = nat_lt r.before (slice_index_or g.lefts k 0)

-- the rule does not stand behind this symbol, whose power to the right is greater
abbrev pub is_barred : Grammar → Rule → ℕ → Bool
is_barred g r x = nat_lt r.behind (slice_index_or g.rights x 0)

-- Behind the symbol `prev`, from a list of tokens to what is left of it, a symbol is derived: `Derives g prev x from rest es later`.
-- What is told of it, `es` up to `later`, is a token for each token, and behind the parts of a rule that rule. Behind a symbol stands what
-- begins there: so `prev` is the symbol to the left in the rule above, or, for a first symbol, the one to the left of that rule.
mutual
  pub data Derives (g : Grammar) : ℕ → ℕ → List ℕ → List ℕ → List event.Event → List event.Event → Type 0 where
    leaf : (prev k : ℕ) (rest : List ℕ) (later : List event.Event) → nat_lt k g.terminals ≡ true
        → Derives g prev k (k ∷ rest) rest (event.TheVariants.Token ∷ later) later
    node : (prev p : ℕ) (r : Rule) (from rest : List ℕ) (es later : List event.Event) → slice_get g.rules p ≡ Some r
        → is_barred g r prev ≡ false → is_blocked g r (head rest) ≡ false
        → Spells g prev (side r) from rest es (event.TheVariants.Rule p ∷ later) → Derives g prev r.left from rest es later

  pub data Spells (g : Grammar) : ℕ → List ℕ → List ℕ → List ℕ → List event.Event → List event.Event → Type 0 where
    none : (prev : ℕ) (rest : List ℕ) (later : List event.Event) → Spells g prev [] rest rest later later
    more : (prev x : ℕ) (xs from mid rest : List ℕ) (es fs later : List event.Event) → Derives g prev x from mid es fs
        → Spells g x xs mid rest fs later → Spells g prev (x ∷ xs) from rest es later

-- the whole input is derived, and this is told of it
abbrev pub IsDerived : Grammar → List ℕ → List event.Event → Type 0
IsDerived g ks es = Derives g 0 g.start ks [] es []

-- the tokens are a sentence
abbrev pub IsSentence : Grammar → List ℕ → Type 0
IsSentence g ks = (es : List event.Event) × IsDerived g ks es

-- some sentence begins with these tokens
abbrev pub IsFront : Grammar → List ℕ → Type 0
IsFront g ks = (rest : List ℕ) × IsSentence g (ks ++ rest)

-- this is told of a derivation of the tokens, and nothing else is told of any
pub record IsOnly (g : Grammar) (ks : List ℕ) (es : List event.Event) : Type 0 where
  pub derived : IsDerived g ks es
  pub only : (fs : List event.Event) → IsDerived g ks fs → fs ≡ es

-- The tokens are no sentence, and this is the place of the first one that no sentence goes on with: the tokens before it are a front of
-- a sentence, and with it of none. It is the end of the tokens where they are a front of a sentence, but none themselves.
pub record IsFirstWrong (g : Grammar) (ks : List ℕ) (place : ℕ) : Type 0 where
  pub within : place ≤ length ks
  pub fits : IsFront g (take place ks)
  pub wrong : place < length ks → IsFront g (take (place + 1) ks) → ⊥
  pub none : IsSentence g ks → ⊥
