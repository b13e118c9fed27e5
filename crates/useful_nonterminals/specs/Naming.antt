-- New numbers for the nonterminals that stay, and productions under these numbers.
use Rattle.std.specs.Prelude.{◌≡◌, ◌⊎◌, ◌<◌, ℕ, Bool, List, [], ◌∷◌, ◌++◌, length, Option, None, Some, slice_get, slice_index_or, option_to_list}
use Rattle.text_base.specs.declared.numbers.Nt as nt
use Rattle.cfg_grammar.specs.declared.symbol.Symbol.{Symbol}
use Rattle.cfg_grammar.specs.declared.symbol.Symbol.TheVariants.{Range, Token, Nt}
use Rattle.cfg_grammar.specs.declared.production.Right.{Right}
use Rattle.cfg_grammar.specs.declared.production.Right.TheVariants.{Empty, One, Two}
use Rattle.cfg_grammar.specs.declared.production.Production.{Production}
use Rattle.useful_nonterminals.specs.Follows.{IsMarked}

-- the start and what is marked stay
abbrev pub Stays : List Bool → ℕ → ℕ → Type 0
Stays marks start n = IsMarked marks n ⊎ (n ≡ start)

-- those of the first numbers that stay have names, which are the numbers below a count
pub record IsNaming (marks : List Bool) (start : ℕ) (names : List (Option ℕ)) (count : ℕ) : Type 0 where
  pub kept : List ℕ
  pub many : length kept ≡ count
  pub into : (n k : ℕ) → slice_get names n ≡ Some (Some k) → slice_get kept k ≡ Some n
  pub back : (k n : ℕ) → slice_get kept k ≡ Some n → slice_get names n ≡ Some (Some k)
  pub all : (n : ℕ) → n < length names → Stays marks start n → (k : ℕ) × (slice_get names n ≡ Some (Some k))
  pub only : (n k : ℕ) → slice_get names n ≡ Some (Some k) → Stays marks start n

-- the name of a nonterminal, if it stays
abbrev pub name_at : List (Option ℕ) → nt.Nt → Option ℕ
name_at names a = slice_index_or names a.0 None

-- with its name
abbrev pub as_named : Option ℕ → Option Symbol
as_named None = None
as_named (Some k) = Some (Nt (record { 0 = k }))

-- the symbol under its name, if it stays; a range or a page token as it is
abbrev pub named_symbol : List (Option ℕ) → Symbol → Option Symbol
named_symbol names (Range range) = Some (Range range)
named_symbol names (Token token) = Some (Token token)
named_symbol names (Nt a) = as_named (name_at names a)

-- a right side of this symbol alone, if there is one
abbrev pub as_one : Option Symbol → Option Right
as_one None = None
as_one (Some a) = Some (One a)

-- a right side of these two symbols, if there are both
abbrev pub as_two : Option Symbol → Option Symbol → Option Right
as_two None b = None
as_two (Some a) None = None
as_two (Some a) (Some b) = Some (Two a b)

-- the right side under new names, where each of its nonterminals has one
abbrev pub named_right : List (Option ℕ) → Right → Option Right
named_right names Empty = Some Empty
named_right names (One a) = as_one (named_symbol names a)
named_right names (Two a b) = as_two (named_symbol names a) (named_symbol names b)

-- a production of this left side and this right side, if there are both
abbrev pub as_production : Option ℕ → Option Right → Option Production
as_production None right = None
as_production (Some k) None = None
as_production (Some k) (Some right) = Some (record { left = record { 0 = k }; right = right })

-- the production, where each of its nonterminals has a name
abbrev pub named_production : List (Option ℕ) → Production → Option Production
named_production names p = as_production (name_at names p.left) (named_right names p.right)

-- the productions of which each nonterminal has a name, in their order, under these names
abbrev pub named_productions : List (Option ℕ) → List Production → List Production
named_productions names [] = []
named_productions names (p ∷ ps) = option_to_list (named_production names p) ++ named_productions names ps
