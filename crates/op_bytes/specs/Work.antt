-- What the work on byte sets keeps. No public clause cites this.
use Rattle.std.specs.Prelude.{◌≡◌, ◌<◌, ◌≤◌, ◌⊎◌, ℕ, Bool, List, [], ◌∷◌, ◌++◌, length, Some, slice_get, Contains}
use Rattle.std.specs.List.{flat_map}
use Rattle.text_base.specs.declared.byte_range.ByteRange.{ByteRange}
use Rattle.text_base.specs.declared.numbers.Nt as nt
use Rattle.text_base.specs.ByteSet.{Has}
use Rattle.text_base.specs.ByteRange.{InRange}
use Rattle.numbered_sets.specs.Numbers.{Keeps}
use Rattle.cfg_grammar.specs.declared.symbol.Symbol.{Symbol}
use Rattle.cfg_grammar.specs.declared.symbol.Symbol.TheVariants.{Range, Token, Nt}
use Rattle.cfg_grammar.specs.declared.production.Right.{Right}
use Rattle.cfg_grammar.specs.declared.production.Right.TheVariants.{Empty, One, Two}
use Rattle.cfg_grammar.specs.declared.production.Production.{Production}
use Rattle.cfg_grammar.specs.Below.{symbols_of}
use Rattle.op_system.specs.declared.op.Op.{Op}
use Rattle.op_system.specs.declared.system.OpRule.{OpRule}
use Rattle.op_system.specs.declared.system.OpSystem.{OpSystem}
use Rattle.least_sets.specs.Bytes.{Adds, Turns}
use Rattle.op_bytes.specs.Texts.{ByteOf}
use Rattle.op_bytes.specs.declared.uses.Use.{Use}

-- the set of the number has the byte
pub record HasAt (sets : List (List Bool)) (a byte : ℕ) : Type 0 where
  pub below : byte < 256
  pub set : List Bool
  pub is : slice_get sets a ≡ Some set
  pub has : Has set byte

-- some sets gain bytes, and nothing else
pub record Gains (old : List (List Bool)) (P : ℕ → ℕ → Type 0) (new : List (List Bool)) : Type 0 where
  pub long : length new ≡ length old
  pub more : (a b : ℕ) → HasAt old a b → HasAt new a b
  pub only : (a b : ℕ) → HasAt new a b → HasAt old a b ⊎ P a b
  pub has : (a b : ℕ) → b < 256 → P a b → HasAt new a b

-- the number is put behind so many
pub record IsBehind (order : List ℕ) (n a : ℕ) : Type 0 where
  pub place : ℕ
  pub behind : n ≤ place
  pub at : slice_get order place ≡ Some a

-- the set has nothing new
abbrev pub IsKept : List (List Bool) → List (List Bool) → ℕ → Type 0
IsKept old new a = (b : ℕ) → HasAt new a b → HasAt old a b

-- some sets gain bytes, and each that has new ones is put behind the others
pub record Grows (old : List (List Bool)) (order : List ℕ) (P : ℕ → ℕ → Type 0) (new : List (List Bool)) (after : List ℕ) : Type 0 where
  pub gains : Gains old P new
  pub keeps : Keeps order after
  pub longer : length order ≤ length after
  pub newer : (a : ℕ) → IsKept old new a ⊎ IsBehind after (length order) a
  pub within : (a : ℕ) → Contains after a → Contains order a ⊎ (a < length old)

-- the nonterminals on the right, each with the left side
abbrev pub uses_in : ℕ → Symbol → List Use
uses_in left (Range range) = []
uses_in left (Token token) = []
uses_in left (Nt a) = record { from = a.0; to = left } ∷ []

-- the nonterminals on a right side from the left, each with the left side
abbrev pub uses_on : ℕ → Right → List Use
uses_on left Empty = []
uses_on left (One a) = uses_in left a
uses_on left (Two a b) = uses_in left a ++ uses_in left b

-- the same for all productions in their order
abbrev pub uses_of : List Production → List Use
uses_of ps = flat_map (λ p. uses_on p.left.0 p.right) ps

-- what the use at a place gives, where the set of what is used has these bytes
pub record IsUseAt (uses : List Use) (place : ℕ) (own : List Bool) (a b : ℕ) : Type 0 where
  pub found : Use
  pub is : slice_get uses place ≡ Some found
  pub to : a ≡ found.to
  pub has : Has own b

-- what the first uses at some places give, where the set of what is used has these bytes
pub record GivesUse (uses : List Use) (places : List ℕ) (n : ℕ) (own : List Bool) (a b : ℕ) : Type 0 where
  pub k : ℕ
  pub before : k < n
  pub place : ℕ
  pub at : slice_get places k ≡ Some place
  pub found : Use
  pub is : slice_get uses place ≡ Some found
  pub to : a ≡ found.to
  pub has : Has own b

-- a byte that an operation makes of the bytes of a set
abbrev pub IsTurned : Op → List Bool → ℕ → Type 0
IsTurned op own c = (b : ℕ) × (b < 256) × Has own b × Turns op b c

-- what the rule at a place gives
pub record IsRuleAt (rules : List OpRule) (place : ℕ) (own : List Bool) (a b : ℕ) : Type 0 where
  pub found : OpRule
  pub is : slice_get rules place ≡ Some found
  pub to : a ≡ found.left.0
  pub has : IsTurned found.op own b

-- the same of the first rules at some places
pub record GivesRule (rules : List OpRule) (places : List ℕ) (n : ℕ) (own : List Bool) (a b : ℕ) : Type 0 where
  pub k : ℕ
  pub before : k < n
  pub place : ℕ
  pub at : slice_get places k ≡ Some place
  pub found : OpRule
  pub is : slice_get rules place ≡ Some found
  pub to : a ≡ found.left.0
  pub has : IsTurned found.op own b

-- the bytes of the ranges of the first productions, and those that the first rules add
pub record HasRange (ps : List Production) (n a b : ℕ) : Type 0 where
  pub place : ℕ
  pub before : place < n
  pub production : Production
  pub is : slice_get ps place ≡ Some production
  pub left : a ≡ production.left.0
  pub range : ByteRange
  pub on : Contains (symbols_of production.right) (Range range)
  pub within : InRange range b

-- one of the first n rules, of this left side, adds the byte by itself
pub record HasLiteral (rules : List OpRule) (n a b : ℕ) : Type 0 where
  pub place : ℕ
  pub before : place < n
  pub rule : OpRule
  pub is : slice_get rules place ≡ Some rule
  pub left : a ≡ rule.left.0
  pub adds : Adds rule.op b

-- what a nonterminal passes on where it is used: its bytes, and what operations make of them
pub data IsPassed (s : OpSystem) (sets : List (List Bool)) (x a b : ℕ) : Type 0 where
  by_production : (p : Production) → Contains s.grammar.productions.items p → Contains (symbols_of p.right) (Nt (record { 0 = x }))
      → a ≡ p.left.0 → HasAt sets x b → IsPassed s sets x a b
  by_rule : (rule : OpRule) (e : ℕ) → Contains s.ops.items rule → rule.operand.0 ≡ x → a ≡ rule.left.0 → HasAt sets x e → Turns rule.op e b
      → IsPassed s sets x a b

-- the bytes that stand in the system alone
pub record AreFirstSets (s : OpSystem) (sets : List (List Bool)) : Type 0 where
  pub size : length sets ≡ s.grammar.count
  pub sound : (a b : ℕ) → HasAt sets a b → ByteOf s (Nt (record { 0 = a })) b
  pub ranges : (p : Production) (range : ByteRange) (b : ℕ) → Contains s.grammar.productions.items p
      → Contains (symbols_of p.right) (Range range) → InRange range b → b < 256 → HasAt sets p.left.0 b
  pub literals : (rule : OpRule) (b : ℕ) → Contains s.ops.items rule → Adds rule.op b → b < 256 → HasAt sets rule.left.0 b

-- the numbers below the count, in turn
pub record AreNumbersBelow (count : ℕ) (order : List ℕ) : Type 0 where
  pub size : length order ≡ count
  pub each : (n : ℕ) → n < count → slice_get order n ≡ Some n
  pub within : (n : ℕ) → Contains order n → n < count

-- what uses a nonterminal has its bytes
pub record IsFollowed (s : OpSystem) (sets : List (List Bool)) (x : ℕ) : Type 0 where
  pub productions : (p : Production) (b : ℕ) → Contains s.grammar.productions.items p
      → Contains (symbols_of p.right) (Nt (record { 0 = x })) → HasAt sets x b → HasAt sets p.left.0 b
  pub rules : (rule : OpRule) (b c : ℕ) → Contains s.ops.items rule → rule.operand.0 ≡ x → HasAt sets x b → Turns rule.op b c → c < 256
      → HasAt sets rule.left.0 c

-- all that the work keeps: each set is followed, or is still to be taken up
pub record IsWork (s : OpSystem) (sets : List (List Bool)) (order : List ℕ) (taken : ℕ) : Type 0 where
  pub size : length sets ≡ s.grammar.count
  pub sound : (a b : ℕ) → HasAt sets a b → ByteOf s (Nt (record { 0 = a })) b
  pub ranges : (p : Production) (range : ByteRange) (b : ℕ) → Contains s.grammar.productions.items p
      → Contains (symbols_of p.right) (Range range) → InRange range b → b < 256 → HasAt sets p.left.0 b
  pub literals : (rule : OpRule) (b : ℕ) → Contains s.ops.items rule → Adds rule.op b → b < 256 → HasAt sets rule.left.0 b
  pub followed : (x : ℕ) → x < s.grammar.count → IsBehind order taken x ⊎ IsFollowed s sets x
  pub within : (x : ℕ) → Contains order x → x < s.grammar.count
