-- Drafts of a grammar that stands for a system: what they keep, and what is added for an operation.
use Rattle.std.specs.Prelude.{◌≡◌, ◌<◌, ◌≤◌, ◌+◌, ◌↔◌, ℕ, Bool, true, List, map, Some, slice_get, Contains, All}
use Rattle.text_base.specs.declared.byte_range.ByteRange.{ByteRange}
use Rattle.text_base.specs.declared.numbers.Nt as nt
use Rattle.text_base.specs.declared.letter.Letter.{Letter}
use Rattle.text_base.specs.declared.letter.Letter.TheVariants.{OfByte}
use Rattle.text_base.specs.ByteRange.{InRange}
use Rattle.text_base.specs.ByteSet.{Has}
use Rattle.cfg_grammar.specs.declared.symbol.Symbol.{Symbol}
use Rattle.cfg_grammar.specs.declared.symbol.Symbol.TheVariants.{Range, Token, Nt}
use Rattle.cfg_grammar.specs.declared.production.Right.{Right}
use Rattle.cfg_grammar.specs.declared.production.Right.TheVariants.{Empty, One, Two}
use Rattle.cfg_grammar.specs.declared.production.Production.{Production}
use Rattle.cfg_grammar.specs.declared.grammar.Grammar.{Grammar}
use Rattle.cfg_grammar.specs.Below.{symbols_of, AreBelow}
use Rattle.cfg_grammar.specs.Tokens.{HaveNoToken, production_without_token}
use Rattle.cfg_grammar.specs.Derives.{Derives}
use Rattle.op_system.specs.Rel.{Rel}
use Rattle.op_system.specs.declared.system.OpRule.{OpRule}
use Rattle.op_system.specs.declared.system.OpSystem.{OpSystem}
use Rattle.fst_core.specs.Tables.{TableStep, TableStop}
use Rattle.fst_core.specs.declared.table.Table.{Table}
use Rattle.fst_core.specs.Outputs.{Outputs}
use Rattle.op_bytes.specs.Texts.{TextOf, ByteOf}
use Rattle.op_bytes.specs.Cycles.{IsInCycle}
use Rattle.resolving.specs.Resolved.{HasLetters}

-- a symbol, and a production, with each number so much higher
abbrev pub moved_symbol : ℕ → Symbol → Symbol
moved_symbol base (Range range) = Range range
moved_symbol base (Token token) = Token token
moved_symbol base (Nt a) = Nt (record { 0 = base + a.0 })

-- a right side with each number so much higher
abbrev pub moved_right : ℕ → Right → Right
moved_right base Empty = Empty
moved_right base (One a) = One (moved_symbol base a)
moved_right base (Two a b) = Two (moved_symbol base a) (moved_symbol base b)

-- a production with each number so much higher
abbrev pub moved : ℕ → Production → Production
moved base p = record { left = record { 0 = base + p.left.0 }; right = moved_right base p.right }

-- a production of a draft is one of the system, leads from there to numbers of its own, or stands among these
pub data IsKind (s : OpSystem) (p : Production) : Type 0 where
  of_system : Contains s.grammar.productions.items p → IsKind s p
  link : p.left.0 < s.grammar.count → (m : nt.Nt) → p.right ≡ One (Nt m) → s.grammar.count ≤ m.0 → IsKind s p
  own : s.grammar.count ≤ p.left.0 → ((b : nt.Nt) → Contains (symbols_of p.right) (Nt b) → s.grammar.count ≤ b.0) → IsKind s p

-- the productions have those of the system, and derive no text from its nonterminals that is none of their sets
pub record IsDraft (s : OpSystem) (ps : List Production) (count : ℕ) : Type 0 where
  pub least : s.grammar.count ≤ count
  pub below : AreBelow count ps
  pub base : (p : Production) → Contains s.grammar.productions.items p → Contains ps p
  pub kinds : (p : Production) → Contains ps p → IsKind s p
  pub no_token : HaveNoToken ps
  pub sound : (a : nt.Nt) (w : List Letter) → a.0 < s.grammar.count → Derives ps (Nt a) w → HasLetters s (Nt a) w

-- the texts that a rule gives to its left side are derived
pub record IsDone (s : OpSystem) (ps : List Production) (rule : OpRule) : Type 0 where
  pub outputs : (u w : List ℕ) → TextOf s (Nt rule.operand) u → Rel rule.op u w → Derives ps (Nt rule.left) (map OfByte w)
  pub circular : IsInCycle s rule → (w : List ℕ) → All (ByteOf s (Nt rule.left)) w → Derives ps (Nt rule.left) (map OfByte w)

-- a production is one of before, the link from a nonterminal of the system to a new one, or stands among new ones
pub data IsNew (ps : List Production) (count : ℕ) (left m : nt.Nt) (p : Production) : Type 0 where
  old : Contains ps p → IsNew ps count left m p
  link : p ≡ record { left = left; right = One (Nt m) } → IsNew ps count left m p
  fresh : count ≤ p.left.0 → ((b : nt.Nt) → Contains (symbols_of p.right) (Nt b) → count ≤ b.0) → IsNew ps count left m p

-- a byte of the range is put before the same nonterminal
abbrev pub range_production : nt.Nt → ByteRange → Production
range_production t range = record { left = t; right = Two (Range range) (Nt t) }

-- the production puts a byte of a range, all of whose bytes are in the set, before the same nonterminal
pub record IsRangeOf (t : nt.Nt) (set : List Bool) (p : Production) : Type 0 where
  pub range : ByteRange
  pub has : (byte : ℕ) → InRange range byte → (byte < 256) × Has set byte
  pub is : p ≡ range_production t range

-- some production puts the byte, as one of a range, before the same nonterminal
abbrev pub HasRange : List Production → nt.Nt → ℕ → Type 0
HasRange ps t byte = (range : ByteRange) × InRange range byte × Contains ps (range_production t range)

-- the one nonterminal becomes the other
abbrev pub link_of : nt.Nt → nt.Nt → Production
link_of left m = record { left = left; right = One (Nt m) }

-- a production of before, the link, or one of all texts over the bytes
pub data IsAnyProduction (ps : List Production) (left t : nt.Nt) (set : List Bool) (p : Production) : Type 0 where
  before : Contains ps p → IsAnyProduction ps left t set p
  links : p ≡ link_of left t → IsAnyProduction ps left t set p
  stops : p ≡ record { left = t; right = Empty } → IsAnyProduction ps left t set p
  puts : IsRangeOf t set p → IsAnyProduction ps left t set p

-- a production of before, the link, or one of the other grammar
pub data IsImageProduction (ps : List Production) (left : nt.Nt) (base : ℕ) (image : Grammar) (p : Production) : Type 0 where
  before : Contains ps p → IsImageProduction ps left base image p
  links : p ≡ link_of left (record { 0 = base + image.start.0 }) → IsImageProduction ps left base image p
  moves : (q : Production) → Contains image.productions.items q → production_without_token q ≡ true → p ≡ moved base q
      → IsImageProduction ps left base image p

-- to the productions a link to a nonterminal is added, and those by which that has all texts over the bytes
pub record AddsAny (ps : List Production) (left t : nt.Nt) (set : List Bool) (after : List Production) : Type 0 where
  pub keeps : (p : Production) → Contains ps p → Contains after p
  pub only : (p : Production) → Contains after p → IsAnyProduction ps left t set p
  pub link : Contains after (link_of left t)
  pub stop : Contains after (record { left = t; right = Empty })
  pub has : (byte : ℕ) → byte < 256 → Has set byte → HasRange after t byte

-- a link to the start of another grammar is added, and its productions with higher numbers, but those with a page token
pub record AddsImage (ps : List Production) (left : nt.Nt) (base : ℕ) (image : Grammar) (after : List Production) : Type 0 where
  pub keeps : (p : Production) → Contains ps p → Contains after p
  pub only : (p : Production) → Contains after p → IsImageProduction ps left base image p
  pub link : Contains after (link_of left (record { 0 = base + image.start.0 }))
  pub has : (q : Production) → Contains image.productions.items q → production_without_token q ≡ true → Contains after (moved base q)

-- the grammar's sentences are what the machine may put out over the texts of the operand
abbrev pub IsImage : List Production → nt.Nt → Table → Grammar → Type 0
IsImage ps operand table image = (w : List Letter) → Derives image.productions.items (Nt image.start) w
    ↔ Outputs ps (Nt operand) table.start (TableStep table.moves.items) (TableStop table.ends.items) w

-- all rules are done whose left sides have lower numbers
abbrev pub IsReady : OpSystem → List ℕ → List Production → ℕ → Type 0
IsReady s numbers ps k = (rule : OpRule) (n : ℕ) → Contains s.ops.items rule → slice_get numbers rule.left.0 ≡ Some n → n < k
    → IsDone s ps rule
