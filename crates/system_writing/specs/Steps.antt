-- What each call writes.
use Rattle.std.specs.Prelude.{◌≡◌, ◌↔◌, ◌<◌, ◌+◌, ℕ, Bool, true, false, List, [], ◌∷◌, ◌++◌, Option, None, Some, Contains, get_or}
use Rattle.text_base.specs.declared.byte_range.ByteRange.{ByteRange}
use Rattle.text_base.specs.declared.numbers.Nt as nt
use Rattle.cfg_grammar.specs.declared.symbol.Symbol.{Symbol}
use Rattle.cfg_grammar.specs.declared.symbol.Symbol.TheVariants.{Range, Nt}
use Rattle.cfg_grammar.specs.declared.production.Right.{Right}
use Rattle.cfg_grammar.specs.declared.production.Right.TheVariants.{Empty, Two}
use Rattle.cfg_grammar.specs.Below.{AreBelow}
use Rattle.cfg_grammar.specs.Tokens.{HaveNoToken}
use Rattle.op_system.specs.declared.op.Op.{Op}
use Rattle.op_system.specs.declared.system.OpSystem.{OpSystem}
use Rattle.op_system.specs.Rules.{RulesAreBelow}
use Rattle.useful_nonterminals.specs.Follows.{IsMarked}
use Rattle.useful_nonterminals.specs.Useful.{IsProductive}
use Rattle.least_sets.specs.Forms.{Form, text_form, same_form, join_form, before_form, request_form, integer_form, apply_form, yes_form, where_form}
use Rattle.given_texts.specs.Closed.{Closed}
use Rattle.system_writing.specs.declared.lines.Lines.{Lines}
use Rattle.system_writing.specs.declared.waiting.Waiting.{Waiting}
use Rattle.system_writing.specs.declared.drafts.Draft.{Draft}
use Rattle.system_writing.specs.Rights.{text_right, before_right, same_right}

-- a range of this byte alone
abbrev pub IsByte : ℕ → Symbol → Type 0
IsByte b s = (r : ByteRange) × (s ≡ Range r) × (r.lo ≡ b) × (r.hi ≡ b)

-- the same productions and rules, over as many nonterminals
abbrev pub SameLines : Lines → Lines → Type 0
SameLines old new = (new.count ≡ old.count) × (new.productions.items ≡ old.productions.items) × (new.rules.items ≡ old.rules.items)

-- one production more stands at the end, and nothing else has changed
abbrev pub AddsProduction : Lines → Lines → ℕ → Right → Type 0
AddsProduction old new set right =
    (new.count ≡ old.count) × (new.productions.items ≡ old.productions.items ++ (record { left = record { 0 = set }; right = right }) ∷ [])
    × (new.rules.items ≡ old.rules.items)

-- one rule of an operation more stands at the end, and nothing else has changed
abbrev pub AddsRule : Lines → Lines → ℕ → Op → ℕ → Type 0
AddsRule old new set op operand =
    (new.count ≡ old.count) × (new.productions.items ≡ old.productions.items)
    × (new.rules.items ≡ old.rules.items ++ (record { left = record { 0 = set }; op = op; operand = record { 0 = operand } }) ∷ [])

-- a byte was put before an end of a text: a nonterminal more, with this production
pub record PutsByte (old new : Lines) (b : ℕ) (behind s : Symbol) : Type 0 where
  pub byte : ByteRange
  pub low : byte.lo ≡ b
  pub high : byte.hi ≡ b
  pub count : new.count ≡ old.count + 1
  pub productions : new.productions.items
      ≡ old.productions.items ++ (record { left = record { 0 = old.count }; right = Two (Range byte) behind }) ∷ []
  pub rules : new.rules.items ≡ old.rules.items
  pub symbol : s ≡ Nt (record { 0 = old.count })

-- bytes were put before an end of a text, the last of them first
pub data PutsBytes : Lines → Lines → List ℕ → Symbol → Symbol → Type 0 where
  none : (lines : Lines) (s : Symbol) → PutsBytes lines lines [] s s
  more : (old mid new : Lines) (b : ℕ) (w : List ℕ) (behind s t : Symbol) → PutsBytes old mid w behind s → PutsByte mid new b s t
      → PutsBytes old new (b ∷ w) behind t

-- a text was put: nothing for the empty one; else its bytes before the range of the last of them
pub data PutsText : Lines → Lines → List ℕ → Option Symbol → Type 0 where
  nothing : (lines : Lines) → PutsText lines lines [] None
  something : (old new : Lines) (before : List ℕ) (b : ℕ) (byte s : Symbol) → IsByte b byte → PutsBytes old new before byte s
      → PutsText old new (before ++ b ∷ []) (Some s)

-- a text was put, and a production behind it
pub record WritesText (old new : Lines) (set : ℕ) (w : List ℕ) : Type 0 where
  pub between : Lines
  pub symbol : Option Symbol
  pub puts : PutsText old between w symbol
  pub adds : AddsProduction between new set (text_right symbol)

-- a text was put, and a production of it before a set behind it
pub record WritesBefore (old new : Lines) (set : ℕ) (w : List ℕ) (other : ℕ) : Type 0 where
  pub between : Lines
  pub symbol : Option Symbol
  pub puts : PutsText old between w symbol
  pub adds : AddsProduction between new set (before_right symbol other)

-- a draft of no sets: the productions that are given, and behind their nonterminals the start
pub record IsBegun (closed : Closed) (count : ℕ) (d : Draft) : Type 0 where
  pub count_is : d.lines.count ≡ count + 1
  pub productions : d.lines.productions.items ≡ closed.productions
  pub rules : d.lines.rules.items ≡ []
  pub said : d.said.items ≡ []
  pub waiting : d.waiting.items ≡ []
  pub request : d.request ≡ closed.request
  pub integer : d.integer ≡ closed.integer
  pub start : d.start ≡ count

-- the same numbers of what is given and of the start
abbrev pub SameNumbers : Draft → Draft → Type 0
SameNumbers old new = (new.request ≡ old.request) × (new.integer ≡ old.integer) × (new.start ≡ old.start)

-- the same numbers, and the same beside the lines
abbrev pub SameBeside : Draft → Draft → Type 0
SameBeside old new = (new.said.items ≡ old.said.items) × (new.waiting.items ≡ old.waiting.items) × SameNumbers old new

-- one nonterminal more, of this number
pub record AddsSet (old new : Draft) (number : ℕ) : Type 0 where
  pub number_is : number ≡ old.lines.count
  pub count : new.lines.count ≡ old.lines.count + 1
  pub productions : new.lines.productions.items ≡ old.lines.productions.items
  pub rules : new.lines.rules.items ≡ old.lines.rules.items
  pub beside : SameBeside old new

-- the start takes over a set
abbrev pub AddsStart : Draft → Draft → ℕ → Type 0
AddsStart old new set = AddsProduction old.lines new.lines old.start (same_right set) × SameBeside old new

-- one row by which a set says yes more
abbrev pub SaysToo : Draft → Draft → ℕ → Right → Type 0
SaysToo old new set right =
    (new.said.items ≡ old.said.items ++ (record { left = record { 0 = set }; right = right }) ∷ [])
    × (new.waiting.items ≡ old.waiting.items) × SameNumbers old new

-- the same, and no line more
abbrev pub Says : Draft → Draft → ℕ → Right → Type 0
Says old new set right = SameLines old.lines new.lines × SaysToo old new set right

-- one text that waits more
abbrev pub Waits : Draft → Draft → ℕ → List ℕ → ℕ → Type 0
Waits old new set w other =
    (new.waiting.items ≡ old.waiting.items ++ (record { set = set; text = w; other = other }) ∷ [])
    × (new.said.items ≡ old.said.items) × SameNumbers old new

-- a row of a set was written
abbrev pub Writes : Draft → Draft → ℕ → Form ℕ → Type 0
Writes old new set (text_form w) = WritesText old.lines new.lines set w × SameBeside old new
Writes old new set (same_form a) = AddsProduction old.lines new.lines set (same_right a) × SaysToo old new set (same_right a)
Writes old new set (join_form a b) =
    AddsProduction old.lines new.lines set (Two (Nt (record { 0 = a })) (Nt (record { 0 = b }))) × SameBeside old new
Writes old new set (before_form w a) = WritesBefore old.lines new.lines set w a × SameBeside old new
Writes old new set request_form = AddsProduction old.lines new.lines set (same_right old.request) × SameBeside old new
Writes old new set integer_form = AddsProduction old.lines new.lines set (same_right old.integer) × SameBeside old new
Writes old new set (apply_form op a) = AddsRule old.lines new.lines set op a × SameBeside old new
Writes old new set yes_form = SameLines old.lines new.lines × SaysToo old new set Empty
Writes old new set (where_form w a) = SameLines old.lines new.lines × Waits old new set w a

-- a text that waited was written, if its other set is marked
pub data WritesWhere (marks : List Bool) : Lines → Lines → Waiting → Type 0 where
  marked : (old new : Lines) (x : Waiting) → get_or marks x.other false ≡ true → WritesText old new x.set x.text → WritesWhere marks old new x
  unmarked : (lines : Lines) (x : Waiting) → get_or marks x.other false ≡ false → WritesWhere marks lines lines x

-- so were these texts, one after another
pub data WritesWaiting (marks : List Bool) : Lines → Lines → List Waiting → Type 0 where
  none : (lines : Lines) → WritesWaiting marks lines lines []
  more : (old mid new : Lines) (xs : List Waiting) (x : Waiting) → WritesWaiting marks old mid xs → WritesWhere marks mid new x
      → WritesWaiting marks old new (xs ++ x ∷ [])

-- each number in a draft is below the count, and no page token stands in it
pub record IsBelow (d : Draft) : Type 0 where
  pub start : d.start < d.lines.count
  pub productions : AreBelow d.lines.count d.lines.productions.items
  pub rules : RulesAreBelow d.lines.count d.lines.rules.items
  pub tokens : HaveNoToken d.lines.productions.items
  pub said : AreBelow d.lines.count d.said.items
  pub waiting : (x : Waiting) → Contains d.waiting.items x → x.set < d.lines.count

-- the system has the lines of the draft, and those of the texts that wait whose sets say yes
pub record Finishes (d : Draft) (s : OpSystem) : Type 0 where
  pub marks : List Bool
  pub exact : (a : nt.Nt) → IsMarked marks a.0 ↔ IsProductive d.said.items a
  pub lines : Lines
  pub written : WritesWaiting marks d.lines lines d.waiting.items
  pub count : s.grammar.count ≡ lines.count
  pub productions : s.grammar.productions.items ≡ lines.productions.items
  pub rules : s.ops.items ≡ lines.rules.items
  pub start : s.start.0 ≡ d.start
