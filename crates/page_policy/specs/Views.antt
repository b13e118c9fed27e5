-- What is held in memory while a pattern file is read. No public clause cites this.
use Rattle.std.specs.Prelude.{◌≡◌, ◌<◌, ◌↔◌, ℕ, Bool, true, false, ◌⊎◌, List, [], ◌∷◌, Option, Some, None, ⊤}
use Rattle.std.specs.Borrow.{Bor}
use Rattle.text_base.specs.ByteSet.{Has}
use Rattle.text_base.specs.declared.byte_range.ByteRange.{ByteRange}
use Rattle.derivatives.specs.declared.arena.Arena.{Arena}
use Rattle.byte_forms.specs.declared.class.ByteClass.{ByteClass}
use Rattle.page_policy.specs.Patterns.{Pattern, in_ranges}
use Rattle.page_policy.specs.Forms.{IsForm}
use Rattle.page_policy.specs.Grammar.{is_sign, is_set_sign, Ranges, Byte}
use Rattle.page_policy.specs.Machine.{PlainPart, byte, opened, closed, barred, State, wrong, at, repeat_at, PartAt}
use Rattle.page_policy.specs.declared.part.Repeat.{Repeat}
use Rattle.page_policy.specs.declared.part.Part.{Part}
use Rattle.page_policy.specs.declared.part.Part.TheVariants as part
use Rattle.page_policy.specs.declared.frame.Frame.{Frame}

-- a byte that is read, and what stands behind it
abbrev pub byte_read : Option (ℕ × Bor (List ℕ)) → Option (ℕ × List ℕ)
byte_read None = None
byte_read (Some r) = Some (r.0, r.1.now)

-- a range that is read, and what stands behind it
abbrev pub range_read : Option (ByteRange × Bor (List ℕ)) → Option ((ℕ × ℕ) × List ℕ)
range_read None = None
range_read (Some r) = Some ((r.0.lo, r.0.hi), r.1.now)

-- the bytes that do not stand for themselves, in a set of bytes and elsewhere
abbrev pub signs : Bool → ℕ → Bool
signs true = is_set_sign
signs false = is_sign

-- the set has the bytes of these ranges
abbrev pub HasRanges : List Bool → List (ℕ × ℕ) → Type 0
HasRanges set rs = (b : ℕ) → b < 256 → Has set b ↔ (in_ranges rs b ≡ true)

-- these bytes are meant
pub record IsClass (class : ByteClass) (out : Bool) (rs : List (ℕ × ℕ)) : Type 0 where
  pub others : class.others ≡ out
  pub ranges : HasRanges class.set rs

-- ranges are read, up to the end of their set
pub record ReadsRanges (bytes : List ℕ) (set : List Bool) (rest : List ℕ) : Type 0 where
  pub ranges : List (ℕ × ℕ)
  pub read : Ranges ranges bytes rest
  pub has : HasRanges set ranges

-- some ranges are read: with those behind them they are all, and behind them stand others
pub record RangesSoFar (bytes : List ℕ) (set : List Bool) (rest : List ℕ) : Type 0 where
  pub forth : (rs : List (ℕ × ℕ)) (w : List ℕ) → Ranges rs rest w
      → (all : List (ℕ × ℕ)) × Ranges all bytes w × ((b : ℕ) → b < 256 → (Has set b ⊎ (in_ranges rs b ≡ true)) ↔ (in_ranges all b ≡ true))
  pub back : (rs : List (ℕ × ℕ)) (w : List ℕ) → Ranges rs bytes w → (behind : List (ℕ × ℕ)) × Ranges behind rest w

-- a class of bytes is read
pub record ReadsClass (bytes : List ℕ) (class : ByteClass) (rest : List ℕ) : Type 0 where
  pub out : Bool
  pub ranges : List (ℕ × ℕ)
  pub read : Byte out ranges bytes rest
  pub is : IsClass class out ranges

-- a part in memory is this one
abbrev pub IsPart : Part → PlainPart → Type 0
IsPart (part.Byte class r) (byte out rs q) = IsClass class out rs × (r ≡ q)
IsPart part.Open opened = ⊤
IsPart (part.Close r) (closed q) = r ≡ q
IsPart part.Bar barred = ⊤
IsPart p x = ⊥

-- a part is read
pub record ReadsPart (bytes : List ℕ) (p : Part) (rest : List ℕ) : Type 0 where
  pub plain : PlainPart
  pub read : PartAt plain bytes rest
  pub is : IsPart p plain

-- how often, in memory, and what stands behind it
abbrev pub repeat_read : Repeat × Bor (List ℕ) → Repeat × List ℕ
repeat_read r = (r.0, r.1.now)

-- parts in memory are these
abbrev pub AreParts : List Part → List PlainPart → Type 0
AreParts [] [] = ⊤
AreParts (p ∷ ps) (x ∷ xs) = IsPart p x × AreParts ps xs
AreParts ps xs = ⊥

-- the number, if there is one, stands for this pattern
abbrev pub IsFormIf : Arena → Option ℕ → Option Pattern → Type 0
IsFormIf arena None None = ⊤
IsFormIf arena (Some n) (Some p) = IsForm arena n p
IsFormIf arena n p = ⊥

-- what stands behind a bracket is this
pub record IsOuter (arena : Arena) (frame : Frame) (o : Pattern × Option Pattern × Repeat) : Type 0 where
  pub row : IsForm arena frame.row o.0
  pub others : IsFormIf arena frame.others o.1
  pub repeat : frame.repeat ≡ o.2

-- what stands behind each bracket is this
abbrev pub AreOuter : Arena → List Frame → List (Pattern × Option Pattern × Repeat) → Type 0
AreOuter arena [] [] = ⊤
AreOuter arena (f ∷ fs) (o ∷ os) = IsOuter arena f o × AreOuter arena fs os
AreOuter arena fs os = ⊥

-- what is held is this state
abbrev pub Holds : Arena → ℕ → Option ℕ → List Frame → State → Type 0
Holds arena row others outer wrong = ⊥
Holds arena row others outer (at p q os) = IsForm arena row p × IsFormIf arena others q × AreOuter arena outer os
