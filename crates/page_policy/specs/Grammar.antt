-- Pattern files: which bytes spell which pattern; this project's own.
use Rattle.std.specs.Prelude.{◌≡◌, ◌+◌, ◌*◌, ◌==◌, ◌&&◌, ◌||◌, ℕ, Bool, true, false, if◌then◌else◌, List, [], ◌∷◌, Option, Some, None, nat_le}
use Rattle.std.specs.Char.{is_ascii_hexdigit, digit_value, is_ascii_punctuation}
use Rattle.page_policy.specs.Patterns.{Pattern, byte_of, void, seq, alt, any, some, maybe}

-- behind `\x`: two digits of base 16, in either case
abbrev pub digits_at : List ℕ → Option (ℕ × List ℕ)
digits_at [] = None
digits_at (high ∷ []) = None
digits_at (high ∷ low ∷ rest) =
    if is_ascii_hexdigit high && is_ascii_hexdigit low then Some (16 * digit_value high + digit_value low, rest) else None

-- behind a backslash: `n` (LF), `r` (CR), `t` (tab), `x` and two digits, or a sign of ASCII, which stands for itself
abbrev pub escape_at : List ℕ → Option (ℕ × List ℕ)
escape_at [] = None
escape_at (b ∷ rest) =
    if b == 110 then Some (10, rest) else if b == 114 then Some (13, rest) else if b == 116 then Some (9, rest)
    else if b == 120 then digits_at rest else if is_ascii_punctuation b then Some (b, rest) else None

-- one of `. | ( ) [ ] * + ?`
abbrev pub is_sign : ℕ → Bool
is_sign b = b == 46 || b == 124 || b == 40 || b == 41 || b == 91 || b == 93 || b == 42 || b == 43 || b == 63

-- one of `] - ^`
abbrev pub is_set_sign : ℕ → Bool
is_set_sign b = b == 93 || b == 45 || b == 94

-- a byte that stands for itself, or what stands behind a backslash, 92
abbrev pub byte_at : (ℕ → Bool) → List ℕ → Option (ℕ × List ℕ)
byte_at sign [] = None
byte_at sign (b ∷ rest) = if b == 92 then escape_at rest else if sign b then None else Some (b, rest)

-- from the first byte to the second, which is not smaller
abbrev pub range_to : ℕ → Option (ℕ × List ℕ) → Option ((ℕ × ℕ) × List ℕ)
range_to low None = None
range_to low (Some r) = if nat_le low r.0 then Some ((low, r.0), r.1) else None

-- behind the first byte of a range: `-`, 45, and the last, or nothing
abbrev pub range_from : ℕ → List ℕ → Option ((ℕ × ℕ) × List ℕ)
range_from low [] = Some ((low, low), [])
range_from low (b ∷ rest) = if b == 45 then range_to low (byte_at is_set_sign rest) else Some ((low, low), b ∷ rest)

-- behind what is read, if anything is
abbrev pub range_of : Option (ℕ × List ℕ) → Option ((ℕ × ℕ) × List ℕ)
range_of None = None
range_of (Some r) = range_from r.0 r.1

-- `range`: one byte, or two with `-` between them
abbrev pub range_at : List ℕ → Option ((ℕ × ℕ) × List ℕ)
range_at bytes = range_of (byte_at is_set_sign bytes)

-- one or more ranges and `]`, 93
pub data Ranges : List (ℕ × ℕ) → List ℕ → List ℕ → Type 0 where
  last : {r : ℕ × ℕ} {u w : List ℕ} → range_at u ≡ Some (r, 93 ∷ w) → Ranges (r ∷ []) u w
  more : {r : ℕ × ℕ} {rs : List (ℕ × ℕ)} {u v w : List ℕ} → range_at u ≡ Some (r, v) → Ranges rs v w → Ranges (r ∷ rs) u w

-- `.`, 46, is any byte; a byte by itself; ranges in `[`, 91, and `]`; with `^`, 94, all other bytes
pub data Byte : Bool → List (ℕ × ℕ) → List ℕ → List ℕ → Type 0 where
  dot : {w : List ℕ} → Byte true [] (46 ∷ w) w
  itself : {b : ℕ} {u w : List ℕ} → byte_at is_sign u ≡ Some (b, w) → Byte false ((b, b) ∷ []) u w
  inside : {rs : List (ℕ × ℕ)} {u w : List ℕ} → Ranges rs u w → Byte false rs (91 ∷ u) w
  outside : {rs : List (ℕ × ℕ)} {u w : List ℕ} → Ranges rs u w → Byte true rs (91 ∷ 94 ∷ u) w

-- The bytes u begin with a spelling of the pattern, and w stands behind it. `|` is 124, brackets are 40 and 41, `*` is 42, `+` 43, `?` 63.
mutual
  pub data Alt : Pattern → List ℕ → List ℕ → Type 0 where
    one : {p : Pattern} {u w : List ℕ} → Row p u w → Alt p u w
    or : {p q : Pattern} {u v w : List ℕ} → Row p u (124 ∷ v) → Alt q v w → Alt (alt p q) u w

  pub data Row : Pattern → List ℕ → List ℕ → Type 0 where
    over : {w : List ℕ} → Row void w w
    on : {p q : Pattern} {u v w : List ℕ} → Item p u v → Row q v w → Row (seq p q) u w

  pub data Item : Pattern → List ℕ → List ℕ → Type 0 where
    once : {p : Pattern} {u w : List ℕ} → Atom p u w → Item p u w
    times : {p : Pattern} {u w : List ℕ} → Atom p u (42 ∷ w) → Item (any p) u w
    plus : {p : Pattern} {u w : List ℕ} → Atom p u (43 ∷ w) → Item (some p) u w
    perhaps : {p : Pattern} {u w : List ℕ} → Atom p u (63 ∷ w) → Item (maybe p) u w

  pub data Atom : Pattern → List ℕ → List ℕ → Type 0 where
    byte : {out : Bool} {rs : List (ℕ × ℕ)} {u w : List ℕ} → Byte out rs u w → Atom (byte_of out rs) u w
    bracket : {p : Pattern} {u w : List ℕ} → Alt p u (41 ∷ w) → Atom p (40 ∷ u) w

-- the bytes without one LF, 10, at their end
abbrev pub body_of : List ℕ → List ℕ
body_of [] = []
body_of (b ∷ []) = if b == 10 then [] else b ∷ []
body_of (b ∷ next ∷ bytes) = b ∷ body_of (next ∷ bytes)

-- the file spells the pattern; one LF at its end is no part of it
abbrev pub Spells : List ℕ → Pattern → Type 0
Spells file p = Alt p (body_of file) []
