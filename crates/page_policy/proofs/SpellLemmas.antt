-- What is read of a file is what it spells.
use Rattle.std.proofs.Common.{◌≡◌, ◌∙◌, ℕ, Bool, true, false, List, [], ◌∷◌, Option, Some, None, refl, sym, ap, subst, eqb-true}
use Rattle.std.specs.Prelude.{⊤, ◌==◌, if◌then◌else◌}
use Rattle.std.proofs.lemmas.Bool.{cases_eq}
use Rattle.page_policy.specs.Patterns.{Pattern, byte_of, void, seq, alt, any, some, maybe}
use Rattle.page_policy.specs.Grammar as grammar
use Rattle.page_policy.specs.Grammar.{Ranges, Byte, dot, itself, inside, outside, Alt, one, or, Row, over, on, Item, once, times, plus, perhaps, Atom, bracket, body_of, Spells, is_sign, byte_at}
use Rattle.page_policy.specs.Machine.{PlainPart, byte, opened, closed, barred, repeat_at, PartAt, is_byte, opens, closes, bars, Cut, all, further, repeated, joined, Outer, State, wrong, at, put, state_of}
use Rattle.page_policy.specs.declared.part.Repeat.{Repeat}
use Rattle.page_policy.specs.declared.part.Repeat.TheVariants.{Once, Any, AtLeastOnce, AtMostOnce}
use Rattle.page_policy.proofs.PartLemmas.{none_read, one_cut}

-- From what is read to the grammar.

-- the alternatives behind a row
pub data Others : Option Pattern → List ℕ → List ℕ → Type 0 where
  no_others : {w : List ℕ} → Others None w w
  some_others : {p : Pattern} {u w : List ℕ} → Alt p u w → Others (Some p) (124 ∷ u) w

mutual
  -- a row begins here, with its alternatives, and behind the bracket that closes them the same
  pub data Left : List ℕ → Pattern → Option Pattern → List Outer → Type 0 where
    left : {u v w : List ℕ} {row : Pattern} {o : Option Pattern} {outer : List Outer}
        → Row row u v → Others o v w → Behind outer w → Left u row o outer

  pub data Behind : List Outer → List ℕ → Type 0 where
    no_more : Behind [] []
    behind : {u v : List ℕ} {row : Pattern} {o : Option Pattern} {r : Repeat} {outer : List Outer}
        → repeat_at u ≡ (r, v) → Left v row o outer → Behind ((row, o, r) ∷ outer) (41 ∷ u)

-- what is to be shown of a state
abbrev pub IsLeft : List ℕ → State → Type 0
IsLeft u wrong = ⊤
IsLeft u (at row o outer) = Left u row o outer

-- an atom and how often it stands
item_of : {p : Pattern} {u : List ℕ} (v : List ℕ) → Atom p u v → Item (repeated (repeat_at v).0 p) u (repeat_at v).1
item_of [] a = once a
item_of {p} {u} (b ∷ v) a = by (b == 42) (b == 43) (b == 63) refl refl refl
  where
    by : (x y z : Bool) → (b == 42) ≡ x → (b == 43) ≡ y → (b == 63) ≡ z → Item (repeated (repeat_at (b ∷ v)).0 p) u (repeat_at (b ∷ v)).1
    by true y z e f g = rw e (times (subst (λ (c : ℕ). Atom p u (c ∷ v)) (eqb-true b 42 e) a))
    by false true z e f g = rw e (rw f (plus (subst (λ (c : ℕ). Atom p u (c ∷ v)) (eqb-true b 43 f) a)))
    by false false true e f g = rw e (rw f (rw g (perhaps (subst (λ (c : ℕ). Atom p u (c ∷ v)) (eqb-true b 63 g) a))))
    by false false false e f g = rw e (rw f (rw g (once a)))

item_by : {p : Pattern} {u v w : List ℕ} {r : Repeat} → Atom p u v → repeat_at v ≡ (r, w) → Item (repeated r p) u w
item_by {p} {u} {v} a e = subst (λ (q : Repeat × List ℕ). Item (repeated q.0 p) u q.1) e (item_of v a)

alt_of : {row : Pattern} {o : Option Pattern} {u v w : List ℕ} → Row row u v → Others o v w → Alt (joined row o) u w
alt_of r no_others = one r
alt_of r (some_others a) = or r a

left_step : {x : PlainPart} {u v : List ℕ} → PartAt x u v → (s : State) → IsLeft v s → IsLeft u (put x s)
left_step h wrong l = tt
left_step (is_byte d e) (at row o outer) (left r os b) = left (on (item_by (grammar.byte d) e) r) os b
left_step bars (at row o outer) (left r os b) = left over (some_others (alt_of r os)) b
left_step (closes e) (at row o outer) l = left over no_others (behind e l)
left_step opens (at row o []) l = tt
left_step opens (at row o (q ∷ outer)) (left r os (behind e (left rr oo b))) = left (on (item_by (bracket (alt_of r os)) e) rr) oo b

pub is_left : {xs : List PlainPart} {u : List ℕ} → Cut xs u → IsLeft u (state_of xs)
is_left all = left over no_others no_more
is_left (further {xs = xs} h d) = left_step h (state_of xs) (is_left d)

-- a file of which all is read spells what is read
all_read : {u : List ℕ} {row : Pattern} {o : Option Pattern} → Left u row o [] → Alt (joined row o) u []
all_read (left r os no_more) = alt_of r os

pub spelled : {xs : List PlainPart} {u : List ℕ} (row : Pattern) (o : Option Pattern) → Cut xs u → state_of xs ≡ at row o [] → Alt (joined row o) u []
spelled {xs} {u} row o d e = all_read (subst (λ (s : State). IsLeft u s) e (is_left d))

-- From the grammar to what is read.

pub record Read (u : List ℕ) (s : State) : Type 0 where
  pub parts : List PlainPart
  pub cut : Cut parts u
  pub is : state_of parts ≡ s

read_more : {x : PlainPart} {u v : List ℕ} {s : State} → PartAt x u v → Read v s → Read u (put x s)
read_more {x} h r = record { parts = x ∷ r.parts; cut = further h r.cut; is = ap (put x) r.is }

-- a byte that stands for itself is no sign
sign_alone : {r : ℕ × List ℕ} (u : List ℕ) → byte_at is_sign u ≡ Some r → repeat_at u ≡ (Once, u)
sign_alone [] e = refl
sign_alone {r} (b ∷ u) e = by (b == 42) (b == 43) (b == 63) refl refl refl
  where
    by : (x y z : Bool) → (b == 42) ≡ x → (b == 43) ≡ y → (b == 63) ≡ z → repeat_at (b ∷ u) ≡ (Once, b ∷ u)
    by true y z f g h = absurd (none_read (subst (λ (c : ℕ). byte_at is_sign (c ∷ u) ≡ Some r) (eqb-true b 42 f) e))
    by false true z f g h = absurd (none_read (subst (λ (c : ℕ). byte_at is_sign (c ∷ u) ≡ Some r) (eqb-true b 43 g) e))
    by false false true f g h = absurd (none_read (subst (λ (c : ℕ). byte_at is_sign (c ∷ u) ≡ Some r) (eqb-true b 63 h) e))
    by false false false f g h = rw f (rw g (rw h refl))

-- what stands before a part, or at the end, is not repeated
byte_alone : {out : Bool} {rs : List (ℕ × ℕ)} {u v : List ℕ} → Byte out rs u v → repeat_at u ≡ (Once, u)
byte_alone dot = refl
byte_alone (inside d) = refl
byte_alone (outside d) = refl
byte_alone {u = u} (itself e) = sign_alone u e

part_alone : {x : PlainPart} {u v : List ℕ} → PartAt x u v → repeat_at u ≡ (Once, u)
part_alone (is_byte d e) = byte_alone d
part_alone opens = refl
part_alone (closes e) = refl
part_alone bars = refl

cut_alone : {xs : List PlainPart} {u : List ℕ} → Cut xs u → repeat_at u ≡ (Once, u)
cut_alone all = refl
cut_alone (further h d) = part_alone h

-- alternatives that are read
pub record ReadAll (u : List ℕ) (p : Pattern) (outer : List Outer) : Type 0 where
  pub row : Pattern
  pub others : Option Pattern
  pub read : Read u (at row others outer)
  pub is : joined row others ≡ p

bar_read : {u : List ℕ} (q : Pattern) (outer : List Outer) → ReadAll u q outer → Read (124 ∷ u) (at void (Some q) outer)
bar_read {u} q outer whole = subst (λ (p : Pattern). Read (124 ∷ u) (at void (Some p) outer)) whole.is (read_more bars whole.read)

bracket_read : {p : Pattern} {u : List ℕ} (row : Pattern) (o : Option Pattern) (outer : List Outer) (r : Repeat)
    → ReadAll u p ((row, o, r) ∷ outer) → Read (40 ∷ u) (at (seq (repeated r p) row) o outer)
bracket_read {p} {u} row o outer r whole = subst (λ (q : Pattern). Read (40 ∷ u) (at (seq (repeated r q) row) o outer)) whole.is (read_more opens whole.read)

mutual
  alt_read : {p : Pattern} {u w : List ℕ} (outer : List Outer) → Alt p u w → Read w (at void None outer) → ReadAll u p outer
  alt_read {p} outer (one r) read = record { row = p; others = None; read = row_read None outer r read; is = refl }
  alt_read outer (or {p = p} {q = q} r a) read =
      let rest = alt_read outer a read in
      record { row = p; others = Some q; read = row_read (Some q) outer r (bar_read q outer rest); is = refl }

  row_read : {p : Pattern} {u w : List ℕ} (o : Option Pattern) (outer : List Outer) → Row p u w → Read w (at void o outer) → Read u (at p o outer)
  row_read o outer over read = read
  row_read o outer (on {q = q} i r) read = item_read q o outer i (row_read o outer r read)

  item_read : {p : Pattern} {u w : List ℕ} (row : Pattern) (o : Option Pattern) (outer : List Outer) → Item p u w → Read w (at row o outer) → Read u (at (seq p row) o outer)
  item_read row o outer (once a) read = atom_read row o outer Once a (cut_alone read.cut) read
  item_read row o outer (times a) read = atom_read row o outer Any a refl read
  item_read row o outer (plus a) read = atom_read row o outer AtLeastOnce a refl read
  item_read row o outer (perhaps a) read = atom_read row o outer AtMostOnce a refl read

  atom_read : {p : Pattern} {u v w : List ℕ} (row : Pattern) (o : Option Pattern) (outer : List Outer) (r : Repeat)
      → Atom p u v → repeat_at v ≡ (r, w) → Read w (at row o outer) → Read u (at (seq (repeated r p) row) o outer)
  atom_read row o outer r (grammar.byte d) e read = read_more (is_byte d e) read
  atom_read row o outer r (bracket a) e read = bracket_read row o outer r (alt_read ((row, o, r) ∷ outer) a (read_more (closes e) read))

pub spelled_read : {p : Pattern} {u : List ℕ} → Alt p u [] → ReadAll u p []
spelled_read a = alt_read [] a (record { parts = []; cut = all; is = refl })

-- One pattern.

pattern_of : State → Pattern
pattern_of wrong = void
pattern_of (at row o outer) = joined row o

one_state : {u : List ℕ} {s t : State} → Read u s → Read u t → s ≡ t
one_state r q = sym r.is ∙ ap state_of (one_cut r.cut q.cut) ∙ q.is

one_alt : {p q : Pattern} {u : List ℕ} → Alt p u [] → Alt q u [] → p ≡ q
unfolding pattern_of
one_alt a b = let r = spelled_read a in let t = spelled_read b in sym r.is ∙ ap pattern_of (one_state r.read t.read) ∙ t.is

pub spell_one : (file : List ℕ) (p q : Pattern) → Spells file p → Spells file q → p ≡ q
spell_one file p q a b = one_alt a b

-- What is not cut, or not read to the end, spells nothing.

pub uncut : {p : Pattern} {u : List ℕ} → ((xs : List PlainPart) → Cut xs u → ⊥) → Alt p u [] → ⊥
uncut none a = let r = spelled_read a in none r.read.parts r.read.cut

abbrev pub IsWhole : State → Type 0
IsWhole wrong = ⊥
IsWhole (at row o []) = ⊤
IsWhole (at row o (q ∷ outer)) = ⊥

pub unread : {xs : List PlainPart} {p : Pattern} {u : List ℕ} → Cut xs u → (IsWhole (state_of xs) → ⊥) → Alt p u [] → ⊥
unread {xs} {p} {u} d none a = let r = spelled_read a in none (subst IsWhole (sym (ap state_of (one_cut d r.read.cut) ∙ r.read.is)) tt)
