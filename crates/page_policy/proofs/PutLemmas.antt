-- A part is put before what is held.
use Rattle.std.proofs.Common.{◌≡◌, ◌∙◌, ◌<◌, ◌+◌, ℕ, suc, Bool, true, false, List, [], ◌∷◌, Option, Some, None, Result, Ok, Err, IfOk, OnOk, refl, sym, ap, subst, length, drop, get_or, arith}
use Rattle.std.specs.Prelude.{⊤, MatchOption}
use Rattle.std.specs.Option.{is_some}
use Rattle.std.specs.Borrow.{Bor}
use Rattle.std.proofs.lemmas.Option.{slice_get-get_or}
use Rattle.text_base.specs.declared.memory.NoMemory.{NoMemory}
use Rattle.derivatives.specs.Expressions.{empty}
use Rattle.derivatives.specs.Derivatives.{either_of}
use Rattle.derivatives.specs.Standing.{IsExpr, IsMade, Grows, expr_at}
use Rattle.derivatives.specs.declared.arena.Arena.{Arena}
use Rattle.byte_forms.specs.declared.class.ByteClass.{ByteClass}
use Rattle.page_policy.specs.Patterns.{Pattern, byte_of, void, seq}
use Rattle.page_policy.specs.Forms.{IsForm}
use Rattle.page_policy.specs.Machine.{PlainPart, byte, opened, closed, barred, Outer, State, wrong, at, put, state_of, joined, repeated}
use Rattle.page_policy.specs.Views.{IsPart, IsClass, AreParts, IsFormIf, AreOuter, Holds}
use Rattle.page_policy.specs.Built.{HoldsIn, IsHeld, IsPut, IsBuilt}
use Rattle.page_policy.specs.declared.part.Part.{Part}
use Rattle.page_policy.specs.declared.part.Part.TheVariants as part
use Rattle.page_policy.specs.declared.part.Repeat.{Repeat}
use Rattle.page_policy.specs.declared.frame.Frame.{Frame}
use Rattle.page_policy.specs.declared.building.Building.{Building}
use Rattle.page_policy.specs.declared.pattern.Pattern.{Pattern as Held}
use Rattle.page_policy.proofs.FormLemmas.{made_on, void_form, alt_form}
use Rattle.page_policy.proofs.BuildLemmas.{form_if_on, outers_on, holds_on, there, none_left, wrong_behind}

-- The row with the alternatives behind it.

-- what comes of the row and the alternatives
abbrev pub Joins : Arena → ℕ → Option ℕ → List Frame → Arena → ℕ → Type 0
Joins a row others fs c r = (p : Pattern) (o : Option Pattern) (os : List Outer) → Holds a row others fs (at p o os) → IsForm c r (joined p o)

-- what is held is held still
abbrev pub Stays : Building → Building → Type 0
Stays old new = (p : Pattern) (o : Option Pattern) (os : List Outer) → HoldsIn old (at p o os) → HoldsIn new (at p o os)

pub joined_made : (a c : Arena) (row n : ℕ) (others : Option ℕ) (fs : List Frame) (res : Result ℕ NoMemory) → others ≡ Some n
    → IfOk res (λ r. IsMade c r (either_of (expr_at a row) (expr_at a n)))
    → (p : Pattern) (o : Option Pattern) (os : List Outer) → Holds a row others fs (at p o os) → IfOk res (λ r. IsForm c r (joined p o))
joined_made a c row n others fs (Ok r) e m p (Some q) os h = alt_form a c row n r p q h.0 (subst (λ (z : Option ℕ). IsFormIf a z (Some q)) e h.1) m
joined_made a c row n others fs (Ok r) e m p None os h = absurd (subst (λ (z : Option ℕ). IsFormIf a z None) e h.1)
joined_made a c row n others fs (Err f) e m p o os h = tt

pub joined_keeps : (a c : Arena) (row : ℕ) (others : Option ℕ) (fs : List Frame) (res : Result ℕ NoMemory) → Grows a c
    → (p : Pattern) (o : Option Pattern) (os : List Outer) → Holds a row others fs (at p o os) → OnOk res (Holds c row others fs (at p o os))
joined_keeps a c row others fs (Ok r) g p o os h = holds_on a c row others fs (at p o os) g h
joined_keeps a c row others fs (Err f) g p o os h = tt

-- The beginning, and the end.

pub begun : (a : Arena) (n : ℕ) (fs : List Frame) → fs ≡ [] → IsMade a n empty → Holds a n None fs (at void None [])
begun a n fs e m = (void_form a n m, tt, subst (λ (z : List Frame). AreOuter a z []) (sym e) tt)

none_outer : (a : Arena) (fs : List Frame) (q : Outer) (os : List Outer) → fs ≡ [] → AreOuter a fs (q ∷ os) → ⊥
none_outer a fs q os e h = subst (λ (z : List Frame). AreOuter a z (q ∷ os)) e h

pub none_last : (fs : List Frame) (o : Option (Bor Frame)) → false ≡ is_some o → MatchOption o (fs ≡ []) (λ value. (rest : List Frame) × (fs ≡ value.now ∷ rest)) → fs ≡ []
none_last fs None e h = h
none_last fs (Some f) e h = absurd (differ e)
  where
    differ : false ≡ true → ⊥
    differ d = cc

pub built : (old : Building) (c : Arena) (r : ℕ) (s : State) → old.outer ≡ [] → HoldsIn old s
    → ((p : Pattern) (o : Option Pattern) (os : List Outer) → HoldsIn old (at p o os) → IsForm c r (joined p o)) → IsBuilt (Some (record { arena = c; root = r })) s
built old c r wrong e h made = h
built old c r (at p o []) e h made = made p o [] h
built old c r (at p o (q ∷ os)) e h made = none_outer old.arena old.outer q os e h.2

-- A byte.

pub held_on : (a b : Arena) (row : ℕ) (others : Option ℕ) (fs : List Frame) → Grows a b
    → ((p : Pattern) × (o : Option Pattern) × (os : List Outer) × Holds a row others fs (at p o os))
    → (p : Pattern) × (o : Option Pattern) × (os : List Outer) × Holds b row others fs (at p o os)
held_on a b row others fs g h = (h.0, h.1, h.2, holds_on a b row others fs (at h.0 h.1 h.2) g h.3)

-- what is put first, so often
abbrev pub IsFirst : Arena → ℕ → ℕ → Option ℕ → List Frame → Repeat → Building → Type 0
IsFirst b form row others fs r new =
    (p q : Pattern) (o : Option Pattern) (os : List Outer) → IsForm b form p → Holds b row others fs (at q o os) → HoldsIn new (at (seq (repeated r p) q) o os)

byte_first : (a b : Arena) (new : Building) (form row : ℕ) (others : Option ℕ) (fs : List Frame) (class : ByteClass) (r : Repeat) (x : PlainPart) (s : State) → Grows a b
    → ((out : Bool) (rs : List (ℕ × ℕ)) → IsClass class out rs → IsForm b form (byte_of out rs)) → IsFirst b form row others fs r new
    → IsPart (part.Byte class r) x → Holds a row others fs s → HoldsIn new (put x s)
byte_first a b new form row others fs class r (byte out rs q) (at p o os) g made first is h =
    subst (λ (z : Repeat). HoldsIn new (at (seq (repeated z (byte_of out rs)) p) o os)) is.1
    (first (byte_of out rs) p o os (made out rs is.0) (holds_on a b row others fs (at p o os) g h))
byte_first a b new form row others fs class r x wrong g made first is h = absurd h
byte_first a b new form row others fs class r opened s g made first is h = absurd is
byte_first a b new form row others fs class r (closed q) s g made first is h = absurd is
byte_first a b new form row others fs class r barred s g made first is h = absurd is

pub byte_put : (old new : Building) (b : Arena) (form : ℕ) (given : Part) (class : ByteClass) (r : Repeat) → given ≡ part.Byte class r → Grows old.arena b
    → ((out : Bool) (rs : List (ℕ × ℕ)) → IsClass class out rs → IsForm b form (byte_of out rs)) → IsFirst b form old.row old.others old.outer r new
    → (x : PlainPart) (s : State) → IsPart given x → HoldsIn old s → HoldsIn new (put x s)
byte_put old new b form given class r e g made first x s is h =
    byte_first old.arena b new form old.row old.others old.outer class r x s g made first (subst (λ (z : Part). IsPart z x) e is) h

-- A bar.

bar_first : (old mid : Building) (c : Arena) (others row : ℕ) (x : PlainPart) (s : State) → Joins old.arena old.row old.others old.outer mid.arena others → Stays old mid → Grows mid.arena c
    → IsMade c row empty → IsPart part.Bar x → HoldsIn old s → Holds c row (Some others) mid.outer (put x s)
bar_first old mid c others row barred (at p o os) made keeps g m is h =
    (void_form c row m, made_on mid.arena c others (joined p o) g (made p o os h), outers_on mid.arena c mid.outer os g (keeps p o os h).2)
bar_first old mid c others row x wrong made keeps g m is h = absurd h
bar_first old mid c others row (byte out rs q) s made keeps g m is h = absurd is
bar_first old mid c others row opened s made keeps g m is h = absurd is
bar_first old mid c others row (closed q) s made keeps g m is h = absurd is

pub bar_put : (old mid : Building) (c : Arena) (others row : ℕ) (given : Part) → given ≡ part.Bar → Joins old.arena old.row old.others old.outer mid.arena others → Stays old mid
    → Grows mid.arena c → IsMade c row empty → (x : PlainPart) (s : State) → IsPart given x → HoldsIn old s → Holds c row (Some others) mid.outer (put x s)
bar_put old mid c others row given e made keeps g m x s is h = bar_first old mid c others row x s made keeps g m (subst (λ (z : Part). IsPart z x) e is) h

-- A bracket that closes.

close_first : (old : Building) (c : Arena) (fs : List Frame) (row : ℕ) (r : Repeat) (x : PlainPart) (s : State)
    → fs ≡ (record { row = old.row; others = old.others; repeat = r }) ∷ old.outer → Grows old.arena c → IsMade c row empty
    → IsPart (part.Close r) x → HoldsIn old s → Holds c row None fs (put x s)
close_first old c fs row r (closed q) (at p o os) e g m is h = (
  void_form c row m,
  tt,
  subst (λ (z : List Frame). AreOuter c z ((p, o, q) ∷ os)) (sym e) (
    record { row = made_on old.arena c old.row p g h.0; others = form_if_on old.arena c old.others o g h.1; repeat = is },
    outers_on old.arena c old.outer os g h.2,
  ),
)
close_first old c fs row r x wrong e g m is h = absurd h
close_first old c fs row r (byte out rs q) s e g m is h = absurd is
close_first old c fs row r opened s e g m is h = absurd is
close_first old c fs row r barred s e g m is h = absurd is

pub close_put : (old : Building) (c : Arena) (fs : List Frame) (row : ℕ) (given : Part) (r : Repeat) → given ≡ part.Close r
    → fs ≡ (record { row = old.row; others = old.others; repeat = r }) ∷ old.outer → Grows old.arena c → IsMade c row empty
    → (x : PlainPart) (s : State) → IsPart given x → HoldsIn old s → Holds c row None fs (put x s)
close_put old c fs row given r k e g m x s is h = close_first old c fs row r x s e g m (subst (λ (z : Part). IsPart z x) k is) h

-- A bracket that opens.

open_none : (old mid : Building) (x : PlainPart) (s : State) → Stays old mid → mid.outer ≡ [] → IsPart part.Open x → HoldsIn old s → put x s ≡ wrong
open_none old mid opened (at p o []) keeps e is h = refl
open_none old mid opened (at p o (q ∷ os)) keeps e is h = absurd (none_outer mid.arena mid.outer q os e (keeps p o (q ∷ os) h).2)
open_none old mid x wrong keeps e is h = refl
open_none old mid (byte out rs q) s keeps e is h = absurd is
open_none old mid (closed q) s keeps e is h = absurd is
open_none old mid barred s keeps e is h = absurd is

pub none_open : (old mid : Building) (given : Part) → given ≡ part.Open → Stays old mid → mid.outer ≡ [] → (x : PlainPart) (s : State) → IsPart given x → HoldsIn old s → put x s ≡ wrong
none_open old mid given k keeps e x s is h = open_none old mid x s keeps e (subst (λ (z : Part). IsPart z x) k is) h

outer_first : (a : Arena) (frame : Frame) (rest : List Frame) (os : List Outer) → AreOuter a (frame ∷ rest) os
    → (p : Pattern) × (o : Option Pattern) × (os : List Outer) × Holds a frame.row frame.others rest (at p o os)
outer_first a frame rest [] h = absurd h
outer_first a frame rest (q ∷ os) h = (q.0, q.1, os, (h.0.row, h.0.others, h.1))

pub outer_held : (old mid : Building) (frame : Frame) (rest : List Frame) → Stays old mid → mid.outer ≡ frame ∷ rest → IsHeld old
    → (p : Pattern) × (o : Option Pattern) × (os : List Outer) × Holds mid.arena frame.row frame.others rest (at p o os)
outer_held old mid frame rest keeps e h =
    outer_first mid.arena frame rest h.2 (subst (λ (z : List Frame). AreOuter mid.arena z h.2) e (keeps h.0 h.1 h.2 h.3).2)

pub joined_is_expr : (old : Building) (c : Arena) (r : ℕ) → Joins old.arena old.row old.others old.outer c r → IsHeld old → IsExpr c r
joined_is_expr old c r made h = (made h.0 h.1 h.2 h.3).is_expr

open_first : (old mid new : Building) (form : ℕ) (frame : Frame) (rest : List Frame) (x : PlainPart) (s : State) → Joins old.arena old.row old.others old.outer mid.arena form → Stays old mid
    → mid.outer ≡ frame ∷ rest → IsFirst mid.arena form frame.row frame.others rest frame.repeat new → IsPart part.Open x → HoldsIn old s → HoldsIn new (put x s)
open_first old mid new form frame rest opened (at p o []) made keeps e first is h =
    absurd (subst (λ (z : List Frame). AreOuter mid.arena z []) e (keeps p o [] h).2)
open_first old mid new form frame rest opened (at p o (q ∷ os)) made keeps e first is h =
    let t = subst (λ (z : List Frame). AreOuter mid.arena z (q ∷ os)) e (keeps p o (q ∷ os) h).2 in
    subst (λ (z : Repeat). HoldsIn new (at (seq (repeated z (joined p o)) q.0) q.1 os)) t.0.repeat
    (first (joined p o) q.0 q.1 os (made p o (q ∷ os) h) (t.0.row, t.0.others, t.1))
open_first old mid new form frame rest x wrong made keeps e first is h = absurd h
open_first old mid new form frame rest (byte out rs q) s made keeps e first is h = absurd is
open_first old mid new form frame rest (closed q) s made keeps e first is h = absurd is
open_first old mid new form frame rest barred s made keeps e first is h = absurd is

pub open_put : (old mid new : Building) (form : ℕ) (frame : Frame) (rest : List Frame) (given : Part) → given ≡ part.Open → Joins old.arena old.row old.others old.outer mid.arena form
    → Stays old mid → mid.outer ≡ frame ∷ rest → IsFirst mid.arena form frame.row frame.others rest frame.repeat new
    → (x : PlainPart) (s : State) → IsPart given x → HoldsIn old s → HoldsIn new (put x s)
open_put old mid new form frame rest given k made keeps e first x s is h =
    open_first old mid new form frame rest x s made keeps e first (subst (λ (z : Part). IsPart z x) k is) h

-- One part after another, from the last.

turn : (old new : Building) (may : Bool) (ps : List Part) (xs : List PlainPart) (k left : ℕ) (p : Part) → k + 1 ≡ left → k < length ps → p ≡ get_or ps k p
    → AreParts ps xs → HoldsIn old (state_of (drop left xs)) → ((x : PlainPart) (s : State) → IsPart p x → HoldsIn old s → IsPut new may (put x s))
    → IsPut new may (state_of (drop k xs))
turn old new may ps xs k left p step within is are h puts =
    let t = there ps xs k p are (slice_get-get_or ps k p within ∙ ap Some (sym is)) in
    let at : left ≡ suc k = omega (arith, step) in
    subst (λ (ys : List PlainPart). IsPut new may (state_of ys)) (sym t.behind)
    (puts t.plain (state_of (drop (suc k) xs)) t.is (subst (λ (n : ℕ). HoldsIn old (state_of (drop n xs))) at h))

pub turn_on : (old new : Building) (may : Bool) (ps : List Part) (k left : ℕ) (p : Part) → k + 1 ≡ left → k < length ps → p ≡ get_or ps k p
    → ((xs : List PlainPart) → AreParts ps xs → HoldsIn old (state_of (drop left xs))) → ((x : PlainPart) (s : State) → IsPart p x → HoldsIn old s → IsPut new may (put x s))
    → may ≡ true → (xs : List PlainPart) → AreParts ps xs → HoldsIn new (state_of (drop k xs))
turn_on old new may ps k left p step within is so puts e xs are =
    subst (λ (b : Bool). IsPut new b (state_of (drop k xs))) e (turn old new may ps xs k left p step within is are (so xs are) puts)

pub turn_off : (old new : Building) (may : Bool) (ps : List Part) (k left : ℕ) (p : Part) → k + 1 ≡ left → k < length ps → p ≡ get_or ps k p
    → ((xs : List PlainPart) → AreParts ps xs → HoldsIn old (state_of (drop left xs))) → ((x : PlainPart) (s : State) → IsPart p x → HoldsIn old s → IsPut new may (put x s))
    → may ≡ false → (xs : List PlainPart) → AreParts ps xs → IsBuilt None (state_of xs)
turn_off old new may ps k left p step within is so puts e xs are =
    let stops = subst (λ (b : Bool). IsPut new b (state_of (drop k xs))) e (turn old new may ps xs k left p step within is are (so xs are) puts) in
    subst (λ (s : State). IsBuilt None s) (sym (wrong_behind k xs stops)) tt

pub all_left : (new : Building) (ps : List Part) → HoldsIn new (at void None []) → (xs : List PlainPart) → AreParts ps xs → HoldsIn new (state_of (drop (length ps) xs))
all_left new ps h xs are = subst (λ (ys : List PlainPart). HoldsIn new (state_of ys)) (sym (none_left ps xs are)) h

pub all_put : (old : Building) (ps : List Part) (left : ℕ) (res : Result (Option Held) NoMemory) → left ≡ 0 → ((xs : List PlainPart) → AreParts ps xs → HoldsIn old (state_of (drop left xs)))
    → ((s : State) → HoldsIn old s → IfOk res (λ r. IsBuilt r s)) → (xs : List PlainPart) → AreParts ps xs → IfOk res (λ r. IsBuilt r (state_of xs))
all_put old ps left res e so finish xs are = finish (state_of xs) (subst (λ (n : ℕ). HoldsIn old (state_of (drop n xs))) e (so xs are))
