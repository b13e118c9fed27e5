-- The states of a search, as they are added.
use Rattle.std.proofs.Common.{◌≡◌, ◌==◌, ℕ, zero, suc, ◌+◌, ◌-◌, ◌<◌, ◌≤◌, ◌⊎◌, inl, inr, Bool, true, false, not, ◌&&◌, List, [], ◌∷◌, ◌++◌, length, take, map, get_or, slice_get, slice_index, cond, ltb, leb, eqb, Some, None, Option, refl, sym, ◌∙◌, ap, subst, arith, append-nil, append_assoc, IsTrue}
use Rattle.std.proofs.lemmas.Bool.{cases_Bool, cases_eq, cases_lt, eqb-true, eqb-false, eq-eqb, ne_eqb, le-leb, lt-leb, lt-ltb, le-ltb, and_left, and_right, ltb-true}
use Rattle.fst_core.specs.Choices.{choices, stops, in_range, choice_of, AddsRow}
use Rattle.fst_core.proofs.ChoiceLemmas.{choices-append}
use Rattle.fst_core.specs.declared.out.Out.{Out}
use Rattle.fst_core.specs.declared.out.Out.TheVariants.{Same, Byte}
use Rattle.fst_core.specs.declared.moves.TableMove.{TableMove}
use Rattle.fst_core.specs.declared.moves.TableEnd.{TableEnd}
use Rattle.fst_core.specs.declared.moves.Action.{Action}
use Rattle.string_ops.specs.Search.{let_go, turn, turn_by, is_within, AddsTurn, AddsFirst, AddsTurns, AddsSearch, AddsEnds}
use Rattle.string_functions.specs.Failure.{next_length}
use Rattle.string_functions.proofs.BorderLemmas.{next_is}
use Rattle.std.specs.List.{list_all}
use Rattle.fst_core.specs.Fits.{is_fixed}

and_true : (b : Bool) → (b && true) ≡ b
and_true true = refl
and_true false = refl

cond_same : {A : Type 0} (b : Bool) (x : A) → cond b x x ≡ x
cond_same true x = refl
cond_same false x = refl

cond_append : {A : Type 0} (b : Bool) (x : A) (xs ys : List A) → cond b (x ∷ (xs ++ ys)) (xs ++ ys) ≡ cond b (x ∷ xs) xs ++ ys
cond_append true x xs ys = refl
cond_append false x xs ys = refl

pub within_none : (base s : ℕ) → is_within base 0 s ≡ false
within_none base s = elim (cases_lt s base) [
  | inl h ↦ rw (lt-leb base s h) refl
  | inr h ↦ rw (le-ltb s (base + 0) (omega arith)) (and_right (leb base s) false refl)
]

-- where a search goes is one of its states
pub turn_within : (p : List ℕ) (base to : ℕ) (out : List Out) (shown : Bool) (at part states : ℕ) → to < states → base + length p ≤ states → part ≤ length p → (turn p base (to, out) shown at part).0 < states
turn_within p base to out shown at part states f r h = elim (cases_eq part (length p)) [
  | inl e ↦ rw (eq-eqb part (length p) e) f
  | inr ne ↦ rw (ne_eqb part (length p) ne) (omega arith)
]

-- a move by one byte is added
pub turn_push : (old new : List TableMove) (m : TableMove) (from own part : ℕ) (choice : ℕ × List Out) → new ≡ old ++ m ∷ [] → m.from ≡ from → m.range.lo ≡ own → m.range.hi ≡ own → (m.to, m.out.items) ≡ choice → (part ≡ 0 → ⊥) → AddsTurn old new from own part choice
turn_push old new m from own part choice e f l h c nz s byte =
    let t : (part == 0) ≡ false = ne_eqb part 0 nz in
    let u : ((leb own byte && leb byte own) && not (part == 0)) ≡ (leb own byte && leb byte own) = rw t (and_true (leb own byte && leb byte own)) in
    rw (e, u, ← c, ← f) (rw (choices-append old (m ∷ []) s byte, l, h) refl)

-- nothing is added
pub turn_none : (old : List TableMove) (from own part : ℕ) (choice : ℕ × List Out) → part ≡ 0 → AddsTurn old old from own part choice
turn_none old from own part choice z s byte =
    let t : (part == 0) ≡ true = eq-eqb part 0 z in
    rw (t, and_right (leb own byte && leb byte own) false refl, and_right (from == s) false refl) (sym (append-nil (choices old s byte)))

get_one : (a : Action) (n : ℕ) → choice_of (slice_get (a ∷ []) n) ≡ cond (n == 0) ((a.to, a.out.items) ∷ []) []
get_one a zero = refl
get_one a (suc n) = rw (ne_eqb (suc n) 0 (omega arith)) refl

cond_and : {A : Type 0} (a b c : Bool) (x : List A) → cond (a && b) (cond c x []) [] ≡ cond (a && (b && c)) x []
cond_and true true c x = refl
cond_and true false c x = refl
cond_and false b c x = refl

-- a row with one action
pub first_row : (old new : List TableMove) (from : ℕ) (row : List ℕ) (actions : List Action) (a : Action) → actions ≡ a ∷ [] → AddsRow old new from row actions → AddsFirst old new from row (a.to, a.out.items)
first_row old new from row actions a e adds s byte =
    adds s byte ∙ ap (λ (x : List (ℕ × List Out)). choices old s byte ++ cond (from == s && ltb byte 256) x []) (ap (λ (x : List Action). choice_of (slice_get x (slice_index row byte))) e ∙ get_one a (slice_index row byte))
    ∙ ap (λ (x : List (ℕ × List Out)). choices old s byte ++ x) (cond_and (from == s) (ltb byte 256) (slice_index row byte == 0) ((a.to, a.out.items) ∷ []))

-- the bytes below `i` have their moves, where some of the pattern is read after them
pub record Turning (mid new : List TableMove) (from : ℕ) (by : ℕ → ℕ × List Out) (row : List ℕ) (i : ℕ) : Type 0 where
  pub built : (s byte : ℕ) → choices new s byte ≡ choices mid s byte ++ cond (from == s && (ltb byte i && not (slice_index row byte == 0))) (by (slice_index row byte) ∷ []) []

pub turning_none : (mid : List TableMove) (from : ℕ) (by : ℕ → ℕ × List Out) (row : List ℕ) → Turning mid mid from by row 0
turning_none mid from by row =
    record { built = λ s byte. rw (le-ltb byte 0 (omega arith), and_right (from == s) false refl) (sym (append-nil (choices mid s byte))) }

turn_byte : (test : Bool) (byte i own : ℕ) (z y : Bool) (xs ys zs : List (ℕ × List Out)) → own ≡ i → (byte ≡ i → (z ≡ y) × (xs ≡ ys)) → (zs ++ cond (test && (ltb byte i && z)) xs []) ++ cond (test && ((leb own byte && leb byte own) && y)) ys [] ≡ zs ++ cond (test && (ltb byte (i + 1) && z)) xs []
turn_byte false byte i own z y xs ys zs e same = append-nil (zs ++ [])
turn_byte true byte i own z y xs ys zs e same = elim (cases_eq byte i) [
  | inl q ↦
      let both = same q in
      rw (le-ltb byte i (omega arith), le-leb own byte (omega arith), le-leb byte own (omega arith), lt-ltb byte (i + 1) (omega arith), ← both.0, ← both.1, append-nil zs) refl
  | inr ne ↦ elim (cases_lt byte i) [
    | inl h ↦ rw (lt-ltb byte i h, lt-leb own byte (omega arith), lt-ltb byte (i + 1) (omega arith), append-nil (zs ++ cond z xs [])) refl
    | inr h ↦ rw (le-ltb byte i h, lt-leb byte own (omega arith), and_right (leb own byte) false refl, le-ltb byte (i + 1) (omega arith)) (append-nil (zs ++ []))
  ]
]

pub turning_more : (mid old new : List TableMove) (from : ℕ) (by : ℕ → ℕ × List Out) (row : List ℕ) (i own part : ℕ) → Turning mid old from by row i → own ≡ i → part ≡ slice_index row i → AddsTurn old new from own part (by part) → Turning mid new from by row (i + 1)
turning_more mid old new from by row i own part t e is adds =
    record {
      built = λ s byte.
          adds s byte ∙ ap (λ (x : List (ℕ × List Out)). x ++ cond (from == s && ((leb own byte && leb byte own) && not (part == 0))) (by part ∷ []) []) (t.built s byte)
          ∙ turn_byte (from == s) byte i own (not (slice_index row byte == 0)) (not (part == 0)) (by (slice_index row byte) ∷ []) (by part ∷ []) (choices mid s byte) e
          (λ q.
          let same : slice_index row byte ≡ part = ap (slice_index row) q ∙ sym is in
          (ap (λ (n : ℕ). not (n == 0)) same, ap (λ (n : ℕ). by n ∷ []) same));
    }

turn_either : (test inside : Bool) (z : Bool) (first other : List (ℕ × List Out)) (xs zs : List (ℕ × List Out)) → (inside ≡ true → z ≡ true → first ≡ xs) → (inside ≡ true → z ≡ false → other ≡ xs) → (zs ++ cond (test && (inside && z)) first []) ++ cond (test && (inside && not z)) other [] ≡ zs ++ cond (test && inside) xs []
turn_either false inside z first other xs zs a b = append-nil (zs ++ [])
turn_either true false z first other xs zs a b = append-nil (zs ++ [])
turn_either true true true first other xs zs a b = append-nil (zs ++ first) ∙ ap (λ (x : List (ℕ × List Out)). zs ++ x) (a refl refl)
turn_either true true false first other xs zs a b = rw (append-nil zs) (ap (λ (x : List (ℕ × List Out)). zs ++ x) (b refl refl))

-- all bytes have their moves
pub turning_all : (old mid new : List TableMove) (from : ℕ) (p : List ℕ) (at : ℕ) (by : ℕ → ℕ × List Out) (row : List ℕ) (i : ℕ) → i ≡ 256 → AddsFirst old mid from row (by 0) → Turning mid new from by row i → ((byte : ℕ) → byte < 256 → slice_index row byte ≡ next_length p at byte) → AddsTurns old new from (λ byte. by (next_length p at byte))
turning_all old mid new from p at by row i e first t exact s byte =
    t.built s byte ∙ ap (λ (n : ℕ). choices mid s byte ++ cond (from == s && (ltb byte n && not (slice_index row byte == 0))) (by (slice_index row byte) ∷ []) []) e
    ∙ ap (λ (x : List (ℕ × List Out)). x ++ cond (from == s && (ltb byte 256 && not (slice_index row byte == 0))) (by (slice_index row byte) ∷ []) []) (first s byte)
    ∙ turn_either (from == s) (ltb byte 256) (slice_index row byte == 0) (by 0 ∷ []) (by (slice_index row byte) ∷ []) (by (next_length p at byte) ∷ []) (choices old s byte)
    (λ b z. ap (λ (n : ℕ). by n ∷ []) (sym (eqb-true (slice_index row byte) 0 z) ∙ exact byte (ltb-true byte 256 b)))
    (λ b z. ap (λ (n : ℕ). by n ∷ []) (exact byte (ltb-true byte 256 b)))

-- no state of the search yet
pub search_none : (old : List TableMove) (base : ℕ) (by : ℕ → ℕ → ℕ × List Out) → AddsSearch old old base 0 by
search_none old base by s byte =
    rw (within_none base s) (sym (append-nil (choices old s byte)))

pub state_more : {X : Type 0} (base count own s : ℕ) (byte : Bool) (xs ys zs : List X) → own ≡ base + count → (own ≡ s → xs ≡ ys) → (zs ++ cond (is_within base count s && byte) xs []) ++ cond (own == s && byte) ys [] ≡ zs ++ cond (is_within base (count + 1) s && byte) xs []
state_more {X} base count own s byte xs ys zs e same = elim (cases_eq own s) [
  | inl q ↦
      rw (le-ltb s (base + count) (omega arith), le-leb base s (omega arith), lt-ltb s (base + (count + 1)) (omega arith), eq-eqb own s q, same q, append-nil zs) refl
  | inr ne ↦ elim (cases_lt s (base + count)) [
    | inl h ↦ rw (lt-ltb s (base + count) h, lt-ltb s (base + (count + 1)) (omega arith), ne_eqb own s ne) (append-nil (zs ++ cond ((leb base s && true) && byte) xs []))
    | inr h ↦
        rw (le-ltb s (base + count) h, le-ltb s (base + (count + 1)) (omega arith), ne_eqb own s ne) (append-nil (zs ++ cond ((leb base s && false) && byte) xs []))
  ]
]

-- one state more
pub search_more : (old mid new : List TableMove) (base count own : ℕ) (by : ℕ → ℕ → ℕ × List Out) → own ≡ base + count → AddsSearch old mid base count by → AddsTurns mid new own (by count) → AddsSearch old new base (count + 1) by
search_more old mid new base count own by e before adds s byte =
    adds s byte ∙ ap (λ (x : List (ℕ × List Out)). x ++ cond (own == s && ltb byte 256) (by count byte ∷ []) []) (before s byte)
    ∙ state_more base count own s (ltb byte 256) (by (s - base) byte ∷ []) (by count byte ∷ []) (choices old s byte) e
    (λ q. let k : s - base ≡ count = omega arith in ap (λ (n : ℕ). by n byte ∷ []) k)

pub stops-append : (xs ys : List TableEnd) (s : ℕ) → stops (xs ++ ys) s ≡ stops xs s ++ stops ys s
stops-append [] ys s = refl
stops-append (e ∷ xs) ys s =
    let ih = stops-append xs ys s in
    ap (λ (r : List (List Out)). cond (e.state == s) (e.out.items ∷ r) r) ih ∙ cond_append (e.state == s) e.out.items (stops xs s) (stops ys s)

pub ends_none : (old : List TableEnd) (base : ℕ) (pattern : List ℕ) → AddsEnds old old base 0 pattern
ends_none old base pattern s = rw (within_none base s) (sym (append-nil (stops old s)))

-- the end of one state more
pub ends_more : (old mid new : List TableEnd) (base count : ℕ) (pattern : List ℕ) (e : TableEnd) → e.state ≡ base + count → e.out.items ≡ map Byte (take count pattern) → AddsEnds old mid base count pattern → new ≡ mid ++ e ∷ [] → AddsEnds old new base (count + 1) pattern
ends_more old mid new base count pattern e state out before eq s =
    let one : stops new s ≡ stops mid s ++ cond (e.state == s && true) (map Byte (take count pattern) ∷ []) [] =
    ap (λ (x : List TableEnd). stops x s) eq ∙ stops-append mid (e ∷ []) s ∙ ap (λ (b : Bool). stops mid s ++ cond b (e.out.items ∷ []) []) (sym (and_true (e.state == s)))
    ∙ ap (λ (x : List Out). stops mid s ++ cond (e.state == s && true) (x ∷ []) []) out in
    let was : stops mid s ≡ stops old s ++ cond (is_within base count s && true) (map Byte (take (s - base) pattern) ∷ []) [] =
    before s ∙ ap (λ (b : Bool). stops old s ++ cond b (map Byte (take (s - base) pattern) ∷ []) []) (sym (and_true (is_within base count s))) in
    one ∙ ap (λ (x : List (List Out)). x ++ cond (e.state == s && true) (map Byte (take count pattern) ∷ []) []) was
    ∙ state_more base count e.state s true (map Byte (take (s - base) pattern) ∷ []) (map Byte (take count pattern) ∷ []) (stops old s) state
    (λ q. let k : s - base ≡ count = omega arith in ap (λ (n : ℕ). map Byte (take n pattern) ∷ []) k)
    ∙ ap (λ (b : Bool). stops old s ++ cond b (map Byte (take (s - base) pattern) ∷ []) []) (and_true (is_within base (count + 1) s))

-- at most one byte more is read
pub next_within : (p : List ℕ) (at byte : ℕ) → at < length p → next_length p at byte ≤ at + 1
next_within p at byte h = (next_is p at byte h).within

bytes_fixed : (bytes : List ℕ) → IsTrue (list_all is_fixed (map Byte bytes))
bytes_fixed [] = refl
bytes_fixed (b ∷ bytes) = bytes_fixed bytes

-- bytes depend on no byte that is read
pub out_fixed : (out : List Out) (bytes : List ℕ) → out ≡ map Byte bytes → IsTrue (list_all is_fixed out)
out_fixed out bytes e = subst (λ (x : List Out). IsTrue (list_all is_fixed x)) (sym e) (bytes_fixed bytes)
