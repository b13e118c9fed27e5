-- The moves of a state by a byte, as moves are added.
use Rattle.std.proofs.Common.{◌≡◌, ◌==◌, ℕ, ◌+◌, ◌<◌, ◌≤◌, Bool, true, false, ◌&&◌, List, [], ◌∷◌, ◌++◌, Some, None, Option, slice_get, slice_index, nat_le, refl, sym, ◌∙◌, ap, arith, cond, append-nil, ltb, leb, inl, inr, Bor, length, IsTrue}
use Rattle.std.proofs.lemmas.List.Elements.{All-contains}
use Rattle.std.proofs.lemmas.List.Folds.{list_all-append}
use Rattle.fst_core.specs.Fits.{moves_fit}
use Rattle.std.specs.Slice.{IsItemAt}
use Rattle.std.specs.Option.{option_copied}
use Rattle.std.proofs.lemmas.Option.{slice_get_past, slice_get_read, slice_get_within, get_or_from_slice_get}
use Rattle.std.proofs.lemmas.Bool.{le-ltb, lt-ltb, lt-leb, le-leb, cases_lt, cases_eq, and_right}
use Rattle.fst_core.specs.declared.moves.TableMove.{TableMove}
use Rattle.fst_core.specs.declared.moves.Action.{Action}
use Rattle.fst_core.specs.declared.out.Out.{Out}
use Rattle.fst_core.specs.Choices.{choices, in_range, choice_of, AddsChoice, AddsRow, FitsChoice, FitsRow}

cond_append : {A : Type 0} (b : Bool) (x : A) (xs ys : List A) → cond b (x ∷ (xs ++ ys)) (xs ++ ys) ≡ cond b (x ∷ xs) xs ++ ys
cond_append true x xs ys = refl
cond_append false x xs ys = refl

cond_same : {A : Type 0} (b : Bool) (x : A) → cond b x x ≡ x
cond_same true x = refl
cond_same false x = refl

pub choices-append : (xs ys : List TableMove) (s byte : ℕ) → choices (xs ++ ys) s byte ≡ choices xs s byte ++ choices ys s byte
choices-append [] ys s byte = refl
choices-append (m ∷ xs) ys s byte =
    let ih = choices-append xs ys s byte in
    ap (λ (r : List (ℕ × List Out)). cond (m.from == s && in_range m.range byte) ((m.to, m.out.items) ∷ r) r) ih
    ∙ cond_append (m.from == s && in_range m.range byte) (m.to, m.out.items) (choices xs s byte) (choices ys s byte)

-- one move is one choice
pub adds_one : (old new : List TableMove) (m : TableMove) (from lo hi : ℕ) (action : Option Action) (a : Action) → new ≡ old ++ m ∷ [] → action ≡ Some a → m.from ≡ from → m.range.lo ≡ lo → m.range.hi ≡ hi → m.to ≡ a.to → m.out.items ≡ a.out.items → AddsChoice old new from lo hi action
adds_one old new m from lo hi action a e some f l h t o s byte =
    rw (e, some, ← f, ← l, ← h, ← t, ← o) (choices-append old (m ∷ []) s byte)

-- no move is no choice
pub adds_nothing : (old new : List TableMove) (from lo hi : ℕ) (action : Option Action) → new ≡ old → action ≡ None → AddsChoice old new from lo hi action
adds_nothing old new from lo hi action e none s byte =
    rw (e, none, cond_same {A = List (ℕ × List Out)} (from == s && (nat_le lo byte && nat_le byte hi)) []) (sym (append-nil (choices old s byte)))

-- the bytes below `lo` have their moves, and the bytes from there up to `hi` are taken to one action
pub record Building (old new : List TableMove) (from : ℕ) (named : List ℕ) (actions : List Action) (lo hi : ℕ) : Type 0 where
  pub built : (s byte : ℕ) → choices new s byte ≡ choices old s byte ++ cond (from == s && ltb byte lo) (choice_of (slice_get actions (slice_index named byte))) []
  pub behind : lo ≤ hi
  pub same : (k : ℕ) → lo ≤ k → k < hi → slice_index named k ≡ slice_index named hi
  pub whole : hi ≡ 256 → lo ≡ 256

pub building_none : (old : List TableMove) (from : ℕ) (named : List ℕ) (actions : List Action) → Building old old from named actions 0 0
building_none old from named actions =
    record {
      built = λ s byte. rw (le-ltb byte 0 (omega arith), and_right (from == s) false refl) (sym (append-nil (choices old s byte)));
      behind = omega arith;
      same = λ k l h. absurd (omega arith);
      whole = λ e. absurd (omega arith);
    }

-- the next byte goes on with the run
pub building_more : (old new : List TableMove) (from : ℕ) (named : List ℕ) (actions : List Action) (lo hi : ℕ) → Building old new from named actions lo hi → hi < 255 → slice_index named (hi + 1) ≡ slice_index named hi → Building old new from named actions lo (hi + 1)
building_more old new from named actions lo hi b h e =
    record {
      built = b.built;
      behind = omega (arith, b.behind);
      same = λ k l u. elim (cases_eq k hi) [
        | inl same ↦ ap (slice_index named) same ∙ sym e
        | inr other ↦ b.same k l (omega arith) ∙ sym e
      ];
      whole = λ f. absurd (omega arith);
    }

row_byte : (test : Bool) (byte lo hi : ℕ) (xs ys zs : List (ℕ × List Out)) → lo ≤ hi → (lo ≤ byte → byte ≤ hi → xs ≡ ys) → (zs ++ cond (test && ltb byte lo) xs []) ++ cond (test && (leb lo byte && leb byte hi)) ys [] ≡ zs ++ cond (test && ltb byte (hi + 1)) xs []
row_byte false byte lo hi xs ys zs l same = append-nil (zs ++ [])
row_byte true byte lo hi xs ys zs l same = elim (cases_lt byte lo) [
  | inl below ↦ rw (lt-ltb byte lo below, lt-leb lo byte below, lt-ltb byte (hi + 1) (omega arith)) (append-nil (zs ++ xs))
  | inr over ↦ elim (cases_lt hi byte) [
    | inl past ↦ rw (le-ltb byte lo over, le-leb lo byte over, lt-leb byte hi past, le-ltb byte (hi + 1) (omega arith)) (append-nil (zs ++ []))
    | inr within ↦ rw (le-ltb byte lo over, le-leb lo byte over, le-leb byte hi within, lt-ltb byte (hi + 1) (omega arith), same over within, append-nil zs) refl
  ]
]

same_up_to : (named : List ℕ) (lo hi byte : ℕ) → ((k : ℕ) → lo ≤ k → k < hi → slice_index named k ≡ slice_index named hi) → lo ≤ byte → byte ≤ hi → slice_index named byte ≡ slice_index named hi
same_up_to named lo hi byte same l u = elim (cases_eq byte hi) [
  | inl e ↦ ap (slice_index named) e
  | inr other ↦ same byte l (omega arith)
]

-- the run ends with its move
pub building_cut : (old mid new : List TableMove) (from : ℕ) (named : List ℕ) (actions : List Action) (lo hi : ℕ) → Building old mid from named actions lo hi → AddsChoice mid new from lo hi (slice_get actions (slice_index named hi)) → Building old new from named actions (hi + 1) (hi + 1)
building_cut old mid new from named actions lo hi b adds =
    record {
      built = λ s byte.
          adds s byte ∙ ap (λ (x : List (ℕ × List Out)). x ++ cond (from == s && (leb lo byte && leb byte hi)) (choice_of (slice_get actions (slice_index named hi))) []) (b.built s byte)
          ∙ row_byte (from == s) byte lo hi (choice_of (slice_get actions (slice_index named byte))) (choice_of (slice_get actions (slice_index named hi))) (choices old s byte) b.behind
          (λ l u. ap (λ (k : ℕ). choice_of (slice_get actions k)) (same_up_to named lo hi byte b.same l u));
      behind = omega arith;
      same = λ k l u. absurd (omega arith);
      whole = λ e. e;
    }

-- all bytes have their moves
pub building_all : (old new : List TableMove) (from : ℕ) (named : List ℕ) (actions : List Action) (lo hi : ℕ) → Building old new from named actions lo hi → hi ≡ 256 → AddsRow old new from named actions
building_all old new from named actions lo hi b e s byte =
    b.built s byte ∙ ap (λ (n : ℕ). choices old s byte ++ cond (from == s && ltb byte n) (choice_of (slice_get actions (slice_index named byte))) []) (b.whole e)

-- what `get` lends is the element at the place
pub got_copied : {X : Type 0} (xs : List X) (i : ℕ) (r : Option (Bor X)) → IsItemAt xs i r → option_copied r ≡ slice_get xs i
got_copied xs i None h = sym (slice_get_past xs i h.3)
got_copied xs i (Some x) h = sym (slice_get_read xs (length xs) i x.now refl h.3.0 h.1)

both : {a b : Bool} → a ≡ true → b ≡ true → (a && b) ≡ true
both h k = rw (h, k) refl

-- moves that fit, put behind others that fit
pub fits_append : (states : ℕ) (xs ys : List TableMove) → IsTrue (moves_fit states xs) → IsTrue (moves_fit states ys) → IsTrue (moves_fit states (xs ++ ys))
fits_append states xs ys h k =
    list_all-append (λ (m : TableMove). ltb m.from states && ltb m.to states) xs ys ∙ both h k

-- one move of the state, to where the action leads
pub fits_one : (old new : List TableMove) (m : TableMove) (from : ℕ) (action : Option Action) (a : Action) → new ≡ old ++ m ∷ [] → action ≡ Some a → m.from ≡ from → m.to ≡ a.to → FitsChoice old new from action
fits_one old new m from action a e some f t states below leads fits =
    let to : a.to < states = leads a some in
    let first : ltb m.from states ≡ true = lt-ltb m.from states (omega (arith, f)) in
    let second : ltb m.to states ≡ true = lt-ltb m.to states (omega (arith, t)) in
    rw e (fits_append states old (m ∷ []) fits (rw (first, second) refl))

-- what leads to one of the actions leads to a state
pub fits_row_more : (old new : List TableMove) (from : ℕ) (actions : List Action) (place : ℕ) → FitsRow old from actions → FitsChoice old new from (slice_get actions place) → FitsRow new from actions
fits_row_more old new from actions place before more states below all =
    more states below (λ a found. All-contains (λ (x : Action). x.to < states) actions a all (place, slice_get_within actions place a found, get_or_from_slice_get actions place a a found)) (before states below all)

-- a row that is put behind other moves
pub adds_row : (old new row : List TableMove) (from : ℕ) (named : List ℕ) (actions : List Action) → new ≡ old ++ row → AddsRow [] row from named actions → AddsRow old new from named actions
adds_row old new row from named actions e adds s byte =
    rw e (choices-append old row s byte ∙ ap (λ (x : List (ℕ × List Out)). choices old s byte ++ x) (adds s byte))
