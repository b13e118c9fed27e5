-- The layers of a table over an input.
use Rattle.std.proofs.Common.{◌≡◌, ◌≢◌, ℕ, ◌+◌, ◌<◌, ◌≤◌, ◌⊎◌, ◌↔◌, inl, inr, Bool, true, ◌&&◌, List, [], ◌∷◌, ◌++◌, length, map, take, drop, get_or, slice_get, Option, Some, None, Contains, refl, sym, ◌∙◌, ap, subst, arith, cond, nat_eq, append_assoc, append-nil, zero, suc, ◌-◌, IsTrue, ltb, length-append}
use Rattle.std.proofs.lemmas.List.{append_cancel_left, map-append, take_more, drop_more, drop_all, take_all, take-append-drop, length-map, length-drop, nil_from_length}
use Rattle.std.proofs.lemmas.List.Elements.{Contains-push_cases, Contains-append_left, Contains-append_right, Contains-append_cases, Contains-get_or, Contains-push, All-contains, All-cons, All-nil}
use Rattle.std.proofs.lemmas.Bool.{cases_Bool, cond-true, cond-false, ltb-true}
use Rattle.std.specs.List.{list_any, All}
use Rattle.fst_core.specs.Fits.{moves_fit}
use Rattle.fst_core.specs.declared.moves.TableEnd.{TableEnd}
use Rattle.std.specs.declared.vec.Vec.{Vec}
use Rattle.std.specs.declared.alloc.Global.{Global}
use Rattle.std.specs.Option.{option_map}
use Rattle.std.proofs.lemmas.Option.{slice_get_within, slice_get_read, slice_get_cases, slice_get-map, same_Some, get_or_from_slice_get}
use Rattle.std.specs.Cmp.{first_so, second_so, IsEquivalence}
use Rattle.std.proofs.lemmas.Cmp.{nat_eq_equiv}
use Rattle.std.proofs.lemmas.Map.Views.{exact_unsigned_eq}
use Rattle.indexmap.proofs.CallerLemmas.{Contains-list_any}
use Rattle.numbered_sets.specs.Places.{ArePlaces}
use Rattle.text_base.specs.declared.letter.Letter.{Letter}
use Rattle.text_base.specs.declared.letter.Letter.TheVariants.{OfByte}
use Rattle.fst_core.specs.Letter.{letter_of}
use Rattle.fst_core.specs.Layers.{letters_from, SomeGives, ByMove, ByMoves, TableGives, IsIndex, StopsBy}
use Rattle.fst_core.specs.Tables.{TableStep}
use Rattle.fst_core.specs.declared.out.Out.{Out}
use Rattle.fst_core.specs.declared.moves.TableMove.{TableMove}
use Rattle.fst_core.specs.declared.table.Table.{Table}
use Rattle.fst_core.specs.declared.layers.Reached.{Reached}

letters_more : (output : List ℕ) (at : ℕ) → at < length output → letters_from output at ≡ OfByte (get_or output at 0) ∷ letters_from output (at + 1)
letters_more output at h = ap (λ (x : List ℕ). map OfByte x) (drop_more output at 0 h)

letters_end : (output : List ℕ) (at : ℕ) → length output ≤ at → letters_from output at ≡ []
letters_end output at h = ap (λ (x : List ℕ). map OfByte x) (drop_all at output h)

map_more : (f : Out → Letter) (out : List Out) (i : ℕ) (d : Out) → i < length out → map f (take (i + 1) out) ≡ map f (take i out) ++ f (get_or out i d) ∷ []
map_more f out i d h = ap (λ (x : List Out). map f x) (take_more out i d h) ∙ map-append f (take i out) (get_or out i d ∷ [])

-- one thing more is put out
pub written_more : (f : Out → Letter) (output : List ℕ) (from at : ℕ) (out : List Out) (i : ℕ) (d : Out) → i < length out → letters_from output from ≡ map f (take i out) ++ letters_from output at → at < length output → f (get_or out i d) ≡ OfByte (get_or output at 0) → letters_from output from ≡ map f (take (i + 1) out) ++ letters_from output (at + 1)
written_more f output from at out i d h inv l e =
    inv ∙ ap (λ (x : List Letter). map f (take i out) ++ x) (letters_more output at l ∙ ap (λ (x : Letter). x ∷ letters_from output (at + 1)) (sym e))
    ∙ sym (append_assoc (map f (take i out)) (f (get_or out i d) ∷ []) (letters_from output (at + 1)))
    ∙ ap (λ (x : List Letter). x ++ letters_from output (at + 1)) (sym (map_more f out i d h))

-- the output goes on otherwise
pub written_fails : (f : Out → Letter) (output : List ℕ) (from at : ℕ) (out : List Out) (i : ℕ) (d : Out) → i < length out → letters_from output from ≡ map f (take i out) ++ letters_from output at → ((rest : List Letter) → letters_from output at ≢ f (get_or out i d) ∷ rest) → (rest : List Letter) → letters_from output from ≢ map f out ++ rest
written_fails f output from at out i d h inv differs rest e =
    let whole : map f out ≡ map f (take i out) ++ (f (get_or out i d) ∷ map f (drop (i + 1) out)) =
    ap (λ (x : List Out). map f x) (sym (take-append-drop i out) ∙ ap (λ (x : List Out). take i out ++ x) (drop_more out i d h)) ∙ map-append f (take i out) (get_or out i d ∷ drop (i + 1) out) in
    let both : map f (take i out) ++ letters_from output at ≡ map f (take i out) ++ (f (get_or out i d) ∷ (map f (drop (i + 1) out) ++ rest)) =
    sym inv ∙ e ∙ ap (λ (x : List Letter). x ++ rest) whole ∙ append_assoc (map f (take i out)) (f (get_or out i d) ∷ map f (drop (i + 1) out)) rest in
    differs (map f (drop (i + 1) out) ++ rest) (append_cancel_left (map f (take i out)) _ _ both)

-- nothing is left of the output
pub no_letter : (output : List ℕ) (at : ℕ) (x : Letter) → length output ≤ at → (rest : List Letter) → letters_from output at ≢ x ∷ rest
no_letter output at x h rest e = let f : [] ≡ x ∷ rest = sym (letters_end output at h) ∙ e in cc

-- another byte comes next
pub other_letter : (output : List ℕ) (at : ℕ) (x : Letter) → at < length output → (x ≡ OfByte (get_or output at 0) → ⊥) → (rest : List Letter) → letters_from output at ≢ x ∷ rest
other_letter output at x h differs rest e =
    let f : OfByte (get_or output at 0) ∷ letters_from output (at + 1) ≡ x ∷ rest = sym (letters_more output at h) ∙ e in
    let g : OfByte (get_or output at 0) ≡ x = cc in
    differs (sym g)

pub none_in : {X : Type 0} (x : X) → Contains [] x → ⊥
none_in x c = absurd (omega (arith, c.1))

pub one_in : {X : Type 0} (y x : X) → Contains (y ∷ []) x → x ≡ y
one_in {X} y x c = sym (All-contains (λ (z : X). y ≡ z) (y ∷ []) x (All-cons (λ (z : X). y ≡ z) y [] refl (All-nil (λ (z : X). y ≡ z))) c)

-- one key more, where the set's test is equality
pub insert_contains : {K : Type 0} (eq : K → K → Bool) → ((x y : K) → eq x y ≡ true → x ≡ y) → (keys new : List K) (k : K) → new ≡ cond (list_any (eq k) keys) keys (keys ++ k ∷ []) → (r : K) → Contains new r ↔ (Contains keys r ⊎ (r ≡ k))
insert_contains {K} eq exact keys new k e r = elim (cases_Bool (list_any (eq k) keys)) [
  | inl t ↦
      let same : new ≡ keys = e ∙ cond-true (list_any (eq k) keys) keys (keys ++ k ∷ []) t in (
        λ c. inl (subst (λ (x : List K). Contains x r) same c),
        λ c. elim c [
          | inl d ↦ subst (λ (x : List K). Contains x r) (sym same) d
          | inr f ↦ subst (λ (x : List K). Contains x r) (sym same) (subst (λ (x : K). Contains keys x) (sym f) (Contains-list_any eq exact keys k t))
        ],
      )
  | inr t ↦
      let same : new ≡ keys ++ k ∷ [] = e ∙ cond-false (list_any (eq k) keys) keys (keys ++ k ∷ []) t in (
        λ c. elim (Contains-push_cases keys k r (subst (λ (x : List K). Contains x r) same c)) [ inl d ↦ inl d | inr f ↦ inr (sym f) ],
        λ c. elim c [
          | inl d ↦ subst (λ (x : List K). Contains x r) (sym same) (Contains-append_left keys (k ∷ []) r d)
          | inr f ↦ subst (λ (x : List K). Contains x r) (sym same) (subst (λ (x : K). Contains (keys ++ k ∷ []) x) (sym f) (Contains-push keys k))
        ],
      )
]

-- the byte is not one of the move's
pub moves_not : (table : Table) (m : TableMove) (keys : List Reached) (at byte : ℕ) (text output : List ℕ) → (byte < m.range.lo) ⊎ (m.range.hi < byte) → SomeGives table keys text output ↔ (SomeGives table keys text output ⊎ ByMove table m at byte text output)
moves_not table m keys at byte text output out = (
  λ s. inl s,
  λ s. elim s [
    | inl h ↦ h
    | inr h ↦ absurd (elim out [
      | inl a ↦ let l : m.range.lo ≤ byte = h.1.0 in omega arith
      | inr a ↦ let l : byte ≤ m.range.hi = h.1.1 in omega arith
    ])
  ],
)

-- the output goes on otherwise than the move puts out
pub moves_otherwise : (table : Table) (m : TableMove) (keys : List Reached) (at byte : ℕ) (text output : List ℕ) → ((rest : List Letter) → letters_from output at ≢ map (letter_of byte) m.out.items ++ rest) → SomeGives table keys text output ↔ (SomeGives table keys text output ⊎ ByMove table m at byte text output)
moves_otherwise table m keys at byte text output differs =
    (λ s. inl s, λ s. elim s [ inl h ↦ h | inr h ↦ absurd (differs h.2 h.3) ])

-- the move leads to a place that is added
pub moves_on : (table : Table) (m : TableMove) (keys new : List Reached) (at after byte : ℕ) (text output : List ℕ) → m.range.lo ≤ byte → byte ≤ m.range.hi → ((at ≤ length output) ↔ (after ≤ length output)) → letters_from output at ≡ map (letter_of byte) m.out.items ++ letters_from output after → ((r : Reached) → Contains new r ↔ (Contains keys r ⊎ (r ≡ record { state = m.to; written = after }))) → SomeGives table new text output ↔ (SomeGives table keys text output ⊎ ByMove table m at byte text output)
moves_on table m keys new at after byte text output lo hi within puts added =
    let place : Reached = record { state = m.to; written = after } in (
      λ s. elim ((added s.0).0 s.1) [
        | inl d ↦ inl (s.0, d, s.2, s.3)
        | inr e ↦ inr (
          within.1 (subst (λ (r : Reached). r.written ≤ length output) e s.2),
          (lo, hi),
          letters_from output after,
          puts,
          subst (λ (r : Reached). TableGives table r.state text (letters_from output r.written)) e s.3,
        )
      ],
      λ s. elim s [
        | inl h ↦ (h.0, (added h.0).1 (inl h.1), h.2, h.3)
        | inr h ↦
            let same : h.2 ≡ letters_from output after = append_cancel_left (map (letter_of byte) m.out.items) h.2 (letters_from output after) (sym h.3 ∙ puts) in
            (place, (added place).1 (inr refl), within.0 h.0, subst (λ (x : List Letter). TableGives table m.to text x) same h.4)
      ],
    )

-- equal places are one place
pub reached_exact : (x y : Reached) → (nat_eq x.state y.state && nat_eq x.written y.written) ≡ true → x ≡ y
reached_exact x y h =
    let e : x.state ≡ y.state = exact_unsigned_eq x.state y.state (first_so (nat_eq x.state y.state) (nat_eq x.written y.written) h) in
    let f : x.written ≡ y.written = exact_unsigned_eq x.written y.written (second_so (nat_eq x.state y.state) (nat_eq x.written y.written) h) in
    let make : ℕ → ℕ → Reached = λ s w. record { state = s; written = w } in
    ap (λ (s : ℕ). make s x.written) e ∙ ap (λ (w : ℕ). make y.state w) f

by_moves_append : (table : Table) (xs ys : List ℕ) (at byte : ℕ) (text output : List ℕ) → ByMoves table (xs ++ ys) at byte text output ↔ (ByMoves table xs at byte text output ⊎ ByMoves table ys at byte text output)
by_moves_append table xs ys at byte text output = (
  λ h. elim (Contains-append_cases xs ys h.0 h.1) [ inl c ↦ inl (h.0, c, h.2, h.3, h.4) | inr c ↦ inr (h.0, c, h.2, h.3, h.4) ],
  λ h. elim h [
    | inl f ↦ (f.0, Contains-append_left xs ys f.0 f.1, f.2, f.3, f.4)
    | inr f ↦ (f.0, Contains-append_right xs ys f.0 f.1, f.2, f.3, f.4)
  ],
)

by_move_one : (table : Table) (place : ℕ) (m : TableMove) (at byte : ℕ) (text output : List ℕ) → slice_get table.moves.items place ≡ Some m → ByMoves table (place ∷ []) at byte text output ↔ ByMove table m at byte text output
by_move_one table place m at byte text output found = (
  λ h.
      let one : h.0 ≡ place = one_in place h.0 h.1 in
      let same : Some h.2 ≡ Some m = sym h.3 ∙ (ap (slice_get table.moves.items) one ∙ found) in
      let eq : h.2 ≡ m = cc in
      subst (λ (x : TableMove). ByMove table x at byte text output) eq h.4,
  λ h. (place, (0, omega arith, refl), m, found, h),
)

or_more : {A B C D E : Type 0} → A ↔ (B ⊎ C) → B ↔ (D ⊎ E) → A ↔ (D ⊎ (E ⊎ C))
or_more h k = (
  λ a. elim (h.0 a) [ inl b ↦ elim (k.0 b) [ inl d ↦ inl d | inr e ↦ inr (inl e) ] | inr c ↦ inr (inr c) ],
  λ x. elim x [
    | inl d ↦ h.1 (inl (k.1 (inl d)))
    | inr y ↦ elim y [ inl e ↦ h.1 (inl (k.1 (inr e))) | inr c ↦ h.1 (inr c) ]
  ],
)

pub or_same : {A B C D : Type 0} → A ↔ (B ⊎ C) → C ↔ D → A ↔ (B ⊎ D)
or_same h k = (
  λ a. elim (h.0 a) [ inl b ↦ inl b | inr c ↦ inr (k.0 c) ],
  λ x. elim x [ inl b ↦ h.1 (inl b) | inr d ↦ h.1 (inr (k.1 d)) ],
)

iff_sym : {A B : Type 0} → A ↔ B → B ↔ A
iff_sym h = (h.1, h.0)

-- the next state of the loop over places: the moves at the first of them are tried
abbrev pub Tried : Table → List Reached → List Reached → List ℕ → ℕ → ℕ → List ℕ → Type 0
Tried table keys new places at byte output = (text : List ℕ) → SomeGives table new text output ↔ (SomeGives table keys text output ⊎ ByMoves table places at byte text output)

pub tried_none : (table : Table) (keys : List Reached) (at byte : ℕ) (output : List ℕ) → Tried table keys keys [] at byte output
tried_none table keys at byte output text =
    (λ h. inl h, λ h. elim h [ inl f ↦ f | inr f ↦ absurd (none_in f.0 f.1) ])

pub tried_more : (table : Table) (keys mid new : List Reached) (places : List ℕ) (i : ℕ) (m : TableMove) (at byte : ℕ) (output : List ℕ) → i < length places → Tried table keys mid (take i places) at byte output → slice_get table.moves.items (get_or places i 0) ≡ Some m → ((text : List ℕ) → SomeGives table new text output ↔ (SomeGives table mid text output ⊎ ByMove table m at byte text output)) → Tried table keys new (take (i + 1) places) at byte output
tried_more table keys mid new places i m at byte output h before found tried text =
    let one = by_move_one table (get_or places i 0) m at byte text output found in
    let both = by_moves_append table (take i places) (get_or places i 0 ∷ []) at byte text output in
    subst (λ (x : List ℕ). SomeGives table new text output ↔ (SomeGives table keys text output ⊎ ByMoves table x at byte text output)) (sym (take_more places i 0 h))
    (or_same (or_more (or_same (tried text) (iff_sym one)) (before text)) (iff_sym both))

pub tried_all : (table : Table) (keys new : List Reached) (places : List ℕ) (n at byte : ℕ) (output : List ℕ) → length places ≤ n → Tried table keys new (take n places) at byte output → Tried table keys new places at byte output
tried_all table keys new places n at byte output h tried =
    subst (λ (x : List ℕ). Tried table keys new x at byte output) (take_all n places h) tried

pub All-from_contains : {X : Type 0} (P : X → Type 0) (xs : List X) → ((x : X) → Contains xs x → P x) → All P xs
All-from_contains P xs h k d l = h (get_or xs k d) (Contains-get_or xs k d l)

contains_found : (moves : List TableMove) (i : ℕ) (m : TableMove) → slice_get moves i ≡ Some m → Contains moves m
contains_found moves i m e = (i, slice_get_within moves i m e, get_or_from_slice_get moves i m m e)

-- the places of a state are places of moves
pub places_within : (moves : List TableMove) (index : List (Vec ℕ Global)) (s : ℕ) (places : Vec ℕ Global) → IsIndex moves index → slice_get index s ≡ Some places → All (λ (i : ℕ). i < length moves) places.items
places_within moves index s places whole found =
    All-from_contains (λ (i : ℕ). i < length moves) places.items (λ i c. let m = whole.sound s places found i c in slice_get_within moves i m.0 m.1)

found_at : (moves : List TableMove) (m : TableMove) → Contains moves m → (i : ℕ) × (i < length moves) × (slice_get moves i ≡ Some m)
found_at moves m c = (c.0, c.1, slice_get_read moves (length moves) c.0 m refl c.1 (sym c.2))

-- the moves of a state are those at its places
pub by_places : (table : Table) (index : List (Vec ℕ Global)) (r : Reached) (places : Vec ℕ Global) (byte : ℕ) (text output : List ℕ) → IsIndex table.moves.items index → slice_get index r.state ≡ Some places → ByMoves table places.items r.written byte text output ↔ SomeGives table (r ∷ []) (byte ∷ text) output
by_places table index r places byte text output whole found = (
  λ h.
      let m : TableMove = h.2 in
      let by : ByMove table m r.written byte text output = h.4 in
      let at = whole.sound r.state places found h.0 h.1 in
      let one : Some at.0 ≡ Some m = sym at.1 ∙ h.3 in
      let same : at.0 ≡ m = cc in
      let from : m.from ≡ r.state = ap (λ (x : TableMove). x.from) (sym same) ∙ at.2 in
      let letters = map (letter_of byte) m.out.items in
      let c : Contains table.moves.items m = contains_found table.moves.items h.0 m h.3 in
      (r, (0, omega arith, refl), by.0, (m.to, letters, by.2, (m, c, from, by.1, refl, refl), by.4, by.3)),
  λ h.
      let one : h.0 ≡ r = one_in r h.0 h.1 in
      let step : TableStep table.moves.items (h.0).state byte h.3.0 h.3.1 = h.3.3 in
      let m : TableMove = step.0 in
      let at = found_at table.moves.items m step.1 in
      let full = whole.full at.0 m at.2 in
      let state : m.from ≡ r.state = step.2 ∙ ap (λ (x : Reached). x.state) one in
      let two : Some full.0 ≡ Some places = sym full.1 ∙ (ap (slice_get index) state ∙ found) in
      let same : full.0 ≡ places = cc in
      let c : Contains places.items at.0 = subst (λ (x : Vec ℕ Global). Contains x.items at.0) same full.2 in
      let within : r.written ≤ length output = subst (λ (x : Reached). x.written ≤ length output) one h.2 in
      let puts : letters_from output r.written ≡ map (letter_of byte) m.out.items ++ h.3.2 =
      ap (λ (x : Reached). letters_from output x.written) (sym one) ∙ h.3.5 ∙ ap (λ (x : List Letter). x ++ h.3.2) (sym step.5) in
      let rest : TableGives table m.to text h.3.2 = subst (λ (x : ℕ). TableGives table x text h.3.2) (sym step.4) h.3.4 in
      (at.0, c, m, at.2, (within, step.3, h.3.2, puts, rest)),
)

-- a state without a list has no move
pub no_places : (table : Table) (index : List (Vec ℕ Global)) (r : Reached) (keys : List Reached) (byte : ℕ) (text output : List ℕ) → IsIndex table.moves.items index → slice_get index r.state ≡ None → SomeGives table keys text output ↔ (SomeGives table keys text output ⊎ SomeGives table (r ∷ []) (byte ∷ text) output)
no_places table index r keys byte text output whole none = (
  λ h. inl h,
  λ h. elim h [
    | inl f ↦ f
    | inr h ↦
        let one : h.0 ≡ r = one_in r h.0 h.1 in
        let step : TableStep table.moves.items (h.0).state byte h.3.0 h.3.1 = h.3.3 in
        let m : TableMove = step.0 in
        let at = found_at table.moves.items m step.1 in
        let full = whole.full at.0 m at.2 in
        let state : m.from ≡ r.state = step.2 ∙ ap (λ (x : Reached). x.state) one in
        let two : Some full.0 ≡ None = sym full.1 ∙ (ap (slice_get index) state ∙ none) in
        absurd (cc)
  ],
)

pub some_gives_append : (table : Table) (xs ys : List Reached) (text output : List ℕ) → SomeGives table (xs ++ ys) text output ↔ (SomeGives table xs text output ⊎ SomeGives table ys text output)
some_gives_append table xs ys text output = (
  λ h. elim (Contains-append_cases xs ys h.0 h.1) [ inl c ↦ inl (h.0, c, h.2, h.3) | inr c ↦ inr (h.0, c, h.2, h.3) ],
  λ h. elim h [
    | inl f ↦ (f.0, Contains-append_left xs ys f.0 f.1, f.2, f.3)
    | inr f ↦ (f.0, Contains-append_right xs ys f.0 f.1, f.2, f.3)
  ],
)

-- the places of a layer are followed by a byte
abbrev pub Followed : Table → List Reached → List Reached → ℕ → List ℕ → Type 0
Followed table layer next byte output = (text : List ℕ) → SomeGives table next text output ↔ SomeGives table layer (byte ∷ text) output

pub followed_none : (table : Table) (byte : ℕ) (output : List ℕ) → Followed table [] [] byte output
followed_none table byte output text =
    (λ h. absurd (none_in h.0 h.1), λ h. absurd (none_in h.0 h.1))

pub followed_more : (table : Table) (layer next new : List Reached) (i : ℕ) (d : Reached) (byte : ℕ) (output : List ℕ) → i < length layer → Followed table (take i layer) next byte output → ((text : List ℕ) → SomeGives table new text output ↔ (SomeGives table next text output ⊎ SomeGives table (get_or layer i d ∷ []) (byte ∷ text) output)) → Followed table (take (i + 1) layer) new byte output
followed_more table layer next new i d byte output h before more text =
    let both = some_gives_append table (take i layer) (get_or layer i d ∷ []) (byte ∷ text) output in
    subst (λ (x : List Reached). SomeGives table new text output ↔ SomeGives table x (byte ∷ text) output) (sym (take_more layer i d h)) (
      λ a. both.1 (elim ((more text).0 a) [ inl b ↦ inl ((before text).0 b) | inr b ↦ inr b ]),
      λ a. (more text).1 (elim (both.0 a) [ inl b ↦ inl ((before text).1 b) | inr b ↦ inr b ]),
    )

pub followed_all : (table : Table) (layer next : List Reached) (i byte : ℕ) (output : List ℕ) → length layer ≤ i → Followed table (take i layer) next byte output → Followed table layer next byte output
followed_all table layer next i byte output h before =
    subst (λ (x : List Reached). Followed table x next byte output) (take_all i layer h) before

-- the state of a move is one of the table's
pub from_within : (states : ℕ) (moves : List TableMove) (i : ℕ) (d : TableMove) → IsTrue (moves_fit states moves) → i < length moves → (get_or moves i d).from < states
from_within states [] i d t h = absurd (omega arith)
from_within states (m ∷ moves) zero d t h = ltb-true m.from states (first_so (ltb m.from states) (ltb m.to states) (first_so (ltb m.from states && ltb m.to states) (moves_fit states moves) t))
from_within states (m ∷ moves) (suc i) d t h = from_within states moves i d (second_so (ltb m.from states && ltb m.to states) (moves_fit states moves) t) (omega arith)

-- the place of a move is listed under the state that it is from, and nothing else
from_some : (o : Option TableMove) (s : ℕ) → option_map (λ (m : TableMove). m.from) o ≡ Some s → (m : TableMove) × (o ≡ Some m) × (m.from ≡ s)
from_some None s e = absurd (cc)
from_some (Some m) s e = (m, refl, same_Some m.from s e)

list_at : (index : List (Vec ℕ Global)) (s : ℕ) → s < length index → (places : Vec ℕ Global) × (slice_get index s ≡ Some places)
list_at index s lt = elim (slice_get_cases index s).1 [ inl h ↦ (h.0, h.2) | inr h ↦ absurd (omega (arith, h.0)) ]

pub index_of : (moves : List TableMove) (index : List (Vec ℕ Global)) → All (λ (m : TableMove). m.from < length index) moves → ArePlaces (map (λ (m : TableMove). m.from) moves) index → IsIndex moves index
index_of moves index below exact =
    record {
      sound = λ s places found i c. from_some (slice_get moves i) s (sym (slice_get-map (λ (m : TableMove). m.from) moves i) ∙ (exact s places found i).0 c);
      full = λ i m found.
          let lt : m.from < length index = All-contains (λ (x : TableMove). x.from < length index) moves m below (contains_found moves i m found) in
          let at = list_at index m.from lt in
          (at.0, at.1, (exact m.from at.0 at.1 i).1 (slice_get-map (λ (x : TableMove). x.from) moves i ∙ ap (option_map (λ (x : TableMove). x.from)) found));
    }

-- no end among the first stops there
abbrev pub NoneStops : List TableEnd → List Reached → List ℕ → Type 0
NoneStops ends keys output = (e : TableEnd) → Contains ends e → StopsBy keys output e → ⊥

pub none_stops_more : (ends : List TableEnd) (i : ℕ) (d : TableEnd) (keys : List Reached) (output : List ℕ) → i < length ends → NoneStops (take i ends) keys output → (StopsBy keys output (get_or ends i d) → ⊥) → NoneStops (take (i + 1) ends) keys output
none_stops_more ends i d keys output h before here e c s =
    elim (Contains-push_cases (take i ends) (get_or ends i d) e (subst (λ (x : List TableEnd). Contains x e) (take_more ends i d h) c)) [
      | inl f ↦ before e f s
      | inr f ↦ here (subst (λ (x : TableEnd). StopsBy keys output x) (sym f) s)
    ]

-- an end that stops
pub stops_gives : (table : Table) (keys : List Reached) (output : List ℕ) (e : TableEnd) → Contains table.ends.items e → StopsBy keys output e → SomeGives table keys [] output
stops_gives table keys output e c s = (s.0, s.1, s.2, (e, c, s.3, s.4))

-- no end stops
pub none_gives : (table : Table) (keys : List Reached) (output : List ℕ) (i : ℕ) → length table.ends.items ≤ i → NoneStops (take i table.ends.items) keys output → SomeGives table keys [] output → ⊥
none_gives table keys output i h none_stops g =
    let e : TableEnd = g.3.0 in
    let c : Contains (take i table.ends.items) e = subst (λ (x : List TableEnd). Contains x e) (sym (take_all i table.ends.items h)) g.3.1 in
    none_stops e c (g.0, g.1, g.2, g.3.2, g.3.3)

-- what an output that is written from a place has still to have
length_letters : (output : List ℕ) (at : ℕ) → length (letters_from output at) ≡ length output - at
length_letters output at = length-map (drop at output) (λ (x : ℕ). OfByte x) ∙ length-drop at output

pub before_found : (out : List Out) (output : List ℕ) (at after : ℕ) → at + length out ≡ length output → letters_from output at ≡ map (letter_of 0) out ++ letters_from output after → letters_from output at ≡ map (letter_of 0) out
before_found out output at after h e =
    let l : length (letters_from output at) ≡ length out + length (letters_from output after) =
    ap length e ∙ length-append (map (letter_of 0) out) (letters_from output after) ∙ ap (λ (x : ℕ). x + length (letters_from output after)) (length-map out (letter_of 0)) in
    let z : length (letters_from output after) ≡ 0 = omega (arith, length_letters output at) in
    e ∙ ap (λ (x : List Letter). map (letter_of 0) out ++ x) (nil_from_length (letters_from output after) z) ∙ append-nil (map (letter_of 0) out)

pub before_none : (out : List Out) (output : List ℕ) (at : ℕ) → at + length out ≡ length output → ((rest : List Letter) → letters_from output at ≢ map (letter_of 0) out ++ rest) → (k : ℕ) → k ≤ length output → letters_from output k ≢ map (letter_of 0) out
before_none out output at h differs k w e =
    let l : length output - k ≡ length out = sym (length_letters output k) ∙ ap length e ∙ length-map out (letter_of 0) in
    let same : k ≡ at = omega arith in
    differs [] (ap (letters_from output) (sym same) ∙ e ∙ sym (append-nil (map (letter_of 0) out)))

pub before_long : (out : List Out) (output : List ℕ) → length output < length out → (k : ℕ) → k ≤ length output → letters_from output k ≢ map (letter_of 0) out
before_long out output h k w e =
    let l : length output - k ≡ length out = sym (length_letters output k) ∙ ap length e ∙ length-map out (letter_of 0) in
    absurd (omega arith)

-- an end stops where its place is reached
pub stops_where : (keys : List Reached) (output : List ℕ) (e : TableEnd) (at : ℕ) (answer : Bool) → at ≤ length output → letters_from output at ≡ map (letter_of 0) e.out.items → (IsTrue answer ↔ Contains keys (record { state = e.state; written = at })) → IsTrue answer ↔ StopsBy keys output e
stops_where keys output e at answer w puts says = (
  λ t. (record { state = e.state; written = at }, says.0 t, w, refl, sym puts),
  λ s.
      let letters : letters_from output (s.0).written ≡ letters_from output at = sym s.4 ∙ sym puts in
      let l : length output - (s.0).written ≡ length output - at = sym (length_letters output (s.0).written) ∙ ap length letters ∙ length_letters output at in
      let v : (s.0).written ≤ length output = s.2 in
      let same : (s.0).written ≡ at = omega arith in
      let make : ℕ → ℕ → Reached = λ x y. record { state = x; written = y } in
      let eq : s.0 ≡ make e.state at = ap (λ (x : ℕ). make x (s.0).written) (sym s.3) ∙ ap (λ (y : ℕ). make e.state y) same in
      says.1 (subst (λ (x : Reached). Contains keys x) eq s.1),
)

abbrev reached_eq : Reached → Reached → Bool
reached_eq x y = nat_eq x.state y.state && nat_eq x.written y.written

-- the test of places is an equivalence
pub reached_equiv : IsEquivalence reached_eq
reached_equiv =
    record {
      refl = λ x. rw (nat_eq_equiv.refl x.state) (nat_eq_equiv.refl x.written);
      symm = λ x y. rw (nat_eq_equiv.symm x.state y.state, nat_eq_equiv.symm x.written y.written) refl;
      congr = λ x y z h. rw (reached_exact x y h) refl;
    }
