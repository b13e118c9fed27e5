-- How a table is written state by state.
use Rattle.std.proofs.Common.{◌≡◌, ℕ, zero, suc, ◌+◌, ◌<◌, ◌≤◌, ◌⊎◌, Bool, true, false, ◌&&◌, ◌==◌, nat_lt, cond, List, [], ◌∷◌, ◌++◌, length, Option, None, Some, refl, sym, ◌∙◌, ap, subst, inl, inr, arith, if◌then◌else◌}
use Rattle.std.specs.Prelude.{slice_get, slice_index, IfSome, IsTrue, option_to_list, OnOk, Result, Ok, Err}
use Rattle.std.specs.List.{list_all}
use Rattle.std.proofs.lemmas.List.{append_assoc, append-nil}
use Rattle.std.proofs.lemmas.Bool.{cases_order, cases_lt, cases_Bool, ltb-true, eq-eqb, ne_eqb, lt-ltb, le-ltb}
use Rattle.fst_core.specs.declared.out.Out.{Out}
use Rattle.fst_core.specs.declared.moves.Action.{Action}
use Rattle.fst_core.specs.declared.moves.TableMove.{TableMove}
use Rattle.fst_core.specs.declared.moves.TableEnd.{TableEnd}
use Rattle.fst_core.specs.declared.table.Table.{Table}
use Rattle.fst_core.specs.Choices.{choices, stops, choice_of, AddsRow}
use Rattle.string_ops.specs.Listed.{Rows, Lasts, IsListed}
use Rattle.string_ops.specs.Plans.{choice_in, IsRow, AddsTurn, AddsState}
use Rattle.string_ops.proofs.PlanRows.{list_all-slice_get}

choice_of-choice_in : (o : Option Action) → choice_of o ≡ option_to_list (choice_in o)
choice_of-choice_in None = refl
choice_of-choice_in (Some action) = refl

-- a row adds what it names
pub turn_from_row : (old new : List TableMove) (from : ℕ) (named : List ℕ) (actions : List Action) (states : ℕ) (row : ℕ → Option (ℕ × List Out)) → AddsRow old new from named actions → IsRow named actions states row → AddsTurn old new from row
turn_from_row old new from named actions states row adds is s byte =
    adds s byte ∙ ap (λ xs. choices old s byte ++ xs) (elim (cases_Bool (nat_lt byte 256)) [
      | inl below ↦ rw below (ap (λ xs. cond (from == s && true) xs []) (choice_of-choice_in (slice_get actions (slice_index named byte)) ∙ ap option_to_list (is.says byte (ltb-true byte 256 below))))
      | inr above ↦ rw above (both_empty _ _ (from == s))
    ])
  where
    both_empty : {A : Type 0} (xs ys : List A) (b : Bool) → cond (b && false) xs [] ≡ cond (b && false) ys []
    both_empty xs ys true = refl
    both_empty xs ys false = refl

-- at most three are the first, the second and the third
three_turns : (A : Type 0) (xs : List A) → length xs ≤ 3 → (option_to_list (slice_get xs 0) ++ option_to_list (slice_get xs 1)) ++ option_to_list (slice_get xs 2) ≡ xs
three_turns A [] h = refl
three_turns A (x ∷ []) h = refl
three_turns A (x ∷ y ∷ []) h = refl
three_turns A (x ∷ y ∷ z ∷ []) h = refl
three_turns A (x ∷ y ∷ z ∷ w ∷ xs) h = absurd (omega (arith, h))

cond_two : {A : Type 0} (b : Bool) (old xs ys : List A) → (old ++ cond b xs []) ++ cond b ys [] ≡ old ++ cond b (xs ++ ys) []
cond_two true old xs ys = append_assoc old xs ys
cond_two false old xs ys = append-nil (old ++ [])

pub turns : (old mid later new : List TableMove) (from : ℕ) (row : ℕ → List (ℕ × List Out)) → AddsTurn old mid from (λ byte. slice_get (row byte) 0) → AddsTurn mid later from (λ byte. slice_get (row byte) 1) → AddsTurn later new from (λ byte. slice_get (row byte) 2) → ((byte : ℕ) → length (row byte) ≤ 3) → (s byte : ℕ) → choices new s byte ≡ choices old s byte ++ (if from == s && nat_lt byte 256 then row byte else [])
turns old mid later new from row one two three few s byte =
    let here = from == s && nat_lt byte 256 in
    let first = option_to_list (slice_get (row byte) 0) in
    let second = option_to_list (slice_get (row byte) 1) in
    let third = option_to_list (slice_get (row byte) 2) in
    three s byte
    ∙ ap (λ xs. xs ++ cond here third []) (two s byte ∙ ap (λ xs. xs ++ cond here second []) (one s byte) ∙ cond_two here (choices old s byte) first second)
    ∙ cond_two here (choices old s byte) (first ++ second) third
    ∙ ap (λ xs. choices old s byte ++ cond here xs []) (three_turns (ℕ × List Out) (row byte) (few byte))

pub stops-append : (xs ys : List TableEnd) (s : ℕ) → stops (xs ++ ys) s ≡ stops xs s ++ stops ys s
stops-append [] ys s = refl
stops-append (e ∷ xs) ys s = at (e.state == s) (stops-append xs ys s)
  where
    at : (b : Bool) → stops (xs ++ ys) s ≡ stops xs s ++ stops ys s → cond b (e.out.items ∷ stops (xs ++ ys) s) (stops (xs ++ ys) s) ≡ cond b (e.out.items ∷ stops xs s) (stops xs s) ++ stops ys s
    at true h = ap (λ rest. e.out.items ∷ rest) h
    at false h = h

one_last : (A : Type 0) (xs : List A) (x : A) → length xs ≤ 1 → Some x ≡ slice_get xs 0 → xs ≡ x ∷ []
one_last A [] x h is = cc
one_last A (y ∷ []) x h is = let e : x ≡ y = cc in ap (λ z. z ∷ []) (sym e)
one_last A (y ∷ z ∷ xs) x h is = absurd (omega (arith, h))

no_last : (A : Type 0) (xs : List A) → None ≡ slice_get xs 0 → xs ≡ []
no_last A [] is = refl
no_last A (y ∷ xs) is = cc

-- the one output of a state is added
pub adds_last : (old new : List TableEnd) (e : TableEnd) (from : ℕ) (lasts : List (List Out)) → new ≡ old ++ e ∷ [] → e.state ≡ from → length lasts ≤ 1 → Some e.out.items ≡ slice_get lasts 0 → (s : ℕ) → stops new s ≡ stops old s ++ (if from == s then lasts else [])
adds_last old new e from lasts grows of few is s =
    ap (λ xs. stops xs s) grows ∙ stops-append old (e ∷ []) s ∙ ap (λ xs. stops old s ++ xs) (subst (λ (n : ℕ). stops (e ∷ []) s ≡ cond (n == s) lasts []) of (ap (λ (xs : List (List Out)). cond (e.state == s) xs []) (sym (one_last (List Out) lasts e.out.items few is))))

pub adds_no_last : (old new : List TableEnd) (from : ℕ) (lasts : List (List Out)) → new ≡ old → None ≡ slice_get lasts 0 → (s : ℕ) → stops new s ≡ stops old s ++ (if from == s then lasts else [])
adds_no_last old new from lasts same is s =
    ap (λ xs. stops xs s) same ∙ sym (append-nil (stops old s)) ∙ ap (λ xs. stops old s ++ xs) (none (from == s))
  where
    none : (b : Bool) → [] ≡ cond b lasts []
    none true = sym (no_last (List Out) lasts is)
    none false = refl

pub last_fixed : (p : List Out → Bool) (lasts : List (List Out)) (out : List Out) → list_all p lasts ≡ true → Some out ≡ slice_get lasts 0 → IsTrue (p out)
last_fixed p lasts out all is = list_all-slice_get p lasts 0 out all (sym is)

-- the first states are written
pub record StatesSoFar (table : Table) (states : ℕ) (rows : Rows) (lasts : Lasts) (i : ℕ) : Type 0 where
  pub all : table.states ≡ states
  pub first : table.start ≡ 0
  pub moves : (s byte : ℕ) → choices table.moves.items s byte ≡ (if nat_lt s i && nat_lt byte 256 then rows s byte else [])
  pub ends : (s : ℕ) → stops table.ends.items s ≡ (if nat_lt s i then lasts s else [])

and_true : (b : Bool) → (b && true) ≡ b
and_true true = refl
and_true false = refl

and_false : (b : Bool) → (b && false) ≡ false
and_false true = refl
and_false false = refl

-- one state more
more : {A : Type 0} (f : ℕ → List A) (i s : ℕ) → (if nat_lt s i then f s else []) ++ (if i == s then f i else []) ≡ (if nat_lt s (i + 1) then f s else [])
more f i s =
    elim (cases_order s i) [
      | inl same ↦ rw (le-ltb s i (omega (arith, same)), eq-eqb i s (sym same), lt-ltb s (i + 1) (omega (arith, same))) (ap f (sym same))
      | inr other ↦ elim other [
        | inl below ↦ rw (lt-ltb s i below, ne_eqb i s (λ e. omega (arith, e, below)), lt-ltb s (i + 1) (omega (arith, below))) (append-nil (f s))
        | inr above ↦ rw (le-ltb s i (omega (arith, above)), ne_eqb i s (λ e. omega (arith, e, above)), le-ltb s (i + 1) (omega (arith, above))) refl
      ]
    ]

more_by : {A : Type 0} (b : Bool) (f : ℕ → List A) (i s : ℕ) → (if nat_lt s i && b then f s else []) ++ (if i == s && b then f i else []) ≡ (if nat_lt s (i + 1) && b then f s else [])
more_by true f i s = simp (and_true (nat_lt s i), and_true (i == s), and_true (nat_lt s (i + 1))) (more f i s)
more_by false f i s = simp (and_false (nat_lt s i), and_false (i == s), and_false (nat_lt s (i + 1))) refl

pub states_none : (table : Table) (states : ℕ) (rows : Rows) (lasts : Lasts) → table.states ≡ states → table.start ≡ 0 → table.moves.items ≡ [] → table.ends.items ≡ [] → StatesSoFar table states rows lasts 0
states_none table states rows lasts all first moves ends = record {
  all = all;
  first = first;
  moves = λ s byte. ap (λ xs. choices xs s byte) moves ∙ sym (nothing_by s (nat_lt byte 256) (rows s byte));
  ends = λ s. ap (λ xs. stops xs s) ends ∙ sym (nothing s (lasts s));
}
  where
    nothing : {A : Type 0} (s : ℕ) (xs : List A) → (if nat_lt s 0 then xs else []) ≡ []
    nothing s xs = rw (le-ltb s 0 (omega arith)) refl

    nothing_by : {A : Type 0} (s : ℕ) (b : Bool) (xs : List A) → (if nat_lt s 0 && b then xs else []) ≡ []
    nothing_by s b xs = rw (le-ltb s 0 (omega arith)) refl

pub states_more : (old new : Table) (states : ℕ) (rows : Rows) (lasts : Lasts) (i : ℕ) → StatesSoFar old states rows lasts i → AddsState old new i (rows i) (lasts i) → StatesSoFar new states rows lasts (i + 1)
states_more old new states rows lasts i so adds = record {
  all = adds.all ∙ so.all;
  first = adds.first ∙ so.first;
  moves = λ s byte. adds.moves s byte ∙ ap (λ xs. xs ++ cond (i == s && nat_lt byte 256) (rows i byte) []) (so.moves s byte) ∙ more_by (nat_lt byte 256) (λ n. rows n byte) i s;
  ends = λ s. adds.ends s ∙ ap (λ xs. xs ++ cond (i == s) (lasts i) []) (so.ends s) ∙ more lasts i s;
}

pub states_all : (table : Table) (states : ℕ) (rows : Rows) (lasts : Lasts) (i : ℕ) → StatesSoFar table states rows lasts i → states ≤ i → ((s byte : ℕ) → states ≤ s → rows s byte ≡ []) → ((s : ℕ) → states ≤ s → lasts s ≡ []) → IsListed table states rows lasts
states_all table states rows lasts i so whole no_rows no_lasts = record {
  count = so.all;
  start = so.first;
  moves = λ s byte. so.moves s byte ∙ elim (cases_lt s i) [
    | inl inside ↦ rw (lt-ltb s i inside) refl
    | inr outside ↦ rw (le-ltb s i outside) (none (nat_lt byte 256) (rows s byte) (no_rows s byte (omega (arith, whole, outside))))
  ];
  ends = λ s. so.ends s ∙ elim (cases_lt s i) [
    | inl inside ↦ rw (lt-ltb s i inside) refl
    | inr outside ↦ rw (le-ltb s i outside) (sym (no_lasts s (omega (arith, whole, outside))))
  ];
}
  where
    none : {A : Type 0} (b : Bool) (xs : List A) → xs ≡ [] → [] ≡ (if b then xs else [])
    none true xs e = sym e
    none false xs e = refl

-- what follows from what holds on Ok
pub on_ok : {T E : Type 0} (r : Result T E) (P Q : Type 0) → (P → Q) → OnOk r P → OnOk r Q
on_ok (Ok x) P Q f h = f h
on_ok (Err e) P Q f h = tt

-- what else is added leaves the moves, and what was added before leaves the ends
pub moved_moves : (old mid new : List TableMove) (from : ℕ) (row : ℕ → List (ℕ × List Out)) → new ≡ mid → ((s byte : ℕ) → choices mid s byte ≡ choices old s byte ++ (if from == s && nat_lt byte 256 then row byte else [])) → (s byte : ℕ) → choices new s byte ≡ choices old s byte ++ (if from == s && nat_lt byte 256 then row byte else [])
moved_moves old mid new from row same adds s byte = ap (λ xs. choices xs s byte) same ∙ adds s byte

pub moved_ends : (old mid new : List TableEnd) (from : ℕ) (lasts : List (List Out)) → mid ≡ old → ((s : ℕ) → stops new s ≡ stops mid s ++ (if from == s then lasts else [])) → (s : ℕ) → stops new s ≡ stops old s ++ (if from == s then lasts else [])
moved_ends old mid new from lasts same adds s = adds s ∙ ap (λ xs. stops xs s ++ cond (from == s) lasts []) same
