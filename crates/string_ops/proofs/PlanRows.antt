-- How a row is written byte by byte.
use Rattle.std.proofs.Common.{◌≡◌, ℕ, zero, suc, ◌+◌, ◌<◌, ◌≤◌, Bool, true, nat_lt, List, [], ◌∷◌, ◌++◌, length, Option, None, Some, refl, sym, ◌∙◌, ap, subst, inl, inr, arith}
use Rattle.std.specs.Prelude.{slice_get, slice_index, IfSome}
use Rattle.std.specs.List.{list_all}
use Rattle.std.proofs.lemmas.List.{length-append, get_or_push, get_or_append_left}
use Rattle.std.proofs.lemmas.Bool.{and_parts, ltb-true, cases_lt}
use Rattle.fst_core.specs.declared.out.Out.{Out}
use Rattle.fst_core.specs.declared.moves.Action.{Action}
use Rattle.string_ops.specs.Plans.{choice_in, IsRow, Extends, Names, LeadBelow}

-- the first bytes are named
pub record RowSoFar (named : List ℕ) (actions : List Action) (states : ℕ) (row : ℕ → Option (ℕ × List Out)) (i : ℕ) : Type 0 where
  pub bytes : length named ≡ i
  pub few : length actions ≤ i
  pub to : LeadBelow states actions
  pub says : (byte : ℕ) → byte < i → Names actions (slice_index named byte) (row byte)

pub slice_get-append : {X : Type 0} (xs ys : List X) (k : ℕ) (x : X) → slice_get xs k ≡ Some x → slice_get (xs ++ ys) k ≡ Some x
slice_get-append [] ys k x h = cc
slice_get-append (y ∷ xs) ys zero x h = h
slice_get-append (y ∷ xs) ys (suc k) x h = slice_get-append xs ys k x h

pub slice_get-past : {X : Type 0} (xs : List X) (k : ℕ) → length xs ≤ k → slice_get xs k ≡ None
slice_get-past [] k h = refl
slice_get-past (x ∷ xs) zero h = absurd (omega (arith, h))
slice_get-past (x ∷ xs) (suc k) h = slice_get-past xs k (omega (arith, h))

got : (actions : List Action) (place : ℕ) (choice : ℕ × List Out) → choice_in (slice_get actions place) ≡ Some choice → (action : Action) × (slice_get actions place ≡ Some action)
got actions place choice = go (slice_get actions place) refl
  where
    go : (o : Option Action) → slice_get actions place ≡ o → choice_in o ≡ Some choice → (action : Action) × (slice_get actions place ≡ Some action)
    go None is h = cc
    go (Some action) is h = (action, is)

-- a place keeps its name
Names-append : (actions more : List Action) (place : ℕ) (choice : Option (ℕ × List Out)) → Names actions place choice → Names (actions ++ more) place choice
Names-append actions more place None h = h
Names-append actions more place (Some choice) h =
    let (action, is) = got actions place choice h in
    ap choice_in (slice_get-append actions more place action is ∙ sym is) ∙ h

pub row_none : (states : ℕ) (row : ℕ → Option (ℕ × List Out)) → RowSoFar [] [] states row 0
row_none states row = record {
  bytes = refl;
  few = omega arith;
  to = λ k d below. absurd (omega (arith, below));
  says = λ byte below. absurd (omega (arith, below));
}

pub row_more : (named named' : List ℕ) (actions actions' : List Action) (states : ℕ) (row : ℕ → Option (ℕ × List Out)) (i place : ℕ) → RowSoFar named actions states row i → Extends actions actions' → LeadBelow states actions' → Names actions' place (row i) → named' ≡ named ++ place ∷ [] → RowSoFar named' actions' states row (i + 1)
row_more named named' actions actions' states row i place so extends to names is =
    subst (λ (ns : List ℕ). RowSoFar ns actions' states row (i + 1)) (sym is) (record {
      bytes = length-append named (place ∷ []) ∙ ap (λ n. n + 1) so.bytes;
      few = few;
      to = to;
      says = λ byte below. elim (cases_lt byte i) [
        | inl l ↦
            let old = so.says byte l in
            let fits : byte < length named = omega (arith, so.bytes, l) in
            let same : slice_index (named ++ place ∷ []) byte ≡ slice_index named byte = get_or_append_left named (place ∷ []) 0 byte fits in
            subst (λ (p : ℕ). Names actions' p (row byte)) (sym same) (subst (λ (as' : List Action). Names as' (slice_index named byte) (row byte)) (sym extends.1) (Names-append actions extends.0 (slice_index named byte) (row byte) old))
        | inr l ↦
            let at : i ≡ byte = omega (arith, below, l) in
            let new : slice_index (named ++ place ∷ []) byte ≡ place = get_or_push named place 0 byte (so.bytes ∙ at) in
            subst (λ (p : ℕ). Names actions' p (row byte)) (sym new) (subst (λ (b : ℕ). Names actions' place (row b)) at names)
      ];
    })
  where
    few : length actions' ≤ i + 1
    few = let e : length actions' ≡ length actions + length extends.0 = ap length extends.1 ∙ length-append actions extends.0 in omega (arith, e, so.few, extends.2)

pub row_all : (named : List ℕ) (actions : List Action) (states : ℕ) (row : ℕ → Option (ℕ × List Out)) (i : ℕ) → RowSoFar named actions states row i → i ≡ 256 → IsRow named actions states row
row_all named actions states row i so is = record {
  bytes = so.bytes ∙ is;
  to = so.to;
  says = λ byte below. told (slice_index named byte) (row byte) (so.says byte (omega (arith, below, is)));
}
  where
    told : (place : ℕ) (choice : Option (ℕ × List Out)) → Names actions place choice → choice_in (slice_get actions place) ≡ choice
    told place None h = ap choice_in (slice_get-past actions place (omega (arith, so.few, is, h)))
    told place (Some choice) h = h

pub list_all-slice_get : {X : Type 0} (p : X → Bool) (xs : List X) (k : ℕ) (x : X) → list_all p xs ≡ true → slice_get xs k ≡ Some x → p x ≡ true
list_all-slice_get p [] k x h g = cc
list_all-slice_get p (y ∷ xs) zero x h g = let e : y ≡ x = cc in subst (λ z. p z ≡ true) e (and_parts (p y) (list_all p xs) h).0
list_all-slice_get p (y ∷ xs) (suc k) x h g = list_all-slice_get p xs k x (and_parts (p y) (list_all p xs) h).1 g

-- what is chosen leads below the number of states
pub choice_below : (states : ℕ) (choices : List (ℕ × List Out)) (turn : ℕ) (choice : Option Action) → list_all (λ c. nat_lt c.0 states) choices ≡ true → choice_in choice ≡ slice_get choices turn → IfSome choice (λ a. a.to < states)
choice_below states choices turn None all is = tt
choice_below states choices turn (Some action) all is = ltb-true action.to states (list_all-slice_get (λ c. nat_lt c.0 states) choices turn (action.to, action.out.items) all (sym is))
