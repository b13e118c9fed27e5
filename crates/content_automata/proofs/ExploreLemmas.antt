-- Rows and numbers, one state after another.
use Rattle.std.proofs.Common.{◌≡◌, ℕ, zero, suc, ◌+◌, ◌<◌, ◌≤◌, inl, inr, false, List, [], ◌∷◌, ◌++◌, length, Contains, refl, sym, ◌∙◌, ap, subst, arith, Option, Some, None, slice_get, map}
use Rattle.std.specs.Prelude.{slice_index_or}
use Rattle.std.proofs.lemmas.Bool.{cases_eq}
use Rattle.std.proofs.lemmas.Option.{slice_get_within}
use Rattle.content_automata.specs.Shapes.{Shape, first_state, state_behind, IsSized}
use Rattle.content_automata.specs.Tables.{Key, Keeps, Adds, AllReached, AreSized, CellsFit, RowFits, RowsFit, FirstsFit, Row}
use Rattle.content_automata.specs.Views.{shape_of, shapes_of, row_of, BeginsAt, HasRow}
use Rattle.content_automata.specs.declared.model.Model.{Model}
use Rattle.content_automata.specs.declared.explore.State.{State}
use Rattle.content_automata.specs.Sets.{has_end}
use Rattle.std.proofs.lemmas.List.Elements.{Contains-append_right}
use Rattle.content_automata.proofs.ReachLemmas.{led_sized, all_reached}
use Rattle.content_automata.proofs.TableLemmas.{cell_kept}

abbrev pub no_row : Row
no_row = (false, [])

-- the plain form of the model at a place
pub shape_is : (models : List Model) (e : ℕ) (m : Model) → e < length models → slice_index_or models e m ≡ m → slice_get (shapes_of models) e ≡ Some (shape_of m)
shape_is [] e m h is = absurd (omega (arith, h))
shape_is (x ∷ xs) zero m h is = ap (λ (y : Model). Some (shape_of y)) is
shape_is (x ∷ xs) (suc e) m h is = shape_is xs e m (omega (arith, h)) is

pub shapes_length : (models : List Model) → length (shapes_of models) ≡ length models
shapes_length [] = refl
shapes_length (x ∷ xs) = let e = shapes_length xs in omega (arith, e)

pub begins_at : (shapes : List Shape) (keys : List Key) (e n : ℕ) (s : Shape) → slice_get shapes e ≡ Some s → slice_get keys n ≡ Some (e, first_state s) → BeginsAt shapes keys e n
begins_at shapes keys e n s at is = λ t h.
    let one : Some s ≡ Some t = sym at ∙ h in
    let same : s ≡ t = cc in
    is ∙ ap (λ (x : Shape). Some (e, first_state x)) same

row_kept : (shapes : List Shape) (old new : List Key) (k : Key) (row : Row) → Keeps old new → RowFits shapes old k row → RowFits shapes new k row
row_kept shapes old new k row keeps r =
    record {
      shape_of_it = r.shape_of_it;
      declared = r.declared;
      end = r.end;
      cells_fit = record {
        long = r.cells_fit.long;
        fit = λ e h. cell_kept old new k.0 (slice_index_or row.1 e None) (state_behind (length shapes) r.shape_of_it k.1 e) keeps (r.cells_fit.fit e h);
      };
    }

front_is : (rows : List Row) (row : Row) (i : ℕ) → i < length rows → slice_index_or (rows ++ row ∷ []) i no_row ≡ slice_index_or rows i no_row
front_is [] row i h = absurd (omega (arith, h))
front_is (r ∷ rows) row zero h = refl
front_is (r ∷ rows) row (suc i) h = front_is rows row i (omega (arith, h))

last_is : (rows : List Row) (row : Row) (i : ℕ) → i ≡ length rows → slice_index_or (rows ++ row ∷ []) i no_row ≡ row
last_is [] row zero h = refl
last_is [] row (suc i) h = absurd (omega (arith, h))
last_is (r ∷ rows) row zero h = absurd (omega (arith, h))
last_is (r ∷ rows) row (suc i) h = last_is rows row i (omega (arith, h))

more_rows : (rows : List Row) (row : Row) → length (rows ++ row ∷ []) ≡ length rows + 1
more_rows [] row = refl
more_rows (r ∷ rows) row = let e = more_rows rows row in omega (arith, e)

pub no_rows : (shapes : List Shape) (keys : List Key) → RowsFit shapes keys [] 0
no_rows shapes keys = record { long = refl; fit = λ n k h. absurd (omega (arith, h)) }

-- the state of a number is the same in the longer list
back_in : (old new : List Key) (n at : ℕ) (k last : Key) → Keeps old new → slice_get old at ≡ Some last → n ≤ at → slice_get new n ≡ Some k → slice_get old n ≡ Some k
back_in old new n at k last keeps here h is = go (slice_get old n) refl
  where
    go : (x : Option Key) → slice_get old n ≡ x → slice_get old n ≡ Some k
    go None none = absurd (none_within old n (omega (arith, h, slice_get_within old at last here)) none)
      where
        none_within : (ks : List Key) (i : ℕ) → i < length ks → slice_get ks i ≡ None → ⊥
        none_within [] i h e = omega (arith, h)
        none_within (x ∷ xs) zero h e = cc
        none_within (x ∷ xs) (suc i) h e = none_within xs i (omega (arith, h)) e
    go (Some j) some =
        let one : Some j ≡ Some k = sym (keeps n j some) ∙ is in
        some ∙ one

-- one row more
pub rows_more : (shapes : List Shape) (old new : List Key) (rows after : List Row) (at : ℕ) (row : Row) → RowsFit shapes old rows at → Keeps old new → HasRow shapes old new at row → after ≡ rows ++ row ∷ [] → RowsFit shapes new after (at + 1)
rows_more shapes old new rows after at row r keeps has is =
    record {
      long = ap length is ∙ more_rows rows row ∙ ap (λ (n : ℕ). n + 1) r.long;
      fit = λ n k h here. elim (cases_eq n at) [
        | inl same ↦
            let in_old : slice_get old n ≡ Some k = back_in old new n at k has.0 keeps has.1 (omega (arith, same)) here in
            let one : Some has.0 ≡ Some k = sym has.1 ∙ (ap (slice_get old) (sym same) ∙ in_old) in
            let same_key : has.0 ≡ k = cc in
            let last : slice_index_or after n no_row ≡ row = ap (λ (rs : List Row). slice_index_or rs n no_row) is ∙ last_is rows row n (same ∙ sym r.long) in
            subst (λ (x : Row). RowFits shapes new k x) (sym last) (subst (λ (x : Key). RowFits shapes new x row) same_key has.2)
        | inr other ↦
            let in_old : slice_get old n ≡ Some k = back_in old new n at k has.0 keeps has.1 (omega (arith, h)) here in
            let front : slice_index_or after n no_row ≡ slice_index_or rows n no_row = ap (λ (rs : List Row). slice_index_or rs n no_row) is ∙ front_is rows row n (let l = r.long in omega (arith, h, l, other)) in
            subst (λ (x : Row). RowFits shapes new k x) (sym front) (row_kept shapes old new k (slice_index_or rows n no_row) keeps (r.fit n k (omega (arith, h, other)) in_old))
      ];
    }

front_number : (xs : List ℕ) (x i : ℕ) → i < length xs → slice_index_or (xs ++ x ∷ []) i 0 ≡ slice_index_or xs i 0
front_number [] x i h = absurd (omega (arith, h))
front_number (y ∷ xs) x zero h = refl
front_number (y ∷ xs) x (suc i) h = front_number xs x i (omega (arith, h))

last_number : (xs : List ℕ) (x i : ℕ) → i ≡ length xs → slice_index_or (xs ++ x ∷ []) i 0 ≡ x
last_number [] x zero h = refl
last_number [] x (suc i) h = absurd (omega (arith, h))
last_number (y ∷ xs) x zero h = absurd (omega (arith, h))
last_number (y ∷ xs) x (suc i) h = last_number xs x i (omega (arith, h))

more_numbers : (xs : List ℕ) (x : ℕ) → length (xs ++ x ∷ []) ≡ length xs + 1
more_numbers [] x = refl
more_numbers (y ∷ xs) x = let e = more_numbers xs x in omega (arith, e)

pub no_firsts : (shapes : List Shape) (keys : List Key) → FirstsFit shapes keys [] 0
no_firsts shapes keys = record { long = refl; fit = λ e s h. absurd (omega (arith, h)) }

-- one number more
pub firsts_more : (shapes : List Shape) (old new : List Key) (firsts after : List ℕ) (e n : ℕ) → FirstsFit shapes old firsts e → Keeps old new → BeginsAt shapes new e n → after ≡ firsts ++ n ∷ [] → FirstsFit shapes new after (e + 1)
firsts_more shapes old new firsts after e n f keeps begins is =
    record {
      long = ap length is ∙ more_numbers firsts n ∙ ap (λ (k : ℕ). k + 1) f.long;
      fit = λ d s h at. elim (cases_eq d e) [
        | inl same ↦
            let last : slice_index_or after d 0 ≡ n = ap (λ (xs : List ℕ). slice_index_or xs d 0) is ∙ last_number firsts n d (same ∙ sym f.long) in
            ap (slice_get new) last ∙ begins s (ap (slice_get shapes) (sym same) ∙ at) ∙ ap (λ (k : ℕ). Some (k, first_state s)) (sym same)
        | inr other ↦
            let front : slice_index_or after d 0 ≡ slice_index_or firsts d 0 = ap (λ (xs : List ℕ). slice_index_or xs d 0) is ∙ front_number firsts n d (let l = f.long in omega (arith, h, l, other)) in
            ap (slice_get new) front ∙ keeps (slice_index_or firsts d 0) (d, first_state s) (f.fit d s (omega (arith, h, other)) at)
      ];
    }

pub ruleset shapes = (shape_is)

pub contains_at : (keys : List Key) (n : ℕ) (k : Key) → slice_get keys n ≡ Some k → Contains keys k
contains_at keys n k h = Contains-from_get keys n k h
  where
    Contains-from_get : (ks : List Key) (i : ℕ) (x : Key) → slice_get ks i ≡ Some x → Contains ks x
    Contains-from_get [] i x h = cc
    Contains-from_get (y ∷ ks) zero x h = let same : y ≡ x = cc in subst (λ (z : Key). Contains (y ∷ ks) z) same (0, omega arith, refl)
    Contains-from_get (y ∷ ks) (suc i) x h = Contains-append_right (y ∷ []) ks x (Contains-from_get ks i x h)

-- the element of a state is declared
pub key_within : (models : List Model) (keys : List Key) (n : ℕ) (k : Key) → AllReached (shapes_of models) keys → slice_get keys n ≡ Some k → k.0 < length models
key_within models keys n k all h =
    let r = all k (contains_at keys n k h) in
    let l = shapes_length models in
    let w = slice_get_within (shapes_of models) k.0 r.0 r.1 in
    omega (arith, l, w)

pub key_sized : (models : List Model) (keys : List Key) (n : ℕ) (k : Key) (s : Shape) → AreSized (shapes_of models) → AllReached (shapes_of models) keys → slice_get keys n ≡ Some k → slice_get (shapes_of models) k.0 ≡ Some s → IsSized s k.1
key_sized models keys n k s sized all h at = led_sized (shapes_of models) k s sized (all k (contains_at keys n k h)) at

pub state_reached : (models : List Model) (old new : List Key) (n : ℕ) (k : Key) (s : Shape) → AllReached (shapes_of models) old → slice_get old n ≡ Some k → slice_get (shapes_of models) k.0 ≡ Some s → Adds old new k.0 (length models) (state_behind (length models) s k.1) → AllReached (shapes_of models) new
state_reached models old new n k s all h at adds =
    all_reached (shapes_of models) old new k s all (contains_at old n k h) at (subst (λ (c : ℕ). Adds old new k.0 c (state_behind c s k.1)) (sym (shapes_length models)) adds)

pub state_row : (models : List Model) (new : List Key) (k : Key) (s : Shape) (row : Row) → slice_get (shapes_of models) k.0 ≡ Some s → row.0 ≡ has_end k.1 → CellsFit new k.0 (state_behind (length models) s k.1) row.1 (length models) → RowFits (shapes_of models) new k row
state_row models new k s row at end fits =
    record { shape_of_it = s; declared = at; end = end; cells_fit = subst (λ (c : ℕ). CellsFit new k.0 (state_behind c s k.1) row.1 c) (sym (shapes_length models)) fits }

pub rows_pushed : (states after : List State) (s : State) → after ≡ states ++ s ∷ [] → map row_of after ≡ map row_of states ++ row_of s ∷ []
rows_pushed states after s e = ap (map row_of) e ∙ pushed states s
  where
    pushed : (xs : List State) (x : State) → map row_of (xs ++ x ∷ []) ≡ map row_of xs ++ row_of x ∷ []
    pushed [] x = refl
    pushed (y ∷ xs) x = ap (λ (rs : List Row). row_of y ∷ rs) (pushed xs x)

pub at_most : (shapes : List Shape) (old new : List Key) (n : ℕ) (row : Row) → Keeps old new → HasRow shapes old new n row → n + 1 ≤ length new
at_most shapes old new n row keeps has = let w = slice_get_within new n has.0 (keeps n has.0 has.1) in omega (arith, w)

pub all_rows : (shapes : List Shape) (keys : List Key) (rows : List Row) (n : ℕ) → RowsFit shapes keys rows n → n ≤ length keys → length keys ≤ n → RowsFit shapes keys rows (length keys)
all_rows shapes keys rows n r low high = subst (RowsFit shapes keys rows) (let e : n ≡ length keys = omega (arith, low, high) in e) r
