-- Filling the rows of a table.
use Rattle.std.proofs.Common.{◌≡◌, ℕ, ◌+◌, ◌<◌, ◌≤◌, inl, inr, Bool, List, [], ◌∷◌, ◌++◌, length, map, refl, sym, ◌∙◌, ap, subst, arith, Option, Some, None, zero, suc}
use Rattle.std.specs.Prelude.{slice_index_or}
use Rattle.std.proofs.lemmas.Bool.{cases_eq}
use Rattle.std.specs.List.{range_with_len}
use Rattle.content_automata.proofs.RangeLemmas.{at_range, length_range}
use Rattle.content_automata.specs.Tables.{Key, Keeps, CellFits, CellsFit, Adds, AddsFound}

pub keeps_both : (a b c : List Key) → Keeps a b → Keeps b c → Keeps a c
keeps_both a b c k l = λ n key h. l n key (k n key h)

pub cell_kept : (old new : List Key) (element : ℕ) (cell : Option ℕ) (found : Option (List Bool)) → Keeps old new → CellFits old element cell found → CellFits new element cell found
cell_kept old new element None found k f = f
cell_kept old new element (Some n) found k f = (f.0, f.1, k n (element, f.0) f.2)

pub adds_both : (a b c : List Key) (element count : ℕ) (behind : ℕ → Option (List Bool)) → Adds a b element count behind → Adds b c element count behind → Adds a c element count behind
adds_both a b c element count behind x y = λ k h. elim (y k h) [ inl in_b ↦ x k in_b | inr new ↦ inr new ]

-- the state of a child is the one that is found
pub adds_child : (a b : List Key) (element count e : ℕ) (behind : ℕ → Option (List Bool)) (found : Option (List Bool)) → e < count → found ≡ behind e → AddsFound a b element found → Adds a b element count behind
adds_child a b element count e behind found h is adds = λ k c. elim (adds k c) [ inl in_a ↦ inl in_a | inr new ↦ inr (e, h, new.0, sym is ∙ new.1) ]

-- what is found is what stands in the row
pub row_found : (behind : ℕ → Option (List Bool)) (row items : List (Option (List Bool))) (count i : ℕ) (found : Option (List Bool)) → row ≡ map behind (range_with_len 0 count) → items ≡ row → i < length items → found ≡ slice_index_or items i found → (i < count) × (found ≡ behind i)
row_found behind row items count i found made same h is =
    let all : items ≡ map behind (range_with_len 0 count) = same ∙ made in
    let long = ap (λ (xs : List (Option (List Bool))). length xs) all in
    let size = length_range behind 0 count in
    let within : i < count = omega (arith, h, long, size) in
    (within, is ∙ ap (λ (xs : List (Option (List Bool))). slice_index_or xs i found) all ∙ at_range behind 0 count i found within ∙ ap behind (let z : 0 + i ≡ i = omega arith in z))

pub row_long : (behind : ℕ → Option (List Bool)) (row items : List (Option (List Bool))) (count : ℕ) → row ≡ map behind (range_with_len 0 count) → items ≡ row → length items ≡ count
row_long behind row items count made same =
    let long = ap (λ (xs : List (Option (List Bool))). length xs) (same ∙ made) in
    let size = length_range behind 0 count in
    omega (arith, long, size)

-- so many cells are filled
pub record Filled (old new : List Key) (element all : ℕ) (behind : ℕ → Option (List Bool)) (cells : List (Option ℕ)) (count : ℕ) : Type 0 where
  pub keeps : Keeps old new
  pub few : length old ≤ 4096 → length new ≤ 4096
  pub adds : Adds old new element all behind
  pub within : count ≤ all
  pub cells_fit : CellsFit new element behind cells count

pub none_filled : (old : List Key) (element all : ℕ) (behind : ℕ → Option (List Bool)) → Filled old old element all behind [] 0
none_filled old element all behind = record { keeps = λ n k h. h; few = λ h. h; adds = λ k h. inl h; within = omega arith; cells_fit = record { long = refl; fit = λ e h. absurd (omega (arith, h)) } }

at_front : (xs : List (Option ℕ)) (x : Option ℕ) (i : ℕ) → i < length xs → slice_index_or (xs ++ x ∷ []) i None ≡ slice_index_or xs i None
at_front [] x i h = absurd (omega (arith, h))
at_front (y ∷ xs) x zero h = refl
at_front (y ∷ xs) x (suc i) h = at_front xs x i (omega (arith, h))

at_last : (xs : List (Option ℕ)) (x : Option ℕ) (i : ℕ) → i ≡ length xs → slice_index_or (xs ++ x ∷ []) i None ≡ x
at_last [] x zero h = refl
at_last [] x (suc i) h = absurd (omega (arith, h))
at_last (y ∷ xs) x zero h = absurd (omega (arith, h))
at_last (y ∷ xs) x (suc i) h = at_last xs x i (omega (arith, h))

long_more : (xs : List (Option ℕ)) (x : Option ℕ) → length (xs ++ x ∷ []) ≡ length xs + 1
long_more [] x = refl
long_more (y ∷ xs) x = let e = long_more xs x in omega (arith, e)

-- one cell more
pub one_filled : (old mid new : List Key) (element all : ℕ) (behind : ℕ → Option (List Bool)) (cells after : List (Option ℕ)) (count : ℕ) (cell : Option ℕ) (behind_it : Option (List Bool)) → Filled old mid element all behind cells count → Keeps mid new → (length mid ≤ 4096 → length new ≤ 4096) → AddsFound mid new element behind_it → CellFits new element cell behind_it → (count < all) × (behind_it ≡ behind count) → after ≡ cells ++ cell ∷ [] → Filled old new element all behind after (count + 1)
one_filled old mid new element all behind cells after count cell behind_it f k few a found where_it is =
    record {
      keeps = keeps_both old mid new f.keeps k;
      few = λ h. few (f.few h);
      adds = adds_both old mid new element all behind f.adds (adds_child mid new element all count behind behind_it where_it.0 where_it.1 a);
      within = (let w = where_it.0 in omega (arith, w));
      cells_fit = record {
        long = ap length is ∙ long_more cells cell ∙ ap (λ (n : ℕ). n + 1) f.cells_fit.long;
        fit = λ e h. elim (cases_eq e count) [
          | inl same ↦
              let at : slice_index_or after e None ≡ cell = ap (λ (xs : List (Option ℕ)). slice_index_or xs e None) is ∙ at_last cells cell e (same ∙ sym f.cells_fit.long) in
              subst (λ (c : Option ℕ). CellFits new element c (behind e)) (sym at) (subst (λ (n : ℕ). CellFits new element cell (behind n)) (sym same) (subst (CellFits new element cell) where_it.1 found))
          | inr other ↦
              let at : slice_index_or after e None ≡ slice_index_or cells e None = ap (λ (xs : List (Option ℕ)). slice_index_or xs e None) is ∙ at_front cells cell e (let l = f.cells_fit.long in omega (arith, h, l, other)) in
              subst (λ (c : Option ℕ). CellFits new element c (behind e)) (sym at) (cell_kept mid new element (slice_index_or cells e None) (behind e) k (f.cells_fit.fit e (omega (arith, h, other))))
        ];
      };
    }

-- the cells of all children
pub all_filled : (new : List Key) (element : ℕ) (behind : ℕ → Option (List Bool)) (cells : List (Option ℕ)) (i count long : ℕ) → long ≡ count → long ≤ i → i ≤ count → CellsFit new element behind cells i → CellsFit new element behind cells count
all_filled new element behind cells i count long size past within fits = subst (CellsFit new element behind cells) (let e : i ≡ count = omega (arith, size, past, within) in e) fits
