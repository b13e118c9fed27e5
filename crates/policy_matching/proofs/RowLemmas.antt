-- Rows of states, one after another, to the reader of an expression.
use Rattle.std.proofs.Common.{◌≡◌, ◌<◌, ◌≤◌, inl, inr, ℕ, zero, suc, List, [], ◌∷◌, ◌++◌, map, length, get_or, Option, Some, slice_get, length-append, refl, sym, ◌∙◌, ap, subst, arith}
use Rattle.std.proofs.lemmas.Bool.{cases_lt}
use Rattle.std.proofs.lemmas.Option.{slice_get_within, get_or_from_slice_get}
use Rattle.numbered_sets.specs.Numbers.{Keeps, AreDifferent}
use Rattle.derivatives.specs.Expressions.{Expr}
use Rattle.derivatives.specs.Derivatives.{may_end, after}
use Rattle.derivatives.specs.Standing.{expr_at, Grows, HasEachOnce}
use Rattle.derivatives.specs.declared.arena.Arena.{Arena}
use Rattle.derivatives.proofs.NodeLemmas.{expr_stays}
use Rattle.grammar_chart.proofs.MemberLemmas.{at_contains, at_below, at_push, all_by}
use Rattle.policy_matching.specs.declared.rows.Row.{Row}
use Rattle.policy_matching.specs.Rows.{run_in, led, state_behind, told, told_in}
use Rattle.policy_matching.specs.Outside.{IsBehind, HasDerivatives, StandsFor, AreBehind, Reaches, IsRow, AreRows, IsOutside}
use Rattle.policy_matching.proofs.StateLemmas.{stands_on, found_none}

row_on : (a b : Arena) (old new : List ℕ) (d : Expr) (row : Row) → Grows a b → Keeps old new → IsRow a old d row → IsRow b new d row
row_on a b old new d row grows keeps is = record {
  ends = is.ends;
  runs = record {
    before = is.runs.before;
    lead = λ c below. let o = is.runs.lead c below in (o.0, o.1, stands_on a b old new o.0.to (after c d) grows keeps o.2);
  };
}

pub rows_more : (e : Expr) (a b : Arena) (old new : List ℕ) (rows : List Row) (row : Row) (place : ℕ) → AreRows e a old rows → Grows a b
    → slice_get old (length rows) ≡ Some place → Reaches a b old new place → IsRow b new (expr_at a place) row → AreRows e b new (rows ++ row ∷ [])
rows_more e a b old new rows row place are grows placed reaches is = record {
  first = stands_on a b old new 0 e grows reaches.keeps are.first;
  are = reaches.are e (are.are (length rows) place placed).1 are.are;
  few = (let l = length-append rows (row ∷ []) in let w = slice_get_within new (length rows) place there in omega (arith, l, w));
  each = λ n r at. elim (at_push rows row n r at) [
    | inl h ↦
        let o = are.each n r h in
        (o.0, stands_on a b old new n o.0 grows reaches.keeps o.1, row_on a b old new o.0 r grows reaches.keeps o.2)
    | inr h ↦ (
      expr_at a place,
      record { place = place; placed = subst (λ (m : ℕ). slice_get new m ≡ Some place) (sym h.0) there; made = expr_stays a b grows place (are.are (length rows) place placed).0 },
      subst (IsRow b new (expr_at a place)) h.1 is,
    )
  ];
}
  where
    there : slice_get new (length rows) ≡ Some place
    there = reaches.keeps (length rows) place placed

-- what a number of a member leads back to
mapped : (a : Arena) (places : List ℕ) (n : ℕ) (d : Expr) → slice_get (map (expr_at a) places) n ≡ Some d → (p : ℕ) × (slice_get places n ≡ Some p) × (expr_at a p ≡ d)
mapped a [] n d h = cc
mapped a (q ∷ places) zero d h = let same : expr_at a q ≡ d = cc in (q, refl, same)
mapped a (q ∷ places) (suc n) d h = mapped a places n d h

long_as : (a : Arena) (places : List ℕ) → length (map (expr_at a) places) ≡ length places
long_as a [] = refl
long_as a (q ∷ places) = ap (λ (n : ℕ). suc n) (long_as a places)

pub has_derivatives : (e : Expr) (a : Arena) (places : List ℕ) → AreBehind e a places → AreDifferent places → HasEachOnce a → HasDerivatives e (length places)
has_derivatives e a places are different once = (
  map (expr_at a) places,
  λ i j d x y.
      let p = mapped a places i d x in
      let q = mapped a places j d y in
      let same : p.0 ≡ q.0 = once p.0 q.0 (are i p.0 p.1).0 (are j q.0 q.1).0 (p.2 ∙ sym q.2) in
      different i j p.0 p.1 (q.1 ∙ ap Some (sym same)),
  all_by (IsBehind e) (map (expr_at a) places) (λ d c.
      let at = at_contains (map (expr_at a) places) d c in
      let p = mapped a places at.0 d at.1 in
      subst (IsBehind e) p.2 (are at.0 p.0 p.1).1),
  (let l = long_as a places in omega (arith, l)),
)

module _ (e : Expr) (a : Arena) (places : List ℕ) (rows : List Row) (are : AreRows e a places rows) (all : length places ≤ length rows)
    (different : AreDifferent places) (once : HasEachOnce a) where
  stands : ℕ → Expr
  stands s = expr_at a (get_or places s 0)

  stands_so : (s : ℕ) (d : Expr) → StandsFor a places s d → stands s ≡ d
  unfolding stands
  stands_so s d h = ap (expr_at a) (get_or_from_slice_get places s h.place 0 h.placed) ∙ h.made.is

  -- the row of a state, and where a byte leads by it
  row_at : (s : ℕ) → s < length rows → (row : Row) × (slice_get rows s ≡ Some row) × (d : Expr) × StandsFor a places s d × IsRow a places d row
  row_at s l = let r = at_below rows s l in let o = are.each s r.0 r.1 in (r.0, r.1, o.0, o.1, o.2)

  leads : (s b : ℕ) → s < length rows → b < 256 → StandsFor a places (state_behind rows s b) (after b (stands s))
  leads s b l small =
      let (row, at, d, st, is) = row_at s l in
      let o = is.runs.lead b small in
      let to : state_behind rows s b ≡ o.0.to = ap (λ (x : Option Row). led s (run_in b x)) at ∙ ap (led s) o.1 in
      subst (λ (n : ℕ). StandsFor a places n (after b (stands s))) (sym to) (subst (λ (x : Expr). StandsFor a places o.0.to (after b x)) (sym (stands_so s d st)) o.2)

  inside : (s b : ℕ) → s < length rows → b < 256 → state_behind rows s b < length rows
  inside s b l small = (let h = leads s b l small in let w = slice_get_within places (state_behind rows s b) h.place h.placed in omega (arith, w, all))

  -- by a number that is no byte no run leads on
  stays : (s b : ℕ) → s < length rows → 256 ≤ b → state_behind rows s b ≡ s
  stays s b l large =
      let (row, at, d, st, is) = row_at s l in
      ap (λ (x : Option Row). led s (run_in b x)) at
      ∙ ap (led s) (found_none b row.runs.items (λ r c. let h = is.runs.before r c in omega (arith, h, large)))

  pub is_outside : IsOutside e rows
  is_outside = record {
    stands = stands;
    some = (let w = slice_get_within places 0 are.first.place are.first.placed in omega (arith, w, all));
    first = stands_so 0 e are.first;
    within = λ s b l. elim (cases_lt b 256) [ inl small ↦ inside s b l small | inr large ↦ subst (λ (n : ℕ). n < length rows) (sym (stays s b l large)) l ];
    next = λ s b l small. stands_so (state_behind rows s b) (after b (stands s)) (leads s b l small);
    ends = λ s l.
        let (row, at, d, st, is) = row_at s l in
        ap told_in at ∙ ap told (is.ends ∙ ap may_end (sym (stands_so s d st)));
    one = λ s t l k same.
        let (row, at, d, st, is) = row_at s l in
        let (other, there, f, su, so) = row_at t k in
        let equal : expr_at a st.place ≡ expr_at a su.place = st.made.is ∙ (sym (stands_so s d st) ∙ (same ∙ (stands_so t f su ∙ sym su.made.is))) in
        let p : st.place ≡ su.place = once st.place su.place st.made.is_expr su.made.is_expr equal in
        different s t st.place st.placed (su.placed ∙ ap Some (sym p));
  }
