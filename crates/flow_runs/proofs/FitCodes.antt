-- The points of pieces of code are of their form.
use Rattle.std.proofs.Common.{◌≡◌, ℕ, ◌+◌, ◌<◌, ◌≤◌, List, [], ◌∷◌, ◌++◌, length, Some, subst, arith}
use Rattle.std.specs.List.{AllByRecursion}
use Rattle.std.proofs.lemmas.List.Elements.{All-from_recursion}
use Rattle.flow_code.specs.declared.source.Work.TheVariants as work
use Rattle.flow_code.specs.Points.{PlainSource, copy_source, truth_source, PlainPoint, set_point, branch_point, PlainFlowFunction}
use Rattle.flow_code.specs.Variables.{Name}
use Rattle.flow_code.specs.Code.{Code, known, left, both, computed, computed_with}
use Rattle.flow_code.specs.Expressions.{Scope, variable, both_true, one_true, first_there, chosen, chosen_itself}
use Rattle.flow_code.specs.Lawful.{source_reads, reads, sets, nexts, IsOwnSlot, IsOwnPoint, SourceFits, PointFits, not_null, as_truth}
use Rattle.flow_runs.proofs.Frames.{free}
use Rattle.flow_runs.proofs.Names.{Has}

abbrev pub AllOwn : PlainFlowFunction → List ℕ → Type 0
AllOwn g xs = AllByRecursion (IsOwnSlot g) xs

abbrev pub AllFit : List PlainFlowFunction → PlainFlowFunction → List PlainPoint → Type 0
AllFit fs g is = AllByRecursion (PointFits fs g) is

-- a source reads own slots and is of its form
abbrev pub SourceIs : PlainFlowFunction → PlainSource → Type 0
SourceIs g s = AllOwn g (source_reads s) × SourceFits s

pub all_both : {X : Type 0} (P : X → Type 0) (xs ys : List X) → AllByRecursion P xs → AllByRecursion P ys → AllByRecursion P (xs ++ ys)
all_both P [] ys h k = k
all_both P (x ∷ xs) ys h k = (h.0, all_both P xs ys h.1 k)

-- the slots of the variables and of temporaries lie within the function's
pub record Lies (g : PlainFlowFunction) (w : Scope) : Type 0 where
  pub low : g.first_slot_of ≤ w.base
  pub high : free w ≤ g.first_slot_of + g.slots_of

abbrev pub last_slot : PlainFlowFunction → ℕ
last_slot g = g.first_slot_of + g.slots_of

abbrev pub last_point : PlainFlowFunction → ℕ
last_point g = g.first_point_of + length g.points_of

pub record CodeFits (fs : List PlainFlowFunction) (g : PlainFlowFunction) (w : Scope) (A : Type 0) (c : Code A) (Fine : A → Type 0) : Type 0 where
  pub fits : (p t : ℕ) → g.first_point_of ≤ p → p + c.size < last_point g → free w ≤ t → t + c.slots ≤ last_slot g → AllFit fs g (c.points p t)
  pub gives : (t : ℕ) → free w ≤ t → t + c.slots ≤ last_slot g → Fine (c.gives t)

pub own_temporary : {g : PlainFlowFunction} {w : Scope} → Lies g w → (x : ℕ) → free w ≤ x → x < last_slot g → IsOwnSlot g x
own_temporary l x le lt = let low = l.low in record { least = omega (arith, low, le); most = lt }

pub own_variable : {g : PlainFlowFunction} (w : Scope) → Lies g w → (x : Name) → Has w.names x → IsOwnSlot g (variable w x)
unfolding variable
own_variable w l x h = let low = l.low in let high = l.high in record { least = omega (arith, low); most = omega (arith, h, high) }

pub own_point : {g : PlainFlowFunction} (p : ℕ) → g.first_point_of ≤ p → p < last_point g → IsOwnPoint g p
own_point p le lt = record { least = le; most = lt }

pub some_own : (g : PlainFlowFunction) (x y : ℕ) → IsOwnSlot g x → Some x ≡ Some y → IsOwnSlot g y
some_own g x y h e = let same : x ≡ y = cc in subst (IsOwnSlot g) same h

module _ {fs : List PlainFlowFunction} {g : PlainFlowFunction} where
  pub set_fits : (x next : ℕ) (source : PlainSource) → IsOwnSlot g x → SourceIs g source → IsOwnPoint g next → PointFits fs g (set_point x source next)
  unfolding reads sets nexts
  set_fits x next source hx hs hn = record {
    reads_own = All-from_recursion (IsOwnSlot g) (source_reads source) hs.0;
    sets_own = λ y e. some_own g x y hx e;
    stays = All-from_recursion (IsOwnPoint g) (next ∷ []) (hn, tt);
    parts = hs.1;
  }

  pub branch_fits : (x a b : ℕ) → IsOwnSlot g x → IsOwnPoint g a → IsOwnPoint g b → PointFits fs g (branch_point x a b)
  unfolding reads sets nexts
  branch_fits x a b hx ha hb = record {
    reads_own = All-from_recursion (IsOwnSlot g) (x ∷ []) (hx, tt);
    sets_own = λ y e. absurd cc;
    stays = All-from_recursion (IsOwnPoint g) (a ∷ b ∷ []) (ha, (hb, tt));
    parts = tt;
  }

pub copy_is : (g : PlainFlowFunction) (x : ℕ) → IsOwnSlot g x → SourceIs g (copy_source x)
unfolding source_reads
copy_is g x h = ((h, tt), tt)

pub truth_is : (g : PlainFlowFunction) (x : ℕ) → IsOwnSlot g x → SourceIs g (truth_source work.AsTruth (x ∷ []))
unfolding source_reads
truth_is g x h = ((h, tt), as_truth x)

pub present_is : (g : PlainFlowFunction) (x : ℕ) → IsOwnSlot g x → SourceIs g (truth_source work.NotNull (x ∷ []))
unfolding source_reads
present_is g x h = ((h, tt), not_null x)

module _ {fs : List PlainFlowFunction} {g : PlainFlowFunction} {w : Scope} where
  pub fits_known : {A : Type 0} (Fine : A → Type 0) (x : A) → Fine x → CodeFits fs g w A (known x) Fine
  fits_known Fine x h = record { fits = λ p t lp up lt ut. tt; gives = λ t lt ut. h }

  pub fits_left : {A B : Type 0} {a : Code A} {FA : A → Type 0} (FB : B → Type 0) (k : A → B) → ((x : A) → FA x → FB (k x)) → CodeFits fs g w A a FA → CodeFits fs g w B (left a k) FB
  fits_left {a} FB k h d = record { fits = d.fits; gives = λ t lt ut. h (a.gives t) (d.gives t lt ut) }

  pub fits_both : {A B C : Type 0} {a : Code A} {b : Code B} {FA : A → Type 0} {FB : B → Type 0} (FC : C → Type 0) (join : A → B → C) → ((x : A) (y : B) → FA x → FB y → FC (join x y)) → CodeFits fs g w A a FA → CodeFits fs g w B b FB → CodeFits fs g w C (both a b join) FC
  fits_both {a} {b} FC join h d e = record {
    fits = λ p t lp up lt ut. all_both (PointFits fs g) _ _ (d.fits p t lp (omega (arith, up)) lt (omega (arith, ut))) (e.fits (p + a.size) (t + a.slots) (omega (arith, lp)) (omega (arith, up)) (omega (arith, lt)) (omega (arith, ut)));
    gives = λ t lt ut. h (a.gives t) (b.gives (t + a.slots)) (d.gives t lt (omega (arith, ut))) (e.gives (t + a.slots) (omega (arith, lt)) (omega (arith, ut)));
  }

  module _ (lies : Lies g w) where
    pub fits_computed : {A : Type 0} {a : Code A} {FA : A → Type 0} (source : A → PlainSource) → ((x : A) → FA x → SourceIs g (source x)) → CodeFits fs g w A a FA → CodeFits fs g w ℕ (computed a source) (IsOwnSlot g)
    fits_computed {a} source h d = record {
      fits = λ p t lp up lt ut. all_both (PointFits fs g) _ _ (d.fits p t lp (omega (arith, up)) lt (omega (arith, ut))) (set_fits (t + a.slots) (p + a.size + 1) (source (a.gives t)) (own_temporary lies (t + a.slots) (omega (arith, lt)) (omega (arith, ut))) (h (a.gives t) (d.gives t lt (omega (arith, ut)))) (own_point (p + a.size + 1) (omega (arith, lp)) (omega (arith, up))), tt);
      gives = λ t lt ut. own_temporary lies (t + a.slots) (omega (arith, lt)) (omega (arith, ut));
    }

    -- the same, which leaves something made of the slot
    pub fits_with : {A B : Type 0} {a : Code A} {FA : A → Type 0} (FB : B → Type 0) (source : A → PlainSource) (join : A → ℕ → B) → ((x : A) → FA x → SourceIs g (source x)) → ((x : A) (y : ℕ) → FA x → IsOwnSlot g y → FB (join x y)) → CodeFits fs g w A a FA → CodeFits fs g w B (computed_with a source join) FB
    fits_with {a} FB source join h k d = record {
      fits = λ p t lp up lt ut. all_both (PointFits fs g) _ _ (d.fits p t lp (omega (arith, up)) lt (omega (arith, ut))) (set_fits (t + a.slots) (p + a.size + 1) (source (a.gives t)) (own_temporary lies (t + a.slots) (omega (arith, lt)) (omega (arith, ut))) (h (a.gives t) (d.gives t lt (omega (arith, ut)))) (own_point (p + a.size + 1) (omega (arith, lp)) (omega (arith, up))), tt);
      gives = λ t lt ut. k (a.gives t) (t + a.slots) (d.gives t lt (omega (arith, ut))) (own_temporary lies (t + a.slots) (omega (arith, lt)) (omega (arith, ut)));
    }

    pub fits_and : {a b : Code ℕ} → CodeFits fs g w ℕ a (IsOwnSlot g) → CodeFits fs g w ℕ b (IsOwnSlot g) → CodeFits fs g w ℕ (both_true a b) (IsOwnSlot g)
    fits_and {a} {b} d e = record {
      fits = λ p t lp up lt ut.
          let right = p + a.size + 1 in
          let left = right + b.size + 1 in
          let result = t + a.slots + b.slots in
          let own_a = d.gives t lt (omega (arith, ut)) in
          let own_b = e.gives (t + a.slots) (omega (arith, lt)) (omega (arith, ut)) in
          let own_result = own_temporary lies result (omega (arith, lt)) (omega (arith, ut)) in
          let behind = own_point {g = g} (left + 1) (omega (arith, lp)) (omega (arith, up)) in
          all_both (PointFits fs g) _ _ (d.fits p t lp (omega (arith, up)) lt (omega (arith, ut))) (
            branch_fits (a.gives t) right left own_a (own_point right (omega (arith, lp)) (omega (arith, up))) (own_point left (omega (arith, lp)) (omega (arith, up))),
            all_both (PointFits fs g) _ _ (e.fits right (t + a.slots) (omega (arith, lp)) (omega (arith, up)) (omega (arith, lt)) (omega (arith, ut)))
                (set_fits result (left + 1) _ own_result (truth_is g _ own_b) behind, (set_fits result (left + 1) _ own_result (truth_is g _ own_a) behind, tt)),
          );
      gives = λ t lt ut. own_temporary lies (t + a.slots + b.slots) (omega (arith, lt)) (omega (arith, ut));
    }

    pub fits_or : {a b : Code ℕ} → CodeFits fs g w ℕ a (IsOwnSlot g) → CodeFits fs g w ℕ b (IsOwnSlot g) → CodeFits fs g w ℕ (one_true a b) (IsOwnSlot g)
    fits_or {a} {b} d e = record {
      fits = λ p t lp up lt ut.
          let right = p + a.size + 1 in
          let left = right + b.size + 1 in
          let result = t + a.slots + b.slots in
          let own_a = d.gives t lt (omega (arith, ut)) in
          let own_b = e.gives (t + a.slots) (omega (arith, lt)) (omega (arith, ut)) in
          let own_result = own_temporary lies result (omega (arith, lt)) (omega (arith, ut)) in
          let behind = own_point {g = g} (left + 1) (omega (arith, lp)) (omega (arith, up)) in
          all_both (PointFits fs g) _ _ (d.fits p t lp (omega (arith, up)) lt (omega (arith, ut))) (
            branch_fits (a.gives t) left right own_a (own_point left (omega (arith, lp)) (omega (arith, up))) (own_point right (omega (arith, lp)) (omega (arith, up))),
            all_both (PointFits fs g) _ _ (e.fits right (t + a.slots) (omega (arith, lp)) (omega (arith, up)) (omega (arith, lt)) (omega (arith, ut)))
                (set_fits result (left + 1) _ own_result (truth_is g _ own_b) behind, (set_fits result (left + 1) _ own_result (truth_is g _ own_a) behind, tt)),
          );
      gives = λ t lt ut. own_temporary lies (t + a.slots + b.slots) (omega (arith, lt)) (omega (arith, ut));
    }

    pub fits_first_there : {a b : Code ℕ} → CodeFits fs g w ℕ a (IsOwnSlot g) → CodeFits fs g w ℕ b (IsOwnSlot g) → CodeFits fs g w ℕ (first_there a b) (IsOwnSlot g)
    fits_first_there {a} {b} d e = record {
      fits = λ p t lp up lt ut.
          let test = t + a.slots in
          let left = p + a.size + 1 + 1 in
          let end = left + 1 + b.size + 1 in
          let result = test + 1 + b.slots in
          let own_a = d.gives t lt (omega (arith, ut)) in
          let own_b = e.gives (test + 1) (omega (arith, lt)) (omega (arith, ut)) in
          let own_test = own_temporary lies test (omega (arith, lt)) (omega (arith, ut)) in
          let own_result = own_temporary lies result (omega (arith, lt)) (omega (arith, ut)) in
          let behind = own_point {g = g} end (omega (arith, lp)) (omega (arith, up)) in
          all_both (PointFits fs g) _ _ (d.fits p t lp (omega (arith, up)) lt (omega (arith, ut))) (
            set_fits test _ _ own_test (present_is g _ own_a) (own_point (p + a.size + 1) (omega (arith, lp)) (omega (arith, up))),
            (
              branch_fits test left (left + 1) own_test (own_point left (omega (arith, lp)) (omega (arith, up))) (own_point (left + 1) (omega (arith, lp)) (omega (arith, up))),
              (
                set_fits result end _ own_result (copy_is g _ own_a) behind,
                all_both (PointFits fs g) _ _ (e.fits (left + 1) (test + 1) (omega (arith, lp)) (omega (arith, up)) (omega (arith, lt)) (omega (arith, ut)))
                    (set_fits result end _ own_result (copy_is g _ own_b) behind, tt),
              ),
            ),
          );
      gives = λ t lt ut. own_temporary lies (t + a.slots + 1 + b.slots) (omega (arith, lt)) (omega (arith, ut));
    }

    pub fits_chosen : {c a b : Code ℕ} → CodeFits fs g w ℕ c (IsOwnSlot g) → CodeFits fs g w ℕ a (IsOwnSlot g) → CodeFits fs g w ℕ b (IsOwnSlot g) → CodeFits fs g w ℕ (chosen c a b) (IsOwnSlot g)
    fits_chosen {c} {a} {b} k d e = record {
      fits = λ p t lp up lt ut.
          let first = p + c.size + 1 in
          let second = first + a.size + 1 in
          let end = second + b.size + 1 in
          let result = t + c.slots + a.slots + b.slots in
          let own_c = k.gives t lt (omega (arith, ut)) in
          let own_a = d.gives (t + c.slots) (omega (arith, lt)) (omega (arith, ut)) in
          let own_b = e.gives (t + c.slots + a.slots) (omega (arith, lt)) (omega (arith, ut)) in
          let own_result = own_temporary lies result (omega (arith, lt)) (omega (arith, ut)) in
          let behind = own_point {g = g} end (omega (arith, lp)) (omega (arith, up)) in
          all_both (PointFits fs g) _ _ (k.fits p t lp (omega (arith, up)) lt (omega (arith, ut))) (
            branch_fits (c.gives t) first second own_c (own_point first (omega (arith, lp)) (omega (arith, up))) (own_point second (omega (arith, lp)) (omega (arith, up))),
            all_both (PointFits fs g) _ _ (d.fits first (t + c.slots) (omega (arith, lp)) (omega (arith, up)) (omega (arith, lt)) (omega (arith, ut))) (
              set_fits result end _ own_result (copy_is g _ own_a) behind,
              all_both (PointFits fs g) _ _ (e.fits second (t + c.slots + a.slots) (omega (arith, lp)) (omega (arith, up)) (omega (arith, lt)) (omega (arith, ut)))
                  (set_fits result end _ own_result (copy_is g _ own_b) behind, tt),
            ),
          );
      gives = λ t lt ut. own_temporary lies (t + c.slots + a.slots + b.slots) (omega (arith, lt)) (omega (arith, ut));
    }

    pub fits_chosen_itself : {c b : Code ℕ} → CodeFits fs g w ℕ c (IsOwnSlot g) → CodeFits fs g w ℕ b (IsOwnSlot g) → CodeFits fs g w ℕ (chosen_itself c b) (IsOwnSlot g)
    fits_chosen_itself {c} {b} k e = record {
      fits = λ p t lp up lt ut.
          let first = p + c.size + 1 in
          let second = first + 1 in
          let end = second + b.size + 1 in
          let result = t + c.slots + b.slots in
          let own_c = k.gives t lt (omega (arith, ut)) in
          let own_b = e.gives (t + c.slots) (omega (arith, lt)) (omega (arith, ut)) in
          let own_result = own_temporary lies result (omega (arith, lt)) (omega (arith, ut)) in
          let behind = own_point {g = g} end (omega (arith, lp)) (omega (arith, up)) in
          all_both (PointFits fs g) _ _ (k.fits p t lp (omega (arith, up)) lt (omega (arith, ut))) (
            branch_fits (c.gives t) first second own_c (own_point first (omega (arith, lp)) (omega (arith, up))) (own_point second (omega (arith, lp)) (omega (arith, up))),
            (
              set_fits result end _ own_result (copy_is g _ own_c) behind,
              all_both (PointFits fs g) _ _ (e.fits second (t + c.slots) (omega (arith, lp)) (omega (arith, up)) (omega (arith, lt)) (omega (arith, ut)))
                  (set_fits result end _ own_result (copy_is g _ own_b) behind, tt),
            ),
          );
      gives = λ t lt ut. own_temporary lies (t + c.slots + b.slots) (omega (arith, lt)) (omega (arith, ut));
    }
