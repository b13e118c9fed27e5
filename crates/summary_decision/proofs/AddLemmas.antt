-- What adding a pair comes to.
use Rattle.std.proofs.Common.{◌≡◌, ℕ, zero, suc, ◌+◌, ◌<◌, ◌≤◌, ◌↔◌, Bool, true, false, List, [], ◌∷◌, ◌++◌, length, get_or, set, if◌then◌else◌, Contains, refl, sym, ◌∙◌, ap, subst, arith, Some, slice_get, true≢false, Result, Ok, Err, OnOk, IfErr}
use Rattle.std.specs.Prelude.{IsTrue}
use Rattle.std.specs.List.{list_all}
use Rattle.std.specs.Cmp.{first_so, second_so}
use Rattle.std.proofs.lemmas.Bool.{ltb-true}
use Rattle.std.proofs.lemmas.List.{length-set}
use Rattle.std.proofs.lemmas.Option.{same_Some, slice_get-get_or, get_or_from_slice_get}
use Rattle.text_base.specs.declared.page_token.PageToken.{PageToken}
use Rattle.text_base.specs.declared.numbers.Nt as nt
use Rattle.cfg_grammar.specs.declared.production.Production.{Production}
use Rattle.cfg_grammar.specs.Below.{AreBelow, production_below}
use Rattle.derivations.specs.declared.node.Parts.{Parts}
use Rattle.derivations.specs.Nodes.{parts_below}
use Rattle.summary_decision.specs.declared.table.Table.{Table}
use Rattle.summary_decision.specs.declared.halt.Halt.{Halt}
use Rattle.summary_decision.specs.declared.halt.Halt.TheVariants.{Memory, NotWhole, TooMany, TooLong}
use Rattle.summary_decision.specs.Pairs.{AreWholeBelow}
use Rattle.summary_decision.specs.Tables.{known, IsTable, MakesAt, Adds}
use Rattle.summary_decision.specs.Notes.{Notes}
use Rattle.summary_decision.specs.Halts.{Judges, Explains}
use Rattle.summary_decision.proofs.ClosedLemmas.{placed}
use Rattle.summary_decision.proofs.KnownLemmas.{known_length}
use Rattle.summary_decision.proofs.MadeLemmas.{made_pair, makes_below}
use Rattle.summary_decision.proofs.TableLemmas.{sums_short, whole_below, table_old, table_new, too_many, last_derivation, new_made, goes_new, goes_old}

pub passes_at : {X : Type 0} (p : X → Bool) (xs : List X) (n : ℕ) (x : X) → list_all p xs ≡ true → slice_get xs n ≡ Some x → p x ≡ true
passes_at p [] n x h e = cc
passes_at p (y ∷ ys) zero x h e = ap p (sym (same_Some y x e)) ∙ first_so (p y) (list_all p ys) h
passes_at p (y ∷ ys) (suc n) x h e = passes_at p ys n x (second_so (p y) (list_all p ys) h) e

module _ {S : Type 0} (sum_of : List PageToken → S) (composed : S → S → S) (whole : S → Bool) (ps : List Production) (start : nt.Nt) (appended : (u v : List PageToken) → sum_of (u ++ v) ≡ composed (sum_of u) (sum_of v)) (count : ℕ) (below : AreBelow count ps) (old : Table S) (table : IsTable sum_of composed whole ps start count old) (place : ℕ) (qs : Parts) (s : S) (makes : MakesAt sum_of composed whole ps start old place qs s) (read : Production) (is : read ≡ get_or ps place read) where
  same : read ≡ makes.production
  same = is ∙ get_or_from_slice_get ps place makes.production read makes.at

  pub left_below : read.left.0 < count
  left_below =
      subst (λ (p : Production). p.left.0 < count) (sym same)
      (ltb-true makes.production.left.0 count (first_so _ _ (passes_at (production_below count) ps place makes.production below makes.at)))

  pub parts_are_below : parts_below (length old.nodes.nodes.items) qs ≡ true
  parts_are_below = makes_below sum_of composed whole ps start old.nodes.nodes.items old.height makes.production.right qs s makes.makes

  pub left_within : read.left.0 < length old.counts.items
  left_within = let l = left_below in omega (arith, l, table.spread)

  pub count_within : get_or old.counts.items read.left.0 0 ≤ length old.entries.keys
  count_within =
      let e = table.counted read.left.0 (get_or old.counts.items read.left.0 0) (slice_get-get_or old.counts.items read.left.0 0 left_within) in
      let k = sums_short read.left.0 (known old) in
      let l = known_length old.sums.keys old.entries.keys table.numbered in
      omega (arith, e, k, l)

  module _ (new : Table S) where
    moved : (b : Bool) → Notes old new place qs read.left.0 s b → Notes old new place qs makes.production.left.0 s b
    moved b notes = subst (λ (p : Production). Notes old new place qs p.left.0 s b) same notes

    has : (b : Bool) → Notes old new place qs read.left.0 s b → (p : Production) → slice_get ps place ≡ Some p → Contains (known new) (p.left.0, s)
    has b notes p at =
        let one : makes.production ≡ p = same_Some makes.production p (sym makes.at ∙ at) in
        subst (λ (q : Production). Contains (known new) (q.left.0, s)) one (moved b notes).has

    pub added_old : (b : Bool) → b ≡ false → Notes old new place qs read.left.0 s b → Adds sum_of composed whole ps start count old new place s
    added_old b e notes =
        let n = subst (λ (c : Bool). Notes old new place qs read.left.0 s c) e notes in
        record {
          goes = goes_old sum_of composed whole ps start appended count old new table place qs read.left.0 s n (table_old sum_of composed whole ps start appended count old new table place qs read.left.0 s n);
          has = has b notes;
        }

    added_new : Notes old new place qs read.left.0 s true → (read.left.0 ≡ start.0 → whole s ≡ true) → Adds sum_of composed whole ps start count old new place s
    added_new notes is_whole =
        let n = moved true notes in
        let l = subst (λ (p : Production). p.left.0 < count) same left_below in
        let w : makes.production.left.0 ≡ start.0 → whole s ≡ true = subst (λ (p : Production). p.left.0 ≡ start.0 → whole s ≡ true) same is_whole in
        record {
          goes = goes_new sum_of composed whole ps start appended count old new table place qs makes.production.left.0 s n
              (table_new sum_of composed whole ps start appended count old new table place qs makes.production.left makes.production.right s n makes.at makes.useful makes.makes l w);
          has = has true notes;
        }

    not_wrong : (wrong is_whole : Bool) → (IsTrue wrong ↔ ((read.left.0 ≡ start.0) × (is_whole ≡ false))) → is_whole ≡ whole s → wrong ≡ false → read.left.0 ≡ start.0 → whole s ≡ true
    not_wrong wrong true f e w h = sym e
    not_wrong wrong false f e w h = absurd (true≢false (sym (f.1 (h, refl)) ∙ w))

    pub added_result : (r : Result (Unit {0}) Halt) (b : Bool) → b ≡ true → Notes old new place qs read.left.0 s b → (wrong is_whole : Bool) → (IsTrue wrong ↔ ((read.left.0 ≡ start.0) × (is_whole ≡ false))) → is_whole ≡ whole s → OnOk r (wrong ≡ false) → OnOk r (Adds sum_of composed whole ps start count old new place s)
    added_result (Err h) b t notes wrong is_whole f e ok = tt
    added_result (Ok u) b t notes wrong is_whole f e ok = added_new (subst (λ (c : Bool). Notes old new place qs read.left.0 s c) t notes) (not_wrong wrong is_whole f e ok)

    module _ (tags : S → ℕ) (limit : ℕ) where
      explain : Notes old new place qs read.left.0 s true → (wrong is_whole : Bool) → (IsTrue wrong ↔ ((read.left.0 ≡ start.0) × (is_whole ≡ false))) → is_whole ≡ whole s → (n k : ℕ) → n ≡ tags s → slice_get new.counts.items read.left.0 ≡ Some k → (h : Halt) → Judges wrong n k limit h → Explains sum_of whole tags ps start limit new.nodes.nodes.items new.height h
      explain notes wrong is_whole f e n k t at Memory j = tt
      explain notes wrong is_whole f e n k t at NotWhole j =
          let p = f.0 j in
          let m = moved true notes in
          let d = last_derivation sum_of composed whole ps start appended count old new table place qs makes.production.left makes.production.right s m makes.at makes.useful makes.makes (subst (λ (q : Production). q.left.0 ≡ start.0) same p.0) in
          (d.0, d.1, ap whole d.2 ∙ (sym e ∙ p.1))
      explain notes wrong is_whole f e n k t at (TooMany c) j =
          let m = moved true notes in
          let l = subst (λ (p : Production). p.left.0 < count) same left_below in
          let here : slice_get new.counts.items makes.production.left.0 ≡ Some c = subst (λ (p : Production). slice_get new.counts.items p.left.0 ≡ Some c) same (at ∙ ap Some (sym j.1)) in (
            j.2,
            too_many sum_of composed whole ps start appended count old new table place qs makes.production.left makes.production.right s m makes.at makes.useful makes.makes c l here,
            below_new m,
          )
        where
          below_new : Notes old new place qs makes.production.left.0 s true → AreWholeBelow sum_of whole ps start (new.height + 1)
          below_new m = subst (λ (h : ℕ). AreWholeBelow sum_of whole ps start (h + 1)) (sym m.height) (whole_below sum_of composed whole ps start count old table)
      explain notes wrong is_whole f e n k t at (TooLong c) j =
          let m = moved true notes in
          let p = placed (known new) (makes.production.left.0, s) m.has in
          let made = new_made sum_of composed whole ps start appended count old new table place qs makes.production.left makes.production.right s m makes.at makes.useful makes.makes p.0 (makes.production.left.0, s) p.2 in (
            j.2,
            (makes.production.left, s, made_pair sum_of composed whole ps start new.nodes.nodes.items (new.height + 1) p.0 (makes.production.left.0, s) made, sym t ∙ sym j.1),
            subst (λ (h : ℕ). AreWholeBelow sum_of whole ps start (h + 1)) (sym m.height) (whole_below sum_of composed whole ps start count old table),
          )

      pub explained : (r : Result (Unit {0}) Halt) (b : Bool) → b ≡ true → Notes old new place qs read.left.0 s b → (wrong is_whole : Bool) → (IsTrue wrong ↔ ((read.left.0 ≡ start.0) × (is_whole ≡ false))) → is_whole ≡ whole s → (n k : ℕ) → n ≡ tags s → slice_get new.counts.items read.left.0 ≡ Some k → IfErr r (λ h. Judges wrong n k limit h) → IfErr r (λ h. Explains sum_of whole tags ps start limit new.nodes.nodes.items new.height h)
      explained (Ok u) b q notes wrong is_whole f e n k t at j = tt
      explained (Err h) b q notes wrong is_whole f e n k t at j = explain (subst (λ (c : Bool). Notes old new place qs read.left.0 s c) q notes) wrong is_whole f e n k t at h j

pub length_counts : {S : Type 0} (old new : Table S) (place : ℕ) (qs : Parts) (left : ℕ) (s : S) (b : Bool) → Notes old new place qs left s b → length new.counts.items ≡ length old.counts.items
length_counts old new place qs left s b notes = by_test b notes.counts
  where
    by_test : (c : Bool) → new.counts.items ≡ (if c then set old.counts.items left (get_or old.counts.items left 0 + 1) else old.counts.items) → length new.counts.items ≡ length old.counts.items
    by_test true e = ap length e ∙ length-set old.counts.items left (get_or old.counts.items left 0 + 1)
    by_test false e = ap length e

-- what holds of the member with a number holds of each
pub known_only : {S E : Type 0} (r : Result (Unit {0}) E) (P : S → Type 0) (xs : List S) (n : ℕ) (s : S) → slice_get xs n ≡ Some s → OnOk r (P s) → OnOk r ((t : S) → slice_get xs n ≡ Some t → P t)
known_only (Err e) P xs n s at h = tt
known_only (Ok u) P xs n s at h = λ t here. subst P (same_Some s t (sym at ∙ here)) h
