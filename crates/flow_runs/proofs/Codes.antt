-- Pieces of code that do what a run does, and how they are put together.
use Rattle.std.proofs.Common.{◌≡◌, ℕ, ◌+◌, ◌<◌, ◌≤◌, List, [], ◌∷◌, length, length-append, Some, refl, sym, ap, ap₂, ◌∙◌, subst, arith, Bool, true, false, not, Result, Ok}
use Rattle.std.specs.Prelude.{if◌then◌else◌}
use Rattle.plain_values.specs.Plain.{Plain, flag}
use Rattle.plain_values.specs.Text.{truth}
use Rattle.plain_values.specs.Walks.{is_null}
use Rattle.plain_values.specs.declared.fault.Fault.{Fault}
use Rattle.script_meaning.specs.Requests.{PlainRequest}
use Rattle.script_meaning.specs.Runs.{State, Run, Going, ◌then_do◌, result_of}
use Rattle.flow_code.specs.declared.source.Work.TheVariants as work
use Rattle.flow_code.specs.Points.{PlainSource, copy_source, truth_source, set_point, branch_point, point_at}
use Rattle.flow_code.specs.Code.{Code, known, left, both, computed}
use Rattle.flow_code.specs.Expressions.{Scope, both_true, one_true, first_there, chosen, chosen_itself}
use Rattle.flow_code.specs.Runs.{Slots, Frame, set_slot, source_value, worked}
use Rattle.flow_runs.proofs.Ends.{World, Post, Follows, Meets, after, here, bind, knows, onward, computes, EndsAs, follows_as, set_comes, branch_comes}
use Rattle.flow_runs.proofs.Has.{HasAt, has_front, has_back, two_long, mid_long, last_long}
use Rattle.flow_runs.proofs.Frames.{slot_same, slot_other, free, Shows, Kept, kept_same, kept_join, kept_temporary, shows_temporary}

abbrev pub at_slot : Slots → ℕ → Plain
at_slot f x = f x

-- code was followed from slot t on to this point, and what it leaves reads as this value
pub record Did (w : Scope) (A V : Type 0) (c : Code A) (read : Slots → A → V) (t q : ℕ) (f : Frame) (v : V) (s : State) (p : ℕ) (g : Frame) : Type 0 where
  pub at : p ≡ q
  pub gives : read g.slots (c.gives t) ≡ v
  pub shows : Shows w s g
  pub kept : Kept w t f g

-- code does what a run does
pub record Does (m : World) (w : Scope) (A V : Type 0) (c : Code A) (read : Slots → A → V) (run : State → Run V) : Type 0 where
  pub long : (p t : ℕ) → length (c.points p t) ≡ c.size
  -- what it leaves is read in its own slots
  pub reads : (t : ℕ) (f g : Slots) → ((y : ℕ) → t ≤ y → y < t + c.slots → f y ≡ g y) → read f (c.gives t) ≡ read g (c.gives t)
  pub follows : (p t : ℕ) (f : Frame) (s : State) → HasAt m.flow p (c.points p t) → free w ≤ t → Shows w s f → Follows m 0 V p f s.left s.printed (run s) (Did w A V c read t (p + c.size) f)

module _ {w : Scope} where
  -- a temporary slot was set, from which the value is read
  pub did_set : {c : Code ℕ} {t q : ℕ} {f : Frame} (x next : ℕ) (v : Plain) (s : State) (g : Frame) → c.gives t ≡ x → next ≡ q → t ≤ x → free w ≤ t → Shows w s g → Kept w t f g → Did w ℕ Plain c at_slot t q f v s next (set_slot g x v)
  did_set x next v s g is to ge le shows kept = record {
    at = to;
    gives = ap (set_slot g x v).slots is ∙ slot_same g x v;
    shows = shows_temporary w s x v g (omega (arith, ge, le)) shows;
    kept = kept_join kept (kept_temporary w _ x v g ge) (omega arith) (omega arith);
  }

module _ {m : World} where
  pub sets : {A : Type 0} {p x next : ℕ} {source : PlainSource} {f : Frame} {P : Post A} {v : Plain} {a : A} (s : State) → point_at m.flow p ≡ Some (set_point x source next) → source_value m.request f.slots source ≡ Ok v → P a s next (set_slot f x v) → Follows m 0 A p f s.left s.printed (Going a s) P
  sets {p} {x} {next} {source} {f} {v} s at is holds = after (set_comes m p x next source f v s.printed at is) (here holds)

  pub branches : {A : Type 0} {c p x a b : ℕ} {f : Frame} {n : ℕ} {out : List ℕ} {r1 r2 : Run A} {P : Post A} (v : Bool) → point_at m.flow p ≡ Some (branch_point x a b) → truth (f.slots x) ≡ v → (v ≡ true → Follows m c A a f n out r1 P) → (v ≡ false → Follows m c A b f n out r2 P) → Follows m c A p f n out (if v then r1 else r2) P
  branches {p = p} {x} {a} {b} {f} {out = out} true at is h1 h2 = after (branch_comes m p x a b f out true at is) (h1 refl)
  branches {p = p} {x} {a} {b} {f} {out = out} false at is h1 h2 = after (branch_comes m p x a b f out false at is) (h2 refl)

  -- the same where the slot is true where the test is not
  pub branches_not : {A : Type 0} {c p x a b : ℕ} {f : Frame} {n : ℕ} {out : List ℕ} {r1 r2 : Run A} {P : Post A} (v : Bool) → point_at m.flow p ≡ Some (branch_point x a b) → truth (f.slots x) ≡ not v → (v ≡ true → Follows m c A b f n out r1 P) → (v ≡ false → Follows m c A a f n out r2 P) → Follows m c A p f n out (if v then r1 else r2) P
  branches_not {p = p} {x} {a} {b} {f} {out = out} true at is h1 h2 = after (branch_comes m p x a b f out false at is) (h1 refl)
  branches_not {p = p} {x} {a} {b} {f} {out = out} false at is h1 h2 = after (branch_comes m p x a b f out true at is) (h2 refl)

module _ {m : World} {w : Scope} where
  pub bind_did : {A V B : Type 0} {c : Code A} {read : Slots → A → V} {t q : ℕ} {f : Frame} {k p : ℕ} {f0 : Frame} {n : ℕ} {out : List ℕ} {run : Run V} {Q : Post B} (go : V → State → Run B) → Follows m 0 V p f0 n out run (Did w A V c read t q f) → ((s : State) (g : Frame) (v : V) → read g.slots (c.gives t) ≡ v → Shows w s g → Kept w t f g → Follows m k B q g s.left s.printed (go v s) Q) → Follows m k B p f0 n out (run then_do go) Q
  bind_did {A} {V} {B} {k = k} {Q = Q} go h next = bind h (λ v s p g d. subst (λ p. Follows m k B p g s.left s.printed (go v s) Q) (sym d.at) (next s g v d.gives d.shows d.kept))

  -- the same, with what is known of the value
  pub bind_known : {A V B : Type 0} {c : Code A} {read : Slots → A → V} {t q : ℕ} {f : Frame} {k p : ℕ} {f0 : Frame} {n : ℕ} {out : List ℕ} {run : Run V} {Q : Post B} (K : V → Type 0) (go : V → State → Run B) → ((v : V) (s : State) → run ≡ Going v s → K v) → Follows m 0 V p f0 n out run (Did w A V c read t q f) → ((s : State) (g : Frame) (v : V) → read g.slots (c.gives t) ≡ v → Shows w s g → Kept w t f g → K v → Follows m k B q g s.left s.printed (go v s) Q) → Follows m k B p f0 n out (run then_do go) Q
  bind_known {A} {V} {B} {k = k} {run = run} {Q = Q} K go known h next = bind (knows K run known h) (λ v s p g both. let d = both.0 in subst (λ p. Follows m k B p g s.left s.printed (go v s) Q) (sym d.at) (next s g v d.gives d.shows d.kept both.1))

  pub does_as : {A V : Type 0} {c : Code A} {read : Slots → A → V} (run run' : State → Run V) → ((s : State) → EndsAs (run s) (run' s)) → Does m w A V c read run' → Does m w A V c read run
  does_as run run' e d = record { long = d.long; reads = d.reads; follows = λ p t f s has le shows. follows_as (run s) (run' s) (e s) (d.follows p t f s has le shows) }

  pub does_same : {A V : Type 0} {c : Code A} {read : Slots → A → V} (run run' : State → Run V) → ((s : State) → run' s ≡ run s) → Does m w A V c read run' → Does m w A V c read run
  does_same {A} {V} {c} {read} run run' e d = record { long = d.long; reads = d.reads; follows = λ p t f s has le shows. subst (λ r. Follows m 0 V p f s.left s.printed r (Did w A V c read t (p + c.size) f)) (e s) (d.follows p t f s has le shows) }

  pub does_known : {A V : Type 0} (read : Slots → A → V) (x : A) (v : V) → ((f : Slots) → read f x ≡ v) → Does m w A V (known x) read (λ s. Going v s)
  does_known read x v h = record {
    long = λ p t. refl;
    reads = λ t f g e. h f ∙ sym (h g);
    follows = λ p t f s has le shows. here (record { at = omega arith; gives = h f.slots; shows = shows; kept = kept_same f });
  }

  pub does_left : {A B U V : Type 0} {a : Code A} {ra : Slots → A → U} {run : State → Run U} (rb : Slots → B → V) (k : A → B) (make : U → V) → ((f : Slots) (x : A) → rb f (k x) ≡ make (ra f x)) → Does m w A U a ra run → Does m w B V (left a k) rb (λ s. run s then_do λ u s. Going (make u) s)
  does_left {a} {ra} rb k make h d = record {
    long = d.long;
    reads = λ t f g e. h f (a.gives t) ∙ ap make (d.reads t f g e) ∙ sym (h g (a.gives t));
    follows = λ p t f s has le shows. bind_did _ (d.follows p t f s has le shows) (λ s1 g u gives shows1 kept1. here (record { at = refl; gives = h g.slots (a.gives t) ∙ ap make gives; shows = shows1; kept = kept1 }));
  }

  pub does_both : {A B C U V W : Type 0} {a : Code A} {b : Code B} {ra : Slots → A → U} {rb : Slots → B → V} {run_a : State → Run U} {run_b : State → Run V} (rc : Slots → C → W) (join : A → B → C) (make : U → V → W) → ((f : Slots) (x : A) (y : B) → rc f (join x y) ≡ make (ra f x) (rb f y)) → Does m w A U a ra run_a → Does m w B V b rb run_b → Does m w C W (both a b join) rc (λ s. run_a s then_do λ u s. (run_b s then_do λ v s. Going (make u v) s))
  does_both {a} {b} {ra} {rb} rc join make h d e = record {
    long = λ p t. two_long _ _ a.size b.size _ (d.long p t) (e.long (p + a.size) (t + a.slots)) refl;
    reads = λ t f g k. h f (a.gives t) (b.gives (t + a.slots)) ∙ ap₂ make (d.reads t f g (λ y ge lt. k y ge (omega (arith, lt)))) (e.reads (t + a.slots) f g (λ y ge lt. k y (omega (arith, ge)) (omega (arith, lt)))) ∙ sym (h g (a.gives t) (b.gives (t + a.slots)));
    follows = λ p t f s has le shows.
        bind_did _ (d.follows p t f s (has_front m.flow p _ _ has) le shows) (λ s1 g1 u gives1 shows1 kept1.
        bind_did _ (e.follows (p + a.size) (t + a.slots) g1 s1 (has_back m.flow p a.size _ _ (d.long p t) has) (omega (arith, le)) shows1) (λ s2 g2 v gives2 shows2 kept2.
        here (record {
          at = omega arith;
          gives = h g2.slots (a.gives t) (b.gives (t + a.slots)) ∙ ap₂ make (d.reads t g2.slots g1.slots (λ y ge lt. kept2.slots' y (omega (arith, ge, le)) lt) ∙ gives1) gives2;
          shows = shows2;
          kept = kept_join kept1 kept2 (omega arith) (omega arith);
        })));
  }

  -- the same, with what is known of the values
  pub does_known_computed : {A V : Type 0} {a : Code A} {ra : Slots → A → V} {run : State → Run V} (K : V → Type 0) (source : A → PlainSource) (op : V → Result Plain Fault) → ((s t : State) (v : V) → run s ≡ Going v t → K v) → ((f : Slots) (x : A) → K (ra f x) → Meets (source_value m.request f (source x)) (op (ra f x))) → Does m w A V a ra run → Does m w ℕ Plain (computed a source) at_slot (λ s. run s then_do λ v s. result_of (op v) s)
  does_known_computed {a} {ra} {run} K source op known h d = record {
    long = λ p t. last_long _ _ a.size (d.long p t);
    reads = λ t f g e. e (t + a.slots) (omega arith) (omega arith);
    follows = λ p t f s has le shows.
        let at = (has_back m.flow p a.size _ _ (d.long p t) has).0 in
        bind (knows K (run s) (λ v t. known s t v) (d.follows p t f s (has_front m.flow p _ _ has) le shows)) (λ u s1 q g both.
        let did = both.0 in
        let at' = subst (λ q. point_at m.flow q ≡ Some (set_point (t + a.slots) (source (a.gives t)) (p + a.size + 1))) (sym did.at) at in
        computes (op u) s1 at' (subst (λ v. Meets (source_value m.request g.slots (source (a.gives t))) (op v)) did.gives (h g.slots (a.gives t) (subst K (sym did.gives) both.1))) (λ v e. did_set (t + a.slots) _ v s1 g refl (omega arith) (omega arith) le did.shows did.kept));
  }

  pub does_computed : {A V : Type 0} {a : Code A} {ra : Slots → A → V} {run : State → Run V} (source : A → PlainSource) (op : V → Result Plain Fault) → ((f : Slots) (x : A) → Meets (source_value m.request f (source x)) (op (ra f x))) → Does m w A V a ra run → Does m w ℕ Plain (computed a source) at_slot (λ s. run s then_do λ v s. result_of (op v) s)
  does_computed {a} {ra} source op h d = record {
    long = λ p t. last_long _ _ a.size (d.long p t);
    reads = λ t f g e. e (t + a.slots) (omega arith) (omega arith);
    follows = λ p t f s has le shows.
        let at = (has_back m.flow p a.size _ _ (d.long p t) has).0 in
        bind_did _ (d.follows p t f s (has_front m.flow p _ _ has) le shows) (λ s1 g u gives shows1 kept1.
        computes (op u) s1 at (subst (λ v. Meets (source_value m.request g.slots (source (a.gives t))) (op v)) gives (h g.slots (a.gives t))) (λ v e. did_set (t + a.slots) _ v s1 g refl (omega arith) (omega arith) le shows1 kept1));
  }

pub as_truth : (r : PlainRequest) (f : Slots) (y : ℕ) (u : Plain) (b : Bool) → f y ≡ u → truth u ≡ b → source_value r f (truth_source work.AsTruth (y ∷ [])) ≡ Ok (flag b)
unfolding source_value worked
as_truth r f y u b e is = ap (λ u. Ok (flag (truth u))) e ∙ ap (λ b. Ok (flag b)) is

pub as_present : (r : PlainRequest) (f : Slots) (y : ℕ) (u : Plain) → f y ≡ u → source_value r f (truth_source work.NotNull (y ∷ [])) ≡ Ok (flag (not (is_null u)))
unfolding source_value worked
as_present r f y u e = ap (λ u. Ok (flag (not (is_null u)))) e

pub as_copy : (r : PlainRequest) (f : Slots) (y : ℕ) (u : Plain) → f y ≡ u → source_value r f (copy_source y) ≡ Ok u
unfolding source_value
as_copy r f y u e = ap Ok e

module _ {m : World} {w : Scope} where
  pub does_and : {a b : Code ℕ} {run_a run_b : State → Run Plain} → Does m w ℕ Plain a at_slot run_a → Does m w ℕ Plain b at_slot run_b → Does m w ℕ Plain (both_true a b) at_slot (λ s. run_a s then_do λ v s. (if truth v then (run_b s then_do λ u s. Going (flag (truth u)) s) else Going (flag false) s))
  does_and {a} {b} d e = record {
    long = λ p t. mid_long _ _ _ a.size (b.size + 1 + 1) _ (d.long p t) (mid_long _ _ _ b.size 1 _ (e.long (p + a.size + 1) (t + a.slots)) refl refl) (omega arith);
    reads = λ t f g k. k (t + a.slots + b.slots) (omega arith) (omega arith);
    follows = λ p t f s has le shows.
        let h1 = has_back m.flow p a.size _ _ (d.long p t) has in
        let h2 = has_back m.flow (p + a.size + 1) b.size _ _ (e.long (p + a.size + 1) (t + a.slots)) h1.1 in
        bind_did _ (d.follows p t f s (has_front m.flow p _ _ has) le shows) (λ s1 g1 v gives1 shows1 kept1.
        branches (truth v) h1.0 (ap truth gives1)
        (λ holds. bind_did _ (e.follows (p + a.size + 1) (t + a.slots) g1 s1 (has_front m.flow _ _ _ h1.1) (omega (arith, le)) shows1) (λ s2 g2 u gives2 shows2 kept2.
        sets s2 h2.0 (as_truth m.request g2.slots _ u (truth u) gives2 refl) (did_set _ _ _ s2 g2 refl (omega arith) (omega arith) le shows2 (kept_join kept1 kept2 (omega arith) (omega arith)))))
        (λ fails. sets s1 h2.1.0 (as_truth m.request g1.slots _ v false gives1 fails) (did_set _ _ _ s1 g1 refl (omega arith) (omega arith) le shows1 kept1)));
  }

  pub does_or : {a b : Code ℕ} {run_a run_b : State → Run Plain} → Does m w ℕ Plain a at_slot run_a → Does m w ℕ Plain b at_slot run_b → Does m w ℕ Plain (one_true a b) at_slot (λ s. run_a s then_do λ v s. (if truth v then Going (flag true) s else (run_b s then_do λ u s. Going (flag (truth u)) s)))
  does_or {a} {b} d e = record {
    long = λ p t. mid_long _ _ _ a.size (b.size + 1 + 1) _ (d.long p t) (mid_long _ _ _ b.size 1 _ (e.long (p + a.size + 1) (t + a.slots)) refl refl) (omega arith);
    reads = λ t f g k. k (t + a.slots + b.slots) (omega arith) (omega arith);
    follows = λ p t f s has le shows.
        let h1 = has_back m.flow p a.size _ _ (d.long p t) has in
        let h2 = has_back m.flow (p + a.size + 1) b.size _ _ (e.long (p + a.size + 1) (t + a.slots)) h1.1 in
        bind_did _ (d.follows p t f s (has_front m.flow p _ _ has) le shows) (λ s1 g1 v gives1 shows1 kept1.
        branches (truth v) h1.0 (ap truth gives1)
        (λ holds. sets s1 h2.1.0 (as_truth m.request g1.slots _ v true gives1 holds) (did_set _ _ _ s1 g1 refl (omega arith) (omega arith) le shows1 kept1))
        (λ fails. bind_did _ (e.follows (p + a.size + 1) (t + a.slots) g1 s1 (has_front m.flow _ _ _ h1.1) (omega (arith, le)) shows1) (λ s2 g2 u gives2 shows2 kept2.
        sets s2 h2.0 (as_truth m.request g2.slots _ u (truth u) gives2 refl) (did_set _ _ _ s2 g2 refl (omega arith) (omega arith) le shows2 (kept_join kept1 kept2 (omega arith) (omega arith))))));
  }

  -- the value of code is copied behind it
  pub copies : {a : Code ℕ} {run : State → Run Plain} {c : Code ℕ} {t0 q : ℕ} {f : Frame} (d : Does m w ℕ Plain a at_slot run) (p t x next : ℕ) (g : Frame) (s : State) → HasAt m.flow p (a.points p t) → free w ≤ t → Shows w s g → point_at m.flow (p + a.size) ≡ Some (set_point x (copy_source (a.gives t)) next) → c.gives t0 ≡ x → next ≡ q → t0 ≤ x → t0 ≤ t → free w ≤ t0 → Kept w t0 f g → Follows m 0 Plain p g s.left s.printed (run s) (Did w ℕ Plain c at_slot t0 q f)
  copies {c} {t0} {q} {f} d p t x next g s has le shows at is to ge ge' le' kept =
      onward (d.follows p t g s has le shows) (λ v s1 p1 g1 did.
      subst (λ p. Follows m 0 Plain p g1 s1.left s1.printed (Going v s1) (Did w ℕ Plain c at_slot t0 q f)) (sym did.at)
      (sets s1 at (as_copy m.request g1.slots _ v did.gives) (did_set x next v s1 g1 is to ge le' did.shows (kept_join kept did.kept (omega arith) ge'))))

  pub does_first_there : {a b : Code ℕ} {run_a run_b : State → Run Plain} → Does m w ℕ Plain a at_slot run_a → Does m w ℕ Plain b at_slot run_b → Does m w ℕ Plain (first_there a b) at_slot (λ s. run_a s then_do λ v s. (if is_null v then run_b s else Going v s))
  does_first_there {a} {b} d e = record {
    long = λ p t. mid_long _ _ _ a.size (b.size + 3) _ (d.long p t) (omega (arith, length-append (b.points (p + a.size + 1 + 1 + 1) (t + a.slots + 1)) (set_point (t + a.slots + 1 + b.slots) (copy_source (b.gives (t + a.slots + 1))) (p + a.size + 1 + 1 + 1 + b.size + 1) ∷ []), e.long (p + a.size + 1 + 1 + 1) (t + a.slots + 1))) (omega arith);
    reads = λ t f g k. k (t + a.slots + 1 + b.slots) (omega arith) (omega arith);
    follows = λ p t f s has le shows.
        let left = p + a.size + 1 + 1 in
        let test = t + a.slots in
        let h1 = has_back m.flow p a.size _ _ (d.long p t) has in
        let h2 = h1.1.1 in
        let h3 = has_back m.flow (left + 1) b.size _ _ (e.long (left + 1) (test + 1)) h2.1 in
        bind_did _ (d.follows p t f s (has_front m.flow p _ _ has) le shows) (λ s1 g1 v gives1 shows1 kept1.
        let there : Plain = flag (not (is_null v)) in
        let g2 = set_slot g1 test there in
        let shows2 = shows_temporary w s1 test there g1 (omega (arith, le)) shows1 in
        let kept2 = kept_join kept1 (kept_temporary w t test there g1 (omega arith)) (omega arith) (omega arith) in
        let same = d.reads t g2.slots g1.slots (λ y ge lt. slot_other g1 test there y (λ is. omega (arith, is, lt))) in
        after (set_comes m _ _ _ _ g1 there s1.printed h1.0 (as_present m.request g1.slots _ v gives1))
        (branches_not (is_null v) h1.1.0 (ap truth (slot_same g1 test there))
        (λ empty. copies e (left + 1) (test + 1) _ _ g2 s1 (has_front m.flow _ _ _ h2.1) (omega (arith, le)) shows2 h3.0 refl (omega arith) (omega arith) (omega arith) le kept2)
        (λ given. sets s1 h2.0 (as_copy m.request g2.slots _ v (same ∙ gives1)) (did_set _ _ _ s1 g2 refl (omega arith) (omega arith) le shows2 kept2))));
  }

  pub does_chosen : {c a b : Code ℕ} {run_c run_a run_b : State → Run Plain} → Does m w ℕ Plain c at_slot run_c → Does m w ℕ Plain a at_slot run_a → Does m w ℕ Plain b at_slot run_b → Does m w ℕ Plain (chosen c a b) at_slot (λ s. run_c s then_do λ v s. (if truth v then run_a s else run_b s))
  does_chosen {c} {a} {b} d e k = record {
    long = λ p t.
        let first = p + c.size + 1 in
        let second = first + a.size + 1 in
        mid_long _ _ _ c.size (a.size + 1 + (b.size + 1)) _ (d.long p t) (mid_long _ _ _ a.size (b.size + 1) _ (e.long first (t + c.slots)) (last_long _ _ b.size (k.long second (t + c.slots + a.slots))) refl) (omega arith);
    reads = λ t f g h. h (t + c.slots + a.slots + b.slots) (omega arith) (omega arith);
    follows = λ p t f s has le shows.
        let first = p + c.size + 1 in
        let second = first + a.size + 1 in
        let h1 = has_back m.flow p c.size _ _ (d.long p t) has in
        let h2 = has_back m.flow first a.size _ _ (e.long first (t + c.slots)) h1.1 in
        let h3 = has_back m.flow second b.size _ _ (k.long second (t + c.slots + a.slots)) h2.1 in
        bind_did _ (d.follows p t f s (has_front m.flow p _ _ has) le shows) (λ s1 g1 v gives1 shows1 kept1.
        branches (truth v) h1.0 (ap truth gives1)
        (λ holds. copies e first (t + c.slots) _ _ g1 s1 (has_front m.flow _ _ _ h1.1) (omega (arith, le)) shows1 h2.0 refl (omega arith) (omega arith) (omega arith) le kept1)
        (λ fails. copies k second (t + c.slots + a.slots) _ _ g1 s1 (has_front m.flow _ _ _ h2.1) (omega (arith, le)) shows1 h3.0 refl (omega arith) (omega arith) (omega arith) le kept1));
  }

  pub does_chosen_itself : {c b : Code ℕ} {run_c run_b : State → Run Plain} → Does m w ℕ Plain c at_slot run_c → Does m w ℕ Plain b at_slot run_b → Does m w ℕ Plain (chosen_itself c b) at_slot (λ s. run_c s then_do λ v s. (if truth v then Going v s else run_b s))
  does_chosen_itself {c} {b} d k = record {
    long = λ p t.
        let second = p + c.size + 1 + 1 in
        mid_long _ _ _ c.size (1 + (b.size + 1)) _ (d.long p t) (omega (arith, last_long (b.points second (t + c.slots)) (set_point (t + c.slots + b.slots) (copy_source (b.gives (t + c.slots))) (second + b.size + 1)) b.size (k.long second (t + c.slots)))) (omega arith);
    reads = λ t f g h. h (t + c.slots + b.slots) (omega arith) (omega arith);
    follows = λ p t f s has le shows.
        let first = p + c.size + 1 in
        let second = first + 1 in
        let h1 = has_back m.flow p c.size _ _ (d.long p t) has in
        let h3 = has_back m.flow second b.size _ _ (k.long second (t + c.slots)) h1.1.1 in
        bind_did _ (d.follows p t f s (has_front m.flow p _ _ has) le shows) (λ s1 g1 v gives1 shows1 kept1.
        branches (truth v) h1.0 (ap truth gives1)
        (λ holds. sets s1 h1.1.0 (as_copy m.request g1.slots _ v gives1) (did_set _ _ _ s1 g1 refl (omega arith) (omega arith) le shows1 kept1))
        (λ fails. copies k second (t + c.slots) _ _ g1 s1 (has_front m.flow _ _ _ h1.1.1) (omega (arith, le)) shows1 h3.0 refl (omega arith) (omega arith) (omega arith) le kept1));
  }
