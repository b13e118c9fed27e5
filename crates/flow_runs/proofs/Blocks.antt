-- Code of statements that does what a run does, and how it is put together.
use Rattle.std.proofs.Common.{◌≡◌, ℕ, suc, ◌+◌, ◌≤◌, List, [], ◌++◌, length, Some, None, refl, sym, ap, subst, arith, Bool, true, false}
use Rattle.std.specs.Prelude.{if◌then◌else◌}
use Rattle.plain_values.specs.Plain.{Plain, null, flag, int, text, array}
use Rattle.plain_values.specs.Text.{truth, text_of}
use Rattle.script_meaning.specs.Runs.{State, Run, Going, Over, ◌then_do◌, Ended, Faulted, Spent, Deep, unit_at, printing}
use Rattle.script_meaning.specs.Statements.{Flow, goes_on, breaks, continues, returns, next_after, nothing, exit_with}
use Rattle.flow_code.specs.Points.{print_point, echo_point, branch_point, jump_point, return_point, quit_point, point_at}
use Rattle.flow_code.specs.Code.{Code, no_code, Targets, Block, no_block, ◌before◌, run_code, ending}
use Rattle.flow_code.specs.Expressions.{Scope}
use Rattle.flow_code.specs.Statements.{either, guarding, arm, reached, Test, test_of}
use Rattle.flow_code.specs.Runs.{Slots, Frame}
use Rattle.flow_runs.proofs.Ends.{World, Post, Comes_to, Lands, Follows, Comes, quit_stuck, after, lighter, here, over, heavy, onward, unit, jump_comes, print_comes, echo_comes, branch_comes, quit_ends, quit_text_ends}
use Rattle.flow_runs.proofs.Has.{HasAt, has_front, has_back, two_long, mid_long, last_long}
use Rattle.flow_runs.proofs.Frames.{free, Shows, Kept, kept_same, kept_join}
use Rattle.flow_runs.proofs.Codes.{at_slot, Does, bind_did}
use Rattle.flow_runs.proofs.Leaving.{LeftAs, LeftBy, IsLeft, no_way, ended_same}

-- where a run of statements stands that was left so
abbrev pub At : World → Targets → ℕ → Flow → ℕ → Frame → Type 0
At m to e goes_on p g = p ≡ e
At m to e breaks p g = p ≡ to.stop
At m to e continues p g = p ≡ to.again
At m to e (returns v) p g = (x : ℕ) × (point_at m.flow p ≡ Some (return_point x)) × (g.slots x ≡ v)

pub record Went (m : World) (w : Scope) (to : Targets) (e t : ℕ) (f : Frame) (flow : Flow) (s : State) (p : ℕ) (g : Frame) : Type 0 where
  pub at : At m to e flow p g
  pub shows : Shows w s g
  pub kept : Kept w t f g

-- code of statements does what a run does, which takes c units more than points pay
pub record DoesBlock (m : World) (c : ℕ) (w : Scope) (b : Block) (run : State → Run Flow) : Type 0 where
  pub long : (to : Targets) (p t : ℕ) → length (b.points to p t) ≡ b.size
  pub follows : (to : Targets) (p t : ℕ) (f : Frame) (s : State) → HasAt m.flow p (b.points to p t) → free w ≤ t → Shows w s f → Follows m c Flow p f s.left s.printed (run s) (Went m w to (p + b.size) t f)

at_moved : (m : World) (to : Targets) (e e' : ℕ) (flow : Flow) (p : ℕ) (g : Frame) → e ≡ e' → At m to e flow p g → At m to e' flow p g
at_moved m to e e' flow p g same h = subst (λ e. At m to e flow p g) same h

pub went_from : {m : World} {w : Scope} {to : Targets} {e e' t t' : ℕ} {f g : Frame} {flow : Flow} {s : State} {p : ℕ} {h : Frame} → Went m w to e t' g flow s p h → e ≡ e' → t ≤ t' → Kept w t f g → Went m w to e' t f flow s p h
went_from {m} {w} {to} {e} {e'} {flow = flow} {p = p} {h = h} went same le kept = record { at = at_moved m to e e' flow p h same went.at; shows = went.shows; kept = kept_join kept went.kept (omega arith) le }

known_at : (m : World) (c p : ℕ) (f : Frame) (n : ℕ) (out : List ℕ) (r : Run Flow) (P : Post Flow) (on jumps : Bool) → LeftBy on jumps r → Comes_to m c p f n out r P → Comes_to m c p f n out r (λ how s q g. LeftAs on jumps how × P how s q g)
known_at m c p f n out (Going how s) P on jumps left l = record { at = l.at; frame = l.frame; holds = (left, l.holds); falls = l.falls; forth = l.forth; back = l.back }
known_at m c p f n out (Over Ended w) P on jumps left l = l
known_at m c p f n out (Over (Faulted fault) w) P on jumps left l = l
known_at m c p f n out (Over Spent w) P on jumps left l = l
known_at m c p f n out (Over Deep w) P on jumps left l = l

-- how a run may be left is known where it goes on
pub known : {m : World} {c p : ℕ} {f : Frame} {n : ℕ} {out : List ℕ} {r : Run Flow} {P : Post Flow} {on jumps : Bool} → IsLeft on jumps r → Follows m c Flow p f n out r P → Follows m c Flow p f n out r (λ how s q g. LeftAs on jumps how × P how s q g)
known {m} {c} {p} {f} {n} {out} {r} {P} {on} {jumps} left h = record { is = known_at m c p f n out r P on jumps left.is h.is }

-- the end of a block that no run comes to may have any number
moved : {m : World} {w : Scope} {to : Targets} {e t q : ℕ} {f g : Frame} {s : State} (jumps : Bool) (e' : ℕ) (flow : Flow) → LeftAs false jumps flow → Went m w to e t f flow s q g → Went m w to e' t f flow s q g
moved jumps e' goes_on left went = no_way left
moved jumps e' breaks left went = record { at = went.at; shows = went.shows; kept = went.kept }
moved jumps e' continues left went = record { at = went.at; shows = went.shows; kept = went.kept }
moved jumps e' (returns v) left went = record { at = went.at; shows = went.shows; kept = went.kept }

-- something behind the turns of a loop, whose value is not asked for
pub record Behind (w : Scope) (q t : ℕ) (f : Frame) (vs : List Plain) (s : State) (p : ℕ) (g : Frame) : Type 0 where
  pub at : p ≡ q
  pub shows : Shows w s g
  pub kept : Kept w t f g

-- the place where a test leads
pub record Tested (w : Scope) (held failed t : ℕ) (f : Frame) (holds : Bool) (s : State) (p : ℕ) (g : Frame) : Type 0 where
  pub at : p ≡ (if holds then held else failed)
  pub shows : Shows w s g
  pub kept : Kept w t f g

pub record DoesTest (m : World) (w : Scope) (test : Test) (run : State → Run Bool) : Type 0 where
  pub long : (stop p t : ℕ) → length (test.points stop p t) ≡ test.size
  pub follows : (stop p t : ℕ) (f : Frame) (s : State) → HasAt m.flow p (test.points stop p t) → free w ≤ t → Shows w s f → Follows m 0 Bool p f s.left s.printed (run s) (Tested w (p + test.size) stop t f)

pub record DoesBehind (m : World) (w : Scope) (b : Block) (run : State → Run (List Plain)) : Type 0 where
  pub long : (to : Targets) (p t : ℕ) → length (b.points to p t) ≡ b.size
  pub follows : (to : Targets) (p t : ℕ) (f : Frame) (s : State) → HasAt m.flow p (b.points to p t) → free w ≤ t → Shows w s f → Follows m 0 (List Plain) p f s.left s.printed (run s) (Behind w (p + b.size) t f)

module _ {m : World} where
  quits : {P : Post Flow} (p x : ℕ) (g : Frame) (s : State) (v : Plain) → point_at m.flow p ≡ Some (quit_point (Some x)) → g.slots x ≡ v → Follows m 0 Flow p g s.left s.printed (exit_with (Some v) s) P
  unfolding exit_with
  quits p x g s null at e = record { is = quit_stuck m p x g (null) at e (λ t is. cc) }
  quits p x g s (flag b) at e = record { is = quit_stuck m p x g (flag b) at e (λ t is. cc) }
  quits p x g s (int z) at e = record { is = quit_stuck m p x g (int z) at e (λ t is. cc) }
  quits p x g s (text t) at e = over (quit_text_ends m p x g s.printed t at e)
  quits p x g s (array ps) at e = record { is = quit_stuck m p x g (array ps) at e (λ t is. cc) }

module _ {m : World} {w : Scope} where
  pub block_same : {b : Block} {c : ℕ} (run run' : State → Run Flow) → ((s : State) → run' s ≡ run s) → DoesBlock m c w b run' → DoesBlock m c w b run
  block_same {b} {c} run run' e d = record { long = d.long; follows = λ to p t f s has le shows. subst (λ r. Follows m c Flow p f s.left s.printed r (Went m w to (p + b.size) t f)) (e s) (d.follows to p t f s has le shows) }

  pub heavier : {b : Block} {run : State → Run Flow} (c d : ℕ) → c ≤ d → DoesBlock m c w b run → DoesBlock m d w b run
  heavier c d more h = record { long = h.long; follows = λ to p t f s has le shows. lighter c d more (h.follows to p t f s has le shows) }

  pub does_unit : {b : Block} {c : ℕ} {run : State → Run Flow} → DoesBlock m c w b run → DoesBlock m (suc c) w b (λ s. unit_at s.left s run)
  does_unit {run = run} d = record { long = d.long; follows = λ to p t f s has le shows. unit s run (λ n is. d.follows to p t f (record s { left = n }) has le shows) }

  pub does_nothing : DoesBlock m 0 w no_block (λ s. Going goes_on s)
  does_nothing = record { long = λ to p t. refl; follows = λ to p t f s has le shows. here (record { at = omega arith; shows = shows; kept = kept_same f }) }

  pub does_before : {a b : Block} {j k : ℕ} {run_a run_b : State → Run Flow} → DoesBlock m j w a run_a → DoesBlock m k w b run_b → DoesBlock m (j + k) w (a before b) (λ s. run_a s then_do λ flow s. next_after flow s run_b)
  unfolding next_after
  does_before {a} {b} {j} {k} {run_a} {run_b} d e = record {
    long = λ to p t. two_long _ _ a.size b.size _ (d.long to p t) (e.long to (p + a.size) (t + a.slots)) refl;
    follows = λ to p t f s has le shows.
        heavy j k (j + k) (omega arith) (d.follows to p t f s (has_front m.flow p _ _ has) le shows) (λ flow s1 q g went falls. goes to p t f le (has_back m.flow p a.size _ _ (d.long to p t) has) flow s1 q g went);
  }
    where
      goes : (to : Targets) (p t : ℕ) (f : Frame) → free w ≤ t → HasAt m.flow (p + a.size) (b.points to (p + a.size) (t + a.slots)) → (flow : Flow) (s : State) (q : ℕ) (g : Frame) → Went m w to (p + a.size) t f flow s q g → Follows m k Flow q g s.left s.printed (next_after flow s run_b) (Went m w to (p + (a.size + b.size)) t f)
      goes to p t f le has goes_on s q g went =
          subst (λ q. Follows m k Flow q g s.left s.printed (run_b s) (Went m w to (p + (a.size + b.size)) t f)) (sym went.at)
          (onward (e.follows to (p + a.size) (t + a.slots) g s has (omega (arith, le)) went.shows) (λ flow s q h more. here (went_from more (omega arith) (omega arith) went.kept)))
      goes to p t f le has breaks s q g went = lighter 0 k (omega arith) (here (record { at = went.at; shows = went.shows; kept = went.kept }))
      goes to p t f le has continues s q g went = lighter 0 k (omega arith) (here (record { at = went.at; shows = went.shows; kept = went.kept }))
      goes to p t f le has (returns v) s q g went = lighter 0 k (omega arith) (here (record { at = went.at; shows = went.shows; kept = went.kept }))

  -- what stands behind a statement that is not left at its end has no points
  does_ended : {a : Block} {j : ℕ} {run_a : State → Run Flow} (k : ℕ) (run_b : State → Run Flow) {jumps : Bool} → DoesBlock m j w a run_a → ((s : State) → IsLeft false jumps (run_a s)) → DoesBlock m (j + k) w (a before no_block) (λ s. run_a s then_do λ flow s. next_after flow s run_b)
  does_ended {a} {j} {run_a} k run_b d left = record {
    long = λ to p t. two_long _ _ a.size 0 _ (d.long to p t) refl refl;
    follows = λ to p t f s has le shows.
        subst (λ r. Follows m (j + k) Flow p f s.left s.printed r (Went m w to (p + (a.size + 0)) t f)) (sym (ended_same (run_a s) run_b (left s)))
        (lighter j (j + k) (omega arith) (onward (d.follows to p t f s (has_front m.flow p _ _ has) le shows) (λ flow s q g went. here (went_from went (omega arith) (omega arith) (kept_same f)))));
  }

  -- a statement and what stands behind it, by whether it can be left at its end
  pub does_next : (on : Bool) {jumps : Bool} {a b : Block} {j k : ℕ} {run_a run_b : State → Run Flow} → ((s : State) → IsLeft on jumps (run_a s)) → DoesBlock m j w a run_a → DoesBlock m k w b run_b → DoesBlock m (j + k) w (a before reached on b) (λ s. run_a s then_do λ flow s. next_after flow s run_b)
  does_next true left d e = does_before d e
  does_next false {k = k} {run_b = run_b} left d e = does_ended k run_b d left

  pub does_run : {A V : Type 0} {a : Code A} {read : Slots → A → V} {run : State → Run V} → Does m w A V a read run → DoesBlock m 0 w (run_code a) (λ s. run s then_do λ v s. Going goes_on s)
  does_run d = record {
    long = λ to p t. d.long p t;
    follows = λ to p t f s has le shows. bind_did _ (d.follows p t f s has le shows) (λ s1 g v gives shows1 kept1. here (record { at = refl; shows = shows1; kept = kept1 }));
  }

  pub does_print : (bytes : List ℕ) → DoesBlock m 0 w (ending no_code (λ none to p. print_point bytes (p + 1))) (λ s. Going goes_on (printing bytes s))
  does_print bytes = record {
    long = λ to p t. refl;
    follows = λ to p t f s has le shows.
        let e : p + 0 ≡ p = omega arith in
        let at : point_at m.flow p ≡ Some (print_point bytes (p + 0 + 1)) = has.0 in
        after (print_comes m p (p + 0 + 1) bytes f s.printed at) (here (record { at = omega arith; shows = shows; kept = kept_same f }));
  }

  pub does_echo : {a : Code ℕ} {run : State → Run Plain} → Does m w ℕ Plain a at_slot run → DoesBlock m 0 w (ending a (λ x to p. echo_point x (p + 1))) (λ s. run s then_do λ v s. Going goes_on (printing (text_of v) s))
  does_echo {a} d = record {
    long = λ to p t. last_long _ _ a.size (d.long p t);
    follows = λ to p t f s has le shows.
        let at = (has_back m.flow p a.size _ _ (d.long p t) has).0 in
        bind_did _ (d.follows p t f s (has_front m.flow p _ _ has) le shows) (λ s1 g v gives shows1 kept1.
        after (subst (λ v. Comes m m.cost (p + a.size) g s1.printed (p + a.size + 1) g (s1.printed ++ text_of v)) gives (echo_comes m (p + a.size) (a.gives t) (p + a.size + 1) g s1.printed at))
        (here (record { at = omega arith; shows = shows1; kept = kept1 })));
  }

  pub does_break : DoesBlock m 0 w (ending no_code (λ none to p. jump_point to.stop)) (λ s. Going breaks s)
  does_break = record {
    long = λ to p t. refl;
    follows = λ to p t f s has le shows. after (jump_comes m p to.stop f s.printed has.0) (here (record { at = refl; shows = shows; kept = kept_same f }));
  }

  pub does_continue : DoesBlock m 0 w (ending no_code (λ none to p. jump_point to.again)) (λ s. Going continues s)
  does_continue = record {
    long = λ to p t. refl;
    follows = λ to p t f s has le shows. after (jump_comes m p to.again f s.printed has.0) (here (record { at = refl; shows = shows; kept = kept_same f }));
  }

  pub does_return : {a : Code ℕ} {run : State → Run Plain} → Does m w ℕ Plain a at_slot run → DoesBlock m 0 w (ending a (λ x to p. return_point x)) (λ s. run s then_do λ v s. Going (returns v) s)
  does_return {a} d = record {
    long = λ to p t. last_long _ _ a.size (d.long p t);
    follows = λ to p t f s has le shows.
        let at = (has_back m.flow p a.size _ _ (d.long p t) has).0 in
        bind_did _ (d.follows p t f s (has_front m.flow p _ _ has) le shows) (λ s1 g v gives shows1 kept1. here (record { at = (a.gives t, at, gives); shows = shows1; kept = kept1 }));
  }

  pub does_quit : DoesBlock m 0 w (ending no_code (λ none to p. quit_point None)) (λ s. exit_with None s)
  unfolding exit_with
  does_quit = record {
    long = λ to p t. refl;
    follows = λ to p t f s has le shows. over (quit_ends m p f s.printed has.0);
  }

  pub does_quit_with : {a : Code ℕ} {run : State → Run Plain} → Does m w ℕ Plain a at_slot run → DoesBlock m 0 w (ending a (λ x to p. quit_point (Some x))) (λ s. run s then_do λ v s. exit_with (Some v) s)
  does_quit_with {a} d = record {
    long = λ to p t. last_long _ _ a.size (d.long p t);
    follows = λ to p t f s has le shows.
        let at = (has_back m.flow p a.size _ _ (d.long p t) has).0 in
        bind_did _ (d.follows p t f s (has_front m.flow p _ _ has) le shows) (λ s1 g v gives shows1 kept1. quits (p + a.size) (a.gives t) g s1 v at gives);
  }

  pub does_test : {a : Code ℕ} {run : State → Run Plain} → Does m w ℕ Plain a at_slot run → DoesTest m w (test_of a) (λ s. run s then_do λ v s. Going (truth v) s)
  does_test {a} d = record {
    long = λ stop p t. last_long _ _ a.size (d.long p t);
    follows = λ stop p t f s has le shows.
        let at = (has_back m.flow p a.size _ _ (d.long p t) has).0 in
        bind_did _ (d.follows p t f s (has_front m.flow p _ _ has) le shows) (λ s1 g v gives shows1 kept1.
        after (branch_comes m (p + a.size) (a.gives t) (p + a.size + 1) stop g s1.printed (truth v) at (ap truth gives))
        (here (record { at = led (truth v) (p + a.size + 1) (p + (a.size + 1)) stop (omega arith); shows = shows1; kept = kept1 })));
  }
    where
      led : (b : Bool) (q q' stop : ℕ) → q ≡ q' → (if b then q else stop) ≡ (if b then q' else stop)
      led b q q' stop e = ap (λ q. if b then q else stop) e

  pub does_no_test : DoesTest m w (record { size = 0; slots = 0; points = λ stop p t. [] }) (λ s. Going true s)
  does_no_test = record { long = λ stop p t. refl; follows = λ stop p t f s has le shows. here (record { at = omega arith; shows = shows; kept = kept_same f }) }

  pub does_behind : {A : Type 0} {a : Code A} {read : Slots → A → List Plain} {run : State → Run (List Plain)} → Does m w A (List Plain) a read run → DoesBehind m w (run_code a) run
  does_behind d = record {
    long = λ to p t. d.long p t;
    follows = λ to p t f s has le shows. onward (d.follows p t f s has le shows) (λ v s1 q g did. here (record { at = did.at; shows = did.shows; kept = did.kept }));
  }

  pub does_no_behind : DoesBehind m w no_block nothing
  unfolding nothing
  does_no_behind = record { long = λ to p t. refl; follows = λ to p t f s has le shows. here (record { at = omega arith; shows = shows; kept = kept_same f }) }

  branching : {c : ℕ} (run_one run_other : State → Run Flow) (to : Targets) (v : Bool) (p t : ℕ) (f g : Frame) (s : State) (x first second e : ℕ) → point_at m.flow p ≡ Some (branch_point x first second) → truth (g.slots x) ≡ v → Follows m c Flow first g s.left s.printed (run_one s) (Went m w to e t f) → Follows m c Flow second g s.left s.printed (run_other s) (Went m w to e t f) → Follows m c Flow p g s.left s.printed (if v then run_one s else run_other s) (Went m w to e t f)
  branching run_one run_other to true p t f g s x first second e at is h1 h2 = after (branch_comes m p x first second g s.printed true at is) h1
  branching run_one run_other to false p t f g s x first second e at is h1 h2 = after (branch_comes m p x first second g s.printed false at is) h2

  does_either : {a : Code ℕ} {one other : Block} {j k : ℕ} {run : State → Run Plain} {run_one run_other : State → Run Flow} → Does m w ℕ Plain a at_slot run → DoesBlock m j w one run_one → DoesBlock m k w other run_other → DoesBlock m (j + k) w (either a one other) (λ s. run s then_do λ v s. (if truth v then run_one s else run_other s))
  does_either {a} {one} {other} {j} {k} {run_one = run_one} {run_other = run_other} d e h = record {
    long = λ to p t.
        let first = p + a.size + 1 in
        let second = first + one.size + 1 in
        mid_long _ _ _ a.size (one.size + 1 + other.size) _ (d.long p t) (mid_long _ _ _ one.size other.size _ (e.long to first (t + a.slots)) (h.long to second (t + a.slots + one.slots)) refl) (omega arith);
    follows = λ to p t f s has le shows.
        let first = p + a.size + 1 in
        let second = first + one.size + 1 in
        let h1 = has_back m.flow p a.size _ _ (d.long p t) has in
        let h2 = has_back m.flow first one.size _ _ (e.long to first (t + a.slots)) h1.1 in
        bind_did _ (d.follows p t f s (has_front m.flow p _ _ has) le shows) (λ s1 g1 v gives1 shows1 kept1.
        branching run_one run_other to (truth v) (p + a.size) t f g1 s1 (a.gives t) first second (p + (a.size + 1 + one.size + 1 + other.size)) h1.0 (ap truth gives1)
        (lighter j (j + k) (omega arith) (onward (e.follows to first (t + a.slots) g1 s1 (has_front m.flow _ _ _ h1.1) (omega (arith, le)) shows1) (λ flow s2 q g went. jumps to (first + one.size) (second + other.size) _ t f g flow s2 q (omega arith) h2.0 (went_from went refl (omega arith) kept1))))
        (lighter k (j + k) (omega arith) (onward (h.follows to second (t + a.slots + one.slots) g1 s1 h2.1 (omega (arith, le)) shows1) (λ flow s2 q g went. here (went_from went (omega arith) (omega arith) kept1)))));
  }
    where
      jumps : (to : Targets) (p next e t : ℕ) (f g : Frame) (flow : Flow) (s : State) (q : ℕ) → next ≡ e → point_at m.flow p ≡ Some (jump_point next) → Went m w to p t f flow s q g → Follows m 0 Flow q g s.left s.printed (Going flow s) (Went m w to e t f)
      jumps to p next e t f g goes_on s q same at went = subst (λ q. Follows m 0 Flow q g s.left s.printed (Going goes_on s) (Went m w to e t f)) (sym went.at) (after (jump_comes m p next g s.printed at) (here (record { at = same; shows = went.shows; kept = went.kept })))
      jumps to p next e t f g breaks s q same at went = here (record { at = went.at; shows = went.shows; kept = went.kept })
      jumps to p next e t f g continues s q same at went = here (record { at = went.at; shows = went.shows; kept = went.kept })
      jumps to p next e t f g (returns v) s q same at went = here (record { at = went.at; shows = went.shows; kept = went.kept })

  -- where the condition holds, a body that is not left at its end
  does_guarding : {a : Code ℕ} {one other : Block} {j k : ℕ} {run : State → Run Plain} {run_one run_other : State → Run Flow} {out : Bool} → ((s : State) → IsLeft false out (run_one s)) → Does m w ℕ Plain a at_slot run → DoesBlock m j w one run_one → DoesBlock m k w other run_other → DoesBlock m (j + k) w (guarding a one other) (λ s. run s then_do λ v s. (if truth v then run_one s else run_other s))
  does_guarding {a} {one} {other} {j} {k} {run_one = run_one} {run_other = run_other} {out = out} left d e h = record {
    long = λ to p t.
        let first = p + a.size + 1 in
        let second = first + one.size in
        mid_long _ _ _ a.size (one.size + other.size) _ (d.long p t) (two_long _ _ one.size other.size _ (e.long to first (t + a.slots)) (h.long to second (t + a.slots + one.slots)) refl) (omega arith);
    follows = λ to p t f s has le shows.
        let first = p + a.size + 1 in
        let second = first + one.size in
        let h1 = has_back m.flow p a.size _ _ (d.long p t) has in
        let h2 = has_back m.flow first one.size _ _ (e.long to first (t + a.slots)) h1.1 in
        bind_did _ (d.follows p t f s (has_front m.flow p _ _ has) le shows) (λ s1 g1 v gives1 shows1 kept1.
        branching run_one run_other to (truth v) (p + a.size) t f g1 s1 (a.gives t) first second (p + (a.size + 1 + one.size + other.size)) h1.0 (ap truth gives1)
        (lighter j (j + k) (omega arith) (onward (known (left s1) (e.follows to first (t + a.slots) g1 s1 (has_front m.flow _ _ _ h1.1) (omega (arith, le)) shows1)) (λ flow s2 q g went. here (went_from (moved out (p + (a.size + 1 + one.size + other.size)) flow went.0 went.1) refl (omega arith) kept1))))
        (lighter k (j + k) (omega arith) (onward (h.follows to second (t + a.slots + one.slots) g1 s1 h2 (omega (arith, le)) shows1) (λ flow s2 q g went. here (went_from went (omega arith) (omega arith) kept1)))));
  }

  -- an arm of an `if`, by whether its body can be left at its end
  pub does_arm : (on : Bool) {a : Code ℕ} {one other : Block} {j k : ℕ} {run : State → Run Plain} {run_one run_other : State → Run Flow} {out : Bool} → ((s : State) → IsLeft on out (run_one s)) → Does m w ℕ Plain a at_slot run → DoesBlock m j w one run_one → DoesBlock m k w other run_other → DoesBlock m (j + k) w (arm on a one other) (λ s. run s then_do λ v s. (if truth v then run_one s else run_other s))
  does_arm true left d e h = does_either d e h
  does_arm false left d e h = does_guarding left d e h
