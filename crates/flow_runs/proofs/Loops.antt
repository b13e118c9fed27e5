-- Loops do what the runs of their turns do.
use Rattle.std.proofs.Common.{◌≡◌, ℕ, zero, suc, ◌+◌, ◌≤◌, List, [], ◌∷◌, ◌++◌, length, Some, None, Option, refl, sym, ap, ◌∙◌, subst, arith, Bool, true, false}
use Rattle.std.specs.Prelude.{if◌then◌else◌}
use Rattle.plain_values.specs.Plain.{Plain, PlainKey, Pairs, empty, pair}
use Rattle.plain_values.specs.Text.{truth}
use Rattle.plain_values.specs.Walks.{value_of_key, walked}
use Rattle.script_meaning.specs.Runs.{State, Run, Going, Over, ◌then_do◌, Spent, with_variable}
use Rattle.script_meaning.specs.Statements.{Flow, goes_on, breaks, continues, returns, turn_after, turn, turns, loop, nothing, with_pair, walk as walk_pairs}
use Rattle.flow_code.specs.Points.{branch_point, jump_point, next_point, point_at}
use Rattle.flow_code.specs.Variables.{Name, own_names, key_names}
use Rattle.flow_code.specs.Code.{Code, Targets, Block}
use Rattle.flow_code.specs.Expressions.{Scope, variable}
use Rattle.flow_code.specs.Statements.{Test, looping, repeating, pair_points, pair_size, walking, key_variable}
use Rattle.flow_code.specs.Runs.{Frame, Walk, set_slot, set_walk}
use Rattle.flow_runs.proofs.Ends.{World, Post, Follows, Comes, comes_same, comes_then, after, paying, lighter, here, heavy, onward, unit, jump_comes, begin_comes, more_comes, done_comes, key_comes, value_comes, branch_comes}
use Rattle.flow_runs.proofs.Has.{HasAt, has_front, has_back, two_long, mid_long, last_long}
use Rattle.flow_runs.proofs.Names.{Has, HasAll}
use Rattle.flow_runs.proofs.Frames.{free, is_variable, slot_other, slot_walks, walk_same, walk_other, walk_slots, Shows, Kept, kept_same, kept_join, kept_less, kept_variable, shows_temporary, shows_variable}
use Rattle.flow_runs.proofs.Codes.{at_slot, Does, bind_did}
use Rattle.flow_runs.proofs.Blocks.{Went, DoesBlock, went_from, Behind, Tested, DoesTest, DoesBehind}

-- a test that leads on to a body or past it, where so much is paid on the way to the body
abbrev Tests : (m : World) (w : Scope) (t at body_at stop c d : ℕ) → (State → Run Bool) → Type 1
Tests m w t at body_at stop c d test =
    (f : Frame) (s : State) → Shows w s f → (go_in go_past : State → Run Flow) (Q : Post Flow)
    → ((s' : State) (g : Frame) → Shows w s' g → Kept w t f g → s'.left ≤ s.left → Follows m d Flow body_at g s'.left s'.printed (go_in s') Q)
    → ((s' : State) (g : Frame) → Shows w s' g → Kept w t f g → Follows m c Flow stop g s'.left s'.printed (go_past s') Q)
    → Follows m c Flow at f s.left s.printed (test s then_do λ holds s. (if holds then go_in s else go_past s)) Q

module _ {m : World} {w : Scope} where
  -- a body, where what goes on behind a turn follows from the place where `continue` leads
  module _ (inner outer : Targets) (t t' stop k : ℕ) (same_stop : inner.stop ≡ stop) (le : t ≤ t') where
    turned : (go : State → Run Flow) (f : Frame) (e : ℕ) (flow : Flow) (s : State) (q : ℕ) (g : Frame) → ((g : Frame) → Shows w s g → Kept w t' f g → Follows m k Flow e g s.left s.printed (go s) (Went m w outer stop t f)) → ((g : Frame) → Shows w s g → Kept w t' f g → Follows m k Flow inner.again g s.left s.printed (go s) (Went m w outer stop t f)) → Went m w inner e t' f flow s q g → Follows m k Flow q g s.left s.printed (turn_after flow s go) (Went m w outer stop t f)
    unfolding turn_after
    turned go f e goes_on s q g next again went = subst (λ q. Follows m k Flow q g s.left s.printed (go s) (Went m w outer stop t f)) (sym went.at) (next g went.shows went.kept)
    turned go f e continues s q g next again went = subst (λ q. Follows m k Flow q g s.left s.printed (go s) (Went m w outer stop t f)) (sym went.at) (again g went.shows went.kept)
    turned go f e breaks s q g next again went = lighter 0 k (omega arith) (here (record { at = went.at ∙ same_stop; shows = went.shows; kept = kept_less went.kept le }))
    turned go f e (returns v) s q g next again went = lighter 0 k (omega arith) (here (record { at = went.at; shows = went.shows; kept = kept_less went.kept le }))

  -- a loop whose test, body and what stands behind are at these points; a turn is paid behind the test or on the way back to it
  module _ (to : Targets) (t at body_at again back stop b c e pay : ℕ) (test : State → Run Bool) (body : State → Run Flow) (behind : State → Run (List Plain)) (le : c ≤ e + pay)
      (tests : Tests m w t at body_at stop c (suc (b + e)) test)
      (bodies : (f : Frame) (s : State) → Shows w s f → Follows m b Flow body_at f s.left s.printed (body s) (Went m w (record { stop = stop; again = again }) again t f))
      (nexts : (f : Frame) (s : State) → Shows w s f → Follows m 0 (List Plain) again f s.left s.printed (behind s) (Behind w back t f))
      (backs : (f : Frame) (out : List ℕ) → Comes m pay back f out at f out) where
    -- one turn, and what goes on
    pub turn_follows : (go : State → Run Flow) (f : Frame) (s : State) → ((s' : State) (g : Frame) → Shows w s' g → suc s'.left ≤ s.left → Follows m e Flow again g s'.left s'.printed (go s') (Went m w to stop t g)) → Shows w s f → Follows m (suc (b + e)) Flow body_at f s.left s.printed (turn body s go) (Went m w to stop t f)
    unfolding turn
    turn_follows go f s next shows =
        unit s _ (λ n is. heavy b e (b + e) (omega arith) (bodies f (record s { left = n }) shows) (λ flow s1 q g went falls.
        let on : (g : Frame) → Shows w s1 g → Kept w t f g → Follows m e Flow again g s1.left s1.printed (go s1) (Went m w to stop t f) = λ g shows kept. onward (next s1 g shows (omega (arith, falls, is))) (λ flow s q h went. here (went_from went refl (omega arith) kept)) in
        turned (record { stop = stop; again = again }) to t t stop e refl (omega arith) go f again flow s1 q g on on went))

    pub turns_follow : (n : ℕ) (f : Frame) (s : State) → s.left ≤ n → Shows w s f → Follows m c Flow at f s.left s.printed (turns n test body behind s) (Went m w to stop t f)
    unfolding turns
    turns_follow zero f s few shows =
        tests f s shows (λ s. Over Spent s.printed) (λ s. Going goes_on s) _
        (λ s1 g shows1 kept1 falls. record { is = λ z end run. omega (arith, falls, few) })
        (λ s1 g shows1 kept1. lighter 0 c (omega arith) (here (record { at = refl; shows = shows1; kept = kept1 })))
    turns_follow (suc n) f s few shows =
        tests f s shows (λ s. turn body s (λ s. (behind s then_do λ vs s. turns n test body behind s))) (λ s. Going goes_on s) _
        (λ s1 g shows1 kept1 falls.
        onward (turn_follows _ g s1 (λ s2 h shows2 less. heavy 0 e e (omega arith) (nexts h s2 shows2) (λ vs s3 q k b falls3.
        subst (λ q. Follows m e Flow q k s3.left s3.printed (turns n test body behind s3) (Went m w to stop t h)) (sym b.at)
        (paying e c le (backs k s3.printed) (onward (turns_follow n k s3 (omega (arith, few, falls, less, falls3)) b.shows) (λ flow s q k went. here (went_from went refl (omega arith) b.kept)))))) shows1)
        (λ flow s q h went. here (went_from went refl (omega arith) kept1)))
        (λ s1 g shows1 kept1. lighter 0 c (omega arith) (here (record { at = refl; shows = shows1; kept = kept1 })))

    pub loop_follows : (f : Frame) (s : State) → Shows w s f → Follows m c Flow at f s.left s.printed (loop test body behind s) (Went m w to stop t f)
    unfolding loop
    loop_follows f s shows = turns_follow s.left f s (omega arith) shows

  by_test : {body_at stop t c : ℕ} (holds : Bool) (f : Frame) (s : State) (go_in go_past : State → Run Flow) (Q : Post Flow) (q : ℕ) (g : Frame) → Tested w body_at stop t f holds s q g → (Shows w s g → Kept w t f g → Follows m c Flow body_at g s.left s.printed (go_in s) Q) → (Shows w s g → Kept w t f g → Follows m c Flow stop g s.left s.printed (go_past s) Q) → Follows m c Flow q g s.left s.printed (if holds then go_in s else go_past s) Q
  by_test {c = c} true f s go_in go_past Q q g tested h k = subst (λ q. Follows m c Flow q g s.left s.printed (go_in s) Q) (sym tested.at) (h tested.shows tested.kept)
  by_test {c = c} false f s go_in go_past Q q g tested h k = subst (λ q. Follows m c Flow q g s.left s.printed (go_past s) Q) (sym tested.at) (k tested.shows tested.kept)

  pub does_looping : {test : Test} {body behind : Block} {b : ℕ} {run_test : State → Run Bool} {run_body : State → Run Flow} {run_behind : State → Run (List Plain)} → suc b ≤ m.cost → DoesTest m w test run_test → DoesBlock m b w body run_body → DoesBehind m w behind run_behind → DoesBlock m (suc (b + 0)) w (looping test body behind) (loop run_test run_body run_behind)
  does_looping {test} {body} {behind} {b} few d e k = record {
    long = λ to p t.
        let again = p + test.size + body.size in
        let stop = again + behind.size + 1 in
        two_long _ _ test.size (body.size + (behind.size + 1)) _ (d.long stop p t) (two_long _ _ body.size (behind.size + 1) _ (e.long (record { stop = stop; again = again }) (p + test.size) (t + test.slots)) (last_long _ _ behind.size (k.long to again (t + test.slots + body.slots))) refl) (omega arith);
    follows = λ to p t f s has le shows.
        let again = p + test.size + body.size in
        let stop = again + behind.size + 1 in
        let inner : Targets = record { stop = stop; again = again } in
        let h1 = has_back m.flow p test.size _ _ (d.long stop p t) has in
        let h2 = has_back m.flow (p + test.size) body.size _ _ (e.long inner (p + test.size) (t + test.slots)) h1 in
        let h3 = has_back m.flow again behind.size _ _ (k.long to again (t + test.slots + body.slots)) h2 in
        onward
        (loop_follows to t p (p + test.size) again (again + behind.size) stop b (suc (b + 0)) 0 m.cost _ _ _ (omega (arith, few))
        (λ f s shows go_in go_past Q in_follows past_follows.
        heavy 0 (suc (b + 0)) (suc (b + 0)) (omega arith) (d.follows stop p t f s (has_front m.flow p _ _ has) le shows) (λ holds s1 q g tested falls.
        by_test holds f s1 go_in go_past Q q g tested (λ shows1 kept1. in_follows s1 g shows1 kept1 falls) (λ shows1 kept1. past_follows s1 g shows1 kept1)))
        (λ f s shows. onward (e.follows inner (p + test.size) (t + test.slots) f s (has_front m.flow _ _ _ h1) (omega (arith, le)) shows) (λ flow s q g went. here (went_from went refl (omega arith) (kept_same f))))
        (λ f s shows. onward (k.follows to again (t + test.slots + body.slots) f s (has_front m.flow _ _ _ h2) (omega (arith, le)) shows) (λ vs s q g b.
        here (record { at = b.at; shows = b.shows; kept = kept_less b.kept (omega arith) })))
        (λ f out. jump_comes m (again + behind.size) p f out h3.0)
        f s shows)
        (λ flow s q g went. here (went_from went (omega arith) (omega arith) (kept_same f)));
  }

  pub does_repeating : {body : Block} {a : Code ℕ} {b : ℕ} {run_body : State → Run Flow} {run : State → Run Plain} → suc b ≤ m.cost → DoesBlock m b w body run_body → Does m w ℕ Plain a at_slot run → DoesBlock m (suc (b + 0)) w (repeating body a) (λ s. turn run_body s (λ s. loop (λ s. run s then_do λ v s. Going (truth v) s) run_body nothing s))
  unfolding nothing ◌then_do◌
  does_repeating {body} {a} {b} {run_body} {run} few d e = record {
    long = λ to p t.
        let again = p + body.size in
        let stop = again + a.size + 1 in
        two_long _ _ body.size (a.size + 1) _ (d.long (record { stop = stop; again = again }) p t) (last_long _ _ a.size (e.long again (t + body.slots))) (omega arith);
    follows = λ to p t f s has le shows.
        let again = p + body.size in
        let stop = again + a.size + 1 in
        let inner : Targets = record { stop = stop; again = again } in
        let h1 = has_back m.flow p body.size _ _ (d.long inner p t) has in
        let h2 = has_back m.flow again a.size _ _ (e.long again (t + body.slots)) h1 in
        let tests : Tests m w t again p stop 0 (suc (b + 0)) (λ s. run s then_do λ v s. Going (truth v) s) =
        λ f s shows go_in go_past Q in_follows past_follows.
        subst (λ r. Follows m 0 Flow again f s.left s.printed r Q) (then_truth (run s) go_in go_past)
        (heavy 0 0 0 (omega arith) (e.follows again (t + body.slots) f s (has_front m.flow _ _ _ h1) (omega (arith, le)) shows) (λ v s1 q g did falls.
        let did_kept = did.kept in
        let kept1 = kept_less did_kept (omega arith) in
        subst (λ q. Follows m 0 Flow q g s1.left s1.printed (if truth v then go_in s1 else go_past s1) Q) (sym did.at)
        (by_truth (truth v) (again + a.size) (a.gives (t + body.slots)) p stop g s1 go_in go_past Q (suc (b + 0)) (omega (arith, few)) h2.0 (ap truth did.gives) (in_follows s1 g did.shows kept1 falls) (past_follows s1 g did.shows kept1)))) in
        let bodies = λ (f : Frame) (s : State) (shows : Shows w s f). d.follows inner p t f s (has_front m.flow p _ _ has) le shows in
        let nexts = λ (f : Frame) (s : State) (shows : Shows w s f). here {m = m} {v = []} {s = s} {P = Behind w again t f} (record { at = refl; shows = shows; kept = kept_same f }) in
        let backs = λ (f : Frame) (out : List ℕ). comes_same {m = m} again f out in
        onward
        (turn_follows to t again p again again stop b 0 0 0 _ _ nothing (omega arith) tests bodies nexts backs _ f s (λ s g shows less. loop_follows to t again p again again stop b 0 0 0 _ _ nothing (omega arith) tests bodies nexts backs g s shows) shows)
        (λ flow s q g went. here (went_from went (omega arith) (omega arith) (kept_same f)));
  }
    where
      then_truth : (r : Run Plain) (go_in go_past : State → Run Flow) → (r then_do λ v s. (if truth v then go_in s else go_past s)) ≡ ((r then_do λ v s. Going (truth v) s) then_do λ holds s. (if holds then go_in s else go_past s))
      then_truth (Going v s) go_in go_past = refl
      then_truth (Over end out) go_in go_past = refl

      by_truth : (v : Bool) (p x first second : ℕ) (g : Frame) (s : State) (go_in go_past : State → Run Flow) (Q : Post Flow) (d : ℕ) → d ≤ 0 + m.cost → point_at m.flow p ≡ Some (branch_point x first second) → truth (g.slots x) ≡ v → Follows m d Flow first g s.left s.printed (go_in s) Q → Follows m 0 Flow second g s.left s.printed (go_past s) Q → Follows m 0 Flow p g s.left s.printed (if v then go_in s else go_past s) Q
      by_truth true p x first second g s go_in go_past Q d le at is h k = paying 0 d le (branch_comes m p x first second g s.printed true at is) h
      by_truth false p x first second g s go_in go_past Q d le at is h k = after (branch_comes m p x first second g s.printed false at is) k

-- the frame behind the points that set the variables of a turn
record Paired (m : World) (w : Scope) (s s' : State) (p q t walk : ℕ) (f : Frame) : Type 0 where
  frame : Frame
  comes : Comes m 0 p f s.printed q frame s'.printed
  shows : Shows w s' frame
  kept : Kept w t f frame
  walk' : frame.walks walk ≡ f.walks walk

left_pair : (key : Option Name) (x : Name) (k : PlainKey) (v : Plain) (s : State) → (with_pair key x k v s).left ≡ s.left
unfolding with_pair
left_pair None x k v s = refl
left_pair (Some key) x k v s = refl

pairs_long : (key : Option ℕ) (x walk p : ℕ) → length (pair_points key x walk p) ≡ pair_size key
pairs_long None x walk p = refl
pairs_long (Some key) x walk p = refl

module _ {m : World} {w : Scope} where
  pairs_follow : (key : Option Name) (x : Name) (k : PlainKey) (v : Plain) (rest : Pairs) (p t walk : ℕ) (f : Frame) (s : State) → free w ≤ walk → HasAll w.names (key_names key) → Has w.names x → HasAt m.flow p (pair_points (key_variable w key) (variable w x) walk p) → f.walks walk ≡ record { now = Some (k, v); rest = rest } → Shows w s f → Paired m w s (with_pair key x k v s) p (p + pair_size (key_variable w key)) t walk f
  unfolding with_pair own_names
  pairs_follow None x k v rest p t walk f s behind hk hx has is shows =
      let below = is_variable w x hx in
      record {
        frame = set_slot f (variable w x) v;
        comes = comes_then (value_comes m p (variable w x) walk (p + 1) k v f s.printed has.0 (ap (λ (y : Walk). y.now) is)) (comes_same (p + 1) (set_slot f (variable w x) v) s.printed);
        shows = shows_variable w s x v f hx shows;
        kept = kept_variable w t x v f hx;
        walk' = slot_walks f (variable w x) v walk (λ same. omega (arith, same, below, behind));
      }
  pairs_follow (Some key) x k v rest p t walk f s behind hk hx has is shows =
      let below = is_variable w x hx in
      let below_key = is_variable w key hk.0 in
      let c = value_of_key k in
      let f1 = set_slot f (variable w key) c in
      let held = slot_walks f (variable w key) c walk (λ same. omega (arith, same, below_key, behind)) in
      let shows1 = shows_variable w s key c f hk.0 shows in
      let kept1 : Kept w t f f1 = kept_variable w t key c f hk.0 in
      record {
        frame = set_slot f1 (variable w x) v;
        comes = comes_then (key_comes m p (variable w key) walk (p + 1) k v f s.printed has.0 (ap (λ (y : Walk). y.now) is)) (value_comes m (p + 1) (variable w x) walk (p + 2) k v f1 s.printed has.1.0 (ap (λ (y : Walk). y.now) (held ∙ is)));
        shows = shows_variable w (with_variable s key c) x v f1 hx shows1;
        kept = kept_join kept1 (kept_variable w t x v f1 hx) (omega arith) (omega arith);
        walk' = slot_walks f1 (variable w x) v walk (λ same. omega (arith, same, below, behind)) ∙ held;
      }

  -- a walk whose points stand here
  module _ (to : Targets) (t walk at end stop b : ℕ) (few : suc b ≤ m.cost) (key : Option Name) (x : Name) (body : State → Run Flow) (above : free w ≤ t) (ge : t ≤ walk) (hk : HasAll w.names (key_names key)) (hx : Has w.names x)
      (next_at : point_at m.flow at ≡ Some (next_point walk (at + 1) stop)) (pairs_at : HasAt m.flow (at + 1) (pair_points (key_variable w key) (variable w x) walk (at + 1))) (jump_at : point_at m.flow end ≡ Some (jump_point at))
      (bodies : (f : Frame) (s : State) → Shows w s f → Follows m b Flow (at + 1 + pair_size (key_variable w key)) f s.left s.printed (body s) (Went m w (record { stop = stop; again = at }) end (walk + 1) f)) where
    walk_follows : (ps : Pairs) (f : Frame) (s : State) → Shows w s f → (f.walks walk).rest ≡ ps → Follows m 0 Flow at f s.left s.printed (walk_pairs ps key x body s) (Went m w to stop t f)
    unfolding walk_pairs turn
    walk_follows empty f s shows is = after (done_comes m at walk (at + 1) stop f s.printed next_at is) (here (record { at = refl; shows = shows; kept = kept_same f }))
    walk_follows (pair k v ps) f s shows is =
        let one : Walk = record { now = Some (k, v); rest = ps } in
        let f1 = set_walk f walk one in
        let kept1 : Kept w t f f1 = record { slots' = λ y ge lt. walk_slots f walk one y; walks' = λ y low lt. walk_other f walk one y (λ same. omega (arith, same, lt, ge)) } in
        paying 0 (suc (b + 0)) (omega (arith, few)) (more_comes m at walk (at + 1) stop k v ps f s.printed next_at is)
        (unit s _ (λ n left.
        let s0 : State = record s { left = n } in
        let pr = pairs_follow key x k v ps (at + 1) t walk f1 s0 (omega (arith, above, ge)) hk hx pairs_at (walk_same f walk one) (λ y hy. walk_slots f walk one (variable w y) ∙ shows y hy) in
        let rest : (pr.frame.walks walk).rest ≡ ps = ap (λ (y : Walk). y.rest) (pr.walk' ∙ walk_same f walk one) in
        let on : (s : State) (g : Frame) → Shows w s g → Kept w (walk + 1) pr.frame g → Follows m 0 Flow at g s.left s.printed (walk_pairs ps key x body s) (Went m w to stop t pr.frame) = λ s g shows kept. onward (walk_follows ps g s shows (ap (λ (y : Walk). y.rest) (kept.walks' walk (omega (arith, above, ge)) (omega arith)) ∙ rest)) (λ flow s q h went. here (went_from went refl (omega arith) (kept_less kept (omega (arith, ge))))) in
        let s1 = with_pair key x k v s0 in
        subst (λ n. Follows m (b + 0) Flow (at + 1) f1 n s.printed (body s1 then_do λ flow s. turn_after flow s (walk_pairs ps key x body)) (Went m w to stop t f)) (left_pair key x k v s0)
        (after pr.comes
        (onward (heavy b 0 (b + 0) (omega arith) (bodies pr.frame s1 pr.shows) (λ flow s2 q g went falls.
        turned (record { stop = stop; again = at }) to t (walk + 1) stop 0 refl (omega (arith, ge)) _ pr.frame end flow s2 q g (λ g shows kept. after (jump_comes m end at g s2.printed jump_at) (on s2 g shows kept)) (λ g shows kept. on s2 g shows kept) went))
        (λ flow s q g went. here (went_from went refl (omega arith) (kept_join kept1 pr.kept (omega arith) (omega arith))))))))

  pub does_walking : {a : Code ℕ} {body : Block} {b : ℕ} {run : State → Run Plain} {run_body : State → Run Flow} (key : Option Name) (x : Name) → HasAll w.names (key_names key) → Has w.names x → suc b ≤ m.cost → Does m w ℕ Plain a at_slot run → DoesBlock m b w body run_body → DoesBlock m 0 w (walking a (key_variable w key) (variable w x) body) (λ s. run s then_do λ v s. walk_pairs (walked v) key x run_body s)
  does_walking {a} {body} {b} {run_body = run_body} key x hk hx few d e = record {
    long = λ to p t.
        let at = p + a.size + 1 in
        let inside = at + 1 + pair_size (key_variable w key) in
        let stop = inside + body.size + 1 in
        mid_long _ _ _ a.size (1 + (pair_size (key_variable w key) + (body.size + 1))) _ (d.long p t)
        (omega (arith, two_long (pair_points (key_variable w key) (variable w x) (t + a.slots) (at + 1)) (body.points (record { stop = stop; again = at }) inside (t + a.slots + 1) ++ jump_point at ∷ []) (pair_size (key_variable w key)) (body.size + 1) _ (pairs_long (key_variable w key) (variable w x) (t + a.slots) (at + 1)) (last_long _ _ body.size (e.long (record { stop = stop; again = at }) inside (t + a.slots + 1))) refl)) (omega arith);
    follows = λ to p t f s has le shows.
        let at = p + a.size + 1 in
        let inside = at + 1 + pair_size (key_variable w key) in
        let stop = inside + body.size + 1 in
        let walk = t + a.slots in
        let inner : Targets = record { stop = stop; again = at } in
        let h1 = has_back m.flow p a.size _ _ (d.long p t) has in
        let h2 = has_back m.flow (at + 1) (pair_size (key_variable w key)) _ _ (pairs_long (key_variable w key) (variable w x) walk (at + 1)) h1.1.1 in
        let h3 = has_back m.flow inside body.size _ _ (e.long inner inside (walk + 1)) h2 in
        bind_did _ (d.follows p t f s (has_front m.flow p _ _ has) le shows) (λ s1 g v gives shows1 kept1.
        let whole : Walk = record { now = None; rest = walked (g.slots (a.gives t)) } in
        let g1 = set_slot g walk (g.slots (a.gives t)) in
        let g2 = set_walk g1 walk whole in
        let kept2 : Kept w t g g2 = record { slots' = λ y ge lt. walk_slots g1 walk whole y ∙ slot_other g walk (g.slots (a.gives t)) y (λ same. omega (arith, same, lt)); walks' = λ y ge lt. walk_other g1 walk whole y (λ same. omega (arith, same, lt)) ∙ slot_walks g walk (g.slots (a.gives t)) y (λ same. omega (arith, same, lt)) } in
        let shows2 : Shows w s1 g2 = λ y hy. walk_slots g1 walk whole (variable w y) ∙ shows_temporary w s1 walk (g.slots (a.gives t)) g (omega (arith, le)) shows1 y hy in
        after (begin_comes m (p + a.size) walk (a.gives t) at g s1.printed h1.0)
        (onward (walk_follows to t walk at (inside + body.size) stop b few key x run_body le (omega arith) hk hx h1.1.0 (has_front m.flow (at + 1) _ _ h1.1.1) h3.0 (λ f s shows. e.follows inner inside (walk + 1) f s (has_front m.flow inside _ _ h2) (omega (arith, le)) shows) (walked v) g2 s1 shows2 (ap (λ (y : Walk). y.rest) (walk_same g1 walk whole) ∙ ap walked gives))
        (λ flow s q h went. here (went_from went (omega arith) (omega arith) (kept_join kept1 kept2 (omega arith) (omega arith))))));
  }
