-- Runs of points by all that is printed up to their end, and what a run of a script says of them.
use Rattle.std.proofs.Common.{◌≡◌, ℕ, zero, suc, ◌+◌, ◌≤◌, List, [], ◌++◌, Some, None, refl, sym, ap, ◌∙◌, subst, arith, append_assoc, append-nil, Bool, true, map, Result, Ok, Err, ◌⊎◌, inl, inr}
use Rattle.std.specs.Prelude.{if◌then◌else◌}
use Rattle.plain_values.specs.Plain.{Plain, PlainKey, Pairs, text, empty, pair}
use Rattle.plain_values.specs.Text.{text_of, truth}
use Rattle.plain_values.specs.Walks.{walked, value_of_key}
use Rattle.plain_values.specs.declared.fault.Fault.{Fault}
use Rattle.script_meaning.specs.Requests.{PlainRequest}
use Rattle.script_meaning.specs.Runs.{State, Run, Going, Over, ◌then_do◌, Ended, Faulted, Spent, Deep, result_of, unit_at}
use Rattle.flow_code.specs.Points.{PlainSource, set_point, call_point, print_point, echo_point, branch_point, jump_point, begin_point, next_point, key_point, value_point, return_point, quit_point, PlainFlow, PlainFlowFunction, point_at, function_at}
use Rattle.flow_code.specs.Runs.{Frame, Walk, set_slot, set_walk, fresh, arguments_in, source_value, FlowEnd, returned, exited, RunsFrom, set, call, call_exits, print, echo, branch, jump, each_begin, each_more, each_done, key_of, value_of, return, quit, quit_with}
pub use Rattle.flow_runs.proofs.Steps.{World, world, Run_from, ok_same}
use Rattle.flow_runs.proofs.Steps.{credit, Onto, Walks_on, Walks_off, first, pair_none, pair_same, member_same}

-- from this point on, where so much is printed, all that is printed up to the end is w, and the function ends so
pub record Ends (m : World) (p : ℕ) (f : Frame) (out w : List ℕ) (end : FlowEnd) : Type 0 where
  pub more : List ℕ
  pub all : w ≡ out ++ more
  pub runs : RunsFrom m.flow m.request m.room p f more end

-- a run from a place, which costs at most so much, where n was paid before
pub record Rest (m : World) (q : ℕ) (g : Frame) (n most : ℕ) : Type 0 where
  pub more : List ℕ
  pub end : FlowEnd
  pub rest : Run_from m q g more end
  pub paid : n + credit m.cost rest ≤ most

-- a place is reached from another one at a price: what ends behind it ends so from there, and each run from there comes to it
pub record Comes (m : World) (price p : ℕ) (f : Frame) (out : List ℕ) (q : ℕ) (g : Frame) (out' : List ℕ) : Type 0 where
  pub forth : (w : List ℕ) (end : FlowEnd) → Ends m q g out' w end → Ends m p f out w end
  pub back : (w : List ℕ) (end : FlowEnd) (run : Run_from m p f w end) → Rest m q g price (credit m.cost run)

pub comes_same : {m : World} (p : ℕ) (f : Frame) (out : List ℕ) → Comes m 0 p f out p f out
comes_same p f out = record { forth = λ w end e. e; back = λ w end run. record { more = w; end = end; rest = run; paid = omega arith } }

pub comes_then : {m : World} {j k p q s : ℕ} {f g h : Frame} {out out' out'' : List ℕ} → Comes m j p f out q g out' → Comes m k q g out' s h out'' → Comes m 0 p f out s h out''
comes_then {m} a b = record {
  forth = λ w end e. a.forth w end (b.forth w end e);
  back = λ w end run.
      let x = a.back w end run in
      let y = b.back x.more x.end x.rest in
      record { more = y.more; end = y.end; rest = y.rest; paid = omega (arith, x.paid, y.paid) };
}

onto_rest : {m : World} {q : ℕ} {g : Frame} {w : List ℕ} {end : FlowEnd} {n : ℕ} → Onto m q g w end n → Rest m q g m.cost n
onto_rest {m} {w = w} {end = end} {n = n} on = let paid = on.paid in record { more = w; end = end; rest = on.rest; paid = omega (arith, paid) }

pub set_comes : (m : World) (p x next : ℕ) (source : PlainSource) (f : Frame) (v : Plain) (out : List ℕ) → point_at m.flow p ≡ Some (set_point x source next) → source_value m.request f.slots source ≡ Ok v → Comes m m.cost p f out next (set_slot f x v) out
set_comes m p x next source f v out at is = record {
  forth = λ w end e. record { more = e.more; all = e.all; runs = set m.room p x next source f v e.more end at is e.runs };
  back = λ w end run.
      let a = first m run (set_point x source next) at in
      onto_rest (subst (λ v. Onto m next (set_slot f x v) w end (credit m.cost run)) (ok_same a.v v (source_value m.request f.slots source) a.is is) a.on);
}

pub print_comes : (m : World) (p next : ℕ) (bytes : List ℕ) (f : Frame) (out : List ℕ) → point_at m.flow p ≡ Some (print_point bytes next) → Comes m m.cost p f out next f (out ++ bytes)
print_comes m p next bytes f out at = record {
  forth = λ w end e. record { more = bytes ++ e.more; all = e.all ∙ append_assoc out bytes e.more; runs = print m.room p next bytes f e.more end at e.runs };
  back = λ w end run. onto_rest (first m run (print_point bytes next) at).on;
}

pub echo_comes : (m : World) (p x next : ℕ) (f : Frame) (out : List ℕ) → point_at m.flow p ≡ Some (echo_point x next) → Comes m m.cost p f out next f (out ++ text_of (f.slots x))
echo_comes m p x next f out at = record {
  forth = λ w end e. record { more = text_of (f.slots x) ++ e.more; all = e.all ∙ append_assoc out (text_of (f.slots x)) e.more; runs = echo m.room p x next f e.more end at e.runs };
  back = λ w end run. onto_rest (first m run (echo_point x next) at).on;
}

pub branch_comes : (m : World) (p x a b : ℕ) (f : Frame) (out : List ℕ) (v : Bool) → point_at m.flow p ≡ Some (branch_point x a b) → truth (f.slots x) ≡ v → Comes m m.cost p f out (if v then a else b) f out
branch_comes m p x a b f out v at is = record {
  forth = λ w end e. record { more = e.more; all = e.all; runs = branch m.room p x a b f e.more end at (subst (λ c. RunsFrom m.flow m.request m.room (if c then a else b) f e.more end) (sym is) e.runs) };
  back = λ w end run. onto_rest (subst (λ c. Onto m (if c then a else b) f w end (credit m.cost run)) is (first m run (branch_point x a b) at));
}

pub jump_comes : (m : World) (p next : ℕ) (f : Frame) (out : List ℕ) → point_at m.flow p ≡ Some (jump_point next) → Comes m m.cost p f out next f out
jump_comes m p next f out at = record {
  forth = λ w end e. record { more = e.more; all = e.all; runs = jump m.room p next f e.more end at e.runs };
  back = λ w end run. onto_rest (first m run (jump_point next) at);
}

pub begin_comes : (m : World) (p x from next : ℕ) (f : Frame) (out : List ℕ) → point_at m.flow p ≡ Some (begin_point x from next) → Comes m m.cost p f out next (set_walk (set_slot f x (f.slots from)) x (record { now = None; rest = walked (f.slots from) })) out
begin_comes m p x from next f out at = record {
  forth = λ w end e. record { more = e.more; all = e.all; runs = each_begin m.room p x from next f e.more end at e.runs };
  back = λ w end run. onto_rest (first m run (begin_point x from next) at);
}

walks_same : (k k' : PlainKey) (v v' : Plain) (rest rest' : Pairs) → (k' ≡ k) × (v' ≡ v) × (rest' ≡ rest) → (let one : Walk = record { now = Some (k', v'); rest = rest' } in let two : Walk = record { now = Some (k, v); rest = rest } in one ≡ two)
walks_same k k' v v' rest rest' e = let e0 = e.0 in let e1 = e.1 in let e2 = e.2 in cc

more_back : (m : World) (x more done : ℕ) (k : PlainKey) (v : Plain) (rest : Pairs) (f : Frame) (w : List ℕ) (end : FlowEnd) (n : ℕ) → (f.walks x).rest ≡ pair k v rest → Walks_on m x more f w end n ⊎ Walks_off m x done f w end n → Onto m more (set_walk f x (record { now = Some (k, v); rest = rest })) w end n
more_back m x more done k v rest f w end n is (inl a) = subst (λ y. Onto m more (set_walk f x y) w end n) (walks_same k a.k v a.v rest a.rest (pair_same a.k k a.v v a.rest rest a.is is)) a.on
more_back m x more done k v rest f w end n is (inr a) = absurd (pair_none k v rest is a.is)

done_back : (m : World) (x more done : ℕ) (f : Frame) (w : List ℕ) (end : FlowEnd) (n : ℕ) → (f.walks x).rest ≡ empty → Walks_on m x more f w end n ⊎ Walks_off m x done f w end n → Onto m done f w end n
done_back m x more done f w end n is (inl a) = absurd (pair_none a.k a.v a.rest a.is is)
done_back m x more done f w end n is (inr a) = a.on

pub more_comes : (m : World) (p x more done : ℕ) (k : PlainKey) (v : Plain) (rest : Pairs) (f : Frame) (out : List ℕ) → point_at m.flow p ≡ Some (next_point x more done) → (f.walks x).rest ≡ pair k v rest → Comes m m.cost p f out more (set_walk f x (record { now = Some (k, v); rest = rest })) out
more_comes m p x more done k v rest f out at is = record {
  forth = λ w end e. record { more = e.more; all = e.all; runs = each_more m.room p x more done k v rest f e.more end at is e.runs };
  back = λ w end run. onto_rest (more_back m x more done k v rest f w end _ is (first m run (next_point x more done) at));
}

pub done_comes : (m : World) (p x more done : ℕ) (f : Frame) (out : List ℕ) → point_at m.flow p ≡ Some (next_point x more done) → (f.walks x).rest ≡ empty → Comes m m.cost p f out done f out
done_comes m p x more done f out at is = record {
  forth = λ w end e. record { more = e.more; all = e.all; runs = each_done m.room p x more done f e.more end at is e.runs };
  back = λ w end run. onto_rest (done_back m x more done f w end _ is (first m run (next_point x more done) at));
}

pub key_comes : (m : World) (p x from next : ℕ) (k : PlainKey) (v : Plain) (f : Frame) (out : List ℕ) → point_at m.flow p ≡ Some (key_point x from next) → (f.walks from).now ≡ Some (k, v) → Comes m m.cost p f out next (set_slot f x (value_of_key k)) out
key_comes m p x from next k v f out at is = record {
  forth = λ w end e. record { more = e.more; all = e.all; runs = key_of m.room p x from next k v f e.more end at is e.runs };
  back = λ w end run.
      let a = first m run (key_point x from next) at in
      onto_rest (subst (λ k. Onto m next (set_slot f x (value_of_key k)) w end (credit m.cost run)) (member_same a.k k a.v v a.is is).0 a.on);
}

pub value_comes : (m : World) (p x from next : ℕ) (k : PlainKey) (v : Plain) (f : Frame) (out : List ℕ) → point_at m.flow p ≡ Some (value_point x from next) → (f.walks from).now ≡ Some (k, v) → Comes m m.cost p f out next (set_slot f x v) out
value_comes m p x from next k v f out at is = record {
  forth = λ w end e. record { more = e.more; all = e.all; runs = value_of m.room p x from next k v f e.more end at is e.runs };
  back = λ w end run.
      let a = first m run (value_point x from next) at in
      onto_rest (subst (λ v. Onto m next (set_slot f x v) w end (credit m.cost run)) (member_same a.k k a.v v a.is is).1 a.on);
}

pub return_ends : (m : World) (p x : ℕ) (f : Frame) (out : List ℕ) (v : Plain) → point_at m.flow p ≡ Some (return_point x) → f.slots x ≡ v → Ends m p f out out (returned v)
return_ends m p x f out v at is = record { more = []; all = sym (append-nil out); runs = subst (λ v. RunsFrom m.flow m.request m.room p f [] (returned v)) is (return m.room p x f at) }

pub quit_ends : (m : World) (p : ℕ) (f : Frame) (out : List ℕ) → point_at m.flow p ≡ Some (quit_point None) → Ends m p f out out exited
quit_ends m p f out at = record { more = []; all = sym (append-nil out); runs = quit m.room p f at }

pub quit_text_ends : (m : World) (p x : ℕ) (f : Frame) (out t : List ℕ) → point_at m.flow p ≡ Some (quit_point (Some x)) → f.slots x ≡ text t → Ends m p f out (out ++ t) exited
quit_text_ends m p x f out t at is = record { more = t; all = refl; runs = quit_with m.room p x f t at is }

-- no run from this place ends, where that is asked for
abbrev pub Stuck : World → ℕ → Frame → Type 0
Stuck m p f = m.strict ≡ true → (w : List ℕ) (end : FlowEnd) → Run_from m p f w end → ⊥

-- each run from this place costs so much, but for c
abbrev pub Costs : World → ℕ → ℕ → Frame → ℕ → Type 0
Costs m c p f n = (w : List ℕ) (end : FlowEnd) (run : Run_from m p f w end) → n ≤ credit m.cost run + c

pub set_stuck : (m : World) (p x next : ℕ) (source : PlainSource) (f : Frame) → point_at m.flow p ≡ Some (set_point x source next) → ((v : Plain) → source_value m.request f.slots source ≡ Ok v → ⊥) → Stuck m p f
set_stuck m p x next source f at h strict w end run = let a = first m run (set_point x source next) at in h a.v a.is

no_text : (t : List ℕ) (v : Plain) → ((t : List ℕ) → v ≡ text t → ⊥) → v ≡ text t → ⊥
no_text t v h e = h t e

pub quit_stuck : (m : World) (p x : ℕ) (f : Frame) (v : Plain) → point_at m.flow p ≡ Some (quit_point (Some x)) → f.slots x ≡ v → ((t : List ℕ) → v ≡ text t → ⊥) → Stuck m p f
quit_stuck m p x f v at is h strict w end run = let a = first m run (quit_point (Some x)) at in h w (sym is ∙ a.0)

pub comes_stuck : {m : World} {k p q : ℕ} {f g : Frame} {out out' : List ℕ} → Comes m k p f out q g out' → Stuck m q g → Stuck m p f
comes_stuck h stuck strict w end run = let a = h.back w end run in stuck strict a.more a.end a.rest

-- a call that returns, and that ends the run
pub call_returns : (flow : PlainFlow) (r : PlainRequest) (strict : Bool) (cost room p x n next : ℕ) (args : List ℕ) (g : PlainFlowFunction) (f : Frame) (v : Plain) (out out' : List ℕ) → point_at flow p ≡ Some (call_point x n args next) → function_at flow n ≡ Some g → Ends (world flow r strict cost room) g.entry_of (fresh (arguments_in g.params_of (map f.slots args))) out out' (returned v) → (w : List ℕ) (end : FlowEnd) → Ends (world flow r strict cost (suc room)) next (set_slot f x v) out' w end → Ends (world flow r strict cost (suc room)) p f out w end
call_returns flow r strict cost room p x n next args g f v out out' at is inner w end e =
    record {
      more = inner.more ++ e.more;
      all = e.all ∙ ap (λ o. o ++ e.more) inner.all ∙ append_assoc out inner.more e.more;
      runs = call room p x n next args g f v inner.more e.more end at is inner.runs e.runs;
    }

pub call_quits : (flow : PlainFlow) (r : PlainRequest) (strict : Bool) (cost room p x n next : ℕ) (args : List ℕ) (g : PlainFlowFunction) (f : Frame) (out out' : List ℕ) → point_at flow p ≡ Some (call_point x n args next) → function_at flow n ≡ Some g → Ends (world flow r strict cost room) g.entry_of (fresh (arguments_in g.params_of (map f.slots args))) out out' exited → Ends (world flow r strict cost (suc room)) p f out out' exited
call_quits flow r strict cost room p x n next args g f out out' at is inner =
    record { more = inner.more; all = inner.all; runs = call_exits room p x n next args g f inner.more at is inner.runs }

-- what holds where a run goes on: of its result and the state behind it, at a place
abbrev pub Post : Type 0 → Type 1
Post A = A → State → ℕ → Frame → Type 0

-- a place that is reached, where something holds, and n units are left at first: each unit that is taken but c is paid by points
pub record Lands (m : World) (c p : ℕ) (f : Frame) (n : ℕ) (out : List ℕ) (s : State) (P : ℕ → Frame → Type 0) : Type 0 where
  pub at : ℕ
  pub frame : Frame
  pub holds : P at frame
  pub falls : s.left ≤ n
  pub forth : (w : List ℕ) (end : FlowEnd) → Ends m at frame s.printed w end → Ends m p f out w end
  pub back : (w : List ℕ) (end : FlowEnd) (run : Run_from m p f w end) → Rest m at frame n (s.left + credit m.cost run + c)

abbrev pub Comes_to : World → ℕ → {A : Type 0} → ℕ → Frame → ℕ → List ℕ → Run A → Post A → Type 0
Comes_to m c p f n out (Going v s) P = Lands m c p f n out s (P v s)
Comes_to m c p f n out (Over Ended w) P = Ends m p f out w exited
Comes_to m c p f n out (Over (Faulted fault) w) P = Stuck m p f
Comes_to m c p f n out (Over Spent w) P = Costs m c p f n
Comes_to m c p f n out (Over Deep w) P = Stuck m p f

-- the points do what the run does, from a place on, where n units are left and so much is printed: they come to a place where it goes on,
-- end where it ended, have no end where it met a fault or opened too many calls, and are many where it was spent
pub record Follows (m : World) (c : ℕ) (A : Type 0) (p : ℕ) (f : Frame) (n : ℕ) (out : List ℕ) (r : Run A) (P : A → State → ℕ → Frame → Type 0) : Type 0 where
  pub is : Comes_to m c p f n out r P

abbrev IsFaulted : {A : Type 0} → Run A → Type 0
IsFaulted (Over (Faulted fault) w) = Unit {0}
IsFaulted r = ⊥

-- a run that ends as another one does, but for the kind of a fault and what was printed before it
abbrev pub EndsAs : {A : Type 0} → Run A → Run A → Type 0
EndsAs (Going v s) r = r ≡ Going v s
EndsAs (Over Ended w) r = r ≡ Over Ended w
EndsAs (Over (Faulted fault) w) r = IsFaulted r
EndsAs (Over Spent w) r = r ≡ Over Spent w
EndsAs (Over Deep w) r = r ≡ Over Deep w

-- a source has the value of a result, and none where there is a fault in its place
abbrev pub Meets : Result Plain Fault → Result Plain Fault → Type 0
Meets value (Ok v) = value ≡ Ok v
Meets value (Err fault) = (v : Plain) → value ≡ Ok v → ⊥

err_ok : (fault : Fault) (v : Plain) → Err fault ≡ Ok v → ⊥
err_ok fault v e = cc

pub meets_same : (value res : Result Plain Fault) → value ≡ res → Meets value res
meets_same value (Ok v) e = e
meets_same value (Err fault) e = λ v is. err_ok fault v (sym e ∙ is)

pub then_same : {A B : Type 0} (r : Run A) (go go' : A → State → Run B) → ((v : A) (s : State) → go v s ≡ go' v s) → (r then_do go) ≡ (r then_do go')
unfolding ◌then_do◌
then_same (Going v s) go go' h = h v s
then_same (Over end w) go go' h = refl

taken_at : {A : Type 0} (m : World) (c p : ℕ) (f : Frame) (n : ℕ) (out : List ℕ) (r : Run A) (P : Post A) → Comes_to m c p f n out r P → Comes_to m (suc c) p f (suc n) out r P
taken_at m c p f n out (Going v s) P l = record {
  at = l.at;
  frame = l.frame;
  holds = l.holds;
  falls = let a = l.falls in omega (arith, a);
  forth = l.forth;
  back = λ w end run. let a = l.back w end run in record { more = a.more; end = a.end; rest = a.rest; paid = omega (arith, a.paid) };
}
taken_at m c p f n out (Over Ended w) P l = l
taken_at m c p f n out (Over (Faulted fault) w) P l = l
taken_at m c p f n out (Over Spent w) P l = λ w end run. let a = l w end run in omega (arith, a)
taken_at m c p f n out (Over Deep w) P l = l

module _ {m : World} where
  after_at : {A : Type 0} (c d j p q : ℕ) (f g : Frame) (n : ℕ) (out out' : List ℕ) (r : Run A) (P : Post A) → d ≤ c + j → Comes m j p f out q g out' → Comes_to m d q g n out' r P → Comes_to m c p f n out r P
  after_at c d j p q f g n out out' (Going v s) P le h l = record {
    at = l.at;
    frame = l.frame;
    holds = l.holds;
    falls = l.falls;
    forth = λ w end e. h.forth w end (l.forth w end e);
    back = λ w end run.
        let a = h.back w end run in
        let b = l.back a.more a.end a.rest in
        record { more = b.more; end = b.end; rest = b.rest; paid = omega (arith, a.paid, b.paid, le) };
  }
  after_at c d j p q f g n out out' (Over Ended w) P le h l = h.forth w exited l
  after_at c d j p q f g n out out' (Over (Faulted fault) w) P le h l = comes_stuck h l
  after_at c d j p q f g n out out' (Over Spent w) P le h l = λ w end run. let a = h.back w end run in let b = l a.more a.end a.rest in omega (arith, a.paid, b, le)
  after_at c d j p q f g n out out' (Over Deep w) P le h l = comes_stuck h l

  -- some points, and what follows
  pub after : {A : Type 0} {c j p q : ℕ} {f g : Frame} {n : ℕ} {out out' : List ℕ} {r : Run A} {P : Post A} → Comes m j p f out q g out' → Follows m c A q g n out' r P → Follows m c A p f n out r P
  after {c = c} {j} {p} {q} {f} {g} {n} {out} {out'} {r} {P} h l = record { is = after_at c c j p q f g n out out' r P (omega arith) h l.is }

  -- some points, which pay for what follows
  pub paying : {A : Type 0} {j p q : ℕ} {f g : Frame} {n : ℕ} {out out' : List ℕ} {r : Run A} {P : Post A} (c d : ℕ) → d ≤ c + j → Comes m j p f out q g out' → Follows m d A q g n out' r P → Follows m c A p f n out r P
  paying {j = j} {p} {q} {f} {g} {n} {out} {out'} {r} {P} c d le h l = record { is = after_at c d j p q f g n out out' r P le h l.is }

  -- fewer units than might be taken
  pub lighter : {A : Type 0} {p : ℕ} {f : Frame} {n : ℕ} {out : List ℕ} {r : Run A} {P : Post A} (c d : ℕ) → c ≤ d → Follows m c A p f n out r P → Follows m d A p f n out r P
  lighter {p = p} {f} {n} {out} {r} {P} c d le h = record { is = after_at d c 0 p p f f n out out r P (omega (arith, le)) (comes_same p f out) h.is }

  -- nothing more
  pub here : {A : Type 0} {v : A} {s : State} {p : ℕ} {f : Frame} {P : Post A} → P v s p f → Follows m 0 A p f s.left s.printed (Going v s) P
  here {s = s} {p} {f} h = record { is = record { at = p; frame = f; holds = h; falls = omega arith; forth = λ w end e. e; back = λ w end run. record { more = w; end = end; rest = run; paid = omega arith } } }

  joined_at : {A B : Type 0} (c d k : ℕ) (p : ℕ) (f : Frame) (n : ℕ) (out : List ℕ) (v : A) (s : State) (r : Run B) (P : Post A) (Q : Post B) → c + d ≤ k → (l : Lands m c p f n out s (P v s)) → Comes_to m d l.at l.frame s.left s.printed r Q → Comes_to m k p f n out r Q
  joined_at c d k p f n out v s (Going u t) P Q le l h = record {
    at = h.at;
    frame = h.frame;
    holds = h.holds;
    falls = let a = h.falls in let b = l.falls in omega (arith, a, b);
    forth = λ w end e. l.forth w end (h.forth w end e);
    back = λ w end run.
        let a = l.back w end run in
        let b = h.back a.more a.end a.rest in
        record { more = b.more; end = b.end; rest = b.rest; paid = omega (arith, a.paid, b.paid, le) };
  }
  joined_at c d k p f n out v s (Over Ended w) P Q le l h = l.forth w exited h
  joined_at c d k p f n out v s (Over (Faulted fault) w) P Q le l h = λ strict w end run. let a = l.back w end run in h strict a.more a.end a.rest
  joined_at c d k p f n out v s (Over Spent w) P Q le l h = λ w end run. let a = l.back w end run in let b = h a.more a.end a.rest in omega (arith, a.paid, b, le)
  joined_at c d k p f n out v s (Over Deep w) P Q le l h = λ strict w end run. let a = l.back w end run in h strict a.more a.end a.rest

  -- points that only prepare, from which nothing of the run is seen
  pub land : {A B : Type 0} {c p : ℕ} {f : Frame} {n : ℕ} {out : List ℕ} {v : A} {s : State} {P : Post A} {r : Run B} {Q : Post B} → Follows m 0 A p f n out (Going v s) P → ((q : ℕ) (g : Frame) → P v s q g → Follows m c B q g s.left s.printed r Q) → Follows m c B p f n out r Q
  land {c = c} {p} {f} {n} {out} {v} {s} {P} {r} {Q} h next = record { is = joined_at 0 c c p f n out v s r P Q (omega arith) h.is (next h.is.at h.is.frame h.is.holds).is }

  -- the run ends
  pub over : {A : Type 0} {c p : ℕ} {f : Frame} {n : ℕ} {out w : List ℕ} {P : Post A} → Ends m p f out w exited → Follows m c A p f n out (Over Ended w) P
  over h = record { is = h }

  -- two runs, each with the units that are not paid by points
  pub heavy : {A B : Type 0} {p : ℕ} {f : Frame} {n : ℕ} {out : List ℕ} {r : Run A} {go : A → State → Run B} {P : Post A} {Q : Post B} (c d k : ℕ) → c + d ≤ k → Follows m c A p f n out r P → ((v : A) (s : State) (q : ℕ) (g : Frame) → P v s q g → s.left ≤ n → Follows m d B q g s.left s.printed (go v s) Q) → Follows m k B p f n out (r then_do go) Q
  unfolding ◌then_do◌
  heavy {A} {B} {p} {f} {n} {out} {r} {go} {P} {Q} c d k le h next = record { is = by_run r h.is }
    where
      by_run : (r : Run A) → Comes_to m c p f n out r P → Comes_to m k p f n out (r then_do go) Q
      by_run (Going v s) l = joined_at c d k p f n out v s (go v s) P Q le l (next v s l.at l.frame l.holds l.falls).is
      by_run (Over Ended w) l = l
      by_run (Over (Faulted fault) w) l = l
      by_run (Over Spent w) l = λ w end run. let a = l w end run in omega (arith, a, le)
      by_run (Over Deep w) l = l

  pub bind : {A B : Type 0} {c p : ℕ} {f : Frame} {n : ℕ} {out : List ℕ} {r : Run A} {go : A → State → Run B} {P : Post A} {Q : Post B} → Follows m 0 A p f n out r P → ((v : A) (s : State) (q : ℕ) (g : Frame) → P v s q g → Follows m c B q g s.left s.printed (go v s) Q) → Follows m c B p f n out (r then_do go) Q
  bind {c = c} h next = heavy 0 c c (omega arith) h (λ v s q g is le. next v s q g is)

  -- what holds where it goes on, with what is known of what it gives
  pub knows : {A : Type 0} {c p : ℕ} {f : Frame} {n : ℕ} {out : List ℕ} {P : Post A} (K : A → Type 0) (r : Run A) → ((v : A) (s : State) → r ≡ Going v s → K v) → Follows m c A p f n out r P → Follows m c A p f n out r (λ v s q g. P v s q g × K v)
  knows K (Going v s) k h = record { is = record { at = h.is.at; frame = h.is.frame; holds = (h.is.holds, k v s refl); falls = h.is.falls; forth = h.is.forth; back = h.is.back } }
  knows K (Over Ended w) k h = record { is = h.is }
  knows K (Over (Faulted fault) w) k h = record { is = h.is }
  knows K (Over Spent w) k h = record { is = h.is }
  knows K (Over Deep w) k h = record { is = h.is }

  -- what holds where it goes on, told otherwise, perhaps some points later
  pub onward : {A : Type 0} {c p : ℕ} {f : Frame} {n : ℕ} {out : List ℕ} {r : Run A} {P Q : Post A} → Follows m c A p f n out r P → ((v : A) (s : State) (q : ℕ) (g : Frame) → P v s q g → Follows m 0 A q g s.left s.printed (Going v s) Q) → Follows m c A p f n out r Q
  onward {A} {c} {p} {f} {n} {out} {r} {P} {Q} h next = record { is = by_run r h.is }
    where
      by_run : (r : Run A) → Comes_to m c p f n out r P → Comes_to m c p f n out r Q
      by_run (Going v s) l = joined_at c 0 c p f n out v s (Going v s) P Q (omega arith) l (next v s l.at l.frame l.holds).is
      by_run (Over Ended w) l = l
      by_run (Over (Faulted fault) w) l = l
      by_run (Over Spent w) l = l
      by_run (Over Deep w) l = l

  -- a unit is taken
  pub unit : {A : Type 0} {c p : ℕ} {f : Frame} {P : Post A} (s : State) (go : State → Run A) → ((n : ℕ) → s.left ≡ suc n → Follows m c A p f n s.printed (go (record s { left = n })) P) → Follows m (suc c) A p f s.left s.printed (unit_at s.left s go) P
  unfolding unit_at
  unit {A} {c} {p} {f} {P} s go h = record { is = by_left s.left refl }
    where
      by_left : (n : ℕ) → s.left ≡ n → Comes_to m (suc c) p f n s.printed (unit_at n s go) P
      by_left zero e = λ w end run. omega arith
      by_left (suc n) e = taken_at m c p f n s.printed (go (record s { left = n })) P (h n e).is

  -- a unit is taken that is paid by what follows
  pub unit_paid : {A : Type 0} {c p : ℕ} {f : Frame} {P : Post A} (s : State) (go : State → Run A) → ((n : ℕ) → s.left ≡ suc n → Follows m c A p f (suc n) s.printed (go (record s { left = n })) P) → Follows m c A p f s.left s.printed (unit_at s.left s go) P
  unfolding unit_at
  unit_paid {A} {c} {p} {f} {P} s go h = record { is = by_left s.left refl }
    where
      by_left : (n : ℕ) → s.left ≡ n → Comes_to m c p f n s.printed (unit_at n s go) P
      by_left zero e = λ w end run. omega arith
      by_left (suc n) e = (h n e).is

  -- a slot is set to a result, where there is one
  pub computes : {p x next : ℕ} {source : PlainSource} {f : Frame} {P : Post Plain} (res : Result Plain Fault) (s : State) → point_at m.flow p ≡ Some (set_point x source next) → Meets (source_value m.request f.slots source) res → ((v : Plain) → res ≡ Ok v → P v s next (set_slot f x v)) → Follows m 0 Plain p f s.left s.printed (result_of res s) P
  unfolding result_of
  computes {p} {x} {next} {source} {f} {P} (Ok v) s at is holds = after (set_comes m p x next source f v s.printed at is) (here (holds v refl))
  computes {p} {x} {next} {source} {f} (Err fault) s at is holds = record { is = set_stuck m p x next source f at is }

  faulted_as : {A : Type 0} {c p : ℕ} {f : Frame} {n : ℕ} {out : List ℕ} (P : Post A) (fault : Fault) (w : List ℕ) (r' : Run A) → IsFaulted r' → Follows m c A p f n out r' P → Follows m c A p f n out (Over (Faulted fault) w) P
  faulted_as P fault w (Over (Faulted other) w') e h = record { is = h.is }
  faulted_as P fault w (Over Ended w') e h = absurd e
  faulted_as P fault w (Over Spent w') e h = absurd e
  faulted_as P fault w (Over Deep w') e h = absurd e
  faulted_as P fault w (Going v s) e h = absurd e

  pub follows_as : {A : Type 0} {c p : ℕ} {f : Frame} {n : ℕ} {out : List ℕ} {P : Post A} (r r' : Run A) → EndsAs r r' → Follows m c A p f n out r' P → Follows m c A p f n out r P
  follows_as {A} {c} {p} {f} {n} {out} {P} (Going v s) r' e h = subst (λ r. Follows m c A p f n out r P) e h
  follows_as {A} {c} {p} {f} {n} {out} {P} (Over Ended w) r' e h = subst (λ r. Follows m c A p f n out r P) e h
  follows_as {P = P} (Over (Faulted fault) w) r' e h = faulted_as P fault w r' e h
  follows_as {A} {c} {p} {f} {n} {out} {P} (Over Spent w) r' e h = subst (λ r. Follows m c A p f n out r P) e h
  follows_as {A} {c} {p} {f} {n} {out} {P} (Over Deep w) r' e h = subst (λ r. Follows m c A p f n out r P) e h
