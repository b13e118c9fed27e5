-- A run of points goes on as its first point says, from each place there is one run at most, and each of its points has a cost.
use Rattle.std.proofs.Common.{◌≡◌, ℕ, suc, ◌+◌, List, [], ◌++◌, Option, Some, None, refl, sym, ap, ◌∙◌, subst, map, Result, Ok, ◌⊎◌, inl, inr, Bool, false}
use Rattle.std.specs.Prelude.{if◌then◌else◌}
use Rattle.plain_values.specs.Plain.{Plain, PlainKey, Pairs, text, empty, pair}
use Rattle.plain_values.specs.Text.{text_of, truth}
use Rattle.plain_values.specs.Walks.{walked, value_of_key}
use Rattle.plain_values.specs.declared.fault.Fault.{Fault}
use Rattle.script_meaning.specs.Requests.{PlainRequest}
use Rattle.flow_code.specs.Points.{PlainSource, PlainPoint, set_point, call_point, print_point, echo_point, branch_point, jump_point, begin_point, next_point, key_point, value_point, return_point, quit_point, PlainFlow, PlainFlowFunction, point_at, function_at}
use Rattle.flow_code.specs.Runs.{Frame, Walk, set_slot, set_walk, fresh, arguments_in, source_value, FlowEnd, returned, exited, RunsFrom, set, call, call_exits, print, echo, branch, jump, each_begin, each_more, each_done, key_of, value_of, return, quit, quit_with}

-- the points, the request, whether faults are asked for too, how much a point costs, and how many more calls may be open
pub record World : Type 0 where
  pub flow : PlainFlow
  pub request : PlainRequest
  pub strict : Bool
  pub cost : ℕ
  pub room : ℕ

abbrev pub world : PlainFlow → PlainRequest → Bool → ℕ → ℕ → World
world flow r strict cost room = record { flow = flow; request = r; strict = strict; cost = cost; room = room }

-- a run from a place
abbrev pub Run_from : World → ℕ → Frame → List ℕ → FlowEnd → Type 0
Run_from m p f w end = RunsFrom m.flow m.request m.room p f w end

-- what a run costs: so much for each of its points
abbrev pub credit : {flow : PlainFlow} {r : PlainRequest} {room p : ℕ} {f : Frame} {w : List ℕ} {end : FlowEnd} (cost : ℕ) → RunsFrom flow r room p f w end → ℕ
credit cost (set room p x next source f v w end at is rest) = cost + credit cost rest
credit cost (call room p x n next args g f v u w end at is inner rest) = cost + credit cost inner + credit cost rest
credit cost (call_exits room p x n next args g f w at is inner) = cost + credit cost inner
credit cost (print room p next bytes f w end at rest) = cost + credit cost rest
credit cost (echo room p x next f w end at rest) = cost + credit cost rest
credit cost (branch room p x a b f w end at rest) = cost + credit cost rest
credit cost (jump room p next f w end at rest) = cost + credit cost rest
credit cost (each_begin room p x from next f w end at rest) = cost + credit cost rest
credit cost (each_more room p x more done k v ps f w end at is rest) = cost + credit cost rest
credit cost (each_done room p x more done f w end at is rest) = cost + credit cost rest
credit cost (key_of room p x from next k v f w end at is rest) = cost + credit cost rest
credit cost (value_of room p x from next k v f w end at is rest) = cost + credit cost rest
credit cost (return room p x f at) = cost
credit cost (quit room p f at) = cost
credit cost (quit_with room p x f t at is) = cost

-- one point, and then a run from this place
pub record Onto (m : World) (q : ℕ) (g : Frame) (w : List ℕ) (end : FlowEnd) (n : ℕ) : Type 0 where
  pub rest : Run_from m q g w end
  pub paid : n ≡ m.cost + credit m.cost rest

pub record Sets_on (m : World) (x : ℕ) (source : PlainSource) (next : ℕ) (f : Frame) (w : List ℕ) (end : FlowEnd) (n : ℕ) : Type 0 where
  pub v : Plain
  pub is : source_value m.request f.slots source ≡ Ok v
  pub on : Onto m next (set_slot f x v) w end n

pub record Prints_on (m : World) (bytes : List ℕ) (next : ℕ) (f : Frame) (w : List ℕ) (end : FlowEnd) (n : ℕ) : Type 0 where
  pub more : List ℕ
  pub all : w ≡ bytes ++ more
  pub on : Onto m next f more end n

pub record Walks_on (m : World) (x more : ℕ) (f : Frame) (w : List ℕ) (end : FlowEnd) (n : ℕ) : Type 0 where
  pub k : PlainKey
  pub v : Plain
  pub rest : Pairs
  pub is : (f.walks x).rest ≡ pair k v rest
  pub on : Onto m more (set_walk f x (record { now = Some (k, v); rest = rest })) w end n

pub record Walks_off (m : World) (x done : ℕ) (f : Frame) (w : List ℕ) (end : FlowEnd) (n : ℕ) : Type 0 where
  pub is : (f.walks x).rest ≡ empty
  pub on : Onto m done f w end n

-- the slot is set to something of the member where a walk stands
pub record Takes_on (m : World) (x from next : ℕ) (take : PlainKey → Plain → Plain) (f : Frame) (w : List ℕ) (end : FlowEnd) (n : ℕ) : Type 0 where
  pub k : PlainKey
  pub v : Plain
  pub is : (f.walks from).now ≡ Some (k, v)
  pub on : Onto m next (set_slot f x (take k v)) w end n

abbrev pub the_key : PlainKey → Plain → Plain
the_key k v = value_of_key k

abbrev pub the_value : PlainKey → Plain → Plain
the_value k v = v

-- a run of a function from its entry
abbrev pub Inner : World → ℕ → PlainFlowFunction → List Plain → List ℕ → FlowEnd → Type 0
Inner m room g vs w end = RunsFrom m.flow m.request room g.entry_of (fresh (arguments_in g.params_of vs)) w end

pub record Comes_back (m : World) (room x next : ℕ) (g : PlainFlowFunction) (vs : List Plain) (f : Frame) (w : List ℕ) (end : FlowEnd) (n : ℕ) : Type 0 where
  pub v : Plain
  pub u : List ℕ
  pub more : List ℕ
  pub all : w ≡ u ++ more
  pub inner : Inner m room g vs u (returned v)
  pub rest : Run_from m next (set_slot f x v) more end
  pub paid : n ≡ m.cost + credit m.cost inner + credit m.cost rest

pub record Stays_in (m : World) (room : ℕ) (g : PlainFlowFunction) (vs : List Plain) (w : List ℕ) (end : FlowEnd) (n : ℕ) : Type 0 where
  pub inner : Inner m room g vs w exited
  pub ends : end ≡ exited
  pub paid : n ≡ m.cost + credit m.cost inner

pub record Calls_on (m : World) (x number : ℕ) (args : List ℕ) (next : ℕ) (f : Frame) (w : List ℕ) (end : FlowEnd) (n : ℕ) : Type 0 where
  pub room : ℕ
  pub is_room : m.room ≡ suc room
  pub g : PlainFlowFunction
  pub is : function_at m.flow number ≡ Some g
  pub went : Comes_back m room x next g (map f.slots args) f w end n ⊎ Stays_in m room g (map f.slots args) w end n

-- how a run goes on from a point
abbrev pub After : World → Frame → List ℕ → FlowEnd → ℕ → PlainPoint → Type 0
After m f w end n (set_point x source next) = Sets_on m x source next f w end n
After m f w end n (call_point x number args next) = Calls_on m x number args next f w end n
After m f w end n (print_point bytes next) = Prints_on m bytes next f w end n
After m f w end n (echo_point x next) = Prints_on m (text_of (f.slots x)) next f w end n
After m f w end n (branch_point x a b) = Onto m (if truth (f.slots x) then a else b) f w end n
After m f w end n (jump_point next) = Onto m next f w end n
After m f w end n (begin_point x from next) = Onto m next (set_walk (set_slot f x (f.slots from)) x (record { now = None; rest = walked (f.slots from) })) w end n
After m f w end n (next_point x more done) = Walks_on m x more f w end n ⊎ Walks_off m x done f w end n
After m f w end n (key_point x from next) = Takes_on m x from next the_key f w end n
After m f w end n (value_point x from next) = Takes_on m x from next the_value f w end n
After m f w end n (return_point x) = (w ≡ []) × (end ≡ returned (f.slots x))
After m f w end n (quit_point None) = (w ≡ []) × (end ≡ exited)
After m f w end n (quit_point (Some x)) = (f.slots x ≡ text w) × (end ≡ exited)

point_or : PlainPoint → Option PlainPoint → PlainPoint
point_or d None = d
point_or d (Some i) = i

same_point : {o : Option PlainPoint} (i j : PlainPoint) → o ≡ Some i → o ≡ Some j → i ≡ j
unfolding point_or
same_point i j a b = ap (point_or i) (sym a ∙ b)

inverse : {flow : PlainFlow} {r : PlainRequest} {room p : ℕ} {f : Frame} {w : List ℕ} {end : FlowEnd} (strict : Bool) (cost : ℕ) (run : RunsFrom flow r room p f w end) (i : PlainPoint) → point_at flow p ≡ Some i → After (world flow r strict cost room) f w end (credit cost run) i
inverse {flow} {r} strict cost (set room p x next source f v w end at is rest) i e =
    subst (After (world flow r strict cost room) f w end (cost + credit cost rest)) (same_point _ i at e) (record { v = v; is = is; on = record { rest = rest; paid = refl } })
inverse {flow} {r} strict cost (call room p x n next args g f v u w end at is inner rest) i e =
    subst (After (world flow r strict cost (suc room)) f (u ++ w) end (cost + credit cost inner + credit cost rest)) (same_point _ i at e)
    (record { room = room; is_room = refl; g = g; is = is; went = inl (record { v = v; u = u; more = w; all = refl; inner = inner; rest = rest; paid = refl }) })
inverse {flow} {r} strict cost (call_exits room p x n next args g f w at is inner) i e =
    subst (After (world flow r strict cost (suc room)) f w exited (cost + credit cost inner)) (same_point _ i at e)
    (record { room = room; is_room = refl; g = g; is = is; went = inr (record { inner = inner; ends = refl; paid = refl }) })
inverse {flow} {r} strict cost (print room p next bytes f w end at rest) i e =
    subst (After (world flow r strict cost room) f (bytes ++ w) end (cost + credit cost rest)) (same_point _ i at e) (record { more = w; all = refl; on = record { rest = rest; paid = refl } })
inverse {flow} {r} strict cost (echo room p x next f w end at rest) i e =
    subst (After (world flow r strict cost room) f (text_of (f.slots x) ++ w) end (cost + credit cost rest)) (same_point _ i at e) (record { more = w; all = refl; on = record { rest = rest; paid = refl } })
inverse {flow} {r} strict cost (branch room p x a b f w end at rest) i e =
    subst (After (world flow r strict cost room) f w end (cost + credit cost rest)) (same_point _ i at e) (record { rest = rest; paid = refl })
inverse {flow} {r} strict cost (jump room p next f w end at rest) i e =
    subst (After (world flow r strict cost room) f w end (cost + credit cost rest)) (same_point _ i at e) (record { rest = rest; paid = refl })
inverse {flow} {r} strict cost (each_begin room p x from next f w end at rest) i e =
    subst (After (world flow r strict cost room) f w end (cost + credit cost rest)) (same_point _ i at e) (record { rest = rest; paid = refl })
inverse {flow} {r} strict cost (each_more room p x more done k v ps f w end at is rest) i e =
    subst (After (world flow r strict cost room) f w end (cost + credit cost rest)) (same_point _ i at e) (inl (record { k = k; v = v; rest = ps; is = is; on = record { rest = rest; paid = refl } }))
inverse {flow} {r} strict cost (each_done room p x more done f w end at is rest) i e =
    subst (After (world flow r strict cost room) f w end (cost + credit cost rest)) (same_point _ i at e) (inr (record { is = is; on = record { rest = rest; paid = refl } }))
inverse {flow} {r} strict cost (key_of room p x from next k v f w end at is rest) i e =
    subst (After (world flow r strict cost room) f w end (cost + credit cost rest)) (same_point _ i at e) (record { k = k; v = v; is = is; on = record { rest = rest; paid = refl } })
inverse {flow} {r} strict cost (value_of room p x from next k v f w end at is rest) i e =
    subst (After (world flow r strict cost room) f w end (cost + credit cost rest)) (same_point _ i at e) (record { k = k; v = v; is = is; on = record { rest = rest; paid = refl } })
inverse {flow} {r} strict cost (return room p x f at) i e = subst (After (world flow r strict cost room) f [] (returned (f.slots x)) cost) (same_point _ i at e) (refl, refl)
inverse {flow} {r} strict cost (quit room p f at) i e = subst (After (world flow r strict cost room) f [] exited cost) (same_point _ i at e) (refl, refl)
inverse {flow} {r} strict cost (quit_with room p x f t at is) i e = subst (After (world flow r strict cost room) f t exited cost) (same_point _ i at e) (is, refl)

-- how a run goes on from its first point
pub first : (m : World) {p : ℕ} {f : Frame} {w : List ℕ} {end : FlowEnd} (run : Run_from m p f w end) (i : PlainPoint) → point_at m.flow p ≡ Some i → After m f w end (credit m.cost run) i
first m run i e = inverse m.strict m.cost run i e

pub ok_same : (u v : Plain) (r : Result Plain Fault) → r ≡ Ok u → r ≡ Ok v → u ≡ v
ok_same u v r e f = cc

pub suc_same : (m n : ℕ) → suc m ≡ suc n → m ≡ n
suc_same m n e = cc

pub some_same : (g h : PlainFlowFunction) (o : Option PlainFlowFunction) → o ≡ Some g → o ≡ Some h → g ≡ h
some_same g h o e f = cc

pub pair_same : {ps : Pairs} (k k' : PlainKey) (v v' : Plain) (rest rest' : Pairs) → ps ≡ pair k v rest → ps ≡ pair k' v' rest' → (k ≡ k') × (v ≡ v') × (rest ≡ rest')
pair_same k k' v v' rest rest' e f = let h : pair k v rest ≡ pair k' v' rest' = sym e ∙ f in (cc, cc, cc)

pub pair_none : {ps : Pairs} (k : PlainKey) (v : Plain) (rest : Pairs) → ps ≡ pair k v rest → ps ≡ empty → ⊥
pair_none k v rest e f = cc

abbrev member_key : PlainKey → Option (PlainKey × Plain) → PlainKey
member_key d None = d
member_key d (Some p) = p.0

abbrev member_value : Plain → Option (PlainKey × Plain) → Plain
member_value d None = d
member_value d (Some p) = p.1

pub member_same : {o : Option (PlainKey × Plain)} (k k' : PlainKey) (v v' : Plain) → o ≡ Some (k, v) → o ≡ Some (k', v') → (k ≡ k') × (v ≡ v')
member_same k k' v v' e f = (ap (member_key k) (sym e ∙ f), ap (member_value v) (sym e ∙ f))

text_same : (t u : List ℕ) (v : Plain) → v ≡ text t → v ≡ text u → t ≡ u
text_same t u v e f = cc

pub ends_apart : (v : Plain) → returned v ≡ exited → ⊥
ends_apart v e = cc

pub returned_same : (u v : Plain) → returned u ≡ returned v → u ≡ v
returned_same u v e = cc

-- two runs print the same and end alike
pub record Alike (w w' : List ℕ) (end end' : FlowEnd) : Type 0 where
  pub bytes : w ≡ w'
  pub ends : end ≡ end'

alike_behind : (bytes : List ℕ) {w w' more : List ℕ} {end end' : FlowEnd} → w' ≡ bytes ++ more → Alike w more end end' → Alike (bytes ++ w) w' end end'
alike_behind bytes e a = record { bytes = ap (λ l. bytes ++ l) a.bytes ∙ sym e; ends = a.ends }

moved_call : (m : World) (room room' : ℕ) (g g' : PlainFlowFunction) (vs : List Plain) (w : List ℕ) (end : FlowEnd) → room ≡ room' → g ≡ g' → Inner m room' g' vs w end → Inner m room g vs w end
moved_call m room room' g g' vs w end er eg h = subst (λ k. Inner m k g vs w end) (sym er) (subst (λ g. Inner m room' g vs w end) (sym eg) h)

-- from a place there is one run at most
pub one_run : {flow : PlainFlow} {r : PlainRequest} {room p : ℕ} {f : Frame} {w w' : List ℕ} {end end' : FlowEnd} → RunsFrom flow r room p f w end → RunsFrom flow r room p f w' end' → Alike w w' end end'
one_run {flow} {r} {w' = w'} {end' = end'} (set room p x next source f v w end at is rest) other =
    let a = inverse false 0 other (set_point x source next) at in
    one_run rest (subst (λ v. RunsFrom flow r room next (set_slot f x v) w' end') (sym (ok_same v a.v _ is a.is)) a.on.rest)
one_run {flow} {r} {w' = w'} {end' = end'} (call room p x n next args g f v u w end at is inner rest) other =
    let a = inverse false 0 other (call_point x n args next) at in
    by_end a.room a.g (suc_same room a.room a.is_room) (some_same g a.g _ is a.is) _ a.went (λ u v other. one_run inner other) (λ other. one_run inner other) (λ more other. one_run rest other)
  where
    by_end : (room' : ℕ) (g' : PlainFlowFunction) → room ≡ room' → g ≡ g' → (k : ℕ) → Comes_back (world flow r false 0 (suc room)) room' x next g' (map f.slots args) f w' end' k ⊎ Stays_in (world flow r false 0 (suc room)) room' g' (map f.slots args) w' end' k → ((u' : List ℕ) (v' : Plain) → Inner (world flow r false 0 (suc room)) room g (map f.slots args) u' (returned v') → Alike u u' (returned v) (returned v')) → (Inner (world flow r false 0 (suc room)) room g (map f.slots args) w' exited → Alike u w' (returned v) exited) → ((more : List ℕ) → RunsFrom flow r (suc room) next (set_slot f x v) more end' → Alike w more end end') → Alike (u ++ w) w' end end'
    by_end room' g' er eg k (inl a) same_inner same_exit same_rest =
        let b = same_inner _ _ (moved_call (world flow r false 0 (suc room)) room room' g g' (map f.slots args) a.u (returned a.v) er eg a.inner) in
        let c = same_rest _ (subst (λ v. RunsFrom flow r (suc room) next (set_slot f x v) a.more end') (sym (returned_same v a.v b.ends)) a.rest) in
        alike_behind u (a.all ∙ ap (λ u. u ++ a.more) (sym b.bytes)) c
    by_end room' g' er eg k (inr a) same_inner same_exit same_rest = absurd (ends_apart v (same_exit (moved_call (world flow r false 0 (suc room)) room room' g g' (map f.slots args) w' exited er eg a.inner)).ends)
one_run {flow} {r} {w' = w'} {end' = end'} (call_exits room p x n next args g f w at is inner) other =
    let a = inverse false 0 other (call_point x n args next) at in
    by_end a.room a.g (suc_same room a.room a.is_room) (some_same g a.g _ is a.is) _ a.went (λ u v other. one_run inner other) (λ other. one_run inner other)
  where
    by_end : (room' : ℕ) (g' : PlainFlowFunction) → room ≡ room' → g ≡ g' → (k : ℕ) → Comes_back (world flow r false 0 (suc room)) room' x next g' (map f.slots args) f w' end' k ⊎ Stays_in (world flow r false 0 (suc room)) room' g' (map f.slots args) w' end' k → ((u' : List ℕ) (v' : Plain) → Inner (world flow r false 0 (suc room)) room g (map f.slots args) u' (returned v') → Alike w u' exited (returned v')) → (Inner (world flow r false 0 (suc room)) room g (map f.slots args) w' exited → Alike w w' exited exited) → Alike w w' exited end'
    by_end room' g' er eg k (inl a) same_inner same_exit = absurd (ends_apart a.v (sym (same_inner _ _ (moved_call (world flow r false 0 (suc room)) room room' g g' (map f.slots args) a.u (returned a.v) er eg a.inner)).ends))
    by_end room' g' er eg k (inr a) same_inner same_exit = record { bytes = (same_exit (moved_call (world flow r false 0 (suc room)) room room' g g' (map f.slots args) w' exited er eg a.inner)).bytes; ends = sym a.ends }
one_run (print room p next bytes f w end at rest) other = let a = inverse false 0 other (print_point bytes next) at in alike_behind bytes a.all (one_run rest a.on.rest)
one_run (echo room p x next f w end at rest) other = let a = inverse false 0 other (echo_point x next) at in alike_behind (text_of (f.slots x)) a.all (one_run rest a.on.rest)
one_run (branch room p x a b f w end at rest) other = let c = inverse false 0 other (branch_point x a b) at in one_run rest c.rest
one_run (jump room p next f w end at rest) other = let a = inverse false 0 other (jump_point next) at in one_run rest a.rest
one_run (each_begin room p x from next f w end at rest) other = let a = inverse false 0 other (begin_point x from next) at in one_run rest a.rest
one_run {flow} {r} {w' = w'} {end' = end'} (each_more room p x more done k v ps f w end at is rest) other = by_walk (inverse false 0 other (next_point x more done) at) (λ other. one_run rest other)
  where
    by_walk : {n : ℕ} → Walks_on (world flow r false 0 room) x more f w' end' n ⊎ Walks_off (world flow r false 0 room) x done f w' end' n → (RunsFrom flow r room more (set_walk f x (record { now = Some (k, v); rest = ps })) w' end' → Alike w w' end end') → Alike w w' end end'
    by_walk (inl a) same =
        let e = pair_same k a.k v a.v ps a.rest is a.is in
        let one : Walk = record { now = Some (k, v); rest = ps } in
        let two : Walk = record { now = Some (a.k, a.v); rest = a.rest } in
        let alike : two ≡ one = cc in
        same (subst (λ y. RunsFrom flow r room more (set_walk f x y) w' end') alike a.on.rest)
    by_walk (inr a) same = absurd (pair_none k v ps is a.is)
one_run {flow} {r} {w' = w'} {end' = end'} (each_done room p x more done f w end at is rest) other = by_walk (inverse false 0 other (next_point x more done) at) (λ other. one_run rest other)
  where
    by_walk : {n : ℕ} → Walks_on (world flow r false 0 room) x more f w' end' n ⊎ Walks_off (world flow r false 0 room) x done f w' end' n → (RunsFrom flow r room done f w' end' → Alike w w' end end') → Alike w w' end end'
    by_walk (inl a) same = absurd (pair_none a.k a.v a.rest a.is is)
    by_walk (inr a) same = same a.on.rest
one_run {flow} {r} {w' = w'} {end' = end'} (key_of room p x from next k v f w end at is rest) other =
    let a = inverse false 0 other (key_point x from next) at in
    let e = member_same k a.k v a.v is a.is in
    one_run rest (subst (λ k. RunsFrom flow r room next (set_slot f x (value_of_key k)) w' end') (sym e.0) a.on.rest)
one_run {flow} {r} {w' = w'} {end' = end'} (value_of room p x from next k v f w end at is rest) other =
    let a = inverse false 0 other (value_point x from next) at in
    let e = member_same k a.k v a.v is a.is in
    one_run rest (subst (λ v. RunsFrom flow r room next (set_slot f x v) w' end') (sym e.1) a.on.rest)
one_run (return room p x f at) other = let a = inverse false 0 other (return_point x) at in record { bytes = sym a.0; ends = sym a.1 }
one_run (quit room p f at) other = let a = inverse false 0 other (quit_point None) at in record { bytes = sym a.0; ends = sym a.1 }
one_run {w' = w'} (quit_with room p x f t at is) other = let a = inverse false 0 other (quit_point (Some x)) at in record { bytes = text_same t w' _ is a.0; ends = sym a.1 }
