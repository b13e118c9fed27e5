-- Assignments, from their parts as they were emitted.
use Rattle.std.proofs.Common.{◌≡◌, ◌∙◌, ℕ, ◌+◌, ◌≤◌, ◌<◌, Bool, true, false, List, [], ◌∷◌, ◌++◌, length, map, drop, get_or, refl, sym, ap, subst, arith, append_assoc}
use Rattle.std.specs.Prelude.{Option}
use Rattle.php_syntax.specs.declared.tree.UpdateSign.{UpdateSign}
use Rattle.flow_code.specs.declared.source.Work.TheVariants as work
use Rattle.flow_code.specs.declared.source.KeyRef.{KeyRef}
use Rattle.flow_code.specs.Points.{PlainPoint, PlainKeyRef, set_point, branch_point, jump_point, copy_source, truth_source, number_source}
use Rattle.flow_code.specs.View.{plain_maybe_key}
use Rattle.flow_code.specs.Code.{Code}
use Rattle.flow_code.specs.Expressions.{stored, written, member_at, members_along, old_value, updating, updated_at, filled, step_work, step_code}
use Rattle.flow_lowering.specs.Emits.{Progress, place, Puts, Sets, Emits, Closes}
use Rattle.flow_lowering.proofs.EmitLemmas.{puts_then, puts_same, puts_length, puts_none, puts_place, emits_place}
use Rattle.flow_lowering.proofs.BranchLemmas.{closes_behind}
use Rattle.flow_lowering.proofs.RowLemmas.{drop_here, drop_past}

-- `=`, behind the path and the value
pub emits_stored : {s0 s1 s2 : Progress} {a : Code (List (Option PlainKeyRef) × ℕ)} {keys : List (Option PlainKeyRef)} {v : ℕ} (x : ℕ) → Emits s0 s1 a (keys, v)
    → Puts s1 s2 (set_point x (written x keys v) (place s1 + 1) ∷ []) 0 → Emits s0 s2 (stored x a) v
emits_stored {s0} {s1} {s2} {a} {keys} {v} x d p =
    let e1 : place s1 + 1 ≡ place s0 + a.size + 1 = omega (arith, emits_place d) in
    let ks : keys ≡ (a.gives s0.slot).0 = ap (λ (g : List (Option PlainKeyRef) × ℕ). g.0) d.gives in
    let vs : v ≡ (a.gives s0.slot).1 = ap (λ (g : List (Option PlainKeyRef) × ℕ). g.1) d.gives in
    let same : a.points (place s0) s0.slot ++ set_point x (written x keys v) (place s1 + 1) ∷ [] ≡ (stored x a).points (place s0) s0.slot =
    λ i. a.points (place s0) s0.slot ++ set_point x (written x (ks i) (vs i)) (e1 i) ∷ [] in
    record {
      puts = puts_same same (omega arith) (puts_then d.puts p);
      size = omega (arith, d.size, puts_length p);
      gives = vs;
    }

-- the members along a path: one more of them before the others
pub members_step : {s0 s1 s2 : Progress} {n member : ℕ} (base : ℕ) (key : Option PlainKeyRef) (keys : List (Option PlainKeyRef)) → Sets s0 s1 (member_at base key) (place s0 + 1) member
    → Puts s1 s2 (members_along member keys (place s1) s1.slot) n → Puts s0 s2 (members_along base (key ∷ keys) (place s0) s0.slot) (1 + n)
unfolding members_along
members_step {s0} {s1} {s2} {n} {member} base key keys d p =
    let e1 : place s1 ≡ place s0 + 1 = puts_place d.puts in
    let e2 : s1.slot ≡ s0.slot + 1 = d.puts.slot in
    let same : set_point s0.slot (member_at base key) (place s0 + 1) ∷ members_along member keys (place s1) s1.slot
    ≡ set_point s0.slot (member_at base key) (place s0 + 1) ∷ members_along s0.slot keys (place s0 + 1) (s0.slot + 1) =
    λ i. set_point s0.slot (member_at base key) (place s0 + 1) ∷ members_along (d.slot i) keys (e1 i) (e2 i) in
    puts_same same refl (puts_then d.puts p)

pub members_none : (s : Progress) (base : ℕ) → Puts s s (members_along base [] (place s) s.slot) 0
unfolding members_along
members_none s base = puts_none s

members_length : (base : ℕ) (keys : List (Option PlainKeyRef)) (p t : ℕ) → length (members_along base keys p t) ≡ length keys
unfolding members_along
members_length base [] p t = refl
members_length base (k ∷ ks) p t = omega (arith, members_length t ks (p + 1) (t + 1))

-- what is left of the path puts the rest, so one step further it does
pub members_further : {s0 s1 start : Progress} (member next first : ℕ) (path : List (Option KeyRef)) (i : ℕ) (key : Option KeyRef) → i < length path → key ≡ get_or path i key
    → Sets s0 s1 (member_at member (plain_maybe_key key)) (place s0 + 1) next
    → ((s : Progress) → Puts s0 s (members_along member (map plain_maybe_key (drop i path)) (place s0) s0.slot) (length (drop i path))
    → Puts start s (members_along first (map plain_maybe_key path) (place start) start.slot) (length path))
    → (s : Progress) → Puts s1 s (members_along next (map plain_maybe_key (drop (i + 1) path)) (place s1) s1.slot) (length (drop (i + 1) path))
    → Puts start s (members_along first (map plain_maybe_key path) (place start) start.slot) (length path)
members_further {s0} {s1} {start} member next first path i key lt is d go s p =
    let here : key ∷ drop (i + 1) path ≡ drop i path = sym (drop_here path i key lt is) in
    let one : Puts s0 s (members_along member (map plain_maybe_key (key ∷ drop (i + 1) path)) (place s0) s0.slot) (length (key ∷ drop (i + 1) path)) =
    puts_same refl (omega arith) (members_step member (plain_maybe_key key) (map plain_maybe_key (drop (i + 1) path)) d p) in
    go s (subst (λ (l : List (Option KeyRef)). Puts s0 s (members_along member (map plain_maybe_key l) (place s0) s0.slot) (length l)) here one)

pub members_end : {s0 start : Progress} (member first : ℕ) (path : List (Option KeyRef)) (i : ℕ) → length path ≤ i
    → ((s : Progress) → Puts s0 s (members_along member (map plain_maybe_key (drop i path)) (place s0) s0.slot) (length (drop i path))
    → Puts start s (members_along first (map plain_maybe_key path) (place start) start.slot) (length path))
    → Puts start s0 (members_along first (map plain_maybe_key path) (place start) start.slot) (length path)
members_end {s0} {start} member first path i le go =
    go s0 (subst (λ (l : List (Option KeyRef)). Puts s0 s0 (members_along member (map plain_maybe_key l) (place s0) s0.slot) (length l)) (sym (drop_past path i le)) (members_none s0 member))

-- the old value at the end of a path
pub emits_old : {s0 s1 s2 s3 : Progress} {path : Code (List (Option PlainKeyRef))} {ks : List (Option PlainKeyRef)} {base n m : ℕ} (x keys : ℕ) → Emits s0 s1 path ks
    → Sets s1 s2 (copy_source x) (place s1 + 1) base → Puts s2 s3 (members_along base ks (place s2) s2.slot) n → n ≡ keys → length ks ≡ keys → m + 1 ≡ s3.slot
    → Emits s0 s3 (old_value x keys path) (ks, m)
emits_old {s0} {s1} {s2} {s3} {path} {ks} {base} {n} {m} x keys d b p nk lk ms =
    let e1 : place s1 + 1 ≡ place s0 + path.size + 1 = omega (arith, emits_place d) in
    let e2 : place s2 ≡ place s0 + path.size + 1 = omega (arith, emits_place d, puts_place b.puts) in
    let t1 : s1.slot ≡ s0.slot + path.slots = d.puts.slot in
    let t2 : s2.slot ≡ s0.slot + path.slots + 1 = omega (arith, b.puts.slot, t1) in
    let bs : base ≡ s0.slot + path.slots = b.slot ∙ t1 in
    let last : m ≡ s0.slot + path.slots + keys = omega (arith, ms, p.slot, t2, nk) in
    let same : path.points (place s0) s0.slot ++ (set_point s1.slot (copy_source x) (place s1 + 1) ∷ members_along base ks (place s2) s2.slot)
    ≡ (old_value x keys path).points (place s0) s0.slot =
    λ i. path.points (place s0) s0.slot ++ (set_point (t1 i) (copy_source x) (e1 i) ∷ members_along (bs i) (d.gives i) (e2 i) (t2 i)) in
    record {
      puts = puts_same same (omega (arith, nk)) (puts_then d.puts (puts_then b.puts p));
      size = omega (arith, d.size, puts_length b.puts, puts_length p, members_length base ks (place s2) s2.slot, lk);
      gives = λ i. (d.gives i, last i);
    }

-- `.=` and its like, behind the old value and the right side
pub emits_updated : {s0 s1 s2 s3 : Progress} {a : Code (List (Option PlainKeyRef) × ℕ)} {b : Code ℕ} {keys : List (Option PlainKeyRef)} {old right z : ℕ} (sign : UpdateSign) (x : ℕ)
    → Emits s0 s1 a (keys, old) → Emits s1 s2 b right
    → Puts s2 s3 (set_point s2.slot (updating sign old right) (place s2 + 1) ∷ set_point x (written x keys s2.slot) (place s2 + 2) ∷ []) 1
    → z ≡ s2.slot → Emits s0 s3 (updated_at sign x a b) z
emits_updated {s0} {s1} {s2} {s3} {a} {b} {keys} {old} {right} {z} sign x d e p zs =
    let at : place s1 ≡ place s0 + a.size = emits_place d in
    let t1 : s1.slot ≡ s0.slot + a.slots = d.puts.slot in
    let e1 : place s2 + 1 ≡ place s0 + (a.size + b.size) + 1 = omega (arith, emits_place e, at) in
    let e2 : place s2 + 2 ≡ place s0 + (a.size + b.size + 1) + 1 = omega (arith, e1) in
    let t2 : s2.slot ≡ s0.slot + (a.slots + b.slots) = omega (arith, e.puts.slot, t1) in
    let ks : keys ≡ (a.gives s0.slot).0 = ap (λ (g : List (Option PlainKeyRef) × ℕ). g.0) d.gives in
    let os : old ≡ (a.gives s0.slot).1 = ap (λ (g : List (Option PlainKeyRef) × ℕ). g.1) d.gives in
    let rs : right ≡ b.gives (s0.slot + a.slots) = e.gives ∙ ap b.gives t1 in
    let both : Puts s0 s2 (a.points (place s0) s0.slot ++ b.points (place s1) s1.slot) (a.slots + b.slots) = puts_then d.puts e.puts in
    let all : Puts s0 s3 ((a.points (place s0) s0.slot ++ b.points (place s1) s1.slot) ++ (set_point s2.slot (updating sign old right) (place s2 + 1) ∷ []) ++ (set_point x (written x keys s2.slot) (place s2 + 2) ∷ [])) (a.slots + b.slots + 1) =
    puts_same (sym (append_assoc (a.points (place s0) s0.slot ++ b.points (place s1) s1.slot) (set_point s2.slot (updating sign old right) (place s2 + 1) ∷ []) (set_point x (written x keys s2.slot) (place s2 + 2) ∷ []))) refl (puts_then both p) in
    let same : (a.points (place s0) s0.slot ++ b.points (place s1) s1.slot) ++ (set_point s2.slot (updating sign old right) (place s2 + 1) ∷ []) ++ (set_point x (written x keys s2.slot) (place s2 + 2) ∷ [])
    ≡ (updated_at sign x a b).points (place s0) s0.slot =
    λ i. (a.points (place s0) s0.slot ++ b.points (at i) (t1 i)) ++ (set_point (t2 i) (updating sign (os i) (rs i)) (e1 i) ∷ []) ++ (set_point x (written x (ks i) (t2 i)) (e2 i) ∷ []) in
    record {
      puts = puts_same same (omega arith) all;
      size = omega (arith, d.size, e.size, puts_length p);
      gives = zs ∙ t2;
    }

-- `??=`
pub emits_filled : {s0 s1 s2 s3 s4 : Progress} {a : Code (List (Option PlainKeyRef) × ℕ)} {b : Code ℕ} {keys : List (Option PlainKeyRef)} {old y z index : ℕ} (x : ℕ) → Emits s0 s1 a (keys, old)
    → Puts s1 s2 (set_point s1.slot (truth_source work.NotNull (old ∷ [])) (place s1 + 1) ∷ branch_point s1.slot (place s1 + 2) (place s1 + 3) ∷ jump_point 0 ∷ []) 1
    → index ≡ length s1.points + 2 → Emits s2 s3 b y
    → Closes s3 s4 index (set_point s3.slot (copy_source old) (place s3 + 2)) (set_point s3.slot (copy_source y) (place s3 + 1) ∷ set_point x (written x keys s3.slot) (place s3 + 2) ∷ []) 1
    → z ≡ s3.slot → Emits s0 s4 (filled x a b) z
emits_filled {s0} {s1} {s2} {s3} {s4} {a} {b} {keys} {old} {y} {z} {index} x d r at e c zs =
    let e0 : place s1 + 1 ≡ place s0 + a.size + 1 = omega (arith, emits_place d) in
    let e1 : place s1 + 2 ≡ place s0 + a.size + 1 + 1 = omega (arith, e0) in
    let e1' : place s1 + 3 ≡ place s0 + a.size + 1 + 1 + 1 = omega (arith, e0) in
    let e2 : place s2 ≡ place s0 + a.size + 1 + 1 + 1 = omega (arith, emits_place d, puts_length r, r.first) in
    let t1 : s1.slot ≡ s0.slot + a.slots = d.puts.slot in
    let e3 : s2.slot ≡ s0.slot + a.slots + 1 = omega (arith, r.slot, t1) in
    let e4 : place s3 + 1 ≡ place s0 + a.size + 1 + 1 + 1 + b.size + 1 = omega (arith, emits_place e, e2) in
    let e5 : place s3 + 2 ≡ place s0 + a.size + 1 + 1 + 1 + b.size + 1 + 1 = omega (arith, e4) in
    let e6 : s3.slot ≡ s0.slot + a.slots + 1 + b.slots = omega (arith, e.puts.slot, e3) in
    let ks : keys ≡ (a.gives s0.slot).0 = ap (λ (g : List (Option PlainKeyRef) × ℕ). g.0) d.gives in
    let os : old ≡ (a.gives s0.slot).1 = ap (λ (g : List (Option PlainKeyRef) × ℕ). g.1) d.gives in
    let ey : y ≡ b.gives (s0.slot + a.slots + 1) = e.gives ∙ ap b.gives e3 in
    let front : List PlainPoint = set_point s1.slot (truth_source work.NotNull (old ∷ [])) (place s1 + 1) ∷ branch_point s1.slot (place s1 + 2) (place s1 + 3) ∷ [] in
    let last : List PlainPoint = set_point s3.slot (copy_source y) (place s3 + 1) ∷ set_point x (written x keys s3.slot) (place s3 + 2) ∷ [] in
    let all : Puts s1 s4 (front ++ set_point s3.slot (copy_source old) (place s3 + 2) ∷ (b.points (place s2) s2.slot ++ last)) (1 + b.slots + 1) =
    closes_behind front (jump_point 0) index (set_point s3.slot (copy_source old) (place s3 + 2)) r at e c in
    let same : a.points (place s0) s0.slot ++ (front ++ set_point s3.slot (copy_source old) (place s3 + 2) ∷ (b.points (place s2) s2.slot ++ last))
    ≡ (filled x a b).points (place s0) s0.slot =
    λ i. a.points (place s0) s0.slot ++ (set_point (t1 i) (truth_source work.NotNull (os i ∷ [])) (e0 i) ∷ branch_point (t1 i) (e1 i) (e1' i)
    ∷ set_point (e6 i) (copy_source (os i)) (e5 i) ∷ (b.points (e2 i) (e3 i) ++ (set_point (e6 i) (copy_source (ey i)) (e4 i) ∷ set_point x (written x (ks i) (e6 i)) (e5 i) ∷ []))) in
    record {
      puts = puts_same same (omega arith) (puts_then d.puts all);
      size = omega (arith, d.size, puts_length r, e.size, c.size);
      gives = zs ∙ e6;
    }

-- `++$x`
pub step_before : {s0 s1 s2 : Progress} {y : ℕ} (x : ℕ) (up : Bool) → Puts s0 s1 (set_point x (number_source (step_work up) (x ∷ [])) (place s0 + 1) ∷ []) 0
    → Sets s1 s2 (copy_source x) (place s1 + 1) y → Emits s0 s2 (step_code x up true) y
unfolding step_code
step_before {s0} {s1} {s2} {y} x up p d =
    let e1 : place s1 + 1 ≡ place s0 + 2 = omega (arith, puts_place p) in
    let t1 : s1.slot ≡ s0.slot = omega (arith, p.slot) in
    let first : PlainPoint = set_point x (number_source (step_work up) (x ∷ [])) (place s0 + 1) in
    let same : first ∷ set_point s1.slot (copy_source x) (place s1 + 1) ∷ [] ≡ first ∷ set_point s0.slot (copy_source x) (place s0 + 2) ∷ [] =
    λ i. first ∷ set_point (t1 i) (copy_source x) (e1 i) ∷ [] in
    record { puts = puts_same same refl (puts_then p d.puts); size = omega (arith, puts_length p, puts_length d.puts); gives = d.slot ∙ t1 }

-- `$x++`
pub step_after : {s0 s1 s2 : Progress} {y : ℕ} (x : ℕ) (up : Bool) → Sets s0 s1 (copy_source x) (place s0 + 1) y
    → Puts s1 s2 (set_point x (number_source (step_work up) (x ∷ [])) (place s1 + 1) ∷ []) 0 → Emits s0 s2 (step_code x up false) y
unfolding step_code
step_after {s0} {s1} {s2} {y} x up d p =
    let e1 : place s1 + 1 ≡ place s0 + 2 = omega (arith, puts_place d.puts) in
    let first : PlainPoint = set_point s0.slot (copy_source x) (place s0 + 1) in
    let same : first ∷ set_point x (number_source (step_work up) (x ∷ [])) (place s1 + 1) ∷ [] ≡ first ∷ set_point x (number_source (step_work up) (x ∷ [])) (place s0 + 2) ∷ [] =
    λ i. first ∷ set_point x (number_source (step_work up) (x ∷ [])) (e1 i) ∷ [] in
    record { puts = puts_same same refl (puts_then d.puts p); size = omega (arith, puts_length p, puts_length d.puts); gives = d.slot }
