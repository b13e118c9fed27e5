-- The forms that evaluate a part in some cases alone, from their parts as they were emitted.
use Rattle.std.proofs.Common.{◌≡◌, ◌∙◌, ℕ, ◌+◌, Bool, true, false, List, [], ◌∷◌, ◌++◌, length, ap, arith}
use Rattle.std.specs.Prelude.{if◌then◌else◌}
use Rattle.flow_code.specs.declared.source.Work.TheVariants as work
use Rattle.flow_code.specs.Points.{PlainPoint, set_point, branch_point, jump_point, copy_source, truth_source}
use Rattle.flow_code.specs.Code.{Code}
use Rattle.flow_code.specs.Expressions.{first_there, chosen, chosen_itself}
use Rattle.flow_lowering.specs.Emits.{Progress, place, Puts, Emits, Reserves, Replaces, Closes}
use Rattle.flow_lowering.proofs.EmitLemmas.{puts_then, puts_same, puts_length, emits_place}
use Rattle.flow_lowering.proofs.BranchLemmas.{closes_behind, replaces_between}
use Rattle.flow_lowering.specs.Forms.{connected}

-- both forms, by where a branch leads
abbrev connecting : (ℕ → ℕ → ℕ → PlainPoint) → Code ℕ → Code ℕ → Code ℕ
connecting branch a b = record {
  size = a.size + 1 + b.size + 1 + 1;
  slots = a.slots + b.slots + 1;
  points = λ p t.
      let right = p + a.size + 1 in
      let left = right + b.size + 1 in
      let result = t + a.slots + b.slots in
      a.points p t ++ (branch (a.gives t) right left ∷ b.points right (t + a.slots)
      ++ (set_point result (truth_source work.AsTruth (b.gives (t + a.slots) ∷ [])) (left + 1)
      ∷ set_point result (truth_source work.AsTruth (a.gives t ∷ [])) (left + 1) ∷ []));
  gives = λ t. t + a.slots + b.slots;
}

abbrev truth_end : ℕ → ℕ → ℕ → ℕ → List PlainPoint
truth_end result left right end = set_point result (truth_source work.AsTruth (right ∷ [])) end ∷ set_point result (truth_source work.AsTruth (left ∷ [])) end ∷ []

emits_connecting : {s0 s1 s2 s3 s4 : Progress} {a b : Code ℕ} {x y z index behind : ℕ} (branch : ℕ → ℕ → ℕ → PlainPoint) → Emits s0 s1 a x → Reserves s1 s2 index behind → Emits s2 s3 b y
    → Closes s3 s4 index (branch x behind (place s3 + 1)) (truth_end s3.slot x y (place s3 + 2)) 1
    → z ≡ s3.slot → Emits s0 s4 (connecting branch a b) z
emits_connecting {s0} {s1} {s2} {s3} {s4} {a} {b} {x} {y} {z} {index} {behind} branch d r e c zs =
    let e1 : behind ≡ place s0 + a.size + 1 = omega (arith, r.behind_is, emits_place d) in
    let e2 : place s2 ≡ place s0 + a.size + 1 = omega (arith, emits_place d, puts_length r.puts, r.puts.first) in
    let e3 : s2.slot ≡ s0.slot + a.slots = omega (arith, r.puts.slot, d.puts.slot) in
    let e4 : place s3 + 1 ≡ place s0 + a.size + 1 + b.size + 1 = omega (arith, emits_place e, e2) in
    let e5 : place s3 + 2 ≡ place s0 + a.size + 1 + b.size + 1 + 1 = omega (arith, e4) in
    let e6 : s3.slot ≡ s0.slot + a.slots + b.slots = omega (arith, e.puts.slot, e3) in
    let ey : y ≡ b.gives (s0.slot + a.slots) = e.gives ∙ ap b.gives e3 in
    let at : index ≡ length s1.points + 0 = omega (arith, r.index_is) in
    let all : Puts s1 s4 (branch x behind (place s3 + 1) ∷ (b.points (place s2) s2.slot ++ truth_end s3.slot x y (place s3 + 2))) (0 + b.slots + 1) =
    closes_behind [] (jump_point 0) index (branch x behind (place s3 + 1)) r.puts at e c in
    let same : a.points (place s0) s0.slot ++ (branch x behind (place s3 + 1) ∷ (b.points (place s2) s2.slot ++ truth_end s3.slot x y (place s3 + 2)))
    ≡ (connecting branch a b).points (place s0) s0.slot =
    λ i. a.points (place s0) s0.slot ++ (branch (d.gives i) (e1 i) (e4 i) ∷ (b.points (e2 i) (e3 i) ++ truth_end (e6 i) (d.gives i) (ey i) (e5 i))) in
    record {
      puts = puts_same same (omega arith) (puts_then d.puts all);
      size = omega (arith, d.size, puts_length r.puts, e.size, c.size);
      gives = zs ∙ e6;
    }

-- `&&` and `||`
pub emits_connected : {s0 s1 s2 s3 s4 : Progress} {a b : Code ℕ} {x y z index behind : ℕ} (both : Bool) → Emits s0 s1 a x → Reserves s1 s2 index behind → Emits s2 s3 b y
    → Closes s3 s4 index (if both then branch_point x behind (place s3 + 1) else branch_point x (place s3 + 1) behind) (truth_end s3.slot x y (place s3 + 2)) 1
    → z ≡ s3.slot → Emits s0 s4 (connected both a b) z
emits_connected true d r e c zs = emits_connecting (λ x right left. branch_point x right left) d r e c zs
emits_connected false d r e c zs = emits_connecting (λ x right left. branch_point x left right) d r e c zs

-- `??`
pub emits_there : {s0 s1 s2 s3 s4 : Progress} {a b : Code ℕ} {x y z index : ℕ} → Emits s0 s1 a x
    → Puts s1 s2 (set_point s1.slot (truth_source work.NotNull (x ∷ [])) (place s1 + 1) ∷ branch_point s1.slot (place s1 + 2) (place s1 + 3) ∷ jump_point 0 ∷ []) 1
    → index ≡ length s1.points + 2 → Emits s2 s3 b y
    → Closes s3 s4 index (set_point s3.slot (copy_source x) (place s3 + 1)) (set_point s3.slot (copy_source y) (place s3 + 1) ∷ []) 1
    → z ≡ s3.slot → Emits s0 s4 (first_there a b) z
emits_there {s0} {s1} {s2} {s3} {s4} {a} {b} {x} {y} {z} {index} d r at e c zs =
    let e0 : place s1 + 1 ≡ place s0 + a.size + 1 = omega (arith, emits_place d) in
    let e1 : place s1 + 2 ≡ place s0 + a.size + 1 + 1 = omega (arith, e0) in
    let e1' : place s1 + 3 ≡ place s0 + a.size + 1 + 1 + 1 = omega (arith, e0) in
    let e2 : place s2 ≡ place s0 + a.size + 1 + 1 + 1 = omega (arith, emits_place d, puts_length r, r.first) in
    let t1 : s1.slot ≡ s0.slot + a.slots = d.puts.slot in
    let e3 : s2.slot ≡ s0.slot + a.slots + 1 = omega (arith, r.slot, t1) in
    let e4 : place s3 + 1 ≡ place s0 + a.size + 1 + 1 + 1 + b.size + 1 = omega (arith, emits_place e, e2) in
    let e6 : s3.slot ≡ s0.slot + a.slots + 1 + b.slots = omega (arith, e.puts.slot, e3) in
    let ey : y ≡ b.gives (s0.slot + a.slots + 1) = e.gives ∙ ap b.gives e3 in
    let front : List PlainPoint = set_point s1.slot (truth_source work.NotNull (x ∷ [])) (place s1 + 1) ∷ branch_point s1.slot (place s1 + 2) (place s1 + 3) ∷ [] in
    let all : Puts s1 s4 (front ++ set_point s3.slot (copy_source x) (place s3 + 1) ∷ (b.points (place s2) s2.slot ++ set_point s3.slot (copy_source y) (place s3 + 1) ∷ [])) (1 + b.slots + 1) =
    closes_behind front (jump_point 0) index (set_point s3.slot (copy_source x) (place s3 + 1)) r at e c in
    let same : a.points (place s0) s0.slot ++ (front ++ set_point s3.slot (copy_source x) (place s3 + 1) ∷ (b.points (place s2) s2.slot ++ set_point s3.slot (copy_source y) (place s3 + 1) ∷ []))
    ≡ (first_there a b).points (place s0) s0.slot =
    λ i. a.points (place s0) s0.slot ++ (set_point (t1 i) (truth_source work.NotNull (d.gives i ∷ [])) (e0 i) ∷ branch_point (t1 i) (e1 i) (e1' i)
    ∷ set_point (e6 i) (copy_source (d.gives i)) (e4 i) ∷ (b.points (e2 i) (e3 i) ++ set_point (e6 i) (copy_source (ey i)) (e4 i) ∷ [])) in
    record {
      puts = puts_same same (omega arith) (puts_then d.puts all);
      size = omega (arith, d.size, puts_length r, e.size, c.size);
      gives = zs ∙ e6;
    }

-- `?:` without a middle
pub emits_itself : {s0 s1 s2 s3 s4 : Progress} {a b : Code ℕ} {x y z index : ℕ} → Emits s0 s1 a x
    → Puts s1 s2 (branch_point x (place s1 + 1) (place s1 + 2) ∷ jump_point 0 ∷ []) 0
    → index ≡ length s1.points + 1 → Emits s2 s3 b y
    → Closes s3 s4 index (set_point s3.slot (copy_source x) (place s3 + 1)) (set_point s3.slot (copy_source y) (place s3 + 1) ∷ []) 1
    → z ≡ s3.slot → Emits s0 s4 (chosen_itself a b) z
emits_itself {s0} {s1} {s2} {s3} {s4} {a} {b} {x} {y} {z} {index} d r at e c zs =
    let e1 : place s1 + 1 ≡ place s0 + a.size + 1 = omega (arith, emits_place d) in
    let e1' : place s1 + 2 ≡ place s0 + a.size + 1 + 1 = omega (arith, e1) in
    let e2 : place s2 ≡ place s0 + a.size + 1 + 1 = omega (arith, emits_place d, puts_length r, r.first) in
    let e3 : s2.slot ≡ s0.slot + a.slots = omega (arith, r.slot, d.puts.slot) in
    let e4 : place s3 + 1 ≡ place s0 + a.size + 1 + 1 + b.size + 1 = omega (arith, emits_place e, e2) in
    let e6 : s3.slot ≡ s0.slot + a.slots + b.slots = omega (arith, e.puts.slot, e3) in
    let ey : y ≡ b.gives (s0.slot + a.slots) = e.gives ∙ ap b.gives e3 in
    let front : List PlainPoint = branch_point x (place s1 + 1) (place s1 + 2) ∷ [] in
    let all : Puts s1 s4 (front ++ set_point s3.slot (copy_source x) (place s3 + 1) ∷ (b.points (place s2) s2.slot ++ set_point s3.slot (copy_source y) (place s3 + 1) ∷ [])) (0 + b.slots + 1) =
    closes_behind front (jump_point 0) index (set_point s3.slot (copy_source x) (place s3 + 1)) r at e c in
    let same : a.points (place s0) s0.slot ++ (front ++ set_point s3.slot (copy_source x) (place s3 + 1) ∷ (b.points (place s2) s2.slot ++ set_point s3.slot (copy_source y) (place s3 + 1) ∷ []))
    ≡ (chosen_itself a b).points (place s0) s0.slot =
    λ i. a.points (place s0) s0.slot ++ (branch_point (d.gives i) (e1 i) (e1' i)
    ∷ set_point (e6 i) (copy_source (d.gives i)) (e4 i) ∷ (b.points (e2 i) (e3 i) ++ set_point (e6 i) (copy_source (ey i)) (e4 i) ∷ [])) in
    record {
      puts = puts_same same (omega arith) (puts_then d.puts all);
      size = omega (arith, d.size, puts_length r, e.size, c.size);
      gives = zs ∙ e6;
    }

-- `?:`
pub emits_chosen : {s0 s1 s2 s3 s4 s5 s6 s7 : Progress} {c a b : Code ℕ} {x y z w branch first copy second : ℕ} → Emits s0 s1 c x → Reserves s1 s2 branch first → Emits s2 s3 a y → Reserves s3 s4 copy second → Emits s4 s5 b z
    → Closes s5 s6 copy (set_point s5.slot (copy_source y) (place s5 + 1)) (set_point s5.slot (copy_source z) (place s5 + 1) ∷ []) 1
    → Replaces s6 s7 branch (branch_point x first second) → w ≡ s5.slot → Emits s0 s7 (chosen c a b) w
emits_chosen {s0} {s1} {s2} {s3} {s4} {s5} {s6} {s7} {c} {a} {b} {x} {y} {z} {w} {branch} {first} {copy} {second} d r1 e r2 f k q ws =
    let e1 : first ≡ place s0 + c.size + 1 = omega (arith, r1.behind_is, emits_place d) in
    let p2 : place s2 ≡ place s0 + c.size + 1 = omega (arith, emits_place d, puts_length r1.puts, r1.puts.first) in
    let t2 : s2.slot ≡ s0.slot + c.slots = omega (arith, r1.puts.slot, d.puts.slot) in
    let e2 : second ≡ place s0 + c.size + 1 + a.size + 1 = omega (arith, r2.behind_is, emits_place e, p2) in
    let p4 : place s4 ≡ place s0 + c.size + 1 + a.size + 1 = omega (arith, emits_place e, p2, puts_length r2.puts, r2.puts.first) in
    let t4 : s4.slot ≡ s0.slot + c.slots + a.slots = omega (arith, r2.puts.slot, e.puts.slot, t2) in
    let e3 : place s5 + 1 ≡ place s0 + c.size + 1 + a.size + 1 + b.size + 1 = omega (arith, emits_place f, p4) in
    let t5 : s5.slot ≡ s0.slot + c.slots + a.slots + b.slots = omega (arith, f.puts.slot, t4) in
    let ey : y ≡ a.gives (s0.slot + c.slots) = e.gives ∙ ap a.gives t2 in
    let ez : z ≡ b.gives (s0.slot + c.slots + a.slots) = f.gives ∙ ap b.gives t4 in
    let at2 : copy ≡ length s3.points + 0 = omega (arith, r2.index_is) in
    let at1 : branch ≡ length s1.points + 0 = omega (arith, r1.index_is) in
    let inner : List PlainPoint = set_point s5.slot (copy_source y) (place s5 + 1) ∷ (b.points (place s4) s4.slot ++ set_point s5.slot (copy_source z) (place s5 + 1) ∷ []) in
    let last : Puts s3 s6 inner (0 + b.slots + 1) = closes_behind [] (jump_point 0) copy (set_point s5.slot (copy_source y) (place s5 + 1)) r2.puts at2 f k in
    let mid : Puts s1 s6 (jump_point 0 ∷ (a.points (place s2) s2.slot ++ inner)) (0 + (a.slots + (0 + b.slots + 1))) = puts_then r1.puts (puts_then e.puts last) in
    let all : Puts s1 s7 (branch_point x first second ∷ (a.points (place s2) s2.slot ++ inner)) (0 + (a.slots + (0 + b.slots + 1))) =
    replaces_between [] (a.points (place s2) s2.slot ++ inner) (jump_point 0) branch (branch_point x first second) mid at1 q in
    let same : c.points (place s0) s0.slot ++ (branch_point x first second ∷ (a.points (place s2) s2.slot ++ inner)) ≡ (chosen c a b).points (place s0) s0.slot =
    λ i. c.points (place s0) s0.slot ++ (branch_point (d.gives i) (e1 i) (e2 i) ∷ (a.points (p2 i) (t2 i)
    ++ (set_point (t5 i) (copy_source (ey i)) (e3 i) ∷ (b.points (p4 i) (t4 i) ++ set_point (t5 i) (copy_source (ez i)) (e3 i) ∷ [])))) in
    record {
      puts = puts_same same (omega arith) (puts_then d.puts all);
      size = omega (arith, d.size, puts_length r1.puts, e.size, puts_length r2.puts, f.size, k.size, q.size);
      gives = ws ∙ t5;
    }
