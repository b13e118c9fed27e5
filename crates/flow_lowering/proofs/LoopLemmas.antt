-- Loops, from their parts as they were put.
use Rattle.std.proofs.Common.{◌≡◌, ◌∙◌, ℕ, ◌+◌, List, [], ◌∷◌, ◌++◌, length, map, refl, sym, ap, arith, append_assoc}
use Rattle.std.specs.Prelude.{Option, Some, None}
use Rattle.std.proofs.lemmas.List.{length-map}
use Rattle.text_base.specs.declared.numbers.Slot.{Slot}
use Rattle.flow_code.specs.Points.{PlainPoint, branch_point, jump_point, begin_point, next_point}
use Rattle.flow_code.specs.Code.{Code, Targets, Block}
use Rattle.flow_code.specs.Statements.{Test, test_of, looping, repeating, walking, pair_points, pair_size}
use Rattle.flow_lowering.specs.declared.builder.Reserved.{Reserved}
use Rattle.flow_lowering.specs.Emits.{Progress, place, Puts, Emits, Reserves}
use Rattle.flow_lowering.proofs.EmitLemmas.{puts_none, puts_then, puts_same, puts_length, emits_place}
use Rattle.flow_lowering.proofs.BranchLemmas.{replaces_between}
use Rattle.flow_lowering.specs.declared.exits.Exit.{Exit}
use Rattle.flow_lowering.specs.declared.heads.Head.{Head}
use Rattle.flow_lowering.specs.declared.heads.Head.TheVariants as head
use Rattle.flow_lowering.specs.Drafts.{unaimed, replaced, filled, closed}
use Rattle.flow_lowering.specs.Blocks.{Lays, Drafts, Opens, EndsLoop, walk_head}
use Rattle.flow_lowering.proofs.ReplaceLemmas.{replaces_plain}
use Rattle.flow_lowering.proofs.FillLemmas.{filled_first, filled_slot, filled_length, closed_length, filled_draft}

-- heads

pub opens_test : {s0 s1 s2 : Progress} {a : Code ℕ} (x : Slot) (point : Reserved) → Emits s0 s1 a x.0 → Reserves s1 s2 point.index point.behind.0 → Opens s0 s2 (head.Test x point) (test_of a)
opens_test {s0} {s1} {s2} {a} x point d r = record {
  first = r.puts.first ∙ d.puts.first;
  size = omega (arith, d.size, puts_length r.puts);
  slot = omega (arith, d.puts.slot, r.puts.slot);
  closes = λ later rest n stop p. (
      let z : PlainPoint = jump_point 0 in
      let branches : PlainPoint = branch_point x.0 point.behind.0 stop in
      let at : point.index ≡ length s1.points + 0 = omega (arith, r.index_is) in
      let behind : point.behind.0 ≡ place s0 + a.size + 1 = omega (arith, r.behind_is, emits_place d) in
      let known : Puts s1 (replaced later point.index branches) (branches ∷ rest) (0 + n) =
      replaces_between [] rest z point.index branches (puts_then r.puts p) at (replaces_plain later point.index branches) in
      let same : a.points (place s0) s0.slot ++ (branches ∷ rest) ≡ (a.points (place s0) s0.slot ++ branch_point (a.gives s0.slot) (place s0 + a.size + 1) stop ∷ []) ++ rest =
      (λ i. a.points (place s0) s0.slot ++ (branch_point (d.gives i) (behind i) stop ∷ rest)) ∙ sym (append_assoc (a.points (place s0) s0.slot) (branch_point (a.gives s0.slot) (place s0 + a.size + 1) stop ∷ []) rest) in
      puts_same same (omega arith) (puts_then d.puts known));
}

pub opens_always : (s : Progress) → Opens s s head.Always (record { size = 0; slots = 0; points = λ stop p t. [] })
opens_always s = record {
  first = refl;
  size = omega arith;
  slot = omega arith;
  closes = λ later rest n stop p. puts_same refl (omega arith) p;
}

pub puts_pair : {s0 s1 s2 : Progress} {a : PlainPoint} (c : ℕ → PlainPoint) → Puts s0 s1 (a ∷ []) 0 → Puts s1 s2 (c (place s1 + 1) ∷ []) 0 → Puts s0 s2 (a ∷ c (place s0 + 2) ∷ []) 0
puts_pair {s0} {s1} {s2} {a} c p q =
    let at : place s1 + 1 ≡ place s0 + 2 = omega (arith, puts_length p, p.first) in
    puts_same (λ i. a ∷ c (at i) ∷ []) refl (puts_then p q)

pair_length : (key : Option ℕ) (x walk p : ℕ) → length (pair_points key x walk p) ≡ pair_size key
pair_length None x walk p = refl
pair_length (Some key) x walk p = refl

pub opens_walk : {s0 s1 s2 s3 s4 : Progress} {a : Code ℕ} {x : ℕ} (key : Option ℕ) (v : ℕ) (walk : Slot) (point : Reserved)
    → Emits s0 s1 a x → Puts s1 s2 (begin_point s1.slot x (place s1 + 1) ∷ []) 1 → walk.0 ≡ s1.slot → Reserves s2 s3 point.index point.behind.0
    → Puts s3 s4 (pair_points key v walk.0 (place s3)) 0 → Opens s0 s4 (head.Walk walk point) (walk_head a key v)
opens_walk {s0} {s1} {s2} {s3} {s4} {a} {x} key v walk point d b w r k =
    let z : PlainPoint = jump_point 0 in
    let at : place s1 + 1 ≡ place s0 + a.size + 1 = omega (arith, emits_place d) in
    let t1 : s1.slot ≡ s0.slot + a.slots = d.puts.slot in
    let tw : walk.0 ≡ s0.slot + a.slots = w ∙ t1 in
    let p2 : place s2 ≡ place s0 + a.size + 1 = omega (arith, puts_length b, b.first, emits_place d) in
    let p3 : place s3 ≡ place s0 + a.size + 1 + 1 = omega (arith, puts_length r.puts, r.puts.first, p2) in
    let behind : point.behind.0 ≡ place s0 + a.size + 1 + 1 = omega (arith, r.behind_is, p2) in
    let begins : PlainPoint = begin_point s1.slot x (place s1 + 1) in
    let pair : List PlainPoint = pair_points key v walk.0 (place s3) in
    record {
      first = k.first ∙ r.puts.first ∙ b.first ∙ d.puts.first;
      size = omega (arith, d.size, puts_length b, puts_length r.puts, puts_length k, pair_length key v walk.0 (place s3));
      slot = omega (arith, d.puts.slot, b.slot, r.puts.slot, k.slot);
      closes = λ later rest n stop p. (
          let steps : PlainPoint = next_point walk.0 point.behind.0 stop in
          let there : point.index ≡ length s1.points + length (begins ∷ []) = omega (arith, r.index_is, puts_length b) in
          let all : Puts s1 later ((begins ∷ []) ++ z ∷ (pair ++ rest)) (1 + (0 + (0 + n))) = puts_then b (puts_then r.puts (puts_then k p)) in
          let known : Puts s1 (replaced later point.index steps) ((begins ∷ []) ++ steps ∷ (pair ++ rest)) (1 + (0 + (0 + n))) =
          replaces_between (begins ∷ []) (pair ++ rest) z point.index steps all there (replaces_plain later point.index steps) in
          let same : a.points (place s0) s0.slot ++ (begins ∷ steps ∷ (pair ++ rest)) ≡ (walk_head a key v).points stop (place s0) s0.slot ++ rest =
          (λ i. a.points (place s0) s0.slot ++ (begin_point (t1 i) (d.gives i) (at i) ∷ next_point (tw i) (behind i) stop ∷ (pair_points key v (tw i) (p3 i) ++ rest)))
          ∙ sym (append_assoc (a.points (place s0) s0.slot) (begin_point (s0.slot + a.slots) (a.gives s0.slot) (place s0 + a.size + 1) ∷ next_point (s0.slot + a.slots) (place s0 + a.size + 1 + 1) stop
          ∷ pair_points key v (s0.slot + a.slots) (place s0 + a.size + 1 + 1)) rest) in
          puts_same same (omega arith) (puts_then d.puts known));
    }

-- a body whose exits are replaced, with what stands behind it
pub filled_body : {s0 s1 s2 : Progress} {exits : List Exit} {body : Block} {rest : List PlainPoint} {n : ℕ} (to : Targets) → Drafts s0 s1 [] exits body → Puts s1 s2 rest n
    → Puts s0 (filled to exits s2) (body.points to (place s0) s0.slot ++ rest) (body.slots + n)
filled_body {s0} {s1} {s2} {exits} {body} {rest} {n} to d p =
    let all : Puts s0 s2 (map unaimed d.draft ++ rest) (body.slots + n) = puts_then d.puts p in
    record {
      first = filled_first to exits s2 ∙ all.first;
      points_are = ap (λ (l : List Exit). (filled to l s2).points) d.exits ∙ filled_draft to d.draft s0.points rest s2 all.points_are ∙ ap (λ (l : List PlainPoint). s0.points ++ (l ++ rest)) (d.aims to);
      slot = filled_slot to exits s2 ∙ all.slot;
    }

body_end : {s0 s1 : Progress} {e0 e1 : List Exit} {a : Block} → Drafts s0 s1 e0 e1 a → length s1.points ≡ length s0.points + a.size
body_end d = omega (arith, puts_length d.puts, length-map d.draft unaimed, d.size)

-- a head, a body, what stands behind each turn, and the last point
looped : {s0 s1 s2 s3 s4 : Progress} {test : Test} {body : Block} {exits : List Exit} {h : Head} {last : PlainPoint} {again n : ℕ} {there : List PlainPoint}
    → Opens s0 s1 h test → Drafts s1 s2 [] exits body → Puts s2 s3 there n → EndsLoop s3 s4 h last again exits
    → Puts s0 s4 (test.points (place s3 + 1) (place s0) s0.slot ++ (body.points (record { stop = place s3 + 1; again = again }) (place s1) s1.slot ++ (there ++ last ∷ []))) (test.slots + (body.slots + (n + 0)))
looped {s0} {s1} {s2} {s3} {s4} {test} {body} {exits} {h} {last} {again} {n} {there} o d b e =
    let to : Targets = record { stop = place s3 + 1; again = again } in
    let tail : Puts s2 e.later (there ++ last ∷ []) (n + 0) = puts_then b e.puts in
    let turns : Puts s1 (filled to exits e.later) (body.points to (place s1) s1.slot ++ (there ++ last ∷ [])) (body.slots + (n + 0)) = filled_body to d tail in
    let all : Puts s0 (closed (place s3 + 1) h (filled to exits e.later)) (test.points (place s3 + 1) (place s0) s0.slot ++ (body.points to (place s1) s1.slot ++ (there ++ last ∷ []))) (test.slots + (body.slots + (n + 0))) =
    o.closes (filled to exits e.later) (body.points to (place s1) s1.slot ++ (there ++ last ∷ [])) (body.slots + (n + 0)) (place s3 + 1) turns in
    record {
      first = ap (λ (s : Progress). s.first) e.is ∙ all.first;
      points_are = ap (λ (s : Progress). s.points) e.is ∙ all.points_are;
      slot = ap (λ (s : Progress). s.slot) e.is ∙ all.slot;
    }

ends_length : {s0 s1 : Progress} {h : Head} {last : PlainPoint} {again : ℕ} {exits : List Exit} → EndsLoop s0 s1 h last again exits → length s1.points ≡ length s0.points + 1
ends_length {s0} {s1} {h} {last} {again} {exits} e =
    let to : Targets = record { stop = place s0 + 1; again = again } in
    omega (arith, ap (λ (s : Progress). length s.points) e.is, closed_length (place s0 + 1) h (filled to exits e.later), filled_length to exits e.later, puts_length e.puts)

-- `while` and `for`
pub lays_looping : {s0 s1 s2 s3 s4 : Progress} {test : Test} {body behind : Block} {exits : List Exit} {h : Head} {back again : ℕ}
    → Opens s0 s1 h test → Drafts s1 s2 [] exits body → Lays s2 s3 behind → EndsLoop s3 s4 h (jump_point back) again exits → back ≡ place s0 → again ≡ place s2 → Lays s0 s4 (looping test body behind)
lays_looping {s0} {s1} {s2} {s3} {s4} {test} {body} {behind} {exits} {h} {back} {again} o d b e back_is again_is =
    let p1 : place s1 ≡ place s0 + test.size = omega (arith, o.size, o.first) in
    let p2 : place s2 ≡ place s0 + test.size + body.size = omega (arith, body_end d, d.puts.first, p1) in
    let p3 : place s3 + 1 ≡ place s0 + test.size + body.size + behind.size + 1 = omega (arith, b.size, b.puts.first, p2) in
    let t1 : s1.slot ≡ s0.slot + test.slots = o.slot in
    let t2 : s2.slot ≡ s0.slot + test.slots + body.slots = omega (arith, d.puts.slot, t1) in
    let ea : again ≡ place s0 + test.size + body.size = again_is ∙ p2 in
    let all : Puts s0 s4 (test.points (place s3 + 1) (place s0) s0.slot ++ (body.points (record { stop = place s3 + 1; again = again }) (place s1) s1.slot ++ (b.there ++ jump_point back ∷ []))) (test.slots + (body.slots + (behind.slots + 0))) =
    looped o d b.puts e in
    record {
      there = test.points (place s3 + 1) (place s0) s0.slot ++ (body.points (record { stop = place s3 + 1; again = again }) (place s1) s1.slot ++ (b.there ++ jump_point back ∷ []));
      puts = puts_same refl (omega arith) all;
      size = omega (arith, o.size, body_end d, b.size, ends_length e);
      same = λ to. (let after : b.there ≡ behind.points to (place s0 + test.size + body.size) (s0.slot + test.slots + body.slots) = b.same to ∙ (λ i. behind.points to (p2 i) (t2 i)) in
          λ i. test.points (p3 i) (place s0) s0.slot ++ (body.points (record { stop = p3 i; again = ea i }) (p1 i) (t1 i) ++ (after i ++ jump_point (back_is i) ∷ [])));
    }

-- `do`
pub lays_repeating : {s0 s1 s2 s3 : Progress} {body : Block} {test : Code ℕ} {exits : List Exit} {x back stop again : ℕ}
    → Drafts s0 s1 [] exits body → Emits s1 s2 test x → EndsLoop s2 s3 head.Always (branch_point x back stop) again exits → back ≡ place s0 → stop ≡ place s2 + 1 → again ≡ place s1
    → Lays s0 s3 (repeating body test)
lays_repeating {s0} {s1} {s2} {s3} {body} {test} {exits} {x} {back} {stop} {again} d c e back_is stop_is again_is =
    let p1 : place s1 ≡ place s0 + body.size = omega (arith, body_end d, d.puts.first) in
    let p2 : place s2 + 1 ≡ place s0 + body.size + test.size + 1 = omega (arith, emits_place c, p1) in
    let t1 : s1.slot ≡ s0.slot + body.slots = d.puts.slot in
    let ea : again ≡ place s0 + body.size = again_is ∙ p1 in
    let es : stop ≡ place s0 + body.size + test.size + 1 = stop_is ∙ p2 in
    let ex : x ≡ test.gives (s0.slot + body.slots) = c.gives ∙ ap test.gives t1 in
    let all : Puts s0 s3 (body.points (record { stop = place s2 + 1; again = again }) (place s0) s0.slot ++ (test.points (place s1) s1.slot ++ branch_point x back stop ∷ [])) (0 + (body.slots + (test.slots + 0))) =
    looped (opens_always s0) d c.puts e in
    record {
      there = body.points (record { stop = place s2 + 1; again = again }) (place s0) s0.slot ++ (test.points (place s1) s1.slot ++ branch_point x back stop ∷ []);
      puts = puts_same refl (omega arith) all;
      size = omega (arith, body_end d, c.size, ends_length e);
      same = λ to. λ i. body.points (record { stop = p2 i; again = ea i }) (place s0) s0.slot ++ (test.points (p1 i) (t1 i) ++ branch_point (ex i) (back_is i) (es i) ∷ []);
    }

-- `foreach`
pub lays_walking : {s0 s2 s3 s4 : Progress} {body : Block} {exits : List Exit} {h : Head} {again : ℕ} (a : Code ℕ) (key : Option ℕ) (v : ℕ)
    → Opens s0 s2 h (walk_head a key v) → Drafts s2 s3 [] exits body → EndsLoop s3 s4 h (jump_point again) again exits → again ≡ place s0 + a.size + 1 → Lays s0 s4 (walking a key v body)
lays_walking {s0} {s2} {s3} {s4} {body} {exits} {h} {again} a key v o d e again_is =
    let p2 : place s2 ≡ place s0 + a.size + 1 + 1 + pair_size key = omega (arith, o.size, o.first) in
    let p3 : place s3 + 1 ≡ place s0 + a.size + 1 + 1 + pair_size key + body.size + 1 = omega (arith, body_end d, d.puts.first, p2) in
    let t2 : s2.slot ≡ s0.slot + a.slots + 1 = omega (arith, o.slot) in
    let front : ℕ → List PlainPoint = λ stop. begin_point (s0.slot + a.slots) (a.gives s0.slot) (place s0 + a.size + 1) ∷ next_point (s0.slot + a.slots) (place s0 + a.size + 1 + 1) stop
    ∷ pair_points key v (s0.slot + a.slots) (place s0 + a.size + 1 + 1) in
    let turns : List PlainPoint = body.points (record { stop = place s3 + 1; again = again }) (place s2) s2.slot ++ (jump_point again ∷ []) in
    let all : Puts s0 s4 ((a.points (place s0) s0.slot ++ front (place s3 + 1)) ++ turns) (a.slots + 1 + (body.slots + (0 + 0))) =
    looped o d (puts_none s3) e in
    record {
      there = (a.points (place s0) s0.slot ++ front (place s3 + 1)) ++ turns;
      puts = puts_same refl (omega arith) all;
      size = omega (arith, o.size, body_end d, ends_length e);
      same = λ to. append_assoc (a.points (place s0) s0.slot) (front (place s3 + 1)) turns
          ∙ (λ i. a.points (place s0) s0.slot ++ (front (p3 i) ++ (body.points (record { stop = p3 i; again = again_is i }) (p2 i) (t2 i) ++ (jump_point (again_is i) ∷ []))));
    }
