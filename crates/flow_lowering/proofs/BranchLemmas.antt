-- Points that are replaced once it is known where they lead.
use Rattle.std.proofs.Common.{◌≡◌, ◌∙◌, ℕ, ◌+◌, List, [], ◌∷◌, ◌++◌, length, map, slice_set, refl, sym, ap, arith, append_assoc, length-append}
use Rattle.std.proofs.Math.Seq.{set-append_seam}
use Rattle.std.proofs.lemmas.List.{map-set, length-set}
use Rattle.flow_code.specs.declared.point.FlowPoint.{FlowPoint}
use Rattle.flow_code.specs.View.{plain_point}
use Rattle.flow_code.specs.Points.{PlainPoint}
use Rattle.flow_code.specs.Code.{Code}
use Rattle.flow_lowering.specs.Emits.{Progress, place, Puts, Emits, Replaces, Closes}
use Rattle.flow_lowering.proofs.EmitLemmas.{puts_then, puts_length}

-- a point that was put between others is replaced
pub replaces_between : {s0 s1 s2 : Progress} {n : ℕ} (front behind : List PlainPoint) (there : PlainPoint) (index : ℕ) (point : PlainPoint)
    → Puts s0 s1 (front ++ there ∷ behind) n → index ≡ length s0.points + length front → Replaces s1 s2 index point → Puts s0 s2 (front ++ point ∷ behind) n
replaces_between {s0} {s1} {s2} {n} front behind there index point p at r =
    let here : s1.points ≡ (s0.points ++ front) ++ there ∷ behind = p.points_are ∙ sym (append_assoc s0.points front (there ∷ behind)) in
    let long : length (s0.points ++ front) ≡ index = length-append s0.points front ∙ sym at in
    record {
      first = r.first ∙ p.first;
      points_are = r.points_are (s0.points ++ front) there behind here long ∙ append_assoc s0.points front (point ∷ behind);
      slot = r.slot ∙ p.slot;
    }

-- points are put, and one before them is replaced
pub closes_of : {s0 s1 s2 : Progress} {last : List PlainPoint} {n : ℕ} (index : ℕ) (point : PlainPoint) → Puts s0 s1 last n → Replaces s1 s2 index point → Closes s0 s2 index point last n
closes_of {s0} {s1} {s2} {last} index point p r = record {
  first = r.first ∙ p.first;
  points_are = λ front there behind is long.
      r.points_are front there (behind ++ last) (p.points_are ∙ ap (λ (l : List PlainPoint). l ++ last) is ∙ append_assoc front (there ∷ behind) last) long;
  size = r.size ∙ puts_length p;
  slot = r.slot ∙ p.slot;
}

-- a reserved point behind others, code, and the end, where the point is replaced
pub closes_behind : {B : Type 0} {s1 s2 s3 s4 : Progress} {b : Code B} {y : B} {last : List PlainPoint} {k n : ℕ} (front : List PlainPoint) (there : PlainPoint) (index : ℕ) (point : PlainPoint)
    → Puts s1 s2 (front ++ there ∷ []) k → index ≡ length s1.points + length front → Emits s2 s3 b y → Closes s3 s4 index point last n
    → Puts s1 s4 (front ++ point ∷ (b.points (place s2) s2.slot ++ last)) (k + b.slots + n)
closes_behind {B} {s1} {s2} {s3} {s4} {b} {y} {last} {k} {n} front there index point p at e c =
    let behind : List PlainPoint = b.points (place s2) s2.slot in
    let all : Puts s1 s3 ((front ++ there ∷ []) ++ behind) (k + b.slots) = puts_then p e.puts in
    let here : s3.points ≡ (s1.points ++ front) ++ there ∷ behind =
    all.points_are ∙ ap (λ (l : List PlainPoint). s1.points ++ l) (append_assoc front (there ∷ []) behind) ∙ sym (append_assoc s1.points front (there ∷ behind)) in
    let long : length (s1.points ++ front) ≡ index = length-append s1.points front ∙ sym at in
    record {
      first = c.first ∙ all.first;
      points_are = c.points_are (s1.points ++ front) there behind here long ∙ append_assoc s1.points front (point ∷ (behind ++ last));
      slot = omega (arith, c.slot, all.slot);
    }

-- a point of the code is replaced
pub replaces_here : (points : List FlowPoint) (index : ℕ) (point : FlowPoint) (first slot : ℕ) →
    Replaces (record { first = first; points = map plain_point points; slot = slot }) (record { first = first; points = map plain_point (slice_set points index point); slot = slot }) index (plain_point point)
replaces_here points index point first slot =
    let same : map plain_point (slice_set points index point) ≡ slice_set (map plain_point points) index (plain_point point) = map-set plain_point points index point in
    record {
      first = refl;
      points_are = λ front there behind is long.
          same ∙ ap (λ (l : List PlainPoint). slice_set l index (plain_point point)) is ∙ sym (ap (λ (k : ℕ). slice_set (front ++ there ∷ behind) k (plain_point point)) long) ∙ set-append_seam front there behind (plain_point point);
      size = ap length same ∙ length-set (map plain_point points) index (plain_point point);
      slot = refl;
    }
