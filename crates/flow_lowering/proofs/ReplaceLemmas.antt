-- One point is replaced.
use Rattle.std.proofs.Common.{◌≡◌, ◌∙◌, ℕ, ◌≤◌, List, ◌∷◌, ◌++◌, length, map, refl, sym, ap, arith}
use Rattle.std.specs.Prelude.{slice_set}
use Rattle.std.proofs.Math.Seq.{set-append_seam}
use Rattle.std.proofs.lemmas.List.{map-set, length-set, length-map, set_past}
use Rattle.flow_code.specs.declared.point.FlowPoint.{FlowPoint}
use Rattle.flow_code.specs.View.{plain_point}
use Rattle.flow_code.specs.Points.{PlainPoint}
use Rattle.flow_lowering.specs.Emits.{Progress, Replaces}
use Rattle.flow_lowering.specs.Drafts.{replaced}

-- points of the code with their numbers
abbrev seen : ℕ → ℕ → List FlowPoint → Progress
seen first slot points = record { first = first; points = map plain_point points; slot = slot }

pub replaced_there : (first slot : ℕ) (points : List FlowPoint) (i : ℕ) (x : FlowPoint) → seen first slot (slice_set points i x) ≡ replaced (seen first slot points) i (plain_point x)
replaced_there first slot points i x = ap (λ (l : List PlainPoint). let s : Progress = record { first = first; points = l; slot = slot } in s) (map-set plain_point points i x)

pub replaced_nowhere : (first slot : ℕ) (points : List FlowPoint) (i : ℕ) (x : FlowPoint) → length points ≤ i → seen first slot points ≡ replaced (seen first slot points) i (plain_point x)
replaced_nowhere first slot points i x le =
    let long : length (map plain_point points) ≤ i = omega (arith, length-map points plain_point, le) in
    ap (λ (l : List PlainPoint). let s : Progress = record { first = first; points = l; slot = slot } in s) (sym (set_past (map plain_point points) i (plain_point x) long))

pub replaces_plain : (s : Progress) (i : ℕ) (x : PlainPoint) → Replaces s (replaced s i x) i x
replaces_plain s i x = record {
  first = refl;
  points_are = λ front there behind is long.
      ap (λ (l : List PlainPoint). slice_set l i x) is ∙ sym (ap (λ (k : ℕ). slice_set (front ++ there ∷ behind) k x) long) ∙ set-append_seam front there behind x;
  size = length-set s.points i x;
  slot = refl;
}
