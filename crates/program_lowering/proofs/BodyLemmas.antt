-- A body, from its parts as they were put.
use Rattle.std.proofs.Common.{◌≡◌, ◌∙◌, ℕ, ◌+◌, Bool, true, false, ◌||◌, List, [], ◌∷◌, ◌++◌, sym, ap, subst, arith}
use Rattle.std.proofs.lemmas.List.{append-nil, length-map}
use Rattle.php_syntax.specs.Trees.{PlainStmts}
use Rattle.plain_values.specs.Plain.{null}
use Rattle.flow_code.specs.Points.{PlainPoint, literal_source, set_point, return_point}
use Rattle.flow_code.specs.Code.{Targets, Block}
use Rattle.flow_code.specs.Completion.{all_complete, some_jump_out, reaches_end}
use Rattle.flow_code.specs.Flat.{end_points, end_slots}
use Rattle.flow_lowering.specs.Emits.{Progress, place, Puts, Sets}
use Rattle.flow_lowering.proofs.EmitLemmas.{puts_none, puts_then, puts_same, puts_length}
use Rattle.flow_lowering.specs.declared.exits.Exit.{Exit}
use Rattle.flow_lowering.specs.Drafts.{unaimed, filled}
use Rattle.flow_lowering.specs.Blocks.{Drafts}
use Rattle.flow_lowering.proofs.FillLemmas.{filled_first, filled_length}
use Rattle.flow_lowering.proofs.LoopLemmas.{filled_body}
use Rattle.program_lowering.specs.Bodies.{with_end}

-- no points, where the first one and the next free slot have these numbers
abbrev pub nothing : ℕ → ℕ → Progress
nothing point free = record { first = point; points = []; slot = free }

-- what was put behind nothing is all
whole : {point free n : ℕ} {s : Progress} {xs : List PlainPoint} → Puts (nothing point free) s xs n → s ≡ record { first = point; points = xs; slot = free + n }
whole {point} {free} {n} {s} {xs} p = λ i. record { first = p.first i; points = p.points_are i; slot = p.slot i }

-- the end of a body, by the code
pub end_put : {s0 s1 s2 : Progress} {slot : ℕ} (reached : Bool) → reached ≡ true → Sets s0 s1 (literal_source null) (place s0 + 1) slot → Puts s1 s2 (return_point slot ∷ []) 0 → Puts s0 s2 (end_points reached (place s0) s0.slot) (end_slots reached)
end_put {s0} {s1} {s2} {slot} reached is set back =
    let both : Puts s0 s2 (set_point s0.slot (literal_source null) (place s0 + 1) ∷ return_point slot ∷ []) (1 + 0) = puts_then set.puts back in
    let there : Puts s0 s2 (end_points true (place s0) s0.slot) 1 = puts_same (λ i. set_point s0.slot (literal_source null) (place s0 + 1) ∷ return_point (set.slot i) ∷ []) (omega arith) both in
    subst (λ (r : Bool). Puts s0 s2 (end_points r (place s0) s0.slot) (end_slots r)) (sym is) there

pub no_end_put : (s0 : Progress) (reached : Bool) → reached ≡ false → Puts s0 s0 (end_points reached (place s0) s0.slot) (end_slots reached)
no_end_put s0 reached is = subst (λ (r : Bool). Puts s0 s0 (end_points r (place s0) s0.slot) (end_slots r)) (sym is) (puts_none s0)

pub reached_is : {reached on jumps : Bool} (ss : PlainStmts) → reached ≡ (on || jumps) → on ≡ all_complete ss → jumps ≡ some_jump_out ss → reached ≡ reaches_end ss
unfolding reaches_end
reached_is ss is on jumps = is ∙ (λ i. on i || jumps i)

pub body_is : {s0 s1 s2 s4 : Progress} {none exits : List Exit} {b : Block} {end : ℕ} {reached reach : Bool} (point free : ℕ) → s0 ≡ nothing point free → none ≡ [] → Drafts s0 s1 none exits b → end ≡ place s1
    → s2 ≡ filled (record { stop = end; again = end }) exits s1 → Puts s2 s4 (end_points reached (place s2) s2.slot) (end_slots reached) → reached ≡ reach → s4 ≡ with_end reach b point free
body_is {s0} {s1} {s2} {s4} {none} {exits} {b} {end} {reached} {reach} point free begin empty d at fill last reach_is =
    let to : Targets = record { stop = end; again = end } in
    let start : Progress = nothing point free in
    let laid : Drafts start s1 [] exits b = subst (λ (s : Progress). Drafts s s1 [] exits b) begin (subst (λ (l : List Exit). Drafts s0 s1 l exits b) empty d) in
    let body : List PlainPoint = b.points to (place start) free ++ [] in
    let filled_in : Puts start (filled to exits s1) body (b.slots + 0) = filled_body to laid (puts_none s1) in
    let first_part : Puts start s2 body (b.slots + 0) = subst (λ (s : Progress). Puts start s body (b.slots + 0)) (sym fill) filled_in in
    let tail : List PlainPoint = end_points reached (place s2) s2.slot in
    let all : Puts start s4 (body ++ tail) (b.slots + 0 + end_slots reached) = puts_then first_part last in
    let here : place start ≡ point = omega arith in
    let end_is : end ≡ point + b.size = omega (arith, at, puts_length laid.puts, length-map laid.draft unaimed, laid.size, laid.puts.first) in
    let same_place : place (filled to exits s1) ≡ place s1 = omega (arith, filled_first to exits s1, filled_length to exits s1) in
    let place_is : place s2 ≡ point + b.size = omega (arith, ap (λ (s : Progress). place s) fill, same_place, at, end_is) in
    let slot_is : s2.slot ≡ free + b.slots = omega (arith, first_part.slot) in
    let last_slot : free + (b.slots + 0 + end_slots reached) ≡ free + b.slots + end_slots reach = omega (arith, ap end_slots reach_is) in
    let points_are : body ++ tail ≡ (with_end reach b point free).points =
    ap (λ (l : List PlainPoint). l ++ tail) (append-nil (b.points to (place start) free))
    ∙ (λ i. b.points (record { stop = end_is i; again = end_is i }) (here i) free ++ end_points (reach_is i) (place_is i) (slot_is i)) in
    whole all ∙ (λ i. record { first = point; points = points_are i; slot = last_slot i })
