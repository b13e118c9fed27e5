-- Lists of arrivals: side by side, and that each is at one of the first points.
use Rattle.std.proofs.Common.{◌≡◌, ◌<◌, ℕ, suc, Bool, true, false, List, [], ◌∷◌, ◌++◌, map, flat_map, length, if◌then◌else◌, refl, subst, sym, append_assoc, arith}
use Rattle.std.specs.Prelude.{nat_lt}
use Rattle.std.specs.List.{All}
use Rattle.std.proofs.lemmas.Bool.{ltb-true}
use Rattle.std.proofs.lemmas.List.{append-nil, map-append}
use Rattle.std.proofs.lemmas.List.Elements.{All-nil, All-push, All-append, All-map}
use Rattle.flow_code.specs.Points.{PlainFlowFunction}
use Rattle.flow_graph.specs.declared.arrivals.Arrival.{Arrival}
use Rattle.flow_graph.specs.declared.arrivals.Arrival.TheVariants.{Edge, Entry}
use Rattle.flow_graph.specs.Steps.{PlainStep}
use Rattle.flow_graph.specs.Arrivals.{target, within, from_exits, from_steps, from_functions}

pub ruleset ends = (append-nil, append_assoc, map-append)

abbrev AreBelow : ℕ → List (ℕ × Arrival) → Type 0
AreBelow count xs = All (λ a. a.0 < count) xs

below_one : (count : ℕ) (a : ℕ × Arrival) → AreBelow count (within count a)
unfolding within
below_one count a = by (nat_lt a.0 count) refl
  where
    by : (b : Bool) → nat_lt a.0 count ≡ b → AreBelow count (if b then a ∷ [] else [])
    by true e = All-push (λ b. b.0 < count) [] a (All-nil (λ b. b.0 < count)) (ltb-true a.0 count e)
    by false e = All-nil (λ b. b.0 < count)

below_exits : (count q : ℕ) (ps : List ℕ) → AreBelow count (from_exits count q ps)
below_exits count q [] = All-nil (λ a. a.0 < count)
below_exits count q (p ∷ ps) = All-append (λ a. a.0 < count) (within count (p, Edge q)) (from_exits count q ps) (below_one count (p, Edge q)) (below_exits count q ps)

below_steps : (count q : ℕ) (ss : List PlainStep) → AreBelow count (from_steps count q ss)
unfolding from_steps
below_steps count q [] = All-nil (λ a. a.0 < count)
below_steps count q (s ∷ ss) = All-append (λ a. a.0 < count) (from_exits count q s.nexts_of) (from_steps count (suc q) ss) (below_exits count q s.nexts_of) (below_steps count (suc q) ss)

below_functions : (count f : ℕ) (gs : List PlainFlowFunction) → AreBelow count (from_functions count f gs)
unfolding from_functions
below_functions count f [] = All-nil (λ a. a.0 < count)
below_functions count f (g ∷ gs) = All-append (λ a. a.0 < count) (within count (g.entry_of, Entry f)) (from_functions count (suc f) gs) (below_one count (g.entry_of, Entry f)) (below_functions count (suc f) gs)

pub targets_below : (count : ℕ) (ss : List PlainStep) (gs : List PlainFlowFunction) → All (λ k. k < count) (map target (from_steps count 0 ss ++ from_functions count 0 gs))
targets_below count ss gs = All-map (λ k. k < count) target (from_steps count 0 ss ++ from_functions count 0 gs)
    (All-append (λ a. a.0 < count) (from_steps count 0 ss) (from_functions count 0 gs) (below_steps count 0 ss) (below_functions count 0 gs))
