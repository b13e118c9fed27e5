-- What is found of calls is what they hand in.
use Rattle.std.proofs.Common.{◌≡◌, ℕ, List, sym, subst, Contains}
use Rattle.std.specs.declared.vec.Vec.{Vec}
use Rattle.std.specs.declared.alloc.Global.{Global}
use Rattle.flow_code.specs.Points.{PlainFlow, points_in}
use Rattle.flow_graph.specs.Handed.{Handing, handings_from, AreGroups}
use Rattle.flow_graph.specs.Found.{pairs_under}
use Rattle.flow_graph.proofs.FoundLemmas.{pairs_exact}
use Rattle.loose_sets.specs.Functions.{IsHandedIn, ArePairs}
use Rattle.loose_sets.proofs.Handed.{handed_law}

-- what is found for a parameter of a function is what is handed in for it
pub found_law : (flow : PlainFlow) (all : List Handing) (keys : List (ℕ × ℕ)) (places : List (Vec ℕ Global)) → all ≡ handings_from flow.functions_of 0 (points_in flow.functions_of) → AreGroups all keys places
    → (n y : ℕ) → ArePairs (IsHandedIn flow n y) (pairs_under all keys places n y)
found_law flow all keys places is are n y p x = (
  λ c. (handed_law flow n y p x).0 (subst (λ (hs : List Handing). Contains hs ((n, y), (p, x))) is ((pairs_exact all keys places are (n, y) (p, x)).0 c)),
  λ r. (pairs_exact all keys places are (n, y) (p, x)).1 (subst (λ (hs : List Handing). Contains hs ((n, y), (p, x))) (sym is) ((handed_law flow n y p x).1 r)),
)
