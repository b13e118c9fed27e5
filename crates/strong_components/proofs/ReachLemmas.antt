-- Nodes that edges lead to.
use Rattle.std.proofs.Common.{ℕ, List, inl, inr, sym, subst}
use Rattle.smallvec.specs.SmallVec.{SmallVec}
use Rattle.strong_components.specs.Edges.{HasEdge, Leads, by_edge, onward}
use Rattle.strong_components.specs.Components.{Reaches}

leads_leads : (edges : List (SmallVec ℕ)) (a b c : ℕ) → Leads edges a b → Leads edges b c → Leads edges a c
leads_leads edges a b c (by_edge _ _ e) more = onward a b c e more
leads_leads edges a b c (onward _ next _ e rest) more = onward a next c e (leads_leads edges next b c rest more)

pub reach_reach : (edges : List (SmallVec ℕ)) (a b c : ℕ) → Reaches edges a b → Reaches edges b c → Reaches edges a c
reach_reach edges a b c ab bc = elim ab [
  | inl same ↦ subst (λ (x : ℕ). Reaches edges x c) (sym same) bc
  | inr way ↦ elim bc [
    | inl same ↦ inr (subst (Leads edges a) same way)
    | inr more ↦ inr (leads_leads edges a b c way more)
  ]
]

pub reach_edge : (edges : List (SmallVec ℕ)) (a b c : ℕ) → Reaches edges a b → HasEdge edges b c → Reaches edges a c
reach_edge edges a b c ab e = reach_reach edges a b c ab (inr (by_edge b c e))
