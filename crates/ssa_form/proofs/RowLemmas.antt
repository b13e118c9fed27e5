-- What comes by the arrivals at a point.
use Rattle.std.proofs.Common.{◌≡◌, ◌≤◌, ◌+◌, ◌<◌, ◌⊎◌, inl, inr, ℕ, suc, List, [], ◌∷◌, ◌++◌, map, flat_map, length, take, get_or, Option, Some, None, refl, sym, subst, ◌∙◌, ap, arith, append_assoc, slice_get, Contains, Bool, true, false, true≢false, if◌then◌else◌}
use Rattle.std.specs.Prelude.{ltb}
use Rattle.std.specs.Option.{option_map}
use Rattle.std.proofs.lemmas.Bool.Decides.{leb_tells}
use Rattle.loose_sets.specs.Reaching.{at_entry}
use Rattle.std.specs.declared.vec.Vec.{Vec}
use Rattle.std.specs.declared.alloc.Global.{Global}
use Rattle.std.proofs.lemmas.List.{append-nil, map-append, length-append}
use Rattle.std.proofs.lemmas.Option.{same_Some, slice_get-map, slice_get_past}
use Rattle.std.proofs.Math.Seq.{take-suc}
use Rattle.std.proofs.lemmas.List.Elements.{Contains-append_left, Contains-append_right, Contains-append_cases}
use Rattle.numbered_sets.specs.Places.{ArePlaces, AreInOrder}
use Rattle.flow_code.specs.Points.{PlainFlowFunction}
use Rattle.flow_graph.specs.declared.arrivals.Arrival.{Arrival}
use Rattle.flow_graph.specs.declared.arrivals.Arrival.TheVariants.{Edge, Entry}
use Rattle.flow_graph.specs.Arrivals.{target}
use Rattle.loose_sets.specs.Versions.{PlainVersion, of_definition}
use Rattle.ssa_form.specs.declared.version.Version.{Version}
use Rattle.ssa_form.specs.Views.{version_seen, versions_seen}
use Rattle.ssa_form.specs.Rows.{link_of, link_from, link_into, owns, link_by, link_at, IsRow}
use Rattle.ssa_form.proofs.ReadLemmas.{contains_at, at_contains, in_one}

pub ruleset ends = (append-nil, append_assoc, map-append)

none_of : {X : Type 0} (x : X) → Contains [] x → ⊥
none_of x c = let h = c.1 in omega arith

-- what stands in the joined lists of members
pub from_flat : {A X : Type 0} (f : A → List X) (xs : List A) (y : X) → Contains (flat_map f xs) y → (a : A) × Contains xs a × Contains (f a) y
from_flat f [] y c = absurd (none_of y c)
from_flat f (a ∷ xs) y c = elim (Contains-append_cases (f a) (flat_map f xs) y c) [
  | inl k ↦ (a, (0, omega arith, refl), k)
  | inr k ↦ (let r = from_flat f xs y k in (r.0, Contains-append_right (a ∷ []) xs r.0 r.1, r.2))
]

pub into_flat : {A X : Type 0} (f : A → List X) (xs : List A) (a : A) (y : X) → Contains xs a → Contains (f a) y → Contains (flat_map f xs) y
into_flat f [] a y c k = absurd (none_of a c)
into_flat {A} {X} f (b ∷ xs) a y c k = elim (Contains-append_cases (b ∷ []) xs a c) [
  | inl h ↦ Contains-append_left (f b) (flat_map f xs) y (subst (λ (z : A). Contains (f z) y) (sym (in_one b a h)) k)
  | inr h ↦ Contains-append_right (f b) (flat_map f xs) y (into_flat f xs a y h k)
]

-- an arrival brings one version at most
one_link : (fs : List PlainFlowFunction) (heads : List ℕ) (behind : ℕ → ℕ → PlainVersion) (x : ℕ) (a : Arrival) → length (link_of fs heads behind x a) ≤ 1
unfolding link_of
one_link fs heads behind x (Edge q) = by (slice_get heads q)
  where
    by : (o : Option ℕ) → length (link_from o behind x) ≤ 1
    by None = omega arith
    by (Some h) = omega arith
one_link fs heads behind x (Entry f) = by (slice_get fs f)
  where
    own : (b : Bool) → length (if b then of_definition (at_entry f x) ∷ [] else []) ≤ 1
    own true = omega arith
    own false = omega arith

    by : (o : Option PlainFlowFunction) → length (link_into o f x) ≤ 1
    by None = omega arith
    by (Some g) = own (owns g x)

-- as many arrivals at most as places
one_each : (fs : List PlainFlowFunction) (heads : List ℕ) (behind : ℕ → ℕ → PlainVersion) (x : ℕ) (all : List (ℕ × Arrival)) (is : List ℕ) → length (flat_map (link_at fs heads behind x all) is) ≤ length is
unfolding link_at
one_each fs heads behind x all [] = omega arith
one_each fs heads behind x all (i ∷ is) =
    let a = length-append (link_at fs heads behind x all i) (flat_map (link_at fs heads behind x all) is) in
    let b = one_each fs heads behind x all is in
    let c = by (slice_get all i) in
    omega (arith, a, b, c)
  where
    by : (o : Option (ℕ × Arrival)) → length (link_by fs heads behind x o) ≤ 1
    by None = omega arith
    by (Some a) = one_link fs heads behind x a.1

-- the versions at all places of a point are those that come by what leads there
pub is_row : (fs : List PlainFlowFunction) (heads : List ℕ) (behind : ℕ → ℕ → PlainVersion) (all : List (ℕ × Arrival)) (at : List (Vec ℕ Global)) (p x : ℕ) (v : Vec ℕ Global) (row : List PlainVersion)
    → ArePlaces (map target all) at → AreInOrder (map target all) at → slice_get at p ≡ Some v → row ≡ flat_map (link_at fs heads behind x all) v.items → IsRow fs heads behind all p x row
unfolding link_at
is_row fs heads behind all at p x v row places order there is = record {
  each = λ u c. let r = from_flat (link_at fs heads behind x all) v.items u (subst (λ (us : List PlainVersion). Contains us u) is c) in
      by_place r.0 u ((places p v there r.0).0 r.1) (slice_get all r.0) refl r.2;
  all_are = λ a u c k. let o = at_contains all (p, a) c in
      subst (λ (us : List PlainVersion). Contains us u) (sym is)
      (into_flat (link_at fs heads behind x all) v.items o.0 u ((places p v there o.0).1 (slice_get-map target all o.0 ∙ ap (option_map target) o.1))
      (subst (λ (b : Option (ℕ × Arrival)). Contains (link_by fs heads behind x b) u) (sym o.1) k));
  few =
      let a = one_each fs heads behind x all v.items in
      let b = ap (λ (us : List PlainVersion). length us) is in
      let c = ap (λ (is : List ℕ). length is) (order p v there) in
      omega (arith, a, b, c);
}
  where
    by_place : (i : ℕ) (u : PlainVersion) → slice_get (map target all) i ≡ Some p → (b : Option (ℕ × Arrival)) → slice_get all i ≡ b → Contains (link_by fs heads behind x b) u
        → (a : Arrival) × Contains all (p, a) × Contains (link_of fs heads behind x a) u
    by_place i u e None at k = absurd (none_of u k)
    by_place i u e (Some a) at k =
        let same : a.0 ≡ p = same_Some a.0 p (sym (ap (option_map target) at) ∙ sym (slice_get-map target all i) ∙ e) in
        (a.1, subst (λ (q : ℕ). Contains all (q, a.1)) same (contains_at all i a at), k)

module _ (fs : List PlainFlowFunction) (heads : List ℕ) (behind : ℕ → ℕ → PlainVersion) (x : ℕ) where
  pub edge_link : (a : Arrival) (q h : ℕ) → a ≡ Edge q → slice_get heads q ≡ Some h → link_of fs heads behind x a ≡ behind h x ∷ []
  unfolding link_of
  edge_link a q h is at = ap (λ b. link_of fs heads behind x b) is ∙ ap (λ o. link_from o behind x) at

  pub edge_none : (a : Arrival) (q : ℕ) → a ≡ Edge q → slice_get heads q ≡ None → link_of fs heads behind x a ≡ []
  unfolding link_of
  edge_none a q is at = ap (λ b. link_of fs heads behind x b) is ∙ ap (λ o. link_from o behind x) at

  pub entry_link : (a : Arrival) (f : ℕ) (g : PlainFlowFunction) (b : Bool) → a ≡ Entry f → slice_get fs f ≡ Some g → owns g x ≡ b
      → link_of fs heads behind x a ≡ (if b then of_definition (at_entry f x) ∷ [] else [])
  unfolding link_of
  entry_link a f g b is at own = ap (λ c. link_of fs heads behind x c) is ∙ ap (λ o. link_into o f x) at ∙ ap (λ t. if t then of_definition (at_entry f x) ∷ [] else []) own

  pub entry_none : (a : Arrival) (f : ℕ) → a ≡ Entry f → slice_get fs f ≡ None → link_of fs heads behind x a ≡ []
  unfolding link_of
  entry_none a f is at = ap (λ b. link_of fs heads behind x b) is ∙ ap (λ o. link_into o f x) at

-- a version behind others
pub pushed : (old new : List Version) (v : Version) (us : List PlainVersion) → new ≡ old ++ v ∷ [] → us ≡ version_seen v ∷ [] → versions_seen new ≡ versions_seen old ++ us
pushed old new v us e f = ap versions_seen e ∙ map-append version_seen old (v ∷ []) ∙ ap (λ (ws : List PlainVersion). versions_seen old ++ ws) (sym f)

pub as_it_was : (old us : List PlainVersion) → us ≡ [] → old ≡ old ++ us
as_it_was old us e = sym (ap (λ (ws : List PlainVersion). old ++ ws) e ∙ append-nil old)

-- nothing stands where a look finds nothing
pub looked_past : {X : Type 0} (xs : List X) (i : ℕ) → false ≡ ltb i (length xs) → slice_get xs i ≡ None
looked_past xs i past = slice_get_past xs i (elim (leb_tells (suc i) (length xs)) [ inl k ↦ absurd (true≢false (sym k.0 ∙ sym past)) | inr k ↦ omega arith ])

-- one more of a slice
pub seen_longer : (links : List Version) (i : ℕ) (d : Version) → i < length links → versions_seen (take (i + 1) links) ≡ versions_seen (take i links) ++ version_seen (get_or links i d) ∷ []
seen_longer links i d within =
    let next : i + 1 ≡ suc i = omega arith in
    ap versions_seen (ap (λ (n : ℕ). take n links) next ∙ take-suc links i d within) ∙ map-append version_seen (take i links) (get_or links i d ∷ [])
