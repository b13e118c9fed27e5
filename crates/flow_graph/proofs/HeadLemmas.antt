-- The first points of rows, one point more, and the one arrival at a point.
use Rattle.std.proofs.Common.{◌≡◌, ◌≤◌, ◌<◌, ◌⊎◌, inl, inr, ℕ, zero, suc, List, [], ◌∷◌, ◌++◌, length, map, Option, Some, refl, sym, subst, ◌∙◌, ap, arith, slice_get, get_or, take, ◌+◌, true, false, true≢false, None, Contains}
use Rattle.std.proofs.lemmas.Option.{same_Some, slice_get-get_or, slice_get-map, slice_get_within, slice_get_past, get_or_from_slice_get}
use Rattle.std.proofs.lemmas.Bool.Decides.{leb_tells}
use Rattle.std.proofs.lemmas.List.Elements.{Contains-append_cases}
use Rattle.std.proofs.Math.Seq.{take-suc}
use Rattle.std.specs.Option.{option_map}
use Rattle.std.specs.Prelude.{ltb}
use Rattle.std.proofs.lemmas.Bool.{ltb-true}
use Rattle.std.specs.declared.vec.Vec.{Vec}
use Rattle.std.specs.declared.alloc.Global.{Global}
use Rattle.numbered_sets.specs.Places.{ArePlaces}
use Rattle.numbered_sets.proofs.NumberLemmas.{at_front}
use Rattle.flow_graph.specs.declared.arrivals.Arrival.{Arrival}
use Rattle.flow_graph.specs.declared.arrivals.Arrival.TheVariants.{Edge}
use Rattle.flow_graph.specs.Steps.{PlainStep}
use Rattle.flow_graph.specs.Arrivals.{target}
use Rattle.flow_graph.specs.Heads.{ComesFrom, ComesFromAt, GoesOn, AreHeads, RowsGoOn}

pub push_cases : {X : Type 0} (xs : List X) (y : X) (k : ℕ) (x : X) → slice_get (xs ++ y ∷ []) k ≡ Some x
    → ((k < length xs) × (slice_get xs k ≡ Some x)) ⊎ ((k ≡ length xs) × (y ≡ x))
push_cases [] y zero x e = inr (refl, same_Some y x e)
push_cases [] y (suc k) x e = absurd (cc)
push_cases (z ∷ zs) y zero x e = inl (omega arith, e)
push_cases (z ∷ zs) y (suc k) x e = elim (push_cases zs y k x e) [ inl p ↦ inl (let h = p.0 in omega arith, p.1) | inr p ↦ inr (let h = p.0 in omega arith, p.1) ]

pub no_heads : (steps : List PlainStep) (all : List (ℕ × Arrival)) → AreHeads steps all []
no_heads steps all = record { before = λ p h e. absurd (cc); goes = λ p h e n. absurd (cc) }

-- one point more, whose first point is itself, or that of the point before
pub one_more : (steps : List PlainStep) (all : List (ℕ × Arrival)) (heads : List ℕ) (n last h : ℕ) → length heads ≡ n → AreHeads steps all heads → last ≤ n
    → ((p : ℕ) → suc p ≡ n → slice_get heads p ≡ Some last) → (h ≡ n) ⊎ ((h ≡ last) × GoesOn steps all n) → AreHeads steps all (heads ++ h ∷ [])
one_more steps all heads n last h long are low ends choice = record {
  before = λ p k e. elim (push_cases heads h p k e) [
    | inl w ↦ are.before p k w.1
    | inr w ↦ elim choice [
      | inl c ↦ (let a = w.0 in let b = w.1 in omega arith)
      | inr c ↦ (let a = w.0 in let b = w.1 in let d = c.0 in omega arith)
    ]
  ];
  goes = λ p k e other. elim (push_cases heads h (suc p) k e) [
    | inl w ↦ (let r = are.goes p k w.1 other in (at_front heads h p k r.0, r.1))
    | inr w ↦ elim choice [
      | inl c ↦ absurd (other (let a = w.0 in let b = w.1 in omega arith))
      | inr c ↦
          let here : suc p ≡ n = (let a = w.0 in omega arith) in
          let same : last ≡ k = (let b = w.1 in let d = c.0 in omega arith) in
          (at_front heads h p k (subst (λ z. slice_get heads p ≡ Some z) same (ends p here)), subst (λ z. GoesOn steps all z) (sym here) c.1)
    ]
  ];
}

pub ends_here : (heads : List ℕ) (n h p : ℕ) → length heads ≡ n → suc p ≡ suc n → slice_get (heads ++ h ∷ []) p ≡ Some h
ends_here [] n h zero e f = refl
ends_here [] n h (suc p) e f = absurd (omega arith)
ends_here (k ∷ ks) zero h p e f = absurd (omega arith)
ends_here (k ∷ ks) (suc n) h zero e f = absurd (omega arith)
ends_here (k ∷ ks) (suc n) h (suc p) e f = ends_here ks n h p (omega arith) (omega arith)

-- what a look at a place of a list tells
pub looked : {X : Type 0} (xs ys : List X) (i : ℕ) (x : X) → ys ≡ xs → true ≡ ltb i (length ys) → x ≡ get_or ys i x → slice_get xs i ≡ Some x
looked {X} xs ys i x same within is =
    subst (λ (zs : List X). slice_get zs i ≡ Some x) same (slice_get-get_or ys i x (ltb-true i (length ys) (sym within)) ∙ ap (λ (y : X). Some y) (sym is))

in_one : (n m : ℕ) → Contains (n ∷ []) m → n ≡ m
in_one n m (zero, below, e) = e
in_one n m (suc k, below, e) = absurd (omega arith)

pub contains_item : (xs : List ℕ) (k d : ℕ) → k < length xs → Contains xs (get_or xs k d)
contains_item xs k d less = (k, less, same xs k d (get_or xs k d) less)
  where
    same : (xs : List ℕ) (k d e : ℕ) → k < length xs → get_or xs k e ≡ get_or xs k d
    same [] k d e h = absurd (omega arith)
    same (x ∷ xs) zero d e h = refl
    same (x ∷ xs) (suc k) d e h = same xs k d e (omega arith)

pub none_some : {X : Type 0} (x : X) (o : Option X) → o ≡ None → o ≡ Some x → ⊥
none_some x o e f = cc

-- nothing stands where a look finds nothing
pub looked_past : {X : Type 0} (xs : List X) (i : ℕ) → false ≡ ltb i (length xs) → slice_get xs i ≡ None
looked_past xs i past = slice_get_past xs i (elim (leb_tells (suc i) (length xs)) [ inl k ↦ absurd (true≢false (sym k.0 ∙ sym past)) | inr k ↦ omega arith ])

-- one place more
pub more_from : (all : List (ℕ × Arrival)) (places : List ℕ) (q k d : ℕ) → k < length places → ComesFromAt all (take k places) q
    → ((p : ℕ) (a : Arrival) → slice_get all (get_or places k d) ≡ Some (p, a) → a ≡ Edge q) → ComesFromAt all (take (k + 1) places) q
more_from all places q k d within before one i c =
    let next : k + 1 ≡ suc k = omega arith in
    let longer : take (k + 1) places ≡ take k places ++ get_or places k d ∷ [] = ap (λ (n : ℕ). take n places) next ∙ take-suc places k d within in
    elim (Contains-append_cases (take k places) (get_or places k d ∷ []) i (subst (λ (ps : List ℕ). Contains ps i) longer c)) [
      | inl e ↦ before i e
      | inr e ↦ subst (λ (n : ℕ). (p : ℕ) (a : Arrival) → slice_get all n ≡ Some (p, a) → a ≡ Edge q) (in_one (get_or places k d) i e) one
    ]

-- the places of a point hold all that leads to it, and nothing else
pub from_places : (all : List (ℕ × Arrival)) (at : List (Vec ℕ Global)) (p q : ℕ) (v : Vec ℕ Global) → ArePlaces (map target all) at → slice_get at p ≡ Some v → ComesFromAt all v.items q → ComesFrom all p q
from_places all at p q v places there from a c =
    let found : slice_get all c.0 ≡ Some (p, a) = subst (λ (y : ℕ × Arrival). slice_get all c.0 ≡ Some y) c.2 (slice_get-get_or all c.0 (p, a) c.1) in
    let key : slice_get (map target all) c.0 ≡ Some p = slice_get-map target all c.0 ∙ ap (option_map target) found in
    from c.0 ((places p v there c.0).1 key) p a found

pub at_places : (all : List (ℕ × Arrival)) (at : List (Vec ℕ Global)) (p q : ℕ) (v : Vec ℕ Global) → ArePlaces (map target all) at → slice_get at p ≡ Some v → ComesFrom all p q → ComesFromAt all v.items q
at_places all at p q v places there from i c r a found =
    let key : slice_get (map target all) i ≡ Some r = slice_get-map target all i ∙ ap (option_map target) found in
    let same : r ≡ p = same_Some r p (sym key ∙ (places p v there i).0 c) in
    from a (i, slice_get_within all i (r, a) found, get_or_from_slice_get all i (p, a) (p, a) (subst (λ (n : ℕ). slice_get all i ≡ Some (n, a)) same found))

-- one point more, whose row goes on where it has to
pub more_on : (steps : List PlainStep) (all : List (ℕ × Arrival)) (heads : List ℕ) (n last h : ℕ) → length heads ≡ n → RowsGoOn steps all heads
    → ((p : ℕ) → suc p ≡ n → slice_get heads p ≡ Some last) → (GoesOn steps all n → h ≡ last) → RowsGoOn steps all (heads ++ h ∷ [])
more_on steps all heads n last h long on ends choice p k e goes = elim (push_cases heads h (suc p) k e) [
  | inl w ↦ at_front heads h p k (on p k w.1 goes)
  | inr w ↦
      let here : suc p ≡ n = (let a = w.0 in omega arith) in
      let same : h ≡ last = choice (subst (λ z. GoesOn steps all z) here goes) in
      at_front heads h p k (subst (λ z. slice_get heads p ≡ Some z) (sym same ∙ w.1) (ends p here))
]
