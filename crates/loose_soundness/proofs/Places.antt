-- The points of a function are those that stand at their numbers.
use Rattle.std.proofs.Common.{◌≡◌, ◌≤◌, ◌<◌, ◌+◌, ℕ, zero, suc, List, [], ◌∷◌, ◌++◌, length, Some, refl, sym, ap, subst, ◌∙◌, arith}
use Rattle.std.specs.Prelude.{Contains, slice_get}
use Rattle.std.proofs.lemmas.List.Elements.{All-contains}
use Rattle.flow_code.specs.Points.{PlainPoint, PlainFlowFunction, PlainFlow, points_in, point_at, function_at}
use Rattle.flow_code.specs.Lawful.{IsOwnPoint, PointFits, FunctionFits, AreNumbered, IsFlow}

get_left : {A : Type 0} (xs ys : List A) (i : ℕ) → i < length xs → slice_get (xs ++ ys) i ≡ slice_get xs i
get_left [] ys i h = absurd (omega (arith, h))
get_left (x ∷ xs) ys zero h = refl
get_left (x ∷ xs) ys (suc i) h = get_left xs ys i (omega (arith, h))

get_right : {A : Type 0} (xs ys : List A) (i : ℕ) → slice_get (xs ++ ys) (length xs + i) ≡ slice_get ys i
get_right [] ys i = ap (slice_get ys) (omega arith)
get_right (x ∷ xs) ys i = ap (slice_get (x ∷ (xs ++ ys))) (shift (length xs) i) ∙ get_right xs ys i
  where
    shift : (n i : ℕ) → suc n + i ≡ suc (n + i)
    shift n i = omega arith

pub get_contains : {A : Type 0} (xs : List A) (i : ℕ) (x : A) → slice_get xs i ≡ Some x → Contains xs x
get_contains [] i x e = cc
get_contains (y ∷ xs) zero x e = (0, omega arith, cc)
get_contains (y ∷ xs) (suc i) x e = let c = get_contains xs i x e in (suc c.0, omega (arith, c.1), c.2)

own_point : (fs : List PlainFlowFunction) (b t n i j : ℕ) (g : PlainFlowFunction) → AreNumbered fs b t → slice_get fs n ≡ Some g → j < length g.points_of → b + i ≡ g.first_point_of + j → slice_get (points_in fs) i ≡ slice_get g.points_of j
unfolding AreNumbered points_in
own_point [] b t n i j g h e l s = cc
own_point (f ∷ fs) b t zero i j g h e l s =
    let is : f ≡ g = cc in
    let first : f.first_point_of ≡ g.first_point_of = ap (λ (f : PlainFlowFunction). f.first_point_of) is in
    let same : i ≡ j = omega (arith, s, h.0, first) in
    let long : i < length f.points_of = subst (λ (g : PlainFlowFunction). i < length g.points_of) (sym is) (subst (λ i. i < length g.points_of) (sym same) l) in
    get_left f.points_of (points_in fs) i long ∙ ap (λ (f : PlainFlowFunction). slice_get f.points_of i) is ∙ ap (slice_get g.points_of) same
own_point (f ∷ fs) b t (suc n) i j g h e l s =
    let least = first_least fs (b + length f.points_of) (t + f.slots_of) n g h.2 e in
    let rest = rest_of i (length f.points_of) (omega (arith, s, least)) in
    ap (slice_get (f.points_of ++ points_in fs)) rest.1 ∙ get_right f.points_of (points_in fs) rest.0
    ∙ own_point fs (b + length f.points_of) (t + f.slots_of) n rest.0 j g h.2 e l (omega (arith, s, rest.1))
  where
    rest_of : (i k : ℕ) → k ≤ i → (m : ℕ) × (i ≡ k + m)
    rest_of i zero h = (i, omega arith)
    rest_of zero (suc k) h = absurd (omega (arith, h))
    rest_of (suc i) (suc k) h = let r = rest_of i k (omega (arith, h)) in (r.0, omega (arith, r.1))

    first_least : (fs : List PlainFlowFunction) (b t n : ℕ) (g : PlainFlowFunction) → AreNumbered fs b t → slice_get fs n ≡ Some g → b ≤ g.first_point_of
    first_least [] b t n g h e = cc
    first_least (f ∷ fs) b t zero g h e = let is : f ≡ g = cc in let first : f.first_point_of ≡ g.first_point_of = ap (λ (f : PlainFlowFunction). f.first_point_of) is in omega (arith, h.0, first)
    first_least (f ∷ fs) b t (suc n) g h e = omega (arith, first_least fs (b + length f.points_of) (t + f.slots_of) n g h.2 e)

-- a function is of its form
pub function_fits : (flow : PlainFlow) (n : ℕ) (g : PlainFlowFunction) → IsFlow flow → function_at flow n ≡ Some g → FunctionFits flow.functions_of g
function_fits flow n g h e = All-contains (FunctionFits flow.functions_of) flow.functions_of g h.functions (get_contains flow.functions_of n g e)

-- and so is each of its points
pub point_fits : (flow : PlainFlow) (n p : ℕ) (g : PlainFlowFunction) (i : PlainPoint) → IsFlow flow → function_at flow n ≡ Some g → IsOwnPoint g p → point_at flow p ≡ Some i → PointFits flow.functions_of g i
unfolding point_at
point_fits flow n p g i h e o at =
    let j = behind p g.first_point_of o.least in
    let is = own_point flow.functions_of 0 0 n p j.0 g h.numbered e (omega (arith, o.most, j.1)) (omega (arith, j.1)) in
    All-contains (PointFits flow.functions_of g) g.points_of i (function_fits flow n g h e).points (get_contains g.points_of j.0 i (sym is ∙ at))
  where
    behind : (p k : ℕ) → k ≤ p → (m : ℕ) × (p ≡ k + m)
    behind p zero h = (p, omega arith)
    behind zero (suc k) h = absurd (omega (arith, h))
    behind (suc p) (suc k) h = let r = behind p k (omega (arith, h)) in (r.0, omega (arith, r.1))
