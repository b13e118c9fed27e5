-- Where points stand.
use Rattle.std.proofs.Common.{◌≡◌, ℕ, ◌+◌, ◌<◌, List, [], ◌∷◌, ◌++◌, length, Some, ap, ◌∙◌, subst, arith, append_assoc, length-append, slice_get}
use Rattle.std.proofs.Math.Seq.{get_or-append_seam}
use Rattle.std.proofs.lemmas.Option.{slice_get-get_or}
use Rattle.flow_code.specs.Points.{PlainPoint, PlainFlow, point_at, points_in}

-- the points stand from this number on
abbrev pub HasAt : PlainFlow → ℕ → List PlainPoint → Type 0
HasAt flow p [] = Unit {0}
HasAt flow p (i ∷ is) = (point_at flow p ≡ Some i) × HasAt flow (p + 1) is

pub has_front : (flow : PlainFlow) (p : ℕ) (a b : List PlainPoint) → HasAt flow p (a ++ b) → HasAt flow p a
has_front flow p [] b h = tt
has_front flow p (i ∷ a) b h = (h.0, has_front flow (p + 1) a b h.1)

has_later : (flow : PlainFlow) (p : ℕ) (a b : List PlainPoint) → HasAt flow p (a ++ b) → HasAt flow (p + length a) b
has_later flow p [] b h = let e : p ≡ p + 0 = omega arith in subst (λ n. HasAt flow n b) e h
has_later flow p (i ∷ a) b h =
    let e : p + 1 + length a ≡ p + length (i ∷ a) = omega arith in
    subst (λ n. HasAt flow n b) e (has_later flow (p + 1) a b h.1)

pub has_back : (flow : PlainFlow) (p n : ℕ) (a b : List PlainPoint) → length a ≡ n → HasAt flow p (a ++ b) → HasAt flow (p + n) b
has_back flow p n a b e h = subst (λ m. HasAt flow (p + m) b) e (has_later flow p a b h)

pub has_moved : (flow : PlainFlow) (p q : ℕ) (a : List PlainPoint) → p ≡ q → HasAt flow p a → HasAt flow q a
has_moved flow p q a e h = subst (λ n. HasAt flow n a) e h

-- those of a list stand in it
abbrev HasIn : List PlainPoint → ℕ → List PlainPoint → Type 0
HasIn all p [] = Unit {0}
HasIn all p (i ∷ is) = (slice_get all p ≡ Some i) × HasIn all (p + 1) is

has_in : (is pre : List PlainPoint) → HasIn (pre ++ is) (length pre) is
has_in [] pre = tt
has_in (i ∷ is) pre =
    let within : length pre < length (pre ++ i ∷ is) = omega (arith, length-append pre (i ∷ is)) in
    let here = slice_get-get_or (pre ++ i ∷ is) (length pre) i within ∙ ap Some (get_or-append_seam pre i is i) in
    let n : length (pre ++ i ∷ []) ≡ length pre + 1 = omega (arith, length-append pre (i ∷ [])) in
    let rest = has_in is (pre ++ i ∷ []) in
    let rest' = subst (λ l. HasIn l (length (pre ++ i ∷ [])) is) (append_assoc pre (i ∷ []) is) rest in
    (here, subst (λ m. HasIn (pre ++ i ∷ is) m is) n rest')

has_of_in : (flow : PlainFlow) (is : List PlainPoint) (p : ℕ) → HasIn (points_in flow.functions_of) p is → HasAt flow p is
unfolding point_at
has_of_in flow [] p h = tt
has_of_in flow (i ∷ is) p h = (h.0, has_of_in flow is (p + 1) h.1)

pub has_all : (flow : PlainFlow) → HasAt flow 0 (points_in flow.functions_of)
has_all flow = has_of_in flow (points_in flow.functions_of) 0 (has_in (points_in flow.functions_of) [])

pub two_long : (a b : List PlainPoint) (m n k : ℕ) → length a ≡ m → length b ≡ n → m + n ≡ k → length (a ++ b) ≡ k
two_long a b m n k ea eb e = omega (arith, length-append a b, ea, eb, e)

-- with a point between
pub mid_long : (a : List PlainPoint) (i : PlainPoint) (b : List PlainPoint) (m n k : ℕ) → length a ≡ m → length b ≡ n → m + 1 + n ≡ k → length (a ++ i ∷ b) ≡ k
mid_long a i b m n k ea eb e = omega (arith, length-append a (i ∷ b), ea, eb, e)

pub last_long : (a : List PlainPoint) (i : PlainPoint) (m : ℕ) → length a ≡ m → length (a ++ i ∷ []) ≡ m + 1
last_long a i m ea = omega (arith, length-append a (i ∷ []), ea)
