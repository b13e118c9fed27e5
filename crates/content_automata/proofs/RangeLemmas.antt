-- Lists that a function gives of numbers in turn.
use Rattle.std.proofs.Common.{◌≡◌, ℕ, zero, suc, ◌+◌, ◌<◌, ◌≤◌, Bool, true, false, ◌||◌, List, [], ◌∷◌, length, map, refl, ap, sym, ◌∙◌, arith}
use Rattle.std.specs.Prelude.{if◌then◌else◌, ◌==◌, nat_eq, replicate, set, slice_index_or}
use Rattle.std.specs.List.{range_with_len, list_any}
use Rattle.std.proofs.lemmas.Bool.{eq-eqb, eqb-true}
use Rattle.content_automata.specs.Positions.{Next}
use Rattle.content_automata.specs.Sets.{raised, set_of}

pub differ : (i k : ℕ) → (i ≡ k → ⊥) → (i == k) ≡ false
differ i k h = go (i == k) refl
  where
    go : (b : Bool) → (i == k) ≡ b → (i == k) ≡ false
    go true e = absurd (h (eqb-true i k e))
    go false e = e

-- only what is given in the range counts
pub same_range : {X : Type 0} (f g : ℕ → X) (a n : ℕ) → ((i : ℕ) → a ≤ i → i < a + n → f i ≡ g i) → map f (range_with_len a n) ≡ map g (range_with_len a n)
same_range f g a zero h = refl
same_range {X} f g a (suc n) h =
    ap (λ (x : X). x ∷ map f (range_with_len (a + 1) n)) (h a (omega arith) (omega arith))
    ∙ ap (λ (xs : List X). g a ∷ xs) (same_range f g (a + 1) n (λ i l b. h i (omega (arith, l)) (omega (arith, b))))

-- one place is written
pub set_range : {X : Type 0} (f : ℕ → X) (a n q : ℕ) (x : X) → set (map f (range_with_len a n)) q x ≡ map (λ i. if i == a + q then x else f i) (range_with_len a n)
set_range f a zero q x = refl
set_range {X} f a (suc n) zero x =
    ap (λ (b : Bool). (if b then x else f a) ∷ map f (range_with_len (a + 1) n)) (sym (eq-eqb a (a + 0) (omega arith)))
    ∙ ap (λ (xs : List X). (if a == a + 0 then x else f a) ∷ xs)
    (same_range f (λ i. if i == a + 0 then x else f i) (a + 1) n (λ i l b. ap (λ (t : Bool). if t then x else f i) (sym (differ i (a + 0) (λ e. omega (arith, l, e))))))
set_range {X} f a (suc n) (suc q) x =
    ap (λ (b : Bool). (if b then x else f a) ∷ set (map f (range_with_len (a + 1) n)) q x) (sym (differ a (a + suc q) (λ e. omega (arith, e))))
    ∙ ap (λ (xs : List X). (if a == a + suc q then x else f a) ∷ xs)
    (set_range f (a + 1) n q x ∙ ap (λ (k : ℕ). map (λ i. if i == k then x else f i) (range_with_len (a + 1) n)) (let e : (a + 1) + q ≡ a + suc q = omega arith in e))

-- what is given at a place
pub at_range : {X : Type 0} (f : ℕ → X) (a n i : ℕ) (d : X) → i < n → slice_index_or (map f (range_with_len a n)) i d ≡ f (a + i)
at_range f a zero i d h = absurd (omega (arith, h))
at_range f a (suc n) zero d h = ap f (let e : a ≡ a + 0 = omega arith in e)
at_range f a (suc n) (suc i) d h = at_range f (a + 1) n i d (omega (arith, h)) ∙ ap f (let e : (a + 1) + i ≡ a + suc i = omega arith in e)

pub length_range : {X : Type 0} (f : ℕ → X) (a n : ℕ) → length (map f (range_with_len a n)) ≡ n
length_range f a zero = refl
length_range f a (suc n) = let e = length_range f (a + 1) n in omega (arith, e)

pub map_range : {X Y : Type 0} (g : X → Y) (f : ℕ → X) (a n : ℕ) → map g (map f (range_with_len a n)) ≡ map (λ i. g (f i)) (range_with_len a n)
map_range g f a zero = refl
map_range {X} {Y} g f a (suc n) = ap (λ (ys : List Y). g (f a) ∷ ys) (map_range g f (a + 1) n)

pub replicate_range : {X : Type 0} (x : X) (a n : ℕ) → replicate n x ≡ map (λ i. x) (range_with_len a n)
replicate_range x a zero = refl
replicate_range {X} x a (suc n) = ap (λ (xs : List X). x ∷ xs) (replicate_range x (a + 1) n)

raised_step : (b x rest : Bool) → ((if x then true else b) || rest) ≡ (b || (x || rest))
raised_step true true rest = refl
raised_step true false rest = refl
raised_step false true rest = refl
raised_step false false rest = refl

no_more : (b : Bool) → b ≡ (b || false)
no_more true = refl
no_more false = refl

-- flags, of which those listed are raised besides
pub raised_range : (f : ℕ → Bool) (n : ℕ) (ps : List ℕ) → raised (map f (range_with_len 0 n)) ps ≡ map (λ i. f i || list_any (nat_eq i) ps) (range_with_len 0 n)
raised_range f n [] = same_range f (λ i. f i || false) 0 n (λ i l b. no_more (f i))
raised_range f n (p ∷ ps) =
    ap (λ (bs : List Bool). raised bs ps) (set_range f 0 n p true)
    ∙ raised_range (λ i. if i == 0 + p then true else f i) n ps
    ∙ same_range (λ i. (if i == 0 + p then true else f i) || list_any (nat_eq i) ps) (λ i. f i || list_any (nat_eq i) (p ∷ ps)) 0 n
    (λ i l b.
    ap (λ (k : ℕ). (if i == k then true else f i) || list_any (nat_eq i) ps) (let e : 0 + p ≡ p = omega arith in e)
    ∙ raised_step (f i) (i == p) (list_any (nat_eq i) ps))

-- of so many flags those listed are raised
pub listed_range : (n : ℕ) (ps : List ℕ) → raised (replicate n false) ps ≡ map (λ i. list_any (nat_eq i) ps) (range_with_len 0 n)
listed_range n ps = ap (λ (bs : List Bool). raised bs ps) (replicate_range false 0 n) ∙ raised_range (λ i. false) n ps

pub set_is_range : (n : ℕ) (next : Next) → set_of n next ≡ next.whole ∷ map (λ i. list_any (nat_eq i) next.positions) (range_with_len 0 n)
set_is_range n next = ap (λ (bs : List Bool). next.whole ∷ bs) (listed_range n next.positions)

-- a set of so many positions has one flag more
pub set_sized : (n : ℕ) (next : Next) → length (set_of n next) ≡ n + 1
set_sized n next =
    let e = ap (λ (bs : List Bool). length bs) (set_is_range n next) in
    let l = length_range (λ i. list_any (nat_eq i) next.positions) 0 n in
    omega (arith, e, l)
