-- The bytes of forks.
use Rattle.std.proofs.Common.{◌≡◌, ℕ, zero, suc, ◌+◌, ◌<◌, ◌≤◌, ◌⊎◌, inl, inr, List, [], ◌∷◌, ◌++◌, length, Option, None, Some, refl, sym, ◌∙◌, ap, subst, arith, slice_get, zero-add}
use Rattle.std.specs.Prelude.{slice_index_or}
use Rattle.std.proofs.lemmas.List.{get_or_append_left, get_or_push}
use Rattle.derivations.specs.declared.fork.Piece.{Piece}
use Rattle.derivations.specs.declared.fork.Piece.TheVariants.{Byte, Fork as AtFork}
use Rattle.derivations.specs.declared.fork.Fork.{Fork}
use Rattle.derivations.specs.Forks.{piece_bytes, fork_bytes, forks_bytes, bytes_at, maybe_bytes, rank, maybe_rank, AreForks}

pub longer : {X : Type 0} (xs : List X) (x : X) → length (xs ++ x ∷ []) ≡ length xs + 1
longer [] x = refl
longer (y ∷ xs) x = let e = longer xs x in omega (arith, e)

kept : (forks : List Fork) (known : List (List ℕ)) (n : ℕ) → n < length known → slice_index_or (forks_bytes known forks) n [] ≡ slice_index_or known n []
kept [] known n h = refl
kept (f ∷ forks) known n h =
    let l = longer known (fork_bytes known f) in
    kept forks (known ++ fork_bytes known f ∷ []) n (omega (arith, h, l)) ∙ get_or_append_left known (fork_bytes known f ∷ []) [] n h

piece_kept : (forks : List Fork) (known : List (List ℕ)) (p : Piece) → rank p ≤ length known → piece_bytes (forks_bytes known forks) p ≡ piece_bytes known p
piece_kept forks known (Byte b) h = refl
piece_kept forks known (AtFork n) h = kept forks known n (omega (arith, h))

fork_kept : (forks : List Fork) (known : List (List ℕ)) (f : Fork) → rank f.first ≤ length known → rank f.second ≤ length known → fork_bytes (forks_bytes known forks) f ≡ fork_bytes known f
fork_kept forks known f a b =
    ap (λ (v : List ℕ). v ++ piece_bytes (forks_bytes known forks) f.second) (piece_kept forks known f.first a)
    ∙ ap (λ (v : List ℕ). piece_bytes known f.first ++ v) (piece_kept forks known f.second b)

many : (known : List (List ℕ)) (forks : List Fork) → length (forks_bytes known forks) ≡ length known + length forks
many known [] = omega arith
many known (f ∷ forks) =
    let e = many (known ++ fork_bytes known f ∷ []) forks in
    let l = longer known (fork_bytes known f) in
    omega (arith, e, l)

in_turn : (known : List (List ℕ)) (a b : List Fork) → forks_bytes known (a ++ b) ≡ forks_bytes (forks_bytes known a) b
in_turn known [] b = refl
in_turn known (f ∷ a) b = in_turn (known ++ fork_bytes known f ∷ []) a b

opened : (forks : List Fork) (known : List (List ℕ)) (n i : ℕ) (f : Fork) → i ≡ length known + n → slice_get forks n ≡ Some f → rank f.first ≤ i → rank f.second ≤ i → slice_index_or (forks_bytes known forks) i [] ≡ fork_bytes (forks_bytes known forks) f
opened [] known n i f e at a b = cc
opened (g ∷ forks) known zero i f e at a b =
    let same : g ≡ f = cc in
    let l = longer known (fork_bytes known g) in
    let here : i ≡ length known = omega (arith, e) in
    kept forks (known ++ fork_bytes known g ∷ []) i (omega (arith, l, here))
    ∙ get_or_push known (fork_bytes known g) [] i (sym here)
    ∙ ap (fork_bytes known) same
    ∙ sym (fork_kept (g ∷ forks) known f (omega (arith, a, here)) (omega (arith, b, here)))
opened (g ∷ forks) known (suc n) i f e at a b =
    let l = longer known (fork_bytes known g) in
    opened forks (known ++ fork_bytes known g ∷ []) n i f (omega (arith, e, l)) at a b

-- a fork is its two pieces
pub at_fork : (forks : List Fork) (n : ℕ) (f : Fork) → AreForks forks → slice_get forks n ≡ Some f → bytes_at forks (AtFork n) ≡ bytes_at forks f.first ++ bytes_at forks f.second
at_fork forks n f lawful at = opened forks [] n n f (sym (zero-add n)) at (lawful.first n f at) (lawful.second n f at)

-- more forks change no bytes
pub still : (old more : List Fork) (p : Piece) → rank p ≤ length old → bytes_at (old ++ more) p ≡ bytes_at old p
still old more p h =
    let m = many [] old in
    ap (λ (known : List (List ℕ)). piece_bytes known p) (in_turn [] old more) ∙ piece_kept more (forks_bytes [] old) p (omega (arith, m, h))

pub maybe_still : (old more : List Fork) (o : Option Piece) → maybe_rank o ≤ length old → maybe_bytes (old ++ more) o ≡ maybe_bytes old o
maybe_still old more None h = refl
maybe_still old more (Some p) h = still old more p h

pub get_cases : {X : Type 0} (xs : List X) (x : X) (n : ℕ) (y : X) → slice_get (xs ++ x ∷ []) n ≡ Some y → (slice_get xs n ≡ Some y) ⊎ ((n ≡ length xs) × (x ≡ y))
get_cases [] x zero y e = let same : x ≡ y = cc in inr (refl, same)
get_cases [] x (suc n) y e = cc
get_cases (z ∷ xs) x zero y e = inl e
get_cases (z ∷ xs) x (suc n) y e = elim (get_cases xs x n y e) [ inl k ↦ inl k | inr k ↦ inr (omega (arith, k.0), k.1) ]

pub get_last : {X : Type 0} (xs : List X) (x : X) → slice_get (xs ++ x ∷ []) (length xs) ≡ Some x
get_last [] x = refl
get_last (y ∷ xs) x = get_last xs x

pub no_forks : AreForks []
no_forks = record { first = λ n f at. cc; second = λ n f at. cc }

pub one_more : (old : List Fork) (f : Fork) → AreForks old → rank f.first ≤ length old → rank f.second ≤ length old → AreForks (old ++ f ∷ [])
one_more old f lawful a b = record {
  first = λ n g at. elim (get_cases old f n g at) [
    | inl k ↦ lawful.first n g k
    | inr k ↦ subst (λ (x : Fork). rank x.first ≤ n) k.1 (omega (arith, a, k.0))
  ];
  second = λ n g at. elim (get_cases old f n g at) [
    | inl k ↦ lawful.second n g k
    | inr k ↦ subst (λ (x : Fork). rank x.second ≤ n) k.1 (omega (arith, b, k.0))
  ];
}

-- a new fork is its two pieces
pub new_fork : (old : List Fork) (p q : Piece) → AreForks old → rank p ≤ length old → rank q ≤ length old → bytes_at (old ++ (record { first = p; second = q }) ∷ []) (AtFork (length old)) ≡ bytes_at old p ++ bytes_at old q
new_fork old p q lawful a b =
    let f : Fork = record { first = p; second = q } in
    at_fork (old ++ f ∷ []) (length old) f (one_more old f lawful a b) (get_last old f)
    ∙ ap (λ (v : List ℕ). v ++ bytes_at (old ++ f ∷ []) q) (still old (f ∷ []) p a)
    ∙ ap (λ (v : List ℕ). bytes_at old p ++ v) (still old (f ∷ []) q b)
