-- How many pairs the positions of a model have is what is counted without them.
use Rattle.std.proofs.Common.{◌≡◌, ℕ, ◌+◌, ◌&&◌, Bool, true, false, List, [], ◌∷◌, ◌++◌, length, refl, ap, sym, ◌∙◌, arith}
use Rattle.std.specs.Prelude.{if◌then◌else◌}
use Rattle.dtd_model.specs.Table.{Model, one, sequence, choice, optional, any_number, at_least_one, Models, no_models, more_models}
use Rattle.dtd_model.specs.Matches.{may_be_empty, all_may_be_empty}
use Rattle.content_automata.specs.Positions.{Next, Position, positions, firsts, firsts_in_turn, firsts_of_each, before_all, again, places, places_in_turn, places_of_each, at_end, places_of}
use Rattle.content_automata.specs.Counts.{pairs_at, beginnings, ahead, beginnings_of_each, pairs, pairs_in_turn, pairs_of_each}

both_long : (xs ys : List ℕ) → length (xs ++ ys) ≡ length xs + length ys
both_long [] ys = omega arith
both_long (x ∷ xs) ys = let e = both_long xs ys in omega (arith, e)

if_long : (b : Bool) (xs : List ℕ) (n : ℕ) → length xs ≡ n → length (if b then xs else []) ≡ (if b then n else 0)
if_long true xs n h = h
if_long false xs n h = refl

both_pairs : (xs ys : List Position) → pairs_at (xs ++ ys) ≡ pairs_at xs + pairs_at ys
both_pairs [] ys = omega arith
both_pairs (x ∷ xs) ys = let e = both_pairs xs ys in omega (arith, e)

mutual
  unfolding firsts beginnings

  pub firsts_long : (base : ℕ) (m : Model) → length (firsts base m) ≡ beginnings m
  firsts_long base (one e) = refl
  firsts_long base (sequence ms) = in_turn_long base ms
  firsts_long base (choice ms) = of_each_long base ms
  firsts_long base (optional m) = firsts_long base m
  firsts_long base (any_number m) = firsts_long base m
  firsts_long base (at_least_one m) = firsts_long base m

  pub in_turn_long : (base : ℕ) (ms : Models) → length (firsts_in_turn base ms) ≡ ahead ms 0
  in_turn_long base no_models = refl
  in_turn_long base (more_models m ms) =
      both_long (firsts base m) (if may_be_empty m then firsts_in_turn (base + positions m) ms else [])
      ∙ ap (λ (n : ℕ). n + length (if may_be_empty m then firsts_in_turn (base + positions m) ms else [])) (firsts_long base m)
      ∙ ap (λ (n : ℕ). beginnings m + n) (if_long (may_be_empty m) (firsts_in_turn (base + positions m) ms) (ahead ms 0) (in_turn_long (base + positions m) ms))

  pub of_each_long : (base : ℕ) (ms : Models) → length (firsts_of_each base ms) ≡ beginnings_of_each ms
  of_each_long base no_models = refl
  of_each_long base (more_models m ms) =
      let first = firsts_long base m in
      let others = of_each_long (base + positions m) ms in
      let all = both_long (firsts base m) (firsts_of_each (base + positions m) ms) in
      omega (arith, first, others, all)

-- what may come behind the models comes next where each of them may be empty
ahead_more : (ms : Models) (n : ℕ) → ahead ms n ≡ ahead ms 0 + (if all_may_be_empty ms then n else 0)
unfolding beginnings may_be_empty
ahead_more no_models n = omega arith
ahead_more (more_models m ms) n = go (may_be_empty m) (ahead_more ms n)
  where
    go : (b : Bool) → ahead ms n ≡ ahead ms 0 + (if all_may_be_empty ms then n else 0)
        → beginnings m + (if b then ahead ms n else 0) ≡ (beginnings m + (if b then ahead ms 0 else 0)) + (if b && all_may_be_empty ms then n else 0)
    go true e = omega (arith, e)
    go false e = omega arith

before_all_long : (base : ℕ) (ms : Models) (next : Next) → length (before_all base ms next).positions ≡ ahead ms (length next.positions)
before_all_long base ms next =
    both_long (firsts_in_turn base ms) (if all_may_be_empty ms then next.positions else [])
    ∙ ap (λ (n : ℕ). n + length (if all_may_be_empty ms then next.positions else [])) (in_turn_long base ms)
    ∙ ap (λ (n : ℕ). ahead ms 0 + n) (if_long (all_may_be_empty ms) next.positions (length next.positions) refl)
    ∙ sym (ahead_more ms (length next.positions))

again_long : (base : ℕ) (m : Model) (next : Next) → length (again base m next).positions ≡ beginnings m + length next.positions
again_long base m next = both_long (firsts base m) next.positions ∙ ap (λ (n : ℕ). n + length next.positions) (firsts_long base m)

mutual
  unfolding places pairs

  pub pairs_are : (base : ℕ) (m : Model) (next : Next) → pairs_at (places base m next) ≡ pairs m (length next.positions)
  pairs_are base (one e) next = omega arith
  pairs_are base (sequence ms) next = pairs_in_turn_are base ms next
  pairs_are base (choice ms) next = pairs_of_each_are base ms next
  pairs_are base (optional m) next = pairs_are base m next
  pairs_are base (any_number m) next = pairs_are base m (again base m next) ∙ ap (pairs m) (again_long base m next)
  pairs_are base (at_least_one m) next = pairs_are base m (again base m next) ∙ ap (pairs m) (again_long base m next)

  pub pairs_in_turn_are : (base : ℕ) (ms : Models) (next : Next) → pairs_at (places_in_turn base ms next) ≡ pairs_in_turn ms (length next.positions)
  pairs_in_turn_are base no_models next = refl
  pairs_in_turn_are base (more_models m ms) next =
      let first = pairs_are base m (before_all (base + positions m) ms next) ∙ ap (pairs m) (before_all_long (base + positions m) ms next) in
      let others = pairs_in_turn_are (base + positions m) ms next in
      let all = both_pairs (places base m (before_all (base + positions m) ms next)) (places_in_turn (base + positions m) ms next) in
      omega (arith, first, others, all)

  pub pairs_of_each_are : (base : ℕ) (ms : Models) (next : Next) → pairs_at (places_of_each base ms next) ≡ pairs_of_each ms (length next.positions)
  pairs_of_each_are base no_models next = refl
  pairs_of_each_are base (more_models m ms) next =
      let first = pairs_are base m next in
      let others = pairs_of_each_are (base + positions m) ms next in
      let all = both_pairs (places base m next) (places_of_each (base + positions m) ms next) in
      omega (arith, first, others, all)

-- of a whole content model
pub model_pairs : (m : Model) → pairs m 0 ≡ pairs_at (places_of m)
model_pairs m = sym (pairs_are 0 m at_end)
