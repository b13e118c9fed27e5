-- Each position that may come next is one of the model's.
use Rattle.std.proofs.Common.{◌≡◌, ℕ, zero, suc, ◌+◌, ◌<◌, ◌≤◌, Bool, true, false, List, [], ◌∷◌, ◌++◌, refl, arith}
use Rattle.std.specs.Prelude.{if◌then◌else◌, ◌==◌}
use Rattle.dtd_model.specs.Table.{Model, one, sequence, choice, optional, any_number, at_least_one, Models, no_models, more_models}
use Rattle.dtd_model.specs.Matches.{may_be_empty, all_may_be_empty}
use Rattle.content_automata.specs.Positions.{Next, Position, positions, positions_in, firsts, firsts_in_turn, firsts_of_each, before_all, again, places, places_in_turn, places_of_each, at_end, first_of, places_of}
use Rattle.content_automata.specs.Walks.{place_at, joined}

pub data AllBelow (n : ℕ) : List ℕ → Type 0 where
  none : AllBelow n []
  more : {p : ℕ} {ps : List ℕ} → p < n → AllBelow n ps → AllBelow n (p ∷ ps)

pub below_both : (n : ℕ) (ps qs : List ℕ) → AllBelow n ps → AllBelow n qs → AllBelow n (ps ++ qs)
below_both n [] qs none b = b
below_both n (p ∷ ps) qs (more h a) b = more h (below_both n ps qs a b)

below_if : (n : ℕ) (x : Bool) (ps : List ℕ) → AllBelow n ps → AllBelow n (if x then ps else [])
below_if n true ps a = a
below_if n false ps a = none

mutual
  unfolding positions firsts

  pub firsts_below : (n base : ℕ) (m : Model) → base + positions m ≤ n → AllBelow n (firsts base m)
  firsts_below n base (one e) h = more (omega (arith, h)) none
  firsts_below n base (sequence ms) h = firsts_in_turn_below n base ms h
  firsts_below n base (choice ms) h = firsts_of_each_below n base ms h
  firsts_below n base (optional m) h = firsts_below n base m h
  firsts_below n base (any_number m) h = firsts_below n base m h
  firsts_below n base (at_least_one m) h = firsts_below n base m h

  pub firsts_in_turn_below : (n base : ℕ) (ms : Models) → base + positions_in ms ≤ n → AllBelow n (firsts_in_turn base ms)
  firsts_in_turn_below n base no_models h = none
  firsts_in_turn_below n base (more_models m ms) h =
      below_both n (firsts base m) (if may_be_empty m then firsts_in_turn (base + positions m) ms else []) (firsts_below n base m (omega (arith, h)))
      (below_if n (may_be_empty m) (firsts_in_turn (base + positions m) ms) (firsts_in_turn_below n (base + positions m) ms (omega (arith, h))))

  pub firsts_of_each_below : (n base : ℕ) (ms : Models) → base + positions_in ms ≤ n → AllBelow n (firsts_of_each base ms)
  firsts_of_each_below n base no_models h = none
  firsts_of_each_below n base (more_models m ms) h =
      below_both n (firsts base m) (firsts_of_each (base + positions m) ms) (firsts_below n base m (omega (arith, h))) (firsts_of_each_below n (base + positions m) ms (omega (arith, h)))

-- and so is each behind one of these
pub data AllPlaces (n : ℕ) : List Position → Type 0 where
  no_places : AllPlaces n []
  more_places : {p : Position} {ps : List Position} → AllBelow n p.behind.positions → AllPlaces n ps → AllPlaces n (p ∷ ps)

places_both : (n : ℕ) (ps qs : List Position) → AllPlaces n ps → AllPlaces n qs → AllPlaces n (ps ++ qs)
places_both n [] qs no_places b = b
places_both n (p ∷ ps) qs (more_places h a) b = more_places h (places_both n ps qs a b)

mutual
  unfolding positions places

  pub places_below : (n base : ℕ) (m : Model) (next : Next) → base + positions m ≤ n → AllBelow n next.positions → AllPlaces n (places base m next)
  places_below n base (one e) next h b = more_places b no_places
  places_below n base (sequence ms) next h b = places_in_turn_below n base ms next h b
  places_below n base (choice ms) next h b = places_of_each_below n base ms next h b
  places_below n base (optional m) next h b = places_below n base m next h b
  places_below n base (any_number m) next h b = places_below n base m (again base m next) h (below_both n (firsts base m) next.positions (firsts_below n base m h) b)
  places_below n base (at_least_one m) next h b = places_below n base m (again base m next) h (below_both n (firsts base m) next.positions (firsts_below n base m h) b)

  pub places_in_turn_below : (n base : ℕ) (ms : Models) (next : Next) → base + positions_in ms ≤ n → AllBelow n next.positions → AllPlaces n (places_in_turn base ms next)
  places_in_turn_below n base no_models next h b = no_places
  places_in_turn_below n base (more_models m ms) next h b =
      let inner = before_all (base + positions m) ms next in
      places_both n (places base m inner) (places_in_turn (base + positions m) ms next)
      (places_below n base m inner (omega (arith, h)) (below_both n (firsts_in_turn (base + positions m) ms) (if all_may_be_empty ms then next.positions else []) (firsts_in_turn_below n (base + positions m) ms (omega (arith, h))) (below_if n (all_may_be_empty ms) next.positions b)))
      (places_in_turn_below n (base + positions m) ms next (omega (arith, h)) b)

  pub places_of_each_below : (n base : ℕ) (ms : Models) (next : Next) → base + positions_in ms ≤ n → AllBelow n next.positions → AllPlaces n (places_of_each base ms next)
  places_of_each_below n base no_models next h b = no_places
  places_of_each_below n base (more_models m ms) next h b =
      places_both n (places base m next) (places_of_each (base + positions m) ms next) (places_below n base m next (omega (arith, h)) b) (places_of_each_below n (base + positions m) ms next (omega (arith, h)) b)

pub all_below : (m : Model) → AllPlaces (positions m) (places_of m)
all_below m = places_below (positions m) 0 m at_end (omega arith) none

pub first_below : (m : Model) → AllBelow (positions m) (first_of m).positions
first_below m = below_both (positions m) (firsts 0 m) (if may_be_empty m then [] else []) (firsts_below (positions m) 0 m (omega arith)) (below_if (positions m) (may_be_empty m) [] none)

pub place_below : (n : ℕ) (ps : List Position) → AllPlaces n ps → (p : ℕ) → AllBelow n (place_at ps p).behind.positions
place_below n [] no_places p = none
place_below n (q ∷ ps) (more_places h a) zero = h
place_below n (q ∷ ps) (more_places h a) (suc p) = place_below n ps a p

pub joined_below : (n : ℕ) (ps : List Position) → AllPlaces n ps → (e : ℕ) (qs : List ℕ) → AllBelow n (joined (place_at ps) e qs).positions
joined_below n ps a e [] = none
joined_below n ps a e (q ∷ qs) = go (e == (place_at ps q).element) refl (joined_below n ps a e qs)
  where
    go : (x : Bool) → (e == (place_at ps q).element) ≡ x → AllBelow n (joined (place_at ps) e qs).positions → AllBelow n (joined (place_at ps) e (q ∷ qs)).positions
    go true h rest = rw h (below_both n (place_at ps q).behind.positions (joined (place_at ps) e qs).positions (place_below n ps a q) rest)
    go false h rest = rw h rest
