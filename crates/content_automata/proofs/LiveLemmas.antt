-- Behind each position of a lawful content model some elements lead to its end.
use Rattle.std.proofs.Common.{◌≡◌, ℕ, zero, suc, ◌+◌, ◌<◌, Bool, true, ◌||◌, List, [], ◌∷◌, ◌++◌, length, Contains, refl, ap, ◌∙◌, arith}
use Rattle.std.specs.Cmp.{first_so, second_so}
use Rattle.dtd_model.specs.Table.{Model, one, sequence, choice, optional, any_number, at_least_one, Models, no_models, more_models}
use Rattle.dtd_model.specs.Matches.{may_be_empty, after}
use Rattle.dtd_model.specs.Lawful.{is_within, are_within, has_matches, all_have_matches, is_nonempty}
use Rattle.content_automata.specs.Positions.{Next, Position, positions, firsts, before, before_all, again, places, places_in_turn, places_of_each, at_end, first_of, places_of}
use Rattle.content_automata.specs.Walks.{place_at, leads}
use Rattle.content_automata.proofs.Passing.{then_passes}
use Rattle.content_automata.proofs.Walking.{Are, are_front, are_back, are_places, as_many, begins, before_leads, again_leads}
use Rattle.content_automata.proofs.PassLemmas.{Passes, passes_model}

-- some elements that are declared lead from here to the end
abbrev pub Lives : (ℕ → Position) → ℕ → Next → Type 0
Lives at count next = Passes count (leads at next)

as_passes : (count : ℕ) (f g : List ℕ → Bool) → ((es : List ℕ) → g es ≡ f es) → Passes count f → Passes count g
as_passes count f g same p = record { list = p.list; below = p.below; passes = same p.list ∙ p.passes }

-- behind each of these positions
abbrev pub AllLive : (ℕ → Position) → ℕ → List Position → Type 0
AllLive at count [] = Unit {0}
AllLive at count (p ∷ ps) = Lives at count p.behind × AllLive at count ps

live_both : (at : ℕ → Position) (count : ℕ) (xs ys : List Position) → AllLive at count xs → AllLive at count ys → AllLive at count (xs ++ ys)
live_both at count [] ys a b = b
live_both at count (x ∷ xs) ys a b = (a.0, live_both at count xs ys a.1 b)

-- before a model that is lawful
before_lives : (at : ℕ → Position) (count base : ℕ) (m : Model) (next : Next) → is_within count m ≡ true → has_matches m ≡ true → Are at base (places base m next) → Lives at count next → Lives at count (before base m next)
before_lives at count base m next w h a lives =
    as_passes count (then_passes m (leads at next)) (leads at (before base m next)) (before_leads at base m next (begins at base m next a)) (passes_model count m (leads at next) w h lives)

before_all_lives : (at : ℕ → Position) (count base : ℕ) (ms : Models) (next : Next) → are_within count ms ≡ true → all_have_matches ms ≡ true → Are at base (places_in_turn base ms next) → Lives at count next → Lives at count (before_all base ms next)
unfolding places firsts may_be_empty is_within has_matches
before_all_lives at count base ms next w h a lives = before_lives at count base (sequence ms) next w h a lives

-- before a model that may come again
again_lives : (at : ℕ → Position) (count base : ℕ) (m : Model) (next : Next) → Are at base (places base m (again base m next)) → Lives at count next → Lives at count (again base m next)
unfolding may_be_empty is_within has_matches
again_lives at count base m next a lives =
    as_passes count (then_passes (any_number m) (leads at next)) (leads at (again base m next)) (again_leads at base m next (begins at base m (again base m next) a))
    (record { list = lives.list; below = lives.below; passes = stays lives.list lives.passes })
  where
    stays : (es : List ℕ) → leads at next es ≡ true → then_passes (any_number m) (leads at next) es ≡ true
    stays [] h = h
    stays (e ∷ es) h = ap (λ (b : Bool). b || then_passes (after e (any_number m)) (leads at next) es) h

mutual
  unfolding positions firsts places may_be_empty is_within has_matches

  pub all_live : (at : ℕ → Position) (count base : ℕ) (m : Model) (next : Next) → is_within count m ≡ true → has_matches m ≡ true → Are at base (places base m next) → Lives at count next → AllLive at count (places base m next)
  all_live at count base (one e) next w h a lives = (lives, tt)
  all_live at count base (sequence ms) next w h a lives = live_in_turn at count base ms next w h a lives
  all_live at count base (choice ms) next w h a lives = live_of_each at count base ms next w (second_so (is_nonempty ms) (all_have_matches ms) h) a lives
  all_live at count base (optional m) next w h a lives = all_live at count base m next w h a lives
  all_live at count base (any_number m) next w h a lives = all_live at count base m (again base m next) w h a (again_lives at count base m next a lives)
  all_live at count base (at_least_one m) next w h a lives = all_live at count base m (again base m next) w h a (again_lives at count base m next a lives)

  pub live_in_turn : (at : ℕ → Position) (count base : ℕ) (ms : Models) (next : Next) → are_within count ms ≡ true → all_have_matches ms ≡ true → Are at base (places_in_turn base ms next) → Lives at count next → AllLive at count (places_in_turn base ms next)
  live_in_turn at count base no_models next w h a lives = tt
  live_in_turn at count base (more_models m ms) next w h a lives =
      let inner = before_all (base + positions m) ms next in
      let front = are_front at base (places base m inner) (places_in_turn (base + positions m) ms next) a in
      let back = are_back at base (positions m) (places base m inner) (places_in_turn (base + positions m) ms next) (as_many base m inner) a in
      let w_rest = second_so (is_within count m) (are_within count ms) w in
      let h_rest = second_so (has_matches m) (all_have_matches ms) h in
      live_both at count (places base m inner) (places_in_turn (base + positions m) ms next)
      (all_live at count base m inner (first_so (is_within count m) (are_within count ms) w) (first_so (has_matches m) (all_have_matches ms) h) front (before_all_lives at count (base + positions m) ms next w_rest h_rest back lives))
      (live_in_turn at count (base + positions m) ms next w_rest h_rest back lives)

  pub live_of_each : (at : ℕ → Position) (count base : ℕ) (ms : Models) (next : Next) → are_within count ms ≡ true → all_have_matches ms ≡ true → Are at base (places_of_each base ms next) → Lives at count next → AllLive at count (places_of_each base ms next)
  live_of_each at count base no_models next w h a lives = tt
  live_of_each at count base (more_models m ms) next w h a lives =
      let front = are_front at base (places base m next) (places_of_each (base + positions m) ms next) a in
      let back = are_back at base (positions m) (places base m next) (places_of_each (base + positions m) ms next) (as_many base m next) a in
      live_both at count (places base m next) (places_of_each (base + positions m) ms next)
      (all_live at count base m next (first_so (is_within count m) (are_within count ms) w) (first_so (has_matches m) (all_have_matches ms) h) front lives)
      (live_of_each at count (base + positions m) ms next (second_so (is_within count m) (are_within count ms) w) (second_so (has_matches m) (all_have_matches ms) h) back lives)

end_lives : (at : ℕ → Position) (count : ℕ) → Lives at count at_end
end_lives at count = record { list = []; below = λ e h. absurd (none e h); passes = refl }
  where
    none : (e : ℕ) → Contains {X = ℕ} [] e → ⊥
    none e h = let within = h.1 in omega (arith, within)

-- from the beginning, and behind each position
pub first_lives : (count : ℕ) (m : Model) → is_within count m ≡ true → has_matches m ≡ true → Lives (place_at (places_of m)) count (first_of m)
first_lives count m w h = before_lives (place_at (places_of m)) count 0 m at_end w h (are_places (places_of m)) (end_lives (place_at (places_of m)) count)

pub places_live : (count : ℕ) (m : Model) → is_within count m ≡ true → has_matches m ≡ true → AllLive (place_at (places_of m)) count (places_of m)
places_live count m w h = all_live (place_at (places_of m)) count 0 m at_end w h (are_places (places_of m)) (end_lives (place_at (places_of m)) count)

pub place_lives : (at : ℕ → Position) (count : ℕ) (ps : List Position) → AllLive at count ps → (p : ℕ) → p < length ps → Lives at count (place_at ps p).behind
place_lives at count [] a p h = absurd (omega (arith, h))
place_lives at count (q ∷ ps) a zero h = a.0
place_lives at count (q ∷ ps) a (suc p) h = place_lives at count ps a.1 p (omega (arith, h))
