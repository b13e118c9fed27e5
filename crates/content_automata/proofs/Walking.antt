-- A walk over the positions decides what the model matches.
use Rattle.std.proofs.Common.{◌≡◌, ℕ, zero, suc, ◌+◌, ◌≤◌, Bool, true, false, ◌&&◌, ◌||◌, List, [], ◌∷◌, ◌++◌, length, refl, ap, sym, ◌∙◌, subst, arith}
use Rattle.std.specs.Prelude.{if◌then◌else◌, ◌==◌}
use Rattle.std.specs.List.{list_any}
use Rattle.dtd_model.specs.Table.{Model, one, sequence, choice, optional, any_number, at_least_one, Models, no_models, more_models}
use Rattle.dtd_model.specs.Matches.{may_be_empty, all_may_be_empty, after, after_first, after_each, both, model_matches}
use Rattle.content_automata.specs.Positions.{Next, Position, positions, positions_in, firsts, firsts_in_turn, firsts_of_each, before, before_all, again, places, places_in_turn, places_of_each, at_end, first_of, places_of}
use Rattle.content_automata.specs.Walks.{leads, place_at}
use Rattle.content_automata.proofs.Bools.{or_false, or_turned, or_joined}
use Rattle.content_automata.proofs.Passing.{then_passes, same_short, same_tests, never_passes, choice_passes, nothing_passes, sequence_passes, both_pass, any_number_passes, is_nil, whole_match}

-- the positions from this number on are these
abbrev pub Are : (ℕ → Position) → ℕ → List Position → Type 0
Are at base [] = Unit {0}
Are at base (p ∷ ps) = (at base ≡ p) × Are at (suc base) ps

pub are_front : (at : ℕ → Position) (base : ℕ) (xs ys : List Position) → Are at base (xs ++ ys) → Are at base xs
are_front at base [] ys a = tt
are_front at base (x ∷ xs) ys a = (a.0, are_front at (suc base) xs ys a.1)

pub are_back : (at : ℕ → Position) (base n : ℕ) (xs ys : List Position) → length xs ≡ n → Are at base (xs ++ ys) → Are at (base + n) ys
are_back at base n [] ys e a = subst (λ (b : ℕ). Are at b ys) (omega (arith, e)) a
are_back at base n (x ∷ xs) ys e a = subst (λ (b : ℕ). Are at b ys) (omega (arith, e)) (are_back at (suc base) (length xs) xs ys refl a.1)

length_append : (xs ys : List Position) → length (xs ++ ys) ≡ length xs + length ys
length_append [] ys = omega arith
length_append (x ∷ xs) ys = let e = length_append xs ys in omega (arith, e)

-- there are as many places as positions
mutual
  unfolding positions places

  pub as_many : (base : ℕ) (m : Model) (next : Next) → length (places base m next) ≡ positions m
  as_many base (one e) next = refl
  as_many base (sequence ms) next = as_many_in_turn base ms next
  as_many base (choice ms) next = as_many_of_each base ms next
  as_many base (optional m) next = as_many base m next
  as_many base (any_number m) next = as_many base m (again base m next)
  as_many base (at_least_one m) next = as_many base m (again base m next)

  pub as_many_in_turn : (base : ℕ) (ms : Models) (next : Next) → length (places_in_turn base ms next) ≡ positions_in ms
  as_many_in_turn base no_models next = refl
  as_many_in_turn base (more_models m ms) next =
      let first = as_many base m (before_all (base + positions m) ms next) in
      let others = as_many_in_turn (base + positions m) ms next in
      let all = length_append (places base m (before_all (base + positions m) ms next)) (places_in_turn (base + positions m) ms next) in
      omega (arith, first, others, all)

  pub as_many_of_each : (base : ℕ) (ms : Models) (next : Next) → length (places_of_each base ms next) ≡ positions_in ms
  as_many_of_each base no_models next = refl
  as_many_of_each base (more_models m ms) next =
      let first = as_many base m next in
      let others = as_many_of_each (base + positions m) ms next in
      let all = length_append (places base m next) (places_of_each (base + positions m) ms next) in
      omega (arith, first, others, all)

-- one of the positions names the element, and what is behind it leads on
abbrev pub goes_on : (ℕ → Position) → List ℕ → ℕ → List ℕ → Bool
goes_on at ps e es = list_any (λ p. e == (at p).element && leads at (at p).behind es) ps

pub goes_on_either : (at : ℕ → Position) (ps qs : List ℕ) (e : ℕ) (es : List ℕ) → goes_on at (ps ++ qs) e es ≡ (goes_on at ps e es || goes_on at qs e es)
goes_on_either at [] qs e es = refl
goes_on_either at (p ∷ ps) qs e es =
    ap (λ (b : Bool). (e == (at p).element && leads at (at p).behind es) || b) (goes_on_either at ps qs e es)
    ∙ sym (or_joined (e == (at p).element && leads at (at p).behind es) (goes_on at ps e es) (goes_on at qs e es))

pub goes_on_if : (at : ℕ → Position) (x : Bool) (ps : List ℕ) (e : ℕ) (es : List ℕ) → goes_on at (if x then ps else []) e es ≡ (x && goes_on at ps e es)
goes_on_if at true ps e es = refl
goes_on_if at false ps e es = refl

-- positions that some model may begin with, and then others
before_step : (at : ℕ → Position) (x : Bool) (ps qs : List ℕ) (e : ℕ) (es : List ℕ) (found : Bool) → goes_on at ps e es ≡ found → goes_on at (ps ++ (if x then qs else [])) e es ≡ ((x && goes_on at qs e es) || found)
before_step at x ps qs e es found h =
    goes_on_either at ps (if x then qs else []) e es
    ∙ ap (λ (b : Bool). b || goes_on at (if x then qs else []) e es) h
    ∙ ap (λ (b : Bool). found || b) (goes_on_if at x qs e es)
    ∙ or_turned found (x && goes_on at qs e es)

-- What is shown of each model: from the positions that it may begin with, elements lead on as they match.
abbrev Begins : (ℕ → Position) → List ℕ → (ℕ → Model) → Next → Type 0
Begins at ps derivative next = (e : ℕ) (es : List ℕ) → goes_on at ps e es ≡ then_passes (derivative e) (leads at next) es

pub before_leads : (at : ℕ → Position) (base : ℕ) (m : Model) (next : Next) → Begins at (firsts base m) (λ e. after e m) next → (es : List ℕ) → leads at (before base m next) es ≡ then_passes m (leads at next) es
before_leads at base m next h [] = refl
before_leads at base m next h (e ∷ es) = before_step at (may_be_empty m) (firsts base m) next.positions e es (then_passes (after e m) (leads at next) es) (h e es)

before_all_leads : (at : ℕ → Position) (base : ℕ) (ms : Models) (next : Next) → Begins at (firsts_in_turn base ms) (λ e. choice (after_first e ms)) next → (es : List ℕ) → leads at (before_all base ms next) es ≡ then_passes (sequence ms) (leads at next) es
unfolding may_be_empty after
before_all_leads at base ms next h [] = refl
before_all_leads at base ms next h (e ∷ es) = before_step at (all_may_be_empty ms) (firsts_in_turn base ms) next.positions e es (then_passes (choice (after_first e ms)) (leads at next) es) (h e es)

again_short : (at : ℕ → Position) (base : ℕ) (m : Model) (next : Next) → Begins at (firsts base m) (λ e. after e m) (again base m next) → (n : ℕ) (es : List ℕ) → length es ≤ n → leads at (again base m next) es ≡ then_passes (any_number m) (leads at next) es
unfolding may_be_empty
again_short at base m next h n [] short = refl
again_short at base m next h zero (e ∷ es) short = absurd (omega (arith, short))
again_short at base m next h (suc n) (e ∷ es) short =
    goes_on_either at (firsts base m) next.positions e es
    ∙ ap (λ (b : Bool). b || goes_on at next.positions e es) (h e es ∙ same_short (after e m) (leads at (again base m next)) (then_passes (any_number m) (leads at next)) n es (again_short at base m next h n) (omega (arith, short)))
    ∙ or_turned (then_passes (after e m) (then_passes (any_number m) (leads at next)) es) (goes_on at next.positions e es)
    ∙ sym (any_number_passes m (leads at next) e es)

pub again_leads : (at : ℕ → Position) (base : ℕ) (m : Model) (next : Next) → Begins at (firsts base m) (λ e. after e m) (again base m next) → (es : List ℕ) → leads at (again base m next) es ≡ then_passes (any_number m) (leads at next) es
again_leads at base m next h es = again_short at base m next h (length es) es (omega arith)

-- behind a model that may come again stands what may come again
again_step : (at : ℕ → Position) (base : ℕ) (m : Model) (next : Next) → Begins at (firsts base m) (λ e. after e m) (again base m next) → Begins at (firsts base m) (λ e. both (after e m) (any_number m)) next
again_step at base m next h e es =
    h e es
    ∙ same_tests (after e m) (leads at (again base m next)) (then_passes (any_number m) (leads at next)) es (again_leads at base m next h)
    ∙ sym (both_pass (after e m) (any_number m) (leads at next) es)

one_step : (x : Bool) (test : List ℕ → Bool) (es : List ℕ) → ((x && test es) || false) ≡ then_passes (if x then sequence no_models else choice no_models) test es
one_step true test es = or_false (test es) ∙ sym (nothing_passes test es)
one_step false test es = sym (never_passes test es)

if_step : (x : Bool) (ms : Models) (test : List ℕ → Bool) (es : List ℕ) → (x && then_passes (choice ms) test es) ≡ then_passes (choice (if x then ms else no_models)) test es
if_step true ms test es = refl
if_step false ms test es = sym (never_passes test es)

mutual
  unfolding positions firsts places may_be_empty after

  pub begins : (at : ℕ → Position) (base : ℕ) (m : Model) (next : Next) → Are at base (places base m next) → Begins at (firsts base m) (λ e. after e m) next
  begins at base (one f) next a e es =
      ap (λ (p : Position). (e == p.element && leads at p.behind es) || false) a.0 ∙ one_step (e == f) (leads at next) es
  begins at base (sequence ms) next a e es = begins_in_turn at base ms next a e es
  begins at base (choice ms) next a e es = begins_of_each at base ms next a e es
  begins at base (optional m) next a e es = begins at base m next a e es
  begins at base (any_number m) next a e es = again_step at base m next (begins at base m (again base m next) a) e es
  begins at base (at_least_one m) next a e es = again_step at base m next (begins at base m (again base m next) a) e es

  pub begins_in_turn : (at : ℕ → Position) (base : ℕ) (ms : Models) (next : Next) → Are at base (places_in_turn base ms next) → Begins at (firsts_in_turn base ms) (λ e. choice (after_first e ms)) next
  begins_in_turn at base no_models next a e es = sym (never_passes (leads at next) es)
  begins_in_turn at base (more_models m ms) next a e es =
      let inner = before_all (base + positions m) ms next in
      let front = are_front at base (places base m inner) (places_in_turn (base + positions m) ms next) a in
      let back = are_back at base (positions m) (places base m inner) (places_in_turn (base + positions m) ms next) (as_many base m inner) a in
      let others = begins_in_turn at (base + positions m) ms next back in
      let first = begins at base m inner front e es
      ∙ same_tests (after e m) (leads at inner) (then_passes (sequence ms) (leads at next)) es (before_all_leads at (base + positions m) ms next others)
      ∙ sym (sequence_passes (after e m) ms (leads at next) es) in
      goes_on_either at (firsts base m) (if may_be_empty m then firsts_in_turn (base + positions m) ms else []) e es
      ∙ ap (λ (b : Bool). b || goes_on at (if may_be_empty m then firsts_in_turn (base + positions m) ms else []) e es) first
      ∙ ap (λ (b : Bool). then_passes (sequence (more_models (after e m) ms)) (leads at next) es || b)
      (goes_on_if at (may_be_empty m) (firsts_in_turn (base + positions m) ms) e es ∙ ap (λ (b : Bool). may_be_empty m && b) (others e es) ∙ if_step (may_be_empty m) (after_first e ms) (leads at next) es)
      ∙ sym (choice_passes (sequence (more_models (after e m) ms)) (if may_be_empty m then after_first e ms else no_models) (leads at next) es)

  pub begins_of_each : (at : ℕ → Position) (base : ℕ) (ms : Models) (next : Next) → Are at base (places_of_each base ms next) → Begins at (firsts_of_each base ms) (λ e. choice (after_each e ms)) next
  begins_of_each at base no_models next a e es = sym (never_passes (leads at next) es)
  begins_of_each at base (more_models m ms) next a e es =
      let front = are_front at base (places base m next) (places_of_each (base + positions m) ms next) a in
      let back = are_back at base (positions m) (places base m next) (places_of_each (base + positions m) ms next) (as_many base m next) a in
      goes_on_either at (firsts base m) (firsts_of_each (base + positions m) ms) e es
      ∙ ap (λ (b : Bool). b || goes_on at (firsts_of_each (base + positions m) ms) e es) (begins at base m next front e es)
      ∙ ap (λ (b : Bool). then_passes (after e m) (leads at next) es || b) (begins_of_each at (base + positions m) ms next back e es)
      ∙ sym (choice_passes (after e m) (after_each e ms) (leads at next) es)

leads_at_end : (at : ℕ → Position) (es : List ℕ) → leads at at_end es ≡ is_nil es
leads_at_end at [] = refl
leads_at_end at (e ∷ es) = refl

-- from the beginning elements lead to the end exactly where the model matches them
pub leads_matches : (at : ℕ → Position) (m : Model) → Are at 0 (places_of m) → (es : List ℕ) → leads at (first_of m) es ≡ model_matches m es
leads_matches at m a es =
    before_leads at 0 m at_end (begins at 0 m at_end a) es
    ∙ same_tests m (leads at at_end) is_nil es (leads_at_end at)
    ∙ whole_match m es

shifted : (x : Position) (xs : List Position) (base : ℕ) (ys : List Position) → Are (place_at xs) base ys → Are (place_at (x ∷ xs)) (suc base) ys
shifted x xs base [] a = tt
shifted x xs base (y ∷ ys) a = (a.0, shifted x xs (suc base) ys a.1)

-- a list of places has them by their numbers
pub are_places : (ps : List Position) → Are (place_at ps) 0 ps
are_places [] = tt
are_places (p ∷ ps) = (refl, shifted p ps 0 ps (are_places ps))
