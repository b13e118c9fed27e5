-- From each state that is reached some children lead on to one in which a match may end.
use Rattle.std.proofs.Common.{◌≡◌, ℕ, zero, suc, ◌+◌, ◌<◌, ◌≤◌, Bool, true, false, ◌&&◌, ◌||◌, List, [], ◌∷◌, ◌++◌, length, map, Contains, inl, inr, refl, ap, sym, ◌∙◌, subst, arith, Option, Some, None}
use Rattle.std.specs.Prelude.{if◌then◌else◌, ◌==◌, nat_eq, nat_lt, nat_le}
use Rattle.std.specs.Cmp.{first_so, second_so}
use Rattle.std.specs.List.{list_any, range_with_len}
use Rattle.std.proofs.lemmas.Bool.{cases_eq}
use Rattle.std.proofs.lemmas.Cmp.{nat_eq_equiv}
use Rattle.std.proofs.lemmas.List.Elements.{Contains-append_left, Contains-append_right}
use Rattle.std.proofs.lemmas.Map.Views.{list_any-from_Contains}
use Rattle.dtd_model.specs.Table.{Holding, nothing, anything, text_and, children, Model}
use Rattle.dtd_model.specs.Matches.{matches}
use Rattle.dtd_model.specs.Lawful.{is_lawful_holding, is_within, has_matches, height, height_limit}
use Rattle.content_automata.specs.Positions.{Next, Position, places_of, at_end}
use Rattle.content_automata.specs.Walks.{place_at, leads, joined}
use Rattle.content_automata.specs.Sets.{raised_from, members, names, set_of, set_step, set_walk, has_end, first_set, is_whole}
use Rattle.content_automata.proofs.Below.{AllBelow, more, AllPlaces, all_below, place_below}
use Rattle.content_automata.proofs.Walking.{as_many, leads_matches, are_places}
use Rattle.content_automata.proofs.RangeLemmas.{set_is_range}
use Rattle.content_automata.specs.Shapes.{Shape, model, shape, first_state, state_behind, states_walk, then_some, IsSized}
use Rattle.content_automata.proofs.PassLemmas.{Passes}
use Rattle.content_automata.proofs.LiveLemmas.{AllLive, first_lives, places_live, place_lives}
use Rattle.content_automata.proofs.ShapeLemmas.{model_walk, states_decide, walk_append}
use Rattle.content_automata.proofs.ReachLemmas.{first_sized, behind_sized}

later : (x : ℕ) (xs : List ℕ) (y : ℕ) → Contains xs y → Contains (x ∷ xs) y
later x xs y (i, w, is) = (suc i, omega (arith, w), is)

here : (x : ℕ) (xs : List ℕ) → Contains (x ∷ xs) x
here x xs = (0, omega arith, refl)

-- one that passes the test
found_in : (f : ℕ → Bool) (xs : List ℕ) → list_any f xs ≡ true → (x : ℕ) × Contains xs x × (f x ≡ true)
found_in f [] h = absurd (let no : ⊥ = cc in no)
found_in f (x ∷ xs) h = go (f x) refl h (found_in f xs)
  where
    go : (b : Bool) → f x ≡ b → (b || list_any f xs) ≡ true → (list_any f xs ≡ true → (y : ℕ) × Contains xs y × (f y ≡ true)) → (y : ℕ) × Contains (x ∷ xs) y × (f y ≡ true)
    go true e g rest = (x, here x xs, e)
    go false e g rest = let r = rest g in (r.0, later x xs r.0 r.1, r.2)

any_of : (f : ℕ → Bool) (xs : List ℕ) (x : ℕ) → Contains xs x → f x ≡ true → list_any f xs ≡ true
any_of f [] x (i, w, is) h = absurd (omega (arith, w))
any_of f (y ∷ xs) x (zero, w, is) h = let at : f y ≡ true = ap f is ∙ h in ap (λ (b : Bool). b || list_any f xs) at
any_of f (y ∷ xs) x (suc i, w, is) h = or_right (f y) (list_any f xs) (any_of f xs x (i, omega (arith, w), is) h)
  where
    or_right : (a b : Bool) → b ≡ true → (a || b) ≡ true
    or_right true b h = refl
    or_right false b h = h

-- what may come next behind an element has what may come behind each position that names it
joined_has : (at : ℕ → Position) (e : ℕ) (xs : List ℕ) (p : ℕ) → Contains xs p → (e == (at p).element) ≡ true
    → ((q : ℕ) → Contains (at p).behind.positions q → Contains (joined at e xs).positions q) × ((at p).behind.whole ≡ true → (joined at e xs).whole ≡ true)
joined_has at e [] p (i, w, is) h = absurd (omega (arith, w))
joined_has at e (y ∷ xs) p (zero, w, is) h =
    let named : (e == (at y).element) ≡ true = ap (λ (k : ℕ). e == (at k).element) is ∙ h in
    rw named (
      (λ q has. Contains-append_left (at y).behind.positions (joined at e xs).positions q (subst (λ (k : ℕ). Contains (at k).behind.positions q) (sym is) has)),
      (λ whole. ap (λ (b : Bool). b || (joined at e xs).whole) (ap (λ (k : ℕ). (at k).behind.whole) is ∙ whole)),
    )
joined_has at e (y ∷ xs) p (suc i, w, is) h = go (e == (at y).element) refl (joined_has at e xs p (i, omega (arith, w), is) h)
  where
    or_right : (a b : Bool) → b ≡ true → (a || b) ≡ true
    or_right true b h = refl
    or_right false b h = h

    go : (x : Bool) → (e == (at y).element) ≡ x → ((q : ℕ) → Contains (at p).behind.positions q → Contains (joined at e xs).positions q) × ((at p).behind.whole ≡ true → (joined at e xs).whole ≡ true)
        → ((q : ℕ) → Contains (at p).behind.positions q → Contains (joined at e (y ∷ xs)).positions q) × ((at p).behind.whole ≡ true → (joined at e (y ∷ xs)).whole ≡ true)
    go true g rest = rw g (
      (λ q has. Contains-append_right (at y).behind.positions (joined at e xs).positions q (rest.0 q has)),
      (λ whole. or_right (at y).behind.whole (joined at e xs).whole (rest.1 whole)),
    )
    go false g rest = rw g rest

-- the places of raised flags
raised_has : (f : ℕ → Bool) (a n q : ℕ) → a ≤ q → q < a + n → f q ≡ true → Contains (raised_from a (map f (range_with_len a n))) q
raised_has f a zero q low high h = absurd (omega (arith, low, high))
raised_has f a (suc n) q low high h = elim (cases_eq a q) [
  | inl same ↦ subst (λ (k : ℕ). Contains (raised_from a (map f (range_with_len a (suc n)))) k) same (first (f a) (ap f same ∙ h))
  | inr other ↦ second (f a) (subst (λ (k : ℕ). Contains (raised_from k (map f (range_with_len (a + 1) n))) q) (let e : a + 1 ≡ suc a = omega arith in e) (raised_has f (a + 1) n q (omega (arith, low, other)) (omega (arith, high)) h))
]
  where
    first : (b : Bool) → b ≡ true → Contains (raised_from a (b ∷ map f (range_with_len (a + 1) n))) a
    first true e = here a (raised_from (suc a) (map f (range_with_len (a + 1) n)))
    first false e = absurd (let no : ⊥ = cc in no)

    second : (b : Bool) → Contains (raised_from (suc a) (map f (range_with_len (a + 1) n))) q → Contains (raised_from a (b ∷ map f (range_with_len (a + 1) n))) q
    second true has = later a (raised_from (suc a) (map f (range_with_len (a + 1) n))) q has
    second false has = has

set_has : (n : ℕ) (next : Next) (q : ℕ) → q < n → Contains next.positions q → Contains (members (set_of n next)) q
set_has n next q high has =
    subst (λ (bs : List Bool). Contains (members bs) q) (sym (set_is_range n next))
    (raised_has (λ i. list_any (nat_eq i) next.positions) 0 n q (omega arith) (omega (arith, high)) (list_any-from_Contains nat_eq_equiv q next.positions has))

raised_within : (a : ℕ) (bs : List Bool) (q : ℕ) → Contains (raised_from a bs) q → q < a + length bs
raised_within a [] q (i, w, is) = absurd (omega (arith, w))
raised_within a (true ∷ bs) q (zero, w, is) = omega (arith, is)
raised_within a (true ∷ bs) q (suc i, w, is) = let r = raised_within (suc a) bs q (i, omega (arith, w), is) in omega (arith, r)
raised_within a (false ∷ bs) q has = let r = raised_within (suc a) bs q has in omega (arith, r)

member_within : (flags : List Bool) (n q : ℕ) → length flags ≡ n + 1 → Contains (members flags) q → q < n
member_within [] n q long (i, w, is) = absurd (omega (arith, w))
member_within (b ∷ bs) n q long has = let r = raised_within 0 bs q has in omega (arith, long, r)

below_at : (n : ℕ) (ps : List ℕ) (q : ℕ) → AllBelow n ps → Contains ps q → q < n
below_at n [] q b (i, w, is) = absurd (omega (arith, w))
below_at n (p ∷ ps) q (more h b) (zero, w, is) = subst (λ (k : ℕ). k < n) is h
below_at n (p ∷ ps) q (more h b) (suc i, w, is) = below_at n ps q b (i, omega (arith, w), is)

-- the set has whatever may come next
record Covers (flags : List Bool) (next : Next) : Type 0 where
  positions : (q : ℕ) → Contains next.positions q → Contains (members flags) q
  whole : next.whole ≡ true → has_end flags ≡ true

step_covers : (ps : List Position) (flags : List Bool) (e p : ℕ) → AllPlaces (length ps) ps → Contains (members flags) p → (e == (place_at ps p).element) ≡ true → Covers (set_step ps flags e) (place_at ps p).behind
step_covers ps flags e p all has named =
    let both = joined_has (place_at ps) e (members flags) p has named in
    record {
      positions = λ q in_behind. set_has (length ps) (joined (place_at ps) e (members flags)) q (below_at (length ps) (place_at ps p).behind.positions q (place_below (length ps) ps all p) in_behind) (both.0 q in_behind);
      whole = both.1;
    }

-- elements that lead to the end lead over sets
leads_over : (ps : List Position) (flags : List Bool) (next : Next) (es : List ℕ) → AllPlaces (length ps) ps → Covers flags next → leads (place_at ps) next es ≡ true → is_whole (set_walk ps flags es) ≡ true
leads_over ps flags next [] all c h = c.whole h
leads_over ps flags next (e ∷ es) all c h =
    let f = found_in (λ p. e == (place_at ps p).element && leads (place_at ps) (place_at ps p).behind es) next.positions h in
    let named = first_so (e == (place_at ps f.0).element) (leads (place_at ps) (place_at ps f.0).behind es) f.2 in
    let has = c.positions f.0 f.1 in
    let named_in : names ps flags e ≡ true = any_of (λ p. e == (place_at ps p).element) (members flags) f.0 has named in
    let rest = leads_over ps (set_step ps flags e) (place_at ps f.0).behind es all (step_covers ps flags e f.0 all has named) (second_so (e == (place_at ps f.0).element) (leads (place_at ps) (place_at ps f.0).behind es) f.2) in
    ap (λ (b : Bool). is_whole (if b then set_walk ps (set_step ps flags e) es else None)) named_in ∙ rest

-- children lead from the state to one in which a match may end
abbrev pub Goes : ℕ → Shape → List Bool → Type 0
Goes count s flags = Passes count (λ es. is_whole (states_walk count s flags es))

step_goes : (count : ℕ) (first flags : List Bool) (ps : List Position) (e : ℕ) → AllPlaces (length ps) ps → AllLive (place_at ps) count ps → length flags ≡ length ps + 1 → names ps flags e ≡ true → Goes count (model first ps) (set_step ps flags e)
step_goes count first flags ps e all live long named =
    let f = found_in (λ p. e == (place_at ps p).element) (members flags) named in
    let lives = place_lives (place_at ps) count ps live f.0 (member_within flags (length ps) f.0 long f.1) in
    record {
      list = lives.list;
      below = lives.below;
      passes = ap is_whole (model_walk count first ps (set_step ps flags e) lives.list) ∙ leads_over ps (set_step ps flags e) (place_at ps f.0).behind lives.list all (step_covers ps flags e f.0 all f.1 f.2) lives.passes;
    }

places_below : (m : Model) → AllPlaces (length (places_of m)) (places_of m)
places_below m = subst (λ (n : ℕ). AllPlaces n (places_of m)) (sym (as_many 0 m at_end)) (all_below m)

parts_lawful : (count : ℕ) (m : Model) → is_lawful_holding count (children m) ≡ true → (is_within count m ≡ true) × (has_matches m ≡ true)
parts_lawful count m h =
    let two = first_so (nat_le (height m) height_limit && is_within count m) (has_matches m) h in
    (second_so (nat_le (height m) height_limit) (is_within count m) two, second_so (nat_le (height m) height_limit && is_within count m) (has_matches m) h)

at_once : (count : ℕ) (s : Shape) (flags : List Bool) → has_end flags ≡ true → Goes count s flags
at_once count s flags h = record { list = []; below = λ e has. none_in e has; passes = h }
  where
    none_in : (e : ℕ) → Contains {X = ℕ} [] e → e < count
    none_in e (i, w, is) = absurd (omega (arith, w))

first_goes : (count : ℕ) (h : Holding) → is_lawful_holding count h ≡ true → Goes count (shape h) (first_state (shape h))
first_goes count nothing l = at_once count (shape nothing) (first_state (shape nothing)) refl
first_goes count anything l = at_once count (shape anything) (first_state (shape anything)) refl
first_goes count (text_and es) l = at_once count (shape (text_and es)) (first_state (shape (text_and es))) refl
first_goes count (children m) l =
    let parts = parts_lawful count m l in
    let lives = first_lives count m parts.0 parts.1 in
    record {
      list = lives.list;
      below = lives.below;
      passes = states_decide count (children m) lives.list ∙ sym (leads_matches (place_at (places_of m)) m (are_places (places_of m)) lives.list) ∙ lives.passes;
    }

same_flags : (count : ℕ) (s : Shape) (b : Bool) (flags next : List Bool) → (if b then Some flags else None) ≡ Some next → Goes count s flags → Goes count s next
same_flags count s true flags next e g = let same : flags ≡ next = cc in subst (λ (f : List Bool). Goes count s f) same g
same_flags count s false flags next e g = absurd (let no : ⊥ = cc in no)

next_goes : (count : ℕ) (h : Holding) (flags next : List Bool) (e : ℕ) → is_lawful_holding count h ≡ true → IsSized (shape h) flags → state_behind count (shape h) flags e ≡ Some next → Goes count (shape h) flags → Goes count (shape h) next
next_goes count nothing flags next e l z is g = absurd (let no : ⊥ = cc in no)
next_goes count anything flags next e l z is g = same_flags count (shape anything) (nat_lt e count) flags next is g
next_goes count (text_and es) flags next e l z is g = same_flags count (shape (text_and es)) (list_any (nat_eq e) es) flags next is g
next_goes count (children m) flags next e l z is g = go (names (places_of m) flags e) refl is
  where
    go : (x : Bool) → names (places_of m) flags e ≡ x → (if x then Some (set_step (places_of m) flags e) else None) ≡ Some next → Goes count (shape (children m)) next
    go true named same =
        let one : set_step (places_of m) flags e ≡ next = cc in
        let parts = parts_lawful count m l in
        subst (λ (f : List Bool). Goes count (shape (children m)) f) one (step_goes count (first_set m) flags (places_of m) e (places_below m) (places_live count m parts.0 parts.1) z named)
    go false named same = absurd (let no : ⊥ = cc in no)

walk_goes : (count : ℕ) (h : Holding) (flags next : List Bool) (es : List ℕ) → is_lawful_holding count h ≡ true → IsSized (shape h) flags → Goes count (shape h) flags → states_walk count (shape h) flags es ≡ Some next → Goes count (shape h) next
walk_goes count h flags next [] l z g is = let same : flags ≡ next = cc in subst (λ (f : List Bool). Goes count (shape h) f) same g
walk_goes count h flags next (e ∷ es) l z g is =
    go (state_behind count (shape h) flags e) refl is
    (λ f behind. walk_goes count h f next es l (behind_sized count (shape h) flags f e behind) (next_goes count h flags f e l z behind g))
  where
    go : (x : Option (List Bool)) → state_behind count (shape h) flags e ≡ x → then_some x (λ (f : List Bool). states_walk count (shape h) f es) ≡ Some next → ((f : List Bool) → state_behind count (shape h) flags e ≡ Some f → states_walk count (shape h) f es ≡ Some next → Goes count (shape h) next) → Goes count (shape h) next
    go None behind then_is rest = absurd (let no : ⊥ = cc in no)
    go (Some f) behind then_is rest = rest f behind then_is

-- some list of children that begins with these is one that the element may hold
pub goes_on : (count : ℕ) (h : Holding) (es : List ℕ) (flags : List Bool) → is_lawful_holding count h ≡ true → states_walk count (shape h) (first_state (shape h)) es ≡ Some flags → Passes count (λ fs. matches count h (es ++ fs))
goes_on count h es flags l is =
    let g = walk_goes count h (first_state (shape h)) flags es l (first_sized h) (first_goes count h l) is in
    record {
      list = g.list;
      below = g.below;
      passes =
          sym (states_decide count h (es ++ g.list))
          ∙ ap is_whole (walk_append count (shape h) (first_state (shape h)) es g.list ∙ ap (λ (x : Option (List Bool)). then_some x (λ (f : List Bool). states_walk count (shape h) f g.list)) is)
          ∙ g.passes;
    }
