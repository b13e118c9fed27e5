-- A walk over sets of positions decides what the model matches.
use Rattle.std.proofs.Common.{◌≡◌, ℕ, zero, suc, ◌+◌, ◌<◌, Bool, true, false, ◌&&◌, ◌||◌, List, [], ◌∷◌, ◌++◌, length, refl, ap, sym, ◌∙◌, subst, arith, None}
use Rattle.std.specs.Prelude.{if◌then◌else◌, ◌==◌, replicate, set}
use Rattle.std.specs.List.{list_any}
use Rattle.dtd_model.specs.Table.{Model}
use Rattle.dtd_model.specs.Matches.{model_matches}
use Rattle.content_automata.specs.Positions.{Next, Position, positions, first_of, places_of, at_end}
use Rattle.content_automata.specs.Walks.{place_at, leads, joined}
use Rattle.content_automata.specs.Sets.{raised, set_of, has_end, raised_from, members, names, set_step, set_walk, first_set, set_behind, is_whole}
use Rattle.content_automata.proofs.Bools.{or_false, or_joined}
use Rattle.content_automata.proofs.Below.{AllBelow, none, more, AllPlaces, all_below, first_below, joined_below}
use Rattle.content_automata.proofs.Walking.{goes_on, goes_on_either, leads_matches, are_places, as_many}

-- some raised flag passes the test
any_raised : (ℕ → Bool) → ℕ → List Bool → Bool
any_raised f n flags = list_any f (raised_from n flags)

any_step : (f : ℕ → Bool) (n : ℕ) (b : Bool) (bs : List Bool) → list_any f (raised_from n (b ∷ bs)) ≡ ((b && f n) || list_any f (raised_from (suc n) bs))
any_step f n true bs = refl
any_step f n false bs = refl

none_raised : (f : ℕ → Bool) (n k : ℕ) → list_any f (raised_from n (replicate k false)) ≡ false
none_raised f n zero = refl
none_raised f n (suc k) = none_raised f (suc n) k

swap : (a b c : Bool) → (a || (b || c)) ≡ ((a || b) || c)
swap true b c = refl
swap false b c = refl

over : (b x y : Bool) → (x || y) ≡ (((b && x) || y) || x)
over true true y = refl
over true false true = refl
over true false false = refl
over false true true = refl
over false true false = refl
over false false true = refl
over false false false = refl

one_raised : (f : ℕ → Bool) (n : ℕ) (flags : List Bool) (q : ℕ) → q < length flags → list_any f (raised_from n (set flags q true)) ≡ (list_any f (raised_from n flags) || f (n + q))
one_raised f n [] q h = absurd (omega (arith, h))
one_raised f n (b ∷ bs) zero h =
    over b (f n) (list_any f (raised_from (suc n) bs))
    ∙ ap (λ (x : Bool). x || f n) (sym (any_step f n b bs))
    ∙ ap (λ (k : ℕ). list_any f (raised_from n (b ∷ bs)) || f k) (let e : n ≡ n + 0 = omega arith in e)
one_raised f n (b ∷ bs) (suc q) h =
    any_step f n b (set bs q true)
    ∙ ap (λ (x : Bool). (b && f n) || x) (one_raised f (suc n) bs q (omega (arith, h)))
    ∙ swap (b && f n) (list_any f (raised_from (suc n) bs)) (f (suc n + q))
    ∙ ap (λ (x : Bool). x || f (suc n + q)) (sym (any_step f n b bs))
    ∙ ap (λ (k : ℕ). list_any f (raised_from n (b ∷ bs)) || f k) (let e : suc n + q ≡ n + suc q = omega arith in e)

set_length : (flags : List Bool) (q : ℕ) → length (set flags q true) ≡ length flags
set_length [] q = refl
set_length (b ∷ bs) zero = refl
set_length (b ∷ bs) (suc q) = let e = set_length bs q in omega (arith, e)

all_raised : (f : ℕ → Bool) (n : ℕ) (flags : List Bool) (ps : List ℕ) → length flags ≡ n → AllBelow n ps → list_any f (raised_from 0 (raised flags ps)) ≡ (list_any f (raised_from 0 flags) || list_any f ps)
all_raised f n flags [] e none = sym (or_false (list_any f (raised_from 0 flags)))
all_raised f n flags (p ∷ ps) e (more h b) =
    all_raised f n (set flags p true) ps (set_length flags p ∙ e) b
    ∙ ap (λ (x : Bool). x || list_any f ps) (one_raised f 0 flags p (omega (arith, h, e)) ∙ ap (λ (k : ℕ). list_any f (raised_from 0 flags) || f k) (let z : 0 + p ≡ p = omega arith in z))
    ∙ or_joined (list_any f (raised_from 0 flags)) (f p) (list_any f ps)

replicate_length : (k : ℕ) → length (replicate k false) ≡ k
replicate_length zero = refl
replicate_length (suc k) = let e = replicate_length k in omega (arith, e)

-- the members of a set that is made are the positions that it was made of
set_members : (f : ℕ → Bool) (n : ℕ) (next : Next) → AllBelow n next.positions → list_any f (members (set_of n next)) ≡ list_any f next.positions
set_members f n next b =
    all_raised f n (replicate n false) next.positions (replicate_length n) b
    ∙ ap (λ (x : Bool). x || list_any f next.positions) (none_raised f 0 n)

-- what may come next by a set
abbrev next_in : List Bool → Next
next_in flags = record { positions = members flags; whole = has_end flags }

set_leads : (at : ℕ → Position) (n : ℕ) (next : Next) → AllBelow n next.positions → (es : List ℕ) → leads at (next_in (set_of n next)) es ≡ leads at next es
set_leads at n next b [] = refl
set_leads at n next b (e ∷ es) = set_members (λ p. e == (at p).element && leads at (at p).behind es) n next b

leads_nowhere : (at : ℕ → Position) (es : List ℕ) → leads at (record { positions = []; whole = false }) es ≡ false
leads_nowhere at [] = refl
leads_nowhere at (e ∷ es) = refl

leads_either : (at : ℕ → Position) (a b : Next) (es : List ℕ) → leads at (record { positions = a.positions ++ b.positions; whole = a.whole || b.whole }) es ≡ (leads at a es || leads at b es)
leads_either at a b [] = refl
leads_either at a b (e ∷ es) = goes_on_either at a.positions b.positions e es

joined_leads : (at : ℕ → Position) (e : ℕ) (ps : List ℕ) (es : List ℕ) → leads at (joined at e ps) es ≡ goes_on at ps e es
joined_leads at e [] es = leads_nowhere at es
joined_leads at e (p ∷ ps) es = go (e == (at p).element) refl (joined_leads at e ps es)
  where
    go : (x : Bool) → (e == (at p).element) ≡ x → leads at (joined at e ps) es ≡ goes_on at ps e es → leads at (joined at e (p ∷ ps)) es ≡ goes_on at (p ∷ ps) e es
    go true h rest = rw h (leads_either at (at p).behind (joined at e ps) es ∙ ap (λ (b : Bool). leads at (at p).behind es || b) rest)
    go false h rest = rw h rest

nothing_named : (at : ℕ → Position) (e : ℕ) (ps es : List ℕ) → list_any (λ p. e == (at p).element) ps ≡ false → goes_on at ps e es ≡ false
nothing_named at e [] es h = refl
nothing_named at e (p ∷ ps) es h = go (e == (at p).element) refl h (nothing_named at e ps es)
  where
    go : (x : Bool) → (e == (at p).element) ≡ x → list_any (λ q. e == (at q).element) (p ∷ ps) ≡ false → (list_any (λ q. e == (at q).element) ps ≡ false → goes_on at ps e es ≡ false) → goes_on at (p ∷ ps) e es ≡ false
    go true eq g rest = let both : true ≡ false = rw eq at g in cc
    go false eq g rest = rw eq (rest (rw eq at g))

walk_decides : (ps : List Position) → AllPlaces (length ps) ps → (flags : List Bool) (es : List ℕ) → is_whole (set_walk ps flags es) ≡ leads (place_at ps) (next_in flags) es
walk_decides ps a flags [] = refl
walk_decides ps a flags (e ∷ es) = go (names ps flags e) refl (walk_decides ps a (set_step ps flags e) es)
  where
    go : (x : Bool) → names ps flags e ≡ x → is_whole (set_walk ps (set_step ps flags e) es) ≡ leads (place_at ps) (next_in (set_step ps flags e)) es → is_whole (if names ps flags e then set_walk ps (set_step ps flags e) es else None) ≡ goes_on (place_at ps) (members flags) e es
    go true h later = rw h (later
        ∙ set_leads (place_at ps) (length ps) (joined (place_at ps) e (members flags)) (joined_below (length ps) ps a e (members flags)) es
        ∙ joined_leads (place_at ps) e (members flags) es)
    go false h later = rw h (sym (nothing_named (place_at ps) e (members flags) es h))

pub sets_decide : (m : Model) (es : List ℕ) → is_whole (set_behind m es) ≡ model_matches m es
sets_decide m es =
    let many : length (places_of m) ≡ positions m = as_many 0 m at_end in
    walk_decides (places_of m) (subst (λ (n : ℕ). AllPlaces n (places_of m)) (sym many) (all_below m)) (first_set m) es
    ∙ set_leads (place_at (places_of m)) (length (places_of m)) (first_of m) (subst (λ (n : ℕ). AllBelow n (first_of m).positions) (sym many) (first_below m)) es
    ∙ leads_matches (place_at (places_of m)) m (are_places (places_of m)) es
