-- What may come next behind each element, one position after another.
use Rattle.std.proofs.Common.{◌≡◌, ℕ, zero, suc, ◌+◌, ◌<◌, ◌≤◌, Bool, true, false, ◌||◌, List, [], ◌∷◌, ◌++◌, length, map, take, refl, ap, sym, ◌∙◌, arith, append_assoc, Option, Some, None}
use Rattle.std.specs.Prelude.{if◌then◌else◌, ◌==◌, set, slice_index_or}
use Rattle.std.specs.List.{range_with_len, list_any}
use Rattle.std.proofs.lemmas.Bool.{eqb-true}
use Rattle.std.proofs.lemmas.List.{append-nil, map-set, set_past, length-map, take_more}
use Rattle.std.proofs.lemmas.List.Folds.{list_any-append}
use Rattle.content_automata.specs.Positions.{Next, Position}
use Rattle.content_automata.specs.Walks.{place_at, joined}
use Rattle.content_automata.specs.Sets.{members, names, set_step}
use Rattle.content_automata.specs.declared.places.Behind.{Behind}
use Rattle.content_automata.specs.declared.places.Place.{Place}
use Rattle.content_automata.specs.PlaceViews.{next_of, position_of, positions_of, slot_of, either, joined_to, put_behind, behind_of, slot_set, step_of}
use Rattle.content_automata.proofs.RangeLemmas.{same_range, set_range, at_range, map_range}

or_false : (b : Bool) → (b || false) ≡ b
or_false true = refl
or_false false = refl

or_assoc : (a b c : Bool) → (a || (b || c)) ≡ ((a || b) || c)
or_assoc true b c = refl
or_assoc false b c = refl

next_same : (ps qs : List ℕ) (w v : Bool) → ps ≡ qs → w ≡ v → ◌≡◌ {A = Next} (record { positions = ps; whole = w }) (record { positions = qs; whole = v })
next_same ps qs w v e f = ap (λ (xs : List ℕ). let n : Next = record { positions = xs; whole = w } in n) e ∙ ap (λ (x : Bool). let n : Next = record { positions = qs; whole = x } in n) f

-- one position more
joined_last : (at : ℕ → Position) (e m : ℕ) (xs : List ℕ) → joined at e (xs ++ m ∷ []) ≡ (if e == (at m).element then either (joined at e xs) (at m).behind else joined at e xs)
joined_last at e m [] = go (e == (at m).element) refl
  where
    go : (x : Bool) → (e == (at m).element) ≡ x → joined at e (m ∷ []) ≡ (if e == (at m).element then either (joined at e []) (at m).behind else joined at e [])
    go true h = rw h (next_same ((at m).behind.positions ++ []) (at m).behind.positions ((at m).behind.whole || false) (at m).behind.whole (append-nil (at m).behind.positions) (or_false (at m).behind.whole))
    go false h = rw h refl
joined_last at e m (y ∷ xs) = go (e == (at y).element) refl (e == (at m).element) refl (joined_last at e m xs)
  where
    go : (x : Bool) → (e == (at y).element) ≡ x → (z : Bool) → (e == (at m).element) ≡ z → joined at e (xs ++ m ∷ []) ≡ (if e == (at m).element then either (joined at e xs) (at m).behind else joined at e xs)
        → joined at e (y ∷ (xs ++ m ∷ [])) ≡ (if e == (at m).element then either (joined at e (y ∷ xs)) (at m).behind else joined at e (y ∷ xs))
    go true h true g later =
        let rest : joined at e (xs ++ m ∷ []) ≡ either (joined at e xs) (at m).behind = rw g at later in
        rw (h, g) (ap (λ (n : Next). either (at y).behind n) rest
        ∙ next_same _ _ _ _ (sym (append_assoc (at y).behind.positions (joined at e xs).positions (at m).behind.positions)) (or_assoc (at y).behind.whole (joined at e xs).whole (at m).behind.whole))
    go true h false g later = let rest : joined at e (xs ++ m ∷ []) ≡ joined at e xs = rw g at later in rw (h, g) (ap (λ (n : Next). either (at y).behind n) rest)
    go false h true g later = let rest : joined at e (xs ++ m ∷ []) ≡ either (joined at e xs) (at m).behind = rw g at later in rw (h, g) rest
    go false h false g later = let rest : joined at e (xs ++ m ∷ []) ≡ joined at e xs = rw g at later in rw (h, g) rest

-- no position names the element
none_joined : (at : ℕ → Position) (e : ℕ) (xs : List ℕ) → list_any (λ p. e == (at p).element) xs ≡ false → joined at e xs ≡ record { positions = []; whole = false }
none_joined at e [] h = refl
none_joined at e (y ∷ xs) h = go (e == (at y).element) refl h (none_joined at e xs)
  where
    go : (x : Bool) → (e == (at y).element) ≡ x → list_any (λ p. e == (at p).element) (y ∷ xs) ≡ false → (list_any (λ p. e == (at p).element) xs ≡ false → joined at e xs ≡ record { positions = []; whole = false }) → joined at e (y ∷ xs) ≡ record { positions = []; whole = false }
    go true g h later = let both : true ≡ false = rw g at h in cc
    go false g h later = rw g (later (rw g at h))

any_last : (f : ℕ → Bool) (xs : List ℕ) (m : ℕ) → list_any f (xs ++ m ∷ []) ≡ (list_any f xs || f m)
any_last f xs m = list_any-append f xs (m ∷ []) ∙ ap (λ (b : Bool). list_any f xs || b) (or_false (f m))

behind_step : (places : List Position) (xs : List ℕ) (m e : ℕ) → behind_of places (xs ++ m ∷ []) e ≡ (if e == (place_at places m).element then Some (joined_to (behind_of places xs e) (place_at places m).behind) else behind_of places xs e)
behind_step places xs m e =
    ap (λ (b : Bool). if b then Some (joined (place_at places) e (xs ++ m ∷ [])) else None) (any_last (λ p. e == (place_at places p).element) xs m)
    ∙ ap (λ (n : Next). if (list_any (λ p. e == (place_at places p).element) xs || (e == (place_at places m).element)) then Some n else None) (joined_last (place_at places) e m xs)
    ∙ go (list_any (λ p. e == (place_at places p).element) xs) refl (e == (place_at places m).element)
  where
    here : Next
    here = (place_at places m).behind

    go : (a : Bool) → list_any (λ p. e == (place_at places p).element) xs ≡ a → (x : Bool)
        → (if (a || x) then Some (if x then either (joined (place_at places) e xs) here else joined (place_at places) e xs) else None)
        ≡ (if x then Some (joined_to (if a then Some (joined (place_at places) e xs) else None) here) else (if a then Some (joined (place_at places) e xs) else None))
    go true h true = refl
    go true h false = refl
    go false h true = ap (λ (n : Next). Some (either n here)) (none_joined (place_at places) e xs h)
    go false h false = refl

-- one position more, for each element
pub put_more : (places : List Position) (xs : List ℕ) (m n : ℕ) → put_behind (map (behind_of places xs) (range_with_len 0 n)) (place_at places m) ≡ map (behind_of places (xs ++ m ∷ [])) (range_with_len 0 n)
put_more places xs m n =
    let q = (place_at places m).element in
    let here = (place_at places m).behind in
    let new = Some (joined_to (slice_index_or (map (behind_of places xs) (range_with_len 0 n)) q None) here) in
    set_range (behind_of places xs) 0 n q new
    ∙ same_range (λ i. if i == 0 + q then new else behind_of places xs i) (behind_of places (xs ++ m ∷ [])) 0 n
    (λ i low high. ap (λ (k : ℕ). if i == k then new else behind_of places xs i) (let z : 0 + q ≡ q = omega arith in z) ∙ at_one i (omega (arith, high)) (i == q) refl ∙ sym (behind_step places xs m i))
  where
    at_one : (i : ℕ) → i < n → (x : Bool) → (i == (place_at places m).element) ≡ x
        → (if i == (place_at places m).element then Some (joined_to (slice_index_or (map (behind_of places xs) (range_with_len 0 n)) (place_at places m).element None) (place_at places m).behind) else behind_of places xs i)
        ≡ (if i == (place_at places m).element then Some (joined_to (behind_of places xs i) (place_at places m).behind) else behind_of places xs i)
    at_one i h true g =
        let same : i ≡ (place_at places m).element = eqb-true i (place_at places m).element g in
        rw g (ap (λ (o : Option Next). Some (joined_to o (place_at places m).behind))
        (ap (λ (k : ℕ). slice_index_or (map (behind_of places xs) (range_with_len 0 n)) k None) (sym same) ∙ at_range (behind_of places xs) 0 n i None h ∙ ap (behind_of places xs) (let z : 0 + i ≡ i = omega arith in z)))
    at_one i h false g = rw g refl

-- the sets of what may come behind the positions in a set
pub steps_are : (places : List Position) (flags : List Bool) (n : ℕ) → map (slot_set (length places)) (map (behind_of places (members flags)) (range_with_len 0 n)) ≡ map (step_of places flags) (range_with_len 0 n)
steps_are places flags n =
    map_range (slot_set (length places)) (behind_of places (members flags)) 0 n
    ∙ same_range (λ i. slot_set (length places) (behind_of places (members flags) i)) (step_of places flags) 0 n (λ i low high. go i (names places flags i))
  where
    go : (e : ℕ) (x : Bool) → slot_set (length places) (if x then Some (joined (place_at places) e (members flags)) else None) ≡ (if x then Some (set_step places flags e) else None)
    go e true = refl
    go e false = refl

-- as the code puts it
pub put_there : (slots : List (Option Behind)) (place : Place) (old slot left : Option Behind) (b : Behind) → old ≡ slice_index_or slots place.element old → slot ≡ old → next_of b ≡ joined_to (slot_of slot) (next_of place.behind) → place.element < length slots
    → map slot_of (set (set slots place.element left) place.element (Some b)) ≡ put_behind (map slot_of slots) (position_of place)
put_there slots place old slot left b at is made within =
    map-set slot_of (set slots place.element left) place.element (Some b)
    ∙ ap (λ (xs : List (Option Next)). set xs place.element (Some (next_of b))) (map-set slot_of slots place.element left)
    ∙ twice (map slot_of slots) place.element (slot_of left) (Some (next_of b))
    ∙ ap (λ (n : Next). set (map slot_of slots) place.element (Some n)) (made ∙ ap (λ (o : Option Behind). joined_to (slot_of o) (next_of place.behind)) is)
    ∙ ap (λ (o : Option Next). set (map slot_of slots) place.element (Some (joined_to o (next_of place.behind)))) (sym (seen slots place.element old at within))
  where
    twice : (xs : List (Option Next)) (i : ℕ) (x y : Option Next) → set (set xs i x) i y ≡ set xs i y
    twice [] i x y = refl
    twice (z ∷ xs) zero x y = refl
    twice (z ∷ xs) (suc i) x y = ap (λ (ys : List (Option Next)). z ∷ ys) (twice xs i x y)

    seen : (xs : List (Option Behind)) (i : ℕ) (o : Option Behind) → o ≡ slice_index_or xs i o → i < length xs → slice_index_or (map slot_of xs) i None ≡ slot_of o
    seen [] i o e h = absurd (omega (arith, h))
    seen (x ∷ xs) zero o e h = ap slot_of (sym e)
    seen (x ∷ xs) (suc i) o e h = seen xs i o e (omega (arith, h))

-- an element that is not asked for
pub put_nowhere : (slots : List (Option Behind)) (place : Place) → length slots ≤ place.element → map slot_of slots ≡ put_behind (map slot_of slots) (position_of place)
put_nowhere slots place h = sym (set_past (map slot_of slots) place.element _ (let l = length-map slots slot_of in omega (arith, l, h)))

-- the plain form of the place at a number
pub place_is : (places : List Place) (i : ℕ) (place : Place) → i < length places → place ≡ slice_index_or places i place → position_of place ≡ place_at (map position_of places) i
place_is [] i place h e = absurd (omega (arith, h))
place_is (p ∷ ps) zero place h e = ap position_of e
place_is (p ∷ ps) (suc i) place h e = place_is ps i place (omega (arith, h)) e

-- one member more
pub gathered_more : (ps : List Position) (ms : List ℕ) (i n : ℕ) (old new : List (Option Next)) (p : Position) → old ≡ map (behind_of ps (take i ms)) (range_with_len 0 n) → p ≡ place_at ps (slice_index_or ms i 0) → new ≡ put_behind old p → i < length ms
    → new ≡ map (behind_of ps (take (i + 1) ms)) (range_with_len 0 n)
gathered_more ps ms i n old new p was is put h =
    put
    ∙ ap (λ (xs : List (Option Next)). put_behind xs p) was
    ∙ ap (λ (q : Position). put_behind (map (behind_of ps (take i ms)) (range_with_len 0 n)) q) is
    ∙ put_more ps (take i ms) (slice_index_or ms i 0) n
    ∙ ap (λ (xs : List ℕ). map (behind_of ps xs) (range_with_len 0 n)) (sym (take_more ms i 0 h))

pub steps_made : (places : List Place) (flags : List Bool) (listed : List ℕ) (n : ℕ) (slots items : List (Option Behind)) (i : ℕ) (sets : List (Option (List Bool))) → sets ≡ map (slot_set (length places)) (map slot_of (take i items)) → length items ≤ i → items ≡ slots
    → map slot_of slots ≡ map (behind_of (positions_of places) listed) (range_with_len 0 n) → listed ≡ members flags → sets ≡ map (step_of (positions_of places) flags) (range_with_len 0 n)
steps_made places flags listed n slots items i sets made past same gathered is =
    made
    ∙ ap (λ (xs : List (Option Behind)). map (slot_set (length places)) (map slot_of xs)) (take_all i items past ∙ same)
    ∙ ap (λ (xs : List (Option Next)). map (slot_set (length places)) xs) gathered
    ∙ ap (λ (xs : List ℕ). map (slot_set (length places)) (map (behind_of (positions_of places) xs) (range_with_len 0 n))) is
    ∙ ap (λ (k : ℕ). map (slot_set k) (map (behind_of (positions_of places) (members flags)) (range_with_len 0 n))) (sym (length-map places position_of))
    ∙ steps_are (positions_of places) flags n
  where
    take_all : (k : ℕ) (xs : List (Option Behind)) → length xs ≤ k → take k xs ≡ xs
    take_all zero [] h = refl
    take_all (suc k) [] h = refl
    take_all zero (x ∷ xs) h = absurd (omega (arith, h))
    take_all (suc k) (x ∷ xs) h = ap (λ (ys : List (Option Behind)). x ∷ ys) (take_all k xs (omega (arith, h)))
