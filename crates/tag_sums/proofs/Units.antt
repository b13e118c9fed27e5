-- The sum of no token is neutral.
use Rattle.std.proofs.Common.{◌≡◌, ℕ, zero, suc, ◌+◌, ◌<◌, Bool, true, false, List, [], ◌∷◌, ◌++◌, map, length, Option, Some, None, refl, sym, ◌∙◌, ap, subst, arith, zero-add}
use Rattle.std.specs.Prelude.{if◌then◌else◌}
use Rattle.std.specs.List.{range_with_len}
use Rattle.std.proofs.lemmas.List.{ext_get_or, length-map}
use Rattle.std.proofs.lemmas.List.FromFn.{get_or-map-range_with_len, length-map-range_with_len}
use Rattle.tag_sums.specs.Automaton.{Automaton, IsAutomaton}
use Rattle.text_base.specs.declared.page_token.PageToken.{PageToken}
use Rattle.text_base.specs.declared.page_token.PageToken.TheVariants.{Doctype, Start, End, Blank, Text, Misc, Bad}
use Rattle.tag_sums.specs.Labels.{Mark, Label, child, other, blank, text, misc, doctype}
use Rattle.tag_sums.specs.Sum.{Sum, target, has, follow, admits, after, preimage, some_move, some_state, joined, moved, meet, compose, by_state, unit, by_label, with_label, opening, of_token, sum_of, broken, reduced}
use Rattle.tag_sums.specs.Fits.{AreStates, LeadBelow, AreSets, Fits}
use Rattle.tag_sums.proofs.Tables.{target_after, has_preimage}
use Rattle.tag_sums.proofs.Associativity.{assoc}

pub target_by_state : (c : Automaton) (f : ℕ → Option ℕ) (q : ℕ) → q < c.count → target (by_state c f) q ≡ f q
target_by_state c f q h = get_or-map-range_with_len f 0 c.count q q None h (zero-add q)

pub has_by_state : (c : Automaton) (f : ℕ → Bool) (q : ℕ) → q < c.count → has (by_state c f) q ≡ f q
has_by_state c f q h = get_or-map-range_with_len f 0 c.count q q false h (zero-add q)

by_state_length : {X : Type 0} (c : Automaton) (f : ℕ → X) → length (by_state c f) ≡ c.count
by_state_length c f = length-map-range_with_len f 0 c.count

stay_after : (c : Automaton) (m : List (Option ℕ)) → length m ≡ c.count → after (by_state c Some) m ≡ m
stay_after c m e =
    let n : length (after (by_state c Some) m) ≡ c.count = length-map (by_state c Some) (follow m) ∙ by_state_length c Some in
    ext_get_or None (after (by_state c Some) m) m (n ∙ sym e)
    (λ i h. target_after (by_state c Some) m i ∙ ap (follow m) (target_by_state c Some i (subst (λ (k : ℕ). i < k) n h)))

stay_preimage : (c : Automaton) (s : List Bool) → length s ≡ c.count → preimage (by_state c Some) s ≡ s
stay_preimage c s e =
    let n : length (preimage (by_state c Some) s) ≡ c.count = length-map (by_state c Some) (admits s) ∙ by_state_length c Some in
    ext_get_or false (preimage (by_state c Some) s) s (n ∙ sym e)
    (λ i h. has_preimage (by_state c Some) s i ∙ ap (admits s) (target_by_state c Some i (subst (λ (k : ℕ). i < k) n h)))

after_stay : (c : Automaton) (m : List (Option ℕ)) → LeadBelow c.count m → after m (by_state c Some) ≡ m
after_stay c [] h = refl
after_stay c (None ∷ m) h = ap (λ (l : List (Option ℕ)). None ∷ l) (after_stay c m h)
after_stay c (Some q ∷ m) h =
    ap (λ (o : Option ℕ). o ∷ after m (by_state c Some)) (target_by_state c Some q h.0)
    ∙ ap (λ (l : List (Option ℕ)). Some q ∷ l) (after_stay c m h.1)

-- before a sum that fits
pub unit_first : (c : Automaton) (s : Sum) → Fits c.count s → compose (unit c) s ≡ s
unit_first c broken h = refl
unit_first c (reduced [] m os) h =
    ap (λ (l : List (Option ℕ)). joined [] l os) (stay_after c m h.1)
    ∙ ap (λ (b : Bool). if b then reduced [] m os else broken) h.2
unit_first c (reduced (s ∷ cs) m os) h =
    ap (λ (l : List Bool). if some_state l then reduced (l ∷ cs) m os else broken) (stay_preimage c s h.0.0)
    ∙ ap (λ (b : Bool). if b then reduced (s ∷ cs) m os else broken) h.0.1

-- after one
pub unit_last : (c : Automaton) (s : Sum) → Fits c.count s → compose s (unit c) ≡ s
unit_last c broken h = refl
unit_last c (reduced cs m []) h =
    ap (λ (l : List (Option ℕ)). joined cs l []) (after_stay c m h.3)
    ∙ ap (λ (b : Bool). if b then reduced cs m [] else broken) h.2
unit_last c (reduced cs m (q ∷ os)) h = ap (λ (o : Option ℕ). moved cs m [] os o) (target_by_state c Some q h.4.0)

-- what fits stays so
states_append : (n : ℕ) (xs ys : List ℕ) → AreStates n xs → AreStates n ys → AreStates n (xs ++ ys)
states_append n [] ys h k = k
states_append n (x ∷ xs) ys h k = (h.0, states_append n xs ys h.1 k)

sets_append : (n : ℕ) (xs ys : List (List Bool)) → AreSets n xs → AreSets n ys → AreSets n (xs ++ ys)
sets_append n [] ys h k = k
sets_append n (x ∷ xs) ys h k = (h.0, h.1, sets_append n xs ys h.2 k)

lead_go : (n : ℕ) (m : List (Option ℕ)) (q r : ℕ) → LeadBelow n m → target m q ≡ Some r → r < n
lead_go n [] q r h e = cc
lead_go n (None ∷ m) zero r h e = cc
lead_go n (None ∷ m) (suc q) r h e = lead_go n m q r h e
lead_go n (Some x ∷ m) zero r h e =
    let f : x ≡ r = cc in
    subst (λ (k : ℕ). k < n) f h.0
lead_go n (Some x ∷ m) (suc q) r h e = lead_go n m q r h.1 e

lead_cons : (n : ℕ) (o : Option ℕ) (m : List (Option ℕ)) → ((r : ℕ) → o ≡ Some r → r < n) → LeadBelow n m → LeadBelow n (o ∷ m)
lead_cons n None m h k = k
lead_cons n (Some x) m h k = (h x refl, k)

lead_after : (n : ℕ) (f s : List (Option ℕ)) → LeadBelow n s → LeadBelow n (after f s)
lead_after n [] s h = tt
lead_after n (None ∷ f) s h = lead_after n f s h
lead_after n (Some q ∷ f) s h = lead_cons n (target s q) (after f s) (λ r e. lead_go n s q r h e) (lead_after n f s h)

lead_by_state : (c : Automaton) (f : ℕ → Option ℕ) (a k : ℕ) → ((q r : ℕ) → q < a + k → f q ≡ Some r → r < c.count) → LeadBelow c.count (map f (range_with_len a k))
lead_by_state c f a zero h = tt
lead_by_state c f a (suc k) h = lead_cons c.count (f a) (map f (range_with_len (a + 1) k)) (λ r e. h a r (omega arith) e) (lead_by_state c f (a + 1) k (λ q r l e. h q r (omega (arith, l)) e))

fits_if : (n : ℕ) (b b' : Bool) (s : Sum) → b' ≡ b → (b' ≡ true → Fits n s) → Fits n (if b then s else broken)
fits_if n true b' s e h = h e
fits_if n false b' s e h = tt

fits_joined : (n : ℕ) (cs : List (List Bool)) (m : List (Option ℕ)) (os : List ℕ) → AreSets n cs → length m ≡ n → LeadBelow n m → AreStates n os → Fits n (joined cs m os)
fits_joined n cs m os h e l k = fits_if n (some_move m) (some_move m) (reduced cs m os) refl (λ f. (h, e, f, l, k))

fits_moved : (n : ℕ) (cs : List (List Bool)) (m : List (Option ℕ)) (inner outer : List ℕ) (o : Option ℕ) → AreSets n cs → length m ≡ n → some_move m ≡ true → LeadBelow n m → AreStates n inner → AreStates n outer → ((r : ℕ) → o ≡ Some r → r < n) → Fits n (moved cs m inner outer o)
fits_moved n cs m inner outer None h e f l i j k = tt
fits_moved n cs m inner outer (Some x) h e f l i j k = (h, e, f, l, states_append n inner (x ∷ outer) i (k x refl, j))

fits_meet : (n : ℕ) (ca : List (List Bool)) (ma : List (Option ℕ)) (oa : List ℕ) (cb : List (List Bool)) (mb : List (Option ℕ)) (ob : List ℕ) → Fits n (reduced ca ma oa) → Fits n (reduced cb mb ob) → Fits n (meet ca ma oa cb mb ob)
fits_meet n ca ma [] [] mb ob h k = fits_joined n ca (after ma mb) ob h.0 (length-map ma (follow mb) ∙ h.1) (lead_after n ma mb k.3) k.4
fits_meet n ca ma [] (s ∷ cb) mb ob h k =
    fits_if n (some_state (preimage ma s)) (some_state (preimage ma s)) (reduced (ca ++ preimage ma s ∷ cb) mb ob) refl
    (λ e. (sets_append n ca (preimage ma s ∷ cb) h.0 (length-map ma (admits s) ∙ h.1, e, k.0.2), k.1, k.2, k.3, k.4))
fits_meet n ca ma (q ∷ oa) [] mb ob h k = fits_moved n ca ma ob oa (target mb q) h.0 h.1 h.2 h.3 k.4 h.4.1 (λ r e. lead_go n mb q r k.3 e)
fits_meet n ca ma (q ∷ oa) (s ∷ cb) mb ob h k =
    fits_if n (has s q) (has s q) (meet ca ma oa cb mb ob) refl
    (λ e. fits_meet n ca ma oa cb mb ob (h.0, h.1, h.2, h.3, h.4.1) (k.0.2, k.1, k.2, k.3, k.4))

pub fits_compose : (n : ℕ) (a b : Sum) → Fits n a → Fits n b → Fits n (compose a b)
fits_compose n broken b h k = tt
fits_compose n (reduced ca ma oa) broken h k = tt
fits_compose n (reduced ca ma oa) (reduced cb mb ob) h k = fits_meet n ca ma oa cb mb ob h k

some_by_state : (c : Automaton) (n : ℕ) → 0 < n → some_move (map Some (range_with_len 0 n)) ≡ true
some_by_state c zero h = absurd (omega (arith, h))
some_by_state c (suc n) h = refl

pub fits_unit : (c : Automaton) → IsAutomaton c → Fits c.count (unit c)
fits_unit c h = (tt, by_state_length c Some, some_by_state c c.count (omega (arith, h.start_below)), lead_by_state c Some 0 c.count (λ q r l e. let f : q ≡ r = cc in omega (arith, l, f)), tt)

fits_label : (c : Automaton) (l : Label) → IsAutomaton c → LeadBelow c.count (by_label c l)
fits_label c l h = lead_by_state c (λ q. c.step q l) 0 c.count (λ q r k e. h.step_below q r l e)

fits_opening : (c : Automaton) → IsAutomaton c → (o : Option ℕ) → ((q : ℕ) → o ≡ Some q → q < c.count) → Fits c.count (opening c o)
fits_opening c h None f = tt
fits_opening c h (Some q) f = let u = fits_unit c h in (u.0, u.1, u.2, u.3, (f q refl, tt))

fits_mark : (c : Automaton) (m : Mark) → IsAutomaton c → Fits c.count (with_label c (other m))
fits_mark c m h = fits_joined c.count [] (by_label c (other m)) [] tt (by_state_length c (λ q. c.step q (other m))) (fits_label c (other m) h) tt

pub fits_token : (c : Automaton) (t : PageToken) → IsAutomaton c → Fits c.count (of_token c t)
fits_token c (Start e) h = fits_opening c h (c.init e.0) (λ q f. h.init_below e.0 q f)
fits_token c (End e) h =
    fits_if c.count (some_state (by_state c (c.closes e.0))) (some_state (by_state c (c.closes e.0))) (if some_move (by_label c (child e.0)) then reduced (by_state c (c.closes e.0) ∷ []) (by_label c (child e.0)) [] else broken) refl
    (λ f. fits_if c.count (some_move (by_label c (child e.0))) (some_move (by_label c (child e.0))) (reduced (by_state c (c.closes e.0) ∷ []) (by_label c (child e.0)) []) refl
    (λ g. ((by_state_length c (c.closes e.0), f, tt), by_state_length c (λ q. c.step q (child e.0)), g, fits_label c (child e.0) h, tt)))
fits_token c Doctype h = fits_mark c doctype h
fits_token c Blank h = fits_mark c blank h
fits_token c Text h = fits_mark c text h
fits_token c Misc h = fits_mark c misc h
fits_token c Bad h = tt

pub fits_sum : (c : Automaton) (ts : List PageToken) → IsAutomaton c → Fits c.count (sum_of c ts)
fits_sum c [] h = fits_unit c h
fits_sum c (t ∷ ts) h = fits_compose c.count (of_token c t) (sum_of c ts) (fits_token c t h) (fits_sum c ts h)

pub one_token : (c : Automaton) → IsAutomaton c → (t : PageToken) → sum_of c (t ∷ []) ≡ of_token c t
one_token c h t = unit_last c (of_token c t) (fits_token c t h)

pub sum_append : (c : Automaton) → IsAutomaton c → (u v : List PageToken) → sum_of c (u ++ v) ≡ compose (sum_of c u) (sum_of c v)
sum_append c h [] v = sym (unit_first c (sum_of c v) (fits_sum c v h))
sum_append c h (t ∷ u) v =
    ap (compose (of_token c t)) (sum_append c h u v)
    ∙ sym (assoc (of_token c t) (sum_of c u) (sum_of c v))
