-- The machine of trimming relates what `trim` does.
use Rattle.std.proofs.Common.{◌≡◌, ◌==◌, ◌&&◌, ℕ, ◌+◌, ◌<◌, ◌≤◌, Bool, true, false, List, [], ◌∷◌, ◌++◌, length, map, All, refl, sym, ◌∙◌, ap, subst, arith, inl, inr}
use Rattle.std.specs.Prelude.{MatchBool}
use Rattle.std.specs.List.{Contains, list_all}
use Rattle.std.proofs.lemmas.Bool.{cases_Bool, cases_eq, cond_both, false≢true, and_right, and_left, and_from, and_parts}
use Rattle.std.proofs.lemmas.List.Elements.{All-cons, All-nil, All-contains, All-weaker}
use Rattle.string_functions.specs.Trim.{is_stripped, left_trim_of, right_trim_of, trim_of}
use Rattle.string_functions.proofs.Members.{Contains-nil, Contains-head, Contains-later, Contains-cons_cases}
use Rattle.fst_core.specs.declared.out.Out.{Out}
use Rattle.fst_core.specs.declared.out.Out.TheVariants.{Same}
use Rattle.fst_core.specs.declared.table.Table.{Table}
use Rattle.string_ops.specs.Listed.{IsShort, AreSmall, IsListed, IsMachine, byte_of}
use Rattle.string_ops.specs.Trim.{kept_row, trim_row, trim_last, trim_rows, trim_lasts}
use Rattle.string_ops.proofs.ListedLemmas.{listed_machine}
use Rattle.string_ops.proofs.PlanFunctions.{below_small}
use Rattle.string_ops.proofs.Relations.{Simulates, follows_relation}

-- what may be put out from each state
abbrev TrimFrom : Bool → Bool → ℕ → List ℕ → List ℕ → Type 0
TrimFrom left right s text out =
    MatchBool (s == 0) (out ≡ trim_of left right text) (MatchBool (s == 1) (out ≡ trim_of false right text) (MatchBool (s == 2) ((list_all is_stripped text ≡ false) × (out ≡ trim_of false right text)) ((list_all is_stripped text ≡ true) × (out ≡ []))))

-- each state is one of four
at_state : (P : ℕ → Type 0) (s : ℕ) → s < 4 → P 0 → P 1 → P 2 → P 3 → P s
at_state P s inside zero one two three =
    elim (cases_eq s 0) [
      | inl e ↦ subst P (sym e) zero
      | inr n0 ↦ elim (cases_eq s 1) [
        | inl e ↦ subst P (sym e) one
        | inr n1 ↦ elim (cases_eq s 2) [
          | inl e ↦ subst P (sym e) two
          | inr n2 ↦ let e : 3 ≡ s = omega (arith, inside, n0, n1, n2) in subst P e three
        ]
      ]
    ]

-- the one element of a list
pub only : {A : Type 0} (P : A → Type 0) (x y : A) → Contains (x ∷ []) y → P x → P y
only P x y h p = elim (Contains-cons_cases x [] y h) [ inl e ↦ subst P e p | inr none ↦ Contains-nil y none ]

pub either : {A : Type 0} (P : A → Type 0) (x z y : A) → Contains (x ∷ z ∷ []) y → P x → P z → P y
either P x z y h p q = elim (Contains-cons_cases x (z ∷ []) y h) [ inl e ↦ subst P e p | inr later ↦ only P z y later q ]

-- a byte that stays is not stripped from the end
trim_of-kept : (right : Bool) (b : ℕ) (text : List ℕ) → is_stripped b ≡ false → trim_of false right (b ∷ text) ≡ b ∷ trim_of false right text
trim_of-kept true b text stays = rw stays refl
trim_of-kept false b text stays = refl

-- nor is one behind which some byte stays
trim_of-before_kept : (right : Bool) (b : ℕ) (text : List ℕ) → list_all is_stripped text ≡ false → trim_of false right (b ∷ text) ≡ b ∷ trim_of false right text
trim_of-before_kept true b text some = rw (and_right (is_stripped b) (list_all is_stripped text) some) refl
trim_of-before_kept false b text some = refl

Goes : Bool → Bool → ℕ → ℕ → (ℕ × List Out) → Type 0
Goes left right s b p = (text rest : List ℕ) → TrimFrom left right p.0 text rest → TrimFrom left right s (b ∷ text) (map (byte_of b) p.1 ++ rest)

Comes : Bool → Bool → ℕ → ℕ → List (ℕ × List Out) → Type 0
Comes left right s b row = (text out : List ℕ) → TrimFrom left right s (b ∷ text) out → (p : ℕ × List Out) × Contains row p × (rest : List ℕ) × TrimFrom left right p.0 text rest × (map (byte_of b) p.1 ++ rest ≡ out)

-- behind a byte that stays, or at the front where nothing is stripped from the left
kept_goes : (left right : Bool) (b : ℕ) (p : ℕ × List Out) → Contains (kept_row right b) p → Goes left right 1 b p
unfolding Goes
kept_goes left false b p = λ among. only (Goes left false 1 b) (1, Same ∷ []) p among (λ text rest h. ap (λ (xs : List ℕ). b ∷ xs) h)
kept_goes left true b p =
    cond_both (is_stripped b) _ _ (λ (row : List (ℕ × List Out)). Contains row p → Goes left true 1 b p)
    (λ strip among. either (Goes left true 1 b) (2, Same ∷ []) (3, []) p among
    (λ text rest h. ap (λ (xs : List ℕ). b ∷ xs) h.1 ∙ sym (trim_of-before_kept true b text h.0))
    (λ text rest h. h.1 ∙ rw (strip, h.0) refl))
    (λ stays among. only (Goes left true 1 b) (1, Same ∷ []) p among (λ text rest h. ap (λ (xs : List ℕ). b ∷ xs) h ∙ sym (trim_of-kept true b text stays)))

kept_comes : (left right : Bool) (b : ℕ) → Comes left right 1 b (kept_row right b)
unfolding Comes
kept_comes left false b text out h = ((1, Same ∷ []), Contains-head (1, Same ∷ []) [], text, refl, sym h)
kept_comes left true b text out h =
    cond_both (is_stripped b) _ _ (λ (row : List (ℕ × List Out)). (p : ℕ × List Out) × Contains row p × (rest : List ℕ) × TrimFrom left true p.0 text rest × (map (byte_of b) p.1 ++ rest ≡ out))
    (λ strip. elim (cases_Bool (list_all is_stripped text)) [
      | inl all ↦ ((3, []), Contains-later (2, Same ∷ []) ((3, []) ∷ []) (3, []) (Contains-head (3, []) []), [], (all, refl), sym (h ∙ rw (strip, all) refl))
      | inr some ↦ ((2, Same ∷ []), Contains-head (2, Same ∷ []) ((3, []) ∷ []), right_trim_of text, (some, refl), sym (h ∙ trim_of-before_kept true b text some))
    ])
    (λ stays. ((1, Same ∷ []), Contains-head (1, Same ∷ []) [], right_trim_of text, refl, sym (h ∙ trim_of-kept true b text stays)))

-- at the front, where bytes are stripped from the left
trim_of-stripped : (right : Bool) (b : ℕ) (text : List ℕ) → is_stripped b ≡ true → trim_of true right (b ∷ text) ≡ trim_of true right text
trim_of-stripped true b text strip = ap right_trim_of (left b text strip)
  where
    left : (b : ℕ) (text : List ℕ) → is_stripped b ≡ true → left_trim_of (b ∷ text) ≡ left_trim_of text
    left b text strip = rw strip refl
trim_of-stripped false b text strip = rw strip refl

trim_of-front_kept : (right : Bool) (b : ℕ) (text : List ℕ) → is_stripped b ≡ false → trim_of true right (b ∷ text) ≡ b ∷ trim_of false right text
trim_of-front_kept true b text stays = ap right_trim_of (left b text stays) ∙ trim_of-kept true b text stays
  where
    left : (b : ℕ) (text : List ℕ) → is_stripped b ≡ false → left_trim_of (b ∷ text) ≡ b ∷ text
    left b text stays = rw stays refl
trim_of-front_kept false b text stays = rw stays refl

front_goes : (left right : Bool) (b : ℕ) (p : ℕ × List Out) → Contains (trim_row left right 0 b) p → Goes left right 0 b p
unfolding Goes
front_goes false right b p = λ among. kept_goes false right b p among
front_goes true right b p =
    cond_both (is_stripped b) _ _ (λ (row : List (ℕ × List Out)). Contains row p → Goes true right 0 b p)
    (λ strip among. only (Goes true right 0 b) (0, []) p among (λ text rest h. h ∙ sym (trim_of-stripped right b text strip)))
    (λ stays among. only (Goes true right 0 b) (1, Same ∷ []) p among (λ text rest h. ap (λ (xs : List ℕ). b ∷ xs) h ∙ sym (trim_of-front_kept right b text stays)))

front_comes : (left right : Bool) (b : ℕ) → Comes left right 0 b (trim_row left right 0 b)
unfolding Comes
front_comes false right b text out h = kept_comes false right b text out h
front_comes true right b text out h =
    cond_both (is_stripped b) _ _ (λ (row : List (ℕ × List Out)). (p : ℕ × List Out) × Contains row p × (rest : List ℕ) × TrimFrom true right p.0 text rest × (map (byte_of b) p.1 ++ rest ≡ out))
    (λ strip. ((0, []), Contains-head (0, []) [], out, h ∙ trim_of-stripped right b text strip, refl))
    (λ stays. ((1, Same ∷ []), Contains-head (1, Same ∷ []) [], trim_of false right text, refl, sym (h ∙ trim_of-front_kept right b text stays)))

-- behind a byte to be stripped that stays
promise_goes : (left right : Bool) (b : ℕ) (p : ℕ × List Out) → Contains (trim_row left right 2 b) p → Goes left right 2 b p
unfolding Goes
promise_goes left right b p =
    cond_both (is_stripped b) _ _ (λ (row : List (ℕ × List Out)). Contains row p → Goes left right 2 b p)
    (λ strip among. only (Goes left right 2 b) (2, Same ∷ []) p among (λ text rest h. (and_right (is_stripped b) (list_all is_stripped text) h.0, ap (λ (xs : List ℕ). b ∷ xs) h.1 ∙ sym (trim_of-before_kept right b text h.0))))
    (λ stays among. only (Goes left right 2 b) (1, Same ∷ []) p among (λ text rest h. (and_left (is_stripped b) (list_all is_stripped text) stays, ap (λ (xs : List ℕ). b ∷ xs) h ∙ sym (trim_of-kept right b text stays))))

promise_comes : (left right : Bool) (b : ℕ) → Comes left right 2 b (trim_row left right 2 b)
unfolding Comes
promise_comes left right b text out h =
    cond_both (is_stripped b) _ _ (λ (row : List (ℕ × List Out)). (p : ℕ × List Out) × Contains row p × (rest : List ℕ) × TrimFrom left right p.0 text rest × (map (byte_of b) p.1 ++ rest ≡ out))
    (λ strip.
    let some : list_all is_stripped text ≡ false = remains (is_stripped b) (list_all is_stripped text) strip h.0 in
    ((2, Same ∷ []), Contains-head (2, Same ∷ []) [], trim_of false right text, (some, refl), sym (h.1 ∙ trim_of-before_kept right b text some)))
    (λ stays. ((1, Same ∷ []), Contains-head (1, Same ∷ []) [], trim_of false right text, refl, sym (h.1 ∙ trim_of-kept right b text stays)))
  where
    remains : (x y : Bool) → x ≡ true → (x && y) ≡ false → y ≡ false
    remains true y e f = f
    remains false y e f = absurd (false≢true e)

-- among the bytes that are stripped from the end
tail_goes : (left right : Bool) (b : ℕ) (p : ℕ × List Out) → Contains (trim_row left right 3 b) p → Goes left right 3 b p
unfolding Goes
tail_goes left right b p =
    cond_both (is_stripped b) _ _ (λ (row : List (ℕ × List Out)). Contains row p → Goes left right 3 b p)
    (λ strip among. only (Goes left right 3 b) (3, []) p among (λ text rest h. (and_from (is_stripped b) (list_all is_stripped text) strip h.0, h.1)))
    (λ stays among. Contains-nil p among)

tail_comes : (left right : Bool) (b : ℕ) → Comes left right 3 b (trim_row left right 3 b)
unfolding Comes
tail_comes left right b text out h =
    let both = and_parts (is_stripped b) (list_all is_stripped text) h.0 in
    let there : trim_row left right 3 b ≡ (3, []) ∷ [] = rw both.0 refl in
    ((3, []), subst (λ (row : List (ℕ × List Out)). Contains row (3, [])) (sym there) (Contains-head (3, []) []), [], (both.1, refl), sym h.1)

-- where each choice leads, and how short it is
Inner : (ℕ × List Out) → Type 0
Inner p = (p.0 < 4) × IsShort 8 p.1

kept_inner : (right : Bool) (b : ℕ) → All Inner (kept_row right b)
unfolding Inner
kept_inner right b =
    cond_both (right && is_stripped b) _ _ (All Inner)
    (λ _. All-cons Inner (2, Same ∷ []) ((3, []) ∷ []) (omega arith, (refl, omega arith)) (All-cons Inner (3, []) [] (omega arith, (refl, omega arith)) (All-nil Inner)))
    (λ _. All-cons Inner (1, Same ∷ []) [] (omega arith, (refl, omega arith)) (All-nil Inner))

trim_inner : (left right : Bool) (s b : ℕ) → All Inner (trim_row left right s b)
unfolding Inner
trim_inner left right s b =
    cond_both (s == 0) _ _ (All Inner)
    (λ _. cond_both left _ _ (All Inner)
    (λ _. cond_both (is_stripped b) _ _ (All Inner) (λ _. All-cons Inner (0, []) [] (omega arith, (refl, omega arith)) (All-nil Inner)) (λ _. All-cons Inner (1, Same ∷ []) [] (omega arith, (refl, omega arith)) (All-nil Inner)))
    (λ _. kept_inner right b))
    (λ _. cond_both (s == 1) _ _ (All Inner)
    (λ _. kept_inner right b)
    (λ _. cond_both (s == 2) _ _ (All Inner)
    (λ _. cond_both (is_stripped b) _ _ (All Inner) (λ _. All-cons Inner (2, Same ∷ []) [] (omega arith, (refl, omega arith)) (All-nil Inner)) (λ _. All-cons Inner (1, Same ∷ []) [] (omega arith, (refl, omega arith)) (All-nil Inner)))
    (λ _. cond_both (is_stripped b) _ _ (All Inner) (λ _. All-cons Inner (3, []) [] (omega arith, (refl, omega arith)) (All-nil Inner)) (λ _. All-nil Inner))))

trim_of-nil : (left right : Bool) → [] ≡ trim_of left right []
trim_of-nil true true = refl
trim_of-nil true false = refl
trim_of-nil false true = refl
trim_of-nil false false = refl

Stops : Bool → Bool → ℕ → Type 0
Stops left right s = ((own : List Out) → Contains (trim_last s) own → TrimFrom left right s [] (map (byte_of 0) own)) × ((out : List ℕ) → TrimFrom left right s [] out → (own : List Out) × Contains (trim_last s) own × (map (byte_of 0) own ≡ out))

trim_stops : (left right : Bool) (s : ℕ) → s < 4 → Stops left right s
unfolding Stops
trim_stops left right s inside =
    at_state (Stops left right) s inside
    ((λ own among. only (λ (o : List Out). map (byte_of 0) o ≡ trim_of left right []) [] own among (trim_of-nil left right)), (λ out h. ([], Contains-head [] [], trim_of-nil left right ∙ sym h)))
    ((λ own among. only (λ (o : List Out). map (byte_of 0) o ≡ trim_of false right []) [] own among (trim_of-nil false right)), (λ out h. ([], Contains-head [] [], trim_of-nil false right ∙ sym h)))
    ((λ own among. Contains-nil own among), (λ out h. absurd (false≢true (sym h.0))))
    ((λ own among. (refl, only (λ (o : List Out). map (byte_of 0) o ≡ []) [] own among refl)), (λ out h. ([], Contains-head [] [], sym h.1)))

Steps : Bool → Bool → ℕ → ℕ → Type 0
Steps left right b s = ((p : ℕ × List Out) → Contains (trim_row left right s b) p → Goes left right s b p) × Comes left right s b (trim_row left right s b)

trim_steps : (left right : Bool) (s b : ℕ) → s < 4 → Steps left right b s
unfolding Steps
trim_steps left right s b inside =
    at_state (Steps left right b) s inside
    (front_goes left right b, front_comes left right b)
    (kept_goes left right b, kept_comes left right b)
    (promise_goes left right b, promise_comes left right b)
    (tail_goes left right b, tail_comes left right b)

trim_simulates : (left right : Bool) → Simulates 4 (trim_row left right) trim_last (TrimFrom left right)
unfolding Goes Comes Steps Stops Inner
trim_simulates left right = record {
  within = λ s b p inside below among. (All-contains Inner (trim_row left right s b) p (trim_inner left right s b) among).0;
  stop_to = λ s own inside among. (trim_stops left right s inside).0 own among;
  stop_from = λ s out inside h. (trim_stops left right s inside).1 out h;
  step_to = λ s b text rest p inside below among h. (trim_steps left right s b inside).0 p among text rest h;
  step_from = λ s b text out inside below h. (trim_steps left right s b inside).1 text out h;
}

pub trim_two : (left right : Bool) (s b : ℕ) → length (trim_row left right s b) ≤ 2
trim_two left right s b =
    let P : List (ℕ × List Out) → Type 0 = λ row. length row ≤ 2 in
    let kept : P (kept_row right b) = cond_both (right && is_stripped b) _ _ P (λ _. omega arith) (λ _. omega arith) in
    cond_both (s == 0) _ _ P (λ _. cond_both left _ _ P (λ _. cond_both (is_stripped b) _ _ P (λ _. omega arith) (λ _. omega arith)) (λ _. kept))
    (λ _. cond_both (s == 1) _ _ P (λ _. kept) (λ _. cond_both (s == 2) _ _ P (λ _. cond_both (is_stripped b) _ _ P (λ _. omega arith) (λ _. omega arith)) (λ _. cond_both (is_stripped b) _ _ P (λ _. omega arith) (λ _. omega arith))))

trim_small : (left right : Bool) → AreSmall (trim_rows left right) trim_lasts 8
unfolding Inner
trim_small left right =
    below_small 4 (trim_row left right) trim_last 8 (record {
      few = λ s b. let h = trim_two left right s b in omega (arith, h);
      moves = λ s b. All-weaker Inner (λ (p : ℕ × List Out). IsShort 8 p.1) (λ p h. h.1) (trim_row left right s b) (trim_inner left right s b);
      ends = λ s. cond_both (s == 2) _ _ (All (IsShort 8)) (λ _. All-nil (IsShort 8)) (λ _. All-cons (IsShort 8) [] [] (refl, omega arith) (All-nil (IsShort 8)));
    })

pub trim_is_machine : (left right : Bool) (table : Table) → IsListed table 4 (trim_rows left right) trim_lasts → IsMachine table 0 (λ input output. output ≡ trim_of left right input)
trim_is_machine left right table listed =
    listed_machine table 4 (trim_rows left right) trim_lasts 0 (λ input output. output ≡ trim_of left right input) listed (trim_small left right) (omega arith)
    (λ input output bytes. follows_relation 4 (trim_row left right) trim_last (TrimFrom left right) (trim_simulates left right) 0 (omega arith) input output bytes)
