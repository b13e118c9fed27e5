-- All names of sets that a program can have, as lists.
use Rattle.std.proofs.Common.{◌≡◌, ◌≤◌, ◌<◌, ◌+◌, ◌*◌, ◌⊎◌, inl, inr, ℕ, zero, suc, List, [], ◌∷◌, ◌++◌, Option, Some, None, refl, subst, ap, ◌∙◌, arith, slice_get, Contains, length, map}
use Rattle.std.specs.Prelude.{flat_map}
use Rattle.std.specs.List.{sum_by}
use Rattle.std.proofs.lemmas.List.Sums.{sum_by-cons, sum_by-append}
use Rattle.string_functions.proofs.Members.{Contains-head, Contains-later}
use Rattle.flow_code.specs.Points.{PlainPoint, call_point, PlainFlowFunction}
use Rattle.flow_code.specs.Lawful.{nexts}
use Rattle.loose_sets.specs.declared.name.Half.TheVariants.{Text, Array}
use Rattle.loose_sets.specs.declared.name.Aspect.{Aspect}
use Rattle.loose_sets.specs.declared.name.Aspect.TheVariants.{Own, Member, Others, Keys}
use Rattle.loose_sets.specs.declared.name.SetVersion.{SetVersion}
use Rattle.loose_sets.specs.declared.name.SetVersion.TheVariants.{Point, Entry, Join}
use Rattle.loose_sets.specs.declared.name.Leaving.TheVariants.{Return, Exit}
use Rattle.loose_sets.specs.declared.name.SetName.{SetName}
use Rattle.loose_sets.specs.declared.name.SetName.TheVariants.{Value, Members, Shown, Result, Input, Output, Joined, Piece, FurtherPiece, FurtherPieces, Out}
use Rattle.loose_sets.specs.Points.{source_at, joined_slots}
use Rattle.extraction.proofs.Sums.{sum_flat, sum_map, sum_le, sum_same, sum_add, sum_times, sum_times_right, sum_ones, sum_most, mul-add, add-mul}

-- the places of a list, from a number on
abbrev pub places : {X : Type 0} → ℕ → List X → List ℕ
places i [] = []
places i (x ∷ xs) = i ∷ places (suc i) xs

-- so many numbers in a row
abbrev pub run : ℕ → ℕ → List ℕ
run i zero = []
run i (suc n) = i ∷ run (suc i) n

pub places_length : {X : Type 0} (i : ℕ) (xs : List X) → length (places i xs) ≡ length xs
places_length i [] = refl
places_length i (x ∷ xs) = ap suc (places_length (suc i) xs)

pub run_length : (i n : ℕ) → length (run i n) ≡ n
run_length i zero = refl
run_length i (suc n) = ap suc (run_length (suc i) n)

pub places_has : {X : Type 0} (xs : List X) (i k : ℕ) (x : X) → slice_get xs k ≡ Some x → Contains (places i xs) (i + k)
places_has [] i k x at = absurd (cc)
places_has (y ∷ xs) i zero x at = subst (λ (n : ℕ). Contains (i ∷ places (suc i) xs) n) (none i) (Contains-head i (places (suc i) xs))
  where
    none : (i : ℕ) → i ≡ i + 0
    none i = omega arith
places_has (y ∷ xs) i (suc k) x at = subst (λ (n : ℕ). Contains (i ∷ places (suc i) xs) n) (next i k) (Contains-later i (places (suc i) xs) (suc i + k) (places_has xs (suc i) k x at))
  where
    next : (i k : ℕ) → suc i + k ≡ i + suc k
    next i k = omega arith

pub place_in : {X : Type 0} (xs : List X) (k : ℕ) (x : X) → slice_get xs k ≡ Some x → Contains (places 0 xs) k
place_in xs k x at = subst (λ (n : ℕ). Contains (places 0 xs) n) (none k) (places_has xs 0 k x at)
  where
    none : (k : ℕ) → 0 + k ≡ k
    none k = omega arith

pub run_has : (i n k : ℕ) → i ≤ k → k < i + n → Contains (run i n) k
run_has i zero k least most = absurd (omega (arith, least, most))
run_has i (suc n) k least most = elim (cases i k least) [
  | inl e ↦ subst (λ (m : ℕ). Contains (i ∷ run (suc i) n) m) e (Contains-head i (run (suc i) n))
  | inr more ↦ Contains-later i (run (suc i) n) k (run_has (suc i) n k more (omega (arith, most)))
]
  where
    cases : (a b : ℕ) → a ≤ b → (a ≡ b) ⊎ (suc a ≤ b)
    cases a b h = grind arith

-- a sum over the places of a list is one over the list
pub sum_places : {X : Type 0} (f : ℕ → ℕ) (g : X → ℕ) (xs : List X) (i : ℕ) → ((k : ℕ) (x : X) → slice_get xs k ≡ Some x → f (i + k) ≤ g x) → sum_by f (places i xs) ≤ sum_by g xs
sum_places f g [] i le = omega arith
sum_places {X} f g (x ∷ xs) i le =
    let a = sum_by-cons f i (places (suc i) xs) in
    let b = sum_by-cons g x xs in
    let c : f i ≤ g x = subst (λ (n : ℕ). f n ≤ g x) (none i) (le 0 x refl) in
    let d = sum_places f g xs (suc i) (λ k y at. subst (λ (n : ℕ). f n ≤ g y) (next i k) (le (suc k) y at)) in
    omega (arith, a, b, c, d)
  where
    none : (i : ℕ) → i + 0 ≡ i
    none i = omega arith

    next : (i k : ℕ) → i + suc k ≡ suc i + k
    next i k = omega arith

-- both halves of the member under the key of a number
abbrev pub both_members : ℕ → List Aspect
both_members i = Member i Text ∷ Member i Array ∷ []

-- of a value but for its members under these keys
abbrev pub five_aspects : List Aspect
five_aspects = Own Text ∷ Own Array ∷ Others Text ∷ Others Array ∷ Keys ∷ []

-- of a value, by so many keys that are told apart
abbrev pub aspects : {X : Type 0} → List X → List Aspect
aspects told = five_aspects ++ flat_map both_members (places 0 told)

-- the slots of functions, each with the number of its function, from a number on
abbrev pub own_slots : ℕ → PlainFlowFunction → List (ℕ × ℕ)
own_slots f g = map (λ x. (f, x)) (run g.first_slot_of g.slots_of)

abbrev pub entry_slots : ℕ → List PlainFlowFunction → List (ℕ × ℕ)
entry_slots f [] = []
entry_slots f (g ∷ gs) = own_slots f g ++ entry_slots (suc f) gs

-- what is defined of a slot where its function is entered
abbrev pub entry_of : ℕ × ℕ → SetVersion
entry_of k = Entry k.0 k.1

-- the join of a slot at a point
abbrev pub join_of : ℕ × ℕ → SetVersion
join_of k = Join k.0 k.1

-- of a version as a whole
abbrev pub own_names : SetVersion → List SetName
own_names v = Members Text v ∷ Members Array v ∷ Shown v ∷ []

-- of a version
abbrev pub version_names : List Aspect → SetVersion → List SetName
version_names bs v = map (λ b. Value b v) bs ++ own_names v

-- of the results of a function
abbrev pub result_names : List Aspect → ℕ → List SetName
result_names bs n = map (λ b. Result b n) bs

-- of a point
abbrev pub point_names : ℕ → List SetName
point_names p = Input p ∷ Output p ∷ Piece p ∷ FurtherPiece p ∷ FurtherPieces p ∷ []

-- what is printed from a point on
abbrev pub out_names : ℕ → List SetName
out_names p = Out p Return ∷ Out p Exit ∷ []

-- how many values a point joins
abbrev pub slots_joined : Option (List ℕ) → ℕ
slots_joined None = 0
slots_joined (Some xs) = length xs

abbrev pub joined_count : Option PlainPoint → ℕ
joined_count None = 0
joined_count (Some k) = slots_joined (joined_slots (source_at k))

-- of the values that the point joins
abbrev pub joined_names : List PlainPoint → ℕ → List SetName
joined_names points p = map (λ i. Joined p i) (run 0 (suc (joined_count (slice_get points p))))

-- the function that a point calls
unfoldable pub called_by : PlainPoint → List ℕ
called_by (call_point x n args next) = n ∷ []
called_by _ = []

-- the points where runs are entered or go on
abbrev pub targets_in : List PlainFlowFunction → List PlainPoint → List ℕ
targets_in fs points = map (λ (g : PlainFlowFunction). g.entry_of) fs ++ flat_map nexts points

-- the versions: what points define, what entries define, and joins
abbrev pub all_versions : List PlainFlowFunction → List PlainPoint → List (ℕ × ℕ) → List SetVersion
all_versions fs points asks = map (λ p. Point p) (places 0 points) ++ (map entry_of (entry_slots 0 fs) ++ map join_of asks)

-- all names over these aspects, versions, functions whose results are named, points, and points from which on something is printed
abbrev pub all_names_of : List Aspect → List SetVersion → List ℕ → List PlainPoint → List ℕ → List SetName
all_names_of bs vs called points targets =
    flat_map (version_names bs) vs ++ (flat_map (result_names bs) called ++ (flat_map point_names (places 0 points) ++ (flat_map (joined_names points) (places 0 points) ++ flat_map out_names targets)))

-- a sum over all names, by their kinds
pub sum_names : (weigh : SetName → ℕ) (bs : List Aspect) (vs : List SetVersion) (called : List ℕ) (points : List PlainPoint) (targets : List ℕ)
    → sum_by weigh (all_names_of bs vs called points targets)
    ≡ sum_by (λ v. sum_by weigh (version_names bs v)) vs + (sum_by (λ n. sum_by weigh (result_names bs n)) called + (sum_by (λ p. sum_by weigh (point_names p)) (places 0 points) + (sum_by (λ p. sum_by weigh (joined_names points p)) (places 0 points) + sum_by (λ p. sum_by weigh (out_names p)) targets)))
sum_names weigh bs vs called points targets =
    let d = flat_map out_names targets in
    let c = flat_map (joined_names points) (places 0 points) in
    let b = flat_map point_names (places 0 points) in
    let a = flat_map (result_names bs) called in
    let first = sum_by-append weigh (flat_map (version_names bs) vs) (a ++ (b ++ (c ++ d))) in
    let second = sum_by-append weigh a (b ++ (c ++ d)) in
    let third = sum_by-append weigh b (c ++ d) in
    let fourth = sum_by-append weigh c d in
    let e = sum_flat weigh (version_names bs) vs in
    let f = sum_flat weigh (result_names bs) called in
    let g = sum_flat weigh point_names (places 0 points) in
    let h = sum_flat weigh (joined_names points) (places 0 points) in
    let i = sum_flat weigh out_names targets in
    joined _ _ _ _ _ _ _ _ _ _ _ _ _ _ first second third fourth e f g h i
  where
    joined : (all vs rs ps js os abcd bcd cd v r p j o : ℕ) → all ≡ vs + abcd → abcd ≡ rs + bcd → bcd ≡ ps + cd → cd ≡ js + os → vs ≡ v → rs ≡ r → ps ≡ p → js ≡ j → os ≡ o → all ≡ v + (r + (p + (j + o)))
    joined all vs rs ps js os abcd bcd cd v r p j o e1 e2 e3 e4 e5 e6 e7 e8 e9 = omega arith

-- the sum over the names of a version, and how many these are
pub sum_version : (weigh : SetName → ℕ) (bs : List Aspect) (v : SetVersion) → sum_by weigh (version_names bs v) ≡ sum_by (λ b. weigh (Value b v)) bs + (weigh (Members Text v) + weigh (Members Array v) + weigh (Shown v))
sum_version weigh bs v =
    let a = sum_by-append weigh (map (λ b. Value b v) bs) (Members Text v ∷ Members Array v ∷ Shown v ∷ []) in
    let b = sum_map weigh (λ (b : Aspect). Value b v) bs in
    omega (arith, a, b)

module _ (weigh : SetName → ℕ) (bs : List Aspect) (fs : List PlainFlowFunction) (points : List PlainPoint) (asks : List (ℕ × ℕ)) (called targets : List ℕ) where
  -- what the names weigh at most, by their kinds
  pub record Weighs (at_point : PlainPoint → ℕ) (at_entry at_join : ℕ × ℕ → ℕ) (version : ℕ) (result : ℕ → ℕ) (point joined : ℕ) (out : ℕ → ℕ) : Type 0 where
    pub points_most : (b : Aspect) (p : ℕ) (k : PlainPoint) → slice_get points p ≡ Some k → weigh (Value b (Point p)) ≤ at_point k
    pub entries_most : (b : Aspect) (k : ℕ × ℕ) → weigh (Value b (entry_of k)) ≤ at_entry k
    pub joins_most : (b : Aspect) (k : ℕ × ℕ) → weigh (Value b (join_of k)) ≤ at_join k
    pub versions_most : (v : SetVersion) → weigh (Members Text v) + weigh (Members Array v) + weigh (Shown v) ≤ version
    pub results_most : (b : Aspect) (n : ℕ) → weigh (Result b n) ≤ result n
    pub names_most : (p : ℕ) → sum_by weigh (point_names p) ≤ point
    pub joined_most : (p i : ℕ) → weigh (Joined p i) ≤ joined
    pub outs_most : (p : ℕ) → sum_by weigh (out_names p) ≤ out p

  abbrev count : ℕ
  count = length bs

  module _ (at_point : PlainPoint → ℕ) (at_entry at_join : ℕ × ℕ → ℕ) (version : ℕ) (result : ℕ → ℕ) (point joined : ℕ) (out : ℕ → ℕ) (most : Weighs at_point at_entry at_join version result point joined out) where
    version_most : (v : SetVersion) (c : ℕ) → ((b : Aspect) → weigh (Value b v) ≤ c) → sum_by weigh (version_names bs v) ≤ c * count + version
    version_most v c le =
        let a = sum_version weigh bs v in
        let b = sum_most (λ (b : Aspect). weigh (Value b v)) c bs (λ b has. le b) in
        let d = most.versions_most v in
        omega (arith, a, b, d)

    -- over versions of one kind
    kind_most : {X : Type 0} (f : X → ℕ) (xs : List X) → sum_by (λ x. f x * count + version) xs ≡ sum_by f xs * count + version * length xs
    kind_most {X} f xs =
        let a = sum_add (λ (x : X). f x * count) (λ (x : X). version * 1) xs in
        let b = sum_times_right f count xs in
        let c = sum_times version (λ (x : X). 1) xs in
        let d = ap (λ (n : ℕ). version * n) (sum_ones xs) in
        let e : sum_by (λ (x : X). f x * count + version) xs ≡ sum_by (λ (x : X). f x * count + version * 1) xs = sum_same (λ (x : X). f x * count + version) (λ (x : X). f x * count + version * 1) xs (λ x. one (f x * count) version) in
        e ∙ a ∙ ap (λ (n : ℕ). n + sum_by (λ (x : X). version * 1) xs) b ∙ ap (λ (n : ℕ). sum_by f xs * count + n) (c ∙ d)
      where
        one : (a b : ℕ) → a + b ≡ a + b * 1
        one a b = omega arith

    points_part : sum_by (λ v. sum_by weigh (version_names bs v)) (map (λ p. Point p) (places 0 points)) ≤ sum_by at_point points * count + version * length points
    points_part =
        let a = sum_map (λ (v : SetVersion). sum_by weigh (version_names bs v)) (λ (p : ℕ). Point p) (places 0 points) in
        let b = sum_places (λ (p : ℕ). sum_by weigh (version_names bs (Point p))) (λ (k : PlainPoint). at_point k * count + version) points 0
        (λ p k at. subst (λ (n : ℕ). sum_by weigh (version_names bs (Point n)) ≤ at_point k * count + version) (none p) (version_most (Point p) (at_point k) (λ b. most.points_most b p k at))) in
        let c = kind_most at_point points in
        omega (arith, a, b, c)
      where
        none : (p : ℕ) → p ≡ 0 + p
        none p = omega arith

    slots_part : (f : ℕ × ℕ → SetVersion) (g : ℕ × ℕ → ℕ) (ks : List (ℕ × ℕ)) → ((b : Aspect) (k : ℕ × ℕ) → weigh (Value b (f k)) ≤ g k)
        → sum_by (λ v. sum_by weigh (version_names bs v)) (map f ks) ≤ sum_by g ks * count + version * length ks
    slots_part f g ks le =
        let a = sum_map (λ (v : SetVersion). sum_by weigh (version_names bs v)) f ks in
        let b = sum_le (λ (k : ℕ × ℕ). sum_by weigh (version_names bs (f k))) (λ (k : ℕ × ℕ). g k * count + version) ks (λ k has. version_most (f k) (g k) (λ b. le b k)) in
        let c = kind_most g ks in
        omega (arith, a, b, c)

    results_part : sum_by (λ n. sum_by weigh (result_names bs n)) called ≤ sum_by result called * count
    results_part =
        let a = sum_le (λ (n : ℕ). sum_by weigh (result_names bs n)) (λ (n : ℕ). result n * count) called (λ n has.
        let m = sum_map weigh (λ (b : Aspect). Result b n) bs in let l = sum_most (λ (b : Aspect). weigh (Result b n)) (result n) bs (λ b in_bs. most.results_most b n) in omega (arith, m, l)) in
        let b = sum_times_right result count called in
        omega (arith, a, b)

    names_part : sum_by (λ p. sum_by weigh (point_names p)) (places 0 points) ≤ point * length points
    names_part =
        let a = sum_most (λ (p : ℕ). sum_by weigh (point_names p)) point (places 0 points) (λ p has. most.names_most p) in
        let b = ap (λ (n : ℕ). point * n) (places_length 0 points) in
        omega (arith, a, b)

    joined_part : sum_by (λ p. sum_by weigh (joined_names points p)) (places 0 points) ≤ joined * (length points + sum_by (λ k. joined_count (Some k)) points)
    joined_part =
        let a = sum_places (λ (p : ℕ). sum_by weigh (joined_names points p)) (λ (k : PlainPoint). joined * suc (joined_count (Some k))) points 0
        (λ p k at. subst (λ (n : ℕ). sum_by weigh (joined_names points n) ≤ joined * suc (joined_count (Some k))) (none p) (at_one p k at)) in
        let b = sum_times joined (λ (k : PlainPoint). suc (joined_count (Some k))) points in
        let c = ap (λ (n : ℕ). joined * n) (more points) in
        omega (arith, a, b, c)
      where
        none : (p : ℕ) → p ≡ 0 + p
        none p = omega arith

        more : (ks : List PlainPoint) → sum_by (λ k. suc (joined_count (Some k))) ks ≡ length ks + sum_by (λ k. joined_count (Some k)) ks
        more [] = refl
        more (k ∷ ks) =
            let a = sum_by-cons (λ (z : PlainPoint). suc (joined_count (Some z))) k ks in
            let b = sum_by-cons (λ (z : PlainPoint). joined_count (Some z)) k ks in
            let c = more ks in
            omega (arith, a, b, c)

        at_one : (p : ℕ) (k : PlainPoint) → slice_get points p ≡ Some k → sum_by weigh (joined_names points p) ≤ joined * suc (joined_count (Some k))
        at_one p k at =
            let n = suc (joined_count (slice_get points p)) in
            let a = sum_map weigh (λ (i : ℕ). Joined p i) (run 0 n) in
            let b = sum_most (λ (i : ℕ). weigh (Joined p i)) joined (run 0 n) (λ i has. most.joined_most p i) in
            let c = ap (λ (m : ℕ). joined * m) (run_length 0 n) in
            let d = ap (λ (o : Option PlainPoint). joined * suc (joined_count o)) at in
            omega (arith, a, b, c, d)

    outs_part : sum_by (λ p. sum_by weigh (out_names p)) targets ≤ sum_by out targets
    outs_part = sum_le (λ (p : ℕ). sum_by weigh (out_names p)) out targets (λ p has. most.outs_most p)

    -- all together
    pub total : sum_by weigh (all_names_of bs (all_versions fs points asks) called points targets)
        ≤ (sum_by at_point points + sum_by at_entry (entry_slots 0 fs) + sum_by at_join asks + sum_by result called) * count + version * (length points + length (entry_slots 0 fs) + length asks)
        + (point * length points + (joined * (length points + sum_by (λ k. joined_count (Some k)) points) + sum_by out targets))
    total =
        let weight = λ (v : SetVersion). sum_by weigh (version_names bs v) in
        let names = sum_names weigh bs (all_versions fs points asks) called points targets in
        let first = sum_by-append weight (map (λ (p : ℕ). Point p) (places 0 points)) (map entry_of (entry_slots 0 fs) ++ map join_of asks) in
        let second = sum_by-append weight (map entry_of (entry_slots 0 fs)) (map join_of asks) in
        let es = slots_part entry_of at_entry (entry_slots 0 fs) most.entries_most in
        let js = slots_part join_of at_join asks most.joins_most in
        together _ _ _ _ _ _ _ _ _ _ _ _ _ _ _ _ _ _ _ _ _ _ names first second points_part es js results_part names_part joined_part outs_part
      where
        together : (all vs vs' vp ve vj rs ps is os a b c d n m x y z pt jn ou : ℕ) → all ≡ vs + (rs + (ps + (is + os))) → vs ≡ vp + vs' → vs' ≡ ve + vj → vp ≤ a * n + m * x → ve ≤ b * n + m * y → vj ≤ c * n + m * z → rs ≤ d * n → ps ≤ pt → is ≤ jn → os ≤ ou
            → all ≤ (a + b + c + d) * n + m * (x + y + z) + (pt + (jn + ou))
        together all vs vs' vp ve vj rs ps is os a b c d n m x y z pt jn ou e1 e2 e3 l1 l2 l3 l4 l5 l6 l7 =
            let f = four a b c d n in let g = three m x y z in omega arith
          where
            four : (a b c d n : ℕ) → (a + b + c + d) * n ≡ a * n + b * n + c * n + d * n
            four a b c d n = add-mul (a + b + c) d n ∙ ap (λ (k : ℕ). k + d * n) (add-mul (a + b) c n ∙ ap (λ (k : ℕ). k + c * n) (add-mul a b n))

            three : (m x y z : ℕ) → m * (x + y + z) ≡ m * x + m * y + m * z
            three m x y z = mul-add m (x + y) z ∙ ap (λ (k : ℕ). k + m * z) (mul-add m x y)
