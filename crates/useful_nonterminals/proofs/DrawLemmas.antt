-- Marks, and the conclusions that are drawn.
use Rattle.std.proofs.Common.{◌≡◌, ℕ, ◌+◌, ◌<◌, ◌≤◌, ◌⊎◌, ◌↔◌, inl, inr, Bool, true, false, List, [], ◌∷◌, ◌++◌, length, get_or, set, map, Contains, refl, sym, ◌∙◌, ap, subst, arith, Some, None, Ok, Err, Result, OnOk, slice_get, true≢false}
use Rattle.std.specs.List.{All}
use Rattle.std.specs.Option.{option_map}
use Rattle.std.proofs.lemmas.List.Elements.{Contains-push_cases, Contains-append_left, Contains-push, Contains-get_or, All-contains}
use Rattle.std.proofs.lemmas.Option.{slice_get-get_or, slice_get_within, get_or_from_slice_get, slice_get-map, same_Some, slice_get_read, none-some}
use Rattle.std.proofs.lemmas.Bool.{cases_eq, cases_lt}
use Rattle.numbered_sets.specs.Numbers.{Keeps, AddsOnly}
use Rattle.numbered_sets.proofs.NumberLemmas.{at_front}
use Rattle.numbered_sets.proofs.PlaceLemmas.{slice_get-set_other, slice_get-set_same}
use Rattle.useful_nonterminals.specs.declared.rule.Rule.{Rule}
use Rattle.useful_nonterminals.specs.Follows.{Follows, IsRuleBelow, IsMarked}
use Rattle.useful_nonterminals.specs.Work.{IsNoted, Concludes, IsAmong, IsWork}

-- a member has a place, and the reverse
pub placed : {X : Type 0} (xs : List X) (x : X) → Contains xs x → (n : ℕ) × (slice_get xs n ≡ Some x)
placed xs x c = (c.0, slice_get-get_or xs c.0 x c.1 ∙ ap Some c.2)

pub contained : {X : Type 0} (xs : List X) (n : ℕ) (x : X) → slice_get xs n ≡ Some x → Contains xs x
contained xs n x e = (n, slice_get_within xs n x e, get_or_from_slice_get xs n x x e)

pub keeps_contains : {X : Type 0} (xs ys : List X) (x : X) → Keeps xs ys → Contains xs x → Contains ys x
keeps_contains xs ys x k c = let p = placed xs x c in contained ys p.0 x (k p.0 x p.1)

pub all_from : {X : Type 0} (P : X → Type 0) (xs : List X) → ((x : X) → Contains xs x → P x) → All P xs
all_from P xs f k d l = f (get_or xs k d) (Contains-get_or xs k d l)

pub none_in : {X : Type 0} (x : X) → Contains [] x → ⊥
none_in x c = absurd (omega (arith, c.1))

pub keeps_push : {X : Type 0} (xs ys : List X) (y : X) → ys ≡ xs ++ y ∷ [] → Keeps xs ys
keeps_push {X} xs ys y e n x h = subst (λ (zs : List X). slice_get zs n ≡ Some x) (sym e) (at_front xs y n x h)

pub noted_more : (marks : List Bool) (order more : List ℕ) (n : ℕ) → n < length marks → IsNoted marks order → more ≡ order ++ n ∷ [] → IsNoted (set marks n true) more
noted_more marks order more n below noted e k =
    subst (λ (xs : List ℕ). IsMarked (set marks n true) k ↔ Contains xs k) (sym e) (elim (cases_eq k n) [
      | inl same ↦ (
        λ h. subst (λ (x : ℕ). Contains (order ++ n ∷ []) x) (sym same) (Contains-push order n),
        λ h. subst (λ (x : ℕ). slice_get (set marks n true) x ≡ Some true) (sym same) (slice_get-set_same marks n true below),
      )
      | inr other ↦ (
        λ h. Contains-append_left order (n ∷ []) k ((noted k).0 (sym (slice_get-set_other marks n k true other) ∙ h)),
        λ h. elim (Contains-push_cases order n k h) [
          | inl c ↦ slice_get-set_other marks n k true other ∙ (noted k).1 c
          | inr c ↦ absurd (other (sym c))
        ],
      )
    ])

pub listed_more : (order more : List ℕ) (n : ℕ) → more ≡ order ++ n ∷ [] → Contains more n
listed_more order more n e = subst (λ (xs : List ℕ). Contains xs n) (sym e) (Contains-push order n)

module _ (rules : List Rule) where
  pub concludes_same : (P : ℕ → Type 0) (marks : List Bool) (order : List ℕ) → IsNoted marks order → ((place : ℕ) (rule : Rule) → P place → slice_get rules place ≡ Some rule → Contains order rule.first → Contains order rule.second → Contains order rule.conclusion) → Concludes rules P marks order marks order
  concludes_same P marks order noted drawn =
      record {
        long = refl;
        noted = noted;
        keeps = λ n x h. h;
        sound = λ facts h. h;
        drawn = drawn;
      }

  -- an unmarked premise
  pub concludes_not : (place : ℕ) (rule : Rule) (marks : List Bool) (order : List ℕ) → IsNoted marks order → slice_get rules place ≡ Some rule → ((IsMarked marks rule.first → ⊥) ⊎ (IsMarked marks rule.second → ⊥)) → Concludes rules (λ (k : ℕ). k ≡ place) marks order marks order
  concludes_not place rule marks order noted at not =
      concludes_same (λ (k : ℕ). k ≡ place) marks order noted (λ k r same found a b.
      let e : rule ≡ r = same_Some rule r (sym at ∙ (ap (slice_get rules) (sym same) ∙ found)) in
      elim not [
        | inl f ↦ absurd (f ((noted rule.first).1 (subst (λ (x : Rule). Contains order x.first) (sym e) a)))
        | inr f ↦ absurd (f ((noted rule.second).1 (subst (λ (x : Rule). Contains order x.second) (sym e) b)))
      ])

  pub concludes_one : (place : ℕ) (rule : Rule) (marks after : List Bool) (order more : List ℕ) → IsNoted marks order → slice_get rules place ≡ Some rule → IsMarked marks rule.first → IsMarked marks rule.second → length after ≡ length marks → IsNoted after more → Keeps order more → AddsOnly order more rule.conclusion → Contains more rule.conclusion → Concludes rules (λ (k : ℕ). k ≡ place) marks order after more
  concludes_one place rule marks after order more noted at first second long then_noted keeps adds listed =
      record {
        long = long;
        noted = then_noted;
        keeps = keeps;
        sound = λ facts sound. all_from (Follows facts rules) more (λ x c. elim (adds x c) [
          | inl old ↦ All-contains (Follows facts rules) order x sound old
          | inr new ↦ subst (Follows facts rules) (sym new)
              (Follows.by_rule rule.first rule.second rule.conclusion (contained rules place rule at)
              (All-contains (Follows facts rules) order rule.first sound ((noted rule.first).0 first))
              (All-contains (Follows facts rules) order rule.second sound ((noted rule.second).0 second)))
        ]);
        drawn = λ k r same found a b.
            let e : rule ≡ r = same_Some rule r (sym at ∙ (ap (slice_get rules) (sym same) ∙ found)) in
            subst (λ (x : Rule). Contains more x.conclusion) e listed;
      }

  pub concludes_result : {E : Type 0} (r : Result (Unit {0}) E) (place : ℕ) (rule : Rule) (marks after : List Bool) (order more : List ℕ) → IsNoted marks order → slice_get rules place ≡ Some rule → IsMarked marks rule.first → IsMarked marks rule.second → OnOk r (length after ≡ length marks) → OnOk r (IsNoted after more) → OnOk r (Keeps order more) → OnOk r (AddsOnly order more rule.conclusion) → OnOk r (Contains more rule.conclusion) → OnOk r (Concludes rules (λ (k : ℕ). k ≡ place) marks order after more)
  concludes_result (Ok u) place rule marks after order more noted at first second long then_noted keeps adds listed = concludes_one place rule marks after order more noted at first second long then_noted keeps adds listed
  concludes_result (Err e) place rule marks after order more noted at first second long then_noted keeps adds listed = tt

  pub concludes_more : (P Q R : ℕ → Type 0) (marks mid after : List Bool) (order some more : List ℕ) → ((k : ℕ) → R k → P k ⊎ Q k) → Concludes rules P marks order mid some → Concludes rules Q mid some after more → Concludes rules R marks order after more
  concludes_more P Q R marks mid after order some more splits p q =
      record {
        long = q.long ∙ p.long;
        noted = q.noted;
        keeps = λ n x h. q.keeps n x (p.keeps n x h);
        sound = λ facts h. q.sound facts (p.sound facts h);
        drawn = λ place rule asked at a b. elim (splits place asked) [
          | inl h ↦ keeps_contains some more rule.conclusion q.keeps (p.drawn place rule h at a b)
          | inr h ↦ q.drawn place rule h at (keeps_contains order some rule.first p.keeps a) (keeps_contains order some rule.second p.keeps b)
        ];
      }

  pub concludes_fewer : (P R : ℕ → Type 0) (marks after : List Bool) (order more : List ℕ) → ((k : ℕ) → R k → P k) → Concludes rules P marks order after more → Concludes rules R marks order after more
  concludes_fewer P R marks after order more weaker p =
      record { long = p.long; noted = p.noted; keeps = p.keeps; sound = p.sound; drawn = λ place rule asked at a b. p.drawn place rule (weaker place asked) at a b }

-- places among the first of a list
pub among_none : (places : List ℕ) (k : ℕ) → IsAmong places 0 k → ⊥
among_none places k h = absurd (omega (arith, h.1))

pub among_more : (places : List ℕ) (n place : ℕ) → slice_get places n ≡ Some place → (k : ℕ) → IsAmong places (n + 1) k → IsAmong places n k ⊎ (k ≡ place)
among_more places n place at k h =
    elim (cases_lt h.0 n) [
      | inl below ↦ inl (h.0, below, h.2)
      | inr above ↦
          let same : h.0 ≡ n = omega (arith, above, h.1) in
          inr (same_Some k place (sym h.2 ∙ (ap (slice_get places) same ∙ at)))
    ]

pub among_here : (places : List ℕ) (n place : ℕ) → slice_get places n ≡ Some place → IsAmong places (n + 1) place
among_here places n place at = (n, omega arith, at)

pub among_longer : (places : List ℕ) (n k : ℕ) → IsAmong places n k → IsAmong places (n + 1) k
among_longer places n k h = (h.0, omega (arith, h.1), h.2)

pub among_all : (places : List ℕ) (n : ℕ) → length places ≤ n → (k : ℕ) → Contains places k → IsAmong places n k
among_all places n h k c = let p = placed places k c in (p.0, let w = slice_get_within places p.0 k p.1 in omega (arith, w, h), p.1)

pub among_contains : (places : List ℕ) (n k : ℕ) → IsAmong places n k → Contains places k
among_contains places n k h = contained places h.0 k h.2

-- facts that are marked one by one
pub facts_more : (facts : List ℕ) (n fact : ℕ) (order more : List ℕ) → slice_get facts n ≡ Some fact → ((k : ℕ) → Contains order k ↔ IsAmong facts n k) → Keeps order more → AddsOnly order more fact → Contains more fact → (k : ℕ) → Contains more k ↔ IsAmong facts (n + 1) k
facts_more facts n fact order more at exact keeps adds listed k = (
  λ c. elim (adds k c) [
    | inl old ↦ among_longer facts n k ((exact k).0 old)
    | inr new ↦ subst (IsAmong facts (n + 1)) (sym new) (among_here facts n fact at)
  ],
  λ h. elim (among_more facts n fact at k h) [
    | inl old ↦ keeps_contains order more k keeps ((exact k).1 old)
    | inr new ↦ subst (λ (x : ℕ). Contains more x) (sym new) listed
  ],
)

pub facts_all : (facts : List ℕ) (n : ℕ) (order : List ℕ) → length facts ≤ n → ((k : ℕ) → Contains order k ↔ IsAmong facts n k) → (k : ℕ) → Contains order k ↔ Contains facts k
facts_all facts n order h exact k = (λ c. among_contains facts n k ((exact k).0 c), λ c. (exact k).1 (among_all facts n h k c))

-- the work
module _ (facts : List ℕ) (rules : List Rule) (count : ℕ) where
  pub work_begins : (marks : List Bool) (order : List ℕ) → length marks ≡ count → IsNoted marks order → ((n : ℕ) → Contains order n ↔ Contains facts n) → IsWork facts rules count marks order 0
  work_begins marks order long noted exact =
      record {
        long = long;
        noted = noted;
        begun = λ n c. (exact n).1 c;
        sound = all_from (Follows facts rules) order (λ x c. Follows.by_fact x ((exact x).0 c));
        drawn = λ rule c a b. absurd (among_none order rule.first a);
      }

  pub work_below : (marks : List Bool) (order : List ℕ) (taken n : ℕ) → IsWork facts rules count marks order taken → slice_get order taken ≡ Some n → n < count
  work_below marks order taken n work at =
      let m = (work.noted n).1 (contained order taken n at) in
      let w = slice_get_within marks n true m in
      omega (arith, w, work.long)

  pub work_more : (marks mid after : List Bool) (order some more : List ℕ) (taken n : ℕ) → IsWork facts rules count marks order taken → slice_get order taken ≡ Some n → Concludes rules (λ (k : ℕ). slice_get (map (λ (r : Rule). r.first) rules) k ≡ Some n) marks order mid some → Concludes rules (λ (k : ℕ). slice_get (map (λ (r : Rule). r.second) rules) k ≡ Some n) mid some after more → IsWork facts rules count after more (taken + 1)
  work_more marks mid after order some more taken n work at p q =
      record {
        long = q.long ∙ (p.long ∙ work.long);
        noted = q.noted;
        begun = λ k c. kept k (work.begun k c);
        sound = q.sound facts (p.sound facts work.sound);
        drawn = λ rule c a b. drawn rule c (back rule.first a) (back rule.second b);
      }
    where
      kept : (k : ℕ) → Contains order k → Contains more k
      kept k c = keeps_contains some more k q.keeps (keeps_contains order some k p.keeps c)

      -- the first places are those of before
      back : (k : ℕ) → IsAmong more (taken + 1) k → IsAmong order (taken + 1) k
      back k h =
          let l : h.0 < length order = let w = slice_get_within order taken n at in omega (arith, w, h.1) in
          let d = slice_get-get_or order h.0 k l in
          let e = q.keeps h.0 (get_or order h.0 k) (p.keeps h.0 (get_or order h.0 k) d) in
          let same : get_or order h.0 k ≡ k = same_Some (get_or order h.0 k) k (sym e ∙ h.2) in
          (h.0, h.1, d ∙ ap Some same)

      drawn : (rule : Rule) → Contains rules rule → IsAmong order (taken + 1) rule.first → IsAmong order (taken + 1) rule.second → Contains more rule.conclusion
      drawn rule c a b =
          let place = placed rules rule c in
          elim (among_more order taken n at rule.first a) [
            | inr same ↦
                let key : slice_get (map (λ (r : Rule). r.first) rules) place.0 ≡ Some n = slice_get-map (λ (r : Rule). r.first) rules place.0 ∙ (ap (option_map (λ (r : Rule). r.first)) place.1 ∙ ap Some same) in
                keeps_contains some more rule.conclusion q.keeps
                (p.drawn place.0 rule key place.1 (among_contains order (taken + 1) rule.first a) (among_contains order (taken + 1) rule.second b))
            | inl below ↦ elim (among_more order taken n at rule.second b) [
              | inr same ↦
                  let key : slice_get (map (λ (r : Rule). r.second) rules) place.0 ≡ Some n = slice_get-map (λ (r : Rule). r.second) rules place.0 ∙ (ap (option_map (λ (r : Rule). r.second)) place.1 ∙ ap Some same) in
                  q.drawn place.0 rule key place.1
                  (keeps_contains order some rule.first p.keeps (among_contains order (taken + 1) rule.first a))
                  (keeps_contains order some rule.second p.keeps (among_contains order (taken + 1) rule.second b))
              | inl both ↦ kept rule.conclusion (work.drawn rule c below both)
            ]
          ]

  pub work_done : (marks : List Bool) (order : List ℕ) (taken : ℕ) → length order ≤ taken → IsWork facts rules count marks order taken → (n : ℕ) → IsMarked marks n ↔ Follows facts rules n
  work_done marks order taken past work n = (
    λ m. All-contains (Follows facts rules) order n work.sound ((work.noted n).0 m),
    λ f. (work.noted n).1 (all n f),
  )
    where
      all : (k : ℕ) → Follows facts rules k → Contains order k
      all k (Follows.by_fact k2 c) = work.begun k c
      all k (Follows.by_rule a b k2 c f g) = work.drawn (record { first = a; second = b; conclusion = k }) c (among_all order taken past a (all a f)) (among_all order taken past b (all b g))

pub marked_read : (marks : List Bool) (n : ℕ) (x : Bool) → n < length marks → x ≡ get_or marks n x → x ≡ true → IsMarked marks n
marked_read marks n x below is e = slice_get_read marks (length marks) n x refl below is ∙ ap Some e

pub not_marked_read : (marks : List Bool) (n : ℕ) (x : Bool) → n < length marks → x ≡ get_or marks n x → x ≡ false → IsMarked marks n → ⊥
not_marked_read marks n x below is e m =
    let one : Some x ≡ Some true = sym (slice_get_read marks (length marks) n x refl below is) ∙ m in
    true≢false (sym (same_Some x true one) ∙ e)

pub rule_below : (rules : List Rule) (count place : ℕ) (rule : Rule) → All (IsRuleBelow count) rules → slice_get rules place ≡ Some rule → IsRuleBelow count rule
rule_below rules count place rule below at = All-contains (IsRuleBelow count) rules rule below (contained rules place rule at)

-- nothing is marked at first
pub unmarked : (marks : List Bool) (count : ℕ) → ((n : ℕ) → n < count → get_or marks n false ≡ false) → length marks ≡ count → IsNoted marks []
unmarked marks count clear long n = (
  λ m.
      let w = slice_get_within marks n true m in
      absurd (true≢false (sym (get_or_from_slice_get marks n true false m) ∙ clear n (omega (arith, w, long)))),
  λ c. absurd (none_in n c),
)

-- where nothing is left, all are among the first
pub past : (order : List ℕ) (n : ℕ) → slice_get order n ≡ None → length order ≤ n
past order n none =
    elim (cases_lt n (length order)) [
      | inl below ↦ let e : None ≡ Some (get_or order n 0) = sym none ∙ slice_get-get_or order n 0 below in absurd (none-some (get_or order n 0) e)
      | inr above ↦ above
    ]
