-- Where the machine stops is the first token that no sentence goes on with.
use Rattle.std.proofs.Common.{◌≡◌, ℕ, zero, suc, ◌+◌, ◌-◌, ◌<◌, ◌≤◌, Bool, true, ◌&&◌, nat_eq, List, [], ◌∷◌, ◌++◌, length, take, refl, sym, ◌∙◌, ap, subst, arith, get_or, length-append, append_assoc}
use Rattle.std.proofs.lemmas.Bool.{and_parts}
use Rattle.lr_tables.specs.Grammars.{Grammar, IsSentence, IsFront, IsFirstWrong}
use Rattle.lr_tables.specs.Machine.{Tables, Wrong, access, run}
use Rattle.lr_tables.specs.Certificates.{State, no_state, Certificate, sides}
use Rattle.lr_tables.specs.Checks.{rows_accessed, tables_ok, paid, weight_of}
use Rattle.lr_tables.specs.FrontChecks.{is_free, is_some, sample_of, are_samples, has_none, states_front, rows_enter, fronts_ok, is_certified}
use Rattle.lr_tables.specs.Laws.{IsPlaced, IsOnePlace}
use Rattle.lr_tables.proofs.Basics.{eq_is, read_wrong, accessed, stands}
use Rattle.lr_tables.proofs.Complete.{tables_of, moves_of, is_complete}
use Rattle.lr_tables.proofs.Runs.{Agree, agree_self, Stops, stops}
use Rattle.lr_tables.proofs.Fronts.{Path, front_behind, front_of_nothing}
use Rattle.lr_tables.proofs.Viable.{run_stands}

record Parts (t : Tables) (samples : List (ℕ × ℕ × List ℕ)) (states : List State) : Type 0 where
  end_free : is_free t.grammar.lefts 0 ≡ true
  some : is_some (sample_of samples t.grammar.start) ≡ true
  nothing : has_none (get_or states 0 no_state).kernel ≡ true
  are : are_samples t.grammar.terminals t.grammar.lefts t.grammar.rights (sides t.grammar.rules) samples ≡ true
  fronts : states_front t.grammar.terminals t.grammar.lefts t.grammar.rights (sides t.grammar.rules) samples true t.grammar.start t.accesses states ≡ true
  enters : rows_enter t.grammar.terminals t.grammar.lefts t.grammar.rights (sides t.grammar.rules) samples states t.accesses states t.rows ≡ true

module _ (t : Tables) (samples : List (ℕ × ℕ × List ℕ)) (states : List State) where
  abbrev has_sample : Bool
  has_sample = is_some (sample_of samples t.grammar.start)

  abbrev begins_bare : Bool
  begins_bare = has_none (get_or states 0 no_state).kernel

  abbrev samples_are : Bool
  samples_are = are_samples t.grammar.terminals t.grammar.lefts t.grammar.rights (sides t.grammar.rules) samples

  abbrev states_are : Bool
  states_are = states_front t.grammar.terminals t.grammar.lefts t.grammar.rights (sides t.grammar.rules) samples true t.grammar.start t.accesses states

  abbrev rows_are : Bool
  rows_are = rows_enter t.grammar.terminals t.grammar.lefts t.grammar.rights (sides t.grammar.rules) samples states t.accesses states t.rows

  parts : fronts_ok t samples states ≡ true → Parts t samples states
  parts h =
      let a = and_parts (is_free t.grammar.lefts 0) (has_sample && (begins_bare && (samples_are && (states_are && rows_are)))) h in
      let b = and_parts has_sample (begins_bare && (samples_are && (states_are && rows_are))) a.1 in
      let c = and_parts begins_bare (samples_are && (states_are && rows_are)) b.1 in
      let d = and_parts samples_are (states_are && rows_are) c.1 in
      let e = and_parts states_are rows_are d.1 in
      record { end_free = a.0; some = b.0; nothing = c.0; are = d.0; fronts = e.0; enters = e.1 }

take_front : (front left : List ℕ) → take (length front) (front ++ left) ≡ front
take_front [] left = refl
take_front (k ∷ front) left = ap (λ (v : List ℕ). k ∷ v) (take_front front left)

agree_take : (n : ℕ) (ks rest : List ℕ) → n ≤ length ks → Agree n ks (take n ks ++ rest)
agree_take zero ks rest l = tt
agree_take (suc n) [] rest l = absurd (omega arith)
agree_take (suc n) (k ∷ ks) rest l = (refl, agree_take n ks rest (omega arith))

place_is : (ks front left : List ℕ) → ks ≡ front ++ left → length ks - length left ≡ length front
place_is ks front left e = let l = ap length e ∙ length-append front left in less (length ks) (length front) (length left) l
  where
    less : (a b c : ℕ) → a ≡ b + c → a - c ≡ b
    less a b c e = omega arith

place_within : (ks front left : List ℕ) → ks ≡ front ++ left → length front ≤ length ks
place_within ks front left e = let l = ap length e ∙ length-append front left in more (length ks) (length front) (length left) l
  where
    more : (a b c : ℕ) → a ≡ b + c → b ≤ a
    more a b c e = omega arith

-- no sentence stops the machine
never_wrong : (t : Tables) (c : Certificate) → is_certified t c ≡ true → (n : ℕ) (js : List ℕ) → ((m : ℕ) → n ≤ m → (ls : List ℕ) × (run t m [] js ≡ Wrong ls)) → IsSentence t.grammar js → ⊥
never_wrong t c h n js wrong sentence =
    let enough = paid c.most js + weight_of t.grammar.terminals c.facts t.grammar.start in
    let w = wrong (n + suc enough) (at_least n enough) in
    read_wrong (sym (is_complete t c (tables_of t c h) js sentence.0 sentence.1 (n + suc enough) (more_than n enough)) ∙ w.1)
  where
    at_least : (n m : ℕ) → n ≤ n + suc m
    at_least n m = omega arith

    more_than : (n m : ℕ) → m < n + suc m
    more_than n m = omega arith

module _ (t : Tables) (c : Certificate) (h : is_certified t c ≡ true) (n : ℕ) (ks left : List ℕ) (run_is : run t n [] ks ≡ Wrong left) where
  reached : (nat_eq (access t 0) 0 ≡ true) × (rows_accessed t t.rows ≡ true)
  reached = and_parts (nat_eq (access t 0) 0) (rows_accessed t t.rows) (moves_of t c h)

  all_parts : Parts t c.samples c.states
  all_parts = parts t c.samples c.states (and_parts (tables_ok t c.most c.facts c.states) (fronts_ok t c.samples c.states) h).1

  begins : access t 0 ≡ 0
  begins = eq_is (access t 0) 0 reached.0

  record Before : Type 0 where
    front : List ℕ
    is : ks ≡ front ++ left
    fits : IsFront t.grammar front

  before : Before
  before =
      let p = all_parts in
      let good = accessed t reached.1 in
      let is_path = Path t c.samples c.states good begins p.end_free p.are p.nothing p.fronts p.enters in
      let stop = run_stands t is_path ks left good (stands t reached.1) (λ s stack e path. (e, path)) (λ s stack path. path.1)
      (front_behind t c.samples c.states good begins p.end_free p.are p.nothing p.fronts p.enters) n [] ks run_is
      (record { front = []; is = refl; path = tt; holds = refl; fits = front_of_nothing t c.samples c.states good begins p.end_free p.are p.nothing p.fronts p.enters p.some }) in
      record { front = stop.front; is = stop.is; fits = stop.fits }

  fits_at : (place : ℕ) → place ≡ length ks - length left → IsFront t.grammar (take place ks)
  fits_at place e = subst (IsFront t.grammar)
      (sym (ap (λ (v : ℕ). take v ks) (e ∙ place_is ks before.front left before.is) ∙ ap (take (length before.front)) before.is ∙ take_front before.front left)) before.fits

  abbrev stop_is : Stops ks left (λ js. (m : ℕ) → n ≤ m → (ls : List ℕ) × (run t m [] js ≡ Wrong ls))
  stop_is = stops t n [] ks left run_is

  refused : IsSentence t.grammar ks → ⊥
  refused = never_wrong t c h n ks (stop_is.same ks (agree_self (suc (length stop_is.front)) ks))

  wrong_at : (place : ℕ) → place ≡ length stop_is.front → place < length ks → IsFront t.grammar (take (place + 1) ks) → ⊥
  wrong_at place e l f =
      let some : suc (length stop_is.front) ≤ length ks = omega arith in
      let next : place + 1 ≡ suc (length stop_is.front) = omega arith in
      never_wrong t c h n (take (suc (length stop_is.front)) ks ++ f.0) (stop_is.same (take (suc (length stop_is.front)) ks ++ f.0) (agree_take (suc (length stop_is.front)) ks f.0 some))
      (subst (λ (v : ℕ). IsSentence t.grammar (take v ks ++ f.0)) next f.1)

  first_wrong : IsFirstWrong t.grammar ks (length ks - length left)
  first_wrong = record {
    within = subst (λ (v : ℕ). v ≤ length ks) (sym (place_is ks stop_is.front left stop_is.is)) (place_within ks stop_is.front left stop_is.is);
    fits = fits_at (length ks - length left) refl;
    wrong = wrong_at (length ks - length left) (place_is ks stop_is.front left stop_is.is);
    none = refused;
  }

pub is_placed : IsPlaced
is_placed t are n ks left h = first_wrong t are.certificate are.passes n ks left h

-- what is taken first is a part of what is taken
record Split (short long : List ℕ) : Type 0 where
  rest : List ℕ
  is : long ≡ short ++ rest

split_take : (c b : ℕ) (ks : List ℕ) → c ≤ b → Split (take c ks) (take b ks)
split_take zero b ks l = record { rest = take b ks; is = refl }
split_take (suc c) zero ks l = absurd (omega arith)
split_take (suc c) (suc b) [] l = record { rest = []; is = refl }
split_take (suc c) (suc b) (k ∷ ks) l =
    let s = split_take c b ks (omega arith) in
    record { rest = s.rest; is = ap (λ (v : List ℕ). k ∷ v) s.is }

shorter_front : (g : Grammar) (ks : List ℕ) (c b : ℕ) → c ≤ b → IsFront g (take b ks) → IsFront g (take c ks)
shorter_front g ks c b l f =
    let s = split_take c b ks l in
    (s.rest ++ f.0, subst (IsSentence g) (ap (λ (v : List ℕ). v ++ f.0) s.is ∙ append_assoc (take c ks) s.rest f.0) f.1)

not_before : (g : Grammar) (ks : List ℕ) (one other : ℕ) → IsFirstWrong g ks one → IsFirstWrong g ks other → one < other → ⊥
not_before g ks one other w v l =
    let within = v.within in
    let inside : one < length ks = omega arith in
    let next : one + 1 ≤ other = omega arith in
    w.wrong inside (shorter_front g ks (one + 1) other next v.fits)

pub is_one_place : IsOnePlace
is_one_place g ks one other w v = equal one other (not_before g ks one other w v) (not_before g ks other one v w)
  where
    equal : (a b : ℕ) → (a < b → ⊥) → (b < a → ⊥) → a ≡ b
    equal a b f h = grind (arith, f, h)
