-- Whatever is derived is read, where the checks of the tables hold.
use Rattle.std.proofs.Common.{◌≡◌, ℕ, suc, ◌+◌, ◌-◌, ◌≤◌, ◌<◌, Bool, true, false, ◌&&◌, ◌||◌, nat_lt, nat_eq, List, [], ◌∷◌, refl, sym, ◌∙◌, ap, subst, arith, Some, get_or}
use Rattle.std.specs.Prelude.{if◌then◌else◌, slice_get}
use Rattle.std.specs.Int.{bit_at}
use Rattle.std.proofs.lemmas.Bool.{and_parts}
use Rattle.lr_tables.specs.declared.rule.Rule.{Rule}
use Rattle.lr_tables.specs.declared.step.Step.{Step}
use Rattle.lr_tables.specs.declared.step.Step.TheVariants.{Fail, Go, Reduce, Accept}
use Rattle.lr_tables.specs.declared.event.Event as event
use Rattle.lr_tables.specs.Grammars.{IsDerived, side}
use Rattle.lr_tables.specs.Machine.{Tables, Read, Wrong, access, entry, acted, run}
use Rattle.lr_tables.specs.Certificates.{State, no_state, Certificate, sides, behind, side_at, is_sub, closed_of}
use Rattle.lr_tables.specs.FrontChecks.{is_certified, fronts_ok}
use Rattle.lr_tables.specs.Checks.{before_at, first_of, empty_of, weight_of, weights, below, heads, are_facts, covers, goes_on, item_ok, kernel_ok, closed_ok, states_ok, rows_accessed, moves_ok, is_accept, start_ok, tables_ok, paid}
use Rattle.lr_tables.specs.Laws.{IsComplete}
use Rattle.lr_tables.proofs.Basics.{eq_is, is_eq, accessed, sub_bit, all_reduces}
use Rattle.lr_tables.proofs.Certified.{size, weights_by, costs, Among, Expect, Leads, AreLawful, reads}
use Rattle.lr_tables.proofs.Checked.{begins, Empty, fact_of, own_of, heads_among, side_is, side_found, before_found, behind_suc, covered, begun_at, begun_bit, state_kernel, state_closed, same_weights, or_false}

module _ (t : Tables) (most : ℕ) (facts : List (ℕ × Bool × ℕ)) (states : List State)
    (reached : rows_accessed t t.rows ≡ true) (begins_at : access t 0 ≡ 0) (told : are_facts most t.grammar.terminals facts (sides t.grammar.rules) ≡ true)
    (good : states_ok t.grammar.lefts t.grammar.rights t.grammar.terminals facts (sides t.grammar.rules) states t.accesses t.rows states ≡ true) where
  abbrev row : ℕ → List Step
  row s = get_or t.rows s []

  abbrev closed : ℕ → List (ℕ × ℕ × ℕ × ℕ)
  closed s = (get_or states s no_state).closed

  record Ready (s p : ℕ) (todo : List ℕ) (u : ℕ) : Type 0 where
    dot : ℕ
    ahead : ℕ
    is : behind dot (side_at (sides t.grammar.rules) p) ≡ todo
    ok : item_ok t.grammar.lefts t.grammar.rights t.grammar.terminals facts (sides t.grammar.rules) states (row s) (closed s) p dot ahead todo ≡ true
    has : bit_at ahead u ≡ 1

  abbrev Begins : ℕ → ℕ → Type 0
  Begins = begins most t.grammar.terminals facts

  abbrev Void : ℕ → Type 0
  Void = Empty most t.grammar.terminals facts

  no_terminal : {P : Type 0} (b : Bool) → b ≡ true → b ≡ false → P
  no_terminal true e h = cc
  no_terminal false e h = cc

  -- what is closed is ready from its beginning
  begun : (s x w : ℕ) → bit_at (closed_of (closed s) x) w ≡ 1 → Expect t Ready Begins Void s x w
  begun s x w has p r got free is =
      let own : bit_at (closed_of (closed s) r.left) w ≡ 1 = subst (λ (v : ℕ). bit_at (closed_of (closed s) v) w ≡ 1) (sym is) has in
      let all = state_closed most t.grammar.terminals facts t.grammar.lefts t.grammar.rights (sides t.grammar.rules) states t.accesses t.rows states s x w good has in
      let one = begun_at most t.grammar.terminals facts t.grammar.lefts t.grammar.rights (sides t.grammar.rules) states (access t s) (row s) (closed s) (sides t.grammar.rules) 0 p (r.left, side r, r.before, r.behind) all (side_is t.grammar.rules p r got) in
      let at : 0 + p ≡ p = omega arith in
      let here = subst (λ (n : ℕ). Rattle.lr_tables.specs.Checks.begun_ok t.grammar.lefts t.grammar.rights t.grammar.terminals facts (sides t.grammar.rules) states (access t s) (row s) (closed s) n (side r) r.behind (closed_of (closed s) r.left) ≡ true) at one in
      record {
        dot = 0;
        ahead = closed_of (closed s) r.left;
        is = side_found t.grammar.rules p r got;
        ok = begun_bit most t.grammar.terminals facts t.grammar.lefts t.grammar.rights (sides t.grammar.rules) states (access t s) (row s) (closed s) p (side r) r.behind (closed_of (closed s) r.left) w free here own;
        has = own;
      }

  expects : (s x : ℕ) (xs : List ℕ) (ahead u w : ℕ) → bit_at ahead u ≡ 1
      → (nat_lt x t.grammar.terminals || is_sub (heads t.grammar.terminals facts xs ahead) (closed_of (closed s) x)) ≡ true
      → Among Begins Void xs u w → Expect t Ready Begins Void s x w
  expects s x xs ahead u w has h among p r got free is =
      let fact = fact_of most t.grammar.terminals facts t.grammar.rules p r told got in
      let above : nat_lt x t.grammar.terminals ≡ false = subst (λ (v : ℕ). nat_lt v t.grammar.terminals ≡ false) is fact.above in
      let sub = or_false (nat_lt x t.grammar.terminals) (is_sub (heads t.grammar.terminals facts xs ahead) (closed_of (closed s) x)) h above in
      begun s x w (sub_bit (heads t.grammar.terminals facts xs ahead) (closed_of (closed s) x) w sub (heads_among most t.grammar.terminals facts xs ahead u w among has)) p r got free is

  leads : (s p d ahead x : ℕ) (xs : List ℕ) (u : ℕ) (e : Step) → entry t s x ≡ e → behind d (side_at (sides t.grammar.rules) p) ≡ x ∷ xs
      → goes_on t.grammar.lefts t.grammar.rights t.grammar.terminals facts (sides t.grammar.rules) states (closed s) p d ahead x xs e ≡ true → bit_at ahead u ≡ 1 → Leads t Ready Begins Void s p x xs u
  leads s p d ahead x xs u Fail e is h has = cc
  leads s p d ahead x xs u (Go v) e is h has =
      let parts = and_parts (covers (get_or states v no_state).kernel p (suc d) ahead) (nat_lt x t.grammar.terminals || is_sub (heads t.grammar.terminals facts xs ahead) (closed_of (closed s) x)) h in
      let c = covered most t.grammar.terminals facts t.grammar.lefts t.grammar.rights (sides t.grammar.rules) states (row v) (closed v) (get_or states v no_state).kernel p (suc d) ahead u (state_kernel most t.grammar.terminals facts t.grammar.lefts t.grammar.rights (sides t.grammar.rules) states t.accesses t.rows states v good) parts.0 has in
      let next = behind_suc d (side_at (sides t.grammar.rules) p) x xs is in
      record {
        target = v;
        is = e;
        ready = record {
          dot = suc d;
          ahead = c.ahead;
          is = next;
          ok = subst (λ (ys : List ℕ). item_ok t.grammar.lefts t.grammar.rights t.grammar.terminals facts (sides t.grammar.rules) states (row v) (closed v) p (suc d) c.ahead ys ≡ true) next c.ok;
          has = c.has;
        };
        expects = λ w among. expects s x xs ahead u w has parts.1 among;
      }
  leads s p d ahead x xs u (Reduce q) e is h has = cc
  leads s p d ahead x xs u Accept e is h has = cc

  lawful : AreLawful t Ready Begins Void
  lawful = record {
    own = λ k e. own_of most t.grammar.terminals facts k e;
    starts = λ p r w got s. (fact_of most t.grammar.terminals facts t.grammar.rules p r told got).starts w s;
    empties = λ p r got e. (fact_of most t.grammar.terminals facts t.grammar.rules p r told got).empties e;
    ends = λ s p u r ready got free.
        let same : 0 + u ≡ u = omega arith in
        all_reduces t.grammar.lefts (before_at (sides t.grammar.rules) p) 0 p (row s) ready.ahead u ready.ok ready.has
        (ap (λ (n : ℕ). nat_lt (before_at (sides t.grammar.rules) p) (get_or t.grammar.lefts n 0)) same ∙ (ap (λ (n : ℕ). nat_lt n (get_or t.grammar.lefts u 0)) (before_found t.grammar.rules p r got) ∙ free));
    goes = λ s p x xs u ready. leads s p ready.dot ready.ahead x xs u (entry t s x) refl ready.is ready.ok ready.has;
    accessed = accessed t reached;
  }

  accepts : (e : Step) → is_accept e ≡ true → e ≡ Accept
  accepts Fail h = cc
  accepts (Go s) h = cc
  accepts (Reduce p) h = cc
  accepts Accept h = refl

  last_step : (s i : ℕ) → entry t 0 t.grammar.start ≡ Go s → entry t s 0 ≡ Accept → run t (suc i) (s ∷ []) [] ≡ Read []
  unfolding run
  last_step s i is e =
      ap (λ (v : Step). acted t (run t i) v (s ∷ []) []) e
      ∙ ap (λ (b : Bool). if b then Read [] else Wrong []) (is_eq (access t s) t.grammar.start (accessed t reached 0 t.grammar.start s is))

  paid_less : (size most paid weight n : ℕ) → size + most + 0 ≤ paid + weight → paid + weight < n → suc (n - suc size) ≡ n - size
  paid_less size most paid weight n h l = omega arith

  paid_all : (size most paid weight n : ℕ) → size + most + 0 ≤ paid + weight → paid + weight < n → n ≡ size + suc (n - suc size)
  paid_all size most paid weight n h l = omega arith

  weigh : (p : ℕ) (r : Rule) → slice_get t.grammar.rules p ≡ Some r → 1 + weights_by (weight_of t.grammar.terminals facts) (side r) + most ≤ weight_of t.grammar.terminals facts r.left + below most (side r)
  weigh p r got =
      subst (λ (v : ℕ). 1 + v + most ≤ weight_of t.grammar.terminals facts r.left + below most (side r)) (sym (same_weights most t.grammar.terminals facts (side r)))
      (fact_of most t.grammar.terminals facts t.grammar.rules p r told got).weighs

  complete : (e : Step) → entry t 0 t.grammar.start ≡ e → start_ok t e ≡ true → is_sub 1 (closed_of (closed 0) t.grammar.start) ≡ true → (ks : List ℕ) (es : List event.Event) → IsDerived t.grammar ks es
      → (n : ℕ) → paid most ks + weight_of t.grammar.terminals facts t.grammar.start < n → run t n [] ks ≡ Read es
  complete Fail e h sub ks es d n l = cc
  complete (Go s) e h sub ks es d n l =
      let cost = costs t.grammar most (weight_of t.grammar.terminals facts) weigh d in
      reads t Ready Begins Void lawful d [] s (sym begins_at) e (begun 0 t.grammar.start 0 (sub_bit 1 (closed_of (closed 0) t.grammar.start) 0 sub refl))
      (suc (n - suc (size d))) n (paid_all (size d) most (paid most ks) (weight_of t.grammar.terminals facts t.grammar.start) n cost l)
      (last_step s (n - suc (size d)) e (accepts (entry t s 0) h))
  complete (Reduce p) e h sub ks es d n l = cc
  complete Accept e h sub ks es d n l = cc

record Parts (t : Tables) (most : ℕ) (facts : List (ℕ × Bool × ℕ)) (states : List State) : Type 0 where
  moves : moves_ok t ≡ true
  told : are_facts most t.grammar.terminals facts (sides t.grammar.rules) ≡ true
  starts : start_ok t (entry t 0 t.grammar.start) ≡ true
  sub : is_sub 1 (closed_of (get_or states 0 no_state).closed t.grammar.start) ≡ true
  good : states_ok t.grammar.lefts t.grammar.rights t.grammar.terminals facts (sides t.grammar.rules) states t.accesses t.rows states ≡ true

module _ (t : Tables) (most : ℕ) (facts : List (ℕ × Bool × ℕ)) (states : List State) where
  abbrev are_told : Bool
  are_told = are_facts most t.grammar.terminals facts (sides t.grammar.rules)

  abbrev starts_well : Bool
  starts_well = start_ok t (entry t 0 t.grammar.start)

  abbrev has_start : Bool
  has_start = is_sub 1 (closed_of (get_or states 0 no_state).closed t.grammar.start)

  abbrev are_good : Bool
  are_good = states_ok t.grammar.lefts t.grammar.rights t.grammar.terminals facts (sides t.grammar.rules) states t.accesses t.rows states

  parts : tables_ok t most facts states ≡ true → Parts t most facts states
  parts h =
      let a = and_parts (moves_ok t) (are_told && (starts_well && (has_start && are_good))) h in
      let b = and_parts are_told (starts_well && (has_start && are_good)) a.1 in
      let c = and_parts starts_well (has_start && are_good) b.1 in
      let d = and_parts has_start are_good c.1 in
      record { moves = a.0; told = b.0; starts = c.0; sub = d.0; good = d.1 }

pub tables_of : (t : Tables) (c : Certificate) → is_certified t c ≡ true → tables_ok t c.most c.facts c.states ≡ true
tables_of t c h = (and_parts (tables_ok t c.most c.facts c.states) (fronts_ok t c.samples c.states) h).0

pub moves_of : (t : Tables) (c : Certificate) → is_certified t c ≡ true → moves_ok t ≡ true
moves_of t c h = (parts t c.most c.facts c.states (tables_of t c h)).moves

pub is_complete : IsComplete
is_complete t c h ks es d n l =
    let p = parts t c.most c.facts c.states h in
    let m = and_parts (nat_eq (access t 0) 0) (rows_accessed t t.rows) p.moves in
    complete t c.most c.facts c.states m.1 (eq_is (access t 0) 0 m.0) p.told p.good (entry t 0 t.grammar.start) refl p.starts p.sub ks es d n l
