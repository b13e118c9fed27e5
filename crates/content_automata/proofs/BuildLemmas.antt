-- What is built decides.
use Rattle.std.proofs.Common.{◌≡◌, ℕ, zero, suc, ◌+◌, ◌<◌, ◌≤◌, inl, inr, Bool, true, false, ◌&&◌, List, [], ◌∷◌, ◌++◌, take, length, refl, sym, ◌∙◌, ap, subst, arith, Option, Some, None, slice_get, map}
use Rattle.std.specs.Prelude.{slice_index_or, nat_le}
use Rattle.std.specs.List.{IsDistinct, list_all}
use Rattle.dtd_model.specs.Table.{Rule, rule_of, holding_of, Table as Definition}
use Rattle.dtd_model.specs.declared.dtd.ElementRule.{ElementRule}
use Rattle.content_automata.specs.declared.refusal.ContentRefusal.{ContentRefusal}
use Rattle.content_automata.specs.declared.refusal.ContentRefusal.TheVariants.{Limit, Memory}
use Rattle.content_automata.specs.Shapes.{Shape, shape, first_state, state_behind, states_walk, then_some, IsSized}
use Rattle.content_automata.specs.Tables.{Table, IsTable, Row, Key, key_eq, Keeps, CellFits, RowsFit, FirstsFit, AreElements, AllReached, AreSized, run, ends, first_at, next_at, row_at, owner_at}
use Rattle.content_automata.specs.Refusals.{AreTooMany, IsCause, many_states, many_moves}
use Rattle.content_automata.specs.Counts.{pairs_in, moves_in, HaveFewMoves}
use Rattle.dtd_model.specs.Matches.{matches}
use Rattle.dtd_model.specs.Lawful.{is_lawful, is_lawful_rule, is_lawful_holding, are_lawful_attributes, are_names, element_limit}
use Rattle.std.specs.Cmp.{first_so, second_so}
use Rattle.std.proofs.lemmas.Bool.{cases_lt}
use Rattle.std.proofs.lemmas.Option.{slice_get_within, get_or_from_slice_get}
use Rattle.std.proofs.lemmas.List.{take_more, map-append}
use Rattle.content_automata.specs.Decides.{shapes_in, Decides, TellsApart, HasOwners, GoesOn, ReachesAll, set_behind}
use Rattle.content_automata.specs.declared.model.Model.{Model}
use Rattle.content_automata.specs.Views.{shapes_of}
use Rattle.content_automata.proofs.ExploreLemmas.{shapes_length, contains_at}
use Rattle.content_automata.proofs.GoingLemmas.{goes_on}
use Rattle.content_automata.proofs.PassLemmas.{both_below}
use Rattle.content_automata.proofs.ReachLemmas.{first_sized, led_reached}
use Rattle.content_automata.proofs.RunLemmas.{fits_from, decides, one_number, run_append}

pub shapes_are : (rules : List ElementRule) → map (λ (r : ElementRule). shape (holding_of r.content)) rules ≡ map (λ (r : Rule). shape r.holding) (map rule_of rules)
shapes_are [] = refl
shapes_are (r ∷ rules) = ap (λ (ss : List Shape). shape (holding_of r.content) ∷ ss) (shapes_are rules)

pub shape_at : (rules : List Rule) (e : ℕ) (r : Rule) → slice_get rules e ≡ Some r → slice_get (map (λ (x : Rule). shape x.holding) rules) e ≡ Some (shape r.holding)
shape_at [] e r h = cc
shape_at (x ∷ rules) zero r h = let same : x ≡ r = cc in ap (λ (y : Rule). Some (shape y.holding)) same
shape_at (x ∷ rules) (suc e) r h = shape_at rules e r h

pub rules_length : (rules : List Rule) → length (map (λ (x : Rule). shape x.holding) rules) ≡ length rules
rules_length [] = refl
rules_length (x ∷ rules) = let e = rules_length rules in omega (arith, e)

pub all_sized : (rules : List Rule) → AreSized (map (λ (x : Rule). shape x.holding) rules)
all_sized [] e s h = cc
all_sized (x ∷ rules) zero s h = let same : shape x.holding ≡ s = cc in subst (λ (y : Shape). IsSized y (first_state y)) same (first_sized x.holding)
all_sized (x ∷ rules) (suc e) s h = all_sized rules e s h

pub firsts_kept : (shapes : List Shape) (old new : List Key) (firsts : List ℕ) (count : ℕ) → Keeps old new → FirstsFit shapes old firsts count → FirstsFit shapes new firsts count
firsts_kept shapes old new firsts count keeps f = record { long = f.long; fit = λ e s h at. keeps (slice_index_or firsts e 0) (e, first_state s) (f.fit e s h at) }

pub cause : (shapes : List Shape) (keys : List Key) (r : ContentRefusal) → AllReached shapes keys → AreTooMany shapes keys r → IsCause shapes r
cause shapes keys (Limit count) all (inl over) = many_states over.0 (keys, over.1, over.2, λ k has. led_reached shapes k (all k has))
cause shapes keys (Limit count) all (inr over) = many_moves over.0 (keys, over.2, (λ k has. led_reached shapes k (all k has)), over.1)
cause shapes keys Memory all over = tt

pub table_decides : (d : Definition) (t : Table) → IsTable (shapes_in d) t → Decides d t
table_decides d t i e r at es below =
    let long = rules_length d.elements in
    subst (λ (n : ℕ). AreElements n es → ends t (run t (first_at t e) es) ≡ matches n r.holding es) long (decides (shapes_in d) t i e r.holding (shape_at d.elements e r at) es) below

some_of : (element : ℕ) (keys : List Key) (cell : Option ℕ) (n : ℕ) (found : Option (List Bool)) → CellFits keys element cell found → cell ≡ Some n → (flags : List Bool) × (found ≡ Some flags) × (slice_get keys n ≡ Some (element, flags))
some_of element keys None n found fits h = cc
some_of element keys (Some m) n found fits h = let same : m ≡ n = cc in (fits.0, fits.1, subst (λ (k : ℕ). slice_get keys k ≡ Some (element, fits.0)) same fits.2)

pub table_apart : (d : Definition) (t : Table) → IsTable (shapes_in d) t → TellsApart d t
table_apart d t i e f r q es fs m n at_e at_f below_es below_fs run_e run_f =
    let long = rules_length d.elements in
    let a = some_of e i.keys (run t (first_at t e) es) m (states_walk (length (shapes_in d)) (shape r.holding) (first_state (shape r.holding)) es) (fits_from (shapes_in d) t i e (shape r.holding) (shape_at d.elements e r at_e) es (subst (λ (k : ℕ). AreElements k es) (sym long) below_es)) run_e in
    let b = some_of f i.keys (run t (first_at t f) fs) n (states_walk (length (shapes_in d)) (shape q.holding) (first_state (shape q.holding)) fs) (fits_from (shapes_in d) t i f (shape q.holding) (shape_at d.elements f q at_f) fs (subst (λ (k : ℕ). AreElements k fs) (sym long) below_fs)) run_f in
    let a_set : set_behind d r es ≡ Some a.0 = subst (λ (k : ℕ). states_walk k (shape r.holding) (first_state (shape r.holding)) es ≡ Some a.0) long a.1 in
    let b_set : set_behind d q fs ≡ Some b.0 = subst (λ (k : ℕ). states_walk k (shape q.holding) (first_state (shape q.holding)) fs ≡ Some b.0) long b.1 in (
      (λ same. forth d i.keys e f m n a.0 b.0 (set_behind d r es) (set_behind d q fs) a_set b_set a.2 b.2 same),
      (λ same. back d i.keys e f m n a.0 b.0 (set_behind d r es) (set_behind d q fs) a_set b_set a.2 b.2 i.apart same.0 same.1),
    )
  where
    forth : (d : Definition) (keys : List Key) (e f m n : ℕ) (x y : List Bool) (p q : Option (List Bool)) → p ≡ Some x → q ≡ Some y → slice_get keys m ≡ Some (e, x) → slice_get keys n ≡ Some (f, y) → m ≡ n → (e ≡ f) × (p ≡ q)
    forth d keys e f m n x y p q px qy at_m at_n same =
        let one : Some (e, x) ≡ Some (f, y) = sym at_m ∙ (ap (slice_get keys) same ∙ at_n) in
        let key : (e, x) ≡ (f, y) = some_same (e, x) (f, y) one in
        (ap (λ (k : Key). k.0) key, px ∙ ap (λ (k : Key). Some k.1) key ∙ sym qy)
      where
        some_same : (a b : Key) → Some a ≡ Some b → a ≡ b
        some_same a b h = cc

    back : (d : Definition) (keys : List Key) (e f m n : ℕ) (x y : List Bool) (p q : Option (List Bool)) → p ≡ Some x → q ≡ Some y → slice_get keys m ≡ Some (e, x) → slice_get keys n ≡ Some (f, y) → IsDistinct key_eq keys → e ≡ f → p ≡ q → m ≡ n
    back d keys e f m n x y p q px qy at_m at_n apart same_e same_p =
        let one : Some x ≡ Some y = sym px ∙ same_p ∙ qy in
        let flags : x ≡ y = cc in
        one_number keys m n (f, y) apart (at_m ∙ ap (λ (k : ℕ). Some (k, x)) same_e ∙ ap (λ (z : List Bool). Some (f, z)) flags) at_n

-- from what was put down
pub table_is : (models : List Model) (old new : List Key) (firsts : List ℕ) (rows : List Row) (owners : List ℕ) → owners ≡ map (λ (k : Key). k.0) new → IsDistinct key_eq new → AllReached (shapes_of models) new → Keeps old new → FirstsFit (shapes_of models) old firsts (length models) → RowsFit (shapes_of models) new rows (length new) → IsTable (shapes_of models) (firsts, rows, owners)
table_is models old new firsts rows owners own apart all keeps f r =
    record { keys = new; apart = apart; reached = all; firsts = subst (FirstsFit (shapes_of models) new firsts) (sym (shapes_length models)) (firsts_kept (shapes_of models) old new firsts (length models) keeps f); rows = r; owners = own }

-- the moves of the states of the table
pub few_moves : (shapes : List Shape) (keys : List Key) (rows : List Row) (most : ℕ) → IsDistinct key_eq keys → AllReached shapes keys → RowsFit shapes keys rows (length keys) → moves_in shapes keys ≤ most → HaveFewMoves shapes (length rows) most
few_moves shapes keys rows most apart all fit few = record { keys = keys; as_many = sym fit.long; apart = apart; reached = λ k has. led_reached shapes k (all k has); few = few }

-- the state at a number, and its row
at_some : {X : Type 0} (xs : List X) (n : ℕ) → n < length xs → (x : X) × (slice_get xs n ≡ Some x)
at_some [] n h = absurd (omega (arith, h))
at_some (x ∷ xs) zero h = (x, refl)
at_some (x ∷ xs) (suc n) h = at_some xs n (omega (arith, h))

-- each state is reached
pub table_reaches : (d : Definition) (t : Table) → IsTable (shapes_in d) t → ReachesAll (length d.elements) t
table_reaches d t i s h =
    let k = at_some i.keys s (subst (λ (m : ℕ). s < m) i.rows.long h) in
    let led = i.reached k.0 (contains_at i.keys s k.0 k.1) in
    let long = rules_length d.elements in
    let fits = fits_from (shapes_in d) t i k.0.0 led.0 led.1 led.2 led.3 in (
      k.0.0,
      subst (λ (n : ℕ). k.0.0 < n) long (slice_get_within (shapes_in d) k.0.0 led.0 led.1),
      led.2,
      subst (λ (n : ℕ). AreElements n led.2) long led.3,
      run_is i.keys k.0 s (run t (first_at t k.0.0) led.2) (states_walk (length (shapes_in d)) led.0 (first_state led.0) led.2) i.apart k.1 led.4 fits,
    )
  where
    run_is : (keys : List Key) (k : Key) (s : ℕ) (cell : Option ℕ) (found : Option (List Bool)) → IsDistinct key_eq keys → slice_get keys s ≡ Some k → found ≡ Some k.1 → CellFits keys k.0 cell found → cell ≡ Some s
    run_is keys k s None found apart at walk fits = absurd (let no : ⊥ = cc in no)
    run_is keys k s (Some n) found apart at walk fits =
        let one : Some fits.0 ≡ Some k.1 = sym fits.1 ∙ walk in
        let flags : fits.0 ≡ k.1 = cc in
        ap (λ (m : ℕ). Some m) (one_number keys n s k apart (fits.2 ∙ ap (λ (f : List Bool). Some (k.0, f)) flags) at)

-- children lead on exactly where some match begins with them
pub table_goes : (d : Definition) (t : Table) → IsTable (shapes_in d) t → ((e : ℕ) (r : Rule) → slice_get d.elements e ≡ Some r → is_lawful_holding (length d.elements) r.holding ≡ true) → GoesOn d t
table_goes d t i lawful e r at es below =
    let long = rules_length d.elements in (
      (λ led.
          let found = some_of e i.keys (run t (first_at t e) es) led.0 (states_walk (length (shapes_in d)) (shape r.holding) (first_state (shape r.holding)) es) (fits_from (shapes_in d) t i e (shape r.holding) (shape_at d.elements e r at) es (subst (λ (k : ℕ). AreElements k es) (sym long) below)) led.1 in
          let walk : states_walk (length d.elements) (shape r.holding) (first_state (shape r.holding)) es ≡ Some found.0 = subst (λ (k : ℕ). states_walk k (shape r.holding) (first_state (shape r.holding)) es ≡ Some found.0) long found.1 in
          let more = goes_on (length d.elements) r.holding es found.0 (lawful e r at) walk in
          (more.list, more.below, more.passes)),
      (λ more.
          let ended = table_decides d t i e r at (es ++ more.0) (both_below (length d.elements) es more.0 below more.1) ∙ more.2 in
          some_state t (run t (first_at t e) es) more.0 (sym (ap (ends t) (run_append t (first_at t e) es more.0)) ∙ ended)),
    )
  where
    some_state : (t : Table) (x : Option ℕ) (fs : List ℕ) → ends t (then_some x (λ (s : ℕ). run t s fs)) ≡ true → (s : ℕ) × (x ≡ Some s)
    some_state t None fs h = absurd (let no : ⊥ = cc in no)
    some_state t (Some s) fs h = (s, refl)

-- what each element holds is lawful
pub rule_lawful : (count : ℕ) (rules : List Rule) (e : ℕ) (r : Rule) → list_all (is_lawful_rule count) rules ≡ true → slice_get rules e ≡ Some r → is_lawful_holding count r.holding ≡ true
rule_lawful count [] e r h at = cc
rule_lawful count (x ∷ rules) zero r h at =
    let same : x ≡ r = cc in
    subst (λ (y : Rule). is_lawful_holding count y.holding ≡ true) same (first_so (is_lawful_holding count x.holding) (are_lawful_attributes x.attributes) (first_so (is_lawful_rule count x) (list_all (is_lawful_rule count) rules) h))
rule_lawful count (x ∷ rules) (suc e) r h at = rule_lawful count rules e r (second_so (is_lawful_rule count x) (list_all (is_lawful_rule count) rules) h) at

pub rules_lawful : (rules : List Rule) (entities : List (List ℕ)) → is_lawful rules entities ≡ true → (e : ℕ) (r : Rule) → slice_get rules e ≡ Some r → is_lawful_holding (length rules) r.holding ≡ true
unfolding is_lawful
rules_lawful rules entities h e r at =
    rule_lawful (length rules) rules e r
    (second_so (nat_le (length rules) element_limit && are_names (map (λ (q : Rule). q.name) rules)) (list_all (is_lawful_rule (length rules)) rules)
    (first_so ((nat_le (length rules) element_limit && are_names (map (λ (q : Rule). q.name) rules)) && list_all (is_lawful_rule (length rules)) rules) (are_names entities) h)) at

-- the models are those of the declared elements
pub shapes_same : (models slice : List Model) (elements es : List ElementRule) → slice ≡ models → shapes_of models ≡ map (λ (r : ElementRule). shape (holding_of r.content)) es → es ≡ elements → shapes_of slice ≡ map (λ (r : Rule). shape r.holding) (map rule_of elements)
shapes_same models slice elements es a b c = ap shapes_of a ∙ b ∙ ap (map (λ (r : ElementRule). shape (holding_of r.content))) c ∙ shapes_are elements

pub sized_as : (shapes : List Shape) (rules : List Rule) → shapes ≡ map (λ (r : Rule). shape r.holding) rules → AreSized shapes
sized_as shapes rules e = subst AreSized (sym e) (all_sized rules)

-- each declared element begins in some state
pub all_begin : (d : Definition) (t : Table) → IsTable (shapes_in d) t → length t.0 ≡ length d.elements
all_begin d t i = i.firsts.long ∙ rules_length d.elements

pub table_as : (shapes : List Shape) (d : Definition) (t : Table) → shapes ≡ shapes_in d → IsTable shapes t → IsTable (shapes_in d) t
table_as shapes d t e i = subst (λ (ss : List Shape). IsTable ss t) e i

owner_of : (keys : List Key) (n : ℕ) (k : Key) → slice_get keys n ≡ Some k → slice_index_or (map (λ (x : Key). x.0) keys) n 0 ≡ k.0
owner_of [] n k h = cc
owner_of (x ∷ keys) zero k h = let same : x ≡ k = cc in ap (λ (y : Key). y.0) same
owner_of (x ∷ keys) (suc n) k h = owner_of keys n k h

module _ (d : Definition) (t : Table) (i : IsTable (shapes_in d) t) where
  owned : (n : ℕ) (k : Key) → slice_get i.keys n ≡ Some k → owner_at t n ≡ k.0
  owned n k h = ap (λ (os : List ℕ). slice_index_or os n 0) i.owners ∙ owner_of i.keys n k h

  first_key : (e : ℕ) → e < length d.elements → (s : Shape) × (slice_get i.keys (first_at t e) ≡ Some (e, first_state s))
  first_key e h =
      let within = subst (λ (n : ℕ). e < n) (sym (rules_length d.elements)) h in
      let s = at_some (shapes_in d) e within in
      (s.0, i.firsts.fit e s.0 within s.1)

  -- a step is that of a state's row
  next_key : (s r e : ℕ) → next_at t s e ≡ Some r → (k : Key) × (flags : List Bool) × (slice_get i.keys s ≡ Some k) × (slice_get i.keys r ≡ Some (k.0, flags))
  next_key s r e h = elim (cases_lt s (length i.keys)) [
    | inl below ↦
        let k = at_some i.keys s below in
        let row = i.rows.fit s k.0 below k.1 in
        elim (cases_lt e (length (shapes_in d))) [
          | inl small ↦
              let cell = some_of k.0.0 i.keys (next_at t s e) r (state_behind (length (shapes_in d)) row.shape_of_it k.0.1 e) (row.cells_fit.fit e small) h in
              (k.0, cell.0, k.1, cell.2)
          | inr large ↦ absurd (none_some r (sym (past (row_at t s).1 e (subst (λ (n : ℕ). n ≤ e) (sym row.cells_fit.long) large)) ∙ h))
        ]
    | inr above ↦ absurd (none_some r (sym (ap (λ (x : Row). slice_index_or x.1 e None) (past_row t.1 s (subst (λ (n : ℕ). n ≤ s) (sym i.rows.long) above))) ∙ h))
  ]
    where
      none_some : (n : ℕ) → None ≡ Some n → ⊥
      none_some n h = cc

      past : (cells : List (Option ℕ)) (n : ℕ) → length cells ≤ n → slice_index_or cells n None ≡ None
      past [] n h = refl
      past (x ∷ cells) zero h = absurd (omega (arith, h))
      past (x ∷ cells) (suc n) h = past cells n (omega (arith, h))

      past_row : (rows : List Row) (n : ℕ) → length rows ≤ n → slice_index_or rows n (false, []) ≡ (false, [])
      past_row [] n h = refl
      past_row (x ∷ rows) zero h = absurd (omega (arith, h))
      past_row (x ∷ rows) (suc n) h = past_row rows n (omega (arith, h))

  key_below : (n : ℕ) (k : Key) → slice_get i.keys n ≡ Some k → n < length t.1
  key_below n k h = subst (λ (m : ℕ). n < m) (sym i.rows.long) (slice_get_within i.keys n k h)

  pub table_owners : HasOwners (length d.elements) t
  table_owners =
      record {
        first_below = λ e h. let k = first_key e h in key_below (first_at t e) (e, first_state k.0) k.1;
        first_own = λ e h. let k = first_key e h in owned (first_at t e) (e, first_state k.0) k.1;
        next_below = λ s r e h. let k = next_key s r e h in key_below r (k.0.0, k.1) k.3;
        next_own = λ s r e h. let k = next_key s r e h in owned r (k.0.0, k.1) k.3 ∙ sym (owned s k.0 k.2);
        declared = λ s h.
            let k = at_some i.keys s (subst (λ (m : ℕ). s < m) i.rows.long h) in
            let row = i.rows.fit s k.0 (subst (λ (m : ℕ). s < m) i.rows.long h) k.1 in
            subst (λ (m : ℕ). owner_at t s < m) (rules_length d.elements)
            (subst (λ (m : ℕ). m < length (shapes_in d)) (sym (owned s k.0 k.1)) (slice_get_within (shapes_in d) k.0.0 row.shape_of_it row.declared));
      }

-- one more state
pub owners_more : (keys : List Key) (n : ℕ) (k : Key) (items new : List ℕ) → Some k ≡ slice_get keys n → items ≡ map (λ (x : Key). x.0) (take n keys) → new ≡ items ++ k.0 ∷ [] → new ≡ map (λ (x : Key). x.0) (take (n + 1) keys)
owners_more keys n k items new at e m =
    let i = slice_get_within keys n k (sym at) in
    let same : take (n + 1) keys ≡ take n keys ++ k ∷ [] = take_more keys n k i ∙ ap (λ z. take n keys ++ z ∷ []) (get_or_from_slice_get keys n k k (sym at)) in
    m ∙ ap (λ (l : List ℕ). l ++ k.0 ∷ []) e ∙ sym (map-append (λ (x : Key). x.0) (take n keys) (k ∷ [])) ∙ ap (map (λ (x : Key). x.0)) (sym same)

-- the elements of the definition, as they are handed on
pub elements_as : (es elements : List ElementRule) → es ≡ elements → map (λ (r : ElementRule). shape (holding_of r.content)) es ≡ map (λ (r : Rule). shape r.holding) (map rule_of elements)
elements_as es elements e = ap (map (λ (r : ElementRule). shape (holding_of r.content))) e ∙ shapes_are elements

pub cause_as : (es elements : List ElementRule) (r : ContentRefusal) → es ≡ elements → IsCause (map (λ (x : ElementRule). shape (holding_of x.content)) es) r → IsCause (map (λ (x : Rule). shape x.holding) (map rule_of elements)) r
cause_as es elements r e cause = subst (λ (ss : List Shape). IsCause ss r) (elements_as es elements e) cause

pub pairs_as : (es elements : List ElementRule) (limit : ℕ) → es ≡ elements → pairs_in (map (λ (x : ElementRule). shape (holding_of x.content)) es) ≤ limit → pairs_in (map (λ (x : Rule). shape x.holding) (map rule_of elements)) ≤ limit
pairs_as es elements limit e few = subst (λ (ss : List Shape). pairs_in ss ≤ limit) (elements_as es elements e) few
