-- A set more, by its name; and one more to begin with.
use Rattle.std.proofs.Common.{◌≡◌, ◌⊎◌, inl, inr, ℕ, zero, suc, ◌+◌, true, List, [], ◌∷◌, ◌++◌, Some, length, refl, sym, ◌∙◌, ap, subst, arith, length-append}
use Rattle.std.specs.Prelude.{Contains, slice_get}
use Rattle.std.proofs.lemmas.Option.{slice_get_within}
use Rattle.std.proofs.lemmas.List.Elements.{Contains-append_left, Contains-append_right, Contains-append_cases}
use Rattle.string_functions.proofs.Members.{Contains-head}
use Rattle.numbered_sets.proofs.NumberLemmas.{at_front}
use Rattle.cfg_grammar.specs.declared.symbol.Symbol.TheVariants.{Nt}
use Rattle.least_sets.specs.Forms.{Form, same_form, yes_form}
use Rattle.given_texts.specs.Closed.{Closed}
use Rattle.system_writing.specs.declared.waiting.Waiting.{Waiting}
use Rattle.system_writing.specs.declared.drafts.Draft.{Draft}
use Rattle.system_writing.specs.Rights.{same_right}
use Rattle.system_writing.specs.Parts.{Part, start_part, set_part, closed_part, is_set, PartRow}
use Rattle.system_writing.specs.Written.{Denotes, IsRight}
use Rattle.system_writing.specs.Steps.{AddsSet, AddsStart}
use Rattle.system_writing.specs.Drafts.{IsAt, settled, AreSaid, IsOfRow, AreWaiting, IsDraft}
use Rattle.system_writing.proofs.Places.{contains_at, at_contains}
use Rattle.system_writing.proofs.Adding as adding
use Rattle.system_writing.proofs.Adding.{last_is}
use Rattle.system_writing.proofs.Growing.{push_cases, at_end, add_set}
use Rattle.system_writing.proofs.EndLaws.{moved}

-- numbers of names
pub at_name : {N : Type 0} (names : List N) (numbers : List ℕ) (n : N) (k : ℕ) → IsAt names numbers n k → Contains names n
at_name names numbers n k h = contains_at names h.place n h.name

there_is : {X : Type 0} (xs : List X) (i : ℕ) {Y : Type 0} (ys : List Y) (y : Y) → length xs ≡ length ys → slice_get ys i ≡ Some y → (x : X) × (slice_get xs i ≡ Some x)
there_is [] i [] y e h = absurd cc
there_is [] i (z ∷ ys) y e h = absurd (omega (arith, e))
there_is (x ∷ xs) i [] y e h = absurd cc
there_is (x ∷ xs) zero (z ∷ ys) y e h = (x, refl)
there_is (x ∷ xs) (suc i) (z ∷ ys) y e h = there_is xs i ys y (omega (arith, e)) h

pub number_of : {N : Type 0} (names : List N) (numbers : List ℕ) (n : N) → length numbers ≡ length names → Contains names n → (k : ℕ) × IsAt names numbers n k
number_of names numbers n long has =
    let a = at_contains names n has in
    let b = there_is numbers a.0 names n long a.1 in
    (b.0, record { place = a.0; name = a.1; number = b.1 })

pub wider_at : {N : Type 0} (names : List N) (numbers : List ℕ) (m : N) (j : ℕ) (n : N) (k : ℕ) → IsAt names numbers n k → IsAt (names ++ m ∷ []) (numbers ++ j ∷ []) n k
wider_at names numbers m j n k h = record { place = h.place; name = at_front names m h.place n h.name; number = at_front numbers j h.place k h.number }

-- the number of an old name, or of the new one
at_cases : {N : Type 0} (names : List N) (numbers : List ℕ) (m : N) (j : ℕ) → length numbers ≡ length names → (n : N) (k : ℕ) → IsAt (names ++ m ∷ []) (numbers ++ j ∷ []) n k → IsAt names numbers n k ⊎ ((m ≡ n) × (j ≡ k))
at_cases names numbers m j long n k h =
    elim (push_cases names m h.place n h.name) [
      | inl old ↦ elim (push_cases numbers j h.place k h.number) [
        | inl number ↦ inl (record { place = h.place; name = old; number = number })
        | inr last ↦ absurd (let a = slice_get_within names h.place n old in let b = last.0 in omega (arith, a, b, long))
      ]
      | inr new ↦ elim (push_cases numbers j h.place k h.number) [
        | inl number ↦ absurd (let a = slice_get_within numbers h.place k number in let b = new.0 in omega (arith, a, b, long))
        | inr last ↦ inr (new.1, last.1)
      ]
    ]

module _ (N : Type 0) (starts names : List N) (numbers : List ℕ) (closed : Closed) (rows : List (N × Form N)) (old new : Draft) (d : IsDraft rows starts names numbers closed old) where
  abbrev P : Part N → Form (Part N) → Type 0
  P = PartRow (settled rows) (Contains starts) (λ n. ⊥) closed

  -- a set more
  module _ (m : N) (j : ℕ) (is_new : Contains names m → ⊥) (adds : AddsSet old new j) where
    abbrev more : List N
    more = names ++ m ∷ []

    abbrev more_numbers : List ℕ
    more_numbers = numbers ++ j ∷ []

    -- of a name that was there
    narrow : (n : N) (k : ℕ) → Contains names n → IsAt more more_numbers n k → IsAt names numbers n k
    narrow n k has h =
        elim (at_cases names numbers m j d.long n k h) [
          | inl there ↦ there
          | inr new ↦ absurd (is_new (subst (λ z. Contains names z) (sym new.0) has))
        ]

    widen : (n : N) (k : ℕ) → IsAt names numbers n k → IsAt more more_numbers n k
    widen n k h = wider_at names numbers m j n k h

    abbrev parts : List (Part N)
    parts = d.parts ++ set_part m ∷ []

    last : slice_get parts j ≡ Some (set_part m)
    last = subst (λ z. slice_get parts z ≡ Some (set_part m)) (d.all ∙ sym adds.number_is) (at_end d.parts (set_part m))

    named : (n : N) (k : ℕ) → IsAt more more_numbers n k → slice_get parts k ≡ Some (set_part n)
    named n k h =
        elim (at_cases names numbers m j d.long n k h) [
          | inl there ↦ at_front d.parts (set_part m) k (set_part n) (d.named n k there)
          | inr new ↦ subst (λ z. slice_get parts k ≡ Some (set_part z)) new.0 (subst (λ z. slice_get parts z ≡ Some (set_part m)) new.1 last)
        ]

    at_last : IsAt more more_numbers m j
    at_last = record { place = length names; name = at_end names m; number = subst (λ z. slice_get more_numbers z ≡ Some j) d.long (at_end numbers j) }

    sets : (n : N) (k : ℕ) → slice_get parts k ≡ Some (set_part n) → IsAt more more_numbers n k
    sets n k h =
        elim (push_cases d.parts (set_part m) k (set_part n) h) [
          | inl there ↦ widen n k (d.sets n k there)
          | inr new ↦ same n (new.0 ∙ d.all ∙ sym adds.number_is) new.1
        ]
      where
        same : (n : N) → k ≡ j → set_part m ≡ set_part n → IsAt more more_numbers n k
        same n e g =
            let i : m ≡ n = cc in
            subst (λ z. IsAt more more_numbers n z) (sym e) (subst (λ z. IsAt more more_numbers z j) i at_last)

    no_rows : (f : Form N) → settled rows m f → ⊥
    no_rows f h = is_new (d.rows_named m f h.0)

    in_same : (n c : N) → Contains rows (n, same_form c) → Contains names c
    in_same n c has = d.forms_named n c (same_form c) has (Contains-head c [])

    said : AreSaid rows more more_numbers old.said.items
    said = record {
      each_yes = λ a h. let r = d.said.each_yes a h in (r.0, widen r.0 a.0 r.1, r.2);
      each_same = λ a s h. let r = d.said.each_same a s h in (r.0, r.1, r.2, r.3, widen r.0 a.0 r.4, widen r.1 r.2.0 r.5, r.6);
      no_two = d.said.no_two;
      all_yes = λ n a there has. d.said.all_yes n a (narrow n a.0 (d.rows_named n yes_form has) there) has;
      all_same = λ n c a b there other has. d.said.all_same n c a b (narrow n a.0 (d.rows_named n (same_form c) has) there) (narrow c b.0 (in_same n c has) other) has;
    }

    of_row : (x : Waiting) (n c : N) → IsOfRow names numbers x n c → IsOfRow more more_numbers x n c
    of_row x n c h = record { set = widen n x.set h.set; other = widen c x.other h.other }

    waiting : AreWaiting rows more more_numbers old.waiting.items
    waiting = record {
      each = λ x h. let r = d.waiting.each x h in (r.0, r.1, of_row x r.0 r.1 r.2, r.3);
      all = λ n c w has. let r = d.waiting.all n c w has in (r.0, r.1, r.2, of_row r.0 n c r.3);
    }

    wider_names : (n : N) → Contains names n → Contains more n
    wider_names n h = Contains-append_left names (m ∷ []) n h

    pub set_added : IsDraft rows starts (names ++ m ∷ []) (numbers ++ j ∷ []) closed new
    set_added = record {
      parts = parts;
      all = length-append d.parts (set_part m ∷ []) ∙ ap (λ z. z + 1) d.all ∙ sym adds.count;
      written = moved N P parts new.lines old.lines.productions.items old.lines.rules.items adds.productions adds.rules
          (add_set N (settled rows) (Contains starts) (λ n. ⊥) closed d.parts old.lines.productions.items old.lines.rules.items d.written m no_rows (λ n h. is_new (at_name names numbers m n (d.sets m n h))));
      request = subst (λ z. slice_get parts z ≡ Some (closed_part closed.request)) (sym adds.beside.2.0) (at_front d.parts (set_part m) old.request (closed_part closed.request) d.request);
      integer = subst (λ z. slice_get parts z ≡ Some (closed_part closed.integer)) (sym adds.beside.2.1) (at_front d.parts (set_part m) old.integer (closed_part closed.integer) d.integer);
      start = subst (λ z. slice_get parts z ≡ Some start_part) (sym adds.beside.2.2) (at_front d.parts (set_part m) old.start start_part d.start);
      long = length-append numbers (j ∷ []) ∙ ap (λ z. z + 1) d.long ∙ sym (length-append names (m ∷ []));
      named = named;
      sets = sets;
      rows_named = λ n f has. wider_names n (d.rows_named n f has);
      forms_named = λ n c f has in_form. wider_names c (d.forms_named n c f has in_form);
      said = subst (λ z. AreSaid rows more more_numbers z) (sym adds.beside.0) said;
      waiting = subst (λ z. AreWaiting rows more more_numbers z) (sym adds.beside.1) waiting;
    }

  -- a set more to begin with
  module _ (n : N) (k : ℕ) (at : IsAt names numbers n k) (adds : AddsStart old new k) where
    abbrev longer : List N
    longer = starts ++ n ∷ []

    abbrev Q : Part N → Form (Part N) → Type 0
    Q = PartRow (settled rows) (Contains longer) (λ m. ⊥) closed

    start_stays : (p : Part N) (g : Form (Part N)) → P p g → Q p g
    start_stays _ _ (PartRow.start m h) = PartRow.start m (Contains-append_left starts (n ∷ []) m h)
    start_stays _ _ (PartRow.nothing m c) = PartRow.nothing m c
    start_stays _ _ (PartRow.text m b w c) = PartRow.text m b w c
    start_stays _ _ (PartRow.same m i c) = PartRow.same m i c
    start_stays _ _ (PartRow.join m a b c) = PartRow.join m a b c
    start_stays _ _ (PartRow.before_nothing m i c) = PartRow.before_nothing m i c
    start_stays _ _ (PartRow.before m b i w c) = PartRow.before m b i w c
    start_stays _ _ (PartRow.asked m c) = PartRow.asked m c
    start_stays _ _ (PartRow.integer m c) = PartRow.integer m c
    start_stays _ _ (PartRow.apply m i op c) = PartRow.apply m i op c
    start_stays _ _ (PartRow.where_nothing m i c said) = absurd said
    start_stays _ _ (PartRow.where_yes m b i w c said) = absurd said
    start_stays _ _ (PartRow.last b) = PartRow.last b
    start_stays _ _ (PartRow.first b c w) = PartRow.first b c w
    start_stays _ _ (PartRow.range r b within) = PartRow.range r b within
    start_stays _ _ (PartRow.closed_empty left has) = PartRow.closed_empty left has
    start_stays _ _ (PartRow.closed_one left a has) = PartRow.closed_one left a has
    start_stays _ _ (PartRow.closed_two left a b has) = PartRow.closed_two left a b has

    start_cases : (p : Part N) (g : Form (Part N)) → Q p g → P p g ⊎ ((p ≡ start_part) × (same_form (set_part n) ≡ g))
    start_cases _ _ (PartRow.start m h) =
        elim (Contains-append_cases starts (n ∷ []) m h) [
          | inl there ↦ inl (PartRow.start m there)
          | inr last ↦ inr (refl, ap (λ z. same_form (set_part z)) (last_is n m last))
        ]
    start_cases _ _ (PartRow.nothing m c) = inl (PartRow.nothing m c)
    start_cases _ _ (PartRow.text m b w c) = inl (PartRow.text m b w c)
    start_cases _ _ (PartRow.same m i c) = inl (PartRow.same m i c)
    start_cases _ _ (PartRow.join m a b c) = inl (PartRow.join m a b c)
    start_cases _ _ (PartRow.before_nothing m i c) = inl (PartRow.before_nothing m i c)
    start_cases _ _ (PartRow.before m b i w c) = inl (PartRow.before m b i w c)
    start_cases _ _ (PartRow.asked m c) = inl (PartRow.asked m c)
    start_cases _ _ (PartRow.integer m c) = inl (PartRow.integer m c)
    start_cases _ _ (PartRow.apply m i op c) = inl (PartRow.apply m i op c)
    start_cases _ _ (PartRow.where_nothing m i c said) = absurd said
    start_cases _ _ (PartRow.where_yes m b i w c said) = absurd said
    start_cases _ _ (PartRow.last b) = inl (PartRow.last b)
    start_cases _ _ (PartRow.first b c w) = inl (PartRow.first b c w)
    start_cases _ _ (PartRow.range r b within) = inl (PartRow.range r b within)
    start_cases _ _ (PartRow.closed_empty left has) = inl (PartRow.closed_empty left has)
    start_cases _ _ (PartRow.closed_one left a has) = inl (PartRow.closed_one left a has)
    start_cases _ _ (PartRow.closed_two left a b has) = inl (PartRow.closed_two left a b has)

    start_is_set : is_set {N = N} start_part ≡ true
    unfolding is_set
    start_is_set = refl

    begun : PartRow (settled rows) (Contains longer) (λ m. ⊥) closed start_part (same_form (set_part n))
    begun = PartRow.start n (Contains-append_right starts (n ∷ []) n (Contains-head n []))

    pub start_added : IsDraft rows (starts ++ n ∷ []) names numbers closed new
    start_added = record {
      parts = d.parts;
      all = d.all ∙ sym adds.0.0;
      written = moved N Q d.parts new.lines (old.lines.productions.items ++ (record { left = record { 0 = old.start }; right = same_right k }) ∷ []) old.lines.rules.items adds.0.1 adds.0.2
          (adding.add_production N P Q start_stays d.parts old.lines.productions.items old.lines.rules.items d.written start_part (same_form (set_part n)) old.start begun start_is_set d.start start_cases (same_right k)
          (IsRight.one (set_part n) (Nt (record { 0 = k })) (Denotes.listed (set_part n) (record { 0 = k }) (d.named n k at))));
      request = subst (λ z. slice_get d.parts z ≡ Some (closed_part closed.request)) (sym adds.1.2.0) d.request;
      integer = subst (λ z. slice_get d.parts z ≡ Some (closed_part closed.integer)) (sym adds.1.2.1) d.integer;
      start = subst (λ z. slice_get d.parts z ≡ Some start_part) (sym adds.1.2.2) d.start;
      long = d.long;
      named = d.named;
      sets = d.sets;
      rows_named = d.rows_named;
      forms_named = d.forms_named;
      said = subst (λ z. AreSaid rows names numbers z) (sym adds.1.0) d.said;
      waiting = subst (λ z. AreWaiting rows names numbers z) (sym adds.1.1) d.waiting;
    }
