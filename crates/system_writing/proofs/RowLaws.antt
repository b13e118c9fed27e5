-- A row of a set that is written.
use Rattle.std.proofs.Common.{◌≡◌, ◌⊎◌, inl, inr, ℕ, true, false, List, [], ◌∷◌, ◌++◌, Some, refl, sym, ◌∙◌, ap, subst}
use Rattle.std.specs.Prelude.{Contains, slice_get}
use Rattle.std.proofs.lemmas.List.Elements.{Contains-append_left, Contains-append_right, Contains-append_cases}
use Rattle.string_functions.proofs.Members.{Contains-head}
use Rattle.text_base.specs.declared.numbers.Nt as nt
use Rattle.cfg_grammar.specs.declared.symbol.Symbol.{Symbol}
use Rattle.cfg_grammar.specs.declared.symbol.Symbol.TheVariants.{Nt}
use Rattle.cfg_grammar.specs.declared.production.Right.{Right}
use Rattle.cfg_grammar.specs.declared.production.Right.TheVariants.{Empty, One, Two}
use Rattle.cfg_grammar.specs.declared.production.Production.{Production}
use Rattle.op_system.specs.declared.op.Op.{Op}
use Rattle.least_sets.specs.Forms.{Form, text_form, same_form, join_form, before_form, request_form, integer_form, apply_form, yes_form, where_form}
use Rattle.least_sets.specs.Simulations.{Alike}
use Rattle.given_texts.specs.Closed.{Closed}
use Rattle.system_writing.specs.declared.lines.Lines.{Lines}
use Rattle.system_writing.specs.declared.waiting.Waiting.{Waiting}
use Rattle.system_writing.specs.declared.drafts.Draft.{Draft}
use Rattle.system_writing.specs.Forms.{all_names}
use Rattle.system_writing.specs.Parts.{Part, start_part, set_part, closed_part, is_set, PartRow}
use Rattle.system_writing.specs.Written.{Denotes, IsRight, IsWritten}
use Rattle.system_writing.specs.Rights.{text_right, before_right, same_right}
use Rattle.system_writing.specs.Steps.{SameLines, AddsProduction, AddsRule, WritesText, WritesBefore, SameNumbers, SameBeside, Writes}
use Rattle.system_writing.specs.Drafts.{IsAt, is_where, settled, AreSaid, IsOfRow, AreWaiting, IsDraft}
use Rattle.system_writing.proofs.Places.{contains_at}
use Rattle.system_writing.proofs.Adding as adding
use Rattle.system_writing.proofs.Adding.{last_is}
use Rattle.system_writing.proofs.Changing as changing
use Rattle.system_writing.proofs.Changing.{text_row, before_row, row_of, Asks, is_row}
use Rattle.system_writing.proofs.EndLaws as ends
use Rattle.system_writing.proofs.EndLaws.{IsEndOf, Over, over_itself, moved, right_of_text, right_before}

module _ (N : Type 0) (starts names : List N) (numbers : List ℕ) (closed : Closed) (rows : List (N × Form N)) (old new : Draft) (d : IsDraft rows starts names numbers closed old) (n : N) (k : ℕ) (at : IsAt names numbers n k) (f : Form N) (named : (c : N) → Contains (all_names f) c → Contains names c) where
  abbrev more : List (N × Form N)
  more = rows ++ (n, f) ∷ []

  abbrev nobody : N → Type 0
  nobody c = ⊥

  abbrev P : Part N → Form (Part N) → Type 0
  P = PartRow (settled rows) (Contains starts) nobody closed

  abbrev Q : Part N → Form (Part N) → Type 0
  Q = PartRow (settled more) (Contains starts) nobody closed

  -- members of the longer list
  kept : (c : N × Form N) → Contains rows c → Contains more c
  kept c h = Contains-append_left rows ((n, f) ∷ []) c h

  here : Contains more (n, f)
  here = Contains-append_right rows ((n, f) ∷ []) (n, f) (Contains-head (n, f) [])

  cases : (m : N) (g : Form N) → Contains more (m, g) → Contains rows (m, g) ⊎ ((m ≡ n) × (g ≡ f))
  cases m g h =
      elim (Contains-append_cases rows ((n, f) ∷ []) (m, g) h) [
        | inl there ↦ inl there
        | inr last ↦ let e = last_is (n, f) (m, g) last in inr (ap (λ (c : N × Form N). c.0) (sym e), ap (λ (c : N × Form N). c.1) (sym e))
      ]

  rows_named : (m : N) (g : Form N) → Contains more (m, g) → Contains names m
  rows_named m g h =
      elim (cases m g h) [
        | inl there ↦ d.rows_named m g there
        | inr is ↦ d_name (sym is.0)
      ]
    where
      d_name : n ≡ m → Contains names m
      d_name e = subst (λ z. Contains names z) e (contains_at names at.place n at.name)

  forms_named : (m c : N) (g : Form N) → Contains more (m, g) → Contains (all_names g) c → Contains names c
  forms_named m c g h in_form =
      elim (cases m g h) [
        | inl there ↦ d.forms_named m c g there in_form
        | inr is ↦ named c (subst (λ z. Contains (all_names z) c) is.1 in_form)
      ]

  stays : (p : Part N) (g : Form (Part N)) → P p g → Q p g
  stays = changing.stays N (settled rows) (settled more) (Contains starts) (Contains starts) nobody nobody closed (λ m g h. (kept (m, g) h.0, h.1)) (λ m h. h) (λ m c w h s. s)

  split : (m : N) (g : Form N) → settled more m g → settled rows m g ⊎ ((m ≡ n) × (g ≡ f))
  split m g h =
      elim (cases m g h.0) [
        | inl there ↦ inl (there, h.1)
        | inr is ↦ inr is
      ]

  at_k : slice_get d.parts k ≡ Some (set_part n)
  at_k = d.named n k at

  is_one : (m : N) → is_set (set_part m) ≡ true
  unfolding is_set
  is_one m = refl

  number_is : (a : nt.Nt) → IsAt names numbers n a.0 → a ≡ record { 0 = k }
  number_is a h = ap (λ z. record { 0 = z }) (d.written.once (set_part n) a.0 k (is_one n) (d.named n a.0 h) at_k)

  -- lines that are written for one row more
  module _ (between : Lines) (o : Over N P d.parts between) where
    there_k : slice_get o.parts k ≡ Some (set_part n)
    there_k = o.keeps k (set_part n) at_k

    settles : (lines : Lines) → IsWritten Q o.parts lines.productions.items lines.rules.items → lines.count ≡ between.count → Over N Q d.parts lines
    settles lines written count = record { parts = o.parts; all = o.all ∙ sym count; written = written; keeps = o.keeps; sets = o.sets }

    module _ (g : Form (Part N)) (row_is : row_of closed f ≡ Some g) (asks : Asks nobody f) (plain : is_where f ≡ false) where
      new_cases : (p : Part N) (h : Form (Part N)) → Q p h → P p h ⊎ ((p ≡ set_part n) × (g ≡ h))
      new_cases p h row =
          elim (changing.old_or_new N (settled rows) (settled more) (Contains starts) nobody closed n f split p h row) [
            | inl there ↦ inl there
            | inr is ↦ inr (is.0, some_same (sym row_is ∙ is.1))
          ]
        where
          some_same : Some g ≡ Some h → g ≡ h
          some_same e = cc

      has_row : Q (set_part n) g
      has_row = is_row (settled more) (Contains starts) nobody closed n f g (here, plain) row_is asks

      by_production : (lines : Lines) (right : Right) → AddsProduction between lines k right → IsRight o.parts g right → Over N Q d.parts lines
      by_production lines right adds is_right =
          settles lines (moved N Q o.parts lines (between.productions.items ++ (record { left = record { 0 = k }; right = right }) ∷ []) between.rules.items adds.1 adds.2
          (adding.add_production N P Q stays o.parts between.productions.items between.rules.items o.written (set_part n) g k has_row (is_one n) there_k new_cases right is_right)) adds.0

      by_rule : (lines : Lines) (op : Op) (c : N) (j : ℕ) → g ≡ apply_form op (set_part c) → slice_get d.parts j ≡ Some (set_part c) → AddsRule between lines k op j → Over N Q d.parts lines
      by_rule lines op c j form at_j adds =
          settles lines (moved N Q o.parts lines between.productions.items (between.rules.items ++ (record { left = record { 0 = k }; op = op; operand = record { 0 = j } }) ∷ []) adds.1 adds.2
          (adding.add_rule N P Q stays o.parts between.productions.items between.rules.items o.written (set_part n) g k has_row (is_one n) there_k new_cases op (set_part c) j form (o.keeps j (set_part c) at_j))) adds.0

    -- for a row that is no line
    by_nothing : (lines : Lines) → SameLines between lines → ((p : Part N) (g : Form (Part N)) → Q p g → P p g) → Over N Q d.parts lines
    by_nothing lines same old_rows = settles lines (moved N Q o.parts lines between.productions.items between.rules.items same.1 same.2 (adding.add_nothing N P Q stays o.parts between.productions.items between.rules.items o.written old_rows)) same.0

  abbrev over_old : Over N P d.parts old.lines
  over_old = over_itself N P d.parts old.lines d.all d.written

  -- rows by which sets say yes
  each_yes_kept : (a : nt.Nt) → (m : N) × IsAt names numbers m a.0 × Contains rows (m, yes_form) → (m : N) × IsAt names numbers m a.0 × Contains more (m, yes_form)
  each_yes_kept a h = (h.0, h.1, kept (h.0, yes_form) h.2)

  said_as_before : new.said.items ≡ old.said.items → (yes_form ≡ f → ⊥) → ((c : N) → same_form c ≡ f → ⊥) → AreSaid more names numbers new.said.items
  said_as_before is no_yes no_same = subst (λ z. AreSaid more names numbers z) (sym is) (record {
    each_yes = λ a h. each_yes_kept a (d.said.each_yes a h);
    each_same = λ a s h. let r = d.said.each_same a s h in (r.0, r.1, r.2, r.3, r.4, r.5, kept (r.0, same_form r.1) r.6);
    no_two = d.said.no_two;
    all_yes = λ m a there has. elim (cases m yes_form has) [
      | inl before ↦ d.said.all_yes m a there before
      | inr e ↦ absurd (no_yes e.1)
    ];
    all_same = λ m c a b there other has. elim (cases m (same_form c) has) [
      | inl before ↦ d.said.all_same m c a b there other before
      | inr e ↦ absurd (no_same c e.1)
    ];
  })

  abbrev said_line : Right → Production
  said_line right = record { left = record { 0 = k }; right = right }

  said_cases : (right : Right) (a : nt.Nt) (r : Right) → Contains (old.said.items ++ said_line right ∷ []) (record { left = a; right = r }) → Contains old.said.items (record { left = a; right = r }) ⊎ ((record { 0 = k } ≡ a) × (right ≡ r))
  said_cases right a r h =
      elim (Contains-append_cases old.said.items (said_line right ∷ []) (record { left = a; right = r }) h) [
        | inl before ↦ inl before
        | inr last ↦ let e = last_is (said_line right) (record { left = a; right = r }) last in inr (ap (λ (p : Production). p.left) e, ap (λ (p : Production). p.right) e)
      ]

  said_kept : (right : Right) (p : Production) → Contains old.said.items p → Contains (old.said.items ++ said_line right ∷ []) p
  said_kept right p h = Contains-append_left old.said.items (said_line right ∷ []) p h

  said_last : (right : Right) → Contains (old.said.items ++ said_line right ∷ []) (said_line right)
  said_last right = Contains-append_right old.said.items (said_line right ∷ []) (said_line right) (Contains-head (said_line right) [])

  at_number : (a : nt.Nt) → record { 0 = k } ≡ a → IsAt names numbers n a.0
  at_number a e = subst (λ (z : nt.Nt). IsAt names numbers n z.0) e at

  same_line : (m : N) (a : nt.Nt) (right r : Right) → m ≡ n → IsAt names numbers m a.0 → right ≡ r → Contains (old.said.items ++ said_line right ∷ []) (record { left = a; right = r })
  same_line m a right r e there is =
      subst (λ z. Contains (old.said.items ++ said_line right ∷ []) (record { left = a; right = z })) is
      (subst (λ z. Contains (old.said.items ++ said_line right ∷ []) (record { left = z; right = right })) (sym (number_is a (subst (λ z. IsAt names numbers z a.0) e there))) (said_last right))

  said_yes : f ≡ yes_form → new.said.items ≡ old.said.items ++ said_line Empty ∷ [] → AreSaid more names numbers new.said.items
  said_yes is items = subst (λ z. AreSaid more names numbers z) (sym items) (record {
    each_yes = λ a h. elim (said_cases Empty a Empty h) [
      | inl before ↦ each_yes_kept a (d.said.each_yes a before)
      | inr e ↦ (n, at_number a e.0, subst (λ z. Contains more (n, z)) is here)
    ];
    each_same = λ a s h. elim (said_cases Empty a (One s) h) [
      | inl before ↦ (let r = d.said.each_same a s before in (r.0, r.1, r.2, r.3, r.4, r.5, kept (r.0, same_form r.1) r.6))
      | inr e ↦ absurd (no_one s e.1)
    ];
    no_two = λ a s t h. elim (said_cases Empty a (Two s t) h) [
      | inl before ↦ d.said.no_two a s t before
      | inr e ↦ no_pair s t e.1
    ];
    all_yes = λ m a there has. elim (cases m yes_form has) [
      | inl before ↦ said_kept Empty (record { left = a; right = Empty }) (d.said.all_yes m a there before)
      | inr e ↦ same_line m a Empty Empty e.0 there refl
    ];
    all_same = λ m c a b there other has. elim (cases m (same_form c) has) [
      | inl before ↦ said_kept Empty (record { left = a; right = One (Nt b) }) (d.said.all_same m c a b there other before)
      | inr e ↦ absurd (no_yes c (e.1 ∙ is))
    ];
  })
    where
      no_one : (s : Symbol) → Empty ≡ One s → ⊥
      no_one s e = cc

      no_pair : (s t : Symbol) → Empty ≡ Two s t → ⊥
      no_pair s t e = cc

      no_yes : (c : N) → same_form c ≡ yes_form → ⊥
      no_yes c e = cc

  said_same : (c : N) (j : ℕ) → f ≡ same_form c → IsAt names numbers c j → new.said.items ≡ old.said.items ++ said_line (same_right j) ∷ [] → AreSaid more names numbers new.said.items
  said_same c j is at_j items = subst (λ z. AreSaid more names numbers z) (sym items) (record {
    each_yes = λ a h. elim (said_cases (same_right j) a Empty h) [
      | inl before ↦ each_yes_kept a (d.said.each_yes a before)
      | inr e ↦ absurd (no_empty e.1)
    ];
    each_same = λ a s h. elim (said_cases (same_right j) a (One s) h) [
      | inl before ↦ (let r = d.said.each_same a s before in (r.0, r.1, r.2, r.3, r.4, r.5, kept (r.0, same_form r.1) r.6))
      | inr e ↦ (n, c, record { 0 = j }, symbol_is s e.1, at_number a e.0, at_j, subst (λ z. Contains more (n, z)) is here)
    ];
    no_two = λ a s t h. elim (said_cases (same_right j) a (Two s t) h) [
      | inl before ↦ d.said.no_two a s t before
      | inr e ↦ no_pair s t e.1
    ];
    all_yes = λ m a there has. elim (cases m yes_form has) [
      | inl before ↦ said_kept (same_right j) (record { left = a; right = Empty }) (d.said.all_yes m a there before)
      | inr e ↦ absurd (no_yes (e.1 ∙ is))
    ];
    all_same = λ m b a l there other has. elim (cases m (same_form b) has) [
      | inl before ↦ said_kept (same_right j) (record { left = a; right = One (Nt l) }) (d.said.all_same m b a l there other before)
      | inr e ↦ same_line m a (same_right j) (One (Nt l)) e.0 there (right_is b l (e.1 ∙ is) other)
    ];
  })
    where
      no_empty : same_right j ≡ Empty → ⊥
      no_empty e = cc

      no_pair : (s t : Symbol) → same_right j ≡ Two s t → ⊥
      no_pair s t e = cc

      no_yes : yes_form ≡ same_form c → ⊥
      no_yes e = cc

      symbol_is : (s : Symbol) → same_right j ≡ One s → s ≡ Nt (record { 0 = j })
      symbol_is s e = cc

      right_is : (b : N) (l : nt.Nt) → same_form b ≡ same_form c → IsAt names numbers b l.0 → same_right j ≡ One (Nt l)
      right_is b l e other =
          let same : b ≡ c = cc in
          let one = d.written.once (set_part c) j l.0 (is_one c) (d.named c j at_j) (d.named c l.0 (subst (λ z. IsAt names numbers z l.0) same other)) in
          ap (λ (z : ℕ). same_right z) one

  -- texts that wait
  waits_as_before : new.waiting.items ≡ old.waiting.items → ((w : List ℕ) (c : N) → where_form w c ≡ f → ⊥) → AreWaiting more names numbers new.waiting.items
  waits_as_before is no_where = subst (λ z. AreWaiting more names numbers z) (sym is) (record {
    each = λ x h. let r = d.waiting.each x h in (r.0, r.1, r.2, kept (r.0, where_form x.text r.1) r.3);
    all = λ m c w has. elim (cases m (where_form w c) has) [
      | inl before ↦ d.waiting.all m c w before
      | inr e ↦ absurd (no_where w c e.1)
    ];
  })

  abbrev waiting_text : List ℕ → ℕ → Waiting
  waiting_text w j = record { set = k; text = w; other = j }

  waits_too : (w : List ℕ) (c : N) (j : ℕ) → f ≡ where_form w c → IsAt names numbers c j → new.waiting.items ≡ old.waiting.items ++ (record { set = k; text = w; other = j }) ∷ [] → AreWaiting more names numbers new.waiting.items
  waits_too w c j is at_j items = subst (λ z. AreWaiting more names numbers z) (sym items) (record {
    each = λ y h. elim (Contains-append_cases old.waiting.items (waiting_text w j ∷ []) y h) [
      | inl before ↦ (let r = d.waiting.each y before in (r.0, r.1, r.2, kept (r.0, where_form y.text r.1) r.3))
      | inr last ↦ subst (λ (z : Waiting). (m : N) × (b : N) × IsOfRow names numbers z m b × Contains more (m, where_form z.text b)) (last_is (waiting_text w j) y last)
          (n, c, record { set = at; other = at_j }, subst (λ z. Contains more (n, z)) is here)
    ];
    all = λ m b v has. elim (cases m (where_form v b) has) [
      | inl before ↦ (let r = d.waiting.all m b v before in (r.0, Contains-append_left old.waiting.items (waiting_text w j ∷ []) r.0 r.1, r.2, r.3))
      | inr e ↦ found m b v e.0 (e.1 ∙ is)
    ];
  })
    where
      found : (m b : N) (v : List ℕ) → m ≡ n → where_form v b ≡ where_form w c → (y : Waiting) × Contains (old.waiting.items ++ waiting_text w j ∷ []) y × (y.text ≡ v) × IsOfRow names numbers y m b
      found m b v e form =
          let texts : v ≡ w = cc in
          let others : b ≡ c = cc in (
            waiting_text w j,
            Contains-append_right old.waiting.items (waiting_text w j ∷ []) (waiting_text w j) (Contains-head (waiting_text w j) []),
            sym texts,
            record { set = subst (λ z. IsAt names numbers z k) (sym e) at; other = subst (λ z. IsAt names numbers z j) (sym others) at_j },
          )

  draft_of : Over N Q d.parts new.lines → SameNumbers old new → AreSaid more names numbers new.said.items → AreWaiting more names numbers new.waiting.items → IsDraft more starts names numbers closed new
  draft_of o same said waiting = record {
    parts = o.parts;
    all = o.all;
    written = o.written;
    request = subst (λ z. slice_get o.parts z ≡ Some (closed_part closed.request)) (sym same.0) (o.keeps old.request (closed_part closed.request) d.request);
    integer = subst (λ z. slice_get o.parts z ≡ Some (closed_part closed.integer)) (sym same.1) (o.keeps old.integer (closed_part closed.integer) d.integer);
    start = subst (λ z. slice_get o.parts z ≡ Some start_part) (sym same.2) (o.keeps old.start start_part d.start);
    long = d.long;
    named = λ m j h. o.keeps j (set_part m) (d.named m j h);
    sets = λ m j h. d.sets m j (o.sets (set_part m) j (is_one m) h);
    rows_named = rows_named;
    forms_named = forms_named;
    said = said;
    waiting = waiting;
  }

  -- a row that is a line, beside which nothing changes
  plain_row : Over N Q d.parts new.lines → SameBeside old new → (yes_form ≡ f → ⊥) → ((c : N) → same_form c ≡ f → ⊥) → ((w : List ℕ) (c : N) → where_form w c ≡ f → ⊥) → IsDraft more starts names numbers closed new
  plain_row o beside no_yes no_same no_where = draft_of o beside.2 (said_as_before beside.0 no_yes no_same) (waits_as_before beside.1 no_where)

  text_over : (w : List ℕ) (g : Form (Part N)) → g ≡ text_row w → row_of closed f ≡ Some g → Asks nobody f → is_where f ≡ false → WritesText old.lines new.lines k w → Over N Q d.parts new.lines
  text_over w g form row_is asks plain writes =
      let t = ends.put_text N (settled rows) (Contains starts) nobody closed d.parts old.lines writes.between w writes.symbol writes.puts over_old in
      by_production writes.between t.0 g row_is asks plain new.lines (text_right writes.symbol) writes.adds (subst (λ z. IsRight t.0.parts z (text_right writes.symbol)) (sym form) (right_of_text t.0.parts w writes.symbol t.1))

  before_over : (w : List ℕ) (c : N) (j : ℕ) (g : Form (Part N)) → g ≡ before_row w c → row_of closed f ≡ Some g → Asks nobody f → is_where f ≡ false → IsAt names numbers c j → WritesBefore old.lines new.lines k w j → Over N Q d.parts new.lines
  before_over w c j g form row_is asks plain at_j writes =
      let t = ends.put_text N (settled rows) (Contains starts) nobody closed d.parts old.lines writes.between w writes.symbol writes.puts over_old in
      by_production writes.between t.0 g row_is asks plain new.lines (before_right writes.symbol j) writes.adds
      (subst (λ z. IsRight t.0.parts z (before_right writes.symbol j)) (sym form) (right_before t.0.parts w writes.symbol c j (t.0.keeps j (set_part c) (d.named c j at_j)) t.1))

  -- what stands at the number of a name
  stands : (c : N) (j : ℕ) → IsAt names numbers c j → Denotes d.parts (set_part c) (Nt (record { 0 = j }))
  stands c j h = Denotes.listed (set_part c) (record { 0 = j }) (d.named c j h)

  listed : (p : Part N) (j : ℕ) → slice_get d.parts j ≡ Some p → Denotes d.parts p (Nt (record { 0 = j }))
  listed p j h = Denotes.listed p (record { 0 = j }) h

-- a row that is written, by its form
pub row_written : (N : Type 0) (starts names : List N) (numbers : List ℕ) (closed : Closed) (rows : List (N × Form N)) (old new : Draft) → IsDraft rows starts names numbers closed old → (n : N) (k : ℕ) → IsAt names numbers n k
    → (f : Form N) (g : Form ℕ) → ((c : N) → Contains (all_names f) c → Contains names c) → Alike (IsAt names numbers) f g → Writes old new k g → IsDraft (rows ++ (n, f) ∷ []) starts names numbers closed new
unfolding row_of Asks is_where
row_written N starts names numbers closed rows old new d n k at _ _ named (Alike.text w) writes =
    plain_row N starts names numbers closed rows old new d n k at (text_form w) named (text_over N starts names numbers closed rows old new d n k at (text_form w) named w (text_row w) refl refl tt refl writes.0) writes.1
    (λ e. cc) (λ c e. cc) (λ v c e. cc)
row_written N starts names numbers closed rows old new d n k at _ _ named (Alike.same a b h) writes =
    draft_of N starts names numbers closed rows old new d n k at (same_form a) named
    (by_production N starts names numbers closed rows old new d n k at (same_form a) named old.lines (over_old N starts names numbers closed rows old new d n k at (same_form a) named) (same_form (set_part a)) refl tt refl new.lines (same_right b) writes.0
    (IsRight.one (set_part a) (Nt (record { 0 = b })) (stands N starts names numbers closed rows old new d n k at (same_form a) named a b h)))
    writes.1.2
    (said_same N starts names numbers closed rows old new d n k at (same_form a) named a b refl h writes.1.0)
    (waits_as_before N starts names numbers closed rows old new d n k at (same_form a) named writes.1.1 (λ v c e. cc))
row_written N starts names numbers closed rows old new d n k at _ _ named (Alike.join a c b e h i) writes =
    plain_row N starts names numbers closed rows old new d n k at (join_form a c) named
    (by_production N starts names numbers closed rows old new d n k at (join_form a c) named old.lines (over_old N starts names numbers closed rows old new d n k at (join_form a c) named) (join_form (set_part a) (set_part c)) refl tt refl new.lines
    (Two (Nt (record { 0 = b })) (Nt (record { 0 = e }))) writes.0
    (IsRight.two (set_part a) (set_part c) (Nt (record { 0 = b })) (Nt (record { 0 = e })) (stands N starts names numbers closed rows old new d n k at (join_form a c) named a b h) (stands N starts names numbers closed rows old new d n k at (join_form a c) named c e i)))
    writes.1 (λ z. cc) (λ m z. cc) (λ v m z. cc)
row_written N starts names numbers closed rows old new d n k at _ _ named (Alike.before w a b h) writes =
    plain_row N starts names numbers closed rows old new d n k at (before_form w a) named
    (before_over N starts names numbers closed rows old new d n k at (before_form w a) named w a b (before_row w a) refl refl tt refl h writes.0) writes.1 (λ e. cc) (λ c e. cc) (λ v c e. cc)
row_written N starts names numbers closed rows old new d n k at _ _ named Alike.asked writes =
    plain_row N starts names numbers closed rows old new d n k at request_form named
    (by_production N starts names numbers closed rows old new d n k at request_form named old.lines (over_old N starts names numbers closed rows old new d n k at request_form named) (same_form (closed_part closed.request)) refl tt refl new.lines
    (same_right old.request) writes.0 (IsRight.one (closed_part closed.request) (Nt (record { 0 = old.request })) (listed N starts names numbers closed rows old new d n k at request_form named (closed_part closed.request) old.request d.request)))
    writes.1 (λ e. cc) (λ c e. cc) (λ v c e. cc)
row_written N starts names numbers closed rows old new d n k at _ _ named Alike.integer writes =
    plain_row N starts names numbers closed rows old new d n k at integer_form named
    (by_production N starts names numbers closed rows old new d n k at integer_form named old.lines (over_old N starts names numbers closed rows old new d n k at integer_form named) (same_form (closed_part closed.integer)) refl tt refl new.lines
    (same_right old.integer) writes.0 (IsRight.one (closed_part closed.integer) (Nt (record { 0 = old.integer })) (listed N starts names numbers closed rows old new d n k at integer_form named (closed_part closed.integer) old.integer d.integer)))
    writes.1 (λ e. cc) (λ c e. cc) (λ v c e. cc)
row_written N starts names numbers closed rows old new d n k at _ _ named (Alike.apply op a b h) writes =
    plain_row N starts names numbers closed rows old new d n k at (apply_form op a) named
    (by_rule N starts names numbers closed rows old new d n k at (apply_form op a) named old.lines (over_old N starts names numbers closed rows old new d n k at (apply_form op a) named) (apply_form op (set_part a)) refl tt refl new.lines
    op a b refl (d.named a b h) writes.0)
    writes.1 (λ e. cc) (λ c e. cc) (λ v c e. cc)
row_written N starts names numbers closed rows old new d n k at _ _ named Alike.yes writes =
    draft_of N starts names numbers closed rows old new d n k at yes_form named
    (by_nothing N starts names numbers closed rows old new d n k at yes_form named old.lines (over_old N starts names numbers closed rows old new d n k at yes_form named) new.lines writes.0 (λ p g row.
    elim (changing.old_or_new N (settled rows) (settled (rows ++ (n, yes_form) ∷ [])) (Contains starts) (λ m. ⊥) closed n yes_form (split N starts names numbers closed rows old new d n k at yes_form named) p g row) [
      | inl there ↦ there
      | inr is ↦ absurd (let none = is.1 in cc)
    ]))
    writes.1.2
    (said_yes N starts names numbers closed rows old new d n k at yes_form named refl writes.1.0)
    (waits_as_before N starts names numbers closed rows old new d n k at yes_form named writes.1.1 (λ v c e. cc))
row_written N starts names numbers closed rows old new d n k at _ _ named (Alike.where_yes w a b h) writes =
    draft_of N starts names numbers closed rows old new d n k at (where_form w a) named
    (by_nothing N starts names numbers closed rows old new d n k at (where_form w a) named old.lines (over_old N starts names numbers closed rows old new d n k at (where_form w a) named) new.lines writes.0
    (changing.stays N (settled (rows ++ (n, where_form w a) ∷ [])) (settled rows) (Contains starts) (Contains starts) (λ m. ⊥) (λ m. ⊥) closed (λ m g h.
    elim (cases N starts names numbers closed rows old new d n k at (where_form w a) named m g h.0) [
      | inl there ↦ (there, h.1)
      | inr is ↦ absurd (let no = subst (λ z. is_where z ≡ false) is.1 h.1 in cc)
    ]) (λ m h. h) (λ m c v h s. s)))
    writes.1.2
    (said_as_before N starts names numbers closed rows old new d n k at (where_form w a) named writes.1.1 (λ e. cc) (λ c e. cc))
    (waits_too N starts names numbers closed rows old new d n k at (where_form w a) named w a b refl h writes.1.0)
