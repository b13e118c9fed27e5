-- A draft that is finished stands for its rows.
use Rattle.std.proofs.Common.{◌≡◌, ◌⊎◌, ◌↔◌, inl, inr, ℕ, Bool, true, false, List, [], ◌∷◌, ◌++◌, Some, refl, sym, ◌∙◌, ap, subst}
use Rattle.std.specs.Prelude.{Contains, slice_get}
use Rattle.std.proofs.lemmas.List.Elements.{Contains-append_left, Contains-append_right, Contains-append_cases}
use Rattle.string_functions.proofs.Members.{Contains-nil, Contains-head}
use Rattle.text_base.specs.declared.numbers.Nt as nt
use Rattle.text_base.specs.declared.letter.Letter.{Letter}
use Rattle.cfg_grammar.specs.declared.symbol.Symbol.{Symbol}
use Rattle.cfg_grammar.specs.declared.symbol.Symbol.TheVariants.{Nt}
use Rattle.cfg_grammar.specs.Derives.{Derives}
use Rattle.op_system.specs.declared.system.OpSystem.{OpSystem}
use Rattle.useful_nonterminals.specs.Follows.{IsMarked}
use Rattle.useful_nonterminals.specs.Useful.{IsProductive}
use Rattle.least_sets.specs.Forms.{Form, same_form, yes_form, where_form}
use Rattle.least_sets.specs.Sets.{Says}
use Rattle.given_texts.specs.Closed.{Closed}
use Rattle.given_texts.proofs.Kept.{marked_from, mark_read}
use Rattle.system_writing.specs.declared.lines.Lines.{Lines}
use Rattle.system_writing.specs.declared.waiting.Waiting.{Waiting}
use Rattle.system_writing.specs.declared.drafts.Draft.{Draft}
use Rattle.system_writing.specs.Rights.{text_right}
use Rattle.system_writing.specs.Parts.{Part, start_part, set_part, is_set, PartRow}
use Rattle.system_writing.specs.Written.{IsWritten}
use Rattle.system_writing.specs.Steps.{WritesText, WritesWhere, WritesWaiting, Finishes}
use Rattle.system_writing.specs.Drafts.{IsAt, is_where, settled, IsOfRow, IsDraft}
use Rattle.system_writing.specs.Systems.{IsSystem}
use Rattle.system_writing.proofs.Adding as adding
use Rattle.system_writing.proofs.Adding.{last_is}
use Rattle.system_writing.proofs.Changing as changing
use Rattle.system_writing.proofs.Changing.{text_row, row_of, Asks, is_row}
use Rattle.system_writing.proofs.EndLaws as ends
use Rattle.system_writing.proofs.EndLaws.{Over, over_itself, moved, right_of_text}
use Rattle.system_writing.proofs.Names.{at_name, number_of}

module _ (N : Type 0) (starts names : List N) (numbers : List ℕ) (closed : Closed) (rows : List (N × Form N)) (draft : Draft) (d : IsDraft rows starts names numbers closed draft) where
  -- the rows as a table
  abbrev pub table : N → Form N → Type 0
  table n f = Contains rows (n, f)

  abbrev says : N → Type 0
  says n = Says table n

  is_one : (m : N) → is_set (set_part m) ≡ true
  unfolding is_set
  is_one m = refl

  -- one name at a number, and one number of a name
  one_name : (n m : N) (k : ℕ) → IsAt names numbers n k → IsAt names numbers m k → n ≡ m
  one_name n m k h g =
      let e : Some (set_part n) ≡ Some (set_part m) = sym (d.named n k h) ∙ d.named m k g in
      cc

  -- which sets say yes
  said_by : (s : Symbol) (w : List Letter) → Derives draft.said.items s w → (a : nt.Nt) → s ≡ Nt a → (n : N) → IsAt names numbers n a.0 → says n
  said_by _ _ (Derives.by_range r b within) a e n at = cc
  said_by _ _ (Derives.by_token t) a e n at = cc
  said_by _ _ (Derives.by_empty left has) a e n at =
      let r = d.said.each_yes left has in
      let same : left ≡ a = cc in
      let name : r.0 ≡ n = one_name r.0 n a.0 (subst (λ (z : nt.Nt). IsAt names numbers r.0 z.0) same r.1) at in
      Says.yes n (subst (λ z. table z yes_form) name r.2)
  said_by _ _ (Derives.by_one left s v has h) a e n at =
      let r = d.said.each_same left s has in
      let same : left ≡ a = cc in
      let name : r.0 ≡ n = one_name r.0 n a.0 (subst (λ (z : nt.Nt). IsAt names numbers r.0 z.0) same r.4) at in
      Says.same n r.1 (subst (λ z. table z (same_form r.1)) name r.6) (said_by s v h r.2 r.3 r.1 r.5)
  said_by _ _ (Derives.by_two left s t u v has h k) a e n at = absurd (d.said.no_two left s t has)

  derives_of : (n : N) → says n → (a : nt.Nt) → IsAt names numbers n a.0 → Derives draft.said.items (Nt a) []
  derives_of n (Says.yes _ row) a at = Derives.by_empty a (d.said.all_yes n a at row)
  derives_of n (Says.same _ c row said) a at =
      let j = number_of names numbers c d.long (d.forms_named n c (same_form c) row (Contains-head c [])) in
      Derives.by_one a (Nt (record { 0 = j.0 })) [] (d.said.all_same n c a (record { 0 = j.0 }) at j.1 row) (derives_of c said (record { 0 = j.0 }) j.1)

  module _ (marks : List Bool) (exact : (a : nt.Nt) → IsMarked marks a.0 ↔ IsProductive draft.said.items a) where
    marked_says : (n : N) (k : ℕ) → IsAt names numbers n k → IsMarked marks k → says n
    marked_says n k at marked = let p = (exact (record { 0 = k })).0 marked in said_by (Nt (record { 0 = k })) p.0 p.1 (record { 0 = k }) refl n at

    says_marked : (n : N) (k : ℕ) → IsAt names numbers n k → says n → IsMarked marks k
    says_marked n k at said = (exact (record { 0 = k })).1 ([], derives_of n said (record { 0 = k }) at)

    -- the settled rows, and those of these texts
    abbrev done : List Waiting → N → Form N → Type 0
    done xs n f = settled rows n f ⊎ ((x : Waiting) × (c : N) × Contains xs x × IsOfRow names numbers x n c × (f ≡ where_form x.text c))

    abbrev P : List Waiting → Part N → Form (Part N) → Type 0
    P xs = PartRow (done xs) (Contains starts) says closed

    -- no text yet
    first_rows : (n : N) (f : Form N) → done [] n f → settled rows n f
    first_rows n f (inl row) = row
    first_rows n f (inr r) = Contains-nil r.0 r.2

    no_where : (n c : N) (w : List ℕ) → settled rows n (where_form w c) → ⊥
    unfolding is_where
    no_where n c w row = let no = row.1 in cc

    over_none : Over N (P []) d.parts draft.lines
    over_none =
        over_itself N (P []) d.parts draft.lines d.all
        (adding.add_nothing N (PartRow (settled rows) (Contains starts) (λ n. ⊥) closed) (P [])
        (changing.stays N (settled rows) (done []) (Contains starts) (Contains starts) (λ n. ⊥) says closed (λ n f row. inl row) (λ n h. h) (λ n c w row s. absurd s))
        d.parts draft.lines.productions.items draft.lines.rules.items d.written
        (changing.stays N (done []) (settled rows) (Contains starts) (Contains starts) says (λ n. ⊥) closed first_rows (λ n h. h) (λ n c w row s. no_where n c w (first_rows n (where_form w c) row))))

    -- one text more
    module _ (xs : List Waiting) (x : Waiting) (has : Contains draft.waiting.items x) (mid : Lines) (o : Over N (P xs) d.parts mid) where
      abbrev row : (n : N) × (c : N) × IsOfRow names numbers x n c × Contains rows (n, where_form x.text c)
      row = d.waiting.each x has

      abbrev n : N
      n = row.0

      abbrev c : N
      c = row.1

      abbrev form : Form N
      form = where_form x.text c

      abbrev more : List Waiting
      more = xs ++ x ∷ []

      there : (m : N) (f : Form N) → done xs m f → done more m f
      there m f (inl r) = inl r
      there m f (inr r) = inr (r.0, r.1, Contains-append_left xs (x ∷ []) r.0 r.2, r.3, r.4)

      here : done more n form
      here = inr (x, c, Contains-append_right xs (x ∷ []) x (Contains-head x []), row.2, refl)

      is_new : (y : Waiting) (m b : N) (f : Form N) → x ≡ y → IsOfRow names numbers y m b → f ≡ where_form y.text b → (m ≡ n) × (f ≡ form)
      is_new y m b f e of_row is =
          let r : IsOfRow names numbers x m b = subst (λ (z : Waiting). IsOfRow names numbers z m b) (sym e) of_row in
          let other : b ≡ c = one_name b c x.other r.other row.2.other in
          (one_name m n x.set r.set row.2.set, subst (λ (z : Waiting). f ≡ where_form z.text b) (sym e) is ∙ ap (λ z. where_form x.text z) other)

      split : (m : N) (f : Form N) → done more m f → done xs m f ⊎ ((m ≡ n) × (f ≡ form))
      split m f (inl r) = inl (inl r)
      split m f (inr r) =
          elim (Contains-append_cases xs (x ∷ []) r.0 r.2) [
            | inl old ↦ inl (inr (r.0, r.1, old, r.3, r.4))
            | inr last ↦ inr (is_new r.0 m r.1 f (last_is x r.0 last) r.3 r.4)
          ]

      stays : (p : Part N) (g : Form (Part N)) → P xs p g → P more p g
      stays = changing.stays N (done xs) (done more) (Contains starts) (Contains starts) says says closed there (λ m h. h) (λ m b w r s. s)

      abbrev at_set : slice_get d.parts x.set ≡ Some (set_part n)
      at_set = d.named n x.set row.2.set

      text_written : (new : Lines) → says c → WritesText mid new x.set x.text → Over N (P more) d.parts new
      unfolding row_of Asks
      text_written new asks writes =
          let t = ends.put_text N (done xs) (Contains starts) says closed d.parts mid writes.between x.text writes.symbol writes.puts o in
          record {
            parts = t.0.parts;
            all = t.0.all ∙ sym writes.adds.0;
            written = moved N (P more) t.0.parts new (writes.between.productions.items ++ (record { left = record { 0 = x.set }; right = text_right writes.symbol }) ∷ []) writes.between.rules.items writes.adds.1 writes.adds.2
                (adding.add_production N (P xs) (P more) stays t.0.parts writes.between.productions.items writes.between.rules.items t.0.written (set_part n) (text_row x.text) x.set
                (row_there asks) (is_one n) (t.0.keeps x.set (set_part n) at_set) cases (text_right writes.symbol) (right_of_text t.0.parts x.text writes.symbol t.1));
            keeps = t.0.keeps;
            sets = t.0.sets;
          }
        where
          row_there : says c → P more (set_part n) (text_row x.text)
          row_there asks = is_row (done more) (Contains starts) says closed n form (text_row x.text) here refl asks

          cases : (p : Part N) (g : Form (Part N)) → P more p g → P xs p g ⊎ ((p ≡ set_part n) × (text_row x.text ≡ g))
          cases p g r =
              elim (changing.old_or_new N (done xs) (done more) (Contains starts) says closed n form split p g r) [
                | inl old ↦ inl old
                | inr new ↦ inr (new.0, some_same new.1)
              ]
            where
              some_same : {A : Type 0} {a b : A} → Some a ≡ Some b → a ≡ b
              some_same e = cc

      nothing_written : (says c → ⊥) → Over N (P more) d.parts mid
      unfolding Asks
      nothing_written none = record {
        parts = o.parts;
        all = o.all;
        written = adding.add_nothing N (P xs) (P more) stays o.parts mid.productions.items mid.rules.items o.written old;
        keeps = o.keeps;
        sets = o.sets;
      }
        where
          old : (p : Part N) (g : Form (Part N)) → P more p g → P xs p g
          old p g r =
              elim (changing.old_or_new N (done xs) (done more) (Contains starts) says closed n form split p g r) [
                | inl there ↦ there
                | inr new ↦ absurd (none new.2)
              ]

      over_more : (new : Lines) → WritesWhere marks mid new x → Over N (P more) d.parts new
      over_more _ (WritesWhere.marked _ new _ is writes) = text_written new (marked_says c x.other row.2.other (marked_from marks x.other is)) writes
      over_more _ (WritesWhere.unmarked _ _ is) = nothing_written (λ said. absurd (let e = mark_read marks x.other (says_marked c x.other row.2.other said) in cc))

    over_all : (xs : List Waiting) (new : Lines) → ((x : Waiting) → Contains xs x → Contains draft.waiting.items x) → WritesWaiting marks draft.lines new xs → Over N (P xs) d.parts new
    over_all _ _ within (WritesWaiting.none _) = over_none
    over_all _ _ within (WritesWaiting.more _ mid new xs x writes last) =
        over_more xs x (within x (Contains-append_right xs (x ∷ []) x (Contains-head x []))) mid (over_all xs mid (λ y h. within y (Contains-append_left xs (x ∷ []) y h)) writes) new last

    -- all rows
    row_of_done : (n : N) (f : Form N) → done draft.waiting.items n f → table n f
    row_of_done n f (inl r) = r.0
    row_of_done n f (inr r) =
        let w = d.waiting.each r.0 r.2 in
        let name : w.0 ≡ n = one_name w.0 n r.0.set w.2.set r.3.set in
        let other : w.1 ≡ r.1 = one_name w.1 r.1 r.0.other w.2.other r.3.other in
        subst (λ z. table n z) (sym r.4) (subst (λ z. table n (where_form r.0.text z)) other (subst (λ z. table z (where_form r.0.text w.1)) name w.3))

    done_of_row : (n : N) (f : Form N) → table n f → done draft.waiting.items n f
    unfolding is_where
    done_of_row n f has = by f refl (is_where f) refl
      where
        waits : (w : List ℕ) (c : N) → f ≡ where_form w c → done draft.waiting.items n f
        waits w c e =
            let r = d.waiting.all n c w (subst (λ z. table n z) e has) in
            inr (r.0, c, r.1, r.3, e ∙ ap (λ z. where_form z c) (sym r.2))

        by : (g : Form N) → f ≡ g → (b : Bool) → is_where g ≡ b → done draft.waiting.items n f
        by (where_form w c) e b i = waits w c e
        by g e false i = inl (has, subst (λ z. is_where z ≡ false) (sym e) i)
        by g e true i = absurd cc

    over_table : (new : Lines) → WritesWaiting marks draft.lines new draft.waiting.items → Over N (PartRow table (Contains starts) says closed) d.parts new
    over_table new writes =
        let o = over_all draft.waiting.items new (λ x h. h) writes in
        record {
          parts = o.parts;
          all = o.all;
          written = adding.add_nothing N (P draft.waiting.items) (PartRow table (Contains starts) says closed)
              (changing.stays N (done draft.waiting.items) table (Contains starts) (Contains starts) says says closed row_of_done (λ m h. h) (λ m b w r s. s))
              o.parts new.productions.items new.rules.items o.written
              (changing.stays N table (done draft.waiting.items) (Contains starts) (Contains starts) says says closed done_of_row (λ m h. h) (λ m b w r s. s));
          keeps = o.keeps;
          sets = o.sets;
        }

  pub finished : (s : OpSystem) → Finishes draft s → IsSystem table starts names closed s
  finished s is =
      let o = over_table is.marks is.exact is.lines is.written in
      record {
        parts = o.parts;
        all = o.all ∙ sym is.count;
        written = subst (λ z. IsWritten (PartRow table (Contains starts) says closed) o.parts z s.ops.items) (sym is.productions)
            (subst (λ z. IsWritten (PartRow table (Contains starts) says closed) o.parts is.lines.productions.items z) (sym is.rules) o.written);
        begins = subst (λ z. slice_get o.parts z ≡ Some start_part) (sym is.start) (o.keeps draft.start start_part d.start);
        named = λ n has. let k = number_of names numbers n d.long has in (k.0, o.keeps k.0 (set_part n) (d.named n k.0 k.1));
        sets = λ n k h. at_name names numbers n k (d.sets n k (o.sets (set_part n) k (is_one n) h));
      }
