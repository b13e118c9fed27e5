-- A table whose moves and ends are listed relates what its list does.
use Rattle.std.proofs.Common.{◌≡◌, ◌==◌, ℕ, ◌+◌, ◌*◌, ◌<◌, ◌≤◌, ◌⊎◌, ◌↔◌, inl, inr, Bool, true, false, IsTrue, ◌&&◌, List, [], ◌∷◌, ◌++◌, length, map, get_or, Contains, All, ltb, leb, cond, refl, sym, ◌∙◌, ap, subst, arith}
use Rattle.std.proofs.lemmas.List.{map-append}
use Rattle.std.proofs.lemmas.List.Elements.{Contains-get_or, Contains-append_cases, Contains-append_right, All-contains, All-cons, All-nil, All-head, All-tail}
use Rattle.std.proofs.lemmas.Bool.{cases_Bool, eqb-true, eq-eqb, leb-true, le-leb, lt-ltb, cond-true, cond-false, false≢true, and_parts}
use Rattle.std.proofs.lemmas.List.Sums.{count_by-le-length}
use Rattle.std.specs.List.{list_all}
use Rattle.text_base.specs.declared.letter.Letter.{Letter}
use Rattle.text_base.specs.declared.letter.Letter.TheVariants.{OfByte}
use Rattle.fst_core.specs.Letter.{letter_of}
use Rattle.fst_core.specs.Runs.{Gives}
use Rattle.fst_core.specs.Choices.{choices, stops, in_range}
use Rattle.fst_core.specs.Tables.{TableStep, TableStop}
use Rattle.fst_core.proofs.RunLemmas.{gives_from_relates, relates_from_gives}
use Rattle.fst_core.specs.declared.out.Out.{Out}
use Rattle.fst_core.specs.declared.out.Out.TheVariants.{Same, Shift, Byte, Token}
use Rattle.fst_core.specs.declared.moves.TableMove.{TableMove}
use Rattle.fst_core.specs.declared.moves.TableEnd.{TableEnd}
use Rattle.fst_core.specs.declared.table.Table.{Table}
use Rattle.string_ops.specs.Listed.{Rows, Lasts, IsListed, is_plain, byte_of, Follows, IsShort, AreSmall, AreBytes, IsMachine}

pub none_in : {X : Type 0} (x : X) → Contains [] x → ⊥
none_in x c = absurd (omega (arith, c.1))

pub one_in : {X : Type 0} (y x : X) → Contains (y ∷ []) x → x ≡ y
one_in {X} y x c = sym (All-contains (λ (z : X). y ≡ z) (y ∷ []) x (All-cons (λ (z : X). y ≡ z) y [] refl (All-nil (λ (z : X). y ≡ z))) c)

pub in_one : {X : Type 0} (x : X) → Contains (x ∷ []) x
in_one x = (0, omega arith, refl)

-- the element is the first, or it is among the others
pub in_cons : {X : Type 0} (y : X) (ys : List X) (x : X) → Contains (y ∷ ys) x → (x ≡ y) ⊎ Contains ys x
in_cons y ys x c = elim (Contains-append_cases (y ∷ []) ys x c) [ inl d ↦ inl (one_in y x d) | inr d ↦ inr d ]

pub in_head : {X : Type 0} (y : X) (ys : List X) → Contains (y ∷ ys) y
in_head y ys = (0, omega arith, refl)

pub in_tail : {X : Type 0} (y : X) (ys : List X) (x : X) → Contains ys x → Contains (y ∷ ys) x
in_tail y ys x c = Contains-append_right (y ∷ []) ys x c

in_cond : {X : Type 0} (b : Bool) (y x : X) (ys : List X) → Contains ys x → Contains (cond b (y ∷ ys) ys) x
in_cond true y x ys c = in_tail y ys x c
in_cond false y x ys c = c

in_cond_cases : {X : Type 0} (b : Bool) (y x : X) (ys : List X) → Contains (cond b (y ∷ ys) ys) x → ((b ≡ true) × (x ≡ y)) ⊎ Contains ys x
in_cond_cases true y x ys c = elim (in_cons y ys x c) [ inl e ↦ inl (refl, e) | inr d ↦ inr d ]
in_cond_cases false y x ys c = inr c

-- a step of a table is one of its choices
pub step_choice : (moves : List TableMove) (s byte t : ℕ) (letters : List Letter) → TableStep moves s byte t letters → (p : ℕ × List Out) × Contains (choices moves s byte) p × (p.0 ≡ t) × (map (letter_of byte) p.1 ≡ letters)
step_choice [] s byte t letters h = absurd (none_in h.0 h.1)
step_choice (m ∷ moves) s byte t letters h = elim (in_cons m moves h.0 h.1) [
  | inl e ↦
      let from : m.from ≡ s = ap (λ (x : TableMove). x.from) (sym e) ∙ h.2 in
      let lo : m.range.lo ≤ byte = subst (λ (x : TableMove). x.range.lo ≤ byte) e h.3.0 in
      let hi : byte ≤ m.range.hi = subst (λ (x : TableMove). byte ≤ x.range.hi) e h.3.1 in
      let test : (m.from == s && in_range m.range byte) ≡ true = rw (eq-eqb m.from s from, le-leb m.range.lo byte lo, le-leb byte m.range.hi hi) refl in (
        (m.to, m.out.items),
        subst (λ (b : Bool). Contains (cond b ((m.to, m.out.items) ∷ choices moves s byte) (choices moves s byte)) (m.to, m.out.items)) (sym test) (in_head (m.to, m.out.items) (choices moves s byte)),
        ap (λ (x : TableMove). x.to) (sym e) ∙ h.4,
        ap (λ (x : TableMove). map (letter_of byte) x.out.items) (sym e) ∙ h.5,
      )
  | inr c ↦
      let r = step_choice moves s byte t letters (h.0, c, h.2, h.3, h.4, h.5) in
      (r.0, in_cond (m.from == s && in_range m.range byte) (m.to, m.out.items) r.0 (choices moves s byte) r.1, r.2, r.3)
]

-- and each choice is a step
pub choice_step : (moves : List TableMove) (s byte : ℕ) (p : ℕ × List Out) → Contains (choices moves s byte) p → TableStep moves s byte p.0 (map (letter_of byte) p.1)
choice_step [] s byte p c = absurd (none_in p c)
choice_step (m ∷ moves) s byte p c = elim (in_cond_cases (m.from == s && in_range m.range byte) (m.to, m.out.items) p (choices moves s byte) c) [
  | inl h ↦
      let parts = and_parts (m.from == s) (in_range m.range byte) h.0 in
      let ends = and_parts (leb m.range.lo byte) (leb byte m.range.hi) parts.1 in
      (m, in_head m moves, eqb-true m.from s parts.0, (leb-true m.range.lo byte ends.0, leb-true byte m.range.hi ends.1), ap (λ (q : ℕ × List Out). q.0) (sym h.1), ap (λ (q : ℕ × List Out). map (letter_of byte) q.1) (sym h.1))
  | inr d ↦ let r = choice_step moves s byte p d in (r.0, in_tail m moves r.0 r.1, r.2, r.3, r.4, r.5)
]

pub stop_last : (ends : List TableEnd) (s : ℕ) (letters : List Letter) → TableStop ends s letters → (out : List Out) × Contains (stops ends s) out × (map (letter_of 0) out ≡ letters)
stop_last [] s letters h = absurd (none_in h.0 h.1)
stop_last (e ∷ ends) s letters h = elim (in_cons e ends h.0 h.1) [
  | inl q ↦
      let test : (e.state == s) ≡ true = eq-eqb e.state s (ap (λ (x : TableEnd). x.state) (sym q) ∙ h.2) in (
        e.out.items,
        subst (λ (b : Bool). Contains (cond b (e.out.items ∷ stops ends s) (stops ends s)) e.out.items) (sym test) (in_head e.out.items (stops ends s)),
        ap (λ (x : TableEnd). map (letter_of 0) x.out.items) (sym q) ∙ h.3,
      )
  | inr c ↦
      let r = stop_last ends s letters (h.0, c, h.2, h.3) in
      (r.0, in_cond (e.state == s) e.out.items r.0 (stops ends s) r.1, r.2)
]

pub last_stop : (ends : List TableEnd) (s : ℕ) (out : List Out) → Contains (stops ends s) out → TableStop ends s (map (letter_of 0) out)
last_stop [] s out c = absurd (none_in out c)
last_stop (e ∷ ends) s out c = elim (in_cond_cases (e.state == s) e.out.items out (stops ends s) c) [
  | inl h ↦ (e, in_head e ends, eqb-true e.state s h.0, ap (map (letter_of 0)) (sym h.1))
  | inr d ↦ let r = last_stop ends s out d in (r.0, in_tail e ends r.0 r.1, r.2, r.3)
]

-- what is no page token is put out as a byte
letters_are_bytes : (byte : ℕ) (out : List Out) → IsTrue (list_all is_plain out) → map (letter_of byte) out ≡ map OfByte (map (byte_of byte) out)
letters_are_bytes byte [] h = refl
letters_are_bytes byte (Same ∷ out) h = ap (λ (x : List Letter). OfByte byte ∷ x) (letters_are_bytes byte out h)
letters_are_bytes byte (Shift by ∷ out) h = ap (λ (x : List Letter). OfByte (byte_of byte (Shift by)) ∷ x) (letters_are_bytes byte out h)
letters_are_bytes byte (Byte own ∷ out) h = ap (λ (x : List Letter). OfByte own ∷ x) (letters_are_bytes byte out h)
letters_are_bytes byte (Token token ∷ out) h = absurd (false≢true h)

letters_split : (u out : List ℕ) (rest : List Letter) → map OfByte out ≡ map OfByte u ++ rest → (v : List ℕ) × (out ≡ u ++ v) × (rest ≡ map OfByte v)
letters_split [] out rest e = (out, refl, sym e)
letters_split (x ∷ u) [] rest e = cc
letters_split (x ∷ u) (y ∷ out) rest e =
    let h : y ≡ x = cc in
    let t : map OfByte out ≡ map OfByte u ++ rest = cc in
    let r = letters_split u out rest t in
    (r.0, ap (λ (z : ℕ). z ∷ out) h ∙ ap (λ (z : List ℕ). x ∷ z) r.1, r.2)

letters_same : (u v : List ℕ) → map OfByte u ≡ map OfByte v → u ≡ v
letters_same [] [] e = refl
letters_same [] (y ∷ v) e = cc
letters_same (x ∷ u) [] e = cc
letters_same (x ∷ u) (y ∷ v) e =
    let h : x ≡ y = cc in
    let t : map OfByte u ≡ map OfByte v = cc in
    ap (λ (z : ℕ). z ∷ u) h ∙ ap (λ (z : List ℕ). y ∷ z) (letters_same u v t)

in_bytes : {A : Type 0} (byte : ℕ) (xs ys : List A) (x : A) → xs ≡ cond (ltb byte 256) ys [] → Contains xs x → Contains ys x
in_bytes {A} byte xs ys x e c = elim (cases_Bool (ltb byte 256)) [
  | inl t ↦ subst (λ (z : List A). Contains z x) (e ∙ cond-true (ltb byte 256) ys [] t) c
  | inr f ↦ absurd (none_in x (subst (λ (z : List A). Contains z x) (e ∙ cond-false (ltb byte 256) ys [] f) c))
]

bytes_in : {A : Type 0} (byte : ℕ) (xs ys : List A) (x : A) → byte < 256 → xs ≡ cond (ltb byte 256) ys [] → Contains ys x → Contains xs x
bytes_in {A} byte xs ys x h e c =
    subst (λ (z : List A). Contains z x) (sym (e ∙ cond-true (ltb byte 256) ys [] (lt-ltb byte 256 h))) c

-- from the front, letters or bytes
pub follows_from_gives : (table : Table) (states : ℕ) (rows : Rows) (lasts : Lasts) (most : ℕ) → IsListed table states rows lasts → AreSmall rows lasts most → (s : ℕ) (text out : List ℕ) → Gives (TableStep table.moves.items) (TableStop table.ends.items) s text (map OfByte out) → Follows rows lasts s text out
follows_from_gives table states rows lasts most listed small s [] out g =
    let r = stop_last table.ends.items s (map OfByte out) g in
    let c : Contains (lasts s) r.0 = subst (λ (x : List (List Out)). Contains x r.0) (listed.ends s) r.1 in
    let plain = (All-contains (IsShort most) (lasts s) r.0 (small.ends s) c).0 in
    (r.0, c, letters_same (map (byte_of 0) r.0) out (sym (letters_are_bytes 0 r.0 plain) ∙ r.2))
follows_from_gives table states rows lasts most listed small s (byte ∷ text) out g =
    let r = step_choice table.moves.items s byte g.0 g.1 g.3 in
    let c : Contains (rows s byte) r.0 = in_bytes byte (choices table.moves.items s byte) (rows s byte) r.0 (listed.moves s byte) r.1 in
    let plain = (All-contains (λ (p : ℕ × List Out). IsShort most p.1) (rows s byte) r.0 (small.moves s byte) c).0 in
    let first : g.1 ≡ map OfByte (map (byte_of byte) (r.0).1) = sym r.3 ∙ letters_are_bytes byte (r.0).1 plain in
    let split = letters_split (map (byte_of byte) (r.0).1) out g.2 (g.5 ∙ ap (λ (x : List Letter). x ++ g.2) first) in
    let rest : Gives (TableStep table.moves.items) (TableStop table.ends.items) g.0 text (map OfByte split.0) = subst (λ (x : List Letter). Gives (TableStep table.moves.items) (TableStop table.ends.items) g.0 text x) split.2 g.4 in
    let again : Follows rows lasts (r.0).0 text split.0 = subst (λ (x : ℕ). Follows rows lasts x text split.0) (sym r.2) (follows_from_gives table states rows lasts most listed small g.0 text split.0 rest) in
    (r.0, c, split.0, again, sym split.1)

pub gives_from_follows : (table : Table) (states : ℕ) (rows : Rows) (lasts : Lasts) (most : ℕ) → IsListed table states rows lasts → AreSmall rows lasts most → (s : ℕ) (text out : List ℕ) → AreBytes text → Follows rows lasts s text out → Gives (TableStep table.moves.items) (TableStop table.ends.items) s text (map OfByte out)
gives_from_follows table states rows lasts most listed small s [] out bytes f =
    let c : Contains (stops table.ends.items s) f.0 = subst (λ (x : List (List Out)). Contains x f.0) (sym (listed.ends s)) f.1 in
    let plain = (All-contains (IsShort most) (lasts s) f.0 (small.ends s) f.1).0 in
    subst (λ (x : List Letter). TableStop table.ends.items s x) (letters_are_bytes 0 f.0 plain ∙ ap (map OfByte) f.2) (last_stop table.ends.items s f.0 c)
gives_from_follows table states rows lasts most listed small s (byte ∷ text) out bytes f =
    let h : byte < 256 = All-head (λ (x : ℕ). x < 256) byte text bytes in
    let c : Contains (choices table.moves.items s byte) f.0 = bytes_in byte (choices table.moves.items s byte) (rows s byte) f.0 h (listed.moves s byte) f.1 in
    let plain = (All-contains (λ (p : ℕ × List Out). IsShort most p.1) (rows s byte) f.0 (small.moves s byte) f.1).0 in
    let step = choice_step table.moves.items s byte f.0 c in
    let rest = gives_from_follows table states rows lasts most listed small (f.0).0 text f.2 (All-tail (λ (x : ℕ). x < 256) byte text bytes) f.3 in
    let eq : map OfByte out ≡ map (letter_of byte) (f.0).1 ++ map OfByte f.2 =
    ap (map OfByte) (sym f.4) ∙ map-append OfByte (map (byte_of byte) (f.0).1) f.2 ∙ ap (λ (x : List Letter). x ++ map OfByte f.2) (sym (letters_are_bytes byte (f.0).1 plain)) in
    ((f.0).0, map (letter_of byte) (f.0).1, map OfByte f.2, step, rest, eq)

few_of : (table : Table) (states : ℕ) (rows : Rows) (lasts : Lasts) (most : ℕ) → IsListed table states rows lasts → AreSmall rows lasts most → (s byte : ℕ) → length (choices table.moves.items s byte) ≤ 4
few_of table states rows lasts most listed small s byte = elim (cases_Bool (ltb byte 256)) [
  | inl t ↦
      let e : choices table.moves.items s byte ≡ rows s byte = listed.moves s byte ∙ cond-true (ltb byte 256) (rows s byte) [] t in
      subst (λ (x : List (ℕ × List Out)). length x ≤ 4) (sym e) (small.few s byte)
  | inr f ↦
      let e : choices table.moves.items s byte ≡ [] = listed.moves s byte ∙ cond-false (ltb byte 256) (rows s byte) [] f in
      subst (λ (x : List (ℕ × List Out)). length x ≤ 4) (sym e) (omega arith)
]

-- a move is a choice of its state by the first of its bytes
move_choice : (moves : List TableMove) (m : TableMove) → Contains moves m → Contains (choices moves m.from m.range.lo) (m.to, m.out.items)
move_choice [] m c = absurd (none_in m c)
move_choice (x ∷ moves) m c = elim (in_cons x moves m c) [
  | inl e ↦
      let test : (m.from == m.from && in_range m.range m.range.lo) ≡ true = rw (eq-eqb m.from m.from refl, le-leb m.range.lo m.range.lo (omega arith), le-leb m.range.lo m.range.hi m.range.ordered) refl in
      let here : Contains (choices (m ∷ moves) m.from m.range.lo) (m.to, m.out.items) = subst (λ (b : Bool). Contains (cond b ((m.to, m.out.items) ∷ choices moves m.from m.range.lo) (choices moves m.from m.range.lo)) (m.to, m.out.items)) (sym test) (in_head (m.to, m.out.items) (choices moves m.from m.range.lo)) in
      subst (λ (y : TableMove). Contains (choices (y ∷ moves) m.from m.range.lo) (m.to, m.out.items)) e here
  | inr d ↦ in_cond (x.from == m.from && in_range x.range m.range.lo) (x.to, x.out.items) (m.to, m.out.items) (choices moves m.from m.range.lo) (move_choice moves m d)
]

end_stop : (ends : List TableEnd) (e : TableEnd) → Contains ends e → Contains (stops ends e.state) e.out.items
end_stop [] e c = absurd (none_in e c)
end_stop (x ∷ ends) e c = elim (in_cons x ends e c) [
  | inl q ↦
      let test : (e.state == e.state) ≡ true = eq-eqb e.state e.state refl in
      let here : Contains (stops (e ∷ ends) e.state) e.out.items = subst (λ (b : Bool). Contains (cond b (e.out.items ∷ stops ends e.state) (stops ends e.state)) e.out.items) (sym test) (in_head e.out.items (stops ends e.state)) in
      subst (λ (y : TableEnd). Contains (stops (y ∷ ends) e.state) e.out.items) q here
  | inr d ↦ in_cond (x.state == e.state) x.out.items e.out.items (stops ends e.state) (end_stop ends e d)
]

All-from_contains : {X : Type 0} (P : X → Type 0) (xs : List X) → ((x : X) → Contains xs x → P x) → All P xs
All-from_contains P xs h k d l = h (get_or xs k d) (Contains-get_or xs k d l)

-- what is listed and small, and follows just these texts, is a machine for them
pub listed_machine : (table : Table) (states : ℕ) (rows : Rows) (lasts : Lasts) (size : ℕ) (relates : List ℕ → List ℕ → Type 0) → IsListed table states rows lasts → AreSmall rows lasts (size + 8) → states ≤ 8 * (size + 8) → ((input output : List ℕ) → AreBytes input → Follows rows lasts 0 input output ↔ relates input output) → IsMachine table size relates
listed_machine table states rows lasts size relates listed small count follows =
    let steps = TableStep table.moves.items in
    let ends = TableStop table.ends.items in
    record {
      exact = λ input output bytes. (
        λ r.
            let g = gives_from_relates steps ends table.start input (map OfByte output) r in
            let z : Gives steps ends 0 input (map OfByte output) = subst (λ (x : ℕ). Gives steps ends x input (map OfByte output)) listed.start g in
            (follows input output bytes).0 (follows_from_gives table states rows lasts (size + 8) listed small 0 input output z),
        λ r.
            let f = (follows input output bytes).1 r in
            let g = gives_from_follows table states rows lasts (size + 8) listed small 0 input output bytes f in
            relates_from_gives steps ends table.start input (map OfByte output) (subst (λ (x : ℕ). Gives steps ends x input (map OfByte output)) (sym listed.start) g),
      );
      states = subst (λ (x : ℕ). x ≤ 8 * (size + 8)) (sym listed.count) count;
      few = λ s t byte. omega (arith, count_by-le-length (λ (p : ℕ × List Out). p.0 == t) (choices table.moves.items s byte), few_of table states rows lasts (size + 8) listed small s byte);
      moves = All-from_contains (λ (m : TableMove). IsShort (size + 8) m.out.items) table.moves.items (λ m c.
          let d = in_bytes m.range.lo (choices table.moves.items m.from m.range.lo) (rows m.from m.range.lo) (m.to, m.out.items) (listed.moves m.from m.range.lo) (move_choice table.moves.items m c) in
          All-contains (λ (p : ℕ × List Out). IsShort (size + 8) p.1) (rows m.from m.range.lo) (m.to, m.out.items) (small.moves m.from m.range.lo) d);
      ends = All-from_contains (λ (e : TableEnd). IsShort (size + 8) e.out.items) table.ends.items (λ e c.
          let d = subst (λ (x : List (List Out)). Contains x e.out.items) (listed.ends e.state) (end_stop table.ends.items e c) in
          All-contains (IsShort (size + 8)) (lasts e.state) e.out.items (small.ends e.state) d);
    }

-- a list with one row for each byte, and one output at the end, follows a function of the text
pub record IsFunction (rows : Rows) (lasts : Lasts) (valid : ℕ → Type 0) (f : ℕ → List ℕ → List ℕ) : Type 0 where
  pub stop : (s : ℕ) → valid s → (last : List Out) × (lasts s ≡ last ∷ []) × (map (byte_of 0) last ≡ f s [])
  pub step : (s byte : ℕ) → valid s → byte < 256 → (p : ℕ × List Out) × (rows s byte ≡ p ∷ []) × valid p.0 × ((text : List ℕ) → map (byte_of byte) p.1 ++ f p.0 text ≡ f s (byte ∷ text))

pub follows_function : (rows : Rows) (lasts : Lasts) (valid : ℕ → Type 0) (f : ℕ → List ℕ → List ℕ) → IsFunction rows lasts valid f → (s : ℕ) → valid s → (text out : List ℕ) → AreBytes text → Follows rows lasts s text out ↔ (out ≡ f s text)
follows_function rows lasts valid f is s v [] out bytes =
    let z = is.stop s v in (
      λ h.
          let one : h.0 ≡ z.0 = one_in z.0 h.0 (subst (λ (x : List (List Out)). Contains x h.0) z.1 h.1) in
          sym h.2 ∙ ap (map (byte_of 0)) one ∙ z.2,
      λ e. (z.0, subst (λ (x : List (List Out)). Contains x z.0) (sym z.1) (in_one z.0), z.2 ∙ sym e),
    )
follows_function rows lasts valid f is s v (byte ∷ text) out bytes =
    let z = is.step s byte v (All-head (λ (x : ℕ). x < 256) byte text bytes) in
    let more : (rest : List ℕ) → Follows rows lasts (z.0).0 text rest ↔ (rest ≡ f (z.0).0 text) = λ rest. follows_function rows lasts valid f is (z.0).0 z.2 text rest (All-tail (λ (x : ℕ). x < 256) byte text bytes) in (
      λ h.
          let one : h.0 ≡ z.0 = one_in z.0 h.0 (subst (λ (x : List (ℕ × List Out)). Contains x h.0) z.1 h.1) in
          let follows : Follows rows lasts (z.0).0 text h.2 = subst (λ (x : ℕ × List Out). Follows rows lasts x.0 text h.2) one h.3 in
          let rest : h.2 ≡ f (z.0).0 text = (more h.2).0 follows in
          sym h.4 ∙ ap (λ (x : ℕ × List Out). map (byte_of byte) x.1 ++ h.2) one ∙ ap (λ (x : List ℕ). map (byte_of byte) (z.0).1 ++ x) rest ∙ z.3 text,
      λ e. (z.0, subst (λ (x : List (ℕ × List Out)). Contains x z.0) (sym z.1) (in_one z.0), f (z.0).0 text, (more (f (z.0).0 text)).1 refl, z.3 text ∙ sym e),
    )
