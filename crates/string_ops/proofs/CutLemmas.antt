-- The machines that cut follow `part_of`.
use Rattle.std.proofs.Common.{◌≡◌, ◌==◌, ℕ, zero, suc, ◌+◌, ◌-◌, ◌<◌, ◌≤◌, ◌↔◌, ◌⊎◌, inl, inr, Bool, true, false, ◌&&◌, List, [], ◌∷◌, ◌++◌, length, take, drop, map, Contains, cond, ltb, leb, pos, negsuc, Some, None, refl, sym, ◌∙◌, ap, subst, arith, append-nil, Option, Result, IfOk, ℤ, nat_abs}
use lib.Signed.{lt_z}
use Rattle.text_base.specs.declared.memory.NoMemory.{NoMemory}
use Rattle.op_system.specs.Size.{size_of_length}
use Rattle.std.proofs.Math.Seq.{drop-nil}
use Rattle.std.proofs.lemmas.Bool.{cases_Bool, cases_eq, cases_lt, eq-eqb, ne_eqb, lt-ltb, le-ltb, le-leb, lt-leb, and_right, cond-true, cond-false, false≢true}
use Rattle.std.proofs.lemmas.List.{length-append, take_rest}
use Rattle.std.proofs.lemmas.List.Elements.{All-append}
use Rattle.string_functions.specs.Cut.{part_of}
use Rattle.fst_core.specs.Choices.{choices, stops}
use Rattle.fst_core.specs.declared.out.Out.{Out}
use Rattle.fst_core.specs.declared.out.Out.TheVariants.{Same}
use Rattle.fst_core.specs.declared.moves.TableMove.{TableMove}
use Rattle.fst_core.specs.declared.moves.TableEnd.{TableEnd}
use Rattle.fst_core.specs.declared.table.Table.{Table}
use Rattle.string_ops.specs.Listed.{Rows, Lasts, byte_of, Follows, IsShort, AreSmall, IsListed, IsMachine}
use Rattle.string_ops.specs.Search.{is_within, AddsTurns, AddsSearch, AddsStop, AddsStops}
use Rattle.string_ops.specs.Cut.{is_negative, is_all, is_early, copy_if, count_turn, front_rows, front_lasts, middle_of, left_of, down_turn, inner_rows, inner_lasts}
use Rattle.string_ops.proofs.ListedLemmas.{none_in, in_one, in_cons, in_head, in_tail, one_in, IsFunction, follows_function, listed_machine}
use Rattle.string_ops.proofs.PieceLemmas.{follows_one, follows_two, ends_one, ends_none, all_part, few_part, short_nothing}
use Rattle.string_ops.proofs.SearchLemmas.{state_more, within_none}

take_nil : (n : ℕ) → ◌≡◌ {A = List ℕ} (take n []) []
take_nil zero = refl
take_nil (suc n) = refl

take_cons : (m k b : ℕ) (text : List ℕ) → m ≡ suc k → take m (b ∷ text) ≡ b ∷ take k text
take_cons m k b text e = ap (λ (n : ℕ). take n (b ∷ text)) e

drop_cons : (m k b : ℕ) (text : List ℕ) → m ≡ suc k → drop m (b ∷ text) ≡ drop k text
drop_cons m k b text e = ap (λ (n : ℕ). drop n (b ∷ text)) e

take_zero : (m : ℕ) (text : List ℕ) → m ≡ 0 → take m text ≡ []
take_zero m text e = ap (λ (n : ℕ). take n text) e

drop_zero : (m : ℕ) (text : List ℕ) → m ≡ 0 → drop m text ≡ text
drop_zero m text e = ap (λ (n : ℕ). drop n text) e

-- what the states copy
abbrev keep : Bool → ℕ → List ℕ → List ℕ
keep true b out = b ∷ out
keep false b out = out

abbrev pick : ℕ → ℕ → Bool → ℕ → List ℕ → List ℕ
pick count from rest s [] = []
pick count from rest s (b ∷ text) = cond (ltb s count) (keep (leb from s) b (pick count from rest (s + 1) text)) (keep rest b (pick count from rest s text))

put_keep : (copied : Bool) (b : ℕ) (out : List ℕ) → map (byte_of b) (copy_if copied) ++ out ≡ keep copied b out
put_keep true b out = refl
put_keep false b out = refl

front_below : (count from : ℕ) (rest : Bool) (s byte : ℕ) → s < count → front_rows count from rest s byte ≡ count_turn from s byte ∷ []
front_below count from rest s byte h =
    let t : is_within 0 count s ≡ true = rw (le-leb 0 s (omega arith), lt-ltb s (0 + count) (omega arith)) refl in
    let e : s - 0 ≡ s = omega arith in
    rw (t, ne_eqb count s (omega arith)) (ap (λ (n : ℕ). count_turn from n byte ∷ []) e)

front_last : (count from : ℕ) (rest : Bool) (byte : ℕ) → front_rows count from rest count byte ≡ (count, copy_if rest) ∷ []
front_last count from rest byte =
    let t : is_within 0 count count ≡ false = rw (le-ltb count (0 + count) (omega arith)) (and_right (leb 0 count) false refl) in
    rw (t, eq-eqb count count refl) refl

stops_at : (count s : ℕ) → s ≤ count → front_lasts count s ≡ [] ∷ []
stops_at count s h =
    cond-true (is_within 0 (count + 1) s) ([] ∷ []) [] (rw (le-leb 0 s (omega arith), lt-ltb s (0 + (count + 1)) (omega arith)) refl)

front_function : (count from : ℕ) (rest : Bool) → IsFunction (front_rows count from rest) (front_lasts count) (λ s. s ≤ count) (λ s text. pick count from rest s text)
front_function count from rest =
    record {
      stop = λ s v. ([], stops_at count s v, refl);
      step = λ s byte v h. elim (cases_lt s count) [
        | inl l ↦ (
          count_turn from s byte,
          front_below count from rest s byte l,
          omega arith,
          λ text. put_keep (leb from s) byte (pick count from rest (s + 1) text)
              ∙ sym (cond-true (ltb s count) (keep (leb from s) byte (pick count from rest (s + 1) text)) (keep rest byte (pick count from rest s text)) (lt-ltb s count l)),
        )
        | inr l ↦
            let e : count ≡ s = omega arith in (
              (count, copy_if rest),
              ap (λ (n : ℕ). front_rows count from rest n byte) (sym e) ∙ front_last count from rest byte,
              omega arith,
              λ text. put_keep rest byte (pick count from rest count text) ∙ ap (λ (n : ℕ). keep rest byte (pick count from rest n text)) e
                  ∙ sym (cond-false (ltb s count) (keep (leb from s) byte (pick count from rest (s + 1) text)) (keep rest byte (pick count from rest s text)) (le-ltb s count l)),
            )
      ];
    }

-- the rest from a start on
pick_rest : (start s : ℕ) (text : List ℕ) → s ≤ start → pick start start true s text ≡ drop (start - s) text
pick_rest start s [] h = sym (drop-nil (start - s))
pick_rest start s (b ∷ text) h = elim (cases_lt s start) [
  | inl l ↦
      let d : start - s ≡ suc (start - (s + 1)) = omega arith in
      rw (lt-ltb s start l, lt-leb start s l) (pick_rest start (s + 1) text (omega arith) ∙ sym (drop_cons (start - s) (start - (s + 1)) b text d))
  | inr l ↦
      let z : start - s ≡ 0 = omega arith in
      rw (le-ltb s start l) (ap (λ (x : List ℕ). b ∷ x) (pick_rest start s text h ∙ drop_zero (start - s) text z) ∙ sym (drop_zero (start - s) (b ∷ text) z))
]

-- the next bytes
pick_next : (start len s : ℕ) (text : List ℕ) → start ≤ s → s ≤ start + len → pick (start + len) start false s text ≡ take (start + len - s) text
pick_next start len s [] l h = sym (take_nil (start + len - s))
pick_next start len s (b ∷ text) l h = elim (cases_lt s (start + len)) [
  | inl m ↦
      let d : start + len - s ≡ suc (start + len - (s + 1)) = omega arith in
      rw (lt-ltb s (start + len) m, le-leb start s l) (ap (λ (x : List ℕ). b ∷ x) (pick_next start len (s + 1) text (omega arith) (omega arith)) ∙ sym (take_cons (start + len - s) (start + len - (s + 1)) b text d))
  | inr m ↦
      let z : start + len - s ≡ 0 = omega arith in
      rw (le-ltb s (start + len) m) (pick_next start len s text l h ∙ take_zero (start + len - s) text z ∙ sym (take_zero (start + len - s) (b ∷ text) z))
]

pick_part : (start len s : ℕ) (text : List ℕ) → s ≤ start → pick (start + len) start false s text ≡ take len (drop (start - s) text)
pick_part start len s [] h = sym (ap (take len) (drop-nil (start - s)) ∙ take_nil len)
pick_part start len s (b ∷ text) h = elim (cases_lt s start) [
  | inl l ↦
      let d : start - s ≡ suc (start - (s + 1)) = omega arith in
      rw (lt-ltb s (start + len) (omega arith), lt-leb start s l) (pick_part start len (s + 1) text (omega arith) ∙ ap (take len) (sym (drop_cons (start - s) (start - (s + 1)) b text d)))
  | inr l ↦
      let z : start - s ≡ 0 = omega arith in
      let k : start + len - s ≡ len = omega arith in
      pick_next start len s (b ∷ text) (omega arith) (omega arith) ∙ ap (λ (n : ℕ). take n (b ∷ text)) k ∙ ap (take len) (sym (drop_zero (start - s) (b ∷ text) z))
]

short_copy : (most : ℕ) (copied : Bool) → 1 ≤ most → IsShort most (copy_if copied)
short_copy most true h = (refl, h)
short_copy most false h = short_nothing most

front_small : (count from : ℕ) (rest : Bool) (most : ℕ) → 1 ≤ most → AreSmall (front_rows count from rest) (front_lasts count) most
front_small count from rest most h =
    let P : ℕ × List Out → Type 0 = λ q. IsShort most q.1 in
    record {
      few = λ s byte.
          let a : List (ℕ × List Out) = cond (is_within 0 count s) (count_turn from (s - 0) byte ∷ []) [] in
          let b : List (ℕ × List Out) = cond (count == s) ((count, copy_if rest) ∷ []) [] in
          omega (arith, length-append a b, few_part (is_within 0 count s) (count_turn from (s - 0) byte), few_part {X = ℕ × List Out} (count == s) (count, copy_if rest));
      moves = λ s byte.
          All-append P (cond (is_within 0 count s) (count_turn from (s - 0) byte ∷ []) []) (cond (count == s) ((count, copy_if rest) ∷ []) [])
          (all_part P (is_within 0 count s) (count_turn from (s - 0) byte) (λ q. short_copy most (leb from (s - 0)) h)) (all_part P (count == s) (count, copy_if rest) (λ q. short_copy most rest h));
      ends = λ s. all_part (IsShort most) (is_within 0 (count + 1) s) [] (λ q. short_nothing most);
    }

pub rest_is_machine : (table : Table) (start : ℕ) → IsListed table (start + 1) (front_rows start start true) (front_lasts start) → IsMachine table start (λ input output. output ≡ part_of input (pos start) None)
rest_is_machine table start listed =
    listed_machine table (start + 1) (front_rows start start true) (front_lasts start) start (λ input output. output ≡ part_of input (pos start) None) listed (front_small start start true (start + 8) (omega arith)) (omega arith)
    (λ input output bytes.
    let f = follows_function (front_rows start start true) (front_lasts start) (λ s. s ≤ start) (λ s text. pick start start true s text) (front_function start start true) 0 (omega arith) input output bytes in
    let z : start - 0 ≡ start = omega arith in
    let e : pick start start true 0 input ≡ part_of input (pos start) None = pick_rest start 0 input (omega arith) ∙ ap (λ (n : ℕ). drop n input) z ∙ sym (take_rest input start) in
    (λ h. f.0 h ∙ e, λ h. f.1 (h ∙ sym e)))

pub next_is_machine : (table : Table) (start len : ℕ) → IsListed table (start + len + 1) (front_rows (start + len) start false) (front_lasts (start + len)) → IsMachine table (start + len) (λ input output. output ≡ part_of input (pos start) (Some (pos len)))
next_is_machine table start len listed =
    listed_machine table (start + len + 1) (front_rows (start + len) start false) (front_lasts (start + len)) (start + len) (λ input output. output ≡ part_of input (pos start) (Some (pos len))) listed (front_small (start + len) start false (start + len + 8) (omega arith)) (omega arith)
    (λ input output bytes.
    let f = follows_function (front_rows (start + len) start false) (front_lasts (start + len)) (λ s. s ≤ start + len) (λ s text. pick (start + len) start false s text) (front_function (start + len) start false) 0 (omega arith) input output bytes in
    let z : start - 0 ≡ start = omega arith in
    let k : len ≡ start + len - start = omega arith in
    let e : pick (start + len) start false 0 input ≡ part_of input (pos start) (Some (pos len)) = pick_part start len 0 input (omega arith) ∙ ap (λ (n : ℕ). take len (drop n input)) z ∙ ap (λ (n : ℕ). take n (drop start input)) k in
    (λ h. f.0 h ∙ e, λ h. f.1 (h ∙ sym e)))

-- the states that count are added, and so are those that count down, and the ends
pub counts_none : (old : List TableMove) (base : ℕ) (by : ℕ → ℕ → ℕ × List Out) → AddsSearch old old base 0 by
counts_none old base by s byte = rw (within_none base s) (sym (append-nil (choices old s byte)))

pub stops_none : (old : List TableEnd) → AddsStops old old 0
stops_none old s = rw (within_none 0 s) (sym (append-nil (stops old s)))

and_true : (b : Bool) → (b && true) ≡ b
and_true true = refl
and_true false = refl

pub stops_more : (old mid new : List TableEnd) (count own : ℕ) → own ≡ count → AddsStops old mid count → AddsStop mid new own → AddsStops old new (count + 1)
stops_more old mid new count own e before adds s =
    let one : stops new s ≡ stops mid s ++ cond (own == s && true) ([] ∷ []) [] = adds s ∙ ap (λ (b : Bool). stops mid s ++ cond b ([] ∷ []) []) (sym (and_true (own == s))) in
    let was : stops mid s ≡ stops old s ++ cond (is_within 0 count s && true) ([] ∷ []) [] = before s ∙ ap (λ (b : Bool). stops old s ++ cond b ([] ∷ []) []) (sym (and_true (is_within 0 count s))) in
    let own_is : own ≡ 0 + count = omega arith in
    one ∙ ap (λ (x : List (List Out)). x ++ cond (own == s && true) ([] ∷ []) []) was ∙ state_more 0 count own s true ([] ∷ []) ([] ∷ []) (stops old s) own_is (λ q. refl)
    ∙ ap (λ (b : Bool). stops old s ++ cond b ([] ∷ []) []) (and_true (is_within 0 (count + 1) s))

two_parts : {X : Type 0} (byte a b : Bool) (us vs : List X) → ([] ++ cond (a && byte) us []) ++ cond (b && byte) vs [] ≡ cond byte (cond a us [] ++ cond b vs []) []
two_parts true a b us vs = rw (and_true a, and_true b) refl
two_parts false a b us vs = rw (and_right a false refl, and_right b false refl) refl

pub front_listed : (table : Table) (count from : ℕ) (rest : Bool) (t0 t1 : List TableMove) (e0 : List TableEnd) → table.states ≡ count + 1 → table.start ≡ 0 → t0 ≡ [] → AddsSearch t0 t1 0 count (count_turn from) → AddsTurns t1 table.moves.items count (λ byte. (count, copy_if rest)) → e0 ≡ [] → AddsStops e0 table.ends.items (count + 1) → IsListed table (count + 1) (front_rows count from rest) (front_lasts count)
front_listed table count from rest t0 t1 e0 states start z a b y f =
    record {
      count = states;
      start = start;
      moves = λ s byte.
          let az : choices t0 s byte ≡ [] = ap (λ (x : List TableMove). choices x s byte) z in
          rw (b s byte, a s byte, az) (two_parts (ltb byte 256) (is_within 0 count s) (count == s) (count_turn from (s - 0) byte ∷ []) ((count, copy_if rest) ∷ []));
      ends = λ s. let ez : stops e0 s ≡ [] = ap (λ (x : List TableEnd). stops x s) y in rw (f s, ez) refl;
    }

-- six parts
six_parts : {X : Type 0} (byte a b c d e f : Bool) (us vs xs ys zs ws : List X) → ((((([] ++ cond (a && byte) us []) ++ cond (b && byte) vs []) ++ cond (c && byte) xs []) ++ cond (d && byte) ys []) ++ cond (e && byte) zs []) ++ cond (f && byte) ws [] ≡ cond byte (((((cond a us [] ++ cond b vs []) ++ cond c xs []) ++ cond d ys []) ++ cond e zs []) ++ cond f ws []) []
six_parts true a b c d e f us vs xs ys zs ws = rw (and_true a, and_true b, and_true c, and_true d, and_true e, and_true f) refl
six_parts false a b c d e f us vs xs ys zs ws =
    rw (and_right a false refl, and_right b false refl, and_right c false refl, and_right d false refl, and_right e false refl, and_right f false refl) refl

pub inner_listed : (table : Table) (start last : ℕ) (t0 t1 t2 t3 t4 t5 : List TableMove) (e0 e1 : List TableEnd) → table.states ≡ start + last + last + 3 → table.start ≡ 0 → t0 ≡ [] → AddsSearch t0 t1 0 (start + last) (count_turn (start + last)) → AddsTurns t1 t2 start (λ byte. (middle_of (start + last), Same ∷ [])) → AddsTurns t2 t3 start (λ byte. (left_of (start + last) + last, Same ∷ [])) → AddsTurns t3 t4 (middle_of (start + last)) (λ byte. (middle_of (start + last), Same ∷ [])) → AddsTurns t4 t5 (middle_of (start + last)) (λ byte. (left_of (start + last) + last, Same ∷ [])) → AddsSearch t5 table.moves.items (left_of (start + last) + 1) last (down_turn (left_of (start + last))) → e0 ≡ [] → AddsStops e0 e1 (start + last + 1) → AddsStop e1 table.ends.items (left_of (start + last)) → IsListed table (start + last + last + 3) (inner_rows start last) (inner_lasts start last)
inner_listed table start last t0 t1 t2 t3 t4 t5 e0 e1 states begins z a b c d e f y g h =
    let count : ℕ = start + last in
    record {
      count = states;
      start = begins;
      moves = λ s byte.
          let az : choices t0 s byte ≡ [] = ap (λ (x : List TableMove). choices x s byte) z in
          rw (f s byte, e s byte, d s byte, c s byte, b s byte, a s byte, az)
          (six_parts (ltb byte 256) (is_within 0 count s) (start == s) (start == s) (middle_of count == s) (middle_of count == s) (is_within (left_of count + 1) last s) (count_turn count (s - 0) byte ∷ []) ((middle_of count, Same ∷ []) ∷ []) ((left_of count + last, Same ∷ []) ∷ []) ((middle_of count, Same ∷ []) ∷ []) ((left_of count + last, Same ∷ []) ∷ []) (down_turn (left_of count) (s - (left_of count + 1)) byte ∷ []));
      ends = λ s. let ez : stops e0 s ≡ [] = ap (λ (x : List TableEnd). stops x s) y in rw (h s, g s, ez) refl;
    }

-- the rows of each kind of state; `count` is `start + last`, and `last` is at least 1
within_yes : (base count s : ℕ) → base ≤ s → s < base + count → is_within base count s ≡ true
within_yes base count s l h = rw (le-leb base s l, lt-ltb s (base + count) h) refl

within_under : (base count s : ℕ) → s < base → is_within base count s ≡ false
within_under base count s h = rw (lt-leb base s h) refl

within_over : (base count s : ℕ) → base + count ≤ s → is_within base count s ≡ false
within_over base count s h = rw (le-ltb s (base + count) h) (and_right (leb base s) false refl)

counted : (count s byte : ℕ) → s < count → count_turn count (s - 0) byte ≡ (s + 1, [])
counted count s byte h =
    let e : s - 0 ≡ s = omega arith in
    ap (λ (n : ℕ). count_turn count n byte) e ∙ rw (lt-leb count s h) refl

row_count : (start last s byte : ℕ) → s < start + last → (start ≡ s → ⊥) → inner_rows start last s byte ≡ (s + 1, []) ∷ []
row_count start last s byte h ne =
    rw (within_yes 0 (start + last) s (omega arith) (omega arith), ne_eqb start s ne, ne_eqb (middle_of (start + last)) s (omega arith), within_under (left_of (start + last) + 1) last s (omega arith), counted (start + last) s byte h) refl

row_start : (start last byte : ℕ) → 0 < last → inner_rows start last start byte ≡ (start + 1, []) ∷ (middle_of (start + last), Same ∷ []) ∷ (left_of (start + last) + last, Same ∷ []) ∷ []
row_start start last byte h =
    rw (within_yes 0 (start + last) start (omega arith) (omega arith), eq-eqb start start refl, ne_eqb (middle_of (start + last)) start (omega arith), within_under (left_of (start + last) + 1) last start (omega arith), counted (start + last) start byte (omega arith)) refl

row_full : (start last byte : ℕ) → 0 < last → inner_rows start last (start + last) byte ≡ []
row_full start last byte h =
    rw (within_over 0 (start + last) (start + last) (omega arith), ne_eqb start (start + last) (omega arith), ne_eqb (middle_of (start + last)) (start + last) (omega arith), within_under (left_of (start + last) + 1) last (start + last) (omega arith)) refl

row_middle : (start last byte : ℕ) → inner_rows start last (middle_of (start + last)) byte ≡ (middle_of (start + last), Same ∷ []) ∷ (left_of (start + last) + last, Same ∷ []) ∷ []
row_middle start last byte =
    rw (within_over 0 (start + last) (middle_of (start + last)) (omega arith), ne_eqb start (middle_of (start + last)) (omega arith), eq-eqb (middle_of (start + last)) (middle_of (start + last)) refl, within_under (left_of (start + last) + 1) last (middle_of (start + last)) (omega arith)) refl

row_left : (start last r byte : ℕ) → r < last → inner_rows start last (left_of (start + last) + (r + 1)) byte ≡ (left_of (start + last) + r, []) ∷ []
row_left start last r byte h =
    let s : ℕ = left_of (start + last) + (r + 1) in
    let e : s - (left_of (start + last) + 1) ≡ r = omega arith in
    rw (within_over 0 (start + last) s (omega arith), ne_eqb start s (omega arith), ne_eqb (middle_of (start + last)) s (omega arith), within_yes (left_of (start + last) + 1) last s (omega arith) (omega arith)) (ap (λ (n : ℕ). down_turn (left_of (start + last)) n byte ∷ []) e)

row_none : (start last byte : ℕ) → inner_rows start last (left_of (start + last) + 0) byte ≡ []
row_none start last byte =
    rw (within_over 0 (start + last) (left_of (start + last) + 0) (omega arith), ne_eqb start (left_of (start + last) + 0) (omega arith), ne_eqb (middle_of (start + last)) (left_of (start + last) + 0) (omega arith), within_under (left_of (start + last) + 1) last (left_of (start + last) + 0) (omega arith)) refl

last_count : (start last s : ℕ) → s ≤ start + last → inner_lasts start last s ≡ [] ∷ []
last_count start last s h =
    rw (within_yes 0 (start + last + 1) s (omega arith) (omega arith), ne_eqb (left_of (start + last)) s (omega arith)) refl

last_middle : (start last : ℕ) → inner_lasts start last (middle_of (start + last)) ≡ []
last_middle start last =
    rw (within_over 0 (start + last + 1) (middle_of (start + last)) (omega arith), ne_eqb (left_of (start + last)) (middle_of (start + last)) (omega arith)) refl

last_left : (start last : ℕ) → inner_lasts start last (left_of (start + last) + 0) ≡ [] ∷ []
last_left start last =
    rw (within_over 0 (start + last + 1) (left_of (start + last) + 0) (omega arith), eq-eqb (left_of (start + last)) (left_of (start + last) + 0) (omega arith)) refl

last_more : (start last r : ℕ) → inner_lasts start last (left_of (start + last) + (r + 1)) ≡ []
last_more start last r =
    rw (within_over 0 (start + last + 1) (left_of (start + last) + (r + 1)) (omega arith), ne_eqb (left_of (start + last)) (left_of (start + last) + (r + 1)) (omega arith)) refl

no_rows : (rows : Rows) (lasts : Lasts) (s byte : ℕ) (text out : List ℕ) → rows s byte ≡ [] → Follows rows lasts s (byte ∷ text) out → ⊥
no_rows rows lasts s byte text out e h = none_in h.0 (subst (λ (x : List (ℕ × List Out)). Contains x h.0) e h.1)

-- what the machine follows from each kind of state
record FollowsInner (start last : ℕ) (text : List ℕ) : Type 0 where
  left : (r : ℕ) → r ≤ last → (out : List ℕ) → Follows (inner_rows start last) (inner_lasts start last) (left_of (start + last) + r) text out ↔ ((length text ≡ r) × (out ≡ []))
  middle : (out : List ℕ) → Follows (inner_rows start last) (inner_lasts start last) (middle_of (start + last)) text out ↔ ((last < length text) × (out ≡ take (length text - last) text))
  count : (i : ℕ) → i ≤ start + last → (out : List ℕ) → Follows (inner_rows start last) (inner_lasts start last) i text out ↔ (((i + length text ≤ start + last) × (out ≡ [])) ⊎ ((i ≤ start) × (start + last < i + length text) × (out ≡ take (i + length text - (start + last)) (drop (start - i) text))))

inner_end : (start last : ℕ) → 0 < last → FollowsInner start last []
inner_end start last z =
    let rows = inner_rows start last in
    let lasts = inner_lasts start last in
    record {
      left = left;
      middle = λ out. (
        λ f. absurd (ends_none rows lasts (middle_of (start + last)) out (last_middle start last) f),
        λ f. let h : last < 0 = f.0 in absurd (omega arith),
      );
      count = λ i h out.
          let e = ends_one rows lasts i [] out (last_count start last i h) in (
            λ f. inl (omega arith, sym (e.0 f)),
            λ f. elim f [
              | inl g ↦ e.1 (sym g.1)
              | inr g ↦ let k : start + last < i + 0 = g.1 in absurd (omega arith)
            ],
          );
    }
  where
    left : (r : ℕ) → r ≤ last → (out : List ℕ) → Follows (inner_rows start last) (inner_lasts start last) (left_of (start + last) + r) [] out ↔ ((0 ≡ r) × (out ≡ []))
    left zero h out =
        let e = ends_one (inner_rows start last) (inner_lasts start last) (left_of (start + last) + 0) [] out (last_left start last) in
        (λ f. (refl, sym (e.0 f)), λ f. e.1 (sym f.1))
    left (suc r) h out =
        let q : suc r ≡ r + 1 = omega arith in
        let none : inner_lasts start last (left_of (start + last) + suc r) ≡ [] = ap (λ (n : ℕ). inner_lasts start last (left_of (start + last) + n)) q ∙ last_more start last r in (
          λ f. absurd (ends_none (inner_rows start last) (inner_lasts start last) (left_of (start + last) + suc r) out none f),
          λ f. let k : 0 ≡ suc r = f.0 in absurd (omega arith),
        )

-- a byte in the middle
step_middle : (start last b : ℕ) (text out : List ℕ) → FollowsInner start last text → (((rest : List ℕ) × Follows (inner_rows start last) (inner_lasts start last) (middle_of (start + last)) text rest × (b ∷ rest ≡ out)) ⊎ ((rest : List ℕ) × Follows (inner_rows start last) (inner_lasts start last) (left_of (start + last) + last) text rest × (b ∷ rest ≡ out))) ↔ ((last < length (b ∷ text)) × (out ≡ take (length (b ∷ text) - last) (b ∷ text)))
step_middle start last b text out ih =
    let n : ℕ = length text in (
      λ f. elim f [
        | inl g ↦
            let m = (ih.middle g.0).0 g.1 in
            let l : last < n = m.0 in
            let d : length (b ∷ text) - last ≡ suc (n - last) = omega arith in
            (omega arith, sym g.2 ∙ ap (λ (x : List ℕ). b ∷ x) m.1 ∙ sym (take_cons (length (b ∷ text) - last) (n - last) b text d))
        | inr g ↦
            let m = (ih.left last (omega arith) g.0).0 g.1 in
            let l : n ≡ last = m.0 in
            let d : length (b ∷ text) - last ≡ suc 0 = omega arith in
            (omega arith, sym g.2 ∙ ap (λ (x : List ℕ). b ∷ x) m.1 ∙ sym (take_cons (length (b ∷ text) - last) 0 b text d))
      ],
      λ f.
          let h : last < length (b ∷ text) = f.0 in
          elim (cases_lt last n) [
            | inl l ↦
                let d : length (b ∷ text) - last ≡ suc (n - last) = omega arith in
                inl (take (n - last) text, (ih.middle (take (n - last) text)).1 (l, refl), sym (f.1 ∙ take_cons (length (b ∷ text) - last) (n - last) b text d))
            | inr l ↦
                let d : length (b ∷ text) - last ≡ suc 0 = omega arith in
                let e : n ≡ last = omega arith in
                inr ([], (ih.left last (omega arith) []).1 (e, refl), sym (f.1 ∙ take_cons (length (b ∷ text) - last) 0 b text d))
          ],
    )

-- a byte while the bytes are counted
step_count : (start last i b : ℕ) (text out : List ℕ) → i < start + last → FollowsInner start last text → ((rest : List ℕ) × Follows (inner_rows start last) (inner_lasts start last) (i + 1) text rest × ([] ++ rest ≡ out)) ↔ (((i + length (b ∷ text) ≤ start + last) × (out ≡ [])) ⊎ ((i < start) × (start + last < i + length (b ∷ text)) × (out ≡ take (i + length (b ∷ text) - (start + last)) (drop (start - i) (b ∷ text)))))
step_count start last i b text out h ih =
    let n : ℕ = length text in (
      λ f. elim ((ih.count (i + 1) (omega arith) f.0).0 f.1) [
        | inl g ↦ let l : i + 1 + n ≤ start + last = g.0 in inl (omega arith, sym f.2 ∙ g.1)
        | inr g ↦
            let l : i + 1 ≤ start = g.0 in
            let m : start + last < i + 1 + n = g.1 in
            let k : i + 1 + n - (start + last) ≡ i + length (b ∷ text) - (start + last) = omega arith in
            let d : start - i ≡ suc (start - (i + 1)) = omega arith in
            inr (omega arith, omega arith, sym f.2 ∙ g.2 ∙ ap (λ (x : ℕ). take x (drop (start - (i + 1)) text)) k ∙ ap (take (i + length (b ∷ text) - (start + last))) (sym (drop_cons (start - i) (start - (i + 1)) b text d)))
      ],
      λ f. (
        out,
        (ih.count (i + 1) (omega arith) out).1 (elim f [
          | inl g ↦ let l : i + length (b ∷ text) ≤ start + last = g.0 in inl (omega arith, g.1)
          | inr g ↦
              let l : i < start = g.0 in
              let m : start + last < i + length (b ∷ text) = g.1 in
              let k : i + 1 + n - (start + last) ≡ i + length (b ∷ text) - (start + last) = omega arith in
              let d : start - i ≡ suc (start - (i + 1)) = omega arith in
              inr (omega arith, omega arith, g.2 ∙ ap (take (i + length (b ∷ text) - (start + last))) (drop_cons (start - i) (start - (i + 1)) b text d) ∙ ap (λ (x : ℕ). take x (drop (start - (i + 1)) text)) (sym k))
        ]),
        refl,
      ),
    )

follows_three : (rows : Rows) (lasts : Lasts) (s byte : ℕ) (p q r : ℕ × List Out) (text out : List ℕ) → rows s byte ≡ p ∷ q ∷ r ∷ [] → Follows rows lasts s (byte ∷ text) out ↔ (((rest : List ℕ) × Follows rows lasts p.0 text rest × (map (byte_of byte) p.1 ++ rest ≡ out)) ⊎ (((rest : List ℕ) × Follows rows lasts q.0 text rest × (map (byte_of byte) q.1 ++ rest ≡ out)) ⊎ ((rest : List ℕ) × Follows rows lasts r.0 text rest × (map (byte_of byte) r.1 ++ rest ≡ out))))
follows_three rows lasts s byte p q r text out e = (
  λ h. elim (in_cons p (q ∷ r ∷ []) h.0 (subst (λ (x : List (ℕ × List Out)). Contains x h.0) e h.1)) [
    | inl one ↦ inl (h.2, subst (λ (x : ℕ × List Out). Follows rows lasts x.0 text h.2) one h.3, ap (λ (x : ℕ × List Out). map (byte_of byte) x.1 ++ h.2) (sym one) ∙ h.4)
    | inr c ↦ elim (in_cons q (r ∷ []) h.0 c) [
      | inl one ↦ inr (inl (h.2, subst (λ (x : ℕ × List Out). Follows rows lasts x.0 text h.2) one h.3, ap (λ (x : ℕ × List Out). map (byte_of byte) x.1 ++ h.2) (sym one) ∙ h.4))
      | inr d ↦
          let one : h.0 ≡ r = one_in r h.0 d in
          inr (inr (h.2, subst (λ (x : ℕ × List Out). Follows rows lasts x.0 text h.2) one h.3, ap (λ (x : ℕ × List Out). map (byte_of byte) x.1 ++ h.2) (sym one) ∙ h.4))
    ]
  ],
  λ h. elim h [
    | inl k ↦ (p, subst (λ (x : List (ℕ × List Out)). Contains x p) (sym e) (in_head p (q ∷ r ∷ [])), k.0, k.1, k.2)
    | inr g ↦ elim g [
      | inl k ↦ (q, subst (λ (x : List (ℕ × List Out)). Contains x q) (sym e) (in_tail p (q ∷ r ∷ []) q (in_head q (r ∷ []))), k.0, k.1, k.2)
      | inr k ↦ (r, subst (λ (x : List (ℕ × List Out)). Contains x r) (sym e) (in_tail p (q ∷ r ∷ []) r (in_tail q (r ∷ []) r (in_one r))), k.0, k.1, k.2)
    ]
  ],
)

inner_step : (start last b : ℕ) (text : List ℕ) → 0 < last → FollowsInner start last text → FollowsInner start last (b ∷ text)
inner_step start last b text z ih = record { left = left; middle = middle; count = count }
  where
    left : (r : ℕ) → r ≤ last → (out : List ℕ) → Follows (inner_rows start last) (inner_lasts start last) (left_of (start + last) + r) (b ∷ text) out ↔ ((length (b ∷ text) ≡ r) × (out ≡ []))
    left zero h out = (
      λ f. absurd (no_rows (inner_rows start last) (inner_lasts start last) (left_of (start + last) + 0) b text out (row_none start last b) f),
      λ f. let k : length (b ∷ text) ≡ 0 = f.0 in absurd (omega arith),
    )
    left (suc r) h out =
        let q : suc r ≡ r + 1 = omega arith in
        let row : inner_rows start last (left_of (start + last) + suc r) b ≡ (left_of (start + last) + r, []) ∷ [] = ap (λ (n : ℕ). inner_rows start last (left_of (start + last) + n) b) q ∙ row_left start last r b (omega arith) in
        let one = follows_one (inner_rows start last) (inner_lasts start last) (left_of (start + last) + suc r) b (left_of (start + last) + r, []) text out row in (
          λ f.
              let g = one.0 f in
              let m = (ih.left r (omega arith) g.0).0 g.1 in
              let l : length text ≡ r = m.0 in
              (omega arith, sym g.2 ∙ m.1),
          λ f.
              let l : length (b ∷ text) ≡ suc r = f.0 in
              let k : length text ≡ r = omega arith in
              one.1 (out, (ih.left r (omega arith) out).1 (k, f.1), refl),
        )

    middle : (out : List ℕ) → Follows (inner_rows start last) (inner_lasts start last) (middle_of (start + last)) (b ∷ text) out ↔ ((last < length (b ∷ text)) × (out ≡ take (length (b ∷ text) - last) (b ∷ text)))
    middle out =
        let two = follows_two (inner_rows start last) (inner_lasts start last) (middle_of (start + last)) b (middle_of (start + last), Same ∷ []) (left_of (start + last) + last, Same ∷ []) text out (row_middle start last b) in
        let m = step_middle start last b text out ih in
        (λ f. m.0 (two.0 f), λ f. two.1 (m.1 f))

    count : (i : ℕ) → i ≤ start + last → (out : List ℕ) → Follows (inner_rows start last) (inner_lasts start last) i (b ∷ text) out ↔ (((i + length (b ∷ text) ≤ start + last) × (out ≡ [])) ⊎ ((i ≤ start) × (start + last < i + length (b ∷ text)) × (out ≡ take (i + length (b ∷ text) - (start + last)) (drop (start - i) (b ∷ text)))))
    count i h out = elim (cases_eq i (start + last)) [
      | inl e ↦ (
        λ f. absurd (no_rows (inner_rows start last) (inner_lasts start last) i b text out (ap (λ (n : ℕ). inner_rows start last n b) e ∙ row_full start last b z) f),
        λ f. elim f [
          | inl g ↦ let k : i + length (b ∷ text) ≤ start + last = g.0 in absurd (omega arith)
          | inr g ↦ let k : i ≤ start = g.0 in absurd (omega arith)
        ],
      )
      | inr ne ↦
          let under : i < start + last = omega arith in
          let c = step_count start last i b text out under ih in
          elim (cases_eq start i) [
            | inl e ↦
                let row : inner_rows start last i b ≡ (i + 1, []) ∷ (middle_of (start + last), Same ∷ []) ∷ (left_of (start + last) + last, Same ∷ []) ∷ [] =
                ap (λ (n : ℕ). inner_rows start last n b) (sym e) ∙ row_start start last b z ∙ ap (λ (n : ℕ). (n + 1, []) ∷ (middle_of (start + last), Same ∷ []) ∷ (left_of (start + last) + last, Same ∷ []) ∷ []) e in
                let three = follows_three (inner_rows start last) (inner_lasts start last) i b (i + 1, []) (middle_of (start + last), Same ∷ []) (left_of (start + last) + last, Same ∷ []) text out row in
                let m = step_middle start last b text out ih in
                let d : start - i ≡ 0 = omega arith in
                let k : length (b ∷ text) - last ≡ i + length (b ∷ text) - (start + last) = omega arith in
                let same : take (length (b ∷ text) - last) (b ∷ text) ≡ take (i + length (b ∷ text) - (start + last)) (drop (start - i) (b ∷ text)) =
                ap (λ (x : ℕ). take x (b ∷ text)) k ∙ ap (take (i + length (b ∷ text) - (start + last))) (sym (drop_zero (start - i) (b ∷ text) d)) in (
                  λ f. elim (three.0 f) [
                    | inl g ↦ elim (c.0 g) [
                      | inl j ↦ inl j
                      | inr j ↦ let l : i < start = j.0 in absurd (omega arith)
                    ]
                    | inr g ↦
                        let j = m.0 g in
                        let l : last < length (b ∷ text) = j.0 in
                        inr (omega arith, omega arith, j.1 ∙ same)
                  ],
                  λ f. three.1 (elim f [
                    | inl j ↦ inl (c.1 (inl j))
                    | inr j ↦
                        let l : start + last < i + length (b ∷ text) = j.1 in
                        inr (m.1 (omega arith, j.2 ∙ sym same))
                  ]),
                )
            | inr other ↦
                let one = follows_one (inner_rows start last) (inner_lasts start last) i b (i + 1, []) text out (row_count start last i b under other) in (
                  λ f. elim (c.0 (one.0 f)) [
                    | inl j ↦ inl j
                    | inr j ↦ let l : i < start = j.0 in inr (omega arith, j.1, j.2)
                  ],
                  λ f. one.1 (c.1 (elim f [
                    | inl j ↦ inl j
                    | inr j ↦ let l : i ≤ start = j.0 in inr (omega arith, j.1, j.2)
                  ])),
                )
          ]
    ]

inner_follows : (start last : ℕ) (text : List ℕ) → 0 < last → FollowsInner start last text
inner_follows start last [] z = inner_end start last z
inner_follows start last (b ∷ text) z = inner_step start last b text z (inner_follows start last text z)

few_between : (start count last s : ℕ) → length (cond {A = List (ℕ × List Out)} (start == s) ((middle_of count, Same ∷ []) ∷ []) []) + length (cond {A = List (ℕ × List Out)} (start == s) ((left_of count + last, Same ∷ []) ∷ []) []) + (length (cond {A = List (ℕ × List Out)} (middle_of count == s) ((middle_of count, Same ∷ []) ∷ []) []) + length (cond {A = List (ℕ × List Out)} (middle_of count == s) ((left_of count + last, Same ∷ []) ∷ []) [])) ≤ 2 ⊎ (count < start)
few_between start count last s = elim (cases_eq start s) [
  | inl e ↦ elim (cases_lt count start) [
    | inl l ↦ inr l
    | inr l ↦ inl (rw (eq-eqb start s e, ne_eqb (middle_of count) s (omega arith)) (omega arith))
  ]
  | inr ne ↦ elim (cases_Bool (middle_of count == s)) [
    | inl t ↦ inl (rw (ne_eqb start s ne, t) (omega arith))
    | inr f ↦ inl (rw (ne_eqb start s ne, f) (omega arith))
  ]
]

inner_small : (start last most : ℕ) → 1 ≤ most → AreSmall (inner_rows start last) (inner_lasts start last) most
inner_small start last most h =
    let count : ℕ = start + last in
    let P : ℕ × List Out → Type 0 = λ q. IsShort most q.1 in
    let same : IsShort most (Same ∷ []) = (refl, h) in
    record {
      few = λ s byte.
          let a : List (ℕ × List Out) = cond (is_within 0 count s) (count_turn count (s - 0) byte ∷ []) [] in
          let b : List (ℕ × List Out) = cond (start == s) ((middle_of count, Same ∷ []) ∷ []) [] in
          let c : List (ℕ × List Out) = cond (start == s) ((left_of count + last, Same ∷ []) ∷ []) [] in
          let d : List (ℕ × List Out) = cond (middle_of count == s) ((middle_of count, Same ∷ []) ∷ []) [] in
          let e : List (ℕ × List Out) = cond (middle_of count == s) ((left_of count + last, Same ∷ []) ∷ []) [] in
          let f : List (ℕ × List Out) = cond (is_within (left_of count + 1) last s) (down_turn (left_of count) (s - (left_of count + 1)) byte ∷ []) [] in
          let la : length a ≤ 1 = few_part (is_within 0 count s) (count_turn count (s - 0) byte) in
          let lf : length f ≤ 1 = few_part (is_within (left_of count + 1) last s) (down_turn (left_of count) (s - (left_of count + 1)) byte) in
          let both : length b + length c + (length d + length e) ≤ 2 = elim (few_between start count last s) [ inl l ↦ l | inr l ↦ absurd (omega arith) ] in
          omega (arith, la, lf, both, length-append ((((a ++ b) ++ c) ++ d) ++ e) f, length-append (((a ++ b) ++ c) ++ d) e, length-append ((a ++ b) ++ c) d, length-append (a ++ b) c, length-append a b);
      moves = λ s byte.
          All-append P ((((cond (is_within 0 count s) (count_turn count (s - 0) byte ∷ []) [] ++ cond (start == s) ((middle_of count, Same ∷ []) ∷ []) []) ++ cond (start == s) ((left_of count + last, Same ∷ []) ∷ []) []) ++ cond (middle_of count == s) ((middle_of count, Same ∷ []) ∷ []) []) ++ cond (middle_of count == s) ((left_of count + last, Same ∷ []) ∷ []) []) (cond (is_within (left_of count + 1) last s) (down_turn (left_of count) (s - (left_of count + 1)) byte ∷ []) [])
          (All-append P (((cond (is_within 0 count s) (count_turn count (s - 0) byte ∷ []) [] ++ cond (start == s) ((middle_of count, Same ∷ []) ∷ []) []) ++ cond (start == s) ((left_of count + last, Same ∷ []) ∷ []) []) ++ cond (middle_of count == s) ((middle_of count, Same ∷ []) ∷ []) []) (cond (middle_of count == s) ((left_of count + last, Same ∷ []) ∷ []) [])
          (All-append P ((cond (is_within 0 count s) (count_turn count (s - 0) byte ∷ []) [] ++ cond (start == s) ((middle_of count, Same ∷ []) ∷ []) []) ++ cond (start == s) ((left_of count + last, Same ∷ []) ∷ []) []) (cond (middle_of count == s) ((middle_of count, Same ∷ []) ∷ []) [])
          (All-append P (cond (is_within 0 count s) (count_turn count (s - 0) byte ∷ []) [] ++ cond (start == s) ((middle_of count, Same ∷ []) ∷ []) []) (cond (start == s) ((left_of count + last, Same ∷ []) ∷ []) [])
          (All-append P (cond (is_within 0 count s) (count_turn count (s - 0) byte ∷ []) []) (cond (start == s) ((middle_of count, Same ∷ []) ∷ []) []) (all_part P (is_within 0 count s) (count_turn count (s - 0) byte) (λ q. short_copy most (leb count (s - 0)) h)) (all_part P (start == s) (middle_of count, Same ∷ []) (λ q. same)))
          (all_part P (start == s) (left_of count + last, Same ∷ []) (λ q. same)))
          (all_part P (middle_of count == s) (middle_of count, Same ∷ []) (λ q. same)))
          (all_part P (middle_of count == s) (left_of count + last, Same ∷ []) (λ q. same)))
          (all_part P (is_within (left_of count + 1) last s) (down_turn (left_of count) (s - (left_of count + 1)) byte) (λ q. short_nothing most));
      ends = λ s.
          All-append (IsShort most) (cond (is_within 0 (start + last + 1) s) ([] ∷ []) []) (cond (left_of (start + last) == s) ([] ∷ []) []) (all_part (IsShort most) (is_within 0 (start + last + 1) s) [] (λ q. short_nothing most)) (all_part (IsShort most) (left_of (start + last) == s) [] (λ q. short_nothing most));
    }

pub inner_is_machine : (table : Table) (start below : ℕ) → IsListed table (start + (below + 1) + (below + 1) + 3) (inner_rows start (below + 1)) (inner_lasts start (below + 1)) → IsMachine table (start + (below + 1)) (λ input output. output ≡ part_of input (pos start) (Some (negsuc below)))
inner_is_machine table start below listed =
    let last : ℕ = below + 1 in
    listed_machine table (start + last + last + 3) (inner_rows start last) (inner_lasts start last) (start + last) (λ input output. output ≡ part_of input (pos start) (Some (negsuc below))) listed (inner_small start last (start + last + 8) (omega arith)) (omega arith)
    (λ input output bytes.
    let f = (inner_follows start last input (omega arith)).count 0 (omega arith) output in
    let n : ℕ = length input in
    let z : start - 0 ≡ start = omega arith in
    let k : 0 + n - (start + last) ≡ n - suc below - start = omega arith in
    let same : take (0 + n - (start + last)) (drop (start - 0) input) ≡ part_of input (pos start) (Some (negsuc below)) = ap (λ (x : ℕ). take (0 + n - (start + last)) (drop x input)) z ∙ ap (λ (x : ℕ). take x (drop start input)) k in (
      λ h. elim (f.0 h) [
        | inl g ↦
            let l : 0 + n ≤ start + last = g.0 in
            let e : n - suc below - start ≡ 0 = omega arith in
            g.1 ∙ sym (take_zero (n - suc below - start) (drop start input) e)
        | inr g ↦ g.2 ∙ same
      ],
      λ h. f.1 (elim (cases_lt (start + last) n) [
        | inl l ↦ inr (omega arith, omega arith, h ∙ sym same)
        | inr l ↦
            let e : n - suc below - start ≡ 0 = omega arith in
            inl (omega arith, h ∙ take_zero (n - suc below - start) (drop start input) e)
      ]),
    ))

below_zero : (n : ℤ) → lt_z n (pos 0) ≡ is_negative n
below_zero (pos n) = le-ltb n 0 (omega arith)
below_zero (negsuc n) = refl

pub is_below : (n seen : ℤ) (answer : Bool) → seen ≡ n → answer ≡ lt_z seen (pos 0) → answer ≡ is_negative n
is_below n seen answer e h = h ∙ ap (λ (x : ℤ). lt_z x (pos 0)) e ∙ below_zero n

front_known : (r : Result Table NoMemory) (start : ℤ) (len : Option ℤ) (n : ℕ) → n ≡ nat_abs start → is_negative start ≡ false → IfOk r (λ t. IsMachine t (n + size_of_length len) (λ input output. output ≡ part_of input (pos n) len)) → IfOk r (λ t. IsMachine t (nat_abs start + size_of_length len) (λ input output. output ≡ part_of input start len))
front_known r (pos k) len n q neg h = subst (λ (x : ℕ). IfOk r (λ t. IsMachine t (x + size_of_length len) (λ input output. output ≡ part_of input (pos x) len))) q h
front_known r (negsuc k) len n q neg h = absurd (false≢true (sym neg))

back_known : (r : Result Table NoMemory) (start : ℤ) (len : Option ℤ) (n : ℕ) → n ≡ nat_abs start → is_negative start ≡ true → IfOk r (λ t. IsMachine t (n - 1 + 1 + size_of_length len) (λ input output. output ≡ part_of input (negsuc (n - 1)) len)) → IfOk r (λ t. IsMachine t (nat_abs start + size_of_length len) (λ input output. output ≡ part_of input start len))
back_known r (pos k) len n q neg h = absurd (false≢true neg)
back_known r (negsuc k) len n q neg h =
    let e : n - 1 ≡ k = omega (arith, q) in
    let f : k + 1 + size_of_length len ≡ suc k + size_of_length len = omega arith in
    subst (λ (x : ℕ). IfOk r (λ t. IsMachine t x (λ input output. output ≡ part_of input (negsuc k) len))) f
    (subst (λ (x : ℕ). IfOk r (λ t. IsMachine t (x + 1 + size_of_length len) (λ input output. output ≡ part_of input (negsuc x) len))) e h)

-- a start that is not negative, and one that is
pub front_of : (r : Result Table NoMemory) (start seen : ℤ) (len : Option ℤ) (n : ℕ) (answer : Bool) → seen ≡ start → n ≡ nat_abs seen → answer ≡ is_negative seen → answer ≡ false → IfOk r (λ t. IsMachine t (n + size_of_length len) (λ input output. output ≡ part_of input (pos n) len)) → IfOk r (λ t. IsMachine t (nat_abs start + size_of_length len) (λ input output. output ≡ part_of input start len))
front_of r start seen len n answer e f g a h = front_known r start len n (f ∙ ap nat_abs e) (ap is_negative (sym e) ∙ sym g ∙ a) h

pub back_of : (r : Result Table NoMemory) (start seen : ℤ) (len : Option ℤ) (n : ℕ) (answer : Bool) → seen ≡ start → n ≡ nat_abs seen → answer ≡ is_negative seen → answer ≡ true → IfOk r (λ t. IsMachine t (n - 1 + 1 + size_of_length len) (λ input output. output ≡ part_of input (negsuc (n - 1)) len)) → IfOk r (λ t. IsMachine t (nat_abs start + size_of_length len) (λ input output. output ≡ part_of input start len))
back_of r start seen len n answer e f g a h = back_known r start len n (f ∙ ap nat_abs e) (ap is_negative (sym e) ∙ sym g ∙ a) h

-- no length, a length that is negative, and one that is not
pub no_length : (r : Result Table NoMemory) (start : ℕ) (len : Option ℤ) (answer : Bool) → answer ≡ is_all len → answer ≡ true → IfOk r (λ t. IsMachine t start (λ input output. output ≡ part_of input (pos start) None)) → IfOk r (λ t. IsMachine t (start + size_of_length len) (λ input output. output ≡ part_of input (pos start) len))
no_length r start None answer e f h =
    let z : start ≡ start + 0 = omega arith in
    subst (λ (x : ℕ). IfOk r (λ t. IsMachine t x (λ input output. output ≡ part_of input (pos start) None))) z h
no_length r start (Some len) answer e f h = absurd (false≢true (sym e ∙ f))

pub early_length : (r : Result Table NoMemory) (start : ℕ) (len : Option ℤ) (n : ℕ) (answer : Bool) → n ≡ size_of_length len → answer ≡ is_early len → answer ≡ true → IfOk r (λ t. IsMachine t (start + (n - 1 + 1)) (λ input output. output ≡ part_of input (pos start) (Some (negsuc (n - 1))))) → IfOk r (λ t. IsMachine t (start + size_of_length len) (λ input output. output ≡ part_of input (pos start) len))
early_length r start None n answer q e f h = absurd (false≢true (sym e ∙ f))
early_length r start (Some (pos k)) n answer q e f h = absurd (false≢true (sym e ∙ f))
early_length r start (Some (negsuc k)) n answer q e f h =
    let z : n - 1 ≡ k = omega (arith, q) in
    let y : start + (k + 1) ≡ start + suc k = omega arith in
    subst (λ (x : ℕ). IfOk r (λ t. IsMachine t x (λ input output. output ≡ part_of input (pos start) (Some (negsuc k))))) y
    (subst (λ (x : ℕ). IfOk r (λ t. IsMachine t (start + (x + 1)) (λ input output. output ≡ part_of input (pos start) (Some (negsuc x))))) z h)

pub plain_length : (r : Result Table NoMemory) (start : ℕ) (len : Option ℤ) (n : ℕ) (all early : Bool) → n ≡ size_of_length len → all ≡ is_all len → all ≡ false → early ≡ is_early len → early ≡ false → IfOk r (λ t. IsMachine t (start + n) (λ input output. output ≡ part_of input (pos start) (Some (pos n)))) → IfOk r (λ t. IsMachine t (start + size_of_length len) (λ input output. output ≡ part_of input (pos start) len))
plain_length r start None n all early q e f g a h = absurd (false≢true (sym f ∙ e))
plain_length r start (Some (negsuc k)) n all early q e f g a h = absurd (false≢true (sym a ∙ g))
plain_length r start (Some (pos k)) n all early q e f g a h = subst (λ (x : ℕ). IfOk r (λ t. IsMachine t (start + x) (λ input output. output ≡ part_of input (pos start) (Some (pos x))))) q h

-- a negative length is not 0
pub early_above : (len : Option ℤ) (n : ℕ) (answer : Bool) → n ≡ size_of_length len → answer ≡ is_early len → answer ≡ true → 0 < n
early_above None n answer f g a = absurd (false≢true (sym g ∙ a))
early_above (Some (pos k)) n answer f g a = absurd (false≢true (sym g ∙ a))
early_above (Some (negsuc k)) n answer f g a = omega (arith, f)

-- a negative number is not 0
pub above_zero : (seen : ℤ) (n : ℕ) (answer : Bool) → n ≡ nat_abs seen → answer ≡ is_negative seen → answer ≡ true → 0 < n
above_zero (pos k) n answer f g a = absurd (false≢true (sym g ∙ a))
above_zero (negsuc k) n answer f g a = omega (arith, f)
