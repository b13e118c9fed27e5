-- The machine that replaces a pattern follows `replaced_text`.
use Rattle.std.proofs.Common.{◌≡◌, ◌==◌, ℕ, zero, suc, ◌+◌, ◌-◌, ◌*◌, ◌<◌, ◌≤◌, ◌↔◌, ◌⊎◌, inl, inr, Bool, true, false, IsTrue, List, [], ◌∷◌, ◌++◌, length, take, drop, map, All, cond, refl, sym, ◌∙◌, ap, subst, arith, append-nil, append_assoc, Result, IfOk}
use Rattle.std.proofs.lemmas.Bool.{cases_Bool, cases_eq, cases_lt, eq-eqb, ne_eqb, lt-ltb, le-ltb, le-leb, cond-true}
use Rattle.text_base.specs.declared.memory.NoMemory.{NoMemory}
use Rattle.std.proofs.lemmas.List.{nil_from_length, length-map, length-take, length-take-le, length-append}
use Rattle.std.proofs.lemmas.List.Elements.{All-cons, All-nil, All-same}
use Rattle.std.specs.List.{list_all}
use Rattle.string_functions.specs.Pieces.{replaced_text}
use Rattle.string_functions.proofs.PiecesLaws.{replaced_text-occurrence, replaced_text-nil}
use Rattle.fst_core.specs.declared.out.Out.{Out}
use Rattle.fst_core.specs.declared.out.Out.TheVariants.{Same, Byte}
use Rattle.fst_core.specs.declared.table.Table.{Table}
use Rattle.string_ops.specs.Listed.{byte_of, is_plain, Follows, IsShort, AreSmall, AreBytes, IsListed, IsMachine}
use Rattle.string_functions.specs.Failure.{next_length}
use Rattle.string_ops.specs.Search.{let_go, turn, turn_by, is_within}
use Rattle.string_ops.specs.Replace.{replace_rows, replace_lasts}
use Rattle.string_functions.proofs.BorderLemmas.{IsNext, next_is}
use Rattle.string_ops.proofs.OccurrenceLemmas.{NoneIn, replaced_front, none_short, none_gone, gone, read_splits, whole_read, put_bytes, put_gone}
use Rattle.string_ops.proofs.ListedLemmas.{IsFunction, follows_function, listed_machine}

within_zero : (n s : ℕ) → s < n → is_within 0 n s ≡ true
within_zero n s h = rw (le-leb 0 s (omega arith), lt-ltb s (0 + n) (omega arith)) refl

within_past : (n s : ℕ) → n ≤ s → is_within 0 n s ≡ false
within_past n s h = rw (le-leb 0 s (omega arith), le-ltb s (0 + n) (omega arith)) refl

less_zero : (s : ℕ) → s - 0 ≡ s
less_zero s = omega arith

rows_at : (p with : List ℕ) (s byte : ℕ) → s < length p → replace_rows p with s byte ≡ turn_by p 0 (0, map Byte with) true s byte ∷ []
rows_at p with s byte h =
    cond-true (is_within 0 (length p) s) (turn_by p 0 (0, map Byte with) true (s - 0) byte ∷ []) [] (within_zero (length p) s h)
    ∙ ap (λ (k : ℕ). turn_by p 0 (0, map Byte with) true k byte ∷ []) (less_zero s)

lasts_at : (p : List ℕ) (s : ℕ) → s < length p → replace_lasts p s ≡ map Byte (take s p) ∷ []
lasts_at p s h =
    cond-true (is_within 0 (length p) s) (map Byte (take (s - 0) p) ∷ []) [] (within_zero (length p) s h)
    ∙ ap (λ (k : ℕ). map Byte (take k p) ∷ []) (less_zero s)

-- where the machine goes, by the two cases
turn_full : (p with : List ℕ) (at part : ℕ) → part ≡ length p → turn p 0 (0, map Byte with) true at part ≡ (0, map Byte with)
turn_full p with at part e = rw (eq-eqb part (length p) e) refl

turn_less : (p with : List ℕ) (at part : ℕ) → (part ≡ length p → ⊥) → turn p 0 (0, map Byte with) true at part ≡ (0 + part, let_go p at part)
turn_less p with at part ne = rw (ne_eqb part (length p) ne) refl

next_most : (p : List ℕ) (at byte : ℕ) → at < length p → next_length p at byte ≤ length p
next_most p at byte h = let w = (next_is p at byte h).within in omega (arith, w)

replace_valid : (p with : List ℕ) (at byte : ℕ) → 0 < length p → at < length p → (turn_by p 0 (0, map Byte with) true at byte).0 < length p
replace_valid p with at byte z h =
    let part = next_length p at byte in
    let most = next_most p at byte h in
    elim (cases_eq part (length p)) [
      | inl e ↦ rw (turn_full p with at part e) z
      | inr ne ↦ rw (turn_less p with at part ne) (omega (arith, most))
    ]

-- one step of the machine is one step of replacing
replace_step : (c : ℕ) (search with : List ℕ) (at byte : ℕ) (text : List ℕ) → at < length (c ∷ search) → map (byte_of byte) (turn_by (c ∷ search) 0 (0, map Byte with) true at byte).1 ++ replaced_text (c ∷ search) with (take (turn_by (c ∷ search) 0 (0, map Byte with) true at byte).0 (c ∷ search) ++ text) ≡ replaced_text (c ∷ search) with (take at (c ∷ search) ++ byte ∷ text)
replace_step c search with at byte text h =
    let p : List ℕ = c ∷ search in
    let part = next_length p at byte in
    let is : IsNext p at byte part = next_is p at byte h in
    let most = next_most p at byte h in
    let whole : take at p ++ byte ∷ text ≡ (take at p ++ byte ∷ []) ++ text = sym (append_assoc (take at p) (byte ∷ []) text) in
    elim (cases_eq part (length p)) [
      | inl e ↦
          let full : IsNext p at byte (length p) = subst (λ (n : ℕ). IsNext p at byte n) e is in
          let read : take at p ++ byte ∷ [] ≡ p = whole_read p at byte h full in
          rw (turn_full p with at part e) (
          ap (λ (x : List ℕ). x ++ replaced_text p with text) (put_bytes byte with)
          ∙ sym (replaced_text-occurrence c search with text) ∙ ap (λ (x : List ℕ). replaced_text p with (x ++ text)) (sym read) ∙ ap (replaced_text p with) (sym whole)
          )
      | inr ne ↦
          let less : part < length p = omega (arith, most) in
          let none : NoneIn p (gone p at byte part) (take part p ++ text) = none_gone p at byte part text h is less in
          let zero_part : 0 + part ≡ part = omega arith in
          rw (turn_less p with at part ne, zero_part) (
          ap (λ (x : List ℕ). x ++ replaced_text p with (take part p ++ text)) (put_gone p at byte part h is.within)
          ∙ sym (replaced_front c search with (gone p at byte part) (take part p ++ text) none)
          ∙ ap (replaced_text p with) (sym (append_assoc (gone p at byte part) (take part p) text) ∙ ap (λ (x : List ℕ). x ++ text) (sym (read_splits p at byte part is.ends)) ∙ sym whole)
          )
    ]

replace_function : (c : ℕ) (search with : List ℕ) → IsFunction (replace_rows (c ∷ search) with) (replace_lasts (c ∷ search)) (λ s. s < length (c ∷ search)) (λ s text. replaced_text (c ∷ search) with (take s (c ∷ search) ++ text))
replace_function c search with =
    let p : List ℕ = c ∷ search in
    record {
      stop = λ s v. (
        map Byte (take s p),
        lasts_at p s v,
        put_bytes 0 (take s p) ∙ sym (replaced_front c search with (take s p) [] (none_short p s v) ∙ append-nil (take s p)),
      );
      step = λ s byte v h. (
        turn_by p 0 (0, map Byte with) true s byte,
        rows_at p with s byte v,
        replace_valid p with s byte (omega arith) v,
        λ text. replace_step c search with s byte text v,
      );
    }

plain_bytes : (xs : List ℕ) → IsTrue (list_all is_plain (map Byte xs))
plain_bytes [] = refl
plain_bytes (x ∷ xs) = plain_bytes xs

pub short_bytes : (most : ℕ) (xs : List ℕ) → length xs ≤ most → IsShort most (map Byte xs)
short_bytes most xs h = (plain_bytes xs, omega (arith, length-map xs (λ (x : ℕ). Byte x)))

plain_go : (xs : List ℕ) → IsTrue (list_all is_plain (map Byte xs ++ Same ∷ []))
plain_go [] = refl
plain_go (x ∷ xs) = plain_go xs

pub short_go : (most : ℕ) (p : List ℕ) (at part : ℕ) → at < length p → length p ≤ most → IsShort most (let_go p at part)
short_go most p at zero h l = (
  plain_go (take at p),
  omega (arith, length-append (map Byte (take at p)) (Same ∷ []), length-map (take at p) (λ (x : ℕ). Byte x), length-take-le at p (omega arith)),
)
short_go most p at (suc part) h l = short_bytes most (take (at - part) p) (omega (arith, length-take (at - part) p))

short_turn : (most : ℕ) (p with : List ℕ) (at part : ℕ) → at < length p → length p ≤ most → length with ≤ most → IsShort most (turn p 0 (0, map Byte with) true at part).1
short_turn most p with at part h l w = elim (cases_eq part (length p)) [
  | inl e ↦ rw (turn_full p with at part e) (short_bytes most with w)
  | inr ne ↦ rw (turn_less p with at part ne) (short_go most p at part h l)
]

replace_small : (p with : List ℕ) (most : ℕ) → length p ≤ most → length with ≤ most → AreSmall (replace_rows p with) (replace_lasts p) most
replace_small p with most l w =
    record {
      few = λ s byte. elim (cases_Bool (is_within 0 (length p) s)) [ inl t ↦ rw t (omega arith) | inr f ↦ rw f (omega arith) ];
      moves = λ s byte. elim (cases_lt s (length p)) [
        | inl h ↦
            All-same (λ (q : ℕ × List Out). IsShort most q.1) (replace_rows p with s byte) (turn_by p 0 (0, map Byte with) true s byte ∷ []) (rows_at p with s byte h)
            (All-cons (λ (q : ℕ × List Out). IsShort most q.1) (turn_by p 0 (0, map Byte with) true s byte) [] (short_turn most p with s (next_length p s byte) h l w) (All-nil (λ (q : ℕ × List Out). IsShort most q.1)))
        | inr h ↦ rw (within_past (length p) s h) (All-nil (λ (q : ℕ × List Out). IsShort most q.1))
      ];
      ends = λ s. elim (cases_Bool (is_within 0 (length p) s)) [
        | inl t ↦ rw t (All-cons (IsShort most) (map Byte (take (s - 0) p)) [] (short_bytes most (take (s - 0) p) (omega (arith, length-take (s - 0) p))) (All-nil (IsShort most)))
        | inr f ↦ rw f (All-nil (IsShort most))
      ];
    }

-- the table is the machine
pub replace_is_machine : (table : Table) (p with : List ℕ) → 0 < length p → IsListed table (length p) (replace_rows p with) (replace_lasts p) → IsMachine table (length p + length with) (λ input output. output ≡ replaced_text p with input)
replace_is_machine table [] with h listed = absurd (omega arith)
replace_is_machine table (c ∷ search) with h listed =
    let p : List ℕ = c ∷ search in
    listed_machine table (length p) (replace_rows p with) (replace_lasts p) (length p + length with) (λ input output. output ≡ replaced_text p with input) listed (replace_small p with (length p + length with + 8) (omega arith) (omega arith)) (omega arith)
    (λ input output bytes. follows_function (replace_rows p with) (replace_lasts p) (λ s. s < length p) (λ s text. replaced_text p with (take s p ++ text)) (replace_function c search with) 0 h input output bytes)

-- where the search is empty nothing is replaced
pub same_replaces : (r : Result Table NoMemory) (p with : List ℕ) (size : ℕ) → length p ≡ 0 → size ≡ length with → IfOk r (λ t. IsMachine t size (λ input output. output ≡ input)) → IfOk r (λ t. IsMachine t (length p + length with) (λ input output. output ≡ replaced_text p with input))
same_replaces r p with size z e h =
    let empty : p ≡ [] = nil_from_length p z in
    let s : size ≡ 0 + length with = omega (arith, e) in
    subst (λ (x : List ℕ). IfOk r (λ t. IsMachine t (length x + length with) (λ input output. output ≡ replaced_text x with input))) (sym empty)
    (subst (λ (n : ℕ). IfOk r (λ t. IsMachine t n (λ input output. output ≡ input))) s h)
