-- The machine of pieces follows the pieces between the occurrences.
use Rattle.std.proofs.Common.{◌≡◌, ◌==◌, ℕ, ◌+◌, ◌-◌, ◌<◌, ◌≤◌, ◌↔◌, ◌⊎◌, inl, inr, Bool, true, false, ◌&&◌, List, [], ◌∷◌, ◌++◌, length, take, map, All, Contains, cond, ltb, leb, refl, sym, ◌∙◌, ap, subst, arith, append-nil, append_assoc}
use Rattle.std.proofs.lemmas.Bool.{cases_eq, cases_lt, eq-eqb, ne_eqb, lt-ltb, le-ltb, le-leb, lt-leb, and_right, and_parts, leb-true, ltb-true}
use Rattle.std.proofs.lemmas.List.{length-take, length-append}
use Rattle.std.proofs.lemmas.List.Elements.{All-cons, All-nil, All-append}
use Rattle.string_functions.specs.Pieces.{pieces_of}
use Rattle.string_functions.proofs.PiecesLaws.{pieces_of-occurrence, pieces_past-cons}
use Rattle.fst_core.specs.Choices.{choices, stops}
use Rattle.fst_core.proofs.ChoiceLemmas.{choices-append}
use Rattle.fst_core.specs.declared.out.Out.{Out}
use Rattle.fst_core.specs.declared.out.Out.TheVariants.{Byte}
use Rattle.fst_core.specs.declared.moves.TableMove.{TableMove}
use Rattle.fst_core.specs.declared.moves.TableEnd.{TableEnd}
use Rattle.fst_core.specs.declared.table.Table.{Table}
use Rattle.string_ops.specs.Listed.{Rows, Lasts, byte_of, Follows, IsShort, AreSmall, IsListed, IsMachine}
use Rattle.string_functions.specs.Failure.{next_length}
use Rattle.string_ops.specs.Search.{let_go, is_within, AddsTurns, AddsSearch, AddsEnds, AddsStop}
use Rattle.string_ops.specs.Piece.{behind, before_turn, inside_turn, piece_rows, piece_lasts}
use Rattle.string_functions.proofs.BorderLemmas.{IsNext, next_is}
use Rattle.string_ops.proofs.OccurrenceLemmas.{before_first, pieces_front, none_short, none_gone, gone, read_splits, whole_read, put_bytes, put_gone}
use Rattle.string_ops.proofs.ReplaceLemmas.{short_bytes, short_go}
use Rattle.string_ops.proofs.SearchLemmas.{stops-append}
use Rattle.string_ops.proofs.ListedLemmas.{none_in, one_in, in_one, in_cons, in_head, in_tail, listed_machine}

-- the first piece, and the others
abbrev first_of : List (List ℕ) → List ℕ
first_of [] = []
first_of (piece ∷ pieces) = piece

abbrev others_of : List (List ℕ) → List (List ℕ)
others_of [] = []
others_of (piece ∷ pieces) = pieces

-- the pieces, where so many bytes of the separator were read before the text
abbrev after_front : List ℕ → ℕ → List ℕ → List (List ℕ)
after_front p at text = pieces_of p (take at p ++ text)

front_cons : (c : ℕ) (sep : List ℕ) (at : ℕ) (text : List ℕ) → after_front (c ∷ sep) at text ≡ first_of (after_front (c ∷ sep) at text) ∷ others_of (after_front (c ∷ sep) at text)
front_cons c sep at text = let r = pieces_past-cons (c ∷ sep) 0 (take at (c ∷ sep) ++ text) in rw r.2 refl

front_end : (c : ℕ) (sep : List ℕ) (at : ℕ) → at < length (c ∷ sep) → after_front (c ∷ sep) at [] ≡ take at (c ∷ sep) ∷ []
front_end c sep at h =
    pieces_front c sep (take at (c ∷ sep)) [] (none_short (c ∷ sep) at h) ∙ ap (λ (x : List ℕ). x ∷ []) (append-nil (take at (c ∷ sep)))

next_most : (p : List ℕ) (at byte : ℕ) → at < length p → next_length p at byte ≤ length p
next_most p at byte h = let w = (next_is p at byte h).within in omega (arith, w)

-- a byte after which the separator is whole ends a piece
front_full : (c : ℕ) (sep : List ℕ) (at byte : ℕ) (text : List ℕ) → at < length (c ∷ sep) → next_length (c ∷ sep) at byte ≡ length (c ∷ sep) → after_front (c ∷ sep) at (byte ∷ text) ≡ [] ∷ after_front (c ∷ sep) 0 text
front_full c sep at byte text h e =
    let p : List ℕ = c ∷ sep in
    let full : IsNext p at byte (length p) = subst (λ (n : ℕ). IsNext p at byte n) e (next_is p at byte h) in
    ap (pieces_of p) (sym (append_assoc (take at p) (byte ∷ []) text) ∙ ap (λ (x : List ℕ). x ++ text) (whole_read p at byte h full)) ∙ pieces_of-occurrence c sep text

-- another byte goes on with the piece
front_less : (c : ℕ) (sep : List ℕ) (at byte : ℕ) (text : List ℕ) → at < length (c ∷ sep) → (next_length (c ∷ sep) at byte ≡ length (c ∷ sep) → ⊥) → after_front (c ∷ sep) at (byte ∷ text) ≡ before_first (gone (c ∷ sep) at byte (next_length (c ∷ sep) at byte)) (after_front (c ∷ sep) (next_length (c ∷ sep) at byte) text)
front_less c sep at byte text h ne =
    let p : List ℕ = c ∷ sep in
    let part = next_length p at byte in
    let is : IsNext p at byte part = next_is p at byte h in
    let most = next_most p at byte h in
    let less : part < length p = omega (arith, most) in
    ap (pieces_of p) (sym (append_assoc (take at p) (byte ∷ []) text) ∙ ap (λ (x : List ℕ). x ++ text) (read_splits p at byte part is.ends) ∙ append_assoc (gone p at byte part) (take part p) text)
    ∙ pieces_front c sep (gone p at byte part) (take part p ++ text) (none_gone p at byte part text h is less)

-- one row, one step
pub follows_one : (rows : Rows) (lasts : Lasts) (s byte : ℕ) (p : ℕ × List Out) (text out : List ℕ) → rows s byte ≡ p ∷ [] → Follows rows lasts s (byte ∷ text) out ↔ ((rest : List ℕ) × Follows rows lasts p.0 text rest × (map (byte_of byte) p.1 ++ rest ≡ out))
follows_one rows lasts s byte p text out e = (
  λ h.
      let one : h.0 ≡ p = one_in p h.0 (subst (λ (x : List (ℕ × List Out)). Contains x h.0) e h.1) in
      (h.2, subst (λ (x : ℕ × List Out). Follows rows lasts x.0 text h.2) one h.3, ap (λ (x : ℕ × List Out). map (byte_of byte) x.1 ++ h.2) (sym one) ∙ h.4),
  λ h. (p, subst (λ (x : List (ℕ × List Out)). Contains x p) (sym e) (in_one p), h.0, h.1, h.2),
)

-- two rows, either step
pub follows_two : (rows : Rows) (lasts : Lasts) (s byte : ℕ) (p q : ℕ × List Out) (text out : List ℕ) → rows s byte ≡ p ∷ q ∷ [] → Follows rows lasts s (byte ∷ text) out ↔ (((rest : List ℕ) × Follows rows lasts p.0 text rest × (map (byte_of byte) p.1 ++ rest ≡ out)) ⊎ ((rest : List ℕ) × Follows rows lasts q.0 text rest × (map (byte_of byte) q.1 ++ rest ≡ out)))
follows_two rows lasts s byte p q text out e = (
  λ h. elim (in_cons p (q ∷ []) h.0 (subst (λ (x : List (ℕ × List Out)). Contains x h.0) e h.1)) [
    | inl one ↦ inl (h.2, subst (λ (x : ℕ × List Out). Follows rows lasts x.0 text h.2) one h.3, ap (λ (x : ℕ × List Out). map (byte_of byte) x.1 ++ h.2) (sym one) ∙ h.4)
    | inr c ↦
        let one : h.0 ≡ q = one_in q h.0 c in
        inr (h.2, subst (λ (x : ℕ × List Out). Follows rows lasts x.0 text h.2) one h.3, ap (λ (x : ℕ × List Out). map (byte_of byte) x.1 ++ h.2) (sym one) ∙ h.4)
  ],
  λ h. elim h [
    | inl k ↦ (p, subst (λ (x : List (ℕ × List Out)). Contains x p) (sym e) (in_head p (q ∷ [])), k.0, k.1, k.2)
    | inr k ↦ (q, subst (λ (x : List (ℕ × List Out)). Contains x q) (sym e) (in_tail p (q ∷ []) q (in_one q)), k.0, k.1, k.2)
  ],
)

pub ends_one : (rows : Rows) (lasts : Lasts) (s : ℕ) (o : List Out) (out : List ℕ) → lasts s ≡ o ∷ [] → Follows rows lasts s [] out ↔ (map (byte_of 0) o ≡ out)
ends_one rows lasts s o out e = (
  λ h.
      let one : h.0 ≡ o = one_in o h.0 (subst (λ (x : List (List Out)). Contains x h.0) e h.1) in
      ap (map (byte_of 0)) (sym one) ∙ h.2,
  λ h. (o, subst (λ (x : List (List Out)). Contains x o) (sym e) (in_one o), h),
)

pub ends_none : (rows : Rows) (lasts : Lasts) (s : ℕ) (out : List ℕ) → lasts s ≡ [] → Follows rows lasts s [] out → ⊥
ends_none rows lasts s out e h = none_in h.0 (subst (λ (x : List (List Out)). Contains x h.0) e h.1)

-- which part of the list a state has
parts_zero : {X : Type 0} (m : ℕ) (a b c d e : List X) → (cond (0 == 0) a [] ++ cond (0 == 0) b [] ++ cond (is_within 1 m 0) c [] ++ cond (is_within (1 + m) m 0) d [] ++ cond ((1 + m + m) == 0) e []) ≡ a ++ b
parts_zero m a b c d e =
    rw (lt-leb (1 + m) 0 (omega arith), ne_eqb (1 + m + m) 0 (omega arith), append-nil (a ++ b), append-nil (a ++ b), append-nil (a ++ b)) refl

parts_before : {X : Type 0} (m k : ℕ) (a b c d e : List X) → k < m → (cond (0 == (1 + k)) a [] ++ cond (0 == (1 + k)) b [] ++ cond (is_within 1 m (1 + k)) c [] ++ cond (is_within (1 + m) m (1 + k)) d [] ++ cond ((1 + m + m) == (1 + k)) e []) ≡ c
parts_before m k a b c d e h =
    rw (ne_eqb 0 (1 + k) (omega arith), le-leb 1 (1 + k) (omega arith), lt-ltb (1 + k) (1 + m) (omega arith), lt-leb (1 + m) (1 + k) (omega arith), ne_eqb (1 + m + m) (1 + k) (omega arith), append-nil c, append-nil c) refl

parts_inside : {X : Type 0} (m k : ℕ) (a b c d e : List X) → k < m → (cond (0 == (1 + m + k)) a [] ++ cond (0 == (1 + m + k)) b [] ++ cond (is_within 1 m (1 + m + k)) c [] ++ cond (is_within (1 + m) m (1 + m + k)) d [] ++ cond ((1 + m + m) == (1 + m + k)) e []) ≡ d
parts_inside m k a b c d e h =
    rw (ne_eqb 0 (1 + m + k) (omega arith), le-leb 1 (1 + m + k) (omega arith), le-ltb (1 + m + k) (1 + m) (omega arith), le-leb (1 + m) (1 + m + k) (omega arith), lt-ltb (1 + m + k) (1 + m + m) (omega arith), ne_eqb (1 + m + m) (1 + m + k) (omega arith), append-nil d) refl

parts_behind : {X : Type 0} (m : ℕ) (a b c d e : List X) → 0 < m → (cond (0 == (1 + m + m)) a [] ++ cond (0 == (1 + m + m)) b [] ++ cond (is_within 1 m (1 + m + m)) c [] ++ cond (is_within (1 + m) m (1 + m + m)) d [] ++ cond ((1 + m + m) == (1 + m + m)) e []) ≡ e
parts_behind m a b c d e h =
    rw (ne_eqb 0 (1 + m + m) (omega arith), le-leb 1 (1 + m + m) (omega arith), le-ltb (1 + m + m) (1 + m) (omega arith), le-leb (1 + m) (1 + m + m) (omega arith), le-ltb (1 + m + m) (1 + m + m) (omega arith), eq-eqb (1 + m + m) (1 + m + m) refl) refl

rows_zero : (p : List ℕ) (byte : ℕ) → piece_rows p 0 byte ≡ before_turn p 0 byte ∷ inside_turn p 0 byte ∷ []
rows_zero p byte =
    parts_zero (length p) (before_turn p 0 byte ∷ []) (inside_turn p 0 byte ∷ []) (before_turn p (0 - 1) byte ∷ []) (inside_turn p (0 - (1 + length p)) byte ∷ []) ((behind p, []) ∷ [])

rows_before : (p : List ℕ) (k byte : ℕ) → k < length p → piece_rows p (1 + k) byte ≡ before_turn p k byte ∷ []
rows_before p k byte h =
    let e : 1 + k - 1 ≡ k = omega arith in
    parts_before (length p) k (before_turn p 0 byte ∷ []) (inside_turn p 0 byte ∷ []) (before_turn p (1 + k - 1) byte ∷ []) (inside_turn p (1 + k - (1 + length p)) byte ∷ []) ((behind p, []) ∷ []) h
    ∙ ap (λ (n : ℕ). before_turn p n byte ∷ []) e

rows_inside : (p : List ℕ) (k byte : ℕ) → k < length p → piece_rows p (1 + length p + k) byte ≡ inside_turn p k byte ∷ []
rows_inside p k byte h =
    let e : 1 + length p + k - (1 + length p) ≡ k = omega arith in
    parts_inside (length p) k (before_turn p 0 byte ∷ []) (inside_turn p 0 byte ∷ []) (before_turn p (1 + length p + k - 1) byte ∷ []) (inside_turn p (1 + length p + k - (1 + length p)) byte ∷ []) ((behind p, []) ∷ []) h
    ∙ ap (λ (n : ℕ). inside_turn p n byte ∷ []) e

rows_behind : (p : List ℕ) (byte : ℕ) → 0 < length p → piece_rows p (behind p) byte ≡ (behind p, []) ∷ []
rows_behind p byte h =
    parts_behind (length p) (before_turn p 0 byte ∷ []) (inside_turn p 0 byte ∷ []) (before_turn p (behind p - 1) byte ∷ []) (inside_turn p (behind p - (1 + length p)) byte ∷ []) ((behind p, []) ∷ []) h

-- where the searches go
before_full : (p : List ℕ) (at byte : ℕ) → next_length p at byte ≡ length p → before_turn p at byte ≡ (0, [])
before_full p at byte e = rw (eq-eqb (next_length p at byte) (length p) e) refl

before_less : (p : List ℕ) (at byte : ℕ) → (next_length p at byte ≡ length p → ⊥) → before_turn p at byte ≡ (1 + next_length p at byte, [])
before_less p at byte ne = rw (ne_eqb (next_length p at byte) (length p) ne) refl

inside_full : (p : List ℕ) (at byte : ℕ) → next_length p at byte ≡ length p → inside_turn p at byte ≡ (behind p, [])
inside_full p at byte e = rw (eq-eqb (next_length p at byte) (length p) e) refl

inside_less : (p : List ℕ) (at byte : ℕ) → (next_length p at byte ≡ length p → ⊥) → inside_turn p at byte ≡ (1 + length p + next_length p at byte, let_go p at (next_length p at byte))
inside_less p at byte ne = rw (ne_eqb (next_length p at byte) (length p) ne) refl

-- what the machine follows from each kind of state
record FollowsPieces (p text : List ℕ) : Type 0 where
  start : (out : List ℕ) → Follows (piece_rows p) (piece_lasts p) 0 text out ↔ Contains (after_front p 0 text) out
  before : (at : ℕ) → at < length p → (out : List ℕ) → Follows (piece_rows p) (piece_lasts p) (1 + at) text out ↔ Contains (others_of (after_front p at text)) out
  inside : (at : ℕ) → at < length p → (out : List ℕ) → Follows (piece_rows p) (piece_lasts p) (1 + length p + at) text out ↔ (out ≡ first_of (after_front p at text))
  after : (out : List ℕ) → Follows (piece_rows p) (piece_lasts p) (behind p) text out ↔ (out ≡ [])

lasts_zero : (p : List ℕ) → piece_lasts p 0 ≡ [] ∷ []
lasts_zero p = rw (lt-leb (1 + length p) 0 (omega arith), ne_eqb (behind p) 0 (omega arith)) refl

lasts_before : (p : List ℕ) (k : ℕ) → k < length p → piece_lasts p (1 + k) ≡ []
lasts_before p k h =
    rw (ne_eqb 0 (1 + k) (omega arith), lt-leb (1 + length p) (1 + k) (omega arith), ne_eqb (behind p) (1 + k) (omega arith)) refl

lasts_inside : (p : List ℕ) (k : ℕ) → k < length p → piece_lasts p (1 + length p + k) ≡ map Byte (take k p) ∷ []
lasts_inside p k h =
    let e : 1 + length p + k - (1 + length p) ≡ k = omega arith in
    let s : ℕ = 1 + length p + k in
    let x : List (List Out) = map Byte (take (s - (1 + length p)) p) ∷ [] in
    let r : piece_lasts p s ≡ x = rw (ne_eqb 0 s (omega arith), le-leb (1 + length p) s (omega arith), lt-ltb s (1 + length p + length p) (omega arith), ne_eqb (behind p) s (omega arith)) refl in
    r ∙ ap (λ (n : ℕ). map Byte (take n p) ∷ []) e

lasts_behind : (p : List ℕ) → 0 < length p → piece_lasts p (behind p) ≡ [] ∷ []
lasts_behind p h =
    rw (ne_eqb 0 (behind p) (omega arith), le-leb (1 + length p) (behind p) (omega arith), le-ltb (behind p) (1 + length p + length p) (omega arith), eq-eqb (behind p) (behind p) refl) refl

-- the empty text
pieces_end : (c : ℕ) (sep : List ℕ) → FollowsPieces (c ∷ sep) []
pieces_end c sep =
    let p : List ℕ = c ∷ sep in
    let rows = piece_rows p in
    let lasts = piece_lasts p in
    record {
      start = λ out.
          let e = ends_one rows lasts 0 [] out (lasts_zero p) in
          (λ h. subst (λ (x : List ℕ). Contains ([] ∷ []) x) (e.0 h) (in_one []), λ h. e.1 (sym (one_in [] out h)));
      before = λ at h out.
          let none : others_of (after_front p at []) ≡ [] = ap others_of (front_end c sep at h) in (
            λ f. absurd (ends_none rows lasts (1 + at) out (lasts_before p at h) f),
            λ f. absurd (none_in out (subst (λ (x : List (List ℕ)). Contains x out) none f)),
          );
      inside = λ at h out.
          let e = ends_one rows lasts (1 + length p + at) (map Byte (take at p)) out (lasts_inside p at h) in
          let first : first_of (after_front p at []) ≡ take at p = ap first_of (front_end c sep at h) in
          (λ f. sym (e.0 f) ∙ put_bytes 0 (take at p) ∙ sym first, λ f. e.1 (put_bytes 0 (take at p) ∙ sym first ∙ sym f));
      after = λ out.
          let e = ends_one rows lasts (behind p) [] out (lasts_behind p (omega arith)) in
          (λ f. sym (e.0 f), λ f. e.1 (sym f));
    }

-- a step before the piece
step_before : (c : ℕ) (sep : List ℕ) (byte : ℕ) (text out : List ℕ) (at : ℕ) → at < length (c ∷ sep) → FollowsPieces (c ∷ sep) text → ((rest : List ℕ) × Follows (piece_rows (c ∷ sep)) (piece_lasts (c ∷ sep)) (before_turn (c ∷ sep) at byte).0 text rest × (map (byte_of byte) (before_turn (c ∷ sep) at byte).1 ++ rest ≡ out)) ↔ Contains (others_of (after_front (c ∷ sep) at (byte ∷ text))) out
step_before c sep byte text out at h ih =
    let p : List ℕ = c ∷ sep in
    let rows = piece_rows p in
    let lasts = piece_lasts p in
    let part = next_length p at byte in
    let most = next_most p at byte h in
    elim (cases_eq part (length p)) [
      | inl e ↦
          let others : others_of (after_front p at (byte ∷ text)) ≡ after_front p 0 text = ap others_of (front_full c sep at byte text h e) in
          rw (before_full p at byte e, others) (
            λ f. subst (λ (x : List ℕ). Contains (after_front p 0 text) x) f.2 ((ih.start f.0).0 f.1),
            λ f. (out, (ih.start out).1 f, refl),
          )
      | inr ne ↦
          let less : part < length p = omega (arith, most) in
          let cut = front_less c sep at byte text h ne in
          let others : others_of (after_front p at (byte ∷ text)) ≡ others_of (after_front p part text) = ap others_of (cut ∙ ap (before_first (gone p at byte part)) (front_cons c sep part text)) in
          rw (before_less p at byte ne, others) (
            λ f. subst (λ (x : List ℕ). Contains (others_of (after_front p part text)) x) f.2 ((ih.before part less f.0).0 f.1),
            λ f. (out, (ih.before part less out).1 f, refl),
          )
    ]

-- a step in the piece
step_inside : (c : ℕ) (sep : List ℕ) (byte : ℕ) (text out : List ℕ) (at : ℕ) → at < length (c ∷ sep) → FollowsPieces (c ∷ sep) text → ((rest : List ℕ) × Follows (piece_rows (c ∷ sep)) (piece_lasts (c ∷ sep)) (inside_turn (c ∷ sep) at byte).0 text rest × (map (byte_of byte) (inside_turn (c ∷ sep) at byte).1 ++ rest ≡ out)) ↔ (out ≡ first_of (after_front (c ∷ sep) at (byte ∷ text)))
step_inside c sep byte text out at h ih =
    let p : List ℕ = c ∷ sep in
    let rows = piece_rows p in
    let lasts = piece_lasts p in
    let part = next_length p at byte in
    let most = next_most p at byte h in
    elim (cases_eq part (length p)) [
      | inl e ↦
          let first : first_of (after_front p at (byte ∷ text)) ≡ [] = ap first_of (front_full c sep at byte text h e) in
          rw (inside_full p at byte e, first) (
            λ f. sym f.2 ∙ (ih.after f.0).0 f.1,
            λ f. (out, (ih.after out).1 f, refl),
          )
      | inr ne ↦
          let less : part < length p = omega (arith, most) in
          let cut = front_less c sep at byte text h ne in
          let first : first_of (after_front p at (byte ∷ text)) ≡ gone p at byte part ++ first_of (after_front p part text) = ap first_of (cut ∙ ap (before_first (gone p at byte part)) (front_cons c sep part text)) in
          let put : map (byte_of byte) (let_go p at part) ≡ gone p at byte part = put_gone p at byte part h (next_is p at byte h).within in
          rw (inside_less p at byte ne, first) (
            λ f. sym f.2 ∙ ap (λ (x : List ℕ). x ++ f.0) put ∙ ap (λ (x : List ℕ). gone p at byte part ++ x) ((ih.inside part less f.0).0 f.1),
            λ f. (first_of (after_front p part text), (ih.inside part less (first_of (after_front p part text))).1 refl, ap (λ (x : List ℕ). x ++ first_of (after_front p part text)) put ∙ sym f),
          )
    ]

pieces_step : (c : ℕ) (sep : List ℕ) (byte : ℕ) (text : List ℕ) → FollowsPieces (c ∷ sep) text → FollowsPieces (c ∷ sep) (byte ∷ text)
pieces_step c sep byte text ih =
    let p : List ℕ = c ∷ sep in
    let rows = piece_rows p in
    let lasts = piece_lasts p in
    let z : 0 < length p = omega arith in
    record {
      start = λ out.
          let two = follows_two rows lasts 0 byte (before_turn p 0 byte) (inside_turn p 0 byte) text out (rows_zero p byte) in
          let b = step_before c sep byte text out 0 z ih in
          let i = step_inside c sep byte text out 0 z ih in
          let whole = front_cons c sep 0 (byte ∷ text) in
          let pieces = after_front p 0 (byte ∷ text) in (
            λ f. subst (λ (x : List (List ℕ)). Contains x out) (sym whole) (elim (two.0 f) [
              | inl g ↦ in_tail (first_of pieces) (others_of pieces) out (b.0 g)
              | inr g ↦ subst (λ (x : List ℕ). Contains (first_of pieces ∷ others_of pieces) x) (sym (i.0 g)) (in_head (first_of pieces) (others_of pieces))
            ]),
            λ f. two.1 (elim (in_cons (first_of pieces) (others_of pieces) out (subst (λ (x : List (List ℕ)). Contains x out) whole f)) [
              | inl e ↦ inr (i.1 e)
              | inr d ↦ inl (b.1 d)
            ]),
          );
      before = λ at h out.
          let one = follows_one rows lasts (1 + at) byte (before_turn p at byte) text out (rows_before p at byte h) in
          let b = step_before c sep byte text out at h ih in
          (λ f. b.0 (one.0 f), λ f. one.1 (b.1 f));
      inside = λ at h out.
          let one = follows_one rows lasts (1 + length p + at) byte (inside_turn p at byte) text out (rows_inside p at byte h) in
          let i = step_inside c sep byte text out at h ih in
          (λ f. i.0 (one.0 f), λ f. one.1 (i.1 f));
      after = λ out.
          let one = follows_one rows lasts (behind p) byte (behind p, []) text out (rows_behind p byte z) in
          (λ f. let g = one.0 f in sym g.2 ∙ (ih.after g.0).0 g.1, λ f. one.1 (out, (ih.after out).1 f, refl));
    }

pieces_follow : (c : ℕ) (sep text : List ℕ) → FollowsPieces (c ∷ sep) text
pieces_follow c sep [] = pieces_end c sep
pieces_follow c sep (byte ∷ text) = pieces_step c sep byte text (pieces_follow c sep text)

pub few_part : {X : Type 0} (b : Bool) (x : X) → length (cond b (x ∷ []) []) ≤ 1
few_part true x = omega arith
few_part false x = omega arith

pub all_part : {X : Type 0} (P : X → Type 0) (b : Bool) (x : X) → (b ≡ true → P x) → All P (cond b (x ∷ []) [])
all_part P true x h = All-cons P x [] (h refl) (All-nil P)
all_part P false x h = All-nil P

pub within_true : (base count s : ℕ) → is_within base count s ≡ true → (base ≤ s) × (s < base + count)
within_true base count s e =
    let parts = and_parts (leb base s) (ltb s (base + count)) e in
    (leb-true base s parts.0, ltb-true s (base + count) parts.1)

pub short_nothing : (most : ℕ) → IsShort most []
short_nothing most = (refl, omega arith)

short_before : (most : ℕ) (p : List ℕ) (at byte : ℕ) → IsShort most (before_turn p at byte).1
short_before most p at byte = elim (cases_eq (next_length p at byte) (length p)) [
  | inl e ↦ rw (before_full p at byte e) (short_nothing most)
  | inr ne ↦ rw (before_less p at byte ne) (short_nothing most)
]

short_inside : (most : ℕ) (p : List ℕ) (at byte : ℕ) → at < length p → length p ≤ most → IsShort most (inside_turn p at byte).1
short_inside most p at byte h l = elim (cases_eq (next_length p at byte) (length p)) [
  | inl e ↦ rw (inside_full p at byte e) (short_nothing most)
  | inr ne ↦ rw (inside_less p at byte ne) (short_go most p at (next_length p at byte) h l)
]

pieces_small : (p : List ℕ) (most : ℕ) → 0 < length p → length p ≤ most → AreSmall (piece_rows p) (piece_lasts p) most
pieces_small p most z l =
    let m = length p in
    let P : ℕ × List Out → Type 0 = λ q. IsShort most q.1 in
    record {
      few = λ s byte.
          let a : List (ℕ × List Out) = cond (0 == s) (before_turn p 0 byte ∷ []) [] in
          let b : List (ℕ × List Out) = cond (0 == s) (inside_turn p 0 byte ∷ []) [] in
          let c : List (ℕ × List Out) = cond (is_within 1 m s) (before_turn p (s - 1) byte ∷ []) [] in
          let d : List (ℕ × List Out) = cond (is_within (1 + m) m s) (inside_turn p (s - (1 + m)) byte ∷ []) [] in
          let e : List (ℕ × List Out) = cond (behind p == s) ((behind p, []) ∷ []) [] in
          elim (cases_eq 0 s) [
            | inl q ↦
                let r : piece_rows p s byte ≡ before_turn p 0 byte ∷ inside_turn p 0 byte ∷ [] = ap (λ (n : ℕ). piece_rows p n byte) (sym q) ∙ rows_zero p byte in
                subst (λ (x : List (ℕ × List Out)). length x ≤ 4) (sym r) (omega arith)
            | inr ne ↦
                let f : (0 == s) ≡ false = ne_eqb 0 s ne in
                let la : length a ≡ 0 = rw f refl in
                let lb : length b ≡ 0 = rw f refl in
                omega (arith, la, lb, few_part (is_within 1 m s) (before_turn p (s - 1) byte), few_part (is_within (1 + m) m s) (inside_turn p (s - (1 + m)) byte), few_part {X = ℕ × List Out} (behind p == s) (behind p, []), length-append (((a ++ b) ++ c) ++ d) e, length-append ((a ++ b) ++ c) d, length-append (a ++ b) c, length-append a b)
          ];
      moves = λ s byte.
          All-append P (((cond (0 == s) (before_turn p 0 byte ∷ []) [] ++ cond (0 == s) (inside_turn p 0 byte ∷ []) []) ++ cond (is_within 1 m s) (before_turn p (s - 1) byte ∷ []) []) ++ cond (is_within (1 + m) m s) (inside_turn p (s - (1 + m)) byte ∷ []) []) (cond (behind p == s) ((behind p, []) ∷ []) [])
          (All-append P ((cond (0 == s) (before_turn p 0 byte ∷ []) [] ++ cond (0 == s) (inside_turn p 0 byte ∷ []) []) ++ cond (is_within 1 m s) (before_turn p (s - 1) byte ∷ []) []) (cond (is_within (1 + m) m s) (inside_turn p (s - (1 + m)) byte ∷ []) [])
          (All-append P (cond (0 == s) (before_turn p 0 byte ∷ []) [] ++ cond (0 == s) (inside_turn p 0 byte ∷ []) []) (cond (is_within 1 m s) (before_turn p (s - 1) byte ∷ []) [])
          (All-append P (cond (0 == s) (before_turn p 0 byte ∷ []) []) (cond (0 == s) (inside_turn p 0 byte ∷ []) []) (all_part P (0 == s) (before_turn p 0 byte) (λ q. short_before most p 0 byte)) (all_part P (0 == s) (inside_turn p 0 byte) (λ q. short_inside most p 0 byte z l)))
          (all_part P (is_within 1 m s) (before_turn p (s - 1) byte) (λ q. short_before most p (s - 1) byte)))
          (all_part P (is_within (1 + m) m s) (inside_turn p (s - (1 + m)) byte) (λ q. let w = within_true (1 + m) m s q in short_inside most p (s - (1 + m)) byte (omega (arith, w.0, w.1)) l)))
          (all_part P (behind p == s) (behind p, []) (λ q. short_nothing most));
      ends = λ s.
          All-append (IsShort most) (cond (0 == s) ([] ∷ []) [] ++ cond (is_within (1 + m) m s) (map Byte (take (s - (1 + m)) p) ∷ []) []) (cond (behind p == s) ([] ∷ []) [])
          (All-append (IsShort most) (cond (0 == s) ([] ∷ []) []) (cond (is_within (1 + m) m s) (map Byte (take (s - (1 + m)) p) ∷ []) [])
          (all_part (IsShort most) (0 == s) [] (λ q. short_nothing most)) (all_part (IsShort most) (is_within (1 + m) m s) (map Byte (take (s - (1 + m)) p)) (λ q. short_bytes most (take (s - (1 + m)) p) (omega (arith, length-take (s - (1 + m)) p)))))
          (all_part (IsShort most) (behind p == s) [] (λ q. short_nothing most));
    }

-- the table is the machine
pub pieces_is_machine : (table : Table) (p : List ℕ) → 0 < length p → IsListed table (2 + length p + length p) (piece_rows p) (piece_lasts p) → IsMachine table (length p) (λ input output. Contains (pieces_of p input) output)
pieces_is_machine table [] h listed = absurd (omega arith)
pieces_is_machine table (c ∷ sep) h listed =
    let p : List ℕ = c ∷ sep in
    listed_machine table (2 + length p + length p) (piece_rows p) (piece_lasts p) (length p) (λ input output. Contains (pieces_of p input) output) listed (pieces_small p (length p + 8) h (omega arith)) (omega arith)
    (λ input output bytes. (pieces_follow c sep input).start output)

cond_nil : {X : Type 0} (b : Bool) → ◌≡◌ {A = List X} (cond b [] []) []
cond_nil true = refl
cond_nil false = refl

follows_nothing : (text out : List ℕ) → Follows (λ s byte. []) (λ s. []) 0 text out → ⊥
follows_nothing [] out f = none_in f.0 f.1
follows_nothing (byte ∷ text) out f = none_in f.0 f.1

-- an empty separator has no piece
pub no_pieces : (table : Table) → table.states ≡ 1 → table.start ≡ 0 → table.moves.items ≡ [] → table.ends.items ≡ [] → IsMachine table 0 (λ input output. Contains (pieces_of [] input) output)
no_pieces table states start moves ends =
    listed_machine table 1 (λ s byte. []) (λ s. []) 0 (λ input output. Contains (pieces_of [] input) output)
    (record {
      count = states;
      start = start;
      moves = λ s byte. ap (λ (x : List TableMove). choices x s byte) moves ∙ sym (cond_nil (ltb byte 256));
      ends = λ s. ap (λ (x : List TableEnd). stops x s) ends;
    })
    (record { few = λ s byte. omega arith; moves = λ s byte. All-nil (λ (q : ℕ × List Out). IsShort 8 q.1); ends = λ s. All-nil (IsShort 8) })
    (omega arith)
    (λ input output bytes. (λ f. absurd (follows_nothing input output f), λ c. absurd (none_in output c)))

and_true : (b : Bool) → (b && true) ≡ b
and_true true = refl
and_true false = refl

-- the parts of the list, with the bytes below 256
pub five_parts : {X : Type 0} (byte : Bool) (a b c d e : Bool) (us vs xs ys zs : List X) → (((([] ++ cond (a && byte) us []) ++ cond (b && byte) vs []) ++ cond (c && byte) xs []) ++ cond (d && byte) ys []) ++ cond (e && byte) zs [] ≡ cond byte ((((cond a us [] ++ cond b vs []) ++ cond c xs []) ++ cond d ys []) ++ cond e zs []) []
five_parts true a b c d e us vs xs ys zs = rw (and_true a, and_true b, and_true c, and_true d, and_true e) refl
five_parts false a b c d e us vs xs ys zs = rw (and_right a false refl, and_right b false refl, and_right c false refl, and_right d false refl, and_right e false refl) refl

-- what is added one after the other is the whole list
pub pieces_listed : (table : Table) (p : List ℕ) (t0 t1 t2 t3 t4 : List TableMove) (e0 e1 e2 : List TableEnd) → table.states ≡ 2 + length p + length p → table.start ≡ 0 → t0 ≡ [] → AddsTurns t0 t1 0 (before_turn p 0) → AddsTurns t1 t2 0 (inside_turn p 0) → AddsSearch t2 t3 1 (length p) (before_turn p) → AddsSearch t3 t4 (1 + length p) (length p) (inside_turn p) → AddsTurns t4 table.moves.items (behind p) (λ byte. (behind p, [])) → e0 ≡ [] → AddsStop e0 e1 0 → AddsEnds e1 e2 (1 + length p) (length p) p → AddsStop e2 table.ends.items (behind p) → IsListed table (2 + length p + length p) (piece_rows p) (piece_lasts p)
pieces_listed table p t0 t1 t2 t3 t4 e0 e1 e2 states start z a b c d e y f g h =
    record {
      count = states;
      start = start;
      moves = λ s byte.
          let az : choices t0 s byte ≡ [] = ap (λ (x : List TableMove). choices x s byte) z in
          rw (e s byte, d s byte, c s byte, b s byte, a s byte, az) (five_parts (ltb byte 256) (0 == s) (0 == s) (is_within 1 (length p) s) (is_within (1 + length p) (length p) s) (behind p == s) (before_turn p 0 byte ∷ []) (inside_turn p 0 byte ∷ []) (before_turn p (s - 1) byte ∷ []) (inside_turn p (s - (1 + length p)) byte ∷ []) ((behind p, []) ∷ []));
      ends = λ s.
          let ez : stops e0 s ≡ [] = ap (λ (x : List TableEnd). stops x s) y in
          rw (h s, g s, f s, ez) refl;
    }

pub same_below : (byte hi : ℕ) → hi ≡ 255 → leb byte hi ≡ ltb byte 256
same_below byte hi h = elim (cases_lt byte 256) [
  | inl l ↦ le-leb byte hi (omega arith) ∙ sym (lt-ltb byte 256 l)
  | inr l ↦ lt-leb byte hi (omega arith) ∙ sym (le-ltb byte 256 l)
]

-- a move by every byte
pub rest_added : (old new : List TableMove) (m : TableMove) (state : ℕ) → new ≡ old ++ m ∷ [] → m.from ≡ state → m.range.lo ≡ 0 → m.range.hi ≡ 255 → m.to ≡ state → m.out.items ≡ [] → AddsTurns old new state (λ byte. (state, []))
rest_added old new m state e f l h t o s byte =
    let lo : leb m.range.lo byte ≡ true = le-leb m.range.lo byte (omega arith) in
    let hi : leb byte m.range.hi ≡ ltb byte 256 = same_below byte m.range.hi h in
    rw e (choices-append old (m ∷ []) s byte ∙ rw (lo, hi, f, t, o) refl)

-- an end that puts out nothing
pub stop_added : (old new : List TableEnd) (e : TableEnd) (state : ℕ) → new ≡ old ++ e ∷ [] → e.state ≡ state → e.out.items ≡ [] → AddsStop old new state
stop_added old new e state eq f o s =
    rw eq (stops-append old (e ∷ []) s ∙ rw (f, o) refl)

-- a move by every byte, which puts out the byte or nothing
pub step_added : (old new : List TableMove) (m : TableMove) (from to : ℕ) (out : List Out) → new ≡ old ++ m ∷ [] → m.from ≡ from → m.range.lo ≡ 0 → m.range.hi ≡ 255 → m.to ≡ to → m.out.items ≡ out → AddsTurns old new from (λ byte. (to, out))
step_added old new m from to out e f l h t o s byte =
    let lo : leb m.range.lo byte ≡ true = le-leb m.range.lo byte (omega arith) in
    let hi : leb byte m.range.hi ≡ ltb byte 256 = same_below byte m.range.hi h in
    rw e (choices-append old (m ∷ []) s byte ∙ rw (lo, hi, f, t, o) refl)
