-- What is written stays so as a part is put behind the others: a set that has no rows yet, or an end of a text.
use Rattle.std.proofs.Common.{◌≡◌, ◌⊎◌, inl, inr, ℕ, zero, suc, true, List, [], ◌∷◌, ◌++◌, Some, refl, sym, subst, ap, length, arith}
use Rattle.std.specs.Prelude.{Contains, slice_get}
use Rattle.std.proofs.lemmas.List.Elements.{Contains-append_left, Contains-append_right, Contains-append_cases}
use Rattle.std.proofs.lemmas.Option.{same_Some}
use Rattle.string_functions.proofs.Members.{Contains-nil, Contains-head}
use Rattle.numbered_sets.proofs.NumberLemmas.{at_front}
use Rattle.text_base.specs.declared.byte_range.ByteRange.{ByteRange}
use Rattle.text_base.specs.declared.numbers.Nt as nt
use Rattle.cfg_grammar.specs.declared.symbol.Symbol.{Symbol}
use Rattle.cfg_grammar.specs.declared.symbol.Symbol.TheVariants.{Range}
use Rattle.cfg_grammar.specs.declared.production.Right.{Right}
use Rattle.cfg_grammar.specs.declared.production.Right.TheVariants.{Empty, One, Two}
use Rattle.cfg_grammar.specs.declared.production.Production.{Production}
use Rattle.op_system.specs.declared.op.Op.{Op}
use Rattle.op_system.specs.declared.system.OpRule.{OpRule}
use Rattle.least_sets.specs.Forms.{Form, text_form, same_form, join_form, apply_form}
use Rattle.given_texts.specs.Closed.{Closed}
use Rattle.system_writing.specs.Parts.{Part, set_part, end_part, range_part, is_set, PartRow}
use Rattle.system_writing.specs.Written.{Denotes, IsRight, IsWritten}
use Rattle.system_writing.proofs.Adding.{last_is}

pub push_cases : {X : Type 0} (xs : List X) (y : X) (k : ℕ) (x : X) → slice_get (xs ++ y ∷ []) k ≡ Some x → (slice_get xs k ≡ Some x) ⊎ ((k ≡ length xs) × (y ≡ x))
push_cases [] y zero x e = inr (refl, same_Some y x e)
push_cases [] y (suc k) x e = absurd (cc)
push_cases (z ∷ zs) y zero x e = inl e
push_cases (z ∷ zs) y (suc k) x e = elim (push_cases zs y k x e) [ inl p ↦ inl p | inr p ↦ inr (let h = p.0 in omega (arith, h), p.1) ]

pub at_end : {X : Type 0} (xs : List X) (y : X) → slice_get (xs ++ y ∷ []) (length xs) ≡ Some y
at_end [] y = refl
at_end (x ∷ xs) y = at_end xs y

module _ {N : Type 0} (parts : List (Part N)) (e : Part N) where
  pub denotes_more : (p : Part N) (s : Symbol) → Denotes parts p s → Denotes (parts ++ e ∷ []) p s
  denotes_more _ _ (Denotes.listed p n at) = Denotes.listed p n (at_front parts e n.0 p at)
  denotes_more _ _ (Denotes.range r) = Denotes.range r
  denotes_more _ _ (Denotes.byte b r lo hi) = Denotes.byte b r lo hi

  right_more : (f : Form (Part N)) (r : Right) → IsRight parts f r → IsRight (parts ++ e ∷ []) f r
  right_more _ _ IsRight.empty = IsRight.empty
  right_more _ _ (IsRight.one p s d) = IsRight.one p s (denotes_more p s d)
  right_more _ _ (IsRight.two p q s t d g) = IsRight.two p q s t (denotes_more p s d) (denotes_more q t g)

-- a part that is not listed yet, with its productions
pub record IsFresh {N : Type 0} (P : Part N → Form (Part N) → Type 0) (parts : List (Part N)) (e : Part N) (more : List Production) : Type 0 where
  pub set : is_set e ≡ true → (n : ℕ) → slice_get parts n ≡ Some e → ⊥
  pub no_byte : (b : ℕ) → e ≡ end_part (b ∷ []) → ⊥
  pub no_range : (r : ByteRange) → e ≡ range_part r → ⊥
  pub each : (left : nt.Nt) (right : Right) → Contains more (record { left = left; right = right }) → (f : Form (Part N)) × (left.0 ≡ length parts) × P e f × IsRight (parts ++ e ∷ []) f right
  pub empty : P e (text_form []) → ⊥
  pub same : (q : Part N) → P e (same_form q) → ⊥
  pub join : (q o : Part N) → P e (join_form q o) → (s t : Symbol) × Denotes (parts ++ e ∷ []) q s × Denotes (parts ++ e ∷ []) o t × Contains more (record { left = record { 0 = length parts }; right = Two s t })
  pub apply : (q : Part N) (op : Op) → P e (apply_form op q) → ⊥

module _ (N : Type 0) (P : Part N → Form (Part N) → Type 0) (parts : List (Part N)) (productions : List Production) (rules : List OpRule) (written : IsWritten P parts productions rules) (e : Part N) (more : List Production) (fresh : IsFresh P parts e more) where
  abbrev wider : List (Part N)
  wider = parts ++ e ∷ []

  kept : (p : Production) → Contains productions p → Contains (productions ++ more) p
  kept p h = Contains-append_left productions more p h

  old_set : (p : Part N) (n : ℕ) → is_set p ≡ true → slice_get wider n ≡ Some p → (slice_get parts n ≡ Some p) ⊎ ((n ≡ length parts) × (e ≡ p))
  old_set p n set h = push_cases parts e n p h

  once : (p : Part N) (n m : ℕ) → is_set p ≡ true → slice_get wider n ≡ Some p → slice_get wider m ≡ Some p → n ≡ m
  once p n m set h g =
      elim (push_cases parts e n p h) [
        | inl old ↦ elim (push_cases parts e m p g) [
          | inl other ↦ written.once p n m set old other
          | inr here ↦ absurd (fresh.set (subst (λ z. is_set z ≡ true) (sym here.1) set) n (subst (λ z. slice_get parts n ≡ Some z) (sym here.1) old))
        ]
        | inr here ↦ elim (push_cases parts e m p g) [
          | inl old ↦ absurd (fresh.set (subst (λ z. is_set z ≡ true) (sym here.1) set) m (subst (λ z. slice_get parts m ≡ Some z) (sym here.1) old))
          | inr there ↦ let a = here.0 in let b = there.0 in omega (arith, a, b)
        ]
      ]

  each : (left : nt.Nt) (right : Right) → Contains (productions ++ more) (record { left = left; right = right }) → (p : Part N) × (f : Form (Part N)) × (slice_get wider left.0 ≡ Some p) × P p f × IsRight wider f right
  each left right has =
      elim (Contains-append_cases productions more (record { left = left; right = right }) has) [
        | inl old ↦ let h = written.each_production left right old in (h.0, h.1, at_front parts e left.0 h.0 h.2, h.3, right_more parts e h.1 right h.4)
        | inr here ↦ let h = fresh.each left right here in (e, h.0, subst (λ z. slice_get wider z ≡ Some e) (sym h.1) (at_end parts e), h.2, h.3)
      ]

  all_e : (p : Part N) (n : nt.Nt) → slice_get wider n.0 ≡ Some p → P p (text_form []) → Contains (productions ++ more) (record { left = n; right = Empty })
  all_e p n at row =
      elim (push_cases parts e n.0 p at) [
        | inl old ↦ kept (record { left = n; right = Empty }) (written.all_empty p n old row)
        | inr here ↦ absurd (fresh.empty (subst (λ z. P z (text_form [])) (sym here.1) row))
      ]

  all_s : (p q : Part N) (n : nt.Nt) → slice_get wider n.0 ≡ Some p → P p (same_form q) → (t : Symbol) × Denotes wider q t × Contains (productions ++ more) (record { left = n; right = One t })
  all_s p q n at row =
      elim (push_cases parts e n.0 p at) [
        | inl old ↦ let h = written.all_same p q n old row in (h.0, denotes_more parts e q h.0 h.1, kept (record { left = n; right = One h.0 }) h.2)
        | inr here ↦ absurd (fresh.same q (subst (λ z. P z (same_form q)) (sym here.1) row))
      ]

  only : (n : nt.Nt) (q o : Part N) → n.0 ≡ length parts → P e (join_form q o) → (t u : Symbol) × Denotes wider q t × Denotes wider o u × Contains (productions ++ more) (record { left = n; right = Two t u })
  only n q o number row =
      let h = fresh.join q o row in
      (h.0, h.1, h.2, h.3, subst (λ z. Contains (productions ++ more) (record { left = record { 0 = z }; right = Two h.0 h.1 })) (sym number) (Contains-append_right productions more (record { left = record { 0 = length parts }; right = Two h.0 h.1 }) h.4))

  all_j : (p q o : Part N) (n : nt.Nt) → slice_get wider n.0 ≡ Some p → P p (join_form q o) → (t u : Symbol) × Denotes wider q t × Denotes wider o u × Contains (productions ++ more) (record { left = n; right = Two t u })
  all_j p q o n at row =
      elim (push_cases parts e n.0 p at) [
        | inl old ↦ let h = written.all_join p q o n old row in (h.0, h.1, denotes_more parts e q h.0 h.2, denotes_more parts e o h.1 h.3, kept (record { left = n; right = Two h.0 h.1 }) h.4)
        | inr here ↦ only n q o here.0 (subst (λ z. P z (join_form q o)) (sym here.1) row)
      ]

  all_a : (p q : Part N) (op : Op) (n : nt.Nt) → slice_get wider n.0 ≡ Some p → P p (apply_form op q) → (m : nt.Nt) × (slice_get wider m.0 ≡ Some q) × Contains rules (record { left = n; op = op; operand = m })
  all_a p q op n at row =
      elim (push_cases parts e n.0 p at) [
        | inl old ↦ let h = written.all_apply p q op n old row in (h.0, at_front parts e h.0.0 q h.1, h.2)
        | inr here ↦ absurd (fresh.apply q op (subst (λ z. P z (apply_form op q)) (sym here.1) row))
      ]

  pub add_part : IsWritten P (parts ++ e ∷ []) (productions ++ more) rules
  add_part = record {
    once = once;
    each_production = each;
    each_rule = λ left operand op has. let h = written.each_rule left operand op has in (h.0, h.1, at_front parts e left.0 h.0 h.2, at_front parts e operand.0 h.1 h.3, h.4);
    all_empty = all_e;
    all_same = all_s;
    all_join = all_j;
    all_apply = all_a;
    no_byte = λ x n at. elim (push_cases parts e n (end_part (x ∷ [])) at) [
      | inl old ↦ written.no_byte x n old
      | inr here ↦ fresh.no_byte x here.1
    ];
    no_range = λ q n at. elim (push_cases parts e n (range_part q) at) [
      | inl old ↦ written.no_range q n old
      | inr here ↦ fresh.no_range q here.1
    ];
  }

module _ (N : Type 0) (table : N → Form N → Type 0) (starts says : N → Type 0) (closed : Closed) (parts : List (Part N)) (productions : List Production) (rules : List OpRule) (written : IsWritten (PartRow table starts says closed) parts productions rules) where
  abbrev P : Part N → Form (Part N) → Type 0
  P = PartRow table starts says closed

  -- the end of a text
  module _ (b c : ℕ) (w : List ℕ) (r : ByteRange) (lo : r.lo ≡ b) (hi : r.hi ≡ b) (s : Symbol) (rest : Denotes parts (end_part (c ∷ w)) s) where
    abbrev e : Part N
    e = end_part (b ∷ c ∷ w)

    abbrev new : Production
    new = record { left = record { 0 = length parts }; right = Two (Range r) s }

    abbrev row : Form (Part N)
    row = join_form (end_part (b ∷ [])) (end_part (c ∷ w))

    right : IsRight (parts ++ e ∷ []) row (Two (Range r) s)
    right = IsRight.two (end_part (b ∷ [])) (end_part (c ∷ w)) (Range r) s (Denotes.byte b r lo hi) (denotes_more parts e (end_part (c ∷ w)) s rest)

    joined : (q o : Part N) → P e (join_form q o) → (t u : Symbol) × Denotes (parts ++ e ∷ []) q t × Denotes (parts ++ e ∷ []) o u × Contains (new ∷ []) (record { left = record { 0 = length parts }; right = Two t u })
    joined _ _ (PartRow.first _ _ _) = (Range r, s, Denotes.byte b r lo hi, denotes_more parts e (end_part (c ∷ w)) s rest, Contains-head new [])

    no_set : is_set e ≡ true → ⊥
    unfolding is_set
    no_set h = cc

    no_same : (q : Part N) → P e (same_form q) → ⊥
    no_same q h = elim h [ ]

    no_apply : (q : Part N) (op : Op) → P e (apply_form op q) → ⊥
    no_apply q op h = elim h [ ]

    no_empty : P e (text_form []) → ⊥
    no_empty h = elim h [ ]

    fresh_end : IsFresh P parts e (new ∷ [])
    fresh_end = record {
      set = λ set n h. no_set set;
      no_byte = λ x i. cc;
      no_range = λ q i. cc;
      each = λ left right_side has.
          let i : new ≡ record { left = left; right = right_side } = last_is new (record { left = left; right = right_side }) has in
          (row, ap (λ z. z.left.0) (sym i), PartRow.first b c w, subst (λ z. IsRight (parts ++ e ∷ []) row z) (ap (λ z. z.right) i) right);
      empty = no_empty;
      same = no_same;
      join = joined;
      apply = no_apply;
    }

    pub add_end : IsWritten P (parts ++ (end_part (b ∷ c ∷ w)) ∷ []) (productions ++ (record { left = record { 0 = length parts }; right = Two (Range r) s }) ∷ []) rules
    add_end = add_part N P parts productions rules written e (new ∷ []) fresh_end

  -- a set that has no rows
  module _ (k : N) (no_rows : (f : Form N) → table k f → ⊥) (is_new : (n : ℕ) → slice_get parts n ≡ Some (set_part k) → ⊥) where
    none : (f : Form (Part N)) → P (set_part k) f → ⊥
    none _ (PartRow.nothing _ c) = no_rows (text_form []) c
    none _ (PartRow.text _ b w c) = no_rows _ c
    none _ (PartRow.same _ j c) = no_rows _ c
    none _ (PartRow.join _ i j c) = no_rows _ c
    none _ (PartRow.before_nothing _ j c) = no_rows _ c
    none _ (PartRow.before _ b j w c) = no_rows _ c
    none _ (PartRow.asked _ c) = no_rows _ c
    none _ (PartRow.integer _ c) = no_rows _ c
    none _ (PartRow.apply _ j op c) = no_rows _ c
    none _ (PartRow.where_nothing _ j c s) = no_rows _ c
    none _ (PartRow.where_yes _ b j w c s) = no_rows _ c

    fresh_set : IsFresh P parts (set_part k) []
    fresh_set = record {
      set = λ set n h. is_new n h;
      no_byte = λ x i. cc;
      no_range = λ q i. cc;
      each = λ left right has. Contains-nil (record { left = left; right = right }) has;
      empty = none (text_form []);
      same = λ q row. none (same_form q) row;
      join = λ q o row. absurd (none (join_form q o) row);
      apply = λ q op row. none (apply_form op q) row;
    }

    nothing_more : (ps : List Production) → ps ++ [] ≡ ps
    nothing_more [] = refl
    nothing_more (p ∷ ps) = ap (λ z. p ∷ z) (nothing_more ps)

    pub add_set : IsWritten P (parts ++ set_part k ∷ []) productions rules
    add_set = subst (λ z. IsWritten P (parts ++ set_part k ∷ []) z rules) (nothing_more productions) (add_part N P parts productions rules written (set_part k) [] fresh_set)
