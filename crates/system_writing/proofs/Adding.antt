-- What is written stays so as a row of parts is added.
use Rattle.std.proofs.Common.{◌≡◌, ◌⊎◌, inl, inr, ℕ, true, List, [], ◌∷◌, ◌++◌, Some, refl, sym, subst, ◌∙◌, ap}
use Rattle.std.specs.Prelude.{Contains, slice_get}
use Rattle.std.proofs.lemmas.List.Elements.{Contains-append_left, Contains-append_right, Contains-append_cases}
use Rattle.string_functions.proofs.Members.{Contains-nil, Contains-cons_cases, Contains-head}
use Rattle.text_base.specs.declared.numbers.Nt as nt
use Rattle.cfg_grammar.specs.declared.symbol.Symbol.{Symbol}
use Rattle.cfg_grammar.specs.declared.production.Right.{Right}
use Rattle.cfg_grammar.specs.declared.production.Right.TheVariants.{Empty, One, Two}
use Rattle.cfg_grammar.specs.declared.production.Production.{Production}
use Rattle.op_system.specs.declared.op.Op.{Op}
use Rattle.op_system.specs.declared.system.OpRule.{OpRule}
use Rattle.least_sets.specs.Forms.{Form, text_form, same_form, join_form, apply_form}
use Rattle.system_writing.specs.Parts.{Part, is_set}
use Rattle.system_writing.specs.Written.{Denotes, IsRight, IsWritten}

pub last_is : {A : Type 0} (a b : A) → Contains (a ∷ []) b → a ≡ b
last_is a b h =
    elim (Contains-cons_cases a [] b h) [
      | inl e ↦ e
      | inr none ↦ Contains-nil b none
    ]

module _ {N : Type 0} (parts : List (Part N)) where
  pub empty_right : (r : Right) → IsRight parts (text_form []) r → r ≡ Empty
  empty_right _ IsRight.empty = refl

  pub one_right : (q : Part N) (r : Right) → IsRight parts (same_form q) r → (s : Symbol) × (r ≡ One s) × Denotes parts q s
  one_right _ _ (IsRight.one q s d) = (s, refl, d)

  pub two_right : (p q : Part N) (r : Right) → IsRight parts (join_form p q) r → (s : Symbol) × (t : Symbol) × (r ≡ Two s t) × Denotes parts p s × Denotes parts q t
  two_right _ _ _ (IsRight.two p q s t d e) = (s, t, refl, d, e)

  pub no_rule : (op : Op) (q : Part N) (r : Right) → IsRight parts (apply_form op q) r → ⊥
  no_rule op q r h = elim h [ ]

module _ (N : Type 0) (P Q : Part N → Form (Part N) → Type 0) (stays : (p : Part N) (g : Form (Part N)) → P p g → Q p g) (parts : List (Part N)) (productions : List Production) (rules : List OpRule) (written : IsWritten P parts productions rules) where
  -- rows that were there
  pub add_nothing : ((p : Part N) (g : Form (Part N)) → Q p g → P p g) → IsWritten Q parts productions rules
  add_nothing old = record {
    once = written.once;
    each_production = λ left right has. let h = written.each_production left right has in (h.0, h.1, h.2, stays h.0 h.1 h.3, h.4);
    each_rule = λ left operand op has. let h = written.each_rule left operand op has in (h.0, h.1, h.2, h.3, stays h.0 (apply_form op h.1) h.4);
    all_empty = λ p n at row. written.all_empty p n at (old p (text_form []) row);
    all_same = λ p q n at row. written.all_same p q n at (old p (same_form q) row);
    all_join = λ p q r n at row. written.all_join p q r n at (old p (join_form q r) row);
    all_apply = λ p q op n at row. written.all_apply p q op n at (old p (apply_form op q) row);
    no_byte = written.no_byte;
    no_range = written.no_range;
  }

  -- one row more
  module _ (p0 : Part N) (g0 : Form (Part N)) (k : ℕ) (has_row : Q p0 g0) (is_named : is_set p0 ≡ true) (at_k : slice_get parts k ≡ Some p0) (cases : (p : Part N) (g : Form (Part N)) → Q p g → P p g ⊎ ((p ≡ p0) × (g0 ≡ g))) where
    -- the number of the set is the one at which it is listed
    number_is : (p : Part N) (n : nt.Nt) → slice_get parts n.0 ≡ Some p → p ≡ p0 → n ≡ record { 0 = k }
    number_is p n at e = ap (λ z. record { 0 = z }) (written.once p0 n.0 k is_named (at ∙ ap (λ z. Some z) e) at_k)

    -- by a production
    module _ (right : Right) (is_right : IsRight parts g0 right) where
      abbrev new : Production
      new = record { left = record { 0 = k }; right = right }

      abbrev more : List Production
      more = productions ++ new ∷ []

      there_new : Contains more new
      there_new = Contains-append_right productions (new ∷ []) new (Contains-head new [])

      kept : (p : Production) → Contains productions p → Contains more p
      kept p h = Contains-append_left productions (new ∷ []) p h

      each : (left : nt.Nt) (r : Right) → Contains more (record { left = left; right = r }) → (p : Part N) × (h : Form (Part N)) × (slice_get parts left.0 ≡ Some p) × Q p h × IsRight parts h r
      each left r has =
          elim (Contains-append_cases productions (new ∷ []) (record { left = left; right = r }) has) [
            | inl old ↦ let h = written.each_production left r old in (h.0, h.1, h.2, stays h.0 h.1 h.3, h.4)
            | inr here ↦
                let e : new ≡ record { left = left; right = r } = last_is new (record { left = left; right = r }) here in
                (p0, g0, subst (λ z. slice_get parts z ≡ Some p0) (ap (λ z. z.left.0) e) at_k, has_row, subst (λ z. IsRight parts g0 z) (ap (λ z. z.right) e) is_right)
          ]

      all_e : (p : Part N) (n : nt.Nt) → slice_get parts n.0 ≡ Some p → Q p (text_form []) → Contains more (record { left = n; right = Empty })
      all_e p n at row =
          elim (cases p (text_form []) row) [
            | inl old ↦ kept (record { left = n; right = Empty }) (written.all_empty p n at old)
            | inr is ↦
                let r : right ≡ Empty = empty_right parts right (subst (λ z. IsRight parts z right) is.1 is_right) in
                subst (λ z. Contains more (record { left = z; right = Empty })) (sym (number_is p n at is.0)) (subst (λ z. Contains more (record { left = record { 0 = k }; right = z })) r there_new)
          ]

      all_s : (p q : Part N) (n : nt.Nt) → slice_get parts n.0 ≡ Some p → Q p (same_form q) → (s : Symbol) × Denotes parts q s × Contains more (record { left = n; right = One s })
      all_s p q n at row =
          elim (cases p (same_form q) row) [
            | inl old ↦ let h = written.all_same p q n at old in (h.0, h.1, kept (record { left = n; right = One h.0 }) h.2)
            | inr is ↦
                let r = one_right parts q right (subst (λ z. IsRight parts z right) is.1 is_right) in
                (r.0, r.2, subst (λ z. Contains more (record { left = z; right = One r.0 })) (sym (number_is p n at is.0)) (subst (λ z. Contains more (record { left = record { 0 = k }; right = z })) r.1 there_new))
          ]

      all_j : (p q o : Part N) (n : nt.Nt) → slice_get parts n.0 ≡ Some p → Q p (join_form q o) → (s : Symbol) × (t : Symbol) × Denotes parts q s × Denotes parts o t × Contains more (record { left = n; right = Two s t })
      all_j p q o n at row =
          elim (cases p (join_form q o) row) [
            | inl old ↦ let h = written.all_join p q o n at old in (h.0, h.1, h.2, h.3, kept (record { left = n; right = Two h.0 h.1 }) h.4)
            | inr is ↦
                let r = two_right parts q o right (subst (λ z. IsRight parts z right) is.1 is_right) in
                (r.0, r.1, r.3, r.4, subst (λ z. Contains more (record { left = z; right = Two r.0 r.1 })) (sym (number_is p n at is.0)) (subst (λ z. Contains more (record { left = record { 0 = k }; right = z })) r.2 there_new))
          ]

      all_a : (p q : Part N) (op : Op) (n : nt.Nt) → slice_get parts n.0 ≡ Some p → Q p (apply_form op q) → (m : nt.Nt) × (slice_get parts m.0 ≡ Some q) × Contains rules (record { left = n; op = op; operand = m })
      all_a p q op n at row =
          elim (cases p (apply_form op q) row) [
            | inl old ↦ written.all_apply p q op n at old
            | inr is ↦ absurd (no_rule parts op q right (subst (λ z. IsRight parts z right) is.1 is_right))
          ]

      pub add_production : IsWritten Q parts (productions ++ (record { left = record { 0 = k }; right = right }) ∷ []) rules
      add_production = record {
        once = written.once;
        each_production = each;
        each_rule = λ left operand op has. let h = written.each_rule left operand op has in (h.0, h.1, h.2, h.3, stays h.0 (apply_form op h.1) h.4);
        all_empty = all_e;
        all_same = all_s;
        all_join = all_j;
        all_apply = all_a;
        no_byte = written.no_byte;
        no_range = written.no_range;
      }

    -- by a rule
    module _ (op : Op) (q0 : Part N) (j : ℕ) (form : g0 ≡ apply_form op q0) (at_j : slice_get parts j ≡ Some q0) where
      abbrev rule : OpRule
      rule = record { left = record { 0 = k }; op = op; operand = record { 0 = j } }

      old_row : (p : Part N) (h : Form (Part N)) → (apply_form op q0 ≡ h → ⊥) → Q p h → P p h
      old_row p h other row =
          elim (cases p h row) [
            | inl old ↦ old
            | inr is ↦ absurd (other (sym form ∙ is.1))
          ]

      each_r : (left operand : nt.Nt) (o : Op) → Contains (rules ++ rule ∷ []) (record { left = left; op = o; operand = operand })
          → (a : Part N) × (b : Part N) × (slice_get parts left.0 ≡ Some a) × (slice_get parts operand.0 ≡ Some b) × Q a (apply_form o b)
      each_r left operand o has =
          elim (Contains-append_cases rules (rule ∷ []) (record { left = left; op = o; operand = operand }) has) [
            | inl old ↦ let h = written.each_rule left operand o old in (h.0, h.1, h.2, h.3, stays h.0 (apply_form o h.1) h.4)
            | inr here ↦
                let e : rule ≡ record { left = left; op = o; operand = operand } = last_is rule (record { left = left; op = o; operand = operand }) here in (
                  p0,
                  q0,
                  subst (λ z. slice_get parts z ≡ Some p0) (ap (λ z. z.left.0) e) at_k,
                  subst (λ z. slice_get parts z ≡ Some q0) (ap (λ z. z.operand.0) e) at_j,
                  subst (λ z. Q p0 (apply_form z q0)) (ap (λ z. z.op) e) (subst (λ z. Q p0 z) form has_row),
                )
          ]

      all_r : (p q : Part N) (o : Op) (n : nt.Nt) → slice_get parts n.0 ≡ Some p → Q p (apply_form o q)
          → (m : nt.Nt) × (slice_get parts m.0 ≡ Some q) × Contains (rules ++ rule ∷ []) (record { left = n; op = o; operand = m })
      all_r p q o n at row =
          elim (cases p (apply_form o q) row) [
            | inl old ↦ let h = written.all_apply p q o n at old in (h.0, h.1, Contains-append_left rules (rule ∷ []) (record { left = n; op = o; operand = h.0 }) h.2)
            | inr is ↦
                let f : apply_form op q0 ≡ apply_form o q = sym form ∙ is.1 in
                let same_op : op ≡ o = cc in
                let same_part : q0 ≡ q = cc in
                let number : n ≡ record { 0 = k } = number_is p n at is.0 in (
                  record { 0 = j },
                  subst (λ z. slice_get parts j ≡ Some z) same_part at_j,
                  subst (λ z. Contains (rules ++ rule ∷ []) (record { left = z; op = o; operand = record { 0 = j } })) (sym number)
                      (subst (λ z. Contains (rules ++ rule ∷ []) (record { left = record { 0 = k }; op = z; operand = record { 0 = j } })) same_op (Contains-append_right rules (rule ∷ []) rule (Contains-head rule []))),
                )
          ]

      pub add_rule : IsWritten Q parts productions (rules ++ (record { left = record { 0 = k }; op = op; operand = record { 0 = j } }) ∷ [])
      add_rule = record {
        once = written.once;
        each_production = λ left right has. let h = written.each_production left right has in (h.0, h.1, h.2, stays h.0 h.1 h.3, h.4);
        each_rule = each_r;
        all_empty = λ p n at row. written.all_empty p n at (old_row p (text_form []) (λ e. cc) row);
        all_same = λ p q n at row. written.all_same p q n at (old_row p (same_form q) (λ e. cc) row);
        all_join = λ p q r n at row. written.all_join p q r n at (old_row p (join_form q r) (λ e. cc) row);
        all_apply = all_r;
        no_byte = written.no_byte;
        no_range = written.no_range;
      }
