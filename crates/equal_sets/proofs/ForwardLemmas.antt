-- The system by the sets has, at what stands for each set, all that the system has there.
use Rattle.std.proofs.Common.{◌≡◌, ◌∙◌, ℕ, false, List, [], ◌∷◌, Contains, refl, sym, ap, subst}
use Rattle.text_base.specs.declared.numbers.Nt as nt
use Rattle.cfg_grammar.specs.declared.symbol.Symbol.{Symbol}
use Rattle.cfg_grammar.specs.declared.symbol.Symbol.TheVariants.{Nt}
use Rattle.cfg_grammar.specs.declared.production.Right.{Right}
use Rattle.cfg_grammar.specs.declared.production.Right.TheVariants.{Empty, One, Two}
use Rattle.cfg_grammar.specs.declared.production.Production.{Production}
use Rattle.op_system.specs.declared.op.Op.{Op}
use Rattle.op_system.specs.declared.system.OpRule.{OpRule}
use Rattle.op_system.specs.declared.system.OpSystem.{OpSystem}
use Rattle.least_sets.specs.Forms.{Form, text_form, same_form, join_form, apply_form}
use Rattle.least_sets.specs.Simulations.{TakesOver, Holds, Alike, is_same, HasRow, Simulates}
use Rattle.least_sets.specs.Systems.{SystemRow}
use Rattle.op_bytes.specs.Texts.{RowOf}
use Rattle.equal_sets.specs.Sets.{set_of, symbol_of, right_of, production_of, rule_of}
use Rattle.equal_sets.specs.Fit.{Joins, IsFit}
use Rattle.equal_sets.specs.Written.{AreProductionsOf, AreRulesOf}

-- two productions with the same parts, by the sets
same_production : (sets : List nt.Nt) (p q : Production) → set_of sets q.left ≡ set_of sets p.left → right_of sets p.right ≡ right_of sets q.right
    → production_of sets q ≡ production_of sets p
same_production sets p q e f =
    subst (λ (l : nt.Nt). production_of sets q ≡ record { left = l; right = right_of sets p.right }) e
    (subst (λ (r : Right). production_of sets q ≡ record { left = set_of sets q.left; right = r }) (sym f) refl)

same_rule : (sets : List nt.Nt) (r q : OpRule) → set_of sets q.left ≡ set_of sets r.left → r.op ≡ q.op → set_of sets r.operand ≡ set_of sets q.operand
    → rule_of sets q ≡ rule_of sets r
same_rule sets r q e f g =
    subst (λ (l : nt.Nt). rule_of sets q ≡ record { left = l; op = r.op; operand = set_of sets r.operand }) e
    (subst (λ (o : Op). rule_of sets q ≡ record { left = set_of sets q.left; op = o; operand = set_of sets r.operand }) (sym f)
    (subst (λ (x : nt.Nt). rule_of sets q ≡ record { left = set_of sets q.left; op = q.op; operand = x }) (sym g) refl))

one_symbol : (x y : Symbol) → One x ≡ One y → x ≡ y
one_symbol x y e = cc

module _ (s j : OpSystem) (numbers : List ℕ) (sets : List nt.Nt) (fit : IsFit s numbers sets)
    (ps : AreProductionsOf sets s.grammar.productions.items j.grammar.productions.items) (rs : AreRulesOf sets s.ops.items j.ops.items) where
  abbrev R : Symbol → Form Symbol → Type 0
  R = RowOf s

  abbrev S : Symbol → Form Symbol → Type 0
  S = RowOf j

  abbrev E : Symbol → Symbol → Type 0
  E a b = b ≡ symbol_of sets a

  -- what stands for another stands for itself
  pub still_left : (a b : nt.Nt) → b ≡ set_of sets a → set_of sets b ≡ b
  still_left a b e = ap (set_of sets) e ∙ (fit.still a ∙ sym e)

  -- a production is there by the sets, or takes over what stands for its left side already
  data Kept (p : Production) : Type 0 where
    there : Contains j.grammar.productions.items (production_of sets p) → Kept p
    over : (c : nt.Nt) → p.right ≡ One (Nt c) → set_of sets c ≡ set_of sets p.left → Kept p

  kept : (p : Production) → Contains s.grammar.productions.items p → Kept p
  kept p has = by (set_of sets p.left) refl (fit.joins p.left)
    where
      by : (b : nt.Nt) → b ≡ set_of sets p.left → Joins s numbers sets p.left b → Kept p
      by b e (Joins.itself same) = there (ps.all p has (sym e ∙ same))
      by b e (Joins.equal is) =
          let o = is.rights p has refl in
          let left : o.other.left ≡ set_of sets p.left = o.left ∙ e in
          let still = still_left p.left o.other.left left in
          there (subst (Contains j.grammar.productions.items) (same_production sets p o.other (still ∙ left) o.alike) (ps.all o.other o.among still))
      by b e (Joins.alias is) = let l = is.lower p has refl in over l.to l.right (l.stands ∙ e)

  kept_rule : (r : OpRule) → Contains s.ops.items r → Contains j.ops.items (rule_of sets r)
  kept_rule r has = by (set_of sets r.left) refl (fit.joins r.left)
    where
      by : (b : nt.Nt) → b ≡ set_of sets r.left → Joins s numbers sets r.left b → Contains j.ops.items (rule_of sets r)
      by b e (Joins.itself same) = rs.all r has (sym e ∙ same)
      by b e (Joins.equal is) =
          let o = is.rules r has refl in
          let left : o.other.left ≡ set_of sets r.left = o.left ∙ e in
          let still = still_left r.left o.other.left left in
          subst (Contains j.ops.items) (same_rule sets r o.other (still ∙ left) o.same.op o.same.operand) (rs.all o.other o.among still)
      by b e (Joins.alias is) = absurd (is.no_rule r has refl)

  pub held : (a : Symbol) → Holds S E a (symbol_of sets a)
  held a = record { within = symbol_of sets a; takes = TakesOver.itself (symbol_of sets a); stands = refl }

  same_row : (left : nt.Nt) (x : Symbol) → Contains s.grammar.productions.items (record { left = left; right = One x }) → Holds S E x (Nt (set_of sets left))
  same_row left x has = by (kept (record { left = left; right = One x }) has)
    where
      by : Kept (record { left = left; right = One x }) → Holds S E x (Nt (set_of sets left))
      by (there h) = record {
        within = symbol_of sets x;
        takes = TakesOver.through (Nt (set_of sets left)) (symbol_of sets x) (symbol_of sets x) (SystemRow.of_one (set_of sets left) (symbol_of sets x) h) (TakesOver.itself (symbol_of sets x));
        stands = refl;
      }
      by (over c e f) = record {
        within = Nt (set_of sets left);
        takes = TakesOver.itself (Nt (set_of sets left));
        stands = ap (λ (n : nt.Nt). Nt n) (sym f) ∙ ap (symbol_of sets) (sym (one_symbol x (Nt c) e));
      }

  one_empty : (c : nt.Nt) → Empty ≡ One (Nt c) → ⊥
  one_empty c e = cc

  one_two : (x y : Symbol) (c : nt.Nt) → Two x y ≡ One (Nt c) → ⊥
  one_two x y c e = cc

  empty_row : (left : nt.Nt) → Contains s.grammar.productions.items (record { left = left; right = Empty }) → HasRow S E (text_form []) (Nt (set_of sets left))
  empty_row left has = by (kept (record { left = left; right = Empty }) has)
    where
      by : Kept (record { left = left; right = Empty }) → HasRow S E (text_form []) (Nt (set_of sets left))
      by (there h) = record { form = text_form []; row = SystemRow.of_empty (set_of sets left) h; alike = Alike.text [] }
      by (over c e f) = absurd (one_empty c e)

  two_row : (left : nt.Nt) (x y : Symbol) → Contains s.grammar.productions.items (record { left = left; right = Two x y }) → HasRow S E (join_form x y) (Nt (set_of sets left))
  two_row left x y has = by (kept (record { left = left; right = Two x y }) has)
    where
      by : Kept (record { left = left; right = Two x y }) → HasRow S E (join_form x y) (Nt (set_of sets left))
      by (there h) = record {
        form = join_form (symbol_of sets x) (symbol_of sets y);
        row = SystemRow.of_two (set_of sets left) (symbol_of sets x) (symbol_of sets y) h;
        alike = Alike.join x y (symbol_of sets x) (symbol_of sets y) (held x) (held y);
      }
      by (over c e f) = absurd (one_two x y c e)

  rule_row : (left operand : nt.Nt) (op : Op) → Contains s.ops.items (record { left = left; op = op; operand = operand }) → HasRow S E (apply_form op (Nt operand)) (Nt (set_of sets left))
  rule_row left operand op has = record {
    form = apply_form op (Nt (set_of sets operand));
    row = SystemRow.of_rule (set_of sets left) (set_of sets operand) op (kept_rule (record { left = left; op = op; operand = operand }) has);
    alike = Alike.apply op (Nt operand) (Nt (set_of sets operand)) (held (Nt operand));
  }

  pub joined_does : Simulates R S E
  unfolding is_same
  joined_does = record { same = same_does; other = other_does; one = λ a c op b d row e f. e ∙ sym f }
    where
      same_does : (a c : Symbol) (b : Symbol) → E a b → R a (same_form c) → Holds S E c b
      same_does _ _ b e (SystemRow.of_one left x has) = subst (Holds S E x) (sym e) (same_row left x has)

      other_does : (a : Symbol) (f : Form Symbol) (b : Symbol) → E a b → R a f → is_same f ≡ false → HasRow S E f b
      other_does _ _ b e (SystemRow.of_range r x within) isnt = subst (HasRow S E (text_form (x ∷ []))) (sym e) (record { form = text_form (x ∷ []); row = SystemRow.of_range r x within; alike = Alike.text (x ∷ []) })
      other_does _ _ b e (SystemRow.of_empty left has) isnt = subst (HasRow S E (text_form [])) (sym e) (empty_row left has)
      other_does _ _ b e (SystemRow.of_one left x has) isnt = cc
      other_does _ _ b e (SystemRow.of_two left x y has) isnt = subst (HasRow S E (join_form x y)) (sym e) (two_row left x y has)
      other_does _ _ b e (SystemRow.of_rule left operand op has) isnt = subst (HasRow S E (apply_form op (Nt operand))) (sym e) (rule_row left operand op has)
