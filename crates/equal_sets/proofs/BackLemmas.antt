-- Each set has all that the system by the sets has at what stands for it.
use Rattle.std.proofs.Common.{◌≡◌, ◌∙◌, ◌+◌, ◌<◌, ◌≤◌, ℕ, zero, suc, List, [], ◌∷◌, Contains, Some, inl, inr, refl, sym, ap, subst, arith}
use Rattle.std.specs.Prelude.{slice_get}
use Rattle.std.proofs.lemmas.Option.{slice_get-get_or}
use Rattle.text_base.specs.declared.numbers.Nt as nt
use Rattle.cfg_grammar.specs.declared.symbol.Symbol.{Symbol}
use Rattle.cfg_grammar.specs.declared.symbol.Symbol.TheVariants.{Range, Token, Nt}
use Rattle.cfg_grammar.specs.declared.production.Right.{Right}
use Rattle.cfg_grammar.specs.declared.production.Right.TheVariants.{Empty, One, Two}
use Rattle.cfg_grammar.specs.declared.production.Production.{Production}
use Rattle.op_system.specs.declared.op.Op.{Op}
use Rattle.op_system.specs.declared.system.OpRule.{OpRule}
use Rattle.op_system.specs.declared.system.OpSystem.{OpSystem}
use Rattle.least_sets.specs.Forms.{Form, names, same_form, join_form, apply_form}
use Rattle.least_sets.specs.Sets.{DependsOn, IsCircular}
use Rattle.least_sets.specs.Simulations.{TakesOver}
use Rattle.least_sets.specs.Systems.{SystemRow}
use Rattle.op_bytes.specs.Texts.{RowOf}
use Rattle.op_bytes.specs.Cycles.{AreNumbers, IsInCycle}
use Rattle.op_bytes.proofs.EdgeLemmas.{left_below, right_below, rule_left_below, operand_below}
use Rattle.op_bytes.proofs.ListLemmas.{none_in, one_of, only_in, first_in, later_in}
use Rattle.equal_sets.specs.Sets.{set_of, symbol_of, right_of}
use Rattle.equal_sets.specs.Alike.{number_of}
use Rattle.equal_sets.specs.Fit.{Joins, IsFit}
use Rattle.equal_sets.specs.Written.{IsProductionOf, IsRuleOf, AreProductionsOf, AreRulesOf}

-- parts of productions and rules
pub production_is : (p : Production) (a : nt.Nt) (r : Right) → p.left ≡ a → p.right ≡ r → p ≡ record { left = a; right = r }
production_is p a r e f = subst (λ (x : nt.Nt). p ≡ record { left = x; right = r }) e (subst (λ (y : Right). p ≡ record { left = p.left; right = y }) f refl)

rule_is : (r : OpRule) (a : nt.Nt) (op : Op) → r.left ≡ a → r.op ≡ op → r ≡ record { left = a; op = op; operand = r.operand }
rule_is r a op e f = subst (λ (x : nt.Nt). r ≡ record { left = x; op = op; operand = r.operand }) e (subst (λ (y : Op). r ≡ record { left = r.left; op = y; operand = r.operand }) f refl)

module _ (s j : OpSystem) (numbers : List ℕ) (sets : List nt.Nt) (are : AreNumbers s numbers) (fit : IsFit s numbers sets)
    (ps : AreProductionsOf sets s.grammar.productions.items j.grammar.productions.items) (rs : AreRulesOf sets s.ops.items j.ops.items) where
  abbrev R : Symbol → Form Symbol → Type 0
  R = RowOf s

  abbrev S : Symbol → Form Symbol → Type 0
  S = RowOf j

  -- the number of a symbol, 0 of what is no nonterminal
  abbrev number : Symbol → ℕ
  number (Nt a) = number_of numbers a
  number (Range r) = 0
  number (Token t) = 0

  read : (a : nt.Nt) → a.0 < s.grammar.count → slice_get numbers a.0 ≡ Some (number_of numbers a)
  read a lt = slice_get-get_or numbers a.0 0 (let l = are.size in omega (arith, lt, l))

  -- numbers fall from a left side to what stands on the right
  falls_to : (left : nt.Nt) (f : Form Symbol) → left.0 < s.grammar.count → R (Nt left) f → (b : Symbol) → Contains (names f) b
      → ((c : nt.Nt) → b ≡ Nt c → c.0 < s.grammar.count) → number b ≤ number_of numbers left
  falls_to left f lt row (Range r) has below = omega arith
  falls_to left f lt row (Token t) has below = omega arith
  falls_to left f lt row (Nt c) has below =
      are.falls left c (number_of numbers left) (number_of numbers c) (DependsOn.over (Nt left) (Nt c) (Nt c) f row has (DependsOn.itself (Nt c))) (read left lt) (read c (below c refl))

  number_low : (x : Symbol) → number (symbol_of sets x) ≤ number x
  number_low (Nt a) = fit.low a
  number_low (Range r) = omega arith
  number_low (Token t) = omega arith

  -- a symbol on the right of a production
  right_falls : (left : nt.Nt) (right : Right) → Contains s.grammar.productions.items (record { left = left; right = right })
      → (f : Form Symbol) → R (Nt left) f → (x : Symbol) → Contains (names f) x → ((c : nt.Nt) → x ≡ Nt c → c.0 < s.grammar.count) → number (symbol_of sets x) ≤ number_of numbers left
  right_falls left right has f row x named below =
      let low = number_low x in
      let fall = falls_to left f (left_below s.grammar.count s.grammar.productions.items (record { left = left; right = right }) s.grammar.below has) row x named below in
      omega (arith, low, fall)

  one_falls : (left : nt.Nt) (x : Symbol) → Contains s.grammar.productions.items (record { left = left; right = One x }) → number (symbol_of sets x) ≤ number_of numbers left
  unfolding names
  one_falls left x has = right_falls left (One x) has (same_form x) (SystemRow.of_one left x has) x (first_in x [])
      (λ c e. right_below s.grammar.count s.grammar.productions.items (record { left = left; right = One x }) c.0 s.grammar.below has (subst (Contains (x ∷ [])) e (first_in x [])))

  two_falls : (left : nt.Nt) (x y : Symbol) → Contains s.grammar.productions.items (record { left = left; right = Two x y })
      → (number (symbol_of sets x) ≤ number_of numbers left) × (number (symbol_of sets y) ≤ number_of numbers left)
  unfolding names
  two_falls left x y has = (
    right_falls left (Two x y) has (join_form x y) (SystemRow.of_two left x y has) x (first_in x (y ∷ []))
        (λ c e. right_below s.grammar.count s.grammar.productions.items (record { left = left; right = Two x y }) c.0 s.grammar.below has (subst (Contains (x ∷ y ∷ [])) e (first_in x (y ∷ [])))),
    right_falls left (Two x y) has (join_form x y) (SystemRow.of_two left x y has) y (later_in x (y ∷ []) y (first_in y []))
        (λ c e. right_below s.grammar.count s.grammar.productions.items (record { left = left; right = Two x y }) c.0 s.grammar.below has (subst (Contains (x ∷ y ∷ [])) e (later_in x (y ∷ []) y (first_in y [])))),
  )

  operand_falls : (left operand : nt.Nt) (op : Op) → Contains s.ops.items (record { left = left; op = op; operand = operand }) → number_of numbers operand ≤ number_of numbers left
  unfolding names
  operand_falls left operand op has =
      falls_to left (apply_form op (Nt operand)) (rule_left_below s.grammar.count s.ops.items (record { left = left; op = op; operand = operand }) s.rules_below has)
      (SystemRow.of_rule left operand op has) (Nt operand) (first_in (Nt operand) [])
      (λ c e. subst (λ (z : nt.Nt). z.0 < s.grammar.count) (same_nt operand c e) (operand_below s.grammar.count s.ops.items (record { left = left; op = op; operand = operand }) s.rules_below has))
    where
      same_nt : (a b : nt.Nt) → Nt a ≡ Nt b → a ≡ b
      same_nt a b e = cc

  -- where a production by the sets comes from
  record From (left : nt.Nt) (right : Right) : Type 0 where
    own : Right
    among : Contains s.grammar.productions.items (record { left = left; right = own })
    is : right ≡ right_of sets own
    still : set_of sets left ≡ left

  from : (left : nt.Nt) (right : Right) → Contains j.grammar.productions.items (record { left = left; right = right }) → From left right
  from left right has = by (ps.only (record { left = left; right = right }) has)
    where
      by : IsProductionOf sets s.grammar.productions.items (record { left = left; right = right }) → From left right
      by o =
          let left_is : left ≡ o.from.left = ap (λ (p : Production). p.left) o.is ∙ o.still in
          record {
            own = o.from.right;
            among = subst (Contains s.grammar.productions.items) (production_is o.from left o.from.right (sym left_is) refl) o.among;
            is = ap (λ (p : Production). p.right) o.is;
            still = ap (set_of sets) left_is ∙ (o.still ∙ sym left_is);
          }

  record FromRule (left operand : nt.Nt) (op : Op) : Type 0 where
    own : nt.Nt
    among : Contains s.ops.items (record { left = left; op = op; operand = own })
    is : operand ≡ set_of sets own
    still : set_of sets left ≡ left

  from_rule : (left operand : nt.Nt) (op : Op) → Contains j.ops.items (record { left = left; op = op; operand = operand }) → FromRule left operand op
  from_rule left operand op has = by (rs.only (record { left = left; op = op; operand = operand }) has)
    where
      by : IsRuleOf sets s.ops.items (record { left = left; op = op; operand = operand }) → FromRule left operand op
      by o =
          let left_is : left ≡ o.from.left = ap (λ (r : OpRule). r.left) o.is ∙ o.still in
          let op_is : op ≡ o.from.op = ap (λ (r : OpRule). r.op) o.is in
          record {
            own = o.from.operand;
            among = subst (Contains s.ops.items) (rule_is o.from left op (sym left_is) (sym op_is)) o.among;
            is = ap (λ (r : OpRule). r.operand) o.is;
            still = ap (set_of sets) left_is ∙ (o.still ∙ sym left_is);
          }

  -- right sides by the sets, by cases of their own
  of_one_right : (x : Symbol) (own : Right) → One x ≡ right_of sets own → (y : Symbol) × (own ≡ One y) × (x ≡ symbol_of sets y)
  of_one_right x Empty e = cc
  of_one_right x (One y) e = let is : x ≡ symbol_of sets y = cc in (y, refl, is)
  of_one_right x (Two y z) e = cc

  of_two_right : (x y : Symbol) (own : Right) → Two x y ≡ right_of sets own → (u : Symbol) × (v : Symbol) × (own ≡ Two u v) × (x ≡ symbol_of sets u) × (y ≡ symbol_of sets v)
  of_two_right x y Empty e = cc
  of_two_right x y (One u) e = cc
  of_two_right x y (Two u v) e = let first : x ≡ symbol_of sets u = cc in let second : y ≡ symbol_of sets v = cc in (u, v, refl, first, second)

  of_empty_right : (own : Right) → Empty ≡ right_of sets own → own ≡ Empty
  of_empty_right Empty e = refl
  of_empty_right (One u) e = cc
  of_empty_right (Two u v) e = cc

  -- in the system by the sets numbers fall too
  joined_falls : (a : Symbol) (f : Form Symbol) → S a f → (b : Symbol) → Contains (names f) b → number b ≤ number a
  unfolding names
  joined_falls _ _ (SystemRow.of_range r x within) b has = none_in b has
  joined_falls _ _ (SystemRow.of_empty left among) b has = none_in b has
  joined_falls _ _ (SystemRow.of_one left x among) b has =
      let o = from left (One x) among in
      let r = of_one_right x o.own o.is in
      let at = one_falls left r.0 (subst (λ (z : Right). Contains s.grammar.productions.items (record { left = left; right = z })) r.1 o.among) in
      subst (λ (z : Symbol). number z ≤ number_of numbers left) (sym r.2 ∙ only_in x b has) at
  joined_falls _ _ (SystemRow.of_two left x y among) b has =
      let o = from left (Two x y) among in
      let r = of_two_right x y o.own o.is in
      let at = two_falls left r.0 r.1 (subst (λ (z : Right). Contains s.grammar.productions.items (record { left = left; right = z })) r.2 o.among) in
      elim (one_of x (y ∷ []) b has) [
        | inl same ↦ subst (λ (z : Symbol). number z ≤ number_of numbers left) (sym r.3 ∙ same) at.0
        | inr later ↦ subst (λ (z : Symbol). number z ≤ number_of numbers left) (sym r.4 ∙ only_in y b later) at.1
      ]
  joined_falls _ _ (SystemRow.of_rule left operand op among) b has =
      let o = from_rule left operand op among in
      let low = fit.low o.own in
      let fall = operand_falls left o.own op o.among in
      let at : number_of numbers operand ≤ number_of numbers left = subst (λ (z : nt.Nt). number_of numbers z ≤ number_of numbers left) (sym o.is) (omega (arith, low, fall)) in
      subst (λ (z : Symbol). number z ≤ number_of numbers left) (only_in (Nt operand) b has) at

  depends_falls : (a c : Symbol) → DependsOn S a c → number c ≤ number a
  depends_falls _ _ (DependsOn.itself a) = omega arith
  depends_falls _ _ (DependsOn.over a b c f row has more) =
      let here = joined_falls a f row b has in
      let there = depends_falls b c more in
      omega (arith, here, there)

  -- an operation that is in a cycle by the sets is in one
  pub cycle_back : (left own : nt.Nt) (op : Op) → Contains s.ops.items (record { left = left; op = op; operand = own })
      → IsCircular S (Nt left) op (Nt (set_of sets own)) → IsCircular R (Nt left) op (Nt own)
  cycle_back left own op has is = by (Nt left) (Nt (set_of sets own)) op refl refl refl is
    where
      depend : DependsOn S (Nt (set_of sets own)) (Nt left) → IsCircular R (Nt left) op (Nt own)
      depend d =
          let up = depends_falls (Nt (set_of sets own)) (Nt left) d in
          let low = fit.low own in
          let down = operand_falls left own op has in
          let same : number_of numbers own ≡ number_of numbers left = omega (arith, up, low, down) in
          let own_below = operand_below s.grammar.count s.ops.items (record { left = left; op = op; operand = own }) s.rules_below has in
          let left_is_below = rule_left_below s.grammar.count s.ops.items (record { left = left; op = op; operand = own }) s.rules_below has in
          IsCircular.cycle (Nt left) (Nt own) op (are.joined own left (number_of numbers left) (subst (λ (n : ℕ). slice_get numbers own.0 ≡ Some n) same (read own own_below)) (read left left_is_below))

      by : (a c : Symbol) (o : Op) → a ≡ Nt left → c ≡ Nt (set_of sets own) → o ≡ op → IsCircular S a o c → IsCircular R (Nt left) op (Nt own)
      by _ _ _ e f g (IsCircular.cycle a c o d) = depend (subst (λ (z : Symbol). DependsOn S z (Nt left)) f (subst (DependsOn S c) e d))
      by _ _ _ e f g (IsCircular.any a c) = subst (λ (o : Op). IsCircular R (Nt left) o (Nt own)) g (IsCircular.any (Nt left) (Nt own))

  -- a set takes over one that has the production by the sets
  pub record RightAt (d : nt.Nt) (right : Right) : Type 0 where
    pub within : nt.Nt
    pub own : Right
    pub takes : TakesOver R (Nt d) (Nt within)
    pub stands : set_of sets within ≡ set_of sets d
    pub among : Contains s.grammar.productions.items (record { left = within; right = own })
    pub is : right ≡ right_of sets own

  right_within : (n : ℕ) (d : nt.Nt) (right : Right) → number_of numbers d < n → Contains j.grammar.productions.items (record { left = set_of sets d; right = right }) → RightAt d right
  right_within zero d right lt has = absurd (omega (arith, lt))
  right_within (suc n) d right lt has =
      by (set_of sets d) refl (fit.joins d)
      (λ to lower stands. right_within n to right (omega (arith, lower, lt)) (subst (λ (x : nt.Nt). Contains j.grammar.productions.items (record { left = x; right = right })) (sym stands) has))
    where
      o : From (set_of sets d) right
      o = from (set_of sets d) right has

      by : (b : nt.Nt) → b ≡ set_of sets d → Joins s numbers sets d b → ((to : nt.Nt) → number_of numbers to < number_of numbers d → set_of sets to ≡ set_of sets d → RightAt to right) → RightAt d right
      by b e (Joins.itself same) onward = record {
        within = d;
        own = o.own;
        takes = TakesOver.itself (Nt d);
        stands = refl;
        among = subst (λ (x : nt.Nt). Contains s.grammar.productions.items (record { left = x; right = o.own })) (sym e ∙ same) o.among;
        is = o.is;
      }
      by b e (Joins.equal is) onward =
          let h = is.rights_back (record { left = set_of sets d; right = o.own }) o.among (sym e) in
          record {
            within = d;
            own = h.other.right;
            takes = TakesOver.itself (Nt d);
            stands = refl;
            among = subst (Contains s.grammar.productions.items) (production_is h.other d h.other.right h.left refl) h.among;
            is = o.is ∙ h.alike;
          }
      by b e (Joins.alias is) onward =
          let l = is.lower is.some is.among is.left in
          let to_stands : set_of sets l.to ≡ set_of sets d = l.stands ∙ e in
          let more = onward l.to l.lower to_stands in
          let first = SystemRow.of_one d (Nt l.to) (subst (Contains s.grammar.productions.items) (production_is is.some d (One (Nt l.to)) is.left l.right) is.among) in
          record {
            within = more.within;
            own = more.own;
            takes = TakesOver.through (Nt d) (Nt l.to) (Nt more.within) first more.takes;
            stands = more.stands ∙ to_stands;
            among = more.among;
            is = more.is;
          }

  pub right_back : (d : nt.Nt) (right : Right) → Contains j.grammar.productions.items (record { left = set_of sets d; right = right }) → RightAt d right
  right_back d right has = right_within (number_of numbers d + 1) d right (omega arith) has

  -- or the rule, which is in a cycle where that by the sets is
  pub record RuleAt (d operand : nt.Nt) (op : Op) : Type 0 where
    pub within : nt.Nt
    pub own : nt.Nt
    pub takes : TakesOver R (Nt d) (Nt within)
    pub stands : set_of sets within ≡ set_of sets d
    pub among : Contains s.ops.items (record { left = within; op = op; operand = own })
    pub is : operand ≡ set_of sets own
    pub cycle : IsCircular S (Nt (set_of sets d)) op (Nt operand) → IsCircular R (Nt within) op (Nt own)

  rule_within : (n : ℕ) (d operand : nt.Nt) (op : Op) → number_of numbers d < n → Contains j.ops.items (record { left = set_of sets d; op = op; operand = operand }) → RuleAt d operand op
  rule_within zero d operand op lt has = absurd (omega (arith, lt))
  rule_within (suc n) d operand op lt has =
      by (set_of sets d) refl (fit.joins d)
      (λ to lower stands. rule_within n to operand op (omega (arith, lower, lt)) (subst (λ (x : nt.Nt). Contains j.ops.items (record { left = x; op = op; operand = operand })) (sym stands) has))
    where
      o : FromRule (set_of sets d) operand op
      o = from_rule (set_of sets d) operand op has

      turns : IsCircular S (Nt (set_of sets d)) op (Nt operand) → IsCircular R (Nt (set_of sets d)) op (Nt o.own)
      turns c = cycle_back (set_of sets d) o.own op o.among (subst (λ (x : nt.Nt). IsCircular S (Nt (set_of sets d)) op (Nt x)) o.is c)

      by : (b : nt.Nt) → b ≡ set_of sets d → Joins s numbers sets d b → ((to : nt.Nt) → number_of numbers to < number_of numbers d → set_of sets to ≡ set_of sets d → RuleAt to operand op) → RuleAt d operand op
      by b e (Joins.itself same) onward =
          let own_is : set_of sets d ≡ d = sym e ∙ same in
          record {
            within = d;
            own = o.own;
            takes = TakesOver.itself (Nt d);
            stands = refl;
            among = subst (λ (x : nt.Nt). Contains s.ops.items (record { left = x; op = op; operand = o.own })) own_is o.among;
            is = o.is;
            cycle = λ c. subst (λ (x : nt.Nt). IsCircular R (Nt x) op (Nt o.own)) own_is (turns c);
          }
      by b e (Joins.equal is) onward =
          let h = is.rules_back (record { left = set_of sets d; op = op; operand = o.own }) o.among (sym e) in
          let there : h.other ≡ record { left = d; op = op; operand = h.other.operand } = rule_is h.other d op h.left (sym h.same.op) in
          record {
            within = d;
            own = h.other.operand;
            takes = TakesOver.itself (Nt d);
            stands = refl;
            among = subst (Contains s.ops.items) there h.among;
            is = o.is ∙ h.same.operand;
            cycle = λ c. subst (IsInCycle s) there (h.same.cycle.0 (turns c));
          }
      by b e (Joins.alias is) onward =
          let l = is.lower is.some is.among is.left in
          let to_stands : set_of sets l.to ≡ set_of sets d = l.stands ∙ e in
          let more = onward l.to l.lower to_stands in
          let first = SystemRow.of_one d (Nt l.to) (subst (Contains s.grammar.productions.items) (production_is is.some d (One (Nt l.to)) is.left l.right) is.among) in
          record {
            within = more.within;
            own = more.own;
            takes = TakesOver.through (Nt d) (Nt l.to) (Nt more.within) first more.takes;
            stands = more.stands ∙ to_stands;
            among = more.among;
            is = more.is;
            cycle = λ c. more.cycle (subst (λ (x : nt.Nt). IsCircular S (Nt x) op (Nt operand)) (sym to_stands) c);
          }

  pub rule_back : (d operand : nt.Nt) (op : Op) → Contains j.ops.items (record { left = set_of sets d; op = op; operand = operand }) → RuleAt d operand op
  rule_back d operand op has = rule_within (number_of numbers d + 1) d operand op (omega arith) has
