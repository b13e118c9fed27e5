-- What depends on what, by the graph.
use Rattle.std.proofs.Common.{◌≡◌, ◌<◌, ◌≤◌, ◌+◌, ◌↔◌, ℕ, List, [], ◌∷◌, ◌++◌, length, Some, slice_get, get_or, Contains, inl, inr, refl, sym, ◌∙◌, ap, subst, arith, zero, suc, Bool, true}
use Rattle.std.specs.Prelude.{◌⊎◌, IsTrue, nat_eq}
use Rattle.smallvec.specs.SmallVec.{SmallVec}
use Rattle.std.proofs.lemmas.Option.{same_Some, slice_get_within, slice_get-get_or}
use Rattle.text_base.specs.declared.byte_range.ByteRange.{ByteRange}
use Rattle.text_base.specs.declared.page_token.PageToken.{PageToken}
use Rattle.text_base.specs.declared.numbers.Nt as nt
use Rattle.strong_components.specs.Edges.{HasEdge, Leads, by_edge, onward, AreWithin}
use Rattle.strong_components.proofs.OrderListLemmas.{push_cases}
use Rattle.strong_components.specs.Components.{Reaches, AreComponents}
use Rattle.strong_components.proofs.ReachLemmas.{reach_reach}
use Rattle.cfg_grammar.specs.declared.symbol.Symbol.{Symbol}
use Rattle.cfg_grammar.specs.declared.symbol.Symbol.TheVariants.{Range, Token, Nt}
use Rattle.cfg_grammar.specs.declared.production.Right.{Right}
use Rattle.cfg_grammar.specs.declared.production.Right.TheVariants.{Empty, One, Two}
use Rattle.cfg_grammar.specs.declared.production.Production.{Production}
use Rattle.cfg_grammar.specs.Below.{symbols_of}
use Rattle.op_system.specs.declared.op.Op.{Op}
use Rattle.op_system.specs.declared.op.Op.TheVariants.{Any}
use Rattle.op_system.specs.declared.system.OpRule.{OpRule}
use Rattle.op_system.specs.declared.system.OpSystem.{OpSystem}
use Rattle.least_sets.specs.Forms.{Form, names, text_form, same_form, join_form, apply_form}
use Rattle.least_sets.specs.Sets.{DependsOn, IsCircular}
use Rattle.least_sets.specs.Systems.{SystemRow}
use Rattle.op_bytes.specs.Texts.{RowOf}
use Rattle.op_bytes.specs.Steps.{IsStep}
use Rattle.op_bytes.specs.Cycles.{AreNumbers, IsInCycle, AreCircular}
use Rattle.op_bytes.proofs.EdgeLemmas.{contained, placed}

none_in : {X : Type 0} {A : Type 0} (x : X) → Contains [] x → A
none_in x c = absurd (omega (arith, c.1))

one_of : {X : Type 0} (x : X) (xs : List X) (c : X) → Contains (x ∷ xs) c → (x ≡ c) ⊎ Contains xs c
one_of x xs c (zero, below, is) = inl is
one_of x xs c (suc k, below, is) = inr (k, omega (arith, below), is)

module _ (ps : List Production) (rs : List OpRule) where
  abbrev R : Symbol → Form Symbol → Type 0
  R = SystemRow ps rs

  -- what a row names is a step
  pub record Steps (s t : Symbol) : Type 0 where
    pub from : nt.Nt
    pub is : s ≡ Nt from
    pub step : (b : nt.Nt) → t ≡ Nt b → IsStep ps rs from.0 b.0

  pub row_step : (s : Symbol) (f : Form Symbol) → R s f → (t : Symbol) → Contains (names f) t → Steps s t
  unfolding names
  row_step _ _ (SystemRow.of_range r b within) t has = none_in t has
  row_step _ _ (SystemRow.of_empty left among) t has = none_in t has
  row_step _ _ (SystemRow.of_one left a among) t has = record {
    from = left;
    is = refl;
    step = λ b e. IsStep.by_production (record { left = left; right = One a }) among refl (subst (Contains (a ∷ [])) e has);
  }
  row_step _ _ (SystemRow.of_two left a c among) t has = record {
    from = left;
    is = refl;
    step = λ b e. IsStep.by_production (record { left = left; right = Two a c }) among refl (subst (Contains (a ∷ c ∷ [])) e has);
  }
  row_step _ _ (SystemRow.of_rule left operand op among) t has = record {
    from = left;
    is = refl;
    step = λ b e. IsStep.by_rule (record { left = left; op = op; operand = operand }) among refl (same_number operand b (only (Nt operand) t has ∙ e));
  }
    where
      only : (x c : Symbol) → Contains (x ∷ []) c → x ≡ c
      only x c h = elim (one_of x [] c h) [ inl same ↦ same | inr none ↦ none_in c none ]

      same_number : (a b : nt.Nt) → Nt a ≡ Nt b → a.0 ≡ b.0
      same_number a b e = cc

  -- what is no nonterminal depends on itself alone
  alone : (s t : Symbol) → DependsOn R s t → ((a : nt.Nt) → s ≡ Nt a → ⊥) → t ≡ s
  alone _ _ (DependsOn.itself a) never = refl
  alone _ _ (DependsOn.over s m t f row has rest) never = let r = row_step s f row m has in absurd (never r.from r.is)

  pub step_depends : (a b : nt.Nt) → IsStep ps rs a.0 b.0 → DependsOn R (Nt a) (Nt b)
  unfolding names
  step_depends a b (IsStep.by_production p has left right) = by_right p.right refl
    where
      same : (p : Production) (a : nt.Nt) (r : Right) → p.left ≡ a → p.right ≡ r → p ≡ record { left = a; right = r }
      same p a r e f = subst (λ (x : nt.Nt). p ≡ record { left = x; right = r }) e (subst (λ (y : Right). p ≡ record { left = p.left; right = y }) f refl)

      left_is : p.left ≡ a
      left_is = ap (λ (x : ℕ). let n : nt.Nt = record { 0 = x } in n) left

      by_right : (right_side : Right) → p.right ≡ right_side → DependsOn R (Nt a) (Nt b)
      by_right Empty e = none_in (Nt b) (subst (λ (r : Right). Contains (symbols_of r) (Nt b)) e right)
      by_right (One x) e = DependsOn.over (Nt a) (Nt b) (Nt b) (same_form x) (SystemRow.of_one a x (subst (Contains ps) (same p a (One x) left_is e) has)) (subst (λ (r : Right). Contains (symbols_of r) (Nt b)) e right) (DependsOn.itself (Nt b))
      by_right (Two x y) e = DependsOn.over (Nt a) (Nt b) (Nt b) (join_form x y) (SystemRow.of_two a x y (subst (Contains ps) (same p a (Two x y) left_is e) has)) (subst (λ (r : Right). Contains (symbols_of r) (Nt b)) e right) (DependsOn.itself (Nt b))
  step_depends a b (IsStep.by_rule r has left operand) =
      DependsOn.over (Nt a) (Nt b) (Nt b) (apply_form r.op (Nt b))
      (SystemRow.of_rule a b r.op (subst (Contains rs) (same r a b (ap (λ (x : ℕ). let n : nt.Nt = record { 0 = x } in n) left) (ap (λ (x : ℕ). let n : nt.Nt = record { 0 = x } in n) operand)) has))
      (0, omega arith, refl) (DependsOn.itself (Nt b))
    where
      same : (r : OpRule) (a b : nt.Nt) → r.left ≡ a → r.operand ≡ b → r ≡ record { left = a; op = r.op; operand = b }
      same r a b e f = subst (λ (x : nt.Nt). r ≡ record { left = x; op = r.op; operand = b }) e (subst (λ (y : nt.Nt). r ≡ record { left = r.left; op = r.op; operand = y }) f refl)

  depends_depends : (a b c : Symbol) → DependsOn R a b → DependsOn R b c → DependsOn R a c
  depends_depends _ _ c (DependsOn.itself a) more = more
  depends_depends _ _ c (DependsOn.over a m b f row has rest) more = DependsOn.over a m c f row has (depends_depends m b c rest more)

  module _ (edges : List (SmallVec ℕ)) (is : (a b : ℕ) → HasEdge edges a b ↔ IsStep ps rs a b) where
    leads_depends : (a b : ℕ) → Leads edges a b → DependsOn R (Nt (record { 0 = a })) (Nt (record { 0 = b }))
    leads_depends a b (by_edge _ _ e) = step_depends (record { 0 = a }) (record { 0 = b }) ((is a b).0 e)
    leads_depends a b (onward _ next _ e more) =
        depends_depends (Nt (record { 0 = a })) (Nt (record { 0 = next })) (Nt (record { 0 = b })) (step_depends (record { 0 = a }) (record { 0 = next }) ((is a next).0 e)) (leads_depends next b more)

    pub reach_depends : (a b : nt.Nt) → Reaches edges a.0 b.0 → DependsOn R (Nt a) (Nt b)
    reach_depends a b h = elim h [
      | inl same ↦ subst (λ (x : nt.Nt). DependsOn R (Nt a) (Nt x)) (ap (λ (x : ℕ). let n : nt.Nt = record { 0 = x } in n) same) (DependsOn.itself (Nt a))
      | inr way ↦ leads_depends a.0 b.0 way
    ]

    same_nt : (a b : nt.Nt) → Nt a ≡ Nt b → a.0 ≡ b.0
    same_nt a b e = cc

    range_or_nt : (r : ByteRange) (b : nt.Nt) → Nt b ≡ Range r → ⊥
    range_or_nt r b e = cc

    token_or_nt : (t : PageToken) (b : nt.Nt) → Nt b ≡ Token t → ⊥
    token_or_nt t b e = cc

    pub depends_reach : (s t : Symbol) → DependsOn R s t → (a b : nt.Nt) → s ≡ Nt a → t ≡ Nt b → Reaches edges a.0 b.0
    depends_reach _ _ (DependsOn.itself s) a b e f = inl (same_nt a b (sym e ∙ f))
    depends_reach _ _ (DependsOn.over s m t f row has rest) a b e g = onward_from m (row_step s f row m has) rest (depends_reach m t rest)
      where
        onward_from : (m : Symbol) → Steps s m → DependsOn R m t → ((a b : nt.Nt) → m ≡ Nt a → t ≡ Nt b → Reaches edges a.0 b.0) → Reaches edges a.0 b.0
        onward_from (Nt x) r d further =
            let from_a : r.from.0 ≡ a.0 = same_nt r.from a (sym r.is ∙ e) in
            reach_reach edges a.0 x.0 b.0 (inr (by_edge a.0 x.0 ((is a.0 x.0).1 (subst (λ (y : ℕ). IsStep ps rs y x.0) from_a (r.step x refl))))) (further x b refl g)
        onward_from (Range r) _ d further = absurd (range_or_nt r b (sym g ∙ alone (Range r) t d (λ y h. range_or_nt r y (sym h))))
        onward_from (Token k) _ d further = absurd (token_or_nt k b (sym g ∙ alone (Token k) t d (λ y h. token_or_nt k y (sym h))))

    -- numbers of components fall along what nonterminals depend on
    leads_falls : (ns : List ℕ) → AreComponents edges ns → AreWithin edges → (a b n m : ℕ) → Leads edges a b → slice_get ns a ≡ Some n → slice_get ns b ≡ Some m → m ≤ n
    leads_falls ns c within a b n m (by_edge _ _ e) x y = c.falls a b n m e x y
    leads_falls ns c within a b n m (onward _ next _ e more) x y =
        let lt = within a next e in
        let at = slice_get-get_or ns next 0 (let l = c.size in omega arith) in
        let below = leads_falls ns c within next b (get_or ns next 0) m more at y in
        let here = c.falls a next n (get_or ns next 0) e x at in
        omega arith

    pub reach_falls : (ns : List ℕ) → AreComponents edges ns → AreWithin edges → (a b n m : ℕ) → Reaches edges a b → slice_get ns a ≡ Some n → slice_get ns b ≡ Some m → m ≤ n
    reach_falls ns c within a b n m h x y = elim h [
      | inl same ↦ (let e : n ≡ m = same_Some n m (sym x ∙ (ap (slice_get ns) same ∙ y)) in omega arith)
      | inr way ↦ leads_falls ns c within a b n m way x y
    ]

pub are_numbers : (s : OpSystem) (edges : List (SmallVec ℕ)) (ns : List ℕ) → length edges ≡ s.grammar.count → ((a b : ℕ) → HasEdge edges a b ↔ IsStep s.grammar.productions.items s.ops.items a b) → AreWithin edges → AreComponents edges ns → AreNumbers s ns
are_numbers s edges ns len is within c = record {
  size = c.size ∙ len;
  falls = λ a b n m d x y. reach_falls s.grammar.productions.items s.ops.items edges is ns c within a.0 b.0 n m (depends_reach s.grammar.productions.items s.ops.items edges is (Nt a) (Nt b) d a b refl refl) x y;
  joined = λ a b n x y. reach_depends s.grammar.productions.items s.ops.items edges is a b (c.joined a.0 b.0 n x y);
}

-- an operation is in a cycle where its operand has the number of what it makes
pub is_in_cycle : (s : OpSystem) (ns : List ℕ) (rule : OpRule) (n m : ℕ) → AreNumbers s ns → slice_get ns rule.left.0 ≡ Some n → slice_get ns rule.operand.0 ≡ Some m → n ≡ m → IsInCycle s rule
is_in_cycle s ns rule n m are x y same = IsCircular.cycle (Nt rule.left) (Nt rule.operand) rule.op (are.joined rule.operand rule.left m y (subst (λ (k : ℕ). slice_get ns rule.left.0 ≡ Some k) same x))

pub any_in_cycle : (s : OpSystem) (rule : OpRule) → rule.op ≡ Any → IsInCycle s rule
any_in_cycle s rule is = subst (λ (o : Op). IsCircular (RowOf s) (Nt rule.left) o (Nt rule.operand)) (sym is) (IsCircular.any (Nt rule.left) (Nt rule.operand))

pub in_cycle_is : (s : OpSystem) (ns : List ℕ) (rule : OpRule) (n m : ℕ) → AreNumbers s ns → Contains s.ops.items rule → (rule.op ≡ Any → ⊥) → slice_get ns rule.left.0 ≡ Some n → slice_get ns rule.operand.0 ≡ Some m → IsInCycle s rule → n ≡ m
in_cycle_is s ns rule n m are has not_any x y h = at (Nt rule.left) (Nt rule.operand) rule.op refl refl not_any h
  where
    down : DependsOn (RowOf s) (Nt rule.left) (Nt rule.operand)
    down = step_depends s.grammar.productions.items s.ops.items rule.left rule.operand (IsStep.by_rule rule has refl refl)

    at : (a c : Symbol) (op : Op) → a ≡ Nt rule.left → c ≡ Nt rule.operand → (op ≡ Any → ⊥) → IsCircular (RowOf s) a op c → n ≡ m
    at _ _ _ e f never (IsCircular.cycle a c op d) =
        let up = are.falls rule.operand rule.left m n (subst (λ (z : Symbol). DependsOn (RowOf s) z (Nt rule.left)) f (subst (DependsOn (RowOf s) c) e d)) y x in
        let low = are.falls rule.left rule.operand n m down x y in
        omega arith
    at _ _ _ e f never (IsCircular.any a c) = absurd (never refl)

-- one rule more
pub marks_more : (s : OpSystem) (marks : List Bool) (n : ℕ) (rule : OpRule) (mark : Bool) → length marks ≡ n → slice_get s.ops.items n ≡ Some rule → IsTrue mark ↔ IsInCycle s rule
    → ((i : ℕ) (r : OpRule) (m : Bool) → slice_get s.ops.items i ≡ Some r → slice_get marks i ≡ Some m → IsTrue m ↔ IsInCycle s r)
    → (i : ℕ) (r : OpRule) (m : Bool) → slice_get s.ops.items i ≡ Some r → slice_get (marks ++ mark ∷ []) i ≡ Some m → IsTrue m ↔ IsInCycle s r
marks_more s marks n rule mark len at is before i r m here found = elim (push_cases marks mark i m found) [
  | inl old ↦ before i r m here old.1
  | inr new ↦
      let own : rule ≡ r = same_Some rule r (sym at ∙ (ap (slice_get s.ops.items) (sym (new.0 ∙ len)) ∙ here)) in
      subst (λ (x : Bool). IsTrue x ↔ IsInCycle s r) new.1 (subst (λ (x : OpRule). IsTrue mark ↔ IsInCycle s x) own is)
]

pub same_number : (a b : ℕ) → IsTrue (nat_eq a b) → a ≡ b
same_number a b h = grind (arith, h)
