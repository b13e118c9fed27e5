-- One nonterminal more has another that stands for it.
use Rattle.std.proofs.Common.{◌≡◌, ◌∙◌, ◌+◌, ◌<◌, ◌≤◌, ℕ, Bool, true, false, List, [], ◌∷◌, ◌++◌, length, set, inl, inr, refl, sym, ap, subst, arith}
use Rattle.std.specs.Prelude.{◌⊎◌}
use Rattle.std.proofs.lemmas.Bool.{cases_eq, cases_lt}
use Rattle.std.proofs.lemmas.List.{length-set, get_or-set_same, get_or-set_other, get_or_past, get_or_push, get_or_append_left, length_push}
use Rattle.text_base.specs.declared.numbers.Nt as nt
use Rattle.cfg_grammar.specs.declared.symbol.Symbol.{Symbol}
use Rattle.cfg_grammar.specs.declared.symbol.Symbol.TheVariants.{Range, Token, Nt}
use Rattle.cfg_grammar.specs.declared.production.Right.{Right}
use Rattle.cfg_grammar.specs.declared.production.Right.TheVariants.{Empty, One, Two}
use Rattle.op_system.specs.declared.system.OpSystem.{OpSystem}
use Rattle.equal_sets.specs.Sets.{set_of, symbol_of, right_of}
use Rattle.equal_sets.specs.Alike.{number_of, HasRights, HasRules, IsEqual, IsAlias}
use Rattle.equal_sets.specs.Fit.{Joins, IsFit, is_done, IsOpen, IsSoFar, MayStand}
use Rattle.equal_sets.specs.declared.rows.Rows.{Rows}

pub same_nt : (a b : nt.Nt) → a.0 ≡ b.0 → a ≡ b
same_nt a b e = ap (λ (x : ℕ). let n : nt.Nt = record { 0 = x } in n) e

pub set_here : (sets : List nt.Nt) (x r : nt.Nt) → x.0 < length sets → set_of (set sets x.0 r) x ≡ r
set_here sets x r lt = get_or-set_same sets x.0 r x lt

pub set_there : (sets : List nt.Nt) (x r a : nt.Nt) → (a ≡ x → ⊥) → set_of (set sets x.0 r) a ≡ set_of sets a
set_there sets x r a other = get_or-set_other sets x.0 a.0 r a (λ e. other (same_nt a x e))

pub done_here : (done : List Bool) (x : nt.Nt) → x.0 < length done → is_done (set done x.0 true) x ≡ true
done_here done x lt = get_or-set_same done x.0 true false lt

pub done_there : (done : List Bool) (x a : nt.Nt) → (a ≡ x → ⊥) → is_done (set done x.0 true) a ≡ is_done done a
done_there done x a other = get_or-set_other done x.0 a.0 true false (λ e. other (same_nt a x e))

pub true_false : (b : Bool) → b ≡ true → b ≡ false → ⊥
true_false b e f = cc

is_or_not : (a x : nt.Nt) → (a ≡ x) ⊎ (a ≡ x → ⊥)
is_or_not a x = elim (cases_eq a.0 x.0) [
  | inl e ↦ inl (same_nt a x e)
  | inr other ↦ inr (λ e. other (ap (λ (n : nt.Nt). n.0) e))
]

module _ (s : OpSystem) (numbers : List ℕ) (sets : List nt.Nt) (fit : IsFit s numbers sets) (x r : nt.Nt) (below : x.0 < s.grammar.count)
    (r_below : r.0 < s.grammar.count) («open» : IsOpen sets x) (differs : r ≡ x → ⊥) (still : set_of sets r ≡ r) where
  abbrev after : List nt.Nt
  after = set sets x.0 r

  within : x.0 < length sets
  within = let l = fit.many in omega (arith, below, l)

  here : set_of after x ≡ r
  here = set_here sets x r within

  there : (a : nt.Nt) → (a ≡ x → ⊥) → set_of after a ≡ set_of sets a
  there a other = set_there sets x r a other

  -- what stands for another nonterminal is another one
  other_set : (a : nt.Nt) → (a ≡ x → ⊥) → set_of sets a ≡ x → ⊥
  other_set a other e = other («open».alone a e)

  -- what stands afterwards is what stands for what stood
  turned : (a : nt.Nt) → set_of after (set_of sets a) ≡ set_of after a
  turned a = elim (is_or_not a x) [
    | inl e ↦ subst (λ (y : nt.Nt). set_of after (set_of sets y) ≡ set_of after y) (sym e) (ap (set_of after) «open».own)
    | inr other ↦ there (set_of sets a) (other_set a other) ∙ (fit.still a ∙ sym (there a other))
  ]

  turned_symbol : (a : Symbol) → symbol_of after (symbol_of sets a) ≡ symbol_of after a
  turned_symbol (Nt a) = ap (λ (y : nt.Nt). Nt y) (turned a)
  turned_symbol (Range q) = refl
  turned_symbol (Token t) = refl

  turned_right : (a : Right) → right_of after (right_of sets a) ≡ right_of after a
  turned_right Empty = refl
  turned_right (One a) = ap (λ (y : Symbol). One y) (turned_symbol a)
  turned_right (Two a b) = ap (λ (y : Symbol). Two y (symbol_of after (symbol_of sets b))) (turned_symbol a) ∙ ap (λ (y : Symbol). Two (symbol_of after a) y) (turned_symbol b)

  same_set : (a b : nt.Nt) → set_of sets a ≡ set_of sets b → set_of after a ≡ set_of after b
  same_set a b e = sym (turned a) ∙ (ap (set_of after) e ∙ turned b)

  same_right : (a b : Right) → right_of sets a ≡ right_of sets b → right_of after a ≡ right_of after b
  same_right a b e = sym (turned_right a) ∙ (ap (right_of after) e ∙ turned_right b)

  rights_stay : (a b : nt.Nt) → HasRights s sets a b → HasRights s after a b
  rights_stay a b has p among left =
      let h = has p among left in
      record { other = h.other; among = h.among; left = h.left; alike = same_right p.right h.other.right h.alike }

  rules_stay : (a b : nt.Nt) → HasRules s sets a b → HasRules s after a b
  rules_stay a b has q among left =
      let h = has q among left in
      record {
        other = h.other;
        among = h.among;
        left = h.left;
        same = record { op = h.same.op; operand = same_set q.operand h.other.operand h.same.operand; cycle = h.same.cycle };
      }

  equal_stays : (a b : nt.Nt) → IsEqual s sets a b → IsEqual s after a b
  equal_stays a b is = record {
    rights = rights_stay a b is.rights;
    rights_back = rights_stay b a is.rights_back;
    rules = rules_stay a b is.rules;
    rules_back = rules_stay b a is.rules_back;
  }

  alias_stays : (a b : nt.Nt) → set_of after b ≡ b → IsAlias s numbers sets a b → IsAlias s numbers after a b
  alias_stays a b own is = record {
    some = is.some;
    among = is.among;
    left = is.left;
    lower = λ p among left.
        let l = is.lower p among left in
        record { to = l.to; right = l.right; stands = sym (turned l.to) ∙ (ap (set_of after) l.stands ∙ own); lower = l.lower };
    no_rule = is.no_rule;
  }

  joins_stay : (a : nt.Nt) → (a ≡ x → ⊥) → (b : nt.Nt) → b ≡ set_of sets a → Joins s numbers sets a b → Joins s numbers after a b
  joins_stay a other b e (Joins.itself same) = Joins.itself same
  joins_stay a other b e (Joins.equal is) = Joins.equal (equal_stays a b is)
  joins_stay a other b e (Joins.alias is) =
      let stays : set_of after b ≡ b = subst (λ (y : nt.Nt). set_of after y ≡ y) (sym e) (there (set_of sets a) (other_set a other) ∙ fit.still a) in
      Joins.alias (alias_stays a b stays is)

  r_stays : set_of after r ≡ r
  r_stays = there r differs ∙ still

  pub fit_more : Joins s numbers sets x r → number_of numbers r ≤ number_of numbers x → IsFit s numbers after
  fit_more joins low = record {
    many = length-set sets x.0 r ∙ fit.many;
    still = λ a. elim (is_or_not a x) [
      | inl e ↦ subst (λ (y : nt.Nt). set_of after (set_of after y) ≡ set_of after y) (sym e) (ap (set_of after) here ∙ (r_stays ∙ sym here))
      | inr other ↦ ap (set_of after) (there a other) ∙ (there (set_of sets a) (other_set a other) ∙ (fit.still a ∙ sym (there a other)))
    ];
    below = λ a lt. elim (is_or_not a x) [
      | inl e ↦ subst (λ (y : nt.Nt). (set_of after y).0 < s.grammar.count) (sym e) (subst (λ (y : nt.Nt). y.0 < s.grammar.count) (sym here) r_below)
      | inr other ↦ subst (λ (y : nt.Nt). y.0 < s.grammar.count) (sym (there a other)) (fit.below a lt)
    ];
    low = λ a. elim (is_or_not a x) [
      | inl e ↦ subst (λ (y : nt.Nt). number_of numbers (set_of after y) ≤ number_of numbers y) (sym e) (subst (λ (y : nt.Nt). number_of numbers y ≤ number_of numbers x) (sym here) low)
      | inr other ↦ subst (λ (y : nt.Nt). number_of numbers y ≤ number_of numbers a) (sym (there a other)) (fit.low a)
    ];
    joins = λ a. elim (is_or_not a x) [
      | inl e ↦ subst (λ (y : nt.Nt). Joins s numbers after y (set_of after y)) (sym e) (subst (λ (y : nt.Nt). Joins s numbers after x y) (sym here) (first joins))
      | inr other ↦ subst (λ (y : nt.Nt). Joins s numbers after a y) (sym (there a other)) (joins_stay a other (set_of sets a) refl (fit.joins a))
    ];
  }
    where
      first : Joins s numbers sets x r → Joins s numbers after x r
      first (Joins.itself same) = Joins.itself same
      first (Joins.equal is) = Joins.equal (equal_stays x r is)
      first (Joins.alias is) = Joins.alias (alias_stays x r r_stays is)

-- a nonterminal is settled, and stands for itself
pub so_far_kept : (rows : Rows) (sets : List nt.Nt) (done : List Bool) (x : nt.Nt) → x.0 < rows.system.now.grammar.count → IsSoFar rows sets done → IsSoFar rows sets (set done x.0 true)
so_far_kept rows sets done x below was = record {
  fit = was.fit;
  long = length-set done x.0 true ∙ was.long;
  unsettled = λ a open_yet. elim (is_or_not a x) [
    | inl e ↦ absurd (true_false (is_done (set done x.0 true) x) (done_here done x (let l = was.long in omega (arith, below, l))) (subst (λ (y : nt.Nt). is_done (set done x.0 true) y ≡ false) e open_yet))
    | inr other ↦ was.unsettled a (sym (done_there done x a other) ∙ open_yet)
  ];
}

pub settled_below : (done : List Bool) (a : nt.Nt) → is_done done a ≡ true → a.0 < length done
settled_below done a is = elim (cases_lt a.0 (length done)) [
  | inl lt ↦ lt
  | inr ge ↦ absurd (true_false (is_done done a) is (get_or_past done a.0 false ge))
]

-- a nonterminal is settled, and another one stands for it
pub so_far_joined : (rows : Rows) (sets : List nt.Nt) (done : List Bool) (x r : nt.Nt) → x.0 < rows.system.now.grammar.count → is_done done x ≡ false → IsSoFar rows sets done
    → MayStand rows.numbers.items sets done x r → Joins rows.system.now rows.numbers.items sets x r → IsSoFar rows (set sets x.0 r) (set done x.0 true)
so_far_joined rows sets done x r below not_yet was may joins = record {
  fit = fit_more rows.system.now rows.numbers.items sets was.fit x r below (let lt = settled_below done r may.settled in let l = was.long in omega (arith, lt, l)) own differs may.still joins may.low;
  long = length-set done x.0 true ∙ was.long;
  unsettled = λ a still_no. elim (is_or_not a x) [
    | inl e ↦ absurd (true_false (is_done (set done x.0 true) x) (done_here done x (let l = was.long in omega (arith, below, l))) (subst (λ (y : nt.Nt). is_done (set done x.0 true) y ≡ false) e still_no))
    | inr other ↦
        let old_no = sym (done_there done x a other) ∙ still_no in
        let old = was.unsettled a old_no in
        record {
          own = set_there sets x r a other ∙ old.own;
          alone = λ b is. elim (is_or_not b x) [
            | inl e ↦ absurd (true_false (is_done done r) may.settled (subst (λ (y : nt.Nt). is_done done y ≡ false) (sym is ∙ (subst (λ (y : nt.Nt). set_of (set sets x.0 r) y ≡ r) (sym e) (set_here sets x r (let l = was.fit.many in omega (arith, below, l))))) old_no))
            | inr elsewhere ↦ old.alone b (sym (set_there sets x r b elsewhere) ∙ is)
          ];
        }
  ];
}
  where
    own : IsOpen sets x
    own = was.unsettled x not_yet

    differs : r ≡ x → ⊥
    differs e = true_false (is_done done r) may.settled (subst (λ (y : nt.Nt). is_done done y ≡ false) (sym e) not_yet)

-- at first each nonterminal stands for itself
pub record AreOwn (n : ℕ) (sets : List nt.Nt) (done : List Bool) : Type 0 where
  pub long : length sets ≡ n
  pub many : length done ≡ n
  pub own : (a : nt.Nt) → set_of sets a ≡ a
  pub none : (a : nt.Nt) → is_done done a ≡ false

pub none_own : AreOwn 0 [] []
none_own = record { long = refl; many = refl; own = λ a. refl; none = λ a. refl }

pub one_own : (n : ℕ) (sets : List nt.Nt) (done : List Bool) → AreOwn n sets done → AreOwn (n + 1) (sets ++ record { 0 = n } ∷ []) (done ++ false ∷ [])
one_own n sets done was = record {
  long = length_push sets (record { 0 = n }) ∙ ap (λ (m : ℕ). m + 1) was.long;
  many = length_push done false ∙ ap (λ (m : ℕ). m + 1) was.many;
  own = λ a. elim (cases_eq a.0 n) [
    | inl e ↦ get_or_push sets (record { 0 = n }) a a.0 (was.long ∙ sym e) ∙ sym (same_nt a (record { 0 = n }) e)
    | inr other ↦ elim (cases_lt a.0 n) [
      | inl lt ↦ get_or_append_left sets (record { 0 = n } ∷ []) a a.0 (let l = was.long in omega (arith, lt, l)) ∙ was.own a
      | inr ge ↦ get_or_past (sets ++ record { 0 = n } ∷ []) a.0 a (let l = was.long in let m = length_push sets (record { 0 = n }) in omega (arith, ge, other, l, m))
    ]
  ];
  none = λ a. elim (cases_eq a.0 n) [
    | inl e ↦ get_or_push done false false a.0 (was.many ∙ sym e)
    | inr other ↦ elim (cases_lt a.0 n) [
      | inl lt ↦ get_or_append_left done (false ∷ []) false a.0 (let l = was.many in omega (arith, lt, l)) ∙ was.none a
      | inr ge ↦ get_or_past (done ++ false ∷ []) a.0 false (let l = was.many in let m = length_push done false in omega (arith, ge, other, l, m))
    ]
  ];
}

pub own_so_far : (rows : Rows) (sets : List nt.Nt) (done : List Bool) → AreOwn rows.system.now.grammar.count sets done → IsSoFar rows sets done
own_so_far rows sets done are = record {
  fit = record {
    many = are.long;
    still = λ a. ap (set_of sets) (are.own a);
    below = λ a lt. subst (λ (y : nt.Nt). y.0 < rows.system.now.grammar.count) (sym (are.own a)) lt;
    low = λ a. subst (λ (y : nt.Nt). number_of rows.numbers.items y ≤ number_of rows.numbers.items a) (sym (are.own a)) (omega arith);
    joins = λ a. Joins.itself (are.own a);
  };
  long = are.many;
  unsettled = λ a open_yet. record { own = are.own a; alone = λ b e. sym (are.own b) ∙ e };
}
