-- Productions and rules by the sets, one after another, and that they make a system.
use Rattle.std.proofs.Common.{◌≡◌, ◌+◌, ℕ, Bool, true, false, List, [], ◌∷◌, ◌++◌, Contains, inl, inr, refl, sym, subst, arith}
use Rattle.std.specs.Prelude.{◌&&◌, nat_lt}
use Rattle.std.specs.List.{list_all}
use Rattle.std.proofs.lemmas.Bool.{ltb-true, lt-ltb}
use Rattle.std.proofs.lemmas.List.{length_push}
use Rattle.std.proofs.lemmas.List.Elements.{Contains-push_cases, Contains-append_left, Contains-push}
use Rattle.text_base.specs.declared.numbers.Nt as nt
use Rattle.cfg_grammar.specs.declared.symbol.Symbol.{Symbol}
use Rattle.cfg_grammar.specs.declared.symbol.Symbol.TheVariants.{Range, Token, Nt}
use Rattle.cfg_grammar.specs.declared.production.Right.{Right}
use Rattle.cfg_grammar.specs.declared.production.Right.TheVariants.{Empty, One, Two}
use Rattle.cfg_grammar.specs.declared.production.Production.{Production}
use Rattle.cfg_grammar.specs.Below.{symbols_of, symbol_below, production_below, AreBelow}
use Rattle.cfg_grammar.specs.Tokens.{is_no_token, production_without_token, HaveNoToken}
use Rattle.op_system.specs.declared.system.OpRule.{OpRule}
use Rattle.op_system.specs.declared.system.OpSystem.{OpSystem}
use Rattle.op_system.specs.Rules.{rule_below, RulesAreBelow}
use Rattle.op_bytes.proofs.ListLemmas.{none_in, first_in, later_in, first_so, second_so, all_at}
use Rattle.op_bytes.proofs.EdgeLemmas.{rule_left_below, operand_below}
use Rattle.equal_sets.specs.Sets.{set_of, symbol_of, right_of, production_of, rule_of}
use Rattle.equal_sets.specs.Fit.{IsFit}
use Rattle.equal_sets.specs.Written.{PutsProduction, AreProductionsOf, IsProductionOf, AreRulesOf, IsRuleOf}

module _ (sets : List nt.Nt) where
  pub no_productions : AreProductionsOf sets [] []
  no_productions = record { only = λ p has. none_in p has; all = λ p has still. none_in p has; few = omega arith }

  longer_of : (done : List Production) (p q : Production) → IsProductionOf sets done q → IsProductionOf sets (done ++ p ∷ []) q
  longer_of done p q o = record { from = o.from; among = Contains-append_left done (p ∷ []) o.from o.among; still = o.still; is = o.is }

  pub production_written : (done made after : List Production) (p : Production) → AreProductionsOf sets done made → set_of sets p.left ≡ p.left
      → PutsProduction made after (production_of sets p) → AreProductionsOf sets (done ++ p ∷ []) after
  production_written done made after p was still puts = record {
    only = λ q has. elim (puts.only q has) [
      | inl old ↦ longer_of done p q (was.only q old)
      | inr same ↦ record { from = p; among = Contains-push done p; still = still; is = same }
    ];
    all = λ q has own. elim (Contains-push_cases done p q has) [
      | inl old ↦ puts.keeps (production_of sets q) (was.all q old own)
      | inr same ↦ subst (λ (x : Production). Contains after (production_of sets x)) same puts.has
    ];
    few = let l = length_push done p in let w = was.few in let f = puts.few in omega (arith, l, w, f);
  }

  pub production_passed : (done made : List Production) (p : Production) → AreProductionsOf sets done made → (set_of sets p.left ≡ p.left → ⊥)
      → AreProductionsOf sets (done ++ p ∷ []) made
  production_passed done made p was never = record {
    only = λ q has. longer_of done p q (was.only q has);
    all = λ q has own. elim (Contains-push_cases done p q has) [
      | inl old ↦ was.all q old own
      | inr same ↦ absurd (never (subst (λ (x : Production). set_of sets x.left ≡ x.left) (sym same) own))
    ];
    few = let l = length_push done p in let w = was.few in omega (arith, l, w);
  }

  -- put behind the others
  pub put_behind : (old : List Production) (p : Production) → PutsProduction old (old ++ p ∷ []) p
  put_behind old p = record {
    keeps = λ q has. Contains-append_left old (p ∷ []) q has;
    has = Contains-push old p;
    only = λ q has. elim (Contains-push_cases old p q has) [ inl was ↦ inl was | inr same ↦ inr (sym same) ];
    few = let l = length_push old p in omega (arith, l);
  }

  -- left out, since it is there
  pub put_there : (old : List Production) (p : Production) → Contains old p → PutsProduction old old p
  put_there old p has = record { keeps = λ q h. h; has = has; only = λ q h. inl h; few = omega arith }

  pub no_rules : AreRulesOf sets [] []
  no_rules = record { only = λ r has. none_in r has; all = λ r has still. none_in r has; few = omega arith }

  longer_rule : (done : List OpRule) (p q : OpRule) → IsRuleOf sets done q → IsRuleOf sets (done ++ p ∷ []) q
  longer_rule done p q o = record { from = o.from; among = Contains-append_left done (p ∷ []) o.from o.among; still = o.still; is = o.is }

  pub rule_written : (done made after : List OpRule) (r : OpRule) → AreRulesOf sets done made → set_of sets r.left ≡ r.left → after ≡ made ++ rule_of sets r ∷ []
      → AreRulesOf sets (done ++ r ∷ []) after
  rule_written done made after r was still pushed = subst (AreRulesOf sets (done ++ r ∷ [])) (sym pushed) (record {
    only = λ q has. elim (Contains-push_cases made (rule_of sets r) q has) [
      | inl old ↦ longer_rule done r q (was.only q old)
      | inr same ↦ record { from = r; among = Contains-push done r; still = still; is = sym same }
    ];
    all = λ q has own. elim (Contains-push_cases done r q has) [
      | inl old ↦ Contains-append_left made (rule_of sets r ∷ []) (rule_of sets q) (was.all q old own)
      | inr same ↦ subst (λ (x : OpRule). Contains (made ++ rule_of sets r ∷ []) (rule_of sets x)) same (Contains-push made (rule_of sets r))
    ];
    few = let l = length_push done r in let m = length_push made (rule_of sets r) in let w = was.few in omega (arith, l, m, w);
  })

  pub rule_passed : (done made : List OpRule) (r : OpRule) → AreRulesOf sets done made → (set_of sets r.left ≡ r.left → ⊥) → AreRulesOf sets (done ++ r ∷ []) made
  rule_passed done made r was never = record {
    only = λ q has. longer_rule done r q (was.only q has);
    all = λ q has own. elim (Contains-push_cases done r q has) [
      | inl old ↦ was.all q old own
      | inr same ↦ absurd (never (subst (λ (x : OpRule). set_of sets x.left ≡ x.left) (sym same) own))
    ];
    few = let l = length_push done r in let w = was.few in omega (arith, l, w);
  }

both : (a b : Bool) → a ≡ true → b ≡ true → (a && b) ≡ true
both true true e f = refl
both true false e f = f
both false b e f = e

all_true : {X : Type 0} (test : X → Bool) (xs : List X) → ((x : X) → Contains xs x → test x ≡ true) → list_all test xs ≡ true
all_true test [] each = refl
all_true test (x ∷ xs) each = both (test x) (list_all test xs) (each x (first_in x xs)) (all_true test xs (λ y has. each y (later_in x xs y has)))

module _ (s : OpSystem) (numbers : List ℕ) (sets : List nt.Nt) (fit : IsFit s numbers sets) where
  abbrev n : ℕ
  n = s.grammar.count

  symbol_stays_below : (x : Symbol) → symbol_below n x ≡ true → symbol_below n (symbol_of sets x) ≡ true
  symbol_stays_below (Range r) h = h
  symbol_stays_below (Token t) h = h
  symbol_stays_below (Nt a) h = lt-ltb (set_of sets a).0 n (fit.below a (ltb-true a.0 n h))

  right_stays_below : (r : Right) → list_all (symbol_below n) (symbols_of r) ≡ true → list_all (symbol_below n) (symbols_of (right_of sets r)) ≡ true
  right_stays_below Empty h = h
  right_stays_below (One x) h = both (symbol_below n (symbol_of sets x)) true (symbol_stays_below x (first_so (symbol_below n x) true h)) refl
  right_stays_below (Two x y) h =
      let later = second_so (symbol_below n x) (symbol_below n y && true) h in
      both (symbol_below n (symbol_of sets x)) (symbol_below n (symbol_of sets y) && true) (symbol_stays_below x (first_so (symbol_below n x) (symbol_below n y && true) h))
      (both (symbol_below n (symbol_of sets y)) true (symbol_stays_below y (first_so (symbol_below n y) true later)) refl)

  production_stays_below : (p : Production) → production_below n p ≡ true → production_below n (production_of sets p) ≡ true
  production_stays_below p h =
      both (nat_lt (set_of sets p.left).0 n) (list_all (symbol_below n) (symbols_of (right_of sets p.right)))
      (lt-ltb (set_of sets p.left).0 n (fit.below p.left (ltb-true p.left.0 n (first_so (nat_lt p.left.0 n) (list_all (symbol_below n) (symbols_of p.right)) h))))
      (right_stays_below p.right (second_so (nat_lt p.left.0 n) (list_all (symbol_below n) (symbols_of p.right)) h))

  pub made_below : (made : List Production) → AreProductionsOf sets s.grammar.productions.items made → AreBelow n made
  made_below made are = all_true (production_below n) made (λ p has.
      let o = are.only p has in
      subst (λ (x : Production). production_below n x ≡ true) (sym o.is) (production_stays_below o.from (all_at (production_below n) s.grammar.productions.items o.from s.grammar.below o.among)))

  symbol_stays_plain : (x : Symbol) → is_no_token x ≡ true → is_no_token (symbol_of sets x) ≡ true
  symbol_stays_plain (Range r) h = h
  symbol_stays_plain (Token t) h = h
  symbol_stays_plain (Nt a) h = h

  right_stays_plain : (r : Right) → list_all is_no_token (symbols_of r) ≡ true → list_all is_no_token (symbols_of (right_of sets r)) ≡ true
  right_stays_plain Empty h = h
  right_stays_plain (One x) h = both (is_no_token (symbol_of sets x)) true (symbol_stays_plain x (first_so (is_no_token x) true h)) refl
  right_stays_plain (Two x y) h =
      let later = second_so (is_no_token x) (is_no_token y && true) h in
      both (is_no_token (symbol_of sets x)) (is_no_token (symbol_of sets y) && true) (symbol_stays_plain x (first_so (is_no_token x) (is_no_token y && true) h))
      (both (is_no_token (symbol_of sets y)) true (symbol_stays_plain y (first_so (is_no_token y) true later)) refl)

  pub made_plain : (made : List Production) → AreProductionsOf sets s.grammar.productions.items made → HaveNoToken made
  made_plain made are = all_true production_without_token made (λ p has.
      let o = are.only p has in
      subst (λ (x : Production). production_without_token x ≡ true) (sym o.is) (right_stays_plain o.from.right (all_at production_without_token s.grammar.productions.items o.from s.no_token o.among)))

  pub rules_made_below : (made : List OpRule) → AreRulesOf sets s.ops.items made → RulesAreBelow n made
  rules_made_below made are = all_true (rule_below n) made (λ r has.
      let o = are.only r has in
      subst (λ (x : OpRule). rule_below n x ≡ true) (sym o.is)
      (both (nat_lt (set_of sets o.from.left).0 n) (nat_lt (set_of sets o.from.operand).0 n)
      (lt-ltb (set_of sets o.from.left).0 n (fit.below o.from.left (rule_left_below n s.ops.items o.from s.rules_below o.among)))
      (lt-ltb (set_of sets o.from.operand).0 n (fit.below o.from.operand (operand_below n s.ops.items o.from s.rules_below o.among)))))
