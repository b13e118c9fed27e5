-- The uses of nonterminals in productions.
use Rattle.std.proofs.Common.{◌≡◌, ◌<◌, ◌≤◌, ◌+◌, ℕ, true, List, [], ◌∷◌, length, get_or, Some, slice_get, Contains, inl, inr, sym, ◌∙◌, ap, subst, arith}
use Rattle.std.specs.Prelude.{nat_lt}
use Rattle.std.specs.List.{All, list_all}
use Rattle.std.proofs.lemmas.Bool.{cases_eq, ltb-true}
use Rattle.std.proofs.lemmas.Option.{slice_get_within, same_Some}
use Rattle.std.proofs.lemmas.List.Elements.{Contains-append_cases, Contains-append_left, Contains-append_right, Contains-get_or}
use Rattle.text_base.specs.declared.numbers.Nt as nt
use Rattle.cfg_grammar.specs.declared.symbol.Symbol.{Symbol}
use Rattle.cfg_grammar.specs.declared.symbol.Symbol.TheVariants.{Range, Token, Nt}
use Rattle.cfg_grammar.specs.declared.production.Right.{Right}
use Rattle.cfg_grammar.specs.declared.production.Right.TheVariants.{Empty, One, Two}
use Rattle.cfg_grammar.specs.declared.production.Production.{Production}
use Rattle.cfg_grammar.specs.Below.{symbols_of, symbol_below, production_below}
use Rattle.useful_nonterminals.proofs.RuleLemmas.{in_flat_map, flat_map_has}
use Rattle.op_system.specs.declared.system.OpRule.{OpRule}
use Rattle.op_system.specs.declared.system.OpSystem.{OpSystem}
use Rattle.op_system.specs.Rules.{rule_below}
use Rattle.least_sets.specs.Bytes.{Adds}
use Rattle.op_bytes.specs.SystemBytes.{HasBytes}
use Rattle.cfg_grammar.specs.Bytes.{FirstHaveBytes}
use Rattle.op_bytes.specs.Fitting.{AreFittingRules}
use Rattle.op_bytes.specs.declared.uses.Use.{Use}
use Rattle.op_bytes.specs.Work.{uses_in, uses_on, uses_of}
use Rattle.op_bytes.proofs.ListLemmas.{one_of, none_in, only_in, first_in, all_at, first_so, second_so, placed}

-- a use is of a production
pub record IsUse (ps : List Production) (u : Use) : Type 0 where
  pub production : Production
  pub has : Contains ps production
  pub to : u.to ≡ production.left.0
  pub on : Contains (symbols_of production.right) (Nt (record { 0 = u.from }))

in_symbol : (left : ℕ) (s : Symbol) (u : Use) → Contains (uses_in left s) u → (u.to ≡ left) × (s ≡ Nt (record { 0 = u.from }))
in_symbol left (Range r) u h = none_in u h
in_symbol left (Token t) u h = none_in u h
in_symbol left (Nt a) u h =
    let e = only_in (record { from = a.0; to = left }) u h in
    (sym (ap (λ (x : Use). x.to) e), ap (λ (x : Use). Nt (record { 0 = x.from })) e)

on_right : (left : ℕ) (right : Right) (u : Use) → Contains (uses_on left right) u → (u.to ≡ left) × Contains (symbols_of right) (Nt (record { 0 = u.from }))
on_right left Empty u h = none_in u h
on_right left (One a) u h = let e = in_symbol left a u h in (e.0, (0, omega arith, e.1))
on_right left (Two a b) u h = elim (Contains-append_cases (uses_in left a) (uses_in left b) u h) [
  | inl first ↦ (let e = in_symbol left a u first in (e.0, (0, omega arith, e.1)))
  | inr second ↦ (let e = in_symbol left b u second in (e.0, (1, omega arith, e.1)))
]

pub use_is : (ps : List Production) (u : Use) → Contains (uses_of ps) u → IsUse ps u
use_is ps u h =
    let p = in_flat_map (λ (p : Production). uses_on p.left.0 p.right) ps u h in
    let e = on_right p.0.left.0 p.0.right u p.2 in
    record { production = p.0; has = p.1; to = e.0; on = e.1 }

has_symbol : (left x : ℕ) (s : Symbol) → s ≡ Nt (record { 0 = x }) → Contains (uses_in left s) (record { from = x; to = left })
has_symbol left x s e = subst (λ (z : Symbol). Contains (uses_in left z) (record { from = x; to = left })) (sym e) (first_in (record { from = x; to = left }) [])

has_right : (left x : ℕ) (right : Right) → Contains (symbols_of right) (Nt (record { 0 = x })) → Contains (uses_on left right) (record { from = x; to = left })
has_right left x Empty h = none_in (Nt (record { 0 = x })) h
has_right left x (One a) h = has_symbol left x a (only_in a (Nt (record { 0 = x })) h)
has_right left x (Two a b) h = elim (one_of a (b ∷ []) (Nt (record { 0 = x })) h) [
  | inl same ↦ Contains-append_left (uses_in left a) (uses_in left b) (record { from = x; to = left }) (has_symbol left x a same)
  | inr more ↦ Contains-append_right (uses_in left a) (uses_in left b) (record { from = x; to = left }) (has_symbol left x b (only_in b (Nt (record { 0 = x })) more))
]

pub is_use : (ps : List Production) (p : Production) (x : ℕ) → Contains ps p → Contains (symbols_of p.right) (Nt (record { 0 = x })) → Contains (uses_of ps) (record { from = x; to = p.left.0 })
is_use ps p x has on = flat_map_has (λ (p : Production). uses_on p.left.0 p.right) ps p (record { from = x; to = p.left.0 }) has (has_right p.left.0 x p.right on)

-- both numbers are below the count
pub use_below : (count : ℕ) (ps : List Production) (u : Use) → list_all (production_below count) ps ≡ true → IsUse ps u → (u.from < count) × (u.to < count)
use_below count ps u h is =
    let p = is.production in
    let t = all_at (production_below count) ps p h is.has in
    let l = ltb-true p.left.0 count (first_so (nat_lt p.left.0 count) (list_all (symbol_below count) (symbols_of p.right)) t) in
    let r = ltb-true u.from count (all_at (symbol_below count) (symbols_of p.right) (Nt (record { 0 = u.from })) (second_so (nat_lt p.left.0 count) (list_all (symbol_below count) (symbols_of p.right)) t) is.on) in
    let e = is.to in
    (r, omega arith)

pub rule_below_so : (count : ℕ) (rs : List OpRule) (r : OpRule) → list_all (rule_below count) rs ≡ true → Contains rs r → (r.left.0 < count) × (r.operand.0 < count)
rule_below_so count rs r h has =
    let t = all_at (rule_below count) rs r h has in
    (ltb-true r.left.0 count (first_so (nat_lt r.left.0 count) (nat_lt r.operand.0 count) t), ltb-true r.operand.0 count (second_so (nat_lt r.left.0 count) (nat_lt r.operand.0 count) t))

pub left_below_so : (count : ℕ) (ps : List Production) (p : Production) → list_all (production_below count) ps ≡ true → Contains ps p → p.left.0 < count
left_below_so count ps p h has = ltb-true p.left.0 count (first_so (nat_lt p.left.0 count) (list_all (symbol_below count) (symbols_of p.right)) (all_at (production_below count) ps p h has))

-- bytes are below 256
pub fitting_more_rules : (rs : List OpRule) (n : ℕ) (r : OpRule) → slice_get rs n ≡ Some r → AreFittingRules rs n → ((byte : ℕ) → Adds r.op byte → byte < 256) → AreFittingRules rs (n + 1)
fitting_more_rules rs n r at before here k q byte lt found adds = elim (cases_eq k n) [
  | inl same ↦ (let own : q ≡ r = same_Some q r (sym found ∙ (ap (slice_get rs) same ∙ at)) in here byte (subst (λ (x : OpRule). Adds x.op byte) own adds))
  | inr other ↦ before k q byte (omega arith) found adds
]

pub fitting_all_rules : (rs : List OpRule) (n : ℕ) → length rs ≤ n → AreFittingRules rs n → AreFittingRules rs (length rs)
fitting_all_rules rs n le before k q byte lt found adds = before k q byte (omega arith) found adds

pub has_bytes : (s : OpSystem) → FirstHaveBytes s.grammar.productions.items (length s.grammar.productions.items) → AreFittingRules s.ops.items (length s.ops.items) → HasBytes s
has_bytes s f g = record {
  ranges = λ p range has on. let at = placed s.grammar.productions.items p has in f at.0 p (slice_get_within s.grammar.productions.items at.0 p at.1) at.1 range on;
  literals = λ rule byte has adds. let at = placed s.ops.items rule has in g at.0 rule byte (slice_get_within s.ops.items at.0 rule at.1) at.1 adds;
}

-- all uses are below the count
pub uses_to_below : (count : ℕ) (ps : List Production) (uses : List Use) → list_all (production_below count) ps ≡ true → uses ≡ uses_of ps → All (λ (u : Use). u.to < count) uses
uses_to_below count ps uses h is k d lt = (use_below count ps (get_or uses k d) h (use_is ps (get_or uses k d) (subst (λ (us : List Use). Contains us (get_or uses k d)) is (Contains-get_or uses k d lt)))).1

pub uses_from_below : (count : ℕ) (ps : List Production) (uses : List Use) → list_all (production_below count) ps ≡ true → uses ≡ uses_of ps → All (λ (u : Use). u.from < count) uses
uses_from_below count ps uses h is k d lt = (use_below count ps (get_or uses k d) h (use_is ps (get_or uses k d) (subst (λ (us : List Use). Contains us (get_or uses k d)) is (Contains-get_or uses k d lt)))).0
