-- From places of rows to rows.
use Rattle.std.proofs.Common.{◌≡◌, ◌∙◌, ◌<◌, ◌↔◌, ℕ, zero, suc, true, false, List, [], length, get_or, map, Some, Contains, sym, ap, subst, arith}
use Rattle.std.specs.Prelude.{◌==◌, slice_get}
use Rattle.std.specs.List.{All}
use Rattle.std.proofs.lemmas.Option.{slice_get_within, slice_get-get_or, same_Some}
use Rattle.std.proofs.lemmas.Map.Views.{exact_unsigned_eq}
use Rattle.text_base.specs.declared.numbers.Nt as nt
use Rattle.cfg_grammar.specs.declared.production.Production.{Production}
use Rattle.op_system.specs.declared.system.OpRule.{OpRule}
use Rattle.op_system.specs.declared.system.OpSystem.{OpSystem}
use Rattle.op_bytes.proofs.ListLemmas.{placed, contained, to_map}
use Rattle.op_bytes.proofs.EdgeLemmas.{left_below, rule_left_below}
use Rattle.equal_sets.specs.Sets.{right_of}
use Rattle.equal_sets.specs.Alike.{AreAlikeAt, AreSame, AreSameAt, ArePaired, HasRights, HasRules, IsEqual, LeadsLower, IsLower, IsAlias}
use Rattle.equal_sets.proofs.SetLemmas.{same_nt}

-- these are the places of a number in a list of keys
abbrev pub ArePlacesOf : List ℕ → ℕ → List ℕ → Type 0
ArePlacesOf keys a places = (i : ℕ) → Contains places i ↔ (slice_get keys i ≡ Some a)

abbrev pub left_keys : OpSystem → List ℕ
left_keys s = map (λ (p : Production). p.left.0) s.grammar.productions.items

abbrev pub rule_keys : OpSystem → List ℕ
rule_keys s = map (λ (r : OpRule). r.left.0) s.ops.items

-- what is paired with a member of the first list
paired : (P : ℕ → ℕ → Type 0) (xs ys : List ℕ) → ArePaired P xs ys → (i : ℕ) → Contains xs i → (k : ℕ) × Contains ys k × P i k
paired P xs ys are i has =
    let at = placed xs i has in
    let lt = slice_get_within xs at.0 i at.1 in
    let there = slice_get-get_or ys at.0 0 (let l = are.long in omega (arith, lt, l)) in
    (get_or ys at.0 0, contained ys at.0 (get_or ys at.0 0) there, are.each at.0 i (get_or ys at.0 0) at.1 there)

paired_back : (P : ℕ → ℕ → Type 0) (xs ys : List ℕ) → ArePaired P xs ys → (i : ℕ) → Contains ys i → (k : ℕ) × Contains xs k × P k i
paired_back P xs ys are i has =
    let at = placed ys i has in
    let lt = slice_get_within ys at.0 i at.1 in
    let there = slice_get-get_or xs at.0 0 (let l = are.long in omega (arith, lt, l)) in
    (get_or xs at.0 0, contained xs at.0 (get_or xs at.0 0) there, are.each at.0 (get_or xs at.0 0) i there at.1)

module _ (s : OpSystem) (sets : List nt.Nt) where
  abbrev ps : List Production
  ps = s.grammar.productions.items

  -- the place of a production of a nonterminal
  right_place : (a : nt.Nt) (places : List ℕ) → ArePlacesOf (left_keys s) a.0 places → (p : Production) → Contains ps p → p.left ≡ a
      → (i : ℕ) × Contains places i × (slice_get ps i ≡ Some p)
  right_place a places are p among left =
      let at = placed ps p among in
      let key : slice_get (left_keys s) at.0 ≡ Some a.0 = to_map (λ (p : Production). p.left.0) ps at.0 p at.1 ∙ ap (λ (n : nt.Nt). Some n.0) left in
      (at.0, (are at.0).1 key, at.1)

  -- the production at a place of a nonterminal
  right_at : (a : nt.Nt) (places : List ℕ) → ArePlacesOf (left_keys s) a.0 places → (i : ℕ) → Contains places i → (p : Production) → slice_get ps i ≡ Some p → p.left ≡ a
  right_at a places are i has p at =
      let key : slice_get (left_keys s) i ≡ Some a.0 = (are i).0 has in
      same_nt p.left a (same_Some p.left.0 a.0 (sym (to_map (λ (p : Production). p.left.0) ps i p at) ∙ key))

  rule_place : (a : nt.Nt) (places : List ℕ) → ArePlacesOf (rule_keys s) a.0 places → (r : OpRule) → Contains s.ops.items r → r.left ≡ a
      → (i : ℕ) × Contains places i × (slice_get s.ops.items i ≡ Some r)
  rule_place a places are r among left =
      let at = placed s.ops.items r among in
      let key : slice_get (rule_keys s) at.0 ≡ Some a.0 = to_map (λ (r : OpRule). r.left.0) s.ops.items at.0 r at.1 ∙ ap (λ (n : nt.Nt). Some n.0) left in
      (at.0, (are at.0).1 key, at.1)

  rule_at : (a : nt.Nt) (places : List ℕ) → ArePlacesOf (rule_keys s) a.0 places → (i : ℕ) → Contains places i → (r : OpRule) → slice_get s.ops.items i ≡ Some r → r.left ≡ a
  rule_at a places are i has r at =
      let key : slice_get (rule_keys s) i ≡ Some a.0 = (are i).0 has in
      same_nt r.left a (same_Some r.left.0 a.0 (sym (to_map (λ (r : OpRule). r.left.0) s.ops.items i r at) ∙ key))

  -- productions that are alike, one by one
  pub rights_paired : (a b : nt.Nt) (xs ys : List ℕ) → ArePlacesOf (left_keys s) a.0 xs → ArePlacesOf (left_keys s) b.0 ys → ArePaired (AreAlikeAt ps sets) xs ys → HasRights s sets a b
  rights_paired a b xs ys own other are p among left =
      let at = right_place a xs own p among left in
      let pair = paired (AreAlikeAt ps sets) xs ys are at.0 at.1 in
      let alike = pair.2 in
      let first_is : alike.first ≡ p = same_Some alike.first p (sym alike.first_at ∙ at.2) in
      record {
        other = alike.second;
        among = contained ps pair.0 alike.second alike.second_at;
        left = right_at b ys other pair.0 pair.1 alike.second alike.second_at;
        alike = subst (λ (q : Production). right_of sets q.right ≡ right_of sets alike.second.right) first_is alike.alike;
      }

  pub rights_paired_back : (a b : nt.Nt) (xs ys : List ℕ) → ArePlacesOf (left_keys s) a.0 xs → ArePlacesOf (left_keys s) b.0 ys → ArePaired (AreAlikeAt ps sets) xs ys → HasRights s sets b a
  rights_paired_back a b xs ys own other are p among left =
      let at = right_place b ys other p among left in
      let pair = paired_back (AreAlikeAt ps sets) xs ys are at.0 at.1 in
      let alike = pair.2 in
      let second_is : alike.second ≡ p = same_Some alike.second p (sym alike.second_at ∙ at.2) in
      record {
        other = alike.first;
        among = contained ps pair.0 alike.first alike.first_at;
        left = right_at a xs own pair.0 pair.1 alike.first alike.first_at;
        alike = subst (λ (q : Production). right_of sets q.right ≡ right_of sets alike.first.right) second_is (sym alike.alike);
      }

  turn_same : (r q : OpRule) → AreSame s sets r q → AreSame s sets q r
  turn_same r q is = record { op = sym is.op; operand = sym is.operand; cycle = (is.cycle.1, is.cycle.0) }

  pub rules_paired : (a b : nt.Nt) (xs ys : List ℕ) → ArePlacesOf (rule_keys s) a.0 xs → ArePlacesOf (rule_keys s) b.0 ys → ArePaired (AreSameAt s sets) xs ys → HasRules s sets a b
  rules_paired a b xs ys own other are r among left =
      let at = rule_place a xs own r among left in
      let pair = paired (AreSameAt s sets) xs ys are at.0 at.1 in
      let same = pair.2 in
      let first_is : same.first ≡ r = same_Some same.first r (sym same.first_at ∙ at.2) in
      record {
        other = same.second;
        among = contained s.ops.items pair.0 same.second same.second_at;
        left = rule_at b ys other pair.0 pair.1 same.second same.second_at;
        same = subst (λ (q : OpRule). AreSame s sets q same.second) first_is same.same;
      }

  pub rules_paired_back : (a b : nt.Nt) (xs ys : List ℕ) → ArePlacesOf (rule_keys s) a.0 xs → ArePlacesOf (rule_keys s) b.0 ys → ArePaired (AreSameAt s sets) xs ys → HasRules s sets b a
  rules_paired_back a b xs ys own other are r among left =
      let at = rule_place b ys other r among left in
      let pair = paired_back (AreSameAt s sets) xs ys are at.0 at.1 in
      let same = pair.2 in
      let second_is : same.second ≡ r = same_Some same.second r (sym same.second_at ∙ at.2) in
      record {
        other = same.first;
        among = contained s.ops.items pair.0 same.first same.first_at;
        left = rule_at a xs own pair.0 pair.1 same.first same.first_at;
        same = subst (λ (q : OpRule). AreSame s sets q same.first) second_is (turn_same same.first same.second same.same);
      }

  pub equal_by : (a b : nt.Nt) (xs ys us vs : List ℕ) → ArePlacesOf (left_keys s) a.0 xs → ArePlacesOf (left_keys s) b.0 ys → ArePlacesOf (rule_keys s) a.0 us → ArePlacesOf (rule_keys s) b.0 vs
      → ArePaired (AreAlikeAt ps sets) xs ys → ArePaired (AreSameAt s sets) us vs → IsEqual s sets a b
  equal_by a b xs ys us vs x y u v rights rules = record {
    rights = rights_paired a b xs ys x y rights;
    rights_back = rights_paired_back a b xs ys x y rights;
    rules = rules_paired a b us vs u v rules;
    rules_back = rules_paired_back a b us vs u v rules;
  }

  -- all productions lead lower, and there is one, and no rule
  pub alias_by : (numbers : List ℕ) (a b : nt.Nt) (xs us : List ℕ) → ArePlacesOf (left_keys s) a.0 xs → ArePlacesOf (rule_keys s) a.0 us → 0 < length xs → us ≡ []
      → ((k i : ℕ) → slice_get xs k ≡ Some i → LeadsLower s numbers sets a b i) → IsAlias s numbers sets a b
  alias_by numbers a b xs us own rules long none leads =
      let first = slice_get-get_or xs 0 0 long in
      let l = leads 0 (get_or xs 0 0) first in
      record {
        some = l.production;
        among = contained ps (get_or xs 0 0) l.production l.at;
        left = right_at a xs own (get_or xs 0 0) (contained xs 0 (get_or xs 0 0) first) l.production l.at;
        lower = λ p among left.
            let at = right_place a xs own p among left in
            let place = placed xs at.0 at.1 in
            let m = leads place.0 at.0 place.1 in
            subst (IsLower numbers sets a b) (same_Some m.production p (sym m.at ∙ at.2)) m.is;
        no_rule = λ r among left.
            let at = rule_place a us rules r among left in
            let none_has : Contains [] at.0 = subst (λ (l : List ℕ). Contains l at.0) none at.1 in
            absurd (omega (arith, none_has.1));
      }

-- a number is 0 or not, by its test
pub not_zero : (n : ℕ) → (n == 0) ≡ false → 0 < n
not_zero zero e = absurd (cc)
not_zero (suc n) e = omega arith

pub is_zero : (n : ℕ) → (n == 0) ≡ true → n ≡ 0
is_zero n e = exact_unsigned_eq n 0 e

-- keys are below the count
all_of : {X : Type 0} (P : X → Type 0) (xs : List X) → ((x : X) → Contains xs x → P x) → All P xs
all_of P xs each k d lt = each (get_or xs k d) (contained xs k (get_or xs k d) (slice_get-get_or xs k d lt))

pub lefts_below : (s : OpSystem) → All (λ (p : Production). p.left.0 < s.grammar.count) s.grammar.productions.items
lefts_below s = all_of (λ (p : Production). p.left.0 < s.grammar.count) s.grammar.productions.items (λ p has. left_below s.grammar.count s.grammar.productions.items p s.grammar.below has)

pub rule_lefts_below : (s : OpSystem) → All (λ (r : OpRule). r.left.0 < s.grammar.count) s.ops.items
rule_lefts_below s = all_of (λ (r : OpRule). r.left.0 < s.grammar.count) s.ops.items (λ r has. rule_left_below s.grammar.count s.ops.items r s.rules_below has)
