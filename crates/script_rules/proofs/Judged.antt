-- Derivations whose parts are judged are those of the language as far as their parts stand for something.
use Rattle.std.proofs.Common.{◌≡◌, ℕ, true, false, nat_lt, List, [], ◌∷◌, refl, sym, ◌∙◌, ap, subst, Option, Some, None}
use Rattle.lr_tables.specs.declared.rule.Rule.{Rule}
use Rattle.lr_tables.specs.declared.event.Event as event
use Rattle.lr_tables.specs.Grammars.{Grammar, head, is_blocked, Derives, leaf, node, Spells, none, more}
use Rattle.lr_tables.specs.Values.{kinds, Has, Have, token, made, nothing, further}
use Rattle.php_syntax.specs.Tokens.{PlainKind, PlainToken}
use Rattle.php_trees.specs.Values.{Value, leaf as leaf_value}
use Rattle.php_trees.specs.Actions.{of_two, and_then}
use Rattle.php_trees.specs.Reads.{language, parts}
use Rattle.script_rules.specs.Parts.{Part, all_values, value_by, judge, token_part, judged}

some_is : {A : Type 0} {a b : A} → Some a ≡ Some b → a ≡ b
some_is e = cc

none_some : {A : Type 0} {x : A} {P : Type 0} → None ≡ Some x → P
none_some e = cc

cons_is : {A : Type 0} {x : A} {xs : List A} {P : Type 0} → [] ≡ x ∷ xs → P
cons_is e = cc

first_is : {A : Type 0} {x y : A} {xs ys : List A} → x ∷ xs ≡ y ∷ ys → x ≡ y
first_is e = cc

rest_is : {A : Type 0} {x y : A} {xs ys : List A} → x ∷ xs ≡ y ∷ ys → xs ≡ ys
rest_is e = cc

-- kinds of tokens are those of what they are
pub kinds_are : (ts : List PlainToken) → kinds language (parts ts) ≡ kinds judged ts
kinds_are [] = refl
kinds_are (t ∷ ts) = ap (λ (ks : List ℕ). judged.kind t ∷ ks) (kinds_are ts)

blocked_too : (g : Grammar) (r : Rule) (ts : List PlainToken) → is_blocked g r (head (kinds judged ts)) ≡ false → is_blocked g r (head (kinds language (parts ts))) ≡ false
blocked_too g r ts e = ap (λ (ks : List ℕ). is_blocked g r (head ks)) (kinds_are ts) ∙ e

blocked_before : (g : Grammar) (r : Rule) (ts : List PlainToken) → is_blocked g r (head (kinds language (parts ts))) ≡ false → is_blocked g r (head (kinds judged ts)) ≡ false
blocked_before g r ts e = sym (ap (λ (ks : List ℕ). is_blocked g r (head ks)) (kinds_are ts)) ∙ e

-- what a part stands for
record Two (a : Option Value) (b : Option (List Value)) (vs : List Value) : Type 0 where
  first : Value
  others : List Value
  is_first : a ≡ Some first
  are_others : b ≡ Some others
  are : vs ≡ first ∷ others

two_of : (a : Option Value) (b : Option (List Value)) (vs : List Value) → of_two (λ v ws. v ∷ ws) a b ≡ Some vs → Two a b vs
two_of None b vs e = none_some e
two_of (Some v) None vs e = none_some e
two_of (Some v) (Some ws) vs e = record { first = v; others = ws; is_first = refl; are_others = refl; are = sym (some_is e) }

record Made (p : ℕ) (ps : List Part) (v : Value) : Type 0 where
  values : List Value
  are : all_values ps ≡ Some values
  makes : language.act p values ≡ Some v

made_of : (p : ℕ) (ps : List Part) (v : Value) → value_by p ps ≡ Some v → Made p ps v
made_of p ps v e = go (all_values ps) refl e
  where
    go : (o : Option (List Value)) → all_values ps ≡ o → and_then o (language.act p) ≡ Some v → Made p ps v
    go None is h = none_some h
    go (Some vs) is h = record { values = vs; are = is; makes = h }

module _ (g : Grammar) where
  one_token : (prev : ℕ) (t : PlainToken) (rest : List PlainToken) (v : Value) → nat_lt (judged.kind t) g.terminals ≡ true
      → Some (leaf_value t.kind) ≡ Some v → Has g language prev (judged.kind t) (parts (t ∷ rest)) (parts rest) v
  one_token prev t rest v e is = subst (Has g language prev (judged.kind t) (parts (t ∷ rest)) (parts rest)) (some_is is) (token prev t.kind (parts rest) e)

  mutual
    -- what is judged to stand for something has it as its value
    pub value_of_part : {prev x : ℕ} {from rest : List PlainToken} {part : Part} → Has g judged prev x from rest part → (v : Value) → part.value ≡ Some v
        → Has g language prev x (parts from) (parts rest) v
    value_of_part (token prev t rest e) v is = one_token prev t rest v e is
    value_of_part (made prev p r from rest ps part got open_ free hs makes) v is =
        let m = made_of p ps v (ap (λ (q : Part). q.value) (some_is makes) ∙ is) in
        made prev p r (parts from) (parts rest) m.values v got open_ (blocked_too g r rest free) (values_of_parts hs m.values m.are) m.makes

    values_of_parts : {prev : ℕ} {xs : List ℕ} {from rest : List PlainToken} {ps : List Part} → Have g judged prev xs from rest ps → (vs : List Value) → all_values ps ≡ Some vs
        → Have g language prev xs (parts from) (parts rest) vs
    values_of_parts (nothing prev rest) vs is = subst (Have g language prev [] (parts rest) (parts rest)) (some_is is) (nothing prev (parts rest))
    values_of_parts (further prev x xs from mid rest part ps h hs) vs is =
        let two = two_of part.value (all_values ps) vs is in
        subst (Have g language prev (x ∷ xs) (parts from) (parts rest)) (sym two.are)
        (further prev x xs (parts from) (parts mid) (parts rest) two.first two.others (value_of_part h two.first two.is_first) (values_of_parts hs two.others two.are_others))

  -- and back
  pub record Judged (prev x : ℕ) (from : List PlainToken) (rest : List PlainKind) (v : Value) : Type 0 where
    pub left : List PlainToken
    pub are : parts left ≡ rest
    pub part : Part
    pub has : Has g judged prev x from left part
    pub stands : part.value ≡ Some v

  record AllJudged (prev : ℕ) (xs : List ℕ) (from : List PlainToken) (rest : List PlainKind) (vs : List Value) : Type 0 where
    left : List PlainToken
    are : parts left ≡ rest
    all : List Part
    have : Have g judged prev xs from left all
    stand : all_values all ≡ Some vs

  token_judged : (prev : ℕ) (k : PlainKind) (rest : List PlainKind) (ts : List PlainToken) → nat_lt (language.kind k) g.terminals ≡ true → parts ts ≡ k ∷ rest
      → Judged prev (language.kind k) ts rest (leaf_value k)
  token_judged prev k rest [] e is = cons_is is
  token_judged prev k rest (t ∷ ts) e is =
      let same = first_is is in
      subst (λ (j : PlainKind). Judged prev (language.kind j) (t ∷ ts) rest (leaf_value j)) same (record {
        left = ts;
        are = rest_is is;
        part = token_part t;
        has = token prev t ts (subst (λ (j : PlainKind). nat_lt (language.kind j) g.terminals ≡ true) (sym same) e);
        stands = refl;
      })

  mutual
    -- what has a value is judged to stand for it
    pub part_of_value : {prev x : ℕ} {from rest : List PlainKind} {v : Value} → Has g language prev x from rest v → (ts : List PlainToken) → parts ts ≡ from
        → Judged prev x ts rest v
    part_of_value (token prev k rest e) ts is = token_judged prev k rest ts e is
    part_of_value (made prev p r from rest vs v got open_ free hs makes) ts is =
        let all = parts_of_values hs ts is in
        record {
          left = all.left;
          are = all.are;
          part = judge p all.all;
          has = made prev p r ts all.left all.all (judge p all.all) got open_
              (blocked_before g r all.left (ap (λ (ks : List PlainKind). is_blocked g r (head (kinds language ks))) all.are ∙ free)) all.have refl;
          stands = ap (λ (o : Option (List Value)). and_then o (language.act p)) all.stand ∙ makes;
        }

    parts_of_values : {prev : ℕ} {xs : List ℕ} {from rest : List PlainKind} {vs : List Value} → Have g language prev xs from rest vs → (ts : List PlainToken) → parts ts ≡ from
        → AllJudged prev xs ts rest vs
    parts_of_values (nothing prev rest) ts is = record { left = ts; are = is; all = []; have = nothing prev ts; stand = refl }
    parts_of_values (further prev x xs from mid rest v vs h hs) ts is =
        let one = part_of_value h ts is in
        let all = parts_of_values hs one.left one.are in
        record {
          left = all.left;
          are = all.are;
          all = one.part ∷ all.all;
          have = further prev x xs ts one.left all.left one.part all.all one.has all.have;
          stand = ap (λ (o : Option Value). of_two (λ w ws. w ∷ ws) o (all_values all.all)) one.stands ∙ ap (of_two (λ w ws. w ∷ ws) (Some v)) all.stand;
        }

  -- each derivation is judged
  pub record Total (prev x : ℕ) (from : List PlainToken) (rest : List ℕ) : Type 0 where
    pub left : List PlainToken
    pub are : kinds judged left ≡ rest
    pub part : Part
    pub has : Has g judged prev x from left part

  record AllTotal (prev : ℕ) (xs : List ℕ) (from : List PlainToken) (rest : List ℕ) : Type 0 where
    left : List PlainToken
    are : kinds judged left ≡ rest
    all : List Part
    have : Have g judged prev xs from left all

  token_total : (prev k : ℕ) (rest : List ℕ) (ts : List PlainToken) → nat_lt k g.terminals ≡ true → kinds judged ts ≡ k ∷ rest → Total prev k ts rest
  token_total prev k rest [] e is = cons_is is
  token_total prev k rest (t ∷ ts) e is =
      let same = first_is is in
      record {
        left = ts;
        are = rest_is is;
        part = token_part t;
        has = subst (λ (j : ℕ). Has g judged prev j (t ∷ ts) ts (token_part t)) same (token prev t ts (subst (λ (j : ℕ). nat_lt j g.terminals ≡ true) (sym same) e));
      }

  mutual
    pub total : {prev x : ℕ} {from rest : List ℕ} {es later : List event.Event} → Derives g prev x from rest es later → (ts : List PlainToken) → kinds judged ts ≡ from
        → Total prev x ts rest
    total (leaf prev k rest later e) ts is = token_total prev k rest ts e is
    total (node prev p r from rest es later got open_ free sp) ts is =
        let all = all_total sp ts is in
        record {
          left = all.left;
          are = all.are;
          part = judge p all.all;
          has = made prev p r ts all.left all.all (judge p all.all) got open_ (ap (λ (ks : List ℕ). is_blocked g r (head ks)) all.are ∙ free) all.have refl;
        }

    all_total : {prev : ℕ} {xs from rest : List ℕ} {es later : List event.Event} → Spells g prev xs from rest es later → (ts : List PlainToken) → kinds judged ts ≡ from
        → AllTotal prev xs ts rest
    all_total (none prev rest later) ts is = record { left = ts; are = is; all = []; have = nothing prev ts }
    all_total (more prev x xs from mid rest es fs later d sp) ts is =
        let one = total d ts is in
        let all = all_total sp one.left one.are in
        record { left = all.left; are = all.are; all = one.part ∷ all.all; have = further prev x xs ts one.left all.left one.part all.all one.has all.have }
