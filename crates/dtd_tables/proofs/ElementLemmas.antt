-- One element gets more attributes.
use Rattle.std.proofs.Common.{◌≡◌, ◌∙◌, ℕ, ◌<◌, ◌≤◌, true, List, [], ◌∷◌, ◌++◌, length, get_or, set, map, Contains, Some, None, sym, ap, subst, arith}
use Rattle.dtd_model.specs.Lawful.{attribute_limit, is_distinct}
use Rattle.dtd_model.specs.Table.{Declared, declared_of, Rule, rule_of, holding_of}
use Rattle.std.specs.declared.vec.Vec.{Vec}
use Rattle.std.specs.declared.alloc.Global.{Global}
use Rattle.dtd_model.specs.declared.dtd.AttrRule.{AttrRule}
use Rattle.dtd_model.specs.declared.dtd.ElementRule.{ElementRule}
use Rattle.dtd_texts.specs.ContentModels.{number_of}
use Rattle.dtd_texts.specs.Heads.{same}
use Rattle.dtd_texts.specs.Tables.{with_others}
use Rattle.dtd_tables.specs.declared.parts.List.{List as CodeList}
use Rattle.dtd_tables.specs.declared.refusal.TableRefusal.{TableRefusal}
use Rattle.dtd_tables.specs.declared.refusal.TableRefusal.TheVariants.{Twice, Undeclared, Refused, LeftOut, Limit, Memory}
use Rattle.dtd_tables.specs.Updates.{with_attributes, updated, rule_names, HasFew, HaveFew}
use Rattle.dtd_tables.specs.Views.{list_said, updated_by, IsCrowded, IsListCause, IsNamed, AreNamed}
use Rattle.dtd_tables.proofs.Lists.{map_set, map_get, map_contains, map_more, length_map}
use Rattle.dtd_tables.proofs.Updates.{placed, not_placed, few_at, few_set, updated_by_more}

-- the element at this place, and what is known of it
pub record IsAt (old : List ElementRule) (k : ℕ) (was : ElementRule) (n : List ℕ) : Type 0 where
  pub within : k < length old
  pub item : was ≡ get_or old k was
  pub named : same n was.name ≡ true
  pub update : (ds : List Declared) → updated n ds (map rule_of old) ≡ set (map rule_of old) k (with_attributes (rule_of was) ds)

pub is_at : (old : List ElementRule) (k : ℕ) (was : ElementRule) (n : List ℕ) (names : List (List ℕ)) → is_distinct names ≡ true → rule_names (map rule_of old) ≡ names → Some k ≡ number_of names n → was ≡ get_or old k was → IsAt old k was n
is_at old k was n names once e f item =
    let dist : is_distinct (rule_names (map rule_of old)) ≡ true = ap is_distinct e ∙ once in
    let at : number_of (rule_names (map rule_of old)) n ≡ Some k = ap (λ ns. number_of ns n) e ∙ sym f in
    let p = λ (ds : List Declared). placed n ds (map rule_of old) (rule_of was) k dist at in
    let there : get_or (map rule_of old) k (rule_of was) ≡ rule_of was = map_get rule_of old k was ∙ ap rule_of (sym item) in
    let long = length_map rule_of old in
    let less = (p []).within in
    record {
      within = omega (arith, long, less);
      item = item;
      named = subst (λ (r : Rule). same n r.name ≡ true) there (p []).there;
      update = λ ds. (p ds).is ∙ ap (λ (r : Rule). set (map rule_of old) k (with_attributes r ds)) there;
    }

pub may_add : (old : List ElementRule) (k : ℕ) (was : ElementRule) (n : List ℕ) → IsAt old k was n → HaveFew (map rule_of old) → length was.attributes.items ≤ attribute_limit
may_add old k was n at few =
    let long = length_map rule_of old in
    let less = at.within in
    let there : get_or (map rule_of old) k (rule_of was) ≡ rule_of was = map_get rule_of old k was ∙ ap rule_of (sym at.item) in
    let h : HasFew (rule_of was) = subst HasFew there (few_at (map rule_of old) k (rule_of was) few (omega (arith, long, less))) in
    let size = length_map declared_of was.attributes.items in
    omega (arith, h, size)

pub element_put : (old : List ElementRule) (k : ℕ) (was now : ElementRule) (n : List ℕ) (ds : List Declared) → IsAt old k was n → rule_of now ≡ with_attributes (rule_of was) ds → map rule_of (set old k now) ≡ updated n ds (map rule_of old)
element_put old k was now n ds at e = map_set rule_of old k now ∙ ap (λ (r : Rule). set (map rule_of old) k r) e ∙ sym (at.update ds)

pub few_put : (old : List ElementRule) (k : ℕ) (now : ElementRule) → HaveFew (map rule_of old) → length now.attributes.items ≤ attribute_limit → HaveFew (map rule_of (set old k now))
few_put old k now few h =
    let size = length_map declared_of now.attributes.items in
    subst HaveFew (sym (map_set rule_of old k now)) (few_set (map rule_of old) k (rule_of now) few (omega (arith, h, size)))

pub put_nowhere : (old : List ElementRule) (n : List ℕ) (ds : List Declared) (names : List (List ℕ)) → rule_names (map rule_of old) ≡ names → None ≡ number_of names n → map rule_of old ≡ updated n ds (map rule_of old)
put_nowhere old n ds names e f = sym (not_placed n ds (map rule_of old) (ap (λ ns. number_of ns n) e ∙ sym f))

pub put_refused : (old : List ElementRule) (k : ℕ) (was : ElementRule) (list : CodeList) (r : TableRefusal) → IsAt old k was list.name → IsCrowded (with_others (map declared_of was.attributes.items) (map declared_of list.rules.items)) r
    → IsListCause (map rule_of old) list r
put_refused old k was list (Twice name) at h = h
put_refused old k was list (Undeclared name) at h = h
put_refused old k was list (Refused place) at h = h
put_refused old k was list (LeftOut place) at h = h
put_refused old k was list (Limit count) at h = record {
  rule = rule_of was;
  among = subst (λ (x : ElementRule). Contains (map rule_of old) (rule_of x)) (sym at.item) (map_contains rule_of old k was at.within);
  there = at.named;
  crowded = h;
}
put_refused old k was list Memory at h = tt

-- in a row of lists

pub named_at : (all before : List CodeList) (x : CodeList) (rest : List CodeList) → AreNamed all → all ≡ before ++ x ∷ rest → IsNamed x
named_at all before x rest named e = inner before (subst AreNamed e named)
  where
    inner : (before : List CodeList) → AreNamed (before ++ x ∷ rest) → IsNamed x
    inner [] h = h.0
    inner (y ∷ ys) h = inner ys h.1

pub updated_more : (before : List CodeList) (x : CodeList) (rs old new : List Rule) → old ≡ updated_by (map list_said before) rs → new ≡ updated x.name (map declared_of x.rules.items) old → new ≡ updated_by (map list_said (before ++ x ∷ [])) rs
updated_more before x rs old new e f =
    f ∙ ap (updated x.name (map declared_of x.rules.items)) e ∙ sym (updated_by_more (map list_said before) (list_said x ∷ []) rs) ∙ ap (λ ss. updated_by ss rs) (sym (map_more list_said before (x ∷ [])))

pub rule_added : (was : ElementRule) (rules : Vec AttrRule Global) (ds : List Declared) → map declared_of rules.items ≡ with_others (map declared_of was.attributes.items) ds
    → rule_of (record { name = was.name; content = was.content; attributes = rules }) ≡ with_attributes (rule_of was) ds
rule_added was rules ds e = ap (λ (ds : List Declared). let r : Rule = record { name = was.name; holding = holding_of was.content; attributes = ds } in r) e
