-- Tags.
use Rattle.std.proofs.Common.{◌≡◌, ◌≢◌, ◌⊎◌, inl, inr, ℕ, Bool, true, false, not, ◌&&◌, List, [], ◌∷◌, ◌++◌, Option, Some, None, refl, sym, ◌∙◌, ap, subst, append_assoc, append-nil, map, arith}
use Rattle.std.specs.Prelude.{if◌then◌else◌, nat_eq, nat_le, bytes_eq, codes, length}
use Rattle.std.specs.List.{list_all}
use Rattle.std.proofs.lemmas.Bool.{and_parts}
use Rattle.std.proofs.lemmas.Bool.Decides.{nat_tests}
use Rattle.text_base.specs.declared.page_token.PageToken.TheVariants as token
use Rattle.xml_text.specs.Characters.{is_blank, is_character}
use Rattle.xml_text.specs.Names.{begins_name, in_name, is_name}
use Rattle.dtd_model.specs.Lawful.{is_lawful, is_distinct, are_names, is_lawful_rule, element_limit}
use Rattle.dtd_model.specs.Table.{Rule, Table}
use Rattle.page_model.specs.Attributes.{find_rule}
use Rattle.page_model.specs.PageTokens.{element_of}
use Rattle.page_model.specs.Parts.{attributes_then}
use Rattle.page_model.specs.Places.{Place, behind}
use Rattle.piece_steps.specs.Readers.{go, done, fail}
use Rattle.page_model.specs.Fronts.{Open, in_opener, in_tag_name, in_tag, at_empty_end, in_end_tag, standing, DeclaredStands, BehindAttributes}
use Rattle.page_model.specs.OpenTags.{OpenAttribute, between, IsFrontOfName, is_some_space, AttributeStands}
use Rattle.page_steps.specs.AttributeSteps.{AttributeMove, stays, ends_with, leaves, stops, attribute_move}
use Rattle.page_steps.specs.PageSteps.{OpenMove, end_move, tag_by, tag_move, tag_name_move, end_name_move}
use Rattle.page_steps.specs.TagSteps.{of_element, are_all}
use Rattle.page_reads.specs.Laws.{IsLawfulTable}
use Rattle.attribute_steps.specs.Among.{moved, names_behind}
use Rattle.element_attributes.proofs.Names.{same}
use Rattle.front_laws.proofs.Pages.{goes, Leads, Next, leads_here, more, as_from, go_on, ended, dead, by_test, not_both}
use Rattle.front_laws.proofs.Attributes.{blank_not_name, are_in_name, Among, over_space, over_attributes, over_sign, behind_attributes}
use Rattle.front_laws.proofs.Signs.{Sign, space_sign, open_sign, attributes_sign}
use Rattle.front_laws.proofs.Standing.{names_stand}
use Rattle.front_laws.proofs.Values.{declared_values}

no_exclamation : (c : ℕ) → in_name c ≡ true → nat_eq c 33 ≡ false
no_exclamation c h = grind (arith, nat_tests)

no_question : (c : ℕ) → in_name c ≡ true → nat_eq c 63 ≡ false
no_question c h = grind (arith, nat_tests)

no_slash : (c : ℕ) → in_name c ≡ true → nat_eq c 47 ≡ false
no_slash c h = grind (arith, nat_tests)

-- the first character of a name behind `<`
over_less : {table : Table} {place : Place} (n : ℕ) {rest : List ℕ} {w : Open} → in_name n ≡ true → Leads table place (in_tag_name (n ∷ [])) rest w → Leads table place (in_opener (codes "<")) (n ∷ rest) w
over_less n h f =
    more (in_opener (codes "<")) n
    (by_test (nat_eq n 33) _ _ (λ e. not_both (nat_eq n 33) e (no_exclamation n h))
    (λ e. by_test (nat_eq n 63) _ _ (λ e. not_both (nat_eq n 63) e (no_question n h))
    (λ e. by_test (nat_eq n 47) _ _ (λ e. not_both (nat_eq n 47) e (no_slash n h)) (λ e. by_test (begins_name n) _ _ (λ b. go_on f) (λ b. dead)))))

over_name : {table : Table} {place : Place} (m name : List ℕ) {rest : List ℕ} {w : Open} → list_all in_name m ≡ true → Leads table place (in_tag_name (name ++ m)) rest w → Leads table place (in_tag_name name) (m ++ rest) w
over_name {table} {place} [] name {rest} {w} h f = subst (λ (x : List ℕ). Leads table place (in_tag_name x) rest w) (append-nil name) f
over_name {table} {place} (c ∷ cs) name {rest} {w} h f =
    let p = and_parts (in_name c) (list_all in_name cs) h in
    more (in_tag_name name) c
    (by_test (in_name c) (go (in_tag_name (name ++ c ∷ []))) _
    (λ b. go_on (over_name cs (name ++ c ∷ []) p.1 (subst (λ (x : List ℕ). Leads table place (in_tag_name x) rest w) (sym (append_assoc name (c ∷ []) cs)) f)))
    (λ b. not_both (in_name c) p.0 b))

-- so much of a name
pub tag_names : (table : Table) (place : Place) (name : List ℕ) → IsFrontOfName name → Leads table place (in_opener (codes "<")) name (in_tag_name name)
tag_names table place [] (some, h) = absurd (some refl)
tag_names table place (n ∷ name) (some, h) =
    let p = and_parts (in_name n) (list_all in_name name) h in
    over_less n p.0 (subst (λ (x : List ℕ). Leads table place (in_tag_name (n ∷ [])) x (in_tag_name (n ∷ name))) (append-nil name) (over_name name (n ∷ []) p.1 (leads_here refl)))

-- a whole name, and attributes behind it
over_tag_name : (table : Table) (place : Place) (name : List ℕ) {text : List ℕ} {w : Open} → IsFrontOfName name → Sign text → Leads table place (in_tag name [] (between false)) text w → Leads table place (in_opener (codes "<")) (name ++ text) w
over_tag_name table place [] (some, h) s f = absurd (some refl)
over_tag_name table place (n ∷ name) {text} {w} (some, h) s f =
    let p = and_parts (in_name n) (list_all in_name name) h in
    over_less n p.0 (over_name name (n ∷ []) p.1 (subst (λ (x : List ℕ). Leads table place (in_tag_name (n ∷ name)) x w) (sym s.is) (as_from (in_tag_name (n ∷ name)) (in_tag (n ∷ name) [] (between false)) alike (subst (λ (x : List ℕ). Leads table place (in_tag (n ∷ name) [] (between false)) x w) s.is f))))
  where
    T : OpenMove
    T = tag_move table (n ∷ name) [] (between false) s.first (find_rule table.elements (n ∷ name))

    alike : (if is_character s.first then goes (if in_name s.first then go (in_tag_name ((n ∷ name) ++ s.first ∷ [])) else T) else None) ≡ (if is_character s.first then goes T else None)
    alike = ap (λ (b : Bool). if is_character s.first then goes (if b then go (in_tag_name ((n ∷ name) ++ s.first ∷ [])) else T) else None) s.other

pub among : (table : Table) (place : Place) (name : List ℕ) (rule : Rule) → find_rule table.elements name ≡ Some rule → Among table place (of_element table.entities rule.attributes) (in_tag name) (λ names c. end_move table name rule names c)
among table place name rule found = record {
  steps = λ names o c. ap (tag_move table name names o c) found ∙ by names c (attribute_move (of_element table.entities rule.attributes) names o c);
  no_name = λ names c h. no_end names c (nat_eq c 62 && are_all name rule.attributes names) (nat_eq c 47) (no_slash c h);
}
  where
    by : (names : List (List ℕ)) (c : ℕ) (m : AttributeMove) → tag_by table name rule names c m ≡ moved (in_tag name) names (end_move table name rule names c) m
    by names c (stays o) = refl
    by names c (ends_with others) = refl
    by names c leaves = refl
    by names c stops = refl

    no_end : (names : List (List ℕ)) (c : ℕ) (x y : Bool) → y ≡ false
        → (let m : OpenMove = if x then done (behind 0) (token.Start (element_of table name) ∷ []) else (if y then go (at_empty_end name names) else fail) in goes m) ≡ None
    no_end names c true y e = refl
    no_end names c false true e = cc
    no_end names c false false e = refl

-- The names of declared elements.

named : (rules : List Rule) (name : List ℕ) (rule : Rule) → list_all is_name (map (λ (r : Rule). r.name) rules) ≡ true → find_rule rules name ≡ Some rule → is_name name ≡ true
named [] name rule h e = cc
named (r ∷ rs) name rule h e = at (bytes_eq r.name name) refl e (named rs name rule (and_parts (is_name r.name) (list_all is_name (map (λ (r : Rule). r.name) rs)) h).1)
  where
    at : (b : Bool) → bytes_eq r.name name ≡ b → (if b then Some r else find_rule rs name) ≡ Some rule → (find_rule rs name ≡ Some rule → is_name name ≡ true) → is_name name ≡ true
    at true q e ih = ap is_name (sym (same r.name name q)) ∙ (and_parts (is_name r.name) (list_all is_name (map (λ (r : Rule). r.name) rs)) h).0
    at false q e ih = ih e

pub declared_name : (table : Table) → IsLawfulTable table → (name : List ℕ) (rule : Rule) → find_rule table.elements name ≡ Some rule → IsFrontOfName name
unfolding is_lawful
declared_name table h name rule found =
    let names = map (λ (r : Rule). r.name) table.elements in
    let a = and_parts _ (are_names table.entities) h in
    let b = and_parts _ (list_all (is_lawful_rule (length table.elements)) table.elements) a.0 in
    let c = and_parts (nat_le (length table.elements) element_limit) (are_names names) b.0 in
    are_in_name name (named table.elements name rule (and_parts (is_distinct names) (list_all is_name names) c.1).1 found)

module _ (table : Table) (lawful : IsLawfulTable table) (place : Place) (name : List ℕ) (names : List (List ℕ)) where
  -- attributes of the element, behind its name
  pub in_tags : (rule : Rule) (o : OpenAttribute) (cs rest : List ℕ) → find_rule table.elements name ≡ Some rule → BehindAttributes table name names (60 ∷ cs) rest → AttributeStands (DeclaredStands rule.attributes) o rest
      → Leads table place (in_opener (codes "<")) cs (in_tag name names o)
  in_tags rule o cs rest found b h =
      let tail : cs ≡ name ++ attributes_then b.attributes rest = cc in
      let is_rule : rule ≡ b.rule = let z : Some rule ≡ Some b.rule = sym found ∙ b.declared in cc in
      let are = names_stand table.entities rule.attributes b.attributes in
      let is_names : names_behind (of_element table.entities rule.attributes) [] b.attributes ≡ names = are ∙ ap (λ (r : Rule). standing r.attributes b.attributes) is_rule ∙ sym b.names_are in
      subst (λ (x : List ℕ). Leads table place (in_opener (codes "<")) x (in_tag name names o)) (sym tail)
      (over_tag_name table place name (declared_name table lawful name rule found) (attributes_sign b.attributes rest b.are b.some (open_sign (DeclaredStands rule.attributes) o rest h))
      (over_attributes table place (of_element table.entities rule.attributes) (in_tag name) _ (among table place name rule found) b.attributes [] b.are
      (subst (λ (ns : List (List ℕ)). Leads table place (in_tag name ns (between false)) rest (in_tag name names o)) (sym is_names)
      (behind_attributes table place (of_element table.entities rule.attributes) (in_tag name) _ (among table place name rule found) (DeclaredStands rule.attributes) names
      (λ n v value k. declared_values table.entities rule.attributes n v value k) o rest h))))

  -- behind the `/` of an empty tag
  pub empty_ends : (cs space : List ℕ) → BehindAttributes table name names (60 ∷ cs) (space ++ codes "/") → list_all is_blank space ≡ true → Leads table place (in_opener (codes "<")) cs (at_empty_end name names)
  empty_ends cs space b h =
      let tail : cs ≡ name ++ attributes_then b.attributes (space ++ codes "/") = cc in
      let rules = b.rule.attributes in
      let is_names : names_behind (of_element table.entities rules) [] b.attributes ≡ names = names_stand table.entities rules b.attributes ∙ sym b.names_are in
      subst (λ (x : List ℕ). Leads table place (in_opener (codes "<")) x (at_empty_end name names)) (sym tail)
      (over_tag_name table place name (declared_name table lawful name b.rule b.declared) (attributes_sign b.attributes (space ++ codes "/") b.are b.some (λ k. space_sign space 47 h refl))
      (over_attributes table place (of_element table.entities rules) (in_tag name) _ (among table place name b.rule b.declared) b.attributes [] b.are
      (subst (λ (ns : List (List ℕ)). Leads table place (in_tag name ns (between false)) (space ++ codes "/") (at_empty_end name names)) (sym is_names)
      (over_space table place (of_element table.entities rules) (in_tag name) _ (among table place name b.rule b.declared) space false h
      (over_sign table place (of_element table.entities rules) (in_tag name) _ (among table place name b.rule b.declared) names _ 47 refl refl (go_on (leads_here refl)))))))

-- End tags.

over_end_name : {table : Table} {place : Place} (m : List ℕ) (n : ℕ) (name : List ℕ) {rest : List ℕ} {w : Open} → list_all in_name m ≡ true → Leads table place (in_end_tag ((n ∷ name) ++ m) false) rest w → Leads table place (in_end_tag (n ∷ name) false) (m ++ rest) w
over_end_name {table} {place} [] n name {rest} {w} h f = subst (λ (x : List ℕ). Leads table place (in_end_tag x false) rest w) (append-nil (n ∷ name)) f
over_end_name {table} {place} (c ∷ cs) n name {rest} {w} h f =
    let p = and_parts (in_name c) (list_all in_name cs) h in
    more (in_end_tag (n ∷ name) false) c
    (by_test (in_name c && true) (go (in_end_tag ((n ∷ name) ++ c ∷ []) false)) _
    (λ b. go_on (over_end_name cs n (name ++ c ∷ []) p.1 (subst (λ (x : List ℕ). Leads table place (in_end_tag (n ∷ x) false) rest w) (sym (append_assoc name (c ∷ []) cs)) f)))
    (λ b. not_both (in_name c && true) (ap (λ (x : Bool). x && true) p.0) b))

end_space : (table : Table) (place : Place) (space : List ℕ) (n : ℕ) (name : List ℕ) (spaced : Bool) → list_all is_blank space ≡ true → (b : Bool) → b ≡ (if is_some_space space then true else spaced) → Leads table place (in_end_tag (n ∷ name) spaced) space (in_end_tag (n ∷ name) b)
end_space table place [] n name spaced h b e = leads_here (ap (in_end_tag (n ∷ name)) (sym e))
end_space table place (c ∷ cs) n name spaced h b e =
    let p = and_parts (is_blank c) (list_all is_blank cs) h in
    more (in_end_tag (n ∷ name) spaced) c
    (by_test (in_name c && not spaced) _ _ (λ k. not_both (in_name c) (and_parts (in_name c) (not spaced) k).0 (blank_not_name c p.0))
    (λ k. by_test (is_name (n ∷ name)) _ _
    (λ k. by_test (is_blank c) (go (in_end_tag (n ∷ name) true)) _ (λ k. go_on (end_space table place cs n name true p.1 b (e ∙ sym (kept (is_some_space cs))))) (λ k. not_both (is_blank c) p.0 k))
    (λ k. dead)))
  where
    kept : (x : Bool) → (if x then true else true) ≡ true
    kept true = refl
    kept false = refl

not_begun : (c : ℕ) → is_blank c ≡ true → begins_name c ≡ false
not_begun c h = grind (arith, nat_tests)

pub end_tags : (table : Table) (place : Place) (name space : List ℕ) (spaced : Bool) → list_all in_name name ≡ true → list_all is_blank space ≡ true → spaced ≡ is_some_space space → Leads table place (in_opener (codes "<")) (47 ∷ (name ++ space)) (in_end_tag name spaced)
end_tags table place name space spaced h b e = more (in_opener (codes "<")) 47 (go_on (at name space h b e))
  where
    whole : (x : Bool) → x ≡ (if x then true else false)
    whole true = refl
    whole false = refl

    at : (name space : List ℕ) → list_all in_name name ≡ true → list_all is_blank space ≡ true → spaced ≡ is_some_space space → Leads table place (in_end_tag [] false) (name ++ space) (in_end_tag name spaced)
    at [] [] h b e = leads_here (ap (in_end_tag []) (sym e))
    at [] (c ∷ cs) h b e =
        more (in_end_tag [] false) c
        (by_test (begins_name c && true) _ _ (λ k. not_both (begins_name c) (and_parts (begins_name c) true k).0 (not_begun c (and_parts (is_blank c) (list_all is_blank cs) b).0)) (λ k. dead))
    at (n ∷ name) space h b e =
        more (in_end_tag [] false) n
        (by_test (begins_name n && true) (go (in_end_tag (n ∷ []) false)) fail
        (λ k. go_on (over_end_name name n [] (and_parts (in_name n) (list_all in_name name) h).1 (end_space table place space n name false b spaced (e ∙ whole (is_some_space space)))))
        (λ k. dead))
