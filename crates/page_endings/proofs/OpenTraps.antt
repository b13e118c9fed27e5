-- What is open, of which nothing can come, stays so.
use Rattle.std.proofs.Common.{◌≡◌, ℕ, Bool, true, false, ◌&&◌, ◌||◌, List, [], ◌∷◌, ◌++◌, Option, Some, None, refl, sym, ◌∙◌, ap, codes}
use Rattle.std.specs.Prelude.{if◌then◌else◌, nat_eq, bytes_eq, map}
use Rattle.std.specs.List.{list_any}
use Rattle.std.proofs.lemmas.Bool.{and_parts, and_from}
use Rattle.std.proofs.lemmas.Slice.Eq.{bytes_eq-Decides}
use Rattle.text_base.specs.declared.page_token.PageToken.{PageToken}
use Rattle.text_base.specs.declared.page_token.PageToken.TheVariants as token
use Rattle.xml_text.specs.Characters.{is_blank, is_character}
use Rattle.xml_text.specs.Names.{begins_name, in_name, is_name, in_public_identifier}
use Rattle.dtd_model.specs.Table.{Rule, Table}
use Rattle.page_model.specs.Attributes.{find_rule, is_some_rule}
use Rattle.page_model.specs.PageTokens.{element_of}
use Rattle.page_model.specs.Places.{Place, behind}
use Rattle.piece_steps.specs.Insides.{Turn, on, out, stop, inside, stepped, closing}
use Rattle.piece_steps.specs.Readers.{Move, go, done, fail}
use Rattle.page_model.specs.Fronts.{Open, nothing, in_reference, in_opener, in_tag_name, in_tag, at_empty_end, in_end_tag, in_comment, in_section, in_target, behind_target, in_instruction, in_declaration, at_declaration_end, in_doctype}
use Rattle.page_model.specs.OpenDoctypes.{OpenDoctype, before_root, in_root, behind_root, in_word, behind_word, in_public, behind_public, in_system, behind_system}
use Rattle.page_model.specs.OpenTags.{OpenAttribute, between}
use Rattle.page_model.specs.OpenValues.{OpenReference}
use Rattle.page_steps.specs.AttributeSteps.{AttributeMove, stays, ends_with, leaves, stops, attribute_move}
use Rattle.page_steps.specs.DoctypeSteps.{begins, is_wanted, doctype_turn}
use Rattle.page_steps.specs.ReferenceSteps.{reference_step, reference_good}
use Rattle.page_steps.specs.TagSteps.{of_element, of_declaration, are_all}
use Rattle.page_steps.specs.PageSteps.{OpenMove, tag_by, tag_move, empty_move, closed_move, end_name_move, end_tag_move, declaration_by, open_move, PageState, put_place, page_step}
use Rattle.page_endings.specs.Ending.{some_name_begins, reference_can_end, may_be_all, attribute_can_end, tag_can_end, empty_can_end, element_can_begin, names_of_elements, end_tag_can_end, declared_word_can_end, public_can_end, doctype_can_end, open_can_end}
use Rattle.page_endings.proofs.Begins.{not_true, any_through, begins_less, begins_itself, some_less}
use Rattle.page_endings.proofs.ReferenceTraps.{Stuck, reference_stuck, reference_not_good}
use Rattle.page_endings.proofs.Traps.{Trapped}
use Rattle.page_endings.proofs.WordTraps.{same_begins, StuckMove, all_may_be, attribute_stuck, declaration_stuck}

abbrev TrappedOpen : Table → OpenMove → Type 0
TrappedOpen table m = Trapped (open_can_end table) m

either : (table : Table) (b : Bool) (x y : OpenMove) → TrappedOpen table x → TrappedOpen table y → TrappedOpen table (if b then x else y)
either table true x y p q = p
either table false x y p q = q

or_true_left : (x y : Bool) → x ≡ true → (x || y) ≡ true
or_true_left true y e = refl
or_true_left false y e = cc

or_true_right : (x y : Bool) → y ≡ true → (x || y) ≡ true
or_true_right true y e = refl
or_true_right false y e = e

-- one that is found under a name passes
any_found : (rules : List Rule) (name : List ℕ) (r : Rule) (test : Rule → Bool) → find_rule rules name ≡ Some r → (r.name ≡ name → test r ≡ true) → list_any test rules ≡ true
any_found [] name r test e h = cc
any_found (x ∷ xs) name r test e h = at (bytes_eq x.name name) refl e (any_found xs name r test)
  where
    at : (b : Bool) → bytes_eq x.name name ≡ b → (if b then Some x else find_rule xs name) ≡ Some r
        → (find_rule xs name ≡ Some r → (r.name ≡ name → test r ≡ true) → list_any test xs ≡ true) → (test x || list_any test xs) ≡ true
    at true q i ih =
        let z : x ≡ r = cc in
        or_true_left (test x) (list_any test xs) (ap test z ∙ h (ap (λ (y : Rule). y.name) (sym z) ∙ (bytes_eq-Decides x.name name).0 q))
    at false q i ih = or_true_right (test x) (list_any test xs) (ih i h)

-- no element has a name that begins no declared one
not_ruled : (table : Table) (name : List ℕ) → some_name_begins (names_of_elements table) name ≡ false → find_rule table.elements name ≡ None
not_ruled table name e = at (find_rule table.elements name) refl
  where
    of_names : (rs : List Rule) → list_any (λ (r : Rule). begins r.name name) rs ≡ true → some_name_begins (map (λ (r : Rule). r.name) rs) name ≡ true
    of_names [] h = h
    of_names (r ∷ rs) h = by (begins r.name name) h (of_names rs)
      where
        by : (b : Bool) → (b || list_any (λ (r : Rule). begins r.name name) rs) ≡ true → (list_any (λ (r : Rule). begins r.name name) rs ≡ true → some_name_begins (map (λ (r : Rule). r.name) rs) name ≡ true)
            → (b || some_name_begins (map (λ (r : Rule). r.name) rs) name) ≡ true
        by true h ih = refl
        by false h ih = ih h

    at : (f : Option Rule) → find_rule table.elements name ≡ f → f ≡ None
    at None q = refl
    at (Some r) q =
        let some = of_names table.elements (any_found table.elements name r (λ (x : Rule). begins x.name name) q (λ i. ap (λ (w : List ℕ). begins w name) i ∙ begins_itself name)) in
        let z : false ≡ true = sym e ∙ some in cc

references : (table : Table) (r : OpenReference) (c : ℕ) → reference_can_end table.entities r ≡ false
    → TrappedOpen table (inside in_reference (done (behind 0) (token.Text ∷ [])) (closing reference_step (reference_good table.entities) 59 r c))
references table r c e = at (nat_eq c 59) (reference_good table.entities r) (reference_not_good table.entities r e) (reference_step r c) (reference_stuck table.entities r c e)
  where
    at : (b x : Bool) → x ≡ false → (o : Option OpenReference) → Stuck (reference_can_end table.entities) o
        → (let t : Turn OpenReference = if b then (if x then out else stop) else stepped o in let m : OpenMove = inside in_reference (done (behind 0) (token.Text ∷ [])) t in TrappedOpen table m)
    at true true h o s = cc
    at true false h o s = tt
    at false x h None s = tt
    at false x h (Some g) s = s

-- the attribute's move in a tag
tags : (table : Table) (name : List ℕ) (names : List (List ℕ)) (o : OpenAttribute) (c : ℕ) → tag_can_end table.entities name names o (find_rule table.elements name) ≡ false
    → TrappedOpen table (tag_move table name names o c (find_rule table.elements name))
tags table name names o c e = at (find_rule table.elements name) refl e
  where
    ending : (rule : Rule) → find_rule table.elements name ≡ Some rule → may_be_all table.entities name rule.attributes names ≡ false → (b x : Bool) → are_all name rule.attributes names ≡ b
        → TrappedOpen table (if x && b then done (behind 0) (token.Start (element_of table name) ∷ []) else (if nat_eq c 47 then go (at_empty_end name names) else fail))
    ending rule q s true x h = let z : false ≡ true = sym s ∙ all_may_be table.entities name rule.attributes names h in cc
    ending rule q s false true h = either table (nat_eq c 47) (go (at_empty_end name names)) fail (ap (empty_can_end name names) q ∙ h) tt
    ending rule q s false false h = either table (nat_eq c 47) (go (at_empty_end name names)) fail (ap (empty_can_end name names) q ∙ h) tt

    by : (rule : Rule) → find_rule table.elements name ≡ Some rule → (m : AttributeMove)
        → StuckMove (attribute_can_end table.entities name rule.attributes names) (may_be_all table.entities name rule.attributes) (may_be_all table.entities name rule.attributes names) m
        → TrappedOpen table (tag_by table name rule names c m)
    by rule q (stays g) s = ap (tag_can_end table.entities name names g) q ∙ s
    by rule q (ends_with more) s = ap (tag_can_end table.entities name more (between false)) q ∙ s
    by rule q leaves s = ending rule q s (are_all name rule.attributes names) (nat_eq c 62) refl
    by rule q stops s = tt

    at : (f : Option Rule) → find_rule table.elements name ≡ f → tag_can_end table.entities name names o f ≡ false → TrappedOpen table (tag_move table name names o c f)
    at None q e = tt
    at (Some rule) q e = by rule q (attribute_move (of_element table.entities rule.attributes) names o c) (attribute_stuck table.entities name rule.attributes names o c e)

empties : (table : Table) (name : List ℕ) (names : List (List ℕ)) (c : ℕ) (f : Option Rule) → empty_can_end name names f ≡ false → TrappedOpen table (empty_move table name names c f)
empties table name names c None e = tt
empties table name names c (Some rule) e = by (nat_eq c 62) (are_all name rule.attributes names) e
  where
    by : (x b : Bool) → b ≡ false → TrappedOpen table (if x && b then done (behind 0) (token.Start (element_of table name) ∷ token.End (element_of table name) ∷ []) else fail)
    by x true h = cc
    by true false h = tt
    by false false h = tt

-- behind a name that no element has whose required attributes can be written
no_element : (table : Table) (front : List ℕ) (c : ℕ) → list_any (element_can_begin table.entities front) table.elements ≡ false
    → TrappedOpen table (tag_move table front [] (between false) c (find_rule table.elements front))
no_element table front c e = tags table front [] (between false) c (at (find_rule table.elements front) refl)
  where
    at : (f : Option Rule) → find_rule table.elements front ≡ f → tag_can_end table.entities front [] (between false) f ≡ false
    at None q = refl
    at (Some r) q =
        not_true (may_be_all table.entities front r.attributes []) (list_any (element_can_begin table.entities front) table.elements)
        (λ h. any_found table.elements front r (element_can_begin table.entities front) q
        (λ i. and_from (begins r.name front) (may_be_all table.entities r.name r.attributes []) (ap (λ (w : List ℕ). begins w front) i ∙ begins_itself front)
        (ap (λ (w : List ℕ). may_be_all table.entities w r.attributes []) i ∙ h))) e

less_element : (table : Table) (front : List ℕ) (c : ℕ) → list_any (element_can_begin table.entities front) table.elements ≡ false
    → list_any (element_can_begin table.entities (front ++ c ∷ [])) table.elements ≡ false
less_element table front c e =
    not_true (list_any (element_can_begin table.entities (front ++ c ∷ [])) table.elements) (list_any (element_can_begin table.entities front) table.elements)
    (any_through (element_can_begin table.entities (front ++ c ∷ [])) (element_can_begin table.entities front) less table.elements) e
  where
    less : (r : Rule) → element_can_begin table.entities (front ++ c ∷ []) r ≡ true → element_can_begin table.entities front r ≡ true
    less r h =
        let p = and_parts (begins r.name (front ++ c ∷ [])) (may_be_all table.entities r.name r.attributes []) h in
        and_from (begins r.name front) (may_be_all table.entities r.name r.attributes []) (begins_less front r.name (c ∷ []) p.0) p.1

undeclared : (table : Table) (name : List ℕ) (f : Option Rule) → f ≡ None → TrappedOpen table (closed_move table name f)
undeclared table name None e = tt
undeclared table name (Some rule) e = cc

-- End tags.

unruled : (f : Option Rule) → is_some_rule f ≡ false → f ≡ None
unruled None e = refl
unruled (Some rule) e = cc

unruled_some : (f : Option Rule) → f ≡ None → is_some_rule f ≡ false
unruled_some None e = refl
unruled_some (Some rule) e = cc

end_names : (table : Table) (name : List ℕ) (c : ℕ) → find_rule table.elements name ≡ None → TrappedOpen table (end_name_move table name c)
end_names table name c q =
    either table (is_name name) _ fail
    (either table (is_blank c) (go (in_end_tag name true)) _ (unruled_some (find_rule table.elements name) q)
    (either table (nat_eq c 62) _ fail (undeclared table name (find_rule table.elements name) q) tt)) tt

end_tags : (table : Table) (name : List ℕ) (spaced : Bool) (c : ℕ) → end_tag_can_end table name spaced ≡ false → TrappedOpen table (end_tag_move table name spaced c)
end_tags table [] true c e = by (begins_name c)
  where
    by : (b : Bool) → TrappedOpen table (if b && false then go (in_end_tag (c ∷ []) false) else fail)
    by true = tt
    by false = tt
end_tags table [] false c e = either table (begins_name c && true) (go (in_end_tag (c ∷ []) false)) fail (some_less (names_of_elements table) [] c e) tt
end_tags table (n ∷ name) true c e = by (in_name c)
  where
    by : (b : Bool) → TrappedOpen table (if b && false then go (in_end_tag ((n ∷ name) ++ c ∷ []) false) else end_name_move table (n ∷ name) c)
    by true = end_names table (n ∷ name) c (unruled (find_rule table.elements (n ∷ name)) e)
    by false = end_names table (n ∷ name) c (unruled (find_rule table.elements (n ∷ name)) e)
end_tags table (n ∷ name) false c e =
    either table (in_name c && true) (go (in_end_tag ((n ∷ name) ++ c ∷ []) false)) _ (some_less (names_of_elements table) (n ∷ name) c e) (end_names table (n ∷ name) c (not_ruled table (n ∷ name) e))

declarations : (table : Table) (names : List (List ℕ)) (c : ℕ) (m : AttributeMove) → StuckMove (declared_word_can_end names) (λ more. true) true m → TrappedOpen table (declaration_by names c m)
declarations table names c (stays o) s = s
declarations table names c (ends_with more) s = cc
declarations table names c leaves s = cc
declarations table names c stops s = tt

doctypes : (table : Table) (o : OpenDoctype) (c : ℕ) → doctype_can_end o ≡ false → TrappedOpen table (inside in_doctype (done (behind 0) (token.Doctype ∷ [])) (doctype_turn table.doctype o c))
doctypes table (before_root spaced) c e = cc
doctypes table (in_root name) c e = cc
doctypes table behind_root c e = cc
doctypes table (in_word word) c e = cc
doctypes table (behind_word word) c e = cc
doctypes table (in_public quote None) c e = cc
doctypes table (in_public quote (Some text)) c e = at (nat_eq c quote) (is_wanted (Some text)) not_wanted (in_public_identifier c)
  where
    wanted : List ℕ
    wanted = codes "-//W3C//DTD XHTML 1.0 Strict//EN"

    not_wanted : is_wanted (Some text) ≡ false
    not_wanted = not_true (is_wanted (Some text)) (public_can_end (Some text)) (same_begins text wanted) e

    less : public_can_end (Some (text ++ c ∷ [])) ≡ false
    less = not_true (public_can_end (Some (text ++ c ∷ []))) (public_can_end (Some text)) (begins_less text wanted (c ∷ [])) e

    at : (b x : Bool) → x ≡ false → (y : Bool)
        → (let t : Turn OpenDoctype = if b then (if x then on (behind_public false) else stop) else (if y then on (in_public quote (Some (text ++ c ∷ []))) else stop) in let m : OpenMove = inside in_doctype (done (behind 0) (token.Doctype ∷ [])) t in TrappedOpen table m)
    at true true h y = cc
    at true false h y = tt
    at false x h true = less
    at false x h false = tt
doctypes table (behind_public spaced) c e = cc
doctypes table (in_system quote) c e = cc
doctypes table behind_system c e = cc

opens : (table : Table) (place : Place) (o : Open) (c : ℕ) → open_can_end table o ≡ false → TrappedOpen table (open_move table place o c)
opens table place nothing c e = cc
opens table place (in_reference r) c e = references table r c e
opens table place (in_opener begun) c e = cc
opens table place (in_tag_name name) c e =
    either table (in_name c) (go (in_tag_name (name ++ c ∷ []))) _ (less_element table name c e) (no_element table name c e)
opens table place (in_tag name names o) c e = tags table name names o c e
opens table place (at_empty_end name names) c e = empties table name names c (find_rule table.elements name) e
opens table place (in_end_tag name spaced) c e = end_tags table name spaced c e
opens table place (in_comment dashes) c e = cc
opens table place (in_section brackets) c e = cc
opens table place (in_target o) c e = cc
opens table place behind_target c e = cc
opens table place (in_instruction asked) c e = cc
opens table place (in_declaration names o) c e = declarations table names c (attribute_move of_declaration names o c) (declaration_stuck names o c e)
opens table place at_declaration_end c e = cc
opens table place (in_doctype o) c e = doctypes table o c e

pub pages_keep : (table : Table) (s : PageState) (c : ℕ) → open_can_end table s.inside ≡ false → Trapped (λ (g : PageState). open_can_end table g.inside) (page_step table s c)
unfolding page_step
pages_keep table s c e = at (is_character c) (opens table s.place s.inside c e)
  where
    put : (m : OpenMove) → TrappedOpen table m → Trapped (λ (g : PageState). open_can_end table g.inside) (put_place s.place m)
    put (go o) t = t
    put (done place tokens) t = t
    put fail t = tt

    at : (b : Bool) → TrappedOpen table (open_move table s.place s.inside c)
        → (let m : Move Place PageToken PageState = if b then put_place s.place (open_move table s.place s.inside c) else fail in Trapped (λ (g : PageState). open_can_end table g.inside) m)
    at true t = put (open_move table s.place s.inside c) t
    at false t = tt
