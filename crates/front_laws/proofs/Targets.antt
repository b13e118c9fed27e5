-- Instructions and the XML declaration, from behind `<?`.
use Rattle.std.proofs.Common.{◌≡◌, ◌≢◌, ◌⊎◌, ℕ, Bool, true, false, ◌&&◌, List, [], ◌∷◌, ◌++◌, Option, Some, None, refl, sym, ◌∙◌, ap, subst, append_assoc, append-nil, map, arith}
use Rattle.std.specs.Prelude.{if◌then◌else◌, nat_eq, nat_lt, codes}
use Rattle.std.specs.List.{list_all}
use Rattle.std.proofs.lemmas.Bool.{and_parts}
use Rattle.std.proofs.lemmas.Bool.Decides.{nat_tests}
use Rattle.xml_text.specs.Characters.{is_blank, is_character}
use Rattle.xml_text.specs.Names.{begins_name, in_name, is_name}
use Rattle.dtd_model.specs.Table.{Table}
use Rattle.page_model.specs.Parts.{Attribute, attributes_then, AreAttributes}
use Rattle.page_model.specs.Places.{Place, is_early}
use Rattle.piece_steps.specs.Readers.{go, done, fail}
use Rattle.page_model.specs.Fronts.{Open, in_opener, in_target, behind_target, in_instruction, in_declaration, at_declaration_end, reserved, last_from, WordStands, BehindWords, InInstruction}
use Rattle.page_model.specs.OpenTags.{OpenAttribute, between, IsFrontOfName, AttributeStands}
use Rattle.page_steps.specs.AttributeSteps.{AttributeMove, stays, ends_with, leaves, stops, attribute_move}
use Rattle.page_steps.specs.PageSteps.{OpenMove, more_target, may_be_target, is_reserved, is_xml, is_started, behind_move, question_move, declaration_by}
use Rattle.page_steps.specs.TagSteps.{of_declaration}
use Rattle.attribute_steps.specs.Among.{moved, names_behind}
use Rattle.attribute_steps.proofs.Over.{blank_character}
use Rattle.target_steps.proofs.Reserved.{grown, begun, started, reserved_is}
use Rattle.front_laws.proofs.Pages.{goes, open_step, Leads, Next, leads_here, leads_onto, leads_behind, more, go_on, ended, dead, by_test, not_both}
use Rattle.front_laws.proofs.Attributes.{blank_not_name, are_in_name, Among, over_space, over_attributes, over_sign, behind_attributes}
use Rattle.front_laws.proofs.Remarks.{instructions}
use Rattle.front_laws.proofs.Signs.{Sign, space_sign, open_sign, attributes_sign}
use Rattle.front_laws.proofs.Values.{word_values}

-- behind a front of a target a character of a name leads on, or nothing does
not_started : (t : List ℕ) (c : ℕ) → in_name c ≡ true → may_be_target (reserved t) c ≡ false → is_started (reserved t) ≡ true → ⊥
not_started [] c h m s = cc
not_started (a ∷ t) c h m s = not_both (in_name c) h (sym (begun a t c) ∙ m)

over_target : {table : Table} {place : Place} (m t : List ℕ) {rest : List ℕ} {w : Open} → list_all in_name m ≡ true → Leads table place (in_target (reserved (t ++ m))) rest w → Leads table place (in_target (reserved t)) (m ++ rest) w
over_target {table} {place} [] t {rest} {w} h f = subst (λ (x : List ℕ). Leads table place (in_target (reserved x)) rest w) (append-nil t) f
over_target {table} {place} (c ∷ cs) t {rest} {w} h f =
    let p = and_parts (in_name c) (list_all in_name cs) h in
    more (in_target (reserved t)) c
    (by_test (may_be_target (reserved t) c) (go (in_target (more_target (reserved t) c))) (if is_started (reserved t) then behind_move place (reserved t) c else fail)
    (λ b. go_on (subst (λ (o : Option (List ℕ)). Leads table place (in_target o) (cs ++ rest) w) (sym (grown t c))
    (over_target cs (t ++ c ∷ []) p.1 (subst (λ (x : List ℕ). Leads table place (in_target (reserved x)) rest w) (sym (append_assoc t (c ∷ []) cs)) f))))
    (λ b. by_test (is_started (reserved t)) (behind_move place (reserved t) c) fail (λ s. absurd (not_started t c p.0 b s)) (λ s. dead)))

-- `?` behind `<`
over_question : {table : Table} {place : Place} {rest : List ℕ} {w : Open} → Leads table place (in_target (reserved [])) rest w → Leads table place (in_opener (codes "<")) (63 ∷ rest) w
over_question f = more (in_opener (codes "<")) 63 (go_on f)

pub targets : (table : Table) (place : Place) (target : List ℕ) → list_all in_name target ≡ true → Leads table place (in_opener (codes "<")) (63 ∷ target) (in_target (reserved target))
targets table place target h =
    over_question (subst (λ (x : List ℕ). Leads table place (in_target (reserved [])) x (in_target (reserved target))) (append-nil target) (over_target target [] h (leads_here refl)))

-- directly behind a whole target
target_ends : {table : Table} {place : Place} (target : List ℕ) (c : ℕ) {cs : List ℕ} {w : Open} → IsFrontOfName target → in_name c ≡ false → Next table place (behind_move place (reserved target) c) cs w → Leads table place (in_target (reserved target)) (c ∷ cs) w
target_ends {table} {place} [] c (some, h) n f = absurd (some refl)
target_ends {table} {place} (a ∷ t) c (some, h) n f =
    more (in_target (reserved (a ∷ t))) c
    (by_test (may_be_target (reserved (a ∷ t)) c) (go (in_target (more_target (reserved (a ∷ t)) c))) (if is_started (reserved (a ∷ t)) then behind_move place (reserved (a ∷ t)) c else fail)
    (λ b. not_both (in_name c) (sym (begun a t c) ∙ b) n) (λ b. by_test (is_started (reserved (a ∷ t))) (behind_move place (reserved (a ∷ t)) c) fail (λ s. f) (λ s. dead)))

pub behind_targets : (table : Table) (place : Place) (target : List ℕ) → is_name target ≡ true → Leads table place (in_opener (codes "<")) (63 ∷ (target ++ codes "?")) behind_target
behind_targets table place target h =
    let n = are_in_name target h in
    over_question
    (over_target target [] n.1
    (target_ends target 63 n refl
    (by_test (is_reserved (reserved target)) (if is_xml (reserved target) && is_early place && is_blank 63 then go (in_declaration [] (between true)) else fail) (go behind_target)
    (λ r. by_test (is_xml (reserved target) && is_early place && is_blank 63) (go (in_declaration [] (between true))) fail
    (λ b. not_both (is_blank 63) (and_parts (is_xml (reserved target) && is_early place) (is_blank 63) b).1 refl) (λ b. dead))
    (λ r. go_on (leads_here refl)))))

pub in_instructions : (table : Table) (place : Place) (asked : Bool) (cs : List ℕ) → InInstruction asked (60 ∷ cs) → Leads table place (in_opener (codes "<")) cs (in_instruction asked)
in_instructions table place asked cs i =
    let n = are_in_name i.target i.named in
    let tail : cs ≡ 63 ∷ (i.target ++ i.blank ∷ i.text) = cc in
    subst (λ (x : List ℕ). Leads table place (in_opener (codes "<")) x (in_instruction asked)) (sym tail)
    (over_question
    (over_target i.target [] n.1
    (target_ends i.target i.blank n (blank_not_name i.blank i.apart)
    (by_test (is_reserved (reserved i.target)) _ (if is_blank i.blank then go (in_instruction false) else (if nat_eq i.blank 63 then go behind_target else fail))
    (λ r. not_both (is_reserved (reserved i.target)) r (reserved_is i.target ∙ i.not_reserved))
    (λ r. by_test (is_blank i.blank) (go (in_instruction false)) (if nat_eq i.blank 63 then go behind_target else fail)
    (λ b. go_on (subst (λ (x : Bool). Leads table place (in_instruction false) i.text (in_instruction x)) (sym i.asked_is) (instructions table place i.text 0)))
    (λ b. not_both (is_blank i.blank) i.apart b))))))

-- The XML declaration.

no_question : (c : ℕ) → in_name c ≡ true → nat_eq c 63 ≡ false
no_question c h = grind (arith, nat_tests)

among : (table : Table) (place : Place) → Among table place of_declaration in_declaration (λ names c. question_move names c)
among table place = record { steps = λ names o c. by names c (attribute_move of_declaration names o c); no_name = λ names c h. no_end names c (no_question c h) }
  where
    by : (names : List (List ℕ)) (c : ℕ) (m : AttributeMove) → declaration_by names c m ≡ moved in_declaration names (question_move names c) m
    by names c (stays o) = refl
    by names c (ends_with others) = refl
    by names c leaves = refl
    by names c stops = refl

    no_end : (names : List (List ℕ)) (c : ℕ) → nat_eq c 63 ≡ false → goes (question_move names c) ≡ None
    no_end [] c e = refl
    no_end (version ∷ names) c e = ap (λ (b : Bool). let m : OpenMove = if b then go at_declaration_end else fail in goes m) e

names_added : (xs : List Attribute) (names : List (List ℕ)) → names_behind of_declaration names xs ≡ names ++ map (λ (a : Attribute). a.name) xs
names_added [] names = sym (append-nil names)
names_added (x ∷ xs) names = names_added xs (names ++ x.name ∷ []) ∙ append_assoc names (x.name ∷ []) (map (λ (a : Attribute). a.name) xs)

-- what is read among attributes is read behind `<?xml`
over_xml : (table : Table) (place : Place) {text : List ℕ} {w : Open} → Sign text → Leads table place (in_declaration [] (between false)) text w → Leads table place (in_opener (codes "<")) (63 ∷ (codes "xml" ++ text)) w
over_xml table place {text} {w} s f =
    over_question
    (over_target (codes "xml") [] refl
    (subst (λ (x : List ℕ). Leads table place (in_target (reserved (codes "xml"))) x w) (sym s.is)
    (target_ends (codes "xml") s.first ((λ e. cc), refl) s.other
    (by_test (true && is_early place && is_blank s.first) (go (in_declaration [] (between true))) fail
    (λ b. go_on (leads_behind (in_declaration [] (between false)) (in_declaration [] (between true)) (blank (and_parts (true && is_early place) (is_blank s.first) b).1) (subst (λ (x : List ℕ). Leads table place (in_declaration [] (between false)) x w) s.is f)))
    (λ b. dead)))))
  where
    blank : is_blank s.first ≡ true → open_step table place (in_declaration [] (between false)) s.first ≡ Some (in_declaration [] (between true))
    blank h =
        ap (λ (b : Bool). if b then goes (declaration_by [] s.first (attribute_move of_declaration [] (between false) s.first)) else None) (blank_character s.first h)
        ∙ ap (λ (b : Bool). goes (declaration_by [] s.first (if b then stays (between true) else (if begins_name s.first then stops else leaves)))) h

module _ (table : Table) (place : Place) (names : List (List ℕ)) where
  pub in_declarations : (o : OpenAttribute) (cs rest : List ℕ) → BehindWords names (60 ∷ cs) rest → AttributeStands WordStands o rest → Leads table place (in_opener (codes "<")) cs (in_declaration names o)
  in_declarations o cs rest b h =
      let tail : cs ≡ 63 ∷ (codes "xml" ++ attributes_then b.attributes rest) = cc in
      let is_names : names_behind of_declaration [] b.attributes ≡ names = names_added b.attributes [] ∙ sym b.names_are in
      subst (λ (x : List ℕ). Leads table place (in_opener (codes "<")) x (in_declaration names o)) (sym tail)
      (over_xml table place (attributes_sign b.attributes rest b.are b.some (open_sign WordStands o rest h))
      (over_attributes table place of_declaration in_declaration _ (among table place) b.attributes [] b.are
      (subst (λ (ns : List (List ℕ)). Leads table place (in_declaration ns (between false)) rest (in_declaration names o)) (sym is_names)
      (behind_attributes table place of_declaration in_declaration _ (among table place) WordStands names word_values o rest h))))

  pub declaration_ends : (cs space : List ℕ) → BehindWords names (60 ∷ cs) (space ++ codes "?") → list_all is_blank space ≡ true → Leads table place (in_opener (codes "<")) cs at_declaration_end
  declaration_ends cs space b h =
      let tail : cs ≡ 63 ∷ (codes "xml" ++ attributes_then b.attributes (space ++ codes "?")) = cc in
      let is_names : names_behind of_declaration [] b.attributes ≡ names = names_added b.attributes [] ∙ sym b.names_are in
      subst (λ (x : List ℕ). Leads table place (in_opener (codes "<")) x at_declaration_end) (sym tail)
      (over_xml table place (attributes_sign b.attributes (space ++ codes "?") b.are b.some (λ k. space_sign space 63 h refl))
      (over_attributes table place of_declaration in_declaration _ (among table place) b.attributes [] b.are
      (subst (λ (ns : List (List ℕ)). Leads table place (in_declaration ns (between false)) (space ++ codes "?") at_declaration_end) (sym is_names)
      (over_space table place of_declaration in_declaration _ (among table place) space false h
      (over_sign table place of_declaration in_declaration _ (among table place) names _ 63 refl refl (ends names))))))
    where
      ends : (ns : List (List ℕ)) → Next table place (question_move ns 63) [] at_declaration_end
      ends [] = dead
      ends (version ∷ ns) = go_on (leads_here refl)
