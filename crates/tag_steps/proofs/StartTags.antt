-- Start tags and the tags of empty elements, read by the reader of a page.
use Rattle.std.proofs.Common.{◌≡◌, ℕ, suc, Bool, true, false, not, ◌&&◌, List, [], ◌∷◌, ◌++◌, Option, Some, None, refl, sym, ◌∙◌, ap, arith, length, append-nil, append_assoc}
use Rattle.std.specs.Prelude.{if◌then◌else◌, nat_eq}
use Rattle.std.specs.List.{list_all}
use Rattle.std.proofs.lemmas.Bool.{and_parts, and_from, eqb-true}
use Rattle.text_base.specs.declared.page_token.PageToken.{PageToken}
use Rattle.xml_text.specs.Characters.{is_blank, is_character}
use Rattle.xml_text.specs.Names.{begins_name, in_name, is_name}
use Rattle.dtd_model.specs.Table.{Declared, Rule, Table}
use Rattle.page_model.specs.Attributes.{find_rule, attributes_fit, fits_rule, tag_fits}
use Rattle.page_model.specs.Parts.{Attribute, attributes_then, Tag, tag_then, IsTag}
use Rattle.page_model.specs.Places.{Place, behind}
use Rattle.piece_steps.specs.Readers.{Move, go, done, fail, Outcome, whole, next, ends}
use Rattle.page_model.specs.Fronts.{find_declared, in_tag_name, in_tag, at_empty_end}
use Rattle.page_model.specs.OpenTags.{OpenAttribute, between}
use Rattle.page_model.specs.OpenValues.{OpenValue}
use Rattle.page_steps.specs.AttributeSteps.{AttributeMove, stays, ends_with as ends_at, leaves, stops, attribute_move}
use Rattle.page_steps.specs.PageSteps.{OpenMove, end_move, tag_by, tag_move, empty_move, PageState, put_place, page_step, page_reader}
use Rattle.page_steps.specs.TagSteps.{step_of, of_element, are_all}
use Rattle.page_steps.specs.ValueSteps.{kept_step}
use Rattle.attribute_steps.specs.Among.{moved, IsAmong, AllMay, names_behind}
use Rattle.attribute_steps.proofs.Over.{blank_character, name_character, blank_not_name, over_attributes}
use Rattle.attribute_steps.proofs.Into.{into_attributes}
use Rattle.element_attributes.proofs.Fits.{attributes_may}
use Rattle.page_insides.specs.Laws.{settle, read, ends_with}
use Rattle.page_insides.proofs.Settled.{at_open, kept_settled}
use Rattle.page_insides.proofs.Stepping.{behind_move, page_more, on_is, page_on, page_back}
use Rattle.tag_steps.specs.Laws.{HasLawfulKinds, end_then, tag_tokens, IsTagThen, StartTagsRead}

if_true : {A : Type 0} (b : Bool) (x y : A) → b ≡ true → (if b then x else y) ≡ x
if_true true x y h = refl
if_true false x y h = cc

if_false : {A : Type 0} (b : Bool) (x y : A) → b ≡ false → (if b then x else y) ≡ y
if_false true x y h = cc
if_false false x y h = refl

abbrev in_it : Place → List ℕ → List (List ℕ) → OpenAttribute → PageState
in_it place name names o = at_open place (in_tag name names o)

abbrev leaves_it : Table → Place → List ℕ → Rule → List (List ℕ) → ℕ → Move Place PageToken PageState
leaves_it table place name rule names c = put_place (settle place) (end_move table name rule names c)

-- the reader is among attributes
among : (table : Table) (place : Place) (name : List ℕ) (rule : Rule) → find_rule table.elements name ≡ Some rule → IsAmong (page_reader table) (of_element table.entities rule.attributes) (in_it place name) (leaves_it table place name rule)
unfolding page_step
among table place name rule found = record { steps = steps; strict = λ n v c h. strict (find_declared rule.attributes n) v c h }
  where
    by : (names : List (List ℕ)) (c : ℕ) (m : AttributeMove) → put_place (settle place) (tag_by table name rule names c m) ≡ moved (in_it place name) names (leaves_it table place name rule names c) m
    by names c (stays o) = ap (λ (p : Place). let s : PageState = record { place = p; inside = in_tag name names o } in let z : Move Place PageToken PageState = go s in z) (kept_settled (in_tag name names o) place refl)
    by names c (ends_at more) = ap (λ (p : Place). let s : PageState = record { place = p; inside = in_tag name more (between false) } in let z : Move Place PageToken PageState = go s in z) (kept_settled (in_tag name more (between false)) place refl)
    by names c leaves = refl
    by names c stops = refl

    steps : (names : List (List ℕ)) (o : OpenAttribute) (c : ℕ) → page_step table (in_it place name names o) c
        ≡ (if is_character c then moved (in_it place name) names (leaves_it table place name rule names c) (attribute_move (of_element table.entities rule.attributes) names o c) else fail)
    steps names o c =
        ap (λ (f : Option Rule). let z : Move Place PageToken PageState = if is_character c then put_place (settle place) (tag_move table name names o c f) else fail in z) found
        ∙ ap (λ (m : Move Place PageToken PageState). let z : Move Place PageToken PageState = if is_character c then m else fail in z) (by names c (attribute_move (of_element table.entities rule.attributes) names o c))

    strict : (d : Option Declared) (v : OpenValue) (c : ℕ) → is_character c ≡ false → step_of table.entities d v c ≡ None
    strict None v c h = refl
    strict (Some d) v c h = ap (λ (b : Bool). if b && not (nat_eq c 60) then kept_step table.entities d.kind v c else None) h

-- over the rest of a name
over_name : (table : Table) (place : Place) (m name rest : List ℕ) → list_all in_name m ≡ true → read table place (in_tag_name name) (m ++ rest) ≡ read table place (in_tag_name (name ++ m)) rest
over_name table place [] name rest h = ap (λ (w : List ℕ). read table place (in_tag_name w) rest) (sym (append-nil name))
over_name table place (c ∷ cs) name rest h =
    let p = and_parts (in_name c) (list_all in_name cs) h in
    page_on table place (in_tag_name name) c (in_tag_name (name ++ c ∷ [])) (cs ++ rest) (name_character c p.0) refl (if_true (in_name c) (go (in_tag_name (name ++ c ∷ []))) (tag_move table name [] (between false) c (find_rule table.elements name)) p.0)
    ∙ over_name table place cs (name ++ c ∷ []) rest p.1
    ∙ ap (λ (w : List ℕ). read table place (in_tag_name w) rest) (append_assoc name (c ∷ []) cs)

-- what is no part of the name is read among attributes
name_ends : (table : Table) (place : Place) (name : List ℕ) (c : ℕ) (rest : List ℕ) → is_character c ≡ true → in_name c ≡ false → read table place (in_tag_name name) (c ∷ rest) ≡ read table place (in_tag name [] (between false)) (c ∷ rest)
name_ends table place name c rest h q =
    page_more table place (in_tag_name name) c (tag_move table name [] (between false) c (find_rule table.elements name)) rest h (if_false (in_name c) (go (in_tag_name (name ++ c ∷ []))) (tag_move table name [] (between false) c (find_rule table.elements name)) q)
    ∙ sym (page_more table place (in_tag name [] (between false)) c (tag_move table name [] (between false) c (find_rule table.elements name)) rest h refl)

record Sign (text : List ℕ) : Type 0 where
  first : ℕ
  more : List ℕ
  is : text ≡ first ∷ more
  character : is_character first ≡ true
  other : in_name first ≡ false

blank_sign : (space : List ℕ) (c : ℕ) (rest : List ℕ) → list_all is_blank space ≡ true → is_character c ≡ true → in_name c ≡ false → Sign (space ++ c ∷ rest)
blank_sign [] c rest h k n = record { first = c; more = rest; is = refl; character = k; other = n }
blank_sign (s ∷ space) c rest h k n =
    let p = and_parts (is_blank s) (list_all is_blank space) h in
    record { first = s; more = space ++ c ∷ rest; is = refl; character = blank_character s p.0; other = blank_not_name s p.0 }

attributes_sign : (table : Table) (names : List (List ℕ)) (rules : List Declared) (xs : List Attribute) (space : List ℕ) (c : ℕ) (rest : List ℕ) → AllMay (of_element table.entities rules) names xs → list_all is_blank space ≡ true → is_character c ≡ true → in_name c ≡ false
    → Sign (attributes_then xs (space ++ c ∷ rest))
attributes_sign table names rules [] space c rest h blank k n = blank_sign space c rest blank k n
attributes_sign table names rules (x ∷ xs) space c rest h blank k n = at x.space h.0.some_space h.0.blank_space
  where
    at : (ws : List ℕ) → (ws ≡ [] → ⊥) → list_all is_blank ws ≡ true → Sign (ws ++ (x.name ++ (x.before_equals ++ 61 ∷ (x.after_equals ++ x.quote ∷ (x.value ++ x.quote ∷ attributes_then xs (space ++ c ∷ rest))))))
    at [] some all = absurd (some refl)
    at (w ∷ ws) some all = let p = and_parts (is_blank w) (list_all is_blank ws) all in record { first = w; more = _; is = refl; character = blank_character w p.0; other = blank_not_name w p.0 }

-- the end of a tag
over_end : (table : Table) (place : Place) (name : List ℕ) (rule : Rule) (names : List (List ℕ)) (empty : Bool) (rest : List ℕ) → find_rule table.elements name ≡ Some rule → are_all name rule.attributes names ≡ true
    → (c : ℕ) (left : List ℕ) → end_then empty rest ≡ c ∷ left → next (leaves_it table place name rule names c) (λ g. ends (page_reader table) g left) left ≡ ends_with (tag_tokens table empty name) rest
over_end table place name rule names false rest found all c left e =
    let k : c ≡ 62 = cc in
    let l : left ≡ rest = cc in
    ap (λ (x : ℕ). behind_move table place (end_move table name rule names x) left) k
    ∙ ap (λ (b : Bool). let z : OpenMove = if b then done (behind 0) (tag_tokens table false name) else fail in behind_move table place z left) all
    ∙ ap (ends_with (tag_tokens table false name)) l
over_end table place name rule names true rest found all c left e =
    let k : c ≡ 47 = cc in
    let l : left ≡ 62 ∷ rest = cc in
    ap (λ (x : ℕ). behind_move table place (end_move table name rule names x) left) k
    ∙ on_is table place (at_empty_end name names) left refl
    ∙ ap (read table place (at_empty_end name names)) l
    ∙ page_more table place (at_empty_end name names) 62 (done (behind 0) (tag_tokens table true name)) rest refl
    (ap (empty_move table name names 62) found ∙ ap (λ (b : Bool). let z : OpenMove = if b then done (behind 0) (tag_tokens table true name) else fail in z) all)

record Ruled (table : Table) (tag : Tag) : Type 0 where
  rule : Rule
  found : find_rule table.elements tag.name ≡ Some rule
  fit : attributes_fit table.entities tag.name rule.attributes tag.attributes ≡ true

ruled : (table : Table) (tag : Tag) → tag_fits table tag ≡ true → Ruled table tag
ruled table tag h = at (find_rule table.elements tag.name) refl h
  where
    at : (o : Option Rule) → find_rule table.elements tag.name ≡ o → fits_rule table.entities o tag ≡ true → Ruled table tag
    at None e h = cc
    at (Some rule) e h = record { rule = rule; found = e; fit = h }

record EndSign (empty : Bool) (rest : List ℕ) : Type 0 where
  sign : ℕ
  left : List ℕ
  is : end_then empty rest ≡ sign ∷ left
  character : is_character sign ≡ true
  not_name : in_name sign ≡ false
  not_blank : is_blank sign ≡ false
  not_begin : begins_name sign ≡ false

end_sign : (empty : Bool) (rest : List ℕ) → EndSign empty rest
end_sign false rest = record { sign = 62; left = rest; is = refl; character = refl; not_name = refl; not_blank = refl; not_begin = refl }
end_sign true rest = record { sign = 47; left = 62 ∷ rest; is = refl; character = refl; not_name = refl; not_blank = refl; not_begin = refl }

-- from the end of the name on
over_rest : (table : Table) → HasLawfulKinds table → (place : Place) (tag : Tag) (empty : Bool) (rest : List ℕ) → IsTag tag → tag_fits table tag ≡ true
    → read table place (in_tag_name tag.name) (attributes_then tag.attributes (tag.space ++ end_then empty rest)) ≡ ends_with (tag_tokens table empty tag.name) rest
over_rest table kinds place tag empty rest h fits =
    let r = ruled table tag fits in
    let s = end_sign empty rest in
    let t = (attributes_may table.entities tag.name r.rule.attributes tag.attributes (kinds tag.name r.rule r.found)).0 (record { are = h.attributes; fit = r.fit }) in
    let g = attributes_sign table [] r.rule.attributes tag.attributes tag.space s.sign s.left t.may h.blank_space s.character s.not_name in
    ap (λ (w : List ℕ). read table place (in_tag_name tag.name) (attributes_then tag.attributes (tag.space ++ w))) s.is
    ∙ ap (read table place (in_tag_name tag.name)) g.is
    ∙ name_ends table place tag.name g.first g.more g.character g.other
    ∙ ap (read table place (in_tag tag.name [] (between false))) (sym g.is)
    ∙ over_attributes (page_reader table) (of_element table.entities r.rule.attributes) (in_it place tag.name) (leaves_it table place tag.name r.rule) (among table place tag.name r.rule r.found)
    tag.attributes [] false tag.space s.sign s.left t.may h.blank_space s.character s.not_blank s.not_begin
    ∙ over_end table place tag.name r.rule (names_behind (of_element table.entities r.rule.attributes) [] tag.attributes) empty rest r.found t.all s.sign s.left s.is

complete : (table : Table) → HasLawfulKinds table → (place : Place) (tag : Tag) (empty : Bool) (n : ℕ) (cs rest : List ℕ) → IsTag tag → tag_fits table tag ≡ true → tag_then tag (end_then empty rest) ≡ n ∷ cs
    → read table place (in_tag_name (n ∷ [])) cs ≡ ends_with (tag_tokens table empty tag.name) rest
complete table kinds place tag empty n cs rest h fits e = at tag.name refl
  where
    tail : List ℕ
    tail = attributes_then tag.attributes (tag.space ++ end_then empty rest)

    at : (name : List ℕ) → tag.name ≡ name → read table place (in_tag_name (n ∷ [])) cs ≡ ends_with (tag_tokens table empty tag.name) rest
    at [] q = let z : is_name [] ≡ true = ap is_name (sym q) ∙ h.named in cc
    at (m ∷ name) q =
        let all = (and_parts (begins_name m) (list_all in_name name) (ap is_name (sym q) ∙ h.named)).1 in
        let z : m ∷ (name ++ attributes_then tag.attributes (tag.space ++ end_then empty rest)) ≡ n ∷ cs = ap (λ (w : List ℕ). w ++ attributes_then tag.attributes (tag.space ++ end_then empty rest)) (sym q) ∙ e in
        let k : m ≡ n = cc in
        let l : name ++ attributes_then tag.attributes (tag.space ++ end_then empty rest) ≡ cs = cc in
        ap (λ (x : ℕ). read table place (in_tag_name (x ∷ [])) cs) (sym k)
        ∙ ap (read table place (in_tag_name (m ∷ []))) (sym l)
        ∙ over_name table place name (m ∷ []) (attributes_then tag.attributes (tag.space ++ end_then empty rest)) all
        ∙ ap (λ (w : List ℕ). read table place (in_tag_name w) (attributes_then tag.attributes (tag.space ++ end_then empty rest))) (sym q)
        ∙ over_rest table kinds place tag empty rest h fits

-- Back.

record Named (table : Table) (place next : Place) (name text : List ℕ) (given : List PageToken) (rest : List ℕ) : Type 0 where
  more : List ℕ
  left : List ℕ
  spelled : text ≡ more ++ left
  named : list_all in_name more ≡ true
  rule : Rule
  found : find_rule table.elements (name ++ more) ≡ Some rule
  then_read : read table place (in_tag (name ++ more) [] (between false)) left ≡ whole next given rest

into_name : (table : Table) (place next : Place) (text name : List ℕ) (given : List PageToken) (rest : List ℕ) → read table place (in_tag_name name) text ≡ whole next given rest → Named table place next name text given rest
into_name table place next [] name given rest e = cc
into_name table place next (c ∷ cs) name given rest e =
    let b = page_back table place next (in_tag_name name) c cs given rest e in
    at (in_name c) refl b.character b.leads (λ q. into_name table place next cs (name ++ c ∷ []) given rest q)
  where
    here : (o : Option Rule) → find_rule table.elements name ≡ o → is_character c ≡ true → in_name c ≡ false → behind_move table place (tag_move table name [] (between false) c o) cs ≡ whole next given rest → Named table place next name (c ∷ cs) given rest
    here None f h q e = cc
    here (Some rule) f h q e = record {
      more = [];
      left = c ∷ cs;
      spelled = refl;
      named = refl;
      rule = rule;
      found = ap (find_rule table.elements) (append-nil name) ∙ f;
      then_read = ap (λ (w : List ℕ). read table place (in_tag w [] (between false)) (c ∷ cs)) (append-nil name)
          ∙ page_more table place (in_tag name [] (between false)) c (tag_move table name [] (between false) c (Some rule)) cs h (ap (tag_move table name [] (between false) c) f)
          ∙ e;
    }

    at : (b : Bool) → in_name c ≡ b → is_character c ≡ true → (let z : OpenMove = if b then go (in_tag_name (name ++ c ∷ [])) else tag_move table name [] (between false) c (find_rule table.elements name) in behind_move table place z cs ≡ whole next given rest)
        → (read table place (in_tag_name (name ++ c ∷ [])) cs ≡ whole next given rest → Named table place next (name ++ c ∷ []) cs given rest) → Named table place next name (c ∷ cs) given rest
    at true q h e ih =
        let l = ih (sym (on_is table place (in_tag_name (name ++ c ∷ [])) cs refl) ∙ e) in
        let w : (name ++ c ∷ []) ++ l.more ≡ name ++ c ∷ l.more = append_assoc name (c ∷ []) l.more in
        record {
          more = c ∷ l.more;
          left = l.left;
          spelled = ap (λ (x : List ℕ). c ∷ x) l.spelled;
          named = and_from (in_name c) (list_all in_name l.more) q l.named;
          rule = l.rule;
          found = ap (find_rule table.elements) (sym w) ∙ l.found;
          then_read = ap (λ (x : List ℕ). read table place (in_tag x [] (between false)) l.left) (sym w) ∙ l.then_read;
        }
    at false q h e ih = here (find_rule table.elements name) refl h q e

-- the end of the tag
record TagEnd (table : Table) (name : List ℕ) (rule : Rule) (names : List (List ℕ)) (c : ℕ) (left : List ℕ) (next : Place) (given : List PageToken) (rest : List ℕ) : Type 0 where
  empty : Bool
  spelled : c ∷ left ≡ end_then empty rest
  all : are_all name rule.attributes names ≡ true
  leads : next ≡ behind 0
  gives : given ≡ tag_tokens table empty name

into_end : (table : Table) (place next_place : Place) (name : List ℕ) (rule : Rule) (names : List (List ℕ)) (c : ℕ) (left : List ℕ) (given : List PageToken) (rest : List ℕ) → find_rule table.elements name ≡ Some rule
    → behind_move table place (end_move table name rule names c) left ≡ whole next_place given rest → TagEnd table name rule names c left next_place given rest
into_end table place next_place name rule names c left given rest found e = at (nat_eq c 62) refl (are_all name rule.attributes names) refl (nat_eq c 47) refl e
  where
    whole_is : (tokens : List PageToken) (w : List ℕ) → (let z : Outcome Place PageToken PageState = whole (behind 0) tokens w in z ≡ whole next_place given rest) → (next_place ≡ behind 0) × (given ≡ tokens) × (w ≡ rest)
    whole_is tokens w e = (cc, cc, cc)

    second : (text : List ℕ) → read table place (at_empty_end name names) text ≡ whole next_place given rest → left ≡ text → c ≡ 47 → TagEnd table name rule names c left next_place given rest
    second [] e l k = cc
    second (d ∷ ds) e l k =
        let b = page_back table place next_place (at_empty_end name names) d ds given rest e in
        by (nat_eq d 62) refl (are_all name rule.attributes names) refl (ap (λ (o : Option Rule). behind_move table place (empty_move table name names d o) ds) (sym found) ∙ b.leads)
      where
        by : (x : Bool) → nat_eq d 62 ≡ x → (a : Bool) → are_all name rule.attributes names ≡ a → (let z : OpenMove = if x && a then done (behind 0) (tag_tokens table true name) else fail in behind_move table place z ds ≡ whole next_place given rest)
            → TagEnd table name rule names c left next_place given rest
        by true p true a e =
            let w = whole_is (tag_tokens table true name) ds e in
            record { empty = true; spelled = ap (λ (y : ℕ). y ∷ left) k ∙ ap (λ (y : List ℕ). 47 ∷ y) (l ∙ ap (λ (y : ℕ). y ∷ ds) (eqb-true d 62 p) ∙ ap (λ (y : List ℕ). 62 ∷ y) w.2); all = a; leads = w.0; gives = w.1 }
        by true p false a e = cc
        by false p a q e = cc

    at : (x : Bool) → nat_eq c 62 ≡ x → (a : Bool) → are_all name rule.attributes names ≡ a → (y : Bool) → nat_eq c 47 ≡ y
        → (let z : OpenMove = if x && a then done (behind 0) (tag_tokens table false name) else (if y then go (at_empty_end name names) else fail) in behind_move table place z left ≡ whole next_place given rest) → TagEnd table name rule names c left next_place given rest
    at true p true a y q e =
        let w = whole_is (tag_tokens table false name) left e in
        record { empty = false; spelled = ap (λ (z : ℕ). z ∷ left) (eqb-true c 62 p) ∙ ap (λ (z : List ℕ). 62 ∷ z) w.2; all = a; leads = w.0; gives = w.1 }
    at true p false a true q e = second left (sym (on_is table place (at_empty_end name names) left refl) ∙ e) refl (eqb-true c 47 q)
    at true p false a false q e = cc
    at false p a b true q e = second left (sym (on_is table place (at_empty_end name names) left refl) ∙ e) refl (eqb-true c 47 q)
    at false p a b false q e = cc

sound : (table : Table) → HasLawfulKinds table → (place next : Place) (n : ℕ) (cs : List ℕ) (given : List PageToken) (rest : List ℕ) → is_name (n ∷ []) ≡ true → read table place (in_tag_name (n ∷ [])) cs ≡ whole next given rest → IsTagThen table (n ∷ cs) rest next given
sound table kinds place next n cs given rest begins e =
    let m = into_name table place next cs (n ∷ []) given rest e in
    let name = n ∷ m.more in
    let b = into_attributes (page_reader table) (of_element table.entities m.rule.attributes) (in_it place name) (leaves_it table place name m.rule) (among table place name m.rule m.found) next given rest (suc (length m.left)) m.left [] (omega arith) m.then_read in
    let names = names_behind (of_element table.entities m.rule.attributes) [] b.attributes in
    let t = into_end table place next name m.rule names b.sign b.left given rest m.found b.then_ends in
    let f = (attributes_may table.entities name m.rule.attributes b.attributes (kinds name m.rule m.found)).1 (record { may = b.may; all = t.all }) in
    record {
      tag = record { name = name; attributes = b.attributes; space = b.space };
      empty = t.empty;
      spelled = ap (λ (w : List ℕ). n ∷ (m.more ++ attributes_then b.attributes (b.space ++ w))) (sym t.spelled) ∙ ap (λ (w : List ℕ). n ∷ (m.more ++ w)) (sym b.spelled) ∙ ap (λ (w : List ℕ). n ∷ w) (sym m.spelled);
      is = record { named = and_from (begins_name n) (list_all in_name m.more) (and_parts (begins_name n) true begins).0 m.named; attributes = f.are; blank_space = b.blank_space };
      fits = ap (λ (o : Option Rule). fits_rule table.entities o (record { name = name; attributes = b.attributes; space = b.space })) m.found ∙ f.fit;
      leads = t.leads;
      gives = t.gives;
    }

pub start_tags_read : StartTagsRead
start_tags_read = record { complete = complete; sound = sound }
