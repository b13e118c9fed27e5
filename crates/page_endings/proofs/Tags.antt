-- Tags end.
use Rattle.std.proofs.Common.{◌≡◌, ◌⊎◌, inl, inr, ℕ, Bool, true, false, not, ◌&&◌, ◌||◌, List, [], ◌∷◌, ◌++◌, Option, Some, None, refl, sym, ◌∙◌, ap, subst, append-nil, append_assoc}
use Rattle.std.specs.Prelude.{if◌then◌else◌, bytes_eq, map}
use Rattle.std.specs.List.{list_all, list_any}
use Rattle.std.proofs.lemmas.Bool.{and_parts, and_from, or_cases}
use Rattle.text_base.specs.declared.page_token.PageToken.TheVariants as token
use Rattle.xml_text.specs.Names.{begins_name, in_name, is_name}
use Rattle.dtd_model.specs.Table.{Declared, Rule, Table}
use Rattle.page_model.specs.Attributes.{find_rule, is_some_rule, must_stand}
use Rattle.page_model.specs.PageTokens.{element_of}
use Rattle.page_model.specs.Parts.{is_quote}
use Rattle.page_model.specs.Places.{behind}
use Rattle.piece_steps.specs.Readers.{done, fail}
use Rattle.page_model.specs.Fronts.{in_tag_name, in_tag, at_empty_end, in_end_tag, find_declared}
use Rattle.page_model.specs.OpenTags.{OpenAttribute, between, in_attribute_name, behind_name, behind_equals, in_value}
use Rattle.page_model.specs.OpenValues.{OpenValue}
use Rattle.page_steps.specs.AttributeSteps.{Allowing, AttributeMove, stays, ends_with, leaves, attribute_move}
use Rattle.page_steps.specs.DoctypeSteps.{begins}
use Rattle.page_steps.specs.PageSteps.{tag_by, tag_move, empty_move, closed_move}
use Rattle.page_steps.specs.TagSteps.{is_among, names_with, is_declared_once, start_of, step_of, good_of, of_element, are_all}
use Rattle.page_steps.specs.ValueSteps.{value_step, value_good}
use Rattle.element_attributes.proofs.Names.{has_name, among_with, found_has}
use Rattle.page_endings.specs.Ending.{value_can_end, has_value, can_be_written, may_be_one, may_be_all, may_be_next, declared_so, attribute_can_end, tag_can_end, empty_can_end, element_can_begin, some_name_begins, end_tag_can_end}
use Rattle.page_endings.specs.Laws.{Ends}
use Rattle.page_endings.specs.Shapes.{IsValueShaped, IsAttributeShaped, IsTagShaped}
use Rattle.page_endings.proofs.Among.{Among, Written, name_character}
use Rattle.page_endings.proofs.Among as among
use Rattle.page_endings.proofs.Declared.{same, itself, begun, Known, AllKnown, lawful_known, found_known, Picked, picked, Lawful, found_rule, PickedRule, picked_rule}
use Rattle.page_endings.proofs.Going.{if_true, goes, ended}
use Rattle.page_endings.proofs.References.{part_all, name_all}
use Rattle.page_endings.proofs.Values.{value_written, Valued, valued}

-- the tag of a declared element
module _ (table : Table) (lawful : Lawful table) (name : List ℕ) (rule : Rule) (found : find_rule table.elements name ≡ Some rule) (known : AllKnown rule.attributes rule.attributes) where
  allowing : Allowing
  allowing = of_element table.entities rule.attributes

  move_is : (names : List (List ℕ)) (o : OpenAttribute) (c : ℕ) (m : AttributeMove) → attribute_move (of_element table.entities rule.attributes) names o c ≡ m
      → tag_move table name names o c (find_rule table.elements name) ≡ tag_by table name rule names c m
  move_is names o c m e = ap (tag_move table name names o c) found ∙ ap (tag_by table name rule names c) e

  in_it : Among table (of_element table.entities rule.attributes) (λ names o. in_tag name names o)
  in_it = record {
    on = λ names o g c h e more. goes table (in_tag name names o) (in_tag name names g) c h (λ place. move_is names o c (stays g) e) more;
    behind = λ names later o c h e more. goes table (in_tag name names o) (in_tag name later (between false)) c h (λ place. move_is names o c (ends_with later) e) more;
  }

  -- all that have to stand do
  complete : (names : List (List ℕ)) (s : Bool) → are_all name rule.attributes names ≡ true → Ends table (in_tag name names (between s))
  complete names s h = ended table (in_tag name names (between s)) 62 refl
      (λ place. (
        behind 0,
        token.Start (element_of table name) ∷ [],
        move_is names (between s) 62 leaves refl ∙ if_true (are_all name rule.attributes names) (done (behind 0) (token.Start (element_of table name) ∷ [])) fail h,
      ))

  -- a value with what a declaration says of it
  written_so : (d : Declared) (quote : ℕ) (v : OpenValue) (n : List ℕ) → find_declared rule.attributes n ≡ Some d → Written (value_step table.entities d) (value_good table.entities d) quote v
      → Written (λ w c. step_of table.entities (find_declared rule.attributes n) w c) (good_of table.entities (find_declared rule.attributes n)) quote v
  written_so d quote v n e w = subst (λ (o : Option Declared). Written (λ z c. step_of table.entities o z c) (good_of table.entities o) quote v) (sym e) w

  -- the attribute of a declaration behind its name
  equals_so : (names : List (List ℕ)) (d : Declared) (n : List ℕ) → find_declared rule.attributes n ≡ Some d → Valued table.entities d → Ends table (in_tag name (names_with rule.attributes names n) (between false))
      → Ends table (in_tag name names (behind_equals n))
  equals_so names d n e w more =
      among.equals_ends table (of_element table.entities rule.attributes) (λ names o. in_tag name names o) in_it names n w.quote w.quoted
      (subst (λ (o : Option Declared). Written (λ z c. step_of table.entities o z c) (good_of table.entities o) w.quote (start_of o)) (sym e) w.written) more

  -- a whole attribute of a declaration
  attribute_so : (names : List (List ℕ)) (s : Bool) (d : Declared) → Known rule.attributes d → is_among names d.name ≡ false → Valued table.entities d
      → Ends table (in_tag name (names_with rule.attributes names d.name) (between false)) → Ends table (in_tag name names (between s))
  attribute_so names s d k free w more =
      among.new_name table (of_element table.entities rule.attributes) (λ names o. in_tag name names o) in_it names s d.name k.named
      (ap (is_declared_once names d.name) k.found ∙ ap not free) (equals_so names d d.name k.found w more)

  -- these names stand among those, if they are declared
  Keeps : List (List ℕ) → List (List ℕ) → Type 0
  Keeps names more = (m : List ℕ) → has_name rule.attributes m ≡ true → is_among names m ≡ true → is_among more m ≡ true

  or_true_left : (x y : Bool) → x ≡ true → (x || y) ≡ true
  or_true_left true y e = refl
  or_true_left false y e = cc

  or_true_right : (x y : Bool) → y ≡ true → (x || y) ≡ true
  or_true_right true y e = refl
  or_true_right false y e = e

  keeps_with : (names : List (List ℕ)) (n : List ℕ) → Keeps names (names_with rule.attributes names n)
  unfolding Keeps
  keeps_with names n m h e =
      among_with rule.attributes names n m ∙ and_from (has_name rule.attributes m) (is_among names m || bytes_eq n m) h (or_true_left (is_among names m) (bytes_eq n m) e)

  stands_with : (names : List (List ℕ)) (n : List ℕ) → has_name rule.attributes n ≡ true → is_among (names_with rule.attributes names n) n ≡ true
  stands_with names n h =
      among_with rule.attributes names n n ∙ and_from (has_name rule.attributes n) (is_among names n || bytes_eq n n) h (or_true_right (is_among names n) (bytes_eq n n) (itself n))

  has_known : (d : Declared) → Known rule.attributes d → has_name rule.attributes d.name ≡ true
  has_known d k = found_has rule.attributes d.name d k.found

  wants : List (List ℕ) → Declared → Bool
  wants names d = if must_stand name d then is_among names d.name || can_be_written table.entities rule.attributes d.name else true

  stands_so : List (List ℕ) → Declared → Bool
  stands_so names d = if must_stand name d then is_among names d.name else true

  -- what is wanted is so with more names
  wanted_more : (names more : List (List ℕ)) (ds : List Declared) → AllKnown rule.attributes ds → Keeps names more → list_all (wants names) ds ≡ true → list_all (wants more) ds ≡ true
  unfolding Keeps wants
  wanted_more names more [] k h e = refl
  wanted_more names more (d ∷ ds) k h e =
      let p = and_parts (wants names d) (list_all (wants names) ds) e in
      and_from (wants more d) (list_all (wants more) ds) (one (must_stand name d) p.0) (wanted_more names more ds k.1 h p.1)
    where
      or : (x y z : Bool) → (x ≡ true → z ≡ true) → (x || y) ≡ true → (z || y) ≡ true
      or true y z f i = or_true_left z y (f refl)
      or false y z f i = or_true_right z y i

      one : (b : Bool) → (if b then is_among names d.name || can_be_written table.entities rule.attributes d.name else true) ≡ true → (if b then is_among more d.name || can_be_written table.entities rule.attributes d.name else true) ≡ true
      one true i = or (is_among names d.name) (can_be_written table.entities rule.attributes d.name) (is_among more d.name) (h d.name (has_known d k.0)) i
      one false i = refl

  -- each that has to stand is written, and then what comes behind
  abbrev Filled : List Declared → Type 0
  Filled ds = (names : List (List ℕ)) (s : Bool) → list_all (wants names) ds ≡ true
      → ((more : List (List ℕ)) (t : Bool) → Keeps names more → list_all (stands_so more) ds ≡ true → Ends table (in_tag name more (between t)))
      → Ends table (in_tag name names (between s))

  fill : (ds : List Declared) → AllKnown rule.attributes ds → Filled ds
  unfolding Keeps wants stands_so
  fill [] k = λ names s e then_ends. then_ends names s (λ m h i. i) refl
  fill (d ∷ ds) k = λ names s e then_ends. with_rest (fill ds k.1) names s e then_ends
    where
      -- it stands already, or need not
      skip : Filled ds → (names : List (List ℕ)) (s : Bool) → list_all (wants names) ds ≡ true → ((more : List (List ℕ)) → Keeps names more → stands_so more d ≡ true)
          → ((more : List (List ℕ)) (t : Bool) → Keeps names more → list_all (stands_so more) (d ∷ ds) ≡ true → Ends table (in_tag name more (between t)))
          → Ends table (in_tag name names (between s))
      skip ih names s i f then_ends = ih names s i (λ more t h j. then_ends more t h (and_from (stands_so more d) (list_all (stands_so more) ds) (f more h) j))

      -- it is written
      write : Filled ds → (names : List (List ℕ)) (s : Bool) → must_stand name d ≡ true → is_among names d.name ≡ false → can_be_written table.entities rule.attributes d.name ≡ true → list_all (wants names) ds ≡ true
          → ((more : List (List ℕ)) (t : Bool) → Keeps names more → list_all (stands_so more) (d ∷ ds) ≡ true → Ends table (in_tag name more (between t)))
          → Ends table (in_tag name names (between s))
      write ih names s m a value j then_ends =
          let now = names_with rule.attributes names d.name in
          attribute_so names s d k.0 a (valued table.entities d lawful.entities k.0.kind (sym (ap (declared_so (has_value table.entities)) k.0.found) ∙ value))
          (ih now false (wanted_more names now ds k.1 (keeps_with names d.name) j)
          (λ more t h z. then_ends more t (λ w u v. h w u (keeps_with names d.name w u v))
          (and_from (stands_so more d) (list_all (stands_so more) ds)
          (ap (λ (b : Bool). if b then is_among more d.name else true) m ∙ h d.name (has_known d k.0) (stands_with names d.name (has_known d k.0))) z)))

      at : Filled ds → (names : List (List ℕ)) (s : Bool) → (b : Bool) → must_stand name d ≡ b → (if b then is_among names d.name || can_be_written table.entities rule.attributes d.name else true) ≡ true
          → (x : Bool) → is_among names d.name ≡ x → list_all (wants names) ds ≡ true
          → ((more : List (List ℕ)) (t : Bool) → Keeps names more → list_all (stands_so more) (d ∷ ds) ≡ true → Ends table (in_tag name more (between t)))
          → Ends table (in_tag name names (between s))
      at ih names s false m i x a j then_ends = skip ih names s j (λ more h. ap (λ (b : Bool). if b then is_among more d.name else true) m) then_ends
      at ih names s true m i true a j then_ends =
          skip ih names s j (λ more h. ap (λ (b : Bool). if b then is_among more d.name else true) m ∙ h d.name (has_known d k.0) a) then_ends
      at ih names s true m i false a j then_ends = write ih names s m a (ap (λ (x : Bool). x || can_be_written table.entities rule.attributes d.name) (sym a) ∙ i) j then_ends

      with_rest : Filled ds → Filled (d ∷ ds)
      with_rest ih names s e then_ends =
          let p = and_parts (wants names d) (list_all (wants names) ds) e in
          at ih names s (must_stand name d) refl p.0 (is_among names d.name) refl p.1 then_ends

  pub between_ends : (names : List (List ℕ)) (s : Bool) → may_be_all table.entities name rule.attributes names ≡ true → Ends table (in_tag name names (between s))
  unfolding wants stands_so
  between_ends names s e = fill rule.attributes known names s e (λ more t h i. complete more t i)

  -- with one name more in front, or where it is declared
  keeps_front : (names : List (List ℕ)) (n : List ℕ) → Keeps (n ∷ names) (names_with rule.attributes names n)
  unfolding Keeps
  keeps_front names n m h e =
      among_with rule.attributes names n m ∙ and_from (has_name rule.attributes m) (is_among names m || bytes_eq n m) h (turn (or_cases (bytes_eq m n) (is_among names m) e))
    where
      turn : (bytes_eq m n ≡ true) ⊎ (is_among names m ≡ true) → (is_among names m || bytes_eq n m) ≡ true
      turn (inl i) = or_true_right (is_among names m) (bytes_eq n m) (ap (bytes_eq n) (same m n i) ∙ itself n)
      turn (inr i) = or_true_left (is_among names m) (bytes_eq n m) i

  -- behind an attribute of this name
  behind_one : (names : List (List ℕ)) (n : List ℕ) → may_be_all table.entities name rule.attributes (n ∷ names) ≡ true → Ends table (in_tag name (names_with rule.attributes names n) (between false))
  unfolding wants
  behind_one names n e =
      between_ends (names_with rule.attributes names n) false
      (wanted_more (n ∷ names) (names_with rule.attributes names n) rule.attributes known (keeps_front names n) e)

  equals_by : (names : List (List ℕ)) (n : List ℕ) → may_be_one table.entities name rule.attributes names n ≡ true
      → Ends table (in_tag name names (behind_equals n))
  equals_by names n e =
      let p = and_parts (declared_so (has_value table.entities) (find_declared rule.attributes n)) (may_be_all table.entities name rule.attributes (n ∷ names)) e in
      at (find_declared rule.attributes n) refl p.0 (behind_one names n p.1)
    where
      at : (o : Option Declared) → find_declared rule.attributes n ≡ o → declared_so (has_value table.entities) o ≡ true → Ends table (in_tag name (names_with rule.attributes names n) (between false))
          → Ends table (in_tag name names (behind_equals n))
      at None q i more = cc
      at (Some d) q i more =
          let k = (found_known rule.attributes rule.attributes n d known q).known in
          equals_so names d n q (valued table.entities d lawful.entities k.kind i) more

  value_by : (names : List (List ℕ)) (n : List ℕ) (quote : ℕ) (v : OpenValue) → is_quote quote ≡ true → IsValueShaped (find_declared rule.attributes n) v
      → (declared_so (λ d. value_can_end table.entities d quote v) (find_declared rule.attributes n) && may_be_all table.entities name rule.attributes (n ∷ names)) ≡ true
      → Ends table (in_tag name names (in_value n quote v))
  value_by names n quote v q s e =
      let p = and_parts (declared_so (λ d. value_can_end table.entities d quote v) (find_declared rule.attributes n)) (may_be_all table.entities name rule.attributes (n ∷ names)) e in
      at (find_declared rule.attributes n) refl s p.0 (behind_one names n p.1)
    where
      at : (o : Option Declared) → find_declared rule.attributes n ≡ o → IsValueShaped o v → declared_so (λ d. value_can_end table.entities d quote v) o ≡ true
          → Ends table (in_tag name (names_with rule.attributes names n) (between false)) → Ends table (in_tag name names (in_value n quote v))
      at None i s j more = cc
      at (Some d) i s j more =
          let k = (found_known rule.attributes rule.attributes n d known i).known in
          among.value_ends table (of_element table.entities rule.attributes) (λ names o. in_tag name names o) in_it names n quote v q
          (written_so d quote v n i (value_written table.entities d quote v lawful.entities k.kind q s j)) more

  name_by : (names : List (List ℕ)) (front : List ℕ) → list_any (may_be_next table.entities name rule.attributes names front) rule.attributes ≡ true
      → Ends table (in_tag name names (in_attribute_name front))
  name_by names front e = at (picked rule.attributes rule.attributes (may_be_next table.entities name rule.attributes names front) known e)
    where
      at : Picked rule.attributes (may_be_next table.entities name rule.attributes names front) → Ends table (in_tag name names (in_attribute_name front))
      at p =
          let d = p.d in
          let x = and_parts (begins d.name front) (not (is_among names d.name) && may_be_one table.entities name rule.attributes names d.name) p.passes in
          let y = and_parts (not (is_among names d.name)) (may_be_one table.entities name rule.attributes names d.name) x.1 in
          let z = and_parts (can_be_written table.entities rule.attributes d.name) (may_be_all table.entities name rule.attributes (d.name ∷ names)) y.1 in
          let m = begun front d.name x.0 in
          let plain : list_all in_name m.0 ≡ true = part_all in_name front m.0 (ap (list_all in_name) (sym m.1) ∙ name_all d.name p.known.named) in
          let may : is_declared_once names d.name (find_declared rule.attributes d.name) ≡ true = ap (is_declared_once names d.name) p.known.found ∙ y.0 in
          let rest : Ends table (in_tag name names (behind_equals d.name)) =
          equals_so names d d.name p.known.found (valued table.entities d lawful.entities p.known.kind (sym (ap (declared_so (has_value table.entities)) p.known.found) ∙ z.0)) (behind_one names d.name z.1) in
          among.begun_name table (of_element table.entities rule.attributes) (λ names o. in_tag name names o) in_it names front m.0 plain
          (subst (λ (w : List ℕ). is_declared_once names w (find_declared rule.attributes w) ≡ true) m.1 may)
          (subst (λ (w : List ℕ). Ends table (in_tag name names (behind_equals w))) m.1 rest)

  pub attribute_ends : (names : List (List ℕ)) (o : OpenAttribute) → IsAttributeShaped (λ n v. IsValueShaped (find_declared rule.attributes n) v) o
      → attribute_can_end table.entities name rule.attributes names o ≡ true → Ends table (in_tag name names o)
  attribute_ends names (between spaced) s e = between_ends names spaced e
  attribute_ends names (in_attribute_name front) s e = name_by names front e
  attribute_ends names (behind_name n) s e =
      among.name_ends table (of_element table.entities rule.attributes) (λ names o. in_tag name names o) in_it names n (equals_by names n e)
  attribute_ends names (behind_equals n) s e = equals_by names n e
  attribute_ends names (in_value n quote v) s e = value_by names n quote v s.0 s.1 e

module _ (table : Table) (lawful : Lawful table) where
  known_of : (name : List ℕ) (rule : Rule) → find_rule table.elements name ≡ Some rule → AllKnown rule.attributes rule.attributes
  known_of name rule q = lawful_known rule.attributes (found_rule table.elements table.elements name rule lawful.rules q).known.attributes

  pub tag_ends : (name : List ℕ) (names : List (List ℕ)) (o : OpenAttribute) → IsTagShaped (find_rule table.elements name) o
      → tag_can_end table.entities name names o (find_rule table.elements name) ≡ true → Ends table (in_tag name names o)
  tag_ends name names o s e = at (find_rule table.elements name) refl s e
    where
      at : (f : Option Rule) → find_rule table.elements name ≡ f → IsTagShaped f o → tag_can_end table.entities name names o f ≡ true → Ends table (in_tag name names o)
      at None q s e = cc
      at (Some rule) q s e = attribute_ends table lawful name rule q (known_of name rule q) names o s e

  pub empty_ends : (name : List ℕ) (names : List (List ℕ)) → empty_can_end name names (find_rule table.elements name) ≡ true → Ends table (at_empty_end name names)
  empty_ends name names e = at (find_rule table.elements name) refl e
    where
      at : (f : Option Rule) → find_rule table.elements name ≡ f → empty_can_end name names f ≡ true → Ends table (at_empty_end name names)
      at None q e = cc
      at (Some rule) q e =
          ended table (at_empty_end name names) 62 refl
          (λ place. (
            behind 0,
            token.Start (element_of table name) ∷ token.End (element_of table name) ∷ [],
            ap (empty_move table name names 62) q ∙ if_true (are_all name rule.attributes names) (done (behind 0) (token.Start (element_of table name) ∷ token.End (element_of table name) ∷ [])) fail e,
          ))

  -- over the rest of the name of a tag
  over_tag_name : (more front : List ℕ) → list_all in_name more ≡ true → Ends table (in_tag_name (front ++ more)) → Ends table (in_tag_name front)
  over_tag_name [] front h e = subst (λ (w : List ℕ). Ends table (in_tag_name w)) (append-nil front) e
  over_tag_name (c ∷ more) front h e =
      let p = and_parts (in_name c) (list_all in_name more) h in
      goes table (in_tag_name front) (in_tag_name (front ++ c ∷ [])) c (name_character c p.0) (λ place. if_true (in_name c) _ _ p.0)
      (over_tag_name more (front ++ c ∷ []) p.1 (subst (λ (w : List ℕ). Ends table (in_tag_name w)) (sym (append_assoc front (c ∷ []) more)) e))

  pub tag_name_ends : (front : List ℕ) → list_any (element_can_begin table.entities front) table.elements ≡ true → Ends table (in_tag_name front)
  tag_name_ends front e = at (picked_rule table.elements table.elements (element_can_begin table.entities front) lawful.rules e)
    where
      at : PickedRule table.elements (element_can_begin table.entities front) → Ends table (in_tag_name front)
      at p =
          let r = p.rule in
          let x = and_parts (begins r.name front) (may_be_all table.entities r.name r.attributes []) p.passes in
          let m = begun front r.name x.0 in
          let plain : list_all in_name m.0 ≡ true = part_all in_name front m.0 (ap (list_all in_name) (sym m.1) ∙ name_all r.name p.known.named) in
          let inside : Ends table (in_tag r.name [] (between true)) = between_ends table lawful r.name r p.known.found (known_of r.name r p.known.found) [] true x.1 in
          let whole : Ends table (in_tag_name r.name) =
          goes table (in_tag_name r.name) (in_tag r.name [] (between true)) 32 refl
          (λ place. ap (tag_move table r.name [] (between false) 32) p.known.found) inside in
          over_tag_name m.0 front plain (subst (λ (w : List ℕ). Ends table (in_tag_name w)) m.1 whole)

  -- End tags.

  close : (name : List ℕ) (rule : Rule) → find_rule table.elements name ≡ Some rule → (spaced : Bool) → is_name name ≡ true → Ends table (in_end_tag name spaced)
  close [] rule q spaced n = cc
  close (c ∷ cs) rule q spaced n =
      ended table (in_end_tag (c ∷ cs) spaced) 62 refl
      (λ place. (
        behind 0,
        token.End (element_of table (c ∷ cs)) ∷ [],
        if_true (is_name (c ∷ cs)) (closed_move table (c ∷ cs) (find_rule table.elements (c ∷ cs))) fail n ∙ ap (closed_move table (c ∷ cs)) q,
      ))

  over_end_name : (more front : List ℕ) → is_name (front ++ more) ≡ true → Ends table (in_end_tag (front ++ more) false) → Ends table (in_end_tag front false)
  over_end_name [] front h e = subst (λ (w : List ℕ). Ends table (in_end_tag w false)) (append-nil front) e
  over_end_name (c ∷ more) [] h e =
      let p = and_parts (begins_name c) (list_all in_name more) h in
      goes table (in_end_tag [] false) (in_end_tag (c ∷ []) false) c (name_character c (among.begins_in c p.0))
      (λ place. if_true (begins_name c && true) _ _ (and_from (begins_name c) true p.0 refl))
      (over_end_name more (c ∷ []) h e)
  over_end_name (c ∷ more) (f ∷ front) h e =
      let n = part_all in_name (f ∷ front) (c ∷ more) (name_all ((f ∷ front) ++ c ∷ more) h) in
      let p = and_parts (in_name c) (list_all in_name more) n in
      let moved = append_assoc (f ∷ front) (c ∷ []) more in
      goes table (in_end_tag (f ∷ front) false) (in_end_tag ((f ∷ front) ++ c ∷ []) false) c (name_character c p.0)
      (λ place. if_true (in_name c && true) _ _ (and_from (in_name c) true p.0 refl))
      (over_end_name more ((f ∷ front) ++ c ∷ []) (subst (λ (w : List ℕ). is_name w ≡ true) (sym moved) h)
      (subst (λ (w : List ℕ). Ends table (in_end_tag w false)) (sym moved) e))

  pub end_tag_ends : (name : List ℕ) (spaced : Bool) → end_tag_can_end table name spaced ≡ true → Ends table (in_end_tag name spaced)
  end_tag_ends name true e = at (find_rule table.elements name) refl e
    where
      at : (f : Option Rule) → find_rule table.elements name ≡ f → is_some_rule f ≡ true → Ends table (in_end_tag name true)
      at None q e = cc
      at (Some rule) q e =
          let f = found_rule table.elements table.elements name rule lawful.rules q in
          close name rule q true (ap is_name (sym f.is) ∙ f.known.named)
  end_tag_ends front false e = at (picked_rule table.elements table.elements (λ (r : Rule). begins r.name front) lawful.rules (of_names table.elements e))
    where
      of_names : (rs : List Rule) → some_name_begins (map (λ (x : Rule). x.name) rs) front ≡ true → list_any (λ (r : Rule). begins r.name front) rs ≡ true
      of_names [] e = e
      of_names (r ∷ rs) e = by (begins r.name front) e (of_names rs)
        where
          by : (b : Bool) → (b || some_name_begins (map (λ (x : Rule). x.name) rs) front) ≡ true → (some_name_begins (map (λ (x : Rule). x.name) rs) front ≡ true → list_any (λ (r : Rule). begins r.name front) rs ≡ true)
              → (b || list_any (λ (r : Rule). begins r.name front) rs) ≡ true
          by true e ih = refl
          by false e ih = ih e

      at : PickedRule table.elements (λ (r : Rule). begins r.name front) → Ends table (in_end_tag front false)
      at p =
          let m = begun front p.rule.name p.passes in
          over_end_name m.0 front (ap is_name (sym m.1) ∙ p.known.named)
          (subst (λ (w : List ℕ). Ends table (in_end_tag w false)) m.1 (close p.rule.name p.rule p.known.found false p.known.named))
