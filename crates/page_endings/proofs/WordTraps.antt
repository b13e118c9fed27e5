-- Values in the XML declaration of which nothing can come stay so, and attributes.
use Rattle.std.proofs.Common.{◌≡◌, ◌⊎◌, inl, inr, ℕ, Bool, true, false, not, ◌&&◌, ◌||◌, List, [], ◌∷◌, ◌++◌, Option, Some, None, refl, sym, ◌∙◌, ap, subst, codes}
use Rattle.std.specs.Prelude.{if◌then◌else◌, nat_eq, bytes_eq}
use Rattle.std.specs.Char.{to_ascii_lowercase}
use Rattle.std.specs.List.{list_any, list_all}
use Rattle.std.specs.Str.{str_to_ascii_lowercase, str_eq_ignore_ascii_case}
use Rattle.std.proofs.lemmas.Bool.{and_parts, and_from, or_cases}
use Rattle.std.proofs.lemmas.Slice.Eq.{bytes_eq-Decides}
use Rattle.xml_text.specs.Characters.{is_blank}
use Rattle.xml_text.specs.Names.{begins_name, in_name}
use Rattle.dtd_model.specs.Table.{Declared}
use Rattle.page_model.specs.Fronts.{find_declared}
use Rattle.page_model.specs.OpenTags.{OpenAttribute, between, in_attribute_name, behind_name, behind_equals, in_value}
use Rattle.page_model.specs.OpenValues.{OpenValue, in_text, in_reference, in_fixed, in_choice, in_words}
use Rattle.page_model.specs.Attributes.{must_stand}
use Rattle.page_model.specs.Parts.{is_quote}
use Rattle.page_steps.specs.AttributeSteps.{AttributeMove, stays, ends_with, leaves, stops, equals_move, valued, attribute_move}
use Rattle.page_steps.specs.DoctypeSteps.{begins}
use Rattle.page_steps.specs.TagSteps.{is_among, names_with, is_declared_once, start_of, step_of, good_of, of_element, are_all, may_be_word, is_word_value, word_step, word_good, of_declaration}
use Rattle.page_steps.specs.ValueSteps.{may_stand, value_start}
use Rattle.element_attributes.proofs.Names.{has_name, among_with, itself}
use Rattle.page_endings.specs.Ending.{value_can_end, has_value, declared_so, can_be_written, may_be_all, may_be_one, may_be_next, attribute_can_end, declaration_words, word_begins, word_can_end, declared_word_can_end}
use Rattle.page_endings.proofs.Among.{quote_two}
use Rattle.page_endings.proofs.Begins.{not_true, any_through, begins_less, begins_itself}
use Rattle.page_endings.proofs.ReferenceTraps.{Stuck, stuck_if}
use Rattle.page_endings.proofs.ValueTraps.{value_stuck, value_not_good}

-- Values in the XML declaration.

pub same_begins : (front whole : List ℕ) → bytes_eq front whole ≡ true → begins whole front ≡ true
same_begins front whole e = ap (begins whole) ((bytes_eq-Decides front whole).0 e) ∙ begins_itself whole

lower_more : (value : List ℕ) (c : ℕ) → str_to_ascii_lowercase (value ++ c ∷ []) ≡ str_to_ascii_lowercase value ++ to_ascii_lowercase c ∷ []
lower_more [] c = refl
lower_more (v ∷ value) c = ap (λ (w : List ℕ). to_ascii_lowercase v ∷ w) (lower_more value c)

either_through : (x y z w : Bool) → (x ≡ true → z ≡ true) → (y ≡ true → w ≡ true) → (x || y) ≡ true → (z || w) ≡ true
either_through true y z w p q e = ap (λ (b : Bool). b || w) (p refl)
either_through false y true w p q e = refl
either_through false y false w p q e = q e

if_through : (b : Bool) (x y z w : Bool) → (x ≡ true → z ≡ true) → (y ≡ true → w ≡ true) → (if b then x else y) ≡ true → (if b then z else w) ≡ true
if_through true x y z w p q e = p e
if_through false x y z w p q e = q e

word_less : (name value : List ℕ) (c : ℕ) → word_begins name value ≡ false → word_begins name (value ++ c ∷ []) ≡ false
word_less name value c e = not_true (word_begins name (value ++ c ∷ [])) (word_begins name value) by e
  where
    less : (whole : List ℕ) → begins whole (value ++ c ∷ []) ≡ true → begins whole value ≡ true
    less whole h = begins_less value whole (c ∷ []) h

    low : begins (codes "utf-8") (str_to_ascii_lowercase (value ++ c ∷ [])) ≡ true → begins (codes "utf-8") (str_to_ascii_lowercase value) ≡ true
    low h = begins_less (str_to_ascii_lowercase value) (codes "utf-8") (to_ascii_lowercase c ∷ []) (ap (begins (codes "utf-8")) (sym (lower_more value c)) ∙ h)

    by : word_begins name (value ++ c ∷ []) ≡ true → word_begins name value ≡ true
    by h =
        if_through (bytes_eq name (codes "version")) _ _ _ _ (less (codes "1.0"))
        (if_through (bytes_eq name (codes "encoding")) _ _ _ _ low (either_through _ _ _ _ (less (codes "yes")) (less (codes "no")))) h

word_not_value : (name value : List ℕ) → word_begins name value ≡ false → is_word_value name value ≡ false
word_not_value name value e = not_true (is_word_value name value) (word_begins name value) by e
  where
    low : str_eq_ignore_ascii_case value (codes "UTF-8") ≡ true → begins (codes "utf-8") (str_to_ascii_lowercase value) ≡ true
    low h = same_begins (str_to_ascii_lowercase value) (codes "utf-8") h

    by : is_word_value name value ≡ true → word_begins name value ≡ true
    by h =
        if_through (bytes_eq name (codes "version")) _ _ _ _ (same_begins value (codes "1.0"))
        (if_through (bytes_eq name (codes "encoding")) _ _ _ _ low (either_through _ _ _ _ (same_begins value (codes "yes")) (same_begins value (codes "no")))) h

-- What a move leads to.

-- there is no move, or it leads where the tests fail: of what is open, of what stands behind an attribute, and of where none is open
abbrev pub StuckMove : (OpenAttribute → Bool) → (List (List ℕ) → Bool) → Bool → AttributeMove → Type 0
StuckMove test behind none (stays o) = test o ≡ false
StuckMove test behind none (ends_with names) = behind names ≡ false
StuckMove test behind none leaves = none ≡ false
StuckMove test behind none stops = Unit {0}

stuck_either : (test : OpenAttribute → Bool) (behind : List (List ℕ) → Bool) (none : Bool) (b : Bool) (x y : AttributeMove) → (b ≡ true → StuckMove test behind none x) → (b ≡ false → StuckMove test behind none y)
    → StuckMove test behind none (if b then x else y)
stuck_either test behind none true x y p q = p refl
stuck_either test behind none false x y p q = q refl

-- Attributes of an element.

or_true_left : (x y : Bool) → x ≡ true → (x || y) ≡ true
or_true_left true y e = refl
or_true_left false y e = cc

or_true_right : (x y : Bool) → y ≡ true → (x || y) ≡ true
or_true_right true y e = refl
or_true_right false y e = e

-- one that is found under a name passes
pub any_found : (rules : List Declared) (name : List ℕ) (d : Declared) (test : Declared → Bool) → find_declared rules name ≡ Some d → ((x : Declared) → x.name ≡ name → test x ≡ true) → list_any test rules ≡ true
any_found [] name d test e h = cc
any_found (r ∷ rs) name d test e h = at (bytes_eq r.name name) refl e (any_found rs name d test)
  where
    at : (b : Bool) → bytes_eq r.name name ≡ b → (if b then Some r else find_declared rs name) ≡ Some d
        → (find_declared rs name ≡ Some d → ((x : Declared) → x.name ≡ name → test x ≡ true) → list_any test rs ≡ true) → (test r || list_any test rs) ≡ true
    at true q i ih = or_true_left (test r) (list_any test rs) (h r ((bytes_eq-Decides r.name name).0 q))
    at false q i ih = or_true_right (test r) (list_any test rs) (ih i h)

all_through : (test other : Declared → Bool) → ((d : Declared) → test d ≡ true → other d ≡ true) → (ds : List Declared) → list_all test ds ≡ true → list_all other ds ≡ true
all_through test other f [] h = refl
all_through test other f (d ∷ ds) h =
    let p = and_parts (test d) (list_all test ds) h in
    and_from (other d) (list_all other ds) (f d p.0) (all_through test other f ds p.1)

true_through : (b x y : Bool) → (x ≡ true → y ≡ true) → (if b then x else true) ≡ true → (if b then y else true) ≡ true
true_through true x y f e = f e
true_through false x y f e = refl

or_through : (x y z w : Bool) → (x ≡ true → (z || w) ≡ true) → (y ≡ true → w ≡ true) → (x || y) ≡ true → (z || w) ≡ true
or_through true y z w f g e = f refl
or_through false true z w f g e = or_true_right z w (g refl)
or_through false false z w f g e = cc

module _ (entities : List (List ℕ)) (tag_name : List ℕ) (rules : List Declared) where
  -- what stands is among those that may
  pub all_may_be : (names : List (List ℕ)) → are_all tag_name rules names ≡ true → may_be_all entities tag_name rules names ≡ true
  all_may_be names e =
      all_through (λ (d : Declared). if must_stand tag_name d then is_among names d.name else true) (λ (d : Declared). if must_stand tag_name d then is_among names d.name || can_be_written entities rules d.name else true)
      (λ d h. true_through (must_stand tag_name d) (is_among names d.name) (is_among names d.name || can_be_written entities rules d.name) (or_true_left (is_among names d.name) (can_be_written entities rules d.name)) h) rules e

  -- what can be one more need not stand
  one_less : (names : List (List ℕ)) (name : List ℕ) → may_be_one entities tag_name rules names name ≡ true → may_be_all entities tag_name rules names ≡ true
  one_less names name e =
      let p = and_parts (can_be_written entities rules name) (may_be_all entities tag_name rules (name ∷ names)) e in
      all_through (λ (d : Declared). if must_stand tag_name d then is_among (name ∷ names) d.name || can_be_written entities rules d.name else true) (λ (d : Declared). if must_stand tag_name d then is_among names d.name || can_be_written entities rules d.name else true)
      (λ d h. true_through (must_stand tag_name d) (is_among (name ∷ names) d.name || can_be_written entities rules d.name) (is_among names d.name || can_be_written entities rules d.name) (one d p.0) h) rules p.1
    where
      one : (d : Declared) → can_be_written entities rules name ≡ true → (is_among (name ∷ names) d.name || can_be_written entities rules d.name) ≡ true → (is_among names d.name || can_be_written entities rules d.name) ≡ true
      one d w h = or_through (is_among (name ∷ names) d.name) (can_be_written entities rules d.name) (is_among names d.name) (can_be_written entities rules d.name) first (λ i. i) h
        where
          at : (bytes_eq d.name name ≡ true) ⊎ (is_among names d.name ≡ true) → (is_among names d.name || can_be_written entities rules d.name) ≡ true
          at (inl i) = or_true_right (is_among names d.name) (can_be_written entities rules d.name) (ap (can_be_written entities rules) ((bytes_eq-Decides d.name name).0 i) ∙ w)
          at (inr i) = or_true_left (is_among names d.name) (can_be_written entities rules d.name) i

          first : is_among (name ∷ names) d.name ≡ true → (is_among names d.name || can_be_written entities rules d.name) ≡ true
          first i = at (or_cases (bytes_eq d.name name) (is_among names d.name) i)

  -- behind an attribute no more stand than before it and its own
  behind_less : (names : List (List ℕ)) (name : List ℕ) → may_be_all entities tag_name rules (names_with rules names name) ≡ true → may_be_all entities tag_name rules (name ∷ names) ≡ true
  behind_less names name e =
      all_through (λ (d : Declared). if must_stand tag_name d then is_among (names_with rules names name) d.name || can_be_written entities rules d.name else true)
      (λ (d : Declared). if must_stand tag_name d then is_among (name ∷ names) d.name || can_be_written entities rules d.name else true)
      (λ d h. true_through (must_stand tag_name d) (is_among (names_with rules names name) d.name || can_be_written entities rules d.name) (is_among (name ∷ names) d.name || can_be_written entities rules d.name) (one d) h) rules e
    where
      one : (d : Declared) → (is_among (names_with rules names name) d.name || can_be_written entities rules d.name) ≡ true → (is_among (name ∷ names) d.name || can_be_written entities rules d.name) ≡ true
      one d h = or_through (is_among (names_with rules names name) d.name) (can_be_written entities rules d.name) (is_among (name ∷ names) d.name) (can_be_written entities rules d.name) first (λ i. i) h
        where
          at : (is_among names d.name ≡ true) ⊎ (bytes_eq name d.name ≡ true) → is_among (name ∷ names) d.name ≡ true
          at (inl i) = or_true_right (bytes_eq d.name name) (is_among names d.name) i
          at (inr i) = or_true_left (bytes_eq d.name name) (is_among names d.name) (ap (bytes_eq d.name) ((bytes_eq-Decides name d.name).0 i) ∙ itself d.name)

          first : is_among (names_with rules names name) d.name ≡ true → (is_among (name ∷ names) d.name || can_be_written entities rules d.name) ≡ true
          first i =
              let p = and_parts (has_name rules d.name) (is_among names d.name || bytes_eq name d.name) (sym (among_with rules names name d.name) ∙ i) in
              or_true_left (is_among (name ∷ names) d.name) (can_be_written entities rules d.name) (at (or_cases (is_among names d.name) (bytes_eq name d.name) p.1))

  next_less : (names : List (List ℕ)) (front : List ℕ) (c : ℕ) → list_any (may_be_next entities tag_name rules names front) rules ≡ false → list_any (may_be_next entities tag_name rules names (front ++ c ∷ [])) rules ≡ false
  next_less names front c e =
      not_true (list_any (may_be_next entities tag_name rules names (front ++ c ∷ [])) rules) (list_any (may_be_next entities tag_name rules names front) rules)
      (any_through (may_be_next entities tag_name rules names (front ++ c ∷ [])) (may_be_next entities tag_name rules names front) less rules) e
    where
      less : (d : Declared) → may_be_next entities tag_name rules names (front ++ c ∷ []) d ≡ true → may_be_next entities tag_name rules names front d ≡ true
      less d h =
          let p = and_parts (begins d.name (front ++ c ∷ [])) (not (is_among names d.name) && may_be_one entities tag_name rules names d.name) h in
          and_from (begins d.name front) (not (is_among names d.name) && may_be_one entities tag_name rules names d.name) (begins_less front d.name (c ∷ []) p.0) p.1

  -- no name begins where all that have to stand cannot
  no_next : (names : List (List ℕ)) (front : List ℕ) → may_be_all entities tag_name rules names ≡ false → list_any (may_be_next entities tag_name rules names front) rules ≡ false
  no_next names front e = not_true (list_any (may_be_next entities tag_name rules names front) rules) (may_be_all entities tag_name rules names) (some rules) e
    where
      some : (ds : List Declared) → list_any (may_be_next entities tag_name rules names front) ds ≡ true → may_be_all entities tag_name rules names ≡ true
      some [] i = cc
      some (d ∷ ds) i = at (or_cases (may_be_next entities tag_name rules names front d) (list_any (may_be_next entities tag_name rules names front) ds) i) (some ds)
        where
          at : (may_be_next entities tag_name rules names front d ≡ true) ⊎ (list_any (may_be_next entities tag_name rules names front) ds ≡ true)
              → (list_any (may_be_next entities tag_name rules names front) ds ≡ true → may_be_all entities tag_name rules names ≡ true) → may_be_all entities tag_name rules names ≡ true
          at (inl j) ih =
              let p = and_parts (begins d.name front) (not (is_among names d.name) && may_be_one entities tag_name rules names d.name) j in
              one_less names d.name (and_parts (not (is_among names d.name)) (may_be_one entities tag_name rules names d.name) p.1).1
          at (inr j) ih = ih j

  -- a whole name that may stand and can be one more is among those that may come
  whole_next : (names : List (List ℕ)) (name : List ℕ) → is_declared_once names name (find_declared rules name) ≡ true → may_be_one entities tag_name rules names name ≡ true
      → list_any (may_be_next entities tag_name rules names name) rules ≡ true
  whole_next names name may one = at (find_declared rules name) refl may
    where
      at : (o : Option Declared) → find_declared rules name ≡ o → is_declared_once names name o ≡ true → list_any (may_be_next entities tag_name rules names name) rules ≡ true
      at None q e = cc
      at (Some d) q e =
          any_found rules name d (may_be_next entities tag_name rules names name) q
          (λ x i. subst (λ (w : List ℕ). (begins w name && (not (is_among names w) && may_be_one entities tag_name rules names w)) ≡ true) (sym i)
          (and_from (begins name name) (not (is_among names name) && may_be_one entities tag_name rules names name) (begins_itself name)
          (and_from (not (is_among names name)) (may_be_one entities tag_name rules names name) e one)))

  pub attribute_stuck : (names : List (List ℕ)) (o : OpenAttribute) (c : ℕ) → attribute_can_end entities tag_name rules names o ≡ false
      → StuckMove (attribute_can_end entities tag_name rules names) (may_be_all entities tag_name rules) (may_be_all entities tag_name rules names) (attribute_move (of_element entities rules) names o c)
  attribute_stuck names (between spaced) c e =
      stuck_either _ _ _ (is_blank c) (stays (between true)) _ (λ i. e)
      (λ i. stuck_either _ _ _ (begins_name c) (if spaced then stays (in_attribute_name (c ∷ [])) else stops) leaves
      (λ j. stuck_either _ _ _ spaced (stays (in_attribute_name (c ∷ []))) stops (λ k. no_next names (c ∷ []) e) (λ k. tt)) (λ j. e))
  attribute_stuck names (in_attribute_name front) c e =
      stuck_either _ _ _ (in_name c) (stays (in_attribute_name (front ++ c ∷ []))) _ (λ i. next_less names front c e)
      (λ i. stuck_either _ _ _ (is_declared_once names front (find_declared rules front)) (equals_move front c) stops (λ j. equals j) (λ j. tt))
    where
      no : is_declared_once names front (find_declared rules front) ≡ true → may_be_one entities tag_name rules names front ≡ false
      no may = not_true (may_be_one entities tag_name rules names front) (list_any (may_be_next entities tag_name rules names front) rules) (whole_next names front may) e

      equals : is_declared_once names front (find_declared rules front) ≡ true
          → StuckMove (attribute_can_end entities tag_name rules names) (may_be_all entities tag_name rules) (may_be_all entities tag_name rules names) (equals_move front c)
      equals may = stuck_either _ _ _ (is_blank c) (stays (behind_name front)) _ (λ i. no may) (λ i. stuck_either _ _ _ (nat_eq c 61) (stays (behind_equals front)) stops (λ j. no may) (λ j. tt))
  attribute_stuck names (behind_name name) c e =
      stuck_either _ _ _ (is_blank c) (stays (behind_name name)) _ (λ i. e) (λ i. stuck_either _ _ _ (nat_eq c 61) (stays (behind_equals name)) stops (λ j. e) (λ j. tt))
  attribute_stuck names (behind_equals name) c e =
      stuck_either _ _ _ (is_blank c) (stays (behind_equals name)) _ (λ i. e)
      (λ i. stuck_either _ _ _ (is_quote c) (stays (in_value name c (start_of (find_declared rules name)))) stops (λ j. not_true _ _ (started j) e) (λ j. tt))
    where
      value : (o : Option Declared) → is_quote c ≡ true → declared_so (λ d. value_can_end entities d c (start_of o)) o ≡ true → declared_so (has_value entities) o ≡ true
      value None q h = cc
      value (Some d) q h = at (quote_two c q)
        where
          at : (c ≡ 34) ⊎ (c ≡ 39) → has_value entities d ≡ true
          at (inl i) = or_true_left (value_can_end entities d 34 (value_start d)) (value_can_end entities d 39 (value_start d)) (ap (λ (k : ℕ). value_can_end entities d k (value_start d)) (sym i) ∙ h)
          at (inr i) = or_true_right (value_can_end entities d 34 (value_start d)) (value_can_end entities d 39 (value_start d)) (ap (λ (k : ℕ). value_can_end entities d k (value_start d)) (sym i) ∙ h)

      started : is_quote c ≡ true → (declared_so (λ d. value_can_end entities d c (start_of (find_declared rules name))) (find_declared rules name) && may_be_all entities tag_name rules (name ∷ names)) ≡ true
          → may_be_one entities tag_name rules names name ≡ true
      started q h =
          let p = and_parts (declared_so (λ d. value_can_end entities d c (start_of (find_declared rules name))) (find_declared rules name)) (may_be_all entities tag_name rules (name ∷ names)) h in
          and_from (can_be_written entities rules name) (may_be_all entities tag_name rules (name ∷ names)) (value (find_declared rules name) q p.0) p.1
  attribute_stuck names (in_value name quote v) c e =
      stuck_either _ _ _ (nat_eq c quote) _ _
      (λ i. stuck_either _ _ _ (good_of entities (find_declared rules name) v) (ends_with (names_with rules names name)) stops (λ j. not_true _ _ (ended j) e) (λ j. tt))
      (λ i. goes (step_of entities (find_declared rules name) v c) refl i)
    where
      good : (o : Option Declared) → good_of entities o v ≡ true → declared_so (λ d. value_can_end entities d quote v) o ≡ true
      good None h = cc
      good (Some d) h = at (value_can_end entities d quote v) refl
        where
          at : (b : Bool) → value_can_end entities d quote v ≡ b → b ≡ true
          at true i = refl
          at false i = let z : false ≡ true = sym (value_not_good entities d quote v i) ∙ h in cc

      ended : good_of entities (find_declared rules name) v ≡ true → may_be_all entities tag_name rules (names_with rules names name) ≡ true
          → (declared_so (λ d. value_can_end entities d quote v) (find_declared rules name) && may_be_all entities tag_name rules (name ∷ names)) ≡ true
      ended g h =
          and_from (declared_so (λ d. value_can_end entities d quote v) (find_declared rules name)) (may_be_all entities tag_name rules (name ∷ names)) (good (find_declared rules name) g) (behind_less names name h)

      through : (o : Option Declared) (g : OpenValue) → step_of entities o v c ≡ Some g → nat_eq c quote ≡ false → declared_so (λ d. value_can_end entities d quote g) o ≡ true → declared_so (λ d. value_can_end entities d quote v) o ≡ true
      through None g i q h = cc
      through (Some d) g i q h = at (value_can_end entities d quote v) refl
        where
          at : (b : Bool) → value_can_end entities d quote v ≡ b → b ≡ true
          at true j = refl
          at false j =
              let s : Stuck (value_can_end entities d quote) (Some g) = subst (λ (o : Option OpenValue). Stuck (value_can_end entities d quote) o) i (value_stuck entities d quote v c q j) in
              let z : false ≡ true = sym s ∙ h in cc

      goes : (o : Option OpenValue) → step_of entities (find_declared rules name) v c ≡ o → nat_eq c quote ≡ false
          → StuckMove (attribute_can_end entities tag_name rules names) (may_be_all entities tag_name rules) (may_be_all entities tag_name rules names) (valued name quote o)
      goes None i q = tt
      goes (Some g) i q = not_true _ _ back e
        where
          back : (declared_so (λ d. value_can_end entities d quote g) (find_declared rules name) && may_be_all entities tag_name rules (name ∷ names)) ≡ true
              → (declared_so (λ d. value_can_end entities d quote v) (find_declared rules name) && may_be_all entities tag_name rules (name ∷ names)) ≡ true
          back h =
              let p = and_parts (declared_so (λ d. value_can_end entities d quote g) (find_declared rules name)) (may_be_all entities tag_name rules (name ∷ names)) h in
              and_from (declared_so (λ d. value_can_end entities d quote v) (find_declared rules name)) (may_be_all entities tag_name rules (name ∷ names)) (through (find_declared rules name) g i q p.0) p.1

-- Attributes of the XML declaration.

word_less_any : (names : List (List ℕ)) (front : List ℕ) (c : ℕ) → declared_word_can_end names (in_attribute_name front) ≡ false → declared_word_can_end names (in_attribute_name (front ++ c ∷ [])) ≡ false
word_less_any names front c e =
    not_true (list_any (λ (word : List ℕ). begins word (front ++ c ∷ []) && may_be_word names word) declaration_words) (list_any (λ (word : List ℕ). begins word front && may_be_word names word) declaration_words)
    (any_through (λ (word : List ℕ). begins word (front ++ c ∷ []) && may_be_word names word) (λ (word : List ℕ). begins word front && may_be_word names word) less declaration_words) e
  where
    less : (word : List ℕ) → (begins word (front ++ c ∷ []) && may_be_word names word) ≡ true → (begins word front && may_be_word names word) ≡ true
    less word h = let p = and_parts (begins word (front ++ c ∷ [])) (may_be_word names word) h in and_from (begins word front) (may_be_word names word) (begins_less front word (c ∷ []) p.0) p.1

not_word : (names : List (List ℕ)) (name : List ℕ) → declared_word_can_end names (in_attribute_name name) ≡ false → may_be_word names name ≡ false
not_word names name e = not_true (may_be_word names name) (list_any (λ (word : List ℕ). begins word name && may_be_word names word) declaration_words) by e
  where
    is : (word : List ℕ) → bytes_eq name word ≡ true → may_be_word names name ≡ true → (begins word name && may_be_word names word) ≡ true
    is word i h =
        let q = (bytes_eq-Decides name word).0 i in
        and_from (begins word name) (may_be_word names word) (ap (begins word) q ∙ begins_itself word) (ap (may_be_word names) (sym q) ∙ h)

    first : bytes_eq name (codes "version") ≡ true → may_be_word names name ≡ true → list_any (λ (word : List ℕ). begins word name && may_be_word names word) declaration_words ≡ true
    first i h = or_true_left _ _ (is (codes "version") i h)

    second : bytes_eq name (codes "encoding") ≡ true → may_be_word names name ≡ true → list_any (λ (word : List ℕ). begins word name && may_be_word names word) declaration_words ≡ true
    second i h = or_true_right (begins (codes "version") name && may_be_word names (codes "version")) _ (or_true_left _ _ (is (codes "encoding") i h))

    third : bytes_eq name (codes "standalone") ≡ true → may_be_word names name ≡ true → list_any (λ (word : List ℕ). begins word name && may_be_word names word) declaration_words ≡ true
    third i h =
        or_true_right (begins (codes "version") name && may_be_word names (codes "version")) _
        (or_true_right (begins (codes "encoding") name && may_be_word names (codes "encoding")) _ (or_true_left _ _ (is (codes "standalone") i h)))

    which : (ns : List (List ℕ)) → may_be_word ns name ≡ true → (bytes_eq name (codes "version") ≡ true) ⊎ ((bytes_eq name (codes "encoding") ≡ true) ⊎ (bytes_eq name (codes "standalone") ≡ true))
    which [] h = inl h
    which (version ∷ []) h = inr (or_cases (bytes_eq name (codes "encoding")) (bytes_eq name (codes "standalone")) h)
    which (version ∷ second ∷ []) h = inr (inr (and_parts (bytes_eq second (codes "encoding")) (bytes_eq name (codes "standalone")) h).1)
    which (version ∷ second ∷ third ∷ more) h = cc

    at : (bytes_eq name (codes "version") ≡ true) ⊎ ((bytes_eq name (codes "encoding") ≡ true) ⊎ (bytes_eq name (codes "standalone") ≡ true)) → may_be_word names name ≡ true
        → list_any (λ (word : List ℕ). begins word name && may_be_word names word) declaration_words ≡ true
    at (inl i) h = first i h
    at (inr (inl i)) h = second i h
    at (inr (inr i)) h = third i h

    by : may_be_word names name ≡ true → list_any (λ (word : List ℕ). begins word name && may_be_word names word) declaration_words ≡ true
    by h = at (which names h) h

word_stuck : (name : List ℕ) (v : OpenValue) (c : ℕ) → word_can_end name v ≡ false → Stuck (word_can_end name) (word_step v c)
word_stuck name in_text c e = tt
word_stuck name (in_reference r) c e = tt
word_stuck name (in_fixed value) c e = stuck_if (word_can_end name) (may_stand c) (in_fixed (value ++ c ∷ [])) (word_less name value c e)
word_stuck name (in_choice word spaced) c e = tt
word_stuck name (in_words inside one) c e = tt

word_not_good : (name : List ℕ) (v : OpenValue) → word_can_end name v ≡ false → word_good name v ≡ false
word_not_good name in_text e = refl
word_not_good name (in_reference r) e = refl
word_not_good name (in_fixed value) e = word_not_value name value e
word_not_good name (in_choice word spaced) e = refl
word_not_good name (in_words inside one) e = refl

pub declaration_stuck : (names : List (List ℕ)) (o : OpenAttribute) (c : ℕ) → declared_word_can_end names o ≡ false
    → StuckMove (declared_word_can_end names) (λ more. true) true (attribute_move of_declaration names o c)
declaration_stuck names (between spaced) c e = cc
declaration_stuck names (in_attribute_name front) c e =
    stuck_either _ _ _ (in_name c) (stays (in_attribute_name (front ++ c ∷ []))) _ (λ i. word_less_any names front c e)
    (λ i. subst (λ (b : Bool). StuckMove (declared_word_can_end names) (λ more. true) true (if b then equals_move front c else stops)) (sym (not_word names front e)) tt)
declaration_stuck names (behind_name name) c e = cc
declaration_stuck names (behind_equals name) c e = cc
declaration_stuck names (in_value name quote v) c e =
    stuck_either _ _ _ (nat_eq c quote) _ _
    (λ i. subst (λ (b : Bool). StuckMove (declared_word_can_end names) (λ more. true) true (if b then ends_with (names ++ name ∷ []) else stops)) (sym (word_not_good name v e)) tt)
    (λ i. at (word_step v c) (word_stuck name v c e))
  where
    at : (o : Option OpenValue) → Stuck (word_can_end name) o → StuckMove (declared_word_can_end names) (λ more. true) true (valued name quote o)
    at None q = tt
    at (Some g) q = q
