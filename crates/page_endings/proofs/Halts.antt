-- What is open and does not go on with some first bytes of a character comes to nothing behind it.
use Rattle.std.proofs.Common.{◌≡◌, ℕ, ◌≤◌, Bool, true, false, not, ◌&&◌, ◌||◌, List, [], ◌∷◌, ◌++◌, Option, Some, None, refl, sym, ◌∙◌, ap, subst, arith, append_assoc, codes}
use Rattle.std.specs.Prelude.{if◌then◌else◌, nat_eq, bytes_eq}
use Rattle.std.specs.Char.{encode_utf8, to_ascii_lowercase}
use Rattle.std.specs.List.{list_all}
use Rattle.std.specs.Str.{encode_utf8_all, str_to_ascii_lowercase}
use Rattle.std.proofs.lemmas.Bool.{and_parts, and_from}
use Rattle.std.proofs.lemmas.Bool.Decides.{nat_tests}
use Rattle.text_base.specs.declared.page_token.PageToken.{PageToken}
use Rattle.xml_text.specs.Characters.{is_character}
use Rattle.dtd_model.specs.Table.{Presence, implied, required, with_default, fixed, Declared, Rule, Table}
use Rattle.page_model.specs.Attributes.{find_rule}
use Rattle.page_model.specs.Parts.{is_quote, may_be_quoted}
use Rattle.page_model.specs.Places.{Place}
use Rattle.piece_steps.specs.Readers.{Move, go, done, fail, whole, ends}
use Rattle.piece_steps.proofs.Narrowed.{AllPass}
use Rattle.character_steps.specs.Encoded.{Held, encoded}
use Rattle.page_model.specs.Fronts.{Open, nothing, in_reference, in_opener, in_tag_name, in_tag, at_empty_end, in_end_tag, in_comment, in_section, in_target, behind_target, in_instruction, in_declaration, at_declaration_end, in_doctype, find_declared}
use Rattle.page_model.specs.OpenTags.{OpenAttribute, between, in_attribute_name, behind_name, behind_equals, in_value}
use Rattle.page_model.specs.OpenValues.{OpenValue, in_text, in_reference as in_value_reference, in_fixed, in_choice, in_words}
use Rattle.page_steps.specs.AttributeSteps.{ends_with, stops, valued, attribute_move}
use Rattle.page_steps.specs.DoctypeSteps.{begins}
use Rattle.page_steps.specs.PageSteps.{OpenMove, tag_by, tag_move, declaration_by, open_move, PageState, put_place, page_step, page_reader, page_hold}
use Rattle.page_steps.specs.TagSteps.{step_of, good_of, names_with, of_declaration, word_step, word_good}
use Rattle.page_steps.specs.ValueSteps.{may_stand, value_good}
use Rattle.page_endings.specs.Ending.{bytes_behind, fixed_rest, ends_by, fixed_can_end, value_can_end, declared_so, may_be_all, tag_can_end, word_begins, open_can_end, takes_several, fixed_goes_on, value_goes_on, tag_goes_on, declared_word_goes_on, goes_on_with, can_end}
use Rattle.page_endings.proofs.Begins.{not_true, begins_less, begins_itself}
use Rattle.page_endings.proofs.OpenTraps.{pages_keep}
use Rattle.page_endings.proofs.Refusals.{pages_refuse}
use Rattle.page_endings.proofs.Traps.{Trapped, Trap, all_pass_by_bytes, end_passes_by_bytes}
use Rattle.page_endings.proofs.ValueTraps.{bytes_left, good_wanted}
use Rattle.page_endings.proofs.Wide.{no_beginning}

-- no quote is a character of several bytes
no_several : (c quote : ℕ) → 128 ≤ c → is_quote quote ≡ true → nat_eq c quote ≡ false
no_several c quote h q = grind (arith, nat_tests)

quote_is : (b x : Bool) → (not b || x) ≡ false → (b ≡ true) × (x ≡ false)
quote_is true x e = (refl, e)
quote_is false x e = cc

several_stands : (c : ℕ) → 128 ≤ c → is_character c ≡ true → may_stand c ≡ true
several_stands c h e = grind (arith, nat_tests)

-- what begins with the bytes of a character begins with the first of them
first_bytes : (c : ℕ) (u others rest : List ℕ) → encode_utf8 c ≡ u ++ others → begins (encode_utf8_all (c ∷ rest)) u ≡ true
first_bytes c u others rest e =
    begins_less u (encode_utf8_all (c ∷ rest)) (others ++ encode_utf8_all rest)
    (ap (begins (encode_utf8_all (c ∷ rest))) (sym (append_assoc u others (encode_utf8_all rest)) ∙ ap (λ (w : List ℕ). w ++ encode_utf8_all rest) (sym e)) ∙ begins_itself (encode_utf8_all (c ∷ rest)))

-- a fixed value that has other bytes does not take the character
other_fixed : (entities : List (List ℕ)) (d : Declared) (quote : ℕ) (value u others : List ℕ) (c : ℕ) (presence : Presence) → d.presence ≡ presence → encode_utf8 c ≡ u ++ others
    → fixed_goes_on presence value u ≡ false → fixed_can_end entities d quote (value ++ c ∷ []) presence ≡ false
other_fixed entities d quote value u others c implied p e g = cc
other_fixed entities d quote value u others c required p e g = cc
other_fixed entities d quote value u others c with_default p e g = cc
other_fixed entities d quote value u others c (fixed wanted) p e g =
    not_true (ends_by entities d quote (value ++ c ∷ []) (fixed_rest wanted (value ++ c ∷ []))) (begins (bytes_behind wanted value) u) by g
  where
    by : ends_by entities d quote (value ++ c ∷ []) (fixed_rest wanted (value ++ c ∷ [])) ≡ true → begins (bytes_behind wanted value) u ≡ true
    by i =
        let rest = fixed_rest wanted (value ++ c ∷ []) in
        let x = and_parts (list_all (may_be_quoted quote) rest) (value_good entities d (in_fixed ((value ++ c ∷ []) ++ rest))) i in
        let whole = good_wanted entities d wanted ((value ++ c ∷ []) ++ rest) p x.1 ∙ ap encode_utf8_all (append_assoc value (c ∷ []) rest) in
        ap (λ (w : List ℕ). begins w u) (bytes_left wanted value (c ∷ rest) whole) ∙ first_bytes c u others rest e

module _ (table : Table) where
  abbrev Halts : OpenMove → Type 0
  Halts m = Trapped (open_can_end table) m

  none_and : (x y : Bool) → x ≡ false → (x && y) ≡ false
  none_and true y e = cc
  none_and false y e = refl

  -- in a tag
  tag_halts : (name : List ℕ) (names : List (List ℕ)) (o : OpenAttribute) (c : ℕ) (u others : List ℕ) (f : Option Rule) → find_rule table.elements name ≡ f → 128 ≤ c → is_character c ≡ true → encode_utf8 c ≡ u ++ others
      → tag_goes_on f o u ≡ false → Halts (tag_move table name names o c f)
  tag_halts name names o c u others None q l h e g = cc
  tag_halts name names (between spaced) c u others (Some rule) q l h e g = cc
  tag_halts name names (in_attribute_name n) c u others (Some rule) q l h e g = cc
  tag_halts name names (behind_name n) c u others (Some rule) q l h e g = cc
  tag_halts name names (behind_equals n) c u others (Some rule) q l h e g = cc
  tag_halts name names (in_value n quote v) c u others (Some rule) q l h e g =
      let p = quote_is (is_quote quote) (value_goes_on (find_declared rule.attributes n) v u) g in
      let other : nat_eq c quote ≡ false = no_several c quote l p.0 in
      subst (λ (b : Bool). Halts (tag_by table name rule names c (if b then (if good_of table.entities (find_declared rule.attributes n) v then ends_with (names_with rule.attributes names n) else stops) else valued n quote (step_of table.entities (find_declared rule.attributes n) v c))))
      (sym other) (at (find_declared rule.attributes n) refl v p.1)
    where
      fixed_so : (d : Declared) (value : List ℕ) → find_declared rule.attributes n ≡ Some d → fixed_goes_on d.presence value u ≡ false
          → tag_can_end table.entities name names (in_value n quote (in_fixed (value ++ c ∷ []))) (Some rule) ≡ false
      fixed_so d value i g =
          ap (λ (o : Option Declared). declared_so (λ x. value_can_end table.entities x quote (in_fixed (value ++ c ∷ []))) o && may_be_all table.entities name rule.attributes (n ∷ names)) i
          ∙ none_and (fixed_can_end table.entities d quote (value ++ c ∷ []) d.presence) (may_be_all table.entities name rule.attributes (n ∷ names)) (other_fixed table.entities d quote value u others c d.presence refl e g)

      at : (o : Option Declared) → find_declared rule.attributes n ≡ o → (v : OpenValue) → value_goes_on o v u ≡ false → Halts (tag_by table name rule names c (valued n quote (step_of table.entities o v c)))
      at None i v g = cc
      at (Some d) i in_text g = cc
      at (Some d) i (in_value_reference r) g = cc
      at (Some d) i (in_choice word spaced) g = cc
      at (Some d) i (in_words inside one) g = cc
      at (Some d) i (in_fixed value) g =
          subst (λ (b : Bool). Halts (tag_by table name rule names c (valued n quote (if b then Some (in_fixed (value ++ c ∷ [])) else None)))) (sym (several_stands c l h))
          (ap (tag_can_end table.entities name names (in_value n quote (in_fixed (value ++ c ∷ [])))) q ∙ fixed_so d value i g)

  -- in the XML declaration
  same_lower : (c : ℕ) → 128 ≤ c → to_ascii_lowercase c ≡ c
  same_lower c l = grind (arith, nat_tests)

  lower_last : (value : List ℕ) (c : ℕ) → str_to_ascii_lowercase (value ++ c ∷ []) ≡ str_to_ascii_lowercase value ++ to_ascii_lowercase c ∷ []
  lower_last [] c = refl
  lower_last (v ∷ value) c = ap (λ (w : List ℕ). to_ascii_lowercase v ∷ w) (lower_last value c)

  no_word : (name value : List ℕ) (c : ℕ) → 128 ≤ c → word_begins name (value ++ c ∷ []) ≡ false
  no_word name value c l = at (bytes_eq name (codes "version")) (bytes_eq name (codes "encoding"))
    where
      low : begins (codes "utf-8") (str_to_ascii_lowercase (value ++ c ∷ [])) ≡ false
      low =
          ap (begins (codes "utf-8")) (lower_last value c ∙ ap (λ (k : ℕ). str_to_ascii_lowercase value ++ k ∷ []) (same_lower c l))
          ∙ no_beginning (str_to_ascii_lowercase value) (codes "utf-8") c l refl

      neither : (x y : Bool) → x ≡ false → y ≡ false → (x || y) ≡ false
      neither true y p q = cc
      neither false y p q = q

      at : (v x : Bool) → (if v then begins (codes "1.0") (value ++ c ∷ []) else (if x then begins (codes "utf-8") (str_to_ascii_lowercase (value ++ c ∷ [])) else begins (codes "yes") (value ++ c ∷ []) || begins (codes "no") (value ++ c ∷ []))) ≡ false
      at true x = no_beginning value (codes "1.0") c l refl
      at false true = low
      at false false = neither (begins (codes "yes") (value ++ c ∷ [])) (begins (codes "no") (value ++ c ∷ [])) (no_beginning value (codes "yes") c l refl) (no_beginning value (codes "no") c l refl)

  declaration_halts : (names : List (List ℕ)) (o : OpenAttribute) (c : ℕ) → 128 ≤ c → is_character c ≡ true → declared_word_goes_on o ≡ false → Halts (declaration_by names c (attribute_move of_declaration names o c))
  declaration_halts names (between spaced) c l h g = cc
  declaration_halts names (in_attribute_name n) c l h g = cc
  declaration_halts names (behind_name n) c l h g = cc
  declaration_halts names (behind_equals n) c l h g = cc
  declaration_halts names (in_value n quote v) c l h g =
      subst (λ (b : Bool). Halts (declaration_by names c (if b then (if word_good n v then ends_with (names ++ n ∷ []) else stops) else valued n quote (word_step v c)))) (sym (no_several c quote l (quoted (is_quote quote) g))) (at v)
    where
      quoted : (b : Bool) → not b ≡ false → b ≡ true
      quoted true e = refl
      quoted false e = cc

      at : (v : OpenValue) → Halts (declaration_by names c (valued n quote (word_step v c)))
      at in_text = tt
      at (in_value_reference r) = tt
      at (in_choice word spaced) = tt
      at (in_words inside one) = tt
      at (in_fixed value) =
          subst (λ (b : Bool). Halts (declaration_by names c (valued n quote (if b then Some (in_fixed (value ++ c ∷ [])) else None)))) (sym (several_stands c l h)) (no_word n value c l)

  open_halts : (place : Place) (o : Open) (c : ℕ) (u others : List ℕ) → 128 ≤ c → is_character c ≡ true → encode_utf8 c ≡ u ++ others → goes_on_with table o u ≡ false → Halts (open_move table place o c)
  open_halts place nothing c u others l h e g = cc
  open_halts place (in_reference r) c u others l h e g = cc
  open_halts place (in_opener begun) c u others l h e g = cc
  open_halts place (in_tag_name name) c u others l h e g = cc
  open_halts place (in_tag name names o) c u others l h e g = tag_halts name names o c u others (find_rule table.elements name) refl l h e g
  open_halts place (at_empty_end name names) c u others l h e g = cc
  open_halts place (in_end_tag name spaced) c u others l h e g = cc
  open_halts place (in_comment dashes) c u others l h e g = cc
  open_halts place (in_section brackets) c u others l h e g = cc
  open_halts place (in_target o) c u others l h e g = cc
  open_halts place behind_target c u others l h e g = cc
  open_halts place (in_instruction asked) c u others l h e g = cc
  open_halts place (in_declaration names o) c u others l h e g = declaration_halts names o c l h g
  open_halts place at_declaration_end c u others l h e g = cc
  open_halts place (in_doctype o) c u others l h e g = cc

  -- what a state takes
  abbrev takes : PageState → List ℕ → Bool
  takes s u = takes_several s.inside && goes_on_with table s.inside u

  abbrev test : PageState → Bool
  test s = open_can_end table s.inside

  refuses : (s : PageState) (c : ℕ) (u others : List ℕ) → 128 ≤ c → is_character c ≡ true → encode_utf8 c ≡ u ++ others → takes s u ≡ false → Trapped test (page_step table s c)
  unfolding page_step
  refuses s c u others l h e g = at (takes_several s.inside) refl g
    where
      put : (m : OpenMove) → Halts m → Trapped test (put_place s.place m)
      put (go o) t = t
      put (done place tokens) t = t
      put fail t = tt

      goes : Trapped test (if is_character c then put_place s.place (open_move table s.place s.inside c) else fail) → Trapped test (page_step table s c)
      goes t = t

      at : (b : Bool) → takes_several s.inside ≡ b → (b && goes_on_with table s.inside u) ≡ false → Trapped test (page_step table s c)
      at false q i = subst (Trapped test) (sym (pages_refuse table s c l q)) tt
      at true q i =
          subst (λ (b : Bool). let m : Move Place PageToken PageState = if b then put_place s.place (open_move table s.place s.inside c) else fail in Trapped test m) (sym h)
          (put (open_move table s.place s.inside c) (open_halts s.place s.inside c u others l h e i))

  -- what does not go on with some bytes does not with more
  fixed_fewer : (presence : Presence) (value u : List ℕ) (b : ℕ) → fixed_goes_on presence value (u ++ b ∷ []) ≡ true → fixed_goes_on presence value u ≡ true
  fixed_fewer implied value u b e = refl
  fixed_fewer required value u b e = refl
  fixed_fewer with_default value u b e = refl
  fixed_fewer (fixed wanted) value u b e = begins_less u (bytes_behind wanted value) (b ∷ []) e

  value_fewer : (o : Option Declared) (v : OpenValue) (u : List ℕ) (b : ℕ) → value_goes_on o v (u ++ b ∷ []) ≡ true → value_goes_on o v u ≡ true
  value_fewer None v u b e = e
  value_fewer (Some d) in_text u b e = refl
  value_fewer (Some d) (in_value_reference r) u b e = refl
  value_fewer (Some d) (in_choice word spaced) u b e = refl
  value_fewer (Some d) (in_words inside one) u b e = refl
  value_fewer (Some d) (in_fixed value) u b e = fixed_fewer d.presence value u b e

  or_through : (x y z : Bool) → (y ≡ true → z ≡ true) → (x || y) ≡ true → (x || z) ≡ true
  or_through true y z f e = refl
  or_through false y z f e = f e

  tag_fewer : (f : Option Rule) (o : OpenAttribute) (u : List ℕ) (b : ℕ) → tag_goes_on f o (u ++ b ∷ []) ≡ true → tag_goes_on f o u ≡ true
  tag_fewer None o u b e = refl
  tag_fewer (Some rule) (between spaced) u b e = refl
  tag_fewer (Some rule) (in_attribute_name n) u b e = refl
  tag_fewer (Some rule) (behind_name n) u b e = refl
  tag_fewer (Some rule) (behind_equals n) u b e = refl
  tag_fewer (Some rule) (in_value n quote v) u b e =
      or_through (not (is_quote quote)) (value_goes_on (find_declared rule.attributes n) v (u ++ b ∷ [])) (value_goes_on (find_declared rule.attributes n) v u) (value_fewer (find_declared rule.attributes n) v u b) e

  goes_fewer : (o : Open) (u : List ℕ) (b : ℕ) → goes_on_with table o (u ++ b ∷ []) ≡ true → goes_on_with table o u ≡ true
  goes_fewer nothing u b e = refl
  goes_fewer (in_reference r) u b e = refl
  goes_fewer (in_opener begun) u b e = refl
  goes_fewer (in_tag_name name) u b e = refl
  goes_fewer (in_tag name names o) u b e = tag_fewer (find_rule table.elements name) o u b e
  goes_fewer (at_empty_end name names) u b e = refl
  goes_fewer (in_end_tag name spaced) u b e = refl
  goes_fewer (in_comment dashes) u b e = refl
  goes_fewer (in_section brackets) u b e = refl
  goes_fewer (in_target o) u b e = refl
  goes_fewer behind_target u b e = refl
  goes_fewer (in_instruction asked) u b e = refl
  goes_fewer (in_declaration names o) u b e = e
  goes_fewer at_declaration_end u b e = refl
  goes_fewer (in_doctype o) u b e = refl

  fewer : (s : PageState) (u : List ℕ) (b : ℕ) → takes s u ≡ false → takes s (u ++ b ∷ []) ≡ false
  fewer s u b e = not_true (takes s (u ++ b ∷ [])) (takes s u) by e
    where
      by : takes s (u ++ b ∷ []) ≡ true → takes s u ≡ true
      by i =
          let p = and_parts (takes_several s.inside) (goes_on_with table s.inside (u ++ b ∷ [])) i in
          and_from (takes_several s.inside) (goes_on_with table s.inside u) p.0 (goes_fewer s.inside u b p.1)

  trap : Trap (page_reader table) page_hold test takes
  trap = record { keeps = pages_keep table; refuses = refuses; fewer = fewer; held_test = λ s. refl; held_takes = λ s u. refl }

  -- each state from which a piece ends passes
  pub ends_can : (h : Held PageState) (bytes rest : List ℕ) (next : Place) (tokens : List PageToken) → ends (encoded (page_reader table) page_hold) h bytes ≡ whole next tokens rest → can_end table h ≡ true
  ends_can h bytes rest next tokens e = end_passes_by_bytes (page_reader table) page_hold test takes trap bytes h next tokens rest e

  pub all_pass : AllPass (can_end table) (encoded (page_reader table) page_hold)
  all_pass = all_pass_by_bytes (page_reader table) page_hold test takes trap
