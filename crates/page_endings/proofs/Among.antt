-- The rest of an attribute, in a tag or in the XML declaration.
use Rattle.std.proofs.Common.{◌≡◌, ◌⊎◌, inl, inr, ℕ, Bool, true, false, List, [], ◌∷◌, ◌++◌, Option, Some, None, refl, sym, ◌∙◌, ap, subst, arith, append-nil, append_assoc}
use Rattle.std.specs.Prelude.{nat_eq}
use Rattle.std.specs.List.{list_all}
use Rattle.std.proofs.lemmas.Bool.{and_parts, or_cases, eqb-true}
use Rattle.std.proofs.lemmas.Bool.Decides.{nat_tests}
use Rattle.xml_text.specs.Characters.{is_blank, is_character}
use Rattle.xml_text.specs.Names.{begins_name, in_name, is_name}
use Rattle.dtd_model.specs.Table.{Table}
use Rattle.page_model.specs.Parts.{is_quote, may_be_quoted}
use Rattle.piece_steps.specs.Insides.{accepted, accepts}
use Rattle.page_model.specs.Fronts.{Open}
use Rattle.page_model.specs.OpenTags.{OpenAttribute, between, in_attribute_name, behind_name, behind_equals, in_value}
use Rattle.page_model.specs.OpenValues.{OpenValue}
use Rattle.page_steps.specs.AttributeSteps.{Allowing, stays, ends_with, stops, valued, attribute_move}
use Rattle.page_endings.specs.Laws.{Ends}
use Rattle.page_endings.proofs.Going.{if_true, if_false}

-- what is open among attributes, and what their moves are to it
pub record Among (table : Table) (a : Allowing) (wrap : List (List ℕ) → OpenAttribute → Open) : Type 0 where
  pub on : (names : List (List ℕ)) (o g : OpenAttribute) (c : ℕ) → is_character c ≡ true → attribute_move a names o c ≡ stays g
      → Ends table (wrap names g) → Ends table (wrap names o)
  pub behind : (names more : List (List ℕ)) (o : OpenAttribute) (c : ℕ) → is_character c ≡ true → attribute_move a names o c ≡ ends_with more
      → Ends table (wrap more (between false)) → Ends table (wrap names o)

-- some characters make a value good that is open in such quotes
pub record Written (step : OpenValue → ℕ → Option OpenValue) (good : OpenValue → Bool) (quote : ℕ) (v : OpenValue) : Type 0 where
  pub rest : List ℕ
  pub quoted : list_all (may_be_quoted quote) rest ≡ true
  pub taken : accepts step good v rest ≡ true

pub name_character : (c : ℕ) → in_name c ≡ true → is_character c ≡ true
name_character c h = grind (arith, nat_tests)

pub begins_in : (c : ℕ) → begins_name c ≡ true → in_name c ≡ true
begins_in c h = grind (arith, nat_tests)

pub begins_no_blank : (c : ℕ) → begins_name c ≡ true → is_blank c ≡ false
begins_no_blank c h = grind (arith, nat_tests)

pub quote_two : (c : ℕ) → is_quote c ≡ true → (c ≡ 34) ⊎ (c ≡ 39)
quote_two c h = at (or_cases (nat_eq c 34) (nat_eq c 39) h)
  where
    at : (nat_eq c 34 ≡ true) ⊎ (nat_eq c 39 ≡ true) → (c ≡ 34) ⊎ (c ≡ 39)
    at (inl e) = inl (eqb-true c 34 e)
    at (inr e) = inr (eqb-true c 39 e)

pub quote_character : (c : ℕ) → is_quote c ≡ true → is_character c ≡ true
quote_character c h = grind (arith, nat_tests)

pub quote_no_blank : (c : ℕ) → is_quote c ≡ true → is_blank c ≡ false
quote_no_blank c h = grind (arith, nat_tests)

eqb_self : (n : ℕ) → nat_eq n n ≡ true
eqb_self n = grind (arith, nat_tests)

not_quote : (quote c : ℕ) → may_be_quoted quote c ≡ true → nat_eq c quote ≡ false
not_quote quote c h = grind (arith, nat_tests)

quoted_character : (quote c : ℕ) → may_be_quoted quote c ≡ true → is_character c ≡ true
quoted_character quote c h = (and_parts (is_character c) _ h).0

module _ (table : Table) (a : Allowing) (wrap : List (List ℕ) → OpenAttribute → Open) (among : Among table a wrap) where
  -- over the rest of a name
  pub over_name : (names : List (List ℕ)) (more front : List ℕ) → list_all in_name more ≡ true → Ends table (wrap names (in_attribute_name (front ++ more)))
      → Ends table (wrap names (in_attribute_name front))
  over_name names [] front h e = subst (λ (w : List ℕ). Ends table (wrap names (in_attribute_name w))) (append-nil front) e
  over_name names (c ∷ more) front h e =
      let p = and_parts (in_name c) (list_all in_name more) h in
      among.on names (in_attribute_name front) (in_attribute_name (front ++ c ∷ [])) c (name_character c p.0) (if_true (in_name c) _ _ p.0)
      (over_name names more (front ++ c ∷ []) p.1 (subst (λ (w : List ℕ). Ends table (wrap names (in_attribute_name w))) (sym (append_assoc front (c ∷ []) more)) e))

  -- what makes the value good, and its quote
  over_value : (names : List (List ℕ)) (name : List ℕ) (quote : ℕ) (rest : List ℕ) (v : OpenValue) → is_quote quote ≡ true → list_all (may_be_quoted quote) rest ≡ true
      → accepts (a.step name) (a.good name) v rest ≡ true → Ends table (wrap (a.added names name) (between false)) → Ends table (wrap names (in_value name quote v))
  over_value names name quote [] v q h good e =
      among.behind names (a.added names name) (in_value name quote v) quote (quote_character quote q)
      (if_true (nat_eq quote quote) _ _ (eqb_self quote) ∙ if_true (a.good name v) (ends_with (a.added names name)) stops good) e
  over_value names name quote (c ∷ rest) v q h good e =
      let p = and_parts (may_be_quoted quote c) (list_all (may_be_quoted quote) rest) h in
      at (a.step name v c) refl good p
      (λ g i. over_value names name quote rest g q p.1 i e)
    where
      at : (o : Option OpenValue) → a.step name v c ≡ o → accepted o (λ g. accepts (a.step name) (a.good name) g rest) ≡ true
          → (may_be_quoted quote c ≡ true) × (list_all (may_be_quoted quote) rest ≡ true)
          → ((g : OpenValue) → accepts (a.step name) (a.good name) g rest ≡ true → Ends table (wrap names (in_value name quote g))) → Ends table (wrap names (in_value name quote v))
      at None i good p ih = cc
      at (Some g) i good p ih =
          among.on names (in_value name quote v) (in_value name quote g) c (quoted_character quote c p.0)
          (if_false (nat_eq c quote) _ _ (not_quote quote c p.0) ∙ ap (valued name quote) i) (ih g good)

  pub value_ends : (names : List (List ℕ)) (name : List ℕ) (quote : ℕ) (v : OpenValue) → is_quote quote ≡ true → Written (a.step name) (a.good name) quote v
      → Ends table (wrap (a.added names name) (between false)) → Ends table (wrap names (in_value name quote v))
  value_ends names name quote v q w e = over_value names name quote w.rest v q w.quoted w.taken e

  -- behind `=`
  pub equals_ends : (names : List (List ℕ)) (name : List ℕ) (quote : ℕ) → is_quote quote ≡ true → Written (a.step name) (a.good name) quote (a.start name)
      → Ends table (wrap (a.added names name) (between false)) → Ends table (wrap names (behind_equals name))
  equals_ends names name quote q w e =
      among.on names (behind_equals name) (in_value name quote (a.start name)) quote (quote_character quote q)
      (if_false (is_blank quote) _ _ (quote_no_blank quote q) ∙ if_true (is_quote quote) _ _ q) (value_ends names name quote (a.start name) q w e)

  -- behind a name
  pub name_ends : (names : List (List ℕ)) (name : List ℕ) → Ends table (wrap names (behind_equals name)) → Ends table (wrap names (behind_name name))
  name_ends names name e = among.on names (behind_name name) (behind_equals name) 61 refl refl e

  -- a whole name that may stand
  pub whole_name : (names : List (List ℕ)) (name : List ℕ) → a.may names name ≡ true → Ends table (wrap names (behind_equals name)) → Ends table (wrap names (in_attribute_name name))
  whole_name names name may e = among.on names (in_attribute_name name) (behind_equals name) 61 refl (if_true (a.may names name) _ _ may) e

  -- a name that begins so
  pub begun_name : (names : List (List ℕ)) (front more : List ℕ) → list_all in_name more ≡ true → a.may names (front ++ more) ≡ true
      → Ends table (wrap names (behind_equals (front ++ more))) → Ends table (wrap names (in_attribute_name front))
  begun_name names front more h may e = over_name names more front h (whole_name names (front ++ more) may e)

  -- white space between attributes
  pub spaced : (names : List (List ℕ)) (s : Bool) → Ends table (wrap names (between true)) → Ends table (wrap names (between s))
  spaced names s e = among.on names (between s) (between true) 32 refl refl e

  -- an attribute with this name
  pub new_name : (names : List (List ℕ)) (s : Bool) (name : List ℕ) → is_name name ≡ true → a.may names name ≡ true
      → Ends table (wrap names (behind_equals name)) → Ends table (wrap names (between s))
  new_name names s [] h may e = cc
  new_name names s (c ∷ cs) h may e =
      let p = and_parts (begins_name c) (list_all in_name cs) h in
      spaced names s
      (among.on names (between true) (in_attribute_name (c ∷ [])) c (name_character c (begins_in c p.0)) (if_false (is_blank c) _ _ (begins_no_blank c p.0) ∙ if_true (begins_name c) _ _ p.0)
      (begun_name names (c ∷ []) cs p.1 may e))
