-- The steps keep the shapes.
use Rattle.std.proofs.Common.{◌≡◌, ◌⊎◌, inl, inr, ℕ, suc, Bool, true, false, not, ◌&&◌, ◌||◌, List, [], ◌∷◌, ◌++◌, Option, Some, None, refl, sym, ◌∙◌, ap, subst, append-nil, codes}
use Rattle.std.specs.Prelude.{if◌then◌else◌, bytes_eq, nat_eq, nat_le, min}
use Rattle.std.proofs.lemmas.Bool.{or_cases}
use Rattle.text_base.specs.declared.page_token.PageToken.{PageToken}
use Rattle.text_base.specs.declared.page_token.PageToken.TheVariants as token
use Rattle.xml_text.specs.Characters.{is_blank, is_character}
use Rattle.xml_text.specs.Names.{begins_name, in_name, is_name, in_public_identifier}
use Rattle.dtd_model.specs.References.{is_some}
use Rattle.dtd_model.specs.Table.{Kind, Declared, Rule, Table}
use Rattle.page_model.specs.Attributes.{find_rule}
use Rattle.page_model.specs.PageTokens.{sort_token, element_of}
use Rattle.page_model.specs.Parts.{is_quote, character}
use Rattle.page_model.specs.Pieces.{may_follow, behind_leaf}
use Rattle.page_model.specs.Places.{Place, at_beginning, behind_mark, behind, is_early}
use Rattle.page_model.specs.Valid.{sort_of}
use Rattle.piece_steps.specs.Insides.{Turn, on, out, stop, inside, closing}
use Rattle.piece_steps.specs.Readers.{Move, go, done, fail}
use Rattle.page_model.specs.Fronts.{Open, nothing, in_reference, in_opener, in_tag_name, in_tag, at_empty_end, in_end_tag, in_comment, in_section, in_target, behind_target, in_instruction, in_declaration, at_declaration_end, in_doctype, find_declared, IsFrontOf}
use Rattle.page_model.specs.OpenDoctypes.{Word, system_word, public_word, letters, OpenDoctype, before_root, in_root, behind_root, in_word, behind_word, in_public, behind_public, in_system, behind_system}
use Rattle.page_model.specs.OpenTags.{OpenAttribute, between, in_attribute_name, behind_name, behind_equals, in_value}
use Rattle.page_model.specs.OpenValues.{OpenReference, in_entity, OpenValue, in_text, in_reference as in_value_reference, in_fixed, in_choice, in_words}
use Rattle.page_steps.specs.AttributeSteps.{Allowing, AttributeMove, stays, ends_with, leaves, stops, equals_move, valued, attribute_move}
use Rattle.page_steps.specs.DoctypeSteps.{begins, is_free, may_begin, root_turn, literal_turn, grown, is_wanted, end_turn, doctype_turn}
use Rattle.page_steps.specs.ReferenceSteps.{reference_step, reference_good}
use Rattle.page_steps.specs.TagSteps.{start_of, step_of, of_element, of_declaration, are_all}
use Rattle.page_steps.specs.ValueSteps.{may_stand, kept_step, choice_step, words_step, in_reference_of}
use Rattle.page_steps.specs.PageSteps.{OpenMove, text_move, single_move, first_move, bang_move, opener_move, end_move, tag_by, tag_move, empty_move, closed_move, end_name_move, end_tag_move, is_reserved, is_xml, is_started, may_be_target, more_target, behind_move, target_move, question_move, declaration_by, open_move, PageState, put_place, page_step}
use Rattle.page_endings.specs.Laws.{ShapesKept}
use Rattle.page_endings.specs.Shapes.{IsValueShaped, IsAttributeShaped, IsTagShaped, IsOpener, IsDoctypeShaped, IsShaped}
use Rattle.page_endings.proofs.Declared.{itself, begun}
use Rattle.page_endings.proofs.Values.{start_shaped}

-- Values.

-- there is no step, or it leads to such
abbrev OnlyTo : {B : Type 0} → (B → Type 0) → Option B → Type 0
OnlyTo P None = Unit {0}
OnlyTo P (Some g) = P g

only_if : {B : Type 0} (P : B → Type 0) (b : Bool) (x y : Option B) → OnlyTo P x → OnlyTo P y → OnlyTo P (if b then x else y)
only_if P true x y p q = p
only_if P false x y p q = q

kept_shaped : (entities : List (List ℕ)) (o : Option Declared) (kind : Kind) (v : OpenValue) (c : ℕ) → IsValueShaped o v → OnlyTo (IsValueShaped o) (kept_step entities kind v c)
kept_shaped entities o kind in_text c s = by (nat_eq c 38)
  where
    by : (b : Bool) → IsValueShaped o (if b then in_value_reference (in_entity []) else in_text)
    by true = tt
    by false = tt
kept_shaped entities o kind (in_value_reference r) c s =
    only_if (IsValueShaped o) (nat_eq c 59) (if reference_good entities r then Some in_text else None) (in_reference_of (reference_step r c))
    (only_if (IsValueShaped o) (reference_good entities r) (Some in_text) None tt tt) (by (reference_step r c))
  where
    by : (x : Option OpenReference) → OnlyTo (IsValueShaped o) (in_reference_of x)
    by None = tt
    by (Some g) = tt
kept_shaped entities o kind (in_fixed value) c s = s
kept_shaped entities o kind (in_choice word spaced) c s =
    only_if (IsValueShaped o) (is_blank c) (Some (in_choice word (spaced || is_some word))) (choice_step word spaced c) tt
    (only_if (IsValueShaped o) (not spaced && in_name c) (Some (in_choice (word ++ c ∷ []) false)) None tt tt)
kept_shaped entities o kind (in_words inside one) c s = only_if (IsValueShaped o) (is_blank c) (Some (in_words false (inside || one))) (words_step kind inside one c) tt (words inside)
  where
    words : (inside : Bool) → OnlyTo (IsValueShaped o) (words_step kind inside one c)
    words true = only_if (IsValueShaped o) (in_name c) (Some (in_words true one)) None tt tt
    words false = only_if (IsValueShaped o) _ (Some (in_words true one)) None tt tt

step_shaped : (entities : List (List ℕ)) (o : Option Declared) (v : OpenValue) (c : ℕ) → IsValueShaped o v → OnlyTo (IsValueShaped o) (step_of entities o v c)
step_shaped entities None v c s = tt
step_shaped entities (Some d) v c s = only_if (IsValueShaped (Some d)) (may_stand c) (kept_step entities d.kind v c) None (kept_shaped entities (Some d) d.kind v c s) tt

begin_shaped : (o : Option Declared) → IsValueShaped o (start_of o)
begin_shaped None = tt
begin_shaped (Some d) = start_shaped d

-- Attributes.

abbrev Moves : (List ℕ → OpenValue → Type 0) → AttributeMove → Type 0
Moves Shaped (stays o) = IsAttributeShaped Shaped o
Moves Shaped (ends_with names) = Unit {0}
Moves Shaped leaves = Unit {0}
Moves Shaped stops = Unit {0}

moves_if : (Shaped : List ℕ → OpenValue → Type 0) (b : Bool) (x y : AttributeMove) → Moves Shaped x → Moves Shaped y → Moves Shaped (if b then x else y)
moves_if Shaped true x y p q = p
moves_if Shaped false x y p q = q

moves_when : (Shaped : List ℕ → OpenValue → Type 0) (b : Bool) (x y : AttributeMove) → (b ≡ true → Moves Shaped x) → Moves Shaped y → Moves Shaped (if b then x else y)
moves_when Shaped true x y p q = p refl
moves_when Shaped false x y p q = q

module _ (a : Allowing) (Shaped : List ℕ → OpenValue → Type 0) (starts : (name : List ℕ) → Shaped name (a.start name))
    (steps : (name : List ℕ) (v : OpenValue) (c : ℕ) → Shaped name v → OnlyTo (Shaped name) (a.step name v c)) where
  equals_shaped : (name : List ℕ) (c : ℕ) → Moves Shaped (equals_move name c)
  equals_shaped name c = moves_if Shaped (is_blank c) (stays (behind_name name)) _ tt (moves_if Shaped (nat_eq c 61) (stays (behind_equals name)) stops tt tt)

  attribute_shaped : (names : List (List ℕ)) (o : OpenAttribute) (c : ℕ) → IsAttributeShaped Shaped o → Moves Shaped (attribute_move a names o c)
  attribute_shaped names (between spaced) c s =
      moves_if Shaped (is_blank c) (stays (between true)) _ tt (moves_if Shaped (begins_name c) _ leaves (moves_if Shaped spaced (stays (in_attribute_name (c ∷ []))) stops tt tt) tt)
  attribute_shaped names (in_attribute_name name) c s =
      moves_if Shaped (in_name c) (stays (in_attribute_name (name ++ c ∷ []))) _ tt (moves_if Shaped (a.may names name) (equals_move name c) stops (equals_shaped name c) tt)
  attribute_shaped names (behind_name name) c s = equals_shaped name c
  attribute_shaped names (behind_equals name) c s =
      moves_if Shaped (is_blank c) (stays (behind_equals name)) _ tt (moves_when Shaped (is_quote c) (stays (in_value name c (a.start name))) stops (λ q. (q, starts name)) tt)
  attribute_shaped names (in_value name quote v) c s =
      moves_if Shaped (nat_eq c quote) _ _ (moves_if Shaped (a.good name v) (ends_with (a.added names name)) stops tt tt) (by (a.step name v c) (steps name v c s.1))
    where
      by : (o : Option OpenValue) → OnlyTo (Shaped name) o → Moves Shaped (valued name quote o)
      by None p = tt
      by (Some g) p = (s.0, p)

-- All that may be open.

module _ (table : Table) where
  abbrev Keeps : OpenMove → Type 0
  Keeps (go o) = IsShaped table o
  Keeps (done place tokens) = Unit {0}
  Keeps fail = Unit {0}

  keeps_if : (b : Bool) (x y : OpenMove) → Keeps x → Keeps y → Keeps (if b then x else y)
  keeps_if true x y p q = p
  keeps_if false x y p q = q

  keeps_when : (b : Bool) (x y : OpenMove) → (b ≡ true → Keeps x) → (b ≡ false → Keeps y) → Keeps (if b then x else y)
  keeps_when true x y p q = p refl
  keeps_when false x y p q = q refl

  text_keeps : (b : Bool) (place : Place) (tokens : List PageToken) → Keeps (if b then done place tokens else fail)
  text_keeps true place tokens = tt
  text_keeps false place tokens = tt

  first_keeps : (place : Place) (c : ℕ) → Keeps (first_move place c)
  first_keeps place c = keeps_if (nat_eq c 60) (go (in_opener (codes "<"))) _ (inl refl) (keeps_if (nat_eq c 38) (go (in_reference (in_entity []))) _ tt (single place))
    where
      text_so : (place : Place) → Keeps (text_move place c)
      text_so place = text_keeps (may_follow place (character c)) (behind_leaf place (character c)) (sort_token (sort_of (character c)) ∷ [])

      single : (place : Place) → Keeps (single_move place c)
      single at_beginning = keeps_if (nat_eq c 0xFEFF) (done behind_mark []) (text_move at_beginning c) tt (text_so at_beginning)
      single behind_mark = text_so behind_mark
      single (behind k) = text_so (behind k)

  reference_keeps : (t : Turn OpenReference) → Keeps (inside in_reference (done (behind 0) (token.Text ∷ [])) t)
  reference_keeps (on r) = tt
  reference_keeps out = tt
  reference_keeps stop = tt

  -- so much of an opener, but not all
  front_of : (whole cs : List ℕ) → begins whole cs ≡ true → bytes_eq cs whole ≡ false → IsFrontOf whole cs
  front_of whole cs b n = at (begun cs whole b)
    where
      at : (more : List ℕ) × (whole ≡ cs ++ more) → IsFrontOf whole cs
      at ([], e) = let z : bytes_eq cs whole ≡ true = ap (bytes_eq cs) (e ∙ append-nil cs) ∙ itself cs in let y : true ≡ false = sym z ∙ n in cc
      at (m ∷ more, e) = (m ∷ more, (λ q. cc), e)

  bang_keeps : (c d : ℕ) (cs : List ℕ) → Keeps (bang_move (c ∷ d ∷ cs))
  bang_keeps c d cs =
      keeps_when (bytes_eq w (codes "<!--")) (go (in_comment 0)) _ (λ x. tt) (λ x.
      keeps_when (bytes_eq w (codes "<![CDATA[")) (go (in_section 0)) _ (λ y. tt) (λ y.
      keeps_when (bytes_eq w (codes "<!DOCTYPE")) (go (in_doctype (before_root false))) _ (λ z. tt) (λ z.
      keeps_when (begins (codes "<!--") w || begins (codes "<![CDATA[") w || begins (codes "<!DOCTYPE") w) (go (in_opener w)) fail
      (λ b. inr (c, d, cs, refl, which x y z (or_cases (begins (codes "<!--") w || begins (codes "<![CDATA[") w) (begins (codes "<!DOCTYPE") w) b))) (λ b. tt))))
    where
      w : List ℕ
      w = c ∷ d ∷ cs

      which : bytes_eq (c ∷ d ∷ cs) (codes "<!--") ≡ false → bytes_eq (c ∷ d ∷ cs) (codes "<![CDATA[") ≡ false → bytes_eq (c ∷ d ∷ cs) (codes "<!DOCTYPE") ≡ false
          → ((begins (codes "<!--") (c ∷ d ∷ cs) || begins (codes "<![CDATA[") (c ∷ d ∷ cs)) ≡ true) ⊎ (begins (codes "<!DOCTYPE") (c ∷ d ∷ cs) ≡ true)
          → IsFrontOf (codes "<!--") (c ∷ d ∷ cs) ⊎ (IsFrontOf (codes "<![CDATA[") (c ∷ d ∷ cs) ⊎ IsFrontOf (codes "<!DOCTYPE") (c ∷ d ∷ cs))
      which x y z (inr b) = inr (inr (front_of (codes "<!DOCTYPE") (c ∷ d ∷ cs) b z))
      which x y z (inl b) = two (or_cases (begins (codes "<!--") (c ∷ d ∷ cs)) (begins (codes "<![CDATA[") (c ∷ d ∷ cs)) b)
        where
          two : (begins (codes "<!--") (c ∷ d ∷ cs) ≡ true) ⊎ (begins (codes "<![CDATA[") (c ∷ d ∷ cs) ≡ true)
              → IsFrontOf (codes "<!--") (c ∷ d ∷ cs) ⊎ (IsFrontOf (codes "<![CDATA[") (c ∷ d ∷ cs) ⊎ IsFrontOf (codes "<!DOCTYPE") (c ∷ d ∷ cs))
          two (inl b) = inl (front_of (codes "<!--") (c ∷ d ∷ cs) b x)
          two (inr b) = inr (inl (front_of (codes "<![CDATA[") (c ∷ d ∷ cs) b y))

  bang_open : IsOpener (codes "<!")
  bang_open = inr (60, 33, [], refl, inl (codes "--", (λ q. cc), refl))

  opener_keeps : (begun : List ℕ) (c : ℕ) → Keeps (opener_move begun c)
  opener_keeps [] c = tt
  opener_keeps (a ∷ []) c =
      keeps_if (nat_eq c 33) (go (in_opener (codes "<!"))) _ bang_open (keeps_if (nat_eq c 63) (go (in_target (Some []))) _ tt
      (keeps_if (nat_eq c 47) (go (in_end_tag [] false)) _ tt (keeps_if (begins_name c) (go (in_tag_name (c ∷ []))) fail tt tt)))
  opener_keeps (a ∷ b ∷ cs) c = bang_keeps a b (cs ++ c ∷ [])

  -- Tags.

  end_keeps : (name : List ℕ) (rule : Rule) (names : List (List ℕ)) (c : ℕ) → Keeps (end_move table name rule names c)
  end_keeps name rule names c = keeps_if (nat_eq c 62 && are_all name rule.attributes names) (done (behind 0) _) _ tt (keeps_if (nat_eq c 47) (go (at_empty_end name names)) fail tt tt)

  tag_keeps : (name : List ℕ) (names : List (List ℕ)) (o : OpenAttribute) (c : ℕ) (f : Option Rule) → find_rule table.elements name ≡ f → IsTagShaped f o → Keeps (tag_move table name names o c f)
  tag_keeps name names o c None q s = tt
  tag_keeps name names o c (Some rule) q s =
      by (attribute_move (of_element table.entities rule.attributes) names o c)
      (attribute_shaped (of_element table.entities rule.attributes) (λ n v. IsValueShaped (find_declared rule.attributes n) v)
      (λ n. begin_shaped (find_declared rule.attributes n)) (λ n v d h. step_shaped table.entities (find_declared rule.attributes n) v d h) names o c s)
    where
      by : (m : AttributeMove) → Moves (λ n v. IsValueShaped (find_declared rule.attributes n) v) m → Keeps (tag_by table name rule names c m)
      by (stays g) p = subst (λ (f : Option Rule). IsTagShaped f g) (sym q) p
      by (ends_with more) p = subst (λ (f : Option Rule). IsTagShaped f (between false)) (sym q) tt
      by leaves p = end_keeps name rule names c
      by stops p = tt

  empty_keeps : (name : List ℕ) (names : List (List ℕ)) (c : ℕ) (f : Option Rule) → Keeps (empty_move table name names c f)
  empty_keeps name names c None = tt
  empty_keeps name names c (Some rule) =
      text_keeps (nat_eq c 62 && are_all name rule.attributes names) (behind 0) (token.Start (element_of table name) ∷ token.End (element_of table name) ∷ [])

  closed_keeps : (name : List ℕ) (f : Option Rule) → Keeps (closed_move table name f)
  closed_keeps name None = tt
  closed_keeps name (Some rule) = tt

  end_name_keeps : (name : List ℕ) (c : ℕ) → Keeps (end_name_move table name c)
  end_name_keeps name c =
      keeps_if (is_name name) _ fail (keeps_if (is_blank c) (go (in_end_tag name true)) _ tt (keeps_if (nat_eq c 62) _ fail (closed_keeps name (find_rule table.elements name)) tt)) tt

  end_tag_keeps : (name : List ℕ) (spaced : Bool) (c : ℕ) → Keeps (end_tag_move table name spaced c)
  end_tag_keeps [] spaced c = keeps_if (begins_name c && not spaced) (go (in_end_tag (c ∷ []) false)) fail tt tt
  end_tag_keeps (n ∷ name) spaced c = keeps_if (in_name c && not spaced) (go (in_end_tag ((n ∷ name) ++ c ∷ []) false)) _ tt (end_name_keeps (n ∷ name) c)

  behind_keeps : (place : Place) (o : Option (List ℕ)) (c : ℕ) → Keeps (behind_move place o c)
  behind_keeps place o c =
      keeps_if (is_reserved o) _ _ (keeps_if (is_xml o && is_early place && is_blank c) (go (in_declaration [] (between true))) fail tt tt)
      (keeps_if (is_blank c) (go (in_instruction false)) _ tt (keeps_if (nat_eq c 63) (go behind_target) fail tt tt))

  target_keeps : (place : Place) (o : Option (List ℕ)) (c : ℕ) → Keeps (target_move place o c)
  target_keeps place o c = keeps_if (may_be_target o c) (go (in_target (more_target o c))) _ tt (keeps_if (is_started o) _ fail (behind_keeps place o c) tt)

  declaration_keeps : (names : List (List ℕ)) (o : OpenAttribute) (c : ℕ) → IsAttributeShaped (λ name v. Unit {0}) o → Keeps (declaration_by names c (attribute_move of_declaration names o c))
  declaration_keeps names o c s =
      by (attribute_move of_declaration names o c) (attribute_shaped of_declaration (λ name v. Unit {0}) (λ name. tt) (λ name v d h. any (of_declaration.step name v d)) names o c s)
    where
      any : (x : Option OpenValue) → OnlyTo (λ (v : OpenValue). Unit {0}) x
      any None = tt
      any (Some g) = tt

      question : (names : List (List ℕ)) → Keeps (question_move names c)
      question [] = tt
      question (version ∷ names) = keeps_if (nat_eq c 63) (go at_declaration_end) fail tt tt

      by : (m : AttributeMove) → Moves (λ name v. Unit {0}) m → Keeps (declaration_by names c m)
      by (stays g) p = p
      by (ends_with more) p = tt
      by leaves p = question names
      by stops p = tt

  -- Document types.

  abbrev Turns : Turn OpenDoctype → Type 0
  Turns (on o) = IsDoctypeShaped table.doctype o
  Turns out = Unit {0}
  Turns stop = Unit {0}

  turns_when : (b : Bool) (x y : Turn OpenDoctype) → (b ≡ true → Turns x) → Turns y → Turns (if b then x else y)
  turns_when true x y p q = p refl
  turns_when false x y p q = q

  end_turns : (may : Bool) (c : ℕ) → Turns (end_turn may c)
  end_turns may c = turns_when (nat_eq c 62 && may) out stop (λ e. tt) tt

  root_turns : (c : ℕ) → Turns (root_turn table.doctype c)
  root_turns c = turns_when (is_blank c) (on behind_root) _ (λ e. tt) (end_turns (is_free table.doctype) c)

  literal_turns : (word : Word) (c : ℕ) → is_quote c ≡ true → Turns (literal_turn table.doctype word c)
  literal_turns system_word c q = q
  literal_turns public_word c q = q

  both_first : (x y : Bool) → (x && y) ≡ true → x ≡ true
  both_first true y e = refl
  both_first false y e = cc

  doctype_turns : (o : OpenDoctype) (c : ℕ) → IsDoctypeShaped table.doctype o → Turns (doctype_turn table.doctype o c)
  doctype_turns (before_root spaced) c s = turns_when (is_blank c) (on (before_root true)) _ (λ e. tt) (turns_when (nat_eq c 104 && spaced) (on (in_root (codes "h"))) stop (λ e. refl) tt)
  doctype_turns (in_root name) c s =
      turns_when (begins (codes "html") (name ++ c ∷ [])) (on (in_root (name ++ c ∷ []))) _ (λ e. e) (turns_when (bytes_eq name (codes "html")) _ stop (λ e. root_turns c) tt)
  doctype_turns behind_root c s = turns_when (may_begin table.doctype (c ∷ [])) (on (in_word (c ∷ []))) _ (λ e. e) (root_turns c)
  doctype_turns (in_word word) c s =
      turns_when (may_begin table.doctype (word ++ c ∷ [])) (on (in_word (word ++ c ∷ []))) _ (λ e. e)
      (turns_when (bytes_eq word (letters public_word) && is_blank c) (on (behind_word public_word)) _ (λ e. tt)
      (turns_when (bytes_eq word (letters system_word) && is_blank c) (on (behind_word system_word)) stop (λ e. tt) tt))
  doctype_turns (behind_word word) c s =
      turns_when (is_blank c) (on (behind_word word)) _ (λ e. tt) (turns_when (is_quote c) _ stop (λ e. literal_turns word c e) tt)
  doctype_turns (in_public quote o) c s =
      turns_when (nat_eq c quote) _ _ (λ e. turns_when (is_wanted o) (on (behind_public false)) stop (λ i. tt) tt) (turns_when (in_public_identifier c) (on (in_public quote (grown o c))) stop (λ i. s) tt)
  doctype_turns (behind_public spaced) c s =
      turns_when (is_blank c) (on (behind_public true)) _ (λ e. tt) (turns_when (is_quote c && spaced) (on (in_system c)) stop (λ e. both_first (is_quote c) spaced e) tt)
  doctype_turns (in_system quote) c s = turns_when (nat_eq c quote) (on behind_system) (on (in_system quote)) (λ e. tt) s
  doctype_turns behind_system c s = turns_when (is_blank c) (on behind_system) _ (λ e. tt) (end_turns true c)

  doctype_keeps : (t : Turn OpenDoctype) → Turns t → Keeps (inside in_doctype (done (behind 0) (token.Doctype ∷ [])) t)
  doctype_keeps (on o) p = p
  doctype_keeps out p = tt
  doctype_keeps stop p = tt

  open_keeps : (place : Place) (o : Open) (c : ℕ) → IsShaped table o → Keeps (open_move table place o c)
  open_keeps place nothing c s = first_keeps place c
  open_keeps place (in_reference r) c s = reference_keeps (closing reference_step (reference_good table.entities) 59 r c)
  open_keeps place (in_opener begun) c s = opener_keeps begun c
  open_keeps place (in_tag_name name) c s =
      keeps_if (in_name c) (go (in_tag_name (name ++ c ∷ []))) _ tt (tag_keeps name [] (between false) c (find_rule table.elements name) refl (any (find_rule table.elements name)))
    where
      any : (f : Option Rule) → IsTagShaped f (between false)
      any None = tt
      any (Some rule) = tt
  open_keeps place (in_tag name names o) c s = tag_keeps name names o c (find_rule table.elements name) refl s
  open_keeps place (at_empty_end name names) c s = empty_keeps name names c (find_rule table.elements name)
  open_keeps place (in_end_tag name spaced) c s = end_tag_keeps name spaced c
  open_keeps place (in_comment dashes) c s =
      keeps_if (nat_le 2 dashes) (if nat_eq c 62 then done (behind 0) (token.Misc ∷ []) else fail) (if nat_eq c 45 then go (in_comment (suc dashes)) else go (in_comment 0))
      (text_keeps (nat_eq c 62) (behind 0) (token.Misc ∷ [])) (keeps_if (nat_eq c 45) (go (in_comment (suc dashes))) (go (in_comment 0)) tt tt)
  open_keeps place (in_section brackets) c s =
      keeps_if (nat_eq c 62 && nat_le 2 brackets) (done (behind 0) (token.Text ∷ [])) (if nat_eq c 93 then go (in_section (min 2 (suc brackets))) else go (in_section 0)) tt
      (keeps_if (nat_eq c 93) (go (in_section (min 2 (suc brackets)))) (go (in_section 0)) tt tt)
  open_keeps place (in_target o) c s = target_keeps place o c
  open_keeps place behind_target c s = text_keeps (nat_eq c 62) (behind 0) (token.Misc ∷ [])
  open_keeps place (in_instruction asked) c s = keeps_if (nat_eq c 62 && asked) (done (behind 0) (token.Misc ∷ [])) (go (in_instruction (nat_eq c 63))) tt tt
  open_keeps place (in_declaration names o) c s = declaration_keeps names o c s
  open_keeps place at_declaration_end c s = text_keeps (nat_eq c 62) (behind 0) []
  open_keeps place (in_doctype o) c s = doctype_keeps (doctype_turn table.doctype o c) (doctype_turns o c s)

pub shapes_kept : ShapesKept
unfolding page_step
shapes_kept table s g c e h = at (is_character c) e (open_keeps table s.place s.inside c h)
  where
    same : (o : Open) (p : Place) → (let m : Move Place PageToken PageState = go (record { place = p; inside = o }) in m ≡ go g) → o ≡ g.inside
    same o p e = cc

    put : (m : OpenMove) → put_place s.place m ≡ go g → Keeps table m → IsShaped table g.inside
    put (go o) e k = subst (IsShaped table) (same o _ e) k
    put (done next tokens) e k = cc
    put fail e k = cc

    at : (b : Bool) → (let m : Move Place PageToken PageState = if b then put_place s.place (open_move table s.place s.inside c) else fail in m ≡ go g)
        → Keeps table (open_move table s.place s.inside c) → IsShaped table g.inside
    at true e k = put (open_move table s.place s.inside c) e k
    at false e k = cc
