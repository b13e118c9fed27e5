-- Behind the first bytes of a character of several some character of XML leads on to the end of a piece.
use Rattle.std.proofs.Common.{◌≡◌, ◌⊎◌, inl, inr, ℕ, suc, ◌≤◌, ◌<◌, Bool, true, false, not, ◌&&◌, ◌||◌, List, [], ◌∷◌, ◌++◌, Option, Some, None, refl, sym, ◌∙◌, ap, subst, arith, append-nil, append_assoc}
use Rattle.std.specs.Prelude.{if◌then◌else◌, nat_eq, nat_lt, nat_le}
use Rattle.std.specs.Char.{encode_utf8}
use Rattle.std.specs.List.{list_all}
use Rattle.std.specs.Str.{encode_utf8_all}
use Rattle.std.proofs.lemmas.Bool.{and_parts, and_from}
use Rattle.std.proofs.lemmas.Bool.Decides.{nat_tests}
use Rattle.text_base.specs.declared.page_token.PageToken.{PageToken}
use Rattle.text_base.specs.declared.page_token.PageToken.TheVariants as token
use Rattle.xml_text.specs.Characters.{is_character}
use Rattle.dtd_model.specs.Table.{Presence, implied, required, with_default, fixed, Declared, Rule, Table}
use Rattle.page_model.specs.Attributes.{find_rule}
use Rattle.page_model.specs.PageTokens.{sort_token}
use Rattle.page_model.specs.Parts.{is_quote, may_be_quoted, character}
use Rattle.page_model.specs.Pieces.{may_follow, behind_leaf}
use Rattle.page_model.specs.Places.{Place, at_beginning, behind_mark, behind}
use Rattle.page_model.specs.Valid.{sort_of}
use Rattle.piece_steps.specs.Insides.{Turn, on, inside}
use Rattle.piece_steps.specs.Readers.{go, done, fail}
use Rattle.character_steps.specs.Bytes.{decoded, is_begun}
use Rattle.character_steps.proofs.Begun.{decoded_whole, decoded_part}
use Rattle.page_model.specs.Fronts.{Open, nothing, in_reference, in_opener, in_tag_name, in_tag, at_empty_end, in_end_tag, in_comment, in_section, in_target, behind_target, in_instruction, in_declaration, at_declaration_end, in_doctype, find_declared}
use Rattle.page_model.specs.OpenDoctypes.{OpenDoctype, before_root, in_root, behind_root, in_word, behind_word, in_public, behind_public, in_system, behind_system}
use Rattle.page_model.specs.OpenTags.{between, in_attribute_name, behind_name, behind_equals, in_value}
use Rattle.page_model.specs.OpenValues.{in_entity, OpenValue, in_text, in_reference as in_value_reference, in_fixed, in_choice, in_words}
use Rattle.page_steps.specs.AttributeSteps.{ends_with, stops, valued}
use Rattle.page_steps.specs.DoctypeSteps.{begins}
use Rattle.page_steps.specs.PageSteps.{OpenMove, text_move, single_move, tag_by, tag_move, open_move}
use Rattle.page_steps.specs.TagSteps.{step_of, good_of, names_with}
use Rattle.page_steps.specs.ValueSteps.{may_stand, value_good, text_step}
use Rattle.page_endings.specs.Ending.{bytes_behind, fixed_rest, ends_by, fixed_can_end, value_can_end, declared_so, may_be_all, tag_can_end, open_can_end, value_takes, takes_several, fixed_goes_on, value_goes_on, tag_goes_on, goes_on_with}
use Rattle.page_endings.specs.Laws.{Ends}
use Rattle.page_endings.specs.Shapes.{is_fixed, is_declared_fixed, IsValueShaped, IsTagShaped, IsShaped}
use Rattle.page_endings.proofs.Begun.{Completed, begun_completes}
use Rattle.page_endings.proofs.Bytes.{two_at_least}
use Rattle.page_endings.proofs.Declared.{Lawful, begun}
use Rattle.page_endings.proofs.Ends.{ends_so}
use Rattle.page_endings.proofs.Going.{if_true, if_false, Led, leads, leads_out}
use Rattle.page_endings.proofs.Remarks.{comment_ends, section_ends, instruction_ends}
use Rattle.page_endings.proofs.ValueTraps.{bytes_left, good_wanted, by_rest}

-- a character that begins with these bytes and leads to the end of a piece
pub record Leading (table : Table) (o : Open) (u : List ℕ) : Type 0 where
  pub c : ℕ
  pub m : ℕ
  pub others : List ℕ
  pub character : is_character c ≡ true
  pub is : u ++ m ∷ others ≡ encode_utf8 c
  pub led : Led table o c

several_bytes : (c b : ℕ) (u : List ℕ) (m : ℕ) (others : List ℕ) → (b ∷ u) ++ m ∷ others ≡ encode_utf8 c → 128 ≤ c
several_bytes c b [] m others e = two_at_least c [] b m others e
several_bytes c b (x ∷ u) m others e = two_at_least c [] b x (u ++ m ∷ others) e

not_this : (c k : ℕ) → 128 ≤ c → k < 128 → nat_eq c k ≡ false
not_this c k h l = grind (arith, nat_tests)

no_quote : (c quote : ℕ) → 128 ≤ c → is_quote quote ≡ true → nat_eq c quote ≡ false
no_quote c quote h q = grind (arith, nat_tests)

stands : (c : ℕ) → 128 ≤ c → is_character c ≡ true → may_stand c ≡ true
stands c h e = grind (arith, nat_tests)

quoted : (quote c : ℕ) → 128 ≤ c → is_quote quote ≡ true → is_character c ≡ true → may_be_quoted quote c ≡ true
quoted quote c h q e = grind (arith, nat_tests)

-- where two texts are one, one of their beginnings goes on as the other
split : (xs ys zs ws : List ℕ) → xs ++ ys ≡ zs ++ ws → ((more : List ℕ) × (xs ≡ zs ++ more)) ⊎ ((x : ℕ) × (more : List ℕ) × (zs ≡ xs ++ x ∷ more))
split xs ys [] ws e = inl (xs, refl)
split [] ys (z ∷ zs) ws e = inr (z, zs, refl)
split (x ∷ xs) ys (z ∷ zs) ws e = at (split xs ys zs ws (let q : xs ++ ys ≡ zs ++ ws = cc in q)) (let q : x ≡ z = cc in q)
  where
    at : ((more : List ℕ) × (xs ≡ zs ++ more)) ⊎ ((y : ℕ) × (more : List ℕ) × (zs ≡ xs ++ y ∷ more)) → x ≡ z
        → ((more : List ℕ) × (x ∷ xs ≡ (z ∷ zs) ++ more)) ⊎ ((y : ℕ) × (more : List ℕ) × (z ∷ zs ≡ (x ∷ xs) ++ y ∷ more))
    at (inl (more, p)) q = inl (more, ap (λ (w : List ℕ). x ∷ w) p ∙ ap (λ (k : ℕ). k ∷ (zs ++ more)) q)
    at (inr (y, more, p)) q = inr (y, more, ap (λ (w : List ℕ). z ∷ w) p ∙ ap (λ (k : ℕ). k ∷ (xs ++ y ∷ more)) (sym q))

-- what begins with the first bytes of a character, but not all, has a first character that begins so
first_so : (x : ℕ) (xs u : List ℕ) (c m : ℕ) (others : List ℕ) → is_character x ≡ true → is_character c ≡ true → encode_utf8 c ≡ u ++ m ∷ others
    → begins (encode_utf8_all (x ∷ xs)) u ≡ true → (k : ℕ) × (more : List ℕ) × (u ++ k ∷ more ≡ encode_utf8 x)
first_so x xs u c m others h g e b = at (begun u (encode_utf8_all (x ∷ xs)) b)
  where
    clash : decoded u ≡ Some x → ⊥
    clash q = let z : (let o : Option ℕ = None in o ≡ Some x) = sym (decoded_part c u m others (sym e)) ∙ q in cc

    inner : (z : ℕ) (zs : List ℕ) → u ≡ encode_utf8 x ++ z ∷ zs → ⊥
    inner z zs q =
        let moved : encode_utf8 x ++ z ∷ (zs ++ m ∷ others) ≡ encode_utf8 c = sym (append_assoc (encode_utf8 x) (z ∷ zs) (m ∷ others)) ∙ ap (λ (w : List ℕ). w ++ m ∷ others) (sym q) ∙ sym e in
        let y : (let o : Option ℕ = None in o ≡ Some x) = sym (decoded_part c (encode_utf8 x) z (zs ++ m ∷ others) moved) ∙ decoded_whole x h in
        cc

    by : ((more : List ℕ) × (encode_utf8 x ≡ u ++ more)) ⊎ ((z : ℕ) × (more : List ℕ) × (u ≡ encode_utf8 x ++ z ∷ more)) → (k : ℕ) × (more : List ℕ) × (u ++ k ∷ more ≡ encode_utf8 x)
    by (inl ([], q)) = absurd (clash (ap decoded (sym (append-nil u) ∙ sym q) ∙ decoded_whole x h))
    by (inl (k ∷ more, q)) = (k, more, sym q)
    by (inr (z, more, q)) = absurd (inner z more q)

    at : (more : List ℕ) × (encode_utf8_all (x ∷ xs) ≡ u ++ more) → (k : ℕ) × (more : List ℕ) × (u ++ k ∷ more ≡ encode_utf8 x)
    at (more, q) = by (split (encode_utf8 x) (encode_utf8_all xs) u more q)

module _ (table : Table) (lawful : Lawful table) where
  done_by : (o : Open) (b : ℕ) (u : List ℕ) → is_begun (b ∷ u) ≡ true → ((c : ℕ) → 128 ≤ c → is_character c ≡ true → Led table o c) → Leading table o (b ∷ u)
  done_by o b u h f =
      let z = begun_completes b u h in
      record { c = z.c; m = z.m; others = z.others; character = z.character; is = sym z.is; led = f z.c (several_bytes z.c b u z.m z.others (sym z.is)) z.character }

  -- where a piece begins
  text_so : (place : Place) (c : ℕ) → may_follow place (character c) ≡ true → (next : Place) × (tokens : List PageToken) × (text_move place c ≡ done next tokens)
  text_so place c e = (
    behind_leaf place (character c),
    sort_token (sort_of (character c)) ∷ [],
    if_true (may_follow place (character c)) (done (behind_leaf place (character c)) (sort_token (sort_of (character c)) ∷ [])) fail e,
  )

  single_so : (place : Place) (c : ℕ) → 128 ≤ c → (next : Place) × (tokens : List PageToken) × (single_move place c ≡ done next tokens)
  single_so at_beginning c h = at (nat_eq c 0xFEFF) refl
    where
      at : (b : Bool) → nat_eq c 0xFEFF ≡ b → (next : Place) × (tokens : List PageToken) × ((if b then done behind_mark [] else text_move at_beginning c) ≡ done next tokens)
      at true q = (behind_mark, [], refl)
      at false q = text_so at_beginning c (ap not q)
  single_so behind_mark c h = text_so behind_mark c refl
  single_so (behind k) c h = text_so (behind k) c (ap (λ (b : Bool). not (b && nat_eq k 2)) (not_this c 62 h (omega arith)))

  nothing_led : (c : ℕ) → 128 ≤ c → is_character c ≡ true → Led table nothing c
  nothing_led c h e = leads_out table nothing c e (λ place. at place (single_so place c h))
    where
      at : (place : Place) → (next : Place) × (tokens : List PageToken) × (single_move place c ≡ done next tokens) → (next : Place) × (tokens : List PageToken) × (open_move table place nothing c ≡ done next tokens)
      at place (next, tokens, q) =
          (next, tokens, if_false (nat_eq c 60) _ _ (not_this c 60 h (omega arith)) ∙ if_false (nat_eq c 38) _ _ (not_this c 38 h (omega arith)) ∙ q)

  comment_led : (dashes c : ℕ) → nat_lt dashes 2 ≡ true → 128 ≤ c → is_character c ≡ true → Led table (in_comment dashes) c
  comment_led dashes c t h e =
      leads table (in_comment dashes) (in_comment 0) c e (λ place. if_false (nat_le 2 dashes) _ _ few ∙ if_false (nat_eq c 45) (go (in_comment (suc dashes))) (go (in_comment 0)) (not_this c 45 h (omega arith))) (comment_ends table 0)
    where
      few : nat_le 2 dashes ≡ false
      few = grind (arith, nat_tests)

  and_no : (b x : Bool) → b ≡ false → (b && x) ≡ false
  and_no true x e = cc
  and_no false x e = refl

  section_led : (brackets c : ℕ) → 128 ≤ c → is_character c ≡ true → Led table (in_section brackets) c
  section_led brackets c h e =
      leads table (in_section brackets) (in_section 0) c e
      (λ place. if_false (nat_eq c 62 && nat_le 2 brackets) _ _ (and_no (nat_eq c 62) (nat_le 2 brackets) (not_this c 62 h (omega arith))) ∙ if_false (nat_eq c 93) _ _ (not_this c 93 h (omega arith))) (section_ends table 0)

  instruction_led : (asked : Bool) (c : ℕ) → 128 ≤ c → is_character c ≡ true → Led table (in_instruction asked) c
  instruction_led asked c h e =
      leads table (in_instruction asked) (in_instruction (nat_eq c 63)) c e
      (λ place. if_false (nat_eq c 62 && asked) _ _ (and_no (nat_eq c 62) asked (not_this c 62 h (omega arith)))) (instruction_ends table (nat_eq c 63))

  system_led : (quote c : ℕ) → is_quote quote ≡ true → Ends table (in_doctype (in_system quote)) → 128 ≤ c → is_character c ≡ true → Led table (in_doctype (in_system quote)) c
  system_led quote c q more h e =
      leads table (in_doctype (in_system quote)) (in_doctype (in_system quote)) c e
      (λ place. ap (λ (b : Bool). let t : Turn OpenDoctype = if b then on behind_system else on (in_system quote) in let m : OpenMove = inside in_doctype (done (behind 0) (token.Doctype ∷ [])) t in m) (no_quote c quote h q)) more

  -- a value

  value_moves : (name : List ℕ) (names : List (List ℕ)) (rule : Rule) (n : List ℕ) (quote : ℕ) (v g : OpenValue) (c : ℕ) → find_rule table.elements name ≡ Some rule → nat_eq c quote ≡ false
      → step_of table.entities (find_declared rule.attributes n) v c ≡ Some g → (place : Place) → open_move table place (in_tag name names (in_value n quote v)) c ≡ go (in_tag name names (in_value n quote g))
  value_moves name names rule n quote v g c q other e place =
      ap (tag_move table name names (in_value n quote v) c) q
      ∙ ap (λ (b : Bool). tag_by table name rule names c (if b then (if good_of table.entities (find_declared rule.attributes n) v then ends_with (names_with rule.attributes names n) else stops) else valued n quote (step_of table.entities (find_declared rule.attributes n) v c))) other
      ∙ ap (λ (o : Option OpenValue). tag_by table name rule names c (valued n quote o)) e

  text_led : (name : List ℕ) (names : List (List ℕ)) (rule : Rule) (n : List ℕ) (quote : ℕ) (d : Declared) (c : ℕ) → find_rule table.elements name ≡ Some rule → find_declared rule.attributes n ≡ Some d
      → is_quote quote ≡ true → Ends table (in_tag name names (in_value n quote in_text)) → 128 ≤ c → is_character c ≡ true → Led table (in_tag name names (in_value n quote in_text)) c
  text_led name names rule n quote d c q i is more h e =
      leads table (in_tag name names (in_value n quote in_text)) (in_tag name names (in_value n quote in_text)) c e
      (value_moves name names rule n quote in_text in_text c q (no_quote c quote h is)
      (ap (λ (o : Option Declared). step_of table.entities o in_text c) i
      ∙ if_true (may_stand c) (text_step c) None (stands c h e)
      ∙ ap (λ (b : Bool). let o : Option OpenValue = Some (if b then in_value_reference (in_entity []) else in_text) in o) (not_this c 38 h (omega arith)))) more

  fixed_led : (name : List ℕ) (names : List (List ℕ)) (rule : Rule) (n : List ℕ) (quote : ℕ) (d : Declared) (value wanted : List ℕ) (b : ℕ) (u : List ℕ) → find_rule table.elements name ≡ Some rule → find_declared rule.attributes n ≡ Some d
      → is_quote quote ≡ true → d.presence ≡ fixed wanted → ends_by table.entities d quote value (fixed_rest wanted value) ≡ true → may_be_all table.entities name rule.attributes (n ∷ names) ≡ true
      → is_begun (b ∷ u) ≡ true → begins (bytes_behind wanted value) (b ∷ u) ≡ true → Leading table (in_tag name names (in_value n quote (in_fixed value))) (b ∷ u)
  fixed_led name names rule n quote d value wanted b u q i is p t all h g =
      let parts = and_parts (list_all (may_be_quoted quote) (fixed_rest wanted value)) (value_good table.entities d (in_fixed (value ++ fixed_rest wanted value))) t in
      let left = bytes_left wanted value (fixed_rest wanted value) (good_wanted table.entities d wanted (value ++ fixed_rest wanted value) p parts.1) in
      at (fixed_rest wanted value) parts (ap (λ (w : List ℕ). begins w (b ∷ u)) (sym left) ∙ g)
    where
      z : Completed (b ∷ u)
      z = begun_completes b u h

      -- with one character more it can end too
      passes : (x : ℕ) (xs : List ℕ) → list_all (may_be_quoted quote) xs ≡ true → value_good table.entities d (in_fixed (value ++ x ∷ xs)) ≡ true
          → open_can_end table (in_tag name names (in_value n quote (in_fixed (value ++ x ∷ [])))) ≡ true
      passes x xs a good =
          ap (tag_can_end table.entities name names (in_value n quote (in_fixed (value ++ x ∷ [])))) q
          ∙ ap (λ (o : Option Declared). declared_so (λ y. value_can_end table.entities y quote (in_fixed (value ++ x ∷ []))) o && may_be_all table.entities name rule.attributes (n ∷ names)) i
          ∙ and_from (fixed_can_end table.entities d quote (value ++ x ∷ []) d.presence) (may_be_all table.entities name rule.attributes (n ∷ names))
          (ap (fixed_can_end table.entities d quote (value ++ x ∷ [])) p
          ∙ by_rest table.entities d quote wanted (value ++ x ∷ []) xs p a (ap (λ (w : List ℕ). value_good table.entities d (in_fixed w)) (append_assoc value (x ∷ []) xs) ∙ good)) all

      shaped : (x : ℕ) → IsShaped table (in_tag name names (in_value n quote (in_fixed (value ++ x ∷ []))))
      shaped x = subst (λ (f : Option Rule). IsTagShaped f (in_value n quote (in_fixed (value ++ x ∷ [])))) (sym q) (is, ap is_declared_fixed i ∙ ap is_fixed p)

      at : (rest : List ℕ) → (list_all (may_be_quoted quote) rest ≡ true) × (value_good table.entities d (in_fixed (value ++ rest)) ≡ true) → begins (encode_utf8_all rest) (b ∷ u) ≡ true
          → Leading table (in_tag name names (in_value n quote (in_fixed value))) (b ∷ u)
      at [] r g = cc
      at (x ∷ xs) r g =
          let a = and_parts (may_be_quoted quote x) (list_all (may_be_quoted quote) xs) r.0 in
          let character = (and_parts (is_character x) _ a.0).0 in
          let f = first_so x xs (b ∷ u) z.c z.m z.others character z.character z.is g in
          let large = several_bytes x b u f.0 f.1 f.2 in
          record {
            c = x;
            m = f.0;
            others = f.1;
            character = character;
            is = f.2;
            led = leads table (in_tag name names (in_value n quote (in_fixed value))) (in_tag name names (in_value n quote (in_fixed (value ++ x ∷ [])))) x character
                (value_moves name names rule n quote (in_fixed value) (in_fixed (value ++ x ∷ [])) x q (no_quote x quote large is)
                (ap (λ (o : Option Declared). step_of table.entities o (in_fixed value) x) i ∙ if_true (may_stand x) (Some (in_fixed (value ++ x ∷ []))) None (stands x large character)))
                (ends_so table lawful (in_tag name names (in_value n quote (in_fixed (value ++ x ∷ [])))) (passes x xs a.1 r.1) (shaped x));
          }

  quote_so : (b x : Bool) → b ≡ true → (not b || x) ≡ true → x ≡ true
  quote_so true x e h = h
  quote_so false x e h = cc

  tag_led : (name : List ℕ) (names : List (List ℕ)) (n : List ℕ) (quote : ℕ) (v : OpenValue) (b : ℕ) (u : List ℕ) → is_begun (b ∷ u) ≡ true → (f : Option Rule) → find_rule table.elements name ≡ f
      → open_can_end table (in_tag name names (in_value n quote v)) ≡ true → tag_can_end table.entities name names (in_value n quote v) f ≡ true → IsTagShaped f (in_value n quote v)
      → takes_several (in_tag name names (in_value n quote v)) ≡ true → goes_on_with table (in_tag name names (in_value n quote v)) (b ∷ u) ≡ true → Leading table (in_tag name names (in_value n quote v)) (b ∷ u)
  tag_led name names n quote v b u h None q can t s k g = cc
  tag_led name names n quote v b u h (Some rule) q can t s k g =
      let p = and_parts (declared_so (λ d. value_can_end table.entities d quote v) (find_declared rule.attributes n)) (may_be_all table.entities name rule.attributes (n ∷ names)) t in
      at (find_declared rule.attributes n) refl v can s p.0 p.1 (quote_so (is_quote quote) (value_takes v) s.0 k)
      (quote_so (is_quote quote) (value_goes_on (find_declared rule.attributes n) v (b ∷ u)) s.0 (sym (ap (λ (f : Option Rule). tag_goes_on f (in_value n quote v) (b ∷ u)) q) ∙ g))
    where
      fixed_so : (d : Declared) (value : List ℕ) (p : Presence) → d.presence ≡ p → find_declared rule.attributes n ≡ Some d → is_quote quote ≡ true → is_fixed p ≡ true → fixed_can_end table.entities d quote value p ≡ true
          → may_be_all table.entities name rule.attributes (n ∷ names) ≡ true → fixed_goes_on p value (b ∷ u) ≡ true → Leading table (in_tag name names (in_value n quote (in_fixed value))) (b ∷ u)
      fixed_so d value implied p i is f e all g = cc
      fixed_so d value required p i is f e all g = cc
      fixed_so d value with_default p i is f e all g = cc
      fixed_so d value (fixed wanted) p i is f e all g = fixed_led name names rule n quote d value wanted b u q i is p e all h g

      at : (o : Option Declared) → find_declared rule.attributes n ≡ o → (v : OpenValue) → open_can_end table (in_tag name names (in_value n quote v)) ≡ true
          → (is_quote quote ≡ true) × IsValueShaped (find_declared rule.attributes n) v → declared_so (λ d. value_can_end table.entities d quote v) o ≡ true → may_be_all table.entities name rule.attributes (n ∷ names) ≡ true
          → value_takes v ≡ true → value_goes_on (find_declared rule.attributes n) v (b ∷ u) ≡ true → Leading table (in_tag name names (in_value n quote v)) (b ∷ u)
      at None i v can s e all k g = cc
      at (Some d) i in_text can s e all k g =
          done_by (in_tag name names (in_value n quote in_text)) b u h
          (λ c l z. text_led name names rule n quote d c q i s.0
          (ends_so table lawful (in_tag name names (in_value n quote in_text)) can (subst (λ (f : Option Rule). IsTagShaped f (in_value n quote in_text)) (sym q) s)) l z)
      at (Some d) i (in_value_reference r) can s e all k g = cc
      at (Some d) i (in_choice word spaced) can s e all k g = cc
      at (Some d) i (in_words inside one) can s e all k g = cc
      at (Some d) i (in_fixed value) can s e all k g =
          fixed_so d value d.presence refl i s.0 (sym (ap is_declared_fixed i) ∙ s.1) e all (sym (ap (λ (o : Option Declared). value_goes_on o (in_fixed value) (b ∷ u)) i) ∙ g)

  no_such : (q : ℕ) → is_quote q ≡ true → not (is_quote q) ≡ true → ⊥
  no_such q e h = let z : false ≡ true = sym (ap not e) ∙ h in cc

  pub several_lead : (o : Open) (b : ℕ) (u : List ℕ) → open_can_end table o ≡ true → IsShaped table o → is_begun (b ∷ u) ≡ true → takes_several o ≡ true → goes_on_with table o (b ∷ u) ≡ true → Leading table o (b ∷ u)
  several_lead nothing b u can s h t g = done_by nothing b u h nothing_led
  several_lead (in_reference r) b u can s h t g = cc
  several_lead (in_opener begun) b u can s h t g = cc
  several_lead (in_tag_name name) b u can s h t g = cc
  several_lead (in_tag name names (in_value n quote v)) b u can s h t g = tag_led name names n quote v b u h (find_rule table.elements name) refl can can s t g
  several_lead (in_tag name names (between spaced)) b u can s h t g = cc
  several_lead (in_tag name names (in_attribute_name n)) b u can s h t g = cc
  several_lead (in_tag name names (behind_name n)) b u can s h t g = cc
  several_lead (in_tag name names (behind_equals n)) b u can s h t g = cc
  several_lead (at_empty_end name names) b u can s h t g = cc
  several_lead (in_end_tag name spaced) b u can s h t g = cc
  several_lead (in_comment dashes) b u can s h t g = done_by (in_comment dashes) b u h (λ c l z. comment_led dashes c t l z)
  several_lead (in_section brackets) b u can s h t g = done_by (in_section brackets) b u h (section_led brackets)
  several_lead (in_target o) b u can s h t g = cc
  several_lead behind_target b u can s h t g = cc
  several_lead (in_instruction asked) b u can s h t g = done_by (in_instruction asked) b u h (instruction_led asked)
  several_lead (in_declaration names (in_value n quote v)) b u can s h t g = absurd (no_such quote s.0 g)
  several_lead (in_declaration names (between spaced)) b u can s h t g = cc
  several_lead (in_declaration names (in_attribute_name n)) b u can s h t g = cc
  several_lead (in_declaration names (behind_name n)) b u can s h t g = cc
  several_lead (in_declaration names (behind_equals n)) b u can s h t g = cc
  several_lead at_declaration_end b u can s h t g = cc
  several_lead (in_doctype (in_system quote)) b u can s h t g =
      done_by (in_doctype (in_system quote)) b u h (λ c l z. system_led quote c s (ends_so table lawful (in_doctype (in_system quote)) refl s) l z)
  several_lead (in_doctype (in_public quote o)) b u can s h t g = absurd (no_such quote s t)
  several_lead (in_doctype (before_root spaced)) b u can s h t g = cc
  several_lead (in_doctype (in_root name)) b u can s h t g = cc
  several_lead (in_doctype behind_root) b u can s h t g = cc
  several_lead (in_doctype (in_word word)) b u can s h t g = cc
  several_lead (in_doctype (behind_word word)) b u can s h t g = cc
  several_lead (in_doctype (behind_public spaced)) b u can s h t g = cc
  several_lead (in_doctype behind_system) b u can s h t g = cc
