-- The XML declaration ends.
use Rattle.std.proofs.Common.{◌≡◌, ◌⊎◌, inl, inr, ℕ, Bool, true, false, ◌&&◌, ◌||◌, List, [], ◌∷◌, ◌++◌, Some, None, refl, sym, ◌∙◌, ap, arith, append-nil, append_assoc, codes}
use Rattle.std.specs.Prelude.{if◌then◌else◌, bytes_eq}
use Rattle.std.specs.Char.{to_ascii_lowercase}
use Rattle.std.specs.List.{list_all}
use Rattle.std.specs.Str.{str_to_ascii_lowercase, str_eq_ignore_ascii_case}
use Rattle.std.proofs.lemmas.Bool.{and_parts, or_cases}
use Rattle.std.proofs.lemmas.Bool.Decides.{nat_tests}
use Rattle.std.proofs.lemmas.Slice.Eq.{bytes_eq-Decides}
use Rattle.xml_text.specs.Names.{in_name, is_name}
use Rattle.dtd_model.specs.Table.{Table}
use Rattle.page_model.specs.Parts.{is_quote, may_be_quoted}
use Rattle.page_model.specs.Places.{behind}
use Rattle.piece_steps.specs.Insides.{accepted, accepts}
use Rattle.page_model.specs.Fronts.{in_declaration, at_declaration_end}
use Rattle.page_model.specs.OpenTags.{OpenAttribute, between, in_attribute_name, behind_name, behind_equals, in_value}
use Rattle.page_model.specs.OpenValues.{in_text, in_reference, in_fixed, in_choice, in_words}
use Rattle.page_steps.specs.DoctypeSteps.{begins}
use Rattle.page_steps.specs.PageSteps.{declaration_by}
use Rattle.page_steps.specs.TagSteps.{may_be_word, is_word_value, word_step, word_good, of_declaration}
use Rattle.page_steps.specs.ValueSteps.{may_stand}
use Rattle.page_endings.specs.Ending.{declaration_words, word_begins, declared_word_can_end}
use Rattle.page_endings.specs.Laws.{Ends}
use Rattle.page_endings.specs.Shapes.{IsAttributeShaped}
use Rattle.page_endings.proofs.Among.{Among, Written, quote_two}
use Rattle.page_endings.proofs.Among as among
use Rattle.page_endings.proofs.Declared.{begun}
use Rattle.page_endings.proofs.Going.{goes, ended}
use Rattle.page_endings.proofs.References.{part_all}

module _ (table : Table) where
  in_it : Among table of_declaration (λ names o. in_declaration names o)
  in_it = record {
    on = λ names o g c h e more. goes table (in_declaration names o) (in_declaration names g) c h (λ place. ap (declaration_by names c) e) more;
    behind = λ names later o c h e more. goes table (in_declaration names o) (in_declaration later (between false)) c h (λ place. ap (declaration_by names c) e) more;
  }

  pub declaration_end : Ends table at_declaration_end
  declaration_end = ended table at_declaration_end 62 refl (λ place. (behind 0, [], refl))

  -- behind a word
  complete : (version : List ℕ) (names : List (List ℕ)) (s : Bool) → Ends table (in_declaration (version ∷ names) (between s))
  complete version names s = goes table (in_declaration (version ∷ names) (between s)) at_declaration_end 63 refl (λ place. refl) declaration_end

  some_names : (names : List (List ℕ)) (name : List ℕ) → Ends table (in_declaration (names ++ name ∷ []) (between false))
  some_names [] name = complete name [] false
  some_names (version ∷ names) name = complete version (names ++ name ∷ []) false

  -- Values.

  -- what makes a word good
  Spelled : List ℕ → ℕ → List ℕ → Type 0
  Spelled name quote value = Written word_step (word_good name) quote (in_fixed value)

  quoted_stands : (quote c : ℕ) → may_be_quoted quote c ≡ true → may_stand c ≡ true
  quoted_stands quote c h = grind (arith, nat_tests)

  over_word : (name : List ℕ) (quote : ℕ) (rest value : List ℕ) → list_all (may_be_quoted quote) rest ≡ true → is_word_value name (value ++ rest) ≡ true
      → accepts word_step (word_good name) (in_fixed value) rest ≡ true
  over_word name quote [] value h e = ap (is_word_value name) (sym (append-nil value)) ∙ e
  over_word name quote (c ∷ rest) value h e =
      let p = and_parts (may_be_quoted quote c) (list_all (may_be_quoted quote) rest) h in
      ap (λ (b : Bool). accepted (if b then Some (in_fixed (value ++ c ∷ [])) else None) (λ g. accepts word_step (word_good name) g rest)) (quoted_stands quote c p.0)
      ∙ over_word name quote rest (value ++ c ∷ []) p.1 (ap (is_word_value name) (append_assoc value (c ∷ []) rest) ∙ e)

  spelled : (name : List ℕ) (quote : ℕ) (value rest : List ℕ) → list_all (may_be_quoted quote) rest ≡ true → is_word_value name (value ++ rest) ≡ true → Spelled name quote value
  unfolding Spelled
  spelled name quote value rest h e = record { rest = rest; quoted = h; taken = over_word name quote rest value h e }

  -- a text of letters may stand in both quotes
  plain_so : (quote : ℕ) (whole : List ℕ) → is_quote quote ≡ true → list_all (may_be_quoted 34) whole ≡ true → list_all (may_be_quoted 39) whole ≡ true → list_all (may_be_quoted quote) whole ≡ true
  plain_so quote whole q a b = at (quote_two quote q)
    where
      at : (quote ≡ 34) ⊎ (quote ≡ 39) → list_all (may_be_quoted quote) whole ≡ true
      at (inl e) = ap (λ (k : ℕ). list_all (may_be_quoted k) whole) e ∙ a
      at (inr e) = ap (λ (k : ℕ). list_all (may_be_quoted k) whole) e ∙ b

  -- the rest of a whole word
  by_whole : (name : List ℕ) (quote : ℕ) (value whole : List ℕ) → list_all (may_be_quoted quote) whole ≡ true → begins whole value ≡ true → is_word_value name whole ≡ true → Spelled name quote value
  by_whole name quote value whole h b e =
      let m = begun value whole b in
      spelled name quote value m.0 (part_all (may_be_quoted quote) value m.0 (ap (list_all (may_be_quoted quote)) (sym m.1) ∙ h)) (ap (is_word_value name) (sym m.1) ∙ e)

  lower_append : (xs ys : List ℕ) → str_to_ascii_lowercase (xs ++ ys) ≡ str_to_ascii_lowercase xs ++ str_to_ascii_lowercase ys
  lower_append [] ys = refl
  lower_append (x ∷ xs) ys = ap (λ (w : List ℕ). to_ascii_lowercase x ∷ w) (lower_append xs ys)

  lower_twice : (value more : List ℕ) → codes "utf-8" ≡ str_to_ascii_lowercase value ++ more → str_to_ascii_lowercase (codes "utf-8") ≡ str_to_ascii_lowercase (str_to_ascii_lowercase value) ++ str_to_ascii_lowercase more
  lower_twice value more e = ap str_to_ascii_lowercase e ∙ lower_append (str_to_ascii_lowercase value) more

  idem : (c : ℕ) → to_ascii_lowercase (to_ascii_lowercase c) ≡ to_ascii_lowercase c
  idem c = grind (arith, nat_tests)

  idem_all : (cs : List ℕ) → str_to_ascii_lowercase (str_to_ascii_lowercase cs) ≡ str_to_ascii_lowercase cs
  idem_all [] = refl
  idem_all (c ∷ cs) = ap (λ (x : ℕ). x ∷ str_to_ascii_lowercase (str_to_ascii_lowercase cs)) (idem c) ∙ ap (λ (w : List ℕ). to_ascii_lowercase c ∷ w) (idem_all cs)

  encoding_so : (value more : List ℕ) → codes "utf-8" ≡ str_to_ascii_lowercase value ++ more → str_to_ascii_lowercase (value ++ more) ≡ codes "utf-8"
  encoding_so value more e =
      lower_append value more ∙ ap (λ (w : List ℕ). w ++ str_to_ascii_lowercase more) (sym (idem_all value)) ∙ sym (lower_twice value more e)

  word_written : (name : List ℕ) (quote : ℕ) (value : List ℕ) → is_quote quote ≡ true → word_begins name value ≡ true → Spelled name quote value
  word_written name quote value q e = at (bytes_eq name (codes "version")) refl (bytes_eq name (codes "encoding")) refl e
    where
      value_is : (v x : Bool) (w : List ℕ) → bytes_eq name (codes "version") ≡ v → bytes_eq name (codes "encoding") ≡ x
          → (if v then bytes_eq w (codes "1.0") else (if x then str_eq_ignore_ascii_case w (codes "UTF-8") else bytes_eq w (codes "yes") || bytes_eq w (codes "no"))) ≡ true
          → is_word_value name w ≡ true
      value_is v x w a b i =
          ap (λ (z : Bool). if z then bytes_eq w (codes "1.0") else (if bytes_eq name (codes "encoding") then str_eq_ignore_ascii_case w (codes "UTF-8") else bytes_eq w (codes "yes") || bytes_eq w (codes "no"))) a
          ∙ ap (λ (z : Bool). if v then bytes_eq w (codes "1.0") else (if z then str_eq_ignore_ascii_case w (codes "UTF-8") else bytes_eq w (codes "yes") || bytes_eq w (codes "no"))) b ∙ i

      encoding : (m : (more : List ℕ) × (codes "utf-8" ≡ str_to_ascii_lowercase value ++ more)) → bytes_eq name (codes "version") ≡ false → bytes_eq name (codes "encoding") ≡ true → Spelled name quote value
      encoding (more, i) a b =
          spelled name quote value more
          (part_all (may_be_quoted quote) (str_to_ascii_lowercase value) more (ap (list_all (may_be_quoted quote)) (sym i) ∙ plain_so quote (codes "utf-8") q refl refl))
          (value_is false true (value ++ more) a b ((bytes_eq-Decides (str_to_ascii_lowercase (value ++ more)) (codes "utf-8")).1 (encoding_so value more i)))

      at : (v : Bool) → bytes_eq name (codes "version") ≡ v → (x : Bool) → bytes_eq name (codes "encoding") ≡ x
          → (if v then begins (codes "1.0") value else (if x then begins (codes "utf-8") (str_to_ascii_lowercase value) else begins (codes "yes") value || begins (codes "no") value)) ≡ true
          → Spelled name quote value
      at true a x b i = by_whole name quote value (codes "1.0") (plain_so quote (codes "1.0") q refl refl) i (value_is true x (codes "1.0") a b refl)
      at false a true b i = encoding (begun (str_to_ascii_lowercase value) (codes "utf-8") i) a b
      at false a false b i = alone (or_cases (begins (codes "yes") value) (begins (codes "no") value) i)
        where
          alone : (begins (codes "yes") value ≡ true) ⊎ (begins (codes "no") value ≡ true) → Spelled name quote value
          alone (inl j) = by_whole name quote value (codes "yes") (plain_so quote (codes "yes") q refl refl) j (value_is false false (codes "yes") a b refl)
          alone (inr j) = by_whole name quote value (codes "no") (plain_so quote (codes "no") q refl refl) j (value_is false false (codes "no") a b refl)

  nothing_begins : (name : List ℕ) → word_begins name [] ≡ true
  nothing_begins name = at (bytes_eq name (codes "version")) (bytes_eq name (codes "encoding"))
    where
      at : (v x : Bool) → (if v then true else (if x then true else true || true)) ≡ true
      at true x = refl
      at false true = refl
      at false false = refl

  equals_ends : (names : List (List ℕ)) (name : List ℕ) → Ends table (in_declaration names (behind_equals name))
  unfolding Spelled
  equals_ends names name =
      among.equals_ends table of_declaration (λ names o. in_declaration names o) in_it names name 34 refl (word_written name 34 [] refl (nothing_begins name)) (some_names names name)

  words_named : list_all is_name declaration_words ≡ true
  words_named = refl

  pub declaration_ends : (names : List (List ℕ)) (o : OpenAttribute) → IsAttributeShaped (λ name v. Unit {0}) o → declared_word_can_end names o ≡ true → Ends table (in_declaration names o)
  unfolding Spelled
  declaration_ends [] (between spaced) s e =
      among.new_name table of_declaration (λ names o. in_declaration names o) in_it [] spaced (codes "version") refl refl (equals_ends [] (codes "version"))
  declaration_ends (version ∷ names) (between spaced) s e = complete version names spaced
  declaration_ends names (in_attribute_name front) s e = at (or_cases _ _ e)
    where
      so : (word : List ℕ) → list_all in_name word ≡ true → (begins word front && may_be_word names word) ≡ true → Ends table (in_declaration names (in_attribute_name front))
      so word n i =
          let p = and_parts (begins word front) (may_be_word names word) i in
          let m = begun front word p.0 in
          among.begun_name table of_declaration (λ names o. in_declaration names o) in_it names front m.0 (part_all in_name front m.0 (ap (list_all in_name) (sym m.1) ∙ n))
          (ap (may_be_word names) (sym m.1) ∙ p.1) (equals_ends names (front ++ m.0))

      last : (x y : Bool) → (x || (y || false)) ≡ true → (x ≡ true) ⊎ (y ≡ true)
      last true y e = inl refl
      last false true e = inr refl
      last false false e = cc

      at : ((begins (codes "version") front && may_be_word names (codes "version")) ≡ true)
          ⊎ (((begins (codes "encoding") front && may_be_word names (codes "encoding")) || ((begins (codes "standalone") front && may_be_word names (codes "standalone")) || false)) ≡ true)
          → Ends table (in_declaration names (in_attribute_name front))
      at (inl i) = so (codes "version") refl i
      at (inr i) = by (last (begins (codes "encoding") front && may_be_word names (codes "encoding")) (begins (codes "standalone") front && may_be_word names (codes "standalone")) i)
        where
          by : ((begins (codes "encoding") front && may_be_word names (codes "encoding")) ≡ true) ⊎ ((begins (codes "standalone") front && may_be_word names (codes "standalone")) ≡ true)
              → Ends table (in_declaration names (in_attribute_name front))
          by (inl j) = so (codes "encoding") refl j
          by (inr j) = so (codes "standalone") refl j
  declaration_ends names (behind_name name) s e = among.name_ends table of_declaration (λ names o. in_declaration names o) in_it names name (equals_ends names name)
  declaration_ends names (behind_equals name) s e = equals_ends names name
  declaration_ends names (in_value name quote (in_fixed value)) s e =
      among.value_ends table of_declaration (λ names o. in_declaration names o) in_it names name quote (in_fixed value) s.0 (word_written name quote value s.0 e) (some_names names name)
  declaration_ends names (in_value name quote in_text) s e = cc
  declaration_ends names (in_value name quote (in_reference r)) s e = cc
  declaration_ends names (in_value name quote (in_choice word spaced)) s e = cc
  declaration_ends names (in_value name quote (in_words inside one)) s e = cc
