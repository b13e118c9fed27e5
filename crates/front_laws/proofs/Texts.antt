-- Values of text: whether a reference is open.
use Rattle.std.proofs.Common.{◌≡◌, ℕ, Bool, true, false, not, ◌&&◌, ◌||◌, List, [], ◌∷◌, ◌++◌, Option, Some, None, refl, sym, ◌∙◌, ap, subst, arith}
use Rattle.std.specs.Prelude.{if◌then◌else◌, nat_eq}
use Rattle.std.specs.Char.{is_ascii_digit, is_ascii_hexdigit}
use Rattle.std.proofs.lemmas.Bool.{eqb-true, and_parts, and_from}
use Rattle.std.proofs.lemmas.Bool.Decides.{nat_tests}
use Rattle.std.specs.List.{list_all}
use Rattle.xml_text.specs.Names.{begins_name, in_name}
use Rattle.dtd_model.specs.Table.{Kind}
use Rattle.page_model.specs.Parts.{has_semicolon}
use Rattle.page_model.specs.OpenValues.{OpenReference, in_entity, at_number, in_decimal, in_hexadecimal, ReferenceStands, OpenValue, in_text, in_reference, in_fixed, in_choice, in_words, TextStands}
use Rattle.page_steps.specs.ReferenceSteps.{reference_step, reference_good}
use Rattle.page_steps.specs.ValueSteps.{in_reference_of, kept_step}
use Rattle.front_laws.proofs.Folds.{Folds, From, here, on, nowhere, somewhere, either, Led, embedded, same}
use Rattle.front_laws.proofs.References.{reference_reads}

-- a reference that is open holds no `;`

abbrev not_semicolon : ℕ → Bool
not_semicolon c = not (nat_eq c 59)

all_through : (p q : ℕ → Bool) → ((c : ℕ) → p c ≡ true → q c ≡ true) → (cs : List ℕ) → list_all p cs ≡ true → list_all q cs ≡ true
all_through p q f [] h = refl
all_through p q f (c ∷ cs) h = let a = and_parts (p c) (list_all p cs) h in and_from (q c) (list_all q cs) (f c a.0) (all_through p q f cs a.1)

in_names : (c : ℕ) → in_name c ≡ true → not_semicolon c ≡ true
in_names c h = grind (arith, nat_tests)

in_digits : (c : ℕ) → is_ascii_digit c ≡ true → not_semicolon c ≡ true
in_digits c h = grind (arith, nat_tests)

in_hexdigits : (c : ℕ) → is_ascii_hexdigit c ≡ true → not_semicolon c ≡ true
in_hexdigits c h = grind (arith, nat_tests)

no_semicolon : (r : OpenReference) (cs : List ℕ) → ReferenceStands r cs → list_all not_semicolon cs ≡ true
no_semicolon (in_entity name) cs (e, h) = ap (list_all not_semicolon) e ∙ all_through in_name not_semicolon in_names name h
no_semicolon at_number cs e = ap (list_all not_semicolon) e
no_semicolon (in_decimal n) cs (digits, e, some, h, is) = ap (list_all not_semicolon) e ∙ all_through is_ascii_digit not_semicolon in_digits digits h
no_semicolon (in_hexadecimal None) cs (digits, e, h) = ap (list_all not_semicolon) (e ∙ ap (λ (w : List ℕ). 35 ∷ 120 ∷ w) h)
no_semicolon (in_hexadecimal (Some n)) cs (digits, e, (some, h, is)) = ap (list_all not_semicolon) e ∙ all_through is_ascii_hexdigit not_semicolon in_hexdigits digits h

module _ (entities : List (List ℕ)) (kind : Kind) where
  abbrev Keeps : OpenValue → List ℕ → OpenValue → Type 0
  Keeps v text w = Folds (kept_step entities kind) v text w

  -- every `&` has its `;`
  abbrev AllClosed : List ℕ → Type 0
  AllClosed cs = (front behind : List ℕ) → cs ≡ front ++ 38 ∷ behind → has_semicolon behind ≡ true

  closed_behind : (c : ℕ) (cs : List ℕ) → AllClosed (c ∷ cs) → AllClosed cs
  closed_behind c cs h front behind e = h (c ∷ front) behind (ap (λ (w : List ℕ). c ∷ w) e)

  -- from text, and from a reference that ends
  record Closes (cs : List ℕ) : Type 0 where
    text : AllClosed cs → Keeps in_text cs in_text
    reference : (r : OpenReference) → has_semicolon cs ≡ true → AllClosed cs → Keeps (in_reference r) cs in_text

  closes_more : (c : ℕ) (cs : List ℕ) → Closes cs → Closes (c ∷ cs)
  closes_more c cs ih = record {
    text = λ h. on (somewhere (at (nat_eq c 38) refl h));
    reference = λ r s h.
        on (either (nat_eq c 59) (if reference_good entities r then Some in_text else None) (in_reference_of (reference_step r c))
        (λ e. either (reference_good entities r) (Some in_text) None (λ g. somewhere (ih.text (closed_behind c cs h))) (λ g. nowhere))
        (λ e. by (reference_step r c) (ap (λ (b : Bool). b || has_semicolon cs) (sym e) ∙ s) h));
  }
    where
      at : (b : Bool) → nat_eq c 38 ≡ b → AllClosed (c ∷ cs) → Keeps (if b then in_reference (in_entity []) else in_text) cs in_text
      at true e h = ih.reference (in_entity []) (h [] cs (ap (λ (x : ℕ). x ∷ cs) (eqb-true c 38 e))) (closed_behind c cs h)
      at false e h = ih.text (closed_behind c cs h)

      by : (o : Option OpenReference) → has_semicolon cs ≡ true → AllClosed (c ∷ cs) → From (kept_step entities kind) (in_reference_of o) cs in_text
      by None s h = nowhere
      by (Some g) s h = somewhere (ih.reference g s (closed_behind c cs h))

  closes : (cs : List ℕ) → Closes cs
  closes [] = record { text = λ h. here refl; reference = λ r s h. cc }
  closes (c ∷ cs) = closes_more c cs (closes cs)

  no_ampersand : (r : OpenReference) → reference_step r 38 ≡ None
  no_ampersand (in_entity []) = refl
  no_ampersand (in_entity (n ∷ name)) = refl
  no_ampersand at_number = refl
  no_ampersand (in_decimal n) = refl
  no_ampersand (in_hexadecimal None) = refl
  no_ampersand (in_hexadecimal (Some n)) = refl

  -- from text, and from a reference, over the last `&`
  record Opens (cs behind : List ℕ) (w : OpenValue) : Type 0 where
    text : Keeps in_text (cs ++ 38 ∷ behind) w
    reference : (r : OpenReference) → Keeps (in_reference r) (cs ++ 38 ∷ behind) w

  opens_more : (c : ℕ) (cs behind : List ℕ) (w : OpenValue) → Opens cs behind w → Opens (c ∷ cs) behind w
  opens_more c cs behind w ih = record {
    text = on (somewhere (at (nat_eq c 38)));
    reference = λ r.
        on (either (nat_eq c 59) (if reference_good entities r then Some in_text else None) (in_reference_of (reference_step r c))
        (λ e. either (reference_good entities r) (Some in_text) None (λ g. somewhere ih.text) (λ g. nowhere))
        (λ e. by (reference_step r c)));
  }
    where
      at : (b : Bool) → Keeps (if b then in_reference (in_entity []) else in_text) (cs ++ 38 ∷ behind) w
      at true = ih.reference (in_entity [])
      at false = ih.text

      by : (o : Option OpenReference) → From (kept_step entities kind) (in_reference_of o) (cs ++ 38 ∷ behind) w
      by None = nowhere
      by (Some g) = somewhere (ih.reference g)

  opens : (cs behind : List ℕ) (w : OpenValue) → Keeps (in_reference (in_entity [])) behind w → Opens cs behind w
  opens [] behind w f = record {
    text = on (somewhere f);
    reference = λ r. on (subst (λ (o : Option OpenReference). From (kept_step entities kind) (in_reference_of o) behind w) (sym (no_ampersand r)) nowhere);
  }
  opens (c ∷ cs) behind w f = opens_more c cs behind w (opens cs behind w f)

  reference_embeds : (b : OpenReference) (c : ℕ) (z : OpenValue) → not_semicolon c ≡ true → kept_step entities kind (in_reference b) c ≡ Some z → Led reference_step in_reference b c z
  reference_embeds b c z h e = at (nat_eq c 59) h (reference_step b c) refl e
    where
      at : (x : Bool) → not x ≡ true → (o : Option OpenReference) → reference_step b c ≡ o → (if x then (if reference_good entities b then Some in_text else None) else in_reference_of o) ≡ Some z → Led reference_step in_reference b c z
      at true k o q e = cc
      at false k None q e = cc
      at false k (Some g) q e = record { g = g; led = q; is = sym (same (in_reference g) z e) }

  open_reference : (r : OpenReference) (cs : List ℕ) → ReferenceStands r cs → Keeps (in_reference (in_entity [])) cs (in_reference r)
  open_reference r cs h = embedded in_reference not_semicolon reference_embeds (no_semicolon r cs h) (reference_reads r cs h)

  pub texts : (v : OpenValue) (cs : List ℕ) → TextStands v cs → Keeps in_text cs v
  texts in_text cs h = (closes cs).text h
  texts (in_reference r) cs (front, behind, e, h) = subst (λ (w : List ℕ). Keeps in_text w (in_reference r)) (sym e) (opens front behind (in_reference r) (open_reference r behind h)).text
  texts (in_fixed value) cs h = absurd h
  texts (in_choice word spaced) cs h = absurd h
  texts (in_words inside one) cs h = absurd h
