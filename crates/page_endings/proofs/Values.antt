-- Each value that passes has an end.
use Rattle.std.proofs.Common.{◌≡◌, ◌⊎◌, inl, inr, ℕ, Bool, true, false, ◌&&◌, ◌||◌, List, [], ◌∷◌, ◌++◌, Option, Some, None, refl, sym, ◌∙◌, ap, subst, arith, append-nil, append_assoc}
use Rattle.std.specs.Prelude.{if◌then◌else◌, nat_eq, bytes_eq}
use Rattle.std.specs.List.{list_all, list_any}
use Rattle.std.proofs.lemmas.Bool.{and_parts, and_from, or_cases}
use Rattle.std.proofs.lemmas.Bool.Decides.{nat_tests}
use Rattle.std.proofs.lemmas.List.Folds.{list_all-append}
use Rattle.xml_text.specs.Characters.{is_blank}
use Rattle.xml_text.specs.Names.{in_name, is_name, is_name_token}
use Rattle.dtd_model.specs.Lawful.{is_lawful_kind}
use Rattle.dtd_model.specs.References.{is_some}
use Rattle.dtd_model.specs.Table.{Kind, cdata, id, idref, idrefs, nmtoken, nmtokens, one_of, Presence, implied, required, with_default, fixed, Declared}
use Rattle.page_model.specs.Parts.{is_quote, may_be_quoted}
use Rattle.piece_steps.specs.Insides.{accepted, accepts}
use Rattle.page_model.specs.OpenValues.{OpenReference, OpenValue, in_text, in_reference, in_fixed, in_choice, in_words}
use Rattle.page_steps.specs.DoctypeSteps.{begins}
use Rattle.page_steps.specs.ReferenceSteps.{reference_step, reference_good}
use Rattle.page_steps.specs.ValueSteps.{value_start, value_step, value_good, may_stand, kept_step, in_reference_of, begins_word, is_chosen, kind_start, start_by}
use Rattle.page_endings.specs.Ending.{fixed_rest, fixed_can_end, choice_can_end, value_can_end, has_value}
use Rattle.page_endings.specs.Shapes.{is_fixed, IsValueShaped}
use Rattle.page_endings.proofs.Among.{Written, quote_two}
use Rattle.page_endings.proofs.Declared.{itself, begun}
use Rattle.page_endings.proofs.References.{Referred, reference_ends, part_all}

abbrev WrittenAs : List (List ℕ) → Declared → ℕ → OpenValue → Type 0
WrittenAs entities d quote v = Written (value_step entities d) (value_good entities d) quote v

-- characters of names may stand in quotes
quoted_name : (quote c : ℕ) → is_quote quote ≡ true → in_name c ≡ true → may_be_quoted quote c ≡ true
quoted_name quote c q h = at (quote_two quote q)
  where
    at : (quote ≡ 34) ⊎ (quote ≡ 39) → may_be_quoted quote c ≡ true
    at (inl e) = ap (λ (k : ℕ). may_be_quoted k c) e ∙ double
      where
        double : may_be_quoted 34 c ≡ true
        double = grind (arith, nat_tests)
    at (inr e) = ap (λ (k : ℕ). may_be_quoted k c) e ∙ single
      where
        single : may_be_quoted 39 c ≡ true
        single = grind (arith, nat_tests)

quoted_names : (quote : ℕ) (cs : List ℕ) → is_quote quote ≡ true → list_all in_name cs ≡ true → list_all (may_be_quoted quote) cs ≡ true
quoted_names quote [] q h = refl
quoted_names quote (c ∷ cs) q h =
    let p = and_parts (in_name c) (list_all in_name cs) h in
    and_from (may_be_quoted quote c) (list_all (may_be_quoted quote) cs) (quoted_name quote c q p.0) (quoted_names quote cs q p.1)

quoted_stands : (quote c : ℕ) → may_be_quoted quote c ≡ true → may_stand c ≡ true
quoted_stands quote c h = grind (arith, nat_tests)

name_stands : (c : ℕ) → in_name c ≡ true → may_stand c ≡ true
name_stands c h = grind (arith, nat_tests)

name_no_blank : (c : ℕ) → in_name c ≡ true → is_blank c ≡ false
name_no_blank c h = grind (arith, nat_tests)

name_no_semicolon : (c : ℕ) → in_name c ≡ true → nat_eq c 59 ≡ false
name_no_semicolon c h = grind (arith, nat_tests)

semicolon_quoted : (quote : ℕ) → is_quote quote ≡ true → may_be_quoted quote 59 ≡ true
semicolon_quoted quote q = grind (arith, nat_tests)

module _ (entities : List (List ℕ)) (d : Declared) where
  taken_by : OpenValue → List ℕ → Bool
  taken_by v rest = accepts (value_step entities d) (value_good entities d) v rest

  -- one character
  one_more : (v g : OpenValue) (c : ℕ) (rest : List ℕ) → may_stand c ≡ true → kept_step entities d.kind v c ≡ Some g
      → accepts (value_step entities d) (value_good entities d) g rest ≡ true → accepts (value_step entities d) (value_good entities d) v (c ∷ rest) ≡ true
  one_more v g c rest h e i =
      ap (λ (b : Bool). accepted (if b then kept_step entities d.kind v c else None) (λ z. accepts (value_step entities d) (value_good entities d) z rest)) h
      ∙ ap (λ (o : Option OpenValue). accepted o (λ z. accepts (value_step entities d) (value_good entities d) z rest)) e ∙ i

  -- the rest of a reference, and its `;`
  over_reference : (r : OpenReference) (rest : List ℕ) → list_all in_name rest ≡ true → accepts reference_step (reference_good entities) r rest ≡ true
      → accepts (value_step entities d) (value_good entities d) (in_reference r) (rest ++ 59 ∷ []) ≡ true
  over_reference r [] h e = one_more (in_reference r) in_text 59 [] refl (ap (λ (b : Bool). if b then Some in_text else None) e) refl
  over_reference r (c ∷ rest) h e = let p = and_parts (in_name c) (list_all in_name rest) h in at (reference_step r c) refl e p (λ g i. over_reference g rest p.1 i)
    where
      at : (o : Option OpenReference) → reference_step r c ≡ o → accepted o (λ g. accepts reference_step (reference_good entities) g rest) ≡ true
          → (in_name c ≡ true) × (list_all in_name rest ≡ true)
          → ((g : OpenReference) → accepts reference_step (reference_good entities) g rest ≡ true → accepts (value_step entities d) (value_good entities d) (in_reference g) (rest ++ 59 ∷ []) ≡ true)
          → accepts (value_step entities d) (value_good entities d) (in_reference r) (c ∷ (rest ++ 59 ∷ [])) ≡ true
      at None i e p ih = cc
      at (Some g) i e p ih =
          one_more (in_reference r) (in_reference g) c (rest ++ 59 ∷ []) (name_stands c p.0)
          (ap (λ (b : Bool). if b then (if reference_good entities r then Some in_text else None) else in_reference_of (reference_step r c)) (name_no_semicolon c p.0) ∙ ap in_reference_of i)
          (ih g e)

  all_more : (test : ℕ → Bool) (xs : List ℕ) (c : ℕ) → list_all test xs ≡ true → test c ≡ true → list_all test (xs ++ c ∷ []) ≡ true
  all_more test xs c h e = list_all-append test xs (c ∷ []) ∙ and_from (list_all test xs) (list_all test (c ∷ [])) h (and_from (test c) true e refl)

  referred : (quote : ℕ) (r : OpenReference) → is_quote quote ≡ true → Referred entities r → WrittenAs entities d quote (in_reference r)
  referred quote r q f = record {
    rest = f.rest ++ 59 ∷ [];
    quoted = all_more (may_be_quoted quote) f.rest 59 (quoted_names quote f.rest q f.plain) (semicolon_quoted quote q);
    taken = over_reference r f.rest f.plain f.taken;
  }

  -- the rest of a fixed value
  over_fixed : (quote : ℕ) (rest value : List ℕ) → list_all (may_be_quoted quote) rest ≡ true → value_good entities d (in_fixed (value ++ rest)) ≡ true
      → accepts (value_step entities d) (value_good entities d) (in_fixed value) rest ≡ true
  over_fixed quote [] value h e = subst (λ (w : List ℕ). value_good entities d (in_fixed w) ≡ true) (append-nil value) e
  over_fixed quote (c ∷ rest) value h e =
      let p = and_parts (may_be_quoted quote c) (list_all (may_be_quoted quote) rest) h in
      one_more (in_fixed value) (in_fixed (value ++ c ∷ [])) c rest (quoted_stands quote c p.0) refl
      (over_fixed quote rest (value ++ c ∷ []) p.1 (subst (λ (w : List ℕ). value_good entities d (in_fixed w) ≡ true) (sym (append_assoc value (c ∷ []) rest)) e))

  fixed_ends : (quote : ℕ) (value : List ℕ) (p : Presence) → is_fixed p ≡ true → fixed_can_end entities d quote value p ≡ true → WrittenAs entities d quote (in_fixed value)
  fixed_ends quote value implied s e = cc
  fixed_ends quote value required s e = cc
  fixed_ends quote value with_default s e = cc
  fixed_ends quote value (fixed wanted) s e =
      let p = and_parts (list_all (may_be_quoted quote) (fixed_rest wanted value)) (value_good entities d (in_fixed (value ++ fixed_rest wanted value))) e in
      record { rest = fixed_rest wanted value; quoted = p.0; taken = over_fixed quote (fixed_rest wanted value) value p.0 p.1 }

  -- the rest of a choice
  over_choice : (rest word : List ℕ) → list_all in_name rest ≡ true → value_good entities d (in_choice (word ++ rest) false) ≡ true
      → accepts (value_step entities d) (value_good entities d) (in_choice word false) rest ≡ true
  over_choice [] word h e = subst (λ (w : List ℕ). value_good entities d (in_choice w false) ≡ true) (append-nil word) e
  over_choice (c ∷ rest) word h e =
      let p = and_parts (in_name c) (list_all in_name rest) h in
      one_more (in_choice word false) (in_choice (word ++ c ∷ []) false) c rest (name_stands c p.0)
      (ap (λ (b : Bool). if b then Some (in_choice word (false || is_some word)) else (if (true && in_name c) then Some (in_choice (word ++ c ∷ []) false) else None)) (name_no_blank c p.0)
      ∙ ap (λ (b : Bool). if b then Some (in_choice (word ++ c ∷ []) false) else None) p.0)
      (over_choice rest (word ++ c ∷ []) p.1 (subst (λ (w : List ℕ). value_good entities d (in_choice w false) ≡ true) (sym (append_assoc word (c ∷ []) rest)) e))

-- a token that passes
record PickedToken (tokens : List (List ℕ)) (test : List ℕ → Bool) : Type 0 where
  token : List ℕ
  named : is_name_token token ≡ true
  among : list_any (bytes_eq token) tokens ≡ true
  passes : test token ≡ true

or_true : (b : Bool) → (b || true) ≡ true
or_true true = refl
or_true false = refl

picked_token : (tokens : List (List ℕ)) (test : List ℕ → Bool) → list_all is_name_token tokens ≡ true → list_any test tokens ≡ true → PickedToken tokens test
picked_token [] test n e = cc
picked_token (x ∷ xs) test n e = let p = and_parts (is_name_token x) (list_all is_name_token xs) n in at (test x) refl e p (picked_token xs test p.1)
  where
    at : (b : Bool) → test x ≡ b → (b || list_any test xs) ≡ true → (is_name_token x ≡ true) × (list_all is_name_token xs ≡ true) → (list_any test xs ≡ true → PickedToken xs test) → PickedToken (x ∷ xs) test
    at true q i p ih = record { token = x; named = p.0; among = ap (λ (b : Bool). b || list_any (bytes_eq x) xs) (itself x); passes = q }
    at false q i p ih =
        let z = ih i in
        record { token = z.token; named = z.named; among = ap (λ (b : Bool). bytes_eq z.token x || b) z.among ∙ or_true (bytes_eq z.token x); passes = z.passes }

token_some : (w : List ℕ) → is_name_token w ≡ true → is_some w ≡ true
token_some [] h = cc
token_some (c ∷ cs) h = refl

token_all : (w : List ℕ) → is_name_token w ≡ true → list_all in_name w ≡ true
token_all [] h = cc
token_all (c ∷ cs) h = h

choice_ends : (entities : List (List ℕ)) (d : Declared) (kind : Kind) (quote : ℕ) (word : List ℕ) (spaced : Bool) → d.kind ≡ kind → is_lawful_kind kind ≡ true → is_quote quote ≡ true
    → choice_can_end kind word spaced ≡ true → WrittenAs entities d quote (in_choice word spaced)
choice_ends entities d kind quote word true k l q e =
    record { rest = []; quoted = refl; taken = ap (λ (x : Kind). is_some word && is_chosen x word) k ∙ e }
choice_ends entities d (one_of tokens) quote word false k l q e = at (picked_token tokens (λ token. begins token word) l e)
  where
    at : PickedToken tokens (λ token. begins token word) → WrittenAs entities d quote (in_choice word false)
    at p =
        let m = begun word p.token p.passes in
        let good : value_good entities d (in_choice p.token false) ≡ true =
        ap (λ (x : Kind). is_some p.token && is_chosen x p.token) k ∙ and_from (is_some p.token) (list_any (bytes_eq p.token) tokens) (token_some p.token p.named) p.among in
        let plain : list_all in_name m.0 ≡ true = part_all in_name word m.0 (ap (list_all in_name) (sym m.1) ∙ token_all p.token p.named) in
        record {
          rest = m.0;
          quoted = quoted_names quote m.0 q plain;
          taken = over_choice entities d m.0 word plain (ap (λ (w : List ℕ). value_good entities d (in_choice w false)) (sym m.1) ∙ good);
        }
choice_ends entities d cdata quote word false k l q e = cc
choice_ends entities d id quote word false k l q e = cc
choice_ends entities d idref quote word false k l q e = cc
choice_ends entities d idrefs quote word false k l q e = cc
choice_ends entities d nmtoken quote word false k l q e = cc
choice_ends entities d nmtokens quote word false k l q e = cc

a_word : (kind : Kind) → begins_word kind 97 ≡ true
a_word cdata = refl
a_word id = refl
a_word idref = refl
a_word idrefs = refl
a_word nmtoken = refl
a_word nmtokens = refl
a_word (one_of tokens) = refl

-- each value that passes
pub value_written : (entities : List (List ℕ)) (d : Declared) (quote : ℕ) (v : OpenValue) → list_all is_name entities ≡ true → is_lawful_kind d.kind ≡ true → is_quote quote ≡ true
    → IsValueShaped (Some d) v → value_can_end entities d quote v ≡ true → Written (value_step entities d) (value_good entities d) quote v
value_written entities d quote in_text n k q s e = record { rest = []; quoted = refl; taken = refl }
value_written entities d quote (in_reference r) n k q s e = referred entities d quote r q (reference_ends entities r n e)
value_written entities d quote (in_fixed value) n k q s e = fixed_ends entities d quote value d.presence s e
value_written entities d quote (in_choice word spaced) n k q s e = choice_ends entities d d.kind quote word spaced refl k q e
value_written entities d quote (in_words true one) n k q s e = record { rest = []; quoted = refl; taken = refl }
value_written entities d quote (in_words false true) n k q s e = record { rest = []; quoted = refl; taken = refl }
value_written entities d quote (in_words false false) n k q s e = record {
  rest = 97 ∷ [];
  quoted = quoted_names quote (97 ∷ []) q refl;
  taken = one_more entities d (in_words false false) (in_words true false) 97 [] refl (ap (λ (b : Bool). if b then Some (in_words true false) else None) (a_word d.kind)) refl;
}

-- Where a value begins it has the shape of its declaration.

kind_shaped : (d : Declared) (kind : Kind) → IsValueShaped (Some d) (kind_start kind)
kind_shaped d cdata = tt
kind_shaped d id = tt
kind_shaped d idref = tt
kind_shaped d idrefs = tt
kind_shaped d nmtoken = tt
kind_shaped d nmtokens = tt
kind_shaped d (one_of tokens) = tt

start_shaped_by : (d : Declared) (p : Presence) → d.presence ≡ p → IsValueShaped (Some d) (start_by d.kind p)
start_shaped_by d implied e = kind_shaped d d.kind
start_shaped_by d required e = kind_shaped d d.kind
start_shaped_by d with_default e = kind_shaped d d.kind
start_shaped_by d (fixed wanted) e = ap is_fixed e

pub start_shaped : (d : Declared) → IsValueShaped (Some d) (value_start d)
start_shaped d = start_shaped_by d d.presence refl

-- a quote, and a value that can be written in it
pub record Valued (entities : List (List ℕ)) (d : Declared) : Type 0 where
  pub quote : ℕ
  pub quoted : is_quote quote ≡ true
  pub written : Written (value_step entities d) (value_good entities d) quote (value_start d)

pub valued : (entities : List (List ℕ)) (d : Declared) → list_all is_name entities ≡ true → is_lawful_kind d.kind ≡ true → has_value entities d ≡ true → Valued entities d
valued entities d n k e = at (or_cases (value_can_end entities d 34 (value_start d)) (value_can_end entities d 39 (value_start d)) e)
  where
    by : (quote : ℕ) → is_quote quote ≡ true → value_can_end entities d quote (value_start d) ≡ true → Valued entities d
    by quote q i = record { quote = quote; quoted = q; written = value_written entities d quote (value_start d) n k q (start_shaped d) i }

    at : (value_can_end entities d 34 (value_start d) ≡ true) ⊎ (value_can_end entities d 39 (value_start d) ≡ true) → Valued entities d
    at (inl i) = by 34 refl i
    at (inr i) = by 39 refl i
