-- Values of which nothing can come stay so.
use Rattle.std.proofs.Common.{◌≡◌, ℕ, Bool, true, false, not, ◌&&◌, ◌||◌, List, [], ◌∷◌, ◌++◌, Option, Some, None, refl, sym, ◌∙◌, ap, arith, length, drop, append-nil, append_assoc}
use Rattle.std.specs.Prelude.{if◌then◌else◌, nat_eq}
use Rattle.std.specs.List.{list_all}
use Rattle.std.specs.Str.{all_scalars, chars, encode_utf8_all}
use Rattle.std.proofs.Math.Seq.{drop-append_seam}
use Rattle.std.proofs.lemmas.Bool.{and_parts, and_from}
use Rattle.std.proofs.lemmas.Bool.Decides.{nat_tests}
use Rattle.std.proofs.lemmas.Slice.Eq.{bytes_eq-Decides}
use Rattle.std.proofs.lemmas.Str.{encodes-append, chars-encodes}
use lib.Utf8.{scalar}
use Rattle.xml_text.specs.Characters.{is_blank, is_character}
use Rattle.xml_text.specs.Names.{in_name}
use Rattle.dtd_model.specs.References.{is_reference, is_known, is_some}
use Rattle.dtd_model.specs.Table.{Kind, cdata, id, idref, idrefs, nmtoken, nmtokens, one_of, Presence, implied, required, with_default, fixed, Declared}
use Rattle.page_model.specs.OpenValues.{OpenReference, OpenValue, in_text, in_reference, in_fixed, in_choice, in_words}
use Rattle.page_model.specs.Attributes.{has_kind, has_fixed}
use Rattle.page_model.specs.Parts.{refers_by, may_be_quoted}
use Rattle.page_steps.specs.ReferenceSteps.{reference_step, reference_good}
use Rattle.page_steps.specs.ValueSteps.{in_reference_of, kept_step, choice_step, may_stand, value_step, is_chosen, value_good}
use Rattle.page_endings.specs.Ending.{some_name_begins, reference_can_end, choices, bytes_behind, fixed_rest, ends_by, fixed_can_end, choice_can_end, value_can_end}
use Rattle.page_endings.proofs.Begins.{not_true, some_less, none_among}
use Rattle.page_endings.proofs.ReferenceTraps.{Stuck, stuck_if, reference_stuck, reference_not_good}

pub stuck_when : {B : Type 0} (test : B → Bool) (b : Bool) (x y : Option B) → Stuck test x → Stuck test y → Stuck test (if b then x else y)
stuck_when test true x y p q = p
stuck_when test false x y p q = q

none_and : (x y : Bool) → y ≡ false → (x && y) ≡ false
none_and true y e = e
none_and false y e = refl

not_chosen : (kind : Kind) (word : List ℕ) → some_name_begins (choices kind) word ≡ false → is_chosen kind word ≡ false
not_chosen cdata word e = refl
not_chosen id word e = refl
not_chosen idref word e = refl
not_chosen idrefs word e = refl
not_chosen nmtoken word e = refl
not_chosen nmtokens word e = refl
not_chosen (one_of tokens) word e = none_among tokens word e

-- Fixed values.

character_scalar : (c : ℕ) → is_character c ≡ true → scalar c ≡ true
character_scalar c h = grind (arith, nat_tests)

pub scalars_from : (cs : List ℕ) → list_all is_character cs ≡ true → all_scalars cs ≡ true
scalars_from [] h = refl
scalars_from (c ∷ cs) h =
    let p = and_parts (is_character c) (list_all is_character cs) h in
    and_from (scalar c) (all_scalars cs) (character_scalar c p.0) (scalars_from cs p.1)

-- what is left of a value behind its beginning, as bytes and as characters
pub bytes_left : (wanted value rest : List ℕ) → wanted ≡ encode_utf8_all (value ++ rest) → bytes_behind wanted value ≡ encode_utf8_all rest
bytes_left wanted value rest e =
    ap (λ (w : List ℕ). drop (length (encode_utf8_all value)) w) (e ∙ encodes-append value rest)
    ∙ drop-append_seam (encode_utf8_all value) (encode_utf8_all rest)

pub left_is : (wanted value rest : List ℕ) → wanted ≡ encode_utf8_all (value ++ rest) → list_all is_character rest ≡ true → fixed_rest wanted value ≡ rest
left_is wanted value rest e h =
    ap chars (bytes_left wanted value rest e) ∙ chars-encodes rest (scalars_from rest h)

-- a good fixed value is the wanted one
pub good_wanted : (entities : List (List ℕ)) (d : Declared) (wanted value : List ℕ) → d.presence ≡ fixed wanted → value_good entities d (in_fixed value) ≡ true → wanted ≡ encode_utf8_all value
good_wanted entities d wanted value p e =
    let x = and_parts (refers_by is_reference value && refers_by (is_known entities) value) (has_kind d.kind value && has_fixed d.presence value) e in
    let y = and_parts (has_kind d.kind value) (has_fixed d.presence value) x.1 in
    (bytes_eq-Decides wanted (encode_utf8_all value)).0 (ap (λ (x : Presence). has_fixed x value) (sym p) ∙ y.1)

pub quoted_characters : (quote : ℕ) (cs : List ℕ) → list_all (may_be_quoted quote) cs ≡ true → list_all is_character cs ≡ true
quoted_characters quote [] h = refl
quoted_characters quote (c ∷ cs) h =
    let p = and_parts (may_be_quoted quote c) (list_all (may_be_quoted quote) cs) h in
    and_from (is_character c) (list_all is_character cs) (and_parts (is_character c) _ p.0).0 (quoted_characters quote cs p.1)

quoted_from : (quote c : ℕ) → may_stand c ≡ true → nat_eq c quote ≡ false → may_be_quoted quote c ≡ true
quoted_from quote c h e = grind (arith, nat_tests)

stands_character : (c : ℕ) → may_stand c ≡ true → is_character c ≡ true
stands_character c h = (and_parts (is_character c) (not (nat_eq c 60)) h).0

-- a value of which the rest is known can end
pub by_rest : (entities : List (List ℕ)) (d : Declared) (quote : ℕ) (wanted value rest : List ℕ) → d.presence ≡ fixed wanted → list_all (may_be_quoted quote) rest ≡ true
    → value_good entities d (in_fixed (value ++ rest)) ≡ true → ends_by entities d quote value (fixed_rest wanted value) ≡ true
by_rest entities d quote wanted value rest p h e =
    let is : fixed_rest wanted value ≡ rest = left_is wanted value rest (good_wanted entities d wanted (value ++ rest) p e) (quoted_characters quote rest h) in
    ap (ends_by entities d quote value) is ∙ and_from (list_all (may_be_quoted quote) rest) (value_good entities d (in_fixed (value ++ rest))) h e

fixed_less : (entities : List (List ℕ)) (d : Declared) (quote : ℕ) (value : List ℕ) (c : ℕ) (presence : Presence) → d.presence ≡ presence → may_stand c ≡ true → nat_eq c quote ≡ false
    → fixed_can_end entities d quote value presence ≡ false → fixed_can_end entities d quote (value ++ c ∷ []) presence ≡ false
fixed_less entities d quote value c implied p h q e = cc
fixed_less entities d quote value c required p h q e = cc
fixed_less entities d quote value c with_default p h q e = cc
fixed_less entities d quote value c (fixed wanted) p h q e =
    not_true (ends_by entities d quote (value ++ c ∷ []) (fixed_rest wanted (value ++ c ∷ []))) (ends_by entities d quote value (fixed_rest wanted value)) by e
  where
    by : ends_by entities d quote (value ++ c ∷ []) (fixed_rest wanted (value ++ c ∷ [])) ≡ true → ends_by entities d quote value (fixed_rest wanted value) ≡ true
    by i =
        let rest = fixed_rest wanted (value ++ c ∷ []) in
        let x = and_parts (list_all (may_be_quoted quote) rest) (value_good entities d (in_fixed ((value ++ c ∷ []) ++ rest))) i in
        by_rest entities d quote wanted value (c ∷ rest) p (and_from (may_be_quoted quote c) (list_all (may_be_quoted quote) rest) (quoted_from quote c h q) x.0)
        (ap (λ (w : List ℕ). value_good entities d (in_fixed w)) (sym (append_assoc value (c ∷ []) rest)) ∙ x.1)

fixed_not_good : (entities : List (List ℕ)) (d : Declared) (quote : ℕ) (value : List ℕ) (presence : Presence) → d.presence ≡ presence → fixed_can_end entities d quote value presence ≡ false → value_good entities d (in_fixed value) ≡ false
fixed_not_good entities d quote value implied p e = cc
fixed_not_good entities d quote value required p e = cc
fixed_not_good entities d quote value with_default p e = cc
fixed_not_good entities d quote value (fixed wanted) p e =
    not_true (value_good entities d (in_fixed value)) (ends_by entities d quote value (fixed_rest wanted value)) by e
  where
    by : value_good entities d (in_fixed value) ≡ true → ends_by entities d quote value (fixed_rest wanted value) ≡ true
    by i = by_rest entities d quote wanted value [] p refl (ap (λ (w : List ℕ). value_good entities d (in_fixed w)) (append-nil value) ∙ i)

-- Choices.

choice_less : (kind : Kind) (word : List ℕ) (spaced : Bool) (entities : List (List ℕ)) (d : Declared) (quote c : ℕ) → d.kind ≡ kind → choice_can_end kind word spaced ≡ false
    → Stuck (value_can_end entities d quote) (choice_step word spaced c)
choice_less kind word true entities d quote c k e = tt
choice_less kind word false entities d quote c k e =
    stuck_if (value_can_end entities d quote) (true && in_name c) (in_choice (word ++ c ∷ []) false)
    (ap (λ (x : Kind). some_name_begins (choices x) (word ++ c ∷ [])) k ∙ some_less (choices kind) word c e)

choice_spaced : (kind : Kind) (word : List ℕ) (spaced : Bool) → choice_can_end kind word spaced ≡ false → choice_can_end kind word (spaced || is_some word) ≡ false
choice_spaced kind word true e = e
choice_spaced kind [] false e = e
choice_spaced kind (c ∷ cs) false e = none_and (is_some (c ∷ cs)) (is_chosen kind (c ∷ cs)) (not_chosen kind (c ∷ cs) e)

choice_not_good : (kind : Kind) (word : List ℕ) (spaced : Bool) → choice_can_end kind word spaced ≡ false → (is_some word && is_chosen kind word) ≡ false
choice_not_good kind word true e = e
choice_not_good kind word false e = none_and (is_some word) (is_chosen kind word) (not_chosen kind word e)

-- All values.

kept_stuck : (entities : List (List ℕ)) (d : Declared) (quote : ℕ) (v : OpenValue) (c : ℕ) → may_stand c ≡ true → nat_eq c quote ≡ false → value_can_end entities d quote v ≡ false
    → Stuck (value_can_end entities d quote) (kept_step entities d.kind v c)
kept_stuck entities d quote in_text c h q e = cc
kept_stuck entities d quote (in_reference r) c h q e =
    stuck_when (value_can_end entities d quote) (nat_eq c 59) (if reference_good entities r then Some in_text else None) (in_reference_of (reference_step r c))
    (ends (reference_good entities r) (reference_not_good entities r e)) (goes (reference_step r c) (reference_stuck entities r c e))
  where
    ends : (b : Bool) → b ≡ false → Stuck (value_can_end entities d quote) (if b then Some in_text else None)
    ends true q = cc
    ends false q = tt

    goes : (o : Option OpenReference) → Stuck (reference_can_end entities) o → Stuck (value_can_end entities d quote) (in_reference_of o)
    goes None q = tt
    goes (Some g) q = q
kept_stuck entities d quote (in_fixed value) c h q e = fixed_less entities d quote value c d.presence refl h q e
kept_stuck entities d quote (in_choice word spaced) c h q e =
    stuck_when (value_can_end entities d quote) (is_blank c) (Some (in_choice word (spaced || is_some word))) (choice_step word spaced c) (choice_spaced d.kind word spaced e)
    (choice_less d.kind word spaced entities d quote c refl e)
kept_stuck entities d quote (in_words inside one) c h q e = cc

pub value_stuck : (entities : List (List ℕ)) (d : Declared) (quote : ℕ) (v : OpenValue) (c : ℕ) → nat_eq c quote ≡ false → value_can_end entities d quote v ≡ false
    → Stuck (value_can_end entities d quote) (value_step entities d v c)
value_stuck entities d quote v c q e = at (may_stand c) refl
  where
    at : (b : Bool) → may_stand c ≡ b → Stuck (value_can_end entities d quote) (if b then kept_step entities d.kind v c else None)
    at true h = kept_stuck entities d quote v c h q e
    at false h = tt

pub value_not_good : (entities : List (List ℕ)) (d : Declared) (quote : ℕ) (v : OpenValue) → value_can_end entities d quote v ≡ false → value_good entities d v ≡ false
value_not_good entities d quote in_text e = cc
value_not_good entities d quote (in_reference r) e = refl
value_not_good entities d quote (in_fixed value) e = fixed_not_good entities d quote value d.presence refl e
value_not_good entities d quote (in_choice word spaced) e = choice_not_good d.kind word spaced e
value_not_good entities d quote (in_words inside one) e = cc
