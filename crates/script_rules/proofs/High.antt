-- What is too high stays so in all that it is a part of.
use Rattle.std.proofs.Common.{◌≡◌, ℕ, Bool, true, false, List, [], ◌∷◌, refl, sym, ◌∙◌, ap, subst, Option, Some, None}
use Rattle.std.specs.Prelude.{◌||◌, slice_get}
use Rattle.lr_tables.specs.declared.rule.Rule.{Rule}
use Rattle.lr_tables.specs.declared.event.Event as event
use Rattle.lr_tables.specs.Grammars.{onto, side, IsOnly}
use Rattle.lr_tables.specs.Values.{kinds, Has, taken, acted_on, by_rule, make}
use Rattle.lr_tables.proofs.Making.{are_made}
use Rattle.php_syntax.specs.Tokens.{PlainToken}
use Rattle.php_grammar.specs.Php.{php}
use Rattle.script_rules.specs.Parts.{Part, any_high, is_high, value_by, judge, judged}
use Rattle.script_rules.specs.Refused.{HasHighPart}
use Rattle.script_rules.proofs.Judged.{total}

some_is : {A : Type 0} {a b : A} → Some a ≡ Some b → a ≡ b
some_is e = cc

none_some : {A : Type 0} {x : A} {P : Type 0} → None ≡ Some x → P
none_some e = cc

or_first : (a b : Bool) → a ≡ true → (a || b) ≡ true
or_first a b e = ap (λ (x : Bool). x || b) e

or_second : (a b : Bool) → b ≡ true → (a || b) ≡ true
or_second true b e = refl
or_second false b e = e

or_moved : (a b c : Bool) → ((a || b) || c) ≡ (b || (a || c))
or_moved true true c = refl
or_moved true false c = refl
or_moved false true c = refl
or_moved false false c = refl

or_last : (a : Bool) → (a || false) ≡ a
or_last true = refl
or_last false = refl

-- values that are taken from a stack are as high as before
high_taken : (xs : List ℕ) (stack ps : List Part) (t : List Part × List Part) → taken xs stack ps ≡ Some t → (any_high t.0 || any_high t.1) ≡ (any_high stack || any_high ps)
high_taken [] stack ps t e = ap (λ (u : List Part × List Part). any_high u.0 || any_high u.1) (sym (some_is e)) ∙ swap (any_high ps) (any_high stack)
  where
    swap : (a b : Bool) → (a || b) ≡ (b || a)
    swap true true = refl
    swap true false = refl
    swap false true = refl
    swap false false = refl
high_taken (x ∷ xs) [] ps t e = none_some e
high_taken (x ∷ xs) (p ∷ stack) ps t e = high_taken xs stack (p ∷ ps) t e ∙ sym (or_moved p.high (any_high stack) (any_high ps))

split : (a b c : Bool) → (a || b) ≡ true → ((a || c) || b) ≡ true
split true b c e = refl
split false true true e = refl
split false true false e = refl
split false false c e = or_second c false e

-- what comes of a stack with a part that is too high has one
abbrev StaysHigh : (List PlainToken → List Part → Option (List Part)) → Type 0
StaysHigh next = (ks : List PlainToken) (stack out : List Part) → next ks stack ≡ Some out → any_high stack ≡ true → any_high out ≡ true

high_acted : (next : List PlainToken → List Part → Option (List Part)) → StaysHigh next → (ks : List PlainToken) (p : ℕ) (stack out : List Part) (xs : List ℕ) (o : Option (List Part × List Part))
    → taken xs stack [] ≡ o → acted_on php.grammar judged next p ks o ≡ Some out → any_high stack ≡ true → any_high out ≡ true
high_acted next stays ks p stack out xs None is e h = none_some e
high_acted next stays ks p stack out xs (Some t) is e h =
    stays ks (judge p t.0 ∷ t.1) out e (split (any_high t.0) (any_high t.1) (is_high (value_by p t.0)) (high_taken xs stack [] t is ∙ or_last (any_high stack) ∙ h))

high_rule : (next : List PlainToken → List Part → Option (List Part)) → StaysHigh next → (ks : List PlainToken) (p : ℕ) (stack out : List Part) (o : Option Rule)
    → by_rule php.grammar judged next p ks stack o ≡ Some out → any_high stack ≡ true → any_high out ≡ true
high_rule next stays ks p stack out None e h = none_some e
high_rule next stays ks p stack out (Some r) e h = high_acted next stays ks p stack out (onto (side r) []) (taken (onto (side r) []) stack []) refl e h

high_made : (es : List event.Event) (ks : List PlainToken) (stack out : List Part) → make php.grammar judged es ks stack ≡ Some out → any_high stack ≡ true → any_high out ≡ true
unfolding make
high_made [] ks stack out e h = ap any_high (sym (some_is e)) ∙ h
high_made (event.TheVariants.Token ∷ es) [] stack out e h = none_some e
high_made (event.TheVariants.Token ∷ es) (k ∷ ks) stack out e h = high_made es ks (judged.leaf k ∷ stack) out e h
high_made (event.TheVariants.Rule p ∷ es) ks stack out e h = high_rule (make php.grammar judged es) (high_made es) ks p stack out (slice_get php.grammar.rules p) e h

pub no_kinds : (ts : List PlainToken) → kinds judged ts ≡ [] → ts ≡ []
no_kinds [] e = refl
no_kinds (t ∷ ts) e = absurd (full e)
  where
    full : {k : ℕ} {ks : List ℕ} → k ∷ ks ≡ [] → ⊥
    full e = cc

-- where a part on the stack is too high, so is a part of the whole
pub high_stays : (tokens : List PlainToken) (es : List event.Event) → IsOnly php.grammar (kinds judged tokens) es → (left : List event.Event) (ks : List PlainToken) (stack : List Part)
    → make php.grammar judged es tokens [] ≡ make php.grammar judged left ks stack → any_high stack ≡ true → HasHighPart tokens
high_stays tokens es only left ks stack same high =
    let t = total php.grammar only.derived tokens refl in
    let has = subst (λ (ts : List PlainToken). Has php.grammar judged 0 php.grammar.start tokens ts t.part) (no_kinds t.left t.are) t.has in
    let m = are_made php.grammar judged tokens t.part has in
    let makes = sym same ∙ ap (λ (fs : List event.Event). make php.grammar judged fs tokens []) (sym (only.only m.0 m.1)) ∙ m.2 in
    record { whole = t.part; derived = has; is = sym (or_last t.part.high) ∙ high_made left ks stack (t.part ∷ []) makes high }
