-- A name as it is written is printable.
use Rattle.std.proofs.Common.{◌≡◌, ◌≤◌, ◌<◌, ◌+◌, ◌++◌, ◌||◌, ◌&&◌, ◌==◌, ◌/◌, ◌%◌, ◌∙◌, ap, ap₂, ℕ, zero, suc, Bool, true, false, List, [], ◌∷◌, Option, Some, None, All, length, take, drop, refl, sym, subst, arith, ltb-true, if◌then◌else◌}
use Rattle.std.specs.Prelude.{bytes_eq, slice_index, nat_lt}
use Rattle.std.specs.List.{list_all}
use Rattle.std.specs.Char.{encode_utf8}
use Rattle.std.specs.Str.{encode_utf8_all, chars}
use Rattle.std.proofs.lemmas.Option.{same_Some}
use Rattle.std.proofs.lemmas.List.{append-nil, length-drop}
use Rattle.std.proofs.lemmas.List.Elements.{All-drop, All-take}
use Rattle.std.proofs.lemmas.List.Folds.{list_all-append}
use Rattle.std.proofs.lemmas.Slice.Eq.{bytes_eq-Decides}
use Rattle.std.proofs.lemmas.Str.{encodes-append, encode_ascii}
use Rattle.hex.specs.Hex.{encode_with, lower_digits}
use Rattle.xml_text.specs.Characters.{is_character}
use Rattle.character_steps.specs.Bytes.{decoded, only}
use Rattle.phpsa_texts.specs.Shown.{is_plain, is_written, more_of, begins_plain, escaped, shown_behind, shown_name, IsPrintable}
use Rattle.phpsa_texts.specs.declared.shown.TheConstants.{NAME_LIMIT}

-- a character that may stand in what is written
abbrev stands : ℕ → Bool
stands c = is_character c && (is_plain c || c == 92)

-- the bytes are the UTF-8 of one character
only_is : (cs bytes : List ℕ) (c : ℕ) → only cs bytes ≡ Some c → (is_character c ≡ true) × (encode_utf8 c ≡ bytes)
only_is [] bytes c e = cc
only_is (d ∷ d' ∷ ds) bytes c e = cc
only_is (d ∷ []) bytes c e = by (is_character d) (bytes_eq (encode_utf8 d) bytes) refl refl e
  where
    by : (x y : Bool) → is_character d ≡ x → bytes_eq (encode_utf8 d) bytes ≡ y → (if x && y then Some d else None) ≡ Some c → (is_character c ≡ true) × (encode_utf8 c ≡ bytes)
    by true true h k f =
        let same = same_Some d c f in
        (subst (λ x. is_character x ≡ true) same h, subst (λ x. encode_utf8 x ≡ bytes) same ((bytes_eq-Decides (encode_utf8 d) bytes).0 k))
    by true false h k f = cc
    by false y h k f = cc

decoded_is : (bytes : List ℕ) (c : ℕ) → decoded bytes ≡ Some c → (is_character c ≡ true) × (encode_utf8 c ≡ bytes)
unfolding decoded
decoded_is bytes c e = only_is (chars bytes) bytes c e

both : (a b : Bool) → (a && b) ≡ true → (a ≡ true) × (b ≡ true)
both true b e = (refl, e)
both false b e = cc

-- what is printable, and what stands behind it
abbrev Printed : List ℕ → Type 0
Printed text = (cs : List ℕ) × (list_all stands cs ≡ true) × (encode_utf8_all cs ≡ text)

joined : (xs ys : List ℕ) → Printed xs → Printed ys → Printed (xs ++ ys)
joined xs ys (cs, good, is) (ds, good', is') =
    (cs ++ ds, list_all-append stands cs ds ∙ ap₂ (λ (a b : Bool). a && b) good good', encodes-append cs ds ∙ ap₂ (λ (a b : List ℕ). a ++ b) is is')

one : (c : ℕ) (bytes : List ℕ) → stands c ≡ true → encode_utf8 c ≡ bytes → Printed bytes
one c bytes good is = (c ∷ [], rw good refl, append-nil (encode_utf8 c) ∙ is)

at_place : (p : ℕ → Bool) (xs : List ℕ) (i : ℕ) → list_all p xs ≡ true → i < length xs → p (slice_index xs i) ≡ true
at_place p [] i e few = absurd (omega (arith, few))
at_place p (x ∷ xs) zero e few = (both (p x) _ e).0
at_place p (x ∷ xs) (suc i) e few = at_place p xs i (both (p x) _ e).1 (omega (arith, few))

-- one of ASCII
one_low : (c : ℕ) → (stands c && nat_lt c 128) ≡ true → Printed (c ∷ [])
one_low c e = let p = both (stands c) _ e in one c (c ∷ []) p.0 (encode_ascii c (ltb-true c 128 p.1))

digit : (i : ℕ) → i < 16 → Printed (slice_index lower_digits i ∷ [])
digit i few = one_low (slice_index lower_digits i) (at_place (λ c. stands c && nat_lt c 128) lower_digits i refl few)

escaped_is : (byte : ℕ) → byte < 256 → Printed (escaped byte)
unfolding encode_with
escaped_is byte small =
    joined (92 ∷ []) (120 ∷ slice_index lower_digits (byte / 16) ∷ slice_index lower_digits (byte % 16) ∷ []) (one_low 92 refl)
    (joined (120 ∷ []) (slice_index lower_digits (byte / 16) ∷ slice_index lower_digits (byte % 16) ∷ []) (one_low 120 refl)
    (joined (slice_index lower_digits (byte / 16) ∷ []) (slice_index lower_digits (byte % 16) ∷ []) (digit (byte / 16) (omega (arith, small)))
    (digit (byte % 16) (omega arith))))

-- so many bytes stay
stays : (more : ℕ) (bytes : List ℕ) → shown_behind more bytes ≡ take more bytes ++ shown_behind 0 (drop more bytes)
stays zero bytes = refl
stays (suc more) [] = refl
stays (suc more) (byte ∷ bytes) = ap (λ (rest : List ℕ). byte ∷ rest) (stays more bytes)

-- a character that is written as it is
plain_one : (bytes : List ℕ) (c : Option ℕ) → decoded bytes ≡ c → is_written c ≡ true → Printed bytes
plain_one bytes None e w = cc
plain_one bytes (Some c) e w =
    let is = decoded_is bytes c e in
    one c bytes (rw (is.0, w) refl) is.1

later : (byte : ℕ) (bytes : List ℕ) → All (λ b. b < 256) (byte ∷ bytes) → All (λ b. b < 256) bytes
later byte bytes small k d few = small (suc k) d (omega (arith, few))

shown_all : (n : ℕ) (bytes : List ℕ) → length bytes ≤ n → All (λ byte. byte < 256) bytes → Printed (shown_behind 0 bytes)
shown_all n [] few small = ([], refl, refl)
shown_all zero (byte ∷ bytes) few small = absurd (omega (arith, few))
shown_all (suc n) (byte ∷ bytes) few small =
    by (begins_plain (byte ∷ bytes)) refl
    (shown_all n (drop (more_of byte) bytes) (omega (arith, few, length-drop (more_of byte) bytes)) (All-drop (λ b. b < 256) (more_of byte) bytes (later byte bytes small)))
    (shown_all n bytes (omega (arith, few)) (later byte bytes small))
  where
    by : (t : Bool) → begins_plain (byte ∷ bytes) ≡ t → Printed (shown_behind 0 (drop (more_of byte) bytes)) → Printed (shown_behind 0 bytes) → Printed (shown_behind 0 (byte ∷ bytes))
    by true e behind rest =
        subst Printed (sym ((rw e refl) ∙ ap (λ (more : List ℕ). byte ∷ more) (stays (more_of byte) bytes)))
        (joined (byte ∷ take (more_of byte) bytes) (shown_behind 0 (drop (more_of byte) bytes)) (plain_one (byte ∷ take (more_of byte) bytes) (decoded (byte ∷ take (more_of byte) bytes)) refl e) behind)
    by false e behind rest = subst Printed (sym (rw e refl)) (joined (escaped byte) (shown_behind 0 bytes) (escaped_is byte (small 0 0 (omega arith))) rest)

-- what is written of a name is printable
pub printable : (name : List ℕ) → All (λ byte. byte < 256) name → IsPrintable (shown_name name)
unfolding shown_name IsPrintable
printable name small = shown_all (length (take NAME_LIMIT name)) (take NAME_LIMIT name) (omega arith) (All-take (λ b. b < 256) NAME_LIMIT name small)

one_more : (n : ℕ) → 1 + n ≡ suc n
one_more n = omega arith

-- whether a character that is written as it is stands at the head, by the first byte
pub begins_at : (bytes : List ℕ) → 1 ≤ length bytes → (c : Option ℕ) → decoded (take (1 + more_of (slice_index bytes 0)) bytes) ≡ c → is_written c ≡ begins_plain bytes
begins_at [] some c e = absurd (omega (arith, some))
begins_at (byte ∷ bytes) some c e = ap is_written (sym e ∙ ap (λ (n : ℕ). decoded (take n (byte ∷ bytes))) (one_more (more_of byte)))
