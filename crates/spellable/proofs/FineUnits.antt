-- Templates as the lexical grammar gives them read names by keys.
use Rattle.std.proofs.Common.{◌≡◌, ℕ, zero, suc, ◌+◌, ◌≤◌, pos, Bool, true, false, ◌&&◌, ◌||◌, if◌then◌else◌, List, [], ◌∷◌, length, take, drop, pred, refl, arith, Option, Some, None}
use Rattle.std.specs.Prelude.{◌==◌, nat_lt, codes}
use Rattle.std.proofs.lemmas.Bool.Decides.{nat_tests}
use Rattle.php_syntax.specs.Tokens.{PlainKey, text_key, int_key, var_key, PlainPart, plain_part, read_part}
use Rattle.lexical_grammar.specs.Characters.{begins, head_is, is_high, name_length, digits_length, value_of, largest}
use Rattle.lexical_grammar.specs.Words.{has_leading_zero}
use Rattle.lexical_grammar.specs.Rows.{Found, item, wrong, over, missing, Row, whole, broken, endless, row, then_row, taken}
use Rattle.lexical_grammar.specs.Texts.{KeyAt, integer_key, variable_key, or_key, simple_key, braced_key, single_quoted, text_key_of, closed_key, subscript_found, subscript_at, subscripts, whole_of, Enclosure, in_quotes, Unit_of, byte, reads, escape_at, simple_read, named_at, dollar_at, brace_at, braced_read, end_of, quotes, lines, unit_at, with_byte, parts_of, kind_of_parts}
use Rattle.lexical_grammar.specs.Spelled.{IsName}
use Rattle.spellable.proofs.CutRead.{IsKey, AreKeys}
use Rattle.spellable.proofs.FineNames.{IsKind, EachPart, name_taken, more_than_none, both_of}

-- what is found at one place has a property
abbrev IsFound : {X : Type 0} → (X → Type 0) → Found X → Type 0
IsFound P (item x n) = P x
IsFound P (wrong n) = Unit {0}
IsFound P (over n) = Unit {0}
IsFound P missing = Unit {0}

abbrev EachOf : {X : Type 0} → (X → Type 0) → List X → Type 0
EachOf P [] = Unit {0}
EachOf P (x ∷ xs) = P x × EachOf P xs

abbrev IsRow : {X : Type 0} → (X → Type 0) → Row X → Type 0
IsRow P (whole xs n) = EachOf P xs
IsRow P (broken n) = Unit {0}
IsRow P endless = Unit {0}

then_row_is : {X : Type 0} (P : X → Type 0) (f : Found X) (r : Row X) → IsFound P f → IsRow P r → IsRow P (then_row f r)
then_row_is P (item x n) (whole xs m) f g = (f, g)
then_row_is P (item x n) (broken m) f g = tt
then_row_is P (item x n) endless f g = tt
then_row_is P (wrong n) (whole xs m) f g = tt
then_row_is P (wrong n) (broken m) f g = tt
then_row_is P (wrong n) endless f g = tt
then_row_is P (over n) r f g = tt
then_row_is P missing r f g = tt

row_is : {X : Type 0} (P : X → Type 0) (find : List ℕ → Found X) → ((bytes : List ℕ) → IsFound P (find bytes)) → (passed : ℕ) (bytes : List ℕ) → IsRow P (row find passed bytes)
unfolding row
row_is P find each passed [] = then_row_is P (find []) endless (each []) tt
row_is P find each zero (b ∷ bytes) = then_row_is P (find (b ∷ bytes)) (row find (pred (taken (find (b ∷ bytes)))) bytes) (each (b ∷ bytes)) (row_is P find each (pred (taken (find (b ∷ bytes)))) bytes)
row_is P find each (suc passed) (b ∷ bytes) = row_is P find each passed bytes

abbrev IsKeyAt : KeyAt → Type 0
IsKeyAt None = Unit {0}
IsKeyAt (Some k) = IsKey k.0

key_by : (t : Bool) (a b : KeyAt) → (t ≡ true → IsKeyAt a) → (t ≡ false → IsKeyAt b) → IsKeyAt (if t then a else b)
key_by true a b f g = f refl
key_by false a b f g = g refl

either_key : (a b : KeyAt) → IsKeyAt a → IsKeyAt b → IsKeyAt (or_key a b)
either_key None b f g = g
either_key (Some k) b f g = f

third_of : (a b c : Bool) → (a || b || c) ≡ false → c ≡ false
third_of false false c h = h
third_of false true c h = absurd (cc)
third_of true b c h = absurd (cc)

in_range : (n : ℕ) → nat_lt largest n ≡ false → n ≤ largest
in_range n h = grind (arith, nat_tests)

integer_key_is : (bytes : List ℕ) → IsKeyAt (integer_key bytes)
integer_key_is bytes =
    let digits = take (digits_length bytes) bytes
    in key_by (digits_length bytes == 0 || has_leading_zero digits || nat_lt largest (value_of digits)) None (Some (int_key (pos (value_of digits)), digits_length bytes)) (λ h. tt)
    (λ h. in_range (value_of digits) (third_of (digits_length bytes == 0) (has_leading_zero digits) (nat_lt largest (value_of digits)) h))

variable_key_is : (bytes : List ℕ) → IsKeyAt (variable_key bytes)
variable_key_is bytes =
    let n = name_length (drop 1 bytes)
    in key_by (begins (codes "$") bytes && nat_lt 0 n) (Some (var_key (take n (drop 1 bytes)), 1 + n)) None (λ h. name_taken (drop 1 bytes) (more_than_none n (both_of (begins (codes "$") bytes) (nat_lt 0 n) h))) (λ h. tt)

number_or_variable : (bytes : List ℕ) → IsKeyAt (or_key (integer_key bytes) (variable_key bytes))
number_or_variable bytes = either_key (integer_key bytes) (variable_key bytes) (integer_key_is bytes) (variable_key_is bytes)

simple_key_is : (bytes : List ℕ) → IsKeyAt (simple_key bytes)
unfolding simple_key
simple_key_is bytes =
    let n = name_length bytes
    in key_by (nat_lt 0 n) (Some (text_key (take n bytes), n)) (or_key (integer_key bytes) (variable_key bytes)) (λ h. tt) (λ h. number_or_variable bytes)

text_key_is : (r : Row ℕ) → IsKeyAt (text_key_of r)
text_key_is (whole bytes n) = tt
text_key_is (broken n) = tt
text_key_is endless = tt

braced_key_is : (bytes : List ℕ) → IsKeyAt (braced_key bytes)
unfolding braced_key
braced_key_is bytes = key_by (begins (codes "'") bytes) (text_key_of (single_quoted (drop 1 bytes))) (or_key (integer_key bytes) (variable_key bytes)) (λ h. text_key_is (single_quoted (drop 1 bytes))) (λ h. number_or_variable bytes)

closed_key_is : (k : KeyAt) (inner : List ℕ) → IsKeyAt k → IsKeyAt (closed_key k inner)
closed_key_is None inner h = tt
closed_key_is (Some k) inner h = key_by (begins (codes "]") (drop k.1 inner)) (Some (k.0, k.1 + 2)) None (λ t. h) (λ t. tt)

subscript_is : (k : KeyAt) → IsKeyAt k → IsFound IsKey (subscript_found k)
subscript_is None h = tt
subscript_is (Some k) h = h

found_by : {X : Type 0} (P : X → Type 0) (t : Bool) (a b : Found X) → (t ≡ true → IsFound P a) → (t ≡ false → IsFound P b) → IsFound P (if t then a else b)
found_by P true a b f g = f refl
found_by P false a b f g = g refl

subscript_at_is : (bytes : List ℕ) → IsFound IsKey (subscript_at bytes)
unfolding subscript_at
subscript_at_is [] = tt
subscript_at_is (b ∷ bytes) =
    found_by IsKey (b == 125) (over 1) (if b == 91 then subscript_found (closed_key (braced_key bytes) bytes) else wrong 1) (λ h. tt)
    (λ h. found_by IsKey (b == 91) (subscript_found (closed_key (braced_key bytes) bytes)) (wrong 1) (λ k. subscript_is (closed_key (braced_key bytes) bytes) (closed_key_is (braced_key bytes) bytes (braced_key_is bytes))) (λ k. tt))

keys_are : (ks : List PlainKey) → EachOf IsKey ks → AreKeys ks
keys_are [] h = tt
keys_are (k ∷ ks) h = (h.0, keys_are ks h.1)

abbrev IsUnit : Unit_of → Type 0
IsUnit (byte b) = Unit {0}
IsUnit (reads x ks) = IsName x × AreKeys ks

escape_is : (e : Enclosure) (bytes : List ℕ) → IsFound IsUnit (escape_at e bytes)
unfolding escape_at
escape_is e [] = tt
escape_is e (c ∷ rest) = by (c == 110) (c == 114) (c == 116) (c == 92) (c == 36) (c == 34 && in_quotes e)
  where
    by : (p q r s t u : Bool) → IsFound IsUnit (if p then item (byte 10) 2 else if q then item (byte 13) 2 else if r then item (byte 9) 2 else if s then item (byte 92) 2 else if t then item (byte 36) 2 else if u then item (byte 34) 2 else wrong 2)
    by true q r s t u = tt
    by false true r s t u = tt
    by false false true s t u = tt
    by false false false true t u = tt
    by false false false false true u = tt
    by false false false false false true = tt
    by false false false false false false = tt

simple_read_is : (x : List ℕ) (n : ℕ) (k : KeyAt) → IsName x → IsKeyAt k → IsFound IsUnit (simple_read x n k)
simple_read_is x n None is h = tt
simple_read_is x n (Some k) is h = (is, (h, tt))

named_is : (x rest : List ℕ) → IsName x → IsFound IsUnit (named_at x rest)
named_is x rest is =
    found_by IsUnit (begins (codes "[") rest) (simple_read x (1 + length x) (closed_key (simple_key (drop 1 rest)) (drop 1 rest))) (if begins (codes "->") rest || begins (codes "?->") rest || head_is is_high rest then wrong 1 else item (reads x []) (1 + length x))
    (λ h. simple_read_is x (1 + length x) (closed_key (simple_key (drop 1 rest)) (drop 1 rest)) is (closed_key_is (simple_key (drop 1 rest)) (drop 1 rest) (simple_key_is (drop 1 rest))))
    (λ h. found_by IsUnit (begins (codes "->") rest || begins (codes "?->") rest || head_is is_high rest) (wrong 1) (item (reads x []) (1 + length x)) (λ k. tt) (λ k. (is, tt)))

dollar_is : (bytes : List ℕ) → IsFound IsUnit (dollar_at bytes)
unfolding dollar_at
dollar_is bytes =
    let n = name_length bytes
    in found_by IsUnit (nat_lt 0 n) (named_at (take n bytes) (drop n bytes)) (if head_is (λ b. is_high b || b == 123) bytes then wrong 1 else item (byte 36) 1)
    (λ h. named_is (take n bytes) (drop n bytes) (name_taken bytes (more_than_none n h)))
    (λ h. found_by IsUnit (head_is (λ b. is_high b || b == 123) bytes) (wrong 1) (item (byte 36) 1) (λ k. tt) (λ k. tt))

abbrev AreSubscripts : Option (List PlainKey × ℕ) → Type 0
AreSubscripts None = Unit {0}
AreSubscripts (Some ks) = AreKeys ks.0

whole_is : (r : Row PlainKey) → IsRow IsKey r → AreSubscripts (whole_of r)
whole_is (whole ks n) h = keys_are ks h
whole_is (broken n) h = tt
whole_is endless h = tt

subscripts_are : (bytes : List ℕ) → AreSubscripts (subscripts bytes)
unfolding subscripts
subscripts_are bytes = whole_is (row subscript_at 0 bytes) (row_is IsKey subscript_at subscript_at_is 0 bytes)

braced_is : (x : List ℕ) (n : ℕ) (ks : Option (List PlainKey × ℕ)) → IsName x → AreSubscripts ks → IsFound IsUnit (braced_read x n ks)
braced_is x n None is h = tt
braced_is x n (Some ks) is h = (is, h)

brace_is : (bytes : List ℕ) → IsFound IsUnit (brace_at bytes)
unfolding brace_at
brace_is bytes =
    let n = name_length (drop 1 bytes)
    in found_by IsUnit (nat_lt 0 n) (braced_read (take n (drop 1 bytes)) (2 + n) (subscripts (drop n (drop 1 bytes)))) (wrong 1)
    (λ h. braced_is (take n (drop 1 bytes)) (2 + n) (subscripts (drop n (drop 1 bytes))) (name_taken (drop 1 bytes) (more_than_none n h)) (subscripts_are (drop n (drop 1 bytes)))) (λ h. tt)

end_is : (e : Enclosure) → IsFound IsUnit (end_of e)
end_is quotes = tt
end_is lines = tt

unit_is : (e : Enclosure) (bytes : List ℕ) → IsFound IsUnit (unit_at e bytes)
unfolding unit_at
unit_is e [] = end_is e
unit_is e (b ∷ bytes) = by (b == 34 && in_quotes e) (b == 92) (b == 36) (b == 123 && begins (codes "$") bytes)
  where
    by : (p q r s : Bool) → IsFound IsUnit (if p then over 1 else if q then escape_at e bytes else if r then dollar_at bytes else if s then brace_at bytes else item (byte b) 1)
    by true q r s = tt
    by false true r s = escape_is e bytes
    by false false true s = dollar_is bytes
    by false false false true = brace_is bytes
    by false false false false = tt

with_byte_is : (b : ℕ) (ps : List PlainPart) → EachPart ps → EachPart (with_byte b ps)
with_byte_is b [] h = (tt, tt)
with_byte_is b (plain_part t ∷ ps) h = (tt, h.1)
with_byte_is b (read_part x ks ∷ ps) h = (tt, h)

parts_are : (us : List Unit_of) → EachOf IsUnit us → EachPart (parts_of us)
parts_are [] h = tt
parts_are (byte b ∷ us) h = with_byte_is b (parts_of us) (parts_are us h.1)
parts_are (reads x ks ∷ us) h = (h.0, parts_are us h.1)

kind_is : (ps : List PlainPart) → EachPart ps → IsKind (kind_of_parts ps)
kind_is [] h = tt
kind_is (plain_part t ∷ []) h = tt
kind_is (plain_part t ∷ p ∷ ps) h = (h, tt)
kind_is (read_part x ks ∷ ps) h = (h, tt)

-- what a row of units gives
abbrev pub IsTemplate : Row Unit_of → Type 0
IsTemplate (whole us n) = IsKind (kind_of_parts (parts_of us))
IsTemplate (broken n) = Unit {0}
IsTemplate endless = Unit {0}

template_of : (r : Row Unit_of) → IsRow IsUnit r → IsTemplate r
template_of (whole us n) h = kind_is (parts_of us) (parts_are us h)
template_of (broken n) h = tt
template_of endless h = tt

pub template_is : (e : Enclosure) (bytes : List ℕ) → IsTemplate (row (unit_at e) 0 bytes)
template_is e bytes = template_of (row (unit_at e) 0 bytes) (row_is IsUnit (unit_at e) (unit_is e) 0 bytes)
