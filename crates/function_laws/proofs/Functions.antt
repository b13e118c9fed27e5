-- What the functions of PHP give.
use Rattle.std.proofs.Common.{◌≡◌, ◌≤◌, ◌<◌, ◌^◌, ℕ, zero, suc, ◌+◌, ◌-◌, ℤ, pos, negsuc, Bool, true, false, not, ◌&&◌, ◌||◌, if◌then◌else◌, List, [], ◌∷◌, ◌++◌, length, Result, Ok, Err, refl, sym, ap, subst, arith, ◌∙◌, length-append}
use Rattle.std.specs.Prelude.{All, Contains, nat_abs, nat_eq}
use Rattle.std.specs.Str.{is_utf8}
use Rattle.std.proofs.lemmas.List.Elements.{All-nil, All-head, All-tail, All-cons}
use Rattle.std.proofs.lemmas.Bool.{lt-ltb}
use Rattle.string_functions.specs.Html.{html_of}
use Rattle.string_functions.specs.Cut.{part_of, IsFactor}
use Rattle.string_functions.specs.Pieces.{pieces_of, join_of, replaced_text, in_first, pieces_past}
use Rattle.string_functions.specs.Copies.{copies_of}
use Rattle.string_functions.specs.Case.{lower_of, upper_of, first_upper_of}
use Rattle.string_functions.specs.Trim.{trim_of}
use Rattle.string_functions.specs.Breaks.{breaks_of}
use Rattle.string_functions.specs.Url.{url_of, raw_url_of}
use Rattle.string_functions.specs.Slashes.{slashes_of}
use Rattle.string_functions.proofs.Members.{Contains-head, Contains-later}
use Rattle.plain_values.specs.Plain.{Plain, int_key, null, flag, int, text, array, keys, deepest}
use Rattle.plain_values.specs.Outcome.{go_on}
use Rattle.plain_values.specs.Text.{text_of}
use Rattle.plain_values.specs.Arithmetic.{number_of, in_64_bits, integer}
use Rattle.plain_values.specs.Members.{within_length}
use Rattle.plain_values.specs.Walks.{count_of, is_array, is_text}
use Rattle.plain_values.specs.Lawful.{IsValue, HasValues}
use Rattle.plain_values.specs.declared.fault.Fault.{Fault}
use Rattle.plain_values.specs.declared.fault.Fault.TheVariants.{NotUtf8}
use Rattle.builtin_meaning.specs.Arguments.{as_text, as_array, as_optional_number}
use Rattle.builtin_meaning.specs.declared.builtin.Builtin.{Builtin}
use Rattle.builtin_meaning.specs.declared.builtin.Builtin.TheVariants as builtin
use Rattle.builtin_meaning.specs.Values.{of_text, escaped, replaced, cut, numbered_from, pieces_at, exploded, member_texts, imploded, copies_at, repeated, length_of, value_of_one, value_of_two, value_of_three, builtin_value}
use Rattle.function_laws.proofs.Texts.{text_value, flag_value, text_short, within_value}
use Rattle.std.specs.List.{list_any, starts_with}
use Rattle.std.specs.Ordering.{int_eq, int_cmp, is_eq}
use Rattle.std.specs.declared.cmp.Ordering.{Ordering}
use Rattle.std.specs.declared.cmp.Ordering.TheVariants.{Less, Equal, Greater}
use Rattle.std.proofs.lemmas.Map.Lookups.{exact_signed}
use Rattle.string_functions.proofs.JoinLaws.{IsFactor-pieces_of}
use Rattle.plain_values.specs.Keys.{same_key, is_absent, are_distinct}
use Rattle.function_laws.proofs.Arrays.{HasPairs, no_pairs}
use Rattle.function_laws.proofs.Numbers.{range_64, integer_value, quotient_value, intval_value}

-- whatever goes on after a part that may fault
pub after : {A : Type 0} (r : Result A Fault) (go : A → Result Plain Fault) (v : Plain) → ((x : A) → r ≡ Ok x → go x ≡ Ok v → IsValue v) → go_on r go ≡ Ok v → IsValue v
after (Err f) go v h e = cc
after (Ok x) go v h e = h x refl e

text_function : (f : List ℕ → List ℕ) (a v : Plain) → of_text f a ≡ Ok v → IsValue v
text_function f a v e = after (as_text a) (λ t. within_length (f t)) v (λ t i g. within_value (f t) v g) e

escaped_value : (a v : Plain) → escaped a ≡ Ok v → IsValue v
escaped_value a v e = after (as_text a) (λ t. if is_utf8 t then within_length (html_of t) else Err NotUtf8) v (λ t i g. by t (is_utf8 t) g) e
  where
    by : (t : List ℕ) (b : Bool) → (if b then within_length (html_of t) else Err NotUtf8) ≡ Ok v → IsValue v
    by t true g = within_value (html_of t) v g
    by t false g = cc

replaced_value : (a b c v : Plain) → replaced a b c ≡ Ok v → IsValue v
replaced_value a b c v e =
    after (as_text a) (λ old. go_on (as_text b) (λ new. go_on (as_text c) (λ t. within_length (replaced_text old new t)))) v (λ old i g.
    after (as_text b) (λ new. go_on (as_text c) (λ t. within_length (replaced_text old new t))) v (λ new j h.
    after (as_text c) (λ t. within_length (replaced_text old new t)) v (λ t k m. within_value (replaced_text old new t) v m) h) g) e

cut_value : (a b c v : Plain) → cut a b c ≡ Ok v → IsValue v
cut_value a b c v e =
    after (as_text a) (λ t. go_on (number_of b) (λ from. go_on (as_optional_number c) (λ n. within_length (part_of t from n)))) v (λ t i g.
    after (number_of b) (λ from. go_on (as_optional_number c) (λ n. within_length (part_of t from n))) v (λ from j h.
    after (as_optional_number c) (λ n. within_length (part_of t from n)) v (λ n k m. within_value (part_of t from n) v m) h) g) e

imploded_value : (a b v : Plain) → imploded a b ≡ Ok v → IsValue v
imploded_value a b v e =
    after (as_text a) (λ sep. go_on (as_array b) (λ ps. within_length (join_of sep (member_texts ps)))) v (λ sep i g.
    after (as_array b) (λ ps. within_length (join_of sep (member_texts ps))) v (λ ps j h. within_value (join_of sep (member_texts ps)) v h) g) e

copies_value : (t : List ℕ) (n : ℤ) (v : Plain) → copies_at t n ≡ Ok v → IsValue v
copies_value t (pos n) v e = within_value (copies_of n t) v e
copies_value t (negsuc n) v e = cc

repeated_value : (a b v : Plain) → repeated a b ≡ Ok v → IsValue v
repeated_value a b v e = after (as_text a) (λ t. go_on (number_of b) (copies_at t)) v (λ t i g. after (number_of b) (copies_at t) v (λ n j h. copies_value t n v h) g) e

length_value : (a v : Plain) → length_of a ≡ Ok v → IsValue v
length_value a v e = after (as_text a) (λ t. integer (in_64_bits (pos (length t)))) v (λ t i g. integer_value (in_64_bits (pos (length t))) v (λ z k. range_64 (pos (length t)) z k) g) e

count_value : (a v : Plain) → count_of a ≡ Ok v → IsValue v
count_value null v e = cc
count_value (flag b) v e = cc
count_value (int z) v e = cc
count_value (text t) v e = cc
count_value (array ps) v e = integer_value (in_64_bits (pos (length (keys ps)))) v (λ z k. range_64 (pos (length (keys ps))) z k) e

-- texts of values are short
as_text_short : (a : Plain) (t : List ℕ) → HasValues a → as_text a ≡ Ok t → length t ≤ 16777216
as_text_short null t h e = let is : t ≡ text_of null = cc in subst (λ (t : List ℕ). length t ≤ 16777216) (sym is) (omega arith)
as_text_short (flag b) t h e = let is : t ≡ text_of (flag b) = cc in subst (λ (t : List ℕ). length t ≤ 16777216) (sym is) (text_short (flag b) h)
as_text_short (int z) t h e = let is : t ≡ text_of (int z) = cc in subst (λ (t : List ℕ). length t ≤ 16777216) (sym is) (text_short (int z) h)
as_text_short (text s) t h e = let is : t ≡ s = cc in subst (λ (t : List ℕ). length t ≤ 16777216) (sym is) h
as_text_short (array ps) t h e = cc

part_short : (t part : List ℕ) → IsFactor t part → length part ≤ length t
part_short t part f = omega (arith, ap length f.whole, length-append f.before (part ++ f.after), length-append part f.after)

count_first : (b : ℕ) (ps : List (List ℕ)) → length (in_first b ps) ≤ length ps + 1
count_first b [] = omega arith
count_first b (p ∷ ps) = omega arith

count_past : (sep : List ℕ) (left : ℕ) (t : List ℕ) → length (pieces_past sep left t) ≤ length t + 1
count_past sep left [] = omega arith
count_past sep (suc left) (b ∷ rest) = omega (arith, count_past sep left rest)
count_past sep zero (b ∷ rest) = by (count_past sep (length sep - 1) rest) (count_past sep 0 rest) (starts_with nat_eq (b ∷ rest) sep)
  where
    by : length (pieces_past sep (length sep - 1) rest) ≤ length rest + 1 → length (pieces_past sep 0 rest) ≤ length rest + 1 → (c : Bool)
        → length (if c then [] ∷ pieces_past sep (length sep - 1) rest else in_first b (pieces_past sep 0 rest)) ≤ suc (length rest) + 1
    by past next true = omega (arith, past)
    by past next false = omega (arith, next, count_first b (pieces_past sep 0 rest))

count_pieces : (sep t : List ℕ) → length (pieces_of sep t) ≤ length t + 1
count_pieces [] t = omega arith
count_pieces (c ∷ sep) t = count_past (c ∷ sep) 0 t

int_same : (a b : ℤ) → int_eq a b ≡ true → a ≡ b
int_same a b h = exact_signed a b (equal_if (int_cmp a b) h)
  where
    equal_if : (o : Ordering) → is_eq o ≡ true → o ≡ Equal
    equal_if Less e = cc
    equal_if Equal e = refl
    equal_if Greater e = cc

other_number : (m n : ℕ) → n < m → int_eq (pos m) (pos n) ≡ false
other_number m n l = by (int_eq (pos m) (pos n)) refl
  where
    by : (b : Bool) → int_eq (pos m) (pos n) ≡ b → b ≡ false
    by false e = refl
    by true e = let same : m ≡ n = ap (λ (z : ℤ). nat_abs z) (int_same (pos m) (pos n) e) in absurd (omega (arith, l, same))

absent_before : (n m : ℕ) (ts : List (List ℕ)) → n < m → is_absent (keys (numbered_from m ts)) (int_key (pos n)) ≡ true
absent_before n m [] l = refl
absent_before n m (t ∷ ts) l =
    ap (λ (b : Bool). not (b || list_any (λ j. same_key j (int_key (pos n))) (keys (numbered_from (m + 1) ts)))) (other_number m n l) ∙ absent_before n (m + 1) ts (omega (arith, l))

numbered_has : (n : ℕ) (ts : List (List ℕ)) → n + length ts ≤ 2 ^ 63 → All (λ (t : List ℕ). length t ≤ 16777216) ts → HasPairs (numbered_from n ts)
numbered_has n [] l h = no_pairs
numbered_has n (t ∷ ts) l h =
    let rest = numbered_has (n + 1) ts (omega (arith, l)) (All-tail (λ (t : List ℕ). length t ≤ 16777216) t ts h) in
    record {
      distinct = ap (λ (b : Bool). b && are_distinct (keys (numbered_from (n + 1) ts))) (absent_before n (n + 1) ts (omega arith)) ∙ rest.distinct;
      pairs = (lt-ltb n (2 ^ 63) (omega (arith, l)), All-head (λ (t : List ℕ). length t ≤ 16777216) t ts h, rest.pairs);
    }

numbered_flat : (n : ℕ) (ts : List (List ℕ)) → deepest (numbered_from n ts) ≡ 0
numbered_flat n [] = refl
numbered_flat n (t ∷ ts) = omega (arith, numbered_flat (n + 1) ts)

all_of : {X : Type 0} (P : X → Type 0) (xs : List X) → ((x : X) → Contains xs x → P x) → All P xs
all_of P [] h = All-nil P
all_of P (x ∷ xs) h = All-cons P x xs (h x (Contains-head x xs)) (all_of P xs (λ y i. h y (Contains-later x xs y i)))

all_short : (sep t : List ℕ) → length t ≤ 16777216 → All (λ (t : List ℕ). length t ≤ 16777216) (pieces_of sep t)
all_short sep t l = all_of (λ (t : List ℕ). length t ≤ 16777216) (pieces_of sep t) (λ piece i. omega (arith, part_short t piece (IsFactor-pieces_of sep t piece i), l))

pieces_value : (sep t : List ℕ) (v : Plain) → length t ≤ 16777216 → pieces_at sep t ≡ Ok v → IsValue v
pieces_value [] t v l e = cc
pieces_value (b ∷ sep) t v l e =
    let ts = pieces_of (b ∷ sep) t in
    let is : v ≡ array (numbered_from 0 ts) = cc in
    let short : All (λ (t : List ℕ). length t ≤ 16777216) ts = all_short (b ∷ sep) t l in
    let has = numbered_has 0 ts (omega (arith, count_pieces (b ∷ sep) t, l)) short in
    subst IsValue (sym is) (record { parts = (has.distinct, has.pairs); shallow = omega (arith, numbered_flat 0 ts) })

pub exploded_value : (a b v : Plain) → HasValues b → exploded a b ≡ Ok v → IsValue v
exploded_value a b v h e =
    after (as_text a) (λ sep. go_on (as_text b) (pieces_at sep)) v (λ sep i g. after (as_text b) (pieces_at sep) v (λ t j k. pieces_value sep t v (as_text_short b t h j) k) g) e

one_value : (f : Builtin) (a v : Plain) → IsValue a → value_of_one f a ≡ Ok v → IsValue v
one_value builtin.Htmlspecialchars a v h e = escaped_value a v e
one_value builtin.StrReplace a v h e = cc
one_value builtin.Substr a v h e = cc
one_value builtin.Strtolower a v h e = text_function lower_of a v e
one_value builtin.Strtoupper a v h e = text_function upper_of a v e
one_value builtin.Ucfirst a v h e = text_function first_upper_of a v e
one_value builtin.Trim a v h e = text_function (trim_of true true) a v e
one_value builtin.Ltrim a v h e = text_function (trim_of true false) a v e
one_value builtin.Rtrim a v h e = text_function (trim_of false true) a v e
one_value builtin.Nl2br a v h e = text_function breaks_of a v e
one_value builtin.Urlencode a v h e = text_function url_of a v e
one_value builtin.Rawurlencode a v h e = text_function raw_url_of a v e
one_value builtin.Addslashes a v h e = text_function slashes_of a v e
one_value builtin.Explode a v h e = cc
one_value builtin.Implode a v h e = cc
one_value builtin.StrRepeat a v h e = cc
one_value builtin.Strlen a v h e = length_value a v e
one_value builtin.Count a v h e = count_value a v e
one_value builtin.Intval a v h e = intval_value a v h.parts e
one_value builtin.Intdiv a v h e = cc
one_value builtin.Strval a v h e = let is : v ≡ text (text_of a) = cc in subst IsValue (sym is) (text_value (text_of a) (text_short a h.parts))
one_value builtin.IsArray a v h e = let is : v ≡ flag (is_array a) = cc in subst IsValue (sym is) (flag_value (is_array a))
one_value builtin.IsString a v h e = let is : v ≡ flag (is_text a) = cc in subst IsValue (sym is) (flag_value (is_text a))

two_value : (f : Builtin) (a b v : Plain) → IsValue a → IsValue b → value_of_two f a b ≡ Ok v → IsValue v
two_value builtin.Htmlspecialchars a b v h g e = cc
two_value builtin.StrReplace a b v h g e = cc
two_value builtin.Substr a b v h g e = cut_value a b null v e
two_value builtin.Strtolower a b v h g e = cc
two_value builtin.Strtoupper a b v h g e = cc
two_value builtin.Ucfirst a b v h g e = cc
two_value builtin.Trim a b v h g e = cc
two_value builtin.Ltrim a b v h g e = cc
two_value builtin.Rtrim a b v h g e = cc
two_value builtin.Nl2br a b v h g e = cc
two_value builtin.Urlencode a b v h g e = cc
two_value builtin.Rawurlencode a b v h g e = cc
two_value builtin.Addslashes a b v h g e = cc
two_value builtin.Explode a b v h g e = exploded_value a b v g.parts e
two_value builtin.Implode a b v h g e = imploded_value a b v e
two_value builtin.StrRepeat a b v h g e = repeated_value a b v e
two_value builtin.Strlen a b v h g e = cc
two_value builtin.Count a b v h g e = cc
two_value builtin.Intval a b v h g e = cc
two_value builtin.Intdiv a b v h g e = quotient_value a b v e
two_value builtin.Strval a b v h g e = cc
two_value builtin.IsArray a b v h g e = cc
two_value builtin.IsString a b v h g e = cc

three_value : (f : Builtin) (a b c v : Plain) → value_of_three f a b c ≡ Ok v → IsValue v
three_value builtin.Htmlspecialchars a b c v e = cc
three_value builtin.StrReplace a b c v e = replaced_value a b c v e
three_value builtin.Substr a b c v e = cut_value a b c v e
three_value builtin.Strtolower a b c v e = cc
three_value builtin.Strtoupper a b c v e = cc
three_value builtin.Ucfirst a b c v e = cc
three_value builtin.Trim a b c v e = cc
three_value builtin.Ltrim a b c v e = cc
three_value builtin.Rtrim a b c v e = cc
three_value builtin.Nl2br a b c v e = cc
three_value builtin.Urlencode a b c v e = cc
three_value builtin.Rawurlencode a b c v e = cc
three_value builtin.Addslashes a b c v e = cc
three_value builtin.Explode a b c v e = cc
three_value builtin.Implode a b c v e = cc
three_value builtin.StrRepeat a b c v e = cc
three_value builtin.Strlen a b c v e = cc
three_value builtin.Count a b c v e = cc
three_value builtin.Intval a b c v e = cc
three_value builtin.Intdiv a b c v e = cc
three_value builtin.Strval a b c v e = cc
three_value builtin.IsArray a b c v e = cc
three_value builtin.IsString a b c v e = cc

pub function_value : (f : Builtin) (args : List Plain) (v : Plain) → All IsValue args → builtin_value f args ≡ Ok v → IsValue v
function_value f [] v h e = cc
function_value f (a ∷ []) v h e = one_value f a v (All-head IsValue a [] h) e
function_value f (a ∷ b ∷ []) v h e = two_value f a b v (All-head IsValue a (b ∷ []) h) (All-head IsValue b [] (All-tail IsValue a (b ∷ []) h)) e
function_value f (a ∷ b ∷ c ∷ []) v h e = three_value f a b c v e
function_value f (a ∷ b ∷ c ∷ d ∷ more) v h e = cc
