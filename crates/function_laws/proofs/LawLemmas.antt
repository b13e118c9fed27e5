-- What a function that gives a text, or texts in an array, was given.
use Rattle.std.proofs.Common.{◌≡◌, ◌⊎◌, inl, inr, ℕ, ◌+◌, ℤ, Bool, true, false, if◌then◌else◌, nat_le, List, [], ◌∷◌, ◌++◌, length, Option, Some, None, Result, Ok, Err, refl, sym, ◌∙◌, ap, subst}
use Rattle.std.specs.Prelude.{Contains, IsUtf8}
use Rattle.std.specs.Str.{is_utf8}
use Rattle.std.proofs.lemmas.Str.{IsUtf8-from_is_utf8}
use Rattle.string_functions.specs.Html.{html_of}
use Rattle.string_functions.specs.Pieces.{pieces_of, replaced_text}
use Rattle.string_functions.specs.Cut.{part_of, IsFactor}
use Rattle.string_functions.proofs.EndsLaws.{IsFactor-part_of}
use Rattle.string_functions.proofs.JoinLaws.{IsFactor-pieces_of, Contains-replaced_text}
use Rattle.string_functions.proofs.Members.{Contains-head, Contains-later}
use Rattle.plain_values.specs.Plain.{Plain, PlainKey, Pairs, null, int, text, array, empty, pair}
use Rattle.plain_values.specs.Members.{within_length}
use Rattle.plain_values.specs.Outcome.{go_on}
use Rattle.plain_values.specs.Arithmetic.{number_of}
use Rattle.plain_values.specs.declared.fault.Fault.{Fault}
use Rattle.plain_values.specs.declared.fault.Fault.TheVariants.{Long, NotUtf8}
use Rattle.builtin_meaning.specs.Arguments.{as_text, as_optional_number}
use Rattle.builtin_meaning.specs.Values.{of_text, escaped, replaced, cut, exploded, pieces_at, numbered_from}
use Rattle.function_laws.specs.Members.{HasText}

within : (bs out : List ℕ) → within_length bs ≡ Ok (text out) → out ≡ bs
within bs out e = by (nat_le (length bs) 16777216) e
  where
    by : (b : Bool) → (if b then Ok (text bs) else Err Long) ≡ Ok (text out) → out ≡ bs
    by true g = cc
    by false g = cc

pub one_text : (f : List ℕ → List ℕ) (a : Plain) (t out : List ℕ) → as_text a ≡ Ok t → of_text f a ≡ Ok (text out) → out ≡ f t
one_text f a t out h e = within (f t) out (sym (ap (λ (r : Result (List ℕ) Fault). go_on r (λ t. within_length (f t))) h) ∙ e)

pub html_text : (a : Plain) (t out : List ℕ) → as_text a ≡ Ok t → escaped a ≡ Ok (text out) → IsUtf8 t × (out ≡ html_of t)
html_text a t out h e =
    by (is_utf8 t) refl (sym (ap (λ (r : Result (List ℕ) Fault). go_on r (λ t. if is_utf8 t then within_length (html_of t) else Err NotUtf8)) h) ∙ e)
  where
    by : (b : Bool) → is_utf8 t ≡ b → (if b then within_length (html_of t) else Err NotUtf8) ≡ Ok (text out) → IsUtf8 t × (out ≡ html_of t)
    by true u g = (IsUtf8-from_is_utf8 t u, within (html_of t) out g)
    by false u g = cc

pub literal_replaced : (search with : List ℕ) (a : Plain) (t out : List ℕ) → as_text a ≡ Ok t → replaced (text search) (text with) a ≡ Ok (text out) → out ≡ replaced_text search with t
literal_replaced search with a t out h e = within (replaced_text search with t) out (sym (ap (λ (r : Result (List ℕ) Fault). go_on r (λ t. within_length (replaced_text search with t))) h) ∙ e)

pub any_replaced : (a b c : Plain) (with t out : List ℕ) → as_text b ≡ Ok with → as_text c ≡ Ok t → replaced a b c ≡ Ok (text out) → (byte : ℕ) → Contains out byte → Contains t byte ⊎ Contains with byte
any_replaced a b c with t out hb hc e byte has = by (as_text a) e
  where
    by : (r : Result (List ℕ) Fault) → go_on r (λ old. go_on (as_text b) (λ new. go_on (as_text c) (λ t. within_length (replaced_text old new t)))) ≡ Ok (text out) → Contains t byte ⊎ Contains with byte
    by (Err f) g = cc
    by (Ok old) g =
        let made : out ≡ replaced_text old with t =
        within (replaced_text old with t) out
        (sym (ap (λ (r : Result (List ℕ) Fault). go_on r (λ t. within_length (replaced_text old with t))) hc)
        ∙ sym (ap (λ (r : Result (List ℕ) Fault). go_on r (λ new. go_on (as_text c) (λ t. within_length (replaced_text old new t)))) hb)
        ∙ g) in
        Contains-replaced_text old with t byte (subst (λ (o : List ℕ). Contains o byte) made has)

pub literal_cut : (a : Plain) (start : ℤ) (c : Plain) (n : Option ℤ) (t out : List ℕ) → as_text a ≡ Ok t → as_optional_number c ≡ Ok n → cut a (int start) c ≡ Ok (text out) → out ≡ part_of t start n
literal_cut a start c n t out h k e =
    within (part_of t start n) out
    (sym (ap (λ (r : Result (Option ℤ) Fault). go_on r (λ n. within_length (part_of t start n))) k)
    ∙ sym (ap (λ (r : Result (List ℕ) Fault). go_on r (λ t. go_on (as_optional_number c) (λ n. within_length (part_of t start n)))) h)
    ∙ e)

pub any_cut : (a b c : Plain) (t out : List ℕ) → as_text a ≡ Ok t → cut a b c ≡ Ok (text out) → IsFactor t out
any_cut a b c t out h e =
    start (number_of b) (sym (ap (λ (r : Result (List ℕ) Fault). go_on r (λ t. go_on (number_of b) (λ from. go_on (as_optional_number c) (λ n. within_length (part_of t from n))))) h) ∙ e)
  where
    len : (from : ℤ) (r : Result (Option ℤ) Fault) → go_on r (λ n. within_length (part_of t from n)) ≡ Ok (text out) → IsFactor t out
    len from (Err f) g = cc
    len from (Ok n) g = subst (λ (o : List ℕ). IsFactor t o) (sym (within (part_of t from n) out g)) (IsFactor-part_of t from n)

    start : (r : Result ℤ Fault) → go_on r (λ from. go_on (as_optional_number c) (λ n. within_length (part_of t from n))) ≡ Ok (text out) → IsFactor t out
    start (Err f) g = cc
    start (Ok from) g = len from (as_optional_number c) g

same_text : (s t : List ℕ) → text s ≡ text t → s ≡ t
same_text s t e = cc

same_array : (ps qs : Pairs) → array ps ≡ array qs → ps ≡ qs
same_array ps qs e = cc

ok_plain : (v w : Plain) (r : Result Plain Fault) → r ≡ Ok v → r ≡ Ok w → v ≡ w
ok_plain v w r e f = cc

listed : (n : ℕ) (ts : List (List ℕ)) (out : List ℕ) → HasText (numbered_from n ts) out → Contains ts out
listed n [] out h = absurd h
listed n (t ∷ ts) out (inl e) = subst (λ (o : List ℕ). Contains (t ∷ ts) o) (same_text t out e) (Contains-head t ts)
listed n (t ∷ ts) out (inr h) = Contains-later t ts out (listed (n + 1) ts out h)

pieces : (sep t : List ℕ) (ps : Pairs) → pieces_at sep t ≡ Ok (array ps) → (out : List ℕ) → HasText ps out → Contains (pieces_of sep t) out
pieces [] t ps e out h = cc
pieces (b ∷ sep) t ps e out h =
    let same : ps ≡ numbered_from 0 (pieces_of (b ∷ sep) t) = same_array ps (numbered_from 0 (pieces_of (b ∷ sep) t)) (ok_plain (array ps) (array (numbered_from 0 (pieces_of (b ∷ sep) t))) (pieces_at (b ∷ sep) t) e refl) in
    listed 0 (pieces_of (b ∷ sep) t) out (subst (λ (qs : Pairs). HasText qs out) same h)

pub literal_exploded : (sep : List ℕ) (a : Plain) (t : List ℕ) (ps : Pairs) → as_text a ≡ Ok t → exploded (text sep) a ≡ Ok (array ps) → (out : List ℕ) → HasText ps out → Contains (pieces_of sep t) out
literal_exploded sep a t ps h e out has = pieces sep t ps (sym (ap (λ (r : Result (List ℕ) Fault). go_on r (pieces_at sep)) h) ∙ e) out has

pub any_exploded : (a b : Plain) (t : List ℕ) (ps : Pairs) → as_text b ≡ Ok t → exploded a b ≡ Ok (array ps) → (out : List ℕ) → HasText ps out → IsFactor t out
any_exploded a b t ps h e out has = by (as_text a) e
  where
    by : (r : Result (List ℕ) Fault) → go_on r (λ sep. go_on (as_text b) (pieces_at sep)) ≡ Ok (array ps) → IsFactor t out
    by (Err f) g = cc
    by (Ok sep) g = IsFactor-pieces_of sep t out (pieces sep t ps (sym (ap (λ (r : Result (List ℕ) Fault). go_on r (pieces_at sep)) h) ∙ g) out has)
