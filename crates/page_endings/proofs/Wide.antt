-- Where no character of several bytes is taken, each fails.
use Rattle.std.proofs.Common.{◌≡◌, ℕ, ◌≤◌, ◌<◌, Bool, true, false, ◌&&◌, ◌||◌, List, [], ◌∷◌, ◌++◌, refl, arith}
use Rattle.std.specs.Prelude.{nat_eq, nat_lt, bytes_eq}
use Rattle.std.specs.Char.{is_ascii_digit, is_ascii_hexdigit}
use Rattle.std.specs.List.{list_any, list_all}
use Rattle.std.proofs.lemmas.Bool.{and_parts}
use Rattle.std.proofs.lemmas.Bool.Decides.{nat_tests}
use Rattle.xml_text.specs.Characters.{is_blank}
use Rattle.xml_text.specs.Names.{begins_name, in_name, in_public_identifier}
use Rattle.page_model.specs.Parts.{is_quote}
use Rattle.page_steps.specs.DoctypeSteps.{begins}
use Rattle.page_endings.proofs.Begins.{not_true}
use Rattle.page_endings.proofs.WordTraps.{same_begins}

pub no_begin : (c : ℕ) → 128 ≤ c → begins_name c ≡ false
no_begin c h = grind (arith, nat_tests)

pub no_digit : (c : ℕ) → 128 ≤ c → is_ascii_digit c ≡ false
no_digit c h = grind (arith, nat_tests)

pub no_hexdigit : (c : ℕ) → 128 ≤ c → is_ascii_hexdigit c ≡ false
no_hexdigit c h = grind (arith, nat_tests)

pub no_name : (c : ℕ) → 128 ≤ c → in_name c ≡ false
no_name c h = grind (arith, nat_tests)

pub no_blank : (c : ℕ) → 128 ≤ c → is_blank c ≡ false
no_blank c h = grind (arith, nat_tests)

pub no_quote : (c : ℕ) → 128 ≤ c → is_quote c ≡ false
no_quote c h = grind (arith, nat_tests)

pub not_this : (c k : ℕ) → 128 ≤ c → k < 128 → nat_eq c k ≡ false
not_this c k h l = grind (arith, nat_tests)

none_of : (c : ℕ) (ks : List ℕ) → 128 ≤ c → list_all (λ k. nat_lt k 128) ks ≡ true → list_any (nat_eq c) ks ≡ false
none_of c [] h l = refl
none_of c (k ∷ ks) h l = let p = and_parts (nat_lt k 128) (list_all (λ k. nat_lt k 128) ks) l in by (nat_eq c k) (not_small p.0) (none_of c ks h p.1)
  where
    not_small : nat_lt k 128 ≡ true → nat_eq c k ≡ false
    not_small q = grind (arith, nat_tests)

    by : (b : Bool) → b ≡ false → list_any (nat_eq c) ks ≡ false → (b || list_any (nat_eq c) ks) ≡ false
    by true q ih = cc
    by false q ih = ih

pub no_public : (c : ℕ) → 128 ≤ c → in_public_identifier c ≡ false
no_public c h = grind (arith, nat_tests)

-- no text of ASCII begins with it
pub no_beginning : (front whole : List ℕ) (c : ℕ) → 128 ≤ c → list_all (λ k. nat_lt k 128) whole ≡ true → begins whole (front ++ c ∷ []) ≡ false
no_beginning [] [] c h l = refl
no_beginning [] (w ∷ ws) c h l = by (nat_eq c w) (not_small (and_parts (nat_lt w 128) (list_all (λ k. nat_lt k 128) ws) l).0)
  where
    not_small : nat_lt w 128 ≡ true → nat_eq c w ≡ false
    not_small q = grind (arith, nat_tests)

    by : (b : Bool) → b ≡ false → (b && begins ws []) ≡ false
    by true q = cc
    by false q = refl
no_beginning (d ∷ ds) [] c h l = refl
no_beginning (d ∷ ds) (w ∷ ws) c h l = by (nat_eq d w) (no_beginning ds ws c h (and_parts (nat_lt w 128) (list_all (λ k. nat_lt k 128) ws) l).1)
  where
    by : (b : Bool) → begins ws (ds ++ c ∷ []) ≡ false → (b && begins ws (ds ++ c ∷ [])) ≡ false
    by true q = q
    by false q = refl

pub not_the_text : (front whole : List ℕ) (c : ℕ) → 128 ≤ c → list_all (λ k. nat_lt k 128) whole ≡ true → bytes_eq (front ++ c ∷ []) whole ≡ false
not_the_text front whole c h l = not_true (bytes_eq (front ++ c ∷ []) whole) (begins whole (front ++ c ∷ [])) (same_begins (front ++ c ∷ []) whole) (no_beginning front whole c h l)
