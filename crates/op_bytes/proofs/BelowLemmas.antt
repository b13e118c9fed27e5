-- Operations make bytes of bytes.
use Rattle.std.proofs.Common.{◌≡◌, ◌<◌, ◌≤◌, ◌+◌, ℕ, Bool, true, false, List, [], ◌∷◌, Contains, inl, inr, refl, sym, subst, arith, cond}
use Rattle.std.specs.Prelude.{◌/◌, ◌%◌, codes, nat_lt, if◌then◌else◌, ◌==◌, ◌||◌}
use Rattle.std.specs.List.{list_all}
use Rattle.std.specs.Char.{to_ascii_lowercase, to_ascii_uppercase}
use Rattle.std.proofs.lemmas.Bool.{ltb-true}
use Rattle.string_functions.specs.Html.{html_of_byte}
use Rattle.string_functions.specs.Url.{url_of_byte, raw_url_of_byte, percent_of_byte, hex_digit, is_kept_in_url}
use Rattle.string_functions.specs.Slashes.{slashes_of_byte}
use Rattle.op_system.specs.declared.op.Op.{Op}
use Rattle.op_system.specs.declared.op.Op.TheVariants as op
use Rattle.least_sets.specs.Bytes.{Turns}
use Rattle.op_bytes.proofs.ListLemmas.{all_at, one_of, none_in, only_in}

-- all members are bytes
pub record AreBelow (xs : List ℕ) : Type 0 where
  pub each : (c : ℕ) → Contains xs c → c < 256

below_if : (t : Bool) (xs ys : List ℕ) → AreBelow xs → AreBelow ys → AreBelow (if t then xs else ys)
below_if true xs ys h g = h
below_if false xs ys h g = g

below_test : (xs : List ℕ) → list_all (λ c. nat_lt c 256) xs ≡ true → AreBelow xs
below_test xs h = record { each = λ c has. ltb-true c 256 (all_at (λ c. nat_lt c 256) xs c h has) }

below_one : (b : ℕ) → b < 256 → AreBelow (b ∷ [])
below_one b h = record { each = λ c has. let e = only_in b c has in omega arith }

below_two : (a b : ℕ) → a < 256 → b < 256 → AreBelow (a ∷ b ∷ [])
below_two a b h g = record { each = λ c has. elim (one_of a (b ∷ []) c has) [ inl e ↦ omega arith | inr more ↦ (let e = only_in b c more in omega arith) ] }

html_below : (b : ℕ) → b < 256 → AreBelow (html_of_byte b)
html_below b h =
    below_if (b == 38) (codes "&amp;") _ (below_test (codes "&amp;") refl)
    (below_if (b == 60) (codes "&lt;") _ (below_test (codes "&lt;") refl)
    (below_if (b == 62) (codes "&gt;") _ (below_test (codes "&gt;") refl)
    (below_if (b == 34) (codes "&quot;") _ (below_test (codes "&quot;") refl)
    (below_if (b == 39) (codes "&#039;") (b ∷ []) (below_test (codes "&#039;") refl) (below_one b h)))))

digit_below : (n : ℕ) → n < 256 → n ≤ 15 → hex_digit n < 256
digit_below n h le = of_if (nat_lt n 10)
  where
    of_if : (t : Bool) → (if t then 48 + n else 55 + n) < 256
    of_if true = omega arith
    of_if false = omega arith

percent_below : (b : ℕ) → b < 256 → AreBelow (percent_of_byte b)
percent_below b h = record {
  each = λ c has. elim (one_of 37 (hex_digit (b / 16) ∷ hex_digit (b % 16) ∷ []) c has) [
    | inl e ↦ omega arith
    | inr more ↦ elim (one_of (hex_digit (b / 16)) (hex_digit (b % 16) ∷ []) c more) [
      | inl e ↦ (let d = digit_below (b / 16) (omega arith) (omega arith) in omega arith)
      | inr last ↦ (let e = only_in (hex_digit (b % 16)) c last in let d = digit_below (b % 16) (omega arith) (omega arith) in omega arith)
    ]
  ];
}

url_below : (b : ℕ) → b < 256 → AreBelow (url_of_byte b)
url_below b h = below_if (is_kept_in_url b) (b ∷ []) _ (below_one b h) (below_if (b == 32) (43 ∷ []) (percent_of_byte b) (below_test (43 ∷ []) refl) (percent_below b h))

raw_url_below : (b : ℕ) → b < 256 → AreBelow (raw_url_of_byte b)
raw_url_below b h = below_if (is_kept_in_url b || b == 126) (b ∷ []) (percent_of_byte b) (below_one b h) (percent_below b h)

slashes_below : (b : ℕ) → b < 256 → AreBelow (slashes_of_byte b)
slashes_below b h =
    below_if (b == 39 || b == 34 || b == 92) (92 ∷ b ∷ []) _ (below_two 92 b (omega arith) h)
    (below_if (b == 0) (92 ∷ 48 ∷ []) (b ∷ []) (below_test (92 ∷ 48 ∷ []) refl) (below_one b h))

lower_below : (b : ℕ) → b < 256 → to_ascii_lowercase b < 256
lower_below b h = grind (arith)

upper_below : (b : ℕ) → b < 256 → to_ascii_uppercase b < 256
upper_below b h = grind (arith)

pub turns_below : (o : Op) (b c : ℕ) → b < 256 → Turns o b c → c < 256
unfolding Turns
turns_below op.Same b c h t = omega arith
turns_below op.Any b c h t = omega arith
turns_below op.Html b c h t = (html_below b h).each c t
turns_below (op.Replace search with) b c h t = omega arith
turns_below (op.Cut start len) b c h t = omega arith
turns_below op.Factor b c h t = omega arith
turns_below op.Lower b c h t = let l = lower_below b h in omega arith
turns_below op.Upper b c h t = let l = upper_below b h in omega arith
turns_below op.First b c h (inl t) = omega arith
turns_below op.First b c h (inr t) = let l = upper_below b h in omega arith
turns_below (op.Trim left right) b c h t = omega arith
turns_below op.Breaks b c h (inl t) = omega arith
turns_below op.Breaks b c h (inr t) = (below_test (codes "<br />") refl).each c t.0
turns_below op.Url b c h t = (url_below b h).each c t
turns_below op.RawUrl b c h t = (raw_url_below b h).each c t
turns_below op.Slashes b c h t = (slashes_below b h).each c t
turns_below (op.Piece sep) b c h t = omega arith
