-- A test that holds exactly where two lists are equal is the test of their equality.
use Rattle.std.proofs.Common.{◌≡◌, ℕ, Bool, true, false, List, map, refl, sym, arith}
use Rattle.std.specs.Prelude.{bytes_eq, ◌↔◌}
use Rattle.std.specs.Char.{to_ascii_lowercase}
use Rattle.std.specs.Cmp.Lexicographic.{bytes_decides}

decided : (r b : Bool) → (r ≡ true → b ≡ true) → (b ≡ true → r ≡ true) → r ≡ b
decided true b f g = sym (f refl)
decided false true f g = g refl
decided false false f g = refl

pub letters_decided : (r : Bool) (xs ys : List ℕ) → ((r ≡ true) ↔ (map to_ascii_lowercase xs ≡ map to_ascii_lowercase ys))
    → r ≡ bytes_eq (map to_ascii_lowercase xs) (map to_ascii_lowercase ys)
letters_decided r xs ys h = let d = bytes_decides (map to_ascii_lowercase xs) (map to_ascii_lowercase ys) in
    decided r (bytes_eq (map to_ascii_lowercase xs) (map to_ascii_lowercase ys)) (λ e. d.1 (h.0 e)) (λ e. h.1 (d.0 e))
