-- A text cut in two at the first byte that passes a test.
use Rattle.std.specs.Prelude.{◌≡◌, ℕ, Bool, true, false, List, []}
use Rattle.std.specs.List.{list_any, before_first, after_first}

-- no byte passes, so that everything stands before it
pub record IsWhole (test : ℕ → Bool) (text : List ℕ) : Type 0 where
  pub nowhere : list_any test text ≡ false
  pub before : before_first test text ≡ text
  pub after : after_first test text ≡ []

-- these two stand before and after the first byte that passes
pub record AreAround (test : ℕ → Bool) (text front back : List ℕ) : Type 0 where
  pub somewhere : list_any test text ≡ true
  pub before : front ≡ before_first test text
  pub after : back ≡ after_first test text
