-- What is shown of a page.
use Rattle.std.specs.Prelude.{◌≡◌, ℕ, List, length, min, take}
use Rattle.script_decision.specs.declared.showing_pages.ShownPage.{ShownPage}
use Rattle.script_decision.specs.declared.showing_pages.TheConstants.{PAGE_LIMIT}

-- the number of its bytes, at most the largest u64, and its first 1,048,576 bytes
pub record Shows (page : List ℕ) (shown : ShownPage) : Type 0 where
  pub counted : shown.length ≡ min (length page) 18446744073709551615
  pub begins : shown.front ≡ take PAGE_LIMIT page
