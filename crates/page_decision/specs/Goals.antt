-- When a page is as it is asked to be.
use Rattle.std.specs.Prelude.{ℕ, List}
use Rattle.text_base.specs.declared.page_token.PageToken.{PageToken}
use Rattle.dtd_model.specs.Table.{Table}
use Rattle.page_model.specs.PageTokens.{PageTokens}
use Rattle.page_model.specs.Valid.{Valid}
use Rattle.tag_sums.specs.Nesting.{IsNested}
use Rattle.page_decision.specs.declared.goal.Goal.{Goal}

-- some tokens of the page are those of a tree, whatever its elements hold
pub record IsNestedPage (table : Table) (page : List ℕ) : Type 0 where
  pub tokens : List PageToken
  pub has : PageTokens table page tokens
  pub nested : IsNested tokens

-- the page is valid, or, where that is all that is asked, nested
abbrev pub IsGood : Goal → Table → List ℕ → Type 0
IsGood Goal.Valid table page = Valid table page
IsGood Goal.Nested table page = IsNestedPage table page
