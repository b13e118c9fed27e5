-- The laws of telling, from those of pages and of whole sums.
use Rattle.std.proofs.Common.{List, subst}
use Rattle.text_base.specs.declared.page_token.PageToken.{PageToken}
use Rattle.tag_sums.specs.Nesting.{IsNested}
use Rattle.page_model.specs.Laws.{OneTokenList, ValidByTokens}
use Rattle.page_automata.specs.Whole.{WholeIsTree}
use Rattle.dyck_balance.specs.Laws.{WholeIsNested}
use Rattle.page_decision.specs.Telling.{SumsTellValid, NestsTellNested}

pub sums_valid : ValidByTokens → WholeIsTree → SumsTellValid
sums_valid valid whole table states are page tokens has =
    let by_tokens = valid table page tokens has in
    let by_sum = whole table states are.decides are.owners tokens in
    (λ w. by_tokens.1 (by_sum.0 w), λ good. by_sum.1 (by_tokens.0 good))

pub nests_nested : OneTokenList → WholeIsNested → NestsTellNested
nests_nested one whole table page tokens has = (
  λ w. record { tokens = tokens; has = has; nested = (whole tokens).0 w },
  λ good. (whole tokens).1 (subst (λ (ts : List PageToken). IsNested ts) (one table page good.tokens tokens good.has has) good.nested),
)
