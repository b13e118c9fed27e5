use Rattle.extraction.proofs.NumberLemmas.{for_form, text_numbered, request_numbered, integer_numbered, yes_numbered, same_numbered, before_numbered, apply_numbered, where_numbered, join_numbered}
use Rattle.extraction.proofs.numbering.number_form.Goals as goal

pub number_name-requires-in-Join-2 : goal.number_name-requires-in-Join-2
number_name-requires-in-Join-2 c = c.in_ok-before-in-Join.ensures.adds.paired

pub returns-in-Text : goal.returns-in-Text
returns-in-Text c = for_form _ _ _ _ _ c.in-Text.is (text_numbered _ c.in-Text.text c.requires)

pub returns-in_ok-set-in-Same : goal.returns-in_ok-set-in-Same
returns-in_ok-set-in-Same c = for_form _ _ _ _ _ c.in-Same.is (same_numbered _ _ _ _ c.in_ok-set-in-Same.ensures)

pub returns-in_ok-behind-in-Join : goal.returns-in_ok-behind-in-Join
returns-in_ok-behind-in-Join c = for_form _ _ _ _ _ c.in-Join.is (join_numbered _ _ _ _ _ _ _ c.in_ok-before-in-Join.ensures c.in_ok-behind-in-Join.ensures)

pub returns-in_ok-set-in-Before : goal.returns-in_ok-set-in-Before
returns-in_ok-set-in-Before c = for_form _ _ _ _ _ c.in-Before.is (before_numbered _ _ c.in-Before.text _ _ c.in_ok-set-in-Before.ensures)

pub returns-in-Request : goal.returns-in-Request
returns-in-Request c = for_form _ _ _ _ _ c.in-Request.is (request_numbered _ c.requires)

pub returns-in-Integer : goal.returns-in-Integer
returns-in-Integer c = for_form _ _ _ _ _ c.in-Integer.is (integer_numbered _ c.requires)

pub returns-in_ok-set-in-Apply : goal.returns-in_ok-set-in-Apply
returns-in_ok-set-in-Apply c = for_form _ _ _ _ _ c.in-Apply.is (apply_numbered _ _ c.in-Apply.op _ _ c.in_ok-set-in-Apply.ensures)

pub returns-in-Yes : goal.returns-in-Yes
returns-in-Yes c = for_form _ _ _ _ _ c.in-Yes.is (yes_numbered _ c.requires)

pub returns-in_ok-set-in-Where : goal.returns-in_ok-set-in-Where
returns-in_ok-set-in-Where c = for_form _ _ _ _ _ c.in-Where.is (where_numbered _ _ c.in-Where.text _ _ c.in_ok-set-in-Where.ensures)
