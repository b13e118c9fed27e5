use Rattle.std.proofs.Common.{sym, ◌∙◌, length}
use Rattle.std.proofs.lemmas.Bool.{eqb-true, eqb-false}
use Rattle.page_rules.proofs.FirstWords.{first_word, no_word_at}
use Rattle.page_rules.proofs.values.next_word.Goals as goal

pub returns-then-is_empty : goal.returns-then-is_empty
returns-then-is_empty c = no_word_at c.args.value.now c.split.result.1.now c.split.ensures.rest (eqb-true (length c.split.result.1.now) 0 (sym c.is_empty.ensures ∙ c.if-is_empty.true))

pub returns : goal.returns
returns c =
    first_word c.args.value.now c.split.result.1.now c.split-2.result.0.now c.split-2.result.1.now c.split.ensures.rest
    (eqb-false (length c.split.result.1.now) 0 (sym c.is_empty.ensures ∙ c.if-is_empty.false)) c.split-2.ensures.front c.split-2.ensures.rest
