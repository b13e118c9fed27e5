use Rattle.std.proofs.Common.{◌≡◌, length}
use Rattle.std.specs.List.{list_all}
use Rattle.page_model.specs.Attributes.{words_of}
use Rattle.page_rules.specs.ValueTests.{word_test}
use Rattle.page_rules.proofs.values.all_words.Given as goal

abbrev pub invariant-loop-word : goal.invariant-loop-word
invariant-loop-word l = list_all (word_test l.test) (words_of l.left) ≡ list_all (word_test l.test) (words_of l.value)

abbrev pub decreases-loop-word : goal.decreases-loop-word
decreases-loop-word l = length l.left
