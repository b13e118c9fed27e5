use Rattle.std.proofs.Common.{◌≡◌, IsUtf8, chars}
use Rattle.std.specs.Str.Iter.{chars_rest}
use Rattle.std.specs.List.{list_all}
use Rattle.page_model.specs.Parts.{may_be_quoted}
use Rattle.state_testing.proofs.fixed.are_quoted.Given as goal

abbrev pub invariant-loop-c : goal.invariant-loop-c
invariant-loop-c l =
    IsUtf8 (chars_rest l.c-iterator) × (list_all (may_be_quoted l.quote) (chars (chars_rest l.c-iterator)) ≡ list_all (may_be_quoted l.quote) (chars l.fn.text))
