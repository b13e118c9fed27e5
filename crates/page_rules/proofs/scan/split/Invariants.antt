use Rattle.std.proofs.Common.{◌≡◌, take, true}
use Rattle.std.specs.List.{list_all}
use Rattle.page_rules.specs.Views.{class_test}
use Rattle.page_rules.proofs.scan.split.Given as goal

abbrev pub invariant-loop-i : goal.invariant-loop-i
invariant-loop-i l = list_all (class_test l.class) (take l.i l.cs) ≡ true
