use Rattle.std.proofs.Common.{◌≡◌, ◌+◌, ◌*◌, drop}
use Rattle.php_syntax.specs.Trees.{exprs_of, items_of, path_of}
use Rattle.php_writer.specs.Tested.{exprs_good, items_good, path_good}
use Rattle.php_writer.proofs.expression_tests.+expression_tests.Given as goal

abbrev pub decreases-is_good : goal.decreases-is_good
decreases-is_good l = 8 * l.room

abbrev pub decreases-are_both_good : goal.decreases-are_both_good
decreases-are_both_good l = 8 * l.room + 1

abbrev pub decreases-is_maybe_good : goal.decreases-is_maybe_good
decreases-is_maybe_good l = 8 * l.room + 1

abbrev pub decreases-is_middle_good : goal.decreases-is_middle_good
decreases-is_middle_good l = 8 * l.room + 1

abbrev pub decreases-are_good : goal.decreases-are_good
decreases-are_good l = 8 * l.room + 1

abbrev pub decreases-is_good_item : goal.decreases-is_good_item
decreases-is_good_item l = 8 * l.room + 2

abbrev pub decreases-are_good_items : goal.decreases-are_good_items
decreases-are_good_items l = 8 * l.room + 3

abbrev pub decreases-are_good_keys : goal.decreases-are_good_keys
decreases-are_good_keys l = 8 * l.room + 2

abbrev pub decreases-is_good_target : goal.decreases-is_good_target
decreases-is_good_target l = 8 * l.room + 3

abbrev pub decreases-are_good_places : goal.decreases-are_good_places
decreases-are_good_places l = 8 * l.room + 2

abbrev pub decreases-has_good_parts : goal.decreases-has_good_parts
decreases-has_good_parts l = 8 * l.room + 4

-- what is left to test decides
abbrev pub invariant-are_good-loop-expr : goal.invariant-are_good-loop-expr
invariant-are_good-loop-expr l = exprs_good (exprs_of (drop l.expr-index l.exprs)) l.room ≡ exprs_good (exprs_of l.exprs) l.room

abbrev pub invariant-are_good_items-loop-item : goal.invariant-are_good_items-loop-item
invariant-are_good_items-loop-item l = items_good (items_of (drop l.item-index l.items)) l.room ≡ items_good (items_of l.items) l.room

abbrev pub invariant-are_good_keys-loop-key : goal.invariant-are_good_keys-loop-key
invariant-are_good_keys-loop-key l = path_good (path_of (drop l.key-index l.keys)) l.room ≡ path_good (path_of l.keys) l.room
