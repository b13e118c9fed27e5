-- Numbers of an arena that all stand for expressions.
use Rattle.std.specs.Prelude.{ℕ, Bool, List, slice_get}
use Rattle.std.specs.List.{list_all}
use Rattle.derivatives.specs.Nodes.{is_expr_at}
use Rattle.derivatives.specs.declared.arena.Arena.{Arena}

-- each number is that of an expression
abbrev pub are_exprs : Arena → List ℕ → Bool
are_exprs arena ns = list_all (λ n. is_expr_at (slice_get arena.nodes.keys n)) ns
