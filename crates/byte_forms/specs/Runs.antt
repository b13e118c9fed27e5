-- How the expression of a class of bytes is made, from the last byte down. No public clause cites this.
use Rattle.std.specs.Prelude.{◌≡◌, ◌≤◌, ℕ, suc, Bool, None, IfSome}
use Rattle.derivatives.specs.Expressions.{nothing}
use Rattle.derivatives.specs.Standing.{IsExpr, Grows, expr_at}
use Rattle.derivatives.specs.declared.arena.Arena.{Arena}
use Rattle.byte_forms.specs.Classes.{in_class}
use Rattle.byte_forms.specs.Ranges.{ranges_below}
use Rattle.byte_forms.specs.declared.class.ByteClass.{ByteClass}
use Rattle.byte_forms.specs.declared.forming.Run.{Run}

-- with one byte more, which passes the test or not, the bytes below are left as before
pub record IsLonger (passes : Bool) (b : ℕ) (old : Arena) (run : Run) (new : Arena) (longer : Run) : Type 0 where
  pub is_expr : IsExpr new longer.form
  pub wide : IfSome longer.last (λ last. b ≤ last)
  pub is : (test : ℕ → Bool) → passes ≡ test b
      → ranges_below test (suc b) run.last (expr_at old run.form) ≡ ranges_below test b longer.last (expr_at new longer.form)

-- the bytes from this one on are done
pub record RunSoFar (class : ByteClass) (bound : ℕ) (initial arena : Arena) (run : Run) (below : ℕ) : Type 0 where
  pub is_expr : IsExpr arena run.form
  pub grows : Grows initial arena
  pub within : below ≤ 256
  pub wide : IfSome run.last (λ last. below ≤ last)
  pub is : ranges_below (in_class class) below run.last (expr_at arena run.form) ≡ ranges_below (in_class class) bound None nothing
