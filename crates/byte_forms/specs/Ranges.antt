-- The bytes that pass a test as an expression: neighbours as one range. This project's own.
use Rattle.std.specs.Prelude.{ℕ, zero, suc, Bool, if◌then◌else◌, Option, Some, None}
use Rattle.derivatives.specs.Expressions.{Expr, range}
use Rattle.derivatives.specs.Derivatives.{either_of}

-- the bytes below this one that pass a test, as ranges, or what is given; a range may be open up to its last byte
abbrev pub ranges_below : (ℕ → Bool) → ℕ → Option ℕ → Expr → Expr
ranges_below test zero None e = e
ranges_below test zero (Some last) e = either_of (range zero last) e
ranges_below test (suc n) None e = if test n then ranges_below test n (Some n) e else ranges_below test n None e
ranges_below test (suc n) (Some last) e =
    if test n then ranges_below test n (Some last) e else ranges_below test n None (either_of (range (suc n) last) e)
