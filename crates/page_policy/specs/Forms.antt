-- Patterns as expressions over bytes (derivatives), of which a pattern in memory is one.
use Rattle.std.specs.Prelude.{◌↔◌, ℕ, Bool, None, List}
use Rattle.derivatives.specs.Expressions.{Expr, nothing, empty, star, Matches}
use Rattle.derivatives.specs.Derivatives.{chain_of, either_of}
use Rattle.derivatives.specs.Standing.{IsMade}
use Rattle.derivatives.specs.declared.arena.Arena.{Arena}
use Rattle.byte_forms.specs.Ranges.{ranges_below}
use Rattle.page_policy.specs.Patterns.{Pattern, byte_of, void, seq, alt, any, some, maybe, is_meant, Fits}

-- a byte that passes the test, of all 256
unfoldable pub byte_form : (ℕ → Bool) → Expr
byte_form test = ranges_below test 256 None nothing

-- the expression of a pattern
abbrev pub form_of : Pattern → Expr
form_of (byte_of out rs) = byte_form (is_meant out rs)
form_of void = empty
form_of (seq p q) = chain_of (form_of p) (form_of q)
form_of (alt p q) = either_of (form_of p) (form_of q)
form_of (any p) = star (form_of p)
form_of (some p) = chain_of (form_of p) (star (form_of p))
form_of (maybe p) = either_of empty (form_of p)

-- the number stands for the expression of this pattern
abbrev pub IsForm : Arena → ℕ → Pattern → Type 0
IsForm arena n p = IsMade arena n (form_of p)

-- the expression of a pattern matches exactly the texts that fit
abbrev pub FormsMatchWhatFits : Type 0
FormsMatchWhatFits = (p : Pattern) (text : List ℕ) → Matches (form_of p) text ↔ Fits p text
