-- Laws of expressions and their derivatives, as statements.
use Rattle.std.specs.Prelude.{◌≡◌, ◌≤◌, ℕ, true, List, [], ◌∷◌, ◌↔◌}
use Rattle.derivatives.specs.Expressions.{Expr, nothing, chain, either, among, Members, Matches, Joins}
use Rattle.derivatives.specs.Derivatives.{may_end, after, after_all, chain_of, either_of, among_of, is_full, are_full, Normal}
use Rattle.derivatives.specs.Classes.{last_byte, last_alike}
use Rattle.derivatives.specs.Standing.{IsExpr, IsList, IsMade, IsListed, expr_at, members_at, Grows}
use Rattle.derivatives.specs.declared.arena.Arena.{Arena}

-- an expression may end exactly where it matches the empty text
abbrev pub EndsWhereEmpty : Type 0
EndsWhereEmpty = (e : Expr) → (may_end e ≡ true) ↔ Matches e []

-- a derivative matches exactly what may follow the byte
abbrev pub IsDerivative : Type 0
IsDerivative = (b : ℕ) (e : Expr) (w : List ℕ) → Matches (after b e) w ↔ Matches e (b ∷ w)

-- the same of a text
abbrev pub IsDerivativeByAll : Type 0
IsDerivativeByAll = (e : Expr) (u v w : List ℕ) → Joins u v w → Matches (after_all u e) v ↔ Matches e w

-- what is put together in normal form matches what it matches plainly put together
pub record MatchesAsPlain : Type 0 where
  pub chained : (x y : Expr) (w : List ℕ) → Matches (chain_of x y) w ↔ Matches (chain x y) w
  pub either : (x y : Expr) (w : List ℕ) → Matches (either_of x y) w ↔ Matches (either x y) w
  pub among : (ms : Members) (w : List ℕ) → Matches (among_of ms) w ↔ Matches (among ms) w

-- what has no part that fails matches some text
abbrev pub HasSomeText : Type 0
HasSomeText = (e : Expr) → is_full e ≡ true → (w : List ℕ) × Matches e w

-- derivatives stay in normal form
abbrev pub StaysNormal : Type 0
StaysNormal = (e : Expr) → Normal e → (u : List ℕ) → Normal (after_all u e)

-- what is put together of parts in normal form is in normal form
pub record MakesNormal : Type 0 where
  pub chained : (x y : Expr) → Normal x → Normal y → Normal (chain_of x y)
  pub either : (x y : Expr) → Normal x → Normal y → Normal (either_of x y)
  pub among : (ms : Members) → are_full ms ≡ true → Normal (among_of ms)

-- an expression in normal form matches no text only where it is nothing
abbrev pub OnlyNothingFails : Type 0
OnlyNothingFails = (e : Expr) → Normal e → ((w : List ℕ) → Matches e w → ⊥) → e ≡ nothing

-- the derivative by a text with which nothing begins that is matched is nothing, and not only as good as nothing
abbrev pub FailsAtOnce : Type 0
FailsAtOnce = (e : Expr) → Normal e → (u : List ℕ) → ((v w : List ℕ) → Joins u v w → Matches e w → ⊥) → after_all u e ≡ nothing

-- from a byte up to the last one alike there is one derivative, and the byte itself is one of these
pub record AreClasses : Type 0 where
  pub own : (b : ℕ) (e : Expr) → b ≤ last_byte → b ≤ last_alike b e
  pub alike : (b c : ℕ) (e : Expr) → b ≤ c → c ≤ last_alike b e → after c e ≡ after b e

-- while an arena grows, each number goes on to stand for what it stood for
pub record GoesOn : Type 0 where
  pub exprs : (old new : Arena) → Grows old new → (n : ℕ) → IsExpr old n → IsMade new n (expr_at old n)
  pub lists : (old new : Arena) → Grows old new → (n : ℕ) → IsList old n → IsListed new n (members_at old n)
