-- What a maker holds, as expressions, and what its calls make of it.
use Rattle.std.specs.Prelude.{◌≡◌, Bool, true, false, List, [], ◌∷◌, ◌++◌, map}
use Rattle.derivatives.specs.Expressions.{Expr, nothing, empty, among, none, member}
use Rattle.derivatives.specs.Derivatives.{chain_of, either_of}
use Rattle.derivatives.specs.Standing.{expr_at}
use Rattle.form_maker.specs.declared.joining.Joining.{Joining}
use Rattle.form_maker.specs.declared.joining.Joining.TheVariants.{Chain, ChainBefore, Either, EitherBefore, Member}
use Rattle.form_maker.specs.declared.maker.Maker.{Maker}

-- expressions on a stack, the last one first, and those that are kept, in their order
pub record Making : Type 0 where
  pub stack : List Expr
  pub kept : List Expr

-- the same numbers as expressions
abbrev pub making_of : Maker → Making
making_of m = record { stack = map (expr_at m.arena) m.stack; kept = map (expr_at m.arena) m.kept.items }

-- one expression more on the stack
abbrev pub pushed : Expr → Making → Making
pushed e m = record { stack = e ∷ m.stack; kept = m.kept }

-- the last one of a stack; what matches no text, where there is none
abbrev pub last_of : List Expr → Expr
last_of [] = nothing
last_of (e ∷ es) = e

-- the others, in their order
abbrev pub others_of : List Expr → List Expr
others_of [] = []
others_of (e ∷ es) = es

-- without the last one
abbrev pub popped : Making → Making
popped m = record { stack = others_of m.stack; kept = m.kept }

-- the last one changed
abbrev pub changed : (Expr → Expr) → Making → Making
changed f m = pushed (f (last_of m.stack)) (popped m)

-- where there is a last one, it is changed so
abbrev pub Changes : (Expr → Expr) → Making → Making → Type 0
Changes f old new = (e : Expr) (m : Making) → old ≡ pushed e m → new ≡ pushed (f e) m

-- one in place of the last two, the one before the last first
abbrev pub joined : (Expr → Expr → Expr) → Making → Making
joined f m = pushed (f (last_of (others_of m.stack)) (last_of m.stack)) (popped (popped m))

-- some of these members in any order, and one more. One that matches no text is left out, or leaves nothing where it is required.
abbrev pub with_one : Bool → Expr → Expr → Expr
with_one true all nothing = nothing
with_one false all nothing = all
with_one must empty e = among (member e must none)
with_one must (among ms) e = among (member e must ms)
with_one must all e = nothing

-- what is made of the last two
abbrev pub join_of : Joining → Expr → Expr → Expr
join_of Chain d e = chain_of d e
join_of ChainBefore d e = chain_of e d
join_of Either d e = either_of d e
join_of EitherBefore d e = either_of e d
join_of (Member must) d e = with_one must d e

-- the last one is no longer on the stack, and kept
abbrev pub moved : Making → Making
moved m = record { stack = others_of m.stack; kept = m.kept ++ last_of m.stack ∷ [] }
