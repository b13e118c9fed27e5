-- Derivatives of expressions (Brzozowski, 1964; of `among` as Clark derives `interleave`, 2002), and their normal forms.
use Rattle.std.specs.Prelude.{◌≡◌, ℕ, Bool, true, false, ◌&&◌, ◌||◌, not, List, [], ◌∷◌, nat_le, nat_eq}
use mathlib.Core.Bool.{beq}
use Rattle.derivatives.specs.Expressions.{Expr, nothing, empty, range, chain, either, star, among, Members, none, member, lies}

abbrev mutual
  -- the expression matches the empty text
  pub may_end : Expr → Bool
  may_end nothing = false
  may_end empty = true
  may_end (range low high) = false
  may_end (chain x y) = may_end x && may_end y
  may_end (either x y) = may_end x || may_end y
  may_end (star x) = true
  may_end (among ms) = all_may_end ms

  -- each that is required matches the empty text
  pub all_may_end : Members → Bool
  all_may_end none = true
  all_may_end (member e q ms) = (not q || may_end e) && all_may_end ms

-- x and y behind it, for an x that is neither nothing nor empty
abbrev pub before : Expr → Expr → Expr
before x nothing = nothing
before x empty = x
before x y = chain x y

-- x and y behind it
abbrev pub chain_of : Expr → Expr → Expr
chain_of nothing y = nothing
chain_of empty y = y
chain_of x y = before x y

abbrev mutual
  -- the expressions are the same
  pub same : Expr → Expr → Bool
  same nothing nothing = true
  same empty empty = true
  same (range low high) (range first last) = nat_eq low first && nat_eq high last
  same (chain x y) (chain s t) = same x s && same y t
  same (either x y) (either s t) = same x s && same y t
  same (star x) (star s) = same x s
  same (among ms) (among ns) = same_members ms ns
  same x y = false

  -- and so are the members, in the same order
  pub same_members : Members → Members → Bool
  same_members none none = true
  same_members (member e q ms) (member x p ns) = same e x && beq q p && same_members ms ns
  same_members ms ns = false

-- x is one of those that y is made of by `either`
abbrev pub occurs : Expr → Expr → Bool
occurs x (either s t) = same x s || occurs x t
occurs x y = same x y

-- x, which is not nothing, or y
abbrev pub beside : Expr → Expr → Expr
beside x nothing = x
beside x y = either x y

-- the second where the first occurs in it, and else both
abbrev pub unless_occurs : Bool → Expr → Expr → Expr
unless_occurs true x y = y
unless_occurs false x y = beside x y

-- x or y: a list of alternatives, each of them once
abbrev pub either_of : Expr → Expr → Expr
either_of nothing y = y
either_of (either s t) y = either_of s (either_of t y)
either_of x y = unless_occurs (occurs x y) x y

-- some of the members: the empty text where there is none
abbrev pub among_of : Members → Expr
among_of none = empty
among_of ms = among ms

-- the expression if the test holds
abbrev pub when : Bool → Expr → Expr
when true e = e
when false e = nothing

-- the second behind the first, which is turned round
abbrev pub onto : Members → Members → Members
onto none ms = ms
onto (member e q front) ms = onto front (member e q ms)

abbrev mutual
  -- what the expression matches behind this byte
  pub after : ℕ → Expr → Expr
  after b nothing = nothing
  after b empty = nothing
  after b (range low high) = when (lies low high b) empty
  after b (chain x y) = either_of (chain_of (after b x) y) (when (may_end x) (after b y))
  after b (either x y) = either_of (after b x) (after b y)
  after b (star x) = chain_of (after b x) (star x)
  after b (among ms) = after_members b none ms

  -- the same of members, by the member that is first: those in front, turned round, stand among the others
  pub after_members : ℕ → Members → Members → Expr
  after_members b front none = nothing
  after_members b front (member e q ms) = either_of (chain_of (after b e) (among_of (onto front ms))) (after_members b (member e q front) ms)

-- behind a text
abbrev pub after_all : List ℕ → Expr → Expr
after_all [] e = e
after_all (b ∷ bs) e = after_all bs (after b e)

abbrev mutual
  -- nothing is no part of it, nor an empty range
  pub is_full : Expr → Bool
  is_full nothing = false
  is_full empty = true
  is_full (range low high) = nat_le low high
  is_full (chain x y) = is_full x && is_full y
  is_full (either x y) = is_full x && is_full y
  is_full (star x) = is_full x
  is_full (among ms) = are_full ms

  -- the same of each member
  pub are_full : Members → Bool
  are_full none = true
  are_full (member e q ms) = is_full e && are_full ms

-- nothing, or an expression of which nothing is no part
pub data Normal : Expr → Type 0 where
  fails : Normal nothing
  lives : {e : Expr} → is_full e ≡ true → Normal e
