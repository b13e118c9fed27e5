-- Expressions over bytes, and the texts that they match (Brzozowski, "Derivatives of regular expressions", 1964).
use Rattle.std.specs.Prelude.{◌≡◌, ℕ, Bool, true, false, ◌&&◌, List, [], ◌∷◌, nat_le}

-- `nothing` matches no text, `empty` the empty one, a range one byte; `chain`, `either` and `star` are as ever. `among` stands for some of
-- its members in any order, as `&` does in SGML and `interleave` in RELAX NG (Clark, "An algorithm for RELAX NG validation", 2002).
mutual
  pub data Expr : Type 0 where
    nothing : Expr
    empty : Expr
    range : ℕ → ℕ → Expr
    chain : Expr → Expr → Expr
    either : Expr → Expr → Expr
    star : Expr → Expr
    among : Members → Expr

  -- expressions, each with whether it is required
  pub data Members : Type 0 where
    none : Members
    member : Expr → Bool → Members → Members

-- the byte lies in the range, both ends in it
abbrev pub lies : ℕ → ℕ → ℕ → Bool
lies low high b = nat_le low b && nat_le b high

-- the first text and the second behind it are the third
pub data Joins : List ℕ → List ℕ → List ℕ → Type 0 where
  at_once : {v : List ℕ} → Joins [] v v
  on : {b : ℕ} {u v w : List ℕ} → Joins u v w → Joins (b ∷ u) v (b ∷ w)

-- the member stands among these, and those are the others, in their order
pub data Takes : Members → Expr → Bool → Members → Type 0 where
  here : {e : Expr} {q : Bool} {ms : Members} → Takes (member e q ms) e q ms
  later : {e x : Expr} {q p : Bool} {ms rest : Members} → Takes ms e q rest → Takes (member x p ms) e q (member x p rest)

-- none of them is required
pub data Optional : Members → Type 0 where
  no_more : Optional none
  optional : {e : Expr} {ms : Members} → Optional ms → Optional (member e false ms)

-- The expression matches the text. Members are taken one by one, each at most once, until those that are left may be left out.
pub data Matches : Expr → List ℕ → Type 0 where
  is_empty : Matches empty []
  is_byte : {low high b : ℕ} → lies low high b ≡ true → Matches (range low high) (b ∷ [])
  is_chain : {x y : Expr} {u v w : List ℕ} → Joins u v w → Matches x u → Matches y v → Matches (chain x y) w
  is_left : {x y : Expr} {w : List ℕ} → Matches x w → Matches (either x y) w
  is_right : {x y : Expr} {w : List ℕ} → Matches y w → Matches (either x y) w
  is_over : {x : Expr} → Matches (star x) []
  is_more : {x : Expr} {u v w : List ℕ} → Joins u v w → Matches x u → Matches (star x) v → Matches (star x) w
  is_done : {ms : Members} → Optional ms → Matches (among ms) []
  is_taken : {e : Expr} {q : Bool} {ms rest : Members} {u v w : List ℕ} → Takes ms e q rest → Joins u v w → Matches e u → Matches (among rest) v → Matches (among ms) w
