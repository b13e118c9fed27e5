-- Derivatives by numbers.
use Rattle.std.proofs.Common.{◌≡◌, ◌<◌, ◌≤◌, ℕ, Bool, true, false, nat_le, sym, ◌∙◌, ap, arith}
use Rattle.std.proofs.lemmas.Bool.{and_from, and_left, and_right}
use Rattle.std.proofs.lemmas.Bool.Decides.{nat_tests}
use Rattle.derivatives.specs.Expressions.{Expr, nothing, empty, range, chain, either, star, among, Members, none, member}
use Rattle.derivatives.specs.Derivatives.{may_end, chain_of, either_of, among_of, when, onto, after, after_members}
use Rattle.derivatives.specs.Standing.{expr_at, members_at, IsExpr, IsList, IsMade, IsListed, HasFirst, Grows}
use Rattle.derivatives.specs.declared.arena.Arena.{Arena}
use Rattle.derivatives.proofs.NormalForms.{ap2}
use Rattle.derivatives.proofs.NodeLemmas.{expr_stays, list_stays}

pub grows_on : (a b c : Arena) → Grows a b → Grows b c → Grows a c
grows_on a b c h g = λ n x at. g n x (h n x at)

stays : (old new : Arena) → Grows old new → (n : ℕ) → IsExpr old n → expr_at new n ≡ expr_at old n
stays old new keeps n h = (expr_stays old new keeps n h).is

stay : (old new : Arena) → Grows old new → (n : ℕ) → IsList old n → members_at new n ≡ members_at old n
stay old new keeps n h = (list_stays old new keeps n h).is

pub expr_on : (old new : Arena) → Grows old new → (n : ℕ) → IsExpr old n → IsExpr new n
expr_on old new keeps n h = (expr_stays old new keeps n h).is_expr

pub list_on : (old new : Arena) → Grows old new → (n : ℕ) → IsList old n → IsList new n
list_on old new keeps n h = (list_stays old new keeps n h).is_list

-- a number that stands for one thing stands for what is the same
turned : {arena : Arena} {n : ℕ} {e f : Expr} → IsMade arena n e → e ≡ f → IsMade arena n f
turned m h = record { is_expr = m.is_expr; is = m.is ∙ h }

listed_as : {arena : Arena} {n : ℕ} {e f : Members} → IsListed arena n e → e ≡ f → IsListed arena n f
listed_as m h = record { is_list = m.is_list; is = m.is ∙ h }

-- ranges
le_not : (a b : ℕ) → b < a → nat_le a b ≡ false
le_not a b h = grind (arith, nat_tests)

le_is : (a b : ℕ) → a ≤ b → nat_le a b ≡ true
le_is a b h = grind (arith, nat_tests)

pub below_range : (low high b : ℕ) → b < low → nothing ≡ after b (range low high)
below_range low high b h = sym (ap (λ t. when t empty) (and_left (nat_le low b) (nat_le b high) (le_not low b h)))

pub above_range : (low high b : ℕ) → high < b → nothing ≡ after b (range low high)
above_range low high b h = sym (ap (λ t. when t empty) (and_right (nat_le low b) (nat_le b high) (le_not b high h)))

pub in_range : (low high b : ℕ) → low ≤ b → b ≤ high → empty ≡ after b (range low high)
in_range low high b h k = sym (ap (λ t. when t empty) (and_from (nat_le low b) (nat_le b high) (le_is low b h) (le_is b high k)))

-- members that are turned round
pub onto_step : (old mid new : Arena) (front list x rest m r : ℕ) (q : Bool) → HasFirst old front x q rest → IsList old list → Grows old mid
    → IsListed mid m (member (expr_at old x) q (members_at old list)) → IsListed new r (onto (members_at mid rest) (members_at mid m))
    → IsListed new r (onto (members_at old front) (members_at old list))
onto_step old mid new front list x rest m r q h l keeps one two =
    listed_as two (ap2 onto (stay old mid keeps rest h.is_list) one.is ∙ ap (λ fs. onto fs (members_at old list)) (sym h.is))

-- chains
pub when_true : (b : ℕ) (old mid c : Arena) (x y s : ℕ) (t : Bool) → t ≡ true → t ≡ may_end (expr_at mid x) → Grows old mid → IsExpr old x → IsExpr old y → IsMade c s (after b (expr_at mid y))
    → IsMade c s (when (may_end (expr_at old x)) (after b (expr_at old y)))
when_true b old mid c x y s t h is keeps p q m =
    turned m (ap (λ e. after b e) (stays old mid keeps y q) ∙ sym (ap (λ u. when u (after b (expr_at old y))) (sym (ap may_end (stays old mid keeps x p)) ∙ sym is ∙ h)))

pub when_false : (b : ℕ) (old mid c : Arena) (x y s : ℕ) (t : Bool) → t ≡ false → t ≡ may_end (expr_at mid x) → Grows old mid → IsExpr old x → IsMade c s nothing
    → IsMade c s (when (may_end (expr_at old x)) (after b (expr_at old y)))
when_false b old mid c x y s t h is keeps p m =
    turned m (sym (ap (λ u. when u (after b (expr_at old y))) (sym (ap may_end (stays old mid keeps x p)) ∙ sym is ∙ h)))

pub chain_behind : (b : ℕ) (old a mid c new : Arena) (n x y m k s r : ℕ) → expr_at old n ≡ chain (expr_at old x) (expr_at old y) → IsExpr old y → Grows old a → Grows mid c
    → IsMade a m (after b (expr_at old x)) → IsMade mid k (chain_of (expr_at a m) (expr_at a y)) → IsMade c s (when (may_end (expr_at old x)) (after b (expr_at old y)))
    → IsMade new r (either_of (expr_at c k) (expr_at c s)) → IsMade new r (after b (expr_at old n))
chain_behind b old a mid c new n x y m k s r h q keeps later first begun second all =
    turned all (ap2 either_of (stays mid c later k begun.is_expr ∙ begun.is ∙ ap2 chain_of first.is (stays old a keeps y q)) second.is ∙ ap (λ e. after b e) (sym h))

pub either_behind : (b : ℕ) (old a c new : Arena) (n x y m s r : ℕ) → expr_at old n ≡ either (expr_at old x) (expr_at old y) → IsExpr old y → Grows old a → Grows a c
    → IsMade a m (after b (expr_at old x)) → IsMade c s (after b (expr_at a y)) → IsMade new r (either_of (expr_at c m) (expr_at c s)) → IsMade new r (after b (expr_at old n))
either_behind b old a c new n x y m s r h q keeps later first second all =
    turned all (ap2 either_of (stays a c later m first.is_expr ∙ first.is) (second.is ∙ ap (λ e. after b e) (stays old a keeps y q)) ∙ ap (λ e. after b e) (sym h))

pub star_behind : (b : ℕ) (old a new : Arena) (n x m r : ℕ) → expr_at old n ≡ star (expr_at old x) → IsExpr old n → Grows old a
    → IsMade a m (after b (expr_at old x)) → IsMade new r (chain_of (expr_at a m) (expr_at a n)) → IsMade new r (after b (expr_at old n))
star_behind b old a new n x m r h p keeps first all =
    turned all (ap2 chain_of first.is (stays old a keeps n p ∙ h) ∙ ap (λ e. after b e) (sym h))

pub among_behind : (b : ℕ) (old a new : Arena) (n list front r : ℕ) → expr_at old n ≡ among (members_at old list) → IsList old list → Grows old a
    → IsListed a front none → IsMade new r (after_members b (members_at a front) (members_at a list)) → IsMade new r (after b (expr_at old n))
among_behind b old a new n list front r h p keeps first all =
    turned all (ap2 (λ fs ms. after_members b fs ms) first.is (stay old a keeps list p) ∙ ap (λ e. after b e) (sym h))

-- the steps of a member that is taken, and of those behind it
pub record Taken (b : ℕ) (n0 n1 n2 n3 n4 n5 n6 : Arena) (front x rest o l m k f s : ℕ) (q : Bool) : Type 0 where
  pub g1 : Grows n0 n1
  pub g2 : Grows n1 n2
  pub g3 : Grows n2 n3
  pub g4 : Grows n3 n4
  pub g5 : Grows n4 n5
  pub g6 : Grows n5 n6
  pub others : IsListed n1 o (onto (members_at n0 front) (members_at n0 rest))
  pub all : IsMade n2 l (among_of (members_at n1 o))
  pub first : IsMade n3 m (after b (expr_at n2 x))
  pub begun : IsMade n4 k (chain_of (expr_at n3 m) (expr_at n3 l))
  pub further : IsListed n5 f (member (expr_at n4 x) q (members_at n4 front))
  pub later : IsMade n6 s (after_members b (members_at n5 f) (members_at n5 rest))

begun_is : (b : ℕ) (n0 n1 n2 n3 n4 n5 n6 : Arena) (front x rest o l m k f s : ℕ) (q : Bool) → Taken b n0 n1 n2 n3 n4 n5 n6 front x rest o l m k f s q → IsExpr n0 x
    → expr_at n6 k ≡ chain_of (after b (expr_at n0 x)) (among_of (onto (members_at n0 front) (members_at n0 rest)))
begun_is b n0 n1 n2 n3 n4 n5 n6 front x rest o l m k f s q t p =
    stays n4 n6 (grows_on n4 n5 n6 t.g5 t.g6) k t.begun.is_expr ∙ t.begun.is
    ∙ ap2 chain_of (t.first.is ∙ ap (λ e. after b e) (stays n0 n2 (grows_on n0 n1 n2 t.g1 t.g2) x p)) (stays n2 n3 t.g3 l t.all.is_expr ∙ t.all.is ∙ ap among_of t.others.is)

later_is : (b : ℕ) (n0 n1 n2 n3 n4 n5 n6 : Arena) (front x rest o l m k f s : ℕ) (q : Bool) → Taken b n0 n1 n2 n3 n4 n5 n6 front x rest o l m k f s q → IsExpr n0 x → IsList n0 front → IsList n0 rest
    → expr_at n6 s ≡ after_members b (member (expr_at n0 x) q (members_at n0 front)) (members_at n0 rest)
later_is b n0 n1 n2 n3 n4 n5 n6 front x rest o l m k f s q t p h g =
    let to4 = grows_on n0 n2 n4 (grows_on n0 n1 n2 t.g1 t.g2) (grows_on n2 n3 n4 t.g3 t.g4) in
    t.later.is
    ∙ ap2 (λ fs ms. after_members b fs ms) (t.further.is ∙ ap2 (λ e ms. member e q ms) (stays n0 n4 to4 x p) (stay n0 n4 to4 front h)) (stay n0 n5 (grows_on n0 n4 n5 to4 t.g5) rest g)

pub member_behind : (b : ℕ) (n0 n1 n2 n3 n4 n5 n6 new : Arena) (front list x rest o l m k f s r : ℕ) (q : Bool) → HasFirst n0 list x q rest → IsList n0 front
    → Taken b n0 n1 n2 n3 n4 n5 n6 front x rest o l m k f s q → IsMade new r (either_of (expr_at n6 k) (expr_at n6 s)) → IsMade new r (after_members b (members_at n0 front) (members_at n0 list))
member_behind b n0 n1 n2 n3 n4 n5 n6 new front list x rest o l m k f s r q h g t all =
    turned all (ap2 either_of (begun_is b n0 n1 n2 n3 n4 n5 n6 front x rest o l m k f s q t h.is_expr) (later_is b n0 n1 n2 n3 n4 n5 n6 front x rest o l m k f s q t h.is_expr g h.is_list)
    ∙ ap (λ ms. after_members b (members_at n0 front) ms) (sym h.is))
