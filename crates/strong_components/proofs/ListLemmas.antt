-- Lists, marks, and the stacks of a search.
use Rattle.std.proofs.Common.{◌≡◌, ◌<◌, ◌≤◌, ◌+◌, ℕ, zero, suc, Bool, true, false, List, [], ◌∷◌, ◌++◌, length, take, set, map, Some, None, slice_get, get_or, inl, inr, refl, sym, ◌∙◌, ap, subst, arith}
use Rattle.std.specs.Prelude.{◌⊎◌, nat_le, if◌then◌else◌}
use Rattle.std.specs.List.{Contains}
use Rattle.std.proofs.lemmas.Option.{same_Some, slice_get_within, slice_get_read}
use Rattle.std.proofs.lemmas.Bool.{leb-false, leb-true}
use Rattle.strong_components.specs.declared.marks.Mark.{Mark}
use Rattle.strong_components.specs.declared.marks.Mark.TheVariants.{New, Open, Done}
use Rattle.strong_components.specs.declared.marks.Waiting.{Waiting}
use Rattle.strong_components.specs.Search.{waits, kept, Rises, IsSorted}

pub none_in : {X : Type 0} {A : Type 0} (c : X) → Contains [] c → A
none_in c h = absurd (let l = h.1 in omega arith)

pub one_of : {X : Type 0} (x : X) (xs : List X) (c : X) → Contains (x ∷ xs) c → (x ≡ c) ⊎ Contains xs c
one_of x xs c (zero, below, is) = inl is
one_of x xs c (suc k, below, is) = inr (k, omega (arith, below), is)

pub first_in : {X : Type 0} (x : X) (xs : List X) → Contains (x ∷ xs) x
first_in x xs = (0, omega arith, refl)

pub later_in : {X : Type 0} (x : X) (xs : List X) (c : X) → Contains xs c → Contains (x ∷ xs) c
later_in x xs c (k, below, is) = (suc k, omega (arith, below), is)

pub new_open : (d p : ℕ) → New d ≡ Open p → ⊥
new_open d p e = cc

pub new_done : (d n : ℕ) → New d ≡ Done n → ⊥
new_done d n e = cc

pub open_done : (p n : ℕ) → Open p ≡ Done n → ⊥
open_done p n e = cc

pub same_open : (p q : ℕ) → Open p ≡ Open q → p ≡ q
same_open p q e = cc

pub same_done : (p q : ℕ) → Done p ≡ Done q → p ≡ q
same_done p q e = cc

-- two marks at one node are one
pub one_mark : (marks : List Mark) (u : ℕ) (m k : Mark) → slice_get marks u ≡ Some m → slice_get marks u ≡ Some k → m ≡ k
one_mark marks u m k a b = same_Some m k (sym a ∙ b)

-- what stands in a part from the front
pub in_take : {X : Type 0} (n : ℕ) (xs : List X) (p : ℕ) (x : X) → p < n → slice_get xs p ≡ Some x → slice_get (take n xs) p ≡ Some x
in_take n [] p x lt e = absurd (let w = slice_get_within [] p x e in omega arith)
in_take zero (y ∷ ys) p x lt e = absurd (omega arith)
in_take (suc n) (y ∷ ys) zero x lt e = e
in_take (suc n) (y ∷ ys) (suc p) x lt e = in_take n ys p x (omega arith) e

pub from_take : {X : Type 0} (n : ℕ) (xs : List X) (p : ℕ) (x : X) → slice_get (take n xs) p ≡ Some x → (p < n) × (slice_get xs p ≡ Some x)
from_take n [] p x e = absurd (let w = slice_get_within [] p x (nothing n p x e) in omega arith)
  where
    nothing : {X : Type 0} (n p : ℕ) (x : X) → slice_get (take n []) p ≡ Some x → slice_get [] p ≡ Some x
    nothing zero p x e = e
    nothing (suc n) p x e = e
from_take zero (y ∷ ys) p x e = absurd (let w = slice_get_within [] p x e in omega arith)
from_take (suc n) (y ∷ ys) zero x e = (omega arith, e)
from_take (suc n) (y ∷ ys) (suc p) x e = let h = from_take n ys p x e in (let l = h.0 in omega arith, h.1)

pub in_front : {X : Type 0} (xs : List X) (y : X) (p : ℕ) (x : X) → slice_get xs p ≡ Some x → slice_get (xs ++ y ∷ []) p ≡ Some x
in_front [] y p x e = absurd (let w = slice_get_within [] p x e in omega arith)
in_front (z ∷ zs) y zero x e = e
in_front (z ∷ zs) y (suc p) x e = in_front zs y p x e

pub at_end : {X : Type 0} (xs : List X) (y : X) → slice_get (xs ++ y ∷ []) (length xs) ≡ Some y
at_end [] y = refl
at_end (z ∷ zs) y = at_end zs y

is_le : (s q : ℕ) → nat_le s q ≡ true → s ≤ q
is_le s q e = leb-true s q e

is_not_le : (s q : ℕ) → nat_le s q ≡ false → q < s
is_not_le s q e = leb-false s q e

-- the beginnings that are kept
pub kept_from : (q : ℕ) (starts : List ℕ) (t : ℕ) → Contains (kept q starts) t → Contains starts t
kept_from q [] t h = h
kept_from q (s ∷ rest) t h = by_case (nat_le s q) (kept_from q rest t) h
  where
    by_case : (b : Bool) → (Contains (kept q rest) t → Contains rest t) → Contains (if b then s ∷ rest else kept q rest) t → Contains (s ∷ rest) t
    by_case true below h = h
    by_case false below h = later_in s rest t (below h)

pub kept_below : (q : ℕ) (starts : List ℕ) (t : ℕ) → Rises starts → Contains (kept q starts) t → t ≤ q
kept_below q [] t r h = none_in t h
kept_below q (s ∷ rest) t r h = by_case (nat_le s q) refl (kept_below q rest t r.1) h
  where
    by_case : (b : Bool) → nat_le s q ≡ b → (Contains (kept q rest) t → t ≤ q) → Contains (if b then s ∷ rest else kept q rest) t → t ≤ q
    by_case true e below h = let le = is_le s q e in elim (one_of s rest t h) [ inl same ↦ omega arith | inr there ↦ let l = r.0 t there in omega arith ]
    by_case false e below h = below h

pub kept_has : (q : ℕ) (starts : List ℕ) (t : ℕ) → Contains starts t → t ≤ q → Contains (kept q starts) t
kept_has q [] t h le = h
kept_has q (s ∷ rest) t h le = by_case (nat_le s q) refl (λ there. kept_has q rest t there le)
  where
    by_case : (b : Bool) → nat_le s q ≡ b → (Contains rest t → Contains (kept q rest) t) → Contains (if b then s ∷ rest else kept q rest) t
    by_case true e below = h
    by_case false e below = let lt = is_not_le s q e in elim (one_of s rest t h) [ inl same ↦ absurd (omega arith) | inr there ↦ below there ]

pub kept_rises : (q : ℕ) (starts : List ℕ) → Rises starts → Rises (kept q starts)
kept_rises q [] r = r
kept_rises q (s ∷ rest) r = by_case (nat_le s q) (kept_rises q rest r.1)
  where
    by_case : (b : Bool) → Rises (kept q rest) → Rises (if b then s ∷ rest else kept q rest)
    by_case true below = r
    by_case false below = below

-- the uppermost is kept
pub kept_all : (q start : ℕ) (starts : List ℕ) → slice_get starts 0 ≡ Some start → start ≤ q → kept q starts ≡ starts
kept_all q start [] e le = refl
kept_all q start (s ∷ rest) e le = by_case (nat_le s q) refl
  where
    by_case : (b : Bool) → nat_le s q ≡ b → (if b then s ∷ rest else kept q rest) ≡ s ∷ rest
    by_case true is = refl
    by_case false is = absurd (let lt = is_not_le s q is in let same = same_Some s start e in omega arith)

pub kept_none : (q : ℕ) (starts : List ℕ) → slice_get starts 0 ≡ None → kept q starts ≡ starts
kept_none q [] e = refl
kept_none q (s ∷ rest) e = absurd (cc)

pub no_first : (starts : List ℕ) → slice_get starts 0 ≡ None → starts ≡ []
no_first [] e = refl
no_first (s ∷ rest) e = absurd (cc)

pub first_of_all : (starts : List ℕ) (start : ℕ) → slice_get starts 0 ≡ Some start → Contains starts start
first_of_all [] start e = absurd (let w = slice_get_within [] 0 start e in omega arith)
first_of_all (s ∷ rest) start e = subst (Contains (s ∷ rest)) (same_Some s start e) (first_in s rest)

pub mark_at : (marks : List Mark) (i : ℕ) (x m : Mark) → i < length marks → x ≡ get_or marks i x → x ≡ m → slice_get marks i ≡ Some m
mark_at marks i x m lt e is = subst (λ (y : Mark). slice_get marks i ≡ Some y) is (slice_get_read marks (length marks) i x refl lt e)

pub kept_fewer : (q : ℕ) (starts : List ℕ) → length (kept q starts) ≤ length starts
kept_fewer q [] = omega arith
kept_fewer q (s ∷ rest) = by_case (nat_le s q) (kept_fewer q rest)
  where
    by_case : (b : Bool) → length (kept q rest) ≤ length rest → length (if b then s ∷ rest else kept q rest) ≤ length (s ∷ rest)
    by_case true h = omega arith
    by_case false h = omega arith

-- the edges that wait
pub waits_cases : (from : ℕ) (targets : List ℕ) (ws : List Waiting) (w : Waiting) → Contains (waits from targets ws) w → Contains ws w ⊎ ((w.from ≡ from) × Contains targets w.to)
waits_cases from [] ws w h = inl h
waits_cases from (t ∷ ts) ws w h = elim (waits_cases from ts (record { from = from; to = t } ∷ ws) w h) [
  | inl old ↦ elim (one_of (record { from = from; to = t }) ws w old) [
    | inl same ↦ inr (sym (ap (λ (x : Waiting). x.from) same), subst (Contains (t ∷ ts)) (ap (λ (x : Waiting). x.to) same) (first_in t ts))
    | inr there ↦ inl there
  ]
  | inr found ↦ inr (found.0, later_in t ts w.to found.1)
]

pub waits_old : (from : ℕ) (targets : List ℕ) (ws : List Waiting) (w : Waiting) → Contains ws w → Contains (waits from targets ws) w
waits_old from [] ws w h = h
waits_old from (t ∷ ts) ws w h = waits_old from ts (record { from = from; to = t } ∷ ws) w (later_in (record { from = from; to = t }) ws w h)

pub waits_new : (from : ℕ) (targets : List ℕ) (ws : List Waiting) (to : ℕ) → Contains targets to → Contains (waits from targets ws) (record { from = from; to = to })
waits_new from [] ws to h = none_in to h
waits_new from (t ∷ ts) ws to h = elim (one_of t ts to h) [
  | inl same ↦ waits_old from ts (record { from = from; to = t } ∷ ws) (record { from = from; to = to }) (subst (λ (x : ℕ). Contains (record { from = from; to = t } ∷ ws) (record { from = from; to = x })) same (first_in (record { from = from; to = t }) ws))
  | inr there ↦ waits_new from ts (record { from = from; to = t } ∷ ws) to there
]

pub waits_sorted : (from : ℕ) (targets : List ℕ) (ws : List Waiting) → ((w : Waiting) → Contains ws w → w.from ≤ from) → IsSorted ws → IsSorted (waits from targets ws)
waits_sorted from [] ws below s = s
waits_sorted from (t ∷ ts) ws below s = waits_sorted from ts (record { from = from; to = t } ∷ ws)
    (λ w h. elim (one_of (record { from = from; to = t }) ws w h) [ inl same ↦ (let e : from ≡ w.from = ap (λ (x : Waiting). x.from) same in omega arith) | inr there ↦ below w there ])
    (below, s)

pub waits_length : (from : ℕ) (targets : List ℕ) (ws : List Waiting) → length (waits from targets ws) ≡ length targets + length ws
waits_length from [] ws = omega arith
waits_length from (t ∷ ts) ws = let h = waits_length from ts (record { from = from; to = t } ∷ ws) in omega arith

-- the uppermost edge leads from no earlier place than all others
pub all_before : (ws : List Waiting) (start : ℕ) → IsSorted ws → ((w : Waiting) (rest : List Waiting) → ws ≡ w ∷ rest → w.from < start) → (x : Waiting) → Contains ws x → x.from < start
all_before [] start s first x h = none_in x h
all_before (w ∷ rest) start s first x h = let lt = first w rest refl in elim (one_of w rest x h) [
  | inl same ↦ (let e : w.from ≡ x.from = ap (λ (y : Waiting). y.from) same in omega arith)
  | inr there ↦ (let l = s.0 x there in omega arith)
]

-- the uppermost beginning is the last
pub all_up_to : (starts : List ℕ) (start : ℕ) → Rises starts → slice_get starts 0 ≡ Some start → (s : ℕ) → Contains starts s → s ≤ start
all_up_to [] start r e s h = none_in s h
all_up_to (t ∷ rest) start r e s h = let same = same_Some t start e in elim (one_of t rest s h) [ inl is ↦ omega arith | inr there ↦ (let l = r.0 s there in omega arith) ]

-- what stands in a list of values of a function
pub of_map : {A B : Type 0} (f : A → B) (xs : List A) (k : ℕ) (y : B) → slice_get (map f xs) k ≡ Some y → (x : A) × (slice_get xs k ≡ Some x) × (f x ≡ y)
of_map f [] k y e = absurd (let w = slice_get_within [] k y e in omega arith)
of_map f (x ∷ xs) zero y e = (x, refl, same_Some (f x) y e)
of_map f (x ∷ xs) (suc k) y e = of_map f xs k y e
