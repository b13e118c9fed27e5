-- Borders of a pattern, and what the longest front is.
use Rattle.std.proofs.Common.{◌≡◌, ◌≢◌, ℕ, zero, suc, ◌+◌, ◌-◌, ◌<◌, ◌≤◌, ◌⊎◌, ◌↔◌, inl, inr, Bool, true, false, List, [], ◌∷◌, ◌++◌, length, take, drop, get_or, nat_eq, slice_index, cond, refl, sym, ◌∙◌, ap, subst, arith, append-nil, append_assoc, add-one}
use Rattle.std.proofs.lemmas.List.{take_more, take_all, drop_all, drop-drop, drop-append-le, take-append-le, take-take, take-append-drop, length-take-le, length-take, length-drop, length-append, append_cancel_left, drop_more, get_or_default, drop_at}
use Rattle.std.proofs.lemmas.Bool.{cases_Bool, cond-true, cond-false, cases_eq, false≢true}
use Rattle.std.specs.Cmp.Lexicographic.{pointwise, bytes_decides}
use Rattle.string_functions.specs.Failure.{IsBorder, IsFailure, AreFailures, longest_front, next_length}

-- after a byte, the text ends in the front of so many bytes
abbrev pub Ends : List ℕ → ℕ → ℕ → ℕ → Type 0
Ends pattern at byte part = take part pattern ≡ drop (at + 1 - part) (take at pattern ++ byte ∷ [])

-- the empty border
pub border_zero : (p : List ℕ) (n : ℕ) → IsBorder p n 0
border_zero p n = (omega arith, sym (drop_all (n - 0) (take n p) (omega (arith, length-take n p))))

-- the whole as its own border
pub border_whole : (p : List ℕ) (n : ℕ) → IsBorder p n n
border_whole p n = let z : n - n ≡ 0 = omega arith in (omega arith, rw z refl)

-- a border of a border is a border, and the other way round
border_cut : (p : List ℕ) (n j i : ℕ) → IsBorder p n j → i ≤ j → drop (n - i) (take n p) ≡ drop (j - i) (take j p)
border_cut p n j i b h =
    let l : j ≤ n = b.0 in
    let s : n - i ≡ (n - j) + (j - i) = omega arith in
    ap (λ (k : ℕ). drop k (take n p)) s ∙ sym (drop-drop (j - i) (n - j) (take n p)) ∙ ap (drop (j - i)) (sym b.1)

pub border_down : (p : List ℕ) (n j i : ℕ) → IsBorder p n j → i ≤ j → IsBorder p n i → IsBorder p j i
border_down p n j i b h c = (h, c.1 ∙ border_cut p n j i b h)

pub border_up : (p : List ℕ) (n j i : ℕ) → IsBorder p n j → i ≤ j → IsBorder p j i → IsBorder p n i
border_up p n j i b h c = (omega (arith, b.0), c.1 ∙ sym (border_cut p n j i b h))

pub push_same : (xs ys : List ℕ) (x y : ℕ) → xs ++ x ∷ [] ≡ ys ++ y ∷ [] → (xs ≡ ys) × (x ≡ y)
push_same [] [] x y e = (refl, cc)
push_same [] (b ∷ []) x y e = cc
push_same [] (b ∷ c ∷ ys) x y e = cc
push_same (a ∷ []) [] x y e = cc
push_same (a ∷ c ∷ xs) [] x y e = cc
push_same (a ∷ xs) (b ∷ ys) x y e =
    let h : a ≡ b = cc in
    let t : xs ++ x ∷ [] ≡ ys ++ y ∷ [] = cc in
    let r = push_same xs ys x y t in
    (ap (λ (z : ℕ). z ∷ xs) h ∙ ap (λ (z : List ℕ). b ∷ z) r.0, r.1)

drop_push : (p : List ℕ) (at i byte : ℕ) → i ≤ at → at ≤ length p → drop (at + 1 - (i + 1)) (take at p ++ byte ∷ []) ≡ drop (at - i) (take at p) ++ byte ∷ []
drop_push p at i byte h l =
    let s : at + 1 - (i + 1) ≡ at - i = omega arith in
    ap (λ (k : ℕ). drop k (take at p ++ byte ∷ [])) s ∙ drop-append-le (at - i) (take at p) (byte ∷ []) (omega (arith, length-take-le at p l))

-- a border and the byte behind it are a longer front
pub ends_from : (p : List ℕ) (at i byte : ℕ) → at < length p → IsBorder p at i → get_or p i 0 ≡ byte → Ends p at byte (i + 1)
ends_from p at i byte l b e =
    let h : i ≤ at = b.0 in
    take_more p i 0 (omega arith) ∙ ap (λ (x : ℕ). take i p ++ x ∷ []) e ∙ ap (λ (x : List ℕ). x ++ byte ∷ []) b.1 ∙ sym (drop_push p at i byte h (omega arith))

pub ends_parts : (p : List ℕ) (at i byte : ℕ) → at < length p → i ≤ at → Ends p at byte (i + 1) → IsBorder p at i × (get_or p i 0 ≡ byte)
ends_parts p at i byte l h e =
    let both : take i p ++ get_or p i 0 ∷ [] ≡ drop (at - i) (take at p) ++ byte ∷ [] = sym (take_more p i 0 (omega arith)) ∙ e ∙ drop_push p at i byte h (omega arith) in
    let r = push_same (take i p) (drop (at - i) (take at p)) (get_or p i 0) byte both in
    ((h, r.0), r.1)

-- with the pattern's own next byte, that is a border of one byte more
pub border_more : (p : List ℕ) (at i : ℕ) → at < length p → IsBorder p at i → get_or p i 0 ≡ get_or p at 0 → IsBorder p (at + 1) (i + 1)
border_more p at i l b e =
    let h : i ≤ at = b.0 in
    (omega arith, ends_from p at i (get_or p at 0) l b e ∙ ap (λ (x : List ℕ). drop (at + 1 - (i + 1)) x) (sym (take_more p at 0 l)))

pub border_less : (p : List ℕ) (at i : ℕ) → at < length p → i ≤ at → IsBorder p (at + 1) (i + 1) → IsBorder p at i × (get_or p i 0 ≡ get_or p at 0)
border_less p at i l h b =
    ends_parts p at i (get_or p at 0) l h (b.1 ∙ ap (λ (x : List ℕ). drop (at + 1 - (i + 1)) x) (take_more p at 0 l))

-- what the longest front is
pub record IsNext (p : List ℕ) (at byte part : ℕ) : Type 0 where
  pub within : part ≤ at + 1
  pub ends : Ends p at byte part
  pub longest : (other : ℕ) → other ≤ at + 1 → Ends p at byte other → other ≤ part

record IsLongest (p : List ℕ) (at byte most part : ℕ) : Type 0 where
  within : part ≤ most
  ends : Ends p at byte part
  longest : (other : ℕ) → other ≤ most → Ends p at byte other → other ≤ part

longest_is : (p : List ℕ) (at byte most : ℕ) → at < length p → most ≤ at + 1 → IsLongest p at byte most (longest_front p at byte most)
longest_is p at byte zero l m =
    record {
      within = omega arith;
      ends = sym (drop_all (at + 1 - 0) (take at p ++ byte ∷ []) (omega (arith, length-append (take at p) (byte ∷ []), length-take at p)));
      longest = λ other h e. h;
    }
longest_is p at byte (suc most) l m =
    let ih = longest_is p at byte most l (omega arith) in
    let test = pointwise nat_eq (take (suc most) p) (drop (at - most) (take at p ++ byte ∷ [])) in
    let s : at + 1 - suc most ≡ at - most = omega arith in
    let decides = bytes_decides (take (suc most) p) (drop (at - most) (take at p ++ byte ∷ [])) in
    elim (cases_Bool test) [
      | inl t ↦
          let e : Ends p at byte (suc most) = decides.0 t ∙ ap (λ (k : ℕ). drop k (take at p ++ byte ∷ [])) (sym s) in
          let is : longest_front p at byte (suc most) ≡ suc most = cond-true test (suc most) (longest_front p at byte most) t in
          subst (λ (x : ℕ). IsLongest p at byte (suc most) x) (sym is) (record { within = omega arith; ends = e; longest = λ other h f. h })
      | inr f ↦
          let is : longest_front p at byte (suc most) ≡ longest_front p at byte most = cond-false test (suc most) (longest_front p at byte most) f in
          let i = ih.within in
          subst (λ (x : ℕ). IsLongest p at byte (suc most) x) (sym is) (
          record {
            within = omega (arith, i);
            ends = ih.ends;
            longest = λ other h g. elim (cases_eq other (suc most)) [
              | inl eq ↦ absurd (false≢true (sym f ∙ decides.1 (subst (λ (x : ℕ). Ends p at byte x) eq g ∙ ap (λ (k : ℕ). drop k (take at p ++ byte ∷ [])) s)))
              | inr ne ↦ ih.longest other (omega arith) g
            ];
          }
          )
    ]

pub next_is : (p : List ℕ) (at byte : ℕ) → at < length p → IsNext p at byte (next_length p at byte)
next_is p at byte l =
    let h = longest_is p at byte (suc at) l (omega arith) in
    let w = h.within in
    record { within = omega (arith, w); ends = h.ends; longest = λ other o e. h.longest other (omega arith) e }

pub next_same : (p : List ℕ) (at byte part : ℕ) → at < length p → IsNext p at byte part → next_length p at byte ≡ part
next_same p at byte part l is =
    let h = next_is p at byte l in
    let a = is.longest (next_length p at byte) h.within h.ends in
    let b = h.longest part is.within is.ends in
    omega (arith, a, b)
