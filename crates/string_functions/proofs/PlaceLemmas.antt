-- A pattern is found where its whole is read first.
use Rattle.std.proofs.Common.{◌≡◌, ℕ, zero, suc, ◌+◌, ◌-◌, ◌<◌, ◌≤◌, ◌⊎◌, inl, inr, Bool, true, false, if◌then◌else◌, List, [], ◌∷◌, ◌++◌, length, take, drop, get_or, nat_eq, Option, Some, None, refl, sym, ◌∙◌, ap, subst, arith}
use Rattle.std.proofs.lemmas.List.{take_more, drop-drop, drop-append-le, length-take-le, length-take, length-drop, take_all}
use Rattle.std.proofs.lemmas.Bool.{cases_Bool, cases_eq, cases_lt, false≢true}
use Rattle.std.specs.List.{starts_with}
use Rattle.std.specs.Cmp.Lexicographic.{pointwise, bytes_decides}
use Rattle.string_functions.specs.Failure.{next_length}
use Rattle.string_functions.specs.Place.{first_place, one_later}
use Rattle.string_functions.proofs.BorderLemmas.{Ends, IsNext, next_is, push_same}

-- the first n bytes of a text end in the first k of the pattern
abbrev pub EndsIn : List ℕ → List ℕ → ℕ → ℕ → Type 0
EndsIn p text n k = take k p ≡ drop (n - k) (take n text)

-- so much of the pattern is read at the end of the first n bytes, and the whole of it nowhere in them
pub record Reads (p text : List ℕ) (n part : ℕ) : Type 0 where
  pub less : part < length p
  pub within : part ≤ n
  pub ends : EndsIn p text n part
  pub longest : (k : ℕ) → k ≤ n → k ≤ length p → EndsIn p text n k → k ≤ part
  pub nowhere : (i : ℕ) → i + length p ≤ n → starts_with nat_eq (drop i text) p ≡ false

pub reads_none : (p text : List ℕ) → 0 < length p → Reads p text 0 0
reads_none p text h = record { less = h; within = omega arith; ends = refl; longest = λ k l m e. l; nowhere = λ i l. absurd (omega arith) }

pushed : (p text : List ℕ) (n part : ℕ) → n < length text → part ≤ n → EndsIn p text n part → take part p ++ get_or text n 0 ∷ [] ≡ drop (n - part) (take (n + 1) text)
pushed p text n part h l e =
    ap (λ (bs : List ℕ). bs ++ get_or text n 0 ∷ []) e
    ∙ sym (drop-append-le (n - part) (take n text) (get_or text n 0 ∷ []) (omega (arith, length-take-le n text (omega arith))))
    ∙ ap (drop (n - part)) (sym (take_more text n 0 h))

cut : (p text : List ℕ) (n part k : ℕ) → n < length text → part ≤ n → EndsIn p text n part → k ≤ part + 1 → drop (part + 1 - k) (take part p ++ get_or text n 0 ∷ []) ≡ drop (n + 1 - k) (take (n + 1) text)
cut p text n part k h l e m =
    let s : (n - part) + (part + 1 - k) ≡ n + 1 - k = omega arith in
    ap (drop (part + 1 - k)) (pushed p text n part h l e) ∙ drop-drop (part + 1 - k) (n - part) (take (n + 1) text) ∙ ap (λ (m : ℕ). drop m (take (n + 1) text)) s

longer : (p text : List ℕ) (n part next : ℕ) → n < length text → Reads p text n part → IsNext p part (get_or text n 0) next → (k : ℕ) → k ≤ n + 1 → k ≤ length p → EndsIn p text (n + 1) k → k ≤ next
longer p text n part next h r is zero l m e = omega arith
longer p text n part next h r is (suc i) l m e =
    let q : suc i ≡ i + 1 = omega arith in
    let s : n + 1 - suc i ≡ n - i = omega arith in
    let front : take (suc i) p ≡ take i p ++ get_or p i 0 ∷ [] = ap (λ (k : ℕ). take k p) q ∙ take_more p i 0 (omega arith) in
    let back : drop (n + 1 - suc i) (take (n + 1) text) ≡ drop (n - i) (take n text) ++ get_or text n 0 ∷ [] =
    ap (λ (k : ℕ). drop k (take (n + 1) text)) s ∙ ap (drop (n - i)) (take_more text n 0 h) ∙ drop-append-le (n - i) (take n text) (get_or text n 0 ∷ []) (omega (arith, length-take-le n text (omega arith))) in
    let same = push_same (take i p) (drop (n - i) (take n text)) (get_or p i 0) (get_or text n 0) (sym front ∙ e ∙ back) in
    let low = r.longest i (omega arith) (omega arith) same.0 in
    let w = r.within in
    let ends : Ends p part (get_or text n 0) (suc i) = e ∙ sym (cut p text n part (suc i) h w r.ends (omega arith)) in
    is.longest (suc i) (omega arith) ends

swap : (i m : ℕ) (xs : List ℕ) → take m (drop i xs) ≡ drop i (take (i + m) xs)
swap zero m xs = let s : m ≡ 0 + m = omega arith in ap (λ (k : ℕ). take k xs) s
swap (suc i) zero [] = let s : suc i + 0 ≡ suc (i + 0) = omega arith in rw s refl
swap (suc i) (suc m) [] = let s : suc i + suc m ≡ suc (i + suc m) = omega arith in rw s refl
swap (suc i) m (x ∷ xs) = let s : suc i + m ≡ suc (i + m) = omega arith in rw s (swap i m xs)

occurs : (p text : List ℕ) (i : ℕ) → starts_with nat_eq (drop i text) p ≡ true → p ≡ drop i (take (i + length p) text)
occurs p text i e = (bytes_decides p (take (length p) (drop i text))).0 e ∙ swap i (length p) text

occurs_back : (p text : List ℕ) (i : ℕ) → p ≡ drop i (take (i + length p) text) → starts_with nat_eq (drop i text) p ≡ true
occurs_back p text i e = (bytes_decides p (take (length p) (drop i text))).1 (e ∙ sym (swap i (length p) text))

pub reads_more : (p text : List ℕ) (n part next : ℕ) → n < length text → Reads p text n part → IsNext p part (get_or text n 0) next → (next ≡ length p → ⊥) → Reads p text (n + 1) next
reads_more p text n part next h r is other =
    let l = r.less in
    let w = r.within in
    let u = is.within in
    record {
      less = omega arith;
      within = omega arith;
      ends = is.ends ∙ cut p text n part next h w r.ends u;
      longest = longer p text n part next h r is;
      nowhere = nowhere;
    }
  where
    nowhere : (i : ℕ) → i + length p ≤ n + 1 → starts_with nat_eq (drop i text) p ≡ false
    nowhere i m = elim (cases_lt (i + length p) (n + 1)) [
      | inl under ↦ r.nowhere i (omega arith)
      | inr over ↦ elim (cases_Bool (starts_with nat_eq (drop i text) p)) [
        | inr apart ↦ apart
        | inl here ↦
            let at : i + length p ≡ n + 1 = omega arith in
            let back : n + 1 - length p ≡ i = omega arith in
            let ends : EndsIn p text (n + 1) (length p) =
            take_all (length p) p (omega arith) ∙ occurs p text i here ∙ ap (λ (k : ℕ). drop i (take k text)) at ∙ ap (λ (k : ℕ). drop k (take (n + 1) text)) (sym back) in
            let w = longer p text n part next h r is (length p) (omega arith) (omega arith) ends in
            let l = r.less in
            let u = is.within in
            absurd (other (omega arith))
      ]
    ]

first_at : (p text : List ℕ) (i : ℕ) → 0 < length p → i + length p ≤ length text → starts_with nat_eq (drop i text) p ≡ true → ((j : ℕ) → j < i → starts_with nat_eq (drop j text) p ≡ false) → first_place p text ≡ Some i
first_at p [] i h l e before = absurd (omega arith)
first_at p (b ∷ bs) zero h l e before = ap (λ (t : Bool). if t then Some 0 else one_later (first_place p bs)) e
first_at p (b ∷ bs) (suc i) h l e before =
    ap (λ (t : Bool). if t then Some 0 else one_later (first_place p bs)) (before 0 (omega arith))
    ∙ ap one_later (first_at p bs i h (omega arith) e (λ j g. before (suc j) (omega arith)))

too_short : (p text : List ℕ) → length text < length p → starts_with nat_eq text p ≡ false
too_short p text h = elim (cases_Bool (starts_with nat_eq text p)) [
  | inr apart ↦ apart
  | inl here ↦
      let same : p ≡ take (length p) text = (bytes_decides p (take (length p) text)).0 here in
      let count : length p ≡ length (take (length p) text) = ap length same in
      absurd (omega (arith, count, length-take (length p) text))
]

first_none : (p text : List ℕ) → 0 < length p → ((i : ℕ) → i + length p ≤ length text → starts_with nat_eq (drop i text) p ≡ false) → first_place p text ≡ None
first_none p [] h away = refl
first_none p (b ∷ bs) h away =
    let here : starts_with nat_eq (b ∷ bs) p ≡ false = elim (cases_lt (length (b ∷ bs)) (length p)) [
      | inl short ↦ too_short p (b ∷ bs) short
      | inr room ↦ away 0 (omega arith)
    ] in
    ap (λ (t : Bool). if t then Some 0 else one_later (first_place p bs)) here ∙ ap one_later (first_none p bs h (λ i l. away (suc i) (omega arith)))

-- the whole is read
pub found : (p text : List ℕ) (n part next : ℕ) → n < length text → Reads p text n part → IsNext p part (get_or text n 0) next → next ≡ length p → Some (n + 1 - next) ≡ first_place p text
found p text n part next h r is full =
    let l = r.less in
    let w = r.within in
    let u = is.within in
    let i : ℕ = n + 1 - length p in
    let at : i + length p ≡ n + 1 = omega arith in
    let ends : EndsIn p text (n + 1) (length p) = subst (λ (k : ℕ). EndsIn p text (n + 1) k) full (is.ends ∙ cut p text n part next h w r.ends u) in
    let here : p ≡ drop i (take (i + length p) text) = sym (take_all (length p) p (omega arith)) ∙ ends ∙ ap (λ (k : ℕ). drop i (take k text)) (sym at) in
    ap (λ (k : ℕ). Some (n + 1 - k)) full ∙ sym (first_at p text i (omega arith) (omega arith) (occurs_back p text i here) (λ j g. r.nowhere j (omega arith)))

pub not_found : (p text : List ℕ) (n part : ℕ) → length text ≤ n → n ≤ length text → Reads p text n part → None ≡ first_place p text
not_found p text n part over under r =
    let l = r.less in
    sym (first_none p text (omega arith) (λ i m. r.nowhere i (omega arith)))
