-- The failure function, and what is noted along it.
use Rattle.std.proofs.Common.{◌≡◌, ◌≢◌, ◌==◌, ℕ, zero, suc, ◌+◌, ◌-◌, ◌<◌, ◌≤◌, ◌⊎◌, inl, inr, Bool, true, false, List, [], ◌∷◌, ◌++◌, length, take, drop, get_or, set, replicate, slice_index, cond, eqb, refl, sym, ◌∙◌, ap, subst, arith}
use Rattle.std.proofs.lemmas.List.{length-set, get_or-set_same, get_or-set_other, get_or-replicate, length-append, get_or_append_left, get_or_push, length_push, length-take, drop_all}
use Rattle.std.proofs.lemmas.Bool.{cases_Bool, cases_eq, cases_lt, cond-true, cond-false, eqb-true, eqb-false}
use Rattle.string_functions.specs.Failure.{IsBorder, IsFailure, AreFailures, next_length}
use Rattle.string_functions.proofs.BorderLemmas.{Ends, border_zero, border_whole, border_down, border_up, border_more, border_less, ends_from, ends_parts, IsNext, next_same}

cases_le : (m n : ℕ) → (m ≤ n) ⊎ (n < m)
cases_le m n = elim (cases_lt n m) [ inl h ↦ inr h | inr h ↦ inl h ]

-- what is known while a border is shortened: no border that goes on with the byte is longer
pub record Shortened (p : List ℕ) (at part : ℕ) : Type 0 where
  pub shorter : part < at
  pub border : IsBorder p at part
  pub longest : (other : ℕ) → other < at → IsBorder p at other → get_or p other 0 ≡ get_or p at 0 → other ≤ part

-- the failure of the front that is one byte shorter
pub shortened_first : (p failures : List ℕ) (at : ℕ) → (at ≡ 0 → ⊥) → AreFailures p failures at → Shortened p at (get_or failures (at - 1) 0)
shortened_first p failures at h are =
    let f = get_or failures (at - 1) 0 in
    let e : (at - 1) + 1 ≡ at = omega arith in
    let is : IsFailure p at f = subst (λ (n : ℕ). IsFailure p n f) e (are.each (at - 1) (omega arith)) in
    record { shorter = is.shorter; border = is.border; longest = λ other l b q. is.longest other l b }

pub shortened_more : (p failures : List ℕ) (at part : ℕ) → AreFailures p failures at → Shortened p at part → 0 < part → (get_or p part 0 ≡ get_or p at 0 → ⊥) → Shortened p at (get_or failures (part - 1) 0)
shortened_more p failures at part are s h differs =
    let f = get_or failures (part - 1) 0 in
    let l : part < at = s.shorter in
    let e : (part - 1) + 1 ≡ part = omega arith in
    let is : IsFailure p part f = subst (λ (n : ℕ). IsFailure p n f) e (are.each (part - 1) (omega arith)) in
    let m : f < part = is.shorter in
    record {
      shorter = omega arith;
      border = border_up p at part f s.border (omega arith) is.border;
      longest = λ other o b q.
          let w = s.longest other o b q in
          elim (cases_eq other part) [
            | inl same ↦ absurd (differs (ap (λ (n : ℕ). get_or p n 0) (sym same) ∙ q))
            | inr ne ↦ is.longest other (omega (arith, w)) (border_down p at part other s.border w b)
          ];
    }

-- the border goes on with the byte
pub failure_found : (p : List ℕ) (at part : ℕ) → at < length p → Shortened p at part → get_or p part 0 ≡ get_or p at 0 → IsFailure p (at + 1) (part + 1)
failure_found p at part h s e =
    let l : part < at = s.shorter in
    record {
      shorter = omega arith;
      border = border_more p at part h s.border e;
      longest = longest;
    }
  where
    longest : (other : ℕ) → other < at + 1 → IsBorder p (at + 1) other → other ≤ part + 1
    longest zero o b = omega arith
    longest (suc i) o b =
        let q : suc i ≡ i + 1 = omega arith in
        let r = border_less p at i h (omega arith) (subst (λ (n : ℕ). IsBorder p (at + 1) n) q b) in
        let w = s.longest i (omega arith) r.0 r.1 in
        omega (arith, w)

-- no border goes on with the byte
pub failure_none : (p : List ℕ) (at part : ℕ) → at < length p → Shortened p at part → part ≤ 0 → (get_or p part 0 ≡ get_or p at 0 → ⊥) → IsFailure p (at + 1) 0
failure_none p at part h s z differs =
    record { shorter = omega arith; border = border_zero p (at + 1); longest = longest }
  where
    longest : (other : ℕ) → other < at + 1 → IsBorder p (at + 1) other → other ≤ 0
    longest zero o b = omega arith
    longest (suc i) o b =
        let l : part < at = s.shorter in
        let q : suc i ≡ i + 1 = omega arith in
        let r = border_less p at i h (omega arith) (subst (λ (n : ℕ). IsBorder p (at + 1) n) q b) in
        let w = s.longest i (omega arith) r.0 r.1 in
        let same : i ≡ part = omega (arith, w) in
        absurd (differs (ap (λ (n : ℕ). get_or p n 0) (sym same) ∙ r.1))

pub failures_none : (p : List ℕ) → AreFailures p [] 0
failures_none p = record { len = refl; each = λ k h. absurd (omega arith) }

pub failures_more : (p failures new : List ℕ) (at f : ℕ) → AreFailures p failures at → new ≡ failures ++ f ∷ [] → IsFailure p (at + 1) f → AreFailures p new (at + 1)
failures_more p failures new at f are e is =
    let l : length failures ≡ at = are.len in
    record {
      len = ap length e ∙ length_push failures f ∙ ap (λ (n : ℕ). n + 1) l;
      each = λ k h. elim (cases_eq k at) [
        | inl same ↦
            let g : get_or new k 0 ≡ f = ap (λ (x : List ℕ). get_or x k 0) e ∙ get_or_push failures f 0 k (omega arith) in
            subst (λ (n : ℕ). IsFailure p (n + 1) (get_or new k 0)) (sym same) (subst (λ (n : ℕ). IsFailure p (at + 1) n) (sym g) is)
        | inr ne ↦
            let g : get_or new k 0 ≡ get_or failures k 0 = ap (λ (x : List ℕ). get_or x k 0) e ∙ get_or_append_left failures (f ∷ []) 0 k (omega arith) in
            subst (λ (n : ℕ). IsFailure p (k + 1) n) (sym g) (are.each k (omega arith))
      ];
    }

-- along the borders from the longest on, down to those of `low` bytes, what is read after each byte is noted
pub record Noted (p : List ℕ) (at low : ℕ) (row : List ℕ) : Type 0 where
  pub len : length row ≡ 256
  pub unread : (byte : ℕ) → byte < 256 → get_or row byte 0 ≡ 0 → (i : ℕ) → low ≤ i → i ≤ at → IsBorder p at i → get_or p i 0 ≡ byte → ⊥
  pub read : (byte : ℕ) → byte < 256 → (get_or row byte 0 ≡ 0 → ⊥) → (i : ℕ) × (get_or row byte 0 ≡ i + 1) × (low ≤ i) × IsBorder p at i × (get_or p i 0 ≡ byte) × ((other : ℕ) → i < other → other ≤ at → IsBorder p at other → get_or p other 0 ≡ byte → ⊥)

pub noted_none : (p : List ℕ) (at : ℕ) (row : List ℕ) → row ≡ replicate 256 0 → Noted p at (at + 1) row
noted_none p at row e =
    record {
      len = ap length e;
      unread = λ byte h z i l u b q. absurd (omega arith);
      read = λ byte h nz. absurd (nz (ap (λ (x : List ℕ). get_or x byte 0) e ∙ get_or-replicate 256 byte 0 0 h));
    }

-- one border more is noted
pub noted_more : (p : List ℕ) (at part : ℕ) (row new : List ℕ) → Noted p at (part + 1) row → IsBorder p at part → get_or p part 0 < 256 → new ≡ cond (get_or row (get_or p part 0) 0 == 0) (set row (get_or p part 0) (part + 1)) row → Noted p at part new
noted_more p at part row new n b fits e =
    let own = get_or p part 0 in
    let len : length row ≡ 256 = n.len in
    elim (cases_Bool (get_or row own 0 == 0)) [
      | inl t ↦
          let is : new ≡ set row own (part + 1) = e ∙ cond-true (get_or row own 0 == 0) (set row own (part + 1)) row t in
          let was : get_or row own 0 ≡ 0 = eqb-true (get_or row own 0) 0 t in
          let here : get_or new own 0 ≡ part + 1 = ap (λ (x : List ℕ). get_or x own 0) is ∙ get_or-set_same row own (part + 1) 0 (omega arith) in
          let there : (byte : ℕ) → (byte ≡ own → ⊥) → get_or new byte 0 ≡ get_or row byte 0 = λ byte ne. ap (λ (x : List ℕ). get_or x byte 0) is ∙ get_or-set_other row own byte (part + 1) 0 ne in
          record {
            len = ap length is ∙ length-set row own (part + 1) ∙ len;
            unread = λ byte h z i l u c q. elim (cases_eq byte own) [
              | inl same ↦ let w : part + 1 ≡ 0 = sym here ∙ ap (λ (k : ℕ). get_or new k 0) (sym same) ∙ z in omega arith
              | inr ne ↦ elim (cases_eq i part) [
                | inl same ↦ ne (sym q ∙ ap (λ (k : ℕ). get_or p k 0) same)
                | inr other ↦ n.unread byte h (sym (there byte ne) ∙ z) i (omega arith) u c q
              ]
            ];
            read = λ byte h nz. elim (cases_eq byte own) [
              | inl same ↦ (
                part,
                ap (λ (k : ℕ). get_or new k 0) same ∙ here,
                omega arith,
                b,
                sym same,
                λ other o u c q. n.unread byte h (ap (λ (k : ℕ). get_or row k 0) same ∙ was) other (omega arith) u c q,
              )
              | inr ne ↦
                  let r = n.read byte h (λ z. nz (there byte ne ∙ z)) in
                  let low : part + 1 ≤ r.0 = r.2 in
                  (r.0, there byte ne ∙ r.1, omega arith, r.3, r.4, r.5)
            ];
          }
      | inr f ↦
          let is : new ≡ row = e ∙ cond-false (get_or row own 0 == 0) (set row own (part + 1)) row f in
          let was : get_or row own 0 ≡ 0 → ⊥ = eqb-false (get_or row own 0) 0 f in
          let there : (byte : ℕ) → get_or new byte 0 ≡ get_or row byte 0 = λ byte. ap (λ (x : List ℕ). get_or x byte 0) is in
          record {
            len = ap length is ∙ len;
            unread = λ byte h z i l u c q. elim (cases_eq byte own) [
              | inl same ↦ was (ap (λ (k : ℕ). get_or row k 0) (sym same) ∙ sym (there byte) ∙ z)
              | inr ne ↦ elim (cases_eq i part) [
                | inl same ↦ ne (sym q ∙ ap (λ (k : ℕ). get_or p k 0) same)
                | inr other ↦ n.unread byte h (sym (there byte) ∙ z) i (omega arith) u c q
              ]
            ];
            read = λ byte h nz.
                let r = n.read byte h (λ z. nz (there byte ∙ z)) in
                let low : part + 1 ≤ r.0 = r.2 in
                (r.0, there byte ∙ r.1, omega arith, r.3, r.4, r.5);
          }
    ]

-- between a border and its failure there is none
pub noted_down : (p : List ℕ) (at part f : ℕ) (row : List ℕ) → Noted p at part row → IsBorder p at part → IsFailure p part f → Noted p at (f + 1) row
noted_down p at part f row n b is =
    let s : f < part = is.shorter in
    record {
      len = n.len;
      unread = λ byte h z i l u c q. elim (cases_le part i) [
        | inl over ↦ n.unread byte h z i over u c q
        | inr under ↦
            let w = is.longest i under (border_down p at part i b (omega arith) c) in
            omega (arith, w)
      ];
      read = λ byte h nz.
          let r = n.read byte h nz in
          let low : part ≤ r.0 = r.2 in
          (r.0, r.1, omega arith, r.3, r.4, r.5);
    }

-- when all borders are noted, the row says what is read after each byte
pub noted_all : (p : List ℕ) (at : ℕ) (row : List ℕ) → at < length p → Noted p at 0 row → (byte : ℕ) → byte < 256 → get_or row byte 0 ≡ next_length p at byte
noted_all p at row l n byte h = elim (cases_eq (get_or row byte 0) 0) [
  | inl z ↦ z ∙ sym (next_same p at byte 0 l (unread z))
  | inr nz ↦
      let r = n.read byte h nz in
      r.1 ∙ sym (next_same p at byte (r.0 + 1) l (found r.0 r.3 r.4 r.5))
]
  where
    unread : get_or row byte 0 ≡ 0 → IsNext p at byte 0
    unread z = record {
      within = omega arith;
      ends = sym (drop_all (at + 1 - 0) (take at p ++ byte ∷ []) (omega (arith, length-append (take at p) (byte ∷ []), length-take at p)));
      longest = longest;
    }
      where
        longest : (other : ℕ) → other ≤ at + 1 → Ends p at byte other → other ≤ 0
        longest zero o e = omega arith
        longest (suc i) o e =
            let q : suc i ≡ i + 1 = omega arith in
            let r = ends_parts p at i byte l (omega arith) (subst (λ (k : ℕ). Ends p at byte k) q e) in
            absurd (n.unread byte h z i (omega arith) (omega arith) r.0 r.1)

    found : (i : ℕ) → IsBorder p at i → get_or p i 0 ≡ byte → ((other : ℕ) → i < other → other ≤ at → IsBorder p at other → get_or p other 0 ≡ byte → ⊥) → IsNext p at byte (i + 1)
    found i b e above = record { within = omega (arith, b.0); ends = ends_from p at i byte l b e; longest = longest }
      where
        longest : (other : ℕ) → other ≤ at + 1 → Ends p at byte other → other ≤ i + 1
        longest zero o f = omega arith
        longest (suc k) o f =
            let q : suc k ≡ k + 1 = omega arith in
            let r = ends_parts p at k byte l (omega arith) (subst (λ (m : ℕ). Ends p at byte m) q f) in
            elim (cases_le k i) [
              | inl under ↦ omega arith
              | inr over ↦ absurd (above k over (omega arith) r.0 r.1)
            ]

-- the failure of a front
pub failure_at : (p failures : List ℕ) (count part : ℕ) → AreFailures p failures count → 0 < part → part ≤ count → IsFailure p part (get_or failures (part - 1) 0)
failure_at p failures count part are h l =
    let e : (part - 1) + 1 ≡ part = omega arith in
    subst (λ (n : ℕ). IsFailure p n (get_or failures (part - 1) 0)) e (are.each (part - 1) (omega arith))

-- while a front is shortened after a byte: no border that goes on with the byte is longer
pub record Falling (p : List ℕ) (at byte part : ℕ) : Type 0 where
  pub border : IsBorder p at part
  pub above : (other : ℕ) → part < other → other ≤ at → IsBorder p at other → get_or p other 0 ≡ byte → ⊥

pub falling_first : (p : List ℕ) (at byte : ℕ) → Falling p at byte at
falling_first p at byte = record { border = border_whole p at; above = λ other o l b e. absurd (omega arith) }

pub falling_more : (p failures : List ℕ) (at byte part count : ℕ) → AreFailures p failures count → at ≤ count → Falling p at byte part → 0 < part → (get_or p part 0 ≡ byte → ⊥) → Falling p at byte (get_or failures (part - 1) 0)
falling_more p failures at byte part count are small f h differs =
    let own = get_or failures (part - 1) 0 in
    let l : part ≤ at = f.border.0 in
    let is : IsFailure p part own = failure_at p failures count part are h (omega arith) in
    let m : own < part = is.shorter in
    record {
      border = border_up p at part own f.border (omega arith) is.border;
      above = λ other o u b e. elim (cases_eq other part) [
        | inl same ↦ differs (ap (λ (n : ℕ). get_or p n 0) (sym same) ∙ e)
        | inr ne ↦ elim (cases_le part other) [
          | inl over ↦ f.above other (omega arith) u b e
          | inr under ↦ let w = is.longest other under (border_down p at part other f.border (omega arith) b) in absurd (omega (arith, w))
        ]
      ];
    }

pub falling_found : (p : List ℕ) (at byte part : ℕ) → at < length p → Falling p at byte part → get_or p part 0 ≡ byte → part + 1 ≡ next_length p at byte
falling_found p at byte part l f e =
    sym (next_same p at byte (part + 1) l (record { within = omega (arith, f.border.0); ends = ends_from p at part byte l f.border e; longest = longest }))
  where
    longest : (other : ℕ) → other ≤ at + 1 → Ends p at byte other → other ≤ part + 1
    longest zero o g = omega arith
    longest (suc k) o g =
        let q : suc k ≡ k + 1 = omega arith in
        let r = ends_parts p at k byte l (omega arith) (subst (λ (m : ℕ). Ends p at byte m) q g) in
        elim (cases_le k part) [
          | inl under ↦ omega arith
          | inr over ↦ absurd (f.above k over (omega arith) r.0 r.1)
        ]

pub falling_none : (p : List ℕ) (at byte part : ℕ) → at < length p → Falling p at byte part → part ≤ 0 → (get_or p part 0 ≡ byte → ⊥) → 0 ≡ next_length p at byte
falling_none p at byte part l f z differs =
    sym (next_same p at byte 0 l (record {
      within = omega arith;
      ends = sym (drop_all (at + 1 - 0) (take at p ++ byte ∷ []) (omega (arith, length-append (take at p) (byte ∷ []), length-take at p)));
      longest = longest;
    }))
  where
    longest : (other : ℕ) → other ≤ at + 1 → Ends p at byte other → other ≤ 0
    longest zero o g = omega arith
    longest (suc k) o g =
        let q : suc k ≡ k + 1 = omega arith in
        let r = ends_parts p at k byte l (omega arith) (subst (λ (m : ℕ). Ends p at byte m) q g) in
        elim (cases_le k part) [
          | inl under ↦ let same : k ≡ part = omega arith in absurd (differs (ap (λ (n : ℕ). get_or p n 0) (sym same) ∙ r.1))
          | inr over ↦ absurd (f.above k over (omega arith) r.0 r.1)
        ]
