-- Counting: where each of so many numbers is paid for by something that pays for no other, there are as many things.
use Rattle.std.proofs.Common.{◌≡◌, ℕ, zero, suc, ◌+◌, ◌<◌, ◌≤◌, ◌⊎◌, inl, inr, List, [], ◌∷◌, length, Contains, refl, sym, ◌∙◌, ap, arith, Some}
use Rattle.std.specs.List.{All}
use Rattle.std.proofs.lemmas.List.Elements.{All-nil, All-cons, All-contains, All-weaker}
use Rattle.std.proofs.lemmas.Bool.{cases_lt}
use Rattle.numbered_sets.specs.Numbers.{AreDifferent}
use Rattle.grammar_chart.proofs.AddingLemmas.{contains_at}

module _ {U : Type 0} where
  -- there are at least so many of these
  abbrev pub Has : (U → Type 0) → ℕ → Type 0
  Has P n = (us : List U) × AreDifferent us × All P us × (n ≤ length us)

  different_more : (us : List U) (u : U) → AreDifferent us → (Contains us u → ⊥) → AreDifferent (u ∷ us)
  different_more us u d none zero zero x a b = refl
  different_more us u d none zero (suc j) x a b = let same : u ≡ x = cc in absurd (none (contains_at us j u (b ∙ ap (λ (y : U). Some y) (sym same))))
  different_more us u d none (suc i) zero x a b = let same : u ≡ x = cc in absurd (none (contains_at us i u (a ∙ ap (λ (y : U). Some y) (sym same))))
  different_more us u d none (suc i) (suc j) x a b = ap (λ (n : ℕ). suc n) (d i j x a b)

  pub heavier : (P : U → Type 0) (m n : ℕ) → Has P m → Has P n → (w : ℕ) × Has P w × (m ≤ w) × (n ≤ w)
  heavier P m n a b = elim (cases_lt m n) [
    | inl less ↦ (n, b, omega arith, omega arith)
    | inr more ↦ (m, a, omega arith, more)
  ]

  module _ (P : U → Type 0) where
    -- these pay for numbers below the bound
    record Pay (R : ℕ → U → Type 0) (n : ℕ) (us : List U) : Type 0 where
      different : AreDifferent us
      all : All P us
      pays : All (λ (u : U). (i : ℕ) × (i < n) × R i u) us

    pay_more : (R : ℕ → U → Type 0) (n : ℕ) (us : List U) → ((i j : ℕ) (u : U) → R i u → R j u → i ≡ j) → Pay R n us → (u : U) → R n u → P u → Pay R (suc n) (u ∷ us)
    pay_more R n us one p u r is =
        let wider = All-map_more n us p.pays in
        record {
          different = different_more us u p.different
              (λ h. let o = All-contains (λ (v : U). (i : ℕ) × (i < n) × R i v) us u p.pays h in let e = one o.0 n u o.2 r in let b = o.1 in absurd (omega (arith, e, b)));
          all = All-cons P u us is p.all;
          pays = All-cons (λ (v : U). (i : ℕ) × (i < suc n) × R i v) u us (n, omega arith, r) wider;
        }
      where
        All-map_more : (n : ℕ) (vs : List U) → All (λ (v : U). (i : ℕ) × (i < n) × R i v) vs → All (λ (v : U). (i : ℕ) × (i < suc n) × R i v) vs
        All-map_more n vs h = All-weaker (λ (v : U). (i : ℕ) × (i < n) × R i v) (λ (v : U). (i : ℕ) × (i < suc n) × R i v) (λ v o. (o.0, (let b = o.1 in omega (arith, b)), o.2)) vs h

    pay_wider : (R : ℕ → U → Type 0) (n : ℕ) (us : List U) → Pay R n us → Pay R (suc n) us
    pay_wider R n us p =
        record {
          different = p.different;
          all = p.all;
          pays = All-weaker (λ (v : U). (i : ℕ) × (i < n) × R i v) (λ (v : U). (i : ℕ) × (i < suc n) × R i v) (λ v o. (o.0, (let b = o.1 in omega (arith, b)), o.2)) us p.pays;
        }

    module _ (R Q : ℕ → U → Type 0) (one : (i j : ℕ) (u : U) → R i u → R j u → i ≡ j) (other : (i j : ℕ) (u : U) → Q i u → Q j u → i ≡ j) where
      two : (n : ℕ) → ((i : ℕ) → i < n → ((u : U) × R i u × P u) ⊎ ((u : U) × Q i u × P u)) → (us : List U) × (vs : List U) × Pay R n us × Pay Q n vs × (n ≤ length us + length vs)
      two zero all = (
        [],
        [],
        record { different = λ i j x a b. cc; all = All-nil P; pays = All-nil (λ (u : U). (i : ℕ) × (i < 0) × R i u) },
        record { different = λ i j x a b. cc; all = All-nil P; pays = All-nil (λ (u : U). (i : ℕ) × (i < 0) × Q i u) },
        omega arith,
      )
      two (suc n) all =
          let t = two n (λ i h. all i (omega (arith, h))) in
          let long = t.4 in
          elim (all n (omega arith)) [
            | inl r ↦ (r.0 ∷ t.0, t.1, pay_more R n t.0 one t.2 r.0 r.1 r.2, pay_wider Q n t.1 t.3, omega (arith, long))
            | inr q ↦ (t.0, q.0 ∷ t.1, pay_wider R n t.0 t.2, pay_more Q n t.1 other t.3 q.0 q.1 q.2, omega (arith, long))
          ]

      -- so many are at most twice as many as what pays for them in the one way or in the other
      pub counted : (n : ℕ) → ((i : ℕ) → i < n → ((u : U) × R i u × P u) ⊎ ((u : U) × Q i u × P u)) → (w : ℕ) × Has P w × (n ≤ w + w)
      counted n all =
          let t = two n all in
          let long = t.4 in
          let h = heavier P (length t.0) (length t.1) (t.0, t.2.different, t.2.all, omega arith) (t.1, t.3.different, t.3.all, omega arith) in
          let a = h.2 in
          let b = h.3 in
          (h.0, h.1, omega (arith, long, a, b))
