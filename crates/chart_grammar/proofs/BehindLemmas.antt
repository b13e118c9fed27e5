-- What is written behind other productions.
use Rattle.std.proofs.Common.{◌≡◌, ℕ, ◌⊎◌, inl, inr, zero, suc, List, [], ◌∷◌, ◌++◌, length, Contains, refl, sym, ap, subst, Some, slice_get}
use Rattle.std.proofs.lemmas.Option.{slice_get_within}
use Rattle.cfg_grammar.specs.declared.production.Production.{Production}
use Rattle.numbered_sets.specs.Numbers.{Keeps}
use Rattle.numbered_sets.proofs.NumberLemmas.{at_front}
use Rattle.grammar_chart.proofs.AddingLemmas.{contains_at, at_contains, contains_kept}
use Rattle.grammar_chart.proofs.StepLemmas.{at_old}
use Rattle.chart_grammar.specs.Written.{WritesBehind}

-- what is at a place of a list to which one is put behind
pub at_behind : {X : Type 0} (xs : List X) (x : X) (n : ℕ) (y : X) → slice_get (xs ++ x ∷ []) n ≡ Some y → (slice_get xs n ≡ Some y) ⊎ ((n ≡ length xs) × (x ≡ y))
at_behind [] x zero y h = let same : x ≡ y = cc in inr (refl, same)
at_behind [] x (suc n) y h = cc
at_behind (z ∷ xs) x zero y h = inl h
at_behind (z ∷ xs) x (suc n) y h = elim (at_behind xs x n y h) [ inl k ↦ inl k | inr e ↦ inr (ap (λ (m : ℕ). suc m) e.0, e.1) ]

pub keeps_pushed : {X : Type 0} (old new : List X) (x : X) → new ≡ old ++ x ∷ [] → Keeps old new
keeps_pushed {X} old new x is n y h = subst (λ (xs : List X). slice_get xs n ≡ Some y) (sym is) (at_front old x n y h)

pub behind_none : (P : Production → Type 0) (old : List Production) → WritesBehind P old old
behind_none P old = record { keeps = λ n x h. h; only = λ k p h. inl (slice_get_within old k p h) }

pub behind_same : (P : Production → Type 0) (old new : List Production) → new ≡ old → WritesBehind P old new
behind_same P old new is = subst (λ (qs : List Production). WritesBehind P old qs) (sym is) (behind_none P old)

pub behind_pushed : (P : Production → Type 0) (old new : List Production) (p : Production) → new ≡ old ++ p ∷ [] → P p → WritesBehind P old new
behind_pushed P old new p is h =
    record {
      keeps = keeps_pushed old new p is;
      only = λ k q at. elim (at_behind old p k q (subst (λ (qs : List Production). slice_get qs k ≡ Some q) is at)) [
        | inl o ↦ inl (slice_get_within old k q o)
        | inr e ↦ inr (subst P e.1 h)
      ];
    }

-- one behind another
pub behind_both : (P Q : Production → Type 0) (old mid new : List Production) → WritesBehind P old mid → ((p : Production) → P p → Q p) → WritesBehind Q mid new → WritesBehind Q old new
behind_both P Q old mid new a more b =
    record {
      keeps = λ n x h. b.keeps n x (a.keeps n x h);
      only = λ k p at. elim (b.only k p at) [
        | inl below ↦ elim (a.only k p (at_old mid new k p b.keeps below at)) [ inl o ↦ inl o | inr h ↦ inr (more p h) ]
        | inr h ↦ inr h
      ];
    }

pub behind_weaker : (P Q : Production → Type 0) (old new : List Production) → ((p : Production) → P p → Q p) → WritesBehind P old new → WritesBehind Q old new
behind_weaker P Q old new more a = record { keeps = a.keeps; only = λ k p at. elim (a.only k p at) [ inl o ↦ inl o | inr h ↦ inr (more p h) ] }

pub behind_keeps : (P : Production → Type 0) (old new : List Production) → WritesBehind P old new → (p : Production) → Contains old p → Contains new p
behind_keeps P old new a p h = contains_kept old new p a.keeps h

pub behind_only : (P : Production → Type 0) (old new : List Production) → WritesBehind P old new → (p : Production) → Contains new p → Contains old p ⊎ P p
behind_only P old new a p h =
    let at = at_contains new p h in
    elim (a.only at.0 p at.1) [
      | inl below ↦ inl (contains_at old at.0 p (at_old old new at.0 p a.keeps below at.1))
      | inr made ↦ inr made
    ]
