-- So much of `<!--`, `<![CDATA[` or `<!DOCTYPE`.
use Rattle.std.proofs.Common.{◌≡◌, ◌≢◌, ◌⊎◌, inl, inr, ℕ, zero, suc, ◌<◌, List, [], ◌∷◌, ◌++◌, drop, take, length, refl, sym, ◌∙◌, ap, subst, arith}
use Rattle.std.specs.Prelude.{codes}
use Rattle.dtd_model.specs.Table.{Table}
use Rattle.page_model.specs.Places.{Place}
use Rattle.page_model.specs.Fronts.{in_opener, IsFrontOf}
use Rattle.front_laws.proofs.Pages.{Leads, leads_computed}

record Front (whole cs : List ℕ) : Type 0 where
  is : cs ≡ take (length cs) whole
  short : length cs < length whole

front : (whole cs : List ℕ) → IsFrontOf whole cs → Front whole cs
front whole [] ([], some, e) = absurd (some refl)
front whole [] (m ∷ ms, some, e) = record { is = refl; short = subst (λ (w : List ℕ). 0 < length w) (sym e) (omega arith) }
front [] (c ∷ cs) (ms, some, e) = cc
front (w ∷ ws) (c ∷ cs) (ms, some, e) =
    let head : w ≡ c = cc in
    let tail : ws ≡ cs ++ ms = cc in
    let f = front ws cs (ms, some, tail) in
    record { is = ap (λ (x : List ℕ). c ∷ x) f.is ∙ ap (λ (x : ℕ). x ∷ take (length cs) ws) (sym head); short = let l = f.short in omega (arith, l) }

abbrev At : Table → Place → List ℕ → ℕ → Type 0
At table place whole n = Leads table place (in_opener (codes "<")) (drop 1 (take n whole)) (in_opener (take n whole))

comments_at : (table : Table) (place : Place) (n : ℕ) → n < 4 → n ≢ 0 → At table place (codes "<!--") n
comments_at table place zero h s = absurd (s refl)
comments_at table place (suc zero) h s = leads_computed refl
comments_at table place (suc (suc zero)) h s = leads_computed refl
comments_at table place (suc (suc (suc zero))) h s = leads_computed refl
comments_at table place (suc (suc (suc (suc n)))) h s = absurd (omega arith)

sections_at : (table : Table) (place : Place) (n : ℕ) → n < 9 → n ≢ 0 → At table place (codes "<![CDATA[") n
sections_at table place zero h s = absurd (s refl)
sections_at table place (suc zero) h s = leads_computed refl
sections_at table place (suc (suc zero)) h s = leads_computed refl
sections_at table place (suc (suc (suc zero))) h s = leads_computed refl
sections_at table place (suc (suc (suc (suc zero)))) h s = leads_computed refl
sections_at table place (suc (suc (suc (suc (suc zero))))) h s = leads_computed refl
sections_at table place (suc (suc (suc (suc (suc (suc zero)))))) h s = leads_computed refl
sections_at table place (suc (suc (suc (suc (suc (suc (suc zero))))))) h s = leads_computed refl
sections_at table place (suc (suc (suc (suc (suc (suc (suc (suc zero)))))))) h s = leads_computed refl
sections_at table place (suc (suc (suc (suc (suc (suc (suc (suc (suc n))))))))) h s = absurd (omega arith)

doctypes_at : (table : Table) (place : Place) (n : ℕ) → n < 9 → n ≢ 0 → At table place (codes "<!DOCTYPE") n
doctypes_at table place zero h s = absurd (s refl)
doctypes_at table place (suc zero) h s = leads_computed refl
doctypes_at table place (suc (suc zero)) h s = leads_computed refl
doctypes_at table place (suc (suc (suc zero))) h s = leads_computed refl
doctypes_at table place (suc (suc (suc (suc zero)))) h s = leads_computed refl
doctypes_at table place (suc (suc (suc (suc (suc zero))))) h s = leads_computed refl
doctypes_at table place (suc (suc (suc (suc (suc (suc zero)))))) h s = leads_computed refl
doctypes_at table place (suc (suc (suc (suc (suc (suc (suc zero))))))) h s = leads_computed refl
doctypes_at table place (suc (suc (suc (suc (suc (suc (suc (suc zero)))))))) h s = leads_computed refl
doctypes_at table place (suc (suc (suc (suc (suc (suc (suc (suc (suc n))))))))) h s = absurd (omega arith)

by_length : (table : Table) (place : Place) (whole : List ℕ) (c : ℕ) (cs : List ℕ) → ((n : ℕ) → n < length whole → n ≢ 0 → At table place whole n) → IsFrontOf whole (c ∷ cs) → Leads table place (in_opener (codes "<")) cs (in_opener (c ∷ cs))
by_length table place whole c cs f h =
    let g = front whole (c ∷ cs) h in
    subst (λ (w : List ℕ). Leads table place (in_opener (codes "<")) (drop 1 w) (in_opener w)) (sym g.is) (f (length (c ∷ cs)) g.short (λ e. omega arith))

pub openers : (table : Table) (place : Place) (c : ℕ) (cs : List ℕ) → IsFrontOf (codes "<!--") (c ∷ cs) ⊎ (IsFrontOf (codes "<![CDATA[") (c ∷ cs) ⊎ IsFrontOf (codes "<!DOCTYPE") (c ∷ cs)) → Leads table place (in_opener (codes "<")) cs (in_opener (c ∷ cs))
openers table place c cs (inl h) = by_length table place (codes "<!--") c cs (comments_at table place) h
openers table place c cs (inr (inl h)) = by_length table place (codes "<![CDATA[") c cs (sections_at table place) h
openers table place c cs (inr (inr h)) = by_length table place (codes "<!DOCTYPE") c cs (doctypes_at table place) h

-- each begins with `<`
pub first_less : (c : ℕ) (cs : List ℕ) → IsFrontOf (codes "<!--") (c ∷ cs) ⊎ (IsFrontOf (codes "<![CDATA[") (c ∷ cs) ⊎ IsFrontOf (codes "<!DOCTYPE") (c ∷ cs)) → c ≡ 60
first_less c cs (inl (others, some, e)) = cc
first_less c cs (inr (inl (others, some, e))) = cc
first_less c cs (inr (inr (others, some, e))) = cc
