-- Answers for names, one behind another.
use Rattle.std.proofs.Common.{◌≡◌, ◌∙◌, ◌≤◌, ◌<◌, ◌+◌, ◌-◌, ◌^◌, ℕ, Bool, true, false, List, [], ◌∷◌, ◌++◌, length, take, map, get_or, refl, sym, ap, subst, inl, inr, arith}
use Rattle.std.proofs.lemmas.List.{take_more, map-append}
use Rattle.std.specs.Prelude.{IsTrue, if◌then◌else◌}
use Rattle.io_edge.specs.Counts.{Rises}
use Rattle.io_edge.specs.Told.{Content}
use Rattle.io_edge.proofs.Staying.{stays_same, stays_on}
use Rattle.site_check.specs.declared.line.Line.{Line}
use Rattle.site_check.specs.declared.line.TheConstants.{MISSING_STATUS, FAULT_STATUS}
use Rattle.site_check.specs.Site.{Moment, Grows, Leads, IsAnswered, AreAnswered, is_refused_by, refused_by}

-- a count grows on, and is no less where it stays below the largest number
grows_on : (x y z : ℕ) → Grows x y → Grows y z → Grows x z
grows_on x y z (inl same) (inl still) = inl (still ∙ same)
grows_on x y z (inl same) (inr rises) = inr (omega (arith, same, rises))
grows_on x y z (inr rises) (inl same) = inr (omega (arith, same, rises))
grows_on x y z (inr rises) (inr more) = inr (omega (arith, rises, more))

no_less : (x y : ℕ) → Grows x y → y < 2 ^ 64 - 1 → x ≤ y
no_less x y (inl same) small = omega (arith, same)
no_less x y (inr rises) small = omega (arith, rises, small)

-- a moment leads to itself, and what it leads to leads on
pub leads_same : (m : Moment) → Leads m m
leads_same m = record { stays = stays_same m.content m.content refl; faults = inl refl; misses = inl refl }

pub leads_on : (a b c : Moment) → Leads a b → Leads b c → Leads a c
leads_on a b c first next =
    record {
      stays = stays_on a.content b.content c.content first.stays next.stays;
      faults = grows_on a.faults b.faults c.faults first.faults next.faults;
      misses = grows_on a.misses b.misses c.misses first.misses next.misses;
    }

module _ (May : Content → List ℕ → Line → Type 0) where
  -- one more answer behind others
  pub answered_behind : (a b c : Moment) (names : List (List ℕ)) (lines : List Line) (name : List ℕ) (line : Line)
      → AreAnswered May a b names lines → IsAnswered May b c name line → AreAnswered May a c (names ++ name ∷ []) (lines ++ line ∷ [])
  answered_behind a b c [] [] name line same last = (c, subst (λ (m : Moment). IsAnswered May m c name line) same last, refl)
  answered_behind a b c [] (l ∷ ls) name line none last = absurd none
  answered_behind a b c (n ∷ ns) [] name line none last = absurd none
  answered_behind a b c (n ∷ ns) (l ∷ ls) name line (between, first, rest) last = (between, first, answered_behind between b c ns ls name line rest last)

  -- so many lines as are refused by a status, of which each was counted, were counted
  module _ (status : ℕ) (count : Moment → ℕ) (grows : (a b : Moment) → Leads a b → Grows (count a) (count b))
      (counted : (a b : Moment) (name : List ℕ) (line : Line) → IsAnswered May a b name line → IsTrue (is_refused_by status line) → Rises (count a) (count b)) where
    pub refused_are_counted : (a b : Moment) (names : List (List ℕ)) (lines : List Line) → AreAnswered May a b names lines → count b < 2 ^ 64 - 1
        → refused_by status lines + count a ≤ count b
    refused_are_counted a b [] [] same small = let at : count b ≡ count a = ap count same in omega (arith, at)
    refused_are_counted a b [] (l ∷ ls) none small = absurd none
    refused_are_counted a b (n ∷ ns) [] none small = absurd none
    refused_are_counted a b (n ∷ ns) (l ∷ ls) (between, first, rest) small =
        by (is_refused_by status l) refl (refused_are_counted between b ns ls rest small)
      where
        by : (is : Bool) → is_refused_by status l ≡ is → refused_by status ls + count between ≤ count b → (if is then 1 else 0) + refused_by status ls + count a ≤ count b
        by true e more = let rises : Rises (count a) (count between) = counted a between n l first e in omega (arith, rises, more, small)
        by false e more = let le : count a ≤ count between = no_less (count a) (count between) (grows a between first.leads) (omega (arith, more, small)) in omega (arith, le, more)

  pub missing_counted : (a b : Moment) (names : List (List ℕ)) (lines : List Line) → AreAnswered May a b names lines → b.misses < 2 ^ 64 - 1
      → refused_by MISSING_STATUS lines + a.misses ≤ b.misses
  missing_counted = refused_are_counted MISSING_STATUS (λ (m : Moment). m.misses) (λ a b leads. leads.misses) (λ a b name line is refused. is.missing refused)

  pub failed_counted : (a b : Moment) (names : List (List ℕ)) (lines : List Line) → AreAnswered May a b names lines → b.faults < 2 ^ 64 - 1
      → refused_by FAULT_STATUS lines + a.faults ≤ b.faults
  failed_counted = refused_are_counted FAULT_STATUS (λ (m : Moment). m.faults) (λ a b leads. leads.faults) (λ a b name line is refused. is.failed refused)

-- so each line leads on
pub answered_leads : (May : Content → List ℕ → Line → Type 0) (a b : Moment) (names : List (List ℕ)) (lines : List Line) → AreAnswered May a b names lines → Leads a b
answered_leads May a b [] [] same = subst (λ (m : Moment). Leads a m) (sym same) (leads_same a)
answered_leads May a b [] (l ∷ ls) none = absurd none
answered_leads May a b (n ∷ ns) [] none = absurd none
answered_leads May a b (n ∷ ns) (l ∷ ls) (between, first, rest) = leads_on a between b first.leads (answered_leads May between b ns ls rest)

-- where no line tells a fault, none came
pub calm_throughout : (May : Content → List ℕ → Line → Type 0) (a b : Moment) (names : List (List ℕ)) (lines : List Line) → AreAnswered May a b names lines
    → refused_by FAULT_STATUS lines ≡ 0 → b.faults ≡ a.faults
calm_throughout May a b [] [] same none = ap (λ (m : Moment). m.faults) same
calm_throughout May a b [] (l ∷ ls) never none = absurd never
calm_throughout May a b (n ∷ ns) [] never none = absurd never
calm_throughout May a b (n ∷ ns) (l ∷ ls) (between, first, rest) none = by (is_refused_by FAULT_STATUS l) refl none (calm_throughout May between b ns ls rest)
  where
    by : (is : Bool) → is_refused_by FAULT_STATUS l ≡ is → (if is then 1 else 0) + refused_by FAULT_STATUS ls ≡ 0
        → (refused_by FAULT_STATUS ls ≡ 0 → b.faults ≡ between.faults) → b.faults ≡ a.faults
    by true e more behind = absurd (omega (arith, more))
    by false e more behind = behind (omega (arith, more)) ∙ first.calm e

-- one more name
pub names_more : {X : Type 0} (f : X → List ℕ) (xs : List X) (i : ℕ) (x : X) → i < length xs → x ≡ get_or xs i x → map f (take (i + 1) xs) ≡ map f (take i xs) ++ f x ∷ []
names_more f xs i x lt is = ap (map f) (take_more xs i x lt ∙ ap (λ y. take i xs ++ y ∷ []) (sym is)) ∙ map-append f (take i xs) (x ∷ [])
