-- What the bytes of each run of a table do alike, all bytes up to the last of a run do.
use Rattle.std.proofs.Common.{◌≡◌, ℕ, ◌≤◌, Bool, true, false, ◌&&◌, nat_le, List, [], ◌∷◌, refl, sym, ◌∙◌, ap, arith}
use Rattle.std.specs.Prelude.{⊤, if◌then◌else◌}
use Rattle.std.proofs.lemmas.Bool.{and_parts, leb-true}
use Rattle.echoing_machine.specs.Runs.{last_in}

-- each byte of a run does what its first does
abbrev pub IsRun : {X : Type 0} → (ℕ → X) → ℕ × ℕ → Type 0
IsRun f run = (b : ℕ) → run.0 ≤ b → b ≤ run.1 → f b ≡ f run.0

abbrev pub AreRuns : {X : Type 0} → (ℕ → X) → List (ℕ × ℕ) → Type 0
AreRuns f [] = ⊤
AreRuns f (run ∷ runs) = IsRun f run × AreRuns f runs

pub alike_in : {X : Type 0} (f : ℕ → X) (runs : List (ℕ × ℕ)) → AreRuns f runs → (a b : ℕ) → a ≤ b → b ≤ last_in runs a → f b ≡ f a
alike_in {X} f [] are a b l h = let same : b ≡ a = omega (arith, l, h) in ap f same
alike_in {X} f (run ∷ runs) are a b l h = at (nat_le run.0 a && nat_le a run.1) refl h (λ g. alike_in f runs are.1 a b l g)
  where
    at : (x : Bool) → (nat_le run.0 a && nat_le a run.1) ≡ x → b ≤ (if x then run.1 else last_in runs a) → (b ≤ last_in runs a → f b ≡ f a) → f b ≡ f a
    at true q h more =
        let p = and_parts (nat_le run.0 a) (nat_le a run.1) q in
        let low : run.0 ≤ a = leb-true run.0 a p.0 in
        are.0 b (omega (arith, low, l)) h ∙ sym (are.0 a low (leb-true a run.1 p.1))
    at false q h more = more h

-- the last byte is no earlier one
pub no_earlier : (runs : List (ℕ × ℕ)) (a : ℕ) → a ≤ last_in runs a
no_earlier [] a = omega arith
no_earlier (run ∷ runs) a = at (nat_le run.0 a && nat_le a run.1) refl (no_earlier runs a)
  where
    at : (x : Bool) → (nat_le run.0 a && nat_le a run.1) ≡ x → a ≤ last_in runs a → a ≤ (if x then run.1 else last_in runs a)
    at true q more = leb-true a run.1 (and_parts (nat_le run.0 a) (nat_le a run.1) q).1
    at false q more = more
