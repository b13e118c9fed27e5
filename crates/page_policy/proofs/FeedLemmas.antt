-- A file without one line feed at its end.
use Rattle.std.proofs.Common.{◌≡◌, ◌∙◌, ◌≤◌, ◌-◌, ◌==◌, ℕ, suc, Bool, true, false, List, [], ◌∷◌, length, take, refl, sym, ap, arith, eqb-true}
use Rattle.std.specs.Prelude.{slice_index, if◌then◌else◌}
use Rattle.page_policy.specs.Grammar.{body_of}

last_of : (bytes : List ℕ) → 1 ≤ length bytes → suc (length bytes) - 1 ≡ suc (length bytes - 1)
last_of bytes some = omega (arith, some)

pub feed_cut : (file : List ℕ) → 1 ≤ length file → slice_index file (length file - 1) ≡ 10 → take (length file - 1) file ≡ body_of file
feed_cut [] some e = absurd (omega (arith, some))
feed_cut (byte ∷ []) some e = rw e refl
feed_cut (byte ∷ next ∷ bytes) some e =
    let at = last_of (next ∷ bytes) (omega arith) in
    let rest : slice_index (next ∷ bytes) (length (next ∷ bytes) - 1) ≡ 10 = sym (ap (slice_index (byte ∷ next ∷ bytes)) at) ∙ e in
    ap (λ (n : ℕ). take n (byte ∷ next ∷ bytes)) at ∙ ap (λ (line : List ℕ). byte ∷ line) (feed_cut (next ∷ bytes) (omega arith) rest)

pub feed_kept : (file : List ℕ) → 1 ≤ length file → (slice_index file (length file - 1) ≡ 10 → ⊥) → file ≡ body_of file
feed_kept [] some not = absurd (omega (arith, some))
feed_kept (byte ∷ []) some not = by (byte == 10) refl where
  by : (b : Bool) → (byte == 10) ≡ b → byte ∷ [] ≡ body_of (byte ∷ [])
  by true e = absurd (not (eqb-true byte 10 e))
  by false e = rw e refl
feed_kept (byte ∷ next ∷ bytes) some not =
    let at = last_of (next ∷ bytes) (omega arith) in
    ap (λ (line : List ℕ). byte ∷ line) (feed_kept (next ∷ bytes) (omega arith) (λ e. not (ap (slice_index (byte ∷ next ∷ bytes)) at ∙ e)))
