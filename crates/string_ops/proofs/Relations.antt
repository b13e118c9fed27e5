-- Rows that are written down for the states below a number, and what they give as a relation from each state.
use Rattle.std.proofs.Common.{◌≡◌, ℕ, ◌+◌, ◌<◌, ◌↔◌, List, [], ◌∷◌, ◌++◌, map, refl, sym, subst}
use Rattle.std.specs.List.{Contains}
use Rattle.std.proofs.lemmas.Bool.{lt-ltb}
use Rattle.std.proofs.lemmas.List.Elements.{All-head, All-tail}
use Rattle.fst_core.specs.declared.out.Out.{Out}
use Rattle.string_ops.specs.Listed.{Rows, Lasts, Follows, AreBytes, byte_of}
use Rattle.string_ops.specs.Plans.{rows_below, lasts_below}

-- what a state gives is what its choices and then the states behind them give
pub record Simulates (states : ℕ) (row : Rows) (last : Lasts) (R : ℕ → List ℕ → List ℕ → Type 0) : Type 0 where
  pub within : (s b : ℕ) (p : ℕ × List Out) → s < states → b < 256 → Contains (row s b) p → p.0 < states
  pub stop_to : (s : ℕ) (own : List Out) → s < states → Contains (last s) own → R s [] (map (byte_of 0) own)
  pub stop_from : (s : ℕ) (out : List ℕ) → s < states → R s [] out → (own : List Out) × Contains (last s) own × (map (byte_of 0) own ≡ out)
  pub step_to : (s b : ℕ) (text rest : List ℕ) (p : ℕ × List Out) → s < states → b < 256 → Contains (row s b) p → R p.0 text rest → R s (b ∷ text) (map (byte_of b) p.1 ++ rest)
  pub step_from : (s b : ℕ) (text out : List ℕ) → s < states → b < 256 → R s (b ∷ text) out → (p : ℕ × List Out) × Contains (row s b) p × (rest : List ℕ) × R p.0 text rest × (map (byte_of b) p.1 ++ rest ≡ out)

pub follows_relation : (states : ℕ) (row : Rows) (last : Lasts) (R : ℕ → List ℕ → List ℕ → Type 0) → Simulates states row last R → (s : ℕ) → s < states → (text out : List ℕ) → AreBytes text → Follows (rows_below states row) (lasts_below states last) s text out ↔ R s text out
follows_relation states row last R is s v [] out bytes =
    let there : lasts_below states last s ≡ last s = rw (lt-ltb s states v) refl in (
      (λ h. subst (λ (o : List ℕ). R s [] o) h.2 (is.stop_to s h.0 v (subst (λ (os : List (List Out)). Contains os h.0) there h.1))),
      (λ r. let (own, among, same) = is.stop_from s out v r in (own, subst (λ (os : List (List Out)). Contains os own) (sym there) among, same)),
    )
follows_relation states row last R is s v (b ∷ text) out bytes =
    let there : rows_below states row s b ≡ row s b = rw (lt-ltb s states v) refl in
    let below : b < 256 = All-head (λ (x : ℕ). x < 256) b text bytes in
    let rest_bytes : AreBytes text = All-tail (λ (x : ℕ). x < 256) b text bytes in (
      (λ h.
          let among : Contains (row s b) h.0 = subst (λ (cs : List (ℕ × List Out)). Contains cs h.0) there h.1 in
          let again : R (h.0).0 text h.2 = (follows_relation states row last R is (h.0).0 (is.within s b h.0 v below among) text h.2 rest_bytes).0 h.3 in
          subst (λ (o : List ℕ). R s (b ∷ text) o) h.4 (is.step_to s b text h.2 h.0 v below among again)),
      (λ r.
          let (p, among, rest, goes, same) = is.step_from s b text out v below r in
          (p, subst (λ (cs : List (ℕ × List Out)). Contains cs p) (sym there) among, rest, (follows_relation states row last R is p.0 (is.within s b p v below among) text rest rest_bytes).1 goes, same)),
    )
