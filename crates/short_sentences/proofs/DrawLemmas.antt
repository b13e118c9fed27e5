-- Drawing the next pair.
use Rattle.std.proofs.Common.{◌≡◌, ℕ, inl, inr, Bool, true, false, List, [], Contains, refl, sym, ◌∙◌, ap, subst, arith, Some, slice_get}
use Rattle.short_sentences.specs.declared.queue.Queue.{Queue}
use Rattle.short_sentences.specs.declared.table.Draft.{Draft}
use Rattle.short_sentences.specs.Queues.{waiting, Draws}
use Rattle.short_sentences.specs.Tables.{AreQueued}
use Rattle.short_sentences.specs.Taking.{IsNext, AreAllTaken}

-- what is drawn is no draft that is open
pub skipped : (drafts : List Draft) (old new : Queue) (x : ℕ × ℕ) → AreQueued drafts old → Draws old new x → ((d : Draft) → slice_get drafts x.1 ≡ Some d → d.is_taken ≡ false → d.length ≡ x.0 → ⊥) → AreQueued drafts new
skipped drafts old new x queued draws other n d at is_open = elim (draws.rest (d.length, n) (queued n d at is_open)) [
  | inl same ↦
      let one : n ≡ x.1 = ap (λ (y : ℕ × ℕ). y.1) same in
      absurd (other d (ap (slice_get drafts) (sym one) ∙ at) is_open (ap (λ (y : ℕ × ℕ). y.0) same))
  | inr later ↦ later
]

-- what is drawn is one
pub next_is : (drafts : List Draft) (old new : Queue) (l place : ℕ) (d : Draft) → AreQueued drafts old → Draws old new (l, place) → slice_get drafts place ≡ Some d → d.is_taken ≡ false → d.length ≡ l → IsNext drafts new place
next_is drafts old new l place d queued draws at is_open same =
    record {
      draft = d;
      at = at;
      is_open = is_open;
      least = λ n e there open'. let k = draws.least (e.length, n) (queued n e there open') in omega (arith, k, same);
      others = λ n e there open' other. elim (draws.rest (e.length, n) (queued n e there open')) [
        | inl one ↦ absurd (other (ap (λ (y : ℕ × ℕ). y.1) one))
        | inr later ↦ later
      ];
    }

pub none_open : (drafts : List Draft) (queue : Queue) → AreQueued drafts queue → waiting queue ≡ [] → AreAllTaken drafts
none_open drafts queue queued none n d at = by_test d.is_taken refl
  where
    by_test : (b : Bool) → d.is_taken ≡ b → b ≡ true
    by_test true e = refl
    by_test false e =
        let c : Contains [] (d.length, n) = subst (λ (xs : List (ℕ × ℕ)). Contains xs (d.length, n)) none (queued n d at e) in
        absurd (omega (arith, c.1))
