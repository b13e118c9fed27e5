-- What noting a draft of a pair comes to.
use Rattle.std.specs.Prelude.{◌≡◌, ◌<◌, ◌≤◌, ℕ, List, [], ◌∷◌, ◌++◌, length, set, Some, slice_get, Contains}
use Rattle.summary_decision.specs.declared.table.Entry.{Entry}
use Rattle.short_sentences.specs.declared.queue.Queue.{Queue}
use Rattle.short_sentences.specs.declared.table.Draft.{Draft}
use Rattle.short_sentences.specs.Queues.{Puts}

-- the pair is new; or the draft is shorter than the one before, in whose place it is put; or it is not
pub data Notes (entry : Entry) (draft : Draft) (found more : List Entry) (drafts after : List Draft) (queue then' : Queue) : Type 0 where
  is_new : (Contains found entry → ⊥) → more ≡ found ++ entry ∷ [] → after ≡ drafts ++ draft ∷ []
      → Puts queue then' draft.length (length found)
      → Notes entry draft found more drafts after queue then'
  is_shorter : (place : ℕ) (before : Draft) → slice_get found place ≡ Some entry → slice_get drafts place ≡ Some before
      → draft.length < before.length → more ≡ found → after ≡ set drafts place draft → Puts queue then' draft.length place
      → Notes entry draft found more drafts after queue then'
  is_longer : (place : ℕ) (before : Draft) → slice_get found place ≡ Some entry → slice_get drafts place ≡ Some before
      → before.length ≤ draft.length → more ≡ found → after ≡ drafts → then' ≡ queue → Notes entry draft found more drafts after queue then'
