-- Taking up a pair.
use Rattle.std.specs.Prelude.{◌≡◌, ◌≢◌, ◌+◌, ◌≤◌, ℕ, Bool, true, false, List, [], ◌∷◌, ◌++◌, length, get_or, set, Some, slice_get, Contains}
use Rattle.text_base.specs.declared.page_token.PageToken.{PageToken}
use Rattle.text_base.specs.declared.numbers.Nt as nt
use Rattle.cfg_grammar.specs.declared.production.Production.{Production}
use Rattle.derivations.specs.Nodes.{parts_length}
use Rattle.numbered_sets.specs.declared.chains.Chains.{Chains}
use Rattle.summary_decision.specs.declared.table.Entry.{Entry}
use Rattle.short_sentences.specs.declared.queue.Queue.{Queue}
use Rattle.short_sentences.specs.declared.table.Draft.{Draft}
use Rattle.short_sentences.specs.declared.table.Table.{Table}
use Rattle.short_sentences.specs.declared.taken.Taken.{Taken}
use Rattle.short_sentences.specs.Queues.{waiting}
use Rattle.short_sentences.specs.Closed.{IsClosed}
use Rattle.short_sentences.specs.Tables.{known, IsReached, IsTable, AreLater}
use Rattle.short_sentences.specs.Joints.{AreTaken, chained, length_at}

-- a draft that is not taken up, and none of these is shorter; each other one still waits
pub record IsNext (drafts : List Draft) (queue : Queue) (place : ℕ) : Type 0 where
  pub draft : Draft
  pub at : slice_get drafts place ≡ Some draft
  pub is_open : draft.is_taken ≡ false
  pub least : AreLater drafts draft.length
  pub others : (n : ℕ) (d : Draft) → slice_get drafts n ≡ Some d → d.is_taken ≡ false → n ≢ place → Contains (waiting queue) (d.length, n)

-- all drafts are taken up
abbrev pub AreAllTaken : List Draft → Type 0
AreAllTaken drafts = (n : ℕ) (d : Draft) → slice_get drafts n ≡ Some d → d.is_taken ≡ true

-- the draft is put behind the nodes, and its pair behind those that are taken up
pub record Settles (old new : List Draft) (before after : Taken) (place : ℕ) (entry : Entry) (draft : Draft) : Type 0 where
  pub drafts : new ≡ set old place (record draft { is_taken = true })
  pub entries : after.entries.items ≡ before.entries.items ++ entry ∷ []
  pub nodes : after.nodes.nodes.items ≡ before.nodes.nodes.items
      ++ (record { production = draft.production; parts = draft.parts; length = parts_length before.nodes.nodes.items draft.parts }) ∷ []
  pub counts : after.counts.items ≡ set before.counts.items entry.nonterminal (get_or before.counts.items entry.nonterminal 0 + 1)
  pub length_is : after.length ≡ draft.length

module _ {S : Type 0} (sum_of : List PageToken → S) (composed : S → S → S) (whole : S → Bool) (productions : List Production)
    (start : nt.Nt) where
  -- what the pairs that are taken up give is found
  pub record AreUp (count : ℕ) (t : Table S) (taken : Taken) (chains : Chains) : Type 0 where
    pub table : IsTable sum_of composed whole productions start count t taken
    pub are_taken : AreTaken (known t taken) chains
    pub spread : length chains.last.items ≡ count
    pub all : chained chains ≡ length taken.entries.items
    pub closed : IsClosed sum_of composed (IsReached t) productions start (known t taken) taken.nodes.nodes.items (chained chains)

  -- the same before a place was drawn from the queue
  abbrev pub WereUp : ℕ → Table S → Taken → Chains → Type 0
  WereUp count t taken chains = (queue : Queue) × AreUp count (record t { queue = queue }) taken chains

  -- the same, but of the last pair
  pub record AreUpButLast (count : ℕ) (t : Table S) (taken : Taken) (chains : Chains) : Type 0 where
    pub table : IsTable sum_of composed whole productions start count t taken
    pub are_taken : AreTaken (known t taken) chains
    pub spread : length chains.last.items ≡ count
    pub one_more : chained chains + 1 ≡ length taken.entries.items
    pub late : taken.length ≤ length_at taken (chained chains)
    pub closed : IsClosed sum_of composed (IsReached t) productions start (known t taken) taken.nodes.nodes.items (chained chains)
