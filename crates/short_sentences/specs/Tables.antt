-- The pairs that are found, each with the shortest derivation so far, and those that are taken up.
use Rattle.std.specs.Prelude.{◌≡◌, ◌≢◌, ℕ, ◌≤◌, Bool, true, false, List, [], length, Some, slice_get, Contains}
use Rattle.std.specs.List.{AllPairs}
use Rattle.text_base.specs.declared.letter.Letter.{Letter}
use Rattle.text_base.specs.declared.page_token.PageToken.{PageToken}
use Rattle.text_base.specs.declared.numbers.Nt as nt
use Rattle.cfg_grammar.specs.declared.symbol.Symbol.{Symbol}
use Rattle.cfg_grammar.specs.declared.symbol.Symbol.TheVariants as symbol
use Rattle.cfg_grammar.specs.declared.production.Right.{Right}
use Rattle.cfg_grammar.specs.declared.production.Right.TheVariants as right
use Rattle.cfg_grammar.specs.declared.production.Production.{Production}
use Rattle.derivations.specs.declared.node.Part.{Part}
use Rattle.derivations.specs.declared.node.Part.TheVariants.{Inner}
use Rattle.derivations.specs.declared.node.Parts.{Parts}
use Rattle.derivations.specs.declared.node.Parts.TheVariants as parts
use Rattle.derivations.specs.declared.node.Node.{Node}
use Rattle.derivations.specs.Nodes.{most, part_length, parts_length}
use Rattle.derivations.specs.Stands.{Stands}
use Rattle.numbered_sets.specs.Numbers.{Keeps}
use Rattle.useful_nonterminals.specs.Useful.{IsUseful}
use Rattle.summary_decision.specs.Pairs.{tokens_in}
use Rattle.summary_decision.specs.Closed.{Pair}
use Rattle.summary_decision.specs.Tables.{known_of, sums_at, AreNumbered, AreJoins}
use Rattle.short_sentences.specs.declared.queue.Queue.{Queue}
use Rattle.short_sentences.specs.declared.table.Draft.{Draft}
use Rattle.short_sentences.specs.declared.table.Table.{Table}
use Rattle.short_sentences.specs.declared.taken.Taken.{Taken}
use Rattle.short_sentences.specs.Queues.{waiting}

module _ {S : Type 0} where
  -- the pairs that are found
  abbrev pub found : Table S → List (Pair S)
  found t = known_of t.sums.numbered.keys t.found.keys

  -- the pairs that are taken up, in this order
  abbrev pub known : Table S → Taken → List (Pair S)
  known t taken = known_of t.sums.numbered.keys taken.entries.items

  -- the pair is among these, with a draft of at most so many bytes
  abbrev pub HasDraft : List (Pair S) → List Draft → Pair S → ℕ → Type 0
  HasDraft pairs drafts x l = (n : ℕ) × (d : Draft) × (slice_get pairs n ≡ Some x) × (slice_get drafts n ≡ Some d) × (d.length ≤ l)

  -- the pair is found, by a derivation of at most so many bytes
  abbrev pub IsReached : Table S → Pair S → ℕ → Type 0
  IsReached t x l = HasDraft (found t) t.drafts.items x l

-- each draft that is not taken up waits with its length
abbrev pub AreQueued : List Draft → Queue → Type 0
AreQueued drafts queue = (n : ℕ) (d : Draft) → slice_get drafts n ≡ Some d → d.is_taken ≡ false → Contains (waiting queue) (d.length, n)

-- each draft that is not taken up has at least so many bytes
abbrev pub AreLater : List Draft → ℕ → Type 0
AreLater drafts l = (n : ℕ) (d : Draft) → slice_get drafts n ≡ Some d → d.is_taken ≡ false → l ≤ d.length

module _ {S : Type 0} (sum_of : List PageToken → S) (composed : S → S → S) (whole : S → Bool) (productions : List Production)
    (start : nt.Nt) where
  -- the part is a derivation of a sentence with the sum
  pub record Supports (nodes : List Node) (p : Part) (a : Symbol) (s : S) : Type 0 where
    pub sentence : List Letter
    pub stands : Stands productions nodes p a sentence
    pub same : sum_of (tokens_in sentence) ≡ s

  -- the node at the pair's place is a derivation of it, and its nonterminal is useful
  pub record IsMade (nodes : List Node) (n : ℕ) (x : Pair S) : Type 0 where
    pub useful : IsUseful productions start (record { 0 = x.0 })
    pub supports : Supports nodes (Inner n) (symbol.Nt (record { 0 = x.0 })) x.1

  -- the parts are derivations for a right side, and the sum is that of their sentences in turn
  abbrev pub Makes : List Node → Right → Parts → S → Type 0
  Makes nodes right.Empty parts.Empty s = sum_of [] ≡ s
  Makes nodes (right.One a) (parts.One p) s = Supports nodes p a s
  Makes nodes (right.Two a b) (parts.Two p q) s = (t : S) × (u : S) × Supports nodes p a t × Supports nodes q b u × (composed t u ≡ s)
  Makes nodes _ _ s = ⊥

  -- the parts make the sum by the production at a place, whose left side is useful
  pub record MakesAt (nodes : List Node) (place : ℕ) (qs : Parts) (s : S) : Type 0 where
    pub production : Production
    pub at : slice_get productions place ≡ Some production
    pub useful : IsUseful productions start production.left
    pub makes : Makes nodes production.right qs s

  -- the draft makes the pair, and has the length of its parts
  pub record IsDraft (nodes : List Node) (x : Pair S) (d : Draft) : Type 0 where
    pub makes : MakesAt nodes d.production d.parts x.1
    pub left : makes.production.left.0 ≡ x.0
    pub length_is : d.length ≡ parts_length nodes d.parts

  -- the pair is taken up, and so many bytes are the length of its node
  abbrev pub HasTaken : List (Pair S) → List Node → Pair S → ℕ → Type 0
  HasTaken pairs nodes x l = (k : ℕ) × (slice_get pairs k ≡ Some x) × (part_length nodes (Inner k) ≡ l)

  -- what is kept of the drafts of the pairs that are found, where these are taken up
  pub record AreDrafts (pairs taken_up : List (Pair S)) (drafts : List Draft) (nodes : List Node) (l : ℕ) : Type 0 where
    pub long : length drafts ≡ length pairs
    pub each : (n : ℕ) (x : Pair S) (d : Draft) → slice_get pairs n ≡ Some x → slice_get drafts n ≡ Some d → IsDraft nodes x d
    pub later : AreLater drafts l
    pub taken : (n : ℕ) (x : Pair S) (d : Draft) → slice_get pairs n ≡ Some x → slice_get drafts n ≡ Some d → d.is_taken ≡ true
        → HasTaken taken_up nodes x d.length
    pub opens : (n : ℕ) (x : Pair S) (d : Draft) → slice_get pairs n ≡ Some x → slice_get drafts n ≡ Some d → d.is_taken ≡ false
        → Contains taken_up x → ⊥
    pub among : (x : Pair S) → Contains taken_up x → Contains pairs x

  -- what is kept of the pairs that are taken up
  pub record AreUpTo (count : ℕ) (pairs : List (Pair S)) (taken : Taken) : Type 0 where
    pub long : length taken.nodes.nodes.items ≡ length pairs
    pub spread : length taken.counts.items ≡ count
    pub counted : (a n : ℕ) → slice_get taken.counts.items a ≡ Some n → n ≡ length (sums_at a pairs)
    pub different : (a : ℕ) → AllPairs (λ x y. x ≢ y) (sums_at a pairs)
    pub made : (n : ℕ) (x : Pair S) → slice_get pairs n ≡ Some x → IsMade taken.nodes.nodes.items n x
    pub early : (n : ℕ) → part_length taken.nodes.nodes.items (Inner n) ≤ taken.length
    pub bounded : taken.length ≤ most
    pub whole_at_start : (s : S) → Contains pairs (start.0, s) → whole s ≡ true

  -- all that is kept
  pub record IsTable (count : ℕ) (t : Table S) (taken : Taken) : Type 0 where
    pub numbered : AreNumbered t.sums.numbered.keys t.found.keys
    pub taken_numbered : AreNumbered t.sums.numbered.keys taken.entries.items
    pub joined : AreJoins composed t.sums.numbered.keys t.sums.joins.keys t.sums.joined.items
    pub drafts : AreDrafts (found t) (known t taken) t.drafts.items taken.nodes.nodes.items taken.length
    pub queued : AreQueued t.drafts.items t.queue
    pub up : AreUpTo count (known t taken) taken

  -- more is found of the same pairs
  pub record GoesOn (count : ℕ) (taken : Taken) (old new : Table S) : Type 0 where
    pub table : IsTable count new taken
    pub sums : Keeps old.sums.numbered.keys new.sums.numbered.keys
    pub known_same : known new taken ≡ known old taken
    pub reaches : (x : Pair S) (l : ℕ) → IsReached old x l → IsReached new x l

  -- the pair of the production's left side and the sum is found, by a derivation that is no longer than these parts
  pub record Adds (count : ℕ) (taken : Taken) (old new : Table S) (place : ℕ) (qs : Parts) (s : S) : Type 0 where
    pub goes : GoesOn count taken old new
    pub has : (production : Production) → slice_get productions place ≡ Some production
        → IsReached new (production.left.0, s) (parts_length taken.nodes.nodes.items qs)
