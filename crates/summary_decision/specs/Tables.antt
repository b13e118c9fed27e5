-- The table of the decision: which pairs its numbers stand for, and what it keeps.
use Rattle.std.specs.Prelude.{◌≡◌, ◌≢◌, ℕ, ◌+◌, ◌<◌, ◌≤◌, Bool, true, if◌then◌else◌, nat_eq, List, [], ◌∷◌, length, Option, None, Some, slice_get, Contains}
use Rattle.std.specs.List.{All, AllPairs}
use Rattle.text_base.specs.declared.letter.Letter.{Letter}
use Rattle.text_base.specs.declared.page_token.PageToken.{PageToken}
use Rattle.text_base.specs.declared.numbers.Nt as nt
use Rattle.cfg_grammar.specs.declared.symbol.Symbol.{Symbol}
use Rattle.cfg_grammar.specs.declared.symbol.Symbol.TheVariants as symbol
use Rattle.cfg_grammar.specs.declared.production.Right.{Right}
use Rattle.cfg_grammar.specs.declared.production.Right.TheVariants as right
use Rattle.cfg_grammar.specs.declared.production.Production.{Production}
use Rattle.cfg_grammar.specs.Derives.{DerivesIn}
use Rattle.derivations.specs.declared.node.Part.{Part}
use Rattle.derivations.specs.declared.node.Part.TheVariants.{Inner}
use Rattle.derivations.specs.declared.node.Parts.{Parts}
use Rattle.derivations.specs.declared.node.Parts.TheVariants as parts
use Rattle.derivations.specs.declared.node.Node.{Node}
use Rattle.derivations.specs.Stands.{Stands}
use Rattle.numbered_sets.specs.Numbers.{Keeps}
use Rattle.useful_nonterminals.specs.Useful.{IsUseful}
use Rattle.summary_decision.specs.declared.table.Entry.{Entry}
use Rattle.summary_decision.specs.declared.table.Table.{Table}
use Rattle.summary_decision.specs.declared.table.Join.{Join}
use Rattle.summary_decision.specs.Pairs.{tokens_in}
use Rattle.summary_decision.specs.Closed.{Pair, IsComplete}

module _ {S : Type 0} where
  -- the pair of an entry, before others
  abbrev pub with_sum : ℕ → Option S → List (Pair S) → List (Pair S)
  with_sum a None rest = rest
  with_sum a (Some s) rest = (a, s) ∷ rest

  -- the pairs that entries stand for, by the sums that are numbered
  abbrev pub known_of : List S → List Entry → List (Pair S)
  known_of sums [] = []
  known_of sums (entry ∷ entries) = with_sum entry.nonterminal (slice_get sums entry.sum) (known_of sums entries)

  -- the pairs of a table, in the order in which they were found
  abbrev pub known : Table S → List (Pair S)
  known t = known_of t.sums.keys t.entries.keys

  -- the sums of a nonterminal
  abbrev pub sums_at : ℕ → List (Pair S) → List S
  sums_at a [] = []
  sums_at a (x ∷ xs) = if nat_eq x.0 a then x.1 ∷ sums_at a xs else sums_at a xs

  -- each entry's sum is numbered
  abbrev pub AreNumbered : List S → List Entry → Type 0
  AreNumbered sums entries = All (λ entry. entry.sum < length sums) entries

-- the number is that of the composition of two sums
abbrev pub IsJoin : {S : Type 0} → (S → S → S) → List S → Join → ℕ → Type 0
IsJoin {S} composed sums join n = (s : S) × (t : S) × (slice_get sums join.first ≡ Some s) × (slice_get sums join.second ≡ Some t)
    × (slice_get sums n ≡ Some (composed s t))

-- each composition that is noted is that of its sums
pub record AreJoins {S : Type 0} (composed : S → S → S) (sums : List S) (joins : List Join) (joined : List ℕ) : Type 0 where
  pub long : length joined ≡ length joins
  pub right : (n r : ℕ) (join : Join) → slice_get joins n ≡ Some join → slice_get joined n ≡ Some r → IsJoin composed sums join r

module _ {S : Type 0} (sum_of : List PageToken → S) (composed : S → S → S) (whole : S → Bool) (productions : List Production)
    (start : nt.Nt) where
  -- the part is a derivation of at most a height, of a sentence with the sum
  pub record Supports (nodes : List Node) (k : ℕ) (p : Part) (a : Symbol) (s : S) : Type 0 where
    pub sentence : List Letter
    pub stands : Stands productions nodes p a sentence
    pub height : ℕ
    pub within : height ≤ k
    pub derived : DerivesIn productions a sentence height
    pub same : sum_of (tokens_in sentence) ≡ s

  -- the node at the pair's place is a derivation of it, and its nonterminal is useful
  pub record IsMade (nodes : List Node) (k n : ℕ) (x : Pair S) : Type 0 where
    pub useful : IsUseful productions start (record { 0 = x.0 })
    pub supports : Supports nodes k (Inner n) (symbol.Nt (record { 0 = x.0 })) x.1

  -- the parts are derivations for a right side, and the sum is that of their sentences in turn
  abbrev pub Makes : List Node → ℕ → Right → Parts → S → Type 0
  Makes nodes k right.Empty parts.Empty s = sum_of [] ≡ s
  Makes nodes k (right.One a) (parts.One p) s = Supports nodes k p a s
  Makes nodes k (right.Two a b) (parts.Two p q) s = (t : S) × (u : S) × Supports nodes k p a t × Supports nodes k q b u × (composed t u ≡ s)
  Makes nodes k _ _ s = ⊥

  -- all that the table keeps; the pairs before the bound have derivations of at most the height, all of at most one more
  pub record IsTable (count : ℕ) (t : Table S) : Type 0 where
    pub numbered : AreNumbered t.sums.keys t.entries.keys
    pub joined : AreJoins composed t.sums.keys t.joins.keys t.joined.items
    pub long : length t.nodes.nodes.items ≡ length (known t)
    pub spread : length t.counts.items ≡ count
    pub counted : (a n : ℕ) → slice_get t.counts.items a ≡ Some n → n ≡ length (sums_at a (known t))
    pub different : (a : ℕ) → AllPairs (λ x y. x ≢ y) (sums_at a (known t))
    pub bounded : t.bound ≤ length (known t)
    pub raised : t.height ≤ t.bound
    pub made : (n : ℕ) (x : Pair S) → slice_get (known t) n ≡ Some x → IsMade t.nodes.nodes.items (t.height + 1) n x
    pub early : (n : ℕ) (x : Pair S) → n < t.bound → slice_get (known t) n ≡ Some x → IsMade t.nodes.nodes.items t.height n x
    pub whole_at_start : (s : S) → Contains (known t) (start.0, s) → whole s ≡ true
    pub complete : IsComplete sum_of composed productions start (known t) t.bound t.height

  -- pairs were added at the same height
  pub record GoesOn (count : ℕ) (old new : Table S) : Type 0 where
    pub table : IsTable count new
    pub height : new.height ≡ old.height
    pub bound : new.bound ≡ old.bound
    pub keeps : Keeps (known old) (known new)

  -- the parts make the sum by the production at a place, whose left side is useful
  pub record MakesAt (t : Table S) (place : ℕ) (qs : Parts) (s : S) : Type 0 where
    pub production : Production
    pub at : slice_get productions place ≡ Some production
    pub useful : IsUseful productions start production.left
    pub makes : Makes t.nodes.nodes.items t.height production.right qs s

  -- the pair of the production's left side and the sum is there
  pub record Adds (count : ℕ) (old new : Table S) (place : ℕ) (s : S) : Type 0 where
    pub goes : GoesOn count old new
    pub has : (production : Production) → slice_get productions place ≡ Some production → Contains (known new) (production.left.0, s)
