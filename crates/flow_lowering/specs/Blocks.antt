-- What it means that statements were put behind the points so far.
use Rattle.std.specs.Prelude.{◌≡◌, ℕ, ◌+◌, Bool, true, false, List, [], ◌∷◌, ◌++◌, length, map, Option}
use Rattle.flow_code.specs.Points.{PlainPoint, jump_point, begin_point, next_point}
use Rattle.flow_code.specs.Code.{Code, no_code, Targets, Block, ending}
use Rattle.flow_code.specs.Statements.{Test, pair_points, pair_size}
use Rattle.flow_lowering.specs.Emits.{Progress, place, Puts, Reserves}
use Rattle.flow_lowering.specs.declared.exits.Exit.{Exit}
use Rattle.flow_lowering.specs.declared.exits.Exit.TheVariants as exit
use Rattle.flow_lowering.specs.declared.heads.Head.{Head}
use Rattle.flow_lowering.specs.Drafts.{Draft, unaimed, aimed, exits_from, filled, closed}

-- the block stands behind the old points, wherever `break` and `continue` lead
pub record Lays (old new : Progress) (b : Block) : Type 0 where
  pub there : List PlainPoint
  pub puts : Puts old new there b.slots
  pub size : length new.points ≡ length old.points + b.size
  pub same : (to : Targets) → there ≡ b.points to (place old) old.slot

-- the block stands behind the old points but for its exits, which were put behind the others
pub record Drafts (old new : Progress) (before after : List Exit) (b : Block) : Type 0 where
  pub draft : List Draft
  pub puts : Puts old new (map unaimed draft) b.slots
  pub exits : after ≡ before ++ exits_from (length old.points) draft
  pub size : length draft ≡ b.size
  pub aims : (to : Targets) → map (aimed to) draft ≡ b.points to (place old) old.slot

-- the test of a loop stands behind the old points once its head leads to the end
pub record Opens (old new : Progress) (open_head : Head) (test : Test) : Type 0 where
  pub first : new.first ≡ old.first
  pub size : length new.points ≡ length old.points + test.size
  pub slot : new.slot ≡ old.slot + test.slots
  pub closes : (later : Progress) (rest : List PlainPoint) (n stop : ℕ) → Puts new later rest n
      → Puts old (closed stop open_head later) (test.points stop (place old) old.slot ++ rest) (test.slots + n)

-- the last point of a loop is put, its exits are replaced, and its head leads behind it
pub record EndsLoop (old new : Progress) (open_head : Head) (last : PlainPoint) (again : ℕ) (exits : List Exit) : Type 0 where
  pub later : Progress
  pub puts : Puts old later (last ∷ []) 0
  pub is : new ≡ closed (place old + 1) open_head (filled (record { stop = place old + 1; again = again }) exits later)

-- `break` and `continue`
abbrev pub stopping : Block
stopping = ending no_code (λ none to p. jump_point to.stop)

-- `continue`, as a block of one point
abbrev pub continuing : Block
continuing = ending no_code (λ none to p. jump_point to.again)

-- a jump is put, to be replaced, and stands behind the others
pub record PutsOne (old new : Progress) (before after : List Exit) : Type 0 where
  pub index : ℕ
  pub reserves : Reserves old new index (place new)
  pub exits : after ≡ before ++ exit.Stop index ∷ []

-- the same, where it is needed
abbrev pub PutsJump : Bool → Progress → Progress → List Exit → List Exit → Type 0
PutsJump true old new before after = PutsOne old new before after
PutsJump false old new before after = (new ≡ old) × (after ≡ before)

-- the head of a `foreach`: the value is copied into a slot, and walked there
abbrev pub walk_head : Code ℕ → Option ℕ → ℕ → Test
walk_head a key x = record {
  size = a.size + 2 + pair_size key;
  slots = a.slots + 1;
  points = λ stop p t.
      let walk = t + a.slots in
      let again = p + a.size + 1 in
      a.points p t ++ (begin_point walk (a.gives t) again ∷ next_point walk (again + 1) stop ∷ pair_points key x walk (again + 1));
}
