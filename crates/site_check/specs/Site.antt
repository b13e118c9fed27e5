-- The answers for the scripts of a site; this project's own.
use Rattle.std.specs.Prelude.{◌≡◌, ◌⊎◌, ◌+◌, ℕ, List, [], ◌∷◌, Bool, false, nat_eq, if◌then◌else◌, IsTrue}
use Rattle.io_edge.specs.Counts.{Rises}
use Rattle.io_edge.specs.Told.{Content, Stays}
use Rattle.site_check.specs.declared.line.Line.{Line}
use Rattle.site_check.specs.declared.line.Line.TheVariants.{Refused}
use Rattle.site_check.specs.declared.line.TheConstants.{MISSING_STATUS, FAULT_STATUS}

-- what a source tells at one moment, and its counts of faults and of misses
pub record Moment : Type 0 where
  pub content : Content
  pub faults : ℕ
  pub misses : ℕ

-- a moment by its parts
abbrev pub moment : Content → ℕ → ℕ → Moment
moment content faults misses = record { content = content; faults = faults; misses = misses }

-- a count is as it was, or rose
abbrev pub Grows : ℕ → ℕ → Type 0
Grows before now = (now ≡ before) ⊎ Rises before now

-- from a moment to a later one what is told stays told, and each count is as it was, or rose
pub record Leads (before now : Moment) : Type 0 where
  pub stays : Stays before.content now.content
  pub faults : Grows before.faults now.faults
  pub misses : Grows before.misses now.misses

-- whether a line is refused by this status
abbrev pub is_refused_by : ℕ → Line → Bool
is_refused_by status (Refused by text) = nat_eq by status
is_refused_by status other = false

-- how many lines are refused by it
abbrev pub refused_by : ℕ → List Line → ℕ
refused_by status [] = 0
refused_by status (line ∷ lines) = (if is_refused_by status line then 1 else 0) + refused_by status lines

-- the line may be answered for the name by what is told behind the call; it tells that a file is missing or could not be read only where
-- that was counted in the call, and each fault of the source is told by it
pub record IsAnswered (May : Content → List ℕ → Line → Type 0) (before now : Moment) (name : List ℕ) (line : Line) : Type 0 where
  pub leads : Leads before now
  pub may : May now.content name line
  pub missing : IsTrue (is_refused_by MISSING_STATUS line) → Rises before.misses now.misses
  pub failed : IsTrue (is_refused_by FAULT_STATUS line) → Rises before.faults now.faults
  pub calm : is_refused_by FAULT_STATUS line ≡ false → now.faults ≡ before.faults

-- the lines are answers for the names, one for each, in their order, one call behind another
abbrev pub AreAnswered : (Content → List ℕ → Line → Type 0) → Moment → Moment → List (List ℕ) → List Line → Type 0
AreAnswered May before now [] [] = now ≡ before
AreAnswered May before now (name ∷ names) (line ∷ lines) =
    (between : Moment) × IsAnswered May before between name line × AreAnswered May between now names lines
AreAnswered May before now names lines = ⊥
