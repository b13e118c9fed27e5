-- Why a file is no pattern that is taken; this project's own.
use Rattle.std.specs.Prelude.{◌≡◌, ◌<◌, ◌≤◌, ◌==◌, ◌-◌, ◌&&◌, ℕ, suc, Bool, true, false, not, nat_lt, if◌then◌else◌, List, [], ◌∷◌, length, Option, Some, None, ⊤}
use Rattle.page_policy.specs.Patterns.{Pattern}
use Rattle.page_policy.specs.Grammar.{Spells}
use Rattle.page_policy.specs.declared.refusal.TheConstants.{POLICY_LIMIT, OPEN_LIMIT}
use Rattle.page_policy.specs.declared.refusal.PolicyRefusal.{PolicyRefusal}
use Rattle.page_policy.specs.declared.refusal.PolicyRefusal.TheVariants.{NotPattern, TooLong, TooDeep, Memory}

-- Where more brackets are open at once than are allowed, if anywhere: the place of the first that is one too many. A byte behind a
-- backslash (92), and what stands between `[` (91) and `]` (93), is no bracket.
abbrev pub too_deep : (escaped inside : Bool) → (depth at : ℕ) → List ℕ → Option ℕ
too_deep escaped inside depth at [] = None
too_deep true inside depth at (b ∷ bytes) = too_deep false inside depth (suc at) bytes
too_deep false true depth at (b ∷ bytes) = too_deep (b == 92) (not (b == 93)) depth (suc at) bytes
too_deep false false depth at (b ∷ bytes) =
    if b == 40 then (if nat_lt depth OPEN_LIMIT then too_deep false false (suc depth) (suc at) bytes else Some at)
    else if b == 41 then too_deep false false (depth - 1) (suc at) bytes
    else too_deep (b == 92) (b == 91) depth (suc at) bytes

-- the place in a file of the first bracket that is one too many
abbrev pub deep_at : List ℕ → Option ℕ
deep_at file = too_deep false false 0 0 file

-- the file is taken: it spells this pattern, and is within the limits
pub record IsTaken (file : List ℕ) (p : Pattern) : Type 0 where
  pub spelled : Spells file p
  pub short : length file ≤ POLICY_LIMIT
  pub shallow : deep_at file ≡ None

-- the cause of each refusal; of want of memory nothing is said
abbrev pub IsCause : List ℕ → PolicyRefusal → Type 0
IsCause file (TooLong len) = (len ≡ length file) × (POLICY_LIMIT < length file)
IsCause file (TooDeep at) = (length file ≤ POLICY_LIMIT) × (deep_at file ≡ Some at)
IsCause file (NotPattern at) = (length file ≤ POLICY_LIMIT) × (deep_at file ≡ None) × ((p : Pattern) → Spells file p → ⊥)
IsCause file Memory = ⊤
