-- The names that forms name.
use Rattle.std.specs.Prelude.{List, Contains}
use Rattle.least_sets.specs.Forms.{Form}
use Rattle.system_writing.specs.Forms.{all_names}

-- each name in the forms has the property
abbrev pub AreAsked : {N : Type 0} → (N → Type 0) → List (Form N) → Type 0
AreAsked {N} P forms = (f : Form N) (n : N) → Contains forms f → Contains (all_names f) n → P n
