-- What a source holds under one name.
use Rattle.std.specs.Prelude.{◌≡◌, ◌≤◌, ℕ, List, length, Some}
use Rattle.text_base.specs.declared.limits.TheConstants.{FILE_LIMIT}
use Rattle.io_edge.specs.Told.{Content, known}

-- the source tells of these bytes, which are within the limit of a file
pub record HoldsShortFile (content : Content) (name bytes : List ℕ) : Type 0 where
  pub told : content name ≡ known (Some bytes)
  pub short : length bytes ≤ FILE_LIMIT
