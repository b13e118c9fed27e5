-- Which plain values a run of a script has: integers of 64 bits, texts of at most 16,777,216 bytes, and arrays at most 1,000 deep, whose
-- keys are
-- distinct, and under which a text is no canonical decimal integer (PHP manual, "Integers" and "Arrays"; the limits of size are this
-- project's own).
use Rattle.std.specs.Prelude.{◌≡◌, ◌≤◌, ℕ, true, length, None, ⊤}
use Rattle.text_base.specs.declared.limits.TheConstants.{DEPTH_LIMIT, TEXT_LIMIT}
use Rattle.plain_values.specs.Plain.{Plain, PlainKey, Pairs, int_key, text_key, null, flag, int, text, array, empty, pair, keys, depth}
use Rattle.plain_values.specs.Keys.{canonical_integer, are_distinct}
use Rattle.plain_values.specs.Numeric.{is_in_range}

-- an integer of 64 bits, or a text of at most 16,777,216 bytes that is not the decimal form of one
abbrev pub IsKey : PlainKey → Type 0
IsKey (int_key z) = is_in_range z ≡ true
IsKey (text_key t) = (length t ≤ TEXT_LIMIT) × (canonical_integer t ≡ None)

abbrev mutual
  -- the parts of a value are values, whatever its depth
  pub HasValues : Plain → Type 0
  HasValues null = ⊤
  HasValues (flag b) = ⊤
  HasValues (int z) = is_in_range z ≡ true
  HasValues (text t) = length t ≤ TEXT_LIMIT
  HasValues (array ps) = (are_distinct (keys ps) ≡ true) × PairsHaveValues ps

  -- each key is one that a run may have, and the parts of each value are values
  pub PairsHaveValues : Pairs → Type 0
  PairsHaveValues empty = ⊤
  PairsHaveValues (pair k v ps) = IsKey k × HasValues v × PairsHaveValues ps

-- a value that a run may have
pub record IsValue (v : Plain) : Type 0 where
  pub parts : HasValues v
  pub shallow : depth v ≤ DEPTH_LIMIT
