-- Identity, `===` (PHP manual, "Comparison operators").
use Rattle.std.specs.Prelude.{Bool, true, false, ◌&&◌, bytes_eq}
use Rattle.std.specs.Bool.{beq}
use Rattle.std.specs.Ordering.{int_eq}
use Rattle.plain_values.specs.Plain.{Plain, Pairs, null, flag, int, text, array, empty, pair}
use Rattle.plain_values.specs.Keys.{same_key}

abbrev mutual
  -- of one type and equal; arrays with equal keys and values in the same order
  pub identical : Plain → Plain → Bool
  identical null null = true
  identical (flag a) (flag b) = beq a b
  identical (int a) (int b) = int_eq a b
  identical (text s) (text t) = bytes_eq s t
  identical (array ps) (array qs) = identical_pairs ps qs
  identical _ _ = false

  -- the same keys with identical values, in the same order
  pub identical_pairs : Pairs → Pairs → Bool
  identical_pairs empty empty = true
  identical_pairs (pair j v ps) (pair k u qs) = same_key j k && (identical v u && identical_pairs ps qs)
  identical_pairs _ _ = false
