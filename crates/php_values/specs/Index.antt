-- What the type `Members` keeps: its index gives each key its place among the pairs.
use Rattle.std.specs.Prelude.{◌≡◌, ℕ, suc, ℤ, ◌+◌, ◌<◌, nat_eq, true, if◌then◌else◌, List, [], ◌∷◌, Option, Some, None}
use Rattle.std.specs.BTreeMap.{BTreeMap}
use Rattle.std.specs.BTreeMap as tree
use Rattle.text_base.specs.declared.limits.TheConstants.{DEPTH_LIMIT}
use Rattle.plain_values.specs.Plain.{PlainKey, keys, depth, deepest}
use Rattle.plain_values.specs.Keys.{same_key, are_distinct}
use Rattle.plain_values.specs.Members.{largest_key}
use Rattle.php_values.specs.View.{plain_key, plain_of, pairs_of}
use Rattle.php_values.specs.declared.key.Key.{Key}
use Rattle.php_values.specs.declared.array.Value.{Value}
use Rattle.php_values.specs.contracts.key.KeyOrd.TheImpl as key_order

-- the place behind this one, if there is one
abbrev pub one_later : Option ℕ → Option ℕ
one_later None = None
one_later (Some i) = Some (suc i)

-- the first place of a key among keys
abbrev pub place : List PlainKey → PlainKey → Option ℕ
place [] k = None
place (j ∷ js) k = if same_key j k then Some 0 else one_later (place js k)

-- how many members are so deep
abbrev pub how_many : ℕ → List (Key × Value) → ℕ
how_many n [] = 0
how_many n (x ∷ xs) = (if nat_eq (depth (plain_of x.1)) n then 1 else 0) + how_many n xs

-- the depth of the deepest members, and how many there are
pub record HasDeepest (deep many : ℕ) (pairs : List (Key × Value)) : Type 0 where
  pub is_depth : deep ≡ deepest (pairs_of pairs)
  pub is_count : many ≡ how_many deep pairs

-- the index has each key's place; the keys are distinct; the largest integer key, the depth, below 1000, and how many are so deep are right
pub record IsIndexed (pairs : List (Key × Value)) (places : BTreeMap Key ℕ) (largest : Option ℤ) (deep many : ℕ) : Type 0 where
  pub indexed : (k : Key) → tree.get key_order.ghosts.cmp places k ≡ place (keys (pairs_of pairs)) (plain_key k)
  pub next : largest ≡ largest_key (pairs_of pairs)
  pub distinct : are_distinct (keys (pairs_of pairs)) ≡ true
  pub depth : deep ≡ deepest (pairs_of pairs)
  pub shallow : deep < DEPTH_LIMIT
  pub count : many ≡ how_many deep pairs
