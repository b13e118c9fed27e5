-- Items that follow one another up to an end, each of one or more bytes.
use Rattle.std.specs.Prelude.{ℕ, zero, suc, pred, ◌+◌, List, [], ◌∷◌}

-- what stands at one place of a row
pub data Found (X : Type 0) : Type 0 where
  item : X → ℕ → Found X
  wrong : ℕ → Found X
  over : ℕ → Found X
  missing : Found X

-- a row: its items and how many bytes they and the end take; or, where it has an end, how many bytes stand before its first wrong place; or
-- it has no end
pub data Row (X : Type 0) : Type 0 where
  whole : List X → ℕ → Row X
  broken : ℕ → Row X
  endless : Row X

-- what is found at a place, and then the row behind it
abbrev pub then_row : {X : Type 0} → Found X → Row X → Row X
then_row (item x n) (whole xs m) = whole (x ∷ xs) (n + m)
then_row (item x n) (broken m) = broken (n + m)
then_row (item x n) endless = endless
then_row (wrong n) (whole xs m) = broken 0
then_row (wrong n) (broken m) = broken 0
then_row (wrong n) endless = endless
then_row (over n) row = whole [] n
then_row missing row = endless

-- how many bytes the thing found takes
abbrev pub taken : {X : Type 0} → Found X → ℕ
taken (item x n) = n
taken (wrong n) = n
taken (over n) = n
taken missing = 1

-- the row that begins behind so many bytes; the bytes that an item takes are passed over
unfoldable pub row : {X : Type 0} → (List ℕ → Found X) → ℕ → List ℕ → Row X
row find passed [] = then_row (find []) endless
row find zero (b ∷ bytes) = then_row (find (b ∷ bytes)) (row find (pred (taken (find (b ∷ bytes)))) bytes)
row find (suc passed) (b ∷ bytes) = row find passed bytes
