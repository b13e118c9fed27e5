use Rattle.std.proofs.Common.{◌≡◌, ◌++◌, drop}
use Rattle.open_pieces.proofs.name_list.NameList.copy.Given as goal

-- what is copied, before what is left to copy
abbrev pub invariant-loop-name : goal.invariant-loop-name
invariant-loop-name l = l.copy ++ drop l.name-index l.name-items ≡ l.name-items
