-- What a prepared walk stands for.
use Rattle.std.specs.Prelude.{ℕ, List}
use Rattle.derivations.specs.declared.walk.Walk.{Walk}
use Rattle.derivations.specs.Forks.{maybe_bytes}

-- the bytes that it writes
abbrev pub sentence_in : Walk → List ℕ
sentence_in w = maybe_bytes w.forks.items w.root
