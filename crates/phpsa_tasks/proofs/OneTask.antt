-- Words ask for one thing to be done.
use Rattle.std.proofs.Common.{◌≡◌, ◌∙◌, ℕ, List, sym, ap}
use Rattle.command_words.specs.Asked.{Asked, Asks, AsksNothing}
use Rattle.phpsa_tasks.specs.Tasks.{Task, task_of, AsksFor, asks, asks_nothing}

-- what words ask for, and that they ask for nothing, exclude one another
pub record WordLaws : Type 0 where
  pub once : (words : List (List ℕ)) (for other : Asked) → Asks words for → Asks words other → for ≡ other
  pub apart : (words : List (List ℕ)) (for : Asked) → Asks words for → AsksNothing words → ⊥

pub one_task : WordLaws → (words : List (List ℕ)) (t u : Task) → AsksFor words t → AsksFor words u → t ≡ u
one_task laws words t u (asks for a is) (asks other b are) = is ∙ ap task_of (laws.once words for other a b) ∙ sym are
one_task laws words t u (asks for a is) (asks_nothing none are) = absurd (laws.apart words for a none)
one_task laws words t u (asks_nothing none is) (asks other b are) = absurd (laws.apart words other b none)
one_task laws words t u (asks_nothing none is) (asks_nothing also are) = is ∙ sym are
