-- What the statements of a file stand for: an include stands for the statements of its file, in the scope where it stands.
use Rattle.std.specs.Prelude.{◌≡◌, ℕ, List}
use Rattle.std.specs.List.{Contains}
use Rattle.php_syntax.specs.Trees.{PlainStmts, PlainFunction, PlainFile}
use Rattle.program_rules.specs.Files.{Held, HasTree}
use Rattle.program_rules.specs.Includes.{includes_in}
use Rattle.program_rules.specs.Bodies.{with_bodies}

-- statements stand for themselves with each include replaced by what the statements of its file stand for; a file that includes itself
-- stands for nothing
pub data StandsFor (held : Held) : PlainStmts → PlainStmts → Type 0 where
  stands : (ss : PlainStmts) (trees : List ℕ → PlainFile) (bodies : List ℕ → PlainStmts)
      → ((path : List ℕ) → Contains (includes_in ss) path → HasTree held path (trees path))
      → ((path : List ℕ) → Contains (includes_in ss) path → StandsFor held (trees path).body_of (bodies path))
      → StandsFor held ss (with_bodies bodies ss)

-- a function of a file in a program: its body stands for these statements
pub record FunctionStandsFor (held : Held) (f g : PlainFunction) : Type 0 where
  pub name : g.name_of ≡ f.name_of
  pub params : g.params_of ≡ f.params_of
  pub body : StandsFor held f.body_of g.body_of
