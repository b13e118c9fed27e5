-- The law of the machine.
use Rattle.std.specs.Prelude.{◌≡◌, ◌↔◌, true, List}
use Rattle.text_base.specs.declared.page_token.PageToken.{PageToken}
use Rattle.dtd_model.specs.Table.{Table}
use Rattle.content_automata.specs.Decides.{Decides}
use Rattle.content_automata.specs.Tables as automata
use Rattle.page_model.specs.TokenTree.{TokenTree}
use Rattle.page_validator.specs.Machine.{accepts, start}

-- it accepts exactly the tokens of a tree
abbrev pub AcceptsTrees : Type 0
AcceptsTrees = (d : Table) (t : automata.Table) → Decides d t → (tokens : List PageToken)
    → (accepts d t start tokens ≡ true) ↔ TokenTree d tokens
