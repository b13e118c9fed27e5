-- The smallest document type: `html` holds one `body`, `body` any number of `p`, and `p` text. No attributes and no
-- further entities are declared, and a page needs no document type declaration.
use Rattle.std.specs.Prelude.{ℕ, List, [], ◌∷◌, codes}
use Rattle.dtd_model.specs.declared.dtd.DoctypeRule.TheVariants.{Free}
use Rattle.dtd_model.specs.Table.{one, sequence, any_number, no_models, more_models, Holding, text_and, children, Rule, Table}

-- the declaration of an element without attributes
abbrev pub plain_rule : List ℕ → Holding → Rule
plain_rule name holding = record { name = name; holding = holding; attributes = [] }

-- the places are 0 for `html`, 1 for `body`, 2 for `p`
unfoldable pub mini_table : Table
mini_table = record {
  elements = plain_rule (codes "html") (children (sequence (more_models (one 1) no_models)))
      ∷ plain_rule (codes "body") (children (any_number (one 2)))
      ∷ plain_rule (codes "p") (text_and [])
      ∷ [];
  entities = [];
  doctype = Free;
}
