-- What stands in an element, one thing after another (XML 1.0, 3.1): child elements, and what is no element.
use Rattle.std.specs.Prelude.{ℕ}
use Rattle.text_base.specs.declared.page_token.PageToken.{PageToken}
use Rattle.text_base.specs.declared.page_token.PageToken.TheVariants.{Doctype, Blank, Text, Misc}

-- what is no element: white space, other text, a comment or instruction, a document type declaration
pub data Mark : Type 0 where
  blank : Mark
  text : Mark
  misc : Mark
  doctype : Mark

-- one thing that stands in an element
pub data Label : Type 0 where
  -- a whole element, by its place among the declared ones
  child : ℕ → Label
  other : Mark → Label

-- the token of what is no element
abbrev pub token_of : Mark → PageToken
token_of blank = Blank
token_of text = Text
token_of misc = Misc
token_of doctype = Doctype
