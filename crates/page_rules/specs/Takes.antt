-- What a piece is for the tree of a page: its tokens.
use Rattle.std.specs.Prelude.{◌≡◌, Bool, true, false, List, [], ◌∷◌, Option, Some, None}
use Rattle.text_base.specs.declared.numbers.Elem.{Elem}
use Rattle.text_base.specs.declared.page_token.PageToken.{PageToken}
use Rattle.text_base.specs.declared.page_token.PageToken.TheVariants as token
use Rattle.dtd_model.specs.declared.dtd.DoctypeRule.{DoctypeRule}
use Rattle.dtd_model.specs.declared.dtd.DoctypeRule.TheVariants.{Strict, Free}
use Rattle.dtd_model.specs.Table.{Table}
use Rattle.page_model.specs.Attributes.{is_allowed, tag_fits}
use Rattle.page_model.specs.PageTokens.{piece_tokens}
use Rattle.page_model.specs.Parts.{Tag}
use Rattle.page_model.specs.Pieces.{Piece}
use Rattle.page_model.specs.Prolog.{Identifier, is_strict}
use Rattle.page_model.specs.Valid.{place_of}
use Rattle.page_rules.specs.declared.piece_tokens.Taken.{Taken}
use Rattle.page_rules.specs.declared.piece_tokens.Taken.TheVariants as taken

-- the tokens of what a piece is; those of an empty element are its start tag and its end tag
abbrev pub taken_tokens : Taken → List PageToken
taken_tokens taken.Nothing = []
taken_tokens taken.Doctype = token.Doctype ∷ []
taken_tokens (taken.Start e) = token.Start e ∷ []
taken_tokens (taken.Empty e) = token.Start e ∷ token.End e ∷ []
taken_tokens (taken.End e) = token.End e ∷ []
taken_tokens taken.Blank = token.Blank ∷ []
taken_tokens taken.Text = token.Text ∷ []
taken_tokens taken.Remark = token.Misc ∷ []

-- none exactly where the definition does not allow the piece
abbrev pub Takes : Table → Piece → Option Taken → Type 0
Takes table p None = is_allowed table p ≡ false
Takes table p (Some t) = (is_allowed table p ≡ true) × (taken_tokens t ≡ piece_tokens table p)

-- the element of a tag, by its number; none exactly where the definition does not allow the tag
abbrev pub TakesTag : Table → Tag → Option Elem → Type 0
TakesTag table tag None = tag_fits table tag ≡ false
TakesTag table tag (Some e) = (tag_fits table tag ≡ true) × (e.0 ≡ place_of table.elements tag.name)

-- the identifier is as the definition asks
abbrev pub identifier_fits : DoctypeRule → Identifier → Bool
identifier_fits Strict i = is_strict i
identifier_fits Free i = true
