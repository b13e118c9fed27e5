-- Document type declarations as expressions (XML 1.0, 2.8 and 4.2.2; XHTML 1.0, 3.1.1).
use Rattle.std.specs.Prelude.{ℕ, not, ◌==◌, ◌&&◌, List, codes}
use Rattle.xml_text.specs.Names.{in_public_identifier}
use Rattle.dtd_model.specs.declared.dtd.DoctypeRule.{DoctypeRule}
use Rattle.dtd_model.specs.declared.dtd.DoctypeRule.TheVariants.{Strict, Free}
use Rattle.derivatives.specs.Expressions.{Expr, empty, star}
use Rattle.derivatives.specs.Derivatives.{chain_of, either_of}
use Rattle.page_forms.specs.Quotes.{quoted}
use Rattle.page_forms.specs.Words.{word, ascii, other_than, blanks, gap}

-- a system literal: any characters
abbrev pub system_literal : Expr
system_literal = quoted (λ q. star (other_than q))

-- a public literal
abbrev pub public_literal : Expr
public_literal = quoted (λ q. star (ascii (λ c. in_public_identifier c && not (c == q))))

-- the one of XHTML 1.0 Strict
abbrev pub strict_literal : Expr
strict_literal = quoted (λ q. word (codes "-//W3C//DTD XHTML 1.0 Strict//EN"))

-- white space, `PUBLIC`, white space, a public literal of this form, white space and a system literal
abbrev pub public_form : Expr → Expr
public_form literal = chain_of gap (chain_of (word (codes "PUBLIC")) (chain_of gap (chain_of literal (chain_of gap system_literal))))

-- white space, `SYSTEM`, white space and a system literal
abbrev pub system_form : Expr
system_form = chain_of gap (chain_of (word (codes "SYSTEM")) (chain_of gap system_literal))

-- the identifier that a definition asks for, or any or none
abbrev pub identifier_form : DoctypeRule → Expr
identifier_form Strict = public_form strict_literal
identifier_form Free = either_of empty (either_of system_form (public_form public_literal))

-- `<!DOCTYPE`, white space, `html`, an identifier, maybe white space, `>`
unfoldable pub doctype_form : DoctypeRule → Expr
doctype_form rule =
    chain_of (word (codes "<!DOCTYPE")) (chain_of gap (chain_of (word (codes "html")) (chain_of (identifier_form rule) (chain_of blanks (word (codes ">"))))))
