-- The XML declaration as an expression (XML 1.0, 2.8, 2.9 and 4.3.3).
use Rattle.std.specs.Prelude.{ℕ, List, [], ◌∷◌, codes}
use Rattle.derivatives.specs.Expressions.{Expr, empty}
use Rattle.derivatives.specs.Derivatives.{chain_of, either_of}
use Rattle.page_forms.specs.Quotes.{attribute_of}
use Rattle.page_forms.specs.Remarks.{is_letter}
use Rattle.page_forms.specs.Words.{word, ascii, blanks}

-- this word in letters of any case
abbrev pub any_case : List ℕ → Expr
any_case [] = empty
any_case (w ∷ ws) = chain_of (ascii (is_letter w)) (any_case ws)

-- the version
abbrev pub version_form : Expr
version_form = attribute_of (codes "version") (λ q. word (codes "1.0"))

-- the encoding, in letters of any case
abbrev pub encoding_form : Expr
encoding_form = attribute_of (codes "encoding") (λ q. any_case (codes "UTF-8"))

-- whether the page stands alone
abbrev pub standalone_form : Expr
standalone_form = attribute_of (codes "standalone") (λ q. either_of (word (codes "yes")) (word (codes "no")))

-- `<?xml`, the version, maybe the encoding, maybe whether the page stands alone, maybe white space, `?>`
unfoldable pub declaration_form : Expr
declaration_form =
    chain_of (word (codes "<?xml"))
    (chain_of version_form
    (chain_of (either_of empty (either_of (chain_of encoding_form (either_of empty standalone_form)) standalone_form))
    (chain_of blanks (word (codes "?>")))))
