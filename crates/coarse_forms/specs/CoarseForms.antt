-- The coarse pieces of a page: what each loose piece is made of, whatever the definition, with no look at names, numbers, values and
-- characters. A weaker form of XML 1.0, 2.4 to 2.8, 3.1 and 4.1.
use Rattle.std.specs.Prelude.{ℕ, zero, suc, Bool, not, ◌==◌, ◌||◌, codes}
use Rattle.xml_text.specs.Characters.{is_blank}
use Rattle.xml_text.specs.Names.{begins_name, in_name}
use Rattle.derivatives.specs.Expressions.{Expr, range, star}
use Rattle.derivatives.specs.Derivatives.{chain_of, either_of}
use Rattle.page_forms.specs.Quotes.{quoted}
use Rattle.page_forms.specs.Remarks.{times}
use Rattle.page_forms.specs.Words.{word, ascii, name_form}

-- a byte of ASCII that passes a test, or any byte of a longer character
abbrev pub byte_of : (ℕ → Bool) → Expr
byte_of test = either_of (ascii test) (range 128 255)

-- any byte but this one of ASCII
abbrev pub byte_but : ℕ → Expr
byte_but c = byte_of (λ d. not (d == c))

-- a byte outside markup
abbrev pub text_byte : Expr
text_byte = byte_of (λ c. not (c == 60 || c == 38))

-- `&`, bytes of names and `#`, `;`
abbrev pub coarse_reference : Expr
coarse_reference = chain_of (word (codes "&")) (chain_of (star (ascii (λ c. in_name c || c == 35))) (word (codes ";")))

-- bytes of ASCII that pass a test, and texts in quotes
abbrev pub parts_of_tag : (ℕ → Bool) → (ℕ → Expr) → Expr
parts_of_tag test between = star (either_of (ascii test) (quoted between))

-- the bytes of a value in these quotes (XML 1.0, 2.3, AttValue)
abbrev pub value_bytes : ℕ → Expr
value_bytes q = star (byte_of (λ c. not (c == 60 || c == q)))

-- `<`, the first byte of a name, what may stand in a tag, `>`
abbrev pub coarse_tag : Expr
coarse_tag =
    chain_of (word (codes "<"))
    (chain_of (ascii begins_name)
    (chain_of (parts_of_tag (λ c. in_name c || is_blank c || (c == 61 || c == 47)) value_bytes) (word (codes ">"))))

-- `</`, bytes of names and white space, `>`
abbrev pub coarse_end_tag : Expr
coarse_end_tag = chain_of (word (codes "</")) (chain_of (star (ascii (λ c. in_name c || is_blank c))) (word (codes ">")))

-- `<!--`, bytes without `--`, `-->`
abbrev pub coarse_comment : Expr
coarse_comment =
    chain_of (word (codes "<!--")) (chain_of (star (either_of (byte_but 45) (chain_of (range 45 45) (byte_but 45)))) (word (codes "-->")))

-- so many times this byte may stand before any other; from then on no `>` may follow
abbrev pub bytes_then : ℕ → ℕ → Expr
bytes_then c zero = chain_of (star (range c c)) (byte_of (λ d. not (d == c || d == 62)))
bytes_then c (suc n) = either_of (byte_but c) (chain_of (range c c) (bytes_then c n))

-- bytes up to the first place where this one stands so many times and `>` behind it, and all these
abbrev pub bytes_up_to : ℕ → ℕ → Expr
bytes_up_to c n = chain_of (star (bytes_then c n)) (chain_of (word (times c n)) (chain_of (star (range c c)) (range 62 62)))

-- `<![CDATA[`, and bytes up to the first `]]>`
abbrev pub coarse_section : Expr
coarse_section = chain_of (word (codes "<![CDATA[")) (bytes_up_to 93 2)

-- `<?`, a name, and `?>` or white space and bytes up to the first `?>`: an instruction, or the XML declaration
abbrev pub coarse_instruction : Expr
coarse_instruction =
    chain_of (word (codes "<?")) (chain_of name_form (either_of (word (codes "?>")) (chain_of (ascii is_blank) (bytes_up_to 63 1))))

-- the bytes of a literal in these quotes
abbrev pub literal_bytes : ℕ → Expr
literal_bytes q = star (byte_but q)

-- `<!DOCTYPE`, bytes of names, white space and literals, `>`
abbrev pub coarse_doctype : Expr
coarse_doctype =
    chain_of (word (codes "<!DOCTYPE")) (chain_of (parts_of_tag (λ c. in_name c || is_blank c) literal_bytes) (word (codes ">")))

-- one of them
unfoldable pub coarse_form : Expr
coarse_form =
    either_of text_byte
    (either_of coarse_reference
    (either_of coarse_tag
    (either_of coarse_end_tag
    (either_of coarse_comment
    (either_of coarse_section (either_of coarse_instruction coarse_doctype))))))
