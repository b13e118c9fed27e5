-- Comments, CDATA sections and instructions as expressions (XML 1.0, 2.5 to 2.7).
use Rattle.std.specs.Prelude.{ℕ, zero, suc, Bool, not, ◌==◌, ◌&&◌, ◌||◌, List, [], ◌∷◌, codes}
use Rattle.std.specs.Char.{to_ascii_lowercase}
use Rattle.xml_text.specs.Characters.{is_blank}
use Rattle.xml_text.specs.Names.{begins_name, in_name}
use Rattle.derivatives.specs.Expressions.{Expr, empty, range, star}
use Rattle.derivatives.specs.Derivatives.{chain_of, either_of}
use Rattle.page_forms.specs.Words.{word, ascii, character_of, other_than}

-- `<!--`, characters among which each `-` is followed by another character, `-->`
unfoldable pub comment_form : Expr
comment_form = chain_of (word (codes "<!--")) (chain_of (star (either_of (other_than 45) (chain_of (range 45 45) (other_than 45)))) (word (codes "-->")))

-- The text that ends at the first `]]>` or `?>` is cut behind each other character than the first of that mark. So many times that
-- character may stand before any other; from then on no `>` may follow.
abbrev pub run_then : ℕ → ℕ → Expr
run_then c zero = chain_of (star (range c c)) (character_of (λ d. not (d == c || d == 62)))
run_then c (suc n) = either_of (other_than c) (chain_of (range c c) (run_then c n))

-- so many times the same byte
abbrev pub times : ℕ → ℕ → List ℕ
times c zero = []
times c (suc n) = c ∷ times c n

-- characters up to the first place where this one stands so many times and `>` behind it, and all these
abbrev pub text_up_to : ℕ → ℕ → Expr
text_up_to c n = chain_of (star (run_then c n)) (chain_of (word (times c n)) (chain_of (star (range c c)) (range 62 62)))

-- `<![CDATA[`, and characters up to the first `]]>`
unfoldable pub section_form : Expr
section_form = chain_of (word (codes "<![CDATA[")) (text_up_to 93 2)

-- a letter, in either case
abbrev pub is_letter : ℕ → ℕ → Bool
is_letter w c = to_ascii_lowercase c == to_ascii_lowercase w

-- what may follow in a name, but for this word in any case
abbrev pub not_behind : List ℕ → Expr
not_behind [] = chain_of (ascii in_name) (star (ascii in_name))
not_behind (w ∷ ws) =
    either_of empty
    (either_of (chain_of (ascii (λ c. in_name c && not (is_letter w c))) (star (ascii in_name))) (chain_of (ascii (is_letter w)) (not_behind ws)))

-- a name that is not `xml` in any case
abbrev pub target_form : Expr
target_form =
    either_of (chain_of (ascii (λ c. begins_name c && not (is_letter 120 c))) (star (ascii in_name)))
    (chain_of (ascii (is_letter 120)) (not_behind (codes "ml")))

-- `<?`, a target, and `?>` or white space and characters up to the first `?>`
unfoldable pub instruction_form : Expr
instruction_form =
    chain_of (word (codes "<?")) (chain_of target_form (either_of (word (codes "?>")) (chain_of (ascii is_blank) (text_up_to 63 1))))
