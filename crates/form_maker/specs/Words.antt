-- What is put before the last expression, from the right to the left.
use Rattle.std.specs.Prelude.{ℕ, Bool, nat_le, if◌then◌else◌, List, [], ◌∷◌, Option, Some, None}
use Rattle.xml_text.specs.Names.{in_name, is_name, is_name_token}
use Rattle.dtd_model.specs.Table.{Declared}
use Rattle.derivatives.specs.Expressions.{Expr, nothing, empty, range, star}
use Rattle.derivatives.specs.Derivatives.{chain_of, either_of}
use Rattle.page_model.specs.Attributes.{must_stand}
use Rattle.page_forms.specs.Tags.{attribute_form}
use Rattle.page_forms.specs.Words.{word, in_turn, ascii}
use Rattle.form_maker.specs.Classes.{in_class}
use Rattle.form_maker.specs.declared.references.WordTest.{WordTest}
use Rattle.form_maker.specs.declared.references.WordTest.TheVariants.{Name, Token}
use Rattle.form_maker.specs.declared.class.ByteClass.{ByteClass}
use Rattle.form_maker.specs.Making.{with_one}

-- bytes in their order
abbrev pub word_before : List ℕ → Expr → Expr
word_before [] e = e
word_before (b ∷ bs) e = chain_of (range b b) (word_before bs e)

-- a range that is open up to its last byte
abbrev pub range_before : ℕ → Option ℕ → Expr → Expr
range_before first None e = e
range_before first (Some last) e = either_of (range first last) e

-- the bytes from the one to the other; none, where that is before this
abbrev pub span : ℕ → ℕ → Expr
span low high = if nat_le low high then range low high else nothing

-- one of each, in their order
abbrev pub spans : List (ℕ × ℕ) → Expr
spans [] = empty
spans (r ∷ rs) = chain_of (span r.0 r.1) (spans rs)

-- one of the rows, or the last expression
abbrev pub rows_before : List (List (ℕ × ℕ)) → Expr → Expr
rows_before [] e = e
rows_before (row ∷ rows) e = either_of (in_turn row) (rows_before rows e)

-- what a name may hold, any number of times
abbrev pub rest_of_name : Expr
rest_of_name = star (ascii in_name)

-- a byte of the class, and such bytes behind it
abbrev pub name_by : ByteClass → Expr
name_by first = chain_of (ascii (in_class first)) rest_of_name

-- behind zeros
abbrev pub behind_zeros : Expr → Expr
behind_zeros e = chain_of (star (range 48 48)) e

-- what a word has to be
abbrev pub word_test : WordTest → List ℕ → Bool
word_test Name = is_name
word_test Token = is_name_token

-- the word, where it passes, or the last expression
abbrev pub word_if : Bool → List ℕ → Expr → Expr
word_if passes w e = if passes then either_of (word w) e else e

-- one of the words that pass a test
abbrev pub words_before : (List ℕ → Bool) → List (List ℕ) → Expr → Expr
words_before test [] e = e
words_before test (w ∷ ws) e = if test w then either_of (word w) (words_before test ws e) else words_before test ws e

-- the declared attributes of an element of this name, as members
abbrev pub members_before : List (List ℕ) → List ℕ → List Declared → Expr → Expr
members_before entities tag [] e = e
members_before entities tag (d ∷ ds) e = with_one (must_stand tag d) (members_before entities tag ds e) (attribute_form entities d)
