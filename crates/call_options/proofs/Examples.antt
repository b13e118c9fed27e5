-- Words with options put in, by the forms of docs/command-line.md; members that say no option; lines.
use Rattle.std.proofs.Common.{◌≡◌, [], ◌∷◌, Some, None, true, refl, codes, pos, negsuc}
use Rattle.std.specs.Fmt.{digits}
use Rattle.std.specs.Str.{chars, is_utf8}
use Rattle.toml.specs.Data.{string, integer, boolean}
use Rattle.toml.proofs.OnLiterals.{toml_on_literals}
use Rattle.call_options.specs.Members.{said_by}
use Rattle.call_options.specs.Outcome.{gives, line_at, not_toml, outcome, refused}
use Rattle.call_options.specs.Words.{with_options}

an_option : with_options (codes "check" ∷ codes "t.php" ∷ []) ((codes "dtd", codes "mini") ∷ []) ≡ codes "check" ∷ codes "--dtd=mini" ∷ codes "t.php" ∷ []
an_option = refl

words_win : with_options (codes "check" ∷ codes "t.php" ∷ codes "--dtd" ∷ codes "strict" ∷ []) ((codes "dtd", codes "mini") ∷ []) ≡ codes "check" ∷ codes "t.php" ∷ codes "--dtd" ∷ codes "strict" ∷ []
words_win = refl

joined_words_win : with_options (codes "page" ∷ codes "--dtd=strict" ∷ codes "t.html" ∷ []) ((codes "dtd", codes "mini") ∷ []) ≡ codes "page" ∷ codes "--dtd=strict" ∷ codes "t.html" ∷ []
joined_words_win = refl

a_file_of_that_name : with_options (codes "page" ∷ codes "--" ∷ codes "--dtd" ∷ []) ((codes "dtd", codes "mini") ∷ []) ≡ codes "page" ∷ codes "--dtd=mini" ∷ codes "--" ∷ codes "--dtd" ∷ []
a_file_of_that_name = refl

not_taken : with_options (codes "page" ∷ codes "t.html" ∷ []) ((codes "limit", codes "7") ∷ []) ≡ codes "page" ∷ codes "t.html" ∷ []
not_taken = refl

a_longer_name : with_options (codes "site" ∷ codes "l" ∷ codes "--limits=3" ∷ []) ((codes "limit", codes "7") ∷ []) ≡ codes "site" ∷ codes "--limit=7" ∷ codes "l" ∷ codes "--limits=3" ∷ []
a_longer_name = refl

the_first_counts : with_options (codes "site" ∷ codes "l" ∷ []) ((codes "limit", codes "7") ∷ (codes "limit", codes "8") ∷ []) ≡ codes "site" ∷ codes "--limit=7" ∷ codes "l" ∷ []
the_first_counts = refl

a_number : said_by (codes "limit") (integer (pos 99999999)) ≡ Some (codes "99999999")
unfolding digits
a_number = refl

nine_digits : said_by (codes "limit") (integer (pos 100000000)) ≡ None
nine_digits = refl

zero_is_none : said_by (codes "limit") (integer (pos 0)) ≡ None
zero_is_none = refl

below_zero : said_by (codes "limit") (integer (negsuc 0)) ≡ None
below_zero = refl

a_text_is_no_number : said_by (codes "limit") (string (codes "7")) ≡ None
a_text_is_no_number = refl

an_empty_name : said_by (codes "dtd") (string []) ≡ None
an_empty_name = refl

like_an_option : said_by (codes "root") (string (codes "-x")) ≡ None
like_an_option = refl

the_standard_input : said_by (codes "dtd") (string (codes "-")) ≡ Some (codes "-")
the_standard_input = refl

no_member : said_by (codes "json") (boolean true) ≡ None
no_member = refl

-- the options of a text, in byte order of their names
a_file : outcome (codes "limit = 1_000\ndtd = 'mini'\n") ≡ gives ((codes "dtd", codes "mini") ∷ (codes "limit", codes "1000") ∷ [])
unfolding is_utf8 chars digits toml_on_literals
a_file = refl

an_empty_file : outcome [] ≡ gives []
unfolding is_utf8 chars digits toml_on_literals
an_empty_file = refl

an_unknown_member : outcome (codes "dtd = 'mini'\njson = true\n") ≡ refused (codes "json")
unfolding is_utf8 chars digits toml_on_literals
an_unknown_member = refl

no_text_of_toml : outcome (codes "dtd = mini\n") ≡ not_toml
unfolding is_utf8 chars digits toml_on_literals
no_text_of_toml = refl

the_second_line : line_at (codes "a\nb\nc") 2 ≡ 2
the_second_line = refl

a_root : with_options (codes "run" ∷ codes "t.php" ∷ []) ((codes "root", codes "..") ∷ (codes "dtd", codes "mini") ∷ []) ≡ codes "run" ∷ codes "--root=.." ∷ codes "t.php" ∷ []
a_root = refl

a_file_of_stubs : outcome (codes "stubs = 'env.php'\n") ≡ gives ((codes "stubs", codes "env.php") ∷ [])
unfolding is_utf8 chars digits toml_on_literals
a_file_of_stubs = refl

stubs_of_a_page : with_options (codes "page" ∷ codes "t.html" ∷ []) ((codes "stubs", codes "env.php") ∷ []) ≡ codes "page" ∷ codes "t.html" ∷ []
stubs_of_a_page = refl
