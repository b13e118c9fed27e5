-- The definitions on the PHP manual's examples, on edges and on near misses.
use Rattle.std.specs.Prelude.{◌≡◌, pos, negsuc, None, Some, true, false, [], ◌∷◌, codes, refl}
use Rattle.string_functions.specs.Html.{html_of}
use Rattle.string_functions.specs.Pieces.{pieces_of, join_of, replaced_text}
use Rattle.string_functions.specs.Cut.{part_of}
use Rattle.string_functions.specs.Case.{lower_of, upper_of, first_upper_of}
use Rattle.string_functions.specs.Trim.{trim_of}
use Rattle.string_functions.specs.Breaks.{breaks_of}
use Rattle.string_functions.specs.Url.{url_of, raw_url_of}
use Rattle.string_functions.specs.Slashes.{slashes_of}
use Rattle.string_functions.specs.Copies.{copies_of}

html_of_a_link : html_of (codes "<a href='test'>Test</a>") ≡ codes "&lt;a href=&#039;test&#039;&gt;Test&lt;/a&gt;"
html_of_a_link = refl

-- a reference is escaped again, and a byte from 0x80 on stays
html_of_a_reference : html_of (codes "&lt;") ≡ codes "&amp;lt;"
html_of_a_reference = refl

html_of_a_quote : html_of (34 ∷ 195 ∷ 169 ∷ []) ≡ 38 ∷ 113 ∷ 117 ∷ 111 ∷ 116 ∷ 59 ∷ 195 ∷ 169 ∷ []
html_of_a_quote = refl

-- the leftmost occurrence, and none that overlaps it
replaced_in_aaa : replaced_text (codes "aa") (codes "b") (codes "aaa") ≡ codes "ba"
replaced_in_aaa = refl

replaced_is_not_searched_again : replaced_text (codes "a") (codes "aa") (codes "aba") ≡ codes "aabaa"
replaced_is_not_searched_again = refl

-- removing `aa` from `abab` joins no new occurrence: `ab` taken from `aabb` leaves `ab`
replaced_leaves_what_it_joins : replaced_text (codes "ab") [] (codes "aabb") ≡ codes "ab"
replaced_leaves_what_it_joins = refl

replaced_without_search : replaced_text [] (codes "b") (codes "aaa") ≡ codes "aaa"
replaced_without_search = refl

-- a search begins anew where an attempt has failed
replaced_after_a_failed_attempt : replaced_text (codes "aab") (codes "-") (codes "aaab") ≡ codes "a-"
replaced_after_a_failed_attempt = refl

pieces_between_commas : pieces_of (codes ",") (codes "a,,b") ≡ codes "a" ∷ [] ∷ codes "b" ∷ []
pieces_between_commas = refl

pieces_at_the_ends : pieces_of (codes ",") (codes ",") ≡ [] ∷ [] ∷ []
pieces_at_the_ends = refl

pieces_of_nothing : pieces_of (codes ",") [] ≡ [] ∷ []
pieces_of_nothing = refl

pieces_in_aaa : pieces_of (codes "aa") (codes "aaa") ≡ [] ∷ codes "a" ∷ []
pieces_in_aaa = refl

pieces_without_separator : pieces_of [] (codes "ab") ≡ []
pieces_without_separator = refl

join_of_three : join_of (codes "-") (codes "a" ∷ [] ∷ codes "b" ∷ []) ≡ codes "a--b"
join_of_three = refl

join_of_one : join_of (codes "-") (codes "a" ∷ []) ≡ codes "a"
join_of_one = refl

-- `substr('abcdef', -1)`, `-2`, and `-3, 1` of the manual
part_of_last : part_of (codes "abcdef") (negsuc 0) None ≡ codes "f"
part_of_last = refl

part_of_last_two : part_of (codes "abcdef") (negsuc 1) None ≡ codes "ef"
part_of_last_two = refl

part_of_one_from_the_end : part_of (codes "abcdef") (negsuc 2) (Some (pos 1)) ≡ codes "d"
part_of_one_from_the_end = refl

-- the manual's negative lengths: `0, -1`, `2, -1`, `4, -4` and `-3, -1`
part_without_last : part_of (codes "abcdef") (pos 0) (Some (negsuc 0)) ≡ codes "abcde"
part_without_last = refl

part_from_two_without_last : part_of (codes "abcdef") (pos 2) (Some (negsuc 0)) ≡ codes "cde"
part_from_two_without_last = refl

part_that_ends_before_it_begins : part_of (codes "abcdef") (pos 4) (Some (negsuc 3)) ≡ []
part_that_ends_before_it_begins = refl

part_by_two_negatives : part_of (codes "abcdef") (negsuc 2) (Some (negsuc 0)) ≡ codes "de"
part_by_two_negatives = refl

-- past the end, more than there is, and before the beginning
part_past_the_end : part_of (codes "abc") (pos 4) (Some (pos 2)) ≡ []
part_past_the_end = refl

part_of_more_than_there_is : part_of (codes "abcdef") (pos 0) (Some (pos 8)) ≡ codes "abcdef"
part_of_more_than_there_is = refl

part_before_the_beginning : part_of (codes "abc") (negsuc 4) (Some (pos 2)) ≡ codes "ab"
part_before_the_beginning = refl

lower_of_mixed : lower_of (codes "Mary Had[@") ≡ codes "mary had[@"
lower_of_mixed = refl

-- a byte from 0x80 on has no case here
upper_of_mixed : upper_of (233 ∷ codes "zZ{`") ≡ 233 ∷ codes "ZZ{`"
upper_of_mixed = refl

first_upper_of_words : first_upper_of (codes "hello world!") ≡ codes "Hello world!"
first_upper_of_words = refl

trim_of_both : trim_of true true (codes " ") ≡ []
trim_of_both = refl

-- an inner blank stays, and a no-break space is no blank
trim_keeps_inner : trim_of true true (9 ∷ 0 ∷ 97 ∷ 32 ∷ 98 ∷ 160 ∷ 11 ∷ 13 ∷ []) ≡ 97 ∷ 32 ∷ 98 ∷ 160 ∷ []
trim_keeps_inner = refl

trim_of_left : trim_of true false (codes "  a b ") ≡ codes "a b "
trim_of_left = refl

trim_of_right : trim_of false true (codes " a b  ") ≡ codes " a b"
trim_of_right = refl

breaks_of_cr_lf : breaks_of (97 ∷ 13 ∷ 10 ∷ 98 ∷ []) ≡ 97 ∷ 60 ∷ 98 ∷ 114 ∷ 32 ∷ 47 ∷ 62 ∷ 13 ∷ 10 ∷ 98 ∷ []
breaks_of_cr_lf = refl

-- LF CR is one line end, and of LF CR LF the last LF is another
breaks_of_lf_cr : breaks_of (10 ∷ 13 ∷ 10 ∷ []) ≡ 60 ∷ 98 ∷ 114 ∷ 32 ∷ 47 ∷ 62 ∷ 10 ∷ 13 ∷ 60 ∷ 98 ∷ 114 ∷ 32 ∷ 47 ∷ 62 ∷ 10 ∷ []
breaks_of_lf_cr = refl

breaks_of_two_lines : breaks_of (10 ∷ 10 ∷ []) ≡ 60 ∷ 98 ∷ 114 ∷ 32 ∷ 47 ∷ 62 ∷ 10 ∷ 60 ∷ 98 ∷ 114 ∷ 32 ∷ 47 ∷ 62 ∷ 10 ∷ []
breaks_of_two_lines = refl

url_of_signs : url_of (codes "a b~-_.+/") ≡ codes "a+b%7E-_.%2B%2F"
url_of_signs = refl

raw_url_of_signs : raw_url_of (codes "foo @+%/~") ≡ codes "foo%20%40%2B%25%2F~"
raw_url_of_signs = refl

url_of_high_bytes : url_of (233 ∷ 0 ∷ 255 ∷ []) ≡ codes "%E9%00%FF"
url_of_high_bytes = refl

slashes_of_a_name : slashes_of (codes "O'Reilly") ≡ 79 ∷ 92 ∷ 39 ∷ codes "Reilly"
slashes_of_a_name = refl

slashes_of_nul : slashes_of (0 ∷ 92 ∷ 34 ∷ []) ≡ 92 ∷ 48 ∷ 92 ∷ 92 ∷ 92 ∷ 34 ∷ []
slashes_of_nul = refl

copies_of_three : copies_of 3 (codes "-=") ≡ codes "-=-=-="
copies_of_three = refl

copies_of_none : copies_of 0 (codes "-=") ≡ []
copies_of_none = refl
