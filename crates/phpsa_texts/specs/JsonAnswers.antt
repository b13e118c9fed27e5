-- The answers of the program as JSON (RFC 8259), each one compact object and a line feed (10).
use Rattle.std.specs.Prelude.{ℕ, List, [], ◌∷◌, ◌++◌, codes, decimal}
use Rattle.json.specs.Print.{quoted}
use Rattle.hex.specs.Hex.{encode_lower}

-- `{"answer":"yes"}`
abbrev pub yes_json : List ℕ
yes_json = codes "{\"answer\":\"yes\"}" ++ 10 ∷ []

-- `{"answer":"no","length":LENGTH,"page":"HEX"}`: a length, and the bytes at the front of a page as two lower-case hexadecimal digits each
abbrev pub no_json : ℕ → List ℕ → List ℕ
no_json len front =
    codes "{\"answer\":\"no\",\"length\":" ++ (decimal len ++ (codes ",\"page\":" ++ (quoted (encode_lower front) ++ codes "}"))) ++ 10 ∷ []

-- `{"answer":"undecided","count":COUNT,"height":HEIGHT,"kind":"KIND"}`: a count of sums or of tags, of derivations of at most this height
abbrev pub sums_json : List ℕ → ℕ → ℕ → List ℕ
sums_json kind count height =
    codes "{\"answer\":\"undecided\",\"count\":"
    ++ (decimal count ++ (codes ",\"height\":" ++ (decimal height ++ (codes ",\"kind\":" ++ (quoted kind ++ codes "}"))))) ++ 10 ∷ []

-- `{"answer":"undecided","count":COUNT,"kind":"KIND","length":LENGTH}`: the same, of sentences of at most so many bytes
abbrev pub short_sums_json : List ℕ → ℕ → ℕ → List ℕ
short_sums_json kind count len =
    codes "{\"answer\":\"undecided\",\"count\":"
    ++ (decimal count ++ (codes ",\"kind\":" ++ (quoted kind ++ (codes ",\"length\":" ++ (decimal len ++ codes "}"))))) ++ 10 ∷ []

-- `{"answer":"undecided","count":COUNT,"kind":"items"}`: a count of items
abbrev pub items_json : ℕ → List ℕ
items_json count = codes "{\"answer\":\"undecided\",\"count\":" ++ (decimal count
    ++ (codes ",\"kind\":" ++ (quoted (codes "items") ++ codes "}"))) ++ 10 ∷ []
