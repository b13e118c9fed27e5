-- The report on the scripts of a list: a line of JSON (RFC 8259) for each; this project's own.
use Rattle.std.specs.Prelude.{ℕ, Bool, true, false, List, [], ◌∷◌, ◌++◌, codes, decimal}
use Rattle.std.specs.Str.Lossy.{utf8_lossy}
use Rattle.json.specs.Print.{quoted}
use Rattle.serde_json.specs.Data.{Data, member, no_members, number, object, string, unsigned}
use Rattle.site_check.specs.declared.line.Line.{Line}
use Rattle.site_check.specs.declared.line.Line.TheVariants.{Yes, No, Pairs, Tags, Items, Refused}

-- `{"answer":"yes","file":NAME}`
abbrev pub yes_object : List ℕ → List ℕ
yes_object name = codes "{\"answer\":\"yes\",\"file\":" ++ (quoted name ++ codes "}")

-- `{"answer":"no","file":NAME,"length":LENGTH}`
abbrev pub no_object : List ℕ → ℕ → List ℕ
no_object name len = codes "{\"answer\":\"no\",\"file\":" ++ (quoted name ++ (codes ",\"length\":" ++ (decimal len ++ codes "}")))

-- `{"answer":"undecided","count":COUNT,"file":NAME,"height":HEIGHT,"kind":KIND}`
abbrev pub sums_object : List ℕ → List ℕ → ℕ → ℕ → List ℕ
sums_object name kind count height =
    codes "{\"answer\":\"undecided\",\"count\":" ++ (decimal count ++ (codes ",\"file\":" ++ (quoted name
    ++ (codes ",\"height\":" ++ (decimal height ++ (codes ",\"kind\":" ++ (quoted kind ++ codes "}")))))))

-- `{"answer":"undecided","count":COUNT,"file":NAME,"kind":"items"}`
abbrev pub items_object : List ℕ → ℕ → List ℕ
items_object name count =
    codes "{\"answer\":\"undecided\",\"count\":" ++ (decimal count ++ (codes ",\"file\":" ++ (quoted name
    ++ (codes ",\"kind\":" ++ (quoted (codes "items") ++ codes "}")))))

-- `{"answer":"refused","file":NAME,"status":STATUS,"text":TEXT}`
abbrev pub refused_object : List ℕ → ℕ → List ℕ → List ℕ
refused_object name status text =
    codes "{\"answer\":\"refused\",\"file\":" ++ (quoted name ++ (codes ",\"status\":" ++ (decimal status
    ++ (codes ",\"text\":" ++ (quoted text ++ codes "}")))))

-- the object for a name and its line; bytes of a text that are no UTF-8 stand as U+FFFD
abbrev pub object_of : List ℕ → Line → List ℕ
object_of name Yes = yes_object name
object_of name (No len) = no_object name len
object_of name (Pairs count height) = sums_object name (codes "pairs") count height
object_of name (Tags count height) = sums_object name (codes "tags") count height
object_of name (Items count) = items_object name count
object_of name (Refused status text) = refused_object name status (utf8_lossy text)

-- the report: for each name in turn its object and LF
abbrev pub report : List (List ℕ) → List Line → List ℕ
report [] lines = []
report (name ∷ names) [] = []
report (name ∷ names) (line ∷ lines) = object_of name line ++ 10 ∷ report names lines

-- a line tells of a page that is not good
abbrev pub is_no : Line → Bool
is_no (No len) = true
is_no other = false

-- a line tells of a count that was passed
abbrev pub is_undecided : Line → Bool
is_undecided (Pairs count height) = true
is_undecided (Tags count height) = true
is_undecided (Items count) = true
is_undecided other = false

-- a line tells of a refusal
abbrev pub is_refused : Line → Bool
is_refused (Refused status text) = true
is_refused other = false

-- the object for a count of sums or tags, as data; no public clause cites this
abbrev pub sums_data : List ℕ → List ℕ → ℕ → ℕ → Data
sums_data name kind count height =
    object (member (codes "answer") (string (codes "undecided")) (member (codes "count") (number (unsigned count))
    (member (codes "file") (string name) (member (codes "height") (number (unsigned height))
    (member (codes "kind") (string kind) no_members)))))

-- the object for a name and its line, as data; no public clause cites this
abbrev pub data_of : List ℕ → Line → Data
data_of name Yes = object (member (codes "answer") (string (codes "yes")) (member (codes "file") (string name) no_members))
data_of name (No len) =
    object (member (codes "answer") (string (codes "no")) (member (codes "file") (string name)
    (member (codes "length") (number (unsigned len)) no_members)))
data_of name (Pairs count height) = sums_data name (codes "pairs") count height
data_of name (Tags count height) = sums_data name (codes "tags") count height
data_of name (Items count) =
    object (member (codes "answer") (string (codes "undecided")) (member (codes "count") (number (unsigned count))
    (member (codes "file") (string name) (member (codes "kind") (string (codes "items")) no_members))))
data_of name (Refused status text) =
    object (member (codes "answer") (string (codes "refused")) (member (codes "file") (string name)
    (member (codes "status") (number (unsigned status)) (member (codes "text") (string (utf8_lossy text)) no_members))))
