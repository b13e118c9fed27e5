-- The sum of nesting: the elements of the unmatched end tags in order, and of the unmatched start tags, the innermost first.
use Rattle.std.specs.Prelude.{◌≡◌, ℕ, ◌+◌, Bool, true, false, if◌then◌else◌, List, [], ◌∷◌, ◌++◌, length, nat_eq}
use Rattle.text_base.specs.declared.page_token.PageToken.{PageToken}
use Rattle.text_base.specs.declared.page_token.PageToken.TheVariants.{Doctype, Start, End, Blank, Text, Misc, Bad}
use Rattle.tag_sums.specs.Trees.{Nodes, tokens_of}

-- what is left unmatched, end tags and start tags; or torn, where an end tag met a start tag of another element or a token is bad
pub data Nest : Type 0 where
  torn : Nest
  nest : List ℕ → List ℕ → Nest

-- the openers of the first meet the closers of the second
abbrev pub match_tags : List ℕ → List ℕ → List ℕ → List ℕ → Nest
match_tags ca [] cb ob = nest (ca ++ cb) ob
match_tags ca (q ∷ oa) [] ob = nest ca (ob ++ q ∷ oa)
match_tags ca (q ∷ oa) (s ∷ cb) ob = if nat_eq s q then match_tags ca oa cb ob else torn

-- the sum of what the one stands for and then what the other does
abbrev pub join : Nest → Nest → Nest
join torn t = torn
join (nest ca oa) torn = torn
join (nest ca oa) (nest cb ob) = match_tags ca oa cb ob

-- the sum of one token: a start tag or an end tag is unmatched, a bad token is torn, and the others leave nothing
abbrev pub nest_token : PageToken → Nest
nest_token Doctype = nest [] []
nest_token (Start e) = nest [] (e.0 ∷ [])
nest_token (End e) = nest (e.0 ∷ []) []
nest_token Blank = nest [] []
nest_token Text = nest [] []
nest_token Misc = nest [] []
nest_token Bad = torn

-- the sum of the tokens from the first to the last
abbrev pub nest_of : List PageToken → Nest
nest_of [] = nest [] []
nest_of (t ∷ ts) = join (nest_token t) (nest_of ts)

-- the tokens are those of a tree, whatever its elements hold
abbrev pub IsNested : List PageToken → Type 0
IsNested ts = (nodes : Nodes) × (tokens_of nodes ≡ ts)

-- the number of unmatched tags, 0 for a torn sum
abbrev pub nest_count : Nest → ℕ
nest_count torn = 0
nest_count (nest closers openers) = length closers + length openers

-- whether some end tag met a start tag of another element, or a token was none of a page
abbrev pub is_torn : Nest → Bool
is_torn torn = true
is_torn (nest closers openers) = false

-- nothing is unmatched
abbrev pub is_balanced : Nest → Bool
is_balanced torn = false
is_balanced (nest [] []) = true
is_balanced (nest [] (q ∷ openers)) = false
is_balanced (nest (s ∷ closers) openers) = false
