-- The ways in which the pieces of a page begin, by the numbers of their forms.
use Rattle.std.specs.Prelude.{◌≡◌, ℕ, zero, suc, ◌+◌, ◌*◌, ◌==◌, if◌then◌else◌, List, [], ◌∷◌, ◌++◌, get_or}
use Rattle.text_base.specs.declared.page_token.PageToken.TheVariants as token
use Rattle.byte_readers.specs.declared.emit.Emit.{Emit}
use Rattle.byte_readers.specs.declared.emit.Emit.TheVariants.{Nothing, One, Two}
use Rattle.partial_derivatives.specs.declared.part.Part.TheVariants.{Whole}
use Rattle.way_reader.specs.declared.reader.Starts.{Starts}
use Rattle.way_reader.specs.declared.way.Spot.{Spot}
use Rattle.way_reader.specs.declared.way.Spot.TheVariants.{Beginning, BehindMark, Behind}
use Rattle.way_reader.specs.declared.way.Way.{Way}

-- the number at a place
abbrev pub number_at : List ℕ → ℕ → ℕ
number_at ns place = get_or ns place 0

-- the expression with this number as a whole
abbrev pub whole : ℕ → Emit → Spot → Way
whole n emit to = record { parts = Whole n ∷ []; emit = emit; to = to }

-- the same by its place, behind which no `]` counts
abbrev pub giving : List ℕ → ℕ → Emit → Way
giving ns place emit = whole (number_at ns place) emit (Behind 0)

-- the byte order mark and the XML declaration
abbrev pub early : List ℕ → Spot → List Way
early ns Beginning = whole (number_at ns 6) Nothing BehindMark ∷ giving ns 7 Nothing ∷ []
early ns BehindMark = giving ns 7 Nothing ∷ []
early ns (Behind k) = []

-- how many `]` are the last behind one more
abbrev pub brackets_behind : Spot → ℕ
brackets_behind Beginning = 1
brackets_behind BehindMark = 1
brackets_behind (Behind k) = if k == 0 then 1 else 2

-- the place of the form of text
abbrev pub text_at : Spot → ℕ
text_at Beginning = 14
text_at BehindMark = 15
text_at (Behind k) = if k == 2 then 17 else 16

-- text and references
abbrev pub text : List ℕ → Spot → List Way
text ns spot =
    giving ns 8 (One token.Blank) ∷ whole (number_at ns 9) (One token.Text) (Behind (brackets_behind spot)) ∷ giving ns (text_at spot) (One token.Text)
    ∷ giving ns 0 (One token.Text) ∷ giving ns 10 (One token.Text) ∷ []

-- comments, instructions and document type declarations
abbrev pub others : List ℕ → List Way
others ns = giving ns 11 (One token.Misc) ∷ giving ns 12 (One token.Misc) ∷ giving ns 13 (One token.Doctype) ∷ []

-- the tags of an element, before others
abbrev pub element : List ℕ → ℕ → List Way → List Way
element ns n ways =
    giving ns (18 + 3 * n) (One (token.Start (record { 0 = n })))
    ∷ giving ns (18 + 3 * n + 1) (Two (token.Start (record { 0 = n })) (token.End (record { 0 = n })))
    ∷ giving ns (18 + 3 * n + 2) (One (token.End (record { 0 = n }))) ∷ ways

-- the tags of so many elements from one on
abbrev pub elements : List ℕ → ℕ → ℕ → List Way
elements ns n zero = []
elements ns n (suc k) = element ns n (elements ns (suc n) k)

-- all ways in which a piece begins at a spot
abbrev pub all : List ℕ → ℕ → Spot → List Way
all ns count spot = early ns spot ++ (text ns spot ++ (others ns ++ elements ns 0 count))

-- by where pieces begin
pub record AreStarts (ns : List ℕ) (count : ℕ) (starts : Starts) : Type 0 where
  pub beginning : starts.beginning.items ≡ all ns count Beginning
  pub behind_mark : starts.behind_mark.items ≡ all ns count BehindMark
  pub behind : starts.behind.items ≡ all ns count (Behind 0)
  pub behind_one : starts.behind_one.items ≡ all ns count (Behind 1)
  pub behind_two : starts.behind_two.items ≡ all ns count (Behind 2)
