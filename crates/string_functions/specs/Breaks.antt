-- Line breaks for HTML (PHP manual, nl2br).
use Rattle.std.specs.Prelude.{ℕ, Bool, true, false, not, ◌==◌, ◌||◌, ◌&&◌, List, [], ◌∷◌, ◌++◌, codes, if◌then◌else◌}

-- LF or CR
abbrev pub is_line_end : ℕ → Bool
is_line_end b = b == 10 || b == 13

-- the byte, which is LF or CR, is followed by the other of the two, and the two are one line end
abbrev pub begins_pair : ℕ → List ℕ → Bool
begins_pair b [] = false
begins_pair b (next ∷ rest) = is_line_end next && not (next == b)

-- the text with `<br />` before each line end, where the first byte may be the second of a line end that has its `<br />`
abbrev pub breaks_past : Bool → List ℕ → List ℕ
breaks_past second [] = []
breaks_past true (b ∷ rest) = b ∷ breaks_past false rest
breaks_past false (b ∷ rest) =
    if is_line_end b then codes "<br />" ++ (b ∷ breaks_past (begins_pair b rest) rest) else b ∷ breaks_past false rest

-- `nl2br(text)`: `<br />` before each CR LF, LF CR, LF and CR, read from the left, two bytes first
abbrev pub breaks_of : List ℕ → List ℕ
breaks_of text = breaks_past false text
