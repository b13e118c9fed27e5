-- Places in the bytes of a page, by what is left of its characters.
use Rattle.std.specs.Prelude.{◌≡◌, ℕ, ◌-◌, List, length}
use Rattle.std.specs.Str.{encode_utf8_all}
use Rattle.piece_reasons.specs.declared.reasons.Span.{Span}

-- how many bytes of a page of so many stand before what is left of its characters
abbrev pub place_before : ℕ → List ℕ → ℕ
place_before size left = size - length (encode_utf8_all left)

-- the bytes from one place on, where this is left, up to another, where that is left
abbrev pub IsSpan : ℕ → List ℕ → List ℕ → Span → Type 0
IsSpan size left behind span = (span.from ≡ place_before size left) × (span.to ≡ place_before size behind)
