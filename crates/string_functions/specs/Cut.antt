-- Cutting by start and length (PHP manual, substr), and the parts of a text.
use Rattle.std.specs.Prelude.{◌≡◌, ℕ, suc, ◌+◌, ◌-◌, ℤ, pos, negsuc, Option, None, Some, List, ◌++◌, length, take, drop}

-- where the part begins: a negative start counts from the end of the text, and not past its beginning
abbrev pub start_in : List ℕ → ℤ → ℕ
start_in text (pos start) = start
start_in text (negsuc below) = length text - suc below

-- where it ends, for the place where it begins: the end of the text, so many bytes on, or so many bytes before the end of the text
abbrev pub end_in : List ℕ → ℕ → Option ℤ → ℕ
end_in text from None = length text
end_in text from (Some (pos len)) = from + len
end_in text from (Some (negsuc below)) = length text - suc below

-- the bytes from one place up to another, or as many as there are
abbrev pub bytes_between : ℕ → ℕ → List ℕ → List ℕ
bytes_between from to text = take (to - from) (drop from text)

-- `substr(text, start, len)`, and `substr(text, start)` at no length
abbrev pub part_of : List ℕ → ℤ → Option ℤ → List ℕ
part_of text start len = bytes_between (start_in text start) (end_in text (start_in text start) len) text

-- the part stands somewhere in the text, in one run
pub record IsFactor (text part : List ℕ) : Type 0 where
  pub before : List ℕ
  pub after : List ℕ
  pub whole : text ≡ before ++ (part ++ after)
