-- Escaping for HTML (PHP manual, htmlspecialchars with ENT_QUOTES, of UTF-8).
use Rattle.std.specs.Prelude.{ℕ, Bool, List, [], ◌∷◌, ◌==◌, ◌||◌, if◌then◌else◌, codes, flat_map}

-- the reference that stands for `&`, `<`, `>`, `"` or `'`; any other byte stands for itself
abbrev pub html_of_byte : ℕ → List ℕ
html_of_byte b =
    if b == 38 then codes "&amp;" else (if b == 60 then codes "&lt;" else
    (if b == 62 then codes "&gt;" else (if b == 34 then codes "&quot;" else (if b == 39 then codes "&#039;" else b ∷ []))))

-- `htmlspecialchars(text)`, which is asked of UTF-8 alone
abbrev pub html_of : List ℕ → List ℕ
html_of text = flat_map html_of_byte text

-- `<`, `>`, `"` or `'`, of which none is left after escaping
abbrev pub is_markup : ℕ → Bool
is_markup b = b == 60 || b == 62 || b == 34 || b == 39
