-- How pieces begin (XML 1.0, 2.4 to 2.8, 3.1 and 4.1).
use Rattle.std.specs.Prelude.{ℕ, Bool, true, false, ◌==◌, ◌&&◌, ◌||◌, if◌then◌else◌, List, [], ◌∷◌, codes, take, nat_eq, Option, Some, None}
use Rattle.std.specs.List.{starts_with}
use Rattle.std.specs.Str.{str_eq_ignore_ascii_case}
use Rattle.xml_text.specs.Characters.{is_blank}
use Rattle.xml_text.specs.Names.{begins_name}
use Rattle.dtd_model.specs.References.{is_reference, is_some}
use Rattle.page_model.specs.Parts.{reference_of}
use Rattle.page_model.specs.Scan.{front, beyond, is_other}

-- whether the characters begin with those of a word
abbrev pub begins : List ℕ → List ℕ → Bool
begins word cs = starts_with nat_eq cs word

-- what is left from the first occurrence of a word on
abbrev pub from_first : List ℕ → List ℕ → Option (List ℕ)
from_first word [] = None
from_first word (c ∷ cs) = if begins word (c ∷ cs) then Some (c ∷ cs) else from_first word cs

-- whether a name begins there (XML 1.0, 2.3, Name)
abbrev pub is_named : List ℕ → Bool
is_named [] = false
is_named (c ∷ cs) = begins_name c

-- `DOCTYPE` in letters of any case; a lawful declaration has capital ones (XML 1.0, 2.8)
abbrev pub is_doctype_word : List ℕ → Bool
is_doctype_word cs = str_eq_ignore_ascii_case (take 7 cs) (codes "DOCTYPE")

-- behind `<!`: `--`, `[CDATA[` or the word of a document type declaration (XML 1.0, 2.5, 2.7 and 2.8)
abbrev pub is_opener : List ℕ → Bool
is_opener cs = begins (codes "--") cs || begins (codes "[CDATA[") cs || is_doctype_word cs

-- behind `<`: `!` and such an opener, `?` or `/` and a name, or a name (XML 1.0, 2.6 and 3.1)
abbrev pub begins_markup : List ℕ → Bool
begins_markup [] = false
begins_markup (c ∷ cs) = if c == 33 then is_opener cs else (if c == 63 || c == 47 then is_named cs else begins_name c)

-- behind `&`: a reference up to the next `;` (XML 1.0, 4.1)
abbrev pub begins_reference : List ℕ → Bool
begins_reference cs = is_some (beyond (is_other 59) cs) && is_reference (reference_of (front (is_other 59) cs))

-- behind the target of an instruction: white space, the end, or nothing more (XML 1.0, 2.6, PI)
abbrev pub is_apart : List ℕ → Bool
is_apart [] = true
is_apart (c ∷ cs) = is_blank c || begins (codes "?>") (c ∷ cs)
