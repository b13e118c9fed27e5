-- The text form and the truth of a value (PHP manual, "Strings: converting to string" and "Booleans: converting to boolean").
use Rattle.std.specs.Prelude.{ℕ, pos, ◌==◌, Bool, true, false, not, List, [], ◌∷◌, codes}
use Rattle.std.specs.Ordering.{int_eq}
use Rattle.std.specs.Fmt.{signed_decimal}
use Rattle.plain_values.specs.Plain.{Plain, Pairs, null, flag, int, text, array, empty, pair}

-- null and false are the empty text, true is `1`, an integer its decimal form, and an array `Array`
abbrev pub text_of : Plain → List ℕ
text_of null = []
text_of (flag false) = []
text_of (flag true) = codes "1"
text_of (int z) = signed_decimal z
text_of (text t) = t
text_of (array ps) = codes "Array"

-- false for the empty text and for `0`, and true for any other text
abbrev pub text_truth : List ℕ → Bool
text_truth [] = false
text_truth (b ∷ []) = not (b == 48)
text_truth (b ∷ (c ∷ bs)) = true

-- false for the empty array, and true for any other
abbrev pub pairs_truth : Pairs → Bool
pairs_truth empty = false
pairs_truth (pair k v ps) = true

-- false are null, false, 0, the empty text, the text `0` and the empty array
abbrev pub truth : Plain → Bool
truth null = false
truth (flag b) = b
truth (int z) = not (int_eq z (pos 0))
truth (text t) = text_truth t
truth (array ps) = pairs_truth ps
