-- Characters by their bytes, on the tables of RFC 3629 and near misses.
use Rattle.std.proofs.Common.{◌≡◌, true, false, [], ◌∷◌, None, Some, refl}
use Rattle.std.specs.Char.{encode_utf8}
use Rattle.std.specs.Str.{chars}
use Rattle.character_steps.specs.Bytes.{decoded, is_begun}

-- `A`, e with an acute accent, the euro sign, and a character of four bytes
one : decoded (0x41 ∷ []) ≡ Some 0x41
unfolding decoded chars encode_utf8
one = refl

two : decoded (0xC3 ∷ 0xA9 ∷ []) ≡ Some 0xE9
unfolding decoded chars encode_utf8
two = refl

three : decoded (0xE2 ∷ 0x82 ∷ 0xAC ∷ []) ≡ Some 0x20AC
unfolding decoded chars encode_utf8
three = refl

four : decoded (0xF0 ∷ 0x9F ∷ 0x98 ∷ 0x80 ∷ []) ≡ Some 0x1F600
unfolding decoded chars encode_utf8
four = refl

-- a part, two characters, one in too many bytes, a surrogate, and U+FFFE, which XML does not have
part : decoded (0xE2 ∷ 0x82 ∷ []) ≡ None
unfolding decoded chars encode_utf8
part = refl

more : decoded (0x41 ∷ 0x41 ∷ []) ≡ None
unfolding decoded chars encode_utf8
more = refl

too_long : decoded (0xC1 ∷ 0x81 ∷ []) ≡ None
unfolding decoded chars encode_utf8
too_long = refl

surrogate : decoded (0xED ∷ 0xA0 ∷ 0x80 ∷ []) ≡ None
unfolding decoded chars encode_utf8
surrogate = refl

no_character : decoded (0xEF ∷ 0xBF ∷ 0xBE ∷ []) ≡ None
unfolding decoded chars encode_utf8
no_character = refl

begun_none : is_begun [] ≡ true
unfolding is_begun
begun_none = refl

begun_two : is_begun (0xC2 ∷ []) ≡ true
unfolding is_begun
begun_two = refl

begun_four : is_begun (0xF4 ∷ 0x8F ∷ 0xBF ∷ []) ≡ true
unfolding is_begun
begun_four = refl

not_long : is_begun (0xC1 ∷ []) ≡ false
unfolding is_begun
not_long = refl

not_surrogate : is_begun (0xED ∷ 0xA0 ∷ []) ≡ false
unfolding is_begun
not_surrogate = refl

not_short : is_begun (0xE0 ∷ 0x9F ∷ []) ≡ false
unfolding is_begun
not_short = refl

not_beyond : is_begun (0xF4 ∷ 0x90 ∷ []) ≡ false
unfolding is_begun
not_beyond = refl

not_whole : is_begun (0xC3 ∷ 0xA9 ∷ []) ≡ false
unfolding is_begun
not_whole = refl
