-- Where an opener begins in bytes outside PHP, whatever follows them.
use Rattle.std.specs.Prelude.{ℕ, Bool, true, not, ◌&&◌, ◌||◌, List, [], ◌∷◌, take, drop, codes}
use Rattle.std.specs.Str.{str_eq_ignore_ascii_case}
use Rattle.lexical_grammar.specs.Characters.{begins, head_is, is_blank}

-- `<?php` in any case and a blank
abbrev pub opens_php : List ℕ → Bool
opens_php bytes = str_eq_ignore_ascii_case (take 5 bytes) (codes "<?php") && head_is is_blank (drop 5 bytes)

-- `<?=`, or `<?php` in any case and a blank
unfoldable pub opens : List ℕ → Bool
opens bytes = begins (codes "<?=") bytes || opens_php bytes

-- no opener begins in the bytes
unfoldable pub none_opens : List ℕ → Bool
none_opens [] = true
none_opens (b ∷ bytes) = not (opens (b ∷ bytes)) && none_opens bytes
