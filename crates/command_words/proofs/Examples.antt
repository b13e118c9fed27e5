-- Numbers, and near misses; help and the version; what canonical words are.
use Rattle.std.proofs.Common.{◌≡◌, [], ◌∷◌, Some, None, true, false, true≢false, refl, inl, inr, codes}
use Rattle.command_words.specs.Program.{check, run}
use Rattle.command_words.specs.Asked.{number_of, asked_first, help, version}
use Rattle.command_words.specs.Asked as asked
use Rattle.command_words.specs.Canonical.{IsCanonical, IsPlain, canonical, place, joined, flag}

one_digit : number_of (codes "7") ≡ Some 7
one_digit = refl

eight_digits : number_of (codes "99999999") ≡ Some 99999999
eight_digits = refl

leading_zeros : number_of (codes "00000010") ≡ Some 10
leading_zeros = refl

nine_digits : number_of (codes "000000001") ≡ None
nine_digits = refl

zeros : number_of (codes "000") ≡ None
zeros = refl

signed : number_of (codes "+1") ≡ None
signed = refl

empty : number_of [] ≡ None
empty = refl

a_word_of_help : asked_first (codes "help" ∷ codes "check" ∷ []) ≡ Some help
a_word_of_help = refl

help_of_a_command : asked_first (codes "check" ∷ codes "--dtd" ∷ codes "-h" ∷ []) ≡ Some help
help_of_a_command = refl

help_before_the_version : asked_first (codes "--version" ∷ codes "--help" ∷ []) ≡ Some help
help_before_the_version = refl

the_version : asked_first (codes "--version" ∷ codes "more" ∷ []) ≡ Some version
the_version = refl

a_file_of_that_name : asked_first (codes "check" ∷ codes "--" ∷ codes "--help" ∷ []) ≡ None
a_file_of_that_name = refl

no_version_later : asked_first (codes "check" ∷ codes "--version" ∷ []) ≡ None
no_version_later = refl

no_words : asked_first [] ≡ None
no_words = refl

the_standard_input : IsPlain (codes "-")
the_standard_input = tt

an_option_is_not_plain : IsPlain (codes "-x") → ⊥
an_option_is_not_plain e = absurd (true≢false e)

a_check : IsCanonical (codes "check" ∷ codes "--json" ∷ codes "--root=pages" ∷ codes "--" ∷ codes "-" ∷ [])
    (asked.check (codes "-") (codes "strict") (Some (codes "pages")) None 10000 false true false)
a_check = canonical check (flag (codes "json") ∷ joined (codes "root") (codes "pages") ∷ []) (Some (codes "-")) (inl refl) ((inr (inl refl), refl), ((refl, inr (inr (inl refl)), refl), refl)) refl refl

a_file_of_stubs : IsCanonical (codes "run" ∷ codes "--stubs=env.php" ∷ codes "t.php" ∷ []) (asked.run (codes "t.php") None (Some (codes "env.php")) None 10000000)
a_file_of_stubs = canonical run (joined (codes "stubs") (codes "env.php") ∷ place (codes "t.php") ∷ []) None (inr (inl refl)) ((refl, inr (inr (inr (inl refl))), refl), ((refl, refl), refl)) refl refl
