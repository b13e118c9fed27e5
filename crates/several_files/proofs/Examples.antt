-- The definitions of `specs/` on worked examples and on near misses.
use Rattle.std.proofs.Common.{◌≡◌, ◌++◌, [], ◌∷◌, refl}
use Rattle.std.specs.Prelude.{false, None, Some, codes}
use Rattle.phpsa_texts.specs.declared.exit.Exit.{Exit}
use Rattle.phpsa_texts.specs.declared.exit.Exit.TheVariants as exit
use Rattle.several_files.specs.Words.{given, asked_checks}
use Rattle.several_files.specs.Lines.{Answer, first_line, report_status, text_of}
use Rattle.several_files.specs.Listing.{is_listable, list_of, without_json}

-- the value of an option is no name, and `-` alone is one
among : asked_checks (codes "check" ∷ codes "a" ∷ codes "--dtd" ∷ codes "d" ∷ codes "--json" ∷ codes "-" ∷ [])
    ≡ Some (record { options = codes "--dtd" ∷ codes "d" ∷ codes "--json" ∷ []; files = given (codes "a") ∷ given (codes "-") ∷ [] })
among = refl

-- a value behind `=` is of the same word, and behind `--` all are names
behind_dashes : asked_checks (codes "check" ∷ codes "--dtd=d" ∷ codes "a" ∷ codes "--" ∷ codes "--json" ∷ [])
    ≡ Some (record { options = codes "--dtd=d" ∷ []; files = given (codes "a") ∷ given (codes "--json") ∷ [] })
behind_dashes = refl

-- another command, help
page : asked_checks (codes "page" ∷ codes "a" ∷ codes "b" ∷ []) ≡ None
page = refl

help : asked_checks (codes "check" ∷ codes "a" ∷ codes "-h" ∷ []) ≡ None
help = refl

-- lines
first : first_line (codes "no" ++ 10 ∷ codes "page 3") ≡ codes "no"
first = refl

refused_text : text_of exit.Missing [] (codes "phpsa: Missing a" ++ 10 ∷ []) ≡ codes "Missing a"
refused_text = refl

-- answers without the files of programs, by their status
abbrev answer : Exit → Answer
answer status = record { file = given (codes "a"); status = status; text = []; included = [] }

-- a no goes before what is undecided, that before what is refused
no_first : report_status (answer exit.Missing ∷ answer exit.Undecided ∷ answer exit.No ∷ []) ≡ exit.No
no_first = refl

refused_last : report_status (answer exit.Done ∷ answer exit.Missing ∷ []) ≡ exit.Site
refused_last = refl

-- lists
listable : list_of (codes "a" ∷ codes "b" ∷ []) ≡ codes "a" ++ 10 ∷ codes "b" ++ 10 ∷ []
listable = refl

ends_with_return : is_listable (codes "a" ++ 13 ∷ []) ≡ false
ends_with_return = refl

without_first : without_json (codes "--json" ∷ codes "--json" ∷ []) ≡ codes "--json" ∷ []
without_first = refl

-- so is that of the file of stubs
a_file_of_stubs : asked_checks (codes "check" ∷ codes "--stubs" ∷ codes "env.php" ∷ codes "a" ∷ codes "b" ∷ [])
    ≡ Some (record { options = codes "--stubs" ∷ codes "env.php" ∷ []; files = given (codes "a") ∷ given (codes "b") ∷ [] })
a_file_of_stubs = refl
