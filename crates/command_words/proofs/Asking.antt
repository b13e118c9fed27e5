-- Canonical words are taken, and ask for what their parts say.
use Rattle.std.proofs.Common.{◌≡◌, ◌∙◌, ap, true, List, [], ◌∷◌, Option, Some, None, refl}
use Rattle.std.specs.Prelude.{fold, option_and_then}
use Rattle.clap.specs.Walk.{Row, Rule, Text, nothing_held, stop_after, with_default}
use Rattle.clap.specs.Simple.{App, built, entered, names_of, subcommand_of, argument_words, is_simple}
use Rattle.clap.specs.Takes.{takes, built_takes}
use Rattle.command_words.specs.Program as program
use Rattle.command_words.specs.Program.{Row as Command, commands}
use Rattle.command_words.specs.Asked.{asked, asked_by, asked_first, values_of, is_given}
use Rattle.command_words.specs.Canonical.{Part, AreCanonical, IsAmong, all_words, given}
use Rattle.command_words.proofs.Rows.{below, parts_rows}
use Rattle.command_words.proofs.Steps.{enters_takes, level, level_rows, stops_at, parts_ask_no_help, first_finally, LeavesAlone}
use Rattle.command_words.proofs.Given.{given_rows, flags_finally, GiveNone}
use Rattle.command_words.proofs.Commands.{Known, known, phpsa_simple}

phpsa_words : (ws : List Text) → argument_words program.phpsa ws ≡ ws
unfolding program.phpsa
phpsa_words ws = refl

takes_by : (a : App) (words : List Text) → is_simple a ≡ true → argument_words a words ≡ words → built_takes (built a) nothing_held words ≡ true → takes a words ≡ true
takes_by a words simple same e = rw (simple, same) e

pub canonical_taken : (row : Command) (ps : List Part) (last : Option Text) → IsAmong row commands → AreCanonical row ps last → takes program.phpsa (row.word ∷ all_words ps last) ≡ true
canonical_taken row ps last is fits =
    let k = known row is in
    takes_by program.phpsa (row.word ∷ all_words ps last) phpsa_simple (phpsa_words (row.word ∷ all_words ps last))
    (enters_takes (built program.phpsa) row.word (below (program.command row)) k.enters (all_words ps last) (level (below (program.command row)) row k.table ps last fits))

-- the rows of the words, with the defaults
abbrev all_rows : Text → List Part → Option Text → List Rule → List Row
all_rows at ps last rules = fold with_default (parts_rows at last ps) rules

rows_are : (row : Command) → Known row → (ps : List Part) (last : Option Text) → AreCanonical row ps last
    → subcommand_of program.phpsa (row.word ∷ all_words ps last) ≡ Some (row.word, all_rows row.place ps last (below (program.command row)).rules)
rows_are row k ps last fits =
    ap (λ (ws : List Text). entered (built program.phpsa) (stop_after (built program.phpsa).top.rules (names_of (built program.phpsa)) ws)) (phpsa_words (row.word ∷ all_words ps last))
    ∙ ap (entered (built program.phpsa)) (stops_at (built program.phpsa) row.word (below (program.command row)) k.enters (all_words ps last))
    ∙ k.entered_is (all_words ps last)
    ∙ ap (λ (rows : List Row). Some (row.word, rows)) (level_rows (below (program.command row)) row k.table ps last fits)

value_is : (at : Text) (ps : List Part) (last : Option Text) (rules : List Rule) (n : Text) → LeavesAlone n rules → values_of (all_rows at ps last rules) n ≡ given at ps last n
value_is at ps last rules n alone = first_finally n rules (parts_rows at last ps) alone ∙ given_rows at last n ps

flag_is : (at : Text) (ps : List Part) (last : Option Text) (rules : List Rule) (n : Text) → GiveNone rules
    → is_given (values_of (all_rows at ps last rules) n) ≡ is_given (given at ps last n)
flag_is at ps last rules n none = flags_finally n rules (parts_rows at last ps) none ∙ ap is_given (given_rows at last n ps)

asked_at : (word : Text) (words : List Text) (rows : List Row) → subcommand_of program.phpsa words ≡ Some (word, rows) → asked words ≡ asked_by word (values_of rows)
asked_at word words rows e = ap (option_and_then (λ found. asked_by found.0 (values_of found.1))) e

pub canonical_asked : (row : Command) (ps : List Part) (last : Option Text) → IsAmong row commands → AreCanonical row ps last
    → asked (row.word ∷ all_words ps last) ≡ asked_by row.word (given row.place ps last)
canonical_asked row ps last is fits =
    let k = known row is in
    let rules = (below (program.command row)).rules in
    asked_at row.word (row.word ∷ all_words ps last) (all_rows row.place ps last rules) (rows_are row k ps last fits)
    ∙ k.alike (values_of (all_rows row.place ps last rules)) (given row.place ps last) (record {
      texts = λ n e. value_is row.place ps last rules n (k.alone n e);
      flags = λ n e. flag_is row.place ps last rules n k.unset;
    })

pub canonical_first : (row : Command) (ps : List Part) (last : Option Text) → IsAmong row commands → AreCanonical row ps last → asked_first (row.word ∷ all_words ps last) ≡ None
canonical_first row ps last is fits =
    let k = known row is in
    let none = parts_ask_no_help (below (program.command row)) row k.table ps last [] fits in
    k.first (all_words ps last) ∙ (rw none refl)
