-- The plain form of what the code gives.
use Rattle.std.specs.Prelude.{◌≡◌, List, Option, None, option_map}
use Rattle.std.specs.Borrow.{Bor}
use Rattle.clap.specs.Words.{Text}
use Rattle.command_words.specs.Asked.{Asked, AreTaken, AsksNothing, help, version, check, run, page, grammar, make, site, match_pattern}
use Rattle.command_words.specs.declared.refusal.WordsRefusal.{WordsRefusal}
use Rattle.command_words.specs.declared.refusal.WordsRefusal.TheVariants.{Usage, Memory}
use Rattle.command_words.specs.declared.command_line.CommandLine.{CommandLine}
use Rattle.command_words.specs.declared.command_line.CommandLine.TheVariants.{Help, Version, Check, Run, Page, Grammar, Make, Site, Match}

-- the bytes of a text that may be left out
abbrev pub text_as : Option (Bor Text) → Option Text
text_as text = option_map (λ one. one.now) text

-- what is asked for, as the code has it: texts as their bytes
abbrev pub asked_as : CommandLine → Asked
asked_as Help = help
asked_as Version = version
asked_as (Check file definition root stubs limit by_nesting as_json is_shortest) =
    check file.now definition.now (text_as root) (text_as stubs) limit by_nesting as_json is_shortest
asked_as (Run file root stubs request steps) = run file.now (text_as root) (text_as stubs) (text_as request) steps
asked_as (Page file definition root) = page file.now definition.now (text_as root)
asked_as (Grammar file root stubs) = grammar file.now (text_as root) (text_as stubs)
asked_as (Make functions is_checked) = make functions is_checked
asked_as (Site file definition root stubs limit by_nesting) = site file.now definition.now (text_as root) (text_as stubs) limit by_nesting
asked_as (Match file policy root stubs) = match_pattern file.now policy.now (text_as root) (text_as stubs)

-- the words ask for nothing, and where `clap` takes them there is no line of its own; or memory was wanting
abbrev pub IsRefused : List Text → WordsRefusal → Type 0
IsRefused words (Usage reason) = AsksNothing words × (AreTaken words → reason ≡ None)
IsRefused words Memory = Unit {0}
