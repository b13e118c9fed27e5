-- Whether a call asks for the file of options, and which words it then has; this project's own.
use Rattle.std.specs.Prelude.{◌≡◌, ◌≢◌, ◌⊎◌, ◌∷◌, ◌&&◌, ◌||◌, [], ℕ, List, Bool, true, false, not, Some, codes}
use Rattle.io_edge.specs.Counts.{one_more}
use Rattle.io_edge.specs.Told.{Told, Tells}
use Rattle.io_edge.specs.Reasons.{HasReason}
use Rattle.io_edge.specs.declared.files.FileFault.{FileFault}
use Rattle.io_edge.specs.declared.files.FileFault.TheVariants.{Missing}
use Rattle.command_words.specs.Asked.{has_help}
use Rattle.call_options.specs.Members.{Setting}
use Rattle.call_options.specs.Outcome.{gives, outcome, IsCause}
use Rattle.call_options.specs.Words.{takes, with_options}
use Rattle.call_options.specs.declared.asking.TheConstants.{OPTIONS_FILE}
use Rattle.call_options.specs.declared.refusal.OptionsRefusal.{OptionsRefusal}
use Rattle.call_options.specs.declared.refusal.OptionsRefusal.TheVariants as refusal_is
use Rattle.call_options.specs.declared.refusal.OptionsFault.{OptionsFault}
use Rattle.call_options.specs.declared.refusal.OptionsFault.TheVariants.{File, Text}

-- the name of the file of options, in the folder of the call
abbrev pub file_name : List ℕ
file_name = OPTIONS_FILE.now

-- the command of this word takes an option that the file may give
abbrev pub takes_some : List ℕ → Bool
takes_some word = takes word (codes "dtd") || (takes word (codes "limit") || (takes word (codes "root") || takes word (codes "stubs")))

-- words that ask for the file: their command takes such an option, and no word ahead of `--` asks for help
abbrev pub ask_for_options : List (List ℕ) → Bool
ask_for_options [] = false
ask_for_options (word ∷ words) = takes_some word && not (has_help (word ∷ words))

-- what a source tells of the file of options, and its counts, before a call and after it
pub record Look : Type 0 where
  pub told : Told
  pub faults : ℕ
  pub faults' : ℕ
  pub misses : ℕ
  pub misses' : ℕ
  pub reads : ℕ
  pub reads' : ℕ

-- a look by its parts
abbrev pub look_of : Told → (faults faults' misses misses' reads reads' : ℕ) → Look
look_of told faults faults' misses misses' reads reads' = record {
  told = told;
  faults = faults;
  faults' = faults';
  misses = misses;
  misses' = misses';
  reads = reads;
  reads' = reads';
}

-- the file was asked for once
abbrev pub IsAsked : Look → List (List ℕ) → Type 0
IsAsked look words = (ask_for_options words ≡ true) × (look.reads' ≡ one_more look.reads)

-- why the file was not read
abbrev pub IsUnread : Look → FileFault → Type 0
IsUnread look fault = HasReason look.told look.faults look.faults' look.misses look.misses' fault

-- the words behind the look: those before it, where the file is not asked for or there is none; else with its options put in
pub data HasOptions (look : Look) (before after : List (List ℕ)) : Type 0 where
  not_asked : ask_for_options before ≡ false → look.reads' ≡ look.reads → after ≡ before → HasOptions look before after
  no_file : IsAsked look before → IsUnread look Missing → after ≡ before → HasOptions look before after
  options : IsAsked look before → (file : List ℕ) (settings : List Setting) → Tells look.told (Some file) → outcome file ≡ gives settings
      → after ≡ with_options before settings → HasOptions look before after

-- the file is told, and gives no options for this cause
pub record IsRefused (look : Look) (refusal : OptionsRefusal) : Type 0 where
  pub file : List ℕ
  pub told : Tells look.told (Some file)
  pub cause : IsCause file refusal

-- the file was not read though it is there, or is refused; want of memory needs no cause
abbrev pub IsFault : Look → List (List ℕ) → OptionsFault → Type 0
IsFault look words (File fault) = IsAsked look words × IsUnread look fault × (fault ≢ Missing)
IsFault look words (Text refusal) = (refusal ≡ refusal_is.Memory) ⊎ (IsAsked look words × IsRefused look refusal)
