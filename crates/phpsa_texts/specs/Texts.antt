-- The texts that the program writes, each ended by one LF (10); this project's own.
use Rattle.std.specs.Prelude.{◌≡◌, ℕ, Bool, true, false, List, [], ◌∷◌, ◌++◌, Option, None, Some, codes, ⊤}
use Rattle.std.specs.Fmt.{decimal}
use Rattle.text_base.specs.declared.limits.TheConstants.{CALL_LIMIT}
use Rattle.lexical_grammar.specs.declared.fault.LexicalFault.{LexicalFault}
use Rattle.lexical_grammar.specs.declared.fault.LexicalFault.TheVariants.{BadByte, Unclosed, Float, BigInt, Escape}
use Rattle.php_lexer.specs.declared.refusal.LexRefusal.TheVariants as lexed
use Rattle.php_parser.specs.declared.refusal.ParseRefusal.TheVariants as parsed
use Rattle.program_files.specs.declared.refusal.ScriptRefusal.{ScriptRefusal}
use Rattle.program_files.specs.declared.refusal.ScriptRefusal.TheVariants.{Lex, Parse}
use Rattle.program_files.specs.declared.refusal.LoadRefusal.{LoadRefusal}
use Rattle.program_files.specs.declared.refusal.LoadRefusal.TheVariants as load
use Rattle.io_edge.specs.declared.files.FileFault.{FileFault}
use Rattle.io_edge.specs.declared.files.FileFault.TheVariants as file
use Rattle.site_check.specs.declared.list_refusal.ListRefusal.{ListRefusal}
use Rattle.site_check.specs.declared.list_refusal.ListRefusal.TheVariants as listing
use Rattle.request_reading.specs.declared.refusal.RequestRefusal.{RequestRefusal}
use Rattle.request_reading.specs.declared.refusal.RequestRefusal.TheVariants as request
use Rattle.page_policy.specs.declared.refusal.PolicyRefusal.{PolicyRefusal}
use Rattle.page_policy.specs.declared.refusal.PolicyRefusal.TheVariants as policy
use Rattle.dtd_reader.specs.declared.refusal.DtdRefusal.{DtdRefusal}
use Rattle.dtd_reader.specs.declared.refusal.DtdRefusal.TheVariants as dtd
use Rattle.call_options.specs.Reading.{file_name}
use Rattle.call_options.specs.declared.refusal.OptionsFault.{OptionsFault}
use Rattle.call_options.specs.declared.refusal.OptionsFault.TheVariants as options
use Rattle.call_options.specs.declared.refusal.OptionsRefusal.{OptionsRefusal}
use Rattle.call_options.specs.declared.refusal.OptionsRefusal.TheVariants as option
use Rattle.document_types.specs.declared.refusal.DefinitionRefusal.{DefinitionRefusal}
use Rattle.document_types.specs.declared.refusal.DefinitionRefusal.TheVariants as definition
use Rattle.plain_values.specs.declared.fault.Fault.{Fault}
use Rattle.plain_values.specs.declared.fault.Fault.TheVariants as fault
use Rattle.phpsa_texts.specs.declared.words.TheConstants.{HELP}
use Rattle.phpsa_texts.specs.Shown.{shown_name}
use Rattle.phpsa_texts.specs.JsonAnswers.{yes_json, no_json, sums_json, short_sums_json, items_json}
use Rattle.phpsa_texts.specs.declared.exit.Exit.{Exit}
use Rattle.phpsa_texts.specs.declared.message.Message.{Message}
use Rattle.phpsa_texts.specs.declared.message.Refusal.{Refusal}
use Rattle.phpsa_texts.specs.declared.answers.AnswerForm.{AnswerForm}
use Rattle.phpsa_texts.specs.declared.answers.AnswerForm.TheVariants.{Plain, Json}
use Rattle.phpsa_texts.specs.declared.answers.Conclusion.{Conclusion}
use Rattle.phpsa_texts.specs.declared.answers.Conclusion.TheVariants as conclusion
use Rattle.phpsa_texts.specs.declared.answers.PassedCount.{PassedCount}
use Rattle.phpsa_texts.specs.declared.answers.PassedCount.TheVariants as passed

-- a message is this status with this text
abbrev pub Says : Message → Exit → List ℕ → Type 0
Says message status text = (message.status ≡ status) × (message.text ≡ text)

-- a refusal is told so, or for want of memory
abbrev pub IsTold : Refusal → Exit → List ℕ → Type 0
IsTold (Refusal.Told message) status text = Says message status text
IsTold Refusal.Memory status text = ⊤

-- on `out`, where each loose page is good
abbrev pub yes_text : List ℕ
yes_text = codes "yes" ++ 10 ∷ []

-- on `out`, where a loose page is not: the length that is shown of it, and the bytes
abbrev pub no_text : ℕ → List ℕ → List ℕ
no_text len front = codes "no" ++ 10 ∷ (codes "page " ++ decimal len ++ 10 ∷ (front ++ 10 ∷ []))

-- on `out`, where a count of sums or tags was passed, of derivations of at most this height, or of sentences of at most this length: the
-- word for which of both stands between
abbrev pub sums_text : List ℕ → ℕ → List ℕ → ℕ → List ℕ
sums_text kind count within bound = codes "undecided " ++ kind ++ codes " " ++ decimal count ++ within ++ decimal bound ++ 10 ∷ []

-- on `out`, where a stated count was passed
abbrev pub passed_text : PassedCount → List ℕ
passed_text (passed.Pairs count height) = sums_text (codes "pairs") count (codes " height ") height
passed_text (passed.Tags count height) = sums_text (codes "tags") count (codes " height ") height
passed_text (passed.ShortPairs count len) = sums_text (codes "pairs") count (codes " length ") len
passed_text (passed.ShortTags count len) = sums_text (codes "tags") count (codes " length ") len
passed_text (passed.Items count) = codes "undecided items " ++ decimal count ++ 10 ∷ []

-- on `out`, where a pattern has so many derivatives, over the limit
abbrev pub many_states_text : ℕ → List ℕ
many_states_text count = codes "undecided states " ++ decimal count ++ 10 ∷ []

-- on `out`, where a stated count was passed, as JSON
abbrev pub passed_json : PassedCount → List ℕ
passed_json (passed.Pairs count height) = sums_json (codes "pairs") count height
passed_json (passed.Tags count height) = sums_json (codes "tags") count height
passed_json (passed.ShortPairs count len) = short_sums_json (codes "pairs") count len
passed_json (passed.ShortTags count len) = short_sums_json (codes "tags") count len
passed_json (passed.Items count) = items_json count

-- these three in each form
abbrev pub yes_answer : AnswerForm → List ℕ
yes_answer Plain = yes_text
yes_answer Json = yes_json

-- on `out`, where a loose page is not good, in the form that was asked for
abbrev pub no_answer : AnswerForm → ℕ → List ℕ → List ℕ
no_answer Plain len front = no_text len front
no_answer Json len front = no_json len front

-- on `out`, where a stated count was passed, in the form that was asked for
abbrev pub passed_answer : AnswerForm → PassedCount → List ℕ
passed_answer Plain count = passed_text count
passed_answer Json count = passed_json count

-- the word for a way in which a script is decided
abbrev pub conclusion_word : Conclusion → List ℕ
conclusion_word conclusion.Yes = codes "yes"
conclusion_word conclusion.No = codes "no"
conclusion_word conclusion.Undecided = codes "undecided"

-- on `out`, where a generated script with so many functions and bytes was decided
abbrev pub summary_text : ℕ → ℕ → Conclusion → List ℕ
summary_text functions bytes answer =
    codes "functions " ++ decimal functions ++ 10
    ∷ (codes "bytes " ++ decimal bytes ++ 10 ∷ (codes "answer " ++ conclusion_word answer ++ 10 ∷ []))

-- on `out`, where it is said whether a page is valid
abbrev pub judgment_text : Bool → List ℕ
judgment_text true = codes "valid" ++ 10 ∷ []
judgment_text false = codes "invalid" ++ 10 ∷ []

-- `phpsa: KIND VALUE`
abbrev pub kind_text : List ℕ → List ℕ → List ℕ
kind_text kind value = codes "phpsa: " ++ kind ++ codes " " ++ value ++ 10 ∷ []

-- `phpsa: KIND NAME`
abbrev pub named_text : List ℕ → List ℕ → List ℕ
named_text kind name = kind_text kind (shown_name name)

-- `phpsa: KIND NUMBER`
abbrev pub number_text : List ℕ → ℕ → List ℕ
number_text kind number = kind_text kind (decimal number)

-- `phpsa: KIND NAME NUMBER`
abbrev pub counted_text : List ℕ → List ℕ → ℕ → List ℕ
counted_text kind name number = kind_text kind (shown_name name ++ codes " " ++ decimal number)

-- `Dtd KIND`
abbrev pub dtd_kind : List ℕ → List ℕ
dtd_kind kind = codes "Dtd " ++ kind

-- on `err`, where no memory was left
abbrev pub memory_text : List ℕ
memory_text = codes "phpsa: Memory" ++ 10 ∷ []

-- on `err`, where `out` failed
abbrev pub write_fault_text : List ℕ
write_fault_text = codes "phpsa: WriteFault" ++ 10 ∷ []

-- the name of a way to break the lexical grammar
abbrev pub fault_name : LexicalFault → List ℕ
fault_name BadByte = codes "BadByte"
fault_name Unclosed = codes "Unclosed"
fault_name Float = codes "Float"
fault_name BigInt = codes "BigInt"
fault_name Escape = codes "Escape"

-- what is wrong with a script: its name, and the place or the length that is written behind the name of the file
abbrev pub said_of : ScriptRefusal → List ℕ × ℕ
said_of (Lex (lexed.Breaks fault at)) = (fault_name fault, at)
said_of (Lex (lexed.TooLong len)) = (codes "TooLong", len)
said_of (Lex lexed.Memory) = (codes "Memory", 0)
said_of (Parse (parsed.NotInSubset at)) = (codes "NotInSubset", at)
said_of (Parse (parsed.TooDeep at)) = (codes "TooDeep", at)
said_of (Parse parsed.Memory) = (codes "Memory", 0)

-- on `err`, where the program is not loaded: with the name of the file or function, which is not always that of the file that was asked for
abbrev pub load_text : LoadRefusal → List ℕ
load_text (load.Missing name) = named_text (codes "Missing") name
load_text (load.Outside name) = named_text (codes "Outside") name
load_text (load.ReadFault name) = named_text (codes "ReadFault") name
load_text (load.TooLong name len) = counted_text (codes "TooLong") name len
load_text (load.Script name fault) = counted_text (said_of fault).0 name (said_of fault).1
load_text (load.IncludeCycle name) = named_text (codes "IncludeCycle") name
load_text (load.DoubleFunction name) = named_text (codes "DoubleFunction") name
load_text (load.UnknownFunction name) = named_text (codes "UnknownFunction") name
load_text (load.Arity name) = named_text (codes "Arity") name
load_text (load.TooMany count) = number_text (codes "TooMany") count
load_text load.Memory = memory_text

-- on `err`, where this file is not read
abbrev pub file_text : FileFault → List ℕ → List ℕ
file_text file.Missing name = named_text (codes "Missing") name
file_text file.Failed name = named_text (codes "ReadFault") name
file_text (file.TooLong len) name = counted_text (codes "TooLong") name len
file_text file.Memory name = memory_text

-- on `err`, where a file holds no request: with the path to a text or a name that is not admitted
abbrev pub request_text : RequestRefusal → List ℕ
request_text request.NotJson = codes "phpsa: NotJson" ++ 10 ∷ []
request_text request.NotRequest = codes "phpsa: NotRequest" ++ 10 ∷ []
request_text (request.NotAdmitted path) = named_text (codes "NotAdmitted") path
request_text request.Memory = memory_text

-- on `err`, where the text of a file gives no options: the line that is no TOML, from 1, or the member that is none
abbrev pub option_text : OptionsRefusal → List ℕ
option_text (option.NotToml line) = number_text (codes "NotToml") line
option_text (option.Member name) = named_text (codes "Options") name
option_text option.Memory = memory_text

-- on `err`, where a call has no options of its file
abbrev pub options_text : OptionsFault → List ℕ
options_text (options.File fault) = file_text fault file_name
options_text (options.Text refusal) = option_text refusal

-- on `err`, for a definition in files: with the name of the file where one is not read
abbrev pub dtd_refusal_text : DtdRefusal → List ℕ
dtd_refusal_text (dtd.Missing name) = named_text (codes "Missing") name
dtd_refusal_text (dtd.ReadFault name) = named_text (codes "ReadFault") name
dtd_refusal_text (dtd.TooLong name len) = counted_text (codes "TooLong") name len
dtd_refusal_text (dtd.Outside name) = named_text (dtd_kind (codes "Outside")) name
dtd_refusal_text (dtd.NotDtd at) = number_text (dtd_kind (codes "NotDtd")) at
dtd_refusal_text (dtd.Entity name) = named_text (dtd_kind (codes "Entity")) name
dtd_refusal_text (dtd.Twice name) = named_text (dtd_kind (codes "Twice")) name
dtd_refusal_text (dtd.Undeclared name) = named_text (dtd_kind (codes "Undeclared")) name
dtd_refusal_text (dtd.LeftOut at) = number_text (dtd_kind (codes "LeftOut")) at
dtd_refusal_text (dtd.Limit count) = number_text (dtd_kind (codes "Limit")) count
dtd_refusal_text dtd.Memory = memory_text

-- on `err`, for the built-in text
abbrev pub built_in_text : DtdRefusal → List ℕ
built_in_text dtd.Memory = memory_text
built_in_text other = codes "phpsa: Dtd strict" ++ 10 ∷ []

-- on `err`, where a document type has no definition
abbrev pub definition_text : DefinitionRefusal → List ℕ
definition_text (definition.File fault) = dtd_refusal_text fault
definition_text (definition.BuiltIn fault) = built_in_text fault
definition_text definition.Memory = memory_text

-- on `err`, where the content models of a definition have so many pairs, states or moves of states
abbrev pub states_text : ℕ → List ℕ
states_text count = number_text (dtd_kind (codes "Limit")) count

-- on `err`, where a text in the script of this file is over the limit of a run
abbrev pub long_text : List ℕ → List ℕ
long_text file = named_text (codes "LongText") file

-- the number and the name of a fault of a run
abbrev pub fault_number : Fault → ℕ
fault_number fault.Float = 1
fault_number fault.NotNumber = 2
fault_number fault.BadIndex = 3
fault_number fault.Compare = 4
fault_number fault.Full = 5
fault_number fault.NotUtf8 = 6
fault_number fault.ZeroDivisor = 7
fault_number fault.WrongType = 8
fault_number fault.Long = 9
fault_number fault.Memory = 0

-- the name of a fault of a run
abbrev pub fault_kind : Fault → List ℕ
fault_kind fault.Float = codes "Float"
fault_kind fault.NotNumber = codes "NotNumber"
fault_kind fault.BadIndex = codes "BadIndex"
fault_kind fault.Compare = codes "Compare"
fault_kind fault.Full = codes "Full"
fault_kind fault.NotUtf8 = codes "NotUtf8"
fault_kind fault.ZeroDivisor = codes "ZeroDivisor"
fault_kind fault.WrongType = codes "WrongType"
fault_kind fault.Long = codes "Long"
fault_kind fault.Memory = codes "Memory"

-- `phpsa: Fault NUMBER KIND`
abbrev pub numbered_fault : ℕ → List ℕ → List ℕ
numbered_fault number kind = codes "phpsa: Fault " ++ decimal number ++ codes " " ++ kind ++ 10 ∷ []

-- on `err`, where a run has met a fault
abbrev pub fault_text : Fault → List ℕ
fault_text fault.Memory = memory_text
fault_text other = numbered_fault (fault_number other) (fault_kind other)

-- on `err`, where a run had none of so many units left
abbrev pub spent_text : ℕ → List ℕ
spent_text steps = number_text (codes "Spent") steps

-- on `err`, where a run would have had one more call open at once than may be
abbrev pub deep_text : List ℕ
deep_text = number_text (codes "Deep") CALL_LIMIT

-- `Policy KIND`
abbrev pub policy_kind : List ℕ → List ℕ
policy_kind kind = codes "Policy " ++ kind

-- on `err`, where a file spells no pattern that is taken: the place of what cannot stand there, from 0, its length, or the place of the
-- first bracket that is one too many
abbrev pub policy_text : PolicyRefusal → List ℕ
policy_text (policy.NotPattern at) = number_text (policy_kind (codes "NotPattern")) at
policy_text (policy.TooLong len) = number_text (policy_kind (codes "TooLong")) len
policy_text (policy.TooDeep at) = number_text (policy_kind (codes "TooDeep")) at
policy_text policy.Memory = memory_text

-- on `err`, where a script cannot have so many functions
abbrev pub size_text : ℕ → List ℕ
size_text functions = number_text (codes "Size") functions

-- on `err`, where a text is no list of scripts: the line that is no UTF-8, from 1, or how many names there are
abbrev pub list_text : ListRefusal → List ℕ
list_text (listing.NotUtf8 line) = number_text (codes "NotUtf8") line
list_text (listing.Names count) = number_text (codes "Names") count
list_text listing.Memory = memory_text

-- on `err`, where the word of this place is no UTF-8, from 1
abbrev pub words_text : ℕ → List ℕ
words_text place = number_text (codes "Words") place

-- on `out`, where help is asked for
unfoldable pub help_text : List ℕ
help_text = HELP.now

-- on `out`, where the version is asked for
abbrev pub version_text : List ℕ
version_text = codes "phpsa 0.1.0" ++ 10 ∷ []

-- what `check` takes
abbrev pub check_usage : List ℕ
check_usage = codes "phpsa check FILE.. [--dtd D] [--limit N] [--nesting] [--json] [--shortest] [--root FOLDER] [--stubs FILE]" ++ 10 ∷ []

-- what `run` takes
abbrev pub run_usage : List ℕ
run_usage = codes "phpsa run FILE [--request FILE] [--steps N] [--root FOLDER] [--stubs FILE]" ++ 10 ∷ []

-- what `page` takes
abbrev pub page_usage : List ℕ
page_usage = codes "phpsa page FILE [--dtd D] [--root FOLDER]" ++ 10 ∷ []

-- what `grammar` takes
abbrev pub grammar_usage : List ℕ
grammar_usage = codes "phpsa grammar FILE [--root FOLDER] [--stubs FILE]" ++ 10 ∷ []

-- what `make` takes
abbrev pub make_usage : List ℕ
make_usage = codes "phpsa make N [--check]" ++ 10 ∷ []

-- what `match` takes
abbrev pub match_usage : List ℕ
match_usage = codes "phpsa match FILE --policy FILE [--root FOLDER] [--stubs FILE]" ++ 10 ∷ []

-- what `site` takes
abbrev pub site_usage : List ℕ
site_usage = codes "phpsa site FILE [--dtd D] [--limit N] [--nesting] [--root FOLDER] [--stubs FILE]" ++ 10 ∷ []

-- what else may be asked for
abbrev pub help_usage : List ℕ
help_usage = codes "phpsa --help" ++ 10 ∷ (codes "phpsa --version" ++ 10 ∷ [])

-- what is wrong with the words: a line that is told of them, or, where there is none, what a number is and what `match` wants
abbrev pub reason_text : Option (List ℕ) → List ℕ
reason_text None = codes "a number is one to eight decimal digits that are not all 0; match wants --policy FILE" ++ 10 ∷ []
reason_text (Some line) = shown_name line ++ 10 ∷ []

-- on `err`, where words ask for nothing: its name, what is wrong, and a line for each command
abbrev pub usage_text : Option (List ℕ) → List ℕ
usage_text reason = codes "phpsa: Usage" ++ 10
    ∷ (reason_text reason ++ (check_usage ++ (run_usage ++ (page_usage ++ (grammar_usage ++ (make_usage ++ (match_usage ++ (site_usage ++ help_usage))))))))
