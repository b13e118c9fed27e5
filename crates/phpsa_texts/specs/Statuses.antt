-- The statuses that calls end with; this project's own.
use Rattle.std.specs.Prelude.{ℕ, Bool, true, false, List, if◌then◌else◌}
use Rattle.std.specs.List.{list_any}
use Rattle.phpsa_texts.specs.declared.exit.Exit.{Exit}
use Rattle.phpsa_texts.specs.declared.exit.Exit.TheVariants.{Done, No, Undecided, Script, Spent, Missing, ReadFault, WriteFault, Usage, Dtd, Input, Memory, Deep, Policy, Site, Words}
use Rattle.phpsa_texts.specs.declared.exit.Exit.TheVariants as exit
use Rattle.plain_values.specs.declared.fault.Fault.{Fault}
use Rattle.plain_values.specs.declared.fault.Fault.TheVariants as fault
use Rattle.phpsa_texts.specs.declared.answers.Conclusion.{Conclusion}
use Rattle.phpsa_texts.specs.declared.answers.Conclusion.TheVariants as conclusion
use Rattle.program_files.specs.declared.refusal.LoadRefusal.{LoadRefusal}
use Rattle.program_files.specs.declared.refusal.LoadRefusal.TheVariants as load
use Rattle.site_check.specs.declared.line.Line.{Line}
use Rattle.site_check.specs.declared.line.TheConstants.{MISSING_STATUS, FAULT_STATUS}
use Rattle.site_check.specs.declared.list_refusal.ListRefusal.{ListRefusal}
use Rattle.site_check.specs.declared.list_refusal.ListRefusal.TheVariants as listing
use Rattle.site_check.specs.Report.{is_no, is_undecided, is_refused}
use Rattle.io_edge.specs.declared.files.FileFault.{FileFault}
use Rattle.io_edge.specs.declared.files.FileFault.TheVariants as file
use Rattle.request_reading.specs.declared.refusal.RequestRefusal.{RequestRefusal}
use Rattle.request_reading.specs.declared.refusal.RequestRefusal.TheVariants as request
use Rattle.page_policy.specs.declared.refusal.PolicyRefusal.{PolicyRefusal}
use Rattle.page_policy.specs.declared.refusal.PolicyRefusal.TheVariants as policy
use Rattle.dtd_reader.specs.declared.refusal.DtdRefusal.{DtdRefusal}
use Rattle.dtd_reader.specs.declared.refusal.DtdRefusal.TheVariants as dtd
use Rattle.call_options.specs.declared.refusal.OptionsFault.{OptionsFault}
use Rattle.call_options.specs.declared.refusal.OptionsFault.TheVariants as options
use Rattle.call_options.specs.declared.refusal.OptionsRefusal.{OptionsRefusal}
use Rattle.call_options.specs.declared.refusal.OptionsRefusal.TheVariants as option
use Rattle.document_types.specs.declared.refusal.DefinitionRefusal.{DefinitionRefusal}
use Rattle.document_types.specs.declared.refusal.DefinitionRefusal.TheVariants as definition

-- the status of the process
abbrev pub status_of : Exit → ℕ
status_of Done = 0
status_of No = 1
status_of Undecided = 2
status_of Script = 3
status_of exit.Fault = 4
status_of Spent = 5
status_of Missing = MISSING_STATUS
status_of ReadFault = FAULT_STATUS
status_of WriteFault = 8
status_of Usage = 9
status_of Dtd = 10
status_of Input = 11
status_of Memory = 12
status_of Deep = 13
status_of Policy = 14
status_of Site = 15
status_of Words = 16

-- where a script is decided
abbrev pub conclusion_status : Conclusion → Exit
conclusion_status conclusion.Yes = Done
conclusion_status conclusion.No = No
conclusion_status conclusion.Undecided = Undecided

-- where it is said whether a page is valid
abbrev pub judgment_status : Bool → Exit
judgment_status true = Done
judgment_status false = No

-- where a run has met a fault; want of memory is told as that
abbrev pub fault_status : Fault → Exit
fault_status fault.Memory = Memory
fault_status other = exit.Fault

-- where a program is not loaded
abbrev pub load_status : LoadRefusal → Exit
load_status (load.Missing name) = Missing
load_status (load.Outside name) = Script
load_status (load.ReadFault name) = ReadFault
load_status (load.TooLong name len) = Input
load_status (load.Script name fault) = Script
load_status (load.IncludeCycle name) = Script
load_status (load.DoubleFunction name) = Script
load_status (load.UnknownFunction name) = Script
load_status (load.Arity name) = Script
load_status (load.TooMany count) = Input
load_status load.Memory = Memory

-- where a file is not read
abbrev pub file_status : FileFault → Exit
file_status file.Missing = Missing
file_status file.Failed = ReadFault
file_status (file.TooLong len) = Input
file_status file.Memory = Memory

-- where a file holds no request
abbrev pub request_status : RequestRefusal → Exit
request_status request.Memory = Memory
request_status other = Input

-- where a file spells no pattern that is taken
abbrev pub policy_status : PolicyRefusal → Exit
policy_status policy.Memory = Memory
policy_status other = Policy

-- where the text of a file gives no options
abbrev pub option_status : OptionsRefusal → Exit
option_status (option.NotToml line) = Usage
option_status (option.Member name) = Usage
option_status option.Memory = Memory

-- where a call has no options of its file
abbrev pub options_status : OptionsFault → Exit
options_status (options.File fault) = file_status fault
options_status (options.Text refusal) = option_status refusal

-- where files spell no definition
abbrev pub dtd_status : DtdRefusal → Exit
dtd_status (dtd.Missing name) = Missing
dtd_status (dtd.ReadFault name) = ReadFault
dtd_status (dtd.TooLong name len) = Input
dtd_status dtd.Memory = Memory
dtd_status other = Dtd

-- where the built-in text spells none
abbrev pub built_in_status : DtdRefusal → Exit
built_in_status dtd.Memory = Memory
built_in_status other = Dtd

-- where a document type has no definition
abbrev pub definition_status : DefinitionRefusal → Exit
definition_status (definition.File fault) = dtd_status fault
definition_status (definition.BuiltIn fault) = built_in_status fault
definition_status definition.Memory = Memory

-- where a text is no list of scripts
abbrev pub list_status : ListRefusal → Exit
list_status (listing.NotUtf8 line) = Input
list_status (listing.Names count) = Input
list_status listing.Memory = Memory

-- of a report: a page that is not good goes before a script that is not decided, and that before one that is refused
abbrev pub site_status : List Line → Exit
site_status lines =
    if list_any is_no lines then No else (if list_any is_undecided lines then Undecided else (if list_any is_refused lines then Site else Done))
