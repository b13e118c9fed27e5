-- The plain form of a task.
use Rattle.std.specs.Prelude.{option_map}
use Rattle.document_types.specs.DocumentTypes.{type_of}
use Rattle.phpsa_tasks.specs.declared.task.ScriptFile as declared_file
use Rattle.phpsa_tasks.specs.declared.task.Task as declared
use Rattle.phpsa_tasks.specs.declared.task.Task.TheVariants as task
use Rattle.phpsa_tasks.specs.Tasks.{ScriptFile, script_file, Task, script_check, page_check, script_making, made_check, script_run, grammar_making, list_check, script_match, help_telling, version_telling, usage}

-- the plain form of a file with what is given for it
abbrev pub script_file_as : declared_file.ScriptFile → ScriptFile
script_file_as file = script_file file.name.now (option_map (λ root. root.now) file.root) (option_map (λ stubs. stubs.now) file.stubs)

-- the plain form of a task
abbrev pub task_as : declared.Task → Task
task_as (task.ScriptCheck file document_type goal limit form choice) =
    script_check (script_file_as file) (type_of document_type) goal limit form choice
task_as (task.PageCheck file document_type) = page_check file.now (type_of document_type)
task_as (task.ScriptMaking functions) = script_making functions
task_as (task.MadeCheck functions) = made_check functions
task_as (task.ScriptRun file request steps) = script_run (script_file_as file) (option_map (λ text. text.now) request) steps
task_as (task.GrammarMaking file) = grammar_making (script_file_as file)
task_as (task.ListCheck file document_type goal limit) = list_check (script_file_as file) (type_of document_type) goal limit
task_as (task.ScriptMatch file policy) = script_match (script_file_as file) policy.now
task_as task.Help = help_telling
task_as task.Version = version_telling
task_as (task.Usage reason) = usage
