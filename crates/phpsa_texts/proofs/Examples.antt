-- The statuses and texts on examples.
use Rattle.std.proofs.Common.{◌≡◌, ◌++◌, [], ◌∷◌, true, false, None, Some, codes, refl}
use Rattle.std.specs.Fmt.{digits}
use Rattle.std.specs.Char.{encode_utf8}
use Rattle.std.specs.Str.{chars}
use Rattle.hex.specs.Hex.{encode_with}
use Rattle.character_steps.specs.Bytes.{decoded}
use Rattle.phpsa_texts.specs.Shown.{shown_name}
use Rattle.phpsa_texts.specs.declared.exit.Exit.TheVariants.{Done, Undecided, Script, Spent, Missing, ReadFault, Usage, Dtd, Input}
use Rattle.phpsa_texts.specs.declared.answers.AnswerForm.TheVariants.{Plain, Json}
use Rattle.phpsa_texts.specs.declared.answers.Conclusion.TheVariants as conclusion
use Rattle.phpsa_texts.specs.declared.answers.PassedCount.TheVariants as passed
use Rattle.io_edge.specs.declared.files.FileFault.TheVariants as reading
use Rattle.php_parser.specs.declared.refusal.ParseRefusal.TheVariants as parsed
use Rattle.program_files.specs.declared.refusal.ScriptRefusal.TheVariants.{Parse}
use Rattle.program_files.specs.declared.refusal.LoadRefusal.TheVariants as load
use Rattle.dtd_reader.specs.declared.refusal.DtdRefusal.TheVariants as dtd
use Rattle.document_types.specs.declared.refusal.DefinitionRefusal.TheVariants as definition
use Rattle.request_reading.specs.declared.refusal.RequestRefusal.TheVariants as request
use Rattle.page_policy.specs.declared.refusal.PolicyRefusal.TheVariants as policy
use Rattle.plain_values.specs.declared.fault.Fault.TheVariants as fault
use Rattle.call_options.specs.declared.refusal.OptionsFault.TheVariants as options
use Rattle.call_options.specs.declared.refusal.OptionsRefusal.TheVariants as option
use Rattle.phpsa_texts.specs.Statuses.{status_of, conclusion_status, judgment_status, load_status, definition_status, policy_status, options_status}
use Rattle.phpsa_texts.specs.Texts.{yes_answer, no_answer, passed_answer, many_states_text, policy_text, summary_text, long_text, judgment_text, load_text, file_text, definition_text, states_text, request_text, fault_text, spent_text, deep_text, size_text, reason_text, usage_text, options_text, words_text, write_fault_text}

a_yes : yes_answer Plain ≡ 121 ∷ 101 ∷ 115 ∷ 10 ∷ []
a_yes = refl

a_no : no_answer Plain 4 (codes "<p>b") ≡ codes "no" ++ 10 ∷ (codes "page 4" ++ 10 ∷ (codes "<p>b" ++ 10 ∷ []))
unfolding digits
a_no = refl

a_json_yes : yes_answer Json ≡ codes "{\"answer\":\"yes\"}" ++ 10 ∷ []
a_json_yes = refl

many_pairs : passed_answer Plain (passed.Pairs 3 2) ≡ codes "undecided pairs 3 height 2" ++ 10 ∷ []
unfolding digits
many_pairs = refl

many_short_pairs : passed_answer Plain (passed.ShortPairs 3 21) ≡ codes "undecided pairs 3 length 21" ++ 10 ∷ []
unfolding digits
many_short_pairs = refl

many_states_of_a_pattern : many_states_text 65537 ≡ codes "undecided states 65537" ++ 10 ∷ []
unfolding digits
many_states_of_a_pattern = refl

no_pattern : policy_text (policy.NotPattern 2) ≡ codes "phpsa: Policy NotPattern 2" ++ 10 ∷ []
unfolding digits
no_pattern = refl

its_pattern_status : status_of (policy_status (policy.TooLong 4097)) ≡ 14
its_pattern_status = refl

many_items : passed_answer Plain (passed.Items 8000001) ≡ codes "undecided items 8000001" ++ 10 ∷ []
unfolding digits
many_items = refl

a_summary : summary_text 200 17904 conclusion.Yes ≡ codes "functions 200\nbytes 17904\nanswer yes\n"
unfolding digits
a_summary = refl

no_conclusion : conclusion_status conclusion.Undecided ≡ Undecided
no_conclusion = refl

a_long_text : long_text (codes "t.php") ≡ codes "phpsa: LongText t.php" ++ 10 ∷ []
unfolding shown_name decoded chars encode_utf8
a_long_text = refl

an_invalid_page : judgment_text false ≡ codes "invalid" ++ 10 ∷ []
an_invalid_page = refl

a_valid_page : judgment_status true ≡ Done
a_valid_page = refl

a_long_file : load_text (load.TooLong (codes "t.php") 1048577) ≡ codes "phpsa: TooLong t.php 1048577" ++ 10 ∷ []
unfolding digits shown_name decoded chars encode_utf8
a_long_file = refl

a_deep_script : load_text (load.Script (codes "t.php") (Parse (parsed.TooDeep 211))) ≡ codes "phpsa: TooDeep t.php 211" ++ 10 ∷ []
unfolding digits shown_name decoded chars encode_utf8
a_deep_script = refl

-- a rule on functions names the function, and a limit nothing
a_double : load_text (load.DoubleFunction (codes "f")) ≡ codes "phpsa: DoubleFunction f" ++ 10 ∷ []
unfolding shown_name decoded chars encode_utf8
a_double = refl

too_many_places : load_text (load.TooMany 257) ≡ codes "phpsa: TooMany 257" ++ 10 ∷ []
unfolding digits
too_many_places = refl

a_cycle_status : load_status (load.IncludeCycle (codes "a.php")) ≡ Script
a_cycle_status = refl

a_limit_status : load_status (load.TooMany 257) ≡ Input
a_limit_status = refl

a_fault_status : load_status (load.ReadFault (codes "a.php")) ≡ ReadFault
a_fault_status = refl

a_missing_page : file_text reading.Missing (codes "p.xhtml") ≡ codes "phpsa: Missing p.xhtml" ++ 10 ∷ []
unfolding shown_name decoded chars encode_utf8
a_missing_page = refl

no_definition : definition_text (definition.File (dtd.NotDtd 0)) ≡ codes "phpsa: Dtd NotDtd 0" ++ 10 ∷ []
unfolding digits
no_definition = refl

no_entity : definition_text (definition.File (dtd.Entity (codes "a"))) ≡ codes "phpsa: Dtd Entity a" ++ 10 ∷ []
unfolding shown_name decoded chars encode_utf8
no_entity = refl

no_definition_file : definition_text (definition.File (dtd.Missing (codes "d.dtd"))) ≡ codes "phpsa: Missing d.dtd" ++ 10 ∷ []
unfolding shown_name decoded chars encode_utf8
no_definition_file = refl

outside_of_the_root : definition_text (definition.File (dtd.Outside (codes "../d"))) ≡ codes "phpsa: Dtd Outside ../d" ++ 10 ∷ []
unfolding shown_name decoded chars encode_utf8
outside_of_the_root = refl

its_status : definition_status (definition.File (dtd.Missing (codes "d.dtd"))) ≡ Missing
its_status = refl

a_definition_status : definition_status (definition.File (dtd.Twice (codes "a"))) ≡ Dtd
a_definition_status = refl

many_states : states_text 4097 ≡ codes "phpsa: Dtd Limit 4097" ++ 10 ∷ []
unfolding digits
many_states = refl

a_stray_text : request_text (request.NotAdmitted (codes "get.q")) ≡ codes "phpsa: NotAdmitted get.q" ++ 10 ∷ []
unfolding shown_name decoded chars encode_utf8
a_stray_text = refl

a_size : size_text 1001 ≡ codes "phpsa: Size 1001" ++ 10 ∷ []
unfolding digits
a_size = refl

a_float : fault_text fault.Float ≡ codes "phpsa: Fault 1 Float" ++ 10 ∷ []
unfolding digits
a_float = refl

no_units : spent_text 100 ≡ codes "phpsa: Spent 100" ++ 10 ∷ []
unfolding digits
no_units = refl

a_deep_run : deep_text ≡ codes "phpsa: Deep 256" ++ 10 ∷ []
unfolding digits
a_deep_run = refl

no_units_status : status_of Spent ≡ 5
no_units_status = refl

a_fault : write_fault_text ≡ codes "phpsa: WriteFault" ++ 10 ∷ []
a_fault = refl

a_status : status_of Usage ≡ 9
a_status = refl

the_usage : usage_text None
    ≡ codes "phpsa: Usage\na number is one to eight decimal digits that are not all 0; match wants --policy FILE\nphpsa check FILE.. [--dtd D] [--limit N] [--nesting] [--json] [--shortest] [--root FOLDER] [--stubs FILE]\nphpsa run FILE [--request FILE] [--steps N] [--root FOLDER] [--stubs FILE]\nphpsa page FILE [--dtd D] [--root FOLDER]\nphpsa grammar FILE [--root FOLDER] [--stubs FILE]\nphpsa make N [--check]\nphpsa match FILE --policy FILE [--root FOLDER] [--stubs FILE]\nphpsa site FILE [--dtd D] [--limit N] [--nesting] [--root FOLDER] [--stubs FILE]\nphpsa --help\nphpsa --version\n"
the_usage = refl

a_reason : reason_text (Some (codes "unexpected argument 'x'")) ≡ codes "unexpected argument 'x'" ++ 10 ∷ []
unfolding shown_name decoded chars encode_utf8
a_reason = refl

no_toml : options_text (options.Text (option.NotToml 3)) ≡ codes "phpsa: NotToml 3" ++ 10 ∷ []
unfolding digits
no_toml = refl

no_option : options_text (options.Text (option.Member (codes "json"))) ≡ codes "phpsa: Options json" ++ 10 ∷ []
unfolding shown_name decoded chars encode_utf8
no_option = refl

options_are_usage : options_status (options.Text (option.Member (codes "json"))) ≡ Usage
options_are_usage = refl

the_second_word : words_text 2 ≡ codes "phpsa: Words 2" ++ 10 ∷ []
unfolding digits
the_second_word = refl

-- a letter of two bytes stays; a line end, a backslash, a byte that begins no character, one that is cut, a control character of two bytes
-- and a separator of lines do not
a_plain_name : shown_name (0xC3 ∷ 0xA9 ∷ codes ".php") ≡ 0xC3 ∷ 0xA9 ∷ codes ".php"
unfolding shown_name decoded chars encode_utf8
a_plain_name = refl

a_line_end : shown_name (97 ∷ 10 ∷ 98 ∷ []) ≡ codes "a\\x0ab"
unfolding shown_name decoded chars encode_utf8 encode_with
a_line_end = refl

a_backslash : shown_name (codes "a\\b") ≡ codes "a\\x5cb"
unfolding shown_name decoded chars encode_utf8 encode_with
a_backslash = refl

no_character : shown_name (0xFF ∷ 97 ∷ 0xC3 ∷ []) ≡ codes "\\xffa\\xc3"
unfolding shown_name decoded chars encode_utf8 encode_with
no_character = refl

a_control_character : shown_name (0xC2 ∷ 0x85 ∷ []) ≡ codes "\\xc2\\x85"
unfolding shown_name decoded chars encode_utf8 encode_with
a_control_character = refl

a_separator : shown_name (0xE2 ∷ 0x80 ∷ 0xA8 ∷ []) ≡ codes "\\xe2\\x80\\xa8"
unfolding shown_name decoded chars encode_utf8 encode_with
a_separator = refl
