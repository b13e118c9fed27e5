-- The definitions of `specs/` on worked examples and on near misses.
use Rattle.std.proofs.Common.{◌≡◌, ◌≤◌, [], ◌∷◌, true, false, None, Some, codes, refl, lit≤, arith}
use Rattle.page_model.specs.Valid as model
use Rattle.page_decision.specs.declared.goal.Goal.TheVariants.{Valid, Nested}
use Rattle.io_edge.specs.Names.{normal, normal_parts, root_for, is_inside, folder_of}
use Rattle.io_edge.specs.Told.{Content}
use Rattle.program_files.specs.Source.{SourceCall}
use Rattle.site_check.specs.declared.line.Line.TheVariants as told
use Rattle.phpsa_texts.specs.Statuses.{site_status}
use Rattle.phpsa_tasks.specs.Sites.{inside}
use Rattle.command_words.specs.Asked.{help, version, check, run, page, grammar, make, site}
use Rattle.document_types.specs.DocumentTypes.{strict_type, mini_type, file_type}
use Rattle.phpsa_texts.specs.declared.exit.Exit.TheVariants.{Done, No, Undecided, Input, Usage, Site}
use Rattle.phpsa_texts.specs.declared.answers.AnswerForm.TheVariants.{Plain, Json}
use Rattle.phpsa_texts.specs.Texts.{help_text, version_text, usage_text}
use Rattle.phpsa_tasks.specs.Tasks.{script_file, root_of, script_check, page_check, script_making, made_check, script_run, grammar_making, list_check, help_telling, version_telling, usage, task_of}
use Rattle.phpsa_tasks.specs.declared.choice.PageChoice.TheVariants.{First, Shortest}
use Rattle.phpsa_tasks.specs.Call.{output_of, Gains, GainsPrefix, GainsNothing, Fails}
use Rattle.phpsa_tasks.specs.Subjects.{PageBy}
use Rattle.phpsa_tasks.specs.Replies.{IsReplyOf}
use Rattle.phpsa_tasks.specs.Causes.{Refuses}
use Rattle.phpsa_tasks.specs.Counted.{ReadsFor}
use Rattle.phpsa_tasks.specs.Answered.{IsVerdict}

-- a script is decided by the strict type, the smallest one, or that of a file, which may have any name
checks : task_of (check (codes "t.php") (codes "strict") None None 10000 false false false) ≡ script_check (script_file (codes "t.php") None None) strict_type Valid 10000 Plain First
checks = refl

-- in its normal form, with the root that is given, or that of its own name
checks_by_a_file : task_of (check (codes "t.php") (codes "./d.dtd") None None 9 false true false) ≡ script_check (script_file (codes "t.php") None None) (file_type (codes "d.dtd") (codes ".")) Valid 9 Json First
unfolding normal normal_parts root_for is_inside
checks_by_a_file = refl

checks_in_a_root : task_of (check (codes "t.php") (codes "d.dtd") (Some (codes "a/..//b")) None 9 false true true)
    ≡ script_check (script_file (codes "t.php") (Some (codes "a/..//b")) None) (file_type (codes "d.dtd") (codes "b")) Valid 9 Json Shortest
unfolding normal normal_parts root_for
checks_in_a_root = refl

judges : task_of (page (codes "p.xhtml") (codes "mini") (Some (codes "a"))) ≡ page_check (codes "p.xhtml") mini_type
judges = refl

judges_by_no_name : task_of (page (codes "p.xhtml") [] None) ≡ page_check (codes "p.xhtml") (file_type (codes ".") (codes "."))
unfolding normal normal_parts root_for is_inside
judges_by_no_name = refl

checks_nesting : task_of (check (codes "t.php") (codes "mini") None None 10000 true false false) ≡ script_check (script_file (codes "t.php") None None) mini_type Nested 10000 Plain First
checks_nesting = refl

checks_made : task_of (make 200 true) ≡ made_check 200
checks_made = refl

makes : task_of (make 1001 false) ≡ script_making 1001
makes = refl

runs : task_of (run (codes "t.php") (Some (codes "a")) (Some (codes "env.php")) None 100) ≡ script_run (script_file (codes "t.php") (Some (codes "a")) (Some (codes "env.php"))) None 100
runs = refl

writes_a_grammar : task_of (grammar (codes "t.php") None None) ≡ grammar_making (script_file (codes "t.php") None None)
writes_a_grammar = refl

checks_a_list : task_of (site (codes "list") (codes "mini") (Some (codes "a")) (Some (codes "env.php")) 10000 true) ≡ list_check (script_file (codes "list") (Some (codes "a")) (Some (codes "env.php"))) mini_type Nested 10000
checks_a_list = refl

-- a script has the root that is given, or else the folder of the call where it lies in it, or else its own folder
given : root_of (script_file (codes "site/t.php") (Some (codes "site/")) None) ≡ codes "site"
unfolding root_for normal normal_parts
given = refl

of_the_call : root_of (script_file (codes "site/t.php") None None) ≡ codes "."
unfolding root_for is_inside normal_parts
of_the_call = refl

of_its_own : root_of (script_file (codes "../site/t.php") None None) ≡ codes "../site"
unfolding root_for is_inside folder_of normal_parts
of_its_own = refl

tells_help : task_of help ≡ help_telling
tells_help = refl

tells_the_version : task_of version ≡ version_telling
tells_the_version = refl

-- help is told with status 0 and its text alone, no other status is its verdict, nothing refuses it, and no name is asked for
help_is_told : (files : SourceCall) → IsReplyOf files help_telling tt Done help_text
help_is_told files = (refl, refl)

no_version_with_a_no : (files : SourceCall) → IsReplyOf files version_telling tt No version_text → ⊥
no_version_with_a_no files (is, text_is) = let same : No ≡ Done = is in cc

no_help_is_refused : (content : Content) → IsVerdict content help_telling tt Usage → ⊥
no_help_is_refused content verdict = let same : Usage ≡ Done = verdict in cc

none_refuses_help : (files : SourceCall) → Refuses files help_telling Usage (usage_text None) → ⊥
none_refuses_help files why = why

help_asks_for_none : (files : SourceCall) → files.reads ≡ 0 → files.reads' ≡ 1 → ReadsFor help_telling files Done → ⊥
help_asks_for_none files before after none = let same : files.reads' ≡ files.reads = none in omega (arith, before, after, same)

-- words that ask for nothing are refused with the usage alone, behind any line
refused_by_a_number : (files : SourceCall) → Refuses files usage Usage (usage_text None)
refused_by_a_number files = (refl, (None, refl))

-- a page that is not valid has the verdict No, and no other
invalid_verdict : (content : Content) (x : PageBy) → (model.Valid x.table x.page → ⊥) → IsVerdict content (page_check (codes "p") mini_type) x No
invalid_verdict content x invalid = invalid

no_page_is_undecided : (content : Content) (x : PageBy) → IsVerdict content (page_check (codes "p") mini_type) x Undecided → ⊥
no_page_is_undecided content x verdict = verdict

too_many_functions : (content : Content) → IsVerdict content (script_making 1001) tt Input
too_many_functions content (least, most) = let at : 1001 ≤ 1000 = most in omega (arith, at)

-- an output gains a text, a prefix of it, or nothing
gains : Gains (output_of (Some []) (Some (codes "yes")) 0 0) (codes "yes")
gains = refl

gains_a_prefix : GainsPrefix (output_of (Some (codes "a")) (Some (codes "aye")) 0 1) (codes "yes")
gains_a_prefix = (2, lit≤ tt, refl)

gains_nothing : GainsNothing (output_of (Some (codes "a")) (Some (codes "a")) 0 1)
gains_nothing = refl

fails : Fails (output_of None None 3 4)
fails = lit≤ tt

-- of a report, a `no` goes before what is undecided, that before a refusal, and that before a yes
no_first : site_status (told.Yes ∷ told.Refused 3 [] ∷ told.Items 9 ∷ told.No 4 ∷ []) ≡ No
no_first = refl

then_undecided : site_status (told.Refused 3 [] ∷ told.Items 9 ∷ told.Yes ∷ []) ≡ Undecided
then_undecided = refl

then_refused : site_status (told.Yes ∷ told.Refused 3 [] ∷ []) ≡ Site
then_refused = refl

all_yes : site_status (told.Yes ∷ told.Yes ∷ []) ≡ Done
all_yes = refl

-- what stands in a line of a text for `err`
what_is_told : inside (codes "phpsa: Float b.php 11\n") ≡ codes "Float b.php 11"
what_is_told = refl
