-- The answer for the program of a script and a pattern: its status, its text, and what it says.
use Rattle.std.specs.Prelude.{ℕ, List}
use Rattle.page_policy.specs.Patterns.{Pattern}
use Rattle.script_meaning.specs.Programs.{PlainProgram}
use Rattle.script_decision.specs.PolicyAnswers.{IsPolicyAnswer, SaysOfRuns}
use Rattle.script_decision.specs.declared.policy_answer.PolicyAnswer.{PolicyAnswer}
use Rattle.script_decision.specs.declared.policy_answer.PolicyAnswer.TheVariants as policy
use Rattle.phpsa_texts.specs.declared.exit.Exit.{Exit}
use Rattle.phpsa_texts.specs.declared.exit.Exit.TheVariants.{Done, No, Undecided}
use Rattle.phpsa_texts.specs.declared.answers.PassedCount.TheVariants as passed
use Rattle.phpsa_texts.specs.Texts.{yes_text, no_text, passed_text, many_states_text}

-- the status of an answer
abbrev pub match_status : PolicyAnswer → Exit
match_status policy.Yes = Done
match_status (policy.No shown) = No
match_status (policy.Items count) = Undecided
match_status (policy.States count) = Undecided

-- the text of an answer
abbrev pub match_text : PolicyAnswer → List ℕ
match_text policy.Yes = yes_text
match_text (policy.No shown) = no_text shown.length shown.front
match_text (policy.Items count) = passed_text (passed.Items count)
match_text (policy.States count) = many_states_text count

-- the answer is that of the program and the pattern, and a yes says of its runs that their pages fit
abbrev pub IsMatch : Pattern → PlainProgram → PolicyAnswer → Type 0
IsMatch p program answer = IsPolicyAnswer p program answer × SaysOfRuns p program answer
