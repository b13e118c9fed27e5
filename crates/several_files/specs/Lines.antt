-- The report on several files; this project's own.
use Rattle.std.specs.Prelude.{◌==◌, ◌+◌, ◌++◌, ◌&&◌, ℕ, List, [], ◌∷◌, Bool, true, false, not, if◌then◌else◌, bytes_eq, codes}
use Rattle.std.specs.Fmt.{decimal}
use Rattle.std.specs.List.{filter, list_any}
use Rattle.io_edge.specs.Names.{normal}
use Rattle.phpsa_texts.specs.Shown.{shown_name}
use Rattle.phpsa_texts.specs.declared.exit.Exit.{Exit}
use Rattle.phpsa_texts.specs.declared.exit.Exit.TheVariants as exit
use Rattle.phpsa_tasks.specs.Sites.{inside}
use Rattle.several_files.specs.Words.{FileName}
use Rattle.several_files.specs.declared.outcome.Outcome.{Outcome}
use Rattle.several_files.specs.declared.outcome.Outcome.TheVariants.{Yes, No, Undecided, Unread}

-- what a call on a file came to: its status, the text of its line, and the normal names of the files that were read for it as parts of
-- programs
pub record Answer : Type 0 where
  pub file : FileName
  pub status : Exit
  pub text : List ℕ
  pub included : List (List ℕ)

-- what a status of `check` says
abbrev pub outcome_of : Exit → Outcome
outcome_of exit.Done = Yes
outcome_of exit.No = No
outcome_of exit.Undecided = Undecided
outcome_of other = Unread

-- with such an outcome the program of the file is loaded
abbrev pub is_decided : Outcome → Bool
is_decided Unread = false
is_decided other = true

-- the bytes before the first LF (10), or all
abbrev pub first_line : List ℕ → List ℕ
first_line [] = []
first_line (byte ∷ bytes) = if byte == 10 then [] else byte ∷ first_line bytes

-- the text of a line, by what stands on the two outputs of its call: the first line of the answer, or the refusal without `phpsa: ` and its
-- line end
abbrev pub text_by : Bool → (out err : List ℕ) → List ℕ
text_by true out err = first_line out
text_by false out err = inside err

-- and by the status
abbrev pub text_of : Exit → (out err : List ℕ) → List ℕ
text_of status out err = text_by (is_decided (outcome_of status)) out err

-- a file is read for another one, whose program is loaded, as a part of it
abbrev pub is_part_of : List ℕ → Answer → Bool
is_part_of name answer = is_decided (outcome_of answer.status) && list_any (bytes_eq name) answer.included

-- a file of a folder that others of the files include is left out
abbrev pub is_left_out : List Answer → Answer → Bool
is_left_out all answer = answer.file.is_found && list_any (is_part_of (normal answer.file.name)) all

-- the answers that are told, among some of all
abbrev pub told_among : List Answer → List Answer → List Answer
told_among all answers = filter (λ answer. not (is_left_out all answer)) answers

-- the answers that are told
abbrev pub told : List Answer → List Answer
told all = told_among all all

-- `NAME: TEXT`
abbrev pub line_of : Answer → List ℕ
line_of answer = shown_name answer.file.name ++ (codes ": " ++ (answer.text ++ 10 ∷ []))

-- a line for each answer
abbrev pub lines_of : List Answer → List ℕ
lines_of [] = []
lines_of (answer ∷ answers) = line_of answer ++ lines_of answers

-- two outcomes are one
abbrev pub same_outcome : Outcome → Outcome → Bool
same_outcome Yes Yes = true
same_outcome No No = true
same_outcome Undecided Undecided = true
same_outcome Unread Unread = true
same_outcome a b = false

-- how many answers have an outcome
abbrev pub count_of : Outcome → List Answer → ℕ
count_of outcome [] = 0
count_of outcome (answer ∷ answers) =
    (if same_outcome outcome (outcome_of answer.status) then 1 else 0) + count_of outcome answers

-- the word for an outcome
abbrev pub word_of : Outcome → List ℕ
word_of Yes = codes " yes"
word_of No = codes " no"
word_of Undecided = codes " undecided"
word_of Unread = codes " not read"

-- what stands between sums
abbrev pub comma_behind : List ℕ → List ℕ
comma_behind [] = []
comma_behind (byte ∷ bytes) = codes ", "

-- a sum behind others; none of nothing
abbrev pub with_sum : List Answer → List ℕ → Outcome → List ℕ
with_sum answers text outcome =
    if count_of outcome answers == 0 then text
    else text ++ (comma_behind text ++ (decimal (count_of outcome answers) ++ word_of outcome))

-- the sums, as `3 yes, 1 no, 2 undecided, 1 not read`
abbrev pub sums_of : List Answer → List ℕ
sums_of answers = with_sum answers (with_sum answers (with_sum answers (with_sum answers [] Yes) No) Undecided) Unread

-- the report: a line for each answer, and one with the sums
abbrev pub report : List Answer → List ℕ
report answers = lines_of answers ++ (sums_of answers ++ 10 ∷ [])

-- the status of a report: a no goes before what is undecided, and that before what is refused
abbrev pub report_status : List Answer → Exit
report_status answers =
    if not (count_of No answers == 0) then exit.No
    else (if not (count_of Undecided answers == 0) then exit.Undecided else (if not (count_of Unread answers == 0) then exit.Site else exit.Done))
