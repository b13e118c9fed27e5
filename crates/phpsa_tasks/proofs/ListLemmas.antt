-- The lines of a list, and what they say of the scripts of its names.
use Rattle.std.proofs.Common.{◌≡◌, ◌||◌, ℕ, zero, suc, Bool, true, false, List, [], ◌∷◌, Option, Contains, refl, sym, subst, inl, inr, lit<, arith, if◌then◌else◌}
use Rattle.std.specs.Prelude.{◌⊎◌}
use Rattle.std.specs.List.{list_any}
use Rattle.std.proofs.lemmas.List.Elements.{Contains-append_right}
use Rattle.io_edge.specs.Told.{Content, Stays}
use Rattle.script_meaning.specs.Programs.{PlainProgram}
use Rattle.program_files.specs.Source.{SourceCall}
use Rattle.program_loader.specs.Told.{IsLoaded}
use Rattle.dtd_model.specs.Table.{Table}
use Rattle.page_decision.specs.declared.goal.Goal.{Goal}
use Rattle.document_types.specs.DocumentTypes.{NamedType, HasTable}
use Rattle.script_decision.specs.Answers.{EachIsGood, RunsAreGood}
use Rattle.script_decision.specs.declared.shown.ShownAnswer.{ShownAnswer}
use Rattle.script_decision.specs.Shown.{IsShownAnswer}
use Rattle.site_check.specs.declared.line.Line.{Line}
use Rattle.site_check.specs.declared.line.Line.TheVariants as told
use Rattle.site_check.specs.declared.line.TheConstants.{FAULT_STATUS}
use Rattle.site_check.specs.declared.list_refusal.ListRefusal.{ListRefusal}
use Rattle.site_check.specs.declared.list_refusal.ListRefusal.TheVariants as listing
use Rattle.site_check.specs.Site.{Moment, moment, AreAnswered, refused_by}
use Rattle.site_check.specs.Listed.{names_in, lines_in, AreUtf8, IsFirstBad, IsCount, IsList, IsNoList}
use Rattle.site_check.specs.Report.{is_no, is_undecided, is_refused}
use Rattle.site_check.proofs.Answering.{answered_leads, calm_throughout}
use Rattle.phpsa_texts.specs.declared.exit.Exit.{Exit}
use Rattle.phpsa_texts.specs.declared.exit.Exit.TheVariants as exit
use Rattle.phpsa_texts.specs.Statuses.{site_status, list_status}
use Rattle.phpsa_tasks.specs.Tasks.{ScriptFile, listed, list_check}
use Rattle.phpsa_tasks.specs.Subjects.{ListBy}
use Rattle.phpsa_tasks.specs.ScriptAnswers.{IsAnswer}
use Rattle.phpsa_tasks.specs.Causes.{RefusesScript, large_models, not_loaded, lacks_definition, has_long_text}
use Rattle.phpsa_tasks.specs.Sites.{line_of, RefusesByTable, IsLineFor, tells_answer, tells_refusal, AreLinesOf}
use Rattle.phpsa_tasks.specs.Counted.{TellsFaults, FaultsAreTold}
use Rattle.phpsa_tasks.specs.Answered.{IsScriptVerdict, PassesScriptLimit, IsListVerdict, StopsAtScript}

-- what is loaded stays so
abbrev pub LoadedStays : Type 0
LoadedStays = (before now : Content) (name : List ℕ) (stubs : Option (List ℕ)) (program : PlainProgram) → Stays before now → IsLoaded before name stubs program → IsLoaded now name stubs program

-- a refusal by the table of a definition is one of `check`
pub as_check : (files : SourceCall) (file : ScriptFile) (d : NamedType) (table : Table) (status : Exit) (text : List ℕ) → HasTable files.content d table
    → RefusesByTable files file table status text → RefusesScript files file d status text
as_check files file d table status text has (inl (cause, why, is, text_is)) = not_loaded cause why is text_is
as_check files file d table status text has (inr (inl (program, loaded, long, is, text_is))) = has_long_text program loaded long is text_is
as_check files file d table status text has (inr (inr (program, loaded, behind, (count, many, is, text_is)))) =
    lacks_definition program files.misses' loaded behind (large_models table count has many is text_is)

-- some line passes a test, or none does
some_line : (test : Line → Bool) (ls : List Line) → list_any test ls ≡ true → (line : Line) × Contains ls line × (test line ≡ true)
some_line test [] e = absurd (let same : false ≡ true = e in cc)
some_line test (l ∷ ls) e = by (test l) refl e (some_line test ls)
  where
    by : (b : Bool) → test l ≡ b → (b || list_any test ls) ≡ true → (list_any test ls ≡ true → (line : Line) × Contains ls line × (test line ≡ true))
        → (line : Line) × Contains (l ∷ ls) line × (test line ≡ true)
    by true is e rest = (l, (0, omega arith, refl), is)
    by false is e rest = let r = rest e in (r.0, Contains-append_right (l ∷ []) ls r.0 r.1, r.2)

no_line : (test : Line → Bool) (ls : List Line) → list_any test ls ≡ false → (line : Line) → Contains ls line → test line ≡ false
no_line test [] e line (i, less, is) = absurd (omega (arith, less))
no_line test (l ∷ ls) e line (zero, less, is) = subst (λ (x : Line). test x ≡ false) is (by (test l) refl e)
  where
    by : (b : Bool) → test l ≡ b → (b || list_any test ls) ≡ false → test l ≡ false
    by true is e = absurd (let same : true ≡ false = e in cc)
    by false is e = is
no_line test (l ∷ ls) e line (suc i, less, is) = no_line test ls (by (test l) e) line (i, omega (arith, less), is)
  where
    by : (b : Bool) → (b || list_any test ls) ≡ false → list_any test ls ≡ false
    by true e = absurd (let same : true ≡ false = e in cc)
    by false e = e

-- the status of a report, by which lines there are
by_status : (lines : List Line) (P : Exit → Type 0) → (list_any is_no lines ≡ true → P exit.No) → (list_any is_undecided lines ≡ true → P exit.Undecided)
    → (list_any is_refused lines ≡ true → P exit.Site)
    → (list_any is_no lines ≡ false → list_any is_undecided lines ≡ false → list_any is_refused lines ≡ false → P exit.Done) → P (site_status lines)
by_status lines P n u r d = by (list_any is_no lines) (list_any is_undecided lines) (list_any is_refused lines) refl refl refl
  where
    by : (x y z : Bool) → list_any is_no lines ≡ x → list_any is_undecided lines ≡ y → list_any is_refused lines ≡ z
        → P (if x then exit.No else (if y then exit.Undecided else (if z then exit.Site else exit.Done)))
    by true y z a b c = n a
    by false true z a b c = u b
    by false false true a b c = r c
    by false false false a b c = d a b c

-- no report has the status of words that ask for nothing
pub no_usage : (lines : List Line) → site_status lines ≡ exit.Usage → ⊥
no_usage lines e = by_status lines (λ (s : Exit). s ≡ exit.Usage → ⊥) (λ a e. cc) (λ a e. cc) (λ a e. cc) (λ a b c e. cc) e

-- an answer by its line
no_of : (goal : Goal) (table : Table) (program : PlainProgram) (limit : ℕ) (answer : ShownAnswer) → is_no (line_of answer) ≡ true → IsShownAnswer goal table program limit answer
    → IsScriptVerdict goal table program exit.No
no_of goal table program limit ShownAnswer.Yes e is = absurd (let same : false ≡ true = e in cc)
no_of goal table program limit (ShownAnswer.No shown) e is = (is.page, is.loose, is.bad)
no_of goal table program limit (ShownAnswer.Pairs count height) e is = absurd (let same : false ≡ true = e in cc)
no_of goal table program limit (ShownAnswer.Tags count height) e is = absurd (let same : false ≡ true = e in cc)
no_of goal table program limit (ShownAnswer.Items count) e is = absurd (let same : false ≡ true = e in cc)

undecided_of : (goal : Goal) (table : Table) (program : PlainProgram) (limit : ℕ) (answer : ShownAnswer) → is_undecided (line_of answer) ≡ true → IsShownAnswer goal table program limit answer
    → PassesScriptLimit goal table program limit exit.Undecided
undecided_of goal table program limit ShownAnswer.Yes e is = absurd (let same : false ≡ true = e in cc)
undecided_of goal table program limit (ShownAnswer.No shown) e is = absurd (let same : false ≡ true = e in cc)
undecided_of goal table program limit (ShownAnswer.Pairs count height) e is = (ShownAnswer.Pairs count height, is, refl)
undecided_of goal table program limit (ShownAnswer.Tags count height) e is = (ShownAnswer.Tags count height, is, refl)
undecided_of goal table program limit (ShownAnswer.Items count) e is = (ShownAnswer.Items count, is, refl)

good_of : (goal : Goal) (table : Table) (program : PlainProgram) (limit : ℕ) (answer : ShownAnswer) → is_no (line_of answer) ≡ false → is_undecided (line_of answer) ≡ false
    → IsAnswer goal table program limit answer → EachIsGood goal table program × RunsAreGood goal table program
good_of goal table program limit ShownAnswer.Yes a b is = is
good_of goal table program limit (ShownAnswer.No shown) a b is = absurd (let same : true ≡ false = a in cc)
good_of goal table program limit (ShownAnswer.Pairs count height) a b is = absurd (let same : true ≡ false = b in cc)
good_of goal table program limit (ShownAnswer.Tags count height) a b is = absurd (let same : true ≡ false = b in cc)
good_of goal table program limit (ShownAnswer.Items count) a b is = absurd (let same : true ≡ false = b in cc)

not_refused : (answer : ShownAnswer) → is_refused (line_of answer) ≡ true → ⊥
not_refused ShownAnswer.Yes e = let same : false ≡ true = e in cc
not_refused (ShownAnswer.No shown) e = let same : false ≡ true = e in cc
not_refused (ShownAnswer.Pairs count height) e = let same : false ≡ true = e in cc
not_refused (ShownAnswer.Tags count height) e = let same : false ≡ true = e in cc
not_refused (ShownAnswer.Items count) e = let same : false ≡ true = e in cc

-- a program whose loose pages and runs are good
pub record GoodProgram (goal : Goal) (table : Table) (content : Content) (file : ScriptFile) : Type 0 where
  pub program : PlainProgram
  pub loaded : IsLoaded content file.name file.stubs program
  pub pages : EachIsGood goal table program
  pub runs : RunsAreGood goal table program

-- a program of which this is so
record ProgramOf (content : Content) (file : ScriptFile) (P : PlainProgram → Type 0) : Type 0 where
  pub program : PlainProgram
  pub loaded : IsLoaded content file.name file.stubs program
  pub so : P program

-- why a script is refused by what was told earlier
record RefusedAt (table : Table) (content : Content) (file : ScriptFile) : Type 0 where
  pub files : SourceCall
  pub status : Exit
  pub text : List ℕ
  pub content_is : files.content ≡ content
  pub why : RefusesByTable files file table status text

module _ (list : ScriptFile) (table : Table) (goal : Goal) (limit : ℕ) where
  abbrev May : Content → List ℕ → Line → Type 0
  May content name line = IsLineFor table goal limit content (listed list name) line

  -- a name and its line, by what was told at its call and stays told
  record LineAt (now : Content) (name : List ℕ) (line : Line) : Type 0 where
    pub earlier : Content
    pub stays : Stays earlier now
    pub may : May earlier name line

  line_for : (a b : Moment) (names : List (List ℕ)) (lines : List Line) → AreAnswered (λ content name line. May content name line) a b names lines → (name : List ℕ) → Contains names name
      → (line : Line) × Contains lines line × LineAt b.content name line
  line_for a b [] lines are name (i, less, is) = absurd (omega (arith, less))
  line_for a b (n ∷ ns) [] are name among = absurd are
  line_for a b (n ∷ ns) (l ∷ ls) (between, first, rest) name (zero, less, is) = (
    l,
    (0, omega arith, refl),
    record {
      earlier = between.content;
      stays = (answered_leads (λ content name line. May content name line) between b ns ls rest).stays;
      may = subst (λ (x : List ℕ). May between.content x l) is first.may;
    },
  )
  line_for a b (n ∷ ns) (l ∷ ls) (between, first, rest) name (suc i, less, is) =
      let r = line_for between b ns ls rest name (i, omega (arith, less), is) in
      (r.0, Contains-append_right (l ∷ []) ls r.0 r.1, r.2)

  name_for : (a b : Moment) (names : List (List ℕ)) (lines : List Line) → AreAnswered (λ content name line. May content name line) a b names lines → (line : Line) → Contains lines line
      → (name : List ℕ) × Contains names name × LineAt b.content name line
  name_for a b names [] are line (i, less, is) = absurd (omega (arith, less))
  name_for a b [] (l ∷ ls) are line among = absurd are
  name_for a b (n ∷ ns) (l ∷ ls) (between, first, rest) line (zero, less, is) = (
    n,
    (0, omega arith, refl),
    record {
      earlier = between.content;
      stays = (answered_leads (λ content name line. May content name line) between b ns ls rest).stays;
      may = subst (λ (x : Line). May between.content n x) is first.may;
    },
  )
  name_for a b (n ∷ ns) (l ∷ ls) (between, first, rest) line (suc i, less, is) =
      let r = name_for between b ns ls rest line (i, omega (arith, less), is) in
      (r.0, Contains-append_right (n ∷ []) ns r.0 r.1, r.2)

  no_program : (content : Content) (name : List ℕ) (line : Line) → is_no line ≡ true → May content name line → ProgramOf content (listed list name) (λ p. IsScriptVerdict goal table p exit.No)
  no_program content name line e (tells_answer program answer loaded is same) =
      record { program = program; loaded = loaded.loaded; so = no_of goal table program limit answer (subst (λ (l : Line). is_no l ≡ true) same e) is.0 }
  no_program content name line e (tells_refusal files status text c why w same) = absurd (let at : false ≡ true = subst (λ (l : Line). is_no l ≡ true) same e in cc)

  undecided_program : (content : Content) (name : List ℕ) (line : Line) → is_undecided line ≡ true → May content name line
      → ProgramOf content (listed list name) (λ p. PassesScriptLimit goal table p limit exit.Undecided)
  undecided_program content name line e (tells_answer program answer loaded is same) =
      record { program = program; loaded = loaded.loaded; so = undecided_of goal table program limit answer (subst (λ (l : Line). is_undecided l ≡ true) same e) is.0 }
  undecided_program content name line e (tells_refusal files status text c why w same) = absurd (let at : false ≡ true = subst (λ (l : Line). is_undecided l ≡ true) same e in cc)

  refused_script : (content : Content) (name : List ℕ) (line : Line) → is_refused line ≡ true → May content name line → RefusedAt table content (listed list name)
  refused_script content name line e (tells_answer program answer loaded is same) = absurd (not_refused answer (subst (λ (l : Line). is_refused l ≡ true) same e))
  refused_script content name line e (tells_refusal files status text c why w same) = record { files = files; status = status; text = text; content_is = c; why = why }

  good_program : (content : Content) (name : List ℕ) (line : Line) → is_no line ≡ false → is_undecided line ≡ false → is_refused line ≡ false → May content name line
      → GoodProgram goal table content (listed list name)
  good_program content name line a b c (tells_answer program answer loaded is same) =
      let good = good_of goal table program limit answer (subst (λ (l : Line). is_no l ≡ false) same a) (subst (λ (l : Line). is_undecided l ≡ false) same b) is in
      record { program = program; loaded = loaded.loaded; pages = good.0; runs = good.1 }
  good_program content name line a b c (tells_refusal files status text f why w same) = absurd (let at : true ≡ false = subst (λ (l : Line). is_refused l ≡ false) same c in cc)

-- where each line is a yes, each name has such a program
all_good : LoadedStays → (files : SourceCall) (file : ScriptFile) (goal : Goal) (limit : ℕ) (x : ListBy) (lines : List Line) → AreLinesOf files file goal limit x lines
    → list_any is_no lines ≡ false → list_any is_undecided lines ≡ false → list_any is_refused lines ≡ false
    → (name : List ℕ) → Contains (names_in x.list) name → GoodProgram goal x.table files.content (listed file name)
all_good stay files file goal limit x lines (before, are) a b c name among =
    let r = line_for file x.table goal limit (moment before files.faults files.misses) (moment files.content files.faults' files.misses') (names_in x.list) lines are name among in
    let good = good_program file x.table goal limit r.2.earlier name r.0 (no_line is_no lines a r.0 r.1) (no_line is_undecided lines b r.0 r.1) (no_line is_refused lines c r.0 r.1) r.2.may in
    record { program = good.program; loaded = stay r.2.earlier files.content name file.stubs good.program r.2.stays good.loaded; pages = good.pages; runs = good.runs }

-- the report says what the list comes to, or at which script the decision stops
pub list_verdict : LoadedStays → (files : SourceCall) (file : ScriptFile) (goal : Goal) (limit : ℕ) (x : ListBy) (lines : List Line) → IsList x.list → AreLinesOf files file goal limit x lines
    → IsListVerdict files.content file.stubs goal x.table x.list (site_status lines) ⊎ StopsAtScript files.content file goal x.table limit x.list (site_status lines)
list_verdict stay files file goal limit x lines is_list (before, are) =
    let now = moment files.content files.faults' files.misses' in
    let first = moment before files.faults files.misses in
    by_status lines (λ (s : Exit). IsListVerdict files.content file.stubs goal x.table x.list s ⊎ StopsAtScript files.content file goal x.table limit x.list s)
    (λ some.
    let l = some_line is_no lines some in
    let r = name_for file x.table goal limit first now (names_in x.list) lines are l.0 l.1 in
    let p = no_program file x.table goal limit r.2.earlier r.0 l.0 l.2 r.2.may in
    inl (is_list, (p.program, record { name = r.0; named = r.1; loaded = stay r.2.earlier files.content r.0 file.stubs p.program r.2.stays p.loaded }, p.so)))
    (λ some.
    let l = some_line is_undecided lines some in
    let r = name_for file x.table goal limit first now (names_in x.list) lines are l.0 l.1 in
    let p = undecided_program file x.table goal limit r.2.earlier r.0 l.0 l.2 r.2.may in
    inr (p.program, record { name = r.0; named = r.1; loaded = stay r.2.earlier files.content r.0 file.stubs p.program r.2.stays p.loaded }, p.so))
    (λ some.
    let l = some_line is_refused lines some in
    let r = name_for file x.table goal limit first now (names_in x.list) lines are l.0 l.1 in
    let f = refused_script file x.table goal limit r.2.earlier r.0 l.0 l.2 r.2.may in
    inr (f.files, r.0, f.status, f.text, r.1, subst (λ (c : Content). Stays c files.content) (sym f.content_is) r.2.stays, f.why))
    (λ a b c. inl (
      is_list,
      (λ name among.
          let g = all_good stay files file goal limit x lines (before, are) a b c name among in
          (g.program, g.loaded, g.pages)),
    ))

-- and with status 0 that the runs of each program are good
pub list_means : LoadedStays → (files : SourceCall) (file : ScriptFile) (goal : Goal) (limit : ℕ) (x : ListBy) (lines : List Line) → AreLinesOf files file goal limit x lines → exit.Done ≡ site_status lines
    → (name : List ℕ) → Contains (names_in x.list) name → (program : PlainProgram) × IsLoaded files.content name file.stubs program × RunsAreGood goal x.table program
list_means stay files file goal limit x lines are done =
    by_status lines
    (λ (s : Exit). exit.Done ≡ s → (name : List ℕ) → Contains (names_in x.list) name → (program : PlainProgram) × IsLoaded files.content name file.stubs program × RunsAreGood goal x.table program)
    (λ a e. absurd (cc)) (λ a e. absurd (cc)) (λ a e. absurd (cc))
    (λ a b c e name among. let g = all_good stay files file goal limit x lines are a b c name among in (g.program, g.loaded, g.runs)) done

-- lines that are not refused tell no fault
none_refused : (status : ℕ) (ls : List Line) → list_any is_refused ls ≡ false → refused_by status ls ≡ 0
none_refused status [] e = refl
none_refused status (told.Yes ∷ ls) e = let rest = none_refused status ls e in omega (arith, rest)
none_refused status (told.No len ∷ ls) e = let rest = none_refused status ls e in omega (arith, rest)
none_refused status (told.Pairs count height ∷ ls) e = let rest = none_refused status ls e in omega (arith, rest)
none_refused status (told.Tags count height ∷ ls) e = let rest = none_refused status ls e in omega (arith, rest)
none_refused status (told.Items count ∷ ls) e = let rest = none_refused status ls e in omega (arith, rest)
none_refused status (told.Refused by text ∷ ls) e = absurd (let same : true ≡ false = e in cc)

-- so a fault of the source is told by a line, or by the status
pub list_faults : (files : SourceCall) (file : ScriptFile) (d : NamedType) (goal : Goal) (limit : ℕ) (x : ListBy) (lines : List Line) → AreLinesOf files file goal limit x lines
    → FaultsAreTold (list_check file d goal limit) files (site_status lines)
list_faults files file d goal limit x lines (before, are) =
    by_status lines (λ (s : Exit). Contains (exit.No ∷ exit.Undecided ∷ exit.Site ∷ []) s ⊎ TellsFaults files s)
    (λ a. inl (0, lit< tt, refl)) (λ a. inl (1, lit< tt, refl)) (λ a. inl (2, lit< tt, refl))
    (λ a b c. inr (inr (calm_throughout (λ content name line. IsLineFor x.table goal limit content (listed file name) line) (moment before files.faults files.misses)
    (moment files.content files.faults' files.misses') (names_in x.list) lines are (none_refused FAULT_STATUS lines c))))

-- a text whose first bad line there is has a line that is no UTF-8
bad_line : (number : ℕ) (lines : List (List ℕ)) (line : ℕ) → IsFirstBad number lines line → AreUtf8 lines → ⊥
bad_line number [] line bad all = bad
bad_line number (l ∷ ls) line (inl (not, is)) (first, rest) = not first
bad_line number (l ∷ ls) line (inr (good, bad)) (first, rest) = bad_line (suc number) ls line bad rest

-- why a text is no list
pub not_list : (text : List ℕ) (refusal : ListRefusal) → IsNoList text refusal → ((list_status refusal ≡ exit.Input) × (IsList text → ⊥)) ⊎ (list_status refusal ≡ exit.Memory)
not_list text (listing.NotUtf8 line) bad = inl (refl, λ is. bad_line 1 (lines_in text) line bad is.0)
not_list text (listing.Names count) (utf8, count_is, none) = inl (refl, λ is. none (subst IsCount (sym count_is) is.1))
not_list text listing.Memory free = inr refl
