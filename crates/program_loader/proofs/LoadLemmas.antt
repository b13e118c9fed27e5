-- From files that were read to the program of a name, or to the cause of a refusal, over the laws of include_expansion and program_sizes.
use Rattle.std.proofs.Common.{◌≡◌, ◌∙◌, ℕ, suc, ◌+◌, true, List, [], ◌∷◌, length, Option, Some, None, Result, Err, IfErr, inl, inr, refl, sym, ap, subst, arith}
use Rattle.std.specs.Prelude.{◌⊎◌}
use Rattle.php_syntax.specs.Trees.{PlainFunction, PlainFile}
use Rattle.std.specs.List.{Contains}
use Rattle.io_edge.specs.Told.{Content, Tells}
use Rattle.io_edge.specs.Names.{normal}
use Rattle.script_meaning.specs.Programs.{PlainProgram}
use Rattle.program_rules.specs.Files.{Held, HasTree, HasOneScript, HasOneTree}
use Rattle.program_rules.specs.Includes.{includes_in_functions, includes_of_file, Reads, Writes, Asks, to_read, first}
use Rattle.program_rules.specs.Programs.{ReadFile, AreRead, AreMissed, HasNoCycle, IsProgram}
use Rattle.program_files.specs.declared.refusal.LoadRefusal.{LoadRefusal}
use Rattle.program_files.specs.declared.refusal.LoadRefusal.TheVariants.{Missing, Outside, ReadFault, TooLong, Script, IncludeCycle, DoubleFunction, UnknownFunction, Arity, TooMany, Memory}
use Rattle.program_files.specs.Order.{is_read, Reached}
use Rattle.program_files.specs.Source.{SourceCall, source_call, so_many_more, RisesBy}
use Rattle.program_files.specs.Causes.{IsSettled, ReadsAll, StopsAt, IsNext, IsReadCause}
use Rattle.program_files.specs.Stubs.{HasStubs, stub_reads, ReadsStubs}
use Rattle.program_files.proofs.NameLemmas.{tree_there}
use Rattle.program_files.proofs.ReachedLemmas.{files_read}
use Rattle.program_files.proofs.Among.{there_read}
use Rattle.include_expansion.specs.Within.{tree_named, program_within, IsIncludeOrder, AreHeld}
use Rattle.include_expansion.specs.FileOrder.{AreWhole, IsOrderCause}
use Rattle.program_sizes.specs.Limits.{program_places}
use Rattle.program_sizes.specs.Loaded.{AreScripts, AreStubs, with_stubs, MakeProgram, StandsForProgram}
use Rattle.program_sizes.proofs.ProgramLemmas.{ReadsTheProgram, program_of_parts}
use Rattle.program_sizes.proofs.StubLemmas.{script_stubs}
use Rattle.program_loader.specs.Told.{stubs_for}
use Rattle.program_loader.specs.Causes.{HasFiles, Loads, IsNamed, IsWritten, RefusesStubs, BreaksRule, IsLoadCause}
use Rattle.program_loader.specs.Making.{AreReady, Make, BreakRules, PassLimit, IsMakeCause, ReadBoth, ReadFirst}

-- the laws
abbrev pub OneTreeEach : Type 0
OneTreeEach = (held : Held) → HasOneTree held

abbrev pub OneScriptEach : Type 0
OneScriptEach = (held : Held) → HasOneScript held

abbrev pub LookedAt : Type 0
LookedAt = (held : Held) (name : List ℕ) (files : List ReadFile) (paths : List (List ℕ)) (path : List ℕ) → Reached (HasTree held) name files paths → Contains paths path → Reads held name path

abbrev pub OfFiles : (Held → List ReadFile → List ℕ → Type 0) → Type 0
OfFiles So = (held : Held) (name : List ℕ) (files : List ReadFile) → HasOneTree held → Reached (HasTree held) name files [] → So held files name

abbrev pub OfOrder : (Held → List ReadFile → List (List ℕ) → List ℕ → Type 0) → Type 0
OfOrder So = (held : Held) (name : List ℕ) (files : List ReadFile) (order : List (List ℕ)) → HasOneTree held → Reached (HasTree held) name files [] → IsIncludeOrder files order → So held files order name

abbrev pub ArePrograms : Type 0
ArePrograms = (held : Held) (files : List ReadFile) (functions : List PlainFunction) (order : List (List ℕ)) (name : List ℕ) (program : PlainProgram) → HasOneTree held → Reached (HasTree held) name files [] → AreStubs functions
    → MakeProgram files (stubs_for files functions) order name program → IsProgram held name functions program

abbrev pub Stand : Type 0
Stand = (held : Held) (name : List ℕ) (files : List ReadFile) (order : List (List ℕ)) (stubs : List PlainFunction) → HasOneTree held → Reached (HasTree held) name files [] → IsIncludeOrder files order
    → StandsForProgram held name files stubs (program_places files (length order) (tree_named files name)) (with_stubs stubs (program_within files (length order) (tree_named files name)))

-- an include of a file that the program reads is settled
settled_so : OneScriptEach → (call : SourceCall) (root name : List ℕ) (files : List ReadFile) (all : ReadsAll call root name files) → AreRead all.reading.held (normal name) files → (file written : List ℕ) → Reads all.reading.held (normal name) file
    → Writes all.reading.held file written → IsSettled root all.reading.held files all.missed file written
settled_so scripts call root name files all read file written reads (script, has, own) =
    let f = read.all file reads in
    let s = all.settled (record { name = file; tree = f.0 }) f.1 in
    s.settled written (subst (λ (t : PlainFile). Contains (includes_of_file t) written) (scripts all.reading.held file script s.tree.script has s.tree.has_script) own)

-- each name that the program asks for was read, or missed
asked_so : OneScriptEach → (call : SourceCall) (root name : List ℕ) (files : List ReadFile) (all : ReadsAll call root name files) → AreRead all.reading.held (normal name) files → (path : List ℕ) → Asks all.reading.held (normal name) path
    → (is_read files path ≡ true) ⊎ Contains all.missed path
asked_so scripts call root name files all read path (to_read _ reads) = let f = read.all path reads in inl (there_read files (record { name = path; tree = f.0 }) f.1)
asked_so scripts call root name files all read _ (first file written reads writes) = (settled_so scripts call root name files all read file written reads writes).asked

answered_so : OneScriptEach → (call : SourceCall) (root name : List ℕ) (files : List ReadFile) (all : ReadsAll call root name files) → AreRead all.reading.held (normal name) files → (path : List ℕ) → Asks all.reading.held (normal name) path
    → Tells (call.content path) (all.reading.held.bytes path)
answered_so scripts call root name files all read path asks = elim (asked_so scripts call root name files all read path asks) [
  | inl known ↦ all.reading.answered path known
  | inr gone ↦ (let h = all.reading.not_there path gone in subst (λ (o : Option (List ℕ)). Tells (call.content path) o) (sym h.1) h.0)
]

-- those that are not there were missed
missed_so : OneScriptEach → (call : SourceCall) (root name : List ℕ) (files : List ReadFile) (all : ReadsAll call root name files) → AreRead all.reading.held (normal name) files → AreMissed all.reading.held (normal name) all.missed
missed_so scripts call root name files all read = record {
  each = λ path c. (let h = all.reading.not_there path c in (h.2, h.1));
  all = λ path asks gone. elim (asked_so scripts call root name files all read path asks) [
    | inl known ↦ (
        let t = tree_there files path known in
        let has : HasTree all.reading.held path t.0 = (read.each (record { name = path; tree = t.0 }) t.1).1 in
        absurd (let both : Some has.has_script.bytes ≡ None = sym has.has_script.is_held ∙ gone in cc)
        )
    | inr missed ↦ missed
  ];
  once = all.reading.once;
}

-- the functions of a file of stubs may stand behind those of files
are_stubs : (content : Content) (stubs : Option (List ℕ)) (functions : List PlainFunction) → HasStubs content stubs functions → AreStubs functions
unfolding includes_in_functions
are_stubs content None functions none = subst AreStubs (sym none) (record { spellable = refl; fit = refl; whole = refl })
are_stubs content (Some name) functions has = subst AreStubs (sym has.are) (script_stubs has.bytes has.tree has.is_stub)

pub stubs_read : (call : SourceCall) (stubs : Option (List ℕ)) (functions : List PlainFunction) → ReadsStubs call stubs functions → AreStubs functions
stubs_read call stubs functions r = are_stubs call.content stubs functions r.has

-- one read more where there is a file of stubs
counted_on : (stubs : Option (List ℕ)) (n count : ℕ) → so_many_more (stub_reads stubs) (so_many_more n count) ≡ so_many_more (n + stub_reads stubs) count
unfolding so_many_more
counted_on None n count = let e : n ≡ n + 0 = omega arith in ap (λ (k : ℕ). so_many_more k count) e
counted_on (Some name) n count = let e : suc n ≡ n + 1 = omega arith in ap (λ (k : ℕ). so_many_more k count) e

-- the whole call, of both parts
files_from : OneScriptEach → (call : SourceCall) (root name : List ℕ) (stubs : Option (List ℕ)) (files : List ReadFile) (functions : List PlainFunction) (b : ReadBoth call root name stubs files functions)
    → AreRead b.all.reading.held (normal name) files → HasFiles call root name stubs
files_from scripts call root name stubs files functions b read =
    let part : SourceCall = source_call call.content call.faults b.faults call.misses b.misses call.reads b.reads in
    let all = b.all in
    let second = b.then_stubs in
    let n : ℕ = length files + length all.missed in record {
      held = all.reading.held;
      main = all.reading.main;
      agrees = all.reading.agrees;
      answered = answered_so scripts part root name files all read;
      files = files;
      read = read;
      in_order = all.reading.reached;
      few = all.few;
      missed = all.missed;
      are_missed = missed_so scripts part root name files all read;
      few_missed = all.few_missed;
      inside = λ file written reads writes. (settled_so scripts part root name files all read file written reads writes).inside;
      functions = functions;
      has_stubs = second.has;
      counted = second.counted ∙ ap (so_many_more (stub_reads stubs)) all.counted ∙ counted_on stubs n call.reads;
      unfailed = second.unfailed ∙ all.unfailed;
      misses = subst (λ (now : ℕ). RisesBy (length all.missed) call.misses now) (sym second.unmissed) all.misses;
    }

-- files alone, without stubs
files_alone : (content : Content) (f f' m m' r r' : ℕ) (root name : List ℕ) (files : List ReadFile) → ReadsAll (source_call content f f' m m' r r') root name files → ReadBoth (source_call content f f' m m' r r') root name None files []
unfolding so_many_more
files_alone content f f' m m' r r' root name files all =
    record { faults = f'; misses = m'; reads = r'; all = all; then_stubs = record { has = refl; counted = refl; unfailed = refl; unmissed = refl } }

pub is_ready : OneTreeEach → OfFiles (λ held files name. AreWhole files) → OfFiles (λ held files name. AreScripts files) → OfFiles (λ held files name. is_read files name ≡ true)
    → (call : SourceCall) (root name : List ℕ) (files : List ReadFile) → ReadsAll call root name files → AreReady files (normal name)
is_ready one whole scripts named call root name files all =
    let held : Held = all.reading.held in record {
      whole = whole held (normal name) files (one held) all.reading.reached;
      scripts = scripts held (normal name) files (one held) all.reading.reached;
      named = named held (normal name) files (one held) all.reading.reached;
    }

-- what was read and makes a program is loaded
pub loaded : OneTreeEach → OneScriptEach → ReadsTheProgram → ArePrograms → OfOrder (λ held files order name. HasNoCycle held name) → Stand → (call : SourceCall) (root name : List ℕ) (stubs : Option (List ℕ)) (files : List ReadFile) (functions : List PlainFunction)
    (program : PlainProgram) → ReadBoth call root name stubs files functions → Make files functions (normal name) program → Loads call root name stubs program
unfolding files_from
loaded one scripts reading programs acyclic stand call root name stubs files functions program b make =
    let n : List ℕ = normal name in
    let held : Held = b.all.reading.held in
    let reached = b.all.reading.reached in
    let read = reading held n files (one held) reached in
    let taken : List PlainFunction = stubs_for files functions in
    let st = subst (λ (p : PlainProgram). StandsForProgram held n files taken (program_places files (length make.0) (tree_named files n)) p) (sym make.1.program_is)
    (stand held n files make.0 taken (one held) reached make.1.sorted) in
    let is = programs held files functions make.0 n program (one held) reached (are_stubs call.content stubs functions b.then_stubs.has) make.1 in
    let p = program_of_parts held n files functions (program_places files (length make.0) (tree_named files n)) program read (acyclic held n files make.0 (one held) reached make.1.sorted) st is.rules make.1.within in
    record { source = files_from scripts call root name stubs files functions b read; is_program = p.0; its_files = p.1 }

-- memory may run out at any time
no_memory : (call : SourceCall) (root name : List ℕ) (stubs : Option (List ℕ)) (files : List ReadFile) (faults misses reads : ℕ) → ReadsAll (source_call call.content call.faults faults call.misses misses call.reads reads) root name files
    → call.faults' ≡ faults → call.misses' ≡ misses → IsLoadCause call root name stubs Memory
no_memory call root name stubs files faults misses reads all unfailed unmissed =
    let rises : RisesBy (length all.missed) call.misses call.misses' = subst (λ (now : ℕ). RisesBy (length all.missed) call.misses now) (sym unmissed) all.misses in
    (record { files = files; missed = all.missed; paths = []; reading = all.reading; misses = rises }, unfailed ∙ all.unfailed)

memory : (call : SourceCall) (root name : List ℕ) (stubs : Option (List ℕ)) (files : List ReadFile) (functions : List PlainFunction) → ReadBoth call root name stubs files functions → IsLoadCause call root name stubs Memory
memory call root name stubs files functions b = no_memory call root name stubs files b.faults b.misses b.reads b.all b.then_stubs.unfailed b.then_stubs.unmissed

by_order : OneTreeEach → OneScriptEach → ReadsTheProgram → OfFiles (λ held files name. AreHeld held files) → (call : SourceCall) (root name : List ℕ) (stubs : Option (List ℕ)) (files : List ReadFile) (functions : List PlainFunction)
    → ReadBoth call root name stubs files functions → (refusal : LoadRefusal) → IsOrderCause files refusal → IsLoadCause call root name stubs refusal
unfolding files_from
by_order one scripts reading has call root name stubs files functions b (IncludeCycle path) (there, leads) =
    let held : Held = b.all.reading.held in
    let read = reading held (normal name) files (one held) b.all.reading.reached in
    let t = tree_there files path there in
    record {
      source = files_from scripts call root name stubs files functions b read;
      reads = (read.each (record { name = path; tree = t.0 }) t.1).0;
      leads = leads held (has held (normal name) files (one held) b.all.reading.reached);
    }
by_order one scripts reading has call root name stubs files functions b Memory cause = memory call root name stubs files functions b
by_order one scripts reading has call root name stubs files functions b (Missing path) cause = absurd cause
by_order one scripts reading has call root name stubs files functions b (Outside path) cause = absurd cause
by_order one scripts reading has call root name stubs files functions b (ReadFault path) cause = absurd cause
by_order one scripts reading has call root name stubs files functions b (TooLong path len) cause = absurd cause
by_order one scripts reading has call root name stubs files functions b (Script path fault) cause = absurd cause
by_order one scripts reading has call root name stubs files functions b (DoubleFunction function) cause = absurd cause
by_order one scripts reading has call root name stubs files functions b (UnknownFunction function) cause = absurd cause
by_order one scripts reading has call root name stubs files functions b (Arity function) cause = absurd cause
by_order one scripts reading has call root name stubs files functions b (TooMany count) cause = absurd cause

broken : OneTreeEach → OneScriptEach → ReadsTheProgram → OfOrder (λ held files order name. HasNoCycle held name) → (call : SourceCall) (root name : List ℕ) (stubs : Option (List ℕ)) (files : List ReadFile) (functions : List PlainFunction)
    → ReadBoth call root name stubs files functions → (refusal : LoadRefusal) → BreakRules files functions refusal → BreaksRule call root name stubs refusal
unfolding files_from
broken one scripts reading acyclic call root name stubs files functions b refusal broke =
    let held : Held = b.all.reading.held in record {
      source = files_from scripts call root name stubs files functions b (reading held (normal name) files (one held) b.all.reading.reached);
      acyclic = acyclic held (normal name) files broke.order (one held) b.all.reading.reached broke.sorted;
      cause = broke.cause;
    }

by_rules : OneTreeEach → OneScriptEach → ReadsTheProgram → OfOrder (λ held files order name. HasNoCycle held name) → (call : SourceCall) (root name : List ℕ) (stubs : Option (List ℕ)) (files : List ReadFile) (functions : List PlainFunction)
    → ReadBoth call root name stubs files functions → (refusal : LoadRefusal) → BreakRules files functions refusal → IsLoadCause call root name stubs refusal
by_rules one scripts reading acyclic call root name stubs files functions b (DoubleFunction function) k = broken one scripts reading acyclic call root name stubs files functions b (DoubleFunction function) k
by_rules one scripts reading acyclic call root name stubs files functions b (UnknownFunction function) k = broken one scripts reading acyclic call root name stubs files functions b (UnknownFunction function) k
by_rules one scripts reading acyclic call root name stubs files functions b (Arity function) k = broken one scripts reading acyclic call root name stubs files functions b (Arity function) k
by_rules one scripts reading acyclic call root name stubs files functions b Memory k = memory call root name stubs files functions b
by_rules one scripts reading acyclic call root name stubs files functions b (Missing path) k = absurd k.cause
by_rules one scripts reading acyclic call root name stubs files functions b (Outside path) k = absurd k.cause
by_rules one scripts reading acyclic call root name stubs files functions b (ReadFault path) k = absurd k.cause
by_rules one scripts reading acyclic call root name stubs files functions b (TooLong path len) k = absurd k.cause
by_rules one scripts reading acyclic call root name stubs files functions b (Script path fault) k = absurd k.cause
by_rules one scripts reading acyclic call root name stubs files functions b (IncludeCycle path) k = absurd k.cause
by_rules one scripts reading acyclic call root name stubs files functions b (TooMany count) k = absurd k.cause

by_size : OneTreeEach → OneScriptEach → ReadsTheProgram → OfOrder (λ held files order name. HasNoCycle held name) → Stand → (call : SourceCall) (root name : List ℕ) (stubs : Option (List ℕ)) (files : List ReadFile) (functions : List PlainFunction)
    → ReadBoth call root name stubs files functions → (refusal : LoadRefusal) → PassLimit files functions (normal name) refusal → IsLoadCause call root name stubs refusal
unfolding files_from
by_size one scripts reading acyclic stand call root name stubs files functions b (TooMany count) p =
    let held : Held = b.all.reading.held in
    let n : List ℕ = normal name in
    let taken : List PlainFunction = stubs_for files functions in
    inr (record {
      source = files_from scripts call root name stubs files functions b (reading held n files (one held) b.all.reading.reached);
      acyclic = acyclic held n files p.order (one held) b.all.reading.reached p.sorted;
      rules = p.rules;
      places = program_places files (length p.order) (tree_named files n);
      program = with_stubs taken (program_within files (length p.order) (tree_named files n));
      stands = stand held n files p.order taken (one held) b.all.reading.reached p.sorted;
      passes = p.cause;
    })
by_size one scripts reading acyclic stand call root name stubs files functions b Memory p = memory call root name stubs files functions b
by_size one scripts reading acyclic stand call root name stubs files functions b (Missing path) p = absurd p.cause
by_size one scripts reading acyclic stand call root name stubs files functions b (Outside path) p = absurd p.cause
by_size one scripts reading acyclic stand call root name stubs files functions b (ReadFault path) p = absurd p.cause
by_size one scripts reading acyclic stand call root name stubs files functions b (TooLong path len) p = absurd p.cause
by_size one scripts reading acyclic stand call root name stubs files functions b (Script path fault) p = absurd p.cause
by_size one scripts reading acyclic stand call root name stubs files functions b (IncludeCycle path) p = absurd p.cause
by_size one scripts reading acyclic stand call root name stubs files functions b (DoubleFunction function) p = absurd p.cause
by_size one scripts reading acyclic stand call root name stubs files functions b (UnknownFunction function) p = absurd p.cause
by_size one scripts reading acyclic stand call root name stubs files functions b (Arity function) p = absurd p.cause

-- why files make no program is why none is loaded
pub unmade : OneTreeEach → OneScriptEach → ReadsTheProgram → OfFiles (λ held files name. AreHeld held files) → OfOrder (λ held files order name. HasNoCycle held name) → Stand → (call : SourceCall) (root name : List ℕ) (stubs : Option (List ℕ)) (files : List ReadFile)
    (functions : List PlainFunction) (refusal : LoadRefusal) → ReadBoth call root name stubs files functions → IsMakeCause files functions (normal name) refusal → IsLoadCause call root name stubs refusal
unmade one scripts reading has acyclic stand call root name stubs files functions refusal b cause = elim cause [
  | inl circle ↦ by_order one scripts reading has call root name stubs files functions b refusal circle
  | inr rest ↦ elim rest [
    | inl rules ↦ by_rules one scripts reading acyclic call root name stubs files functions b refusal rules
    | inr size ↦ by_size one scripts reading acyclic stand call root name stubs files functions b refusal size
  ]
]

-- a file of stubs that was refused
lacks : OneTreeEach → OneScriptEach → ReadsTheProgram → (call : SourceCall) (root name stubs : List ℕ) (refusal : LoadRefusal) → ReadFirst call root name (Some stubs) refusal → RefusesStubs call root name stubs refusal
unfolding files_alone
lacks one scripts reading call root name stubs refusal r =
    let part : SourceCall = source_call call.content call.faults r.faults call.misses r.misses call.reads r.reads in
    let held : Held = r.all.reading.held in
    let read = reading held (normal name) r.files (one held) r.all.reading.reached in
    record {
      faults = r.faults;
      misses = r.misses;
      reads = r.reads;
      source = files_from scripts part root name None r.files [] (files_alone call.content call.faults r.faults call.misses r.misses call.reads r.reads root name r.files r.all) read;
      cause = r.cause;
    }

pub unstubbed : OneTreeEach → OneScriptEach → ReadsTheProgram → (call : SourceCall) (root name : List ℕ) (stubs : Option (List ℕ)) (refusal : LoadRefusal) → ReadFirst call root name stubs refusal → IsLoadCause call root name stubs refusal
unstubbed one scripts reading call root name None refusal r = absurd r.cause
unstubbed one scripts reading call root name (Some stubs) (Missing written) r = inr (lacks one scripts reading call root name stubs (Missing written) r)
unstubbed one scripts reading call root name (Some stubs) (Outside written) r = absurd r.cause
unstubbed one scripts reading call root name (Some stubs) (ReadFault path) r = inr (lacks one scripts reading call root name stubs (ReadFault path) r)
unstubbed one scripts reading call root name (Some stubs) (TooLong path len) r = inr (lacks one scripts reading call root name stubs (TooLong path len) r)
unstubbed one scripts reading call root name (Some stubs) (Script path fault) r = inr (lacks one scripts reading call root name stubs (Script path fault) r)
unstubbed one scripts reading call root name (Some stubs) (IncludeCycle path) r = absurd r.cause
unstubbed one scripts reading call root name (Some stubs) (DoubleFunction function) r = absurd r.cause
unstubbed one scripts reading call root name (Some stubs) (UnknownFunction function) r = absurd r.cause
unstubbed one scripts reading call root name (Some stubs) (Arity function) r = absurd r.cause
unstubbed one scripts reading call root name (Some stubs) (TooMany count) r = absurd r.cause
unstubbed one scripts reading call root name (Some stubs) Memory r = no_memory call root name (Some stubs) r.files r.faults r.misses r.reads r.all r.cause.0 r.cause.1

-- a file that is read is one of the program's
pub file_reads : (held : Held) (name : List ℕ) (files : List ReadFile) (paths : List (List ℕ)) → Reached (HasTree held) name files paths → (file : List ℕ) → is_read files file ≡ true → Reads held name file
file_reads held name files paths reached file e = let t = tree_there files file e in (files_read held name files paths reached (record { name = file; tree = t.0 }) t.1).0

pub named_so : LookedAt → (call : SourceCall) (name path : List ℕ) → StopsAt call name path → IsNamed call name path
named_so looked call name path stops = record {
  held = stops.reading.held;
  main = stops.reading.main;
  agrees = stops.reading.agrees;
  asks = elim stops.place [
    | inl same ↦ to_read path (subst (λ (x : List ℕ). Reads stops.reading.held (normal name) x) (sym same) (looked stops.reading.held (normal name) stops.files (stops.next ∷ stops.paths) stops.next stops.reading.reached (0, omega arith, refl)))
    | inr f ↦ subst (λ (x : List ℕ). Asks stops.reading.held (normal name) x) (sym f.place)
        (first f.file f.written (file_reads stops.reading.held (normal name) stops.files (stops.next ∷ stops.paths) stops.reading.reached f.file f.known) f.writes)
  ];
}

written_so : (call : SourceCall) (name written : List ℕ) → IsNext call name written → IsWritten call name written
written_so call name written n = record {
  held = n.reading.held;
  main = n.reading.main;
  agrees = n.reading.agrees;
  file = n.file;
  reads = file_reads n.reading.held (normal name) n.files (n.next ∷ n.paths) n.reading.reached n.file n.known;
  writes = n.writes;
}

-- as is why reading stops
pub unread : LookedAt → (call : SourceCall) (root name : List ℕ) (stubs : Option (List ℕ)) (refusal : LoadRefusal) → IsReadCause call root name refusal → IsLoadCause call root name stubs refusal
unread looked call root name stubs (Missing written) cause = inl (
  elim cause.0 [
    | inl main ↦ inl main.0
    | inr include ↦ inr (written_so call name written include.0)
  ],
  cause,
)
unread looked call root name stubs (Outside written) cause = (written_so call name written cause.0.0, cause)
unread looked call root name stubs (ReadFault path) cause = inl (named_so looked call name path cause.0, cause)
unread looked call root name stubs (TooLong path len) cause = inl (named_so looked call name path cause.0, cause)
unread looked call root name stubs (Script path fault) cause = inl (named_so looked call name path cause.0, cause)
unread looked call root name stubs (IncludeCycle path) cause = absurd cause
unread looked call root name stubs (DoubleFunction function) cause = absurd cause
unread looked call root name stubs (UnknownFunction function) cause = absurd cause
unread looked call root name stubs (Arity function) cause = absurd cause
unread looked call root name stubs (TooMany count) cause = inl cause
unread looked call root name stubs Memory cause = cause

-- a refusal that is handed on has its cause
pub failed : {A : Type 0} (call : SourceCall) (root name : List ℕ) (stubs : Option (List ℕ)) (r : Result A LoadRefusal) (refusal : LoadRefusal) → r ≡ Err refusal → IsLoadCause call root name stubs refusal → IfErr r (IsLoadCause call root name stubs)
failed {A} call root name stubs r refusal is cause = subst (λ (x : Result A LoadRefusal). IfErr x (IsLoadCause call root name stubs)) (sym is) cause
