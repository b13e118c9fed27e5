-- A source that holds a program is not refused, but for want of memory, where no count of faults rises.
use Rattle.std.proofs.Common.{◌≡◌, ◌≤◌, ◌<◌, ◌∙◌, ◌+◌, ℕ, Bool, true, false, not, List, [], ◌∷◌, ◌++◌, map, length, Option, Some, None, inl, inr, refl, sym, ap, subst, arith}
use Rattle.std.specs.Prelude.{◌⊎◌, ◌||◌, is_some, if◌then◌else◌}
use Rattle.std.specs.List.{Contains, find}
use Rattle.std.proofs.lemmas.List.Elements.{Contains-append_right}
use Rattle.text_base.specs.declared.limits.TheConstants.{FILE_LIMIT}
use Rattle.program_rules.specs.declared.limits.TheConstants.{PLACE_LIMIT}
use Rattle.php_syntax.specs.Tokens.{PlainToken}
use Rattle.php_syntax.specs.Trees.{PlainFunction, PlainFile}
use Rattle.lexical_grammar.specs.declared.fault.LexicalFault.{LexicalFault}
use Rattle.lexical_grammar.specs.Cuts.{Cuts, Breaks}
use Rattle.script_grammar.specs.Grammar.{SpellsTree, IsTooDeep}
use Rattle.php_parser.specs.declared.refusal.ParseRefusal.TheVariants as parsed
use Rattle.io_edge.specs.Counts.{Rises}
use Rattle.io_edge.specs.Told.{Told, Content, known, Tells, HasAtLeast, Stays}
use Rattle.io_edge.proofs.Staying.{tells_stay}
use Rattle.script_meaning.specs.Programs.{PlainProgram}
use Rattle.program_rules.specs.Files.{Held, Agrees, has_one_place, is_at_first, found_name, with_found_names, HasScript, HasTree, HasOneTree}
use Rattle.io_edge.specs.Names.{normal, beside, is_outside}
use Rattle.program_rules.specs.Includes.{includes_of_file, Reads, itself, included, Asks, to_read, first, AllStayInside}
use Rattle.program_rules.proofs.PathLemmas.{paths_of_file}
use Rattle.program_rules.specs.Expansion.{StandsFor}
use Rattle.program_rules.specs.Limits.{HasPlaces, IsWithin}
use Rattle.program_rules.specs.Rules.{is_known, serves_call}
use Rattle.program_rules.specs.Programs.{ReadFile, functions_in}
use Rattle.program_files.specs.Order.{is_read, Reached}
use Rattle.program_files.specs.Source.{SourceCall, source_call}
use Rattle.program_files.specs.Scripts.{IsScript, IsScriptFault}
use Rattle.program_files.specs.Stubs.{IsStubScript, HasStubFile, HasStubs, IsStubFault, IsStubFileCause}
use Rattle.program_files.specs.Causes.{StopsAt, IsFirstPlace, IsMissing, LeadsOut, HasMissed, HasTooMany}
use Rattle.program_files.proofs.Among.{contains_map, once_within}
use Rattle.program_files.proofs.HasRead.{found_first}
use Rattle.program_files.specs.declared.refusal.ScriptRefusal.{ScriptRefusal}
use Rattle.program_files.specs.declared.refusal.ScriptRefusal.TheVariants.{Lex, Parse}
use Rattle.program_files.specs.declared.refusal.LoadRefusal.{LoadRefusal}
use Rattle.program_files.specs.declared.refusal.LoadRefusal.TheVariants.{Missing, Outside, ReadFault, TooLong, Script, IncludeCycle, DoubleFunction, UnknownFunction, Arity, TooMany, Memory}
use Rattle.program_sizes.specs.Limits.{PassesLimit}
use Rattle.program_sizes.specs.FileRules.{all_functions, all_calls, KeepFunctionRules}
use Rattle.program_sizes.specs.Loaded.{StandsForProgram}
use Rattle.program_sizes.proofs.StubLemmas.{same_taken}
use Rattle.function_rules.specs.Causes.{is_unknown, is_misused, IsFunctionCause}
use Rattle.program_loader.specs.Causes.{HasFiles, Loads, IsNamed, IsWritten, RefusesStubs, LacksStubs, IncludesItself, BreaksRule, IsTooLarge, IsLoadCause}
use Rattle.program_loader.specs.Told.{stubs_for, IsLoaded, AreShort, TellsStubs, StubsAreShort, HoldsProgram}
use Rattle.program_loader.proofs.LoadLemmas.{file_reads, named_so}
use Rattle.program_loader.proofs.Same.{AreSame, reads_here, writes_here, asks_here, leads_here, reached_here, stands_here, places_here, table_here, counts_here, functions_read, body_read, tree_here}
use Rattle.program_loader.proofs.Walk.{one_order, one_more_file}
use Rattle.program_loader.proofs.OneProgram.{Laws, agreed, one_table, one_sum, same_program, one_script_tree, told_stubs, same_stubs}

-- the laws of reading: one token list, and tokens or a fault
pub record ReadingLaws : Type 0 where
  pub one_tokens : (file : List ℕ) (tokens others : List PlainToken) → Cuts file tokens → Cuts file others → tokens ≡ others
  pub never : (file : List ℕ) (tokens : List PlainToken) (fault : LexicalFault) (place : ℕ) → Cuts file tokens → Breaks file fault place → ⊥

-- a script has no fault
pub no_fault : ReadingLaws → (script : List ℕ) (fault : ScriptRefusal) (tokens : List PlainToken) (tree : PlainFile) → Cuts script tokens → SpellsTree tokens tree → (IsTooDeep tokens → ⊥)
    → IsScriptFault script fault → ⊥
no_fault laws script (Lex refusal) tokens tree cut spelled within broken = laws.never script tokens broken.fault broken.at cut broken.breaks
no_fault laws script (Parse (parsed.NotInSubset at)) tokens tree cut spelled within none =
    none.nothing tree (subst (λ ts. SpellsTree ts tree) (laws.one_tokens script tokens none.tokens cut none.cut) spelled)
no_fault laws script (Parse (parsed.TooDeep at)) tokens tree cut spelled within deep = within (subst IsTooDeep (laws.one_tokens script deep.tokens tokens deep.cut cut) deep.deep)
no_fault laws script (Parse parsed.Memory) tokens tree cut spelled within none = none

-- under a name that is read, a script is held and told of
record ScriptAt (content : Content) (held : Held) (path : List ℕ) : Type 0 where
  pub script : PlainFile
  pub has : HasScript held path script
  pub told : content path ≡ known (Some has.bytes)

script_at : (content : Content) (name : List ℕ) (stubs : Option (List ℕ)) (p : PlainProgram) (h : HoldsProgram content name stubs p) (path : List ℕ) → Reads h.held (normal name) path → ScriptAt content h.held path
script_at content name stubs p h path reads =
    let found = h.is_program.is_program.read.all path reads in
    let has : HasTree h.held path found.0 = (h.is_program.is_program.read.each (record { name = path; tree = found.0 }) found.1).1 in
    record { script = has.script; has = has.has_script; told = h.told path (to_read path reads) ∙ ap (λ (x : Option (List ℕ)). known x) has.has_script.is_held }

-- another source that agrees with what is told is the same
same_so : (content : Content) (name : List ℕ) (stubs : Option (List ℕ)) (p : PlainProgram) (h : HoldsProgram content name stubs p) (other : Held) → Agrees content other → other.main ≡ normal name → AreSame h.held other (normal name)
same_so content name stubs p h other agrees main = agreed content h.held other name h.told agrees (main ∙ sym h.main)

asked_here : (content : Content) (name path : List ℕ) (stubs : Option (List ℕ)) (p : PlainProgram) (h : HoldsProgram content name stubs p) (other : Held) → Agrees content other → other.main ≡ normal name → Asks other (normal name) path → Asks h.held (normal name) path
asked_here content name path stubs p h other agrees main asks = asks_here h.held other (normal name) (same_so content name stubs p h other agrees main) path asks

-- a name that is asked for and is there is read
there_reads : (content : Content) (name : List ℕ) (stubs : Option (List ℕ)) (p : PlainProgram) (h : HoldsProgram content name stubs p) (path bytes : List ℕ) → Asks h.held (normal name) path → h.held.bytes path ≡ Some bytes → Reads h.held (normal name) path
there_reads content name stubs p h path bytes (to_read _ reads) is = reads
there_reads content name stubs p h _ bytes (first file written reads (script, has, own)) is =
    let named : found_name h.held file written ≡ beside h.held.main written = found_first h.held file written (ap (λ (o : Option (List ℕ)). is_some o) is) in
    let paths : includes_of_file (with_found_names h.held file script) ≡ map (found_name h.held file) (includes_of_file script) = paths_of_file (found_name h.held file) script in
    let c : Contains (map (found_name h.held file) (includes_of_file script)) (found_name h.held file written) = contains_map (found_name h.held file) (includes_of_file script) written own in
    subst (λ (x : List ℕ). Reads h.held (normal name) x) named
    (included file (found_name h.held file written) (with_found_names h.held file script) reads (record { script = script; has_script = has; found = refl })
    (subst (λ (xs : List (List ℕ)). Contains xs (found_name h.held file written)) (sym paths) c))

some_same : {A : Type 0} {a b : A} → Some a ≡ Some b → a ≡ b
some_same e = cc

not_missing : (content : Content) (held : Held) (path : List ℕ) → ScriptAt content held path → Tells (content path) None → ⊥
not_missing content held path s none =
    let same : Tells (known (Some s.has.bytes)) None = subst (λ (x : Told). Tells x None) s.told none in cc

-- no include is missing
none_missing : Laws → (call : SourceCall) (root name written : List ℕ) (stubs : Option (List ℕ)) (p : PlainProgram) (h : HoldsProgram call.content name stubs p) → IsMissing call root name written → ⊥
none_missing laws call root name written stubs p h (inl (is, none, counted, rises)) = not_missing call.content h.held (normal name) (script_at call.content name stubs p h (normal name) itself) none
none_missing laws call root name written stubs p h (inr (n, inside, first_gone, next_gone)) =
    let gone = n.reading.not_there n.next next_gone in
    let reads = laws.looked n.reading.held (normal name) n.files (n.next ∷ n.paths) n.next n.reading.reached (0, omega arith, refl) in
    let here = reads_here h.held n.reading.held (normal name) (same_so call.content name stubs p h n.reading.held n.reading.agrees n.reading.main) n.next reads in
    not_missing call.content h.held n.next (script_at call.content name stubs p h n.next here) gone.0

-- and none leads out
none_outside : (call : SourceCall) (root name written : List ℕ) (stubs : Option (List ℕ)) (p : PlainProgram) (h : HoldsProgram call.content name stubs p) → AllStayInside root h.held (normal name) → IsWritten call name written → LeadsOut call root name written → ⊥
none_outside call root name written stubs p h inside w (n, out) =
    let other : Held = n.reading.held in
    let same = same_so call.content name stubs p h other n.reading.agrees n.reading.main in
    let reads = reads_here h.held other (normal name) same n.file (file_reads other (normal name) n.files (n.next ∷ n.paths) n.reading.reached n.file n.known) in
    let writes = writes_here h.held other (normal name) same n.file written reads n.writes in
    let stays = inside n.file written reads writes in
    elim out [
      | inl first_out ↦ (
          let here : is_outside root h.held.main written ≡ true = ap (λ (m : List ℕ). is_outside root m written) (sym same.main) ∙ first_out in
          let no : false ≡ true = sym stays.first ∙ here in cc
          )
      | inr (second, missed, second_out) ↦ (
          let asks = first n.file written reads writes in
          let at : is_at_first h.held written ≡ is_at_first other written =
          ap (λ (o : Option (List ℕ)). has_one_place written || is_some o) (sym (same.bytes (beside h.held.main written) asks)) ∙ ap (λ (m : List ℕ). has_one_place written || is_some (other.bytes (beside m written))) (sym same.main) in
          let no : false ≡ true = sym (stays.second (at ∙ second)) ∙ second_out in cc
          )
    ]

not_long : (content : Content) (held : Held) (path : List ℕ) (len : ℕ) → content path ≡ known (held.bytes path) → ((bytes : List ℕ) → held.bytes path ≡ Some bytes → length bytes ≤ FILE_LIMIT) → FILE_LIMIT < len → HasAtLeast (content path) len → ⊥
not_long content held path len told short over least = by (held.bytes path) refl (subst (λ (x : Told). HasAtLeast x len) told least)
  where
    by : (o : Option (List ℕ)) → held.bytes path ≡ o → HasAtLeast (known o) len → ⊥
    by None is at = at
    by (Some bytes) is at = let few = short bytes is in omega (arith, at, over, few)

not_none : ReadingLaws → (content : Content) (held : Held) (path bytes : List ℕ) (fault : ScriptRefusal) → ScriptAt content held path → Tells (content path) (Some bytes) → IsScriptFault bytes fault → ⊥
not_none laws content held path bytes fault s told broken =
    let same : Tells (known (Some s.has.bytes)) (Some bytes) = subst (λ (x : Told). Tells x (Some bytes)) s.told told in
    no_fault laws s.has.bytes fault s.has.tokens s.script s.has.cut s.has.spelled s.has.within (subst (λ (bs : List ℕ). IsScriptFault bs fault) (sym (some_same same)) broken)

-- what was told of a name that is asked for was held
told_there : (content : Content) (name path bytes : List ℕ) (stubs : Option (List ℕ)) (p : PlainProgram) (h : HoldsProgram content name stubs p) → Asks h.held (normal name) path → Tells (content path) (Some bytes) → h.held.bytes path ≡ Some bytes
told_there content name path bytes stubs p h asks told =
    let same : Tells (known (h.held.bytes path)) (Some bytes) = subst (λ (x : Told). Tells x (Some bytes)) (h.told path asks) told in same

-- the files that were read are those of the program
same_files : Laws → (call : SourceCall) (root name : List ℕ) (stubs : Option (List ℕ)) (p : PlainProgram) (h : HoldsProgram call.content name stubs p) (s : HasFiles call root name stubs) → s.files ≡ h.is_program.is_program.files
same_files laws call root name stubs p h s =
    one_order (HasTree h.held) (laws.one_tree h.held) (normal name) s.files h.is_program.is_program.files
    (reached_here h.held s.held (normal name) (same_so call.content name stubs p h s.held s.agrees s.main) (λ files paths path. laws.looked s.held (normal name) files paths path) s.files [] s.in_order) h.is_program.in_order

not_circular : Laws → (call : SourceCall) (root name path : List ℕ) (stubs : Option (List ℕ)) (p : PlainProgram) → HoldsProgram call.content name stubs p → IncludesItself call root name stubs path → ⊥
not_circular laws call root name path stubs p h c =
    let same = same_so call.content name stubs p h c.source.held c.source.agrees c.source.main in
    h.is_program.is_program.acyclic path (reads_here h.held c.source.held (normal name) same path c.reads) (leads_here h.held c.source.held (normal name) same path path c.reads c.leads)

-- what is found first is there, and passes the test
found : {A : Type 0} (test : A → Bool) (xs : List A) (x : A) → find test xs ≡ Some x → Contains xs x × (test x ≡ true)
found test [] x e = absurd (cc)
found {A} test (y ∷ ys) x e = by (test y) refl e (found test ys x)
  where
    by : (b : Bool) → test y ≡ b → (if b then Some y else find test ys) ≡ Some x → (find test ys ≡ Some x → Contains ys x × (test x ≡ true)) → Contains (y ∷ ys) x × (test x ≡ true)
    by true is one rest = ((0, omega arith, some_same one), subst (λ (z : A). test z ≡ true) (some_same one) is)
    by false is later rest = let r = rest later in (Contains-append_right (y ∷ []) ys x r.0, r.1)

not_true : (b : Bool) → b ≡ true → not b ≡ true → ⊥
not_true b e f = cc

no_rule_broken : (files : List ReadFile) (more : List PlainFunction) (refusal : LoadRefusal) → KeepFunctionRules files more → IsFunctionCause files more refusal → refusal ≡ Memory
no_rule_broken files more (DoubleFunction name) rules twice = absurd (rules.once name twice)
no_rule_broken files more (UnknownFunction name) rules (once, (call, is, named)) =
    let f = found (is_unknown (all_functions files more)) (all_calls files more) call is in
    absurd (not_true (is_known (all_functions files more) call) (rules.known call f.0) f.1)
no_rule_broken files more (Arity name) rules (once, each, (call, is, named)) =
    let f = found (is_misused (all_functions files more)) (all_calls files more) call is in
    absurd (not_true (serves_call (all_functions files more) call) (rules.served call f.0) f.1)
no_rule_broken files more Memory rules free = refl
no_rule_broken files more (Missing name) rules none = absurd none
no_rule_broken files more (Outside name) rules none = absurd none
no_rule_broken files more (ReadFault name) rules none = absurd none
no_rule_broken files more (TooLong name len) rules none = absurd none
no_rule_broken files more (Script name fault) rules none = absurd none
no_rule_broken files more (IncludeCycle name) rules none = absurd none
no_rule_broken files more (TooMany count) rules none = absurd none

-- the functions of the file of stubs are those that were read
same_functions : Laws → (call : SourceCall) (root name : List ℕ) (stubs : Option (List ℕ)) (p : PlainProgram) (h : HoldsProgram call.content name stubs p) (s : HasFiles call root name stubs) → s.functions ≡ h.functions
same_functions laws call root name stubs p h s = same_stubs laws call.content stubs s.functions h.functions h.told_stubs s.has_stubs h.has_stubs

-- and so are those that are taken
same_taken_here : Laws → (call : SourceCall) (root name : List ℕ) (stubs : Option (List ℕ)) (p : PlainProgram) (h : HoldsProgram call.content name stubs p) (s : HasFiles call root name stubs)
    → stubs_for s.files s.functions ≡ stubs_for h.is_program.is_program.files h.functions
same_taken_here laws call root name stubs p h s =
    ap (λ (fs : List ReadFile). stubs_for fs s.functions) (same_files laws call root name stubs p h s) ∙ ap (λ (fs : List PlainFunction). stubs_for h.is_program.is_program.files fs) (same_functions laws call root name stubs p h s)

not_broken : Laws → (call : SourceCall) (root name : List ℕ) (stubs : Option (List ℕ)) (p : PlainProgram) (refusal : LoadRefusal) → HoldsProgram call.content name stubs p → BreaksRule call root name stubs refusal → refusal ≡ Memory
not_broken laws call root name stubs p refusal h b =
    let more = stubs_for h.is_program.is_program.files h.functions in
    no_rule_broken h.is_program.is_program.files more refusal h.rules
    (subst (λ (fs : List ReadFile). IsFunctionCause fs more refusal) (same_files laws call root name stubs p h b.source)
    (subst (λ (fs : List PlainFunction). IsFunctionCause b.source.files fs refusal) (same_taken_here laws call root name stubs p h b.source) b.cause))

-- a name that is there, where reading stopped, is the next one
next_there : (content : Content) (name path bytes next : List ℕ) (stubs : Option (List ℕ)) (p : PlainProgram) (h : HoldsProgram content name stubs p) (files : List ReadFile) (other : Held) → AreSame h.held other (normal name) → Asks h.held (normal name) path → Tells (content path) (Some bytes)
    → (path ≡ next) ⊎ IsFirstPlace other files path next → path ≡ next
next_there content name path bytes next stubs p h files other same asks told (inl is) = is
next_there content name path bytes next stubs p h files other same asks told (inr f) =
    let there : other.bytes path ≡ Some bytes = same.bytes path asks ∙ told_there content name path bytes stubs p h asks told in
    let some : is_some (other.bytes (beside other.main f.written)) ≡ true = ap (λ (x : List ℕ). is_some (other.bytes x)) (sym f.place) ∙ ap (λ (o : Option (List ℕ)). is_some o) there in
    f.place ∙ sym (found_first other f.file f.written some) ∙ sym f.found_as

-- no more files are included than may be
not_many_files : Laws → (call : SourceCall) (name path : List ℕ) (stubs : Option (List ℕ)) (p : PlainProgram) (h : HoldsProgram call.content name stubs p) (s : StopsAt call name path) → length s.files ≡ PLACE_LIMIT + 1 → (bytes : List ℕ) → Tells (call.content path) (Some bytes) → ⊥
not_many_files laws call name path stubs p h s many bytes told =
    let other : Held = s.reading.held in
    let same = same_so call.content name stubs p h other s.reading.agrees s.reading.main in
    let named = named_so laws.looked call name path s in
    let asks = asked_here call.content name path stubs p h named.held named.agrees named.main named.asks in
    let is : path ≡ s.next = next_there call.content name path bytes s.next stubs p h s.files other same asks told s.place in
    let unread : is_read s.files s.next ≡ false = ap (λ (x : List ℕ). is_read s.files x) (sym is) ∙ s.unread in
    let more = one_more_file (HasTree h.held) (laws.one_tree h.held) (normal name) s.files h.is_program.is_program.files s.next s.paths h.is_program.in_order
    (reached_here h.held other (normal name) same (λ files paths x. laws.looked other (normal name) files paths x) s.files (s.next ∷ s.paths) s.reading.reached) unread in
    let few = h.few in
    omega (arith, more, few, many)

-- nor are more names missed
not_many_missed : (call : SourceCall) (name : List ℕ) (stubs : Option (List ℕ)) (p : PlainProgram) (h : HoldsProgram call.content name stubs p) (m : HasMissed call name) → length m.missed ≡ PLACE_LIMIT + 1 → ⊥
not_many_missed call name stubs p h m many =
    let other : Held = m.reading.held in
    let same = same_so call.content name stubs p h other m.reading.agrees m.reading.main in
    let within : (path : List ℕ) → Contains m.missed path → Contains h.missed path = λ path c.
    (let gone = m.reading.not_there path c in
    let asks = asks_here h.held other (normal name) same path gone.2 in
    h.are_missed.all path asks (sym (same.bytes path asks) ∙ gone.1)) in
    let no_more = once_within m.missed h.missed m.reading.once within in
    let few = h.few_missed in
    omega (arith, no_more, few, many)

not_many : Laws → (call : SourceCall) (name : List ℕ) (stubs : Option (List ℕ)) (p : PlainProgram) (h : HoldsProgram call.content name stubs p) → HasTooMany call name → ⊥
not_many laws call name stubs p h (inl (path, s, many, (bytes, told), misses)) = not_many_files laws call name path stubs p h s many bytes told
not_many laws call name stubs p h (inr (m, many, counts)) = not_many_missed call name stubs p h m many

-- a program within the limits passes none
within_passes : (places : ℕ) (p : PlainProgram) (count : ℕ) → IsWithin places p → PassesLimit places p count → ⊥
within_passes places p count within (inl (over, is)) = let few = within.places_within in omega (arith, over, few)
within_passes places p count within (inr (inl (few, over, is))) = let few_nodes = within.nodes_within in omega (arith, over, few_nodes)
within_passes places p count within (inr (inr (few, few_nodes, over, is))) = let low = within.height_within in omega (arith, over, low)

-- what the files stand for is the program
stood_for : Laws → (name : List ℕ) (stubs : Option (List ℕ)) (files : List ReadFile) (places : ℕ) (p q : PlainProgram) (content : Content) (h : HoldsProgram content name stubs p) → files ≡ h.is_program.is_program.files
    → StandsForProgram h.held (normal name) files (stubs_for h.is_program.is_program.files h.functions) places q → (p ≡ q) × (places ≡ h.is_program.is_program.own_places + h.is_program.is_program.function_places)
stood_for laws name stubs files places p q content h alike st =
    let is = h.is_program.is_program in
    let more : List PlainFunction = stubs_for is.files h.functions in
    let s : StandsForProgram h.held (normal name) is.files more places q = subst (λ (fs : List ReadFile). StandsForProgram h.held (normal name) fs more places q) alike st in
    let one : HasOneTree h.held = laws.one_tree h.held in
    let tree : s.tree ≡ is.tree = one (normal name) s.tree is.tree s.spelled is.spelled in
    let main : StandsFor h.held is.tree.body_of q.main_of = subst (λ (t : PlainFile). StandsFor h.held t.body_of q.main_of) tree s.main in
    let own : HasPlaces h.held is.tree.body_of s.own_places = subst (λ (t : PlainFile). HasPlaces h.held t.body_of s.own_places) tree s.has_places in
    let table : is.own ≡ s.own = one_table laws h.held (functions_in is.files) is.own s.own is.stand s.stand in
    let all : p.functions_of ≡ q.functions_of =
    is.functions ∙ ap (λ (fs : List PlainFunction). is.own ++ fs) (same_taken h.held (functions_in is.files) is.own is.stand h.functions) ∙ ap (λ (fs : List PlainFunction). fs ++ more) table ∙ sym s.functions in (
      same_program p q (laws.one_body h.held is.tree.body_of p.main_of q.main_of one is.main main) all,
      s.all_places ∙ ap (λ n. n + s.function_places) (laws.one_count h.held is.tree.body_of s.own_places is.own_places one own is.has_places)
          ∙ ap (λ n. is.own_places + n) (one_sum laws h.held (functions_in is.files) s.function_places is.function_places s.have_places is.have_places),
    )

-- what stands for a program there does so here
stands_for_here : (held other : Held) (name : List ℕ) (files : List ReadFile) (more : List PlainFunction) (places : ℕ) (q : PlainProgram) → AreSame held other name
    → ((file : ReadFile) → Contains files file → Reads other name file.name × HasTree other file.name file.tree) → StandsForProgram other name files more places q → StandsForProgram held name files more places q
stands_for_here held other name files more places q same each st =
    let own : Reads other name name = itself in
    record {
      tree = st.tree;
      spelled = tree_here held other name same name st.tree itself st.spelled;
      main = stands_here held other name same st.tree.body_of q.main_of (body_read other name name st.tree own st.spelled) st.main;
      own = st.own;
      stand = table_here held other name same (functions_in files) st.own (functions_read other name files each) st.stand;
      functions = st.functions;
      own_places = st.own_places;
      has_places = places_here held other name same st.tree.body_of st.own_places (body_read other name name st.tree own st.spelled) st.has_places;
      function_places = st.function_places;
      have_places = counts_here held other name same (functions_in files) st.function_places (functions_read other name files each) st.have_places;
      all_places = st.all_places;
    }

not_large : Laws → (call : SourceCall) (root name : List ℕ) (count : ℕ) (stubs : Option (List ℕ)) (p : PlainProgram) → HoldsProgram call.content name stubs p → IsTooLarge call root name stubs count → ⊥
not_large laws call root name count stubs p h t =
    let same = same_so call.content name stubs p h t.source.held t.source.agrees t.source.main in
    let here = stands_for_here h.held t.source.held (normal name) t.source.files (stubs_for t.source.files t.source.functions) t.places t.program same t.source.read.each t.stands in
    let so = stood_for laws name stubs t.source.files t.places p t.program call.content h (same_files laws call root name stubs p h t.source)
    (subst (λ (fs : List PlainFunction). StandsForProgram h.held (normal name) t.source.files fs t.places t.program) (same_taken_here laws call root name stubs p h t.source) here) in
    within_passes _ p count h.is_program.is_program.within
    (subst (λ (n : ℕ). PassesLimit n p count) so.1 (subst (λ (x : PlainProgram). PassesLimit t.places x count) (sym so.0) t.passes))

-- a name that is asked for, where reading stopped, is asked for here
asked_so : (call : SourceCall) (name path : List ℕ) (stubs : Option (List ℕ)) (p : PlainProgram) (h : HoldsProgram call.content name stubs p) → IsNamed call name path → Asks h.held (normal name) path
asked_so call name path stubs p h named = asked_here call.content name path stubs p h named.held named.agrees named.main named.asks

-- a file of stubs that is told of is refused for want of memory alone
no_stub_fault : Laws → ReadingLaws → (script : List ℕ) (tree : PlainFile) (fault : ScriptRefusal) → IsStubScript script tree → IsStubFault script fault → ⊥
no_stub_fault laws reading script tree fault st (inl broken) = let is = st.is_script in no_fault reading script fault is.tokens tree is.cut is.spelled is.within broken
no_stub_fault laws reading script tree fault st (inr (at, same, some)) =
    let other : IsScript script some.tree = record { tokens = some.tokens; cut = some.cut; spelled = some.spelled; within = some.within } in
    some.includes (subst (λ (t : PlainFile). includes_of_file t ≡ []) (one_script_tree laws script tree some.tree st.is_script other) st.whole)

not_refused_stubs : Laws → ReadingLaws → (call : SourceCall) (root name stubs : List ℕ) (functions : List PlainFunction) (refusal : LoadRefusal) → TellsStubs call.content (Some stubs) → (has : HasStubFile call.content stubs functions)
    → StubsAreShort call.content (Some stubs) → (Rises call.faults call.faults' → ⊥) → RefusesStubs call root name stubs refusal → refusal ≡ Memory
not_refused_stubs laws reading call root name stubs functions refusal told has short calm r = by refusal r.cause
  where
    is : call.content (normal stubs) ≡ known (Some has.bytes)
    is = told_stubs call.content stubs functions told has

    calmly : Rises r.faults call.faults' → ⊥
    calmly rises = calm (subst (λ (f : ℕ). Rises f call.faults') r.source.unfailed rises)

    by : (refusal : LoadRefusal) → IsStubFileCause (source_call call.content r.faults call.faults' r.misses call.misses' r.reads call.reads') stubs refusal → refusal ≡ Memory
    by (Missing written) (same, none, counted, rises, faults) = absurd (let no : Tells (known (Some has.bytes)) None = subst (λ (t : Told). Tells t None) is none in cc)
    by (Outside written) cause = absurd cause
    by (ReadFault path) (same, counted, rises, misses) = absurd (calmly rises)
    by (TooLong path len) (same, counted, over, least, faults, misses) =
        absurd (let many : len ≤ length has.bytes = subst (λ (t : Told). HasAtLeast t len) is least in let few = short has.bytes is in omega (arith, many, over, few))
    by (Script path fault) (same, counted, (bytes, answered, broken), faults, misses) =
        absurd (let one : Some has.bytes ≡ Some bytes = subst (λ (t : Told). Tells t (Some bytes)) is answered in
        no_stub_fault laws reading has.bytes has.tree fault has.is_stub (subst (λ (bs : List ℕ). IsStubFault bs fault) (sym (some_same one)) broken))
    by (IncludeCycle path) cause = absurd cause
    by (DoubleFunction function) cause = absurd cause
    by (UnknownFunction function) cause = absurd cause
    by (Arity function) cause = absurd cause
    by (TooMany count) cause = absurd cause
    by Memory cause = refl

not_lacking : Laws → ReadingLaws → (call : SourceCall) (root name : List ℕ) (stubs : Option (List ℕ)) (p : PlainProgram) (refusal : LoadRefusal) → HoldsProgram call.content name stubs p → StubsAreShort call.content stubs
    → (Rises call.faults call.faults' → ⊥) → LacksStubs call root name stubs refusal → refusal ≡ Memory
not_lacking laws reading call root name None p refusal h short calm none = absurd none
not_lacking laws reading call root name (Some stubs) p refusal h short calm r = not_refused_stubs laws reading call root name stubs h.functions refusal h.told_stubs h.has_stubs short calm r

pub not_refused : Laws → ReadingLaws → (call : SourceCall) (root name : List ℕ) (stubs : Option (List ℕ)) (p : PlainProgram) (refusal : LoadRefusal) → (h : HoldsProgram call.content name stubs p) → AreShort h.held name
    → StubsAreShort call.content stubs → AllStayInside root h.held (normal name) → (Rises call.faults call.faults' → ⊥) → IsLoadCause call root name stubs refusal → refusal ≡ Memory
not_refused laws reading call root name stubs p (Missing written) h short few inside calm (inl (named, (missing, faults))) = absurd (none_missing laws call root name written stubs p h missing)
not_refused laws reading call root name stubs p (Missing written) h short few inside calm (inr lacks) = not_lacking laws reading call root name stubs p (Missing written) h few calm lacks
not_refused laws reading call root name stubs p (Outside written) h short few inside calm (named, (out, faults)) = absurd (none_outside call root name written stubs p h inside named out)
not_refused laws reading call root name stubs p (ReadFault path) h short few inside calm (inl (named, (stops, rises, misses))) = absurd (calm rises)
not_refused laws reading call root name stubs p (ReadFault path) h short few inside calm (inr lacks) = not_lacking laws reading call root name stubs p (ReadFault path) h few calm lacks
not_refused laws reading call root name stubs p (TooLong path len) h short few inside calm (inl (named, (stops, over, least, faults, misses))) =
    let asks = asked_so call name path stubs p h named in
    absurd (not_long call.content h.held path len (h.told path asks) (λ bytes is. short path bytes asks is) over least)
not_refused laws reading call root name stubs p (TooLong path len) h short few inside calm (inr lacks) = not_lacking laws reading call root name stubs p (TooLong path len) h few calm lacks
not_refused laws reading call root name stubs p (Script path fault) h short few inside calm (inl (named, (stops, (bytes, told, broken), faults, misses))) =
    let asks = asked_so call name path stubs p h named in
    let reads = there_reads call.content name stubs p h path bytes asks (told_there call.content name path bytes stubs p h asks told) in
    absurd (not_none reading call.content h.held path bytes fault (script_at call.content name stubs p h path reads) told broken)
not_refused laws reading call root name stubs p (Script path fault) h short few inside calm (inr lacks) = not_lacking laws reading call root name stubs p (Script path fault) h few calm lacks
not_refused laws reading call root name stubs p (IncludeCycle path) h short few inside calm cause = absurd (not_circular laws call root name path stubs p h cause)
not_refused laws reading call root name stubs p (DoubleFunction function) h short few inside calm cause = not_broken laws call root name stubs p (DoubleFunction function) h cause
not_refused laws reading call root name stubs p (UnknownFunction function) h short few inside calm cause = not_broken laws call root name stubs p (UnknownFunction function) h cause
not_refused laws reading call root name stubs p (Arity function) h short few inside calm cause = not_broken laws call root name stubs p (Arity function) h cause
not_refused laws reading call root name stubs p (TooMany count) h short few inside calm (inl (says, many, faults)) = absurd (not_many laws call name stubs p h many)
not_refused laws reading call root name stubs p (TooMany count) h short few inside calm (inr large) = absurd (not_large laws call root name count stubs p h large)
not_refused laws reading call root name stubs p Memory h short few inside calm counts = refl

-- what `load` gives is loaded
pub loaded_so : (call : SourceCall) (root name : List ℕ) (stubs : Option (List ℕ)) (p : PlainProgram) → Loads call root name stubs p → IsLoaded call.content name stubs p
loaded_so call root name stubs p l = record {
  held = l.source.held;
  main = l.source.main;
  answered = l.source.answered;
  functions = l.source.functions;
  has_stubs = l.source.has_stubs;
  is_program = record { is_program = l.is_program; in_order = subst (λ (fs : List ReadFile). Reached (HasTree l.source.held) (normal name) fs []) (sym l.its_files) l.source.in_order };
}

-- the file of stubs goes on to be so
stubs_stay : (before now : Content) (stubs : Option (List ℕ)) (functions : List PlainFunction) → Stays before now → HasStubs before stubs functions → HasStubs now stubs functions
stubs_stay before now None functions stays has = has
stubs_stay before now (Some name) functions stays has =
    record { bytes = has.bytes; tree = has.tree; told = tells_stay before now (normal name) (Some has.bytes) stays has.told; is_stub = has.is_stub; are = has.are }

-- and stays so
pub loaded_later : (before now : Content) (name : List ℕ) (stubs : Option (List ℕ)) (p : PlainProgram) → Stays before now → IsLoaded before name stubs p → IsLoaded now name stubs p
loaded_later before now name stubs p stays l = record {
  held = l.held;
  main = l.main;
  answered = λ path asks. tells_stay before now path (l.held.bytes path) stays (l.answered path asks);
  functions = l.functions;
  has_stubs = stubs_stay before now stubs l.functions stays l.has_stubs;
  is_program = l.is_program;
}
