-- What comes of one name that is asked for.
use Rattle.std.proofs.Common.{◌≡◌, ◌∙◌, ◌<◌, ◌≤◌, ℕ, List, [], ◌∷◌, length, Some, inl, inr, refl, ap, subst, arith}
use Rattle.io_edge.specs.Counts.{one_more}
use Rattle.io_edge.specs.Told.{Content, Tells}
use Rattle.program_rules.specs.Programs.{ReadFile}
use Rattle.program_files.specs.declared.refusal.LoadRefusal.{LoadRefusal}
use Rattle.program_files.specs.declared.refusal.LoadRefusal.TheVariants.{Missing, Outside, ReadFault, TooLong, Script, IncludeCycle, DoubleFunction, UnknownFunction, Arity, TooMany, Memory}
use Rattle.program_files.specs.Source.{SourceCall, source_call}
use Rattle.program_files.specs.Steps.{Include, State, state, AddsFile, AddsMissed, AsksOne, AddsScript, IsScriptCause, IsOneCause}

-- a script is there
pub adds_file : (content : Content) (f f' m m' r r' : ℕ) (path name script : List ℕ) (before now : State) → name ≡ path → Tells (content path) (Some script) → r' ≡ one_more r → f' ≡ f → m' ≡ m → AddsScript name script before now
    → AsksOne (source_call content f f' m m' r r') path before now
adds_file content f f' m m' r r' path name script before now is told counted unfailed calm adds =
    let a = subst (λ (x : List ℕ). AddsScript x script before now) is adds in
    inl (record { tree = a.tree; bytes = script; told = told; is_script = a.is_script; more = a.more; first = a.first; few = a.few; counted = counted; unfailed = unfailed; unmissed = calm }, a.same)

-- a script is refused
pub script_refused : (content : Content) (f f' m m' r r' : ℕ) (path name script : List ℕ) (files : List ReadFile) (missed : List (List ℕ)) → name ≡ path → Tells (content path) (Some script) → r' ≡ one_more r → f' ≡ f → m' ≡ m
    → (refusal : LoadRefusal) → IsScriptCause name script files refusal → IsOneCause (source_call content f f' m m' r r') path files missed refusal
script_refused content f f' m m' r r' path name script files missed is told counted unfailed calm (Script n fault) h = (h.0 ∙ is, counted, (script, told, h.1), unfailed, calm)
script_refused content f f' m m' r r' path name script files missed is told counted unfailed calm (TooMany count) h = (h.0, counted, unfailed, inl (h.1, (script, told), calm))
script_refused content f f' m m' r r' path name script files missed is told counted unfailed calm Memory h = (unfailed, inl calm)
script_refused content f f' m m' r r' path name script files missed is told counted unfailed calm (Missing n) h = absurd h
script_refused content f f' m m' r r' path name script files missed is told counted unfailed calm (Outside n) h = absurd h
script_refused content f f' m m' r r' path name script files missed is told counted unfailed calm (ReadFault n) h = absurd h
script_refused content f f' m m' r r' path name script files missed is told counted unfailed calm (TooLong n len) h = absurd h
script_refused content f f' m m' r r' path name script files missed is told counted unfailed calm (IncludeCycle n) h = absurd h
script_refused content f f' m m' r r' path name script files missed is told counted unfailed calm (DoubleFunction n) h = absurd h
script_refused content f f' m m' r r' path name script files missed is told counted unfailed calm (UnknownFunction n) h = absurd h
script_refused content f f' m m' r r' path name script files missed is told counted unfailed calm (Arity n) h = absurd h

-- the file of the program is asked for where nothing was before
pub asked_first : (call : SourceCall) (path : List ℕ) (files : List ReadFile) (missed : List (List ℕ)) (includes : List Include) (now : State) → files ≡ [] → missed ≡ [] → includes ≡ [] → AsksOne call path (state files missed includes) now
    → AsksOne call path (state [] [] []) now
asked_first call path files missed includes now no_files no_missed no_includes asks =
    let a = subst (λ (fs : List ReadFile). AsksOne call path (state fs missed includes) now) no_files asks in
    let b = subst (λ (ms : List (List ℕ)). AsksOne call path (state [] ms includes) now) no_missed a in
    subst (λ (is : List Include). AsksOne call path (state [] [] is) now) no_includes b

-- it is there
pub main_added : (call : SourceCall) (path : List ℕ) (now : State) → AsksOne call path (state [] [] []) now → 0 < length now.files → AddsFile call path [] [] now.files now.includes × (now.missed ≡ [])
main_added call path now (inl (adds, same)) some = (adds, same)
main_added call path now (inr (adds, files, includes)) some = absurd (let e = ap (λ (fs : List ReadFile). length fs) files in omega (arith, e, some))

-- or missed
pub main_missed : (call : SourceCall) (path : List ℕ) (now : State) → AsksOne call path (state [] [] []) now → length now.files ≤ 0 → AddsMissed call path [] (path ∷ [])
main_missed call path now (inl (adds, same)) none = absurd (let e = ap (λ (fs : List ReadFile). length fs) adds.more in omega (arith, e, none))
main_missed call path now (inr (adds, files, includes)) none = record { told = adds.told; more = refl; few = adds.few; counted = adds.counted; unfailed = adds.unfailed; rises = adds.rises }

-- or refused
pub refused_where_none : (call : SourceCall) (path : List ℕ) (files : List ReadFile) (missed : List (List ℕ)) (refusal : LoadRefusal) → files ≡ [] → missed ≡ [] → IsOneCause call path files missed refusal → IsOneCause call path [] [] refusal
refused_where_none call path files missed refusal no_files no_missed cause =
    subst (λ (ms : List (List ℕ)). IsOneCause call path [] ms refusal) no_missed (subst (λ (fs : List ReadFile). IsOneCause call path fs missed refusal) no_files cause)
