-- The turns of reading: what is next, what was asked for, and what comes of it.
use Rattle.std.proofs.Common.{◌≡◌, ◌∙◌, ◌<◌, ◌≤◌, ◌+◌, ◌-◌, ℕ, suc, true, false, List, [], ◌∷◌, ◌++◌, drop, length, length-append, Some, None, inl, inr, refl, sym, ap, subst, arith}
use Rattle.std.specs.Prelude.{Option, MatchOption}
use Rattle.std.proofs.lemmas.List.Elements.{Contains-append_right}
use Rattle.io_edge.specs.Told.{Content}
use Rattle.io_edge.specs.Names.{normal}
use Rattle.script_grammar.specs.Rules.{is_utf8}
use Rattle.program_rules.specs.declared.limits.TheConstants.{PLACE_LIMIT}
use Rattle.program_rules.specs.Programs.{ReadFile}
use Rattle.program_files.specs.declared.refusal.LoadRefusal.{LoadRefusal}
use Rattle.program_files.specs.declared.refusal.LoadRefusal.TheVariants.{Missing, Outside}
use Rattle.program_files.specs.declared.places.Look.TheVariants as look
use Rattle.program_files.specs.declared.places.Step.{Step}
use Rattle.program_files.specs.Order.{is_read, names_of}
use Rattle.program_files.specs.Source.{SourceCall, source_call}
use Rattle.program_files.specs.Causes.{IsReadCause}
use Rattle.program_files.specs.Steps.{Include, State, state, written_in, is_among, IsLook, IsNextPlace, Passes, AreTexts, AreUtf8, AsksOne, IsOneCause}
use Rattle.program_files.proofs.Utf8Paths.{in_file}
use Rattle.program_files.proofs.Among.{contains_among, there_read}
use Rattle.program_files.proofs.HasRead.{HasRead}
use Rattle.program_files.proofs.Steps.{passed}
use Rattle.program_files.proofs.Growing.{file_more, miss_more}
use Rattle.program_files.proofs.Refusals.{is_missing, leads_out, refused}

-- includes are texts from the first on
pub first_texts : (i : Include) (rest : List Include) → AreTexts (i ∷ rest) → (is_utf8 i.0 ≡ true) × (is_utf8 i.1 ≡ true)
first_texts i rest texts = texts i (0, omega arith, refl)

pub rest_texts : (i : Include) (rest : List Include) → AreTexts (i ∷ rest) → AreTexts rest
rest_texts i rest texts j c = texts j (Contains-append_right (i ∷ []) rest j c)

-- what is read has includes that are texts, and names that are
pub are_texts : (call : SourceCall) (root name : List ℕ) (s : State) → HasRead call root name s → AreTexts s.includes
are_texts call root name s has i c =
    let n = has.named i c in
    let read : is_read s.files i.0 ≡ true = ap (λ (x : List ℕ). is_read s.files x) (sym n.2) ∙ there_read s.files n.0 n.1 in
    (has.texts i.0 read, in_file n.0.tree i.1 (has.scripts n.0 n.1).0.spelled.fits n.3)

pub are_utf8 : (call : SourceCall) (root name : List ℕ) (s : State) → HasRead call root name s → AreUtf8 (names_of s.files)
are_utf8 call root name s has path c = has.texts path (contains_among (names_of s.files) path c)

-- a name is to be asked for, for the first include
pub record Asked (call : SourceCall) (root name : List ℕ) (files : List ReadFile) (missed : List (List ℕ)) (left : List Include) (path : List ℕ) : Type 0 where
  pub include : Include
  pub rest : List Include
  pub is : left ≡ include ∷ rest
  pub has : HasRead call root name (state files missed (include ∷ rest))
  pub place : IsNextPlace root has.held.main files missed include path

pub place_unread : (root main : List ℕ) (files : List ReadFile) (missed : List (List ℕ)) (i : Include) (path : List ℕ) → IsNextPlace root main files missed i path → is_read files path ≡ false
place_unread root main files missed i path (inl ((inside, unread, unmissed, place), last)) = ap (λ (x : List ℕ). is_read files x) place ∙ unread
place_unread root main files missed i path (inr (gone, two, (inside, unread, unmissed, place))) = ap (λ (x : List ℕ). is_read files x) place ∙ unread

pub place_unmissed : (root main : List ℕ) (files : List ReadFile) (missed : List (List ℕ)) (i : Include) (path : List ℕ) → IsNextPlace root main files missed i path → is_among missed path ≡ false
place_unmissed root main files missed i path (inl ((inside, unread, unmissed, place), last)) = ap (λ (x : List ℕ). is_among missed x) place ∙ unmissed
place_unmissed root main files missed i path (inr (gone, two, (inside, unread, unmissed, place))) = ap (λ (x : List ℕ). is_among missed x) place ∙ unmissed

pub asked_so : (call : SourceCall) (root name main : List ℕ) (files : List ReadFile) (missed : List (List ℕ)) (all left rest : List Include) (include : Include) (path : List ℕ) → main ≡ normal name → HasRead call root name (state files missed all)
    → Passes root main files missed all (include ∷ rest) → left ≡ include ∷ rest → IsNextPlace root main files missed include path → Asked call root name files missed left path
asked_so call root name main files missed all left rest include path is has passes left_is place =
    let h = passed call root name main files missed all (include ∷ rest) is has passes in
    record { include = include; rest = rest; is = left_is; has = h; place = subst (λ (m : List ℕ). IsNextPlace root m files missed include path) (is ∙ sym h.main) place }

-- what comes of it
pub next_state : (content : Content) (f f' f'' m m' m'' r r' r'' : ℕ) (root name : List ℕ) (files : List ReadFile) (missed : List (List ℕ)) (left : List Include) (path : List ℕ) (now : State)
    → Asked (source_call content f f' m m' r r') root name files missed left path → is_utf8 path ≡ true → length missed ≤ PLACE_LIMIT → AsksOne (source_call content f' f'' m' m'' r' r'') path (state files missed left) now
    → HasRead (source_call content f f'' m m'' r r'') root name now × (length now.missed ≤ PLACE_LIMIT)
next_state content f f' f'' m m' m'' r r' r'' root name files missed left path now a text few (inl (adds, same)) =
    let call = source_call content f f'' m m'' r r'' in
    let unread = place_unread root a.has.held.main files missed a.include path a.place in
    let unmissed = place_unmissed root a.has.held.main files missed a.include path a.place in
    let more = file_more content f f' f'' m m' m'' r r' r'' root name files missed a.include a.rest a.has path adds.bytes adds.tree a.place unread unmissed text adds.told adds.is_script adds.few adds.counted adds.unfailed adds.unmissed in
    let first : now.includes ≡ written_in path adds.tree ++ a.rest = adds.first ∙ ap (λ (is : List Include). written_in path adds.tree ++ drop 1 is) a.is in
    let b = subst (λ (is : List Include). HasRead call root name (state (files ++ record { name = path; tree = adds.tree } ∷ []) missed is)) (sym first) more in
    let c = subst (λ (ms : List (List ℕ)). HasRead call root name (state (files ++ record { name = path; tree = adds.tree } ∷ []) ms now.includes)) (sym same) b in
    (subst (λ (fs : List ReadFile). HasRead call root name (state fs now.missed now.includes)) (sym adds.more) c, subst (λ (ms : List (List ℕ)). length ms ≤ PLACE_LIMIT) (sym same) few)
next_state content f f' f'' m m' m'' r r' r'' root name files missed left path now a text few (inr (adds, same, left_too)) =
    let call = source_call content f f'' m m'' r r'' in
    let unread = place_unread root a.has.held.main files missed a.include path a.place in
    let unmissed = place_unmissed root a.has.held.main files missed a.include path a.place in
    let more = miss_more content f f' f'' m m' m'' r r' r'' root name files missed a.include a.rest a.has path a.place unread unmissed adds.told adds.counted adds.unfailed adds.rises in
    let b = subst (λ (is : List Include). HasRead call root name (state files (missed ++ path ∷ []) is)) (sym (left_too ∙ a.is)) more in
    let c = subst (λ (ms : List (List ℕ)). HasRead call root name (state files ms now.includes)) (sym adds.more) b in
    let size = length-append missed (path ∷ []) in
    let less = adds.few in
    (subst (λ (fs : List ReadFile). HasRead call root name (state fs now.missed now.includes)) (sym same) c, subst (λ (ms : List (List ℕ)). length ms ≤ PLACE_LIMIT) (sym adds.more) (omega (arith, size, less)))

-- each turn asks for one name more
pub smaller : (call : SourceCall) (path : List ℕ) (before now : State) → length before.files < PLACE_LIMIT + 2 → length before.missed ≤ PLACE_LIMIT → AsksOne call path before now
    → (PLACE_LIMIT + 2 - length now.files) + (PLACE_LIMIT + 1 - length now.missed) < (PLACE_LIMIT + 2 - length before.files) + (PLACE_LIMIT + 1 - length before.missed)
smaller call path before now few few_missed (inl (adds, same)) =
    let size : length now.files ≡ suc (length before.files) = ap (λ (fs : List ReadFile). length fs) adds.more ∙ length-append before.files (record { name = path; tree = adds.tree } ∷ []) ∙ (omega arith) in
    let also = ap (λ (ms : List (List ℕ)). length ms) same in
    omega (arith, size, also, few, few_missed)
smaller call path before now few few_missed (inr (adds, same, rest)) =
    let size : length now.missed ≡ suc (length before.missed) = ap (λ (ms : List (List ℕ)). length ms) adds.more ∙ length-append before.missed (path ∷ []) ∙ (omega arith) in
    let also = ap (λ (fs : List ReadFile). length fs) same in
    omega (arith, size, also, few, few_missed)

pub refused_so : (content : Content) (f f' f'' m m' m'' r r' r'' : ℕ) (root name : List ℕ) (files : List ReadFile) (missed : List (List ℕ)) (left : List Include) (path : List ℕ)
    → Asked (source_call content f f' m m' r r') root name files missed left path → length missed ≤ PLACE_LIMIT → (refusal : LoadRefusal) → IsOneCause (source_call content f' f'' m' m'' r' r'') path files missed refusal
    → IsReadCause (source_call content f f'' m m'' r r'') root name refusal
refused_so content f f' f'' m m' m'' r r' r'' root name files missed left path a few refusal cause =
    refused content f f' f'' m m' m'' r r' r'' root name files missed a.include a.rest a.has path a.place (place_unread root a.has.held.main files missed a.include path a.place)
    (place_unmissed root a.has.held.main files missed a.include path a.place) few refusal cause

pub missing_so : (call : SourceCall) (root name main : List ℕ) (files : List ReadFile) (missed : List (List ℕ)) (all rest : List Include) (file written : List ℕ) → main ≡ normal name → HasRead call root name (state files missed all)
    → Passes root main files missed all ((file, written) ∷ rest) → IsLook root main files missed (file, written) look.Missed → IsReadCause call root name (Missing written)
missing_so call root name main files missed all rest file written is has passes l =
    is_missing call root name main files missed (file, written) rest is (passed call root name main files missed all ((file, written) ∷ rest) is has passes) l

pub outside_so : (call : SourceCall) (root name main : List ℕ) (files : List ReadFile) (missed : List (List ℕ)) (all rest : List Include) (file written : List ℕ) → main ≡ normal name → HasRead call root name (state files missed all)
    → Passes root main files missed all ((file, written) ∷ rest) → IsLook root main files missed (file, written) look.LeadsOut → IsReadCause call root name (Outside written)
outside_so call root name main files missed all rest file written is has passes l =
    leads_out call root name main files missed (file, written) rest is (passed call root name main files missed all ((file, written) ∷ rest) is has passes) l

-- what is next, where there is something, or nothing
pub step_so : (A : Type 0) (P : Step → Type 0) (o : Option Step) (t s : Step) → MatchOption o A P → o ≡ Some t → t ≡ s → P s
step_so A P o t s m is same = subst P same (subst (λ (x : Option Step). MatchOption x A P) is m)

pub no_step : (A : Type 0) (P : Step → Type 0) (o : Option Step) → MatchOption o A P → o ≡ None → A
no_step A P o m is = subst (λ (x : Option Step). MatchOption x A P) is m
