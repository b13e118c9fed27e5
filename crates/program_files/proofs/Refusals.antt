-- Why reading is refused.
use Rattle.std.proofs.Common.{◌≡◌, ◌∙◌, ◌≤◌, ℕ, zero, suc, ◌+◌, Bool, true, false, List, [], ◌∷◌, ◌++◌, length, Some, None, inl, inr, refl, sym, ap, subst, arith}
use Rattle.std.specs.Prelude.{◌⊎◌, ◌||◌, is_some, if◌then◌else◌, bytes_eq, slice_get}
use Rattle.std.specs.List.{Contains}
use Rattle.std.proofs.lemmas.List.{length-map, length-append}
use Rattle.io_edge.specs.Counts.{one_more, Rises}
use Rattle.io_edge.specs.Told.{Content, Tells, Allows}
use Rattle.io_edge.proofs.Staying.{tells_allow}
use Rattle.io_edge.specs.Names.{normal, beside, is_outside}
use Rattle.program_rules.specs.declared.limits.TheConstants.{PLACE_LIMIT}
use Rattle.program_rules.specs.Files.{Held, has_one_place, is_at_first, found_name}
use Rattle.program_rules.specs.Includes.{itself, Writes, Asks, to_read, StaysInside}
use Rattle.program_rules.specs.Programs.{ReadFile}
use Rattle.program_files.specs.declared.refusal.LoadRefusal.{LoadRefusal}
use Rattle.program_files.specs.declared.refusal.LoadRefusal.TheVariants.{Missing, Outside, ReadFault, TooLong, Script, IncludeCycle, DoubleFunction, UnknownFunction, Arity, TooMany, Memory}
use Rattle.program_files.specs.declared.places.Look.TheVariants as look
use Rattle.program_files.specs.Order.{is_read, begun}
use Rattle.program_files.specs.Source.{SourceCall, source_call, so_many_more, RisesBy}
use Rattle.program_files.specs.Causes.{IsReading, StopsAt, IsNext, HasMissed, HasTooMany, IsReadCause}
use Rattle.program_files.specs.Steps.{Include, State, state, is_among, IsLook, IsNextPlace, IsOneCause, AddsMissed}
use Rattle.program_files.proofs.NameLemmas.{same_name, own_name}
use Rattle.program_files.proofs.Among.{among_contains, contains_among, there_read}
use Rattle.program_files.proofs.HasRead.{found_file, found_files, found_paths, IsNamedIn, HasRead, found_only, found_second, not_first, read_found}
use Rattle.program_files.proofs.Growing.{miss_more}
use Rattle.program_files.proofs.SoFar.{told_of, allows_it, last_of, last_script, last_gone, last_is, reading_of}

-- so many files
size_of : (held : Held) (files : List ReadFile) → length (found_files held files) ≡ length files
size_of held files = length-map files (found_file held)

-- a file that names an include is read, and the include is written in it
reads_named : (call : SourceCall) (root name : List ℕ) (s : State) (has : HasRead call root name s) (i : Include) → IsNamedIn s.files i → is_read (found_files (last_of call root name s has) s.files) i.0 ≡ true
reads_named call root name s has i named =
    read_found (last_of call root name s has) s.files i.0 ∙ ap (λ (x : List ℕ). is_read s.files x) (sym named.2) ∙ there_read s.files named.0 named.1

writes_named : (call : SourceCall) (root name : List ℕ) (s : State) (has : HasRead call root name s) (i : Include) → IsNamedIn s.files i → Writes (last_of call root name s has) i.0 i.1
writes_named call root name s has i named =
    subst (λ (x : List ℕ). Writes (last_of call root name s has) x i.1) named.2 (named.0.tree, last_script call root name s has named.0 named.1, named.3)

-- where a name that is asked for is refused, reading stopped there
stops : (content : Content) (f f' f'' m m' m'' r r' r'' : ℕ) (root name : List ℕ) (files : List ReadFile) (missed : List (List ℕ)) (i : Include) (rest : List Include)
    → (has : HasRead (source_call content f f' m m' r r') root name (state files missed (i ∷ rest))) (path : List ℕ) → IsNextPlace root has.held.main files missed i path → is_read files path ≡ false → is_among missed path ≡ false
    → r'' ≡ one_more r' → (s : StopsAt (source_call content f f'' m m'' r r'') name path) × (s.missed ≡ missed) × (length s.files ≡ length files)
unfolding so_many_more reading_of
stops content f f' f'' m m' m'' r r' r'' root name files missed i rest has path place unread unmissed counted =
    let call = source_call content f f' m m' r r' in
    let s : State = state files missed (i ∷ rest) in
    let held : Held = last_of call root name s has in
    let named = has.named i (0, omega arith, refl) in
    let size = size_of held files in (
      record {
        files = found_files held files;
        missed = missed;
        next = found_name held i.0 i.1;
        paths = found_paths held rest;
        reading = reading_of call root name s has;
        place = elim place [
          | inl (own, last) ↦ inr (record {
            file = i.0;
            written = i.1;
            known = reads_named call root name s has i named;
            writes = writes_named call root name s has i named;
            place = own.3 ∙ ap (λ (x : List ℕ). beside x i.1) (sym (last_is call root name s has));
            found_as = refl;
          })
          | inr (miss, two, own) ↦ inl (
              let gone = subst (λ (x : List ℕ). is_among missed (beside x i.1) ≡ true) (sym (last_is call root name s has)) miss.1 in
              own.3 ∙ sym (found_second held i.0 i.1 two (last_gone call root name s has (beside held.main i.1) gone))
              )
        ];
        unread = read_found held files path ∙ unread;
        unmissed = λ c. (let e : true ≡ false = sym (contains_among missed path c) ∙ unmissed in cc);
        counted = counted ∙ ap one_more has.counted ∙ ap (λ n. so_many_more (suc (n + length missed)) r) (sym size);
      },
      refl,
      size,
    )

-- what was missed so far
missed_so : (call : SourceCall) (root name : List ℕ) (s : State) → HasRead call root name s → HasMissed call name
missed_so call root name s has = record {
  files = found_files (last_of call root name s has) s.files;
  missed = s.missed;
  paths = found_paths (last_of call root name s has) s.includes;
  reading = reading_of call root name s has;
  misses = has.misses;
}

pub no_memory : (call : SourceCall) (root name : List ℕ) (s : State) → HasRead call root name s → IsReadCause call root name Memory
no_memory call root name s has = (missed_so call root name s has, has.unfailed)

-- an include is next
next_so : (call : SourceCall) (root name : List ℕ) (files : List ReadFile) (missed : List (List ℕ)) (i : Include) (rest : List Include) (has : HasRead call root name (state files missed (i ∷ rest))) → IsNext call name i.1
unfolding reading_of
next_so call root name files missed i rest has =
    let s : State = state files missed (i ∷ rest) in
    let held : Held = last_of call root name s has in
    let named = has.named i (0, omega arith, refl) in record {
      files = found_files held files;
      missed = missed;
      paths = found_paths held rest;
      file = i.0;
      next = found_name held i.0 i.1;
      reading = reading_of call root name s has;
      known = reads_named call root name s has i named;
      writes = writes_named call root name s has i named;
      next_is = refl;
      counted = has.counted ∙ ap (λ n. so_many_more (n + length missed) call.reads) (sym (size_of held files));
      misses = has.misses;
    }

-- an include whose places were missed stays inside, and so do its places
only_first : (held : Held) (written : List ℕ) → has_one_place written ≡ true → is_at_first held written ≡ true
only_first held written one = left (has_one_place written) (is_some (held.bytes (beside held.main written))) one
  where
    left : (a b : Bool) → a ≡ true → (a || b) ≡ true
    left true b e = refl
    left false b e = absurd (cc)

missed_parts : (root : List ℕ) (held : Held) (files : List ReadFile) (missed : List (List ℕ)) (i : Include) → ((path : List ℕ) → is_among missed path ≡ true → held.bytes path ≡ None) → IsLook root held.main files missed i look.Missed
    → StaysInside root held i.0 i.1 × Contains missed (beside held.main i.1) × Contains missed (found_name held i.0 i.1)
missed_parts root held files missed i gone (inl ((inside, miss), one)) = (
  record { first = inside; second = λ no. absurd (let e : true ≡ false = sym (only_first held i.1 one) ∙ no in cc) },
  among_contains missed (beside held.main i.1) miss,
  subst (λ (x : List ℕ). Contains missed x) (sym (found_only held i.0 i.1 one)) (among_contains missed (beside held.main i.1) miss),
)
missed_parts root held files missed i gone (inr ((inside, miss), two, (inside_second, miss_second))) = (
  record { first = inside; second = λ no. inside_second },
  among_contains missed (beside held.main i.1) miss,
  subst (λ (x : List ℕ). Contains missed x) (sym (found_second held i.0 i.1 two (gone (beside held.main i.1) miss))) (among_contains missed (beside i.0 i.1) miss_second),
)

-- an include is missing
pub is_missing : (call : SourceCall) (root name main : List ℕ) (files : List ReadFile) (missed : List (List ℕ)) (i : Include) (rest : List Include) → main ≡ normal name → (has : HasRead call root name (state files missed (i ∷ rest)))
    → IsLook root main files missed i look.Missed → IsReadCause call root name (Missing i.1)
unfolding reading_of next_so
is_missing call root name main files missed i rest is has l =
    let s : State = state files missed (i ∷ rest) in
    let held : Held = last_of call root name s has in
    let same : main ≡ held.main = is ∙ sym has.main ∙ sym (last_is call root name s has) in
    let here : IsLook root held.main files missed i look.Missed = subst (λ (x : List ℕ). IsLook root x files missed i look.Missed) same l in
    let parts = missed_parts root held files missed i (last_gone call root name s has) here in
    (inr (next_so call root name files missed i rest has, parts.0, parts.1, parts.2), has.unfailed)

-- an include leads out
out_parts : (root : List ℕ) (held : Held) (files : List ReadFile) (missed : List (List ℕ)) (i : Include) → ((path : List ℕ) → is_among missed path ≡ true → held.bytes path ≡ None) → IsLook root held.main files missed i look.LeadsOut
    → (is_outside root held.main i.1 ≡ true) ⊎ ((is_at_first held i.1 ≡ false) × Contains missed (beside held.main i.1) × (is_outside root i.0 i.1 ≡ true))
out_parts root held files missed i gone (inl (out, last)) = inl out
out_parts root held files missed i gone (inr ((inside, miss), two, out)) = inr (not_first held i.1 two (gone (beside held.main i.1) miss), among_contains missed (beside held.main i.1) miss, out)

pub leads_out : (call : SourceCall) (root name main : List ℕ) (files : List ReadFile) (missed : List (List ℕ)) (i : Include) (rest : List Include) → main ≡ normal name → (has : HasRead call root name (state files missed (i ∷ rest)))
    → IsLook root main files missed i look.LeadsOut → IsReadCause call root name (Outside i.1)
unfolding reading_of next_so
leads_out call root name main files missed i rest is has l =
    let s : State = state files missed (i ∷ rest) in
    let held : Held = last_of call root name s has in
    let same : main ≡ held.main = is ∙ sym has.main ∙ sym (last_is call root name s has) in
    let here : IsLook root held.main files missed i look.LeadsOut = subst (λ (x : List ℕ). IsLook root x files missed i look.LeadsOut) same l in
    ((next_so call root name files missed i rest has, out_parts root held files missed i (last_gone call root name s has) here), has.unfailed)

-- one name more is missed, of which there are too many
one_too_many : (call : SourceCall) (root name : List ℕ) (s : State) (has : HasRead call root name s) → length s.missed ≡ PLACE_LIMIT + 1 → HasTooMany call name
unfolding missed_so
one_too_many call root name s has many =
    inr (missed_so call root name s has, many, has.counted ∙ ap (λ n. so_many_more (n + length s.missed) call.reads) (sym (size_of (last_of call root name s has) s.files)))

misses_same : (missed others : List (List ℕ)) (m m' m'' : ℕ) → others ≡ missed → m'' ≡ m' → RisesBy (length missed) m m' → RisesBy (length others) m m''
misses_same missed others m m' m'' same calm rises = subst (λ (xs : List (List ℕ)). RisesBy (length xs) m m'') (sym same) (subst (λ (n : ℕ). RisesBy (length missed) m n) (sym calm) rises)

-- a name is refused
pub refused : (content : Content) (f f' f'' m m' m'' r r' r'' : ℕ) (root name : List ℕ) (files : List ReadFile) (missed : List (List ℕ)) (i : Include) (rest : List Include)
    → (has : HasRead (source_call content f f' m m' r r') root name (state files missed (i ∷ rest))) (path : List ℕ) → IsNextPlace root has.held.main files missed i path → is_read files path ≡ false → is_among missed path ≡ false
    → length missed ≤ PLACE_LIMIT → (refusal : LoadRefusal) → IsOneCause (source_call content f' f'' m' m'' r' r'') path files missed refusal → IsReadCause (source_call content f f'' m m'' r r'') root name refusal
refused content f f' f'' m m' m'' r r' r'' root name files missed i rest has path place unread unmissed few_missed (ReadFault file) (same, counted, rises, calm) =
    let s = stops content f f' f'' m m' m'' r r' r'' root name files missed i rest has path place unread unmissed counted in
    let P : List ℕ → Type 0 = λ p. IsReadCause (source_call content f f'' m m'' r r'') root name (ReadFault p) in
    let Q : ℕ → Type 0 = λ k. Rises k f'' in
    subst P (sym same) (s.0, subst Q has.unfailed rises, misses_same missed s.0.missed m m' m'' s.1 calm has.misses)
refused content f f' f'' m m' m'' r r' r'' root name files missed i rest has path place unread unmissed few_missed (TooLong file len) (same, counted, long, least, unfailed, calm) =
    let s = stops content f f' f'' m m' m'' r r' r'' root name files missed i rest has path place unread unmissed counted in
    let P : List ℕ → Type 0 = λ p. IsReadCause (source_call content f f'' m m'' r r'') root name (TooLong p len) in
    subst P (sym same) (s.0, long, least, unfailed ∙ has.unfailed, misses_same missed s.0.missed m m' m'' s.1 calm has.misses)
refused content f f' f'' m m' m'' r r' r'' root name files missed i rest has path place unread unmissed few_missed (Script file fault) (same, counted, broken, unfailed, calm) =
    let s = stops content f f' f'' m m' m'' r r' r'' root name files missed i rest has path place unread unmissed counted in
    let P : List ℕ → Type 0 = λ p. IsReadCause (source_call content f f'' m m'' r r'') root name (Script p fault) in
    subst P (sym same) (s.0, broken, unfailed ∙ has.unfailed, misses_same missed s.0.missed m m' m'' s.1 calm has.misses)
refused content f f' f'' m m' m'' r r' r'' root name files missed i rest has path place unread unmissed few_missed (TooMany count) (says, counted, unfailed, inl (many, told, calm)) =
    let s = stops content f f' f'' m m' m'' r r' r'' root name files missed i rest has path place unread unmissed counted in
    let few = has.few in
    let size = s.2 in
    (says, inl (path, s.0, omega (arith, size, few, many), told, misses_same missed s.0.missed m m' m'' s.1 calm has.misses), unfailed ∙ has.unfailed)
refused content f f' f'' m m' m'' r r' r'' root name files missed i rest has path place unread unmissed few_missed (TooMany count) (says, counted, unfailed, inr (many, told, rises)) =
    let more = miss_more content f f' f'' m m' m'' r r' r'' root name files missed i rest has path place unread unmissed told counted unfailed rises in
    let size = length-append missed (path ∷ []) in
    (says, one_too_many (source_call content f f'' m m'' r r'') root name (state files (missed ++ path ∷ []) (i ∷ rest)) more (omega (arith, size, few_missed, many)), unfailed ∙ has.unfailed)
refused content f f' f'' m m' m'' r r' r'' root name files missed i rest has path place unread unmissed few_missed Memory (unfailed, inl calm) = (
  record {
    files = found_files (last_of (source_call content f f' m m' r r') root name (state files missed (i ∷ rest)) has) files;
    missed = missed;
    paths = found_paths (last_of (source_call content f f' m m' r r') root name (state files missed (i ∷ rest)) has) (i ∷ rest);
    reading = reading_of (source_call content f f' m m' r r') root name (state files missed (i ∷ rest)) has;
    misses = misses_same missed missed m m' m'' refl calm has.misses;
  },
  unfailed ∙ has.unfailed,
)
refused content f f' f'' m m' m'' r r' r'' root name files missed i rest has path place unread unmissed few_missed Memory (unfailed, inr (told, rises, counted)) =
    no_memory (source_call content f f'' m m'' r r'') root name (state files (missed ++ path ∷ []) (i ∷ rest)) (miss_more content f f' f'' m m' m'' r r' r'' root name files missed i rest has path place unread unmissed told counted unfailed rises)
refused content f f' f'' m m' m'' r r' r'' root name files missed i rest has path place unread unmissed few_missed (Missing file) none = absurd none
refused content f f' f'' m m' m'' r r' r'' root name files missed i rest has path place unread unmissed few_missed (Outside file) none = absurd none
refused content f f' f'' m m' m'' r r' r'' root name files missed i rest has path place unread unmissed few_missed (IncludeCycle file) none = absurd none
refused content f f' f'' m m' m'' r r' r'' root name files missed i rest has path place unread unmissed few_missed (DoubleFunction file) none = absurd none
refused content f f' f'' m m' m'' r r' r'' root name files missed i rest has path place unread unmissed few_missed (UnknownFunction file) none = absurd none
refused content f f' f'' m m' m'' r r' r'' root name files missed i rest has path place unread unmissed few_missed (Arity file) none = absurd none

-- before the file of the program is asked for
pub nothing_read : (content : Content) (name : List ℕ) → IsReading content name [] [] (normal name ∷ [])
nothing_read content name = record {
  held = record { main = normal name; bytes = λ path. told_of (content path) };
  main = refl;
  agrees = λ path. allows_it (content path);
  reached = begun;
  answered = λ path e. absurd (cc);
  not_there = λ path c. absurd (let h = c.1 in omega arith);
  once = λ i j x e f. absurd (cc);
}

pub no_memory_first : (content : Content) (f m r r' : ℕ) (root name : List ℕ) → IsReadCause (source_call content f f m m r r') root name Memory
unfolding RisesBy
no_memory_first content f m r r' root name = (record { files = []; missed = []; paths = normal name ∷ []; reading = nothing_read content name; misses = refl }, refl)

stops_first : (content : Content) (f f' m m' r r' : ℕ) (name path : List ℕ) → path ≡ normal name → r' ≡ one_more r → (s : StopsAt (source_call content f f' m m' r r') name path) × (s.missed ≡ []) × (s.files ≡ [])
unfolding so_many_more
stops_first content f f' m m' r r' name path is counted = (
  record {
    files = [];
    missed = [];
    next = normal name;
    paths = [];
    reading = nothing_read content name;
    place = inl is;
    unread = refl;
    unmissed = λ c. (let h = c.1 in omega arith);
    counted = counted;
  },
  refl,
  refl,
)

-- the file of the program is missed
abbrev without_main : Content → List ℕ → Held
without_main content name = record { main = normal name; bytes = λ path. if bytes_eq (normal name) path then None else told_of (content path) }

main_gone : (content : Content) (name : List ℕ) → (without_main content name).bytes (normal name) ≡ None
main_gone content name = ap (λ (b : Bool). if b then None else told_of (content (normal name))) (own_name (normal name))

agrees_without : (content : Content) (name : List ℕ) → Tells (content (normal name)) None → (path : List ℕ) → Allows (content path) ((without_main content name).bytes path)
agrees_without content name told path = by (bytes_eq (normal name) path) refl
  where
    by : (b : Bool) → bytes_eq (normal name) path ≡ b → Allows (content path) (if b then None else told_of (content path))
    by true e = subst (λ (x : List ℕ). Allows (content x) None) (same_name (normal name) path e) (tells_allow (content (normal name)) None told)
    by false e = allows_it (content path)

only_name : (name path : List ℕ) → Contains (name ∷ []) path → name ≡ path
only_name name path (zero, lt, is) = is
only_name name path (suc k, lt, is) = absurd (omega (arith, lt))

only_place : (name : List ℕ) (i : ℕ) (x : List ℕ) → slice_get (name ∷ []) i ≡ Some x → i ≡ 0
only_place name zero x e = refl
only_place name (suc i) x e = absurd (cc)

missed_first : (content : Content) (name : List ℕ) → Tells (content (normal name)) None → IsReading content name [] (normal name ∷ []) (normal name ∷ [])
missed_first content name told = record {
  held = without_main content name;
  main = refl;
  agrees = agrees_without content name told;
  reached = begun;
  answered = λ path e. absurd (cc);
  not_there = λ path c. subst (λ (x : List ℕ). Tells (content x) None × ((without_main content name).bytes x ≡ None) × Asks (without_main content name) (normal name) x) (only_name (normal name) path c)
      (told, main_gone content name, to_read (normal name) itself);
  once = λ i j x e f. only_place (normal name) i x e ∙ sym (only_place (normal name) j x f);
}

-- the file of the program is refused
pub refused_first : (content : Content) (f f' m m' r r' : ℕ) (root name path : List ℕ) → path ≡ normal name → (refusal : LoadRefusal) → IsOneCause (source_call content f f' m m' r r') path [] [] refusal
    → IsReadCause (source_call content f f' m m' r r') root name refusal
unfolding RisesBy
refused_first content f f' m m' r r' root name path is (ReadFault file) (same, counted, rises, calm) =
    let s = stops_first content f f' m m' r r' name path is counted in
    subst (λ (p : List ℕ). IsReadCause (source_call content f f' m m' r r') root name (ReadFault p)) (sym same) (s.0, rises, misses_same [] s.0.missed m m m' s.1 calm refl)
refused_first content f f' m m' r r' root name path is (TooLong file len) (same, counted, long, least, unfailed, calm) =
    let s = stops_first content f f' m m' r r' name path is counted in
    subst (λ (p : List ℕ). IsReadCause (source_call content f f' m m' r r') root name (TooLong p len)) (sym same) (s.0, long, least, unfailed, misses_same [] s.0.missed m m m' s.1 calm refl)
refused_first content f f' m m' r r' root name path is (Script file fault) (same, counted, broken, unfailed, calm) =
    let s = stops_first content f f' m m' r r' name path is counted in
    subst (λ (p : List ℕ). IsReadCause (source_call content f f' m m' r r') root name (Script p fault)) (sym same) (s.0, broken, unfailed, misses_same [] s.0.missed m m m' s.1 calm refl)
refused_first content f f' m m' r r' root name path is (TooMany count) (says, counted, unfailed, inl (many, told, calm)) = absurd (omega (arith, many))
refused_first content f f' m m' r r' root name path is (TooMany count) (says, counted, unfailed, inr (many, told, rises)) = absurd (omega (arith, many))
refused_first content f f' m m' r r' root name path is Memory (unfailed, inl calm) =
    (record { files = []; missed = []; paths = normal name ∷ []; reading = nothing_read content name; misses = calm }, unfailed)
refused_first content f f' m m' r r' root name path is Memory (unfailed, inr (told, rises, counted)) = (
  record {
    files = [];
    missed = normal name ∷ [];
    paths = normal name ∷ [];
    reading = missed_first content name (subst (λ (x : List ℕ). Tells (content x) None) is told);
    misses = (m, refl, rises);
  },
  unfailed,
)
refused_first content f f' m m' r r' root name path is (Missing file) none = absurd none
refused_first content f f' m m' r r' root name path is (Outside file) none = absurd none
refused_first content f f' m m' r r' root name path is (IncludeCycle file) none = absurd none
refused_first content f f' m m' r r' root name path is (DoubleFunction file) none = absurd none
refused_first content f f' m m' r r' root name path is (UnknownFunction file) none = absurd none
refused_first content f f' m m' r r' root name path is (Arity file) none = absurd none

-- or missing, or is missed while no memory is left
pub missing_first : (content : Content) (f f' m m' r r' : ℕ) (root name path : List ℕ) → path ≡ normal name → AddsMissed (source_call content f f' m m' r r') path [] (path ∷ []) → IsReadCause (source_call content f f' m m' r r') root name (Missing name)
missing_first content f f' m m' r r' root name path is a =
    (inl (refl, subst (λ (x : List ℕ). Tells (content x) None) is a.told, a.counted, a.rises), a.unfailed)

pub missed_memory : (content : Content) (f f' m m' r r' : ℕ) (root name path : List ℕ) → path ≡ normal name → AddsMissed (source_call content f f' m m' r r') path [] (path ∷ []) → IsReadCause (source_call content f f' m m' r r') root name Memory
missed_memory content f f' m m' r r' root name path is a = refused_first content f f' m m' r r' root name path is Memory (a.unfailed, inr (a.told, a.rises, a.counted))
