-- The reading as a computation of so many moves at most, so that examples are found by computing.
use Rattle.std.proofs.Common.{◌≡◌, ℕ, ◌+◌, ◌-◌, ◌≤◌, cond, length, zero, suc, Bool, true, false, List, [], ◌∷◌, drop, refl, subst, arith, Option, Some, None}
use Rattle.std.proofs.lemmas.List.{length-drop}
use Rattle.io_edge.specs.Told.{Content, known}
use Rattle.dtd_model.specs.Table.{Rule}
use Rattle.dtd_texts.specs.Heads.{begins}
use Rattle.dtd_texts.specs.Tokens.{declaration_length, behind_mark, behind_declaration}
use Rattle.dtd_texts.specs.Places.{Place, between, Source, internal, external}
use Rattle.dtd_texts.specs.Reading.{State, Holds, Replacement, Stands, Written, Move, on, opens, omits, stuck, move, is_among, source_of, enter, leave, Reads, at_end, takes, replaces}
use Rattle.dtd_texts.specs.Causes.{Meets, here, later, within, behind}
use Rattle.dtd_texts.specs.Went.{Went, leads, refused, left_out, too_deep, undeclared}
use Rattle.dtd_texts.specs.Tables.{Said, said, element_names, rules_of}

-- the files that there are
abbrev pub Files : Type 0
Files = List ℕ → Option (List ℕ)

abbrev pub content_of : Files → Content
content_of files name = known (files name)

-- the text of a file, and how many bytes stand before it
abbrev text_in : List ℕ → List ℕ → Replacement
text_in name whole = record { text = behind_declaration whole; over = length whole - length (behind_declaration whole); file = name }

abbrev text_of : List ℕ → Option (List ℕ) → Option Replacement
text_of name None = None
text_of name (Some whole) = Some (text_in name whole)

abbrev replacement : Files → List ℕ → Option Source → Option Replacement
replacement files file None = None
replacement files file (Some (internal value)) = Some (record { text = value; over = 0; file = file })
replacement files file (Some (external name)) = text_of name (files name)

-- what stands behind a byte order mark, and behind a text declaration, is no longer
no_longer : (whole : List ℕ) → length (behind_declaration whole) ≤ length whole
no_longer whole = behind (begins (0xEF ∷ 0xBB ∷ 0xBF ∷ []) whole) where
  cut : (n : ℕ) (bytes : List ℕ) → length bytes ≤ length whole → length (drop n bytes) ≤ length whole
  cut n bytes e = let l = length-drop n bytes in omega (arith, e, l)

  behind : (b : Bool) → length (drop (declaration_length (cond b (drop 3 whole) whole)) (cond b (drop 3 whole) whole)) ≤ length whole
  behind true = cut _ (drop 3 whole) (cut 3 whole (omega arith))
  behind false = cut _ whole (omega arith)

counted : (a b : ℕ) → b ≤ a → a ≡ a - b + b
counted a b e = omega (arith, e)

-- where something is found, it stands for the entity
abbrev StandsBy : Content → List ℕ → Option Source → Option Replacement → Type 0
StandsBy content around o None = Unit {0}
StandsBy content around o (Some by) = Stands content around o by

stands_text : (files : Files) (around name : List ℕ) (o : Option (List ℕ)) → files name ≡ o → StandsBy (content_of files) around (Some (external name)) (text_of name o)
stands_text files around name None e = tt
stands_text files around name (Some whole) e =
    (record { whole = whole; told = e; is = refl }, counted (length whole) (length (behind_declaration whole)) (no_longer whole), refl)

stands_found : (files : Files) (around : List ℕ) (o : Option Source) → StandsBy (content_of files) around o (replacement files around o)
stands_found files around None = tt
stands_found files around (Some (internal value)) = (refl, refl, refl)
stands_found files around (Some (external name)) = stands_text files around name (files name) refl

stands : (files : Files) (around : List ℕ) (o : Option Source) (by : Replacement) → replacement files around o ≡ Some by → Stands (content_of files) around o by
stands files around o by e = subst (StandsBy (content_of files) around o) e (stands_found files around o)

pub data Run : Type 0 where
  ended : State → Run
  -- what is open there, the state, and what is left of the text
  stopped : List (List ℕ) → State → List ℕ → Run
  tired : Run

-- how the reading goes on, as a parameter
abbrev Go : Type 0
Go = List (List ℕ) → State → List ℕ → Run

-- behind the end of an entity, in this file
abbrev within_run : Go → List (List ℕ) → List ℕ → List ℕ → Run → Run
within_run go outer file rest (ended inner) = go outer (leave inner file) rest
within_run go outer file rest (stopped outer' s text) = stopped outer' s text
within_run go outer file rest tired = tired

abbrev opens_run : Go → List (List ℕ) → State → List ℕ → List ℕ → List ℕ → Bool → Option Replacement → Run
opens_run go outer s bytes rest name true o = stopped outer s bytes
opens_run go outer s bytes rest name false None = stopped outer s bytes
opens_run go outer s bytes rest name false (Some by) = within_run go outer s.file rest (go (name ∷ outer) (enter s by.over by.file) by.text)

abbrev move_run : Files → Go → List (List ℕ) → State → List ℕ → Move → Run
move_run files go outer s bytes (on n next) = go outer next (drop n bytes)
move_run files go outer s bytes (opens name n) = opens_run go outer s bytes (drop n bytes) name (is_among outer name) (replacement files s.file (source_of s.parameters name))
move_run files go outer s bytes omits = stopped outer s bytes
move_run files go outer s bytes stuck = stopped outer s bytes

abbrev pub run : Files → ℕ → Go
run files zero outer s bytes = tired
run files (suc k) outer s [] = ended s
run files (suc k) outer s (b ∷ bytes) = move_run files (run files k) outer s (b ∷ bytes) (move s (b ∷ bytes))

-- What a computation shows.
abbrev pub Shows : Content → List (List ℕ) → State → List ℕ → Run → Type 0
Shows content outer s bytes (ended last) = Reads content outer s bytes last
Shows content outer s bytes (stopped outer' s' bytes') = Meets content outer s bytes outer' s' bytes'
Shows content outer s bytes tired = Unit {0}

abbrev Goes : Content → Go → Type 0
Goes content go = (outer : List (List ℕ)) (s : State) (bytes : List ℕ) → Shows content outer s bytes (go outer s bytes)

behind_shown : (content : Content) (outer : List (List ℕ)) (s inner : State) (b n : ℕ) (bytes name : List ℕ) (by : Replacement) (r : Run) → move s (b ∷ bytes) ≡ opens name n → is_among outer name ≡ false
    → Stands content s.file (source_of s.parameters name) by → Reads content (name ∷ outer) (enter s by.over by.file) by.text inner → Shows content outer (leave inner s.file) (drop n (b ∷ bytes)) r
    → Shows content outer s (b ∷ bytes) r
behind_shown content outer s inner b n bytes name by (ended last) e shut is in_it h = replaces by e shut is in_it h
behind_shown content outer s inner b n bytes name by (stopped outer' s' bytes') e shut is in_it h = behind by e shut is in_it h
behind_shown content outer s inner b n bytes name by tired e shut is in_it h = tt

within_shown : (content : Content) (go : Go) → Goes content go → (outer : List (List ℕ)) (s : State) (b n : ℕ) (bytes name : List ℕ) (by : Replacement) (r : Run) → move s (b ∷ bytes) ≡ opens name n → is_among outer name ≡ false
    → Stands content s.file (source_of s.parameters name) by → Shows content (name ∷ outer) (enter s by.over by.file) by.text r → Shows content outer s (b ∷ bytes) (within_run go outer s.file (drop n (b ∷ bytes)) r)
within_shown content go goes outer s b n bytes name by (ended inner) e shut is h = behind_shown content outer s inner b n bytes name by _ e shut is h (goes outer (leave inner s.file) (drop n (b ∷ bytes)))
within_shown content go goes outer s b n bytes name by (stopped outer' s' bytes') e shut is h = within by e shut is h
within_shown content go goes outer s b n bytes name by tired e shut is h = tt

opens_shown : (files : Files) (go : Go) → Goes (content_of files) go → (outer : List (List ℕ)) (s : State) (b n : ℕ) (bytes name : List ℕ) (x : Bool) (o : Option Replacement) → move s (b ∷ bytes) ≡ opens name n
    → is_among outer name ≡ x → replacement files s.file (source_of s.parameters name) ≡ o → Shows (content_of files) outer s (b ∷ bytes) (opens_run go outer s (b ∷ bytes) (drop n (b ∷ bytes)) name x o)
opens_shown files go goes outer s b n bytes name true o e shut is = here
opens_shown files go goes outer s b n bytes name false None e shut is = here
opens_shown files go goes outer s b n bytes name false (Some by) e shut is =
    within_shown (content_of files) go goes outer s b n bytes name by _ e shut (stands files s.file (source_of s.parameters name) by is) (goes (name ∷ outer) (enter s by.over by.file) by.text)

on_shown : (content : Content) (outer : List (List ℕ)) (s next : State) (b n : ℕ) (bytes : List ℕ) (r : Run) → move s (b ∷ bytes) ≡ on n next → Shows content outer next (drop n (b ∷ bytes)) r → Shows content outer s (b ∷ bytes) r
on_shown content outer s next b n bytes (ended last) e h = takes e h
on_shown content outer s next b n bytes (stopped outer' s' bytes') e h = later e h
on_shown content outer s next b n bytes tired e h = tt

move_shown : (files : Files) (go : Go) → Goes (content_of files) go → (outer : List (List ℕ)) (s : State) (b : ℕ) (bytes : List ℕ) (m : Move) → move s (b ∷ bytes) ≡ m → Shows (content_of files) outer s (b ∷ bytes) (move_run files go outer s (b ∷ bytes) m)
move_shown files go goes outer s b bytes (on n next) e = on_shown (content_of files) outer s next b n bytes _ e (goes outer next (drop n (b ∷ bytes)))
move_shown files go goes outer s b bytes (opens name n) e = opens_shown files go goes outer s b n bytes name (is_among outer name) (replacement files s.file (source_of s.parameters name)) e refl refl
move_shown files go goes outer s b bytes omits e = here
move_shown files go goes outer s b bytes stuck e = here

pub shown : (files : Files) (k : ℕ) (outer : List (List ℕ)) (s : State) (bytes : List ℕ) → Shows (content_of files) outer s bytes (run files k outer s bytes)
shown files zero outer s bytes = tt
shown files (suc k) outer s [] = at_end
shown files (suc k) outer s (b ∷ bytes) = move_shown files (run files k) (shown files k) outer s b bytes (move s (b ∷ bytes)) refl

-- What a text is seen to be, in examples: the rules and the general entities, or where and by what it is stopped.

pub data Seen : Type 0 where
  rules : List Rule → List (List ℕ) → Seen
  -- behind a text that is read, a declaration that is none, and one that is left out, too deep, or names this element
  none : ℕ → Seen
  omitted : ℕ → Seen
  deep : Seen
  names : List ℕ → Seen
  -- the text ends in this place; the reading stops, with what is open, what is left, and the place of the declaration
  unended : Place → Seen
  stops : List (List ℕ) → List ℕ → ℕ → Seen
  more : Seen

abbrev seen_one : ℕ → Went Said → (Said → Seen) → Seen
seen_one at (leads x) f = f x
seen_one at refused f = none at
seen_one at left_out f = omitted at
seen_one at too_deep f = deep
seen_one at (undeclared name) f = names name

-- the declarations one by one, and then what is done with all that they say
abbrev seen_all : List (List ℕ) → List Written → (List Said → Seen) → Seen
seen_all elements [] f = f []
seen_all elements (w ∷ written) f = seen_one w.at (said elements w.text) (λ x. seen_all elements written (λ xs. f (x ∷ xs)))

abbrev seen_at : Place → State → Seen
seen_at between s = seen_all (element_names s.written) s.written (λ xs. rules (rules_of xs xs) s.generals)
seen_at p s = unended p

abbrev pub seen : Run → Seen
seen (ended s) = seen_at s.place s
seen (stopped outer s bytes) = stops outer bytes s.begun
seen tired = more
