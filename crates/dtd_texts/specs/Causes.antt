-- What a reading comes to on its way, and why a text is not read.
use Rattle.std.specs.Prelude.{◌≡◌, ◌≢◌, ℕ, true, false, List, [], ◌∷◌, drop, Some, None}
use Rattle.dtd_texts.specs.Places.{between, external}
use Rattle.io_edge.specs.Told.{Content}
use Rattle.dtd_texts.specs.Reading.{State, Replacement, Stands, start, Reads, move, on, opens, omits, stuck, is_among, source_of, enter, leave}

-- In reading the text from this state, while these entities are open, one comes to a state in which other entities are
-- open and some of the text of the last one is left.
pub data Meets (content : Content) : List (List ℕ) → State → List ℕ → List (List ℕ) → State → List ℕ → Type 0 where
  here : {outer : List (List ℕ)} {s : State} {bytes : List ℕ} → Meets content outer s bytes outer s bytes
  later : {outer outer' : List (List ℕ)} {s next s' : State} {b n : ℕ} {bytes bytes' : List ℕ} →
      move s (b ∷ bytes) ≡ on n next → Meets content outer next (drop n (b ∷ bytes)) outer' s' bytes'
      → Meets content outer s (b ∷ bytes) outer' s' bytes'
  within : {outer outer' : List (List ℕ)} {s s' : State} {b n : ℕ} {bytes bytes' name : List ℕ} (r : Replacement) →
      move s (b ∷ bytes) ≡ opens name n → is_among outer name ≡ false → Stands content s.file (source_of s.parameters name) r →
      Meets content (name ∷ outer) (enter s r.over r.file) r.text outer' s' bytes' → Meets content outer s (b ∷ bytes) outer' s' bytes'
  behind : {outer outer' : List (List ℕ)} {s inner s' : State} {b n : ℕ} {bytes bytes' name : List ℕ} (r : Replacement) →
      move s (b ∷ bytes) ≡ opens name n → is_among outer name ≡ false → Stands content s.file (source_of s.parameters name) r →
      Reads content (name ∷ outer) (enter s r.over r.file) r.text inner → Meets content outer (leave inner s.file) (drop n (b ∷ bytes)) outer' s' bytes' →
      Meets content outer s (b ∷ bytes) outer' s' bytes'

-- what stands there is none of what may, or the text ends within a declaration; the place is where that begins, in the
-- replaced text
pub data Breaks (content : Content) (file : List ℕ) (at : ℕ) : Type 0 where
  unlawful : (outer : List (List ℕ)) (s : State) (b : ℕ) (bytes : List ℕ) → Meets content [] start file outer s (b ∷ bytes) →
      move s (b ∷ bytes) ≡ stuck → s.begun ≡ at → Breaks content file at
  unended : (s : State) → Reads content [] start file s → s.place ≢ between → s.begun ≡ at → Breaks content file at

-- what begins there is left out
pub record Omits (content : Content) (file : List ℕ) (at : ℕ) : Type 0 where
  pub outer : List (List ℕ)
  pub s : State
  pub b : ℕ
  pub bytes : List ℕ
  pub meets : Meets content [] start file outer s (b ∷ bytes)
  pub is : move s (b ∷ bytes) ≡ omits
  pub there : s.begun ≡ at

-- a reference to this entity is come to, in this state and while these entities are open
pub record Refers (content : Content) (file name : List ℕ) (outer : List (List ℕ)) (s : State) : Type 0 where
  pub b : ℕ
  pub n : ℕ
  pub bytes : List ℕ
  pub meets : Meets content [] start file outer s (b ∷ bytes)
  pub is : move s (b ∷ bytes) ≡ opens name n

-- a reference to an entity that is open, or that is not declared so far
pub data Misses (content : Content) (file name : List ℕ) : Type 0 where
  circular : (outer : List (List ℕ)) (s : State) → Refers content file name outer s → is_among outer name ≡ true → Misses content file name
  undeclared : (outer : List (List ℕ)) (s : State) → Refers content file name outer s → source_of s.parameters name ≡ None
      → Misses content file name

-- a reference to an entity whose text stands outside under this name
pub data Asks (content : Content) (file system : List ℕ) : Type 0 where
  asks : (name : List ℕ) (outer : List (List ℕ)) (s : State) → Refers content file name outer s → is_among outer name ≡ false →
      source_of s.parameters name ≡ Some (external system) → Asks content file system

-- the reading comes to this state
pub record Comes (content : Content) (file : List ℕ) (s : State) : Type 0 where
  pub outer : List (List ℕ)
  pub rest : List ℕ
  pub meets : Meets content [] start file outer s rest
