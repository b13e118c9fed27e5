-- Reading in a loop, with a stack of what is left of each open entity: whatever the rest leads to, so does the file.
use Rattle.std.specs.Prelude.{ℕ, ◌⊎◌, List, [], ◌∷◌, map}
use Rattle.io_edge.specs.Told.{Content}
use Rattle.dtd_texts.specs.Reading.{State, start, leave, Reads}
use Rattle.dtd_texts.specs.Causes.{Meets}

-- an entity that is open, and the text behind the reference that opened it, with the file in which that stands
pub record Frame : Type 0 where
  pub name : List ℕ
  pub rest : List ℕ
  pub file : List ℕ

-- the names of the entities that are open, the last one first
abbrev pub names : List Frame → List (List ℕ)
names frames = map (λ (f : Frame). f.name) frames

-- the state, what is left of the text, and the open entities, the last one first
pub record Position : Type 0 where
  pub state : State
  pub text : List ℕ
  pub frames : List Frame

-- before the text
abbrev pub first : List ℕ → Position
first file = record { state = start; text = file; frames = [] }

-- what is left of an entity's text is read to its end, and what stands behind the entity, in this file, is so from there on
pub record Through (content : Content) (outer : List (List ℕ)) (s : State) (text here : List ℕ) (Rest : State → Type 0) : Type 0 where
  pub inner : State
  pub reads : Reads content outer s text inner
  pub rest : Rest (leave inner here)

-- the text that is left of each entity leads to this state
abbrev pub RestReads : Content → List Frame → State → List ℕ → State → Type 0
RestReads content [] s text last = Reads content [] s text last
RestReads content (f ∷ frames) s text last = Through content (names (f ∷ frames)) s text f.file (λ next. RestReads content frames next f.rest last)

-- in reading what is left of each entity one comes to this
abbrev pub RestMeets : Content → List Frame → State → List ℕ → List (List ℕ) → State → List ℕ → Type 0
RestMeets content [] s text outer' s' text' = Meets content [] s text outer' s' text'
RestMeets content (f ∷ frames) s text outer' s' text' =
    Meets content (names (f ∷ frames)) s text outer' s' text'
    ⊎ Through content (names (f ∷ frames)) s text f.file (λ next. RestMeets content frames next f.rest outer' s' text')

-- where what is left leads to a state, or one comes to one in reading it, so it is for the whole file
pub record SoFar (content : Content) (file : List ℕ) (p : Position) : Type 0 where
  pub reads : (last : State) → RestReads content p.frames p.state p.text last → Reads content [] start file last
  pub meets : (outer' : List (List ℕ)) (s' : State) (text' : List ℕ) → RestMeets content p.frames p.state p.text outer' s' text'
      → Meets content [] start file outer' s' text'
