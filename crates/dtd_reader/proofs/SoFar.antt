-- Reading in a loop with a stack: whatever the rest leads to, so does the text.
use Rattle.std.proofs.Common.{◌≡◌, ◌∙◌, ℕ, ◌+◌, ◌<◌, true, false, ◌⊎◌, inl, inr, List, [], ◌∷◌, length, drop, sym, ap, subst, arith, Some, None}
use Rattle.std.proofs.lemmas.List.{drop-drop}
use Rattle.dtd_texts.specs.Places.{external}
use Rattle.io_edge.specs.Told.{Content}
use Rattle.dtd_texts.specs.Reading.{State, Replacement, Stands, start, on, opens, omits, stuck, move, is_among, source_of, enter, leave, Reads, at_end, takes, replaces}
use Rattle.dtd_texts.specs.Causes.{Meets, here, later, within, behind, Breaks, unlawful, Omits, Refers, Misses, circular, undeclared, Asks, asks}
use Rattle.dtd_reader.specs.SoFar.{Frame, names, Position, first, RestMeets, SoFar}

pub none_so_far : (content : Content) (file : List ℕ) → SoFar content file (first file)
none_so_far content file = record { reads = λ last r. r; meets = λ outer' s' text' m. m }

abbrev pub at : State → List ℕ → List Frame → Position
at s text frames = record { state = s; text = text; frames = frames }

-- the place itself has been come to
pub here_met : (content : Content) (file : List ℕ) (s : State) (text : List ℕ) (frames : List Frame) → SoFar content file (at s text frames) → Meets content [] start file (names frames) s text
here_met content file s text [] so_far = so_far.meets [] s text here
here_met content file s text (f ∷ frames) so_far = so_far.meets (names (f ∷ frames)) s text (inl here)

-- some bytes more
took_some : (content : Content) (file : List ℕ) (s next : State) (b n : ℕ) (bytes : List ℕ) (frames : List Frame) → move s (b ∷ bytes) ≡ on n next
    → SoFar content file (at s (b ∷ bytes) frames) → SoFar content file (at next (drop n (b ∷ bytes)) frames)
took_some content file s next b n bytes [] e so_far = record {
  reads = λ last r. so_far.reads last (takes e r);
  meets = λ outer' s' text' m. so_far.meets outer' s' text' (later e m);
}
took_some content file s next b n bytes (f ∷ frames) e so_far = record {
  reads = λ last r. so_far.reads last (record { inner = r.inner; reads = takes e r.reads; rest = r.rest });
  meets = λ outer' s' text' m. so_far.meets outer' s' text' (elim m as (λ m. RestMeets content (f ∷ frames) s (b ∷ bytes) outer' s' text') [
    | inl h ↦ inl (later e h)
    | inr r ↦ inr (record { inner = r.inner; reads = takes e r.reads; rest = r.rest })
  ]);
}

pub took : (content : Content) (file : List ℕ) (s next : State) (n : ℕ) (text : List ℕ) (frames : List Frame) → 0 < length text → move s text ≡ on n next
    → SoFar content file (at s text frames) → SoFar content file (at next (drop n text) frames)
took content file s next n [] frames h e so_far = absurd (omega (arith, h))
took content file s next n (b ∷ bytes) frames h e so_far = took_some content file s next b n bytes frames e so_far

-- what is left of the text behind a reference, in the file in which that stands
abbrev pub left : State → ℕ → List ℕ → List ℕ → Frame
left s n text name = record { name = name; rest = drop n text; file = s.file }

-- in the text of an entity, with what is left behind the reference to it
abbrev pub inside : State → ℕ → List ℕ → List ℕ → List Frame → Replacement → Position
inside s n text name frames by = at (enter s by.over by.file) by.text (left s n text name ∷ frames)

-- one entity more is open
opened_some : (content : Content) (file : List ℕ) (s : State) (b n : ℕ) (bytes name : List ℕ) (by : Replacement) (frames : List Frame) → move s (b ∷ bytes) ≡ opens name n
    → is_among (names frames) name ≡ false → Stands content s.file (source_of s.parameters name) by
    → SoFar content file (at s (b ∷ bytes) frames) → SoFar content file (inside s n (b ∷ bytes) name frames by)
opened_some content file s b n bytes name by [] e shut is so_far = record {
  reads = λ last r. so_far.reads last (replaces by e shut is r.reads r.rest);
  meets = λ outer' s' text' m. so_far.meets outer' s' text' (elim m as (λ m. RestMeets content [] s (b ∷ bytes) outer' s' text') [
    | inl h ↦ within by e shut is h
    | inr r ↦ behind by e shut is r.reads r.rest
  ]);
}
opened_some content file s b n bytes name by (f ∷ frames) e shut is so_far = record {
  reads = λ last r. so_far.reads last (record { inner = r.rest.inner; reads = replaces by e shut is r.reads r.rest.reads; rest = r.rest.rest });
  meets = λ outer' s' text' m. so_far.meets outer' s' text' (elim m as (λ m. RestMeets content (f ∷ frames) s (b ∷ bytes) outer' s' text') [
    | inl h ↦ inl (within by e shut is h)
    | inr r ↦ (elim r.rest as (λ m. RestMeets content (f ∷ frames) s (b ∷ bytes) outer' s' text') [
      | inl h ↦ inl (behind by e shut is r.reads h)
      | inr q ↦ inr (record { inner = q.inner; reads = replaces by e shut is r.reads q.reads; rest = q.rest })
    ])
  ]);
}

pub opened : (content : Content) (file : List ℕ) (s : State) (n : ℕ) (text name : List ℕ) (by : Replacement) (frames : List Frame) → 0 < length text → move s text ≡ opens name n
    → is_among (names frames) name ≡ false → Stands content s.file (source_of s.parameters name) by
    → SoFar content file (at s text frames) → SoFar content file (inside s n text name frames by)
opened content file s n [] name by frames h e shut is so_far = absurd (omega (arith, h))
opened content file s n (b ∷ bytes) name by frames h e shut is so_far = opened_some content file s b n bytes name by frames e shut is so_far

-- the last entity has ended
pub closed : (content : Content) (file : List ℕ) (s : State) (text : List ℕ) (f : Frame) (frames : List Frame) → text ≡ []
    → SoFar content file (at s text (f ∷ frames)) → SoFar content file (at (leave s f.file) f.rest frames)
closed content file s [] f frames e so_far = record {
  reads = λ last r. so_far.reads last (record { inner = s; reads = at_end; rest = r });
  meets = λ outer' s' text' m. so_far.meets outer' s' text' (inr (record { inner = s; reads = at_end; rest = m }));
}
closed content file s (b ∷ bytes) f frames e so_far = absurd (cc)

-- the whole text is read
pub ended : (content : Content) (file : List ℕ) (s : State) (text : List ℕ) → text ≡ [] → SoFar content file (at s text []) → Reads content [] start file s
ended content file s [] e so_far = so_far.reads s at_end
ended content file s (b ∷ bytes) e so_far = absurd (cc)

pub broken : (content : Content) (file : List ℕ) (s : State) (text : List ℕ) (frames : List Frame) → 0 < length text → move s text ≡ stuck
    → SoFar content file (at s text frames) → (place : ℕ) → s.begun ≡ place → Breaks content file place
broken content file s [] frames h e so_far place is = absurd (omega (arith, h))
broken content file s (b ∷ bytes) frames h e so_far place is = unlawful (names frames) s b bytes (here_met content file s (b ∷ bytes) frames so_far) e is

pub omitted : (content : Content) (file : List ℕ) (s : State) (text : List ℕ) (frames : List Frame) → 0 < length text → move s text ≡ omits
    → SoFar content file (at s text frames) → (place : ℕ) → s.begun ≡ place → Omits content file place
omitted content file s [] frames h e so_far place is = absurd (omega (arith, h))
omitted content file s (b ∷ bytes) frames h e so_far place is = record { outer = names frames; s = s; b = b; bytes = bytes; meets = here_met content file s (b ∷ bytes) frames so_far; is = e; there = is }

referred : (content : Content) (file : List ℕ) (s : State) (n b : ℕ) (bytes name : List ℕ) (frames : List Frame) → move s (b ∷ bytes) ≡ opens name n → SoFar content file (at s (b ∷ bytes) frames) → Refers content file name (names frames) s
referred content file s n b bytes name frames e so_far = record { b = b; n = n; bytes = bytes; meets = here_met content file s (b ∷ bytes) frames so_far; is = e }

pub missed : (content : Content) (file : List ℕ) (s : State) (n : ℕ) (text name : List ℕ) (frames : List Frame) → 0 < length text → move s text ≡ opens name n
    → (is_among (names frames) name ≡ true) ⊎ (source_of s.parameters name ≡ None) → SoFar content file (at s text frames) → Misses content file name
missed content file s n [] name frames h e why so_far = absurd (omega (arith, h))
missed content file s n (b ∷ bytes) name frames h e (inl open_there) so_far = circular (names frames) s (referred content file s n b bytes name frames e so_far) open_there
missed content file s n (b ∷ bytes) name frames h e (inr not_there) so_far = undeclared (names frames) s (referred content file s n b bytes name frames e so_far) not_there

pub asked : (content : Content) (file : List ℕ) (s : State) (n : ℕ) (text name system : List ℕ) (frames : List Frame) → 0 < length text → move s text ≡ opens name n
    → is_among (names frames) name ≡ false → source_of s.parameters name ≡ Some (external system) → SoFar content file (at s text frames) → Asks content file system
asked content file s n [] name system frames h e shut is so_far = absurd (omega (arith, h))
asked content file s n (b ∷ bytes) name system frames h e shut is so_far = asks name (names frames) s (referred content file s n b bytes name frames e so_far) shut is

pub closed_to : (content : Content) (file : List ℕ) (s s' : State) (text rest around : List ℕ) (f : Frame) (all frames : List Frame) → text ≡ [] → all ≡ f ∷ frames → f.rest ≡ rest → f.file ≡ around → s' ≡ leave s around
    → SoFar content file (at s text all) → SoFar content file (at s' rest frames)
closed_to content file s s' text rest around f all frames e stack is stood there so_far =
    subst (λ t. SoFar content file (at t rest frames)) (sym there)
    (subst (λ r. SoFar content file (at (leave s around) r frames)) is
    (subst (λ a. SoFar content file (at (leave s a) f.rest frames)) stood
    (closed content file s text f frames e (subst (λ fs. SoFar content file (at s text fs)) stack so_far))))

-- behind a move
pub took_to : (content : Content) (file : List ℕ) (s s' : State) (n : ℕ) (text text' : List ℕ) (frames : List Frame) → 0 < length text → move s text ≡ on n s' → text' ≡ drop n text
    → SoFar content file (at s text frames) → SoFar content file (at s' text' frames)
took_to content file s s' n text text' frames h e is so_far = subst (λ t. SoFar content file (at s' t frames)) (sym is) (took content file s s' n text frames h e so_far)

pub missed_to : (content : Content) (file : List ℕ) (s : State) (n : ℕ) (text name name' : List ℕ) (frames : List Frame) → 0 < length text → move s text ≡ opens name' n → name ≡ name'
    → (is_among (names frames) name ≡ true) ⊎ (source_of s.parameters name ≡ None) → SoFar content file (at s text frames) → Misses content file name
missed_to content file s n text name name' frames h e is why so_far = missed content file s n text name frames h (subst (λ m. move s text ≡ opens m n) (sym is) e) why so_far

pub asked_to : (content : Content) (file : List ℕ) (s : State) (n : ℕ) (text name name' system : List ℕ) (frames : List Frame) → 0 < length text → move s text ≡ opens name' n → name ≡ name'
    → is_among (names frames) name ≡ false → source_of s.parameters name ≡ Some (external system) → SoFar content file (at s text frames) → Asks content file system
asked_to content file s n text name name' system frames h e is shut there so_far = asked content file s n text name system frames h (subst (λ m. move s text ≡ opens m n) (sym is) e) shut there so_far

pub opened_to : (content : Content) (file : List ℕ) (s : State) (n : ℕ) (text name name' : List ℕ) (by : Replacement) (frames : List Frame) (now : Position) → 0 < length text → move s text ≡ opens name' n → name ≡ name'
    → is_among (names frames) name ≡ false → Stands content s.file (source_of s.parameters name) by → now ≡ inside s n text name frames by
    → SoFar content file (at s text frames) → SoFar content file now
opened_to content file s n text name name' by frames now h e is shut there there_now so_far =
    subst (SoFar content file) (sym there_now) (opened content file s n text name by frames h (subst (λ m. move s text ≡ opens m n) (sym is) e) shut there so_far)

-- behind a move, which the code gives the other way round
pub took_by : (content : Content) (file : List ℕ) (s s' : State) (n a : ℕ) (text bytes : List ℕ) (frames : List Frame) → on n s' ≡ move s bytes → bytes ≡ drop a text → 0 < length bytes
    → SoFar content file (at s (drop a text) frames) → SoFar content file (at s' (drop (a + n) text) frames)
took_by content file s s' n a text bytes frames e is h so_far =
    took_to content file s s' n bytes (drop (a + n) text) frames h (sym e) (sym (drop-drop n a text) ∙ ap (drop n) (sym is)) (subst (λ b. SoFar content file (at s b frames)) (sym is) so_far)

pub broken_by : (content : Content) (file : List ℕ) (s : State) (a : ℕ) (text bytes : List ℕ) (frames : List Frame) → stuck ≡ move s bytes → bytes ≡ drop a text → 0 < length bytes
    → SoFar content file (at s (drop a text) frames) → (place : ℕ) → s.begun ≡ place → Breaks content file place
broken_by content file s a text bytes frames e is h so_far = broken content file s bytes frames h (sym e) (subst (λ b. SoFar content file (at s b frames)) (sym is) so_far)

pub omitted_by : (content : Content) (file : List ℕ) (s : State) (a : ℕ) (text bytes : List ℕ) (frames : List Frame) → omits ≡ move s bytes → bytes ≡ drop a text → 0 < length bytes
    → SoFar content file (at s (drop a text) frames) → (place : ℕ) → s.begun ≡ place → Omits content file place
omitted_by content file s a text bytes frames e is h so_far = omitted content file s bytes frames h (sym e) (subst (λ b. SoFar content file (at s b frames)) (sym is) so_far)
