-- Where it is told what the names of a text hold, it is read in one way, and whatever is met in reading it is read on.
use Rattle.std.proofs.Common.{◌≡◌, ◌∙◌, ℕ, ◌+◌, length, false, List, [], ◌∷◌, drop, refl, sym, ap, subst, arith, Option, Some, None}
use Rattle.io_edge.specs.Told.{Told, unasked, untold, known, Content, Tells}
use Rattle.dtd_texts.specs.Tokens.{behind_declaration}
use Rattle.dtd_texts.specs.Places.{Source, internal, external}
use Rattle.dtd_texts.specs.Reading.{State, Holds, Replacement, Stands, on, opens, move, is_among, source_of, enter, leave, Reads, at_end, takes, replaces}
use Rattle.dtd_texts.specs.Causes.{Meets, here, later, within, behind}
use Rattle.dtd_texts.proofs.Once.{Replaced, same_replacement, reads_at}
use Rattle.dtd_reader.specs.Certain.{IsToldOf}

told_same : (t : Told) (file : Option (List ℕ)) (x y : List ℕ) → t ≡ known file → Tells t (Some x) → Tells t (Some y) → x ≡ y
told_same unasked file x y e a b = absurd a
told_same untold file x y e a b = absurd (grind arith)
told_same (known t) file x y e a b = some_same a b
  where
    some_same : {o : Option (List ℕ)} {v w : List ℕ} → o ≡ Some v → o ≡ Some w → v ≡ w
    some_same f g = cc

whole_one : (content : Content) (name x y : List ℕ) → IsToldOf content name → (a : Holds content name x) → (b : Holds content name y) → a.whole ≡ b.whole
whole_one content name x y told a b = told_same (content name) told.0 a.whole b.whole told.1 a.told b.told

pub holds_one : (content : Content) (name x y : List ℕ) → IsToldOf content name → Holds content name x → Holds content name y → x ≡ y
holds_one content name x y told a b = sym a.is ∙ ap behind_declaration (whole_one content name x y told a b) ∙ b.is

stands_one : (content : Content) (around : List ℕ) (o : Option Source) → ((system : List ℕ) → o ≡ Some (external system) → IsToldOf content system) → (x y : Replacement)
    → Stands content around o x → Stands content around o y → x ≡ y
stands_one content around None told x y a b = absurd a
stands_one content around (Some (internal value)) told x y a b = same_replacement x y (sym a.0 ∙ b.0) (a.1 ∙ sym b.1) (a.2 ∙ sym b.2)
stands_one content around (Some (external name)) told x y a b =
    let text : x.text ≡ y.text = holds_one content name x.text y.text (told name refl) a.0 b.0 in
    let whole : length a.0.whole ≡ length b.0.whole = ap length (whole_one content name x.text y.text (told name refl) a.0 b.0) in
    let same : length x.text ≡ length y.text = ap length text in
    let p = a.1 in let q = b.1 in
    same_replacement x y text (omega (arith, same, whole, p, q)) (a.2 ∙ sym b.2)

-- in reading the text from here one meets a reference to an entity whose text stands outside under this name
pub data AsksFrom (content : Content) (outer : List (List ℕ)) (s : State) (text system : List ℕ) : Type 0 where
  asks_there : (outer' : List (List ℕ)) (s' : State) (b n : ℕ) (bytes name : List ℕ) → Meets content outer s text outer' s' (b ∷ bytes) →
      move s' (b ∷ bytes) ≡ opens name n → is_among outer' name ≡ false → source_of s'.parameters name ≡ Some (external system) → AsksFrom content outer s text system

-- each of these names is told of
pub record TellsFrom (content : Content) (outer : List (List ℕ)) (s : State) (text : List ℕ) : Type 0 where
  pub told : (system : List ℕ) → AsksFrom content outer s text system → IsToldOf content system

asks_later : {content : Content} {outer : List (List ℕ)} {s next : State} {b n : ℕ} {bytes system : List ℕ} → move s (b ∷ bytes) ≡ on n next →
    AsksFrom content outer next (drop n (b ∷ bytes)) system → AsksFrom content outer s (b ∷ bytes) system
asks_later e (asks_there outer' s' c m rest name meets is shut outside) = asks_there outer' s' c m rest name (later e meets) is shut outside

asks_within : {content : Content} {outer : List (List ℕ)} {s : State} {b n : ℕ} {bytes name system : List ℕ} (by : Replacement) → move s (b ∷ bytes) ≡ opens name n →
    is_among outer name ≡ false → Stands content s.file (source_of s.parameters name) by →
    AsksFrom content (name ∷ outer) (enter s by.over by.file) by.text system → AsksFrom content outer s (b ∷ bytes) system
asks_within by e free stands (asks_there outer' s' c m rest other meets is shut outside) =
    asks_there outer' s' c m rest other (within by e free stands meets) is shut outside

asks_behind : {content : Content} {outer : List (List ℕ)} {s inner : State} {b n : ℕ} {bytes name system : List ℕ} (by : Replacement) → move s (b ∷ bytes) ≡ opens name n →
    is_among outer name ≡ false → Stands content s.file (source_of s.parameters name) by →
    Reads content (name ∷ outer) (enter s by.over by.file) by.text inner → AsksFrom content outer (leave inner s.file) (drop n (b ∷ bytes)) system → AsksFrom content outer s (b ∷ bytes) system
asks_behind by e free stands reads (asks_there outer' s' c m rest other meets is shut outside) =
    asks_there outer' s' c m rest other (behind by e free stands reads meets) is shut outside

told_later : {content : Content} {outer : List (List ℕ)} {s next : State} {b n : ℕ} {bytes : List ℕ} → move s (b ∷ bytes) ≡ on n next →
    TellsFrom content outer s (b ∷ bytes) → TellsFrom content outer next (drop n (b ∷ bytes))
told_later e tells = record { told = λ system asks. tells.told system (asks_later e asks) }

told_within : {content : Content} {outer : List (List ℕ)} {s : State} {b n : ℕ} {bytes name : List ℕ} (by : Replacement) → move s (b ∷ bytes) ≡ opens name n →
    is_among outer name ≡ false → Stands content s.file (source_of s.parameters name) by →
    TellsFrom content outer s (b ∷ bytes) → TellsFrom content (name ∷ outer) (enter s by.over by.file) by.text
told_within by e free stands tells = record { told = λ system asks. tells.told system (asks_within by e free stands asks) }

told_behind : {content : Content} {outer : List (List ℕ)} {s inner : State} {b n : ℕ} {bytes name : List ℕ} (by : Replacement) → move s (b ∷ bytes) ≡ opens name n →
    is_among outer name ≡ false → Stands content s.file (source_of s.parameters name) by →
    Reads content (name ∷ outer) (enter s by.over by.file) by.text inner →
    TellsFrom content outer s (b ∷ bytes) → TellsFrom content outer (leave inner s.file) (drop n (b ∷ bytes))
told_behind by e free stands reads tells = record { told = λ system asks. tells.told system (asks_behind by e free stands reads asks) }

-- a reference that is met here is replaced by one text
stands_here : {content : Content} {outer : List (List ℕ)} {s : State} {b n : ℕ} {bytes name : List ℕ} {x y : Replacement} → TellsFrom content outer s (b ∷ bytes) →
    move s (b ∷ bytes) ≡ opens name n → is_among outer name ≡ false → Stands content s.file (source_of s.parameters name) x → Stands content s.file (source_of s.parameters name) y → x ≡ y
stands_here {content = content} {outer = outer} {s = s} {b = b} {n = n} {bytes = bytes} {name = name} {x = x} {y = y} tells e free p q =
    stands_one content s.file (source_of s.parameters name) (λ system outside. tells.told system (asks_there outer s b n bytes name here e free outside)) x y p q

-- the text of an entity, read as another replacement of it that is the same
read_inside : (content : Content) (outer : List (List ℕ)) (s inner : State) (name : List ℕ) (x y : Replacement) → x ≡ y →
    Reads content (name ∷ outer) (enter s x.over x.file) x.text inner → Reads content (name ∷ outer) (enter s y.over y.file) y.text inner
read_inside content outer s inner name x y same reads =
    subst (λ (r : Replacement). Reads content (name ∷ outer) (enter s r.over r.file) r.text inner) same reads

pub reads_one : {content : Content} {outer : List (List ℕ)} {s last other : State} {bytes : List ℕ} → TellsFrom content outer s bytes →
    Reads content outer s bytes last → Reads content outer s bytes other → last ≡ other
reads_one tells at_end second = reads_at second
reads_one tells (takes e rest) second = reads_one (told_later e tells) rest (rw e at (reads_at second))
reads_one {content = content} {other = other} tells (replaces {outer = outer} {s = s} {inner = inner} {b = b} {n = n} {bytes = bytes} {name = name} by e free stands inside rest) second =
    let there : Replaced content outer s name (drop n (b ∷ bytes)) other = rw e at (reads_at second) in
    let by-is : there.by ≡ by = stands_here tells e free there.is stands in
    let inner-is : there.inner ≡ inner = sym (reads_one (told_within by e free stands tells) inside (read_inside content outer s there.inner name there.by by by-is there.within)) in
    reads_one (told_behind by e free stands inside tells) rest (subst (λ i. Reads content outer (leave i s.file) (drop n (b ∷ bytes)) other) inner-is there.behind)

-- what is read on
pub record ReadsOn (content : Content) (outer : List (List ℕ)) (s : State) (bytes : List ℕ) : Type 0 where
  pub end_of : State
  pub reads : Reads content outer s bytes end_of

pub met_read : {content : Content} {outer outer' : List (List ℕ)} {s s' last : State} {bytes bytes' : List ℕ} → TellsFrom content outer s bytes →
    Meets content outer s bytes outer' s' bytes' → Reads content outer s bytes last → ReadsOn content outer' s' bytes'
met_read tells here second = record { end_of = _; reads = second }
met_read tells (later e meets) second = met_read (told_later e tells) meets (rw e at (reads_at second))
met_read {content = content} {last = last} tells (within {outer = outer} {s = s} {b = b} {n = n} {bytes = bytes} {name = name} by e free stands meets) second =
    let there : Replaced content outer s name (drop n (b ∷ bytes)) last = rw e at (reads_at second) in
    let by-is : there.by ≡ by = stands_here tells e free there.is stands in
    met_read (told_within by e free stands tells) meets (read_inside content outer s there.inner name there.by by by-is there.within)
met_read {content = content} {last = last} tells (behind {outer = outer} {s = s} {inner = inner} {b = b} {n = n} {bytes = bytes} {name = name} by e free stands inside meets) second =
    let there : Replaced content outer s name (drop n (b ∷ bytes)) last = rw e at (reads_at second) in
    let by-is : there.by ≡ by = stands_here tells e free there.is stands in
    let inner-is : there.inner ≡ inner = sym (reads_one (told_within by e free stands tells) inside (read_inside content outer s there.inner name there.by by by-is there.within)) in
    met_read (told_behind by e free stands inside tells) meets (subst (λ i. Reads content outer (leave i s.file) (drop n (b ∷ bytes)) last) inner-is there.behind)
