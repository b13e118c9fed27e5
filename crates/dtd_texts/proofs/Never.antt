-- A text that is read is read from each state that its reading comes to.
use Rattle.std.proofs.Common.{◌≡◌, ℕ, Bool, true, false, List, [], ◌∷◌, drop, sym, subst, arith, Option, Some, None}
use Rattle.io_edge.specs.Told.{Told, unasked, untold, known, Content, Tells}
use Rattle.dtd_texts.specs.Places.{between, external}
use Rattle.dtd_texts.specs.Reading.{State, IsTold, Replacement, Stands, start, source_of, enter, leave, Reads}
use Rattle.dtd_texts.specs.Causes.{Meets, here, later, within, behind, Breaks, unlawful, unended, Omits, Refers, Misses, circular, undeclared, Asks, asks, Comes}
use Rattle.dtd_texts.proofs.Once.{Replaced, reads_at, reads_once, stands_once}
use Rattle.dtd_texts.proofs.Grows.{UpTo, reads_up, leave_up, and_up}

pub record GoesOn (content : Content) (outer' : List (List ℕ)) (s' : State) (bytes' : List ℕ) (last : State) : Type 0 where
  pub last' : State
  pub reads : Reads content outer' s' bytes' last'
  pub no_larger : UpTo last' last

up_to_itself : (s : State) → UpTo s s
up_to_itself s = record { length = omega arith; references = omega arith; passed = omega arith }

pub goes_on : {content : Content} {outer outer' : List (List ℕ)} {s s' last : State} {bytes bytes' : List ℕ} → IsTold content → Meets content outer s bytes outer' s' bytes' → Reads content outer s bytes last → GoesOn content outer' s' bytes' last
goes_on {last = last} told here r = record { last' = last; reads = r; no_larger = up_to_itself last }
goes_on told (later e m) r = goes_on told m (rw e at (reads_at r))
goes_on {content = content} {last = last} told (within {outer = outer} {s = s} {b = b} {n = n} {bytes = bytes} {name = name} by e shut is m) r =
    let there : Replaced content outer s name (drop n (b ∷ bytes)) last = rw e at (reads_at r) in
    let inside : Reads content (name ∷ outer) (enter s by.over by.file) by.text there.inner =
    subst (λ (x : Replacement). Reads content (name ∷ outer) (enter s x.over x.file) x.text there.inner) (stands_once content told s.file (source_of s.parameters name) there.by by there.is is) there.within in
    let g = goes_on told m inside in
    record {
      last' = g.last';
      reads = g.reads;
      no_larger = and_up g.last' there.inner last g.no_larger (and_up there.inner (leave there.inner s.file) last (leave_up there.inner s.file) (reads_up there.behind));
    }
goes_on {content = content} {last = last} told (behind {outer = outer} {s = s} {inner = inner} {b = b} {n = n} {bytes = bytes} {name = name} by e shut is before m) r =
    let there : Replaced content outer s name (drop n (b ∷ bytes)) last = rw e at (reads_at r) in
    let inside : Reads content (name ∷ outer) (enter s by.over by.file) by.text there.inner =
    subst (λ (x : Replacement). Reads content (name ∷ outer) (enter s x.over x.file) x.text there.inner) (stands_once content told s.file (source_of s.parameters name) there.by by there.is is) there.within in
    let inner-is : there.inner ≡ inner = sym (reads_once told before inside) in
    goes_on told m (subst (λ i. Reads content outer (leave i s.file) (drop n (b ∷ bytes)) last) inner-is there.behind)

no_true : {x : Bool} → x ≡ true → x ≡ false → ⊥
no_true e f = grind arith

-- a text that is read is not broken, leaves nothing out, refers to nothing that is open or undeclared or not held, and was
-- never larger
pub never_breaks : (content : Content) (file : List ℕ) (at : ℕ) (last : State) → IsTold content → Reads content [] start file last → last.place ≡ between → Breaks content file at → ⊥
never_breaks content file at last told r whole (unlawful outer s b bytes m e is) = let g = goes_on told m r in rw e at (reads_at g.reads)
never_breaks content file at last told r whole (unended s again wrong is) = wrong (subst (λ t. t.place ≡ between) (reads_once told r again) whole)

pub never_omits : (content : Content) (file : List ℕ) (at : ℕ) (last : State) → IsTold content → Reads content [] start file last → Omits content file at → ⊥
never_omits content file at last told r o = let g = goes_on told o.meets r in rw o.is at (reads_at g.reads)

replaced_there : (content : Content) (file name : List ℕ) (last : State) (outer : List (List ℕ)) (s : State) → IsTold content → Reads content [] start file last → (f : Refers content file name outer s) → (end : State) × Replaced content outer s name (drop f.n (f.b ∷ f.bytes)) end
replaced_there content file name last outer s told r f =
    let g = goes_on told f.meets r in
    let there : Replaced content outer s name (drop f.n (f.b ∷ f.bytes)) g.last' = rw f.is at (reads_at g.reads) in
    (g.last', there)

pub never_misses : (content : Content) (file name : List ℕ) (last : State) → IsTold content → Reads content [] start file last → Misses content file name → ⊥
never_misses content file name last told r (circular outer s f is) = let there = replaced_there content file name last outer s told r f in no_true is there.1.shut
never_misses content file name last told r (undeclared outer s f is) =
    let there = replaced_there content file name last outer s told r f in
    subst (λ o. Stands content s.file o there.1.by) is there.1.is

none_told : (t : Told) (file : Option (List ℕ)) (x : List ℕ) → t ≡ known file → Tells t (Some x) → Tells t None → ⊥
none_told unasked file x e a b = a
none_told untold file x e a b = absurd (grind arith)
none_told (known t) file x e a b = no_some a b where
  no_some : {o : Option (List ℕ)} {v : List ℕ} → o ≡ Some v → o ≡ None → ⊥
  no_some f g = grind arith

pub never_asks_in_vain : (content : Content) (file system : List ℕ) (last : State) → IsTold content → Reads content [] start file last → Asks content file system → Tells (content system) None → ⊥
never_asks_in_vain content file system last told r (asks name outer s f shut is) none =
    let there = replaced_there content file name last outer s told r f in
    let e : Stands content s.file (Some (external system)) there.1.by = subst (λ o. Stands content s.file o there.1.by) is there.1.is in
    none_told (content system) (told system).0 e.0.whole (told system).1 e.0.told none

pub never_larger : (content : Content) (file : List ℕ) (s last : State) → IsTold content → Reads content [] start file last → Comes content file s → UpTo s last
never_larger content file s last told r c = let g = goes_on told c.meets r in and_up s g.last' last (reads_up g.reads) g.no_larger
