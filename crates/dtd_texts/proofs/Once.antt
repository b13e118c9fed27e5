-- A text leads from one state to one other at most, where what its names hold is told.
use Rattle.std.proofs.Common.{◌≡◌, ◌∙◌, ℕ, ◌+◌, false, List, [], ◌∷◌, drop, length, refl, sym, ap, subst, arith, Option, Some, None}
use Rattle.io_edge.specs.Told.{Told, unasked, untold, known, Content, Tells}
use Rattle.dtd_texts.specs.Tokens.{behind_declaration}
use Rattle.dtd_texts.specs.Places.{Source, internal, external}
use Rattle.dtd_texts.specs.Reading.{State, IsTold, Holds, Replacement, Stands, Move, on, opens, omits, stuck, move, is_among, source_of, enter, leave, Reads, at_end, takes, replaces}

told_once : (t : Told) (file : Option (List ℕ)) (x y : List ℕ) → t ≡ known file → Tells t (Some x) → Tells t (Some y) → x ≡ y
told_once unasked file x y e a b = absurd a
told_once untold file x y e a b = absurd (grind arith)
told_once (known t) file x y e a b = some_once a b where
  some_once : {o : Option (List ℕ)} {v w : List ℕ} → o ≡ Some v → o ≡ Some w → v ≡ w
  some_once f g = cc

pub whole_once : (content : Content) → IsTold content → (name x y : List ℕ) → (a : Holds content name x) → (b : Holds content name y) → a.whole ≡ b.whole
whole_once content told name x y a b = told_once (content name) (told name).0 a.whole b.whole (told name).1 a.told b.told

pub holds_once : (content : Content) → IsTold content → (name x y : List ℕ) → Holds content name x → Holds content name y → x ≡ y
holds_once content told name x y a b = sym a.is ∙ ap behind_declaration (whole_once content told name x y a b) ∙ b.is

abbrev replaces_by : List ℕ → ℕ → List ℕ → Replacement
replaces_by text over file = record { text = text; over = over; file = file }

-- a replacement is its parts
pub same_replacement : (x y : Replacement) → x.text ≡ y.text → x.over ≡ y.over → x.file ≡ y.file → x ≡ y
same_replacement x y t o f =
    ap (λ (text : List ℕ). replaces_by text x.over x.file) t ∙ ap (λ (over : ℕ). replaces_by y.text over x.file) o ∙ ap (replaces_by y.text y.over) f

same_over : (x y : List ℕ) (m n a b : ℕ) → x ≡ y → m ≡ n → m ≡ a + length x → n ≡ b + length y → a ≡ b
same_over x y m n a b e f g h = let l = ap length e in omega (arith, l, f, g, h)

pub stands_once : (content : Content) → IsTold content → (here : List ℕ) (o : Option Source) (x y : Replacement) → Stands content here o x → Stands content here o y → x ≡ y
stands_once content told here None x y a b = absurd a
stands_once content told here (Some (internal value)) x y a b = same_replacement x y (sym a.0 ∙ b.0) (a.1 ∙ sym b.1) (a.2 ∙ sym b.2)
stands_once content told here (Some (external name)) x y a b =
    let text : x.text ≡ y.text = holds_once content told name x.text y.text a.0 b.0 in
    let whole : length a.0.whole ≡ length b.0.whole = ap length (whole_once content told name x.text y.text a.0 b.0) in
    same_replacement x y text (same_over x.text y.text (length a.0.whole) (length b.0.whole) x.over y.over text whole a.1 b.1) (a.2 ∙ sym b.2)

pub record Replaced (content : Content) (outer : List (List ℕ)) (s : State) (name rest : List ℕ) (last : State) : Type 0 where
  pub by : Replacement
  pub inner : State
  pub shut : is_among outer name ≡ false
  pub is : Stands content s.file (source_of s.parameters name) by
  pub within : Reads content (name ∷ outer) (enter s by.over by.file) by.text inner
  pub behind : Reads content outer (leave inner s.file) rest last

-- how the text behind a move is read
abbrev pub ReadsBy : Content → Move → List (List ℕ) → State → List ℕ → State → Type 0
ReadsBy content (on n next) outer s bytes last = Reads content outer next (drop n bytes) last
ReadsBy content (opens name n) outer s bytes last = Replaced content outer s name (drop n bytes) last
ReadsBy content omits outer s bytes last = ⊥
ReadsBy content stuck outer s bytes last = ⊥

abbrev pub ReadsAt : Content → List (List ℕ) → State → List ℕ → State → Type 0
ReadsAt content outer s [] last = s ≡ last
ReadsAt content outer s (b ∷ bytes) last = ReadsBy content (move s (b ∷ bytes)) outer s (b ∷ bytes) last

pub reads_at : {content : Content} {outer : List (List ℕ)} {s last : State} {bytes : List ℕ} → Reads content outer s bytes last → ReadsAt content outer s bytes last
reads_at at_end = refl
reads_at (takes e rest) = rw e rest
reads_at (replaces by e shut is within behind) = rw e (record { by = by; inner = _; shut = shut; is = is; within = within; behind = behind })

pub reads_once : {content : Content} {outer : List (List ℕ)} {s last other : State} {bytes : List ℕ} → IsTold content → Reads content outer s bytes last → Reads content outer s bytes other → last ≡ other
reads_once told at_end second = reads_at second
reads_once told (takes e rest) second = reads_once told rest (rw e at (reads_at second))
reads_once {content = content} {other = other} told (replaces {outer = outer} {s = s} {inner = inner} {b = b} {n = n} {bytes = bytes} {name = name} by e shut is within behind) second =
    let there : Replaced content outer s name (drop n (b ∷ bytes)) other = rw e at (reads_at second) in
    let by-is : there.by ≡ by = stands_once content told s.file (source_of s.parameters name) there.by by there.is is in
    let inner-is : there.inner ≡ inner =
    sym (reads_once told within (subst (λ (r : Replacement). Reads content (name ∷ outer) (enter s r.over r.file) r.text there.inner) by-is there.within)) in
    reads_once told behind (subst (λ i. Reads content outer (leave i s.file) (drop n (b ∷ bytes)) other) inner-is there.behind)
