-- What a draft stands for: rows of sets by their names, each name with its nonterminal.
use Rattle.std.specs.Prelude.{◌≡◌, ℕ, Bool, true, false, List, Some, Contains, slice_get, length}
use Rattle.text_base.specs.declared.numbers.Nt as nt
use Rattle.cfg_grammar.specs.declared.symbol.Symbol.{Symbol}
use Rattle.cfg_grammar.specs.declared.symbol.Symbol.TheVariants.{Nt}
use Rattle.cfg_grammar.specs.declared.production.Right.TheVariants.{Empty, One, Two}
use Rattle.cfg_grammar.specs.declared.production.Production.{Production}
use Rattle.least_sets.specs.Forms.{Form, same_form, yes_form, where_form}
use Rattle.given_texts.specs.Closed.{Closed}
use Rattle.system_writing.specs.declared.waiting.Waiting.{Waiting}
use Rattle.system_writing.specs.declared.drafts.Draft.{Draft}
use Rattle.system_writing.specs.Forms.{all_names}
use Rattle.system_writing.specs.Parts.{Part, start_part, set_part, closed_part, PartRow}
use Rattle.system_writing.specs.Written.{IsWritten}

-- the nonterminal is that of the name
pub record IsAt {N : Type 0} (names : List N) (numbers : List ℕ) (n : N) (k : ℕ) : Type 0 where
  pub place : ℕ
  pub name : slice_get names place ≡ Some n
  pub number : slice_get numbers place ≡ Some k

-- the form is one text where another set says yes
unfoldable pub is_where : {N : Type 0} → Form N → Bool
is_where (where_form w a) = true
is_where _ = false

-- the rows but those that ask whether a set says yes
abbrev pub settled : {N : Type 0} → List (N × Form N) → N → Form N → Type 0
settled rows n f = Contains rows (n, f) × (is_where f ≡ false)

-- the rows by which sets say yes, as productions without bytes
pub record AreSaid {N : Type 0} (rows : List (N × Form N)) (names : List N) (numbers : List ℕ) (said : List Production) : Type 0 where
  pub each_yes : (a : nt.Nt) → Contains said (record { left = a; right = Empty })
      → (n : N) × IsAt names numbers n a.0 × Contains rows (n, yes_form)
  pub each_same : (a : nt.Nt) (s : Symbol) → Contains said (record { left = a; right = One s })
      → (n : N) × (c : N) × (m : nt.Nt) × (s ≡ Nt m) × IsAt names numbers n a.0 × IsAt names numbers c m.0 × Contains rows (n, same_form c)
  pub no_two : (a : nt.Nt) (s t : Symbol) → Contains said (record { left = a; right = Two s t }) → ⊥
  pub all_yes : (n : N) (a : nt.Nt) → IsAt names numbers n a.0 → Contains rows (n, yes_form) → Contains said (record { left = a; right = Empty })
  pub all_same : (n c : N) (a m : nt.Nt) → IsAt names numbers n a.0 → IsAt names numbers c m.0 → Contains rows (n, same_form c)
      → Contains said (record { left = a; right = One (Nt m) })

-- the text waits for the row
pub record IsOfRow {N : Type 0} (names : List N) (numbers : List ℕ) (x : Waiting) (n c : N) : Type 0 where
  pub set : IsAt names numbers n x.set
  pub other : IsAt names numbers c x.other

-- the rows that ask whether a set says yes wait, and nothing else does
pub record AreWaiting {N : Type 0} (rows : List (N × Form N)) (names : List N) (numbers : List ℕ) (waiting : List Waiting) : Type 0 where
  pub each : (x : Waiting) → Contains waiting x → (n : N) × (c : N) × IsOfRow names numbers x n c × Contains rows (n, where_form x.text c)
  pub all : (n c : N) (w : List ℕ) → Contains rows (n, where_form w c)
      → (x : Waiting) × Contains waiting x × (x.text ≡ w) × IsOfRow names numbers x n c

-- the lines are written for the settled rows and the sets to begin with, each name has the nonterminal of its set, and the other rows wait
pub record IsDraft {N : Type 0} (rows : List (N × Form N)) (starts names : List N) (numbers : List ℕ) (closed : Closed) (d : Draft) : Type 0 where
  pub parts : List (Part N)
  pub all : length parts ≡ d.lines.count
  pub written : IsWritten (PartRow (settled rows) (Contains starts) (λ n. ⊥) closed) parts d.lines.productions.items d.lines.rules.items
  pub request : slice_get parts d.request ≡ Some (closed_part closed.request)
  pub integer : slice_get parts d.integer ≡ Some (closed_part closed.integer)
  pub start : slice_get parts d.start ≡ Some start_part
  pub long : length numbers ≡ length names
  pub named : (n : N) (k : ℕ) → IsAt names numbers n k → slice_get parts k ≡ Some (set_part n)
  pub sets : (n : N) (k : ℕ) → slice_get parts k ≡ Some (set_part n) → IsAt names numbers n k
  pub rows_named : (n : N) (f : Form N) → Contains rows (n, f) → Contains names n
  pub forms_named : (n c : N) (f : Form N) → Contains rows (n, f) → Contains (all_names f) c → Contains names c
  pub said : AreSaid rows names numbers d.said.items
  pub waiting : AreWaiting rows names numbers d.waiting.items
