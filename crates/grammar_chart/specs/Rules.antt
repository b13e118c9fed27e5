-- What begun productions wait for, and where they lead.
use Rattle.std.specs.Prelude.{◌≡◌, ℕ, List, [], ◌∷◌, Option, None, Some, slice_get, get_or, map, Contains}
use Rattle.text_base.specs.declared.letter.Letter.{Letter}
use Rattle.text_base.specs.ByteRange.{InRange}
use Rattle.fst_core.specs.Letter.{letter_of}
use Rattle.cfg_grammar.specs.declared.symbol.Symbol.TheVariants.{Nt}
use Rattle.cfg_grammar.specs.declared.production.Right.{Right}
use Rattle.cfg_grammar.specs.declared.production.Right.TheVariants.{Empty, One, Two}
use Rattle.cfg_grammar.specs.declared.production.Production.{Production}
use Rattle.fst_core.specs.Items.{Item}
use Rattle.grammar_chart.specs.declared.keys.Entry.{Entry}
use Rattle.grammar_chart.specs.declared.keys.Read.{Read}
use Rattle.grammar_chart.specs.declared.keys.Read.TheVariants.{Nothing, First, Both}
use Rattle.grammar_chart.specs.declared.keys.Begun.{Begun}
use Rattle.grammar_chart.specs.declared.keys.Passage.{Passage}
use Rattle.grammar_chart.specs.declared.keys.Reading.{Reading}

-- the states behind the symbols that are read
abbrev pub states_of : Read → List ℕ
states_of Nothing = []
states_of (First t) = t ∷ []
states_of (Both t u) = t ∷ u ∷ []

-- the item that a begun production is
abbrev pub item_of : Begun → Item ℕ
item_of b = record { place = b.place; entry = b.from; after = states_of b.read }

-- the symbol that is read next, and the state before it
abbrev pub awaited_by : Right → ℕ → Read → Option Entry
awaited_by Empty from read = None
awaited_by (One x) from Nothing = Some (record { symbol = x; state = from })
awaited_by (One x) from (First t) = None
awaited_by (One x) from (Both t u) = None
awaited_by (Two x y) from Nothing = Some (record { symbol = x; state = from })
awaited_by (Two x y) from (First t) = Some (record { symbol = y; state = t })
awaited_by (Two x y) from (Both t u) = None

-- what a begun production waits for, where its production is known
abbrev pub awaited_in : Option Production → Begun → Option Entry
awaited_in None b = None
awaited_in (Some p) b = awaited_by p.right b.from b.read

-- the symbol that a begun production reads next, and the state before it; None where all of its right side is read
abbrev pub awaited_of : List Production → Begun → Option Entry
awaited_of productions b = awaited_in (slice_get productions b.place) b

-- one symbol more is read, with this state behind it
abbrev pub read_by : Read → ℕ → Read
read_by Nothing t = First t
read_by (First t) u = Both t u
read_by (Both t u) v = Both t u

-- a begun production with one symbol more read, which leads to this state
abbrev pub read_on : Begun → ℕ → Begun
read_on b t = record { place = b.place; from = b.from; read = read_by b.read t }

-- the begun production with a number; past the last one, one of which nothing is read
abbrev pub begun_at : List Begun → ℕ → Begun
begun_at begun n = get_or begun n (record { place = 0; from = 0; read = Nothing })

-- the state behind what is read
abbrev pub last_by : Read → ℕ → ℕ
last_by Nothing from = from
last_by (First t) from = t
last_by (Both t u) from = u

-- the state behind what a begun production has read
abbrev pub last_of : Begun → ℕ
last_of b = last_by b.read b.from

-- where the left side leads when all of the right side is read
abbrev pub passage_by : Production → Begun → Passage
passage_by p b = record { symbol = Nt p.left; from = b.from; to = last_of b }

-- where a begun production leads, where its production is known
abbrev pub passage_in : Option Production → Begun → Option Passage
passage_in None b = None
passage_in (Some p) b = Some (passage_by p b)

-- where the left side of a begun production leads when all of its right side is read
abbrev pub passage_of : List Production → Begun → Option Passage
passage_of productions b = passage_in (slice_get productions b.place) b

-- the steps that the readings stand for, between numbers of states
abbrev pub ReadingStep : List Reading → ℕ → ℕ → ℕ → List Letter → Type 0
ReadingStep readings s byte t letters =
    (r : Reading) × Contains readings r × (r.from ≡ s) × InRange r.range byte × (r.to ≡ t) × (map (letter_of byte) r.out.items ≡ letters)
