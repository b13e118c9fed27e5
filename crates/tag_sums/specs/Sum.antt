-- The sum of a list of page tokens: what is left when each start tag and the end tag that answers it are taken out with
-- all between them, with what the labels that stand beside the tags that are left do to states (reduction over a monoid
-- with a zero: Berstel and Boasson 2002; Minamide and Tozawa 2006).
use Rattle.std.specs.Prelude.{◌≡◌, ℕ, ◌+◌, Bool, true, false, if◌then◌else◌, List, [], ◌∷◌, ◌++◌, map, length, Option, Some, None, slice_index_or}
use Rattle.std.specs.List.{range_with_len, list_any}
use Rattle.text_base.specs.declared.page_token.PageToken.{PageToken}
use Rattle.text_base.specs.declared.page_token.PageToken.TheVariants.{Doctype, Start, End, Blank, Text, Misc, Bad}
use Rattle.tag_sums.specs.Labels.{Label, child, other, blank, text, misc, doctype}
use Rattle.tag_sums.specs.Automaton.{Automaton}

-- `reduced closers middle openers`: for each unmatched end tag in order, the states of its element from which the labels
-- before it lead to a match; the map of the labels between the last of them and the first unmatched start tag; and for
-- each unmatched start tag, the innermost first, the state behind the labels that follow it. A state tells its element.
pub data Sum : Type 0 where
  broken : Sum
  reduced : List (List Bool) → List (Option ℕ) → List ℕ → Sum

-- a state's entry in a map, and in a set
abbrev pub target : List (Option ℕ) → ℕ → Option ℕ
target m q = slice_index_or m q None

-- whether the set has the state
abbrev pub has : List Bool → ℕ → Bool
has s q = slice_index_or s q false

-- where the map leads from the state, if there is one
abbrev pub follow : List (Option ℕ) → Option ℕ → Option ℕ
follow m None = None
follow m (Some q) = target m q

-- whether there is a state and the set has it
abbrev pub admits : List Bool → Option ℕ → Bool
admits s None = false
admits s (Some q) = has s q

-- whether there is a state
abbrev pub is_some : Option ℕ → Bool
is_some None = false
is_some (Some q) = true

-- one map after another, and the states that a map leads into a set
abbrev pub after : List (Option ℕ) → List (Option ℕ) → List (Option ℕ)
after first second = map (follow second) first

-- the states that a map leads into a set
abbrev pub preimage : List (Option ℕ) → List Bool → List Bool
preimage m s = map (admits s) m

-- the map leads somewhere, and the set has a state
abbrev pub some_move : List (Option ℕ) → Bool
some_move = list_any is_some

-- the set has a state
abbrev pub some_state : List Bool → Bool
some_state = list_any (λ b. b)

-- with this middle
abbrev pub joined : List (List Bool) → List (Option ℕ) → List ℕ → Sum
joined closers m openers = if some_move m then reduced closers m openers else broken

-- with this state of the opener between the inner and the outer ones
abbrev pub moved : List (List Bool) → List (Option ℕ) → List ℕ → List ℕ → Option ℕ → Sum
moved closers m inner outer None = broken
moved closers m inner outer (Some q) = reduced closers m (inner ++ q ∷ outer)

-- the openers of the first sum meet the closers of the second, the innermost first
abbrev pub meet : List (List Bool) → List (Option ℕ) → List ℕ → List (List Bool) → List (Option ℕ) → List ℕ → Sum
meet ca ma [] [] mb ob = joined ca (after ma mb) ob
meet ca ma [] (s ∷ cb) mb ob = if some_state (preimage ma s) then reduced (ca ++ preimage ma s ∷ cb) mb ob else broken
meet ca ma (q ∷ oa) [] mb ob = moved ca ma ob oa (target mb q)
meet ca ma (q ∷ oa) (s ∷ cb) mb ob = if has s q then meet ca ma oa cb mb ob else broken

-- the sum of what the one stands for and then what the other does
abbrev pub compose : Sum → Sum → Sum
compose broken t = broken
compose (reduced ca ma oa) broken = broken
compose (reduced ca ma oa) (reduced cb mb ob) = meet ca ma oa cb mb ob

-- what a function gives at each state
abbrev pub by_state : {X : Type 0} → Automaton → (ℕ → X) → List X
by_state a f = map f (range_with_len 0 a.count)

-- the sum of no token: each state leads to itself, and nothing is unmatched
abbrev pub unit : Automaton → Sum
unit a = reduced [] (by_state a Some) []

-- the map of a label: for each state the one behind it, if the label may stand there
abbrev pub by_label : Automaton → Label → List (Option ℕ)
by_label a l = by_state a (λ q. a.step q l)

-- the sum of a label alone; broken where it may stand nowhere
abbrev pub with_label : Automaton → Label → Sum
with_label a l = joined [] (by_label a l) []

-- an end tag; behind it its element is a label
abbrev pub closing : Automaton → ℕ → Sum
closing a e = if some_state (by_state a (a.closes e)) then (if some_move (by_label a (child e))
    then reduced (by_state a (a.closes e) ∷ []) (by_label a (child e)) [] else broken) else broken

-- a start tag, by the state that its element begins in; broken where the element is not declared
abbrev pub opening : Automaton → Option ℕ → Sum
opening a None = broken
opening a (Some q) = reduced [] (by_state a Some) (q ∷ [])

-- the sum of one token
abbrev pub of_token : Automaton → PageToken → Sum
of_token a Doctype = with_label a (other doctype)
of_token a (Start e) = opening a (a.init e.0)
of_token a (End e) = closing a e.0
of_token a Blank = with_label a (other blank)
of_token a Text = with_label a (other text)
of_token a Misc = with_label a (other misc)
of_token a Bad = broken

-- the sum of the tokens from the first to the last
abbrev pub sum_of : Automaton → List PageToken → Sum
sum_of a [] = unit a
sum_of a (t ∷ ts) = compose (of_token a t) (sum_of a ts)

-- nothing is unmatched, and the tokens lead from before the page to behind its root
abbrev pub IsWhole : Automaton → Sum → Type 0
IsWhole a s = (m : List (Option ℕ)) × (s ≡ reduced [] m []) × (target m a.page_start ≡ Some a.page_done)

-- the number of unmatched tags, 0 for a broken sum
abbrev pub tag_count : Sum → ℕ
tag_count broken = 0
tag_count (reduced closers m openers) = length closers + length openers

-- whether no page can have these tokens in it
abbrev pub is_broken : Sum → Bool
is_broken broken = true
is_broken (reduced closers m openers) = false
