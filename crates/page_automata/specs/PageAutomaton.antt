-- The automaton over labels of a document type definition: the states of its content models, which text, white space,
-- comments and instructions keep where they may stand (XML 1.0, 3.2.1 and 3.2.2), and three states of the page itself:
-- before all, behind the document type declaration, and behind the root (XML 1.0, 2.8).
use Rattle.std.specs.Prelude.{ℕ, ◌+◌, Bool, true, false, ◌&&◌, if◌then◌else◌, List, map, length, Option, Some, None, codes, nat_eq, nat_lt, slice_get}
use Rattle.dtd_model.specs.declared.dtd.DoctypeRule.{DoctypeRule}
use Rattle.dtd_model.specs.declared.dtd.DoctypeRule.TheVariants.{Strict, Free}
use Rattle.dtd_model.specs.Table.{Rule, Table, Holding, nothing, anything, text_and, children}
use Rattle.page_model.specs.Valid.{place_of}
use Rattle.page_model.specs.Valid as sort
use Rattle.content_automata.specs.Tables.{Table as States, first_at, next_at, ends_at, owner_at}
use Rattle.tag_sums.specs.Labels.{Label, child, other, Mark, blank, text, misc, doctype}
use Rattle.tag_sums.specs.Automaton.{Automaton}
use Rattle.page_automata.specs.declared.besides.Besides.{Besides}
use Rattle.page_automata.specs.declared.besides.Besides.TheVariants.{Nothing, Between, Anything}

-- what may stand in an element besides elements
abbrev pub besides_of : Holding → Besides
besides_of nothing = Nothing
besides_of anything = Anything
besides_of (text_and es) = Anything
besides_of (children m) = Between

-- whether what is no element may stand there, by its sort: nothing, what may stand between elements, or all
abbrev pub may_stand : Besides → sort.Sort → Bool
may_stand Nothing s = false
may_stand Between s = sort.is_between s
may_stand Anything s = true

-- the root of each page
abbrev pub root_of : Table → ℕ
root_of table = place_of table.elements (codes "html")

-- whether the root may stand without a document type declaration
abbrev pub is_free : DoctypeRule → Bool
is_free Free = true
is_free Strict = false

-- what the automaton is made of: the states of the content models, what may stand in each element, the root, and whether
-- it may stand without a document type declaration
pub record Parts : Type 0 where
  pub states : States
  pub besides : List Besides
  pub root : ℕ
  pub free : Bool

-- the parts of the automaton of a definition, by the states of its content models
abbrev pub parts_of : Table → States → Parts
parts_of table t = record {
  states = t;
  besides = map (λ (r : Rule). besides_of r.holding) table.elements;
  root = root_of table;
  free = is_free table.doctype;
}

-- the mark keeps a state where it may stand
abbrev pub kept : Bool → ℕ → Option ℕ
kept may q = if may then Some q else None

-- whether it may stand in an element, if there is one
abbrev pub element_keeps : Option Besides → sort.Sort → Bool
element_keeps None s = false
element_keeps (Some b) s = may_stand b s

-- the state stays by what may stand in its element
abbrev pub sort_step : Parts → ℕ → sort.Sort → Option ℕ
sort_step p q s = kept (element_keeps (slice_get p.besides (owner_at p.states q)) s) q

-- in a state of an element
abbrev pub inner_step : Parts → ℕ → Label → Option ℕ
inner_step p q (child e) = if nat_lt e (length p.besides) then next_at p.states q e else None
inner_step p q (other blank) = sort_step p q sort.blank
inner_step p q (other text) = sort_step p q sort.text
inner_step p q (other misc) = sort_step p q sort.remark
inner_step p q (other doctype) = None

-- in the page itself white space, comments and instructions keep each state
abbrev pub mark_step : ℕ → Mark → Option ℕ
mark_step q blank = Some q
mark_step q text = None
mark_step q misc = Some q
mark_step q doctype = None

-- before all: the root, where it needs no document type declaration, that declaration, or what may stand there; n is the first page state
abbrev pub start_step : Parts → ℕ → Label → Option ℕ
start_step p n (child e) = if p.free && nat_eq e p.root then Some (n + 2) else None
start_step p n (other blank) = mark_step n blank
start_step p n (other text) = mark_step n text
start_step p n (other misc) = mark_step n misc
start_step p n (other doctype) = Some (n + 1)

-- behind the document type declaration: the root, or what may stand there
abbrev pub doctype_step : Parts → ℕ → Label → Option ℕ
doctype_step p n (child e) = if nat_eq e p.root then Some (n + 2) else None
doctype_step p n (other m) = mark_step (n + 1) m

-- behind the root no element stands any more
abbrev pub done_step : ℕ → Label → Option ℕ
done_step n (child e) = None
done_step n (other m) = mark_step (n + 2) m

-- the state behind a label: of an element, or of the page, whose three states have the numbers n, n + 1 and n + 2
abbrev pub page_step : Parts → ℕ → Label → Option ℕ
page_step p q l =
    let n = length p.states.1 in
    if nat_lt q n then inner_step p q l
    else (if nat_eq q n then start_step p n l
    else (if nat_eq q (n + 1) then doctype_step p n l else (if nat_eq q (n + 2) then done_step n l else None)))

-- the state that a declared element begins in
abbrev pub page_init : Parts → ℕ → Option ℕ
page_init p e = if nat_lt e (length p.besides) then Some (first_at p.states e) else None

-- the state is one of the element, and the element may end in it
abbrev pub page_closes : Parts → ℕ → ℕ → Bool
page_closes p e q = nat_lt q (length p.states.1) && (nat_eq (owner_at p.states q) e && ends_at p.states q)

-- the page is one element more than are declared
abbrev pub page_owner : Parts → ℕ → ℕ
page_owner p q = if nat_lt q (length p.states.1) then owner_at p.states q else length p.besides

-- the automaton of a page, with three states more than the content models have
abbrev pub page_automaton : Parts → Automaton
page_automaton p = record {
  count = length p.states.1 + 3;
  init = page_init p;
  step = page_step p;
  closes = page_closes p;
  owner = page_owner p;
  page_start = length p.states.1;
  page_done = length p.states.1 + 2;
}
