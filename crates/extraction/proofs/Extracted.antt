-- What the worklist has written, from the names to begin with to the whole system.
use Rattle.std.proofs.Common.{◌≡◌, ◌+◌, inl, inr, ℕ, List, [], ◌∷◌, refl, sym, subst, ap, ◌∙◌, arith, Contains, length, take}
use Rattle.std.proofs.lemmas.List.{take_all}
use Rattle.std.proofs.lemmas.List.Elements.{Contains-append_left, Contains-append_right, Contains-append_cases}
use Rattle.numbered_sets.specs.Numbers.{AreDifferent}
use Rattle.cfg_grammar.specs.declared.symbol.Symbol.{Symbol}
use Rattle.cfg_grammar.specs.declared.production.Production.{Production}
use Rattle.op_system.specs.declared.system.OpRule.{OpRule}
use Rattle.op_system.specs.declared.system.OpSystem.{OpSystem}
use Rattle.flow_code.specs.Points.{PlainFlow}
use Rattle.least_sets.specs.Forms.{Form, same_form, yes_form}
use Rattle.least_sets.specs.Sets.{Says}
use Rattle.loose_sets.specs.declared.name.SetName.{SetName}
use Rattle.given_texts.specs.Closed.{Closed, IsClosed}
use Rattle.given_texts.specs.Given.{closed_of, IsGiven}
use Rattle.given_texts.specs.declared.given.GivenTexts.{GivenTexts}
use Rattle.system_writing.specs.declared.waiting.Waiting.{Waiting}
use Rattle.system_writing.specs.Parts.{start_part, set_part, PartRow}
use Rattle.system_writing.specs.Written.{Denotes}
use Rattle.system_writing.specs.Drafts.{IsDraft}
use Rattle.system_writing.specs.Steps.{IsBegun, IsBelow, Finishes}
use Rattle.system_writing.specs.Systems.{IsSystem}
use Rattle.system_writing.specs.Sizes.{waiting_bytes, numbers_due, lines_due}
use Rattle.system_writing.proofs.Adding as adding
use Rattle.system_writing.proofs.Changing as changing
use Rattle.system_writing.proofs.Begun.{begun}
use Rattle.system_writing.proofs.Below.{draft_below}
use Rattle.system_writing.proofs.Finished.{finished}
use Rattle.system_writing.proofs.Sizes.{finished_small}
use Rattle.extraction.specs.declared.work.Work.{Work}
use Rattle.extraction.specs.Numbered.{Lists, table_of, rows_of_name, rows_of, forms_in, bytes_in, AreReached, AreWhole}
use Rattle.extraction.specs.Steps.{IsPaired, Stands, Begins}
use Rattle.extraction.specs.Listed.{IsListed}
use Rattle.extraction.specs.Ends.{AreEnds}
use Rattle.extraction.specs.Made.{IsMadeBy}
use Rattle.extraction.proofs.PlaceLemmas.{none_of, head_cases, at_head, at_later, mapped, unmapped}

-- the rows of names are those that are listed for them
row_named : (lists : Lists) (names : List SetName) (n : SetName) (f : Form SetName) → Contains (rows_of lists names) (n, f) → table_of lists names n f
row_named lists [] n f c = absurd (none_of (n, f) c)
row_named lists (m ∷ names) n f c =
    elim (Contains-append_cases (rows_of_name m (lists m)) (rows_of lists names) (n, f) c) [
      | inl here ↦
          let r = unmapped (λ (g : Form SetName). let p : SetName × Form SetName = (m, g) in p) (lists m) (n, f) here in
          let name : m ≡ n = ap (λ (p : SetName × Form SetName). p.0) r.2 in
          let form : r.0 ≡ f = ap (λ (p : SetName × Form SetName). p.1) r.2 in
          (subst (λ (z : SetName). Contains (m ∷ names) z) name (at_head m names), subst (λ (z : SetName). Contains (lists z) f) name (subst (λ (g : Form SetName). Contains (lists m) g) form r.1))
      | inr later ↦ let r = row_named lists names n f later in (at_later m names n r.0, r.1)
    ]

named_row : (lists : Lists) (names : List SetName) (n : SetName) (f : Form SetName) → Contains names n → Contains (lists n) f → Contains (rows_of lists names) (n, f)
named_row lists [] n f c has = absurd (none_of n c)
named_row lists (m ∷ names) n f c has =
    elim (head_cases m names n c) [
      | inl is ↦
          Contains-append_left (rows_of_name m (lists m)) (rows_of lists names) (n, f)
          (subst (λ (z : SetName). Contains (rows_of_name m (lists m)) (z, f)) is (mapped (λ (g : Form SetName). let p : SetName × Form SetName = (m, g) in p) (lists m) f (subst (λ (z : SetName). Contains (lists z) f) (sym is) has)))
      | inr later ↦ Contains-append_right (rows_of_name m (lists m)) (rows_of lists names) (n, f) (named_row lists names n f later has)
    ]

-- tables with the same rows say yes of the same sets
says_too : (R S : SetName → Form SetName → Type 0) → ((n : SetName) (f : Form SetName) → R n f → S n f) → (n : SetName) → Says R n → Says S n
says_too R S rows n (Says.yes _ row) = Says.yes n (rows n yes_form row)
says_too R S rows n (Says.same _ c row said) = Says.same n c (rows n (same_form c) row) (says_too R S rows c said)

-- a system of the rows of names is one of their table
module _ (lists : Lists) (starts names : List SetName) (closed : Closed) (s : OpSystem) where
  abbrev R : SetName → Form SetName → Type 0
  R n f = Contains (rows_of lists names) (n, f)

  abbrev T : SetName → Form SetName → Type 0
  T = table_of lists names

  there : (n : SetName) (f : Form SetName) → R n f → T n f
  there n f row = row_named lists names n f row

  back : (n : SetName) (f : Form SetName) → T n f → R n f
  back n f row = named_row lists names n f row.0 row.1

  pub as_table : IsSystem R starts names closed s → IsSystem T starts names closed s
  as_table system = record {
    parts = system.parts;
    all = system.all;
    written = adding.add_nothing SetName (PartRow R (Contains starts) (Says R) closed) (PartRow T (Contains starts) (Says T) closed)
        (changing.stays SetName R T (Contains starts) (Contains starts) (Says R) (Says T) closed there (λ n h. h) (λ n c w row said. says_too R T there c said))
        system.parts s.grammar.productions.items s.ops.items system.written
        (changing.stays SetName T R (Contains starts) (Contains starts) (Says T) (Says R) closed back (λ n h. h) (λ n c w row said. says_too T R back c said));
    begins = system.begins;
    named = system.named;
    sets = system.sets;
  }

-- names and numbers before anything is asked for
pub none_paired : (work : Work) → work.names.keys ≡ [] → work.numbers.items ≡ [] → IsPaired work
none_paired work names numbers = ap (λ (ns : List ℕ). length ns) numbers ∙ sym (ap (λ (ns : List SetName). length ns) names)

pub is_given : (given : GivenTexts) (request : List ℕ → Type 0) → IsClosed (closed_of given) request → IsGiven request given.grammar.count (length given.grammar.productions.items) (closed_of given)
is_given given request closed = record {
  texts = closed;
  below = given.grammar.below;
  request_below = given.grammar.start_below;
  integer_below = given.integer_below;
  size = refl;
}

module _ (asks : SetName → Type 0) (lists : Lists) (given : GivenTexts) (starts : List SetName) (empty begun_work work : Work) (no_names : empty.names.keys ≡ []) (no_numbers : empty.numbers.items ≡ []) (is_begun : IsBegun (closed_of given) given.grammar.count empty.draft)
    (begins : Begins empty begun_work starts) where
  abbrev closed : Closed
  closed = closed_of given

  -- the names after the first ones
  first_names : (n : SetName) → Contains begun_work.names.keys n → Contains starts n
  first_names n c = elim (begins.adds.only n c) [
    | inl o ↦ absurd (none_of n (subst (λ (ns : List SetName). Contains ns n) no_names o))
    | inr s ↦ s
  ]

  pub begun_asked : ((n : SetName) → Contains starts n → asks n) → (n : SetName) → Contains begun_work.names.keys n → asks n
  begun_asked may n c = may n (first_names n c)

  stands_first : Stands [] starts closed begun_work
  stands_first =
      let d = begun SetName closed given.grammar.count given.grammar.below given.no_token empty.draft is_begun given.grammar.start_below given.integer_below in
      begins.stands [] [] closed
      (subst (λ (ns : List SetName). IsDraft {N = SetName} [] [] ns empty.numbers.items closed empty.draft) (sym no_names) (subst (λ (ns : List ℕ). IsDraft {N = SetName} [] [] [] ns closed empty.draft) (sym no_numbers) d))

  module _ (listed : IsListed asks lists begun_work work (length work.names.keys)) where
    abbrev names : List SetName
    names = work.names.keys

    all : take (length names) names ≡ names
    all = take_all (length names) names (omega arith)

    stands : Stands (rows_of lists names) starts closed work
    stands = subst (λ (ns : List SetName). Stands (rows_of lists ns) starts closed work) all (listed.stands starts closed stands_first)

    pub is_below : IsBelow work.draft
    is_below = draft_below SetName starts names work.numbers.items closed (rows_of lists names) work.draft stands

    pub whole : AreWhole lists names
    whole n c f has row named = stands.forms_named n c f (named_row lists names n f has row) named

    reached : AreReached lists starts names
    reached k n at = elim (listed.reached k n at) [ inl first ↦ inl (first_names n first) | inr b ↦ inr b ]

    module _ (s : OpSystem) (finishes : Finishes work.draft s) where
      pub system : IsSystem (table_of lists names) starts names closed s
      system = as_table lists starts names closed s (finished SetName starts names work.numbers.items closed (rows_of lists names) work.draft stands s finishes)

      empty_due : (numbers_due empty.draft ≡ given.grammar.count + 1) × (lines_due empty.draft ≡ length given.grammar.productions.items)
      empty_due =
          let a = is_begun.count_is in
          let b : length empty.draft.lines.productions.items ≡ length given.grammar.productions.items = ap (λ (ps : List Production). length ps) is_begun.productions in
          let c : length empty.draft.lines.rules.items ≡ 0 = ap (λ (rs : List OpRule). length rs) is_begun.rules in
          let d : length empty.draft.waiting.items ≡ 0 = ap (λ (xs : List Waiting). length xs) is_begun.waiting in
          let e : waiting_bytes empty.draft.waiting.items ≡ 0 = ap waiting_bytes is_begun.waiting in
          (omega (arith, a, e), omega (arith, b, c, d, e))

      no_names_long : length empty.names.keys ≡ 0
      no_names_long = ap (λ (ns : List SetName). length ns) no_names

      pub made : (flow : PlainFlow) (request : List ℕ → Type 0) → AreEnds flow starts → AreDifferent names → IsClosed closed request → IsMadeBy request given.grammar.count (length given.grammar.productions.items) flow asks lists s
      made flow request ends different is_closed =
          let small = finished_small work.draft s finishes in
          let a = small.0 in
          let b = small.1 in
          let c = begins.grows.0 in
          let d = begins.grows.1 in
          let e = listed.numbers in
          let f = listed.lines in
          let g = empty_due.0 in
          let h = empty_due.1 in
          let i = no_names_long in
          let forms = ap (forms_in lists) all in
          let bytes = ap (bytes_in lists) all in
          record {
            starts = starts;
            names = names;
            closed = closed;
            ends = ends;
            once = different;
            asked = listed.asked;
            reached = reached;
            whole = whole;
            given = is_given given request is_closed;
            system = system;
            numbers = omega (arith, a, c, e, g, i, bytes);
            sizes = omega (arith, b, d, f, h, forms, bytes);
          }

-- each set to begin with has a nonterminal
pub start_named : (table : SetName → Form SetName → Type 0) (starts names : List SetName) (closed : Closed) (s : OpSystem) → IsSystem table starts names closed s → (n : SetName) → Contains starts n → Contains names n
start_named table starts names closed s system n has =
    let h = system.written.all_same start_part (set_part n) s.start system.begins (PartRow.start n has) in
    by h.0 h.1
  where
    by : (t : Symbol) → Denotes system.parts (set_part n) t → Contains names n
    by _ (Denotes.listed _ m at) = system.sets n m.0 at
