-- A state and the one that stands for it put out the same, and lead on to states that the same stand for.
use Rattle.std.proofs.Common.{◌≡◌, ℕ, Bool, true, false, ◌&&◌, ◌||◌, List, [], ◌∷◌, ◌++◌, Option, Some, None, refl, sym, ◌∙◌, ap}
use Rattle.std.specs.Prelude.{if◌then◌else◌, ◌==◌}
use Rattle.std.specs.Int.{is_in_range}
use Rattle.text_base.specs.declared.page_token.PageToken.{PageToken}
use Rattle.text_base.specs.declared.page_token.PageToken.TheVariants as token
use Rattle.dtd_model.specs.Table.{Table}
use Rattle.page_model.specs.Places.{Place, at_beginning, behind_mark, behind}
use Rattle.piece_steps.specs.Readers.{Move, go, fail, kept, to_state, put_out, last_tokens}
use Rattle.character_steps.specs.Bytes.{decoded, is_begun}
use Rattle.character_steps.specs.Encoded.{Held, lifted, by_character, is_some_byte}
use Rattle.page_model.specs.Fronts.{Open, nothing, in_reference, in_opener, in_tag_name, in_tag, at_empty_end, in_end_tag, in_comment, in_section, in_target, behind_target, in_instruction, in_declaration, at_declaration_end, in_doctype, kept_place}
use Rattle.page_steps.specs.PageSteps.{PageState, page_reader, page_hold, is_inside}
use Rattle.page_endings.specs.Ending.{open_can_end, takes_several, goes_on_with}
use Rattle.page_narrowing.specs.Passing.{passes, narrow_reader}
use Rattle.merged_reader.specs.Alike.{second_alike, alike, representative}
use Rattle.merged_reader.specs.Merging.{open_alike, takes_all_alike, merged_begun}
use Rattle.merged_reader.proofs.Whole.{is_whole, none_decoded, is_several}
use Rattle.merged_reader.proofs.Behind.{same_behind}
use Rattle.merged_reader.proofs.GoingOn.{alike_goes_on}
use Rattle.merged_reader.proofs.Steps.{alike_steps}

-- the state with the first bytes that stand for those of its open character
abbrev pub begun_held : Held PageState → Held PageState
begun_held h = record { state = h.state; begun = merged_begun h.state h.begun }

abbrev pub begun_option : Option (Held PageState) → Option (Held PageState)
begun_option None = None
begun_option (Some h) = Some (begun_held h)

-- what is kept of the place makes no difference
hold_alike : (place : Place) (o : Open) → open_alike (kept_place o (0x80 ∷ []) place) o ≡ open_alike place o
hold_alike at_beginning nothing = refl
hold_alike behind_mark nothing = refl
hold_alike (behind k) nothing = refl
hold_alike place (in_reference r) = refl
hold_alike place (in_opener begun) = refl
hold_alike place (in_tag_name name) = refl
hold_alike place (in_tag name names o) = refl
hold_alike place (at_empty_end name names) = refl
hold_alike place (in_end_tag name spaced) = refl
hold_alike place (in_comment dashes) = refl
hold_alike place (in_section brackets) = refl
hold_alike place (in_target o) = refl
hold_alike place behind_target = refl
hold_alike place (in_instruction asked) = refl
hold_alike place (in_declaration names o) = refl
hold_alike place at_declaration_end = refl
hold_alike place (in_doctype o) = refl

-- some bytes stand for some bytes
record IsSome (bytes : List ℕ) : Type 0 where
  first : ℕ
  more : List ℕ
  is : bytes ≡ first ∷ more

some_second : (a b : ℕ) → IsSome (second_alike a b)
some_second a b = by (a == 0xEF && b == 0xBF) (is_in_range 0xE0 0xEF a)
  where
    by : (x y : Bool) → IsSome (if x then a ∷ b ∷ [] else (if y then 0xE1 ∷ 0x80 ∷ [] else 0xF1 ∷ 0x80 ∷ []))
    by true y = record { first = a; more = b ∷ []; is = refl }
    by false true = record { first = 0xE1; more = 0x80 ∷ []; is = refl }
    by false false = record { first = 0xF1; more = 0x80 ∷ []; is = refl }

some_alike : (a : ℕ) (bytes : List ℕ) → IsSome (alike (a ∷ bytes))
some_alike a [] = record { first = _; more = []; is = refl }
some_alike a (b ∷ []) = some_second a b
some_alike a (b ∷ c ∷ bytes) = record { first = 0xF1; more = 0x80 ∷ 0x80 ∷ []; is = refl }

some_representative : (a : ℕ) (bytes : List ℕ) → IsSome (representative (a ∷ bytes))
some_representative a bytes = by (is_begun (a ∷ bytes))
  where
    by : (x : Bool) → IsSome (if x then alike (a ∷ bytes) else a ∷ bytes)
    by true = some_alike a bytes
    by false = record { first = a; more = bytes; is = refl }

none_representative : representative [] ≡ []
unfolding is_begun
none_representative = refl

same_some : (bytes : List ℕ) → is_some_byte (representative bytes) ≡ is_some_byte bytes
same_some [] = ap is_some_byte none_representative
same_some (a ∷ bytes) = ap is_some_byte (some_representative a bytes).is

-- behind some bytes
none_behind : (a : ℕ) (bytes : List ℕ) (b : ℕ) → is_whole (a ∷ (bytes ++ b ∷ [])) ≡ false → decoded (a ∷ (bytes ++ b ∷ [])) ≡ None
none_behind a [] b h = none_decoded a b [] h
none_behind a (c ∷ bytes) b h = none_decoded a c (bytes ++ b ∷ []) h

some_end : (bytes : List ℕ) (b : ℕ) → is_some_byte (bytes ++ b ∷ []) ≡ true
some_end [] b = refl
some_end (a ∷ bytes) b = refl

and_true : (b : Bool) → (b && true) ≡ b
and_true true = refl
and_true false = refl

-- what moves put out, and where they lead
pub record SameMoves (table : Table) (m n : Move Place PageToken (Held PageState)) : Type 0 where
  pub puts : put_out (narrow_reader table) m ≡ put_out (narrow_reader table) n
  pub leads : begun_option (to_state (narrow_reader table) m) ≡ begun_option (to_state (narrow_reader table) n)

module _ (table : Table) (s : PageState) (takes : takes_all_alike s ≡ true) (b : ℕ) where
  abbrev step : List ℕ → Move Place PageToken (Held PageState)
  step x = (narrow_reader table).step (record { state = s; begun = x }) b

  abbrev by_option : List ℕ → Option ℕ → Move Place PageToken (Held PageState)
  by_option x o = kept (passes table) (by_character (page_reader table) page_hold s (x ++ b ∷ []) o)

  same_moves : (m n : Move Place PageToken (Held PageState)) → m ≡ n → SameMoves table m n
  same_moves m n e = record {
    puts = ap (put_out (narrow_reader table)) e;
    leads = ap (λ (k : Move Place PageToken (Held PageState)). begun_option (to_state (narrow_reader table) k)) e;
  }

  -- the byte ends a character
  ends : (x : List ℕ) → is_whole (x ++ b ∷ []) ≡ true → step (representative x) ≡ step x
  ends x h =
      let y = representative x in
      let c = is_several (x ++ b ∷ []) h in
      let d = is_several (y ++ b ∷ []) ((same_behind x b).whole ∙ h) in
      ap (by_option y) d.is
      ∙ ap (λ (m : Move Place PageToken PageState). kept (passes table) (lifted m))
      (alike_steps table d.c c.c d.several d.character c.several c.character s takes)
      ∙ sym (ap (by_option x) c.is)

  -- it ends none
  abbrev held : List ℕ → Held PageState
  held x = record { state = page_hold s; begun = x ++ b ∷ [] }

  abbrev by_tests : List ℕ → Bool → Bool → Move Place PageToken (Held PageState)
  by_tests x begun passes = if begun then (if passes then go (held x) else fail) else fail

  pass : (x : List ℕ) → passes table (held x) ≡ (open_can_end table s.inside && takes_several s.inside)
  pass x =
      ap (λ (y : Bool). open_can_end table s.inside && (if y then takes_several s.inside && goes_on_with table s.inside (x ++ b ∷ []) else true)) (some_end x b)
      ∙ ap (λ (y : Bool). open_can_end table s.inside && (takes_several s.inside && y)) (alike_goes_on table s.place s.inside (x ++ b ∷ []) takes)
      ∙ ap (λ (y : Bool). open_can_end table s.inside && y) (and_true (takes_several s.inside))

  stays_open : (a : ℕ) (x : List ℕ) → is_whole (a ∷ (x ++ b ∷ [])) ≡ false
      → step (a ∷ x) ≡ by_tests (a ∷ x) (is_begun (a ∷ (x ++ b ∷ []))) (open_can_end table s.inside && takes_several s.inside)
  stays_open a x h = ap (by_option (a ∷ x)) (none_behind a x b h) ∙ by (is_begun (a ∷ (x ++ b ∷ [])))
    where
      by : (y : Bool) → kept (passes table) (if y then go (held (a ∷ x)) else fail) ≡ by_tests (a ∷ x) y (open_can_end table s.inside && takes_several s.inside)
      by true = ap (λ (z : Bool). if z then go (held (a ∷ x)) else fail) (pass (a ∷ x))
      by false = refl

  takes_held : takes_all_alike (page_hold s) ≡ true
  takes_held = hold_alike s.place s.inside ∙ takes

  abbrev held_as : List ℕ → Held PageState
  held_as bytes = record { state = page_hold s; begun = bytes }

  merged_same : (x : List ℕ) → begun_held (held x) ≡ held_as (representative (x ++ b ∷ []))
  merged_same x = ap (λ (y : Bool). held_as (if y then representative (x ++ b ∷ []) else x ++ b ∷ [])) takes_held

  by_parts : (x y : List ℕ) (begun passes : Bool) → (begun ≡ true → representative (y ++ b ∷ []) ≡ representative (x ++ b ∷ []))
      → SameMoves table (by_tests y begun passes) (by_tests x begun passes)
  by_parts x y true true same = record {
    puts = refl;
    leads = ap (λ (h : Held PageState). Some h) (merged_same y ∙ ap held_as (same refl) ∙ sym (merged_same x));
  }
  by_parts x y true false same = record { puts = refl; leads = refl }
  by_parts x y false passes same = record { puts = refl; leads = refl }

  joined : (k l m n : Move Place PageToken (Held PageState)) → k ≡ l → SameMoves table l m → n ≡ m → SameMoves table k n
  joined k l m n p same q =
      let f = same_moves k l p in
      let g = same_moves n m q in
      record { puts = f.puts ∙ same.puts ∙ sym g.puts; leads = f.leads ∙ same.leads ∙ sym g.leads }

  open_moves : (a : ℕ) (u : List ℕ) → is_whole (a ∷ (u ++ b ∷ [])) ≡ false → SameMoves table (step (representative (a ∷ u))) (step (a ∷ u))
  open_moves a u h =
      let x : List ℕ = a ∷ u in
      let y : List ℕ = representative x in
      let w = some_representative a u in
      let z : List ℕ = w.first ∷ w.more in
      let behind = same_behind x b in
      let test : Bool = open_can_end table s.inside && takes_several s.inside in
      let whole : is_whole (z ++ b ∷ []) ≡ false = ap (λ (bytes : List ℕ). is_whole (bytes ++ b ∷ [])) (sym w.is) ∙ behind.whole ∙ h in
      let begun : is_begun (z ++ b ∷ []) ≡ is_begun (x ++ b ∷ []) = ap (λ (bytes : List ℕ). is_begun (bytes ++ b ∷ [])) (sym w.is) ∙ behind.begun in
      let leads : step y ≡ by_tests y (is_begun (x ++ b ∷ [])) test =
      ap step w.is ∙ stays_open w.first w.more whole ∙ ap (λ (c : Bool). by_tests z c test) begun
      ∙ ap (λ (bytes : List ℕ). by_tests bytes (is_begun (x ++ b ∷ [])) test) (sym w.is) in
      joined (step y) (by_tests y (is_begun (x ++ b ∷ [])) test) (by_tests x (is_begun (x ++ b ∷ [])) test) (step x) leads
      (by_parts x y (is_begun (x ++ b ∷ [])) test behind.same) (stays_open a u h)

  representative_moves : (x : List ℕ) → SameMoves table (step (representative x)) (step x)
  representative_moves [] = same_moves (step (representative [])) (step []) (ap step none_representative)
  representative_moves (a ∷ u) = at (is_whole (a ∷ (u ++ b ∷ []))) refl
    where
      at : (z : Bool) → is_whole (a ∷ (u ++ b ∷ [])) ≡ z → SameMoves table (step (representative (a ∷ u))) (step (a ∷ u))
      at true h = same_moves (step (representative (a ∷ u))) (step (a ∷ u)) (ends (a ∷ u) h)
      at false h = open_moves a u h

pub begun_moves : (table : Table) (h : Held PageState) (b : ℕ)
    → SameMoves table ((narrow_reader table).step (begun_held h) b) ((narrow_reader table).step h b)
begun_moves table h b = at (takes_all_alike h.state) refl
  where
    move : Bool → Move Place PageToken (Held PageState)
    move x = (narrow_reader table).step (record { state = h.state; begun = if x then representative h.begun else h.begun }) b

    at : (x : Bool) → takes_all_alike h.state ≡ x → SameMoves table (move x) ((narrow_reader table).step h b)
    at true e = representative_moves table h.state e b h.begun
    at false e = record { puts = refl; leads = refl }

pub begun_last : (table : Table) (h : Held PageState) → last_tokens (narrow_reader table) (begun_held h) ≡ last_tokens (narrow_reader table) h
begun_last table h = at (takes_all_alike h.state)
  where
    at : (x : Bool)
        → last_tokens (narrow_reader table) (record { state = h.state; begun = if x then representative h.begun else h.begun }) ≡ last_tokens (narrow_reader table) h
    at true = ap (λ (y : Bool). if y || is_inside h.state.inside then token.Bad ∷ [] else []) (same_some h.begun)
    at false = refl
