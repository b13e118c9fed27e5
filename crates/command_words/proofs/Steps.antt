-- How a walk over canonical words goes on, part by part.
use Rattle.std.proofs.Common.{◌≡◌, ◌==◌, ◌⊎◌, ◌∙◌, ◌++◌, ◌||◌, ◌&&◌, ap, ℕ, Bool, true, false, List, [], ◌∷◌, Option, Some, None, refl, sym, subst, inl, inr, codes, true≢false}
use Rattle.std.specs.Prelude.{fold, is_some, cond}
use Rattle.std.specs.List.{list_all}
use Rattle.std.specs.Str.{bytes_eq}
use Rattle.clap.specs.Walk.{Held, Names, Row, Rule, Text, Walk, idle, option as waits_for, at_row, has_row, settled, with_values, without, with_default, default_rows, more_values, walked, reading_by, arg_by_id, arg_by_long, arg_by_index, finished, nothing_held, walk_from, reacted, rows_after, stop_after, first_of}
use Rattle.clap.specs.Simple.{App, Shape, entered, names_of}
use Rattle.clap.specs.Facts.{explicit_source}
use Rattle.clap.specs.Takes.{settle_passes, turn_passes, walk_passes, is_given, use_passes, level_passes, default_passes, is_valid, entered_passes, built_takes}
use Rattle.clap.specs.Lexer.{long_of, short_of}
use Rattle.clap.specs.declared.parser.matches.ValueSource.{ValueSource}
use Rattle.clap.specs.declared.builder.value_parser.Reading.{Reading}
use Rattle.command_words.specs.Program.{Row as Command}
use Rattle.command_words.specs.Asked.{is_help, has_help}
use Rattle.command_words.specs.Canonical.{Part, place, joined, apart, flag, IsPlain, is_among, AreParts, IsAmong, IsEnd, last_words, all_words}
use Rattle.command_words.proofs.Rows.{new_row, option_rule, flag_rule, place_rule, option_row, flag_row, place_row, parts_rows, end_rows}

-- ---- Bools

or_false : (a b : Bool) → (a || b) ≡ false → (a ≡ false) × (b ≡ false)
or_false true b e = absurd (true≢false e)
or_false false b e = (refl, e)

and_true : (a b : Bool) → (a && b) ≡ true → (a ≡ true) × (b ≡ true)
and_true true b e = (refl, e)
and_true false b e = absurd (true≢false (sym e))

and_false : (a : Bool) → (a && false) ≡ false
and_false true = refl
and_false false = refl

or_swap : (a b c : Bool) → (a || (b || c)) ≡ (b || (a || c))
or_swap true true c = refl
or_swap true false c = refl
or_swap false true c = refl
or_swap false false c = refl

-- ---- rows

pub added : (n : Text) (f : Row → List Row) (x : List Row) (rows : List Row) → has_row n rows ≡ false → at_row n f x rows ≡ rows ++ x
added n f x [] e = refl
added n f x (r ∷ rs) e =
    let p = or_false (bytes_eq r.id n) _ e in
    rw p.0 (ap (λ (t : List Row). r ∷ t) (added n f x rs p.1))

append_nil : (rows : List Row) → rows ++ [] ≡ rows
append_nil [] = refl
append_nil (r ∷ rs) = ap (λ (t : List Row). r ∷ t) (append_nil rs)

pub has_added : (m : Text) (x : Row) (rows : List Row) → has_row m (rows ++ x ∷ []) ≡ (bytes_eq x.id m || has_row m rows)
has_added m x [] = refl
has_added m x (r ∷ rs) = ap (λ (t : Bool). bytes_eq r.id m || t) (has_added m x rs) ∙ or_swap (bytes_eq r.id m) (bytes_eq x.id m) (has_row m rs)

abbrev pub all_explicit : List Row → Bool
all_explicit rows = list_all (λ r. explicit_source r.source) rows

pub explicit_added : (x : Row) (rows : List Row) → explicit_source x.source ≡ true → all_explicit rows ≡ true → all_explicit (rows ++ x ∷ []) ≡ true
explicit_added x [] is e = rw is refl
explicit_added x (r ∷ rs) is e =
    let p = and_true (explicit_source r.source) _ e in
    rw p.0 (explicit_added x rs is p.1)

pub given_of : (n : Text) (rows : List Row) → all_explicit rows ≡ true → has_row n rows ≡ true → is_given n rows ≡ true
given_of n [] e has = absurd (true≢false (sym has))
given_of n (r ∷ rs) e has = go (bytes_eq r.id n) refl (and_true (explicit_source r.source) _ e) (given_of n rs)
  where
    go : (t : Bool) → bytes_eq r.id n ≡ t → (explicit_source r.source ≡ true) × (all_explicit rs ≡ true)
        → (all_explicit rs ≡ true → has_row n rs ≡ true → is_given n rs ≡ true) → is_given n (r ∷ rs) ≡ true
    go true t p rec = rw t p.0
    go false t p rec = rw t (rec p.1 (rw t at has))

pub given_more : (n : Text) (rows more : List Row) → is_given n rows ≡ true → is_given n (rows ++ more) ≡ true
given_more n [] more e = absurd (true≢false (sym e))
given_more n (r ∷ rs) more e = go (bytes_eq r.id n) refl (given_more n rs more)
  where
    go : (t : Bool) → bytes_eq r.id n ≡ t → (is_given n rs ≡ true → is_given n (rs ++ more) ≡ true) → is_given n (r ∷ rs ++ more) ≡ true
    go true t rec = rw t (rw t at e)
    go false t rec = rw t (rec (rw t at e))

given_default : (n : Text) (rows : List Row) (a : Rule) → is_given n rows ≡ true → is_given n (with_default rows a) ≡ true
given_default n rows a e = go (has_row a.id rows) refl a.defaults
  where
    go : (t : Bool) → has_row a.id rows ≡ t → (vs : List Text) → is_given n (cond (has_row a.id rows) rows (default_rows a.id (reading_by a) vs rows)) ≡ true
    go true t vs = rw t e
    go false t [] = rw t e
    go false t (v ∷ vs) = rw t (rw (added a.id _ _ rows t) (given_more n rows _ e))

pub given_finally : (n : Text) (c : List Rule) (rows : List Row) → is_given n rows ≡ true → is_given n (fold with_default rows c) ≡ true
given_finally n [] rows e = e
given_finally n (a ∷ c) rows e = given_finally n c (with_default rows a) (given_default n rows a e)

-- ---- where the walk stands

pub record Ready (c : List Rule) (so_far : List Text) (rs : List Row) (h : Held) : Type 0 where
  pub settles : settle_passes c false h ≡ true
  pub rows : (n : Text) → has_row n (settled c h).rows ≡ is_among n so_far
  pub explicit : all_explicit (settled c h).rows ≡ true
  pub exact : (settled c h).rows ≡ rs

abbrev pub stands : Held → ℕ → Walk
stands h p = record { held = h; waiting = idle; position = p; is_trailing = false; stopped = None }

-- the rows with one more
pub with_new : (n : Text) (how : Reading) (vs : List Text) (rows : List Row) → has_row n rows ≡ false
    → with_values n how ValueSource.CommandLine vs (without n rows) ≡ rows ++ new_row n how vs ∷ []
with_new n how vs rows e = ap (with_values n how ValueSource.CommandLine vs) (added n (λ _. []) [] rows e ∙ append_nil rows)
    ∙ added n (more_values ValueSource.CommandLine vs) (new_row n how vs ∷ []) rows e

-- ---- the arguments, built

option_passes : (n v : Text) (rows : List Row) → has_row n rows ≡ false → use_passes false (option_rule n) (v ∷ []) rows ≡ true
option_passes n v rows e = rw e refl

flag_passes : (n : Text) (rows : List Row) → has_row n rows ≡ false → use_passes false (flag_rule n) [] rows ≡ true
flag_passes n rows e = rw e refl

place_passes : (n v : Text) (rows : List Row) → has_row n rows ≡ false → use_passes false (place_rule n) (v ∷ []) rows ≡ true
place_passes n v rows e = rw e refl

join_rows : (rs : List Row) (x : Row) (rest : List Row) → (rs ++ x ∷ []) ++ rest ≡ rs ++ x ∷ rest
join_rows [] x rest = refl
join_rows (r ∷ rs) x rest = ap (λ (t : List Row). r ∷ t) (join_rows rs x rest)

-- what is held, with a new row
grown : (c : List Rule) (so_far : List Text) (rs : List Row) (h after : Held) (n : Text) (how : Reading) (vs : List Text) → Ready c so_far rs h → is_among n so_far ≡ false
    → settle_passes c false after ≡ true
    → (settled c after).rows ≡ with_values n how ValueSource.CommandLine vs (without n (settled c h).rows)
    → Ready c (n ∷ so_far) (rs ++ new_row n how vs ∷ []) after
grown c so_far rs h after n how vs ready new passes is =
    let rows = is ∙ with_new n how vs (settled c h).rows (ready.rows n ∙ new) in
    record {
      settles = passes;
      rows = λ m. ap (has_row m) rows ∙ has_added m (new_row n how vs) (settled c h).rows ∙ ap (λ (t : Bool). bytes_eq n m || t) (ready.rows m);
      explicit = ap all_explicit rows ∙ explicit_added (new_row n how vs) (settled c h).rows refl ready.explicit;
      exact = rows ∙ ap (λ (t : List Row). t ++ new_row n how vs ∷ []) ready.exact;
    }

-- what a command's table says, to be computed for each command
pub record Table (s : Shape) (row : Command) : Type 0 where
  pub own : bytes_eq row.place row.place ≡ true
  pub valid : (rows : List Row) → is_given row.place rows ≡ true → is_valid s rows false ≡ true
  pub defaults : list_all default_passes s.rules ≡ true
  pub sees : s.args_override_self ≡ false
  pub by_index : arg_by_index s.rules 1 ≡ Some (place_rule row.place)
  pub place_id : arg_by_id s.rules row.place ≡ Some (place_rule row.place)
  pub option_long : (n : Text) → IsAmong n row.options → arg_by_long s.rules n ≡ Some (option_rule n)
  pub option_id : (n : Text) → IsAmong n row.options → arg_by_id s.rules n ≡ Some (option_rule n)
  pub option_same : (n : Text) → IsAmong n row.options → bytes_eq n n ≡ true
  pub flag_long : (n : Text) → IsAmong n row.flags → arg_by_long s.rules n ≡ Some (flag_rule n)
  pub joined_long : (n v : Text) → IsAmong n row.options → long_of (45 ∷ 45 ∷ n ++ 61 ∷ v) ≡ Some (n, Some v)
  pub joined_bare : (n v : Text) → IsAmong n row.options → bytes_eq (45 ∷ 45 ∷ n ++ 61 ∷ v) (45 ∷ 45 ∷ []) ≡ false
  pub option_text : (n : Text) → IsAmong n row.options → long_of (45 ∷ 45 ∷ n) ≡ Some (n, None)
  pub option_bare : (n : Text) → IsAmong n row.options → bytes_eq (45 ∷ 45 ∷ n) (45 ∷ 45 ∷ []) ≡ false
  pub flag_text : (n : Text) → IsAmong n row.flags → long_of (45 ∷ 45 ∷ n) ≡ Some (n, None)
  pub flag_bare : (n : Text) → IsAmong n row.flags → bytes_eq (45 ∷ 45 ∷ n) (45 ∷ 45 ∷ []) ≡ false
  pub joined_free : (n v : Text) → IsAmong n row.options → is_help (45 ∷ 45 ∷ n ++ 61 ∷ v) ≡ false
  pub option_free : (n : Text) → IsAmong n row.options → is_help (45 ∷ 45 ∷ n) ≡ false
  pub flag_free : (n : Text) → IsAmong n row.flags → is_help (45 ∷ 45 ∷ n) ≡ false

module _ (s : Shape) (sees : s.args_override_self ≡ false) where
  abbrev c : List Rule
  c = s.rules

  -- --name=value
  pub joined_passes : (word n v : Text) (h : Held) (p : ℕ) (so_far : List Text) (rs : List Row) → long_of word ≡ Some (n, Some v) → bytes_eq word (45 ∷ 45 ∷ []) ≡ false
      → arg_by_long c n ≡ Some (option_rule n) → Ready c so_far rs h → is_among n so_far ≡ false
      → (turn_passes s [] (stands h p) word ≡ true)
      × ((after : Held) × (walked c [] (stands h p) word ≡ stands after p) × Ready c (n ∷ so_far) (rs ++ option_row n v ∷ []) after)
  unfolding walked
  joined_passes word n v h p so_far rs long bare by_long ready new = (
    rw (bare, long, by_long, sees, ready.settles, option_passes n v (settled c h).rows (ready.rows n ∙ new)) refl,
    (
      reacted c (option_rule n) (v ∷ []) h,
      rw (bare, long, by_long) refl,
      grown c so_far rs h (reacted c (option_rule n) (v ∷ []) h) n (reading_by (option_rule n)) (v ∷ []) ready new refl refl,
    ),
  )

  -- --name, of a flag
  pub flag_turn : (word n : Text) (h : Held) (p : ℕ) (so_far : List Text) (rs : List Row) → long_of word ≡ Some (n, None) → bytes_eq word (45 ∷ 45 ∷ []) ≡ false
      → arg_by_long c n ≡ Some (flag_rule n) → Ready c so_far rs h → is_among n so_far ≡ false
      → (turn_passes s [] (stands h p) word ≡ true)
      × ((after : Held) × (walked c [] (stands h p) word ≡ stands after p) × Ready c (n ∷ so_far) (rs ++ flag_row n ∷ []) after)
  unfolding walked
  flag_turn word n h p so_far rs long bare by_long ready new = (
    rw (bare, long, by_long, sees, ready.settles, flag_passes n (settled c h).rows (ready.rows n ∙ new)) refl,
    (
      reacted c (flag_rule n) [] h,
      rw (bare, long, by_long) refl,
      grown c so_far rs h (reacted c (flag_rule n) [] h) n (reading_by (flag_rule n)) (codes "true" ∷ []) ready new refl refl,
    ),
  )

  abbrev waiting_value : (n : Text) → Held → ℕ → Walk
  waiting_value n h p = record (stands (record (settled c h) { pending = Some (n, []) }) p) { waiting = waits_for n }

  -- --name, of an option whose value is the next word
  name_turn : (word n : Text) (h : Held) (p : ℕ) (so_far : List Text) (rs : List Row) → long_of word ≡ Some (n, None) → bytes_eq word (45 ∷ 45 ∷ []) ≡ false
      → arg_by_long c n ≡ Some (option_rule n) → Ready c so_far rs h
      → (turn_passes s [] (stands h p) word ≡ true) × (walked c [] (stands h p) word ≡ waiting_value n h p)
  unfolding walked
  name_turn word n h p so_far rs long bare by_long ready = (
    rw (bare, long, by_long, sees, ready.settles) refl,
    rw (bare, long, by_long) refl,
  )

  value_turn : (n v : Text) (h : Held) (p : ℕ) (so_far : List Text) (rs : List Row) → bytes_eq v (45 ∷ 45 ∷ []) ≡ false → long_of v ≡ None → short_of v ≡ None → bytes_eq n n ≡ true
      → arg_by_id c n ≡ Some (option_rule n) → Ready c so_far rs h → is_among n so_far ≡ false
      → (turn_passes s [] (waiting_value n h p) v ≡ true)
      × ((after : Held) × (walked c [] (waiting_value n h p) v ≡ stands after p) × Ready c (n ∷ so_far) (rs ++ option_row n v ∷ []) after)
  unfolding walked
  value_turn n v h p so_far rs bare long short same by_id ready new = (
    rw (bare, long, short) refl,
    (
      record (settled c h) { pending = Some (n, v ∷ []) },
      rw (bare, long, short, by_id, same) refl,
      grown c so_far rs h (record (settled c h) { pending = Some (n, v ∷ []) }) n (reading_by (option_rule n)) (v ∷ []) ready new
          (rw (by_id, option_passes n v (settled c h).rows (ready.rows n ∙ new)) refl)
          (rw by_id refl),
    ),
  )

  pub place_turn : (n v : Text) (h : Held) (so_far : List Text) (rs : List Row) → bytes_eq v (45 ∷ 45 ∷ []) ≡ false → long_of v ≡ None → short_of v ≡ None
      → arg_by_index c 1 ≡ Some (place_rule n) → arg_by_id c n ≡ Some (place_rule n) → Ready c so_far rs h → is_among n so_far ≡ false
      → (turn_passes s [] (stands h 1) v ≡ true)
      × ((after : Held) × (walked c [] (stands h 1) v ≡ stands after 2) × Ready c (n ∷ so_far) (rs ++ place_row n v ∷ []) after)
  unfolding walked
  place_turn n v h so_far rs bare long short by_index by_id ready new = (
    rw (bare, long, short, by_index, and_false, sees, ready.settles) refl,
    (
      record (settled c h) { pending = Some (n, v ∷ []) },
      rw (bare, long, short, by_index, and_false) refl,
      grown c so_far rs h (record (settled c h) { pending = Some (n, v ∷ []) }) n (reading_by (place_rule n)) (v ∷ []) ready new
          (rw (by_id, place_passes n v (settled c h).rows (ready.rows n ∙ new)) refl)
          (rw by_id refl),
    ),
  )

-- a value that is plain holds one byte, or begins with another than `-`
by_plain : (P : Text → Type 0) → ((x : ℕ) → P (x ∷ [])) → ((x : ℕ) (xs : Text) → (x == 45) ≡ false → P (x ∷ xs)) → (v : Text) → IsPlain v → P v
by_plain P one many [] e = absurd e
by_plain P one many (x ∷ []) e = one x
by_plain P one many (x ∷ y ∷ xs) e = many x (y ∷ xs) e

pub plain_bare : (v : Text) → IsPlain v → bytes_eq v (45 ∷ 45 ∷ []) ≡ false
plain_bare = by_plain (λ v. bytes_eq v (45 ∷ 45 ∷ []) ≡ false) (λ x. and_false (x == 45)) (λ x xs e. rw e refl)

plain_long : (v : Text) → IsPlain v → long_of v ≡ None
plain_long = by_plain (λ v. long_of v ≡ None) (λ x. one x (x == 45) refl) (λ x xs e. rw e refl)
  where
    one : (x : ℕ) (t : Bool) → (x == 45) ≡ t → long_of (x ∷ []) ≡ None
    one x true e = rw e refl
    one x false e = rw e refl

plain_short : (v : Text) → IsPlain v → short_of v ≡ None
plain_short = by_plain (λ v. short_of v ≡ None) (λ x. one x (x == 45) refl) (λ x xs e. rw e refl)
  where
    one : (x : ℕ) (t : Bool) → (x == 45) ≡ t → short_of (x ∷ []) ≡ None
    one x true e = rw e refl
    one x false e = rw e refl

plain_free : (v : Text) → IsPlain v → is_help v ≡ false
plain_free = by_plain (λ v. is_help v ≡ false) (λ x. one x (x == 45) refl) (λ x xs e. rw e refl)
  where
    one : (x : ℕ) (t : Bool) → (x == 45) ≡ t → is_help (x ∷ []) ≡ false
    one x true e = rw e refl
    one x false e = rw e refl

-- ---- no part asks for help

without_help : (word : Text) (rest : List Text) → is_help word ≡ false → has_help rest ≡ false → has_help (word ∷ rest) ≡ false
without_help word rest free more = rw (free, more) (and_false _)

pub parts_ask_no_help : (s : Shape) (row : Command) → Table s row → (ps : List Part) (last : Option Text) (so_far : List Text) → AreParts row so_far ps last
    → has_help (all_words ps last) ≡ false
parts_ask_no_help s row t [] None so_far fits = refl
parts_ask_no_help s row t [] (Some v) so_far fits = refl
parts_ask_no_help s row t (place v ∷ ps) last so_far fits =
    without_help v (all_words ps last) (plain_free v fits.0.0) (parts_ask_no_help s row t ps last (row.place ∷ so_far) fits.1)
parts_ask_no_help s row t (joined n v ∷ ps) last so_far fits =
    without_help (45 ∷ 45 ∷ n ++ 61 ∷ v) (all_words ps last) (t.joined_free n v fits.0.1) (parts_ask_no_help s row t ps last (n ∷ so_far) fits.1)
parts_ask_no_help s row t (apart n v ∷ ps) last so_far fits =
    without_help (45 ∷ 45 ∷ n) (v ∷ all_words ps last) (t.option_free n fits.0.1)
    (without_help v (all_words ps last) (plain_free v fits.0.0) (parts_ask_no_help s row t ps last (n ∷ so_far) fits.1))
parts_ask_no_help s row t (flag n ∷ ps) last so_far fits =
    without_help (45 ∷ 45 ∷ n) (all_words ps last) (t.flag_free n fits.0.0) (parts_ask_no_help s row t ps last (n ∷ so_far) fits.1)

-- ---- all the parts

abbrev pub Walks : Shape → Walk → List Text → Text → List Row → Type 0
Walks s before words at rs = (walk_passes s [] before words ≡ true)
    × ((end : Walk) × (all : List Text) × (fold (walked s.rules []) before words ≡ end) × Ready s.rules all rs end.held × (is_among at all ≡ true))

one_more : (s : Shape) (before after : Walk) (word : Text) (rest : List Text) (at : Text) (rs : List Row) → turn_passes s [] before word ≡ true → walked s.rules [] before word ≡ after
    → Walks s after rest at rs → Walks s before (word ∷ rest) at rs
unfolding walk_passes
one_more s before after word rest at rs turn is w = (
  rw (turn, is) w.0,
  (w.1.0, w.1.1, ap (λ (x : Walk). fold (walked s.rules []) x rest) is ∙ w.1.2, w.1.3, w.1.4),
)

is_new_place : (at n : Text) (so_far : List Text) (p : ℕ) → (is_among at so_far ≡ false → p ≡ 1) → is_among at (n ∷ so_far) ≡ false → p ≡ 1
is_new_place at n so_far p h e = h (or_false (bytes_eq n at) _ e).1

last_turn : (s : Shape) (n v : Text) (h : Held) (so_far : List Text) (rs : List Row)
    → arg_by_index s.rules 1 ≡ Some (place_rule n) → arg_by_id s.rules n ≡ Some (place_rule n) → Ready s.rules so_far rs h → is_among n so_far ≡ false
    → s.args_override_self ≡ false
    → (turn_passes s [] (record (stands h 1) { is_trailing = true }) v ≡ true)
    × ((after : Walk) × (walked s.rules [] (record (stands h 1) { is_trailing = true }) v ≡ after) × Ready s.rules (n ∷ so_far) (rs ++ place_row n v ∷ []) after.held)
unfolding walked
last_turn s n v h so_far rs by_index by_id ready new sees = (
  rw (by_index, and_false, sees, ready.settles) refl,
  (
    record (stands (record (settled s.rules h) { pending = Some (n, v ∷ []) }) 2) { is_trailing = true },
    rw (by_index, and_false) refl,
    grown s.rules so_far rs h (record (settled s.rules h) { pending = Some (n, v ∷ []) }) n (reading_by (place_rule n)) (v ∷ []) ready new
        (rw (by_id, place_passes n v (settled s.rules h).rows (ready.rows n ∙ new)) refl)
        (rw by_id refl),
  ),
)

dashes_turn : (s : Shape) (h : Held) → (turn_passes s [] (stands h 1) (45 ∷ 45 ∷ []) ≡ true) × (walked s.rules [] (stands h 1) (45 ∷ 45 ∷ []) ≡ record (stands h 1) { is_trailing = true })
unfolding walked
dashes_turn s h = (refl, refl)

ends_walk : (s : Shape) (row : Command) (t : Table s row) (last : Option Text)
    (h : Held) (p : ℕ) (so_far : List Text) (rs : List Row) → IsEnd row.place so_far last → Ready s.rules so_far rs h
    → (is_among row.place so_far ≡ false → p ≡ 1) → Walks s (stands h p) (last_words last) row.place (rs ++ end_rows row.place last)
unfolding walk_passes
ends_walk s row t None h p so_far rs fits ready place_is =
    (refl, (stands h p, so_far, refl, subst (λ (u : List Row). Ready s.rules so_far u h) (sym (append_nil rs)) ready, fits))
ends_walk s row t (Some v) h p so_far rs fits ready place_is =
    let dashes = dashes_turn s h in
    let turn = last_turn s row.place v h so_far rs t.by_index t.place_id ready fits t.sees in
    let rows = rs ++ place_row row.place v ∷ [] in
    let done : Walks s turn.1.0 [] row.place rows = (refl, (turn.1.0, row.place ∷ so_far, refl, turn.1.2, rw t.own refl)) in
    subst (λ (k : ℕ). Walks s (stands h k) ((45 ∷ 45 ∷ []) ∷ v ∷ []) row.place rows) (sym (place_is fits))
    (one_more s (stands h 1) (record (stands h 1) { is_trailing = true }) (45 ∷ 45 ∷ []) (v ∷ []) row.place rows dashes.0 dashes.1
    (one_more s (record (stands h 1) { is_trailing = true }) turn.1.0 v [] row.place rows turn.0 turn.1.1 done))

module _ (s : Shape) (row : Command) (t : Table s row) (last : Option Text) where
  pub parts_walk : (ps : List Part) (h : Held) (p : ℕ) (so_far : List Text) (rs : List Row) → AreParts row so_far ps last → Ready s.rules so_far rs h
      → (is_among row.place so_far ≡ false → p ≡ 1) → Walks s (stands h p) (all_words ps last) row.place (rs ++ parts_rows row.place last ps)
  unfolding walk_passes
  parts_walk [] h p so_far rs fits ready place_is = ends_walk s row t last h p so_far rs fits ready place_is
  parts_walk (place v ∷ ps) h p so_far rs fits ready place_is =
      let is_1 = place_is fits.0.1 in
      let turn = place_turn s t.sees row.place v h so_far rs (plain_bare v fits.0.0) (plain_long v fits.0.0) (plain_short v fits.0.0) t.by_index t.place_id ready fits.0.1 in
      let rest = subst (Walks s _ (all_words ps last) row.place) (join_rows rs (place_row row.place v) (parts_rows row.place last ps)) (parts_walk ps turn.1.0 2 (row.place ∷ so_far) (rs ++ place_row row.place v ∷ []) fits.1 turn.1.2 (λ e. absurd (true≢false (sym t.own ∙ (or_false (bytes_eq row.place row.place) _ e).0)))) in
      subst (λ (k : ℕ). Walks s (stands h k) (v ∷ all_words ps last) row.place (rs ++ place_row row.place v ∷ parts_rows row.place last ps)) (sym is_1) (one_more s (stands h 1) (stands turn.1.0 2) v (all_words ps last) row.place (rs ++ place_row row.place v ∷ parts_rows row.place last ps) turn.0 turn.1.1 rest)
  parts_walk (joined n v ∷ ps) h p so_far rs fits ready place_is =
      let is = fits.0.1 in
      let turn = joined_passes s t.sees (45 ∷ 45 ∷ n ++ 61 ∷ v) n v h p so_far rs (t.joined_long n v is) (t.joined_bare n v is) (t.option_long n is) ready fits.0.2 in
      let rest = subst (Walks s _ (all_words ps last) row.place) (join_rows rs (option_row n v) (parts_rows row.place last ps)) (parts_walk ps turn.1.0 p (n ∷ so_far) (rs ++ option_row n v ∷ []) fits.1 turn.1.2 (is_new_place row.place n so_far p place_is)) in
      one_more s (stands h p) (stands turn.1.0 p) (45 ∷ 45 ∷ n ++ 61 ∷ v) (all_words ps last) row.place (rs ++ option_row n v ∷ parts_rows row.place last ps) turn.0 turn.1.1 rest
  parts_walk (apart n v ∷ ps) h p so_far rs fits ready place_is =
      let is = fits.0.1 in
      let first = name_turn s t.sees (45 ∷ 45 ∷ n) n h p so_far rs (t.option_text n is) (t.option_bare n is) (t.option_long n is) ready in
      let turn = value_turn s t.sees n v h p so_far rs (plain_bare v fits.0.0) (plain_long v fits.0.0) (plain_short v fits.0.0) (t.option_same n is) (t.option_id n is) ready fits.0.2 in
      let rest = subst (Walks s _ (all_words ps last) row.place) (join_rows rs (option_row n v) (parts_rows row.place last ps)) (parts_walk ps turn.1.0 p (n ∷ so_far) (rs ++ option_row n v ∷ []) fits.1 turn.1.2 (is_new_place row.place n so_far p place_is)) in
      one_more s (stands h p) (waiting_value s t.sees n h p) (45 ∷ 45 ∷ n) (v ∷ all_words ps last) row.place (rs ++ option_row n v ∷ parts_rows row.place last ps) first.0 first.1
      (one_more s (waiting_value s t.sees n h p) (stands turn.1.0 p) v (all_words ps last) row.place (rs ++ option_row n v ∷ parts_rows row.place last ps) turn.0 turn.1.1 rest)
  parts_walk (flag n ∷ ps) h p so_far rs fits ready place_is =
      let is = fits.0.0 in
      let turn = flag_turn s t.sees (45 ∷ 45 ∷ n) n h p so_far rs (t.flag_text n is) (t.flag_bare n is) (t.flag_long n is) ready fits.0.1 in
      let rest = subst (Walks s _ (all_words ps last) row.place) (join_rows rs (flag_row n) (parts_rows row.place last ps)) (parts_walk ps turn.1.0 p (n ∷ so_far) (rs ++ flag_row n ∷ []) fits.1 turn.1.2 (is_new_place row.place n so_far p place_is)) in
      one_more s (stands h p) (stands turn.1.0 p) (45 ∷ 45 ∷ n) (all_words ps last) row.place (rs ++ flag_row n ∷ parts_rows row.place last ps) turn.0 turn.1.1 rest

-- ---- the whole level

nothing_ready : (c : List Rule) → Ready c [] [] nothing_held
nothing_ready c = record { settles = refl; rows = λ n. refl; explicit = refl; exact = refl }

level_from : (s : Shape) (at : Text) (words : List Text) (end : Walk) (rows : List Row) → s.args_override_self ≡ false → list_all default_passes s.rules ≡ true
    → is_valid s rows false ≡ true → walk_passes s [] (stands nothing_held 1) words ≡ true
    → fold (walked s.rules []) (stands nothing_held 1) words ≡ end → settle_passes s.rules false end.held ≡ true → finished s.rules end.held ≡ rows
    → level_passes s [] nothing_held words false ≡ true
level_from s at words end rows sees defaults valid passes is settles finish =
    rw (passes, is, sees, settles, defaults, finish, valid) refl

pub level : (s : Shape) (row : Command) → Table s row → (ps : List Part) (last : Option Text) → AreParts row [] ps last
    → level_passes s [] nothing_held (all_words ps last) false ≡ true
level s row t ps last fits =
    let walks = parts_walk s row t last ps nothing_held 1 [] [] fits (nothing_ready s.rules) (λ e. refl) in
    let ready = walks.1.3 in
    let rows = (settled s.rules walks.1.0.held).rows in
    let given = given_finally row.place s.rules rows (given_of row.place rows ready.explicit (ready.rows row.place ∙ walks.1.4)) in
    level_from s row.place (all_words ps last) walks.1.0 (finished s.rules walks.1.0.held) t.sees t.defaults
    (t.valid (finished s.rules walks.1.0.held) given) walks.0 walks.1.2 ready.settles refl

-- the rows of the level
pub level_rows : (s : Shape) (row : Command) → Table s row → (ps : List Part) (last : Option Text) → AreParts row [] ps last
    → rows_after s.rules [] (all_words ps last) ≡ fold with_default (parts_rows row.place last ps) s.rules
level_rows s row t ps last fits =
    let walks = parts_walk s row t last ps nothing_held 1 [] [] fits (nothing_ready s.rules) (λ e. refl) in
    ap (λ (x : Walk). finished s.rules x.held) walks.1.2 ∙ ap (λ (rows : List Row). fold with_default rows s.rules) walks.1.3.exact

-- ---- the command above

abbrev stopped_at : Text → List Text → Walk
stopped_at n ws = record { held = nothing_held; waiting = idle; position = 1; is_trailing = false; stopped = Some (n, ws) }

join : (ws : List Text) (x : Text) (rest : List Text) → (ws ++ x ∷ []) ++ rest ≡ ws ++ x ∷ rest
join [] x rest = refl
join (w ∷ ws) x rest = ap (λ (t : List Text). w ∷ t) (join ws x rest)

nil_right : (ws : List Text) → ws ++ [] ≡ ws
nil_right [] = refl
nil_right (w ∷ ws) = ap (λ (t : List Text). w ∷ t) (nil_right ws)

stays_stopped : (c : List Rule) (names : Names) (n : Text) (ws rest : List Text) → fold (walked c names) (stopped_at n ws) rest ≡ stopped_at n (ws ++ rest)
unfolding walked
stays_stopped c names n ws [] = ap (stopped_at n) (sym (nil_right ws))
stays_stopped c names n ws (x ∷ rest) = stays_stopped c names n (ws ++ x ∷ []) rest ∙ ap (stopped_at n) (join ws x rest)

passes_stopped : (s : Shape) (names : Names) (n : Text) (ws rest : List Text) → walk_passes s names (stopped_at n ws) rest ≡ true
unfolding walked walk_passes
passes_stopped s names n ws [] = refl
passes_stopped s names n ws (x ∷ rest) = passes_stopped s names n (ws ++ x ∷ []) rest

-- what the command above says of one of its subcommands
pub record Enters (a : App) (n : Text) (s : Shape) : Type 0 where
  pub first : walked a.top.rules (names_of a) (walk_from nothing_held) n ≡ stopped_at n []
  pub turn : turn_passes a.top (names_of a) (walk_from nothing_held) n ≡ true
  pub enters : (ws : List Text) → entered_passes a (Some (n, ws)) ≡ level_passes s [] nothing_held ws false
  pub is_met : (ws : List Text) → is_some (entered a (Some (n, ws))) ≡ true
  pub settles : settle_passes a.top.rules a.top.args_override_self nothing_held ≡ true
  pub defaults : list_all default_passes a.top.rules ≡ true
  pub valid : is_valid a.top (finished a.top.rules nothing_held) true ≡ true

pub enters_takes : (a : App) (n : Text) (s : Shape) → Enters a n s → (ws : List Text) → level_passes s [] nothing_held ws false ≡ true → built_takes a nothing_held (n ∷ ws) ≡ true
unfolding walk_passes
enters_takes a n s e ws level =
    let stop = ap (λ (x : Walk). fold (walked a.top.rules (names_of a)) x ws) e.first ∙ stays_stopped a.top.rules (names_of a) n [] ws in
    rw (stop, e.enters ws, level, e.is_met ws, e.turn, e.first, passes_stopped a.top (names_of a) n [] ws, e.settles, e.defaults, e.valid) refl

pub stops_at : (a : App) (n : Text) (s : Shape) → Enters a n s → (ws : List Text) → stop_after a.top.rules (names_of a) (n ∷ ws) ≡ Some (n, ws)
stops_at a n s e ws =
    ap (λ (x : Walk). x.stopped) (ap (λ (x : Walk). fold (walked a.top.rules (names_of a)) x ws) e.first ∙ stays_stopped a.top.rules (names_of a) n [] ws)

-- ---- what a getter reads of the rows

first_more : (n : Text) (x : Row) (rows : List Row) → bytes_eq x.id n ≡ false → first_of n (rows ++ x ∷ []) ≡ first_of n rows
first_more n x [] e = rw e refl
first_more n x (r ∷ rs) e = go (bytes_eq r.id n) refl (first_more n x rs e)
  where
    go : (t : Bool) → bytes_eq r.id n ≡ t → first_of n (rs ++ x ∷ []) ≡ first_of n rs → first_of n (r ∷ rs ++ x ∷ []) ≡ first_of n (r ∷ rs)
    go true t rec = rw t refl
    go false t rec = rw t rec

-- a default of another argument changes nothing
first_default : (n : Text) (rows : List Row) (a : Rule) → bytes_eq a.id n ≡ false → first_of n (with_default rows a) ≡ first_of n rows
first_default n rows a e = go (has_row a.id rows) refl a.defaults
  where
    go : (t : Bool) → has_row a.id rows ≡ t → (vs : List Text) → first_of n (cond (has_row a.id rows) rows (default_rows a.id (reading_by a) vs rows)) ≡ first_of n rows
    go true t vs = rw t refl
    go false t [] = rw t refl
    go false t (v ∷ vs) = rw (t, added a.id (more_values ValueSource.DefaultValue (v ∷ vs)) (record { id = a.id; values = v ∷ vs; count = None; source = Some ValueSource.DefaultValue; reading = reading_by a } ∷ []) rows t)
        (first_more n (record { id = a.id; values = v ∷ vs; count = None; source = Some ValueSource.DefaultValue; reading = reading_by a }) rows e)

first_no_default : (n : Text) (rows : List Row) (a : Rule) → a.defaults ≡ [] → first_of n (with_default rows a) ≡ first_of n rows
first_no_default n rows a e = go (has_row a.id rows) refl
  where
    go : (t : Bool) → has_row a.id rows ≡ t → first_of n (with_default rows a) ≡ first_of n rows
    go true t = rw t refl
    go false t = rw (t, e) refl

-- each rule is of another name, or has no default
abbrev pub LeavesAlone : Text → List Rule → Type 0
LeavesAlone n [] = Unit {0}
LeavesAlone n (a ∷ c) = ((bytes_eq a.id n ≡ false) ⊎ (a.defaults ≡ [])) × LeavesAlone n c

pub first_finally : (n : Text) (c : List Rule) (rows : List Row) → LeavesAlone n c → first_of n (fold with_default rows c) ≡ first_of n rows
first_finally n [] rows h = refl
first_finally n (a ∷ c) rows (inl e, h) = first_finally n c (with_default rows a) h ∙ first_default n rows a e
first_finally n (a ∷ c) rows (inr e, h) = first_finally n c (with_default rows a) h ∙ first_no_default n rows a e
