-- What stands in the rows of canonical words, with the defaults of flags.
use Rattle.std.proofs.Common.{◌≡◌, ◌∙◌, ◌++◌, Bool, true, false, List, [], ◌∷◌, Option, Some, None, refl, codes}
use Rattle.std.specs.Prelude.{fold, cond, slice_get}
use Rattle.std.specs.Str.{bytes_eq}
use Rattle.clap.specs.Walk.{Row, Rule, Text, has_row, with_default, default_rows, more_values, reading_by, first_of}
use Rattle.clap.specs.declared.parser.matches.ValueSource.{ValueSource}
use Rattle.command_words.specs.Asked.{is_given}
use Rattle.command_words.specs.Canonical.{Part, place, joined, apart, flag, given}
use Rattle.command_words.proofs.Rows.{parts_rows, place_row, option_row, flag_row}
use Rattle.command_words.proofs.Steps.{added}

-- of a row in front
first_here : (n : Text) (r : Row) (rs : List Row) (v : Text) (vs : List Text) → r.values ≡ v ∷ vs → (rest : Option Text) → first_of n rs ≡ rest
    → first_of n (r ∷ rs) ≡ cond (bytes_eq r.id n) (Some v) rest
first_here n r rs v vs values rest more = go (bytes_eq r.id n) refl
  where
    go : (t : Bool) → bytes_eq r.id n ≡ t → first_of n (r ∷ rs) ≡ cond (bytes_eq r.id n) (Some v) rest
    go true t = rw (t, values) refl
    go false t = rw t more

pub given_rows : (at : Text) (last : Option Text) (n : Text) (ps : List Part) → first_of n (parts_rows at last ps) ≡ given at ps last n
given_rows at None n [] = refl
given_rows at (Some v) n [] = first_here n (place_row at v) [] v [] refl None refl
given_rows at last n (place v ∷ ps) = first_here n (place_row at v) (parts_rows at last ps) v [] refl (given at ps last n) (given_rows at last n ps)
given_rows at last n (joined m v ∷ ps) = first_here n (option_row m v) (parts_rows at last ps) v [] refl (given at ps last n) (given_rows at last n ps)
given_rows at last n (apart m v ∷ ps) = first_here n (option_row m v) (parts_rows at last ps) v [] refl (given at ps last n) (given_rows at last n ps)
given_rows at last n (flag m ∷ ps) = first_here n (flag_row m) (parts_rows at last ps) (codes "true") [] refl (given at ps last n) (given_rows at last n ps)

-- Flags that are left out.

-- a row behind the others that gives no flag
none_more : (n : Text) (x : Row) (rows : List Row) → is_given (slice_get x.values 0) ≡ false → is_given (first_of n (rows ++ x ∷ [])) ≡ is_given (first_of n rows)
none_more n x [] e = go (bytes_eq x.id n) refl
  where
    go : (t : Bool) → bytes_eq x.id n ≡ t → is_given (first_of n (x ∷ [])) ≡ false
    go true t = rw t e
    go false t = rw t refl
none_more n x (r ∷ rs) e = go (bytes_eq r.id n) refl (none_more n x rs e)
  where
    go : (t : Bool) → bytes_eq r.id n ≡ t → is_given (first_of n (rs ++ x ∷ [])) ≡ is_given (first_of n rs) → is_given (first_of n (r ∷ rs ++ x ∷ [])) ≡ is_given (first_of n (r ∷ rs))
    go true t rec = rw t refl
    go false t rec = rw t rec

default_gives_none : (n : Text) (rows : List Row) (a : Rule) → is_given (slice_get a.defaults 0) ≡ false → is_given (first_of n (with_default rows a)) ≡ is_given (first_of n rows)
default_gives_none n rows a e = go (has_row a.id rows) refl a.defaults e
  where
    go : (t : Bool) → has_row a.id rows ≡ t → (vs : List Text) → is_given (slice_get vs 0) ≡ false
        → is_given (first_of n (cond (has_row a.id rows) rows (default_rows a.id (reading_by a) vs rows))) ≡ is_given (first_of n rows)
    go true t vs e = rw t refl
    go false t [] e = rw t refl
    go false t (v ∷ vs) e =
        let row : Row = record { id = a.id; values = v ∷ vs; count = None; source = Some ValueSource.DefaultValue; reading = reading_by a } in
        rw (t, added a.id (more_values ValueSource.DefaultValue (v ∷ vs)) (row ∷ []) rows t) (none_more n row rows e)

-- no rule has a default that gives a flag
abbrev pub GiveNone : List Rule → Type 0
GiveNone [] = Unit {0}
GiveNone (a ∷ c) = (is_given (slice_get a.defaults 0) ≡ false) × GiveNone c

pub flags_finally : (n : Text) (c : List Rule) (rows : List Row) → GiveNone c → is_given (first_of n (fold with_default rows c)) ≡ is_given (first_of n rows)
flags_finally n [] rows h = refl
flags_finally n (a ∷ c) rows h = flags_finally n c (with_default rows a) h.1 ∙ default_gives_none n rows a h.0
