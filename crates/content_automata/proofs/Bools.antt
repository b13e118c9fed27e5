-- Truth values.
use Rattle.std.proofs.Common.{◌≡◌, Bool, true, false, ◌&&◌, ◌||◌, refl}

pub or_false : (a : Bool) → (a || false) ≡ a
or_false true = refl
or_false false = refl

pub or_turned : (a b : Bool) → (a || b) ≡ (b || a)
or_turned true true = refl
or_turned true false = refl
or_turned false true = refl
or_turned false false = refl

pub or_joined : (a b c : Bool) → ((a || b) || c) ≡ (a || (b || c))
or_joined true b c = refl
or_joined false b c = refl

pub and_joined : (a b c : Bool) → ((a && b) && c) ≡ (a && (b && c))
and_joined true b c = refl
and_joined false b c = refl

pub each_whole : (a b t : Bool) → ((a || b) && t) ≡ ((a && t) || (b && t))
each_whole true true true = refl
each_whole true true false = refl
each_whole true false true = refl
each_whole true false false = refl
each_whole false b t = refl

-- of a choice
pub choice_step : (a b t x y : Bool) → (((a || b) && t) || (x || y)) ≡ (((a && t) || x) || ((b && t) || y))
choice_step true b true x y = refl
choice_step true true false x y = refl
choice_step true false false x y = refl
choice_step false true true true y = refl
choice_step false true true false y = refl
choice_step false true false x y = refl
choice_step false false t x y = refl

-- of a sequence
pub sequence_step : (a b t x y : Bool) → (((a && b) && t) || (x || (a && y))) ≡ ((a && ((b && t) || y)) || x)
sequence_step true true true x y = refl
sequence_step true true false true true = refl
sequence_step true true false true false = refl
sequence_step true true false false y = or_false_back y
  where
    or_false_back : (y : Bool) → y ≡ (y || false)
    or_false_back true = refl
    or_false_back false = refl
sequence_step true false t true true = refl
sequence_step true false t true false = refl
sequence_step true false t false true = refl
sequence_step true false t false false = refl
sequence_step false b t true y = refl
sequence_step false b t false y = refl

-- of at least one
pub plus_step : (a t x : Bool) → ((a && t) || x) ≡ ((a && (t || x)) || x)
plus_step true true x = refl
plus_step true false true = refl
plus_step true false false = refl
plus_step false t x = refl
