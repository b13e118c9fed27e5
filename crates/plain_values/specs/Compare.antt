-- Loose comparison (PHP manual, "Comparison operators: comparison with various types").
use Rattle.std.specs.Prelude.{ℕ, ℤ, Bool, List, [], Result, Ok, Err}
use Rattle.std.specs.Cmp.Lexicographic.{slice_cmp}
use Rattle.std.specs.declared.cmp.Ordering.{Ordering}
use Rattle.std.specs.Ordering.{nat_cmp, int_cmp, bool_cmp, is_eq, is_lt, ordering_reverse}
use Rattle.std.specs.Fmt.{signed_decimal}
use Rattle.plain_values.specs.Plain.{Plain, null, flag, int, text, array}
use Rattle.plain_values.specs.Numeric.{numeric}
use Rattle.plain_values.specs.declared.numeric.Numeric.{Numeric}
use Rattle.plain_values.specs.declared.numeric.Numeric.TheVariants.{Integer, Float, Other}
use Rattle.plain_values.specs.Text.{truth}
use Rattle.plain_values.specs.declared.fault.Fault.{Fault}
use Rattle.plain_values.specs.declared.fault.Fault.TheVariants as fault

-- two integer texts compare as numbers; numeric texts with a float among them are left out; others compare by their bytes
abbrev pub compare_numeric : Numeric → Numeric → Ordering → Result Ordering Fault
compare_numeric (Integer a) (Integer b) bytes = Ok (int_cmp a b)
compare_numeric (Integer a) Float bytes = Err fault.Float
compare_numeric Float (Integer b) bytes = Err fault.Float
compare_numeric Float Float bytes = Err fault.Float
compare_numeric (Integer a) Other bytes = Ok bytes
compare_numeric Float Other bytes = Ok bytes
compare_numeric Other n bytes = Ok bytes

-- two texts: as integers where both are, by their bytes where one is not numeric, and a fault for a float text beside a numeric one
abbrev pub compare_texts : List ℕ → List ℕ → Result Ordering Fault
compare_texts s t = compare_numeric (numeric s) (numeric t) (slice_cmp nat_cmp s t)

-- an integer against a text: an integer text is compared as a number, a float text is left out, and another text is compared with the
-- decimal form by bytes
abbrev pub compare_integer : ℤ → Numeric → List ℕ → Result Ordering Fault
compare_integer a (Integer b) t = Ok (int_cmp a b)
compare_integer a Float t = Err fault.Float
compare_integer a Other t = Ok (slice_cmp nat_cmp (signed_decimal a) t)

-- the answer with the two sides exchanged; a fault stays
abbrev pub reversed : Result Ordering Fault → Result Ordering Fault
reversed (Ok o) = Ok (ordering_reverse o)
reversed (Err e) = Err e

-- no array is compared; null against a text is the empty text; else a boolean or null on either side compares truths, false below true
abbrev pub compare : Plain → Plain → Result Ordering Fault
compare (array ps) b = Err fault.Compare
compare null (array qs) = Err fault.Compare
compare null (text t) = compare_texts [] t
compare null b = Ok (bool_cmp (truth null) (truth b))
compare (flag f) (array qs) = Err fault.Compare
compare (flag f) b = Ok (bool_cmp f (truth b))
compare (int a) (array qs) = Err fault.Compare
compare (int a) null = Ok (bool_cmp (truth (int a)) (truth null))
compare (int a) (flag g) = Ok (bool_cmp (truth (int a)) g)
compare (int a) (int b) = Ok (int_cmp a b)
compare (int a) (text t) = compare_integer a (numeric t) t
compare (text s) (array qs) = Err fault.Compare
compare (text s) null = compare_texts s []
compare (text s) (flag g) = Ok (bool_cmp (truth (text s)) g)
compare (text s) (int b) = reversed (compare_integer b (numeric s) s)
compare (text s) (text t) = compare_texts s t

-- what a test says of the answer; a fault stays
abbrev pub ask : (Ordering → Bool) → Result Ordering Fault → Result Bool Fault
ask test (Ok o) = Ok (test o)
ask test (Err e) = Err e

-- what `==` answers
abbrev pub loose_equal : Plain → Plain → Result Bool Fault
loose_equal a b = ask is_eq (compare a b)

-- what `<` answers
abbrev pub less : Plain → Plain → Result Bool Fault
less a b = ask is_lt (compare a b)
