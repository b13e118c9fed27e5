-- Which options canonical words say.
use Rattle.std.proofs.Common.{◌≡◌, ◌∙◌, ◌==◌, ◌++◌, ◌&&◌, ◌||◌, ap, ℕ, Bool, true, false, not, List, [], ◌∷◌, Option, Some, None, refl, sym, ne_eqb}
use Rattle.std.proofs.lemmas.Bool.{eqb-false}
use Rattle.std.specs.Str.{bytes_eq}
use Rattle.command_words.specs.Asked.{ends_options}
use Rattle.command_words.specs.Program.{Row}
use Rattle.command_words.specs.Canonical.{Part, place, joined, apart, flag, IsPlain, AreParts, name_of, is_among, all_words}
use Rattle.call_options.specs.Words.{is_named, is_option, say}
use Rattle.call_options.proofs.Names.{IsName, RowNames, has_equals, or_false}

and_false : (a : Bool) → (a && false) ≡ false
and_false true = refl
and_false false = refl

-- `--NAME=VALUE` is the option of its name alone
joined_is : (name n v : List ℕ) → has_equals n ≡ false → has_equals name ≡ false → is_named name (n ++ 61 ∷ v) ≡ bytes_eq n name
joined_is [] [] v e f = refl
joined_is (a ∷ more) [] v e f =
    let other : (61 == a) ≡ false = ne_eqb 61 a (λ s. eqb-false a 61 (or_false (a == 61) (has_equals more) f).0 (sym s)) in
    rw other refl
joined_is [] (b ∷ bs) v e f = (or_false (b == 61) (has_equals bs) e).0
joined_is (a ∷ more) (b ∷ bs) v e f =
    ap (λ (t : Bool). (b == a) && t) (joined_is more bs v (or_false (b == 61) (has_equals bs) e).1 (or_false (a == 61) (has_equals more) f).1)

-- `--NAME` too
bare_is : (name n : List ℕ) → has_equals n ≡ false → is_named name n ≡ bytes_eq n name
bare_is [] [] e = refl
bare_is (a ∷ more) [] e = refl
bare_is [] (b ∷ bs) e = (or_false (b == 61) (has_equals bs) e).0
bare_is (a ∷ more) (b ∷ bs) e = ap (λ (t : Bool). (b == a) && t) (bare_is more bs (or_false (b == 61) (has_equals bs) e).1)

-- neither is `--`
joined_bare : (n v : List ℕ) → bytes_eq (n ++ 61 ∷ v) [] ≡ false
joined_bare [] v = refl
joined_bare (b ∷ bs) v = refl

-- a value is neither an option nor `--`
plain_is : (name v : List ℕ) → IsPlain v → is_option name v ≡ false
plain_is name [] p = absurd p
plain_is name (b ∷ []) p = and_false (b == 45)
plain_is name (b ∷ c ∷ bs) p = rw p refl

plain_ends : (v : List ℕ) → IsPlain v → ends_options v ≡ false
plain_ends [] p = absurd p
plain_ends (b ∷ []) p = and_false (b == 45)
plain_ends (b ∷ c ∷ bs) p = rw p refl

-- the names of the arguments that the parts are for
abbrev pub names_in : List ℕ → List Part → List (List ℕ)
names_in at [] = []
names_in at (part ∷ parts) = name_of at part ∷ names_in at parts

said_step : (a b c d e : Bool) → a ≡ false → b ≡ c → d ≡ e → (not a && (b || d)) ≡ (c || e)
said_step a b c d e p q r = rw (p, q, r) refl

-- canonical words say the options of which they have a part
pub say_is : (row : Row) → RowNames row → (name : List ℕ) → IsName name → bytes_eq row.place name ≡ false
    → (ps : List Part) (last : Option (List ℕ)) (before : List (List ℕ)) → AreParts row before ps last → say (all_words ps last) name ≡ is_among name (names_in row.place ps)
say_is row k name is other [] None before fits = refl
say_is row k name is other [] (Some v) before fits = refl
say_is row k name is other (place v ∷ ps) last before fits =
    said_step (ends_options v) (is_option name v) (bytes_eq row.place name) (say (all_words ps last) name) (is_among name (names_in row.place ps))
    (plain_ends v fits.0.0) (plain_is name v fits.0.0 ∙ sym other) (say_is row k name is other ps last (row.place ∷ before) fits.1)
say_is row k name is other (joined n v ∷ ps) last before fits =
    said_step (bytes_eq (n ++ 61 ∷ v) []) (is_named name (n ++ 61 ∷ v)) (bytes_eq n name) (say (all_words ps last) name) (is_among name (names_in row.place ps))
    (joined_bare n v) (joined_is name n v (k.options n fits.0.1).1 is.1) (say_is row k name is other ps last (n ∷ before) fits.1)
say_is row k name is other (apart n v ∷ ps) last before fits =
    said_step (bytes_eq n []) (is_named name n) (bytes_eq n name) (say (v ∷ all_words ps last) name) (is_among name (names_in row.place ps))
    (k.options n fits.0.1).0 (bare_is name n (k.options n fits.0.1).1)
    (said_step (ends_options v) (is_option name v) false (say (all_words ps last) name) (is_among name (names_in row.place ps))
    (plain_ends v fits.0.0) (plain_is name v fits.0.0) (say_is row k name is other ps last (n ∷ before) fits.1))
say_is row k name is other (flag n ∷ ps) last before fits =
    said_step (bytes_eq n []) (is_named name n) (bytes_eq n name) (say (all_words ps last) name) (is_among name (names_in row.place ps))
    (k.flags n fits.0.0).0 (bare_is name n (k.flags n fits.0.0).1) (say_is row k name is other ps last (n ∷ before) fits.1)
