-- Small laws: answers, rows, and sets of terminals as numbers.
use Rattle.std.proofs.Common.{◌≡◌, ℕ, zero, suc, ◌+◌, Bool, true, false, nat_eq, List, [], ◌∷◌, refl, sym, ◌∙◌, ap, subst, arith, Option, Some, None, get_or, ◌/◌, ◌%◌, ◌<◌, nat_lt, min, max}
use Rattle.std.specs.Prelude.{if◌then◌else◌, slice_get, bit_and, bit_or}
use Rattle.std.proofs.lemmas.Bool.{and_parts}
use Rattle.std.proofs.lemmas.Bool.Decides.{nat_tests}
use Rattle.lr_tables.specs.declared.step.Step.{Step}
use Rattle.lr_tables.specs.declared.step.Step.TheVariants.{Fail, Go, Reduce, Accept}
use Rattle.lr_tables.specs.Machine.{Tables, access, entry, Answer, Read, Wrong, Going, told}
use Rattle.lr_tables.specs.Certificates.{not_true, is_sub}
use Rattle.lr_tables.specs.Checks.{may_stand, is_accessed, row_accessed, rows_accessed, is_reduce, all_reduce}
use Rattle.lr_tables.specs.Grammars.{is_blocked}
use Rattle.lr_tables.specs.declared.rule.Rule.{Rule}
use Rattle.std.specs.Int.{bit_at}
use Rattle.std.proofs.lemmas.Nat.Bits.{bit_at_and, bit_at_or, bit_at-lt, bit_at-zero, bit_at-suc, bit_at_lowest}
use Rattle.lr_tables.specs.declared.event.Event as event

pub eq_is : (a b : ℕ) → nat_eq a b ≡ true → a ≡ b
eq_is a b e = grind (arith, nat_tests)

pub is_eq : (a b : ℕ) → a ≡ b → nat_eq a b ≡ true
is_eq a b e = grind (arith, nat_tests)

pub none_some : {A : Type 0} {x : A} {P : Type 0} → None ≡ Some x → P
none_some e = cc

pub some_is : {A : Type 0} {x y : A} → Some x ≡ Some y → x ≡ y
some_is e = cc

pub wrong_read : {ks : List ℕ} {es : List event.Event} {P : Type 0} → Wrong ks ≡ Read es → P
wrong_read e = cc

pub going_read : {stack ks : List ℕ} {es : List event.Event} {P : Type 0} → Going stack ks ≡ Read es → P
going_read e = cc

pub read_wrong : {ks : List ℕ} {es : List event.Event} {P : Type 0} → Read es ≡ Wrong ks → P
read_wrong e = cc

pub going_wrong : {stack ks js : List ℕ} {P : Type 0} → Going stack ks ≡ Wrong js → P
going_wrong e = cc

pub read_is : {es fs : List event.Event} → Read es ≡ Read fs → es ≡ fs
read_is e = cc

pub wrong_is : {ks js : List ℕ} → Wrong ks ≡ Wrong js → ks ≡ js
wrong_is e = cc

pub record Tells (e : event.Event) (a : Answer) (es : List event.Event) : Type 0 where
  pub rest : List event.Event
  pub was : a ≡ Read rest
  pub is : e ∷ rest ≡ es

pub tells : (e : event.Event) (a : Answer) (es : List event.Event) → told e a ≡ Read es → Tells e a es
tells e (Read fs) es h = record { rest = fs; was = refl; is = read_is h }
tells e (Wrong ks) es h = wrong_read h
tells e (Going stack ks) es h = going_read h

-- a wrong place is told as it is
pub untold : (e : event.Event) (a : Answer) (ks : List ℕ) → told e a ≡ Wrong ks → a ≡ Wrong ks
untold e (Read fs) ks h = read_wrong h
untold e (Wrong js) ks h = h
untold e (Going stack js) ks h = going_wrong h

pub record Held {A : Type 0} (b : Bool) (x y : A) : Type 0 where
  pub test : b ≡ true
  pub is : x ≡ y

pub held : {A : Type 0} (b : Bool) (x other y : A) → (other ≡ y → ⊥) → (if b then x else other) ≡ y → Held b x y
held true x other y never h = record { test = refl; is = h }
held false x other y never h = absurd (never h)

pub held_some : {A : Type 0} (b : Bool) (x : Option A) (y : A) → (if b then x else None) ≡ Some y → Held b x (Some y)
held_some b x y h = held b x None (Some y) none_some h

pub record Unheld {A : Type 0} (b : Bool) (x y : A) : Type 0 where
  pub test : b ≡ false
  pub is : x ≡ y

pub unheld : {A : Type 0} (b : Bool) (x other y : A) → (other ≡ y → ⊥) → (if b then other else x) ≡ y → Unheld b x y
unheld true x other y never h = absurd (never h)
unheld false x other y never h = record { test = refl; is = h }

go_is : (s u : ℕ) → Go s ≡ Go u → s ≡ u
go_is s u e = cc

plus_suc : (a b : ℕ) → suc a + b ≡ a + suc b
plus_suc a b = omega arith

row_access : (t : Tables) (row : List Step) (from x s : ℕ) → row_accessed t from row ≡ true → get_or row x Fail ≡ Go s → access t s ≡ from + x
row_access t [] from x s h e = cc
row_access t (y ∷ row) from zero s h e = at y e (and_parts (is_accessed t from y) (row_accessed t (suc from) row) h).0
  where
    at : (y : Step) → y ≡ Go s → is_accessed t from y ≡ true → access t s ≡ from + zero
    at y is ok =
        let same : nat_eq (access t s) from ≡ true = subst (λ (v : Step). is_accessed t from v ≡ true) is ok in
        let eq = eq_is (access t s) from same in omega (arith, eq)
row_access t (y ∷ row) from (suc x) s h e = row_access t row (suc from) x s (and_parts (is_accessed t from y) (row_accessed t (suc from) row) h).1 e ∙ plus_suc from x

rows_access : (t : Tables) (rows : List (List Step)) (s x u : ℕ) → rows_accessed t rows ≡ true → get_or (get_or rows s []) x Fail ≡ Go u → access t u ≡ x
rows_access t [] s x u h e = cc
rows_access t (row ∷ rows) zero x u h e = row_access t row 0 x u (and_parts (row_accessed t 0 row) (rows_accessed t rows) h).0 e ∙ omega arith
rows_access t (row ∷ rows) (suc s) x u h e = rows_access t rows s x u (and_parts (row_accessed t 0 row) (rows_accessed t rows) h).1 e

pub not_is : (b : Bool) → not_true b ≡ true → b ≡ false
not_is true h = cc
not_is false h = refl

-- where a reduction stands, its rule does
row_stands : (t : Tables) (row : List Step) (from x p : ℕ) (r : Rule) → row_accessed t from row ≡ true → get_or row x Fail ≡ Reduce p → slice_get t.grammar.rules p ≡ Some r → is_blocked t.grammar r (from + x) ≡ false
row_stands t [] from x p r h e got = cc
row_stands t (y ∷ row) from zero p r h e got =
    let ok = subst (λ (v : Step). is_accessed t from v ≡ true) e (and_parts (is_accessed t from y) (row_accessed t (suc from) row) h).0 in
    let same : from ≡ from + 0 = omega arith in
    ap (λ (n : ℕ). is_blocked t.grammar r n) (sym same) ∙ not_is (is_blocked t.grammar r from) (ap (λ (o : Option Rule). may_stand t.grammar o from) (sym got) ∙ ok)
row_stands t (y ∷ row) from (suc x) p r h e got =
    ap (λ (n : ℕ). is_blocked t.grammar r n) (sym (plus_suc from x)) ∙ row_stands t row (suc from) x p r (and_parts (is_accessed t from y) (row_accessed t (suc from) row) h).1 e got

rows_stand : (t : Tables) (rows : List (List Step)) (s x p : ℕ) (r : Rule) → rows_accessed t rows ≡ true → get_or (get_or rows s []) x Fail ≡ Reduce p → slice_get t.grammar.rules p ≡ Some r → is_blocked t.grammar r x ≡ false
rows_stand t [] s x p r h e got = cc
rows_stand t (row ∷ rows) zero x p r h e got =
    let same : 0 + x ≡ x = omega arith in
    ap (λ (n : ℕ). is_blocked t.grammar r n) (sym same) ∙ row_stands t row 0 x p r (and_parts (row_accessed t 0 row) (rows_accessed t rows) h).0 e got
rows_stand t (row ∷ rows) (suc s) x p r h e got = rows_stand t rows s x p r (and_parts (row_accessed t 0 row) (rows_accessed t rows) h).1 e got

pub stands : (t : Tables) → rows_accessed t t.rows ≡ true → (s x p : ℕ) (r : Rule) → entry t s x ≡ Reduce p → slice_get t.grammar.rules p ≡ Some r → is_blocked t.grammar r x ≡ false
stands t h s x p r e got = rows_stand t t.rows s x p r h e got

pub accessed : (t : Tables) → rows_accessed t t.rows ≡ true → (s x u : ℕ) → entry t s x ≡ Go u → access t u ≡ x
accessed t h s x u e = rows_access t t.rows s x u h e

-- Sets of terminals as numbers.

from_min : (a b : ℕ) → a ≡ 1 → b < 2 → min a b ≡ a → b ≡ 1
from_min a b e l h = omega arith

max_left : (a b : ℕ) → a ≡ 1 → b < 2 → max a b ≡ 1
max_left a b e l = omega arith

max_right : (a b : ℕ) → b ≡ 1 → a < 2 → max a b ≡ 1
max_right a b e l = omega arith

pub sub_bit : (a b u : ℕ) → is_sub a b ≡ true → bit_at a u ≡ 1 → bit_at b u ≡ 1
sub_bit a b u h e = from_min (bit_at a u) (bit_at b u) e (bit_at-lt b u) (sym (bit_at_and a b u) ∙ ap (λ (v : ℕ). bit_at v u) (eq_is (bit_and a b) a h))

pub or_left : (a b u : ℕ) → bit_at a u ≡ 1 → bit_at (bit_or a b) u ≡ 1
or_left a b u e = bit_at_or a b u ∙ max_left (bit_at a u) (bit_at b u) e (bit_at-lt b u)

pub or_right : (a b u : ℕ) → bit_at b u ≡ 1 → bit_at (bit_or a b) u ≡ 1
or_right a b u e = bit_at_or a b u ∙ max_right (bit_at a u) (bit_at b u) e (bit_at-lt a u)

zero_one : {P : Type 0} (a : ℕ) → a ≡ 0 → a ≡ 1 → P
zero_one a e h = absurd (omega arith)

pub no_bit : {P : Type 0} (a u : ℕ) → a ≡ 0 → bit_at a u ≡ 1 → P
no_bit a u e h = zero_one (bit_at 0 u) (bit_at-zero u) (ap (λ (v : ℕ). bit_at v u) (sym e) ∙ h)

not_zero : (a : ℕ) → a ≡ 1 → nat_eq a 0 ≡ false
not_zero a e = grind (arith, nat_tests)

reduces : (p : ℕ) (e : Step) → is_reduce p e ≡ true → e ≡ Reduce p
reduces p Fail h = cc
reduces p (Go s) h = cc
reduces p (Reduce q) h = ap (λ (v : ℕ). Reduce v) (sym (eq_is p q h))
reduces p Accept h = cc

pub all_reduces : (lefts : List ℕ) (before from p : ℕ) (row : List Step) (ahead u : ℕ) → all_reduce lefts before from p row ahead ≡ true → bit_at ahead u ≡ 1 → nat_lt before (get_or lefts (from + u) 0) ≡ false → get_or row u Fail ≡ Reduce p
all_reduces lefts before from p [] ahead u h e free = no_bit ahead u (eq_is ahead 0 h) e
all_reduces lefts before from p (y ∷ row) ahead zero h e free =
    let parts = and_parts (if nat_eq (ahead % 2) 0 then true else (if nat_lt before (get_or lefts from 0) then true else is_reduce p y)) (all_reduce lefts before (suc from) p row (ahead / 2)) h in
    let same : from + 0 ≡ from = omega arith in
    let here = ap (λ (n : ℕ). nat_lt before (get_or lefts n 0)) (sym same) ∙ free in
    reduces p y (ap (λ (b : Bool). if b then true else is_reduce p y) (sym here) ∙ (ap (λ (b : Bool). if b then true else (if nat_lt before (get_or lefts from 0) then true else is_reduce p y)) (sym (not_zero (ahead % 2) (sym (bit_at_lowest ahead) ∙ e))) ∙ parts.0))
all_reduces lefts before from p (y ∷ row) ahead (suc u) h e free =
    let parts = and_parts (if nat_eq (ahead % 2) 0 then true else (if nat_lt before (get_or lefts from 0) then true else is_reduce p y)) (all_reduce lefts before (suc from) p row (ahead / 2)) h in
    all_reduces lefts before (suc from) p row (ahead / 2) u parts.1 (sym (bit_at-suc ahead u) ∙ e) (ap (λ (n : ℕ). nat_lt before (get_or lefts n 0)) (plus_suc from u) ∙ free)
