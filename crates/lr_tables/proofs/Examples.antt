-- Two small grammars that differ in one power: what is derived, and where the place of an error would be wrong, so that no tables pass.
use Rattle.std.proofs.Common.{◌≡◌, ℕ, zero, suc, true, false, nat_eq, nat_lt, List, [], ◌∷◌, refl, sym, ◌∙◌, ap}
use Rattle.lr_tables.specs.declared.rule.Rule.{Rule}
use Rattle.lr_tables.specs.declared.step.Step.TheVariants.{Fail, Go, Reduce, Accept}
use Rattle.lr_tables.specs.declared.event.Event as event
use Rattle.lr_tables.specs.Grammars.{Grammar, Derives, leaf, node, Spells, none, more, IsDerived, IsFront, IsFirstWrong, head, is_blocked, is_barred}
use Rattle.lr_tables.specs.Machine.{Tables, Wrong, run}
use Rattle.lr_tables.specs.Certificates.{Certificate}
use Rattle.lr_tables.specs.Checks.{tables_ok}
use Rattle.lr_tables.specs.FrontChecks.{is_certified}
use Rattle.lr_tables.proofs.Basics.{is_eq, none_some, some_is}
use Rattle.lr_tables.proofs.Placed.{is_placed}

-- 1 and 2 are terminals; 3 becomes 4 1, by rule 0
abbrev pair : Rule
pair = record { left = 3; back = 1 ∷ 4 ∷ 0 ∷ 0 ∷ 0 ∷ 0 ∷ 0 ∷ 0 ∷ 0 ∷ 0 ∷ []; before = 9; behind = 9 }

-- 4 becomes 2, by rule 1, which does not stand before a token with a greater power than this
abbrev single : ℕ → Rule
single before = record { left = 4; back = 2 ∷ 0 ∷ 0 ∷ 0 ∷ 0 ∷ 0 ∷ 0 ∷ 0 ∷ 0 ∷ 0 ∷ []; before = before; behind = 9 }

-- 1 has the power 1 to the left
abbrev pairs : ℕ → Grammar
pairs before = record { terminals = 3; start = 3; rules = pair ∷ single before ∷ []; lefts = 0 ∷ 1 ∷ []; rights = [] }

-- 2 1 is a sentence where the rule stands before 1
is_a_pair : IsDerived (pairs 1) (2 ∷ 1 ∷ []) (event.TheVariants.Token ∷ event.TheVariants.Rule 1 ∷ event.TheVariants.Token ∷ event.TheVariants.Rule 0 ∷ [])
is_a_pair =
    let one = event.TheVariants.Token in
    let later = event.TheVariants.Token ∷ event.TheVariants.Rule 0 ∷ [] in
    node 0 0 pair (2 ∷ 1 ∷ []) [] (one ∷ event.TheVariants.Rule 1 ∷ later) [] refl refl refl
    (more 0 4 (1 ∷ []) (2 ∷ 1 ∷ []) (1 ∷ []) [] (one ∷ event.TheVariants.Rule 1 ∷ later) later (event.TheVariants.Rule 0 ∷ [])
    (node 0 1 (single 1) (2 ∷ 1 ∷ []) (1 ∷ []) (one ∷ event.TheVariants.Rule 1 ∷ later) later refl refl refl
    (more 0 2 [] (2 ∷ 1 ∷ []) (1 ∷ []) (1 ∷ []) (one ∷ event.TheVariants.Rule 1 ∷ later) (event.TheVariants.Rule 1 ∷ later) (event.TheVariants.Rule 1 ∷ later)
    (leaf 0 2 (1 ∷ []) (event.TheVariants.Rule 1 ∷ later) refl) (none 2 (1 ∷ []) (event.TheVariants.Rule 1 ∷ later))))
    (more 4 1 [] (1 ∷ []) [] [] later (event.TheVariants.Rule 0 ∷ []) (event.TheVariants.Rule 0 ∷ [])
    (leaf 4 1 [] (event.TheVariants.Rule 0 ∷ []) refl) (none 1 [] (event.TheVariants.Rule 0 ∷ []))))

-- where it does not, nothing is
abbrev dead : Grammar
dead = pairs 0

not_small : (k n : ℕ) {P : Type 0} → k ≡ n → nat_lt n 3 ≡ false → nat_lt k 3 ≡ true → P
not_small k n is large small = apart (sym large ∙ ap (λ (v : ℕ). nat_lt v 3) (sym is) ∙ small)
  where
    apart : {P : Type 0} → false ≡ true → P
    apart e = cc

not_left : {P : Type 0} (q r : Rule) (x : ℕ) → q ≡ r → r.left ≡ x → nat_eq q.left x ≡ false → P
not_left q r x same is other = apart (sym other ∙ is_eq q.left x (ap (λ (v : Rule). v.left) same ∙ is))
  where
    apart : {P : Type 0} → false ≡ true → P
    apart e = cc

begins_one : {prev x : ℕ} {from rest : List ℕ} {es later : List event.Event} → Derives dead prev x from rest es later → x ≡ 1 → head from ≡ 1
begins_one (leaf prev k rest later e) is = is
begins_one (node prev zero r from rest es later got open_ free sp) is = not_left pair r 1 (some_is got) is refl
begins_one (node prev (suc zero) r from rest es later got open_ free sp) is = not_left (single 0) r 1 (some_is got) is refl
begins_one (node prev (suc (suc p)) r from rest es later got open_ free sp) is = none_some got

one_begins : {prev : ℕ} {xs from rest : List ℕ} {es later : List event.Event} → Spells dead prev xs from rest es later → xs ≡ 1 ∷ [] → head from ≡ 1
one_begins (none prev rest later) is = cc
one_begins (more prev x xs from mid rest es fs later d sp) is = begins_one d (cc)

stands_not : (r : Rule) (k : ℕ) {P : Type 0} → single 0 ≡ r → k ≡ 1 → is_blocked dead r k ≡ false → P
stands_not r k same is free = apart (sym (ap (λ (v : ℕ). is_blocked dead (single 0) v) is) ∙ ap (λ (v : Rule). is_blocked dead v k) same ∙ free)
  where
    apart : {P : Type 0} → true ≡ false → P
    apart e = cc

no_single : {prev x : ℕ} {from rest : List ℕ} {es later : List event.Event} → Derives dead prev x from rest es later → x ≡ 4 → head rest ≡ 1 → ⊥
no_single (leaf prev k rest later e) is at = not_small k 4 is refl e
no_single (node prev zero r from rest es later got open_ free sp) is at = not_left pair r 4 (some_is got) is refl
no_single (node prev (suc zero) r from rest es later got open_ free sp) is at = stands_not r (head rest) (some_is got) at free
no_single (node prev (suc (suc p)) r from rest es later got open_ free sp) is at = none_some got

no_pair : {prev : ℕ} {xs from rest : List ℕ} {es later : List event.Event} → Spells dead prev xs from rest es later → xs ≡ 4 ∷ 1 ∷ [] → ⊥
no_pair (none prev rest later) is = cc
no_pair (more prev x xs from mid rest es fs later d sp) is = no_single d (cc) (one_begins sp (cc))

no_start : {prev x : ℕ} {from rest : List ℕ} {es later : List event.Event} → Derives dead prev x from rest es later → x ≡ 3 → ⊥
no_start (leaf prev k rest later e) is = not_small k 3 is refl e
no_start (node prev zero r from rest es later got open_ free sp) is = no_pair sp (ap Rattle.lr_tables.specs.Grammars.side (sym (some_is got)))
no_start (node prev (suc zero) r from rest es later got open_ free sp) is = not_left (single 0) r 3 (some_is got) is refl
no_start (node prev (suc (suc p)) r from rest es later got open_ free sp) is = none_some got

no_front : (ks : List ℕ) → IsFront dead ks → ⊥
no_front ks f = no_start f.1.1 refl

-- its tables pass what soundness and completeness ask for
abbrev dead_tables : Tables
dead_tables = record {
  grammar = dead;
  rows = (Fail ∷ Fail ∷ Go 1 ∷ Go 3 ∷ Go 2 ∷ []) ∷ (Fail ∷ Fail ∷ []) ∷ (Fail ∷ Go 4 ∷ []) ∷ (Accept ∷ []) ∷ (Reduce 0 ∷ []) ∷ [];
  accesses = 0 ∷ 2 ∷ 4 ∷ 3 ∷ 1 ∷ [];
}

are_complete : tables_ok dead_tables 4 ((4, false, 0) ∷ (4, false, 1) ∷ [])
    ((record { kernel = []; closed = (4, 2, 0, 0) ∷ (3, 1, 0, 0) ∷ [] }) ∷ (record { kernel = (1, 1, 2) ∷ []; closed = [] }) ∷ (record { kernel = (0, 1, 1) ∷ []; closed = [] })
    ∷ (record { kernel = []; closed = [] }) ∷ (record { kernel = (0, 2, 1) ∷ []; closed = [] }) ∷ []) ≡ true
are_complete = refl

-- the machine stops behind its first token, with which no sentence begins
stops_late : run dead_tables 5 [] (2 ∷ 1 ∷ []) ≡ Wrong (1 ∷ [])
unfolding run
stops_late = refl

not_first : IsFirstWrong dead (2 ∷ 1 ∷ []) 1 → ⊥
not_first w = no_front (2 ∷ []) w.fits

-- so no certificate passes the whole check
never_passes : (c : Certificate) → is_certified dead_tables c ≡ true → ⊥
never_passes c h = not_first (is_placed dead_tables (record { certificate = c; passes = h }) 5 (2 ∷ 1 ∷ []) (1 ∷ []) stops_late)
