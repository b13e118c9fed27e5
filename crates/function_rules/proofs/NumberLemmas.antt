-- Numbers of arguments: the last parameters may be left out as far as they have defaults.
use Rattle.std.proofs.Common.{◌≡◌, ◌∙◌, ◌≤◌, ◌<◌, ℕ, zero, suc, ◌+◌, Bool, true, false, List, [], ◌∷◌, length, drop, Some, slice_get, get_or, refl, sym, ap, subst, arith}
use Rattle.std.specs.Prelude.{◌&&◌, nat_le}
use Rattle.std.proofs.lemmas.Bool.Decides.{nat_tests}
use Rattle.std.proofs.lemmas.Option.{same_Some}
use Rattle.php_syntax.specs.declared.tree.Param.{Param}
use Rattle.php_syntax.specs.Trees.{PlainParam, plain_param, params_of_list, maybe_of}
use Rattle.program_rules.specs.Rules.{has_default, have_defaults, serves}

le_zero : (n : ℕ) → nat_le 0 n ≡ true
le_zero n = grind (arith, nat_tests)

le_none : (n : ℕ) → nat_le (suc n) 0 ≡ false
le_none n = grind (arith, nat_tests)

le_suc : (m n : ℕ) → nat_le (suc m) (suc n) ≡ nat_le m n
le_suc m n = grind (arith, nat_tests)

-- the parameter before this place has no default, if there is one before it
pub LastIsBare : List PlainParam → ℕ → Type 0
LastIsBare ps zero = Unit {0}
LastIsBare ps (suc k) = (p : PlainParam) × (slice_get ps k ≡ Some p) × (has_default p.default_of ≡ false)

pub none_bare : (ps : List PlainParam) (least : ℕ) → least ≡ 0 → LastIsBare ps least
unfolding LastIsBare
none_bare ps zero e = tt
none_bare ps (suc k) e = absurd (omega arith)

pub one_bare : (ps : List PlainParam) (least k : ℕ) (p : PlainParam) → least ≡ k + 1 → slice_get ps k ≡ Some p → has_default p.default_of ≡ false → LastIsBare ps least
unfolding LastIsBare
one_bare ps zero k p e at bare = absurd (omega arith)
one_bare ps (suc j) k p e at bare = let same : j ≡ k = omega arith in (p, (ap (slice_get ps) same ∙ at), bare)

not_all : (a b : Bool) → a ≡ false → (a && b) ≡ false
not_all true b e = absurd (cc)
not_all false b e = refl

nor_then : (a b : Bool) → b ≡ false → (a && b) ≡ false
nor_then true b e = e
nor_then false b e = refl

bare_somewhere : (ps : List PlainParam) (k : ℕ) (p : PlainParam) → slice_get ps k ≡ Some p → has_default p.default_of ≡ false → have_defaults ps ≡ false
unfolding have_defaults
bare_somewhere [] k p at bare = absurd (cc)
bare_somewhere (q ∷ ps) zero p at bare = not_all (has_default q.default_of) (have_defaults ps) (ap (λ (r : PlainParam). has_default r.default_of) (same_Some q p at) ∙ bare)
bare_somewhere (q ∷ ps) (suc k) p at bare = nor_then (has_default q.default_of) (have_defaults ps) (bare_somewhere ps k p at bare)

rest_have : (a b : Bool) → (a && b) ≡ true → b ≡ true
rest_have true b e = e
rest_have false b e = absurd (cc)

bare_behind : (q : PlainParam) (ps : List PlainParam) (k : ℕ) → LastIsBare (q ∷ ps) (suc k) → LastIsBare ps k
unfolding LastIsBare
bare_behind q ps zero b = tt
bare_behind q ps (suc k) b = b

drop_defaults : (q : PlainParam) (ps : List PlainParam) (least : ℕ) → have_defaults (drop least (q ∷ ps)) ≡ true → LastIsBare (q ∷ ps) least → least ≤ length (q ∷ ps)
    → (less : ℕ) × (have_defaults (drop less ps) ≡ true) × LastIsBare ps less × (less ≤ length ps) × ((n : ℕ) → nat_le least (suc n) ≡ nat_le less n)
unfolding have_defaults LastIsBare
drop_defaults q ps zero have bare le = (0, rest_have (has_default q.default_of) (have_defaults ps) have, tt, omega arith, λ n. le_zero (suc n) ∙ sym (le_zero n))
drop_defaults q ps (suc k) have bare le = (k, have, bare_behind q ps k bare, omega arith, λ n. le_suc k n)

serves_none : (ps : List PlainParam) (least : ℕ) → have_defaults (drop least ps) ≡ true → LastIsBare ps least → have_defaults ps ≡ (nat_le least 0 && nat_le 0 (length ps))
unfolding LastIsBare
serves_none ps zero have bare = have ∙ sym (ap (λ (b : Bool). b && nat_le 0 (length ps)) (le_zero 0) ∙ le_zero (length ps))
serves_none ps (suc k) have bare = bare_somewhere ps k bare.0 bare.1 bare.2 ∙ sym (ap (λ (b : Bool). b && nat_le 0 (length ps)) (le_none k))

pub serves_is : (ps : List PlainParam) (least : ℕ) → have_defaults (drop least ps) ≡ true → LastIsBare ps least → least ≤ length ps → (n : ℕ) → serves n ps ≡ (nat_le least n && nat_le n (length ps))
unfolding serves
serves_is ps least have bare le zero = serves_none ps least have bare
serves_is [] least have bare le (suc n) = sym (nor_then (nat_le least (suc n)) (nat_le (suc n) 0) (le_none n))
serves_is (q ∷ ps) least have bare le (suc n) =
    let d = drop_defaults q ps least have bare le in
    serves_is ps d.0 d.1 d.2 d.3 n ∙ sym (ap (λ (b : Bool). b && nat_le (suc n) (suc (length ps))) (d.4 n) ∙ ap (λ (b : Bool). nat_le d.0 n && b) (le_suc n (length ps)))

-- parameters in memory
pub params_length : (ps : List Param) → length (params_of_list ps) ≡ length ps
params_length [] = refl
params_length (p ∷ ps) = ap suc (params_length ps)

pub param_at : (ps : List Param) (k : ℕ) (p : Param) → k < length ps → p ≡ get_or ps k p → slice_get (params_of_list ps) k ≡ Some (plain_param p)
param_at [] k p lt is = absurd (omega arith)
param_at (q ∷ ps) zero p lt is = ap (λ (r : Param). Some (plain_param r)) (sym is)
param_at (q ∷ ps) (suc k) p lt is = param_at ps k p (omega arith) is

pub all_left_out : (ps : List Param) (k : ℕ) → k ≡ length ps → have_defaults (params_of_list (drop k ps)) ≡ true
unfolding have_defaults
all_left_out [] zero e = refl
all_left_out [] (suc k) e = absurd (omega arith)
all_left_out (p ∷ ps) zero e = absurd (omega arith)
all_left_out (p ∷ ps) (suc k) e = all_left_out ps k (omega arith)

one_more : (a b : Bool) → a ≡ true → b ≡ true → (a && b) ≡ true
one_more true b e f = f
one_more false b e f = absurd (cc)

left_out_core : (ps : List Param) (k : ℕ) (p : Param) → k < length ps → p ≡ get_or ps k p → has_default (maybe_of p.default) ≡ true → have_defaults (params_of_list (drop (suc k) ps)) ≡ true → have_defaults (params_of_list (drop k ps)) ≡ true
unfolding have_defaults
left_out_core [] k p lt is has rest = absurd (omega arith)
left_out_core (q ∷ ps) zero p lt is has rest = one_more (has_default (maybe_of q.default)) (have_defaults (params_of_list ps)) (ap (λ (r : Param). has_default (maybe_of r.default)) (sym is) ∙ has) rest
left_out_core (q ∷ ps) (suc k) p lt is has rest = left_out_core ps k p (omega arith) is has rest

pub one_left_out : (ps : List Param) (k least : ℕ) (p : Param) → least ≡ k + 1 → k < length ps → p ≡ get_or ps k p → has_default (maybe_of p.default) ≡ true → have_defaults (params_of_list (drop least ps)) ≡ true → have_defaults (params_of_list (drop k ps)) ≡ true
one_left_out ps k least p e lt is has rest =
    let same : least ≡ suc k = omega arith in
    let P : ℕ → Type 0 = λ i. have_defaults (params_of_list (drop i ps)) ≡ true in
    left_out_core ps k p lt is has (subst P same rest)

pub drop_params : (ps : List Param) (k : ℕ) → params_of_list (drop k ps) ≡ drop k (params_of_list ps)
drop_params [] zero = refl
drop_params [] (suc k) = refl
drop_params (p ∷ ps) zero = refl
drop_params (p ∷ ps) (suc k) = drop_params ps k

-- where the parameter before has no default, and where there is none before
pub bare_end : (ps : List Param) (least k most : ℕ) (p : Param) → least ≡ k + 1 → k < length ps → p ≡ get_or ps k p → has_default (maybe_of p.default) ≡ false → have_defaults (params_of_list (drop least ps)) ≡ true → least ≤ length ps → most ≡ length ps
    → (n : ℕ) → serves n (params_of_list ps) ≡ (nat_le least n && nat_le n most)
bare_end ps least k most p e lt is bare have le same n =
    serves_is (params_of_list ps) least (ap have_defaults (sym (drop_params ps least)) ∙ have) (one_bare (params_of_list ps) least k (plain_param p) e (param_at ps k p lt is) bare) (let h = params_length ps in omega arith) n
    ∙ ap (λ (m : ℕ). nat_le least n && nat_le n m) (params_length ps ∙ sym same)

pub none_end : (ps : List Param) (least most : ℕ) → least ≡ 0 → have_defaults (params_of_list (drop least ps)) ≡ true → most ≡ length ps → (n : ℕ) → serves n (params_of_list ps) ≡ (nat_le 0 n && nat_le n most)
none_end ps least most e have same n =
    let P : ℕ → Type 0 = λ k. have_defaults (params_of_list (drop k ps)) ≡ true in
    serves_is (params_of_list ps) 0 (ap have_defaults (sym (drop_params ps 0)) ∙ subst P e have) (none_bare (params_of_list ps) 0 refl) (omega arith) n ∙ ap (λ (m : ℕ). nat_le 0 n && nat_le n m) (params_length ps ∙ sym same)
