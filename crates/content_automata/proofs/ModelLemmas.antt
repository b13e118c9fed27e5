-- The state behind each child, where it stays.
use Rattle.std.proofs.Common.{◌≡◌, ℕ, ◌≤◌, Bool, true, false, List, ◌∷◌, length, map, ap, sym, ◌∙◌, subst, arith, Option}
use Rattle.std.specs.Prelude.{nat_eq, replicate, IfOk}
use Rattle.std.specs.declared.result.Result.{Result}
use Rattle.std.specs.declared.vec.Vec.{Vec}
use Rattle.std.specs.declared.alloc.Global.{Global}
use Rattle.text_base.specs.declared.memory.NoMemory.{NoMemory}
use Rattle.std.specs.List.{list_any, range_with_len}
use Rattle.std.proofs.lemmas.Bool.{lt-ltb}
use Rattle.std.proofs.lemmas.List.{set_past}
use Rattle.content_automata.specs.Sets.{raised}
use Rattle.content_automata.proofs.RangeLemmas.{same_range, map_range, replicate_range, listed_range}
use Rattle.content_automata.specs.Shapes.{kept, empty, any, text, state_behind}

pub none_kept : (count : ℕ) (flags : List Bool) → map (kept flags) (replicate count false) ≡ map (state_behind count empty flags) (range_with_len 0 count)
none_kept count flags = ap (map (kept flags)) (replicate_range false 0 count) ∙ map_range (kept flags) (λ i. false) 0 count

pub all_kept : (count : ℕ) (flags : List Bool) → map (kept flags) (replicate count true) ≡ map (state_behind count any flags) (range_with_len 0 count)
all_kept count flags =
    ap (map (kept flags)) (replicate_range true 0 count)
    ∙ map_range (kept flags) (λ i. true) 0 count
    ∙ same_range (λ i. kept flags true) (state_behind count any flags) 0 count (λ i low high. ap (kept flags) (sym (lt-ltb i count (omega (arith, high)))))

pub listed_kept : (count : ℕ) (es : List ℕ) (flags : List Bool) → map (kept flags) (raised (replicate count false) es) ≡ map (state_behind count (text es) flags) (range_with_len 0 count)
listed_kept count es flags = ap (map (kept flags)) (listed_range count es) ∙ map_range (kept flags) (λ i. list_any (nat_eq i) es) 0 count

-- one more number is listed
pub listed_past : (flags : List Bool) (p : ℕ) (rest : List ℕ) (all : List Bool) → length flags ≤ p → raised flags (p ∷ rest) ≡ all → raised flags rest ≡ all
listed_past flags p rest all h e = ap (λ (bs : List Bool). raised bs rest) (sym (set_past flags p true h)) ∙ e

-- rows that are the same
pub rows_as : (r : Result (Vec (Option (List Bool)) Global) NoMemory) (xs ys : List (Option (List Bool))) → IfOk r (λ v. v.items ≡ xs) → xs ≡ ys → IfOk r (λ v. v.items ≡ ys)
rows_as r xs ys h e = subst (λ (zs : List (Option (List Bool))). IfOk r (λ v. v.items ≡ zs)) e h
