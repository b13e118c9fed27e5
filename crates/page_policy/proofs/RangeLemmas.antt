-- Ranges of a set are read one after another, and classes of bytes are made of them.
use Rattle.std.proofs.Common.{◌≡◌, ◌∙◌, ◌⊎◌, inl, inr, ◌<◌, ◌≤◌, ℕ, Bool, true, false, List, [], ◌∷◌, Option, Some, None, refl, sym, ap, subst, arith}
use Rattle.std.specs.Prelude.{◌↔◌, ◌&&◌, ◌||◌, nat_le, IsTrue, not}
use Rattle.std.proofs.lemmas.Bool.{and_parts, and_from, leb-true, le-leb}
use Rattle.std.proofs.lemmas.List.{get_or-replicate}
use Rattle.text_base.specs.ByteSet.{Has, no_bytes}
use Rattle.derivatives.specs.Expressions.{lies}
use Rattle.page_policy.specs.Patterns.{in_ranges, is_meant}
use Rattle.page_policy.specs.Grammar.{range_at, Ranges, last, more}
use Rattle.page_policy.specs.Views.{HasRanges, ReadsRanges, RangesSoFar}
use Rattle.page_policy.proofs.PartLemmas.{same_read, same_tail, none_read}

differ : false ≡ true → ⊥
differ e = cc

pub has_none : (set : List Bool) → set ≡ no_bytes → (b : ℕ) → b < 256 → Has set b → ⊥
has_none set e b lt has = differ (sym (get_or-replicate 256 b false false lt) ∙ subst (λ (s : List Bool). Has s b) e has)

pub no_ranges : (set : List Bool) → set ≡ no_bytes → HasRanges set []
no_ranges set e b lt = (λ has. absurd (has_none set e b lt has), λ f. absurd (differ f))

or_parts : (x y : Bool) → (x || y) ≡ true → (x ≡ true) ⊎ (y ≡ true)
or_parts true y e = inl refl
or_parts false y e = inr e

or_first : (x y : Bool) → x ≡ true → (x || y) ≡ true
or_first true y e = refl
or_first false y e = absurd (differ e)

or_second : (x y : Bool) → y ≡ true → (x || y) ≡ true
or_second true y e = refl
or_second false y e = e

lies_so : (low high b : ℕ) → (low ≤ b) × (b ≤ high) → lies low high b ≡ true
lies_so low high b p = and_from (nat_le low b) (nat_le b high) (le-leb low b p.0) (le-leb b high p.1)

so_lies : (low high b : ℕ) → lies low high b ≡ true → (low ≤ b) × (b ≤ high)
so_lies low high b e = let p = and_parts (nat_le low b) (nat_le b high) e in (leb-true low b p.0, leb-true b high p.1)

-- a set with the bytes of one range more
abbrev Adds : List Bool → List Bool → ℕ → ℕ → Type 0
Adds old new low high = (b : ℕ) → b < 256 → Has new b ↔ (Has old b ⊎ ((low ≤ b) × (b ≤ high)))

pub one_range : (set new : List Bool) (low high : ℕ) → set ≡ no_bytes → Adds set new low high → HasRanges new ((low, high) ∷ [])
one_range set new low high e add b lt = (λ has. forth ((add b lt).0 has), λ f. back (or_parts (lies low high b) false f))
  where
    forth : Has set b ⊎ ((low ≤ b) × (b ≤ high)) → in_ranges ((low, high) ∷ []) b ≡ true
    forth (inl has) = absurd (has_none set e b lt has)
    forth (inr p) = or_first (lies low high b) false (lies_so low high b p)

    back : (lies low high b ≡ true) ⊎ (false ≡ true) → Has new b
    back (inl f) = (add b lt).1 (inr (so_lies low high b f))
    back (inr f) = absurd (differ f)

pub so_far_begun : (bytes : List ℕ) (set : List Bool) → set ≡ no_bytes → RangesSoFar bytes set bytes
so_far_begun bytes set e = record {
  forth = λ rs w d. (rs, d, λ b lt. (λ x. elim x [ inl has ↦ absurd (has_none set e b lt has) | inr f ↦ f ], λ f. inr f));
  back = λ rs w d. (rs, d);
}

-- what is in the old set, or in the range and those behind it, is in the new one, or in those behind it
moved : (old new : List Bool) (low high : ℕ) (rs all : List (ℕ × ℕ)) → Adds old new low high
    → ((b : ℕ) → b < 256 → (Has old b ⊎ (in_ranges ((low, high) ∷ rs) b ≡ true)) ↔ (in_ranges all b ≡ true))
    → (b : ℕ) → b < 256 → (Has new b ⊎ (in_ranges rs b ≡ true)) ↔ (in_ranges all b ≡ true)
moved old new low high rs all add is b lt = (λ x. (is b lt).0 (forth x), λ f. back ((is b lt).1 f))
  where
    put : Has old b ⊎ ((low ≤ b) × (b ≤ high)) → Has old b ⊎ (in_ranges ((low, high) ∷ rs) b ≡ true)
    put (inl has) = inl has
    put (inr p) = inr (or_first (lies low high b) (in_ranges rs b) (lies_so low high b p))

    forth : Has new b ⊎ (in_ranges rs b ≡ true) → Has old b ⊎ (in_ranges ((low, high) ∷ rs) b ≡ true)
    forth (inl has) = put ((add b lt).0 has)
    forth (inr f) = inr (or_second (lies low high b) (in_ranges rs b) f)

    split : (lies low high b ≡ true) ⊎ (in_ranges rs b ≡ true) → Has new b ⊎ (in_ranges rs b ≡ true)
    split (inl f) = inl ((add b lt).1 (inr (so_lies low high b f)))
    split (inr f) = inr f

    back : Has old b ⊎ (in_ranges ((low, high) ∷ rs) b ≡ true) → Has new b ⊎ (in_ranges rs b ≡ true)
    back (inl has) = inl ((add b lt).1 (inl has))
    back (inr f) = split (or_parts (lies low high b) (in_ranges rs b) f)

pub so_far_more : (bytes : List ℕ) (old new : List Bool) (rest others : List ℕ) (low high : ℕ) → RangesSoFar bytes old rest
    → range_at rest ≡ Some ((low, high), others) → Adds old new low high → ((w : List ℕ) → others ≡ 93 ∷ w → ⊥) → RangesSoFar bytes new others
so_far_more bytes old new rest others low high so e add not_end = record {
  forth = λ rs w d. (let f = so.forth ((low, high) ∷ rs) w (more e d) in (f.0, f.1, moved old new low high rs f.0 add f.2));
  back = λ rs w d. (let f = so.back rs w d in behind f.1);
}
  where
    behind : {ss : List (ℕ × ℕ)} {w : List ℕ} → Ranges ss rest w → (rs : List (ℕ × ℕ)) × Ranges rs others w
    behind (last {w = w} f) = absurd (not_end w (same_read e f).1)
    behind (more {rs = rs} {w = w} f d) = (rs, subst (λ (z : List ℕ). Ranges rs z w) (sym (same_read e f).1) d)

pub so_far_ended : (bytes : List ℕ) (old new : List Bool) (rest others behind : List ℕ) (low high : ℕ) → RangesSoFar bytes old rest
    → range_at rest ≡ Some ((low, high), others) → Adds old new low high → others ≡ 93 ∷ behind → ReadsRanges bytes new behind
so_far_ended bytes old new rest others behind low high so e add is =
    let f = so.forth ((low, high) ∷ []) behind (last (e ∙ ap (λ (z : List ℕ). Some ((low, high), z)) is)) in
    let m = moved old new low high [] f.0 add f.2 in
    record { ranges = f.0; read = f.1; has = λ b lt. (λ has. (m b lt).0 (inl has), λ g. here b ((m b lt).1 g)) }
  where
    here : (b : ℕ) → Has new b ⊎ (false ≡ true) → Has new b
    here b (inl has) = has
    here b (inr f) = absurd (differ f)

pub so_far_failed : (bytes : List ℕ) (set : List Bool) (rest : List ℕ) → RangesSoFar bytes set rest → None ≡ range_at rest
    → (rs : List (ℕ × ℕ)) (w : List ℕ) → Ranges rs bytes w → ⊥
so_far_failed bytes set rest so e rs w d = let f = so.back rs w d in wrong f.1
  where
    wrong : {ss : List (ℕ × ℕ)} {w : List ℕ} → Ranges ss rest w → ⊥
    wrong (last f) = none_read (e ∙ f)
    wrong (more f g) = none_read (e ∙ f)
