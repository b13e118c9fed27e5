-- Maps and sets of states, one after another.
use Rattle.std.proofs.Common.{◌≡◌, ℕ, zero, suc, Bool, true, false, List, [], ◌∷◌, Option, Some, None, refl, sym, ◌∙◌, ap}
use Rattle.tag_sums.specs.Sum.{target, has, follow, admits, after, preimage, some_move, some_state}

pub target_after : (f s : List (Option ℕ)) (q : ℕ) → target (after f s) q ≡ follow s (target f q)
target_after [] s q = refl
target_after (x ∷ f) s zero = refl
target_after (x ∷ f) s (suc q) = target_after f s q

pub has_preimage : (m : List (Option ℕ)) (s : List Bool) (q : ℕ) → has (preimage m s) q ≡ admits s (target m q)
has_preimage [] s q = refl
has_preimage (x ∷ m) s zero = refl
has_preimage (x ∷ m) s (suc q) = has_preimage m s q

pub target_empty : (m : List (Option ℕ)) (q : ℕ) → some_move m ≡ false → target m q ≡ None
target_empty [] q e = refl
target_empty (None ∷ m) zero e = refl
target_empty (None ∷ m) (suc q) e = target_empty m q e
target_empty (Some x ∷ m) q e = cc

pub has_empty : (s : List Bool) (q : ℕ) → some_state s ≡ false → has s q ≡ false
has_empty [] q e = refl
has_empty (false ∷ s) zero e = refl
has_empty (false ∷ s) (suc q) e = has_empty s q e
has_empty (true ∷ s) q e = cc

pub after_after : (f s t : List (Option ℕ)) → after (after f s) t ≡ after f (after s t)
after_after [] s t = refl
after_after (None ∷ f) s t = ap (λ (m : List (Option ℕ)). None ∷ m) (after_after f s t)
after_after (Some q ∷ f) s t =
    ap (λ (x : Option ℕ). x ∷ after (after f s) t) (sym (target_after s t q))
    ∙ ap (λ (m : List (Option ℕ)). target (after s t) q ∷ m) (after_after f s t)

pub preimage_after : (f s : List (Option ℕ)) (t : List Bool) → preimage (after f s) t ≡ preimage f (preimage s t)
preimage_after [] s t = refl
preimage_after (None ∷ f) s t = ap (λ (m : List Bool). false ∷ m) (preimage_after f s t)
preimage_after (Some q ∷ f) s t =
    ap (λ (x : Bool). x ∷ preimage (after f s) t) (sym (has_preimage s t q))
    ∙ ap (λ (m : List Bool). has (preimage s t) q ∷ m) (preimage_after f s t)

pub after_empty_first : (f s : List (Option ℕ)) → some_move f ≡ false → some_move (after f s) ≡ false
after_empty_first [] s e = refl
after_empty_first (None ∷ f) s e = after_empty_first f s e
after_empty_first (Some q ∷ f) s e = cc

pub after_empty_second : (f s : List (Option ℕ)) → some_move s ≡ false → some_move (after f s) ≡ false
after_empty_second [] s e = refl
after_empty_second (None ∷ f) s e = after_empty_second f s e
after_empty_second (Some q ∷ f) s e = rw (target_empty s q e) (after_empty_second f s e)

pub preimage_empty_first : (f : List (Option ℕ)) (s : List Bool) → some_move f ≡ false → some_state (preimage f s) ≡ false
preimage_empty_first [] s e = refl
preimage_empty_first (None ∷ f) s e = preimage_empty_first f s e
preimage_empty_first (Some q ∷ f) s e = cc

pub preimage_empty_second : (f : List (Option ℕ)) (s : List Bool) → some_state s ≡ false → some_state (preimage f s) ≡ false
preimage_empty_second [] s e = refl
preimage_empty_second (None ∷ f) s e = preimage_empty_second f s e
preimage_empty_second (Some q ∷ f) s e = rw (has_empty s q e) (preimage_empty_second f s e)
