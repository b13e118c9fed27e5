-- Runs one after another, and what a whole item leads to.
use Rattle.std.proofs.Common.{◌≡◌, ℕ, suc, zero, List, [], ◌∷◌, ◌++◌, length, map, refl, sym, ◌∙◌, ap, subst, append_assoc, Some, arith}
use Rattle.std.specs.List.{slice_get, Contains}
use Rattle.std.proofs.lemmas.List.{map-append}
use Rattle.text_base.specs.declared.numbers.Nt as nt
use Rattle.text_base.specs.declared.letter.Letter.{Letter}
use Rattle.text_base.specs.declared.letter.Letter.TheVariants.{OfByte}
use Rattle.cfg_grammar.specs.declared.symbol.Symbol.{Symbol}
use Rattle.cfg_grammar.specs.declared.symbol.Symbol.TheVariants.{Nt}
use Rattle.cfg_grammar.specs.declared.production.Right.{Right}
use Rattle.cfg_grammar.specs.declared.production.Right.TheVariants.{Empty, One, Two}
use Rattle.cfg_grammar.specs.declared.production.Production.{Production}
use Rattle.cfg_grammar.specs.Derives.{Derives, by_empty, by_one, by_two}
use Rattle.cfg_grammar.specs.Below.{symbols_of}
use Rattle.fst_core.specs.Runs.{Runs}
use Rattle.fst_core.specs.Outputs.{Leads}
use Rattle.fst_core.specs.Items.{Item, IsItem, IsWhole, ReadsTo}

pub runs_append : {S : Type 0} (steps : S → ℕ → S → List Letter → Type 0) (s t u : S) (a b : List ℕ) (x y : List Letter) → Runs steps s a t x → Runs steps t b u y → Runs steps s (a ++ b) u (x ++ y)
runs_append {S} steps s t u [] b x y r q =
    let same : t ≡ s = r.0 in
    let none : y ≡ x ++ y = ap (λ (z : List Letter). z ++ y) (sym r.1) in
    subst (λ (z : List Letter). Runs steps s b u z) none (subst (λ (z : S). Runs steps z b u y) same q)
runs_append steps s t u (byte ∷ a) b x y r q =
    (r.0, r.1, r.2 ++ y, r.3, runs_append steps r.0 t u a b r.2 y r.4 q, ap (λ (z : List Letter). z ++ y) r.5 ∙ append_assoc r.1 r.2 y)

pub contains_at : {X : Type 0} (xs : List X) (i : ℕ) (x : X) → slice_get xs i ≡ Some x → Contains xs x
contains_at [] i x e = cc
contains_at (y ∷ xs) zero x e = let same : y ≡ x = cc in (0, omega arith, same)
contains_at (y ∷ xs) (suc i) x e = let c = contains_at xs i x e in (suc c.0, (let h = c.1 in omega arith), c.2)

module _ {S : Type 0} (productions : List Production) (steps : S → ℕ → S → List Letter → Type 0) where
  pub leads_empty : (a : nt.Nt) (s : S) → Contains productions (record { left = a; right = Empty }) → Leads productions steps s (Nt a) s
  leads_empty a s c = ([], [], by_empty a c, (refl, refl))

  pub leads_one : (a : nt.Nt) (x : Symbol) (s t : S) → Contains productions (record { left = a; right = One x }) → Leads productions steps s x t → Leads productions steps s (Nt a) t
  leads_one a x s t c l = (l.0, l.1, by_one a x (map OfByte l.0) c l.2, l.3)

  pub leads_two : (a : nt.Nt) (x y : Symbol) (s t u : S) → Contains productions (record { left = a; right = Two x y }) → Leads productions steps s x t → Leads productions steps t y u → Leads productions steps s (Nt a) u
  leads_two a x y s t u c l m = (
    l.0 ++ m.0,
    l.1 ++ m.1,
    subst (λ (w : List Letter). Derives productions (Nt a) w) (sym (map-append OfByte l.0 m.0)) (by_two a x y (map OfByte l.0) (map OfByte m.0) c l.2 m.2),
    runs_append steps s t u l.0 m.0 l.1 m.1 l.3 m.3,
  )

  leads_right : (a : nt.Nt) (right : Right) (s : S) (after : List S) (t : S) → Contains productions (record { left = a; right = right }) → ReadsTo productions steps s (symbols_of right) after → length after ≡ length (symbols_of right) → slice_get (s ∷ after) (length after) ≡ Some t → Leads productions steps s (Nt a) t
  leads_right a Empty s [] t c r w e = let same : s ≡ t = cc in subst (λ (z : S). Leads productions steps s (Nt a) z) same (leads_empty a s c)
  leads_right a Empty s (u ∷ after) t c r w e = absurd r
  leads_right a (One x) s [] t c r w e = absurd (omega (arith, w))
  leads_right a (One x) s (u ∷ []) t c r w e = let same : u ≡ t = cc in subst (λ (z : S). Leads productions steps s (Nt a) z) same (leads_one a x s u c r.0)
  leads_right a (One x) s (u ∷ v ∷ after) t c r w e = absurd r.1
  leads_right a (Two x y) s [] t c r w e = absurd (omega (arith, w))
  leads_right a (Two x y) s (u ∷ []) t c r w e = absurd (omega (arith, w))
  leads_right a (Two x y) s (u ∷ v ∷ []) t c r w e = let same : v ≡ t = cc in subst (λ (z : S). Leads productions steps s (Nt a) z) same (leads_two a x y s u v c r.0 r.1.0)
  leads_right a (Two x y) s (u ∷ v ∷ z ∷ after) t c r w e = absurd r.1.1

  pub leads_whole : (from : nt.Nt) (first : S) (item : Item S) (it : IsItem productions steps from first item) → IsWhole it.production item → (t : S) → slice_get (item.entry ∷ item.after) (length item.after) ≡ Some t → Leads productions steps item.entry (Nt it.production.left) t
  leads_whole from first item it w t e =
      leads_right it.production.left it.production.right item.entry item.after t (contains_at productions item.place it.production it.placed) it.read w e
