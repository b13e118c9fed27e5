-- From one machine to another that has a step for each of its steps, between states that stand for one another: what is
-- led to, what is entered, and how many items there are.
use Rattle.std.proofs.Common.{◌≡◌, ℕ, zero, suc, ◌≤◌, List, [], ◌∷◌, length, refl, sym, ◌∙◌, ap, subst, Some, slice_get, arith}
use Rattle.std.specs.List.{All, AllZip}
use Rattle.std.proofs.lemmas.List.Elements.{All-nil, All-cons, All-head, All-tail}
use Rattle.text_base.specs.declared.numbers.Nt as nt
use Rattle.text_base.specs.declared.letter.Letter.{Letter}
use Rattle.cfg_grammar.specs.declared.symbol.Symbol.{Symbol}
use Rattle.cfg_grammar.specs.declared.symbol.Symbol.TheVariants.{Nt}
use Rattle.cfg_grammar.specs.declared.production.Production.{Production}
use Rattle.cfg_grammar.specs.Below.{symbols_of}
use Rattle.fst_core.specs.Runs.{Runs}
use Rattle.numbered_sets.specs.Numbers.{AreDifferent}
use Rattle.fst_core.specs.Outputs.{Leads}
use Rattle.fst_core.specs.Items.{Item, IsItem, ReadsTo, Enters, at_start, by_item, HasItems}

zip_at : {S T : Type 0} (R : S → T → Type 0) (xs : List S) (ys : List T) (n : ℕ) (x : S) → AllZip R xs ys → slice_get xs n ≡ Some x → (y : T) × R x y × (slice_get ys n ≡ Some y)
zip_at R [] [] n x z h = cc
zip_at R [] (y ∷ ys) n x z h = absurd z
zip_at R (w ∷ xs) [] n x z h = absurd z
zip_at {S} {T} R (w ∷ xs) (y ∷ ys) zero x z h = let same : w ≡ x = cc in (y, subst (λ (v : S). R v y) same z.0, refl)
zip_at R (w ∷ xs) (y ∷ ys) (suc n) x z h = zip_at R xs ys n x z.1 h

zip_back : {S T : Type 0} (R : S → T → Type 0) (xs : List S) (ys : List T) (n : ℕ) (y : T) → AllZip R xs ys → slice_get ys n ≡ Some y → (x : S) × R x y × (slice_get xs n ≡ Some x)
zip_back R [] [] n y z h = cc
zip_back R [] (v ∷ ys) n y z h = absurd z
zip_back R (w ∷ xs) [] n y z h = absurd z
zip_back {S} {T} R (w ∷ xs) (v ∷ ys) zero y z h = let same : v ≡ y = cc in (w, subst (λ (u : T). R w u) same z.0, refl)
zip_back R (w ∷ xs) (v ∷ ys) (suc n) y z h = zip_back R xs ys n y z.1 h

zip_long : {S T : Type 0} (R : S → T → Type 0) (xs : List S) (ys : List T) → AllZip R xs ys → length xs ≡ length ys
zip_long R [] [] z = refl
zip_long R [] (v ∷ ys) z = absurd z
zip_long R (w ∷ xs) [] z = absurd z
zip_long R (w ∷ xs) (v ∷ ys) z = ap (λ (n : ℕ). suc n) (zip_long R xs ys z.1)

zip_same : {S T : Type 0} (R : S → T → Type 0) → ((x y : S) (t : T) → R x t → R y t → x ≡ y) → (xs ys : List S) (zs : List T) → AllZip R xs zs → AllZip R ys zs → xs ≡ ys
zip_same R one [] [] zs a b = refl
zip_same R one [] (y ∷ ys) [] a b = absurd b
zip_same R one [] (y ∷ ys) (z ∷ zs) a b = absurd a
zip_same R one (x ∷ xs) ys [] a b = absurd a
zip_same R one (x ∷ xs) [] (z ∷ zs) a b = absurd b
zip_same {S} R one (x ∷ xs) (y ∷ ys) (z ∷ zs) a b =
    ap (λ (v : S). v ∷ xs) (one x y z a.0 b.0) ∙ ap (λ (vs : List S). y ∷ vs) (zip_same R one xs ys zs a.1 b.1)

module _ {S T : Type 0} (productions : List Production) (steps : S → ℕ → S → List Letter → Type 0) (others : T → ℕ → T → List Letter → Type 0) (Stands : S → T → Type 0)
    (over : (s : S) (byte : ℕ) (u : S) (letters : List Letter) (t : T) → steps s byte u letters → Stands s t → (v : T) × Stands u v × others t byte v letters) where
  pub runs_over : (s : S) (text : List ℕ) (u : S) (out : List Letter) (t : T) → Runs steps s text u out → Stands s t → (v : T) × Stands u v × Runs others t text v out
  runs_over s [] u out t r h = (t, subst (λ (z : S). Stands z t) (sym r.0) h, (refl, r.1))
  runs_over s (byte ∷ text) u out t r h =
      let o = over s byte r.0 r.1 t r.3 h in
      let rest = runs_over r.0 text u r.2 o.0 r.4 o.1 in
      (rest.0, rest.1, (o.0, r.1, r.2, o.2, rest.2, r.5))

  pub leads_over : (s : S) (x : Symbol) (u : S) (t : T) → Leads productions steps s x u → Stands s t → (v : T) × Stands u v × Leads productions others t x v
  leads_over s x u t l h = let r = runs_over s l.0 u l.1 t l.3 h in (r.0, r.1, (l.0, l.1, l.2, r.2))

  pub reads_over : (symbols : List Symbol) (s : S) (after : List S) (t : T) → ReadsTo productions steps s symbols after → Stands s t → (ts : List T) × AllZip Stands after ts × ReadsTo productions others t symbols ts
  reads_over symbols s [] t r h = ([], tt, tt)
  reads_over [] s (u ∷ after) t r h = absurd r
  reads_over (x ∷ symbols) s (u ∷ after) t r h =
      let l = leads_over s x u t r.0 h in
      let rest = reads_over symbols u after l.0 r.1 l.1 in
      (l.0 ∷ rest.0, (l.1, rest.1), (l.2, rest.2))

  module _ (from : nt.Nt) (first : S) (start : T) (begins : Stands first start) where
    pub enters_over : (x : Symbol) (s : S) → Enters productions steps from first x s → (t : T) × Stands s t × Enters productions others from start x t
    enters_over x s at_start = (start, begins, at_start)
    enters_over x s (by_item place p u after w symbol placed e r at next) =
        let d = enters_over (Nt p.left) u e in
        let q = reads_over (symbols_of p.right) u after d.0 r d.1 in
        let z = zip_at Stands (u ∷ after) (d.0 ∷ q.0) (length after) w (d.1, q.1) at in
        let long : length after ≡ length q.0 = zip_long Stands after q.0 q.1 in (
          z.0,
          z.1,
          by_item place p d.0 q.0 z.0 symbol placed d.2 q.2 (subst (λ (n : ℕ). slice_get (d.0 ∷ q.0) n ≡ Some z.0) long z.2)
              (subst (λ (n : ℕ). slice_get (symbols_of p.right) n ≡ Some symbol) long next),
        )

    -- the item of the one machine is that of the other
    abbrev pub IsOver : Item S → Item T → Type 0
    IsOver a b = (a.place ≡ b.place) × Stands a.entry b.entry × AllZip Stands a.after b.after

    item_over : (item : Item S) → IsItem productions steps from first item → (other : Item T) × IsOver item other × IsItem productions others from start other
    item_over item it =
        let d = enters_over (Nt it.production.left) item.entry it.entered in
        let q = reads_over (symbols_of it.production.right) item.entry item.after d.0 it.read d.1 in (
          record { place = item.place; entry = d.0; after = q.0 },
          (refl, d.1, q.1),
          record { production = it.production; placed = it.placed; entered = d.2; read = q.2 },
        )

    items_over : (items : List (Item S)) → All (IsItem productions steps from first) items → (list : List (Item T)) × AllZip IsOver items list × All (IsItem productions others from start) list
    items_over [] h = ([], tt, All-nil (IsItem productions others from start))
    items_over (item ∷ items) h =
        let o = item_over item (All-head (IsItem productions steps from first) item items h) in
        let rest = items_over items (All-tail (IsItem productions steps from first) item items h) in
        (o.0 ∷ rest.0, (o.1, rest.1), All-cons (IsItem productions others from start) o.0 rest.0 o.2 rest.2)

    pub has_items_over : ((s u : S) (t : T) → Stands s t → Stands u t → s ≡ u) → (n : ℕ) → HasItems productions steps from first n → HasItems productions others from start n
    has_items_over one n h =
        let o = items_over h.0 h.2 in
        let long : length h.0 ≡ length o.0 = zip_long IsOver h.0 o.0 o.1 in (
          o.0,
          λ i j x a b.
              let c = zip_back IsOver h.0 o.0 i x o.1 a in
              let d = zip_back IsOver h.0 o.0 j x o.1 b in
              let e : (c.0).entry ≡ (d.0).entry = one (c.0).entry (d.0).entry x.entry c.1.1 d.1.1 in
              let f : (c.0).after ≡ (d.0).after = zip_same Stands one (c.0).after (d.0).after x.after c.1.2 d.1.2 in
              let g : (c.0).place ≡ (d.0).place = c.1.0 ∙ sym d.1.0 in
              let same : c.0 ≡ d.0 =
              ap (λ (m : ℕ). let y : Item S = record { place = m; entry = (c.0).entry; after = (c.0).after } in y) g
              ∙ (ap (λ (s : S). let y : Item S = record { place = (d.0).place; entry = s; after = (c.0).after } in y) e
              ∙ ap (λ (ss : List S). let y : Item S = record { place = (d.0).place; entry = (d.0).entry; after = ss } in y) f) in
              h.1 i j c.0 c.2 (d.2 ∙ ap (λ (y : Item S). Some y) (sym same)),
          o.2,
          subst (λ (m : ℕ). n ≤ m) long h.3,
        )
