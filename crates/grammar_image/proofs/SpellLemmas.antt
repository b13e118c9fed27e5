-- Symbols that put out one text are one list, and lists of symbols and their numbers tell one another.
use Rattle.std.proofs.Common.{◌≡◌, ℕ, suc, ◌+◌, ◌<◌, ◌≤◌, ◌↔◌, List, [], ◌∷◌, ◌++◌, length, length-append, refl, sym, ◌∙◌, ap, subst, arith, Some, slice_get}
use Rattle.std.proofs.Math.Bridge.{le_prop}
use Rattle.std.specs.List.{AllZip}
use Rattle.text_base.specs.declared.byte_range.ByteRange.{ByteRange}
use Rattle.text_base.specs.declared.letter.Letter.{Letter}
use Rattle.text_base.specs.declared.letter.Letter.TheVariants.{OfByte, OfToken}
use Rattle.cfg_grammar.specs.declared.symbol.Symbol.{Symbol}
use Rattle.cfg_grammar.specs.declared.symbol.Symbol.TheVariants.{Range, Token, Nt}
use Rattle.numbered_sets.specs.Numbers.{AreDifferent}
use Rattle.chart_grammar.specs.declared.fronts.Front.{Front}
use Rattle.chart_grammar.specs.Fronts.{StandsFor, nothing, longer}
use Rattle.chart_grammar.specs.Outs.{Puts}
use Rattle.chart_grammar.specs.Paid.{Spells}

some_same : {X : Type 0} (x y : X) → Some x ≡ Some y → x ≡ y
some_same x y h = cc

range_same : (lo hi a b : ℕ) (o : lo ≤ hi) → lo ≡ a → hi ≡ b → (p : a ≤ b) → ◌≡◌ {A = ByteRange} (record { lo = lo; hi = hi; ordered = o }) (record { lo = a; hi = b; ordered = p })
range_same lo hi a b o e f =
    subst (λ (x : ℕ). (p : x ≤ b) → ◌≡◌ {A = ByteRange} (record { lo = lo; hi = hi; ordered = o }) (record { lo = x; hi = b; ordered = p })) e
    (subst (λ (y : ℕ). (p : lo ≤ y) → ◌≡◌ {A = ByteRange} (record { lo = lo; hi = hi; ordered = o }) (record { lo = lo; hi = y; ordered = p })) f
    (λ p. ap (λ (q : lo ≤ hi). let r : ByteRange = record { lo = lo; hi = hi; ordered = q } in r) (le_prop o p)))

one_symbol : (x y : Symbol) (l : Letter) → ((c : Letter) → Puts x c ↔ (c ≡ l)) → ((c : Letter) → Puts y c ↔ (c ≡ l)) → x ≡ y
one_symbol (Range r) (Range q) l h k =
    let a : OfByte r.lo ≡ l = (h (OfByte r.lo)).0 (omega arith, r.ordered) in
    let b : OfByte r.hi ≡ l = (h (OfByte r.hi)).0 (r.ordered, omega arith) in
    let c : OfByte q.lo ≡ l = (k (OfByte q.lo)).0 (omega arith, q.ordered) in
    let d : OfByte q.hi ≡ l = (k (OfByte q.hi)).0 (q.ordered, omega arith) in
    let lo : r.lo ≡ q.lo = cc in
    let hi : r.hi ≡ q.hi = cc in
    ap (λ (z : ByteRange). Range z) (range_same r.lo r.hi q.lo q.hi r.ordered lo hi q.ordered)
one_symbol (Range r) (Token t) l h k =
    let a : OfByte r.lo ≡ l = (h (OfByte r.lo)).0 (omega arith, r.ordered) in
    let c : OfToken t ≡ l = (k (OfToken t)).0 refl in
    cc
one_symbol (Range r) (Nt a) l h k = absurd ((k l).1 refl)
one_symbol (Token t) (Range q) l h k =
    let a : OfToken t ≡ l = (h (OfToken t)).0 refl in
    let c : OfByte q.lo ≡ l = (k (OfByte q.lo)).0 (omega arith, q.ordered) in
    cc
one_symbol (Token t) (Token s) l h k =
    let a : OfToken t ≡ l = (h (OfToken t)).0 refl in
    let c : OfToken s ≡ l = (k (OfToken s)).0 refl in
    let same : t ≡ s = cc in
    ap (λ (z : _). Token z) same
one_symbol (Token t) (Nt a) l h k = absurd ((k l).1 refl)
one_symbol (Nt a) y l h k = absurd ((h l).1 refl)

head_one : (x : Symbol) (xs : List Symbol) (l : Letter) (ls : List Letter) → Spells (x ∷ xs) (l ∷ ls) → (c : Letter) → Puts x c ↔ (c ≡ l)
head_one x xs l ls h c =
    let z = (h (l ∷ ls)).1 refl in (
      λ p. let e : c ∷ ls ≡ l ∷ ls = (h (c ∷ ls)).0 (p, z.1) in cc,
      λ e. subst (λ (d : Letter). Puts x d) (sym e) z.0,
    )

tail_spells : (x : Symbol) (xs : List Symbol) (l : Letter) (ls : List Letter) → Spells (x ∷ xs) (l ∷ ls) → Spells xs ls
tail_spells x xs l ls h w =
    let z = (h (l ∷ ls)).1 refl in (
      λ p. let e : l ∷ w ≡ l ∷ ls = (h (l ∷ w)).0 (z.0, p) in cc,
      λ e. subst (λ (v : List Letter). AllZip Puts xs v) (sym e) z.1,
    )

pub spells_same : (xs ys : List Symbol) (w : List Letter) → Spells xs w → Spells ys w → xs ≡ ys
spells_same [] [] w h k = refl
spells_same [] (y ∷ ys) [] h k = absurd ((k []).1 refl)
spells_same [] (y ∷ ys) (l ∷ w) h k = absurd ((h (l ∷ w)).1 refl)
spells_same (x ∷ xs) [] [] h k = absurd ((h []).1 refl)
spells_same (x ∷ xs) [] (l ∷ w) h k = absurd ((k (l ∷ w)).1 refl)
spells_same (x ∷ xs) (y ∷ ys) [] h k = absurd ((h []).1 refl)
spells_same (x ∷ xs) (y ∷ ys) (l ∷ w) h k =
    ap (λ (z : Symbol). z ∷ xs) (one_symbol x y l (head_one x xs l w h) (head_one y ys l w k))
    ∙ ap (λ (zs : List Symbol). y ∷ zs) (spells_same xs ys w (tail_spells x xs l w h) (tail_spells y ys l w k))

-- as many letters as symbols
pub spells_long : (xs : List Symbol) (w : List Letter) → AllZip Puts xs w → length xs ≡ length w
spells_long [] [] z = refl
spells_long [] (c ∷ w) z = absurd z
spells_long (x ∷ xs) [] z = absurd z
spells_long (x ∷ xs) (c ∷ w) z = ap (λ (n : ℕ). suc n) (spells_long xs w z.1)

push_same : (us vs : List Symbol) (a b : Symbol) → us ++ a ∷ [] ≡ vs ++ b ∷ [] → (us ≡ vs) × (a ≡ b)
push_same [] [] a b e = let same : a ≡ b = cc in (refl, same)
push_same [] (v ∷ vs) a b e =
    let rest : ◌≡◌ {A = List Symbol} [] (vs ++ b ∷ []) = cc in
    let l = ap length rest ∙ length-append vs (b ∷ []) in
    absurd (omega (arith, l))
push_same (u ∷ us) [] a b e =
    let rest : us ++ a ∷ [] ≡ [] = cc in
    let l = sym (length-append us (a ∷ [])) ∙ ap length rest in
    absurd (omega (arith, l))
push_same (u ∷ us) (v ∷ vs) a b e =
    let first : u ≡ v = cc in
    let rest : us ++ a ∷ [] ≡ vs ++ b ∷ [] = cc in
    let r = push_same us vs a b rest in
    (ap (λ (z : Symbol). z ∷ us) first ∙ ap (λ (zs : List Symbol). v ∷ zs) r.0, r.1)

module _ (base : ℕ) (fr : List Front) (based : 0 < base) where
  -- a number stands for one list
  pub stands_unique : (n m : ℕ) (xs ys : List Symbol) → StandsFor base fr n xs → StandsFor base fr m ys → n ≡ m → xs ≡ ys
  stands_unique n m xs ys nothing nothing e = refl
  stands_unique n m xs ys nothing (longer b before last vs at rest) e = absurd (omega (arith, based, e))
  stands_unique n m xs ys (longer a before last us at rest) nothing e = absurd (omega (arith, based, e))
  stands_unique n m xs ys (longer a before last us at rest) (longer b other end vs found more) e =
      let same : a ≡ b = omega (arith, e) in
      let f = some_same _ _ (sym at ∙ (ap (slice_get fr) same ∙ found)) in
      let one : before ≡ other = ap (λ (x : Front). x.before) f in
      let two : last ≡ end = ap (λ (x : Front). x.last) f in
      ap (λ (zs : List Symbol). zs ++ last ∷ []) (stands_unique before other us vs rest more one) ∙ ap (λ (z : Symbol). vs ++ z ∷ []) two

  -- a list has one number
  pub stands_number : AreDifferent fr → (n m : ℕ) (xs ys : List Symbol) → StandsFor base fr n xs → StandsFor base fr m ys → xs ≡ ys → n ≡ m
  stands_number apart n m xs ys nothing nothing e = refl
  stands_number apart n m xs ys nothing (longer b before last vs at rest) e = let l = ap length e ∙ length-append vs (last ∷ []) in absurd (omega (arith, l))
  stands_number apart n m xs ys (longer a before last us at rest) nothing e = let l = sym (length-append us (last ∷ [])) ∙ ap length e in absurd (omega (arith, l))
  stands_number apart n m xs ys (longer a before last us at rest) (longer b other end vs found more) e =
      let p = push_same us vs last end e in
      let one : before ≡ other = stands_number apart before other us vs rest more p.0 in
      let f : ◌≡◌ {A = Front} (record { before = before; last = last }) (record { before = other; last = end }) =
      ap (λ (x : ℕ). let y : Front = record { before = x; last = last } in y) one ∙ ap (λ (x : Symbol). let y : Front = record { before = other; last = x } in y) p.1 in
      ap (λ (x : ℕ). base + x) (apart a b (record { before = other; last = end }) (at ∙ ap (λ (y : Front). Some y) f) found)
