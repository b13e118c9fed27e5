-- Symbols for outputs.
use Rattle.std.proofs.Common.{◌≡◌, ℕ, ◌+◌, ◌-◌, ◌<◌, ◌≤◌, ◌%◌, ◌⊎◌, ◌↔◌, inl, inr, Bool, true, false, List, [], ◌∷◌, ◌++◌, length, take, map, get_or, refl, sym, ◌∙◌, ap, subst, arith}
use Rattle.std.specs.List.{AllZip}
use Rattle.std.proofs.lemmas.List.{take_more, take_all, map-append}
use Rattle.text_base.specs.declared.byte_range.ByteRange.{ByteRange}
use Rattle.text_base.specs.declared.letter.Letter.{Letter}
use Rattle.text_base.specs.declared.letter.Letter.TheVariants.{OfByte, OfToken}
use Rattle.text_base.specs.ByteRange.{InRange}
use Rattle.cfg_grammar.specs.declared.symbol.Symbol.{Symbol}
use Rattle.cfg_grammar.specs.declared.symbol.Symbol.TheVariants.{Range}
use Rattle.std.proofs.lemmas.Bool.{cases_lt}
use Rattle.fst_core.specs.declared.out.Out.{Out}
use Rattle.fst_core.specs.declared.out.Out.TheVariants.{Same, Shift, Byte, Token}
use Rattle.fst_core.specs.Letter.{letter_of}
use Rattle.fst_core.specs.Fits.{is_fixed}
use Rattle.chart_grammar.specs.Outs.{Puts, IsOutput, ByOne, AreFixed}

fixed_letter : (out : Out) (a b : ℕ) → is_fixed out ≡ true → letter_of a out ≡ letter_of b out
fixed_letter Same a b h = cc
fixed_letter (Shift by) a b h = cc
fixed_letter (Byte own) a b h = refl
fixed_letter (Token token) a b h = refl

pub zip_push : (xs : List Symbol) (x : Symbol) (w : List Letter) → AllZip Puts (xs ++ x ∷ []) w → (v : List Letter) × (c : Letter) × (w ≡ v ++ c ∷ []) × AllZip Puts xs v × Puts x c
zip_push [] x [] z = absurd z
zip_push [] x (c ∷ []) z = ([], c, refl, tt, z.0)
zip_push [] x (c ∷ d ∷ w) z = absurd z.1
zip_push (y ∷ xs) x [] z = absurd z
zip_push (y ∷ xs) x (c ∷ w) z =
    let r = zip_push xs x w z.1 in
    (c ∷ r.0, r.1, ap (λ (u : List Letter). c ∷ u) r.2, (z.0, r.3), r.4)

pub zip_pushed : (xs : List Symbol) (x : Symbol) (v : List Letter) (c : Letter) → AllZip Puts xs v → Puts x c → AllZip Puts (xs ++ x ∷ []) (v ++ c ∷ [])
zip_pushed [] x [] c z p = (p, tt)
zip_pushed [] x (d ∷ v) c z p = absurd z
zip_pushed (y ∷ xs) x [] c z p = absurd z
zip_pushed (y ∷ xs) x (d ∷ v) c z p = (z.0, zip_pushed xs x v c z.1 p)

pub record SymbolsSoFar (range : ByteRange) (out : List Out) (i : ℕ) (symbols : List Symbol) (depends : Bool) : Type 0 where
  pub puts : IsOutput range (take i out) symbols
  pub fixed : depends ≡ false → AreFixed (take i out)

pub symbols_none : (range : ByteRange) (out : List Out) → SymbolsSoFar range out 0 [] false
symbols_none range out =
    record {
      puts = λ w. (
        λ z. (range.lo, (omega arith, range.ordered), by_empty w z),
        λ h. subst (λ (u : List Letter). AllZip Puts [] u) h.2 tt,
      );
      fixed = λ e a b. refl;
    }
  where
    by_empty : (w : List Letter) → AllZip Puts [] w → ◌≡◌ {A = List Letter} [] w
    by_empty [] z = refl
    by_empty (c ∷ w) z = absurd z

-- the bytes of what was put out before and of what is put out now are one
agree : (range : ByteRange) (out : List Out) (o : Out) (depends : Bool) → (depends ≡ false → AreFixed out) → (is_fixed o ≡ true) ⊎ ((depends ≡ false) ⊎ (range.hi ≤ range.lo)) → (a b : ℕ) → InRange range a → InRange range b → (c : ℕ) × InRange range c × (map (letter_of c) out ≡ map (letter_of a) out) × (letter_of c o ≡ letter_of b o)
agree range out o depends fixed why a b ha hb = elim why [
  | inl is ↦ (a, ha, refl, fixed_letter o a b is)
  | inr r ↦ elim r [
    | inl free ↦ (b, hb, fixed free b a, refl)
    | inr one ↦ let same : a ≡ b = omega (arith, one, ha.0, ha.1, hb.0, hb.1) in (a, ha, refl, ap (λ (x : ℕ). letter_of x o) same)
  ]
]

output_more : (range : ByteRange) (out : List Out) (o : Out) (symbols : List Symbol) (x : Symbol) (depends : Bool) → (depends ≡ false → AreFixed out) → (is_fixed o ≡ true) ⊎ ((depends ≡ false) ⊎ (range.hi ≤ range.lo)) → IsOutput range out symbols → ((c : Letter) → Puts x c ↔ ((b : ℕ) × InRange range b × (letter_of b o ≡ c))) → IsOutput range (out ++ o ∷ []) (symbols ++ x ∷ [])
output_more range out o symbols x depends fixed why before puts w = (
  λ z.
      let r = zip_push symbols x w z in
      let f = (before r.0).0 r.3 in
      let g = (puts r.1).0 r.4 in
      let k = agree range out o depends fixed why f.0 g.0 f.1 g.1 in
      let e : map (letter_of k.0) (out ++ o ∷ []) ≡ w =
      map-append (letter_of k.0) out (o ∷ [])
      ∙ (ap (λ (u : List Letter). u ++ letter_of k.0 o ∷ []) (k.2 ∙ f.2)
      ∙ (ap (λ (c : Letter). r.0 ++ c ∷ []) (k.3 ∙ g.2) ∙ sym r.2)) in
      (k.0, k.1, e),
  λ h.
      let v : List Letter = map (letter_of h.0) out in
      let z = zip_pushed symbols x v (letter_of h.0 o) ((before v).1 (h.0, h.1, refl)) ((puts (letter_of h.0 o)).1 (h.0, h.1, refl)) in
      subst (λ (u : List Letter). AllZip Puts (symbols ++ x ∷ []) u) (sym (map-append (letter_of h.0) out (o ∷ [])) ∙ h.2) z,
)

fixed_more : (out : List Out) (o : Out) → AreFixed out → is_fixed o ≡ true → AreFixed (out ++ o ∷ [])
fixed_more out o f is a b =
    map-append (letter_of a) out (o ∷ [])
    ∙ (ap (λ (u : List Letter). u ++ letter_of a o ∷ []) (f a b)
    ∙ (ap (λ (c : Letter). map (letter_of b) out ++ c ∷ []) (fixed_letter o a b is) ∙ sym (map-append (letter_of b) out (o ∷ []))))

pub fixed_upto : (out : List Out) (i : ℕ) (d o : Out) → i < length out → o ≡ get_or out i d → AreFixed (take i out) → is_fixed o ≡ true → AreFixed (take (i + 1) out)
fixed_upto out i d o h is so fixed =
    let more : take (i + 1) out ≡ take i out ++ o ∷ [] = take_more out i d h ∙ ap (λ (y : Out). take i out ++ y ∷ []) (sym is) in
    subst AreFixed (sym more) (fixed_more (take i out) o so fixed)

pub fixed_all : (out : List Out) (i : ℕ) → length out ≤ i → AreFixed (take i out) → AreFixed out
fixed_all out i h so = subst AreFixed (take_all i out h) so

pub symbols_more : (range : ByteRange) (out : List Out) (i : ℕ) (d o : Out) (old new : List Symbol) (x : Symbol) (was depends : Bool) → i < length out → o ≡ get_or out i d → SymbolsSoFar range out i old was → ((c : Letter) → Puts x c ↔ ((b : ℕ) × InRange range b × (letter_of b o ≡ c))) → new ≡ old ++ x ∷ [] → (is_fixed o ≡ true) ⊎ ((was ≡ false) ⊎ (range.hi ≤ range.lo)) → (depends ≡ false → (was ≡ false) × (is_fixed o ≡ true)) → SymbolsSoFar range out (i + 1) new depends
symbols_more range out i d o old new x was depends h is so puts e why free =
    let more : take (i + 1) out ≡ take i out ++ o ∷ [] = take_more out i d h ∙ ap (λ (y : Out). take i out ++ y ∷ []) (sym is) in
    record {
      puts = subst (λ (xs : List Out). IsOutput range xs new) (sym more)
          (subst (λ (ys : List Symbol). IsOutput range (take i out ++ o ∷ []) ys) (sym e) (output_more range (take i out) o old x was so.fixed why so.puts puts));
      fixed = λ f. subst AreFixed (sym more) (fixed_more (take i out) o (so.fixed (free f).0) (free f).1);
    }

pub symbols_all : (range : ByteRange) (out : List Out) (i : ℕ) (symbols : List Symbol) (depends : Bool) → length out ≤ i → SymbolsSoFar range out i symbols depends → IsOutput range out symbols
symbols_all range out i symbols depends h so = subst (λ (xs : List Out). IsOutput range xs symbols) (take_all i out h) so.puts

-- one case for each thing that is put out
pub puts_same : (range : ByteRange) (out : Out) (c : Letter) → out ≡ Same → Puts (Range range) c ↔ ((b : ℕ) × InRange range b × (letter_of b out ≡ c))
puts_same range out c is =
    subst (λ (o : Out). Puts (Range range) c ↔ ((b : ℕ) × InRange range b × (letter_of b o ≡ c))) (sym is) (by c)
  where
    by : (c : Letter) → Puts (Range range) c ↔ ((b : ℕ) × InRange range b × (OfByte b ≡ c))
    by (OfByte byte) = (λ h. (byte, h, refl), λ h. let same : h.0 ≡ byte = cc in subst (λ (x : ℕ). InRange range x) same h.1)
    by (OfToken token) = (λ h. absurd h, λ h. let e : OfByte h.0 ≡ OfToken token = h.2 in cc)

pub puts_shift : (range r : ByteRange) (by : ℕ) (out : Out) (c : Letter) → out ≡ Shift by → ((c : ℕ) → InRange r c ↔ ByOne range by c) → Puts (Range r) c ↔ ((b : ℕ) × InRange range b × (letter_of b out ≡ c))
puts_shift range r by out c is shifts =
    subst (λ (o : Out). Puts (Range r) c ↔ ((b : ℕ) × InRange range b × (letter_of b o ≡ c))) (sym is) (cases c)
  where
    cases : (c : Letter) → Puts (Range r) c ↔ ((b : ℕ) × InRange range b × (OfByte ((b + by) % 256) ≡ c))
    cases (OfByte byte) = (
      λ h. let f = (shifts byte).0 h in (f.0, f.1, ap (λ (x : ℕ). OfByte x) f.2),
      λ h. let same : (h.0 + by) % 256 ≡ byte = cc in (shifts byte).1 (h.0, h.1, same),
    )
    cases (OfToken token) = (λ h. absurd h, λ h. let e : OfByte ((h.0 + by) % 256) ≡ OfToken token = h.2 in cc)

-- the bytes of a shifted range
pub shift_exact : (lo hi by c : ℕ) → lo ≤ hi → hi < 256 → by < 256 → (lo + by) % 256 ≤ (hi + by) % 256 → (((lo + by) % 256 ≤ c) × (c ≤ (hi + by) % 256)) ↔ ((b : ℕ) × ((lo ≤ b) × (b ≤ hi)) × ((b + by) % 256 ≡ c))
shift_exact lo hi by c ordered small few kept = (
  λ h. elim (cases_lt (lo + by) 256) [
    | inl below ↦ (c - by, (omega (arith, h.0, h.1, below, few, small, ordered, kept), omega (arith, h.0, h.1, below, few, small, ordered, kept)), omega (arith, h.0, h.1, below, few, small, ordered, kept))
    | inr above ↦ ((c + 256) - by, (omega (arith, h.0, h.1, above, few, small, ordered, kept), omega (arith, h.0, h.1, above, few, small, ordered, kept)), omega (arith, h.0, h.1, above, few, small, ordered, kept))
  ],
  λ h. (omega (arith, h.1.0, h.1.1, h.2, few, small, ordered, kept), omega (arith, h.1.0, h.1.1, h.2, few, small, ordered, kept)),
)

pub shift_range : (range r : ByteRange) (by : ℕ) → r.lo ≡ (range.lo + by) % 256 → r.hi ≡ (range.hi + by) % 256 → range.hi < 256 → by < 256 → (c : ℕ) → InRange r c ↔ ByOne range by c
shift_range range r by low high small few c =
    let kept : (range.lo + by) % 256 ≤ (range.hi + by) % 256 = (let o = r.ordered in omega (arith, o, low, high)) in
    let e = shift_exact range.lo range.hi by c range.ordered small few kept in (
      λ h. e.0 (omega (arith, h.0, low), omega (arith, h.1, high)),
      λ h. let k = e.1 h in (omega (arith, k.0, low), omega (arith, k.1, high)),
    )
