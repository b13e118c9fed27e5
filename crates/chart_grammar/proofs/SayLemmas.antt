-- What the productions of an image derive: each passage's nonterminal derives only what is put out on the way.
use Rattle.std.proofs.Common.{◌≡◌, ℕ, ◌+◌, ◌<◌, ◌≤◌, zero, suc, List, [], ◌∷◌, ◌++◌, length, map, Contains, refl, sym, ◌∙◌, ap, subst, arith, Some, slice_get, Bool, true, ◌&&◌, IsTrue, ltb}
use Rattle.std.specs.List.{AllZip}
use Rattle.std.proofs.lemmas.List.{map-append}
use Rattle.std.proofs.lemmas.Option.{slice_get_within}
use Rattle.text_base.specs.declared.byte_range.ByteRange.{ByteRange}
use Rattle.text_base.specs.declared.numbers.Nt as nt
use Rattle.text_base.specs.declared.letter.Letter.{Letter}
use Rattle.text_base.specs.declared.letter.Letter.TheVariants.{OfByte, OfToken}
use Rattle.cfg_grammar.specs.declared.symbol.Symbol.{Symbol}
use Rattle.cfg_grammar.specs.declared.symbol.Symbol.TheVariants.{Range, Token, Nt}
use Rattle.cfg_grammar.specs.declared.production.Right.{Right}
use Rattle.cfg_grammar.specs.declared.production.Right.TheVariants.{Empty, One, Two}
use Rattle.cfg_grammar.specs.declared.production.Production.{Production}
use Rattle.cfg_grammar.specs.Derives.{Derives, by_range, by_token, by_empty, by_one, by_two}
use Rattle.fst_core.specs.Letter.{letter_of}
use Rattle.fst_core.specs.Runs.{Runs}
use Rattle.fst_core.specs.Outputs.{DerivesText}
use Rattle.fst_core.proofs.Reading.{runs_append, contains_at}
use Rattle.grammar_chart.specs.declared.keys.Read.{Read}
use Rattle.grammar_chart.specs.declared.keys.Read.TheVariants.{Nothing, First, Both}
use Rattle.grammar_chart.specs.declared.keys.Begun.{Begun}
use Rattle.grammar_chart.specs.declared.keys.Passage.{Passage}
use Rattle.grammar_chart.specs.declared.keys.Reading.{Reading}
use Rattle.grammar_chart.specs.Rules.{passage_by, last_by, ReadingStep}
use Rattle.chart_grammar.specs.declared.fronts.Front.{Front}
use Rattle.chart_grammar.specs.declared.lifts.Last.{Last}
use Rattle.chart_grammar.specs.Outs.{Puts}
use Rattle.chart_grammar.specs.Fronts.{StandsFor, nothing, longer}
use Rattle.chart_grammar.specs.Sources.{FromRight}
use Rattle.std.proofs.lemmas.Bool.{lt-ltb}
use Rattle.cfg_grammar.specs.Below.{symbol_below, production_below}
use Rattle.chart_grammar.specs.Lifts.{front_production, nt_of, RightLift, ReadLift, EndLift, front_right, front_by, end_by, IsLift, whole, of_reading, of_front, of_end, AreLifts}
use Rattle.chart_grammar.proofs.OutLemmas.{zip_push, zip_pushed}

pub puts_derives : (qs : List Production) (x : Symbol) (c : Letter) → Puts x c → Derives qs x (c ∷ [])
puts_derives qs (Range range) (OfByte byte) h = by_range range byte h
puts_derives qs (Range range) (OfToken token) h = absurd h
puts_derives qs (Token token) (OfByte byte) h = absurd h
puts_derives qs (Token token) (OfToken own) h = subst (λ t. Derives qs (Token token) (OfToken t ∷ [])) h (by_token token)
puts_derives qs (Nt a) c h = absurd h

-- what a terminal derives is one letter that it puts out
pub terminal_puts : (qs : List Production) (x : Symbol) (w : List Letter) (c : Letter) → Puts x c → Derives qs x w → (d : Letter) × (w ≡ d ∷ []) × Puts x d
terminal_puts qs x w c h (by_range range byte within) = (OfByte byte, refl, within)
terminal_puts qs x w c h (by_token token) = (OfToken token, refl, refl)
terminal_puts qs x w c h (by_empty a has) = absurd h
terminal_puts qs x w c h (by_one a y v has d) = absurd h
terminal_puts qs x w c h (by_two a y z u v has d e) = absurd h

same_symbol : (a b : nt.Nt) → ◌≡◌ {A = Symbol} (Nt a) (Nt b) → a ≡ b
same_symbol a b h = cc

-- what a nonterminal derives comes of one of its productions
pub invert : (qs : List Production) (x : Symbol) (w : List Letter) (a : nt.Nt) → x ≡ Nt a → Derives qs x w → (right : Right) × Contains qs (record { left = a; right = right }) × FromRight qs right w
invert qs x w a e (by_range range byte within) = cc
invert qs x w a e (by_token token) = cc
invert qs x w a e (by_empty b has) =
    (Empty, subst (λ (n : nt.Nt). Contains qs (record { left = n; right = Empty })) (same_symbol b a e) has, refl)
invert qs x w a e (by_one b y v has d) =
    (One y, subst (λ (n : nt.Nt). Contains qs (record { left = n; right = One y })) (same_symbol b a e) has, d)
invert qs x w a e (by_two b y z u v has d f) =
    (Two y z, subst (λ (n : nt.Nt). Contains qs (record { left = n; right = Two y z })) (same_symbol b a e) has, (u, v, d, f, refl))

module _ (ps : List Production) (from : nt.Nt) (bs : List Begun) (fs : List Passage) (rs : List Reading) (fr : List Front) (base : ℕ) (ls : List Last) (qs : List Production)
    (lifts : AreLifts ps from bs fs rs fr base ls qs) (based : base ≡ suc (length fs)) where
  zero_of : (a b : ℕ) → ◌≡◌ {A = nt.Nt} (record { 0 = a }) (record { 0 = b }) → a ≡ b
  zero_of a b e = ap (λ (n : nt.Nt). n.0) e

  -- the production of a front's nonterminal is that of the front
  front_only : (p : Production) (n : ℕ) (f : Front) → Contains qs p → p.left ≡ record { 0 = base + n } → slice_get fr n ≡ Some f → p.right ≡ front_by f.before f.last
  front_only p n f has left at = by (lifts.only p has)
    where
      by : IsLift ps from bs fs rs fr base ls p → p.right ≡ front_by f.before f.last
      by (whole b h none l) =
          let e = zero_of (suc l.number) (base + n) (sym l.left ∙ left) in
          let w = slice_get_within fs l.number _ l.passed in
          absurd (omega (arith, e, w, based))
      by (of_reading r part h l) =
          let e = zero_of (suc l.number) (base + n) (sym l.left ∙ left) in
          let w = slice_get_within fs l.number _ l.passed in
          absurd (omega (arith, e, w, based))
      by (of_front l) =
          let e = zero_of (base + l.number) (base + n) (sym l.left ∙ left) in
          let same : l.number ≡ n = omega (arith, e) in
          let s : Some l.front ≡ Some f = sym l.at ∙ (ap (slice_get fr) same ∙ at) in
          let one : l.front ≡ f = cc in
          l.right ∙ ap (λ (x : Front). front_by x.before x.last) one
      by (of_end l h e) = let k = zero_of 0 (base + n) (sym e.left ∙ left) in absurd (omega (arith, k, based))

  front_right_not : (n : ℕ) (w : List Letter) → (n ≡ 0 → ⊥) → FromRight qs (front_right n) w → Derives qs (nt_of n) w
  front_right_not zero w h d = absurd (h refl)
  front_right_not (suc n) w h d = d

  positive : (m : ℕ) → (base + m ≡ 0 → ⊥)
  positive m e = absurd (omega (arith, e, based))

  -- what a front's nonterminal derives is put out by the front's symbols
  pub says_front : (n : ℕ) (symbols : List Symbol) (some w : List Letter) → StandsFor base fr n symbols → AllZip Puts symbols some → FromRight qs (front_right n) w → AllZip Puts symbols w
  says_front n symbols some w nothing z d = subst (λ (u : List Letter). AllZip Puts [] u) (sym d) tt
  says_front n symbols some w (longer m before last xs at rest) z d =
      let i = invert qs (nt_of (base + m)) w (record { 0 = base + m }) refl (front_right_not (base + m) w (positive m) d) in
      let is : i.0 ≡ front_by before last = front_only (record { left = record { 0 = base + m }; right = i.0 }) m (record { before = before; last = last }) i.1 refl at in
      let f : FromRight qs (front_by before last) w = subst (λ (r : Right). FromRight qs r w) is i.2 in
      let s = zip_push xs last some z in
      by before f (λ v e. says_front before xs s.0 v rest s.3 e)
    where
      by : (k : ℕ) → FromRight qs (front_by k last) w → ((v : List Letter) → FromRight qs (front_right k) v → AllZip Puts xs v) → AllZip Puts (xs ++ last ∷ []) w
      by zero f more =
          let s = zip_push xs last some z in
          let t = terminal_puts qs last w s.1 s.4 f in
          let front : AllZip Puts xs [] = more [] refl in
          subst (λ (u : List Letter). AllZip Puts (xs ++ last ∷ []) u) (sym t.1) (zip_pushed xs last [] t.0 front t.2)
      by (suc k) f more =
          let s = zip_push xs last some z in
          let t = terminal_puts qs last f.1 s.1 s.4 f.3 in
          let front : AllZip Puts xs f.0 = more f.0 f.2 in
          let e : w ≡ f.0 ++ t.0 ∷ [] = f.4 ∙ ap (λ (u : List Letter). f.0 ++ u) t.1 in
          subst (λ (u : List Letter). AllZip Puts (xs ++ last ∷ []) u) (sym e) (zip_pushed xs last f.0 t.0 front t.2)

  terminal_below : (count : ℕ) (x : Symbol) (c : Letter) → Puts x c → IsTrue (symbol_below count x)
  terminal_below count (Range range) c h = refl
  terminal_below count (Token token) c h = refl
  terminal_below count (Nt a) c h = absurd h

  stands_below : (n : ℕ) (xs : List Symbol) → StandsFor base fr n xs → n < base + length fr
  stands_below n xs nothing = omega (arith, based)
  stands_below n xs (longer m before last ys at rest) = let w = slice_get_within fr m _ at in omega (arith, w)

  -- the production of a front that stands for symbols has only nonterminals of fronts
  front_fits : (m before : ℕ) (last : Symbol) (xs : List Symbol) (c : Letter) → slice_get fr m ≡ Some (record { before = before; last = last }) → StandsFor base fr before xs → Puts last c → IsTrue (production_below (base + length fr) (front_production base m (record { before = before; last = last })))
  front_fits m before last xs c at rest puts =
      by before (stands_below before xs rest)
    where
      both : (a b : Bool) → IsTrue a → IsTrue b → IsTrue (a && b)
      both a b h k = rw h k

      by : (k : ℕ) → k < base + length fr → IsTrue (production_below (base + length fr) (record { left = record { 0 = base + m }; right = front_by k last }))
      by zero below =
          let count : ℕ = base + length fr in
          let w = slice_get_within fr m _ at in
          both (ltb (base + m) count) (symbol_below count last && true) (lt-ltb (base + m) count (omega (arith, w))) (both (symbol_below count last) true (terminal_below count last c puts) refl)
      by (suc k) below =
          let count : ℕ = base + length fr in
          let w = slice_get_within fr m _ at in
          both (ltb (base + m) count) (ltb (suc k) count && (symbol_below count last && true)) (lt-ltb (base + m) count (omega (arith, w)))
          (both (ltb (suc k) count) (symbol_below count last && true) (lt-ltb (suc k) count below) (both (symbol_below count last) true (terminal_below count last c puts) refl))

  -- and all that they put out
  pub derives_front : (n : ℕ) (symbols : List Symbol) (w : List Letter) → StandsFor base fr n symbols → AllZip Puts symbols w → FromRight qs (front_right n) w
  derives_front n symbols [] nothing z = refl
  derives_front n symbols (c ∷ w) nothing z = absurd z
  derives_front n symbols w (longer m before last xs at rest) z =
      let s = zip_push xs last w z in
      let has = lifts.fronts m (record { before = before; last = last }) at (front_fits m before last xs s.1 at rest s.4) in
      let d : Derives qs (nt_of (base + m)) w = by before has (derives_front before xs s.0 rest s.3) in
      back (base + m) (positive m) d
    where
      back : (n : ℕ) → (n ≡ 0 → ⊥) → Derives qs (nt_of n) w → FromRight qs (front_right n) w
      back zero h d = absurd (h refl)
      back (suc n) h d = d

      by : (k : ℕ) → Contains qs (record { left = record { 0 = base + m }; right = front_by k last }) → FromRight qs (front_right k) (zip_push xs last w z).0 → Derives qs (nt_of (base + m)) w
      by zero has f =
          let s = zip_push xs last w z in
          let e : s.1 ∷ [] ≡ w = ap (λ (u : List Letter). u ++ s.1 ∷ []) (sym f) ∙ sym s.2 in
          subst (λ (u : List Letter). Derives qs (nt_of (base + m)) u) e (by_one (record { 0 = base + m }) last (s.1 ∷ []) has (puts_derives qs last s.1 s.4))
      by (suc k) has f =
          let s = zip_push xs last w z in
          subst (λ (u : List Letter). Derives qs (nt_of (base + m)) u) (sym s.2)
          (by_two (record { 0 = base + m }) (nt_of (suc k)) last s.0 (s.1 ∷ []) has f (puts_derives qs last s.1 s.4))

  -- over some text that the passage's symbol derives, the readings lead from the one state to the other with the letters
  abbrev pub IsSaid : Passage → List Letter → Type 0
  IsSaid f w = (text : List ℕ) × DerivesText ps f.symbol text × Runs (ReadingStep rs) f.from text f.to w

  abbrev pub Says : Symbol → List Letter → Type 0
  Says x w = (k : ℕ) (f : Passage) → x ≡ nt_of (suc k) → slice_get fs k ≡ Some f → IsSaid f w

  abbrev pub SaysRight : Right → List Letter → Type 0
  SaysRight Empty w = w ≡ []
  SaysRight (One x) w = Says x w × Derives qs x w
  SaysRight (Two x y) w = (u : List Letter) × (v : List Letter) × Says x u × Says y v × Derives qs x u × Derives qs y v × (w ≡ u ++ v)

  from_says : (right : Right) (w : List Letter) → SaysRight right w → FromRight qs right w
  from_says Empty w s = s
  from_says (One x) w s = s.1
  from_says (Two x y) w s = (s.0, s.1, s.4, s.5, s.6)

  -- what a production that is read whole derives
  whole_says : (a : nt.Nt) (right : Right) (s : ℕ) (read : Read) (lifted : Right) (w : List Letter) → Contains ps (record { left = a; right = right }) → RightLift fs right s read lifted → SaysRight lifted w → IsSaid (record { symbol = Nt a; from = s; to = last_by read s }) w
  whole_says a Empty s Nothing lifted w has l says =
      let e : w ≡ [] = subst (λ (r : Right). SaysRight r w) l says in
      ([], by_empty a has, (refl, e))
  whole_says a Empty s (First t) lifted w has l says = absurd l
  whole_says a Empty s (Both t u) lifted w has l says = absurd l
  whole_says a (One x) s Nothing lifted w has l says = absurd l
  whole_says a (One x) s (First t) lifted w has l says =
      let g : Says (nt_of (suc l.0)) w × Derives qs (nt_of (suc l.0)) w = subst (λ (r : Right). SaysRight r w) l.2 says in
      let i = g.0 l.0 (record { symbol = x; from = s; to = t }) refl l.1 in
      (i.0, by_one a x (map OfByte i.0) has i.1, i.2)
  whole_says a (One x) s (Both t u) lifted w has l says = absurd l
  whole_says a (Two x y) s Nothing lifted w has l says = absurd l
  whole_says a (Two x y) s (First t) lifted w has l says = absurd l
  whole_says a (Two x y) s (Both t u) lifted w has l says =
      let g = subst (λ (r : Right). SaysRight r w) l.4 says in
      let i = g.2 l.0 (record { symbol = x; from = s; to = t }) refl l.2 in
      let j = g.3 l.1 (record { symbol = y; from = t; to = u }) refl l.3 in (
        i.0 ++ j.0,
        subst (λ (v : List Letter). Derives ps (Nt a) v) (sym (map-append OfByte i.0 j.0)) (by_two a x y (map OfByte i.0) (map OfByte j.0) has i.1 j.1),
        subst (λ (v : List Letter). Runs (ReadingStep rs) s (i.0 ++ j.0) u v) (sym g.6) (runs_append (ReadingStep rs) s t u i.0 j.0 g.0 g.1 i.2 j.2),
      )

  module _ (within : (r : Reading) → Contains rs r → (r.asked.lo ≤ r.range.lo) × (r.range.hi ≤ r.asked.hi)) where
    -- what a reading's production derives
    read_says : (r : Reading) (part : ByteRange) (p : Production) (w : List Letter) → Contains rs r → ReadLift fs fr base r part p → FromRight qs p.right w → IsSaid (record { symbol = Range r.asked; from = r.from; to = r.to }) w
    read_says r part p w has l d =
        let lo = part.lo in
        let some = map (letter_of lo) r.out.items in
        let o = part.ordered in
        let z = says_front l.front l.symbols some w l.stands ((l.outs some).1 (lo, (omega arith, o), refl)) (subst (λ (x : Right). FromRight qs x w) l.right d) in
        let b = (l.outs w).0 z in
        let i = within r has in
        let low = l.low in
        let high = l.high in (
          b.0 ∷ [],
          by_range r.asked b.0 (omega (arith, b.1.0, i.0, low), omega (arith, b.1.1, i.1, high)),
          (r.to, w, [], (r, has, refl, (omega (arith, b.1.0, low), omega (arith, b.1.1, high)), refl, b.2), (refl, refl), sym (append_nil_of w)),
        )
      where
        append_nil_of : (v : List Letter) → v ++ [] ≡ v
        append_nil_of [] = refl
        append_nil_of (c ∷ v) = ap (λ (u : List Letter). c ∷ u) (append_nil_of v)

    production_says : (a : nt.Nt) (right : Right) (w : List Letter) → Contains qs (record { left = a; right = right }) → SaysRight right w → Says (Nt a) w
    production_says a right w has says k f is at = by (lifts.only (record { left = a; right = right }) has)
      where
        left_is : a ≡ record { 0 = suc k }
        left_is = same_symbol a (record { 0 = suc k }) is

        by : IsLift ps from bs fs rs fr base ls (record { left = a; right = right }) → IsSaid f w
        by (whole b h none l) =
            let e = zero_of (suc l.number) (suc k) (sym l.left ∙ left_is) in
            let same : l.number ≡ k = omega (arith, e) in
            let s : Some (passage_by l.production b) ≡ Some f = sym l.passed ∙ (ap (slice_get fs) same ∙ at) in
            let one : passage_by l.production b ≡ f = cc in
            subst (λ (g : Passage). IsSaid g w) one
            (whole_says l.production.left l.production.right b.from b.read right w (contains_at ps b.place l.production l.placed) l.right says)
        by (of_reading r part h l) =
            let e = zero_of (suc l.number) (suc k) (sym l.left ∙ left_is) in
            let same : l.number ≡ k = omega (arith, e) in
            let g : Passage = record { symbol = Range r.asked; from = r.from; to = r.to } in
            let s : Some g ≡ Some f = sym l.passed ∙ (ap (slice_get fs) same ∙ at) in
            let one : g ≡ f = cc in
            subst (λ (x : Passage). IsSaid x w) one (read_says r part (record { left = a; right = right }) w h l (from_says right w says))
        by (of_front l) =
            let e = zero_of (base + l.number) (suc k) (sym l.left ∙ left_is) in
            let v = slice_get_within fs k f at in
            absurd (omega (arith, e, v, based))
        by (of_end l h e) =
            let z = zero_of 0 (suc k) (sym e.left ∙ left_is) in
            absurd (omega (arith, z))

    -- each passage's nonterminal derives only what is put out on the way
    pub says : (x : Symbol) (w : List Letter) → Derives qs x w → Says x w
    says x w (by_range range byte h) = λ k f is at. cc
    says x w (by_token token) = λ k f is at. cc
    says x w (by_empty a has) = production_says a Empty [] has refl
    says x w (by_one a y v has d) = production_says a (One y) v has (says y v d, d)
    says x w (by_two a y z u v has d e) = production_says a (Two y z) (u ++ v) has (u, v, says y u d, says z v e, d, e, refl)

    -- what the start derives: what is put out on the way from the first state, and then at an end
    abbrev pub IsEnded : List Letter → Type 0
    IsEnded w = (l : Last) × (out : List Letter) × (last : List Letter) × Contains ls l × IsSaid (record { symbol = Nt from; from = 0; to = l.state }) out × ((b : ℕ) × (map (letter_of b) l.out.items ≡ last)) × (w ≡ out ++ last)

    end_says : (l : Last) (p : Production) (w : List Letter) → Contains ls l → EndLift from fs fr base l p → FromRight qs p.right w → IsEnded w
    end_says l p w has e d = by e.front e.stands (subst (λ (r : Right). FromRight qs r w) e.right d)
      where
        last_of : (v : List Letter) → AllZip Puts e.symbols v → (b : ℕ) × (map (letter_of b) l.out.items ≡ v)
        last_of v z = let b = (e.outs v).0 z in (b.0, b.2)

        lo : ℕ
        lo = e.range.lo

        some : AllZip Puts e.symbols (map (letter_of lo) l.out.items)
        some = (e.outs (map (letter_of lo) l.out.items)).1 (lo, (omega arith, (e.range).ordered), refl)

        by : (n : ℕ) → StandsFor base fr n e.symbols → FromRight qs (end_by (suc e.number) n) w → IsEnded w
        by zero stands f =
            let z = says_front zero e.symbols (map (letter_of lo) l.out.items) [] stands some refl in
            (l, w, [], has, says (nt_of (suc e.number)) w f e.number _ refl e.passed, last_of [] z, sym (append_nil_of w))
          where
            append_nil_of : (v : List Letter) → v ++ [] ≡ v
            append_nil_of [] = refl
            append_nil_of (c ∷ v) = ap (λ (u : List Letter). c ∷ u) (append_nil_of v)
        by (suc n) stands f =
            let z = says_front (suc n) e.symbols (map (letter_of lo) l.out.items) f.1 stands some f.3 in
            (l, f.0, f.1, has, says (nt_of (suc e.number)) f.0 f.2 e.number _ refl e.passed, last_of f.1 z, f.4)

    pub start_says : (w : List Letter) → Derives qs (nt_of 0) w → IsEnded w
    start_says w d =
        let i = invert qs (nt_of 0) w (record { 0 = 0 }) refl d in
        by i.0 i.1 i.2 (lifts.only (record { left = record { 0 = 0 }; right = i.0 }) i.1)
      where
        by : (right : Right) → Contains qs (record { left = record { 0 = 0 }; right = right }) → FromRight qs right w → IsLift ps from bs fs rs fr base ls (record { left = record { 0 = 0 }; right = right }) → IsEnded w
        by right has f (whole b h none l) = let e = zero_of (suc l.number) 0 (sym l.left) in absurd (omega (arith, e))
        by right has f (of_reading r part h l) = let e = zero_of (suc l.number) 0 (sym l.left) in absurd (omega (arith, e))
        by right has f (of_front l) = let e = zero_of (base + l.number) 0 (sym l.left) in absurd (omega (arith, e, based))
        by right has f (of_end l h e) = end_says l (record { left = record { 0 = 0 }; right = right }) w h e f
