-- What the steps on a chart keep.
use Rattle.std.proofs.Common.{◌≡◌, ℕ, List, [], ◌∷◌, Contains, refl, sym, ◌∙◌, ap, subst, Option, None, Some, slice_get}
use Rattle.std.specs.List.{All}
use Rattle.std.proofs.lemmas.List.Elements.{All-contains}
use Rattle.text_base.specs.declared.numbers.Nt as nt
use Rattle.cfg_grammar.specs.declared.symbol.Symbol.{Symbol}
use Rattle.cfg_grammar.specs.declared.symbol.Symbol.TheVariants.{Nt}
use Rattle.cfg_grammar.specs.declared.production.Right.{Right}
use Rattle.cfg_grammar.specs.declared.production.Right.TheVariants.{Empty, One, Two}
use Rattle.cfg_grammar.specs.declared.production.Production.{Production}
use Rattle.cfg_grammar.specs.Below.{symbols_of}
use Rattle.fst_core.specs.Outputs.{Leads}
use Rattle.fst_core.specs.Items.{IsItem, ReadsTo, Enters, by_item}
use Rattle.fst_core.proofs.Reading.{leads_empty, leads_one, leads_two}
use Rattle.numbered_sets.specs.Numbers.{Keeps}
use Rattle.grammar_chart.specs.declared.keys.Entry.{Entry}
use Rattle.grammar_chart.specs.declared.keys.Read.{Read}
use Rattle.grammar_chart.specs.declared.keys.Read.TheVariants.{Nothing, First, Both}
use Rattle.grammar_chart.specs.declared.keys.Begun.{Begun}
use Rattle.grammar_chart.specs.declared.keys.Passage.{Passage}
use Rattle.grammar_chart.specs.declared.keys.Reading.{Reading}
use Rattle.grammar_chart.specs.Rules.{awaited_by, awaited_in, awaited_of, passage_by, passage_in, passage_of, read_by, read_on, last_by, states_of, item_of, ReadingStep}
use Rattle.grammar_chart.specs.Charts.{HasRead, IsBegun, IsEntered, IsPassage}
use Rattle.grammar_chart.proofs.MemberLemmas.{contains_at, contains_kept}
pub use Rattle.grammar_chart.proofs.MemberLemmas.{all_by}

has_read_kept : (fs gs : List Passage) (right : Right) (from : ℕ) (read : Read) → Keeps fs gs → HasRead fs right from read → HasRead gs right from read
has_read_kept fs gs right from Nothing k h = tt
has_read_kept fs gs Empty from (First t) k h = h
has_read_kept fs gs (One x) from (First t) k h = contains_kept fs gs _ k h
has_read_kept fs gs (Two x y) from (First t) k h = contains_kept fs gs _ k h
has_read_kept fs gs Empty from (Both t u) k h = h
has_read_kept fs gs (One x) from (Both t u) k h = h
has_read_kept fs gs (Two x y) from (Both t u) k h = (contains_kept fs gs _ k h.0, contains_kept fs gs _ k h.1)

pub some_same : {X : Type 0} (x y : X) → Some x ≡ Some y → x ≡ y
some_same x y h = cc

-- one symbol more has its passage
read_more : (fs : List Passage) (right : Right) (from : ℕ) (read : Read) (e : Entry) (t : ℕ) → HasRead fs right from read → awaited_by right from read ≡ Some e → Contains fs (record { symbol = e.symbol; from = e.state; to = t }) → HasRead fs right from (read_by read t)
read_more fs Empty from Nothing e t h a c = cc
read_more fs Empty from (First u) e t h a c = absurd h
read_more fs Empty from (Both u v) e t h a c = absurd h
read_more fs (One x) from Nothing e t h a c =
    subst (λ (i : Entry). Contains fs (record { symbol = i.symbol; from = i.state; to = t })) (sym (some_same (record { symbol = x; state = from }) e a)) c
read_more fs (One x) from (First u) e t h a c = cc
read_more fs (One x) from (Both u v) e t h a c = absurd h
read_more fs (Two x y) from Nothing e t h a c =
    subst (λ (i : Entry). Contains fs (record { symbol = i.symbol; from = i.state; to = t })) (sym (some_same (record { symbol = x; state = from }) e a)) c
read_more fs (Two x y) from (First u) e t h a c =
    (h, subst (λ (i : Entry). Contains fs (record { symbol = i.symbol; from = i.state; to = t })) (sym (some_same (record { symbol = y; state = u }) e a)) c)
read_more fs (Two x y) from (Both u v) e t h a c = cc

module _ (ps : List Production) (from : nt.Nt) where
  pub begun_kept : (fs gs : List Passage) (rs : List Reading) (b : Begun) → Keeps fs gs → IsBegun ps from fs rs b → IsBegun ps from gs rs b
  begun_kept fs gs rs b k h =
      record { production = h.production; placed = h.placed; entered = h.entered; read = has_read_kept fs gs h.production.right b.from b.read k h.read }

  awaited_at : (b : Begun) (p : Production) → slice_get ps b.place ≡ Some p → awaited_of ps b ≡ awaited_by p.right b.from b.read
  awaited_at b p placed = ap (λ (o : Option Production). awaited_in o b) placed

  -- with one symbol more read
  pub begun_more : (fs : List Passage) (rs : List Reading) (b : Begun) (e : Entry) (t : ℕ) → IsBegun ps from fs rs b → awaited_of ps b ≡ Some e → Contains fs (record { symbol = e.symbol; from = e.state; to = t }) → IsBegun ps from fs rs (read_on b t)
  begun_more fs rs b e t h a c =
      record {
        production = h.production;
        placed = h.placed;
        entered = h.entered;
        read = read_more fs h.production.right b.from b.read e t h.read (sym (awaited_at b h.production h.placed) ∙ a) c;
      }

  module _ (fs : List Passage) (rs : List Reading) (all : All (IsPassage ps from rs) fs) where
    leads_of : (x : Symbol) (s t : ℕ) → Contains fs (record { symbol = x; from = s; to = t }) → Leads ps (ReadingStep rs) s x t
    leads_of x s t c = (All-contains (IsPassage ps from rs) fs (record { symbol = x; from = s; to = t }) all c).1

    reads_by : (right : Right) (s : ℕ) (read : Read) → HasRead fs right s read → ReadsTo ps (ReadingStep rs) s (symbols_of right) (states_of read)
    reads_by right s Nothing h = tt
    reads_by Empty s (First t) h = absurd h
    reads_by (One x) s (First t) h = (leads_of x s t h, tt)
    reads_by (Two x y) s (First t) h = (leads_of x s t h, tt)
    reads_by Empty s (Both t u) h = absurd h
    reads_by (One x) s (Both t u) h = absurd h
    reads_by (Two x y) s (Both t u) h = (leads_of x s t h.0, (leads_of y t u h.1, tt))

    -- a begun production is an item
    pub item_begun : (b : Begun) → IsBegun ps from fs rs b → IsItem ps (ReadingStep rs) from 0 (item_of b)
    item_begun b h =
        record { production = h.production; placed = h.placed; entered = h.entered; read = reads_by h.production.right b.from b.read h.read }

    enters_by : (place : ℕ) (p : Production) (s : ℕ) (right : Right) (read : Read) (e : Entry) → slice_get ps place ≡ Some p → p.right ≡ right → Enters ps (ReadingStep rs) from 0 (Nt p.left) s → HasRead fs right s read → awaited_by right s read ≡ Some e → Enters ps (ReadingStep rs) from 0 e.symbol e.state
    enters_by place p s Empty Nothing e placed is d h a = cc
    enters_by place p s Empty (First t) e placed is d h a = absurd h
    enters_by place p s Empty (Both t u) e placed is d h a = absurd h
    enters_by place p s (One x) Nothing e placed is d h a =
        subst (λ (i : Entry). Enters ps (ReadingStep rs) from 0 i.symbol i.state) (some_same (record { symbol = x; state = s }) e a)
        (by_item place p s [] s x placed d tt refl (ap (λ (r : Right). slice_get (symbols_of r) 0) is))
    enters_by place p s (One x) (First t) e placed is d h a = cc
    enters_by place p s (One x) (Both t u) e placed is d h a = absurd h
    enters_by place p s (Two x y) Nothing e placed is d h a =
        subst (λ (i : Entry). Enters ps (ReadingStep rs) from 0 i.symbol i.state) (some_same (record { symbol = x; state = s }) e a)
        (by_item place p s [] s x placed d tt refl (ap (λ (r : Right). slice_get (symbols_of r) 0) is))
    enters_by place p s (Two x y) (First t) e placed is d h a =
        subst (λ (i : Entry). Enters ps (ReadingStep rs) from 0 i.symbol i.state) (some_same (record { symbol = y; state = t }) e a)
        (by_item place p s (t ∷ []) t y placed d
        (subst (λ (r : Right). ReadsTo ps (ReadingStep rs) s (symbols_of r) (t ∷ [])) (sym is) (leads_of x s t h, tt)) refl
        (ap (λ (r : Right). slice_get (symbols_of r) 1) is))
    enters_by place p s (Two x y) (Both t u) e placed is d h a = cc

    -- the machine comes to what a begun production waits for
    pub entered_begun : (b : Begun) (e : Entry) → IsBegun ps from fs rs b → awaited_of ps b ≡ Some e → IsEntered ps from rs e
    entered_begun b e h a =
        enters_by b.place h.production b.from h.production.right b.read e h.placed refl h.entered h.read (sym (awaited_at b h.production h.placed) ∙ a)

    leads_by : (a : nt.Nt) (right : Right) (s : ℕ) (read : Read) → Contains ps (record { left = a; right = right }) → HasRead fs right s read → awaited_by right s read ≡ None → Leads ps (ReadingStep rs) s (Nt a) (last_by read s)
    leads_by a Empty s Nothing c h n = leads_empty ps (ReadingStep rs) a s c
    leads_by a Empty s (First t) c h n = absurd h
    leads_by a Empty s (Both t u) c h n = absurd h
    leads_by a (One x) s Nothing c h n = cc
    leads_by a (One x) s (First t) c h n = leads_one ps (ReadingStep rs) a x s t c (leads_of x s t h)
    leads_by a (One x) s (Both t u) c h n = absurd h
    leads_by a (Two x y) s Nothing c h n = cc
    leads_by a (Two x y) s (First t) c h n = cc
    leads_by a (Two x y) s (Both t u) c h n = leads_two ps (ReadingStep rs) a x y s t u c (leads_of x s t h.0) (leads_of y t u h.1)

    -- where all is read, the left side leads there
    pub passage_begun : (b : Begun) (f : Passage) → IsBegun ps from fs rs b → awaited_of ps b ≡ None → passage_of ps b ≡ Some f → IsPassage ps from rs f
    passage_begun b f h n is =
        let p = h.production in
        let one : passage_of ps b ≡ Some (passage_by p b) = ap (λ (o : Option Production). passage_in o b) h.placed in
        let same : passage_by p b ≡ f = some_same (passage_by p b) f (sym one ∙ is) in
        subst (λ (g : Passage). IsPassage ps from rs g) same
        (h.entered, leads_by p.left p.right b.from b.read (contains_at ps b.place p h.placed) h.read (sym (awaited_at b p h.placed) ∙ n))
