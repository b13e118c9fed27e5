-- Passages lead back to what stands for their symbols.
use Rattle.std.proofs.Common.{◌≡◌, ℕ, zero, suc, ◌≤◌, Bool, true, List, [], ◌∷◌, ◌++◌, length, map, Contains, Option, None, Some, refl, sym, ◌∙◌, ap, subst, arith, slice_get}
use Rattle.std.specs.Prelude.{slice_index_or}
use Rattle.std.specs.Cmp.{first_so, second_so}
use Rattle.std.proofs.lemmas.Bool.{ltb-true}
use Rattle.std.proofs.lemmas.List.{map-append}
use Rattle.std.proofs.lemmas.List.Elements.{Contains-append_right}
use Rattle.std.proofs.lemmas.Option.{slice_get-get_or, none-some}
use Rattle.text_base.specs.declared.byte_range.ByteRange.{ByteRange}
use Rattle.text_base.specs.declared.page_token.PageToken.{PageToken}
use Rattle.text_base.specs.declared.letter.Letter.{Letter}
use Rattle.text_base.specs.declared.letter.Letter.TheVariants.{OfByte}
use Rattle.text_base.specs.declared.numbers.Nt as nt
use Rattle.cfg_grammar.specs.declared.symbol.Symbol.{Symbol}
use Rattle.cfg_grammar.specs.declared.symbol.Symbol.TheVariants as symbol
use Rattle.cfg_grammar.specs.declared.production.Right.{Right}
use Rattle.cfg_grammar.specs.declared.production.Right.TheVariants as right
use Rattle.cfg_grammar.specs.declared.production.Production.{Production}
use Rattle.derivations.specs.declared.node.Part.{Part}
use Rattle.derivations.specs.declared.node.Part.TheVariants.{Inner}
use Rattle.derivations.specs.declared.node.Parts.TheVariants.{Empty, One, Two}
use Rattle.derivations.specs.declared.node.Node.{Node}
use Rattle.derivations.specs.Nodes.{part_below, parts_below, parts_length}
use Rattle.derivations.specs.Stands.{Stands}
use Rattle.numbered_sets.specs.Numbers.{Keeps}
use Rattle.derivations.specs.Bytes.{bytes_in}
use Rattle.derivations.proofs.ForkLemmas.{get_last}
use Rattle.grammar_chart.specs.declared.keys.Passage.{Passage}
use Rattle.chart_grammar.specs.Lifts.{nt_of}
use Rattle.chart_grammar.specs.Sources.{Passes}
use Rattle.grammar_image.specs.Echoes.{text_of}
use Rattle.grammar_image.specs.Marks.{marked_at, part_marked, parts_marked}
use Rattle.grammar_image.specs.Leads.{led_part, one_led, two_led, led_parts, Pushes}
use Rattle.grammar_image.specs.Traces.{LeadsTo, AreTraces}
use Rattle.grammar_image.proofs.FirstLemmas.{bytes_append}
use Rattle.grammar_image.proofs.LeadLemmas.{grows_keeps}

pub stands_on : (ps : List Production) (nodes more : List Node) (p : Part) (a : Symbol) (w : List Letter) → Keeps nodes more → Stands ps nodes p a w → Stands ps more p a w
stands_on ps nodes more p a w keeps (Stands.by_byte range byte h) = Stands.by_byte range byte h
stands_on ps nodes more p a w keeps (Stands.by_token token) = Stands.by_token token
stands_on ps nodes more p a w keeps (Stands.by_empty n node left e f g) = Stands.by_empty n node left (keeps n node e) f g
stands_on ps nodes more p a w keeps (Stands.by_one n node left b q v e f g s) = Stands.by_one n node left b q v (keeps n node e) f g (stands_on ps nodes more q b v keeps s)
stands_on ps nodes more p a w keeps (Stands.by_two n node left b c q r u v e f g s t) =
    Stands.by_two n node left b c q r u v (keeps n node e) f g (stands_on ps nodes more q b u keeps s) (stands_on ps nodes more r c v keeps t)

pub lead_on : (ps : List Production) (old new : List Node) (lead : Option Part) (a : Symbol) (w : List Letter) → Keeps old new → LeadsTo ps old lead a w → LeadsTo ps new lead a w
lead_on ps old new lead a w keeps l = (l.0, l.1, stands_on ps old new l.0 a (text_of w) keeps l.2)

pub text_append : (v w : List Letter) → text_of (v ++ w) ≡ text_of v ++ text_of w
text_append v w = ap (λ (bs : List ℕ). map OfByte bs) (bytes_append v w) ∙ map-append OfByte (bytes_in v) (bytes_in w)

-- a place of a list holds what stands there
pub contained : {X : Type 0} (xs : List X) (n : ℕ) (x : X) → slice_get xs n ≡ Some x → Contains xs x
contained [] n x e = cc
contained (y ∷ xs) zero x e = let same : y ≡ x = cc in subst (λ (z : _). Contains (y ∷ xs) z) same (0, omega arith, refl)
contained (y ∷ xs) (suc n) x e = Contains-append_right (y ∷ []) xs x (contained xs n x e)

pub past_end : {X : Type 0} (xs : List X) (n : ℕ) → slice_get xs n ≡ None → length xs ≤ n
past_end [] n e = omega arith
past_end (x ∷ xs) zero e = absurd (none-some x (sym e))
past_end (x ∷ xs) (suc n) e = let l = past_end xs n e in omega (arith, l)

pub same_numbers : (m n : ℕ) → Inner m ≡ Inner n → m ≡ n
same_numbers m n h = cc

pub same_nts : (a b : nt.Nt) → symbol.Nt a ≡ symbol.Nt b → a ≡ b
same_nts a b h = cc

pub no_range : (range : ByteRange) (a : nt.Nt) → symbol.Range range ≡ symbol.Nt a → ⊥
no_range range a h = cc

pub no_token : (token : PageToken) (a : nt.Nt) → symbol.Token token ≡ symbol.Nt a → ⊥
no_token token a h = cc

pub same_places : (k n : ℕ) (a : nt.Nt) → a ≡ record { 0 = suc k } → a ≡ record { 0 = suc n } → k ≡ n
same_places k n a e f = let s : suc k ≡ suc n = ap (λ (x : nt.Nt). x.0) (sym e ∙ f) in omega (arith, s)

-- the parts of a node lead back, where the nodes before do
module _ (ps qs : List Production) (fs : List Passage) (nodes : List Node) (marks : List Bool) (old : List Node) (leads : List (Option Part)) (traces : AreTraces ps fs qs nodes marks old leads) where
  inner_leads : (n k : ℕ) (f : Passage) (a : Symbol) (w : List Letter) → part_below (length leads) (Inner n) ≡ true → marked_at marks n ≡ true → slice_get fs k ≡ Some f → a ≡ nt_of (suc k)
      → Stands qs nodes (Inner n) a w → LeadsTo ps old (slice_index_or leads n None) f.symbol w
  inner_leads n k f a w below marked at is s =
      traces n k (slice_index_or leads n None) f w (slice_get-get_or leads n None (ltb-true n (length leads) below)) marked at (subst (λ (x : Symbol). Stands qs nodes (Inner n) x w) is s)

  pub part_leads : (p : Part) (k : ℕ) (f : Passage) (a : Symbol) (w : List Letter) → part_below (length leads) p ≡ true → part_marked marks p ≡ true → slice_get fs k ≡ Some f → a ≡ nt_of (suc k)
      → Stands qs nodes p a w → LeadsTo ps old (led_part leads p) f.symbol w
  part_leads p k f a w below marked at is (Stands.by_byte range byte h) = absurd (no_range range _ is)
  part_leads p k f a w below marked at is (Stands.by_token token) = absurd (no_token token _ is)
  part_leads p k f a w below marked at is (Stands.by_empty n node left e g h) = inner_leads n k f _ _ below marked at is (Stands.by_empty n node left e g h)
  part_leads p k f a w below marked at is (Stands.by_one n node left b q v e g h s) = inner_leads n k f _ _ below marked at is (Stands.by_one n node left b q v e g h s)
  part_leads p k f a w below marked at is (Stands.by_two n node left b c q r u v e g h s t) = inner_leads n k f _ _ below marked at is (Stands.by_two n node left b c q r u v e g h s t)

  -- a new node stands for the production that it is a use of
  module _ (new : List Node) (place : ℕ) (lead : Option Part) (left : nt.Nt) where
    pushed_empty : Pushes old new place (Some Empty) lead → slice_get ps place ≡ Some (record { left = left; right = right.Empty }) → LeadsTo ps new lead (symbol.Nt left) []
    pushed_empty p placed = (
      Inner (length old),
      p.1,
      Stands.by_empty (length old) (record { production = place; parts = Empty; length = parts_length old Empty }) left
          (ap (λ (ns : List Node). slice_get ns (length old)) p.0 ∙ get_last old _) placed refl,
    )

    pushed_one : (o : Option Part) (x : Symbol) (v : List Letter) → Pushes old new place (one_led o) lead → slice_get ps place ≡ Some (record { left = left; right = right.One x }) → LeadsTo ps old o x v
        → LeadsTo ps new lead (symbol.Nt left) v
    pushed_one o x v p placed l =
        let pushes = subst (λ (k : Option Part). Pushes old new place (one_led k) lead) l.1 p in
        let keeps = grows_keeps old new place (One l.0) pushes.0 in (
          Inner (length old),
          pushes.1,
          Stands.by_one (length old) (record { production = place; parts = One l.0; length = parts_length old (One l.0) }) left x l.0 (text_of v)
              (ap (λ (ns : List Node). slice_get ns (length old)) pushes.0 ∙ get_last old _) placed refl (stands_on ps old new l.0 x (text_of v) keeps l.2),
        )

    pushed_two : (o i : Option Part) (x y : Symbol) (u v : List Letter) → Pushes old new place (two_led o i) lead → slice_get ps place ≡ Some (record { left = left; right = right.Two x y })
        → LeadsTo ps old o x u → LeadsTo ps old i y v → LeadsTo ps new lead (symbol.Nt left) (u ++ v)
    pushed_two o i x y u v p placed l m =
        let half = subst (λ (k : Option Part). Pushes old new place (two_led k i) lead) l.1 p in
        let pushes = subst (λ (k : Option Part). Pushes old new place (two_led (Some l.0) k) lead) m.1 half in
        let keeps = grows_keeps old new place (Two l.0 m.0) pushes.0 in (
          Inner (length old),
          pushes.1,
          subst (λ (t : List Letter). Stands ps new (Inner (length old)) (symbol.Nt left) t) (sym (text_append u v))
              (Stands.by_two (length old) (record { production = place; parts = Two l.0 m.0; length = parts_length old (Two l.0 m.0) }) left x y l.0 m.0 (text_of u) (text_of v)
              (ap (λ (ns : List Node). slice_get ns (length old)) pushes.0 ∙ get_last old _) placed refl
              (stands_on ps old new l.0 x (text_of u) keeps l.2) (stands_on ps old new m.0 y (text_of v) keeps m.2)),
        )

    -- by the right side that the image's production comes of
    pub empty_comes : (x : Right) (s t : ℕ) → slice_get ps place ≡ Some (record { left = left; right = x }) → Passes fs x s t right.Empty → Pushes old new place (led_parts leads Empty) lead
        → LeadsTo ps new lead (symbol.Nt left) []
    empty_comes right.Empty s t placed pass p = pushed_empty p placed
    empty_comes (right.One x) s t placed pass p = absurd (no_one _ pass.2)
      where
        no_one : (a : Symbol) → right.Empty ≡ right.One a → ⊥
        no_one a e = cc
    empty_comes (right.Two x y) s t placed pass p = absurd (no_two _ _ pass.5)
      where
        no_two : (a b : Symbol) → right.Empty ≡ right.Two a b → ⊥
        no_two a b e = cc

    pub one_comes : (x : Right) (s t : ℕ) (q : Part) (b : Symbol) (v : List Letter) → slice_get ps place ≡ Some (record { left = left; right = x }) → Passes fs x s t (right.One b)
        → Pushes old new place (led_parts leads (One q)) lead → part_below (length leads) q ≡ true → part_marked marks q ≡ true → Stands qs nodes q b v → LeadsTo ps new lead (symbol.Nt left) v
    one_comes right.Empty s t q b v placed pass p below marked stands = absurd (no_empty b pass.1)
      where
        no_empty : (a : Symbol) → right.One a ≡ right.Empty → ⊥
        no_empty a e = cc
    one_comes (right.One x) s t q b v placed pass p below marked stands =
        pushed_one (led_part leads q) x v p placed (part_leads q pass.0 _ b v below marked pass.1 (same_one b _ pass.2) stands)
      where
        same_one : (a c : Symbol) → right.One a ≡ right.One c → a ≡ c
        same_one a c e = cc
    one_comes (right.Two x y) s t q b v placed pass p below marked stands = absurd (no_two b _ _ pass.5)
      where
        no_two : (a c d : Symbol) → right.One a ≡ right.Two c d → ⊥
        no_two a c d e = cc

    pub two_comes : (x : Right) (s t : ℕ) (q r : Part) (b c : Symbol) (u v : List Letter) → slice_get ps place ≡ Some (record { left = left; right = x }) → Passes fs x s t (right.Two b c)
        → Pushes old new place (led_parts leads (Two q r)) lead → parts_below (length leads) (Two q r) ≡ true → parts_marked marks (Two q r) ≡ true
        → Stands qs nodes q b u → Stands qs nodes r c v → LeadsTo ps new lead (symbol.Nt left) (u ++ v)
    two_comes right.Empty s t q r b c u v placed pass p below marked one two = absurd (no_empty b c pass.1)
      where
        no_empty : (a d : Symbol) → right.Two a d ≡ right.Empty → ⊥
        no_empty a d e = cc
    two_comes (right.One x) s t q r b c u v placed pass p below marked one two = absurd (no_one b c _ pass.2)
      where
        no_one : (a d e : Symbol) → right.Two a d ≡ right.One e → ⊥
        no_one a d e h = cc
    two_comes (right.Two x y) s t q r b c u v placed pass p below marked one two =
        pushed_two (led_part leads q) (led_part leads r) x y u v p placed
        (part_leads q pass.1 _ b u (first_so (part_below (length leads) q) (part_below (length leads) r) below) (first_so (part_marked marks q) (part_marked marks r) marked) pass.3 (same_first b c _ _ pass.5) one)
        (part_leads r pass.2 _ c v (second_so (part_below (length leads) q) (part_below (length leads) r) below) (second_so (part_marked marks q) (part_marked marks r) marked) pass.4 (same_second b c _ _ pass.5) two)
      where
        same_first : (a d e f : Symbol) → right.Two a d ≡ right.Two e f → a ≡ e
        same_first a d e f h = cc

        same_second : (a d e f : Symbol) → right.Two a d ≡ right.Two e f → d ≡ f
        same_second a d e f h = cc
