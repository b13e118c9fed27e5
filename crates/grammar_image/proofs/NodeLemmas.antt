-- One node more, and what it leads back to.
use Rattle.std.proofs.Common.{◌≡◌, ℕ, suc, ◌≤◌, inl, inr, Bool, true, List, [], ◌∷◌, ◌++◌, length, map, Option, None, Some, refl, sym, ◌∙◌, ap, subst, arith, slice_get}
use Rattle.std.specs.Prelude.{slice_index_or}
use Rattle.std.proofs.lemmas.Option.{slice_get-get_or, slice_get_within, same_Some}
use Rattle.text_base.specs.declared.letter.Letter.{Letter}
use Rattle.text_base.specs.declared.letter.Letter.TheVariants.{OfByte}
use Rattle.text_base.specs.declared.numbers.Nt as nt
use Rattle.cfg_grammar.specs.declared.symbol.Symbol.{Symbol}
use Rattle.cfg_grammar.specs.declared.symbol.Symbol.TheVariants as symbol
use Rattle.cfg_grammar.specs.declared.production.Right.TheVariants as right
use Rattle.cfg_grammar.specs.declared.production.Production.{Production}
use Rattle.cfg_grammar.specs.Derives.{Derives}
use Rattle.derivations.specs.declared.node.Part.{Part}
use Rattle.derivations.specs.declared.node.Part.TheVariants.{Byte, Inner}
use Rattle.derivations.specs.declared.node.Parts.{Parts}
use Rattle.derivations.specs.declared.node.Parts.TheVariants.{Empty, One, Two}
use Rattle.derivations.specs.declared.node.Node.{Node}
use Rattle.derivations.specs.Nodes.{parts_below}
use Rattle.derivations.specs.Stands.{Stands}
use Rattle.derivations.specs.Lawful.{AreLawful}
use Rattle.derivations.proofs.Derivations.{derives}
use Rattle.derivations.specs.Bytes.{bytes_in}
use Rattle.derivations.proofs.ForkLemmas.{get_cases}
use Rattle.grammar_chart.specs.declared.keys.Passage.{Passage}
use Rattle.chart_grammar.specs.Lifts.{nt_of}
use Rattle.chart_grammar.specs.Sources.{ComesOf, AreSources}
use Rattle.grammar_image.specs.Echoes.{CopiesBytes}
use Rattle.grammar_image.specs.Firsts.{AreFirsts}
use Rattle.grammar_image.specs.Marks.{marked_at, parts_marked, AreClosedFrom}
use Rattle.grammar_image.specs.Leads.{led_parts, byte_part, Pushes, Comes, Leads}
use Rattle.grammar_image.specs.Traces.{LeadsTo, AreTraces}
use Rattle.grammar_image.proofs.LeadLemmas.{leads_keeps}
use Rattle.grammar_image.proofs.TraceLemmas.{lead_on, past_end, same_numbers, same_nts, same_places, no_range, no_token, empty_comes, one_comes, two_comes}

module _ (ps qs : List Production) (start : nt.Nt) (fs : List Passage) (sources : List ℕ) (are : AreSources ps start fs sources qs) (copies : CopiesBytes start fs qs) where
  -- a passage whose production comes of none is of a range, of which its sentence has one byte
  outside : (x : Symbol) (s t k place : ℕ) (q : Production) (new : List Node) (first : Option ℕ) (lead : Option Part) (w : List Letter)
      → slice_get fs k ≡ Some (record { symbol = x; from = s; to = t }) → slice_get qs place ≡ Some q → length sources ≤ place → q.left ≡ record { 0 = suc k }
      → Derives qs (nt_of (suc k)) w → first ≡ slice_get (bytes_in w) 0 → lead ≡ byte_part first → LeadsTo ps new lead x w
  outside (symbol.Range range) s t k place q new first lead w at there past left d begins is =
      let r = copies.reads k s t range w at d in (
        Byte r.0,
        is ∙ ap byte_part (begins ∙ ap (λ (bs : List ℕ). slice_get bs 0) r.2),
        subst (λ (bs : List ℕ). Stands ps new (Byte r.0) (symbol.Range range) (map OfByte bs)) (sym r.2) (Stands.by_byte range r.0 r.1),
      )
  outside (symbol.Token token) s t k place q new first lead w at there past left d begins is = absurd (are.no_tokens k s t token at)
  outside (symbol.Nt a) s t k place q new first lead w at there past left d begins is = absurd (are.others place q past there k a s t left at)

  same_symbol : (k place : ℕ) (q : Production) (f : Passage) (c : ComesOf ps fs place q) → q.left ≡ record { 0 = suc k } → slice_get fs k ≡ Some f → f.symbol ≡ symbol.Nt c.production.left
  same_symbol k place q f c left at =
      let same = same_places k c.number q.left left c.left in
      ap (λ (x : Passage). x.symbol) (same_Some f _ (sym at ∙ ap (slice_get fs) same ∙ c.passed))

  -- by the source of the production, if it has one
  by_source : (k index : ℕ) (f : Passage) (q : Production) (old new : List Node) (leads : List (Option Part)) (source first : Option ℕ) (parts : Parts) (lead : Option Part) (w : List Letter)
      → slice_get sources index ≡ source → slice_get fs k ≡ Some f → slice_get qs index ≡ Some q → q.left ≡ record { 0 = suc k } → Derives qs (nt_of (suc k)) w → first ≡ slice_get (bytes_in w) 0
      → Comes old new leads source first parts lead
      → ((place : ℕ) (c : ComesOf ps fs place q) → Pushes old new place (led_parts leads parts) lead → LeadsTo ps new lead (symbol.Nt c.production.left) w) → LeadsTo ps new lead f.symbol w
  by_source k index f q old new leads None first parts lead w is at there left d begins comes rest =
      outside f.symbol f.from f.to k index q new first lead w at there (past_end sources index is) left d begins comes.1
  by_source k index f q old new leads (Some place) first parts lead w is at there left d begins comes rest =
      let c = are.comes index place q is there in
      subst (λ (x : Symbol). LeadsTo ps new lead x w) (sym (same_symbol k place q f c left at)) (rest place c comes)

  module _ (nodes : List Node) (marks : List Bool) (old new : List Node) (leads : List (Option Part)) (traces : AreTraces ps fs qs nodes marks old leads) (node : Node)
      (here : slice_get nodes (length leads) ≡ Some node) (below : parts_below (length leads) node.parts ≡ true) (marked : parts_marked marks node.parts ≡ true) where
    same_node : (m : ℕ) (other : Node) → Inner m ≡ Inner (length leads) → slice_get nodes m ≡ Some other → other ≡ node
    same_node m other is at = same_Some other node (sym at ∙ ap (slice_get nodes) (same_numbers m (length leads) is) ∙ here)

    node_leads : (p : Part) (a : Symbol) (w : List Letter) (k : ℕ) (f : Passage) (first : Option ℕ) (lead : Option Part) → p ≡ Inner (length leads) → a ≡ nt_of (suc k) → slice_get fs k ≡ Some f
        → first ≡ slice_get (bytes_in w) 0 → Comes old new leads (slice_get sources node.production) first node.parts lead → Stands qs nodes p a w → LeadsTo ps new lead f.symbol w
    node_leads p a w k f first lead is sort at begins comes (Stands.by_byte range byte h) = absurd (no_range range _ sort)
    node_leads p a w k f first lead is sort at begins comes (Stands.by_token token) = absurd (no_token token _ sort)
    node_leads p a w k f first lead is sort at begins comes (Stands.by_empty m other left e g h) =
        let same = same_node m other is e in
        let there = subst (λ (x : Node). slice_get qs x.production ≡ Some (record { left = left; right = right.Empty })) same g in
        let own = ap (λ (x : Node). x.parts) (sym same) ∙ h in
        let d = subst (λ (x : Symbol). Derives qs x []) sort (derives qs nodes _ _ _ (Stands.by_empty m other left e g h)) in
        by_source k node.production f (record { left = left; right = right.Empty }) old new leads (slice_get sources node.production) first Empty lead [] refl at there (same_nts left _ sort) d begins
        (subst (λ (x : Parts). Comes old new leads (slice_get sources node.production) first x lead) own comes)
        (λ place c pushes. empty_comes ps qs fs nodes marks old leads traces new place lead c.production.left c.production.right c.from c.to c.placed c.right pushes)
    node_leads p a w k f first lead is sort at begins comes (Stands.by_one m other left b q v e g h s) =
        let same = same_node m other is e in
        let there = subst (λ (x : Node). slice_get qs x.production ≡ Some (record { left = left; right = right.One b })) same g in
        let own = ap (λ (x : Node). x.parts) (sym same) ∙ h in
        let low = subst (λ (x : Parts). parts_below (length leads) x ≡ true) own below in
        let kept = subst (λ (x : Parts). parts_marked marks x ≡ true) own marked in
        let d = subst (λ (x : Symbol). Derives qs x v) sort (derives qs nodes _ _ _ (Stands.by_one m other left b q v e g h s)) in
        by_source k node.production f (record { left = left; right = right.One b }) old new leads (slice_get sources node.production) first (One q) lead v refl at there (same_nts left _ sort) d begins
        (subst (λ (x : Parts). Comes old new leads (slice_get sources node.production) first x lead) own comes)
        (λ place c pushes. one_comes ps qs fs nodes marks old leads traces new place lead c.production.left c.production.right c.from c.to q b v c.placed c.right pushes low kept s)
    node_leads p a w k f first lead is sort at begins comes (Stands.by_two m other left b i q r u v e g h s t) =
        let same = same_node m other is e in
        let there = subst (λ (x : Node). slice_get qs x.production ≡ Some (record { left = left; right = right.Two b i })) same g in
        let own = ap (λ (x : Node). x.parts) (sym same) ∙ h in
        let low = subst (λ (x : Parts). parts_below (length leads) x ≡ true) own below in
        let kept = subst (λ (x : Parts). parts_marked marks x ≡ true) own marked in
        let d = subst (λ (x : Symbol). Derives qs x (u ++ v)) sort (derives qs nodes _ _ _ (Stands.by_two m other left b i q r u v e g h s t)) in
        by_source k node.production f (record { left = left; right = right.Two b i }) old new leads (slice_get sources node.production) first (Two q r) lead (u ++ v) refl at there (same_nts left _ sort) d begins
        (subst (λ (x : Parts). Comes old new leads (slice_get sources node.production) first x lead) own comes)
        (λ place c pushes. two_comes ps qs fs nodes marks old leads traces new place lead c.production.left c.production.right c.from c.to q r b i u v c.placed c.right pushes low kept s t)

  -- one node more
  pub traces_more : (nodes : List Node) (marks : List Bool) (firsts : List (Option ℕ)) (old new : List Node) (leads after : List (Option Part)) (is_marked : Bool) (first : Option ℕ) (node : Node) (lead : Option Part)
      → AreLawful nodes → AreClosedFrom 0 nodes marks → AreFirsts nodes firsts → length firsts ≡ length nodes → slice_get nodes (length leads) ≡ Some node
      → is_marked ≡ marked_at marks (length leads) → first ≡ slice_index_or firsts (length leads) None → Leads is_marked old new leads sources first node lead → after ≡ leads ++ lead ∷ []
      → AreTraces ps fs qs nodes marks old leads → AreTraces ps fs qs nodes marks new after
  traces_more nodes marks firsts old new leads after is_marked first node lead lawful closed begins long here marking starts led is traces = λ n k o f w at marked_n passed s.
      elim (get_cases leads lead n o (sym (ap (λ (os : List (Option Part)). slice_get os n) is) ∙ at)) [
        | inl before ↦ lead_on ps old new o f.symbol w (leads_keeps is_marked old new leads sources first node lead led) (traces n k o f w before marked_n passed s)
        | inr last ↦
            let mark = ap (marked_at marks) (sym last.0) ∙ marked_n in
            let comes = subst (λ (b : Bool). Leads b old new leads sources first node lead) (marking ∙ mark) led in
            let inside = slice_get_within nodes (length leads) node here in
            let stands = subst (λ (m : ℕ). Stands qs nodes (Inner m) (nt_of (suc k)) w) last.0 s in
            let byte = begins qs (length leads) (slice_index_or firsts (length leads) None) (nt_of (suc k)) w (slice_get-get_or firsts (length leads) None (omega (arith, inside, long))) stands in
            subst (λ (x : Option Part). LeadsTo ps new x f.symbol w) last.1
            (node_leads nodes marks old new leads traces node here (lawful.before (length leads) node here) (closed (length leads) node (omega arith) here mark)
            (Inner (length leads)) (nt_of (suc k)) w k f first lead refl refl passed (starts ∙ byte) comes stands)
      ]

pub no_traces : (ps qs : List Production) (fs : List Passage) (nodes : List Node) (marks : List Bool) (made : List Node) → AreTraces ps fs qs nodes marks made []
no_traces ps qs fs nodes marks made = λ n k lead f w at. cc
