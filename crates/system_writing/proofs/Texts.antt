-- The texts of parts are those of the table.
use Rattle.std.proofs.Common.{◌≡◌, inl, inr, ◌↔◌, ℕ, List, [], ◌∷◌, ◌++◌, map, refl, sym, subst}
use Rattle.std.specs.Prelude.{Contains}
use Rattle.std.proofs.lemmas.List.Elements.{Contains-append_cases}
use Rattle.string_functions.proofs.Members.{Contains-nil, Contains-cons_cases, Contains-head}
use Rattle.text_base.specs.declared.letter.Letter.{Letter}
use Rattle.text_base.specs.declared.letter.Letter.TheVariants.{OfByte}
use Rattle.text_base.specs.ByteRange.{InRange}
use Rattle.cfg_grammar.specs.declared.symbol.Symbol.{Symbol}
use Rattle.cfg_grammar.specs.declared.symbol.Symbol.TheVariants.{Range, Token, Nt}
use Rattle.cfg_grammar.specs.declared.production.Production.{Production}
use Rattle.cfg_grammar.specs.Derives.{Derives}
use Rattle.op_system.specs.declared.op.Op.{Op}
use Rattle.least_sets.specs.Forms.{Form, text_form, same_form, join_form, apply_form}
use Rattle.least_sets.specs.Sets.{Says, Byte, In, IsCircular}
use Rattle.least_sets.specs.Simulations.{IsMonotone}
use Rattle.system_writing.specs.Parts.{Part, start_part, set_part, end_part, range_part, closed_part, token_part, symbol_part, PartRow}
use Rattle.given_texts.specs.Closed.{Closed, HasText, IsClosed}
use Rattle.given_texts.proofs.Splits.{Split, split}
use Rattle.system_writing.proofs.Parts as parts

module _ (N : Type 0) (cells : N → Form N → Type 0) (starts says : N → Type 0) (says_is : (j : N) → says j ↔ Says cells j) (closed : Closed) (request : List ℕ → Type 0) (is : IsClosed closed request) (outputs : Op → List ℕ → List ℕ → Type 0) (others : List ℕ → Type 0) (circle : (ℕ → Type 0) → List ℕ → Type 0) (more : IsMonotone circle) where
  abbrev P : Part N → Form (Part N) → Type 0
  P = PartRow cells starts says closed

  abbrev G : List Production
  G = closed.productions

  -- the texts of the cells, and of the parts
  abbrev C : N → List ℕ → Type 0
  C k w = In cells outputs request circle k w

  abbrev Q : Part N → List ℕ → Type 0
  Q p w = In P outputs others circle p w

  -- what a part stands for
  abbrev Means : Part N → List ℕ → Type 0
  Means start_part w = (k : N) × starts k × C k w
  Means (set_part k) w = C k w
  Means (end_part u) w = (w ≡ u)
  Means (range_part r) w = (b : ℕ) × InRange r b × (w ≡ b ∷ [])
  Means (closed_part n) w = HasText G (parts.number N cells starts says says_is closed request is n) w
  Means token_part w = ⊥

  of_symbol : (s : Symbol) (w : List ℕ) → Means (symbol_part s) w → HasText G s w
  unfolding symbol_part
  of_symbol (Range r) w h = subst (λ z. HasText G (Range r) z) (sym h.2) (Derives.by_range r h.0 h.1)
  of_symbol (Token k) w h = absurd h
  of_symbol (Nt a) w h = h

  m_text : (p : Part N) (w : List ℕ) → P p (text_form w) → Means p w
  m_text _ _ (PartRow.nothing k c) = In.text k [] c
  m_text _ _ (PartRow.where_nothing k j c said) = In.where_yes k j [] c ((says_is j).0 said)
  m_text _ _ (PartRow.last b) = refl
  m_text _ _ (PartRow.range r b within) = (b, within, refl)
  m_text _ _ (PartRow.closed_empty left has) = Derives.by_empty left has

  m_same : (p q : Part N) (w : List ℕ) → P p (same_form q) → Means q w → Means p w
  m_same _ _ w (PartRow.start k c) h = (k, c, h)
  m_same _ _ w (PartRow.text k b u c) h = subst (λ z. C k z) (sym h) (In.text k (b ∷ u) c)
  m_same _ _ w (PartRow.same k j c) h = In.same k j w c h
  m_same _ _ w (PartRow.before_nothing k j c) h = In.before k j [] w c h
  m_same _ _ w (PartRow.asked k c) h = In.asked k w c ((is.asked w).1 h)
  m_same _ _ w (PartRow.integer k c) h = In.integer k w c ((is.integers w).1 h)
  m_same _ _ w (PartRow.where_yes k b j u c said) h = subst (λ z. C k z) (sym h) (In.where_yes k j (b ∷ u) c ((says_is j).0 said))
  m_same _ _ w (PartRow.closed_one left a has) h = Derives.by_one left a (map OfByte w) has (of_symbol a w h)

  m_join : (p q r : Part N) (u v : List ℕ) → P p (join_form q r) → Means q u → Means r v → Means p (u ++ v)
  m_join _ _ _ u v (PartRow.join k i j c) h g = In.join k i j u v c h g
  m_join _ _ _ u v (PartRow.before k b j w c) h g = subst (λ z. C k (z ++ v)) (sym h) (In.before k j (b ∷ w) v c g)
  m_join _ _ _ u v (PartRow.first b c w) h g = subst (λ z. u ++ z ≡ b ∷ c ∷ w) (sym g) (subst (λ z. z ++ c ∷ w ≡ b ∷ c ∷ w) (sym h) refl)
  m_join _ _ _ u v (PartRow.closed_two left s t has) h g = parts.both N cells starts says says_is closed request is left s t u v has (of_symbol s u h) (of_symbol t v g)

  m_apply : (p q : Part N) (op : Op) (u w : List ℕ) → P p (apply_form op q) → Means q u → outputs op u w → Means p w
  m_apply _ _ op u w (PartRow.apply k j _ c) h out = In.apply k j op u w c h out

  circular_back : (k j : N) (op : Op) → IsCircular P (set_part k) op (set_part j) → IsCircular cells k op j
  circular_back k j op (IsCircular.cycle _ _ _ d) = IsCircular.cycle k j op (parts.depends_back N cells starts says says_is closed request is j k d)
  circular_back k j _ (IsCircular.any _ _) = IsCircular.any k j

  m_over : (p q : Part N) (op : Op) (w : List ℕ) → P p (apply_form op q) → IsCircular P p op q → circle (Byte P others p) w → Means p w
  m_over _ _ op w (PartRow.apply k j _ c) circles all =
      In.over_bytes k j op w c (circular_back k j op circles) (more (Byte P others (set_part k)) (Byte cells request k) w (λ b. parts.bytes_mean N cells starts says says_is closed request is others (set_part k) b) all)

  pub texts_mean : (p : Part N) (w : List ℕ) → Q p w → Means p w
  texts_mean p _ (In.text _ w row) = m_text p w row
  texts_mean p _ (In.same _ q w row i) = m_same p q w row (texts_mean q w i)
  texts_mean p _ (In.join _ q r u v row i j) = m_join p q r u v row (texts_mean q u i) (texts_mean r v j)
  texts_mean p _ (In.before _ q u v row i) = elim row [ ]
  texts_mean p _ (In.asked _ w row i) = elim row [ ]
  texts_mean p _ (In.integer _ w row i) = elim row [ ]
  texts_mean p _ (In.where_yes _ q w row i) = elim row [ ]
  texts_mean p _ (In.apply _ q op u w row i out) = m_apply p q op u w row (texts_mean q u i) out
  texts_mean p _ (In.over_bytes _ q op w row circles all) = m_over p q op w row circles all

  -- and the other way: a text of the cells is one of their parts
  at_end : (b : ℕ) (w : List ℕ) → Q (end_part (b ∷ w)) (b ∷ w)
  at_end b [] = In.text (end_part (b ∷ [])) (b ∷ []) (PartRow.last b)
  at_end b (c ∷ w) =
      In.join (end_part (b ∷ c ∷ w)) (end_part (b ∷ [])) (end_part (c ∷ w)) (b ∷ []) (c ∷ w) (PartRow.first b c w) (In.text (end_part (b ∷ [])) (b ∷ []) (PartRow.last b)) (at_end c w)

  byte_at_end : (b : ℕ) (w : List ℕ) (x : ℕ) → Contains (b ∷ w) x → Byte P others (end_part (b ∷ w)) x
  byte_at_end b [] x h = Byte.text (end_part (b ∷ [])) (b ∷ []) x (PartRow.last b) h
  byte_at_end b (c ∷ w) x h =
      elim (Contains-cons_cases b (c ∷ w) x h) [
        | inl e ↦ Byte.first (end_part (b ∷ c ∷ w)) (end_part (b ∷ [])) (end_part (c ∷ w)) x (PartRow.first b c w)
            (Byte.text (end_part (b ∷ [])) (b ∷ []) x (PartRow.last b) (subst (λ z. Contains (b ∷ []) z) e (Contains-head b [])))
        | inr there ↦ Byte.second (end_part (b ∷ c ∷ w)) (end_part (b ∷ [])) (end_part (c ∷ w)) x (PartRow.first b c w) (byte_at_end c w x there)
      ]

  closed_text : (s : Symbol) (v : List Letter) → Derives G s v → (w : List ℕ) → v ≡ map OfByte w → Q (symbol_part s) w
  unfolding symbol_part
  closed_text _ _ (Derives.by_range r b within) [] e = cc
  closed_text _ _ (Derives.by_range r b within) (c ∷ []) e =
      let same_byte : b ≡ c = cc in
      subst (λ z. Q (range_part r) (z ∷ [])) same_byte (In.text (range_part r) (b ∷ []) (PartRow.range r b within))
  closed_text _ _ (Derives.by_range r b within) (c ∷ d ∷ w) e = cc
  closed_text _ _ (Derives.by_token k) [] e = cc
  closed_text _ _ (Derives.by_token k) (c ∷ w) e = cc
  closed_text _ _ (Derives.by_empty left has) [] e = In.text (closed_part left.0) [] (PartRow.closed_empty left has)
  closed_text _ _ (Derives.by_empty left has) (c ∷ w) e = cc
  closed_text _ _ (Derives.by_one left a v has h) w e = In.same (closed_part left.0) (symbol_part a) w (PartRow.closed_one left a has) (closed_text a v h w e)
  closed_text _ _ (Derives.by_two left a b u v has h k) w e =
      let s : Split u v w = split u v w e in
      subst (λ z. Q (closed_part left.0) z) (sym s.is) (In.join (closed_part left.0) (symbol_part a) (symbol_part b) s.front s.behind (PartRow.closed_two left a b has)
      (closed_text a u h s.front s.front_is) (closed_text b v k s.behind s.behind_is))

  closed_byte : (s : Symbol) (v : List Letter) → Derives G s v → (w : List ℕ) → v ≡ map OfByte w → (x : ℕ) → Contains w x → Byte P others (symbol_part s) x
  unfolding symbol_part
  closed_byte _ _ (Derives.by_range r b within) [] e x has_x = cc
  closed_byte _ _ (Derives.by_range r b within) (c ∷ []) e x has_x =
      let same_byte : b ≡ c = cc in
      Byte.text (range_part r) (b ∷ []) x (PartRow.range r b within) (subst (λ z. Contains (z ∷ []) x) (sym same_byte) has_x)
  closed_byte _ _ (Derives.by_range r b within) (c ∷ d ∷ w) e x has_x = cc
  closed_byte _ _ (Derives.by_token k) [] e x has_x = cc
  closed_byte _ _ (Derives.by_token k) (c ∷ w) e x has_x = cc
  closed_byte _ _ (Derives.by_empty left has) [] e x has_x = Contains-nil x has_x
  closed_byte _ _ (Derives.by_empty left has) (c ∷ w) e x has_x = cc
  closed_byte _ _ (Derives.by_one left a v has h) w e x has_x = Byte.same (closed_part left.0) (symbol_part a) x (PartRow.closed_one left a has) (closed_byte a v h w e x has_x)
  closed_byte _ _ (Derives.by_two left a b u v has h k) w e x has_x =
      let s : Split u v w = split u v w e in
      elim (Contains-append_cases s.front s.behind x (subst (λ z. Contains z x) s.is has_x)) [
        | inl here ↦ Byte.first (closed_part left.0) (symbol_part a) (symbol_part b) x (PartRow.closed_two left a b has) (closed_byte a u h s.front s.front_is x here)
        | inr there ↦ Byte.second (closed_part left.0) (symbol_part a) (symbol_part b) x (PartRow.closed_two left a b has) (closed_byte b v k s.behind s.behind_is x there)
      ]

  number : ℕ → Symbol
  number n = parts.number N cells starts says says_is closed request is n

  bytes_forward : (k : N) (x : ℕ) → Byte cells request k x → Byte P others (set_part k) x
  unfolding number symbol_part
  bytes_forward k x (Byte.text _ [] _ cell h) = Contains-nil x h
  bytes_forward k x (Byte.text _ (b ∷ w) _ cell h) = Byte.same (set_part k) (end_part (b ∷ w)) x (PartRow.text k b w cell) (byte_at_end b w x h)
  bytes_forward k x (Byte.same _ j _ cell h) = Byte.same (set_part k) (set_part j) x (PartRow.same k j cell) (bytes_forward j x h)
  bytes_forward k x (Byte.first _ i j _ cell h) = Byte.first (set_part k) (set_part i) (set_part j) x (PartRow.join k i j cell) (bytes_forward i x h)
  bytes_forward k x (Byte.second _ i j _ cell h) = Byte.second (set_part k) (set_part i) (set_part j) x (PartRow.join k i j cell) (bytes_forward j x h)
  bytes_forward k x (Byte.prefix _ j [] _ cell h) = Contains-nil x h
  bytes_forward k x (Byte.prefix _ j (b ∷ w) _ cell h) = Byte.first (set_part k) (end_part (b ∷ w)) (set_part j) x (PartRow.before k b j w cell) (byte_at_end b w x h)
  bytes_forward k x (Byte.behind _ j [] _ cell h) = Byte.same (set_part k) (set_part j) x (PartRow.before_nothing k j cell) (bytes_forward j x h)
  bytes_forward k x (Byte.behind _ j (b ∷ w) _ cell h) = Byte.second (set_part k) (end_part (b ∷ w)) (set_part j) x (PartRow.before k b j w cell) (bytes_forward j x h)
  bytes_forward k x (Byte.asked _ w _ cell h g) = Byte.same (set_part k) (closed_part closed.request) x (PartRow.asked k cell) (closed_byte (number closed.request) (map OfByte w) ((is.asked w).0 h) w refl x g)
  bytes_forward k x (Byte.integer _ w _ cell h g) = Byte.same (set_part k) (closed_part closed.integer) x (PartRow.integer k cell) (closed_byte (number closed.integer) (map OfByte w) ((is.integers w).0 h) w refl x g)
  bytes_forward k x (Byte.where_yes _ j [] _ cell said h) = Contains-nil x h
  bytes_forward k x (Byte.where_yes _ j (b ∷ w) _ cell said h) = Byte.same (set_part k) (end_part (b ∷ w)) x (PartRow.where_yes k b j w cell ((says_is j).1 said)) (byte_at_end b w x h)
  bytes_forward k x (Byte.added _ j op _ cell h) = Byte.added (set_part k) (set_part j) op x (PartRow.apply k j op cell) h
  bytes_forward k x (Byte.turned _ j op b _ cell h turns) = Byte.turned (set_part k) (set_part j) op b x (PartRow.apply k j op cell) (bytes_forward j b h) turns

  circular_forward : (k j : N) (op : Op) → IsCircular cells k op j → IsCircular P (set_part k) op (set_part j)
  circular_forward k j op (IsCircular.cycle _ _ _ d) = IsCircular.cycle (set_part k) (set_part j) op (parts.depends_forward N cells starts says says_is closed request is j k d)
  circular_forward k j _ (IsCircular.any _ _) = IsCircular.any (set_part k) (set_part j)

  pub texts_forward : (k : N) (w : List ℕ) → C k w → Q (set_part k) w
  unfolding number symbol_part
  texts_forward k _ (In.text _ [] cell) = In.text (set_part k) [] (PartRow.nothing k cell)
  texts_forward k _ (In.text _ (b ∷ w) cell) = In.same (set_part k) (end_part (b ∷ w)) (b ∷ w) (PartRow.text k b w cell) (at_end b w)
  texts_forward k _ (In.same _ j w cell i) = In.same (set_part k) (set_part j) w (PartRow.same k j cell) (texts_forward j w i)
  texts_forward k _ (In.join _ a b u v cell i j) = In.join (set_part k) (set_part a) (set_part b) u v (PartRow.join k a b cell) (texts_forward a u i) (texts_forward b v j)
  texts_forward k _ (In.before _ j [] v cell i) = In.same (set_part k) (set_part j) v (PartRow.before_nothing k j cell) (texts_forward j v i)
  texts_forward k _ (In.before _ j (b ∷ w) v cell i) = In.join (set_part k) (end_part (b ∷ w)) (set_part j) (b ∷ w) v (PartRow.before k b j w cell) (at_end b w) (texts_forward j v i)
  texts_forward k _ (In.asked _ w cell h) = In.same (set_part k) (closed_part closed.request) w (PartRow.asked k cell) (closed_text (number closed.request) (map OfByte w) ((is.asked w).0 h) w refl)
  texts_forward k _ (In.integer _ w cell h) = In.same (set_part k) (closed_part closed.integer) w (PartRow.integer k cell) (closed_text (number closed.integer) (map OfByte w) ((is.integers w).0 h) w refl)
  texts_forward k _ (In.where_yes _ j [] cell said) = In.text (set_part k) [] (PartRow.where_nothing k j cell ((says_is j).1 said))
  texts_forward k _ (In.where_yes _ j (b ∷ w) cell said) = In.same (set_part k) (end_part (b ∷ w)) (b ∷ w) (PartRow.where_yes k b j w cell ((says_is j).1 said)) (at_end b w)
  texts_forward k _ (In.apply _ j op u w cell i out) = In.apply (set_part k) (set_part j) op u w (PartRow.apply k j op cell) (texts_forward j u i) out
  texts_forward k _ (In.over_bytes _ j op w cell circles all) =
      In.over_bytes (set_part k) (set_part j) op w (PartRow.apply k j op cell) (circular_forward k j op circles)
      (more (Byte cells request k) (Byte P others (set_part k)) w (bytes_forward k) all)

  pub starts_forward : (k : N) (w : List ℕ) → starts k → C k w → Q start_part w
  starts_forward k w h i = In.same start_part (set_part k) w (PartRow.start k h) (texts_forward k w i)
