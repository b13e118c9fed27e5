-- The bytes of parts are those of the table, and parts lead to one another as its rows do.
use Rattle.std.proofs.Common.{◌≡◌, ◌⊎◌, inl, inr, ◌↔◌, ℕ, List, [], ◌∷◌, ◌++◌, map, refl, sym, subst, arith}
use Rattle.std.specs.Prelude.{Contains}
use Rattle.std.proofs.lemmas.List.{map-append}
use Rattle.std.proofs.lemmas.List.Elements.{Contains-append_left, Contains-append_right}
use Rattle.string_functions.proofs.Members.{Contains-nil, Contains-cons_cases, Contains-head, Contains-later}
use Rattle.text_base.specs.declared.byte_range.ByteRange.{ByteRange}
use Rattle.text_base.specs.declared.page_token.PageToken.{PageToken}
use Rattle.text_base.specs.declared.numbers.Nt as nt
use Rattle.text_base.specs.declared.letter.Letter.{Letter}
use Rattle.text_base.specs.declared.letter.Letter.TheVariants.{OfByte}
use Rattle.text_base.specs.ByteRange.{InRange}
use Rattle.cfg_grammar.specs.declared.symbol.Symbol.{Symbol}
use Rattle.cfg_grammar.specs.declared.symbol.Symbol.TheVariants.{Range, Token, Nt}
use Rattle.cfg_grammar.specs.declared.production.Right.TheVariants.{One, Two}
use Rattle.cfg_grammar.specs.declared.production.Production.{Production}
use Rattle.cfg_grammar.specs.Derives.{Derives}
use Rattle.op_system.specs.declared.op.Op.{Op}
use Rattle.least_sets.specs.Forms.{Form, text_form, same_form, join_form, before_form, request_form, integer_form, apply_form, yes_form, where_form, names}
use Rattle.least_sets.specs.Bytes.{Adds, Turns}
use Rattle.least_sets.specs.Sets.{Says, DependsOn, Byte}
use Rattle.system_writing.specs.Parts.{Part, start_part, set_part, end_part, range_part, closed_part, token_part, symbol_part, PartRow}
use Rattle.given_texts.specs.Closed.{Closed, HasText, IsClosed}

module _ (N : Type 0) (cells : N → Form N → Type 0) (starts says : N → Type 0) (says_is : (j : N) → says j ↔ Says cells j) (closed : Closed) (request : List ℕ → Type 0) (is : IsClosed closed request) where
  abbrev pub P : Part N → Form (Part N) → Type 0
  P = PartRow cells starts says closed

  abbrev pub G : List Production
  G = closed.productions

  abbrev pub number : ℕ → Symbol
  number n = Nt (record { 0 = n })

  pub byte_range : ℕ → ByteRange
  byte_range b = record { lo = b; hi = b; ordered = omega arith }

  -- the bytes of what a part stands for
  abbrev pub MeansByte : Part N → ℕ → Type 0
  MeansByte start_part b = (k : N) × starts k × Byte cells request k b
  MeansByte (set_part k) b = Byte cells request k b
  MeansByte (end_part u) b = Contains u b
  MeansByte (range_part r) b = InRange r b
  MeansByte (closed_part n) b = (w : List ℕ) × HasText G (number n) w × Contains w b
  MeansByte token_part b = ⊥

  -- the bytes and the texts of a symbol of the closed grammar
  abbrev pub SymbolByte : Symbol → ℕ → Type 0
  SymbolByte s b = (w : List ℕ) × HasText G s w × Contains w b

  pub one_text : (w : List ℕ) (r : ByteRange) → HasText G (Range r) w → (b : ℕ) × InRange r b × (w ≡ b ∷ [])
  one_text w r h = by (Range r) (map OfByte w) h w refl refl
    where
      by : (s : Symbol) (v : List Letter) → Derives G s v → (w : List ℕ) → s ≡ Range r → v ≡ map OfByte w → (b : ℕ) × InRange r b × (w ≡ b ∷ [])
      by _ _ (Derives.by_range q b within) [] e g = cc
      by _ _ (Derives.by_range q b within) (c ∷ []) e g =
          let same_range : q ≡ r = cc in
          let same_byte : b ≡ c = cc in
          (c, subst (λ z. InRange z c) same_range (subst (λ z. InRange q z) same_byte within), refl)
      by _ _ (Derives.by_range q b within) (c ∷ d ∷ w) e g = cc
      by _ _ (Derives.by_token k) w e g = cc
      by _ _ (Derives.by_empty left has) w e g = cc
      by _ _ (Derives.by_one left a v has h) w e g = cc
      by _ _ (Derives.by_two left a b u v has h k) w e g = cc

  pub no_token : (k : PageToken) (w : List ℕ) → HasText G (Token k) w → ⊥
  no_token k w h = by (Token k) (map OfByte w) h w refl refl
    where
      by : (s : Symbol) (v : List Letter) → Derives G s v → (w : List ℕ) → s ≡ Token k → v ≡ map OfByte w → ⊥
      by _ _ (Derives.by_range q b within) w e g = cc
      by _ _ (Derives.by_token l) [] e g = cc
      by _ _ (Derives.by_token l) (c ∷ w) e g = cc
      by _ _ (Derives.by_empty left has) w e g = cc
      by _ _ (Derives.by_one left a v has h) w e g = cc
      by _ _ (Derives.by_two left a b u v has h k) w e g = cc

  pub of_symbol : (s : Symbol) (b : ℕ) → MeansByte (symbol_part s) b → SymbolByte s b
  unfolding symbol_part
  of_symbol (Range r) b h = (b ∷ [], Derives.by_range r b h, Contains-head b [])
  of_symbol (Token k) b h = absurd h
  of_symbol (Nt a) b h = h

  live_one : (n : nt.Nt) (s : Symbol) → Contains G (record { left = n; right = One s }) → (w : List ℕ) × HasText G s w
  live_one n s has = is.live n (One s) has s (Contains-head s [])

  live_first : (n : nt.Nt) (s t : Symbol) → Contains G (record { left = n; right = Two s t }) → (w : List ℕ) × HasText G s w
  live_first n s t has = is.live n (Two s t) has s (Contains-head s (t ∷ []))

  live_second : (n : nt.Nt) (s t : Symbol) → Contains G (record { left = n; right = Two s t }) → (w : List ℕ) × HasText G t w
  live_second n s t has = is.live n (Two s t) has t (Contains-later s (t ∷ []) t (Contains-head t []))

  pub both : (n : nt.Nt) (s t : Symbol) (u v : List ℕ) → Contains G (record { left = n; right = Two s t }) → HasText G s u → HasText G t v → HasText G (Nt n) (u ++ v)
  both n s t u v has h k = subst (λ z. Derives G (Nt n) z) (sym (map-append OfByte u v)) (Derives.by_two n s t (map OfByte u) (map OfByte v) has h k)

  -- bytes of rows
  byte_text : (p : Part N) (w : List ℕ) (b : ℕ) → P p (text_form w) → Contains w b → MeansByte p b
  byte_text _ _ b (PartRow.nothing k c) h = Contains-nil b h
  byte_text _ _ b (PartRow.where_nothing k j c s) h = Contains-nil b h
  byte_text _ _ b (PartRow.last c) h = h
  byte_text _ _ b (PartRow.range r c within) h =
      elim (Contains-cons_cases c [] b h) [
        | inl e ↦ subst (λ z. InRange r z) e within
        | inr none ↦ Contains-nil b none
      ]
  byte_text _ _ b (PartRow.closed_empty left has) h = Contains-nil b h

  byte_same : (p q : Part N) (b : ℕ) → P p (same_form q) → MeansByte q b → MeansByte p b
  byte_same _ _ b (PartRow.start k c) h = (k, c, h)
  byte_same _ _ b (PartRow.text k c w cell) h = Byte.text k (c ∷ w) b cell h
  byte_same _ _ b (PartRow.same k j cell) h = Byte.same k j b cell h
  byte_same _ _ b (PartRow.before_nothing k j cell) h = Byte.behind k j [] b cell h
  byte_same _ _ b (PartRow.asked k cell) h = Byte.asked k h.0 b cell ((is.asked h.0).1 h.1) h.2
  byte_same _ _ b (PartRow.integer k cell) h = Byte.integer k h.0 b cell ((is.integers h.0).1 h.1) h.2
  byte_same _ _ b (PartRow.where_yes k c j w cell said) h = Byte.where_yes k j (c ∷ w) b cell ((says_is j).0 said) h
  byte_same _ _ b (PartRow.closed_one left a has) h = let k = of_symbol a b h in (k.0, Derives.by_one left a (map OfByte k.0) has k.1, k.2)

  byte_first : (p q r : Part N) (b : ℕ) → P p (join_form q r) → MeansByte q b → MeansByte p b
  byte_first _ _ _ b (PartRow.join k i j cell) h = Byte.first k i j b cell h
  byte_first _ _ _ b (PartRow.before k c j w cell) h = Byte.prefix k j (c ∷ w) b cell h
  byte_first _ _ _ b (PartRow.first c d w) h =
      elim (Contains-cons_cases c [] b h) [
        | inl e ↦ subst (λ z. Contains (c ∷ d ∷ w) z) e (Contains-head c (d ∷ w))
        | inr none ↦ Contains-nil b none
      ]
  byte_first _ _ _ b (PartRow.closed_two left s t has) h =
      let k = of_symbol s b h in
      let l = live_second left s t has in
      (k.0 ++ l.0, both left s t k.0 l.0 has k.1 l.1, Contains-append_left k.0 l.0 b k.2)

  byte_second : (p q r : Part N) (b : ℕ) → P p (join_form q r) → MeansByte r b → MeansByte p b
  byte_second _ _ _ b (PartRow.join k i j cell) h = Byte.second k i j b cell h
  byte_second _ _ _ b (PartRow.before k c j w cell) h = Byte.behind k j (c ∷ w) b cell h
  byte_second _ _ _ b (PartRow.first c d w) h = Contains-later c (d ∷ w) b h
  byte_second _ _ _ b (PartRow.closed_two left s t has) h =
      let k = of_symbol t b h in
      let l = live_first left s t has in
      (l.0 ++ k.0, both left s t l.0 k.0 has l.1 k.1, Contains-append_right l.0 k.0 b k.2)

  byte_added : (p q : Part N) (op : Op) (b : ℕ) → P p (apply_form op q) → Adds op b → MeansByte p b
  byte_added _ _ op b (PartRow.apply k j _ cell) h = Byte.added k j op b cell h

  byte_turned : (p q : Part N) (op : Op) (b c : ℕ) → P p (apply_form op q) → MeansByte q b → Turns op b c → MeansByte p c
  byte_turned _ _ op b c (PartRow.apply k j _ cell) h turns = Byte.turned k j op b c cell h turns

  pub bytes_mean : (others : List ℕ → Type 0) (p : Part N) (b : ℕ) → Byte P others p b → MeansByte p b
  bytes_mean others p b (Byte.text _ w _ row h) = byte_text p w b row h
  bytes_mean others p b (Byte.same _ q _ row h) = byte_same p q b row (bytes_mean others q b h)
  bytes_mean others p b (Byte.first _ q r _ row h) = byte_first p q r b row (bytes_mean others q b h)
  bytes_mean others p b (Byte.second _ q r _ row h) = byte_second p q r b row (bytes_mean others r b h)
  bytes_mean others p b (Byte.prefix _ q w _ row h) = elim row [ ]
  bytes_mean others p b (Byte.behind _ q w _ row h) = elim row [ ]
  bytes_mean others p b (Byte.asked _ w _ row h k) = elim row [ ]
  bytes_mean others p b (Byte.integer _ w _ row h k) = elim row [ ]
  bytes_mean others p b (Byte.where_yes _ q w _ row h k) = elim row [ ]
  bytes_mean others p b (Byte.added _ q op _ row h) = byte_added p q op b row h
  bytes_mean others p b (Byte.turned _ q op c _ row h turns) = byte_turned p q op c b row (bytes_mean others q c h) turns

  set_contains : (j b : N) (js : List N) (ps : List (Part N)) → Contains (j ∷ js) b → (Contains js b → Contains ps (set_part b)) → Contains (set_part j ∷ ps) (set_part b)
  set_contains j b js ps h later =
      elim (Contains-cons_cases j js b h) [
        | inl e ↦ subst (λ z. Contains (set_part j ∷ ps) (set_part z)) e (Contains-head (set_part j) ps)
        | inr there ↦ Contains-later (set_part j) ps (set_part b) (later there)
      ]

  -- cells that lead to one another lead so as parts, and the other way
  forward_names : (a b : N) (f : Form N) → cells a f → Contains (names f) b → (q : Form (Part N)) × P (set_part a) q × Contains (names q) (set_part b)
  unfolding names
  forward_names a b (text_form w) cell h = Contains-nil b h
  forward_names a b (same_form j) cell h = (same_form (set_part j), PartRow.same a j cell, set_contains j b [] [] h (λ n. Contains-nil b n))
  forward_names a b (join_form i j) cell h = (join_form (set_part i) (set_part j), PartRow.join a i j cell, set_contains i b (j ∷ []) (set_part j ∷ []) h (λ n. set_contains j b [] [] n (λ m. Contains-nil b m)))
  forward_names a b (before_form [] j) cell h = (same_form (set_part j), PartRow.before_nothing a j cell, set_contains j b [] [] h (λ n. Contains-nil b n))
  forward_names a b (before_form (c ∷ w) j) cell h =
      (join_form (end_part (c ∷ w)) (set_part j), PartRow.before a c j w cell, Contains-later (end_part (c ∷ w)) (set_part j ∷ []) (set_part b) (set_contains j b [] [] h (λ n. Contains-nil b n)))
  forward_names a b request_form cell h = Contains-nil b h
  forward_names a b integer_form cell h = Contains-nil b h
  forward_names a b (apply_form op j) cell h = (apply_form op (set_part j), PartRow.apply a j op cell, set_contains j b [] [] h (λ n. Contains-nil b n))
  forward_names a b yes_form cell h = Contains-nil b h
  forward_names a b (where_form w j) cell h = Contains-nil b h

  pub depends_forward : (a c : N) → DependsOn cells a c → DependsOn P (set_part a) (set_part c)
  depends_forward a c (DependsOn.itself _) = DependsOn.itself (set_part a)
  depends_forward a c (DependsOn.over _ b _ f cell h more) =
      let r = forward_names a b f cell h in
      DependsOn.over (set_part a) (set_part b) (set_part c) r.0 r.1 r.2 (depends_forward b c more)

  -- a part that is no set leads to no set
  data IsInner : Part N → Type 0 where
    an_end : (w : List ℕ) → IsInner (end_part w)
    a_range : (r : ByteRange) → IsInner (range_part r)
    a_closed : (n : ℕ) → IsInner (closed_part n)
    a_token : IsInner token_part

  of_symbols : (s : Symbol) → IsInner (symbol_part s)
  unfolding symbol_part
  of_symbols (Range r) = IsInner.a_range r
  of_symbols (Token k) = IsInner.a_token
  of_symbols (Nt a) = IsInner.a_closed a.0

  inner_one : (p q : Part N) → IsInner p → Contains (p ∷ []) q → IsInner q
  inner_one p q i h =
      elim (Contains-cons_cases p [] q h) [
        | inl e ↦ subst IsInner e i
        | inr none ↦ Contains-nil q none
      ]

  inner_two : (p o q : Part N) → IsInner p → IsInner o → Contains (p ∷ o ∷ []) q → IsInner q
  inner_two p o q i j h =
      elim (Contains-cons_cases p (o ∷ []) q h) [
        | inl e ↦ subst IsInner e i
        | inr there ↦ inner_one o q j there
      ]

  inner_row : (p q : Part N) (f : Form (Part N)) → IsInner p → P p f → Contains (names f) q → IsInner q
  unfolding names
  inner_row _ q _ i (PartRow.start k c) h = elim i [ ]
  inner_row _ q _ i (PartRow.nothing k c) h = Contains-nil q h
  inner_row _ q _ i (PartRow.text k b w c) h = inner_one (end_part (b ∷ w)) q (IsInner.an_end (b ∷ w)) h
  inner_row _ q _ i (PartRow.same k j c) h = elim i [ ]
  inner_row _ q _ i (PartRow.join k a j c) h = elim i [ ]
  inner_row _ q _ i (PartRow.before_nothing k j c) h = elim i [ ]
  inner_row _ q _ i (PartRow.before k b j w c) h = elim i [ ]
  inner_row _ q _ i (PartRow.asked k c) h = elim i [ ]
  inner_row _ q _ i (PartRow.integer k c) h = elim i [ ]
  inner_row _ q _ i (PartRow.apply k j op c) h = elim i [ ]
  inner_row _ q _ i (PartRow.where_nothing k j c s) h = Contains-nil q h
  inner_row _ q _ i (PartRow.where_yes k b j w c s) h = inner_one (end_part (b ∷ w)) q (IsInner.an_end (b ∷ w)) h
  inner_row _ q _ i (PartRow.last b) h = Contains-nil q h
  inner_row _ q _ i (PartRow.first b c w) h = inner_two (end_part (b ∷ [])) (end_part (c ∷ w)) q (IsInner.an_end (b ∷ [])) (IsInner.an_end (c ∷ w)) h
  inner_row _ q _ i (PartRow.range r b within) h = Contains-nil q h
  inner_row _ q _ i (PartRow.closed_empty left has) h = Contains-nil q h
  inner_row _ q _ i (PartRow.closed_one left a has) h = inner_one (symbol_part a) q (of_symbols a) h
  inner_row _ q _ i (PartRow.closed_two left a b has) h = inner_two (symbol_part a) (symbol_part b) q (of_symbols a) (of_symbols b) h

  inner_stays : (p q : Part N) → DependsOn P p q → IsInner p → IsInner q
  inner_stays p q (DependsOn.itself _) i = i
  inner_stays p q (DependsOn.over _ o _ f row h more) i = inner_stays o q more (inner_row p o f i row h)

  no_set : (k : N) → IsInner (set_part k) → ⊥
  no_set k i = elim i [ ]

  -- a part that a row of a set names is a set that a cell names, or leads to no set
  set_row : (k : N) (q : Part N) (f : Form (Part N)) → P (set_part k) f → Contains (names f) q → IsInner q ⊎ ((j : N) × (g : Form N) × (q ≡ set_part j) × cells k g × Contains (names g) j)
  unfolding names
  set_row k q _ (PartRow.nothing _ c) h = Contains-nil q h
  set_row k q _ (PartRow.text _ b w c) h = inl (inner_one (end_part (b ∷ w)) q (IsInner.an_end (b ∷ w)) h)
  set_row k q _ (PartRow.same _ j c) h =
      elim (Contains-cons_cases (set_part j) [] q h) [
        | inl e ↦ inr (j, same_form j, sym e, c, Contains-head j [])
        | inr none ↦ Contains-nil q none
      ]
  set_row k q _ (PartRow.join _ i j c) h =
      elim (Contains-cons_cases (set_part i) (set_part j ∷ []) q h) [
        | inl e ↦ inr (i, join_form i j, sym e, c, Contains-head i (j ∷ []))
        | inr there ↦ elim (Contains-cons_cases (set_part j) [] q there) [
          | inl e ↦ inr (j, join_form i j, sym e, c, Contains-later i (j ∷ []) j (Contains-head j []))
          | inr none ↦ Contains-nil q none
        ]
      ]
  set_row k q _ (PartRow.before_nothing _ j c) h =
      elim (Contains-cons_cases (set_part j) [] q h) [
        | inl e ↦ inr (j, before_form [] j, sym e, c, Contains-head j [])
        | inr none ↦ Contains-nil q none
      ]
  set_row k q _ (PartRow.before _ b j w c) h =
      elim (Contains-cons_cases (end_part (b ∷ w)) (set_part j ∷ []) q h) [
        | inl e ↦ inl (subst IsInner e (IsInner.an_end (b ∷ w)))
        | inr there ↦ elim (Contains-cons_cases (set_part j) [] q there) [
          | inl e ↦ inr (j, before_form (b ∷ w) j, sym e, c, Contains-head j [])
          | inr none ↦ Contains-nil q none
        ]
      ]
  set_row k q _ (PartRow.asked _ c) h = inl (inner_one (closed_part closed.request) q (IsInner.a_closed closed.request) h)
  set_row k q _ (PartRow.integer _ c) h = inl (inner_one (closed_part closed.integer) q (IsInner.a_closed closed.integer) h)
  set_row k q _ (PartRow.apply _ j op c) h =
      elim (Contains-cons_cases (set_part j) [] q h) [
        | inl e ↦ inr (j, apply_form op j, sym e, c, Contains-head j [])
        | inr none ↦ Contains-nil q none
      ]
  set_row k q _ (PartRow.where_nothing _ j c s) h = Contains-nil q h
  set_row k q _ (PartRow.where_yes _ b j w c s) h = inl (inner_one (end_part (b ∷ w)) q (IsInner.an_end (b ∷ w)) h)

  depends_parts : (p q : Part N) → DependsOn P p q → (a c : N) → p ≡ set_part a → q ≡ set_part c → DependsOn cells a c
  depends_parts p q (DependsOn.itself _) a c e g =
      let i : a ≡ c = cc in
      subst (λ z. DependsOn cells a z) i (DependsOn.itself a)
  depends_parts p q (DependsOn.over _ o _ f row h more) a c e g =
      elim (set_row a o f (subst (λ z. P z f) e row) h) [
        | inl inner ↦ absurd (no_set c (subst IsInner g (inner_stays o q more inner)))
        | inr on ↦ DependsOn.over a on.0 c on.1 on.3 on.4 (depends_parts o q more on.0 c on.2 g)
      ]

  pub depends_back : (a c : N) → DependsOn P (set_part a) (set_part c) → DependsOn cells a c
  depends_back a c h = depends_parts (set_part a) (set_part c) h a c refl refl
