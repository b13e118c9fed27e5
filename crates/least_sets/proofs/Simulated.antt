-- Sets of a table that does what another does.
use Rattle.std.proofs.Common.{inl, inr, ℕ, List, [], ◌∷◌, ◌++◌, refl, subst}
use Rattle.std.specs.Prelude.{Contains}
use Rattle.string_functions.proofs.Members.{Contains-nil, Contains-cons_cases, Contains-head, Contains-later}
use Rattle.op_system.specs.declared.op.Op.{Op}
use Rattle.least_sets.specs.Forms.{Form, text_form, same_form, join_form, before_form, request_form, integer_form, apply_form, yes_form, where_form, names}
use Rattle.least_sets.specs.Sets.{Says, DependsOn, Byte, In, IsCircular}
use Rattle.least_sets.specs.Simulations.{TakesOver, Holds, Alike, is_same, HasRow, Simulates, IsMonotone}

module _ (N M : Type 0) (R : N → Form N → Type 0) (S : M → Form M → Type 0) (E : N → M → Type 0) (sim : Simulates R S E) where
  taken : (a b c : M) → TakesOver S a b → TakesOver S b c → TakesOver S a c
  taken a b c (TakesOver.itself d) u = u
  taken a b c (TakesOver.through d e f row t) u = TakesOver.through d e c row (taken e f c t u)

  -- what a set takes over, it says, depends on, has
  said_over : (a b : M) → TakesOver S a b → Says S b → Says S a
  said_over a b (TakesOver.itself d) s = s
  said_over a b (TakesOver.through d e f row t) s = Says.same d e row (said_over e f t s)

  depends_over : (a b c : M) → TakesOver S a b → DependsOn S b c → DependsOn S a c
  unfolding names
  depends_over a b c (TakesOver.itself d) u = u
  depends_over a b c (TakesOver.through d e f row t) u = DependsOn.over d e c (same_form e) row (Contains-head e []) (depends_over e f c t u)

  bytes_over : (request : List ℕ → Type 0) (a b : M) → TakesOver S a b → (x : ℕ) → Byte S request b x → Byte S request a x
  bytes_over request a b (TakesOver.itself d) x h = h
  bytes_over request a b (TakesOver.through d e f row t) x h = Byte.same d e x row (bytes_over request e f t x h)

  -- a set that holds one which a set takes over holds what it takes over
  onward : (a c : N) (b : M) → Holds S E a b → R a (same_form c) → Holds S E c b
  onward a c b h row =
      let next = sim.same a c h.within h.stands row in
      record { within = next.within; takes = taken b h.within next.within h.takes next.takes; stands = next.stands }

  -- what stands for a row of each form
  at_text : (a : N) (w : List ℕ) (b : M) → E a b → R a (text_form w) → S b (text_form w)
  unfolding is_same
  at_text a w b e row = by (sim.other a (text_form w) b e row refl)
    where
      over : (g : Form M) → S b g → Alike (Holds S E) (text_form w) g → S b (text_form w)
      over _ r (Alike.text _) = r

      by : HasRow S E (text_form w) b → S b (text_form w)
      by r = over r.form r.row r.alike

  at_join : (a c d : N) (b : M) → E a b → R a (join_form c d) → (k : M) × (l : M) × S b (join_form k l) × Holds S E c k × Holds S E d l
  unfolding is_same
  at_join a c d b e row = by (sim.other a (join_form c d) b e row refl)
    where
      over : (g : Form M) → S b g → Alike (Holds S E) (join_form c d) g → (k : M) × (l : M) × S b (join_form k l) × Holds S E c k × Holds S E d l
      over _ r (Alike.join _ _ k l first second) = (k, l, r, first, second)

      by : HasRow S E (join_form c d) b → (k : M) × (l : M) × S b (join_form k l) × Holds S E c k × Holds S E d l
      by r = over r.form r.row r.alike

  at_before : (a c : N) (w : List ℕ) (b : M) → E a b → R a (before_form w c) → (k : M) × S b (before_form w k) × Holds S E c k
  unfolding is_same
  at_before a c w b e row = by (sim.other a (before_form w c) b e row refl)
    where
      over : (g : Form M) → S b g → Alike (Holds S E) (before_form w c) g → (k : M) × S b (before_form w k) × Holds S E c k
      over _ r (Alike.before _ _ k held) = (k, r, held)

      by : HasRow S E (before_form w c) b → (k : M) × S b (before_form w k) × Holds S E c k
      by r = over r.form r.row r.alike

  at_request : (a : N) (b : M) → E a b → R a request_form → S b request_form
  unfolding is_same
  at_request a b e row = by (sim.other a request_form b e row refl)
    where
      over : (g : Form M) → S b g → Alike (Holds S E) request_form g → S b request_form
      over _ r Alike.asked = r

      by : HasRow S E request_form b → S b request_form
      by r = over r.form r.row r.alike

  at_integer : (a : N) (b : M) → E a b → R a integer_form → S b integer_form
  unfolding is_same
  at_integer a b e row = by (sim.other a integer_form b e row refl)
    where
      over : (g : Form M) → S b g → Alike (Holds S E) integer_form g → S b integer_form
      over _ r Alike.integer = r

      by : HasRow S E integer_form b → S b integer_form
      by r = over r.form r.row r.alike

  at_apply : (a c : N) (o : Op) (b : M) → E a b → R a (apply_form o c) → (k : M) × S b (apply_form o k) × Holds S E c k
  unfolding is_same
  at_apply a c o b e row = by (sim.other a (apply_form o c) b e row refl)
    where
      over : (g : Form M) → S b g → Alike (Holds S E) (apply_form o c) g → (k : M) × S b (apply_form o k) × Holds S E c k
      over _ r (Alike.apply _ _ k held) = (k, r, held)

      by : HasRow S E (apply_form o c) b → (k : M) × S b (apply_form o k) × Holds S E c k
      by r = over r.form r.row r.alike

  at_yes : (a : N) (b : M) → E a b → R a yes_form → S b yes_form
  unfolding is_same
  at_yes a b e row = by (sim.other a yes_form b e row refl)
    where
      over : (g : Form M) → S b g → Alike (Holds S E) yes_form g → S b yes_form
      over _ r Alike.yes = r

      by : HasRow S E yes_form b → S b yes_form
      by r = over r.form r.row r.alike

  at_where : (a c : N) (w : List ℕ) (b : M) → E a b → R a (where_form w c) → (k : M) × S b (where_form w k) × Holds S E c k
  unfolding is_same
  at_where a c w b e row = by (sim.other a (where_form w c) b e row refl)
    where
      over : (g : Form M) → S b g → Alike (Holds S E) (where_form w c) g → (k : M) × S b (where_form w k) × Holds S E c k
      over _ r (Alike.where_yes _ _ k held) = (k, r, held)

      by : HasRow S E (where_form w c) b → (k : M) × S b (where_form w k) × Holds S E c k
      by r = over r.form r.row r.alike

  pub says : (a : N) (b : M) → Holds S E a b → Says R a → Says S b
  says a b h (Says.yes _ row) = said_over b h.within h.takes (Says.yes h.within (at_yes a h.within h.stands row))
  says a b h (Says.same _ c row s) = says c b (onward a c b h row) s

  abbrev pub Leads : N → M → Type 0
  Leads c b = (d : M) × E c d × DependsOn S b d

  -- by a row that names a set
  by_name : (c : N) (b k : M) (g : Form M) → (h : M) → TakesOver S b h → S h g → Contains (names g) k → Leads c k → Leads c b
  by_name c b k g h t row there more = (more.0, more.1, depends_over b h more.0 t (DependsOn.over h k more.0 g row there more.2))

  -- the set named alone
  alone : (x e : N) (k : M) → Holds S E x k → Contains (x ∷ []) e → Holds S E e k
  alone x e k held has =
      elim (Contains-cons_cases x [] e has) [
        | inl i ↦ subst (λ z. Holds S E z k) i held
        | inr none ↦ Contains-nil e none
      ]

  -- one of two sets named
  of_two : (x y e : N) (k l : M) → Holds S E x k → Holds S E y l → Contains (x ∷ y ∷ []) e → (m : M) × Contains (k ∷ l ∷ []) m × Holds S E e m
  of_two x y e k l first second has =
      elim (Contains-cons_cases x (y ∷ []) e has) [
        | inl i ↦ (k, Contains-head k (l ∷ []), subst (λ z. Holds S E z k) i first)
        | inr later ↦ (l, Contains-later k (l ∷ []) l (Contains-head l []), alone y e l second later)
      ]

  pub depends : (a c : N) → DependsOn R a c → (b : M) → Holds S E a b → Leads c b
  unfolding names
  depends a c (DependsOn.itself _) b h = (h.within, h.stands, depends_over b h.within h.within h.takes (DependsOn.itself h.within))
  depends a c (DependsOn.over _ e _ (text_form w) row has more) b h = Contains-nil e has
  depends a c (DependsOn.over _ e _ (same_form x) row has more) b h = depends e c more b (alone x e b (onward a x b h row) has)
  depends a c (DependsOn.over _ e _ (join_form x y) row has more) b h =
      let r = at_join a x y h.within h.stands row in
      let m = of_two x y e r.0 r.1 r.3 r.4 has in
      by_name c b m.0 (join_form r.0 r.1) h.within h.takes r.2 m.1 (depends e c more m.0 m.2)
  depends a c (DependsOn.over _ e _ (before_form w x) row has more) b h =
      let r = at_before a x w h.within h.stands row in
      by_name c b r.0 (before_form w r.0) h.within h.takes r.1 (Contains-head r.0 []) (depends e c more r.0 (alone x e r.0 r.2 has))
  depends a c (DependsOn.over _ e _ request_form row has more) b h = Contains-nil e has
  depends a c (DependsOn.over _ e _ integer_form row has more) b h = Contains-nil e has
  depends a c (DependsOn.over _ e _ (apply_form o x) row has more) b h =
      let r = at_apply a x o h.within h.stands row in
      by_name c b r.0 (apply_form o r.0) h.within h.takes r.1 (Contains-head r.0 []) (depends e c more r.0 (alone x e r.0 r.2 has))
  depends a c (DependsOn.over _ e _ yes_form row has more) b h = Contains-nil e has
  depends a c (DependsOn.over _ e _ (where_form w x) row has more) b h = Contains-nil e has

  pub bytes : (request : List ℕ → Type 0) (a : N) (b : M) → Holds S E a b → (x : ℕ) → Byte R request a x → Byte S request b x
  bytes request a b h x (Byte.text _ w _ row has) = bytes_over request b h.within h.takes x (Byte.text h.within w x (at_text a w h.within h.stands row) has)
  bytes request a b h x (Byte.same _ c _ row more) = bytes request c b (onward a c b h row) x more
  bytes request a b h x (Byte.first _ c d _ row more) =
      let r = at_join a c d h.within h.stands row in
      bytes_over request b h.within h.takes x (Byte.first h.within r.0 r.1 x r.2 (bytes request c r.0 r.3 x more))
  bytes request a b h x (Byte.second _ c d _ row more) =
      let r = at_join a c d h.within h.stands row in
      bytes_over request b h.within h.takes x (Byte.second h.within r.0 r.1 x r.2 (bytes request d r.1 r.4 x more))
  bytes request a b h x (Byte.prefix _ c w _ row has) =
      let r = at_before a c w h.within h.stands row in
      bytes_over request b h.within h.takes x (Byte.prefix h.within r.0 w x r.1 has)
  bytes request a b h x (Byte.behind _ c w _ row more) =
      let r = at_before a c w h.within h.stands row in
      bytes_over request b h.within h.takes x (Byte.behind h.within r.0 w x r.1 (bytes request c r.0 r.2 x more))
  bytes request a b h x (Byte.asked _ w _ row is has) = bytes_over request b h.within h.takes x (Byte.asked h.within w x (at_request a h.within h.stands row) is has)
  bytes request a b h x (Byte.integer _ w _ row is has) = bytes_over request b h.within h.takes x (Byte.integer h.within w x (at_integer a h.within h.stands row) is has)
  bytes request a b h x (Byte.where_yes _ c w _ row said has) =
      let r = at_where a c w h.within h.stands row in
      bytes_over request b h.within h.takes x (Byte.where_yes h.within r.0 w x r.1 (says c r.0 r.2 said) has)
  bytes request a b h x (Byte.added _ c o _ row adds) =
      let r = at_apply a c o h.within h.stands row in
      bytes_over request b h.within h.takes x (Byte.added h.within r.0 o x r.1 adds)
  bytes request a b h x (Byte.turned _ c o y _ row more turns) =
      let r = at_apply a c o h.within h.stands row in
      bytes_over request b h.within h.takes x (Byte.turned h.within r.0 o y x r.1 (bytes request c r.0 r.2 y more) turns)

  pub circular : (a c : N) (o : Op) (b d : M) → R a (apply_form o c) → E a b → Holds S E c d → IsCircular R a o c → IsCircular S b o d
  circular a c o b d row stands held (IsCircular.cycle _ _ _ depend) =
      let back = depends c a depend d held in
      IsCircular.cycle b d o (subst (λ z. DependsOn S d z) (sim.one a c o back.0 b row back.1 stands) back.2)
  circular a c _ b d row stands held (IsCircular.any _ _) = IsCircular.any b d

  module _ (outputs : Op → List ℕ → List ℕ → Type 0) (request : List ℕ → Type 0) (circle : (ℕ → Type 0) → List ℕ → Type 0) (more : IsMonotone circle) where
    texts_over : (a b : M) → TakesOver S a b → (w : List ℕ) → In S outputs request circle b w → In S outputs request circle a w
    texts_over a b (TakesOver.itself d) w h = h
    texts_over a b (TakesOver.through d e f row t) w h = In.same d e w row (texts_over e f t w h)

    pub texts : (a : N) (b : M) → Holds S E a b → (w : List ℕ) → In R outputs request circle a w → In S outputs request circle b w
    texts a b h _ (In.text _ w row) = texts_over b h.within h.takes w (In.text h.within w (at_text a w h.within h.stands row))
    texts a b h _ (In.same _ c w row i) = texts c b (onward a c b h row) w i
    texts a b h _ (In.join _ c d u v row i j) =
        let r = at_join a c d h.within h.stands row in
        texts_over b h.within h.takes (u ++ v) (In.join h.within r.0 r.1 u v r.2 (texts c r.0 r.3 u i) (texts d r.1 r.4 v j))
    texts a b h _ (In.before _ c u v row i) =
        let r = at_before a c u h.within h.stands row in
        texts_over b h.within h.takes (u ++ v) (In.before h.within r.0 u v r.1 (texts c r.0 r.2 v i))
    texts a b h _ (In.asked _ w row is) = texts_over b h.within h.takes w (In.asked h.within w (at_request a h.within h.stands row) is)
    texts a b h _ (In.integer _ w row is) = texts_over b h.within h.takes w (In.integer h.within w (at_integer a h.within h.stands row) is)
    texts a b h _ (In.where_yes _ c w row said) =
        let r = at_where a c w h.within h.stands row in
        texts_over b h.within h.takes w (In.where_yes h.within r.0 w r.1 (says c r.0 r.2 said))
    texts a b h _ (In.apply _ c o u w row i out) =
        let r = at_apply a c o h.within h.stands row in
        texts_over b h.within h.takes w (In.apply h.within r.0 o u w r.1 (texts c r.0 r.2 u i) out)
    texts a b h _ (In.over_bytes _ c o w row is all) =
        let r = at_apply a c o h.within h.stands row in
        let here : Holds S E a h.within = record { within = h.within; takes = TakesOver.itself h.within; stands = h.stands } in
        texts_over b h.within h.takes w (In.over_bytes h.within r.0 o w r.1 (circular a c o h.within r.0 row h.stands r.2 is) (more (Byte R request a) (Byte S request h.within) w (bytes request a h.within here) all))
