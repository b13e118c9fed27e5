-- Digits that write a number between two others.
use Rattle.std.proofs.Common.{◌≡◌, ◌⊎◌, inl, inr, ℕ, ◌+◌, ◌*◌, ◌<◌, ◌≤◌, Bool, true, false, List, [], ◌∷◌, ◌++◌, refl, sym, ◌∙◌, ap, subst, arith}
use Rattle.std.specs.Prelude.{nat_eq, nat_lt, ◌==◌, ◌&&◌, if◌then◌else◌}
use Rattle.std.specs.Char.{digit_value}
use Rattle.std.specs.List.{list_all}
use Rattle.std.proofs.lemmas.Bool.{and_parts, and_from, eqb-true, eq-eqb, ltb-true, lt-ltb, cases_order}
use Rattle.derivatives.specs.Derivatives.{chain_of, either_of}
use Rattle.dtd_model.specs.References.{number_written}
use Rattle.page_forms.specs.References.{equal_to, above, below, inside, as_many, at_least, at_most, from_to}
use Rattle.page_forms.specs.Words.{ascii}
use Rattle.page_forms.proofs.Spelling.{Spells, One, Chained, led_into, led, spells_chain, spells_either, spells_as}
use Rattle.page_forms.proofs.NameForms.{spells_class, spells_empty}

-- what is known of a base and its digits
pub record IsBase (base : ℕ) (is_digit : ℕ → Bool) : Type 0 where
  pub small : (c : ℕ) → is_digit c ≡ true → c < 128
  pub value : (c : ℕ) → is_digit c ≡ true → digit_value c < base
  -- a higher number stays higher, and an equal one with a higher digit gets so
  pub higher : (m n d e : ℕ) → m < n → d < base → m * base + d < n * base + e
  pub next : (n d e : ℕ) → d < e → n * base + d < n * base + e
  pub up : (m n d e : ℕ) → m ≤ n → d ≤ e → m * base + d ≤ n * base + e
  pub grows : (n d : ℕ) → n ≤ n * base + d
  pub nought : 0 * base + 0 ≡ 0
  pub nought_digit : is_digit 48 ≡ true
  pub some : (c : ℕ) → is_digit c ≡ true → nat_eq 48 c ≡ false → 1 ≤ digit_value c
  -- the highest digit
  pub top : ℕ
  pub under : (c : ℕ) → is_digit c ≡ true → digit_value c ≤ digit_value top

-- so many digits
abbrev pub AreAsMany : List ℕ → List ℕ → Type 0
AreAsMany [] [] = Unit {0}
AreAsMany [] (d ∷ ds) = ⊥
AreAsMany (d ∷ ds) [] = ⊥
AreAsMany (d ∷ ds) (e ∷ es) = AreAsMany ds es

pub turned : (ds es : List ℕ) → AreAsMany ds es → AreAsMany es ds
turned [] [] s = tt
turned [] (e ∷ es) s = absurd s
turned (d ∷ ds) [] s = absurd s
turned (d ∷ ds) (e ∷ es) s = turned ds es s

-- two lists as long as a third are as long as one another
pub behind : (ds es cs : List ℕ) → AreAsMany ds es → AreAsMany ds cs → AreAsMany es cs
behind [] [] [] s t = tt
behind [] [] (c ∷ cs) s t = absurd t
behind [] (e ∷ es) cs s t = absurd s
behind (d ∷ ds) [] cs s t = absurd s
behind (d ∷ ds) (e ∷ es) [] s t = absurd t
behind (d ∷ ds) (e ∷ es) (c ∷ cs) s t = behind ds es cs s t

-- digits, as many as these
pub record AreDigits (is_digit : ℕ → Bool) (bound cs : List ℕ) : Type 0 where
  pub as_many : AreAsMany bound cs
  pub digits : list_all is_digit cs ≡ true

module _ (base : ℕ) (is_digit : ℕ → Bool) (known : IsBase base is_digit) where
  -- a lower number stays lower by as many digits
  lower_stays : (ds es : List ℕ) (m n : ℕ) → AreAsMany ds es → list_all is_digit ds ≡ true → m < n → number_written base m ds < number_written base n es
  lower_stays [] [] m n s a l = l
  lower_stays [] (e ∷ es) m n s a l = absurd s
  lower_stays (d ∷ ds) [] m n s a l = absurd s
  lower_stays (d ∷ ds) (e ∷ es) m n s a l =
      let p = and_parts (is_digit d) (list_all is_digit ds) a in
      lower_stays ds es (m * base + digit_value d) (n * base + digit_value e) s p.1 (known.higher m n (digit_value d) (digit_value e) l (known.value d p.0))

  first_lower : (d e n : ℕ) (ds es : List ℕ) → AreAsMany ds es → list_all is_digit ds ≡ true → digit_value d < digit_value e
      → number_written base n (d ∷ ds) < number_written base n (e ∷ es)
  first_lower d e n ds es s a l = lower_stays ds es (n * base + digit_value d) (n * base + digit_value e) s a (known.next n (digit_value d) (digit_value e) l)

  -- digits behind a first one
  heads : (d : ℕ) (ds : List ℕ) (c : ℕ) (cs : List ℕ) → AreDigits is_digit (d ∷ ds) (c ∷ cs) → (is_digit c ≡ true) × AreDigits is_digit ds cs
  heads d ds c cs a = let p = and_parts (is_digit c) (list_all is_digit cs) a.digits in (p.0, record { as_many = a.as_many; digits = p.1 })

  put : (d : ℕ) (ds : List ℕ) (c : ℕ) (cs : List ℕ) → is_digit c ≡ true → AreDigits is_digit ds cs → AreDigits is_digit (d ∷ ds) (c ∷ cs)
  put d ds c cs h a = record { as_many = a.as_many; digits = and_from (is_digit c) (list_all is_digit cs) h a.digits }

  spells_digit : (test : ℕ → Bool) → Spells (ascii (λ c. is_digit c && test c)) (One (λ c. is_digit c && test c))
  spells_digit test = spells_class (λ c. is_digit c && test c) (λ c h. known.small c (and_parts (is_digit c) (test c) h).0)

  none_from : (cs : List ℕ) → AreDigits is_digit [] cs → [] ≡ cs
  none_from [] a = refl
  none_from (c ∷ cs) a = absurd a.as_many

  none_are : (cs : List ℕ) → [] ≡ cs → AreDigits is_digit [] cs
  none_are cs e = subst (AreDigits is_digit []) e (record { as_many = tt; digits = refl })

  -- Digits of any value.

  many_from : (d : ℕ) (ds cs : List ℕ) → AreDigits is_digit (d ∷ ds) cs → Chained (One is_digit) (AreDigits is_digit ds) cs
  many_from d ds [] a = absurd a.as_many
  many_from d ds (c ∷ cs) a = let p = heads d ds c cs a in led c cs p.0 p.1

  spells_many : (ds : List ℕ) → Spells (as_many is_digit ds) (AreDigits is_digit ds)
  spells_many [] = spells_as spells_empty none_are none_from
  spells_many (d ∷ ds) = spells_as (spells_chain (spells_class is_digit known.small) (spells_many ds)) (led_into (AreDigits is_digit (d ∷ ds)) (λ c cs h a. put d ds c cs h a)) (many_from d ds)

  -- Digits of a bounded value, behind a number.

  pub record LeastAt (n : ℕ) (bound cs : List ℕ) : Type 0 where
    pub are : AreDigits is_digit bound cs
    pub least : number_written base n bound ≤ number_written base n cs

  pub record MostAt (n : ℕ) (bound cs : List ℕ) : Type 0 where
    pub are : AreDigits is_digit bound cs
    pub most : number_written base n cs ≤ number_written base n bound

  abbrev equals : ℕ → ℕ → Bool
  equals d c = is_digit c && digit_value c == digit_value d

  abbrev exceeds : ℕ → ℕ → Bool
  exceeds d c = is_digit c && nat_lt (digit_value d) (digit_value c)

  abbrev falls : ℕ → ℕ → Bool
  falls d c = is_digit c && nat_lt (digit_value c) (digit_value d)

  abbrev Least : ℕ → ℕ → List ℕ → List ℕ → Type 0
  Least n d ds cs = Chained (One (equals d)) (LeastAt (n * base + digit_value d) ds) cs ⊎ Chained (One (exceeds d)) (AreDigits is_digit ds) cs

  abbrev Most : ℕ → ℕ → List ℕ → List ℕ → Type 0
  Most n d ds cs = Chained (One (equals d)) (MostAt (n * base + digit_value d) ds) cs ⊎ Chained (One (falls d)) (AreDigits is_digit ds) cs

  level : (c d : ℕ) → equals d c ≡ true → (is_digit c ≡ true) × (digit_value c ≡ digit_value d)
  level c d h = let p = and_parts (is_digit c) (digit_value c == digit_value d) h in (p.0, eqb-true (digit_value c) (digit_value d) p.1)

  leveled : (c d : ℕ) → is_digit c ≡ true → digit_value c ≡ digit_value d → equals d c ≡ true
  leveled c d h e = and_from (is_digit c) (digit_value c == digit_value d) h (eq-eqb (digit_value c) (digit_value d) e)

  least_into : (n d : ℕ) (ds : List ℕ) → list_all is_digit ds ≡ true → (cs : List ℕ) → Least n d ds cs → LeastAt n (d ∷ ds) cs
  least_into n d ds b cs (inl k) = led_into (LeastAt n (d ∷ ds)) (λ c rest h l. let p = level c d h in record {
    are = put d ds c rest p.0 l.are;
    least = subst (λ (v : ℕ). number_written base (n * base + digit_value d) ds ≤ number_written base (n * base + v) rest) (sym p.1) l.least;
  }) cs k
  least_into n d ds b cs (inr k) = led_into (LeastAt n (d ∷ ds)) (λ c rest h a. let p = and_parts (is_digit c) (nat_lt (digit_value d) (digit_value c)) h in record {
    are = put d ds c rest p.0 a;
    least = let l = first_lower d c n ds rest a.as_many b (ltb-true (digit_value d) (digit_value c) p.1) in omega arith;
  }) cs k

  least_from : (n d : ℕ) (ds : List ℕ) → (cs : List ℕ) → LeastAt n (d ∷ ds) cs → Least n d ds cs
  least_from n d ds [] l = absurd l.are.as_many
  least_from n d ds (c ∷ cs) l = at (cases_order (digit_value c) (digit_value d))
    where
      p : (is_digit c ≡ true) × AreDigits is_digit ds cs
      p = heads d ds c cs l.are

      at : (digit_value c ≡ digit_value d) ⊎ ((digit_value c < digit_value d) ⊎ (digit_value d < digit_value c)) → Least n d ds (c ∷ cs)
      at (inl e) = inl (led c cs (leveled c d p.0 e) (record { are = p.1; least = subst (λ (v : ℕ). number_written base (n * base + digit_value d) ds ≤ number_written base (n * base + v) cs) e l.least }))
      at (inr (inl s)) =
          let z = first_lower c d n cs ds (turned ds cs p.1.as_many) p.1.digits s in
          let y : number_written base n (d ∷ ds) ≤ number_written base n (c ∷ cs) = l.least in
          absurd (omega arith)
      at (inr (inr s)) = inr (led c cs (and_from (is_digit c) (nat_lt (digit_value d) (digit_value c)) p.0 (lt-ltb (digit_value d) (digit_value c) s)) p.1)

  most_into : (n d : ℕ) (ds : List ℕ) → (cs : List ℕ) → Most n d ds cs → MostAt n (d ∷ ds) cs
  most_into n d ds cs (inl k) = led_into (MostAt n (d ∷ ds)) (λ c rest h l. let p = level c d h in record {
    are = put d ds c rest p.0 l.are;
    most = subst (λ (v : ℕ). number_written base (n * base + v) rest ≤ number_written base (n * base + digit_value d) ds) (sym p.1) l.most;
  }) cs k
  most_into n d ds cs (inr k) = led_into (MostAt n (d ∷ ds)) (λ c rest h a. let p = and_parts (is_digit c) (nat_lt (digit_value c) (digit_value d)) h in record {
    are = put d ds c rest p.0 a;
    most = let l = first_lower c d n rest ds (turned ds rest a.as_many) a.digits (ltb-true (digit_value c) (digit_value d) p.1) in omega arith;
  }) cs k

  most_from : (n d : ℕ) (ds : List ℕ) → list_all is_digit ds ≡ true → (cs : List ℕ) → MostAt n (d ∷ ds) cs → Most n d ds cs
  most_from n d ds b [] l = absurd l.are.as_many
  most_from n d ds b (c ∷ cs) l = at (cases_order (digit_value c) (digit_value d))
    where
      p : (is_digit c ≡ true) × AreDigits is_digit ds cs
      p = heads d ds c cs l.are

      at : (digit_value c ≡ digit_value d) ⊎ ((digit_value c < digit_value d) ⊎ (digit_value d < digit_value c)) → Most n d ds (c ∷ cs)
      at (inl e) = inl (led c cs (leveled c d p.0 e) (record { are = p.1; most = subst (λ (v : ℕ). number_written base (n * base + v) cs ≤ number_written base (n * base + digit_value d) ds) e l.most }))
      at (inr (inl s)) = inr (led c cs (and_from (is_digit c) (nat_lt (digit_value c) (digit_value d)) p.0 (lt-ltb (digit_value c) (digit_value d) s)) p.1)
      at (inr (inr s)) =
          let z = first_lower d c n ds cs p.1.as_many b s in
          let y : number_written base n (c ∷ cs) ≤ number_written base n (d ∷ ds) = l.most in
          absurd (omega arith)

  none_least : (n : ℕ) (cs : List ℕ) → [] ≡ cs → LeastAt n [] cs
  none_least n cs e = subst (LeastAt n []) e (record { are = none_are [] refl; least = omega arith })

  none_most : (n : ℕ) (cs : List ℕ) → [] ≡ cs → MostAt n [] cs
  none_most n cs e = subst (MostAt n []) e (record { are = none_are [] refl; most = omega arith })

  pub spells_least : (ds : List ℕ) → list_all is_digit ds ≡ true → (n : ℕ) → Spells (at_least is_digit ds) (LeastAt n ds)
  spells_least [] b n = spells_as spells_empty (none_least n) (λ cs l. none_from cs l.are)
  spells_least (d ∷ ds) b n =
      let p = and_parts (is_digit d) (list_all is_digit ds) b in
      spells_as
      (spells_either (spells_chain (spells_digit (λ c. digit_value c == digit_value d)) (spells_least ds p.1 (n * base + digit_value d)))
      (spells_chain (spells_digit (λ c. nat_lt (digit_value d) (digit_value c))) (spells_many ds)))
      (least_into n d ds p.1) (least_from n d ds)

  pub spells_most : (ds : List ℕ) → list_all is_digit ds ≡ true → (n : ℕ) → Spells (at_most is_digit ds) (MostAt n ds)
  spells_most [] b n = spells_as spells_empty (none_most n) (λ cs l. none_from cs l.are)
  spells_most (d ∷ ds) b n =
      let p = and_parts (is_digit d) (list_all is_digit ds) b in
      spells_as
      (spells_either (spells_chain (spells_digit (λ c. digit_value c == digit_value d)) (spells_most ds p.1 (n * base + digit_value d)))
      (spells_chain (spells_digit (λ c. nat_lt (digit_value c) (digit_value d))) (spells_many ds)))
      (most_into n d ds) (most_from n d ds p.1)

  -- Digits of a value between two.

  pub record Within (n : ℕ) (ds es cs : List ℕ) : Type 0 where
    pub are : AreDigits is_digit ds cs
    pub least : number_written base n ds ≤ number_written base n cs
    pub most : number_written base n cs ≤ number_written base n es

  -- the first of two bounds is below the second, or they are one
  abbrev pub in_order : List ℕ → List ℕ → Bool
  in_order [] [] = true
  in_order [] (e ∷ es) = false
  in_order (d ∷ ds) [] = false
  in_order (d ∷ ds) (e ∷ es) = if digit_value d == digit_value e then in_order ds es else nat_lt (digit_value d) (digit_value e)

  -- two bounds
  pub record AreBounds (ds es : List ℕ) : Type 0 where
    pub as_many : AreAsMany ds es
    pub first : list_all is_digit ds ≡ true
    pub second : list_all is_digit es ≡ true
    pub ordered : in_order ds es ≡ true

  abbrev Alike : ℕ → ℕ → List ℕ → List ℕ → List ℕ → Type 0
  Alike n d ds es = Chained (One (equals d)) (Within (n * base + digit_value d) ds es)

  alike_into : (n d e : ℕ) (ds es : List ℕ) → digit_value d ≡ digit_value e → (cs : List ℕ) → Alike n d ds es cs → Within n (d ∷ ds) (e ∷ es) cs
  alike_into n d e ds es q = led_into (Within n (d ∷ ds) (e ∷ es)) (λ c rest h w. let p = level c d h in record {
    are = put d ds c rest p.0 w.are;
    least = subst (λ (v : ℕ). number_written base (n * base + digit_value d) ds ≤ number_written base (n * base + v) rest) (sym p.1) w.least;
    most = subst (λ (v : ℕ). number_written base (n * base + digit_value c) rest ≤ number_written base (n * base + v) es) q
        (subst (λ (v : ℕ). number_written base (n * base + v) rest ≤ number_written base (n * base + digit_value d) es) (sym p.1) w.most);
  })

  alike_from : (n d e : ℕ) (ds es : List ℕ) → AreAsMany ds es → list_all is_digit es ≡ true → digit_value d ≡ digit_value e → (cs : List ℕ) → Within n (d ∷ ds) (e ∷ es) cs → Alike n d ds es cs
  alike_from n d e ds es m b q [] w = absurd w.are.as_many
  alike_from n d e ds es m b q (c ∷ cs) w = at (cases_order (digit_value c) (digit_value d))
    where
      p : (is_digit c ≡ true) × AreDigits is_digit ds cs
      p = heads d ds c cs w.are

      at : (digit_value c ≡ digit_value d) ⊎ ((digit_value c < digit_value d) ⊎ (digit_value d < digit_value c)) → Alike n d ds es (c ∷ cs)
      at (inl g) = led c cs (leveled c d p.0 g) (record {
        are = p.1;
        least = subst (λ (v : ℕ). number_written base (n * base + digit_value d) ds ≤ number_written base (n * base + v) cs) g w.least;
        most = subst (λ (v : ℕ). number_written base (n * base + digit_value d) cs ≤ number_written base (n * base + v) es) (sym q)
            (subst (λ (v : ℕ). number_written base (n * base + v) cs ≤ number_written base (n * base + digit_value e) es) g w.most);
      })
      at (inr (inl s)) =
          let z = first_lower c d n cs ds (turned ds cs p.1.as_many) p.1.digits s in
          let y : number_written base n (d ∷ ds) ≤ number_written base n (c ∷ cs) = w.least in
          absurd (omega arith)
      at (inr (inr s)) =
          let z = first_lower e c n es cs (behind ds es cs m p.1.as_many) b (subst (λ (v : ℕ). v < digit_value c) q s) in
          let y : number_written base n (c ∷ cs) ≤ number_written base n (e ∷ es) = w.most in
          absurd (omega arith)

  abbrev between : ℕ → ℕ → ℕ → Bool
  between d e c = is_digit c && (nat_lt (digit_value d) (digit_value c) && nat_lt (digit_value c) (digit_value e))

  abbrev Apart : ℕ → ℕ → ℕ → List ℕ → List ℕ → List ℕ → Type 0
  Apart n d e ds es cs =
      Chained (One (equals d)) (LeastAt (n * base + digit_value d) ds) cs
      ⊎ (Chained (One (between d e)) (AreDigits is_digit ds) cs ⊎ Chained (One (equals e)) (MostAt (n * base + digit_value e) es) cs)

  apart_into : (n d e : ℕ) (ds es : List ℕ) → AreAsMany ds es → list_all is_digit ds ≡ true → digit_value d < digit_value e → (cs : List ℕ) → Apart n d e ds es cs → Within n (d ∷ ds) (e ∷ es) cs
  apart_into n d e ds es m b l cs (inl k) = led_into (Within n (d ∷ ds) (e ∷ es)) (λ c rest h w. let p = level c d h in record {
    are = put d ds c rest p.0 w.are;
    least = subst (λ (v : ℕ). number_written base (n * base + digit_value d) ds ≤ number_written base (n * base + v) rest) (sym p.1) w.least;
    most = let z = first_lower c e n rest es (behind ds rest es w.are.as_many m) w.are.digits (subst (λ (v : ℕ). v < digit_value e) (sym p.1) l) in omega arith;
  }) cs k
  apart_into n d e ds es m b l cs (inr (inl k)) = led_into (Within n (d ∷ ds) (e ∷ es)) (λ c rest h a.
      let p = and_parts (is_digit c) (nat_lt (digit_value d) (digit_value c) && nat_lt (digit_value c) (digit_value e)) h in
      let q = and_parts (nat_lt (digit_value d) (digit_value c)) (nat_lt (digit_value c) (digit_value e)) p.1 in
      record {
        are = put d ds c rest p.0 a;
        least = let z = first_lower d c n ds rest a.as_many b (ltb-true (digit_value d) (digit_value c) q.0) in omega arith;
        most = let z = first_lower c e n rest es (behind ds rest es a.as_many m) a.digits (ltb-true (digit_value c) (digit_value e) q.1) in omega arith;
      }) cs k
  apart_into n d e ds es m b l cs (inr (inr k)) = led_into (Within n (d ∷ ds) (e ∷ es)) (λ c rest h w. let p = level c e h in record {
    are = put d ds c rest p.0 (record { as_many = behind es ds rest (turned ds es m) w.are.as_many; digits = w.are.digits });
    least = let z = first_lower d c n ds rest (behind es ds rest (turned ds es m) w.are.as_many) b (subst (λ (v : ℕ). digit_value d < v) (sym p.1) l) in omega arith;
    most = subst (λ (v : ℕ). number_written base (n * base + v) rest ≤ number_written base (n * base + digit_value e) es) (sym p.1) w.most;
  }) cs k

  apart_from : (n d e : ℕ) (ds es : List ℕ) → AreAsMany ds es → list_all is_digit es ≡ true → (cs : List ℕ) → Within n (d ∷ ds) (e ∷ es) cs → Apart n d e ds es cs
  apart_from n d e ds es m b [] w = absurd w.are.as_many
  apart_from n d e ds es m b (c ∷ cs) w = at (cases_order (digit_value c) (digit_value d)) (cases_order (digit_value c) (digit_value e))
    where
      p : (is_digit c ≡ true) × AreDigits is_digit ds cs
      p = heads d ds c cs w.are

      at : (digit_value c ≡ digit_value d) ⊎ ((digit_value c < digit_value d) ⊎ (digit_value d < digit_value c))
          → (digit_value c ≡ digit_value e) ⊎ ((digit_value c < digit_value e) ⊎ (digit_value e < digit_value c)) → Apart n d e ds es (c ∷ cs)
      at (inl g) t = inl (led c cs (leveled c d p.0 g) (record { are = p.1; least = subst (λ (v : ℕ). number_written base (n * base + digit_value d) ds ≤ number_written base (n * base + v) cs) g w.least }))
      at (inr (inl s)) t =
          let z = first_lower c d n cs ds (turned ds cs p.1.as_many) p.1.digits s in
          let y : number_written base n (d ∷ ds) ≤ number_written base n (c ∷ cs) = w.least in
          absurd (omega arith)
      at (inr (inr s)) (inl g) = inr (inr (led c cs (leveled c e p.0 g) (record {
        are = record { as_many = behind ds es cs m p.1.as_many; digits = p.1.digits };
        most = subst (λ (v : ℕ). number_written base (n * base + v) cs ≤ number_written base (n * base + digit_value e) es) g w.most;
      })))
      at (inr (inr s)) (inr (inl t)) = inr (inl (led c cs
          (and_from (is_digit c) (nat_lt (digit_value d) (digit_value c) && nat_lt (digit_value c) (digit_value e)) p.0
          (and_from (nat_lt (digit_value d) (digit_value c)) (nat_lt (digit_value c) (digit_value e)) (lt-ltb (digit_value d) (digit_value c) s) (lt-ltb (digit_value c) (digit_value e) t))) p.1))
      at (inr (inr s)) (inr (inr t)) =
          let z = first_lower e c n es cs (behind ds es cs m p.1.as_many) b t in
          let y : number_written base n (c ∷ cs) ≤ number_written base n (e ∷ es) = w.most in
          absurd (omega arith)

  none_within : (n : ℕ) (cs : List ℕ) → [] ≡ cs → Within n [] [] cs
  none_within n cs e = subst (Within n [] []) e (record { are = none_are [] refl; least = omega arith; most = omega arith })

  pub spells_from_to : (ds es : List ℕ) → AreBounds ds es → (n : ℕ) → Spells (from_to is_digit ds es) (Within n ds es)
  spells_from_to [] [] b n = spells_as spells_empty (none_within n) (λ cs w. none_from cs w.are)
  spells_from_to [] (e ∷ es) b n = absurd b.as_many
  spells_from_to (d ∷ ds) [] b n = absurd b.as_many
  spells_from_to (d ∷ ds) (e ∷ es) b n = at (digit_value d == digit_value e) refl b.ordered (λ o. spells_from_to ds es (record { as_many = b.as_many; first = p.1; second = q.1; ordered = o }) (n * base + digit_value d))
    where
      p : (is_digit d ≡ true) × (list_all is_digit ds ≡ true)
      p = and_parts (is_digit d) (list_all is_digit ds) b.first

      q : (is_digit e ≡ true) × (list_all is_digit es ≡ true)
      q = and_parts (is_digit e) (list_all is_digit es) b.second

      apart : digit_value d < digit_value e → Spells (either_of (chain_of (equal_to is_digit d) (at_least is_digit ds)) (either_of (chain_of (inside is_digit d e) (as_many is_digit ds)) (chain_of (equal_to is_digit e) (at_most is_digit es)))) (Within n (d ∷ ds) (e ∷ es))
      apart l =
          spells_as
          (spells_either (spells_chain (spells_digit (λ c. digit_value c == digit_value d)) (spells_least ds p.1 (n * base + digit_value d)))
          (spells_either (spells_chain (spells_digit (λ c. nat_lt (digit_value d) (digit_value c) && nat_lt (digit_value c) (digit_value e))) (spells_many ds))
          (spells_chain (spells_digit (λ c. digit_value c == digit_value e)) (spells_most es q.1 (n * base + digit_value e)))))
          (apart_into n d e ds es b.as_many p.1 l) (apart_from n d e ds es b.as_many q.1)

      alike : digit_value d ≡ digit_value e → Spells (from_to is_digit ds es) (Within (n * base + digit_value d) ds es) → Spells (chain_of (equal_to is_digit d) (from_to is_digit ds es)) (Within n (d ∷ ds) (e ∷ es))
      alike g s = spells_as (spells_chain (spells_digit (λ c. digit_value c == digit_value d)) s) (alike_into n d e ds es g) (alike_from n d e ds es b.as_many q.1 g)

      at : (x : Bool) → (digit_value d == digit_value e) ≡ x → (if x then in_order ds es else nat_lt (digit_value d) (digit_value e)) ≡ true
          → (in_order ds es ≡ true → Spells (from_to is_digit ds es) (Within (n * base + digit_value d) ds es))
          → Spells (if x then chain_of (equal_to is_digit d) (from_to is_digit ds es) else either_of (chain_of (equal_to is_digit d) (at_least is_digit ds)) (either_of (chain_of (inside is_digit d e) (as_many is_digit ds)) (chain_of (equal_to is_digit e) (at_most is_digit es)))) (Within n (d ∷ ds) (e ∷ es))
      at true g o f = alike (eqb-true (digit_value d) (digit_value e) g) (f o)
      at false g o f = apart (ltb-true (digit_value d) (digit_value e) o)
