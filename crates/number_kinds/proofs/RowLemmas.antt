-- What a table of rows says of a number follows from what its rows say of their ends.
use Rattle.std.proofs.Common.{◌≡◌, ◌⊎◌, inl, inr, ℕ, suc, ◌+◌, ◌*◌, ◌≤◌, ◌<◌, Bool, true, false, ◌&&◌, ◌||◌, nat_le, nat_eq, min, List, [], ◌∷◌, refl, sym, ◌∙◌, ap, subst, arith}
use Rattle.std.specs.Prelude.{if◌then◌else◌}
use Rattle.std.proofs.lemmas.Bool.{and_parts, cases_lt}
use Rattle.std.proofs.lemmas.Bool.Decides.{nat_tests}
use Rattle.xml_text.specs.Characters.{is_character}
use Rattle.number_kinds.specs.Kinds.{kind_in}
use Rattle.number_kinds.specs.Laws.{LeadsOn}

is_le : (a b : ℕ) → a ≤ b → nat_le a b ≡ true
is_le a b l = grind (arith, nat_tests)

not_le : (a b : ℕ) → b < a → nat_le a b ≡ false
not_le a b l = grind (arith, nat_tests)

le_is : (a b : ℕ) → nat_le a b ≡ true → a ≤ b
le_is a b e = grind (arith, nat_tests)

eq_is : (a b : ℕ) → nat_eq a b ≡ true → a ≡ b
eq_is a b e = grind (arith, nat_tests)

-- the place of the row, from 0 on
abbrev pub place_in : List (ℕ × ℕ) → ℕ → ℕ
place_in [] n = 0
place_in (row ∷ rows) n = if nat_le n row.0 then 0 else suc (place_in rows n)

module _ (row : ℕ × ℕ) (rows : List (ℕ × ℕ)) (n : ℕ) where
  kind_here : n ≤ row.0 → kind_in (row ∷ rows) n ≡ row.1
  kind_here l = ap (λ (b : Bool). if b then row.1 else kind_in rows n) (is_le n row.0 l)

  kind_behind : row.0 < n → kind_in (row ∷ rows) n ≡ kind_in rows n
  kind_behind l = ap (λ (b : Bool). if b then row.1 else kind_in rows n) (not_le n row.0 l)

  place_here : n ≤ row.0 → place_in (row ∷ rows) n ≡ 0
  place_here l = ap (λ (b : Bool). if b then 0 else suc (place_in rows n)) (is_le n row.0 l)

  place_behind : row.0 < n → place_in (row ∷ rows) n ≡ suc (place_in rows n)
  place_behind l = ap (λ (b : Bool). if b then 0 else suc (place_in rows n)) (not_le n row.0 l)

suc_same : (m n : ℕ) → suc m ≡ suc n → m ≡ n
suc_same m n e = omega arith

-- a number between two of one row is of it
between : (rows : List (ℕ × ℕ)) (a n b : ℕ) → a ≤ n → n ≤ b → place_in rows a ≡ place_in rows b → kind_in rows n ≡ kind_in rows a
between [] a n b p q e = refl
between (row ∷ rows) a n b p q e = at (λ same. between rows a n b p q same) (cases_lt row.0 a) (cases_lt row.0 b)
  where
    at : (place_in rows a ≡ place_in rows b → kind_in rows n ≡ kind_in rows a) → (row.0 < a) ⊎ (a ≤ row.0) → (row.0 < b) ⊎ (b ≤ row.0) → kind_in (row ∷ rows) n ≡ kind_in (row ∷ rows) a
    at more (inl l) m =
        let behind : row.0 < b = omega arith in
        let same = sym (place_behind row rows a l) ∙ e ∙ place_behind row rows b behind in
        kind_behind row rows n (omega arith)
        ∙ more (suc_same (place_in rows a) (place_in rows b) same)
        ∙ sym (kind_behind row rows a l)
    at more (inr l) (inl m) = let z : 0 ≡ suc (place_in rows b) = sym (place_here row rows a l) ∙ e ∙ place_behind row rows b m in absurd (omega arith)
    at more (inr l) (inr m) = kind_here row rows n (omega arith) ∙ sym (kind_here row rows a l)

-- Characters by rows: 1 for numbers of characters, 0 for others.
abbrev character_rows : List (ℕ × ℕ)
character_rows = (8, 0) ∷ (10, 1) ∷ (12, 0) ∷ (13, 1) ∷ (31, 0) ∷ (0xD7FF, 1) ∷ (0xDFFF, 0) ∷ (0xFFFD, 1) ∷ (0xFFFF, 0) ∷ (0x10FFFF, 1) ∷ []

character_by : (n : ℕ) → is_character n ≡ nat_eq (kind_in character_rows n) 1
character_by n = grind (arith, nat_tests)

-- A base: what is to be known of its digits.
pub record Base : Type 0 where
  pub base : ℕ
  pub top : ℕ
  pub low : (a n d : ℕ) → a ≤ n → a * base ≤ n * base + d
  pub high : (n b d : ℕ) → n ≤ b → d < base → n * base + d ≤ b * base + top
  pub grows : (n d : ℕ) → n ≤ n * base + d

module _ (of : Base) (all : List (ℕ × ℕ)) where
  -- the numbers with one digit more are all of one row
  abbrev is_one_row : ℕ → ℕ → Bool
  is_one_row a b = nat_eq (place_in all (a * of.base)) (place_in all (b * of.base + of.top))

  -- the row leads on as its number does
  abbrev leads : ℕ → ℕ → ℕ → Bool
  leads lo last kind = nat_eq lo last && nat_eq lo kind
      || is_one_row lo last && (is_one_row kind kind && nat_eq (kind_in all (kind * of.base)) (kind_in all (lo * of.base)))

  -- and is of characters where its number is one
  abbrev are_alike : ℕ → ℕ → ℕ → Bool
  are_alike lo last kind = nat_eq (place_in character_rows lo) (place_in character_rows last)
      && nat_eq (kind_in character_rows kind) (kind_in character_rows lo)

  abbrev is_good : ℕ → ℕ → ℕ → Bool
  is_good lo last kind = leads lo last kind && (are_alike lo last kind && (nat_le last 0x10FFFF && (nat_le kind 0x10FFFF
      && nat_eq (kind_in all kind) kind)))

  -- all rows do, from a number on up to the last
  abbrev pub are_good : ℕ → List (ℕ × ℕ) → Bool
  are_good lo [] = nat_eq lo 0x110000
  are_good lo (row ∷ rows) = is_good lo row.0 row.1 && are_good (suc row.0) rows

  record Leads (n kind : ℕ) : Type 0 where
    digits : (d : ℕ) → d < of.base → kind_in all (kind * of.base + d) ≡ kind_in all (n * of.base + d)
    good : is_character kind ≡ is_character n
    within : nat_le kind 0x10FFFF ≡ nat_le n 0x10FFFF
    same : kind_in all kind ≡ kind

  digits_of : (lo last kind n d : ℕ) → leads lo last kind ≡ true → lo ≤ n → n ≤ last → d < of.base
      → kind_in all (kind * of.base + d) ≡ kind_in all (n * of.base + d)
  digits_of lo last kind n d e p q small = at (nat_eq lo last && nat_eq lo kind) refl
    where
      at : (b : Bool) → (nat_eq lo last && nat_eq lo kind) ≡ b → kind_in all (kind * of.base + d) ≡ kind_in all (n * of.base + d)
      at true f =
          let parts = and_parts (nat_eq lo last) (nat_eq lo kind) f in
          let one : lo ≡ last = eq_is lo last parts.0 in
          let two : lo ≡ kind = eq_is lo kind parts.1 in
          let same : kind ≡ n = omega arith in
          ap (λ (m : ℕ). kind_in all (m * of.base + d)) same
      at false f =
          let rest : (is_one_row lo last && (is_one_row kind kind && nat_eq (kind_in all (kind * of.base)) (kind_in all (lo * of.base)))) ≡ true =
          sym (ap (λ (b : Bool). b || is_one_row lo last && (is_one_row kind kind && nat_eq (kind_in all (kind * of.base)) (kind_in all (lo * of.base)))) f) ∙ e in
          let parts = and_parts (is_one_row lo last) (is_one_row kind kind && nat_eq (kind_in all (kind * of.base)) (kind_in all (lo * of.base))) rest in
          let more = and_parts (is_one_row kind kind) (nat_eq (kind_in all (kind * of.base)) (kind_in all (lo * of.base))) parts.1 in
          between all (kind * of.base) (kind * of.base + d) (kind * of.base + of.top) (omega arith) (of.high kind kind d (omega arith) small) (eq_is _ _ more.0)
          ∙ eq_is _ _ more.1
          ∙ sym (between all (lo * of.base) (n * of.base + d) (last * of.base + of.top) (of.low lo n d p) (of.high n last d q small) (eq_is _ _ parts.0))

  good_of : (lo last kind n : ℕ) → are_alike lo last kind ≡ true → lo ≤ n → n ≤ last → is_character kind ≡ is_character n
  good_of lo last kind n e p q =
      let parts = and_parts (nat_eq (place_in character_rows lo) (place_in character_rows last)) (nat_eq (kind_in character_rows kind) (kind_in character_rows lo)) e in
      let same : kind_in character_rows kind ≡ kind_in character_rows n =
      eq_is _ _ parts.1 ∙ sym (between character_rows lo n last p q (eq_is _ _ parts.0)) in
      character_by kind ∙ ap (λ (m : ℕ). nat_eq m 1) same ∙ sym (character_by n)

  within_of : (last kind n : ℕ) → last ≤ 0x10FFFF → kind ≤ 0x10FFFF → n ≤ last → nat_le kind 0x10FFFF ≡ nat_le n 0x10FFFF
  within_of last kind n p q r = is_le kind 0x10FFFF q ∙ sym (is_le n 0x10FFFF (omega arith))

  row_leads : (lo last kind n : ℕ) → is_good lo last kind ≡ true → lo ≤ n → n ≤ last → Leads n kind
  row_leads lo last kind n e p q =
      let a = and_parts (leads lo last kind) (are_alike lo last kind && (nat_le last 0x10FFFF && (nat_le kind 0x10FFFF && nat_eq (kind_in all kind) kind))) e in
      let b = and_parts (are_alike lo last kind) (nat_le last 0x10FFFF && (nat_le kind 0x10FFFF && nat_eq (kind_in all kind) kind)) a.1 in
      let c = and_parts (nat_le last 0x10FFFF) (nat_le kind 0x10FFFF && nat_eq (kind_in all kind) kind) b.1 in
      let d = and_parts (nat_le kind 0x10FFFF) (nat_eq (kind_in all kind) kind) c.1 in
      record {
        digits = λ digit small. digits_of lo last kind n digit a.0 p q small;
        good = good_of lo last kind n b.0 p q;
        within = within_of last kind n (le_is _ _ c.0) (le_is _ _ d.0) q;
        same = eq_is _ _ d.1;
      }

  -- behind the last row
  over : (lo : ℕ) (rows : List (ℕ × ℕ)) → are_good lo rows ≡ true → (n : ℕ) → 0x10FFFF < n → kind_in rows n ≡ 0x110000
  over lo [] e n l = refl
  over lo (row ∷ rows) e n l =
      let a = and_parts (is_good lo row.0 row.1) (are_good (suc row.0) rows) e in
      let b = and_parts (leads lo row.0 row.1) (are_alike lo row.0 row.1 && (nat_le row.0 0x10FFFF && (nat_le row.1 0x10FFFF && nat_eq (kind_in all row.1) row.1))) a.0 in
      let c = and_parts (are_alike lo row.0 row.1) (nat_le row.0 0x10FFFF && (nat_le row.1 0x10FFFF && nat_eq (kind_in all row.1) row.1)) b.1 in
      let d = and_parts (nat_le row.0 0x10FFFF) (nat_le row.1 0x10FFFF && nat_eq (kind_in all row.1) row.1) c.1 in
      let within : row.0 ≤ 0x10FFFF = le_is _ _ d.0 in
      kind_behind row rows n (omega arith) ∙ over (suc row.0) rows a.1 n l

  none_over : (n : ℕ) → 0x10FFFF < n → is_character n ≡ false
  none_over n l = grind (arith, nat_tests)

  over_leads : are_good 0 all ≡ true → (n : ℕ) → 0x10FFFF < n → Leads n 0x110000
  over_leads e n l =
      let large : 0x10FFFF < 0x110000 = omega arith in
      record {
        digits = λ d small.
            let p = of.grows 0x110000 d in
            let q = of.grows n d in
            over 0 all e (0x110000 * of.base + d) (omega arith) ∙ sym (over 0 all e (n * of.base + d) (omega arith));
        good = none_over 0x110000 large ∙ sym (none_over n l);
        within = not_le 0x110000 0x10FFFF large ∙ sym (not_le n 0x10FFFF l);
        same = over 0 all e 0x110000 large;
      }

  walk : are_good 0 all ≡ true → (lo : ℕ) (rows : List (ℕ × ℕ)) → are_good lo rows ≡ true → (n : ℕ) → lo ≤ n → Leads n (kind_in rows n)
  walk whole lo [] e n l = over_leads whole n (let is : lo ≡ 0x110000 = eq_is lo 0x110000 e in omega arith)
  walk whole lo (row ∷ rows) e n l =
      let parts = and_parts (is_good lo row.0 row.1) (are_good (suc row.0) rows) e in
      at (λ m. walk whole (suc row.0) rows parts.1 n (omega arith)) (cases_lt row.0 n)
    where
      at : (row.0 < n → Leads n (kind_in rows n)) → (row.0 < n) ⊎ (n ≤ row.0) → Leads n (kind_in (row ∷ rows) n)
      at more (inl m) = subst (λ (k : ℕ). Leads n k) (sym (kind_behind row rows n m)) (more m)
      at more (inr m) =
          let parts = and_parts (is_good lo row.0 row.1) (are_good (suc row.0) rows) e in
          subst (λ (k : ℕ). Leads n k) (sym (kind_here row rows n m)) (row_leads lo row.0 row.1 n parts.0 l m)

  capped : are_good 0 all ≡ true → (n : ℕ) → kind_in all (min n 0x110000) ≡ kind_in all n
  capped e n = at (cases_lt 0x10FFFF n)
    where
      at : (0x10FFFF < n) ⊎ (n ≤ 0x10FFFF) → kind_in all (min n 0x110000) ≡ kind_in all n
      at (inl l) =
          let cap : min n 0x110000 ≡ 0x110000 = omega arith in
          let large : 0x10FFFF < 0x110000 = omega arith in
          ap (kind_in all) cap ∙ over 0 all e 0x110000 large ∙ sym (over 0 all e n l)
      at (inr l) = let cap : min n 0x110000 ≡ n = omega arith in ap (kind_in all) cap

  pub leads_on : are_good 0 all ≡ true → (n : ℕ) → LeadsOn of.base (kind_in all) n
  leads_on e n =
      let w = walk e 0 all e n (omega arith) in
      record { digits = w.digits; good = w.good; within = w.within; same = w.same; capped = capped e n }
