-- By the order of includes.
use Rattle.std.proofs.Common.{◌≡◌, ◌<◌, ◌≤◌, ℕ, zero, suc, List, [], ◌∷◌, length, take, Some, slice_get, sym, ap, subst, arith}
use Rattle.std.specs.List.{Contains}
use Rattle.std.proofs.lemmas.List.Elements.{Contains-append_left}
use Rattle.std.proofs.lemmas.Grind.{common_steps}
use Rattle.php_syntax.specs.Trees.{PlainStmts, PlainFile}
use Rattle.program_rules.specs.Files.{Held, HasOneTree}
use Rattle.program_rules.specs.Includes.{includes_in, includes_in_functions, includes_of_file, LeadsTo, directly, through}
use Rattle.program_rules.specs.Bodies.{with_bodies}
use Rattle.program_rules.specs.Expansion.{StandsFor, stands}
use Rattle.program_rules.specs.Limits.{HasPlaces, counted, one_each}
use Rattle.program_rules.specs.Programs.{ReadFile}
use Rattle.include_expansion.specs.Within.{tree_named, bodies_within, places_within, IsIncludeOrder, AreHeld}

-- a member of the first few is one of the first more
longer : (xs : List (List ℕ)) (k n : ℕ) (x : List ℕ) → k ≤ n → Contains (take k xs) x → Contains (take n xs) x
longer [] zero zero x le c = c
longer [] zero (suc n) x le c = c
longer [] (suc k) zero x le c = c
longer [] (suc k) (suc n) x le c = c
longer (y ∷ ys) zero n x le c = absurd (let h = c.1 in omega arith)
longer (y ∷ ys) (suc k) zero x le c = absurd (omega arith)
longer (y ∷ ys) (suc k) (suc n) x le (zero, lt, is) = (zero, omega arith, is)
longer (y ∷ ys) (suc k) (suc n) x le (suc i, lt, is) = let rest = longer ys k n x (omega arith) (i, omega arith, is) in (suc rest.0, (let h = rest.1 in omega arith), rest.2)

whole : (xs : List (List ℕ)) (k : ℕ) (x : List ℕ) → Contains (take k xs) x → Contains xs x
whole [] zero x c = c
whole [] (suc k) x c = c
whole (y ∷ ys) zero x c = absurd (let h = c.1 in omega arith)
whole (y ∷ ys) (suc k) x (zero, lt, is) = (zero, omega arith, is)
whole (y ∷ ys) (suc k) x (suc i, lt, is) = let rest = whole ys k x (i, omega arith, is) in (suc rest.0, (let h = rest.1 in omega arith), rest.2)

-- the place of a member of the first few
place_in : (xs : List (List ℕ)) (n : ℕ) (x : List ℕ) → Contains (take (suc n) xs) x → (k : ℕ) × (k ≤ n) × (slice_get xs k ≡ Some x)
place_in [] n x c = absurd (let h = c.1 in omega arith)
place_in (y ∷ ys) n x (zero, lt, is) = (zero, omega arith, ap Some is)
place_in (y ∷ ys) zero x (suc i, lt, is) = absurd (let h : suc i < suc 0 = lt in omega arith)
place_in (y ∷ ys) (suc n) x (suc i, lt, is) = let rest = place_in ys n x (i, omega arith, is) in (suc rest.0, (let h = rest.1 in omega arith), rest.2)

-- what a file among the first of an order includes stands among those before it
pub before : (files : List ReadFile) (order : List (List ℕ)) → IsIncludeOrder files order → (n : ℕ) (file path : List ℕ) → Contains (take (suc n) order) file → Contains (includes_of_file (tree_named files file)) path → Contains (take n order) path
before files order is n file path c own = let at = place_in order n file c in longer order at.0 n path at.1 (is.sorted at.0 file path at.2 own)

in_file : (tree : PlainFile) (path : List ℕ) → Contains (includes_in tree.body_of) path → Contains (includes_of_file tree) path
unfolding includes_of_file
in_file tree path c = Contains-append_left (includes_in tree.body_of) (includes_in_functions tree.functions_of) path c

none_first : (order : List (List ℕ)) (path : List ℕ) → Contains (take 0 order) path → ⊥
none_first [] path c = let h = c.1 in omega arith
none_first (x ∷ xs) path c = let h = c.1 in omega arith

mutual
  unfolding bodies_within

  pub stand_for : (held : Held) (files : List ReadFile) (order : List (List ℕ)) (is : IsIncludeOrder files order) (has : AreHeld held files) (n : ℕ) (ss : PlainStmts)
      → ((path : List ℕ) → Contains (includes_in ss) path → Contains (take n order) path) → StandsFor held ss (with_bodies (bodies_within files n) ss)
  stand_for held files order is has zero ss own = stands ss (tree_named files) (bodies_within files zero) (λ path c. absurd (none_first order path (own path c))) (λ path c. absurd (none_first order path (own path c)))
  stand_for held files order is has (suc n) ss own =
      stands ss (tree_named files) (bodies_within files (suc n))
      (λ path c. has path (is.within path (whole order (suc n) path (own path c))))
      (λ path c. stand_for held files order is has n (tree_named files path).body_of (λ further d. before files order is n path further (own path c) (in_file (tree_named files path) further d)))

mutual
  unfolding places_within

  pub have_places : (held : Held) (files : List ReadFile) (order : List (List ℕ)) (is : IsIncludeOrder files order) (has : AreHeld held files) (n : ℕ) (ss : PlainStmts)
      → ((path : List ℕ) → Contains (includes_in ss) path → Contains (take n order) path) → HasPlaces held ss (one_each (places_within files n) (includes_in ss))
  have_places held files order is has zero ss own = counted ss (tree_named files) (places_within files zero) (λ path c. absurd (none_first order path (own path c))) (λ path c. absurd (none_first order path (own path c)))
  have_places held files order is has (suc n) ss own =
      counted ss (tree_named files) (places_within files (suc n))
      (λ path c. has path (is.within path (whole order (suc n) path (own path c))))
      (λ path c. have_places held files order is has n (tree_named files path).body_of (λ further d. before files order is n path further (own path c) (in_file (tree_named files path) further d)))

-- whatever a file includes, directly or through others, stands before it
leads_before : (held : Held) (files : List ReadFile) (order : List (List ℕ)) → HasOneTree held → IsIncludeOrder files order → AreHeld held files → (n : ℕ) (file path : List ℕ) → LeadsTo held file path → Contains (take (suc n) order) file → Contains (take n order) path
leads_before held files order one is has n file path (directly _ _ tree spelled own) c =
    let same = one file tree (tree_named files file) spelled (has file (is.within file (whole order (suc n) file c))) in
    let P : PlainFile → Type 0 = λ t. Contains (includes_of_file t) path in
    before files order is n file path c (subst P same own)
leads_before held files order one is has zero file path (through _ next _ tree spelled own rest) c =
    let same = one file tree (tree_named files file) spelled (has file (is.within file (whole order 1 file c))) in
    let P : PlainFile → Type 0 = λ t. Contains (includes_of_file t) next in
    absurd (none_first order next (before files order is 0 file next c (subst P same own)))
leads_before held files order one is has (suc n) file path (through _ next _ tree spelled own rest) c =
    let same = one file tree (tree_named files file) spelled (has file (is.within file (whole order (suc (suc n)) file c))) in
    let P : PlainFile → Type 0 = λ t. Contains (includes_of_file t) next in
    let first = before files order is (suc n) file next c (subst P same own) in
    longer order n (suc n) path (omega arith) (leads_before held files order one is has n next path rest first)

no_circle : (held : Held) (files : List ReadFile) (order : List (List ℕ)) → HasOneTree held → IsIncludeOrder files order → AreHeld held files → (path : List ℕ) → LeadsTo held path path → (n : ℕ) → Contains (take n order) path → ⊥
no_circle held files order one is has path circle zero c = none_first order path c
no_circle held files order one is has path circle (suc n) c = no_circle held files order one is has path circle n (leads_before held files order one is has n path path circle c)

all_first : (xs : List (List ℕ)) (x : List ℕ) → Contains xs x → Contains (take (length xs) xs) x
all_first xs x c = let e : take (length xs) xs ≡ xs = grind (arith, common_steps) in subst (λ (ys : List (List ℕ)). Contains ys x) (sym e) c

pub none_in_itself : (held : Held) (files : List ReadFile) (order : List (List ℕ)) (path : List ℕ) → HasOneTree held → IsIncludeOrder files order → AreHeld held files → Contains order path → LeadsTo held path path → ⊥
none_in_itself held files order path one is has c circle = no_circle held files order one is has path circle (length order) (all_first order path c)
