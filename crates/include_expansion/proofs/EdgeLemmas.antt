-- The places of the files that a file includes.
use Rattle.std.proofs.Common.{◌≡◌, ◌∙◌, ◌<◌, ◌≤◌, ◌+◌, ℕ, zero, suc, List, [], ◌∷◌, ◌++◌, length, drop, get_or, Option, Some, None, slice_get, append_assoc, inl, inr, refl, sym, ap, subst, arith, length-append}
use Rattle.std.proofs.lemmas.List.{append-nil, drop_more, drop_all}
use Rattle.std.specs.Prelude.{◌⊎◌}
use Rattle.std.specs.List.{Contains}
use Rattle.smallvec.specs.SmallVec.{SmallVec}
use Rattle.std.proofs.lemmas.List.Elements.{Contains-append_right}
use Rattle.std.proofs.lemmas.Option.{same_Some}
use Rattle.strong_components.proofs.OrderListLemmas.{push_cases}
use Rattle.program_rules.specs.Includes.{includes_of_file}
use Rattle.program_rules.specs.Programs.{ReadFile}
use Rattle.program_files.specs.Order.{place_of}
use Rattle.include_expansion.specs.FileEdges.{with_place, places_of, AreEdges}

later : {X : Type 0} (x y : X) (xs : List X) → Contains xs y → Contains (x ∷ xs) y
later x y xs c = Contains-append_right (x ∷ []) xs y c

put_first : (o : Option ℕ) (ps : List ℕ) (place : ℕ) → o ≡ Some place → Contains (with_place o ps) place
put_first None ps place e = absurd (cc)
put_first (Some i) ps place e = (0, omega arith, same_Some i place e)

put_later : (o : Option ℕ) (ps : List ℕ) (place : ℕ) → Contains ps place → Contains (with_place o ps) place
put_later None ps place c = c
put_later (Some i) ps place c = later i place ps c

pub among : (files : List ReadFile) (paths : List (List ℕ)) (path : List ℕ) (place : ℕ) → Contains paths path → place_of files path ≡ Some place → Contains (places_of files paths) place
among files [] path place c e = absurd (let h = c.1 in omega arith)
among files (p ∷ ps) path place (zero, lt, is) e = put_first (place_of files p) (places_of files ps) place (ap (place_of files) is ∙ e)
among files (p ∷ ps) path place (suc i, lt, is) e = put_later (place_of files p) (places_of files ps) place (among files ps path place (i, omega arith, is) e)

put_cases : (o : Option ℕ) (ps : List ℕ) (place : ℕ) → Contains (with_place o ps) place → (o ≡ Some place) ⊎ Contains ps place
put_cases None ps place c = inr c
put_cases (Some i) ps place (zero, lt, is) = inl (ap Some is)
put_cases (Some i) ps place (suc k, lt, is) = inr (k, omega arith, is)

pub named : (files : List ReadFile) (paths : List (List ℕ)) (place : ℕ) → Contains (places_of files paths) place → (path : List ℕ) × Contains paths path × (place_of files path ≡ Some place)
named files [] place c = absurd (let h = c.1 in omega arith)
named files (p ∷ ps) place c = elim (put_cases (place_of files p) (places_of files ps) place c) [
  | inl e ↦ (p, (0, omega arith, refl), e)
  | inr d ↦ (let r = named files ps place d in (r.0, later p r.0 ps r.1, r.2))
]

-- what is left of a list from a place on
drop_here : {X : Type 0} (xs : List X) (i : ℕ) (x : X) → i < length xs → x ≡ get_or xs i x → drop i xs ≡ x ∷ drop (i + 1) xs
drop_here xs i x lt is = drop_more xs i x lt ∙ ap (λ z. z ∷ drop (i + 1) xs) (sym is)

-- a loop over paths: what is found, before what is left to find
pub found_none : (files : List ReadFile) (paths : List (List ℕ)) (found : List ℕ) (i : ℕ) (path : List ℕ) → i < length paths → path ≡ get_or paths i path → place_of files path ≡ None
    → found ++ places_of files (drop i paths) ≡ places_of files paths → found ++ places_of files (drop (i + 1) paths) ≡ places_of files paths
found_none files paths found i path lt is none inv =
    sym (ap (λ (ps : List (List ℕ)). found ++ places_of files ps) (drop_here paths i path lt is) ∙ ap (λ (o : Option ℕ). found ++ with_place o (places_of files (drop (i + 1) paths))) none) ∙ inv

pub found_one : (files : List ReadFile) (paths : List (List ℕ)) (found more : List ℕ) (i : ℕ) (path : List ℕ) (place : ℕ) → i < length paths → path ≡ get_or paths i path → place_of files path ≡ Some place
    → more ≡ found ++ place ∷ [] → found ++ places_of files (drop i paths) ≡ places_of files paths → more ++ places_of files (drop (i + 1) paths) ≡ places_of files paths
found_one files paths found more i path place lt is one push inv =
    ap (λ (xs : List ℕ). xs ++ places_of files (drop (i + 1) paths)) push ∙ append_assoc found (place ∷ []) (places_of files (drop (i + 1) paths))
    ∙ sym (ap (λ (ps : List (List ℕ)). found ++ places_of files ps) (drop_here paths i path lt is) ∙ ap (λ (o : Option ℕ). found ++ with_place o (places_of files (drop (i + 1) paths))) one) ∙ inv

pub found_all : (files : List ReadFile) (paths : List (List ℕ)) (found : List ℕ) (i : ℕ) → length paths ≤ i → found ++ places_of files (drop i paths) ≡ places_of files paths → found ≡ places_of files paths
found_all files paths found i le inv = sym (append-nil found) ∙ sym (ap (λ (ps : List (List ℕ)). found ++ places_of files ps) (drop_all i paths le)) ∙ inv

-- the edges of the first files
pub record AreFirstEdges (files : List ReadFile) (edges : List (SmallVec ℕ)) (n : ℕ) : Type 0 where
  pub each : (place : ℕ) (file : ReadFile) (targets : SmallVec ℕ) → slice_get files place ≡ Some file → slice_get edges place ≡ Some targets → targets.items ≡ places_of files (includes_of_file file.tree)
  pub size : length edges ≡ n

pub no_edges : (files : List ReadFile) (edges : List (SmallVec ℕ)) → edges ≡ [] → AreFirstEdges files edges 0
no_edges files edges none = record {
  each = λ place file targets at is. absurd (let h : slice_get [] place ≡ Some targets = subst (λ (es : List (SmallVec ℕ)). slice_get es place ≡ Some targets) none is in cc);
  size = ap (λ (es : List (SmallVec ℕ)). length es) none;
}

pub one_edge : (files : List ReadFile) (edges more : List (SmallVec ℕ)) (n : ℕ) (file : ReadFile) (targets : SmallVec ℕ) → AreFirstEdges files edges n → more ≡ edges ++ targets ∷ [] → slice_get files n ≡ Some file
    → targets.items ≡ places_of files (includes_of_file file.tree) → AreFirstEdges files more (n + 1)
one_edge files edges more n file targets so push at own = record {
  each = λ place other these here is. elim (push_cases edges targets place these (subst (λ (es : List (SmallVec ℕ)). slice_get es place ≡ Some these) push is)) [
    | inl p ↦ so.each place other these here p.1
    | inr p ↦ (
        let same : file ≡ other = same_Some file other (sym at ∙ ap (λ (k : ℕ). slice_get files k) (sym so.size ∙ sym p.0) ∙ here) in
        sym (ap (λ (v : SmallVec ℕ). v.items) p.1) ∙ own ∙ ap (λ (f : ReadFile). places_of files (includes_of_file f.tree)) same
        )
  ];
  size = ap (λ (es : List (SmallVec ℕ)). length es) push ∙ length-append edges (targets ∷ []) ∙ ap (λ (k : ℕ). k + 1) so.size;
}

pub all_edges : (files : List ReadFile) (edges : List (SmallVec ℕ)) (n : ℕ) → AreFirstEdges files edges n → n ≡ length files → AreEdges files edges
all_edges files edges n so e = record { each = so.each; size = so.size ∙ e }
