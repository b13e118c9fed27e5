-- Ways by the numbers of kept expressions are the forms as wholes.
use Rattle.std.proofs.Common.{◌≡◌, ◌<◌, ℕ, zero, suc, Bool, true, false, List, [], ◌∷◌, refl, sym, ◌∙◌, ap, subst, arith}
use Rattle.std.specs.Prelude.{◌==◌, ◌&&◌, ◌||◌, not, nat_lt, min, length, map, get_or, if◌then◌else◌}
use Rattle.std.proofs.lemmas.Bool.{eqb-true, ltb-true}
use Rattle.std.proofs.lemmas.Bool.Decides.{nat_tests}
use Rattle.dtd_model.specs.Table.{Table}
use Rattle.derivatives.specs.Expressions.{Expr, nothing}
use Rattle.derivatives.specs.Standing.{expr_at}
use Rattle.derivatives.specs.declared.arena.Arena.{Arena}
use Rattle.page_model.specs.Places.{at_beginning, behind_mark, behind}
use Rattle.page_forms.specs.Forms.{Form}
use Rattle.page_forms.specs.Simple.{is_mark}
use Rattle.page_forms.specs.Words.{character_of}
use Rattle.form_maker.specs.Kept.{simple_forms}
use Rattle.coarse_forms.specs.CoarseForms.{coarse_form}
use Rattle.coarse_forms.specs.Languages.{coarse_forms}
use Rattle.broken_forms.specs.LooseForms.{loose_forms}
use Rattle.way_reader.specs.declared.reader.Starts.{Starts}
use Rattle.way_reader.specs.declared.way.Spot.{Spot}
use Rattle.way_reader.specs.declared.way.Way.{Way}
use Rattle.way_reader.specs.Laws.{AreWhole}
use Rattle.way_reader.specs.Reader.{starts_at}
use Rattle.way_reader.specs.Ways.{place_of}
use Rattle.broken_readers.specs.declared.starting.TheConstants.{AT_BEGINNING, BEHIND_MARK, BEHIND_NONE, BEHIND_ONE, BEHIND_TWO, COARSE}
use Rattle.broken_readers.specs.Kept.{kept_forms}
use Rattle.broken_readers.specs.Starts.{silent_way, AreSilent, AreLooseWays, AreCoarseWays}

-- each row names one of the expressions, which is that of a form without tokens, and the place behind the form
abbrev Fit : List Expr → List (ℕ × Spot) → List Form → Type 0
Fit es [] [] = Unit {0}
Fit es [] (f ∷ fs) = ⊥
Fit es (row ∷ rows) [] = ⊥
Fit es (row ∷ rows) (f ∷ fs) = (nat_lt row.0 (length es) ≡ true) × (get_or es row.0 nothing ≡ f.expression) × ([] ≡ f.tokens) × (place_of row.1 ≡ f.leads_to) × Fit es rows fs

at_place : (f : ℕ → Expr) (ns : List ℕ) (i : ℕ) → i < length (map f ns) → get_or (map f ns) i nothing ≡ f (get_or ns i 0)
at_place f [] i l = absurd (omega (arith, l))
at_place f (n ∷ ns) zero l = refl
at_place f (n ∷ ns) (suc i) l = at_place f ns i (omega (arith, l))

whole_rows : (a : Arena) (ns : List ℕ) (es : List Expr) → map (expr_at a) ns ≡ es → (rows : List (ℕ × Spot)) (fs : List Form) → Fit es rows fs → AreWhole a (map (silent_way ns) rows) fs
whole_rows a ns es e [] [] h = tt
whole_rows a ns es e [] (f ∷ fs) h = absurd h
whole_rows a ns es e (row ∷ rows) [] h = absurd h
whole_rows a ns es e (row ∷ rows) (f ∷ fs) h = (
  record {
    number = get_or ns row.0 0;
    parts = refl;
    is = sym (at_place (expr_at a) ns row.0 (ltb-true row.0 (length (map (expr_at a) ns)) (ap (λ (xs : List Expr). nat_lt row.0 (length xs)) e ∙ h.0))) ∙ ap (λ (xs : List Expr). get_or xs row.0 nothing) e ∙ h.1;
    tokens = h.2;
    leads = h.3;
  },
  whole_rows a ns es e rows fs h.4,
)

-- text behind no two `]`, and behind two
abbrev text_by : Bool → Expr
text_by b = character_of (λ c. not (c == 60 || c == 38 || is_mark c) && not (c == 62 && b))

fits_beginning : (table : Table) → Fit (kept_forms table) AT_BEGINNING (loose_forms table at_beginning)
unfolding simple_forms loose_forms
fits_beginning table = (refl, refl, refl, refl, (refl, refl, refl, refl, (refl, refl, refl, refl, (refl, refl, refl, refl, (refl, refl, refl, refl, (refl, refl, refl, refl, (refl, refl, refl, refl, (refl, refl, refl, refl, (refl, refl, refl, refl, (refl, refl, refl, refl, (refl, refl, refl, refl, (refl, refl, refl, refl, tt))))))))))))

fits_mark : (table : Table) → Fit (kept_forms table) BEHIND_MARK (loose_forms table behind_mark)
unfolding simple_forms loose_forms
fits_mark table = (refl, refl, refl, refl, (refl, refl, refl, refl, (refl, refl, refl, refl, (refl, refl, refl, refl, (refl, refl, refl, refl, (refl, refl, refl, refl, (refl, refl, refl, refl, (refl, refl, refl, refl, (refl, refl, refl, refl, (refl, refl, refl, refl, (refl, refl, refl, refl, tt)))))))))))

fits_none : (table : Table) → Fit (kept_forms table) BEHIND_NONE (loose_forms table (behind 0))
unfolding simple_forms loose_forms
fits_none table = (refl, refl, refl, refl, (refl, refl, refl, refl, (refl, refl, refl, refl, (refl, refl, refl, refl, (refl, refl, refl, refl, (refl, refl, refl, refl, (refl, refl, refl, refl, (refl, refl, refl, refl, (refl, refl, refl, refl, (refl, refl, refl, refl, tt))))))))))

fits_two : (table : Table) → Fit (kept_forms table) BEHIND_TWO (loose_forms table (behind 2))
unfolding simple_forms loose_forms
fits_two table = (refl, refl, refl, refl, (refl, refl, refl, refl, (refl, refl, refl, refl, (refl, refl, refl, refl, (refl, refl, refl, refl, (refl, refl, refl, refl, (refl, refl, refl, refl, (refl, refl, refl, refl, (refl, refl, refl, refl, (refl, refl, refl, refl, tt))))))))))

-- more than two are as one
fits_more : (table : Table) (k : ℕ) → (k == 0) ≡ false → (k == 2) ≡ false → Fit (kept_forms table) BEHIND_ONE (loose_forms table (behind k))
unfolding simple_forms loose_forms
fits_more table k z t = (refl, refl, refl, refl, (refl, refl, refl, two k z, (refl, sym (ap text_by t), refl, refl, (refl, refl, refl, refl, (refl, refl, refl, refl, (refl, refl, refl, refl, (refl, refl, refl, refl, (refl, refl, refl, refl, (refl, refl, refl, refl, (refl, refl, refl, refl, tt))))))))))
  where
    two : (k : ℕ) → (k == 0) ≡ false → behind 2 ≡ behind (min 2 (suc k))
    two k z = ap behind (let e : 2 ≡ min 2 (suc k) = grind (arith, nat_tests) in e)

pub loose_whole : (table : Table) (a : Arena) (ns : List ℕ) (starts : Starts) → map (expr_at a) ns ≡ kept_forms table → AreSilent ns starts AT_BEGINNING BEHIND_MARK BEHIND_NONE BEHIND_ONE BEHIND_TWO
    → AreLooseWays table a (starts_at starts)
loose_whole table a ns starts e s at_beginning =
    subst (λ (ws : List Way). AreWhole a ws (loose_forms table at_beginning)) (sym s.at_beginning) (whole_rows a ns (kept_forms table) e AT_BEGINNING (loose_forms table at_beginning) (fits_beginning table))
loose_whole table a ns starts e s behind_mark =
    subst (λ (ws : List Way). AreWhole a ws (loose_forms table behind_mark)) (sym s.behind_mark) (whole_rows a ns (kept_forms table) e BEHIND_MARK (loose_forms table behind_mark) (fits_mark table))
loose_whole table a ns starts e s (behind k) = at (k == 0) refl (k == 2) refl
  where
    at : (x : Bool) → (k == 0) ≡ x → (y : Bool) → (k == 2) ≡ y → AreWhole a (if x then starts.behind.items else (if y then starts.behind_two.items else starts.behind_one.items)) (loose_forms table (behind k))
    at true z y t =
        subst (λ (n : ℕ). AreWhole a starts.behind.items (loose_forms table (behind n))) (sym (eqb-true k 0 z))
        (subst (λ (ws : List Way). AreWhole a ws (loose_forms table (behind 0))) (sym s.behind_none) (whole_rows a ns (kept_forms table) e BEHIND_NONE (loose_forms table (behind 0)) (fits_none table)))
    at false z true t =
        subst (λ (n : ℕ). AreWhole a starts.behind_two.items (loose_forms table (behind n))) (sym (eqb-true k 2 t))
        (subst (λ (ws : List Way). AreWhole a ws (loose_forms table (behind 2))) (sym s.behind_two) (whole_rows a ns (kept_forms table) e BEHIND_TWO (loose_forms table (behind 2)) (fits_two table)))
    at false z false t =
        subst (λ (ws : List Way). AreWhole a ws (loose_forms table (behind k))) (sym s.behind_one) (whole_rows a ns (kept_forms table) e BEHIND_ONE (loose_forms table (behind k)) (fits_more table k z t))

pub coarse_whole : (a : Arena) (ns : List ℕ) (starts : Starts) → map (expr_at a) ns ≡ coarse_form ∷ [] → AreSilent ns starts COARSE COARSE COARSE COARSE COARSE → AreCoarseWays a (starts_at starts)
coarse_whole a ns starts e s at_beginning = subst (λ (ws : List Way). AreWhole a ws (coarse_forms at_beginning)) (sym s.at_beginning) (whole_rows a ns (coarse_form ∷ []) e COARSE (coarse_forms at_beginning) (refl, refl, refl, refl, tt))
coarse_whole a ns starts e s behind_mark = subst (λ (ws : List Way). AreWhole a ws (coarse_forms behind_mark)) (sym s.behind_mark) (whole_rows a ns (coarse_form ∷ []) e COARSE (coarse_forms behind_mark) (refl, refl, refl, refl, tt))
coarse_whole a ns starts e s (behind k) = at (k == 0) (k == 2)
  where
    whole : AreWhole a (map (silent_way ns) COARSE) (coarse_forms (behind k))
    whole = whole_rows a ns (coarse_form ∷ []) e COARSE (coarse_forms (behind k)) (refl, refl, refl, refl, tt)

    at : (x y : Bool) → AreWhole a (if x then starts.behind.items else (if y then starts.behind_two.items else starts.behind_one.items)) (coarse_forms (behind k))
    at true y = subst (λ (ws : List Way). AreWhole a ws (coarse_forms (behind k))) (sym s.behind_none) whole
    at false true = subst (λ (ws : List Way). AreWhole a ws (coarse_forms (behind k))) (sym s.behind_two) whole
    at false false = subst (λ (ws : List Way). AreWhole a ws (coarse_forms (behind k))) (sym s.behind_one) whole
