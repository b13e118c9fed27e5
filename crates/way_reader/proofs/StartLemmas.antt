-- Ways that begin by the numbers of all forms are the forms as a whole.
use Rattle.std.proofs.Common.{◌≡◌, ◌+◌, ◌*◌, ℕ, zero, suc, Bool, false, List, [], ◌∷◌, ◌++◌, Some, map, length, slice_get, refl, sym, ◌∙◌, ap, subst, arith}
use Rattle.std.specs.Prelude.{◌==◌, ◌&&◌, ◌||◌, not, if◌then◌else◌, min}
use Rattle.std.proofs.lemmas.Bool.Decides.{nat_tests}
use Rattle.text_base.specs.declared.page_token.PageToken.{PageToken}
use Rattle.text_base.specs.declared.page_token.PageToken.TheVariants as token
use Rattle.byte_readers.specs.Reading.{emitted}
use Rattle.byte_readers.specs.declared.emit.Emit.{Emit}
use Rattle.byte_readers.specs.declared.emit.Emit.TheVariants.{Nothing, One}
use Rattle.dtd_model.specs.Table.{Rule, Table}
use Rattle.derivatives.specs.Expressions.{Expr}
use Rattle.derivatives.specs.Standing.{expr_at}
use Rattle.derivatives.specs.declared.arena.Arena.{Arena}
use Rattle.page_model.specs.Places.{Place, at_beginning, behind_mark, behind, brackets}
use Rattle.page_forms.specs.Declarations.{declaration_form}
use Rattle.page_forms.specs.Doctypes.{doctype_form}
use Rattle.page_forms.specs.References.{reference_form}
use Rattle.page_forms.specs.Remarks.{comment_form, section_form, instruction_form}
use Rattle.page_forms.specs.Simple.{blank_form, bracket_form, is_mark, text_form, mark_form}
use Rattle.page_forms.specs.Words.{character_of}
use Rattle.page_forms.specs.Forms.{Form, giving as form_giving, elements_forms, leaf_forms, forms}
use Rattle.form_maker.specs.Kept.{shared, simple_forms, tag_forms, all_forms}
use Rattle.way_reader.specs.Laws.{IsWhole, AreWhole}
use Rattle.way_reader.specs.Reader.{starts_at}
use Rattle.way_reader.specs.Starts.{number_at, whole, giving, brackets_behind, text_at, text, others, elements, all, AreStarts}
use Rattle.way_reader.specs.declared.reader.Starts.{Starts}
use Rattle.way_reader.specs.declared.way.Spot.{Spot}
use Rattle.way_reader.specs.declared.way.Spot.TheVariants.{Beginning, BehindMark, Behind}
use Rattle.way_reader.specs.declared.way.Way.{Way}

head_is : {A : Type 0} {x y : A} {xs ys : List A} → x ∷ xs ≡ y ∷ ys → x ≡ y
head_is e = cc

tail_is : {A : Type 0} {x y : A} {xs ys : List A} → x ∷ xs ≡ y ∷ ys → xs ≡ ys
tail_is e = cc

some_is : {A : Type 0} {x y : A} → Some x ≡ Some y → x ≡ y
some_is e = cc

-- the number at a place stands for what stands there
number_is : (f : ℕ → Expr) (ns : List ℕ) (es : List Expr) (i : ℕ) (e : Expr) → map f ns ≡ es → slice_get es i ≡ Some e → f (number_at ns i) ≡ e
number_is f [] [] i e m h = cc
number_is f [] (x ∷ es) i e m h = cc
number_is f (n ∷ ns) [] i e m h = cc
number_is f (n ∷ ns) (x ∷ es) zero e m h = head_is m ∙ some_is h
number_is f (n ∷ ns) (x ∷ es) (suc i) e m h = number_is f ns es i e (tail_is m) h

-- a form whose expression stands at a place
given : (a : Arena) (ns : List ℕ) (i : ℕ) (emit : Emit) (e : Expr) (ts : List PageToken) → expr_at a (number_at ns i) ≡ e → emitted emit ≡ ts → IsWhole a (giving ns i emit) (form_giving e ts)
given a ns i emit e ts is t = record { number = number_at ns i; parts = refl; is = is; tokens = t; leads = refl }

-- tags
abbrev Tags : Arena → List ℕ → List Expr → ℕ → Type 0
Tags a ns es n = (i : ℕ) (e : Expr) → slice_get es i ≡ Some e → expr_at a (number_at ns (18 + 3 * n + i)) ≡ e

first_of : (n : ℕ) → 18 + 3 * n + 0 ≡ 18 + 3 * n
first_of n = omega arith

next_of : (n i : ℕ) → 18 + 3 * suc n + i ≡ 18 + 3 * n + suc (suc (suc i))
next_of n i = omega arith

tags_whole : (a : Arena) (ns : List ℕ) (entities : List (List ℕ)) (n : ℕ) (rules : List Rule) → Tags a ns (tag_forms entities rules) n → AreWhole a (elements ns n (length rules)) (elements_forms entities n rules)
tags_whole a ns entities n [] h = tt
tags_whole a ns entities n (rule ∷ rules) h = (
  given a ns (18 + 3 * n) _ _ _ (ap (λ i. expr_at a (number_at ns i)) (sym (first_of n)) ∙ h 0 _ refl) refl,
  (
    given a ns (18 + 3 * n + 1) _ _ _ (h 1 _ refl) refl,
    (
      given a ns (18 + 3 * n + 2) _ _ _ (h 2 _ refl) refl,
      tags_whole a ns entities (suc n) rules (λ i e k. ap (λ j. expr_at a (number_at ns j)) (next_of n i) ∙ h (suc (suc (suc i))) e k),
    ),
  ),
)

-- the forms at a place, by the number of what stands at each
abbrev Stands : Arena → List ℕ → Table → Type 0
Stands a ns table = (i : ℕ) (e : Expr) → slice_get (all_forms table) i ≡ Some e → expr_at a (number_at ns i) ≡ e

abbrev behind_all : ℕ → ℕ
behind_all i = suc (suc (suc (suc (suc (suc (suc (suc (suc (suc (suc (suc (suc (suc (suc (suc (suc (suc i)))))))))))))))))

behind_all_is : (i : ℕ) → 18 + 3 * 0 + i ≡ behind_all i
behind_all_is i = omega arith

tags_stand : (a : Arena) (ns : List ℕ) (table : Table) → Stands a ns table → Tags a ns (tag_forms table.entities table.elements) 0
unfolding shared simple_forms
tags_stand a ns table h = λ i e k. ap (λ (j : ℕ). expr_at a (number_at ns j)) (behind_all_is i) ∙ h (behind_all i) e k

-- what stands at a spot, but for what may come before all else
leaves : (a : Arena) (ns : List ℕ) (table : Table) (place : Place) (spot : Spot) → Stands a ns table → expr_at a (number_at ns (text_at spot)) ≡ text_form place → brackets_behind spot ≡ min 2 (suc (brackets place))
    → AreWhole a (text ns spot ++ (others ns ++ elements ns 0 (length table.elements)))
    (leaf_forms table.entities place (form_giving (doctype_form table.doctype) (token.Doctype ∷ []) ∷ elements_forms table.entities 0 table.elements))
unfolding shared simple_forms
leaves a ns table place spot h t b =
    let bracket : Way = whole (number_at ns 9) (One token.Text) (Behind (brackets_behind spot)) in
    let form : Form = record { expression = bracket_form; tokens = token.Text ∷ []; leads_to = behind (min 2 (suc (brackets place))) } in
    let is : IsWhole a bracket form = record { number = number_at ns 9; parts = refl; is = h 9 bracket_form refl; tokens = refl; leads = ap behind b } in (
      given a ns 8 (One token.Blank) blank_form (token.Blank ∷ []) (h 8 blank_form refl) refl,
      (
        is,
        (
          given a ns (text_at spot) (One token.Text) (text_form place) (token.Text ∷ []) t refl,
          (
            given a ns 0 (One token.Text) (reference_form table.entities) (token.Text ∷ []) (h 0 (reference_form table.entities) refl) refl,
            (
              given a ns 10 (One token.Text) section_form (token.Text ∷ []) (h 10 section_form refl) refl,
              (
                given a ns 11 (One token.Misc) comment_form (token.Misc ∷ []) (h 11 comment_form refl) refl,
                (
                  given a ns 12 (One token.Misc) instruction_form (token.Misc ∷ []) (h 12 instruction_form refl) refl,
                  (
                    given a ns 13 (One token.Doctype) (doctype_form table.doctype) (token.Doctype ∷ []) (h 13 (doctype_form table.doctype) refl) refl,
                    tags_whole a ns table.entities 0 table.elements (tags_stand a ns table h),
                  ),
                ),
              ),
            ),
          ),
        ),
      ),
    )

first_whole : (a : Arena) (ns : List ℕ) (table : Table) → Stands a ns table → AreWhole a (all ns (length table.elements) Beginning) (forms table at_beginning)
unfolding forms shared simple_forms
first_whole a ns table h =
    let mark : Way = whole (number_at ns 6) Nothing BehindMark in
    let form : Form = record { expression = mark_form; tokens = []; leads_to = behind_mark } in
    let is : IsWhole a mark form = record { number = number_at ns 6; parts = refl; is = h 6 mark_form refl; tokens = refl; leads = refl } in
    (is, (given a ns 7 Nothing declaration_form [] (h 7 declaration_form refl) refl, leaves a ns table at_beginning Beginning h (h 14 (text_form at_beginning) refl) refl))

mark_whole : (a : Arena) (ns : List ℕ) (table : Table) → Stands a ns table → AreWhole a (all ns (length table.elements) BehindMark) (forms table behind_mark)
unfolding forms shared simple_forms
mark_whole a ns table h = (given a ns 7 Nothing declaration_form [] (h 7 declaration_form refl) refl, leaves a ns table behind_mark BehindMark h (h 15 (text_form behind_mark) refl) refl)

-- text is the same behind any number of `]` but two
text_same : (k : ℕ) → (k == 2) ≡ false → text_form (behind 0) ≡ text_form (behind k)
text_same k e = sym (ap (λ (b : Bool). character_of (λ c. not (c == 60 || c == 38 || is_mark c) && not (c == 62 && b))) e)

none_whole : (a : Arena) (ns : List ℕ) (table : Table) → Stands a ns table → AreWhole a (all ns (length table.elements) (Behind 0)) (forms table (behind 0))
unfolding forms shared simple_forms
none_whole a ns table h = leaves a ns table (behind 0) (Behind 0) h (h 16 (text_form (behind 0)) refl) refl

two_whole : (a : Arena) (ns : List ℕ) (table : Table) → Stands a ns table → AreWhole a (all ns (length table.elements) (Behind 2)) (forms table (behind 2))
unfolding forms shared simple_forms
two_whole a ns table h = leaves a ns table (behind 2) (Behind 2) h (h 17 (text_form (behind 2)) refl) refl

some_whole : (a : Arena) (ns : List ℕ) (table : Table) (k : ℕ) → (k == 2) ≡ false → 2 ≡ min 2 (suc k) → Stands a ns table → AreWhole a (all ns (length table.elements) (Behind 1)) (forms table (behind k))
unfolding forms shared simple_forms
some_whole a ns table k e m h = leaves a ns table (behind k) (Behind 1) h (h 16 (text_form (behind 0)) refl ∙ text_same k e) m

abbrev three : ℕ → ℕ
three j = suc (suc (suc j))

not_none : (j : ℕ) → (three j == 0) ≡ false
not_none j = grind (arith, nat_tests)

not_two : (j : ℕ) → (three j == 2) ≡ false
not_two j = grind (arith, nat_tests)

two_least : (j : ℕ) → 2 ≡ min 2 (suc (three j))
two_least j = omega arith

many_at : (s : Starts) (j : ℕ) → starts_at s (behind (three j)) ≡ s.behind_one.items
many_at s j =
    ap (λ (b : Bool). if b then s.behind.items else (if three j == 2 then s.behind_two.items else s.behind_one.items)) (not_none j)
    ∙ ap (λ (b : Bool). if b then s.behind_two.items else s.behind_one.items) (not_two j)

-- where the numbers stand for all forms, pieces begin in ways that are the forms as a whole
pub starts_whole : (table : Table) (a : Arena) (ns : List ℕ) (count : ℕ) (s : Starts) → map (expr_at a) ns ≡ all_forms table → count ≡ length table.elements → AreStarts ns count s → (place : Place)
    → AreWhole a (starts_at s place) (forms table place)
starts_whole table a ns count s made counted is place =
    let h : Stands a ns table = λ i e k. number_is (expr_at a) ns (all_forms table) i e made k in
    at place h
  where
    by : (spot : Spot) (ways : List Way) (p : Place) → ways ≡ all ns count spot → AreWhole a (all ns (length table.elements) spot) (forms table p) → AreWhole a ways (forms table p)
    by spot ways p e w = subst (λ (ws : List Way). AreWhole a ws (forms table p)) (sym (e ∙ ap (λ (n : ℕ). all ns n spot) counted)) w

    at : (p : Place) → Stands a ns table → AreWhole a (starts_at s p) (forms table p)
    at at_beginning h = by Beginning s.beginning.items at_beginning is.beginning (first_whole a ns table h)
    at behind_mark h = by BehindMark s.behind_mark.items behind_mark is.behind_mark (mark_whole a ns table h)
    at (behind zero) h = by (Behind 0) s.behind.items (behind 0) is.behind (none_whole a ns table h)
    at (behind (suc zero)) h = by (Behind 1) s.behind_one.items (behind 1) is.behind_one (some_whole a ns table 1 refl refl h)
    at (behind (suc (suc zero))) h = by (Behind 2) s.behind_two.items (behind 2) is.behind_two (two_whole a ns table h)
    at (behind (suc (suc (suc j)))) h =
        subst (λ (ws : List Way). AreWhole a ws (forms table (behind (three j)))) (sym (many_at s j))
        (by (Behind 1) s.behind_one.items (behind (three j)) is.behind_one (some_whole a ns table (three j) (not_two j) (two_least j) h))
