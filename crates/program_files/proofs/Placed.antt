-- Includes by the names that were read.
use Rattle.std.proofs.Common.{◌≡◌, ◌∙◌, ℕ, Bool, true, false, List, sym, ap}
use Rattle.std.specs.Prelude.{◌||◌, if◌then◌else◌}
use Rattle.io_edge.specs.Names.{beside}
use Rattle.script_grammar.specs.Rules.{is_utf8}
use Rattle.program_rules.specs.Files.{has_one_place}
use Rattle.program_files.specs.Steps.{is_among, placed, placed_or_same}

-- at the first place
pub at_first : (names : List (List ℕ)) (main file written name : List ℕ) → name ≡ beside main written → (has_one_place written || is_among names name) ≡ true → name ≡ placed names main file written
unfolding placed
at_first names main file written name is e =
    is ∙ sym (ap (λ (b : Bool). if b then beside main written else beside file written) (ap (λ (x : List ℕ). has_one_place written || is_among names x) (sym is) ∙ e))

-- at the second
pub at_second : (names : List (List ℕ)) (main file written first name : List ℕ) → first ≡ beside main written → (has_one_place written || is_among names first) ≡ false → name ≡ beside file written → name ≡ placed names main file written
unfolding placed
at_second names main file written first name is e name_is =
    name_is ∙ sym (ap (λ (b : Bool). if b then beside main written else beside file written) (ap (λ (x : List ℕ). has_one_place written || is_among names x) (sym is) ∙ e))

-- of a text, and of what is none
pub text_placed : (names : List (List ℕ)) (main file written : List ℕ) → is_utf8 written ≡ true → placed names main file written ≡ placed_or_same names main file written
unfolding placed_or_same
text_placed names main file written e = sym (ap (λ (b : Bool). if b then placed names main file written else written) e)

pub other_stays : (names : List (List ℕ)) (main file written : List ℕ) → is_utf8 written ≡ false → written ≡ placed_or_same names main file written
unfolding placed_or_same
other_stays names main file written e = sym (ap (λ (b : Bool). if b then placed names main file written else written) e)
