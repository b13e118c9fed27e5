-- Worked content models, definitions and references, and near misses.
use Rattle.std.proofs.Common.{◌≡◌, Bool, true, false, List, [], ◌∷◌, refl, codes}
use Rattle.dtd_model.specs.Lawful.{is_distinct, are_names, height, is_within, has_matches}
use Rattle.dtd_model.specs.References.{decimal, hexadecimal, entity, is_reference, is_known}
use Rattle.dtd_model.specs.Matches.{model_matches, matches, may_be_empty, after}
use Rattle.dtd_model.specs.Table.{Model, one, sequence, choice, optional, any_number, at_least_one, no_models, more_models, text_and, children}

-- Content models.

-- (a, b?, c)
abbrev in_turn : Model
in_turn = sequence (more_models (one 0) (more_models (optional (one 1)) (more_models (one 2) no_models)))

pub all_three : model_matches in_turn (0 ∷ 1 ∷ 2 ∷ []) ≡ true
unfolding may_be_empty after
all_three = refl

pub without_the_second : model_matches in_turn (0 ∷ 2 ∷ []) ≡ true
unfolding may_be_empty after
without_the_second = refl

pub the_first_alone : model_matches in_turn (0 ∷ []) ≡ false
unfolding may_be_empty after
the_first_alone = refl

pub another_order : model_matches in_turn (0 ∷ 2 ∷ 1 ∷ []) ≡ false
unfolding may_be_empty after
another_order = refl

-- ((a | b)+, c*)
abbrev one_or_other : Model
one_or_other = sequence (more_models (at_least_one (choice (more_models (one 0) (more_models (one 1) no_models)))) (more_models (any_number (one 2)) no_models))

pub many : model_matches one_or_other (1 ∷ 0 ∷ 1 ∷ 2 ∷ 2 ∷ []) ≡ true
unfolding may_be_empty after
many = refl

pub none_of_them : model_matches one_or_other (2 ∷ []) ≡ false
unfolding may_be_empty after
none_of_them = refl

pub mixed : matches 3 (text_and (2 ∷ [])) (2 ∷ 2 ∷ []) ≡ true
mixed = refl

pub not_in_mixed : matches 3 (text_and (2 ∷ [])) (2 ∷ 1 ∷ []) ≡ false
not_in_mixed = refl

-- What a definition keeps.

pub a_name_twice : is_distinct (codes "a" ∷ codes "b" ∷ codes "a" ∷ []) ≡ false
a_name_twice = refl

pub other_names : are_names (codes "a" ∷ codes "A" ∷ []) ≡ true
other_names = refl

-- (a, (b | c)?)
abbrev maybe_one : Model
maybe_one = sequence (more_models (one 0) (more_models (optional (choice (more_models (one 1) (more_models (one 2) no_models)))) no_models))

pub four_levels : height maybe_one ≡ 4
unfolding height
four_levels = refl

pub third_of_three : is_within 3 maybe_one ≡ true
unfolding is_within
third_of_three = refl

pub third_of_two : is_within 2 maybe_one ≡ false
unfolding is_within
third_of_two = refl

pub an_empty_choice : has_matches (optional (choice no_models)) ≡ false
unfolding has_matches
an_empty_choice = refl

-- References.

pub letter : is_reference (decimal (codes "65")) ≡ true
letter = refl

pub in_hexadecimal : is_reference (hexadecimal (codes "20aC")) ≡ true
in_hexadecimal = refl

pub no_character : is_reference (decimal (codes "0")) ≡ false
no_character = refl

pub no_digit : is_reference (hexadecimal []) ≡ false
no_digit = refl

pub too_large : is_reference (hexadecimal (codes "110000")) ≡ false
too_large = refl

pub five : is_known [] (entity (codes "apos")) ≡ true
five = refl

pub not_declared : is_known (codes "nbsp" ∷ []) (entity (codes "foo")) ≡ false
not_declared = refl

-- The content of the smallest document type.

pub no_body : matches 3 (children (sequence (more_models (one 1) no_models))) [] ≡ false
unfolding may_be_empty after
no_body = refl

pub two_bodies : matches 3 (children (sequence (more_models (one 1) no_models))) (1 ∷ 1 ∷ []) ≡ false
unfolding may_be_empty after
two_bodies = refl

pub three_paragraphs : matches 3 (children (any_number (one 2))) (2 ∷ 2 ∷ 2 ∷ []) ≡ true
unfolding may_be_empty after
three_paragraphs = refl

pub paragraph_in_paragraph : matches 3 (text_and []) (2 ∷ []) ≡ false
paragraph_in_paragraph = refl
