-- The automaton of the smallest document type, and sums by it and by nesting: pages, and near misses. The states are 0
-- and 1 in `html`, before and behind `body`, 2 in `body`, 3 in `p`; 4 to 6 are those of the page.
use Rattle.std.proofs.Common.{◌≡◌, Bool, true, false, List, [], ◌∷◌, Some, None, refl}
use Rattle.text_base.specs.declared.page_token.PageToken.{PageToken}
use Rattle.text_base.specs.declared.page_token.PageToken.TheVariants.{Doctype, Blank, Text, Misc}
use Rattle.dtd_model.specs.Mini.{mini_table}
use Rattle.content_automata.specs.Tables.{Table as States}
use Rattle.tag_sums.specs.Labels.{child, other, text, doctype}
use Rattle.tag_sums.specs.Automaton.{Automaton}
use Rattle.tag_sums.specs.Trees.{start_tag, end_tag}
use Rattle.tag_sums.specs.Sum.{sum_of}
use Rattle.tag_sums.specs.Nesting.{torn, nest, nest_of, is_balanced}
use Rattle.page_automata.specs.PageAutomaton.{parts_of, page_automaton}
use Rattle.page_automata.specs.Whole.{is_whole}

abbrev states : States
states = (
  0 ∷ 2 ∷ 3 ∷ [],
  (false, None ∷ Some 1 ∷ None ∷ []) ∷ (true, None ∷ None ∷ None ∷ []) ∷ (true, None ∷ None ∷ Some 2 ∷ []) ∷ (true, None ∷ None ∷ None ∷ []) ∷ [],
  0 ∷ 0 ∷ 1 ∷ 2 ∷ [],
)

by_mini : Automaton
by_mini = page_automaton (parts_of mini_table states)

whole : List PageToken → Bool
whole tokens = is_whole by_mini (sum_of by_mini tokens)

-- a paragraph leads from `body` to `body`, text stays in `p`, and does not stand in `body`
paragraph : by_mini.step 2 (child 2) ≡ Some 2
unfolding by_mini mini_table
paragraph = refl

text_in_paragraph : by_mini.step 3 (other text) ≡ Some 3
unfolding by_mini mini_table
text_in_paragraph = refl

no_text_in_body : by_mini.step 2 (other text) ≡ None
unfolding by_mini mini_table
no_text_in_body = refl

-- `html` ends behind `body`, and not before it
ends_behind : by_mini.closes 0 1 ≡ true
unfolding by_mini mini_table
ends_behind = refl

not_before : by_mini.closes 0 0 ≡ false
unfolding by_mini mini_table
not_before = refl

-- the document type declaration may stand once before the root, and not behind it
declared : by_mini.step 4 (other doctype) ≡ Some 5
unfolding by_mini mini_table
declared = refl

not_twice : by_mini.step 5 (other doctype) ≡ None
unfolding by_mini mini_table
not_twice = refl

not_behind : by_mini.step 6 (other doctype) ≡ None
unfolding by_mini mini_table
not_behind = refl

-- pages
page : whole (Doctype ∷ start_tag 0 ∷ start_tag 1 ∷ start_tag 2 ∷ Text ∷ end_tag 2 ∷ Blank ∷ end_tag 1 ∷ end_tag 0 ∷ Misc ∷ []) ≡ true
unfolding whole by_mini mini_table
page = refl

two_roots : whole (start_tag 0 ∷ start_tag 1 ∷ end_tag 1 ∷ end_tag 0 ∷ start_tag 0 ∷ start_tag 1 ∷ end_tag 1 ∷ end_tag 0 ∷ []) ≡ false
unfolding whole by_mini mini_table
two_roots = refl

no_body : whole (start_tag 0 ∷ end_tag 0 ∷ []) ≡ false
unfolding whole by_mini mini_table
no_body = refl

left_open : whole (start_tag 0 ∷ start_tag 1 ∷ end_tag 1 ∷ []) ≡ false
unfolding whole by_mini mini_table
left_open = refl

-- by nesting alone the elements may hold anything; a wrong end tag tears
nested : is_balanced (nest_of (start_tag 0 ∷ Text ∷ start_tag 0 ∷ end_tag 0 ∷ end_tag 0 ∷ [])) ≡ true
nested = refl

crossed : nest_of (start_tag 0 ∷ start_tag 1 ∷ end_tag 0 ∷ end_tag 1 ∷ []) ≡ torn
crossed = refl

unmatched : nest_of (end_tag 1 ∷ start_tag 0 ∷ start_tag 2 ∷ []) ≡ nest (1 ∷ []) (2 ∷ 0 ∷ [])
unmatched = refl

not_balanced : is_balanced (nest_of (end_tag 0 ∷ start_tag 0 ∷ [])) ≡ false
not_balanced = refl
