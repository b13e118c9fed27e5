-- The definitions of `specs/` on worked examples and on near misses.
use Rattle.std.proofs.Common.{◌≡◌, ℕ, List, [], ◌∷◌, Option, None, Some, true, false, inl, inr, Ok, Err, ◌^◌, ◌-◌, refl, lit≤, codes, arith}
use Rattle.io_edge.specs.Counts.{one_more, Rises}
use Rattle.io_edge.specs.Told.{Content, unasked, untold, known, Tells, Allows, HasAtLeast, Stays}
use Rattle.io_edge.specs.Reasons.{HasReason}
use Rattle.io_edge.specs.Taken.{AppendsPrefix}
use Rattle.io_edge.specs.Planned.{file_named, is_planned, planned_answer}
use Rattle.io_edge.specs.Names.{normal, normal_parts, folder_of, beside, is_dotted, is_inside, root_for, is_outside}
use Rattle.io_edge.specs.Room.{fitting}
use Rattle.io_edge.specs.declared.files.FileFault.TheVariants.{Missing, Failed}

-- a count goes up by one, and stays at the largest u64
counted : one_more 7 ≡ 8
counted = refl

stays : one_more (2 ^ 64 - 1) ≡ 2 ^ 64 - 1
stays = refl

rises_by_two : Rises 7 9
rises_by_two = lit≤ tt

rises_at_the_end : Rises (2 ^ 64 - 1) (2 ^ 64 - 1)
rises_at_the_end = lit≤ tt

stays_is_no_rise : Rises 7 7 → ⊥
stays_is_no_rise h = omega (arith, h)

-- a source that tells of a file does not tell that it is missing, and one that tells nothing allows any answer
told : Tells (known (Some (codes "<p>"))) (Some (codes "<p>"))
told = refl

told_is_not_missing : HasReason (known (Some (codes "<p>"))) 0 0 0 1 Missing → ⊥
told_is_not_missing h = cc (h.1)

untold_is_missing : HasReason untold 0 0 0 1 Missing
untold_is_missing = (lit≤ tt, tt)

a_miss_is_counted : HasReason untold 0 1 0 0 Missing → ⊥
a_miss_is_counted h = omega (arith, h.0)

-- a name that was answered is one of which something is told, or of which nothing will be; before it is, nothing speaks against any answer
no_answer_is_unasked : Tells unasked None → ⊥
no_answer_is_unasked h = h

unasked_allows_all : Allows unasked (Some (codes "<p>"))
unasked_allows_all = tt

no_file_is_long : HasAtLeast (known None) 1 → ⊥
no_file_is_long h = h

no_long_file_is_unasked : HasAtLeast unasked 1 → ⊥
no_long_file_is_unasked h = h

untold_may_be_long : HasAtLeast untold 1048577
untold_may_be_long = tt

-- a name may become told, and stays so; what is told does not change, and what is never told stays untold
abbrev before_any : Content
before_any name = unasked

abbrev page_is : Option (List ℕ) → Content
page_is file name = known file

becomes_told : Stays before_any (page_is None)
becomes_told name = inl refl

stays_told : Stays (page_is None) (page_is None)
stays_told name = inr refl

does_not_change : Stays (page_is None) (page_is (Some [])) → ⊥
does_not_change kept = elim (kept (codes "a")) [ inl none ↦ cc | inr same ↦ cc ]

is_not_forgotten : Stays (page_is None) before_any → ⊥
is_not_forgotten kept = elim (kept (codes "a")) [ inl none ↦ cc | inr same ↦ cc ]

-- the first file of a name, whole names only, and the calls that are to fail
first_of_a_name : file_named (codes "a") ((codes "ab", codes "1") ∷ (codes "a", codes "2") ∷ (codes "a", codes "3") ∷ []) ≡ Some (codes "2")
first_of_a_name = refl

no_such_name : file_named (codes "b") ((codes "ab", codes "1") ∷ []) ≡ None
no_such_name = refl

planned : is_planned (0 ∷ 3 ∷ []) 3 ≡ true
planned = refl

not_planned : is_planned (0 ∷ 3 ∷ []) 1 ≡ false
not_planned = refl

fails_before_it_misses : planned_answer true None ≡ Err Failed
fails_before_it_misses = refl

gives_the_bytes : planned_answer false (Some (codes "<p>")) ≡ Ok (codes "<p>")
gives_the_bytes = refl

-- what fits of a text that is put where some is held
fits_whole : fitting (Some 5) 2 (codes "abc") ≡ codes "abc"
fits_whole = refl

fits_in_part : fitting (Some 5) 3 (codes "abc") ≡ codes "ab"
fits_in_part = refl

fits_none : fitting (Some 3) 3 (codes "abc") ≡ []
fits_none = refl

-- a prefix is a prefix: what stands further on is none
takes_a_prefix : AppendsPrefix (Some (codes "x")) (Some (codes "xab")) (codes "abc")
takes_a_prefix = (2, lit≤ tt, refl)

-- names by their parts: `.`, empty parts and `..` go, but for `..` at the head of a relative name

parts_that_say_nothing : normal (codes "a/./b//c") ≡ codes "a/b/c"
unfolding normal normal_parts
parts_that_say_nothing = refl

goes_back : normal (codes "a/b/../c.php") ≡ codes "a/c.php"
unfolding normal normal_parts
goes_back = refl

stays_at_the_head : normal (codes "../a.php") ≡ codes "../a.php"
unfolding normal normal_parts
stays_at_the_head = refl

goes_back_over_the_head : normal (codes "a/../../b.php") ≡ codes "../b.php"
unfolding normal normal_parts
goes_back_over_the_head = refl

no_folder_above_the_root : normal (codes "/../a.php") ≡ codes "/a.php"
unfolding normal normal_parts
no_folder_above_the_root = refl

a_folder_and_back : normal (codes "a/..") ≡ codes "."
unfolding normal normal_parts
a_folder_and_back = refl

two_dots_are_no_name : normal (codes "..a/b") ≡ codes "..a/b"
unfolding normal normal_parts
two_dots_are_no_name = refl

the_root_itself : normal (codes "/") ≡ codes "/"
unfolding normal normal_parts
the_root_itself = refl

-- the folder of a file, and names in it

in_the_folder_of_the_call : folder_of (codes "a.php") ≡ codes "."
unfolding folder_of normal_parts
in_the_folder_of_the_call = refl

in_a_folder : folder_of (codes "lib/a.php") ≡ codes "lib"
unfolding folder_of normal_parts
in_a_folder = refl

below_the_root : folder_of (codes "/a.php") ≡ codes "/"
unfolding folder_of normal_parts
below_the_root = refl

beside_a_file : beside (codes "lib/a.php") (codes "b.php") ≡ codes "lib/b.php"
unfolding beside normal normal_parts
beside_a_file = refl

above_a_file : beside (codes "lib/a.php") (codes "../b.php") ≡ codes "b.php"
unfolding beside normal normal_parts
above_a_file = refl

below_a_file : beside (codes "a.php") (codes "./lib/b.php") ≡ codes "lib/b.php"
unfolding beside normal normal_parts
below_a_file = refl

absolute_is_itself : beside (codes "lib/a.php") (codes "/b.php") ≡ codes "/b.php"
unfolding beside normal normal_parts
absolute_is_itself = refl

in_the_folder_of_an_absolute_file : beside (codes "/srv/a.php") (codes "b.php") ≡ codes "/srv/b.php"
unfolding beside normal normal_parts
in_the_folder_of_an_absolute_file = refl

-- dots at the head

dot_and_slash : is_dotted (codes "./a.php") ≡ true
dot_and_slash = refl

two_dots_and_slash : is_dotted (codes "../a.php") ≡ true
two_dots_and_slash = refl

a_name_with_a_dot : is_dotted (codes ".a.php") ≡ false
a_name_with_a_dot = refl

dots_later_on : is_dotted (codes "a/../b.php") ≡ false
dots_later_on = refl

-- inside a folder, part by part: no front of a part, and nothing above it

inside_the_folder_of_the_call : is_inside (codes ".") (codes "lib/a.php") ≡ true
unfolding is_inside normal_parts
inside_the_folder_of_the_call = refl

above_the_folder_of_the_call : is_inside (codes ".") (codes "../a.php") ≡ false
unfolding is_inside normal_parts
above_the_folder_of_the_call = refl

inside_a_folder : is_inside (codes "lib") (codes "lib/sub/a.php") ≡ true
unfolding is_inside normal_parts
inside_a_folder = refl

a_folder_that_begins_alike : is_inside (codes "lib") (codes "library/a.php") ≡ false
unfolding is_inside normal_parts
a_folder_that_begins_alike = refl

in_and_out_again : is_inside (codes "lib") (codes "lib/../a.php") ≡ false
unfolding is_inside normal_parts
in_and_out_again = refl

inside_the_folder_above : is_inside (codes "..") (codes "../a.php") ≡ true
unfolding is_inside normal_parts
inside_the_folder_above = refl

the_folder_of_the_call_is_below : is_inside (codes "..") (codes "lib/a.php") ≡ true
unfolding is_inside normal_parts
the_folder_of_the_call_is_below = refl

a_folder_beside_that_of_the_call : is_inside (codes "../lib") (codes "lib/a.php") ≡ false
unfolding is_inside normal_parts
a_folder_beside_that_of_the_call = refl

above_the_folder_above : is_inside (codes "..") (codes "../../a.php") ≡ false
unfolding is_inside normal_parts
above_the_folder_above = refl

a_relative_name_of_an_absolute_folder : is_inside (codes "/srv") (codes "srv/a.php") ≡ false
unfolding is_inside normal_parts
a_relative_name_of_an_absolute_folder = refl

-- the root, and what leads out of it

a_given_root : root_for (Some (codes "./site/")) (codes "a.php") ≡ codes "site"
unfolding root_for normal normal_parts folder_of is_inside
a_given_root = refl

the_root_is_the_folder_of_the_call : root_for None (codes "lib/a.php") ≡ codes "."
unfolding root_for normal normal_parts folder_of is_inside
the_root_is_the_folder_of_the_call = refl

the_root_is_the_folder_of_the_file : root_for None (codes "../lib/a.php") ≡ codes "../lib"
unfolding root_for normal normal_parts folder_of is_inside
the_root_is_the_folder_of_the_file = refl

leads_to_a_folder_beside : is_outside (codes ".") (codes "lib/a.php") (codes "../b.php") ≡ false
unfolding is_outside beside normal normal_parts is_inside
leads_to_a_folder_beside = refl

leads_above_the_root : is_outside (codes ".") (codes "lib/a.php") (codes "../../b.php") ≡ true
unfolding is_outside beside normal normal_parts is_inside
leads_above_the_root = refl

an_absolute_name_is_outside : is_outside (codes "/srv") (codes "/srv/a.php") (codes "/srv/b.php") ≡ true
unfolding is_outside beside normal normal_parts is_inside
an_absolute_name_is_outside = refl
