-- The definitions of `specs/` on worked examples and on near misses.
use Rattle.std.proofs.Common.{arith, ◌≡◌, ◌≤◌, ◌++◌, ℕ, List, [], ◌∷◌, None, Some, false, refl, codes}
use Rattle.std.specs.Fmt.{digits}
use Rattle.std.specs.Char.{encode_utf8}
use Rattle.std.specs.Str.{is_utf8, chars}
use Rattle.std.specs.Str.Lossy.{utf8_lossy, utf8_valid_len}
use Rattle.json.specs.Print.{escape_byte}
use Rattle.io_edge.specs.Told.{Content, unasked, untold, known}
use Rattle.site_check.specs.declared.line.Line.{Line}
use Rattle.site_check.specs.declared.line.Line.TheVariants.{Yes, No, Pairs, Tags, Items, Refused}
use Rattle.site_check.specs.declared.line.TheConstants.{MISSING_STATUS}
use Rattle.site_check.specs.Site.{Moment, moment, IsAnswered, AreAnswered, refused_by}
use Rattle.site_check.specs.Listed.{names_in, IsList}
use Rattle.site_check.specs.Report.{report}
use Rattle.site_check.specs.declared.kept_files.KeptFile.TheVariants.{Found, Missing, Long}
use Rattle.site_check.specs.Kept.{Kept, nothing_kept, kept_behind, keep, total_size, told_with}

-- a source that tells nothing
abbrev tells_nothing : Content
tells_nothing name = untold

-- before a read nothing is told, and behind it what it gave, that a file is missing too
before : told_with nothing_kept tells_nothing (codes "a") ≡ unasked
before = refl

after : told_with (keep nothing_kept (codes "a") (Found (codes "x"))) tells_nothing (codes "a") ≡ known (Some (codes "x"))
after = refl

missing_after : told_with (keep nothing_kept (codes "a") Missing) tells_nothing (codes "a") ≡ known None
missing_after = refl

-- a file that is too long is not told, and stays so when it is answered by bytes later
abbrev long : Kept
long = keep nothing_kept (codes "a") Long

long_after : told_with long tells_nothing (codes "a") ≡ untold
long_after = refl

long_stays : told_with (keep long (codes "a") (Found (codes "x"))) tells_nothing (codes "a") ≡ untold
long_stays = refl

-- of another name nothing is told yet
other_after : told_with (keep nothing_kept (codes "a") (Found (codes "x"))) tells_nothing (codes "b") ≡ unasked
other_after = refl

-- the first file of a name is the one that is kept
first_stays : told_with (keep (keep nothing_kept (codes "a") (Found (codes "x"))) (codes "a") (Found (codes "y"))) tells_nothing (codes "a") ≡ known (Some (codes "x"))
first_stays = refl

-- behind a file for which there is no room no more is kept, and what is not kept is not told
abbrev full : Kept
full = kept_behind [] false false (codes "a") (Found (codes "x"))

no_room : told_with full tells_nothing (codes "a") ≡ untold
no_room = refl

no_more : told_with (keep full (codes "b") Missing) tells_nothing (codes "b") ≡ untold
no_more = refl

sizes : total_size ((codes "a", Found (codes "xyz")) ∷ (codes "b", Missing) ∷ (codes "c", Found (codes "u")) ∷ (codes "d", Long) ∷ []) ≡ 4
sizes = refl

-- of a site: which lines may be answered for two names
abbrev may : Content → List ℕ → Line → Type 0
may content name line = (name ≡ codes "a" → line ≡ Yes) × (name ≡ codes "b" → line ≡ No 0)

abbrev start : Moment
start = moment tells_nothing 0 0

-- the line of the first name is none for the second, each name has one, and none is left out
not_again : AreAnswered may start start (codes "a" ∷ codes "b" ∷ []) (Yes ∷ Yes ∷ []) → ⊥
not_again (between, first, (end, second, leads)) = let same : Yes ≡ No 0 = second.may.1 refl in cc

none_left_out : AreAnswered may start start (codes "a" ∷ codes "b" ∷ []) (Yes ∷ []) → ⊥
none_left_out (between, first, none) = none

-- no count falls, and none of a missing file is told where none was counted
not_missing : IsAnswered (λ content name line. may content name line) start start (codes "c") (Refused MISSING_STATUS []) → ⊥
not_missing is = let rises = is.missing refl in omega (arith, rises)

how_many : refused_by MISSING_STATUS (Refused 6 [] ∷ Yes ∷ Refused 7 [] ∷ Refused 6 (codes "x") ∷ []) ≡ 2
how_many = refl

-- lines end with LF or CR LF, the last may end without, and empty lines are passed over; a CR within a line is a byte of the name
a_list : names_in (codes "a.php" ++ 13 ∷ 10 ∷ 10 ∷ (codes "b" ++ 13 ∷ codes "c" ++ 10 ∷ 13 ∷ 10 ∷ codes "d.php")) ≡ codes "a.php" ∷ (codes "b" ++ 13 ∷ codes "c") ∷ codes "d.php" ∷ []
a_list = refl

no_names : IsList (10 ∷ 13 ∷ 10 ∷ []) → ⊥
no_names (utf8, (least, most)) = let at : 1 ≤ 0 = least in omega (arith, at)

-- two lines as they are written
a_report : report (codes "a.php" ∷ codes "b.php" ∷ []) (Yes ∷ Refused 3 (codes "Float b.php 11") ∷ [])
    ≡ codes "{\"answer\":\"yes\",\"file\":\"a.php\"}\n{\"answer\":\"refused\",\"file\":\"b.php\",\"status\":3,\"text\":\"Float b.php 11\"}\n"
unfolding digits escape_byte utf8_lossy utf8_valid_len is_utf8 chars encode_utf8
a_report = refl

-- and one of each other kind
other_lines : report (codes "a" ∷ codes "b" ∷ codes "c" ∷ codes "d" ∷ []) (No 30 ∷ Pairs 10001 4 ∷ Tags 2 7 ∷ Items 8000001 ∷ [])
    ≡ codes "{\"answer\":\"no\",\"file\":\"a\",\"length\":30}\n{\"answer\":\"undecided\",\"count\":10001,\"file\":\"b\",\"height\":4,\"kind\":\"pairs\"}\n"
    ++ codes "{\"answer\":\"undecided\",\"count\":2,\"file\":\"c\",\"height\":7,\"kind\":\"tags\"}\n{\"answer\":\"undecided\",\"count\":8000001,\"file\":\"d\",\"kind\":\"items\"}\n"
unfolding digits escape_byte
other_lines = refl
