-- What words name, and what a definition sees, on worked examples and near misses.
use Rattle.std.proofs.Common.{◌≡◌, codes, refl, Some, None}
use Rattle.io_edge.specs.Names.{normal_parts, normal, folder_of, beside, is_inside, root_for, is_outside}
use Rattle.io_edge.specs.Told.{known, Content}
use Rattle.dtd_texts.specs.Spells.{seen_from}
use Rattle.document_types.specs.DocumentTypes.{strict_type, mini_type, file_type, named_type}

built_in : named_type (Some (codes "a")) (codes "strict") ≡ strict_type
built_in = refl

smallest : named_type None (codes "mini") ≡ mini_type
smallest = refl

-- below the folder of the call, beside it, and from the root of the system
below : named_type None (codes "./d//x.dtd") ≡ file_type (codes "d/x.dtd") (codes ".")
unfolding normal_parts normal folder_of is_inside root_for
below = refl

away : named_type None (codes "../d/x.dtd") ≡ file_type (codes "../d/x.dtd") (codes "../d")
unfolding normal_parts normal folder_of is_inside root_for
away = refl

absolute : named_type None (codes "/d/x.dtd") ≡ file_type (codes "/d/x.dtd") (codes "/d")
unfolding normal_parts normal folder_of is_inside root_for
absolute = refl

given_root : named_type (Some (codes "a/")) (codes "d/x.dtd") ≡ file_type (codes "d/x.dtd") (codes "a")
unfolding normal_parts normal folder_of is_inside root_for
given_root = refl

-- what a definition in a folder sees, with the folder of the call as its root

near : (content : Content) → seen_from (codes ".") (codes "d/x.dtd") content (codes "e") ≡ content (codes "d/e")
unfolding normal_parts normal beside is_inside is_outside
near content = refl

above : (content : Content) → seen_from (codes ".") (codes "d/x.dtd") content (codes "../e") ≡ content (codes "e")
unfolding normal_parts normal beside is_inside is_outside
above content = refl

out_of_it : (content : Content) → seen_from (codes ".") (codes "d/x.dtd") content (codes "../../e") ≡ known None
unfolding normal_parts normal beside is_inside is_outside
out_of_it content = refl

by_an_absolute_name : (content : Content) → seen_from (codes "/d") (codes "/d/x.dtd") content (codes "/d/e") ≡ known None
unfolding normal_parts normal beside is_inside is_outside
by_an_absolute_name content = refl

-- the folder of the definition as its root
out_of_its_own : (content : Content) → seen_from (codes "d") (codes "d/x.dtd") content (codes "../e") ≡ known None
unfolding normal_parts normal beside is_inside is_outside
out_of_its_own content = refl
