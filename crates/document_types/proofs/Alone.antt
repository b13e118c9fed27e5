-- A source of one file tells the same before a call and behind it.
use Rattle.std.proofs.Common.{◌≡◌, ℕ, List, Option, inl, inr}
use Rattle.std.proofs.Math.Path.{fun_ext}
use Rattle.io_edge.specs.Told.{Content, known, unasked, Stays}
use Rattle.document_types.specs.OneFile.{file_alone}

never_unasked : (file : Option (List ℕ)) → known file ≡ unasked → ⊥
never_unasked file e = cc

pub alone_stays : (file text : List ℕ) (now : Content) → Stays (file_alone file text) now → now ≡ file_alone file text
alone_stays file text now stays = fun_ext (λ name. elim (stays name) [ inl none ↦ absurd (never_unasked _ none) | inr same ↦ same ])
