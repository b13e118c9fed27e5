use Rattle.std.proofs.Common.{◌≡◌, ◌≢◌, ℕ, List, [], ◌∷◌, refl, sym, ◌∙◌}
use Rattle.string_functions.specs.Pieces.{pieces_of, join_of}
use Rattle.string_functions.specs.Leftmost.{AreLeftmost}
use Rattle.string_functions.proofs.PiecesLaws.{join_of-pieces_of}
use Rattle.string_functions.proofs.LeftmostLaws.{AreLeftmost-pieces_past, leftmost_is_unique}
use Rattle.string_functions.proofs.laws.pieces.Goals as goal

joined : (sep text : List ℕ) → sep ≢ [] → join_of sep (pieces_of sep text) ≡ text
joined [] text some = absurd (some refl)
joined (c ∷ sep) text some = join_of-pieces_of c sep text

leftmost : (sep text : List ℕ) → sep ≢ [] → AreLeftmost sep (pieces_of sep text)
leftmost [] text some = absurd (some refl)
leftmost (c ∷ sep) text some = AreLeftmost-pieces_past c sep 0 text

pub returns-clause-joined : goal.returns-clause-joined
returns-clause-joined c = joined c.args.sep.now c.args.text.now c.requires

pub returns-clause-leftmost : goal.returns-clause-leftmost
returns-clause-leftmost c = leftmost c.args.sep.now c.args.text.now c.requires

unique : (sep text : List ℕ) → sep ≢ [] → (pieces : List (List ℕ)) → join_of sep pieces ≡ text → AreLeftmost sep pieces → pieces ≡ pieces_of sep text
unique sep text some pieces e h = leftmost_is_unique sep pieces (pieces_of sep text) h (leftmost sep text some) (e ∙ sym (joined sep text some))

pub returns-clause-unique : goal.returns-clause-unique
returns-clause-unique c = unique c.args.sep.now c.args.text.now c.requires
