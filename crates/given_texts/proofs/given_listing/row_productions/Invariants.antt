use Rattle.std.proofs.Common.{◌≡◌, length, take}
use Rattle.given_texts.specs.Rows.{AreFor}
use Rattle.given_texts.proofs.given_listing.row_productions.Given as goal

abbrev pub invariant-loop-row : goal.invariant-loop-row
invariant-loop-row l = record { each : AreFor (take l.row-index l.rows) l.productions.items; len : length l.productions.items ≡ l.row-index }
