use Rattle.std.proofs.Common.{◌↔◌, ◌≤◌, length}
use Rattle.dtd_model.specs.TableOf.{table_of}
use Rattle.page_rules.specs.Views.{place_of}
use Rattle.page_model.specs.Laws.{GoodPieces}
use Rattle.page_validator.specs.Views.{progress_of}
use Rattle.page_validator.specs.Walks.{Ahead}
use Rattle.page_validator.proofs.walk.walk.Given as goal

abbrev pub invariant-loop-rest : goal.invariant-loop-rest
invariant-loop-rest l = record {
  same : GoodPieces (table_of l.indexed.dtd.now) l.cs ↔ Ahead (table_of l.indexed.dtd.now) l.contents (place_of l.place) (progress_of l.progress) l.rest;
  short : length l.rest ≤ length l.cs;
}

abbrev pub decreases-loop-rest : goal.decreases-loop-rest
decreases-loop-rest l = length l.rest
