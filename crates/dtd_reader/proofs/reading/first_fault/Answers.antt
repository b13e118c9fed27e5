use Rattle.std.proofs.Common.{map, subst, sym}
use Rattle.std.specs.Prelude.{MatchOption}
use Rattle.dtd_texts.specs.Spells.{seen_from}
use Rattle.dtd_entities.specs.Positions.{state_of, written_of}
use Rattle.dtd_tables.specs.Causes.{FirstRefused, NoneRefused}
use Rattle.dtd_reader.specs.Causes.{BreaksFirst}
use Rattle.dtd_reader.proofs.Steps.{first_is}
use Rattle.dtd_reader.proofs.reading.first_fault.Goals as goal

pub returns-in-Ok : goal.returns-in-Ok
returns-in-Ok c = λ call root name file comes breaks calm. (
  subst (BreaksFirst (seen_from root name call.content) file) (sym c.unwrap_or.ensures)
      (first_is (seen_from root name call.content) file (state_of c.args.reading.now) c.in-Ok.first comes breaks
      (subst (λ ws. MatchOption c.in-Ok.first (NoneRefused (map written_of ws)) (FirstRefused (map written_of ws))) c.as_slice.ensures.value c.in-Ok.ensures)),
  calm,
)
