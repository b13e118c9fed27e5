-- The reader puts out the tokens of each page.
use Rattle.std.proofs.Common.{◌≡◌, Option, Some, None, refl, ap}
use Rattle.dtd_model.specs.Table.{Table}
use Rattle.character_steps.specs.Encoded.{Held}
use Rattle.page_steps.specs.PageSteps.{PageState}
use Rattle.page_reads.specs.Laws.{IsLawfulTable}
use Rattle.page_narrowing.specs.Passing.{narrow_reader}
use Rattle.page_narrowing.specs.Laws.{NarrowTokensRead}
use Rattle.byte_readers.specs.Mirrors.{Mirrors, state_behind}
use Rattle.byte_readers.specs.Reading.{tokens_over}
use Rattle.byte_readers.proofs.Same.{same_tokens}
use Rattle.state_codes.proofs.OneToOne.{plain_coded_held}
use Rattle.page_reader.specs.States.{seen, coded, first_state, next_state, tokens_at, tokens_behind}
use Rattle.page_reader.specs.Laws.{IsReaderOf}

seen_coded : (o : Option (Held PageState)) → seen (coded o) ≡ o
seen_coded None = refl
seen_coded (Some h) = ap (λ (g : Held PageState). Some g) (plain_coded_held h)

mirrors : (table : Table) → Mirrors (next_state table) (tokens_at table) (tokens_behind table) (narrow_reader table) seen
mirrors table = record {
  goes = λ s b small. seen_coded (state_behind (narrow_reader table) (seen s) b);
  same = λ s b small. refl;
  last = λ s. refl;
}

pub is_reader : NarrowTokensRead → (table : Table) → IsLawfulTable table → IsReaderOf table
is_reader law table lawful page bytes =
    (law table lawful page (tokens_over (next_state table) (tokens_at table) (tokens_behind table) first_state page)).1
    (same_tokens _ _ _ (next_state table) (tokens_at table) (tokens_behind table) (narrow_reader table) seen (mirrors table)
    first_state page bytes)
