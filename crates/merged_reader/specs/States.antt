-- What the reader does from byte to byte: as the reader of pages, but that each state behind a byte is replaced by the one that stands for
-- it.
use Rattle.std.specs.Prelude.{ℕ}
use Rattle.dtd_model.specs.Table.{Table}
use Rattle.open_pieces.specs.Views.{plain_state}
use Rattle.open_pieces.specs.declared.state.HeldState.{HeldState}
use Rattle.page_reader.specs.States.{next_state}
use Rattle.page_reader.specs.declared.state.ReaderState.{ReaderState}
use Rattle.page_reader.specs.declared.state.ReaderState.TheVariants.{Failed, Reading}
use Rattle.merged_reader.specs.Merging.{merged_begun}
use Rattle.merged_reader.specs.NumbersInMemory.{merged_open}

-- the state in memory that stands for this one
abbrev pub merged_state : HeldState → HeldState
merged_state h = record {
  state = record { place = h.state.place; inside = merged_open h.state.inside };
  begun = merged_begun (plain_state h.state) h.begun;
}

-- the state in memory that stands for this one, a failed reader for itself
abbrev pub merged : ReaderState → ReaderState
merged Failed = Failed
merged (Reading h) = Reading (merged_state h)

-- behind a byte
abbrev pub merged_next : Table → ReaderState → ℕ → ReaderState
merged_next table s b = merged (next_state table s b)
