use Rattle.std.proofs.Common.{◌≡◌}
use Rattle.numbered_sets.specs.Numbers.{Keeps}
use Rattle.page_lexer.specs.Numbered.{KeepsKnown}
use Rattle.page_lexer.proofs.Over.{IsAt}
use Rattle.page_lexer.proofs.numbered.NumberedReader.tokens.Given as goal

abbrev pub invariant-loop-byte : goal.invariant-loop-byte
invariant-loop-byte g l =
    let r = l.initial.self.reader in
    record {
      same : l.self.reader ≡ r;
      keeps : Keeps l.initial.self.states.keys l.self.states.keys;
      known : KeepsKnown l.initial.self.rows.items l.self.rows.items;
      goes : IsAt (g.R.ByteReader.next r) (g.R.ByteReader.puts r) (g.R.ByteReader.lasts r) (g.R.ByteReader.first r) l.text l.self.states.keys l.state.0 l.byte-index l.tokens.items;
    }
