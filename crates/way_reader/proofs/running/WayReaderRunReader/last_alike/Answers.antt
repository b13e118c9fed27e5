use Rattle.std.proofs.Common.{◌≤◌, ℕ, arith, sym, subst, ◌∙◌, ap}
use Rattle.way_reader.specs.Classes.{last_of}
use Rattle.way_reader.specs.Reader.{starts_at}
use Rattle.way_reader.specs.declared.way.Way.{Way}
use Rattle.std.specs.Prelude.{List}
use Rattle.way_reader.proofs.Runs.{own, from_spot, from_ways}
use Rattle.way_reader.proofs.running.WayReaderRunReader.last_alike.Goals as goal

pub returns-in-At-clause-last : goal.returns-in-At-clause-last
returns-in-At-clause-last c =
    subst (λ (n : ℕ). c.args.byte ≤ n) (sym c.last_of.ensures) (own c.args.self.now.ways.now.arena c.args.byte c.at.result.now (omega arith))

pub returns-in-At-clause-alike : goal.returns-in-At-clause-alike
returns-in-At-clause-alike c = from_spot c.args.self.now.ways.now.arena (starts_at c.args.self.now.ways.now.starts) c.args.state.now c.in-At.spot c.args.byte c.last_of.result c.in-At.is
    (c.last_of.ensures ∙ ap (λ (ways : List Way). last_of c.args.self.now.ways.now.arena c.args.byte ways) c.at.ensures)

pub returns-in-Inside-clause-last : goal.returns-in-Inside-clause-last
returns-in-Inside-clause-last c =
    subst (λ (n : ℕ). c.args.byte ≤ n) (sym c.last_of-in-Inside.ensures) (own c.args.self.now.ways.now.arena c.args.byte c.as_slice.result.now (omega arith))

pub returns-in-Inside-clause-alike : goal.returns-in-Inside-clause-alike
returns-in-Inside-clause-alike c = from_ways c.args.self.now.ways.now.arena (starts_at c.args.self.now.ways.now.starts) c.args.state.now c.in-Inside.ways c.args.byte c.last_of-in-Inside.result c.in-Inside.is
    (c.last_of-in-Inside.ensures ∙ ap (λ (ways : List Way). last_of c.args.self.now.ways.now.arena c.args.byte ways) c.as_slice.ensures)
