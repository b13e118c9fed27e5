use Rattle.std.proofs.Common.{sym, subst, ◌↔◌}
use Rattle.fst_core.specs.Offers.{Offers}
use Rattle.grammar_image.proofs.ask.ask.Goals as goal

pub returns : goal.returns
returns g c =
    let steps = g.M.Machine.steps c.args.machine.now in
    record {
      source = c.in-Some.at.now;
      is_source = sym c.in-Some.ensures.key;
      moves = c.in_ok-moves.moves.items;
      exact = λ byte within t letters. subst (λ s. Offers c.in_ok-moves.moves.items byte t letters ↔ steps s byte t letters) c.in_ok-own.ensures (c.in_ok-moves.ensures.exact byte within t letters);
      within = c.in_ok-moves.ensures.within;
      given = c.in_ok-moves.ensures.given;
      notes = c.in_ok-note_moves.ensures;
    }
