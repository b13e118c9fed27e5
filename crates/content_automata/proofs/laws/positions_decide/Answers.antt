use Rattle.content_automata.specs.Positions.{places_of}
use Rattle.content_automata.specs.Walks.{place_at}
use Rattle.content_automata.proofs.Walking.{leads_matches, are_places}
use Rattle.content_automata.proofs.laws.positions_decide.Goals as goal

pub returns : goal.returns
returns c = λ m es. leads_matches (place_at (places_of m)) m (are_places (places_of m)) es
