use Rattle.std.proofs.Common.{bytes_eq, position, sym, ap, ◌∙◌}
use Rattle.dtd_index.proofs.KeyLemmas.{names_same}
use Rattle.dtd_index.proofs.indexed.IndexedDtd.element.Goals as goal

pub returns : goal.returns
returns c = c.place.ensures ∙ ap (position (bytes_eq c.args.name.now)) (c.args.self.now.elements_are ∙ sym (names_same c.args.self.now.dtd.now.elements.items))
