use Rattle.std.proofs.Common.{◌≡◌, map, bytes_eq, position, ap, ◌∙◌}
use Rattle.dtd_index.specs.Keys.{characters_of}
use Rattle.dtd_index.proofs.KeyLemmas.{place_same}
use Rattle.dtd_index.proofs.names.NameIndex.place.Goals as goal

pub returns : goal.returns
returns c =
    let view : map characters_of c.self.inside.names.keys ≡ c.args.self.now = cc in
    c.get_index_of.ensures.index ∙ place_same c.args.name.now c.self.inside.names.keys ∙ ap (position (bytes_eq c.args.name.now)) view
