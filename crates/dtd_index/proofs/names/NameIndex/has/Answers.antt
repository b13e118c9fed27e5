use Rattle.std.proofs.Common.{◌≡◌, map, bytes_eq, ap, ◌∙◌}
use Rattle.std.specs.List.{list_any}
use Rattle.dtd_index.specs.Keys.{characters_of}
use Rattle.dtd_index.proofs.KeyLemmas.{has_same}
use Rattle.dtd_index.proofs.names.NameIndex.has.Goals as goal

pub returns : goal.returns
returns c =
    let view : map characters_of c.self.inside.names.keys ≡ c.args.self.now = cc in
    c.contains.ensures ∙ has_same c.args.name.now c.self.inside.names.keys ∙ ap (list_any (bytes_eq c.args.name.now)) view
