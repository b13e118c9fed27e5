use Rattle.std.proofs.Common.{◌≡◌, ◌++◌, ◌∷◌, [], ℕ, List, map, bytes_eq, ap, ◌∙◌}
use Rattle.std.specs.List.{list_any}
use Rattle.dtd_index.specs.Keys.{characters_of}
use Rattle.dtd_index.proofs.KeyLemmas.{put_new}
use Rattle.dtd_index.proofs.names.NameIndex.put.Goals as goal

pub returns : goal.returns
returns c =
    let view : map characters_of c.self.inside.names.keys ≡ c.args.self.now = cc in
    put_new c.args.name.now c.self.inside.names.keys c.insert.new.self.keys c.in_ok-characters.field-0 c.in_ok-_is_new.ensures.keys c.in_ok-characters.ensures
    (ap (list_any (bytes_eq c.args.name.now)) view ∙ c.requires)
    ∙ ap (λ (xs : List (List ℕ)). xs ++ c.args.name.now ∷ []) view
