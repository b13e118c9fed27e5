use Rattle.std.proofs.Common.{◌≡◌, ◌<◌, [], ◌∷◌, ◌++◌, length, refl, arith}
use Rattle.std.proofs.lemmas.Option.{slice_get_read, slice_get_within}
use Rattle.extraction.proofs.NumberLemmas.{old_name, new_name, names_old, names_new, is_other}
use Rattle.extraction.proofs.numbering.number_name.Goals as goal

pub returns-then-count-len : goal.returns-then-count-len
returns-then-count-len c =
    let old = c.args.work.now in
    let keys : c.number.new.keys.keys ≡ old.names.keys ++ c.args.name ∷ [] = names_new old.names.keys c.number.new.keys.keys c.args.name c.in_ok-place.field-0-1 c.in_ok-place.ensures.keys
    (omega (arith, c.if-count-len.true, c.count.ensures.length, c.len.ensures, old.numbers.ok.0, c.requires)) in
    new_name old (record { names = c.number.new.keys; numbers = c.push.new.self; draft = c.add_set.new.self }) c.args.name c.in_ok-set.set keys c.in_ok-push.ensures.items c.in_ok-set.ensures
    (is_other old.names.keys c.number.new.keys.keys c.args.name c.count.ensures.different keys) c.requires

pub index-requires : goal.index-requires
index-requires c =
    let old = c.args.work.now in
    let within = slice_get_within c.number.new.keys.keys c.in_ok-place.place c.args.name c.in_ok-place.ensures.number in
    omega (arith, within, c.if-count-len.false, c.count.ensures.length, c.len.ensures)

pub returns : goal.returns
returns c =
    let old = c.args.work.now in
    let within = slice_get_within c.number.new.keys.keys c.in_ok-place.place c.args.name c.in_ok-place.ensures.number in
    let few = c.if-count-len.false in
    let count = c.count.ensures.length in
    let here : c.in_ok-place.place < length old.numbers.items = omega (arith, within, few, count, c.len.ensures, old.numbers.ok.0) in
    let same : c.number.new.keys.keys ≡ old.names.keys = names_old old.names.keys c.number.new.keys.keys c.args.name c.in_ok-place.field-0-1 c.in_ok-place.ensures.keys
    (omega (arith, few, count, c.len.ensures, old.numbers.ok.0, c.requires)) in
    old_name old (record old { names = c.number.new.keys }) c.args.name c.in_ok-place.place c.index.result.now same refl refl c.requires c.in_ok-place.ensures.number
    (slice_get_read old.numbers.items (length old.numbers.items) c.in_ok-place.place c.index.result.now refl here c.index.ensures)
