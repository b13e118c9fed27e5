use Rattle.std.proofs.Common.{rules, ◌≡◌, map, string_bytes, true}
use Rattle.call_options.specs.Outcome.{gives, outcome}
use Rattle.call_options.specs.Reading.{options}
use Rattle.call_options.specs.Reading as spec
use Rattle.call_options.specs.Views.{settings_as}
use Rattle.call_options.proofs.asking.options_for.Goals as goal

pub returns-in-Ok-read_options-clause-ok : goal.returns-in-Ok-read_options-clause-ok
returns-in-Ok-read_options-clause-ok g c =
    let asks : spec.ask_for_options (map string_bytes c.args.words.now.items) ≡ true = search rules in
    let is : outcome c.in-Ok.file ≡ gives (settings_as c.in-Ok-read_options.settings.items) = search (rules, c.in-Ok-read_options.ensures.ok) in
    options (asks, c.read.ensures.asked) c.in-Ok.file (settings_as c.in-Ok-read_options.settings.items) c.in-Ok.ensures.content is (search (rules, c.put_options.ensures))
