use Rattle.std.proofs.Common.{◌∙◌, ap}
use Rattle.std.specs.Str.{encode_utf8_all, chars}
use Rattle.std.proofs.lemmas.Str.{encodes-chars}
use Rattle.page_validator.proofs.decode.decoded.Goals as goal

pub returns-in_ok-characters-in-Ok : goal.returns-in_ok-characters-in-Ok
returns-in_ok-characters-in-Ok c =
    let found = c.in-Ok.ensures.cases in
    ap encode_utf8_all (c.in_ok-characters-in-Ok.ensures ∙ ap chars found.0) ∙ encodes-chars c.args.page.now found.1
