use Rattle.std.proofs.Common.{ap, sym, length, ℕ, List, ◌∙◌}
use Rattle.byte_stepping.specs.Views.{alone}
use Rattle.byte_stepping.proofs.Decoding.{empty_decoded, head_decoded}
use Rattle.byte_stepping.proofs.bytes.only_character.Goals as goal

pub returns-in-Some : goal.returns-in-Some
returns-in-Some c =
    let behind = c.next.new.self.rest.now in
    c.alone.ensures
    ∙ ap (λ (bytes : List ℕ). alone c.in-Some.c bytes) (c.as_bytes.ensures.value ∙ c.as_str.ensures)
    ∙ head_decoded c.args.text.now behind c.in-Some.c c.utf8.text (sym c.chars-characters.ensures.rest ∙ c.in-Some.ensures.steps.0)

pub returns-in-None : goal.returns-in-None
returns-in-None c =
    empty_decoded c.args.text.now (ap (λ (bytes : List ℕ). length bytes) (sym c.chars-characters.ensures.rest) ∙ c.in-None.ensures.steps.0.0)
