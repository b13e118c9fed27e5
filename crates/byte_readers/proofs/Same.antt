-- What mirrors puts out the same.
use Rattle.std.specs.Prelude.{◌≡◌, ℕ, ◌<◌, List, [], ◌∷◌, ◌++◌, Option, Some, None, refl}
use Rattle.std.proofs.Common.{ap, ◌∙◌}
use Rattle.std.proofs.lemmas.List.Elements.{All-head, All-tail}
use Rattle.text_base.specs.declared.page_token.PageToken.{PageToken}
use Rattle.piece_steps.specs.Readers.{Reader, all_tokens}
use Rattle.byte_readers.specs.Reading.{tokens_over}
use Rattle.byte_readers.specs.Mirrors.{state_behind, put_at, put_last, MirrorsPutTheSame}

-- what the reader of pieces puts out over a text, by its first byte
by_first : {P H : Type 0} (r : Reader P PageToken H) (o : Option H) (b : ℕ) (bs : List ℕ) → put_at r o b ++ all_tokens r (state_behind r o b) bs ≡ all_tokens r o (b ∷ bs)
by_first r None b bs = refl
by_first r (Some h) b bs = refl

at_end : {P H : Type 0} (r : Reader P PageToken H) (o : Option H) → put_last r o ≡ all_tokens r o []
at_end r None = refl
at_end r (Some h) = refl

pub same_tokens : MirrorsPutTheSame
same_tokens P H S next puts lasts r seen m s [] all = m.last s ∙ at_end r (seen s)
same_tokens P H S next puts lasts r seen m s (b ∷ bs) all =
    let more = same_tokens P H S next puts lasts r seen m (next s b) bs (All-tail (λ byte. byte < 256) b bs all) in
    let small = All-head (λ byte. byte < 256) b bs all in
    ap (λ (x : List PageToken). x ++ tokens_over next puts lasts (next s b) bs) (m.same s b small)
    ∙ ap (λ (x : List PageToken). put_at r (seen s) b ++ x) (more ∙ ap (λ (o : Option H). all_tokens r o bs) (m.goes s b small))
    ∙ by_first r (seen s) b bs
