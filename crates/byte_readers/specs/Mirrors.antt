-- A reader by bytes whose states stand for those of a reader of pieces.
use Rattle.std.specs.Prelude.{◌≡◌, ℕ, ◌<◌, List, [], All, Option, Some, None}
use Rattle.text_base.specs.declared.page_token.PageToken.{PageToken}
use Rattle.piece_steps.specs.Readers.{Reader, to_state, put_out, last_tokens, all_tokens}
use Rattle.byte_readers.specs.Reading.{tokens_over}

-- the state behind a byte, what is put out at it, and what at the end of the text, where a state may be none
abbrev pub state_behind : {P H : Type 0} → Reader P PageToken H → Option H → ℕ → Option H
state_behind r None b = None
state_behind r (Some h) b = to_state r (r.step h b)

-- what is put out at a byte; nothing, where there is no state
abbrev pub put_at : {P H : Type 0} → Reader P PageToken H → Option H → ℕ → List PageToken
put_at r None b = []
put_at r (Some h) b = put_out r (r.step h b)

-- what is put out at the end of the text; nothing, where there is no state
abbrev pub put_last : {P H : Type 0} → Reader P PageToken H → Option H → List PageToken
put_last r None = []
put_last r (Some h) = last_tokens r h

-- the states stand for those of the reader of pieces, and what is put out is the same, by bytes
pub record Mirrors {P H S : Type 0} (next : S → ℕ → S) (puts : S → ℕ → List PageToken) (lasts : S → List PageToken)
    (r : Reader P PageToken H) (seen : S → Option H) : Type 0 where
  pub goes : (s : S) (b : ℕ) → b < 256 → seen (next s b) ≡ state_behind r (seen s) b
  pub same : (s : S) (b : ℕ) → b < 256 → puts s b ≡ put_at r (seen s) b
  pub last : (s : S) → lasts s ≡ put_last r (seen s)

-- then they put out the same over each text of bytes
abbrev pub MirrorsPutTheSame : Type 1
MirrorsPutTheSame = (P H S : Type 0) (next : S → ℕ → S) (puts : S → ℕ → List PageToken) (lasts : S → List PageToken)
    (r : Reader P PageToken H) (seen : S → Option H)
    → Mirrors next puts lasts r seen → (s : S) (text : List ℕ) → All (λ byte. byte < 256) text
    → tokens_over next puts lasts s text ≡ all_tokens r (seen s) text
