-- What the machine puts out over a text.
use Rattle.std.specs.Prelude.{◌≡◌, ℕ, List, [], ◌∷◌, ◌++◌, map, refl}
use Rattle.std.proofs.Common.{ap, sym, subst, ◌∙◌}
use Rattle.std.proofs.lemmas.List.{append_assoc}
use Rattle.text_base.specs.declared.letter.Letter.{Letter}
use Rattle.text_base.specs.declared.letter.Letter.TheVariants.{OfByte, OfToken}
use Rattle.text_base.specs.declared.page_token.PageToken.{PageToken}
use Rattle.fst_core.specs.Runs.{Runs, Relates}
use Rattle.derivations.specs.Bytes.{bytes_in}
use Rattle.summary_decision.specs.Pairs.{tokens_in}
use Rattle.byte_readers.specs.Reading.{tokens_over}
use Rattle.echoing_machine.specs.Groups.{echo_letters}
use Rattle.echoing_machine.specs.Echoes.{EchoStep, EchoEnd, echo_of, IsEcho}

bytes_behind : (tokens : List PageToken) (w : List Letter) → bytes_in (map OfToken tokens ++ w) ≡ bytes_in w
bytes_behind [] w = refl
bytes_behind (t ∷ ts) w = bytes_behind ts w

tokens_behind : (tokens : List PageToken) (w : List Letter) → tokens_in (map OfToken tokens ++ w) ≡ tokens ++ tokens_in w
tokens_behind [] w = refl
tokens_behind (t ∷ ts) w = ap (λ (us : List PageToken). t ∷ us) (tokens_behind ts w)

no_bytes : (tokens : List PageToken) → bytes_in (map OfToken tokens) ≡ []
no_bytes [] = refl
no_bytes (t ∷ ts) = no_bytes ts

all_tokens : (tokens : List PageToken) → tokens_in (map OfToken tokens) ≡ tokens
all_tokens [] = refl
all_tokens (t ∷ ts) = ap (λ (us : List PageToken). t ∷ us) (all_tokens ts)

echo_then : (tokens : List PageToken) (b : ℕ) (w : List Letter) → echo_letters tokens b ++ w ≡ map OfToken tokens ++ (OfByte b ∷ w)
echo_then tokens b w = append_assoc (map OfToken tokens) (OfByte b ∷ []) w

module _ {S : Type 0} (next : S → ℕ → S) (puts : S → ℕ → List PageToken) (lasts : S → List PageToken) where
  bytes_over : (s : S) (text : List ℕ) → bytes_in (echo_of next puts lasts s text) ≡ text
  bytes_over s [] = no_bytes (lasts s)
  bytes_over s (b ∷ bs) =
      ap bytes_in (echo_then (puts s b) b (echo_of next puts lasts (next s b) bs))
      ∙ (bytes_behind (puts s b) (OfByte b ∷ echo_of next puts lasts (next s b) bs)
      ∙ ap (λ (x : List ℕ). b ∷ x) (bytes_over (next s b) bs))

  put_over : (s : S) (text : List ℕ) → tokens_in (echo_of next puts lasts s text) ≡ tokens_over next puts lasts s text
  put_over s [] = all_tokens (lasts s)
  put_over s (b ∷ bs) =
      ap tokens_in (echo_then (puts s b) b (echo_of next puts lasts (next s b) bs))
      ∙ (tokens_behind (puts s b) (OfByte b ∷ echo_of next puts lasts (next s b) bs)
      ∙ ap (λ (x : List PageToken). puts s b ++ x) (put_over (next s b) bs))

  run_only : (s : S) (text : List ℕ) (u : S) (out last output : List Letter) → Runs (EchoStep next puts lasts) s text u out → EchoEnd next puts lasts u last
      → output ≡ out ++ last → output ≡ echo_of next puts lasts s text
  run_only s [] u out last output run end e =
      e ∙ (ap (λ (x : List Letter). x ++ last) run.1 ∙ (end ∙ ap (λ (v : S). map OfToken (lasts v)) run.0))
  run_only s (b ∷ bs) u out last output (t, first, rest, step, run, f) end e =
      let behind = run_only t bs u rest last (rest ++ last) run end refl in
      let whole : output ≡ first ++ (rest ++ last) = e ∙ (ap (λ (x : List Letter). x ++ last) f ∙ append_assoc first rest last) in
      whole
      ∙ (ap (λ (x : List Letter). first ++ x) (behind ∙ ap (λ (v : S). echo_of next puts lasts v bs) step.0)
      ∙ ap (λ (x : List Letter). x ++ echo_of next puts lasts (next s b) bs) step.1)

  relates_only : (s : S) (text : List ℕ) (letters : List Letter) → Relates s (EchoStep next puts lasts) (EchoEnd next puts lasts) text letters → letters ≡ echo_of next puts lasts s text
  relates_only s text letters (u, out, last, run, end, e) = run_only s text u out last letters run end e

  relates_some : (s : S) (text : List ℕ) → Relates s (EchoStep next puts lasts) (EchoEnd next puts lasts) text (echo_of next puts lasts s text)
  relates_some s [] = (s, [], map OfToken (lasts s), (refl, refl), refl, refl)
  relates_some s (b ∷ bs) = longer (relates_some (next s b) bs)
    where
      first : List Letter
      first = echo_letters (puts s b) b

      longer : Relates (next s b) (EchoStep next puts lasts) (EchoEnd next puts lasts) bs (echo_of next puts lasts (next s b) bs)
          → Relates s (EchoStep next puts lasts) (EchoEnd next puts lasts) (b ∷ bs) (echo_of next puts lasts s (b ∷ bs))
      longer (u, out, last, run, end, e) =
          (u, first ++ out, last, (next s b, first, out, (refl, refl), run, refl), end, ap (λ (x : List Letter). first ++ x) e ∙ sym (append_assoc first out last))

  pub is_echo : (first : S) → IsEcho next puts lasts first
  is_echo first = record {
    copies = λ s t byte letters step. ap bytes_in step.1 ∙ bytes_behind (puts s byte) (OfByte byte ∷ []);
    adds_none = λ s letters end. ap bytes_in end ∙ no_bytes (lasts s);
    only = λ text letters. (relates_only first text letters, λ e. subst (λ (x : List Letter). Relates first (EchoStep next puts lasts) (EchoEnd next puts lasts) text x) (sym e) (relates_some first text));
    bytes = bytes_over first;
    tokens = put_over first;
  }
