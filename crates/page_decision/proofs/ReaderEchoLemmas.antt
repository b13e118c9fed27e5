-- What a machine that echoes puts out has the bytes of the text and the tokens of the reader.
use Rattle.std.proofs.Common.{◌≡◌, ℕ, List, refl, sym, ◌∙◌, ap, subst}
use Rattle.text_base.specs.declared.letter.Letter.{Letter}
use Rattle.text_base.specs.declared.page_token.PageToken.{PageToken}
use Rattle.dtd_model.specs.Table.{Table}
use Rattle.page_model.specs.PageTokens.{PageTokens}
use Rattle.fst_core.specs.Runs.{Relates}
use Rattle.summary_decision.specs.Pairs.{tokens_in}
use Rattle.byte_readers.specs.Reading.{tokens_over}
use Rattle.echoing_machine.specs.Echoes.{EchoStep, EchoEnd, echo_of, IsEcho}
use Rattle.page_decision.specs.Machines.{IsPageMachine}
use Rattle.page_decision.specs.Readers.{ReadsPages}

module _ {S : Type 0} (table : Table) (next : S → ℕ → S) (puts : S → ℕ → List PageToken) (lasts : S → List PageToken) (first : S)
    (law : IsEcho next puts lasts first) (reads : ReadsPages table next puts lasts first) where
  tokens_of : (text : List ℕ) (letters : List Letter) → Relates first (EchoStep next puts lasts) (EchoEnd next puts lasts) text letters
      → tokens_in letters ≡ tokens_over next puts lasts first text
  tokens_of text letters out = ap tokens_in ((law.only text letters).0 out) ∙ law.tokens text

  pub page_machine : IsPageMachine table first (EchoStep next puts lasts) (EchoEnd next puts lasts)
  page_machine = record {
    echoing = record {
      copies = law.copies;
      adds_none = law.adds_none;
      total = λ text bytes. (echo_of next puts lasts first text, (law.only text (echo_of next puts lasts first text)).1 refl);
    };
    tokens = λ page ts bytes put. subst (λ (us : List PageToken). PageTokens table page us) (sym (tokens_of page put.0 put.1) ∙ put.2) (reads page bytes);
  }
