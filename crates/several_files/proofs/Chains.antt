-- Answers for files, one behind another.
use Rattle.std.proofs.Common.{◌≡◌, ◌∙◌, ◌++◌, ℕ, List, [], ◌∷◌, refl, sym, ap, subst, inl, inr}
use Rattle.std.specs.Prelude.{Err}
use Rattle.std.proofs.lemmas.List.{append-nil, append_assoc}
use Rattle.phpsa_texts.specs.declared.exit.Exit.{Exit}
use Rattle.phpsa_texts.specs.declared.exit.Exit.TheVariants as exit
use Rattle.phpsa_texts.specs.declared.message.Refusal.{Refusal}
use Rattle.phpsa_texts.specs.Texts.{memory_text}
use Rattle.several_files.specs.Words.{FileName}
use Rattle.several_files.specs.Lines.{Answer}
use Rattle.several_files.specs.Calls.{Moment, IsAnswer, AreAnswers, EndsAll, IsEnded, HasAnswered}
use Rattle.several_files.specs.Endings.{AreRefused, IsAnswerOr}

module _ (options : List (List ℕ)) where
  -- one more answer behind others
  answered_behind : (a b c : Moment) (files : List FileName) (answers : List Answer) (file : FileName) (answer : Answer)
      → AreAnswers options a b files answers → IsAnswer options b c file answer
      → AreAnswers options a c (files ++ file ∷ []) (answers ++ answer ∷ [])
  answered_behind a b c [] [] file answer same last = (c, subst (λ (m : Moment). IsAnswer options m c file answer) same last, refl)
  answered_behind a b c [] (x ∷ xs) file answer none last = absurd none
  answered_behind a b c (f ∷ fs) [] file answer none last = absurd none
  answered_behind a b c (f ∷ fs) (x ∷ xs) file answer (middle, first, rest) last =
      (middle, first, answered_behind middle b c fs xs file answer rest last)

  -- nothing is answered yet
  pub answered_none : (now : Moment) (files : List FileName) (answers : List Answer) → answers ≡ [] → HasAnswered options now now files files answers
  answered_none now files answers none = record {
    firsts = [];
    are = refl;
    answered = subst (λ (xs : List Answer). AreAnswers options now now [] xs) (sym none) refl;
  }

  -- one file more
  pub answered_more : (a b c : Moment) (files : List FileName) (file : FileName) (whole rest : List FileName) (answers answers' : List Answer) (answer : Answer)
      → HasAnswered options a b files whole answers → whole ≡ file ∷ rest → IsAnswer options b c file answer → answers' ≡ answers ++ answer ∷ []
      → HasAnswered options a c files rest answers'
  answered_more a b c files file whole rest answers answers' answer has cut last more = record {
    firsts = has.firsts ++ file ∷ [];
    are = append_assoc has.firsts (file ∷ []) rest ∙ ap (λ (fs : List FileName). has.firsts ++ fs) (sym cut) ∙ has.are;
    answered = subst (λ (xs : List Answer). AreAnswers options a c (has.firsts ++ file ∷ []) xs) (sym more)
        (answered_behind a b c has.firsts answers file answer has.answered last);
  }

  -- all files
  pub answered_all : (a b : Moment) (files rest : List FileName) (answers : List Answer) → HasAnswered options a b files rest answers → rest ≡ []
      → AreAnswers options a b files answers
  answered_all a b files rest answers has none =
      let whole : has.firsts ≡ files = sym (append-nil has.firsts) ∙ ap (λ (fs : List FileName). has.firsts ++ fs) (sym none) ∙ has.are in
      subst (λ (fs : List FileName). AreAnswers options a b fs answers) whole has.answered

  -- a call that ends all
  ended_at : (a b c : Moment) (files : List FileName) (file : FileName) (whole rest : List FileName) (answers : List Answer) (status : Exit) (text : List ℕ)
      → HasAnswered options a b files whole answers → whole ≡ file ∷ rest → EndsAll options b c file status text → IsEnded options a c files status text
  ended_at a b c files file whole rest answers status text has cut ends = record {
    firsts = has.firsts;
    file = file;
    rest = rest;
    are = ap (λ (fs : List FileName). has.firsts ++ fs) (sym cut) ∙ has.are;
    answers = answers;
    last = b;
    answered = has.answered;
    ends = ends;
  }

  -- a file that has no answer
  pub refused_at : (a b c : Moment) (files : List FileName) (file : FileName) (whole rest : List FileName) (answers : List Answer) (refusal : Refusal)
      → HasAnswered options a b files whole answers → whole ≡ file ∷ rest → IsAnswerOr options b c file (Err refusal) → AreRefused options a c files refusal
  refused_at a b c files file whole rest answers refusal has cut (s, t, by, inl ends) =
      (s, t, by, inl (ended_at a b c files file whole rest answers s t has cut ends))
  refused_at a b c files file whole rest answers refusal has cut (s, t, by, inr wants) = (s, t, by, inr wants)

  -- memory was wanting
  pub refused_by_want : (a c : Moment) (files : List FileName) → AreRefused options a c files Refusal.Memory
  refused_by_want a c files = (exit.Memory, memory_text, (refl, refl), inr (refl, refl))
