-- What a move that the code made means for the whole run.
use Rattle.std.proofs.Common.{◌≡◌, ℕ, ◌<◌, List, refl, ap, ◌∙◌}
use Rattle.std.specs.Prelude.{Option, Some, None}
use Rattle.script_grammar.specs.Terminals.{Terminal}
use Rattle.stmt_machine.specs.declared.frame.Focus.{Focus}
use Rattle.stmt_machine.specs.declared.frame.Frame.{Frame}
use Rattle.stmt_machine.specs.Actions.{StmtAction}
use Rattle.stmt_machine.specs.Machine.{Move, moves, finished, stuck}
use Rattle.stmt_machine.specs.Made.{Made, execute_stmts}
use Rattle.stmt_machine.specs.Reading.{weight, makes_on, makes_after, makes_next}
use Rattle.stmt_parser.specs.Outcomes.{gone, ended, failed, gone_with, acted}

-- the move led there, and its actions made this
pub record Went (x : Move) (m : Made) (g : Focus) (gs : List Frame) (r : List Terminal) (n : Made) : Type 0 where
  pub acts : List StmtAction
  pub is : x ≡ moves g gs r acts
  pub made : execute_stmts acts m ≡ Some n

went_by : (found : Option Made) (acts : List StmtAction) (m : Made) (f g : Focus) (fs gs : List Frame) (q r : List Terminal) (n : Made) → execute_stmts acts m ≡ found → gone_with found f fs q ≡ gone g gs r n → Went (moves f fs q acts) m g gs r n
went_by None acts m f g fs gs q r n k e = absurd (cc)
went_by (Some k) acts m f g fs gs q r n h e =
    let a : f ≡ g = cc in
    let b : fs ≡ gs = cc in
    let c : q ≡ r = cc in
    let d : k ≡ n = cc in
    record { acts = acts; is = ap (λ x. moves x fs q acts) a ∙ ap (λ x. moves g x q acts) b ∙ ap (λ x. moves g gs x acts) c; made = h ∙ ap (λ x. Some x) d }

pub went : (x : Move) (m : Made) (g : Focus) (gs : List Frame) (r : List Terminal) (n : Made) → acted x m ≡ gone g gs r n → Went x m g gs r n
unfolding acted
went (moves f fs q acts) m g gs r n e = went_by (execute_stmts acts m) acts m f g fs gs q r n refl e
went finished m g gs r n e = absurd (cc)
went stuck m g gs r n e = absurd (cc)

went_next : (x : Move) (m : Made) (g : Focus) (gs : List Frame) (r : List Terminal) (n : Made) → Went x m g gs r n → makes_next m x ≡ makes_on g gs r n
went_next x m g gs r n w = ap (makes_next m) w.is ∙ ap (λ y. makes_after y g gs r) w.made

pub goes_to : (x : Move) (m : Made) (g : Focus) (gs : List Frame) (r : List Terminal) (n : Made) → acted x m ≡ gone g gs r n → makes_next m x ≡ makes_on g gs r n
goes_to x m g gs r n e = went_next x m g gs r n (went x m g gs r n e)

pub lighter_there : (x : Move) (m : Made) (w : ℕ) (g : Focus) (gs : List Frame) (r : List Terminal) (n : Made) → ((acts : List StmtAction) → x ≡ moves g gs r acts → weight g gs r < w) → acted x m ≡ gone g gs r n → weight g gs r < w
lighter_there x m w g gs r n h e = let k = went x m g gs r n e in h k.acts k.is

ended_by : (found : Option Made) (f : Focus) (fs : List Frame) (q : List Terminal) (n : Made) → gone_with found f fs q ≡ ended n → makes_after found f fs q ≡ Some n
ended_by None f fs q n e = absurd (cc)
ended_by (Some k) f fs q n e = absurd (cc)

pub ends_so : (x : Move) (m n : Made) → acted x m ≡ ended n → makes_next m x ≡ Some n
unfolding acted
ends_so (moves f fs q acts) m n e = ended_by (execute_stmts acts m) f fs q n e
ends_so finished m n e = let h : m ≡ n = cc in ap (λ x. Some x) h
ends_so stuck m n e = absurd (cc)

failed_by : (found : Option Made) (f : Focus) (fs : List Frame) (q : List Terminal) → gone_with found f fs q ≡ failed → makes_after found f fs q ≡ None
failed_by None f fs q e = refl
failed_by (Some k) f fs q e = absurd (cc)

pub stops_so : (x : Move) (m : Made) → acted x m ≡ failed → makes_next m x ≡ None
unfolding acted
stops_so (moves f fs q acts) m e = failed_by (execute_stmts acts m) f fs q e
stops_so finished m e = absurd (cc)
stops_so stuck m e = refl
