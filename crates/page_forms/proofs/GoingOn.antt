-- No form goes on where one has ended.
use Rattle.std.proofs.Common.{◌≡◌, List, ℕ, [], ◌++◌, sym, ◌∙◌, ap, append-nil}
use Rattle.page_model.specs.PageTokens.{piece_bytes}
use Rattle.page_model.proofs.Once.{one_of_bytes}
use Rattle.page_forms.specs.Laws.{NoneGoesOn}
use Rattle.page_forms.proofs.Spelling.{joins_is}

pub none_goes_on : NoneGoesOn
none_goes_on place e f a b u v w j d g =
    let p = a u d in
    let q = b w g in
    (one_of_bytes place p.0 q.0 v [] p.1 q.1 (ap (λ (z : List ℕ). z ++ v) p.2 ∙ joins_is j ∙ sym q.2 ∙ sym (append-nil (piece_bytes q.0)))).rest
