-- What is put out over a text, and the state behind it, by how its first piece ends.
use Rattle.std.proofs.Common.{◌≡◌, ℕ, List, [], ◌∷◌, ◌++◌, Option, Some, None, refl, ap}
use Rattle.piece_steps.specs.Readers.{Move, go, done, fail, Reader, Outcome, whole, failed, stuck, next, ends, to_state, put_out, state_after, last_tokens, all_tokens}

abbrev pub tokens_by : {P T S : Type 0} → Reader P T S → Outcome P T S → List T
tokens_by r (whole place tokens rest) = tokens ++ all_tokens r (Some (r.first place)) rest
tokens_by r failed = r.bad ∷ []
tokens_by r (stuck s) = last_tokens r s

pub tokens_of_ends : {P T S : Type 0} (r : Reader P T S) (text : List ℕ) (s : S) → all_tokens r (Some s) text ≡ tokens_by r (ends r s text)
tokens_of_ends r [] s = refl
tokens_of_ends {P} {T} {S} r (b ∷ bs) s = at (r.step s b) (λ g. tokens_of_ends r bs g)
  where
    at : (m : Move P T S) → ((g : S) → all_tokens r (Some g) bs ≡ tokens_by r (ends r g bs)) → put_out r m ++ all_tokens r (to_state r m) bs ≡ tokens_by r (next m (λ g. ends r g bs) bs)
    at (go g) ih = ih g
    at (done place tokens) ih = refl
    at fail ih = refl

abbrev pub state_by : {P T S : Type 0} → Reader P T S → Outcome P T S → Option S
state_by r (whole place tokens rest) = state_after r (Some (r.first place)) rest
state_by r failed = None
state_by r (stuck s) = Some s

state_none : {P T S : Type 0} (r : Reader P T S) (text : List ℕ) → state_after r None text ≡ None
state_none r [] = refl
state_none r (b ∷ bs) = refl

pub state_of_ends : {P T S : Type 0} (r : Reader P T S) (text : List ℕ) (s : S) → state_after r (Some s) text ≡ state_by r (ends r s text)
state_of_ends r [] s = refl
state_of_ends {P} {T} {S} r (b ∷ bs) s = at (r.step s b) (λ g. state_of_ends r bs g)
  where
    at : (m : Move P T S) → ((g : S) → state_after r (Some g) bs ≡ state_by r (ends r g bs)) → state_after r (to_state r m) bs ≡ state_by r (next m (λ g. ends r g bs) bs)
    at (go g) ih = ih g
    at (done place tokens) ih = refl
    at fail ih = state_none r bs

-- what failed, or ended, does so whatever stands behind
pub fails_on : {P T S : Type 0} (r : Reader P T S) (text : List ℕ) (s : S) (more : List ℕ) → ends r s text ≡ failed → ends r s (text ++ more) ≡ failed
fails_on r [] s more e = cc
fails_on {P} {T} {S} r (b ∷ bs) s more e = at (r.step s b) e (λ g q. fails_on r bs g more q)
  where
    at : (m : Move P T S) → next m (λ g. ends r g bs) bs ≡ failed → ((g : S) → ends r g bs ≡ failed → ends r g (bs ++ more) ≡ failed) → next m (λ g. ends r g (bs ++ more)) (bs ++ more) ≡ failed
    at (go g) e ih = ih g e
    at (done place tokens) e ih = cc
    at fail e ih = refl

-- behind a text that ended in a state, reading goes on from there
pub goes_on : {P T S : Type 0} (r : Reader P T S) (text : List ℕ) (s g : S) (more : List ℕ) → ends r s text ≡ stuck g → ends r s (text ++ more) ≡ ends r g more
goes_on {P} {T} {S} r [] s g more e = ap (λ z. ends r z more) (same s g e)
  where
    same : (s g : S) → (let z : Outcome P T S = stuck s in z ≡ stuck g) → s ≡ g
    same s g e = cc
goes_on {P} {T} {S} r (b ∷ bs) s g more e = at (r.step s b) e (λ h q. goes_on r bs h g more q)
  where
    at : (m : Move P T S) → next m (λ h. ends r h bs) bs ≡ stuck g → ((h : S) → ends r h bs ≡ stuck g → ends r h (bs ++ more) ≡ ends r g more) → next m (λ h. ends r h (bs ++ more)) (bs ++ more) ≡ ends r g more
    at (go h) e ih = ih h e
    at (done place tokens) e ih = cc
    at fail e ih = cc
