-- What is put before the last expression, from the right to the left.
use Rattle.std.proofs.Common.{◌≡◌, ℕ, suc, Bool, true, false, List, [], ◌∷◌, ◌++◌, Option, Some, None, refl, sym, ◌∙◌, ap}
use Rattle.std.specs.Option.{unwrap_or}
use Rattle.std.specs.Prelude.{if◌then◌else◌}
use Rattle.byte_forms.specs.Ranges.{ranges_below}
use Rattle.derivatives.specs.Expressions.{Expr, empty, nothing, range}
use Rattle.derivatives.specs.Derivatives.{chain_of, either_of}
use Rattle.page_forms.specs.Words.{word, one_of_words}
use Rattle.form_maker.specs.Making.{Making, pushed, joined, changed, Changes}
use Rattle.form_maker.specs.Words.{word_before, word_if, range_before, words_before}

-- what changes the last expression of what there is now, changes the one of the beginning so
pub record Goes (now_by first_by : Expr → Expr) (old now : Making) : Type 0 where
  pub on : (new : Making) → Changes now_by now new → Changes first_by old new

pub begun : (f : Expr → Expr) (m : Making) → Goes f f m m
begun f m = record { on = λ new h. h }

pub by_change : (g : Expr → Expr) (now next : Making) → next ≡ changed g now → Changes g now next
by_change g now next is = λ e m from. is ∙ ap (changed g) from

pub further : (f g h k : Expr → Expr) (old now next : Making) → ((e : Expr) → h e ≡ f (g e)) → Goes h k old now → Changes g now next → Goes f k old next
further f g h k old now next law goes does =
    record { on = λ new then_by. goes.on new (λ e m from. then_by (g e) m (does e m from) ∙ ap (λ (x : Expr). pushed x m) (sym (law e))) }

pub ended : (f k : Expr → Expr) (old now : Making) → ((e : Expr) → f e ≡ e) → Goes f k old now → Changes k old now
ended f k old now law goes = goes.on now (λ e m from. from ∙ ap (λ (x : Expr). pushed x m) (sym (law e)))

-- a word before the empty text
pub word_is : (bs : List ℕ) → word_before bs empty ≡ word bs
word_is [] = refl
word_is (b ∷ bs) = ap (chain_of (range b b)) (word_is bs)

-- the last byte first
pub word_end : (bs : List ℕ) (b : ℕ) (e : Expr) → word_before (bs ++ b ∷ []) e ≡ word_before bs (chain_of (range b b) e)
word_end [] b e = refl
word_end (c ∷ bs) b e = ap (chain_of (range c c)) (word_end bs b e)

-- one byte more
pub byte_before : (word left others : List ℕ) (b : ℕ) (old now mid next : Making) → Goes (word_before left) (word_before word) old now → left ≡ others ++ b ∷ [] → mid ≡ pushed (range b b) now
    → next ≡ joined (λ d e. chain_of e d) mid → Goes (word_before others) (word_before word) old next
byte_before word left others b old now mid next goes is first second =
    further (word_before others) (chain_of (range b b)) (word_before left) (word_before word) old now next
    (λ e. ap (λ (bs : List ℕ). word_before bs e) is ∙ word_end others b e) goes (by_change (chain_of (range b b)) now next (second ∙ ap (joined (λ d e. chain_of e d)) first))

-- no byte is left
pub all_before : (word left : List ℕ) (old now : Making) → Goes (word_before left) (word_before word) old now → left ≡ [] → Changes (word_before word) old now
all_before word left old now goes is = ended (word_before left) (word_before word) old now (λ e. ap (λ (bs : List ℕ). word_before bs e) is) goes

pub words_are : (test : List ℕ → Bool) (ws : List (List ℕ)) → words_before test ws nothing ≡ one_of_words test ws
words_are test [] = refl
words_are test (w ∷ ws) = ap (λ (e : Expr). if test w then either_of (word w) e else e) (words_are test ws)

pub words_end : (test : List ℕ → Bool) (ws : List (List ℕ)) (w : List ℕ) (e : Expr) → words_before test (ws ++ w ∷ []) e ≡ words_before test ws (word_if (test w) w e)
words_end test [] w e = refl
words_end test (v ∷ ws) w e = ap (λ (x : Expr). if test v then either_of (word v) x else x) (words_end test ws w e)

-- one word more
pub one_before : (test : List ℕ → Bool) (words left others : List (List ℕ)) (w : List ℕ) (b : Bool) (old now next : Making) → Goes (words_before test left) (words_before test words) old now → left ≡ others ++ w ∷ []
    → b ≡ test w → Changes (word_if b w) now next → Goes (words_before test others) (words_before test words) old next
one_before test words left others w b old now next goes is passes made =
    further (words_before test others) (word_if b w) (words_before test left) (words_before test words) old now next
    (λ e. ap (λ (ws : List (List ℕ)). words_before test ws e) is ∙ words_end test others w e ∙ ap (λ (t : Bool). words_before test others (word_if t w e)) (sym passes)) goes made

-- no word is left
pub none_before : (test : List ℕ → Bool) (words left : List (List ℕ)) (old now : Making) → Goes (words_before test left) (words_before test words) old now → left ≡ [] → Changes (words_before test words) old now
none_before test words left old now goes is =
    ended (words_before test left) (words_before test words) old now (λ e. ap (λ (ws : List (List ℕ)). words_before test ws e) is) goes

-- a word that passes is put before it
pub word_passes : (b : Bool) (w : List ℕ) (old new : Making) → b ≡ true → new ≡ changed (either_of (word w)) old → Changes (word_if b w) old new
word_passes b w old new h is = λ e m from. is ∙ ap (changed (either_of (word w))) from ∙ ap (λ (t : Bool). pushed (word_if t w e) m) (sym h)

pub word_fails : (b : Bool) (w : List ℕ) (m : Making) → b ≡ false → Changes (word_if b w) m m
word_fails b w m h = λ e n from. from ∙ ap (λ (t : Bool). pushed (word_if t w e) n) (sym h)

-- before the empty text, or before nothing
pub word_made : (bs : List ℕ) (old mid new : Making) → mid ≡ pushed empty old → Changes (word_before bs) mid new → new ≡ pushed (word bs) old
word_made bs old mid new is h = h empty old is ∙ ap (λ (e : Expr). pushed e old) (word_is bs)

pub words_made : (test : List ℕ → Bool) (ws : List (List ℕ)) (old mid new : Making) → mid ≡ pushed nothing old → Changes (words_before test ws) mid new → new ≡ pushed (one_of_words test ws) old
words_made test ws old mid new is h = h nothing old is ∙ ap (λ (e : Expr). pushed e old) (words_are test ws)

-- ranges
pub ranges_at_end : (test : ℕ → Bool) (last : Option ℕ) (e : Expr) → range_before 0 last e ≡ ranges_below test 0 last e
ranges_at_end test None e = refl
ranges_at_end test (Some last) e = refl

pub range_put : (first hi : ℕ) (last : Option ℕ) (old mid new : Making) → last ≡ Some hi → mid ≡ pushed (range first hi) old → new ≡ joined (λ d e. either_of e d) mid → Changes (range_before first last) old new
range_put first hi last old mid new is one two =
    λ e m from. two ∙ ap (joined (λ d x. either_of x d)) (one ∙ ap (pushed (range first hi)) from) ∙ ap (λ (o : Option ℕ). pushed (range_before first o e) m) (sym is)

pub range_not : (first : ℕ) (last : Option ℕ) (m : Making) → last ≡ None → Changes (range_before first last) m m
range_not first last m is = λ e n from. from ∙ ap (λ (o : Option ℕ). pushed (range_before first o e) n) (sym is)

-- a range may be open
pub no_byte : (test : ℕ → Bool) (bound : ℕ) (last : Option ℕ) (old new : Making) → bound ≡ 0 → Changes (range_before 0 last) old new → Changes (ranges_below test bound last) old new
no_byte test bound last old new is h =
    λ e m from. h e m from ∙ ap (λ (x : Expr). pushed x m) (ranges_at_end test last e ∙ ap (λ (n : ℕ). ranges_below test n last e) (sym is))

pub range_goes_on : (test : ℕ → Bool) (n : ℕ) (last : Option ℕ) (e : Expr) → test n ≡ true → ranges_below test (suc n) last e ≡ ranges_below test n (Some (unwrap_or last n)) e
range_goes_on test n None e h = ap (λ (b : Bool). if b then ranges_below test n (Some n) e else ranges_below test n None e) h
range_goes_on test n (Some last) e h = ap (λ (b : Bool). if b then ranges_below test n (Some last) e else ranges_below test n None (either_of (range (suc n) last) e)) h

pub range_ends : (test : ℕ → Bool) (n : ℕ) (last : Option ℕ) (e : Expr) → test n ≡ false → ranges_below test (suc n) last e ≡ ranges_below test n None (range_before (suc n) last e)
range_ends test n None e h = ap (λ (b : Bool). if b then ranges_below test n (Some n) e else ranges_below test n None e) h
range_ends test n (Some last) e h = ap (λ (b : Bool). if b then ranges_below test n (Some last) e else ranges_below test n None (either_of (range (suc n) last) e)) h

-- the byte passes
pub byte_in : (test : ℕ → Bool) (bound n : ℕ) (last : Option ℕ) (wide : ℕ) (old new : Making) → bound ≡ suc n → test n ≡ true → wide ≡ unwrap_or last n → Changes (ranges_below test n (Some wide)) old new
    → Changes (ranges_below test bound last) old new
byte_in test bound n last wide old new is passes w h =
    λ e m from. h e m from
    ∙ ap (λ (x : Expr). pushed x m) (ap (λ (k : ℕ). ranges_below test n (Some k) e) w ∙ sym (range_goes_on test n last e passes) ∙ ap (λ (k : ℕ). ranges_below test k last e) (sym is))

-- the byte does not pass
pub byte_out : (test : ℕ → Bool) (bound n : ℕ) (last : Option ℕ) (old mid new : Making) → bound ≡ suc n → test n ≡ false → Changes (range_before bound last) old mid → Changes (ranges_below test n None) mid new
    → Changes (ranges_below test bound last) old new
byte_out test bound n last old mid new is passes first second =
    λ e m from. second (range_before bound last e) m (first e m from)
    ∙ ap (λ (x : Expr). pushed x m) (ap (λ (k : ℕ). ranges_below test n None (range_before k last e)) is ∙ sym (range_ends test n last e passes) ∙ ap (λ (k : ℕ). ranges_below test k last e) (sym is))
