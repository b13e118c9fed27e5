-- Texts that are put, by what their symbols stand for.
use Rattle.std.proofs.Common.{◌≡◌, inl, inr, ℕ, ◌+◌, true, List, [], ◌∷◌, ◌++◌, Option, None, Some, length, sym, ◌∙◌, ap, subst, length-append}
use Rattle.std.specs.Prelude.{slice_get}
use Rattle.numbered_sets.specs.Numbers.{Keeps}
use Rattle.numbered_sets.proofs.NumberLemmas.{at_front}
use Rattle.cfg_grammar.specs.declared.symbol.Symbol.{Symbol}
use Rattle.cfg_grammar.specs.declared.symbol.Symbol.TheVariants.{Range, Nt}
use Rattle.cfg_grammar.specs.declared.production.Right.TheVariants.{Two}
use Rattle.cfg_grammar.specs.declared.production.Production.{Production}
use Rattle.op_system.specs.declared.system.OpRule.{OpRule}
use Rattle.least_sets.specs.Forms.{Form}
use Rattle.given_texts.specs.Closed.{Closed}
use Rattle.system_writing.specs.declared.lines.Lines.{Lines}
use Rattle.system_writing.specs.Rights.{text_right, before_right}
use Rattle.system_writing.specs.Parts.{Part, set_part, end_part, is_set, PartRow}
use Rattle.system_writing.specs.Written.{Denotes, IsRight, IsWritten}
use Rattle.system_writing.specs.Steps.{PutsByte, PutsBytes, PutsText}
use Rattle.system_writing.proofs.Changing.{text_row, before_row}
use Rattle.system_writing.proofs.Growing.{push_cases, at_end, add_end}

-- the symbol stands for the text, or there is none for the empty text
pub data IsEndOf {N : Type 0} (parts : List (Part N)) : List ℕ → Option Symbol → Type 0 where
  nothing : IsEndOf parts [] None
  something : (b : ℕ) (w : List ℕ) (s : Symbol) → Denotes parts (end_part (b ∷ w)) s → IsEndOf parts (b ∷ w) (Some s)

module _ {N : Type 0} (parts : List (Part N)) where
  pub right_of_text : (w : List ℕ) (s : Option Symbol) → IsEndOf parts w s → IsRight parts (text_row w) (text_right s)
  unfolding text_row
  right_of_text _ _ IsEndOf.nothing = IsRight.empty
  right_of_text _ _ (IsEndOf.something b w s d) = IsRight.one (end_part (b ∷ w)) s d

  pub right_before : (w : List ℕ) (s : Option Symbol) (j : N) (k : ℕ) → slice_get parts k ≡ Some (set_part j) → IsEndOf parts w s → IsRight parts (before_row w j) (before_right s k)
  unfolding before_row
  right_before _ _ j k at IsEndOf.nothing = IsRight.one (set_part j) (Nt (record { 0 = k })) (Denotes.listed (set_part j) (record { 0 = k }) at)
  right_before _ _ j k at (IsEndOf.something b w s d) = IsRight.two (end_part (b ∷ w)) (set_part j) s (Nt (record { 0 = k })) d (Denotes.listed (set_part j) (record { 0 = k }) at)

module _ (N : Type 0) (P : Part N → Form (Part N) → Type 0) where
  -- lines that are written over parts: these, and others behind them that are no sets
  pub record Over (before : List (Part N)) (lines : Lines) : Type 0 where
    pub parts : List (Part N)
    pub all : length parts ≡ lines.count
    pub written : IsWritten P parts lines.productions.items lines.rules.items
    pub keeps : Keeps before parts
    pub sets : (p : Part N) (n : ℕ) → is_set p ≡ true → slice_get parts n ≡ Some p → slice_get before n ≡ Some p

  abbrev pub over_itself : (parts : List (Part N)) (lines : Lines) → length parts ≡ lines.count → IsWritten P parts lines.productions.items lines.rules.items → Over parts lines
  over_itself parts lines all written = record { parts = parts; all = all; written = written; keeps = λ n x h. h; sets = λ p n set h. h }

-- other lines that are the same
pub moved : (N : Type 0) (P : Part N → Form (Part N) → Type 0) (parts : List (Part N)) (lines : Lines) (productions : List Production) (rules : List OpRule) → lines.productions.items ≡ productions → lines.rules.items ≡ rules
    → IsWritten P parts productions rules → IsWritten P parts lines.productions.items lines.rules.items
moved N P parts lines productions rules e f h = subst (λ z. IsWritten P parts z lines.rules.items) (sym e) (subst (λ z. IsWritten P parts productions z) (sym f) h)

module _ (N : Type 0) (table : N → Form N → Type 0) (starts says : N → Type 0) (closed : Closed) where
  abbrev P : Part N → Form (Part N) → Type 0
  P = PartRow table starts says closed

  -- lines in which the symbol stands for the end of a text
  abbrev HasEnd : List (Part N) → Lines → List ℕ → Symbol → Type 0
  HasEnd before lines w s = (o : Over N P before lines) × Denotes o.parts (end_part w) s

  no_set : (w : List ℕ) → is_set {N = N} (end_part w) ≡ true → ⊥
  unfolding is_set
  no_set w h = cc

  put_byte : (before : List (Part N)) (old new : Lines) (b c : ℕ) (w : List ℕ) (behind s : Symbol) → PutsByte old new b behind s → HasEnd before old (c ∷ w) behind → HasEnd before new (b ∷ c ∷ w) s
  put_byte before old new b c w behind s puts h =
      let o : Over N P before old = h.0 in
      let e : Part N = end_part (b ∷ c ∷ w) in
      let there : slice_get (o.parts ++ e ∷ []) old.count ≡ Some e = subst (λ z. slice_get (o.parts ++ e ∷ []) z ≡ Some e) o.all (at_end o.parts e) in
      let written = subst (λ z. IsWritten P (o.parts ++ e ∷ []) (old.productions.items ++ (record { left = record { 0 = z }; right = Two (Range puts.byte) behind }) ∷ []) old.rules.items) o.all
      (add_end N table starts says closed o.parts old.productions.items old.rules.items o.written b c w puts.byte puts.low puts.high behind h.1) in (
        record {
          parts = o.parts ++ e ∷ [];
          all = length-append o.parts (e ∷ []) ∙ ap (λ z. z + 1) o.all ∙ sym puts.count;
          written = moved N P (o.parts ++ e ∷ []) new (old.productions.items ++ (record { left = record { 0 = old.count }; right = Two (Range puts.byte) behind }) ∷ []) old.rules.items puts.productions puts.rules written;
          keeps = λ n x at. at_front o.parts e n x (o.keeps n x at);
          sets = λ p n set at. elim (push_cases o.parts e n p at) [
            | inl there ↦ o.sets p n set there
            | inr here ↦ absurd (no_set (b ∷ c ∷ w) (subst (λ z. is_set z ≡ true) (sym here.1) set))
          ];
        },
        subst (λ z. Denotes (o.parts ++ e ∷ []) e z) (sym puts.symbol) (Denotes.listed e (record { 0 = old.count }) there),
      )

  put_bytes : (before : List (Part N)) (old new : Lines) (bytes : List ℕ) (behind s : Symbol) → PutsBytes old new bytes behind s → (c : ℕ) (w : List ℕ) → HasEnd before old (c ∷ w) behind → HasEnd before new (bytes ++ c ∷ w) s
  put_bytes before _ _ _ _ _ (PutsBytes.none lines s) c w h = h
  put_bytes before _ _ _ _ _ (PutsBytes.more old mid new b bytes behind s t puts last) c w h = on bytes (put_bytes before old mid bytes behind s puts c w h)
    where
      on : (ds : List ℕ) → HasEnd before mid (ds ++ c ∷ w) s → HasEnd before new (b ∷ ds ++ c ∷ w) t
      on [] g = put_byte before mid new b c w s t last g
      on (d ∷ ds) g = put_byte before mid new b d (ds ++ c ∷ w) s t last g

  some_end : (parts : List (Part N)) (before : List ℕ) (b : ℕ) (s : Symbol) → Denotes parts (end_part (before ++ b ∷ [])) s → IsEndOf parts (before ++ b ∷ []) (Some s)
  some_end parts [] b s d = IsEndOf.something b [] s d
  some_end parts (c ∷ before) b s d = IsEndOf.something c (before ++ b ∷ []) s d

  -- a text that is put
  pub put_text : (before : List (Part N)) (old new : Lines) (w : List ℕ) (s : Option Symbol) → PutsText old new w s → Over N P before old → (o : Over N P before new) × IsEndOf o.parts w s
  put_text before _ _ _ _ (PutsText.nothing lines) o = (o, IsEndOf.nothing)
  put_text before _ _ _ _ (PutsText.something old new bytes b byte s is puts) o =
      let whole = put_bytes before old new bytes byte s puts b [] (o, subst (λ z. Denotes o.parts (end_part (b ∷ [])) z) (sym is.1) (Denotes.byte b is.0 is.2 is.3)) in
      (whole.0, some_end whole.0.parts bytes b s whole.1)
