-- Each passage of a chart is one of an item: of one that has read it last, or of one that is read whole.
use Rattle.std.proofs.Common.{◌≡◌, ℕ, zero, suc, ◌+◌, ◌⊎◌, inl, inr, List, [], ◌∷◌, ◌++◌, length, length-append, map, add-one, refl, sym, ◌∙◌, ap, subst, Some, slice_get}
use Rattle.text_base.specs.declared.numbers.Nt as nt
use Rattle.text_base.specs.declared.letter.Letter.{Letter}
use Rattle.text_base.specs.declared.letter.Letter.TheVariants.{OfByte, OfToken}
use Rattle.cfg_grammar.specs.declared.symbol.Symbol.{Symbol}
use Rattle.cfg_grammar.specs.declared.symbol.Symbol.TheVariants.{Range, Token, Nt}
use Rattle.cfg_grammar.specs.declared.production.Right.TheVariants.{Empty, One, Two}
use Rattle.cfg_grammar.specs.declared.production.Production.{Production}
use Rattle.cfg_grammar.specs.Below.{symbols_of}
use Rattle.cfg_grammar.specs.Derives.{Derives, by_range, by_token, by_empty, by_one, by_two}
use Rattle.fst_core.specs.Runs.{Runs}
use Rattle.fst_core.specs.Outputs.{Leads}
use Rattle.fst_core.specs.Items.{Item, IsItem, ReadsTo, Enters, at_start, by_item}
use Rattle.grammar_chart.specs.declared.keys.Passage.{Passage}
use Rattle.grammar_chart.proofs.AddingLemmas.{at_contains}
use Rattle.grammar_image.proofs.Complete.{runs_split, text_split}

some_same : {X : Type 0} (x y : X) → Some x ≡ Some y → x ≡ y
some_same x y h = cc

kept_behind : {X : Type 0} (xs : List X) (x y : X) (n : ℕ) → slice_get xs n ≡ Some y → slice_get (xs ++ x ∷ []) n ≡ Some y
kept_behind [] x y n h = cc
kept_behind (z ∷ xs) x y zero h = h
kept_behind (z ∷ xs) x y (suc n) h = kept_behind xs x y n h

put_behind : {X : Type 0} (xs : List X) (x : X) → slice_get (xs ++ x ∷ []) (length xs) ≡ Some x
put_behind [] x = refl
put_behind (y ∷ xs) x = put_behind xs x

no_token : (token : _) (text : List ℕ) → OfToken token ∷ [] ≡ map OfByte text → ⊥
no_token token [] e = cc
no_token token (b ∷ text) e = let h : OfToken token ≡ OfByte b = cc in cc

no_text : (text : List ℕ) → ◌≡◌ {A = List Letter} [] (map OfByte text) → ◌≡◌ {A = List ℕ} text []
no_text [] e = refl
no_text (b ∷ text) e = cc

module _ (ps : List Production) (steps : ℕ → ℕ → ℕ → List Letter → Type 0) (from : nt.Nt) where
  -- the item has read the passage last
  pub record HasReadLast (it : Item ℕ) (f : Passage) : Type 0 where
    pub is_item : IsItem ps steps from 0 it
    pub place : ℕ
    pub symbol : slice_get (symbols_of is_item.production.right) place ≡ Some f.symbol
    pub before : slice_get (it.entry ∷ it.after) place ≡ Some f.from
    pub behind : slice_get it.after place ≡ Some f.to
    pub last : length it.after ≡ suc place

  -- the item has read all of a production, over the passage of its left side
  pub record IsWholeOf (it : Item ℕ) (f : Passage) : Type 0 where
    pub is_item : IsItem ps steps from 0 it
    pub symbol : f.symbol ≡ Nt is_item.production.left
    pub entry : it.entry ≡ f.from
    pub last : slice_get (it.entry ∷ it.after) (length it.after) ≡ Some f.to

  reads_behind : (symbols : List Symbol) (s : ℕ) (after : List ℕ) (t : ℕ) (x : Symbol) (u : ℕ) → ReadsTo ps steps s symbols after → slice_get (s ∷ after) (length after) ≡ Some t → slice_get symbols (length after) ≡ Some x → Leads ps steps t x u → ReadsTo ps steps s symbols (after ++ u ∷ [])
  reads_behind [] s [] t x u r at next l = cc
  reads_behind (y ∷ symbols) s [] t x u r at next l =
      let one : y ≡ x = cc in
      let two : s ≡ t = cc in
      (subst (λ (z : Symbol). Leads ps steps s z u) (sym one) (subst (λ (z : ℕ). Leads ps steps z x u) (sym two) l), tt)
  reads_behind [] s (v ∷ after) t x u r at next l = absurd r
  reads_behind (y ∷ symbols) s (v ∷ after) t x u r at next l = (r.0, reads_behind symbols v after t x u r.1 at next l)

  read_last : (x : Symbol) (i : ℕ) → Enters ps steps from 0 x i → (j : ℕ) → Leads ps steps i x j → ((a : nt.Nt) → x ≡ Nt a → ⊥) → (it : Item ℕ) × HasReadLast it (record { symbol = x; from = i; to = j })
  read_last x i at_start j l none = absurd (none from refl)
  read_last x i (by_item place p s after t symbol placed e r at next) j l none =
      let it : Item ℕ = record { place = place; entry = s; after = after ++ j ∷ [] } in (
        it,
        record {
          is_item = record { production = p; placed = placed; entered = e; read = reads_behind (symbols_of p.right) s after t symbol j r at next l };
          place = length after;
          symbol = next;
          before = kept_behind (s ∷ after) j t (length after) at;
          behind = put_behind after j;
          last = length-append after (j ∷ []) ∙ add-one (length after);
        },
      )

  whole : (x : Symbol) (v : List Letter) → Derives ps x v → (a : nt.Nt) → x ≡ Nt a → (text : List ℕ) → v ≡ map OfByte text → (i j : ℕ) (out : List Letter) → Runs steps i text j out → Enters ps steps from 0 x i → (it : Item ℕ) × IsWholeOf it (record { symbol = x; from = i; to = j })
  whole x v (by_range range byte within) a is text e i j out run en = cc
  whole x v (by_token token) a is text e i j out run en = cc
  whole x v (by_empty b has) a is text e i j out run en =
      let none = no_text text e in
      let r : Runs steps i [] j out = subst (λ (z : List ℕ). Runs steps i z j out) none run in
      let p = at_contains ps _ has in (
        record { place = p.0; entry = i; after = [] },
        record {
          is_item = record { production = record { left = b; right = Empty }; placed = p.1; entered = en; read = tt };
          symbol = refl;
          entry = refl;
          last = ap (λ (n : ℕ). Some n) (sym r.0);
        },
      )
  whole x v (by_one b y w has d) a is text e i j out run en =
      let p = at_contains ps _ has in
      let l : Leads ps steps i y j = (text, out, subst (λ (z : List Letter). Derives ps y z) e d, run) in (
        record { place = p.0; entry = i; after = j ∷ [] },
        record {
          is_item = record { production = record { left = b; right = One y }; placed = p.1; entered = en; read = (l, tt) };
          symbol = refl;
          entry = refl;
          last = refl;
        },
      )
  whole x v (by_two b y z u w has d g) a is text e i j out run en =
      let p = at_contains ps _ has in
      let s = text_split u w text e in
      let r = runs_split steps i s.0 s.1 j out (subst (λ (q : List ℕ). Runs steps i q j out) s.2 run) in
      let l : Leads ps steps i y r.0 = (s.0, r.1, subst (λ (q : List Letter). Derives ps y q) s.3 d, r.3) in
      let m : Leads ps steps r.0 z j = (s.1, r.2, subst (λ (q : List Letter). Derives ps z q) s.4 g, r.4) in (
        record { place = p.0; entry = i; after = r.0 ∷ j ∷ [] },
        record {
          is_item = record { production = record { left = b; right = Two y z }; placed = p.1; entered = en; read = (l, (m, tt)) };
          symbol = refl;
          entry = refl;
          last = refl;
        },
      )

  token_text : (x : Symbol) (v : List Letter) → Derives ps x v → (token : _) → x ≡ Token token → (text : List ℕ) → v ≡ map OfByte text → ⊥
  token_text x v (by_range range byte within) token is text e = cc
  token_text x v (by_token own) token is text e = no_token own text e
  token_text x v (by_empty b has) token is text e = cc
  token_text x v (by_one b y w has d) token is text e = cc
  token_text x v (by_two b y z u w has d g) token is text e = cc

  pub passage_item : (x : Symbol) (i j : ℕ) → Enters ps steps from 0 x i → Leads ps steps i x j
      → ((it : Item ℕ) × HasReadLast it (record { symbol = x; from = i; to = j })) ⊎ ((it : Item ℕ) × IsWholeOf it (record { symbol = x; from = i; to = j }))
  passage_item (Range r) i j e l = inl (read_last (Range r) i e j l (λ a h. cc))
  passage_item (Token t) i j e l = absurd (token_text (Token t) (map OfByte l.0) l.2 t refl l.0 refl)
  passage_item (Nt a) i j e l = inr (whole (Nt a) (map OfByte l.0) l.2 a refl l.0 refl i j l.1 l.3 e)

  -- an item has one passage that it has read last, and one that it is whole of
  pub same_last : (it : Item ℕ) (f g : Passage) → HasReadLast it f → HasReadLast it g → f ≡ g
  same_last it f g a b =
      let p : a.is_item.production ≡ b.is_item.production = some_same _ _ (sym a.is_item.placed ∙ b.is_item.placed) in
      let n : a.place ≡ b.place = (let e : suc a.place ≡ suc b.place = sym a.last ∙ b.last in cc) in
      let x : f.symbol ≡ g.symbol =
      some_same _ _ (sym a.symbol ∙ (ap (λ (q : Production). slice_get (symbols_of q.right) a.place) p ∙ (ap (λ (m : ℕ). slice_get (symbols_of b.is_item.production.right) m) n ∙ b.symbol))) in
      let i : f.from ≡ g.from = some_same _ _ (sym a.before ∙ (ap (λ (m : ℕ). slice_get (it.entry ∷ it.after) m) n ∙ b.before)) in
      let j : f.to ≡ g.to = some_same _ _ (sym a.behind ∙ (ap (λ (m : ℕ). slice_get it.after m) n ∙ b.behind)) in
      same_parts f g x i j
    where
      same_parts : (f g : Passage) → f.symbol ≡ g.symbol → f.from ≡ g.from → f.to ≡ g.to → f ≡ g
      same_parts f g x i j =
          ap (λ (y : Symbol). let h : Passage = record { symbol = y; from = f.from; to = f.to } in h) x
          ∙ (ap (λ (n : ℕ). let h : Passage = record { symbol = g.symbol; from = n; to = f.to } in h) i
          ∙ ap (λ (n : ℕ). let h : Passage = record { symbol = g.symbol; from = g.from; to = n } in h) j)

  pub same_whole : (it : Item ℕ) (f g : Passage) → IsWholeOf it f → IsWholeOf it g → f ≡ g
  same_whole it f g a b =
      let p : a.is_item.production ≡ b.is_item.production = some_same _ _ (sym a.is_item.placed ∙ b.is_item.placed) in
      let x : f.symbol ≡ g.symbol = a.symbol ∙ (ap (λ (q : Production). Nt q.left) p ∙ sym b.symbol) in
      let i : f.from ≡ g.from = sym a.entry ∙ b.entry in
      let j : f.to ≡ g.to = some_same _ _ (sym a.last ∙ b.last) in
      ap (λ (y : Symbol). let h : Passage = record { symbol = y; from = f.from; to = f.to } in h) x
      ∙ (ap (λ (n : ℕ). let h : Passage = record { symbol = g.symbol; from = n; to = f.to } in h) i
      ∙ ap (λ (n : ℕ). let h : Passage = record { symbol = g.symbol; from = g.from; to = n } in h) j)
