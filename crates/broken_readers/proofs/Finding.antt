-- The machines of the readers find broken pages, and all of them.
use Rattle.std.specs.Prelude.{◌≡◌, ◌↔◌, ◌<◌, ℕ, Bool, true, false, ◌||◌, List, [], ◌∷◌, All, Option, Some, None, refl}
use Rattle.std.specs.List.{list_all, list_any}
use Rattle.std.proofs.Common.{ap, sym, subst, ◌∙◌, true≢false}
use Rattle.text_base.specs.declared.page_token.PageToken.{PageToken}
use Rattle.text_base.specs.declared.page_token.PageToken.TheVariants.{Doctype, Start, End, Blank, Text, Misc, Bad}
use Rattle.dtd_model.specs.Table.{Table}
use Rattle.derivatives.specs.declared.arena.Arena.{Arena}
use Rattle.page_model.specs.Broken.{Broken}
use Rattle.page_model.specs.PageTokens.{sort_token}
use Rattle.page_model.specs.Places.{Place, at_beginning}
use Rattle.page_model.specs.TokenTree.{Trees, no_trees, single, tree, TokenTree, prolog_then, trees_then}
use Rattle.page_model.specs.Valid.{Sort, blank, text, remark}
use Rattle.page_model.specs.Laws.{ValidByTokens}
use Rattle.piece_steps.specs.Readers.{all_tokens}
use Rattle.tag_sums.specs.Nesting.{Nest, torn, nest, join, nest_of, is_balanced}
use Rattle.dyck_balance.specs.Laws.{WholeIsNested}
use Rattle.summary_decision.specs.Pairs.{tokens_in}
use Rattle.page_decision.specs.declared.goal.Goal as goals
use Rattle.page_decision.specs.Goals.{IsGood}
use Rattle.page_decision.specs.Machines.{IsBrokenMachine, is_no_tag, PutsNoTags}
use Rattle.page_decision.specs.PageVerdicts.{AreAllNested}
use Rattle.echoing_machine.specs.Echoes.{echo_of, IsEcho}
use Rattle.echoing_machine.proofs.EchoLemmas.{is_echo}
use Rattle.form_reader.specs.FormReader.{form_reader}
use Rattle.form_reader.specs.Laws.{PageTokensAreRead}
use Rattle.coarse_forms.specs.Languages.{coarse_forms}
use Rattle.broken_forms.specs.LooseForms.{loose_forms}
use Rattle.broken_forms.specs.Laws.{is_bad, BrokenHaveBad, CoarseAreBroken}
use Rattle.way_reader.specs.Cuts.{told, Tells, way_tokens}
use Rattle.way_reader.specs.declared.way.Way.{Way}
use Rattle.way_reader.specs.Laws.{HaveTexts}
use Rattle.way_reader.specs.Ways.{first_state, next_state, tokens_at, tokens_behind}
use Rattle.broken_readers.specs.Laws.{IsCoarselyBroken, LooseTellsBroken, CoarseTellsBroken, WayStep, WayEnd, WayPuts, LooseMissesNone, CoarseMissesNone, BrokenIsNotGood, LooseFindsBroken, CoarseFindsBroken}
use Rattle.broken_readers.proofs.Telling.{of_bytes}

-- What a machine puts out.

module _ (a : Arena) (starts : Place → List Way) where
  law : IsEcho (next_state a starts) (tokens_at a starts) (tokens_behind a starts) first_state
  law = is_echo (next_state a starts) (tokens_at a starts) (tokens_behind a starts) first_state

  puts : (page : List ℕ) (tokens : List PageToken) → WayPuts a starts page tokens → tokens ≡ way_tokens a starts page
  puts page tokens put = sym put.2 ∙ (ap tokens_in ((law.only page put.0).0 put.1) ∙ law.tokens page)

  balanced : (b : Bool) → is_balanced (nest_of (told b)) ≡ b
  balanced true = refl
  balanced false = refl

  no_tag : (b : Bool) → list_all is_no_tag (told b) ≡ true
  no_tag true = refl
  no_tag false = refl

  -- where the tokens tell of the page, those of the machine are not nested exactly where that holds
  unbalanced : {P : Type 0} (page : List ℕ) (tokens : List PageToken) → Tells P (way_tokens a starts page) → WayPuts a starts page tokens → (is_balanced (nest_of tokens) ≡ false) ↔ P
  unbalanced page tokens t put =
      let sum : is_balanced (nest_of tokens) ≡ t.0 = ap (λ (ts : List PageToken). is_balanced (nest_of ts)) (puts page tokens put ∙ t.1) ∙ balanced t.0 in
      (λ e. t.2.1 (sym sum ∙ e), λ p. sum ∙ t.2.0 p)

  untagged : {P : Type 0} (page : List ℕ) (tokens : List PageToken) → Tells P (way_tokens a starts page) → WayPuts a starts page tokens → list_all is_no_tag tokens ≡ true
  untagged page tokens t put = ap (list_all is_no_tag) (puts page tokens put ∙ t.1) ∙ no_tag t.0

  -- a machine whose tokens tell of pages that are not good
  finds_by : (P : List ℕ → Type 0) (table : Table) → ((page : List ℕ) → All (λ byte. byte < 256) page → Tells (P page) (way_tokens a starts page))
      → ((page : List ℕ) → All (λ byte. byte < 256) page → P page → (goal : goals.Goal) → IsGood goal table page → ⊥) → IsBrokenMachine table first_state (WayStep a starts) (WayEnd a starts)
  finds_by P table tells bad = record {
    echoing = record {
      copies = law.copies;
      adds_none = law.adds_none;
      total = λ text bytes. (echo_of (next_state a starts) (tokens_at a starts) (tokens_behind a starts) first_state text, (law.only text (echo_of (next_state a starts) (tokens_at a starts) (tokens_behind a starts) first_state text)).1 refl);
    };
    broken = λ page tokens bytes put torn_so goal good. bad page bytes ((unbalanced page tokens (tells page bytes) put).0 torn_so) goal good;
  }

pub loose_misses_none : LooseTellsBroken → LooseMissesNone
loose_misses_none tells table a starts f page tokens bytes put = unbalanced a starts page tokens (tells table a starts f page bytes) put

pub coarse_misses_none : CoarseTellsBroken → CoarseMissesNone
coarse_misses_none tells a starts f page tokens bytes put = unbalanced a starts page tokens (tells a starts f page bytes) put

pub loose_puts_no_tags : LooseTellsBroken → (table : Table) (a : Arena) (starts : Place → List Way) → HaveTexts (loose_forms table) a starts → PutsNoTags (λ page. All (λ byte. byte < 256) page) (WayPuts a starts)
loose_puts_no_tags tells table a starts f page tokens bytes put = untagged a starts page tokens (tells table a starts f page bytes) put

pub coarse_puts_no_tags : CoarseTellsBroken → (a : Arena) (starts : Place → List Way) → HaveTexts coarse_forms a starts → PutsNoTags (λ page. All (λ byte. byte < 256) page) (WayPuts a starts)
coarse_puts_no_tags tells a starts f page tokens bytes put = untagged a starts page tokens (tells a starts f page bytes) put

-- where all that the machine of the coarse form puts out is nested, no page is coarsely broken
pub none_coarse : CoarseMissesNone → (a : Arena) (starts : Place → List Way) → HaveTexts coarse_forms a starts → (IsPage : List ℕ → Type 0) → ((page : List ℕ) → IsPage page → All (λ byte. byte < 256) page)
    → AreAllNested IsPage (WayPuts a starts) → (page : List ℕ) → IsPage page → IsCoarselyBroken page → ⊥
none_coarse misses a starts f IsPage fits all page is broken =
    let h = all page is in
    true≢false (sym h.sum ∙ (misses a starts f page h.tokens (fits page is) h.has).1 broken)

-- No token of a tree is bad.

not_bad : (sort : Sort) → is_bad (sort_token sort) ≡ false
not_bad blank = refl
not_bad text = refl
not_bad remark = refl

trees_good : (t : Trees) (more : List PageToken) → list_any is_bad (trees_then t more) ≡ list_any is_bad more
trees_good no_trees more = refl
trees_good (single sort t) more = ap (λ (b : Bool). b || list_any is_bad (trees_then t more)) (not_bad sort) ∙ trees_good t more
trees_good (tree e inside t) more = trees_good inside (End (record { 0 = e }) ∷ trees_then t more) ∙ trees_good t more

prolog_good : (o : Option Trees) (more : List PageToken) → list_any is_bad (prolog_then o more) ≡ list_any is_bad more
prolog_good None more = refl
prolog_good (Some t) more = trees_good t (Doctype ∷ more)

tree_good : (table : Table) (tokens : List PageToken) → TokenTree table tokens → list_any is_bad tokens ≡ false
tree_good table tokens t = ap (list_any is_bad) (sym t.flat) ∙ prolog_good t.before (trees_then t.trees []) ∙ trees_good t.trees []

bad_torn : (tokens : List PageToken) → list_any is_bad tokens ≡ true → nest_of tokens ≡ torn
bad_torn [] h = cc
bad_torn (Bad ∷ ts) h = refl
bad_torn (Doctype ∷ ts) h = ap (λ (n : Nest). join (nest [] []) n) (bad_torn ts h)
bad_torn (Start e ∷ ts) h = ap (λ (n : Nest). join (nest [] (e.0 ∷ [])) n) (bad_torn ts h)
bad_torn (End e ∷ ts) h = ap (λ (n : Nest). join (nest (e.0 ∷ []) []) n) (bad_torn ts h)
bad_torn (Blank ∷ ts) h = ap (λ (n : Nest). join (nest [] []) n) (bad_torn ts h)
bad_torn (Text ∷ ts) h = ap (λ (n : Nest). join (nest [] []) n) (bad_torn ts h)
bad_torn (Misc ∷ ts) h = ap (λ (n : Nest). join (nest [] []) n) (bad_torn ts h)

module _ (bad : BrokenHaveBad) (valid : ValidByTokens) (reads : PageTokensAreRead) (nested : WholeIsNested) where
  pub not_good : BrokenIsNotGood
  not_good table lawful page broken goals.Goal.Valid good =
      let tokens = all_tokens (form_reader table) (Some ((form_reader table).first at_beginning)) page in
      let has = (reads table lawful page tokens).1 refl in
      let z : true ≡ false = sym (bad table page tokens broken has) ∙ tree_good table tokens ((valid table page tokens has).0 good) in
      cc
  not_good table lawful page broken goals.Goal.Nested good =
      let any : list_any is_bad good.tokens ≡ true = bad table page good.tokens broken good.has in
      let whole = (nested good.tokens).1 good.nested in
      let z : is_balanced torn ≡ true = subst (λ (n : Nest). is_balanced n ≡ true) (bad_torn good.tokens any) whole in
      cc

pub loose_finds_broken : LooseTellsBroken → BrokenIsNotGood → LooseFindsBroken
loose_finds_broken tells bad table lawful a starts f = finds_by a starts (Broken table) table (tells table a starts f) (λ page bytes broken goal good. bad table lawful page broken goal good)

pub coarse_finds_broken : CoarseTellsBroken → CoarseAreBroken → BrokenIsNotGood → CoarseFindsBroken
coarse_finds_broken tells coarse bad table lawful a starts f =
    finds_by a starts IsCoarselyBroken table (tells a starts f) (λ page bytes broken goal good. bad table lawful page (coarse table page (of_bytes page bytes) broken) goal good)
