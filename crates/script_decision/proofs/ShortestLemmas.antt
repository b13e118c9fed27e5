-- What is found of the pages of a grammar is an answer for the program.
use Rattle.std.proofs.Common.{◌≡◌, ◌<◌, ◌≤◌, ◌+◌, ℕ, List, map, length, min, subst, arith, Result, Ok, Err, IfOk}
use Rattle.text_base.specs.declared.letter.Letter.TheVariants.{OfByte}
use Rattle.text_base.specs.declared.memory.NoMemory.{NoMemory}
use Rattle.text_base.specs.declared.page_token.PageToken.{PageToken}
use Rattle.cfg_grammar.specs.declared.symbol.Symbol.TheVariants.{Nt}
use Rattle.cfg_grammar.specs.declared.grammar.Grammar.{Grammar}
use Rattle.derivations.specs.declared.derivation.Derivation.{Derivation}
use Rattle.derivations.specs.Nodes.{most}
use Rattle.dtd_model.specs.Table.{Table}
use Rattle.broken_readers.specs.Laws.{WayStep, WayEnd}
use Rattle.way_reader.specs.PageWays.{ArePageWays}
use Rattle.way_reader.specs.Reader.{starts_at}
use Rattle.way_reader.specs.Ways.{first_state}
use Rattle.way_reader.specs.declared.reader.PieceWays.{PieceWays}
use Rattle.fst_core.specs.Items.{HasItems}
use Rattle.fst_core.specs.Outputs.{DerivesText}
use Rattle.page_decision.specs.declared.goal.Goal.{Goal}
use Rattle.page_decision.specs.Goals.{IsGood}
use Rattle.page_decision.specs.Echoes.{IsMachineImage}
use Rattle.page_decision.specs.TextVerdicts.{IsDerivationOf}
use Rattle.program_rules.specs.Lawful.{IsLawful}
use Rattle.flow_runs.specs.Texts.{TextsFit}
use Rattle.script_meaning.specs.Programs.{PlainProgram}
use Rattle.loose_grammar.specs.declared.refusal.TheConstants.{ITEM_LIMIT}
use Rattle.loose_grammar.specs.Pages.{IsLoosePage, IsPageGrammar}
use Rattle.script_decision.specs.Answers.{EachIsGood, RunsAreGood}
use Rattle.script_decision.specs.Decision.{IsReaderImage}
use Rattle.script_decision.specs.declared.showing_pages.ShownPage.{ShownPage}
use Rattle.script_decision.specs.Shows.{Shows}
use Rattle.script_decision.specs.Shown.{IsShownCounterexample}
use Rattle.script_decision.proofs.PageLemmas.{texts_are_pages}
use Rattle.script_decision.proofs.ShownLemmas.{ShowsEach, own_bytes}
use Rattle.short_page.specs.ShortPages.{AreShorterGood, IsShortestBad, HasShortSums, HasShortTags, HasManyShortSums, HasManyShortTags}
use Rattle.script_decision.specs.declared.shortest_answer.ShortestAnswer.{ShortestAnswer}
use Rattle.script_decision.specs.declared.shortest_answer.ShortestAnswer.TheVariants as answer
use Rattle.script_decision.specs.ShortestAnswers.{IsShownShortest, by_pages, HasManyItems, IsShortestAnswer, SaysOfRuns}
use Rattle.script_decision.specs.ShortestBelow.{IsCutOf}

-- where each loose page is good, so are runs
abbrev pub RunsFollow : Type 0
RunsFollow = (goal : Goal) (table : Table) (program : PlainProgram) → IsLawful program → TextsFit program → EachIsGood goal table program → RunsAreGood goal table program

module _ (goal : Goal) (table : Table) (program : PlainProgram) (ways : PieceWays) (are : ArePageWays table ways) (grammar : Grammar) (is_grammar : IsPageGrammar program grammar) where
  abbrev IsPage : List ℕ → Type 0
  IsPage = DerivesText grammar.productions.items (Nt grammar.start)

  abbrev IsImage : Grammar → Type 0
  IsImage = IsMachineImage grammar first_state (WayStep ways.arena (starts_at ways.starts)) (WayEnd ways.arena (starts_at ways.starts))

  page_loose : (page : List ℕ) → IsPage page → IsLoosePage program page
  page_loose page d = (texts_are_pages program grammar.productions.items grammar.start is_grammar.pages page).0 d

  loose_page : (page : List ℕ) → IsLoosePage program page → IsPage page
  loose_page page loose = (texts_are_pages program grammar.productions.items grammar.start is_grammar.pages page).1 loose

  of_image : (image : Grammar) → IsImage image → IsReaderImage table program image
  of_image image of_grammar = (ways, are, record { grammar = grammar; of_program = is_grammar; of_grammar = of_grammar })

  shorter_good : (asked : Goal) (l : ℕ) → AreShorterGood table IsPage asked l → AreShorterGood table (IsLoosePage program) asked l
  shorter_good asked l all page loose less = all page (loose_page page loose) less

  pub each_good : ((page : List ℕ) → IsPage page → IsGood goal table page) → EachIsGood goal table program
  each_good all page loose = all page (loose_page page loose)

  pub shown_shortest : (derivation : Derivation) (shown : ShownPage) → ShowsEach derivation shown → IsShortestBad table IsPage (IsDerivationOf grammar) goal derivation → IsShownShortest goal table program shown
  shown_shortest derivation shown each is = record {
    page = is.page;
    loose = page_loose is.page is.is_page;
    bad = is.bad;
    shows = subst (λ (page : List ℕ). Shows page shown) (own_bytes is.page) (each grammar.productions.items grammar.start (map OfByte is.page) is.derives);
    shortest = λ other loose less few. is.shortest other (loose_page other loose) less few;
  }

  -- of a grammar that is cut to texts of so many bytes
  module _ (most : ℕ) (cut : Grammar) (is_cut : IsCutOf grammar most cut) where
    abbrev IsCutPage : List ℕ → Type 0
    IsCutPage = DerivesText cut.productions.items (Nt cut.start)

    pub good_below : ((page : List ℕ) → IsCutPage page → IsGood goal table page) → (page : List ℕ) → IsLoosePage program page → length page ≤ most → IsGood goal table page
    good_below all page loose short = all page ((is_cut page).1 (loose_page page loose, short))

    own_page : (page : List ℕ) → IsCutPage page → IsPage page
    own_page page d = ((is_cut page).0 d).0

    short_page : (page : List ℕ) → IsCutPage page → length page ≤ most
    short_page page d = ((is_cut page).0 d).1

    pub bad_below : (derivation : Derivation) (shown : ShownPage) → ShowsEach derivation shown → IsShortestBad table IsCutPage (IsDerivationOf cut) goal derivation → IsShownShortest goal table program shown
    bad_below derivation shown each is = record {
      page = is.page;
      loose = page_loose is.page (own_page is.page is.is_page);
      bad = is.bad;
      shows = subst (λ (page : List ℕ). Shows page shown) (own_bytes is.page) (each cut.productions.items cut.start (map OfByte is.page) is.derives);
      shortest = λ other loose less few.
          let long : length is.page ≤ most = short_page is.page is.is_page in
          let short : length other ≤ most = omega (arith, long, less) in
          is.shortest other ((is_cut other).1 (loose_page other loose, short)) less few;
    }

  sums_wider : {S : Type 0} (sum_by : List PageToken → S) (asked : Goal) (limit count l : ℕ) → HasShortSums table IsPage IsImage sum_by asked limit count l → HasShortSums table (IsLoosePage program) (IsReaderImage table program) sum_by asked limit count l
  sums_wider sum_by asked limit count l h =
      record { image = h.image; is_image = of_image h.image h.is_image; over = h.over; sums = h.sums; good_below = shorter_good asked l h.good_below }

  tags_wider : {S : Type 0} (sum_by : List PageToken → S) (tags : S → ℕ) (asked : Goal) (count l : ℕ) → HasShortTags table IsPage IsImage sum_by tags asked count l → HasShortTags table (IsLoosePage program) (IsReaderImage table program) sum_by tags asked count l
  tags_wider sum_by tags asked count l h = record {
    image = h.image;
    is_image = of_image h.image h.is_image;
    over = h.over;
    nonterminal = h.nonterminal;
    sum = h.sum;
    of_sentence = h.of_sentence;
    tagged = h.tagged;
    good_below = shorter_good asked l h.good_below;
  }

  pub many_sums : (asked : Goal) (limit count l : ℕ) → HasManyShortSums table IsPage IsImage asked limit count l → HasManyShortSums table (IsLoosePage program) (IsReaderImage table program) asked limit count l
  many_sums Goal.Valid limit count l h = (h.0, h.1, sums_wider _ Goal.Valid limit count l h.2)
  many_sums Goal.Nested limit count l h = sums_wider _ Goal.Nested limit count l h

  pub many_tags : (asked : Goal) (count l : ℕ) → HasManyShortTags table IsPage IsImage asked count l → HasManyShortTags table (IsLoosePage program) (IsReaderImage table program) asked count l
  many_tags Goal.Valid count l h = (h.0, h.1, tags_wider _ _ Goal.Valid count l h.2)
  many_tags Goal.Nested count l h = tags_wider _ _ Goal.Nested count l h

-- a count of items of the pages' image
pub many_items : (table : Table) (program : PlainProgram) (ways : PieceWays) → ArePageWays table ways → (grammar : Grammar) (count : ℕ) → IsPageGrammar program grammar
    → (ITEM_LIMIT < count) × HasItems grammar.productions.items (WayStep ways.arena (starts_at ways.starts)) grammar.start first_state count
    → (ITEM_LIMIT < count) × HasManyItems table program count
many_items table program ways are grammar count is (over, has) = (over, by_pages grammar is ways are has)

module _ (law : RunsFollow) (goal : Goal) (table : Table) (program : PlainProgram) (lawful : IsLawful program) (fit : TextsFit program) (limit : ℕ) where
  pub says : (a : ShortestAnswer) → IsShortestAnswer goal table program limit a → SaysOfRuns goal table program a
  says answer.Yes each = law goal table program lawful fit each
  says (answer.No shown) is = tt
  says (answer.Pairs count l) is = tt
  says (answer.Tags count l) is = tt
  says (answer.Items count) is = tt

  pub result_says : (r : Result ShortestAnswer NoMemory) → IfOk r (IsShortestAnswer goal table program limit) → IfOk r (SaysOfRuns goal table program)
  result_says (Ok a) is = says a is
  result_says (Err e) is = tt

-- a page that is known is a shortest one, where each of fewer bytes is good
pub known_shortest : (goal : Goal) (table : Table) (program : PlainProgram) (shown : ShownPage) (fewer : ℕ) → IsShownCounterexample goal table program shown → shown.length ≤ fewer + 1
    → ((page : List ℕ) → IsLoosePage program page → length page ≤ fewer → IsGood goal table page) → IsShownShortest goal table program shown
known_shortest goal table program shown fewer is next all = record {
  page = is.page;
  loose = is.loose;
  bad = is.bad;
  shows = is.shows;
  shortest = λ other loose less few.
      let counted : shown.length ≡ min (length is.page) most = is.shows.counted in
      let short : length other ≤ fewer = omega (arith, counted, less, few, next) in
      all other loose short;
}

-- and where it is empty
pub empty_shortest : (goal : Goal) (table : Table) (program : PlainProgram) (shown : ShownPage) → IsShownCounterexample goal table program shown → shown.length ≡ 0
    → IsShownShortest goal table program shown
empty_shortest goal table program shown is empty = record {
  page = is.page;
  loose = is.loose;
  bad = is.bad;
  shows = is.shows;
  shortest = λ other loose less few.
      let counted : shown.length ≡ min (length is.page) most = is.shows.counted in
      absurd (omega (arith, counted, less, few, empty));
}
