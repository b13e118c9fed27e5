-- The start of the system has exactly the loose pages.
use Rattle.std.proofs.Common.{◌↔◌, ℕ, List, sym, subst, Contains}
use Rattle.cfg_grammar.specs.declared.symbol.Symbol.TheVariants.{Nt}
use Rattle.op_system.specs.declared.op.Op.{Op}
use Rattle.op_system.specs.declared.system.OpSystem.{OpSystem}
use Rattle.flow_code.specs.Points.{PlainFlow}
use Rattle.least_sets.specs.Forms.{Form}
use Rattle.least_sets.specs.Sets.{In, Says}
use Rattle.least_sets.specs.Simulations.{IsMonotone}
use Rattle.loose_sets.specs.Loose.{LooseBy}
use Rattle.loose_sets.specs.Table.{Row}
use Rattle.loose_sets.specs.Versions.{Linked, linked_in}
use Rattle.loose_sets.specs.Uses.{At}
use Rattle.loose_sets.specs.Exact.{AreExact, by_version, IsRead}
use Rattle.ssa_form.specs.Versions.{joins_of}
use Rattle.loose_sets.specs.declared.name.Leaving.{Leaving}
use Rattle.loose_sets.specs.declared.name.SetName.{SetName}
use Rattle.loose_sets.specs.declared.name.SetName.TheVariants.{Out}
use Rattle.point_listing.specs.Reading.{read_at}
use Rattle.point_listing.proofs.Exact.{are_exact}
use Rattle.given_texts.specs.Closed.{Closed, IsClosed}
use Rattle.system_writing.specs.Systems.{IsSystem}
use Rattle.system_writing.proofs.Same as same
use Rattle.extraction.specs.Texts.{SystemText}
use Rattle.extraction.specs.Listers.{IsFlowLister}
use Rattle.extraction.specs.Numbered.{Lists, table_of, AreWhole}
use Rattle.extraction.specs.Ends.{AreEnds, IsExactLister}
use Rattle.extraction.proofs.Extracted.{start_named}
use Rattle.extraction.proofs.TableLaws as listed

module _ (outputs : Op → List ℕ → List ℕ → Type 0) (request : List ℕ → Type 0) (circular : (ℕ → Type 0) → List ℕ → Type 0) (more : IsMonotone circular)
    (flow : PlainFlow) (asks : SetName → Type 0) (lists : Lists) (starts names : List SetName) (asked : (n : SetName) → Contains names n → asks n) (whole : AreWhole lists names)
    (ends : AreEnds flow starts) (closed : Closed) (is_closed : IsClosed closed request) (s : OpSystem) (system : IsSystem (table_of lists names) starts names closed s) where
  abbrev T : SetName → Form SetName → Type 0
  T = table_of lists names

  begun : (n : SetName) → Contains starts n → Contains names n
  begun n has = start_named T starts names closed s system n has

  module _ (linked : Linked) (at : At) (exact : AreExact flow linked at) (is : IsFlowLister flow linked at asks lists) where
    printed : (p : ℕ) (l : Leaving) → Contains names (Out p l) → (w : List ℕ) → In (Row flow) outputs request circular (Out p l) w ↔ In T outputs request circular (Out p l) w
    unfolding IsRead by_version
    printed p l has w = listed.loose_texts flow linked at asks lists is names asked whole outputs request circular more exact (Out p l) tt has w

    start : (w : List ℕ) → ((n : SetName) × Contains starts n × In T outputs request circular n w) ↔ SystemText outputs circular s.grammar.productions.items s.ops.items (Nt s.start) w
    start w =
        same.start_texts SetName T (Contains starts) (Says T) closed system.parts s.grammar.productions.items s.ops.items system.written (λ j. (λ h. h, λ h. h)) request is_closed outputs (λ v. ⊥) circular more s.start system.begins w

    pages : (w : List ℕ) → SystemText outputs circular s.grammar.productions.items s.ops.items (Nt s.start) w ↔ LooseBy outputs request circular flow w
    pages w = (to_page, of_page)
      where
        to_page : SystemText outputs circular s.grammar.productions.items s.ops.items (Nt s.start) w → LooseBy outputs request circular flow w
        to_page i =
            let h = (start w).1 i in
            let n = ends.each h.0 h.1 in
            record {
              main = n.0;
              is_main = n.2;
              end = n.1;
              printed = (printed n.0.entry_of n.1 (begun (Out n.0.entry_of n.1) (subst (λ (z : SetName). Contains starts z) n.3 h.1)) w).1 (subst (λ (z : SetName). In T outputs request circular z w) n.3 h.2);
            }

        of_page : LooseBy outputs request circular flow w → SystemText outputs circular s.grammar.productions.items s.ops.items (Nt s.start) w
        of_page page =
            let has = ends.all page.main page.end page.is_main in
            (start w).0 (Out page.main.entry_of page.end, has, (printed page.main.entry_of page.end (begun (Out page.main.entry_of page.end) has) w).0 page.printed)

  pub start_pages : IsExactLister flow asks lists → (w : List ℕ) → SystemText outputs circular s.grammar.productions.items s.ops.items (Nt s.start) w ↔ LooseBy outputs request circular flow w
  start_pages is w = pages (linked_in (joins_of is.versions)) (read_at is.versions) (are_exact flow is.versions is.exact) is.lister w

-- the names to begin with may be asked for
pub ends_asked : (flow : PlainFlow) (asks : SetName → Type 0) (lists : Lists) → IsExactLister flow asks lists → (starts : List SetName) → AreEnds flow starts → (n : SetName) → Contains starts n → asks n
ends_asked flow asks lists is starts ends n c =
    let e = ends.each n c in
    subst (λ (m : SetName). asks m) (sym e.3) (is.lister.start e.0 e.1 e.2)
