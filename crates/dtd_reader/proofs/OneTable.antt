-- A file spells one table.
use Rattle.std.proofs.Common.{◌≡◌, ◌∙◌, ℕ, Bool, true, false, List, [], ◌∷◌, Option, None, map, refl, sym, ap, subst, inl, inr, arith}
use Rattle.dtd_model.specs.Table.{Table, Rule}
use Rattle.dtd_model.specs.declared.dtd.DoctypeRule.{DoctypeRule}
use Rattle.std.specs.Prelude.{if◌then◌else◌}
use Rattle.io_edge.specs.Names.{beside, is_outside}
use Rattle.io_edge.specs.Told.{Told, known, Content}
use Rattle.dtd_texts.specs.Reading.{State, Holds, start}
use Rattle.dtd_texts.specs.Causes.{asks}
use Rattle.dtd_texts.specs.Spells.{ReadsAll, Says, DtdSpells, seen_from}
use Rattle.dtd_texts.specs.Tables.{Said, rules_of}
use Rattle.dtd_texts.specs.Went.{leads}
use Rattle.dtd_reader.proofs.NothingWrong.{cons_first, cons_rest}
use Rattle.dtd_reader.specs.Certain.{IsToldOf, AreTold}
use Rattle.dtd_reader.proofs.Told.{AsksFrom, asks_there, TellsFrom, holds_one, reads_one}

seen_told : (b : Bool) (t : Told) → (b ≡ false → (file : Option (List ℕ)) × (t ≡ known file)) → (file : Option (List ℕ)) × ((if b then known None else t) ≡ known file)
seen_told true t told = (None, refl)
seen_told false t told = told refl

asked_for : {content : Content} {root name file meant : List ℕ} → AreTold content root name → Holds content name file → AsksFrom (seen_from root name content) [] start file meant
    → IsToldOf (seen_from root name content) meant
asked_for {content = content} {root = root} {name = name} {meant = meant} told held (asks_there outer s b n bytes entity meets is shut outside) =
    seen_told (is_outside root name meant) (content (beside name meant)) (λ inside. told (beside name meant) (inr (record {
      file = _;
      held = held;
      so = record {
        meant = meant;
        asks = asks entity outer s (record { b = b; n = n; bytes = bytes; meets = meets; is = is }) shut outside;
        found = refl;
        inside = inside;
      };
    })))

pub tells : {content : Content} {root name file : List ℕ} → AreTold content root name → Holds content name file → TellsFrom (seen_from root name content) [] start file
tells told held = record { told = λ meant asked. asked_for told held asked }

-- the file holds one text
pub one_file : {content : Content} {root name a b : List ℕ} → AreTold content root name → Holds content name a → Holds content name b → a ≡ b
one_file {content = content} {name = name} {a = a} {b = b} told h k = holds_one content name a b (told name (inl refl)) h k

leads_same : {S : Type 0} {a b : S} → leads a ≡ leads b → a ≡ b
leads_same e = cc

map_leads : (xs ys : List Said) → map leads xs ≡ map leads ys → xs ≡ ys
map_leads [] [] e = refl
map_leads [] (y ∷ ys) e = absurd (grind arith)
map_leads (x ∷ xs) [] e = absurd (grind arith)
map_leads (x ∷ xs) (y ∷ ys) e = ap (λ (z : Said). z ∷ xs) (leads_same (cons_first e)) ∙ ap (λ (zs : List Said). y ∷ zs) (map_leads xs ys (cons_rest e))

pub same_table : (t u : Table) → t.elements ≡ u.elements → t.entities ≡ u.entities → t.doctype ≡ u.doctype → t ≡ u
same_table t u e f g =
    ap (λ (rs : List Rule). let x : Table = record { elements = rs; entities = t.entities; doctype = t.doctype } in x) e
    ∙ ap (λ (ns : List (List ℕ)). let x : Table = record { elements = u.elements; entities = ns; doctype = t.doctype } in x) f
    ∙ ap (λ (d : DoctypeRule). let x : Table = record { elements = u.elements; entities = u.entities; doctype = d } in x) g

same_last : (t u : Table) (a b : State) (xs ys : List Said) → a ≡ b → Says a.written xs → Says b.written ys → t.elements ≡ rules_of xs xs → u.elements ≡ rules_of ys ys → t.entities ≡ a.generals → u.entities ≡ b.generals
    → t.doctype ≡ u.doctype → t ≡ u
same_last t u a b xs ys e p q te ue tn un d =
    let all : Says b.written xs = subst (λ (s : State). Says s.written xs) e p in
    let same : xs ≡ ys = map_leads xs ys (sym all.each ∙ q.each) in
    same_table t u (te ∙ ap (λ (zs : List Said). rules_of zs zs) same ∙ sym ue) (tn ∙ ap (λ (s : State). s.generals) e ∙ sym un) d

pub one_table : (content : Content) (root name : List ℕ) (t u : Table) → AreTold content root name → DtdSpells content root name t → DtdSpells content root name u → t ≡ u
one_table content root name t u told p q =
    let other : ReadsAll (seen_from root name content) q.file p.last = subst (λ f. ReadsAll (seen_from root name content) f p.last) (one_file told p.held q.held) p.read in
    same_last t u p.last q.last p.says q.says (reads_one (tells told q.held) other.reads q.read.reads) p.said q.said p.elements q.elements p.entities q.entities (p.doctype ∙ sym q.doctype)
