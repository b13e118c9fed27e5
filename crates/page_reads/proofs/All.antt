-- All forms together.
use Rattle.std.proofs.Common.{◌≡◌, ℕ, Bool, true, false, List, [], ◌∷◌, Option, Some, refl, sym, ◌∙◌, ap}
use Rattle.std.specs.Prelude.{if◌then◌else◌, bytes_eq}
use Rattle.std.specs.List.{list_all}
use Rattle.std.proofs.lemmas.Bool.{and_parts}
use Rattle.dtd_model.specs.Lawful.{is_lawful_kind, is_lawful_rule, is_lawful}
use Rattle.dtd_model.specs.Table.{Declared, Rule, Table}
use Rattle.page_model.specs.Attributes.{find_rule}
use Rattle.page_model.proofs.Appended.{piece_more}
use Rattle.page_step_laws.proofs.Opened.{pieces_open}
use Rattle.page_step_laws.proofs.Tokens.{tokens_by_reading}
use Rattle.tag_steps.specs.Laws.{HasLawfulKinds}
use Rattle.opener_steps.specs.Laws.{read_first}
use Rattle.page_reads.specs.Laws.{IsLawfulTable, PiecesRead, PageTokensRead}
use Rattle.page_reads.proofs.Forward.{each_is_read}
use Rattle.page_reads.proofs.Backward.{nothing_else}

rule_kinds : (count : ℕ) (rule : Rule) → is_lawful_rule count rule ≡ true → list_all (λ (d : Declared). is_lawful_kind d.kind) rule.attributes ≡ true
rule_kinds count rule h = (and_parts _ (list_all (λ (d : Declared). is_lawful_kind d.kind) rule.attributes) (and_parts _ _ h).1).1

found_kinds : (count : ℕ) (rules : List Rule) (name : List ℕ) (rule : Rule) → list_all (is_lawful_rule count) rules ≡ true → find_rule rules name ≡ Some rule → list_all (λ (d : Declared). is_lawful_kind d.kind) rule.attributes ≡ true
found_kinds count [] name rule h e = cc
found_kinds count (r ∷ rs) name rule h e = at (bytes_eq r.name name) e (and_parts (is_lawful_rule count r) (list_all (is_lawful_rule count) rs) h) (λ k q. found_kinds count rs name rule k q)
  where
    same : (x y : Rule) → (let z : Option Rule = Some x in z ≡ Some y) → x ≡ y
    same x y e = cc

    at : (b : Bool) → (if b then Some r else find_rule rs name) ≡ Some rule → (is_lawful_rule count r ≡ true) × (list_all (is_lawful_rule count) rs ≡ true)
        → (list_all (is_lawful_rule count) rs ≡ true → find_rule rs name ≡ Some rule → list_all (λ (d : Declared). is_lawful_kind d.kind) rule.attributes ≡ true) → list_all (λ (d : Declared). is_lawful_kind d.kind) rule.attributes ≡ true
    at true e p ih = ap (λ (x : Rule). list_all (λ (d : Declared). is_lawful_kind d.kind) x.attributes) (sym (same r rule e)) ∙ rule_kinds count r p.0
    at false e p ih = ih p.1 e

pub lawful_kinds : (table : Table) → IsLawfulTable table → HasLawfulKinds table
unfolding is_lawful
lawful_kinds table h name rule e = found_kinds _ table.elements name rule (and_parts _ _ (and_parts _ _ h).0).1 e

pub pieces_read : PiecesRead
pieces_read table h = record {
  closed = λ place. refl;
  opens = λ s g b e. pieces_open table s g b e;
  complete = λ place p rest l. ap (read_first table place) (sym (piece_more p rest)) ∙ each_is_read table (lawful_kinds table h) place p rest l;
  sound = λ place behind tokens text rest e. nothing_else table (lawful_kinds table h) place behind text tokens rest e;
}

pub page_tokens_read : PageTokensRead
page_tokens_read table h bytes tokens = tokens_by_reading table (pieces_read table h) bytes tokens
