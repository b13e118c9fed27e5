-- The grammar is closed: it has exactly the texts and the integers, and each of its symbols derives something.
use Rattle.std.proofs.Common.{◌≡◌, nat_le, Bool, true, List, [], ◌∷◌, ◌++◌, map, refl, sym, ◌∙◌, subst, append_assoc}
use Rattle.std.specs.List.{All, list_all}
use Rattle.std.proofs.lemmas.Bool.{leb-true}
use Rattle.std.proofs.lemmas.List.Sums.{AllPass-from_list_all}
use Rattle.text_base.specs.declared.letter.Letter.TheVariants.{OfByte}
use Rattle.cfg_grammar.specs.declared.symbol.Symbol.TheVariants.{Nt}
use Rattle.cfg_grammar.specs.declared.production.Production.{Production}
use Rattle.cfg_grammar.specs.Below.{AreBelow, production_below}
use Rattle.cfg_grammar.specs.Tokens.{HaveNoToken, production_without_token}
use Rattle.xml_text.specs.Texts.{IsText}
use Rattle.given_texts.specs.Closed.{IsClosed}
use Rattle.given_texts.specs.declared.text_rows.TheConstants.{ROWS, ENDS}
use Rattle.given_texts.specs.Rows.{Row, IsOrdered, AreFor, end_production, more_characters, AreAll}
use Rattle.given_texts.proofs.Sound as sound
use Rattle.given_texts.proofs.Complete as complete
use Rattle.given_texts.proofs.Live as live
use Rattle.given_texts.proofs.Lists.{all_from, one_below, one_plain, together}

is_ordered : Row → Bool
is_ordered row = nat_le row.1 row.2

are_ordered : list_all is_ordered ROWS ≡ true
unfolding is_ordered
are_ordered = refl

pub all_ordered : All IsOrdered ROWS
unfolding is_ordered
all_ordered k d h = leb-true _ _ (AllPass-from_list_all is_ordered ROWS are_ordered k d h)

pub all_of : (ps made : List Production) → AreFor ROWS ps → made ≡ (ps ++ more_characters ∷ []) ++ map end_production ENDS → AreAll made
all_of ps made are e = subst AreAll (sym (e ∙ append_assoc ps (more_characters ∷ []) (map end_production ENDS))) (together ps are)

pub is_closed : (ps : List Production) → AreAll ps → IsClosed (record { productions = ps; request = 0; integer = 11 }) IsText
is_closed ps all = record {
  asked = λ w. (complete.text ps all w, λ d. sound.means ps all (Nt (record { 0 = 0 })) (map OfByte w) d w refl);
  integers = λ w. (live.integer ps all w, λ d. sound.means ps all (Nt (record { 0 = 11 })) (map OfByte w) d w refl);
  live = λ left right has s c. live.symbols_live ps all (record { left = left; right = right }) (all.each (record { left = left; right = right }) has) s c;
}

pub below : (ps : List Production) → AreAll ps → AreBelow 32 ps
below ps all = all_from (production_below 32) ps (λ p h. one_below p (all.each p h))

pub plain : (ps : List Production) → AreAll ps → HaveNoToken ps
plain ps all = all_from production_without_token ps (λ p h. one_plain p (all.each p h))
