-- A grammar of the text `a`, its image under a machine that puts a blank before each byte, and what a derivation of the one leads back to in the other.
use Rattle.std.proofs.Common.{◌≡◌, ℕ, true, false, List, [], ◌∷◌, ◌++◌, Option, Some, None, refl, arith}
use Rattle.text_base.specs.declared.byte_range.ByteRange.{ByteRange}
use Rattle.text_base.specs.declared.page_token.PageToken.TheVariants.{Blank}
use Rattle.text_base.specs.declared.letter.Letter.TheVariants.{OfByte, OfToken}
use Rattle.text_base.specs.declared.numbers.Nt as nt
use Rattle.cfg_grammar.specs.declared.symbol.Symbol.TheVariants as symbol
use Rattle.cfg_grammar.specs.declared.production.Right.TheVariants as right
use Rattle.cfg_grammar.specs.declared.production.Production.{Production}
use Rattle.derivations.specs.declared.node.Part.{Part}
use Rattle.derivations.specs.declared.node.Part.TheVariants.{Byte, Token, Inner}
use Rattle.derivations.specs.declared.node.Parts.TheVariants.{Empty, One, Two}
use Rattle.derivations.specs.declared.node.Node.{Node}
use Rattle.derivations.specs.Stands.{by_byte, by_token, by_empty, by_one, by_two, IsDerivation}
use Rattle.grammar_chart.specs.declared.keys.Passage.{Passage}
use Rattle.chart_grammar.specs.Sources.{ComesOf, IsOfOutput, IsEnd}
use Rattle.grammar_image.specs.Echoes.{text_of}
use Rattle.grammar_image.specs.Firsts.{first_of_parts}
use Rattle.grammar_image.specs.Marks.{mark_parts}
use Rattle.grammar_image.specs.Leads.{led_parts, Leads, first_led, node_of}

abbrev letter : ByteRange
letter = record { lo = 97; hi = 97; ordered = omega arith }

abbrev nt_at : ℕ → nt.Nt
nt_at n = record { 0 = n }

-- 0 is `a` and then 1, which is empty
abbrev source : List Production
source = record { left = nt_at 0; right = right.Two (symbol.Range letter) (symbol.Nt (nt_at 1)) } ∷ record { left = nt_at 1; right = right.Empty } ∷ []

-- the machine has one state
abbrev passages : List Passage
passages =
    record { symbol = symbol.Nt (nt_at 0); from = 0; to = 0 } ∷ record { symbol = symbol.Range letter; from = 0; to = 0 } ∷ record { symbol = symbol.Nt (nt_at 1); from = 0; to = 0 } ∷ []

-- 1, 2 and 3 are the passages, 4 and 5 the fronts of a blank and `a`, and 0 is the first passage
abbrev image : List Production
image =
    record { left = nt_at 1; right = right.Two (symbol.Nt (nt_at 2)) (symbol.Nt (nt_at 3)) }
    ∷ record { left = nt_at 3; right = right.Empty }
    ∷ record { left = nt_at 2; right = right.One (symbol.Nt (nt_at 5)) }
    ∷ record { left = nt_at 4; right = right.One (symbol.Token Blank) }
    ∷ record { left = nt_at 5; right = right.Two (symbol.Nt (nt_at 4)) (symbol.Range letter) }
    ∷ record { left = nt_at 0; right = right.One (symbol.Nt (nt_at 1)) }
    ∷ []

abbrev sources : List ℕ
sources = 0 ∷ 1 ∷ []

abbrev first_node : Node
first_node = record { production = 3; parts = One (Token Blank); length = 0 }

abbrev whole_node : Node
whole_node = record { production = 0; parts = Two (Inner 2) (Inner 3); length = 1 }

-- a derivation of the blank and `a`
abbrev nodes : List Node
nodes =
    first_node
    ∷ record { production = 4; parts = Two (Inner 0) (Byte 97); length = 1 }
    ∷ record { production = 2; parts = One (Inner 1); length = 1 }
    ∷ record { production = 1; parts = Empty; length = 0 }
    ∷ whole_node
    ∷ record { production = 5; parts = One (Inner 4); length = 1 }
    ∷ []

-- what its first four nodes lead back to
abbrev leads : List (Option Part)
leads = None ∷ Some (Byte 97) ∷ Some (Byte 97) ∷ Some (Inner 0) ∷ []

abbrev empty_node : Node
empty_node = record { production = 1; parts = Empty; length = 0 }

-- the derivation of `a` that it leads back to
abbrev made : List Node
made = empty_node ∷ record { production = 0; parts = Two (Byte 97) (Inner 0); length = 1 } ∷ []

stands : IsDerivation image nodes (nt_at 0) (OfToken Blank ∷ OfByte 97 ∷ [])
stands =
    by_one 5 (record { production = 5; parts = One (Inner 4); length = 1 }) (nt_at 0) (symbol.Nt (nt_at 1)) (Inner 4) (OfToken Blank ∷ OfByte 97 ∷ []) refl refl refl
    (by_two 4 whole_node (nt_at 1) (symbol.Nt (nt_at 2)) (symbol.Nt (nt_at 3)) (Inner 2) (Inner 3) (OfToken Blank ∷ OfByte 97 ∷ []) [] refl refl refl
    (by_one 2 (record { production = 2; parts = One (Inner 1); length = 1 }) (nt_at 2) (symbol.Nt (nt_at 5)) (Inner 1) (OfToken Blank ∷ OfByte 97 ∷ []) refl refl refl
    (by_two 1 (record { production = 4; parts = Two (Inner 0) (Byte 97); length = 1 }) (nt_at 5) (symbol.Nt (nt_at 4)) (symbol.Range letter) (Inner 0) (Byte 97) (OfToken Blank ∷ []) (OfByte 97 ∷ []) refl refl refl
    (by_one 0 first_node (nt_at 4) (symbol.Token Blank) (Token Blank) (OfToken Blank ∷ []) refl refl refl (by_token Blank))
    (by_byte letter 97 (omega arith, omega arith))))
    (by_empty 3 empty_node (nt_at 3) refl refl refl))

leads_back : IsDerivation source made (nt_at 0) (text_of (OfToken Blank ∷ OfByte 97 ∷ []))
leads_back =
    by_two 1 (record { production = 0; parts = Two (Byte 97) (Inner 0); length = 1 }) (nt_at 0) (symbol.Range letter) (symbol.Nt (nt_at 1)) (Byte 97) (Inner 0) (OfByte 97 ∷ []) [] refl refl refl
    (by_byte letter 97 (omega arith, omega arith)) (by_empty 0 empty_node (nt_at 1) refl refl refl)

-- the first production of the image comes of the first one of the grammar
comes : ComesOf source passages 0 (record { left = nt_at 1; right = right.Two (symbol.Nt (nt_at 2)) (symbol.Nt (nt_at 3)) })
comes = record {
  production = record { left = nt_at 0; right = right.Two (symbol.Range letter) (symbol.Nt (nt_at 1)) };
  placed = refl;
  from = 0;
  to = 0;
  number = 0;
  passed = refl;
  left = refl;
  right = (0, 1, 2, refl, refl, refl);
}

-- so it is none of an output
is_of_no_output : IsOfOutput passages (record { left = nt_at 1; right = right.Empty }) → ⊥
is_of_no_output h = h 0 (nt_at 0) 0 0 refl refl

ends : IsEnd (nt_at 0) passages (record { left = nt_at 0; right = right.One (symbol.Nt (nt_at 1)) })
ends = record { to = 0; number = 0; passed = refl; front = 0; right = refl }

-- its node is a new one, whose parts are what its own parts lead back to
leads_to_a_node : Leads true (empty_node ∷ []) made leads sources (Some 97) whole_node (Some (Inner 1))
leads_to_a_node = (refl, refl)

-- a node of an output leads to the first byte
leads_to_a_byte : Leads true [] [] (None ∷ []) sources (Some 97) (record { production = 4; parts = Two (Inner 0) (Byte 97); length = 1 }) (Some (Byte 97))
leads_to_a_byte = (refl, refl)

-- a token has none
leads_to_nothing : Leads true [] [] [] sources None first_node None
leads_to_nothing = (refl, refl)

-- a node that is not marked leads to nothing
is_left_out : Leads false [] [] [] sources (Some 97) whole_node (Some (Byte 97)) → ⊥
is_left_out h = cc

-- where a part leads to nothing, the parts do
has_no_parts : led_parts leads (Two (Inner 0) (Inner 3)) ≡ None
has_no_parts = refl

has_parts : led_parts leads (Two (Inner 2) (Inner 3)) ≡ Some (Two (Byte 97) (Inner 0))
has_parts = refl

first_byte : first_of_parts (None ∷ []) (Two (Inner 0) (Byte 97)) ≡ Some 97
first_byte = refl

no_first_byte : first_of_parts [] (One (Token Blank)) ≡ None
no_first_byte = refl

marks : mark_parts (false ∷ false ∷ false ∷ []) (Two (Inner 1) (Byte 97)) ≡ false ∷ true ∷ false ∷ []
marks = refl

-- the root is the node that the image's root leads to, and a byte is none
root : node_of made (first_led (leads ++ Some (Inner 1) ∷ []) (One (Inner 4))) ≡ Some (record { production = 0; parts = Two (Byte 97) (Inner 0); length = 1 })
root = refl

no_root : node_of made (Some (Byte 97)) ≡ None
no_root = refl
