-- The moves behind a variable and its keys, which the code holds as one value.
use Rattle.std.specs.Prelude.{Bool, List, Option}
use Rattle.php_syntax.specs.declared.token.Sign.{Sign}
use Rattle.php_syntax.specs.declared.tree.UpdateSign.{UpdateSign}
use Rattle.script_grammar.specs.Terminals.{Terminal}
use Rattle.expr_machine.specs.declared.frame.Frame.{Frame}
use Rattle.expr_machine.specs.Machine.{Move, operand_move, key_move, updated_move, placed_move, place_move}
use Rattle.expr_parser.specs.declared.places.Place.{Place}

-- a variable with its keys as an operand
abbrev pub operand_from : Place → List Frame → List Terminal → Move
operand_from p fs ts = operand_move p.name p.keys p.gap fs ts

-- `[` behind a variable with its keys
abbrev pub key_from : Place → List Frame → List Terminal → Move
key_from p fs ts = key_move p.name p.keys p.gap fs ts

-- a sign behind a variable with its keys: an assignment with an operator, `++` or `--`, or none of them
abbrev pub updated_from : Option UpdateSign → Option Bool → Place → List Frame → Sign → List Terminal → Move
updated_from u up p fs s r = updated_move u up p.name p.keys p.gap fs s r

-- any sign behind a variable with its keys
abbrev pub placed_from : Place → List Frame → Sign → List Terminal → Move
placed_from p fs s r = placed_move p.name p.keys p.gap fs s r

-- what stands behind a variable with its keys
abbrev pub place_from : Place → List Frame → List Terminal → Move
place_from p fs ts = place_move p.name p.keys p.gap fs ts
