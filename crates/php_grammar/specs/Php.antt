-- The grammar of src/text.rt, and its tables.
use Rattle.lr_tables.specs.Machine.{Tables}
use Rattle.lr_machine.specs.Shown.{rows_of, steps_of}
use Rattle.php_grammar.specs.declared.rows.TheConstants.{ROWS, GOTOS, GOTO_OF, ACCESSES}
use Rattle.php_grammar.specs.declared.rules.TheConstants.{RULES, TERMINALS, START, LEFTS, RIGHTS}

unfoldable pub php : Tables
php = record {
  grammar = record { terminals = TERMINALS; start = START; rules = RULES; lefts = LEFTS; rights = RIGHTS };
  rows = steps_of (rows_of ROWS GOTOS GOTO_OF);
  accesses = ACCESSES;
}
