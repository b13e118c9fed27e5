-- The table of each command, computed.
use Rattle.std.proofs.Common.{◌≡◌, ◌++◌, true, false, List, [], ◌∷◌, Some, None, refl, sym, subst, inl, inr, codes}
use Rattle.std.specs.Prelude.{if◌then◌else◌}
use Rattle.std.specs.Str.{bytes_eq}
use Rattle.clap.specs.Walk.{Text, rows_after, arg_by_id, arg_by_long}
use Rattle.clap.specs.Simple.{built, entered, is_simple}
use Rattle.clap.specs.Lexer.{long_of}
use Rattle.clap.proofs.OnLiterals.{clap_on_literals}
use Rattle.command_words.specs.Program as program
use Rattle.command_words.specs.Program.{Row as Command, commands}
use Rattle.command_words.specs.Asked.{Values, asked_by, asked_check, asked_run, asked_page, asked_grammar, asked_make, asked_site, asked_match, asked_first, has_help, help, is_given, is_help}
use Rattle.command_words.specs.Canonical.{IsAmong}
use Rattle.command_words.proofs.Rows.{below, option_rule, flag_rule}
use Rattle.command_words.proofs.Steps.{Table, Enters, LeavesAlone}
use Rattle.command_words.proofs.Given.{GiveNone}

-- it holds of each
abbrev Each : {X : Type 0} → (X → Type 0) → List X → Type 0
Each P [] = Unit {0}
Each P (x ∷ xs) = P x × Each P xs

each : {X : Type 0} (P : X → Type 0) (xs : List X) → Each P xs → (x : X) → IsAmong x xs → P x
each P [] all x e = absurd e
each P (y ∷ ys) all x (inl e) = subst P (sym e) all.0
each P (y ∷ ys) all x (inr e) = each P ys all.1 x e

-- two values say the same of the arguments of a command
pub record SameAt (row : Command) (v w : Values) : Type 0 where
  pub texts : (n : Text) → IsAmong n (row.place ∷ row.options) → v n ≡ w n
  pub flags : (n : Text) → IsAmong n row.flags → is_given (v n) ≡ is_given (w n)

-- what is known of a command
pub record Known (row : Command) : Type 0 where
  pub enters : Enters (built program.phpsa) row.word (below (program.command row))
  pub entered_is : (ws : List Text) → entered (built program.phpsa) (Some (row.word, ws)) ≡ Some (row.word, rows_after (below (program.command row)).rules [] ws)
  pub table : Table (below (program.command row)) row
  pub alike : (v w : Values) → SameAt row v w → asked_by row.word v ≡ asked_by row.word w
  pub alone : (n : Text) → IsAmong n (row.place ∷ row.options) → LeavesAlone n (below (program.command row)).rules
  pub unset : GiveNone (below (program.command row)).rules
  pub first : (ws : List Text) → asked_first (row.word ∷ ws) ≡ (if has_help ws then Some help else None)

pub phpsa_simple : is_simple program.phpsa ≡ true
unfolding program.phpsa clap_on_literals
phpsa_simple = refl

-- `check`

check_table : Table (below (program.command program.check)) program.check
unfolding clap_on_literals
check_table = record {
  own = refl;
  valid = λ rows e. rw e refl;
  defaults = refl;
  sees = refl;
  by_index = refl;
  place_id = refl;
  option_long = each (λ n. arg_by_long (below (program.command program.check)).rules n ≡ Some (option_rule n)) program.check.options (refl, (refl, (refl, (refl, tt))));
  option_id = each (λ n. arg_by_id (below (program.command program.check)).rules n ≡ Some (option_rule n)) program.check.options (refl, (refl, (refl, (refl, tt))));
  option_same = each (λ n. bytes_eq n n ≡ true) program.check.options (refl, (refl, (refl, (refl, tt))));
  flag_long = each (λ n. arg_by_long (below (program.command program.check)).rules n ≡ Some (flag_rule n)) program.check.flags (refl, (refl, (refl, tt)));
  joined_long = λ n v. each (λ m. long_of (45 ∷ 45 ∷ m ++ 61 ∷ v) ≡ Some (m, Some v)) program.check.options (refl, (refl, (refl, (refl, tt)))) n;
  joined_bare = λ n v. each (λ m. bytes_eq (45 ∷ 45 ∷ m ++ 61 ∷ v) (45 ∷ 45 ∷ []) ≡ false) program.check.options (refl, (refl, (refl, (refl, tt)))) n;
  joined_free = λ n v. each (λ m. is_help (45 ∷ 45 ∷ m ++ 61 ∷ v) ≡ false) program.check.options (refl, (refl, (refl, (refl, tt)))) n;
  option_text = each (λ n. long_of (45 ∷ 45 ∷ n) ≡ Some (n, None)) program.check.options (refl, (refl, (refl, (refl, tt))));
  option_bare = each (λ n. bytes_eq (45 ∷ 45 ∷ n) (45 ∷ 45 ∷ []) ≡ false) program.check.options (refl, (refl, (refl, (refl, tt))));
  option_free = each (λ n. is_help (45 ∷ 45 ∷ n) ≡ false) program.check.options (refl, (refl, (refl, (refl, tt))));
  flag_text = each (λ n. long_of (45 ∷ 45 ∷ n) ≡ Some (n, None)) program.check.flags (refl, (refl, (refl, tt)));
  flag_bare = each (λ n. bytes_eq (45 ∷ 45 ∷ n) (45 ∷ 45 ∷ []) ≡ false) program.check.flags (refl, (refl, (refl, tt)));
  flag_free = each (λ n. is_help (45 ∷ 45 ∷ n) ≡ false) program.check.flags (refl, (refl, (refl, tt)));
}

check_enters : Enters (built program.phpsa) (codes "check") (below (program.command program.check))
unfolding program.phpsa clap_on_literals
check_enters = record {
  first = refl;
  turn = refl;
  enters = λ ws. refl;
  is_met = λ ws. refl;
  settles = refl;
  defaults = refl;
  valid = refl;
}

check_alike : (v w : Values) → v (codes "FILE") ≡ w (codes "FILE") → v (codes "dtd") ≡ w (codes "dtd") → v (codes "limit") ≡ w (codes "limit") → v (codes "root") ≡ w (codes "root") → v (codes "stubs") ≡ w (codes "stubs") → is_given (v (codes "nesting")) ≡ is_given (w (codes "nesting")) → is_given (v (codes "json")) ≡ is_given (w (codes "json")) → is_given (v (codes "shortest")) ≡ is_given (w (codes "shortest")) → asked_check v ≡ asked_check w
check_alike v w e0 e1 e2 e3 e4 e5 e6 e7 = rw (e0, e1, e2, e3, e4, e5, e6, e7) refl

check_known : Known program.check
unfolding program.phpsa clap_on_literals
check_known = record {
  enters = check_enters;
  entered_is = λ ws. refl;
  table = check_table;
  alike = λ v w e. check_alike v w (e.texts (codes "FILE") (inl refl)) (e.texts (codes "dtd") (inr (inl refl))) (e.texts (codes "limit") (inr (inr (inl refl)))) (e.texts (codes "root") (inr (inr (inr (inl refl))))) (e.texts (codes "stubs") (inr (inr (inr (inr (inl refl)))))) (e.flags (codes "nesting") (inl refl)) (e.flags (codes "json") (inr (inl refl))) (e.flags (codes "shortest") (inr (inr (inl refl))));
  alone = each (λ n. LeavesAlone n (below (program.command program.check)).rules) (program.check.place ∷ program.check.options) ((inr refl, (inr refl, (inr refl, (inr refl, (inr refl, (inl refl, (inl refl, (inl refl, tt)))))))), ((inr refl, (inr refl, (inr refl, (inr refl, (inr refl, (inl refl, (inl refl, (inl refl, tt)))))))), ((inr refl, (inr refl, (inr refl, (inr refl, (inr refl, (inl refl, (inl refl, (inl refl, tt)))))))), ((inr refl, (inr refl, (inr refl, (inr refl, (inr refl, (inl refl, (inl refl, (inl refl, tt)))))))), ((inr refl, (inr refl, (inr refl, (inr refl, (inr refl, (inl refl, (inl refl, (inl refl, tt)))))))), tt)))));
  unset = (refl, (refl, (refl, (refl, (refl, (refl, (refl, (refl, tt))))))));
  first = λ ws. refl;
}

-- `run`

run_table : Table (below (program.command program.run)) program.run
unfolding clap_on_literals
run_table = record {
  own = refl;
  valid = λ rows e. rw e refl;
  defaults = refl;
  sees = refl;
  by_index = refl;
  place_id = refl;
  option_long = each (λ n. arg_by_long (below (program.command program.run)).rules n ≡ Some (option_rule n)) program.run.options (refl, (refl, (refl, (refl, tt))));
  option_id = each (λ n. arg_by_id (below (program.command program.run)).rules n ≡ Some (option_rule n)) program.run.options (refl, (refl, (refl, (refl, tt))));
  option_same = each (λ n. bytes_eq n n ≡ true) program.run.options (refl, (refl, (refl, (refl, tt))));
  flag_long = each (λ n. arg_by_long (below (program.command program.run)).rules n ≡ Some (flag_rule n)) program.run.flags tt;
  joined_long = λ n v. each (λ m. long_of (45 ∷ 45 ∷ m ++ 61 ∷ v) ≡ Some (m, Some v)) program.run.options (refl, (refl, (refl, (refl, tt)))) n;
  joined_bare = λ n v. each (λ m. bytes_eq (45 ∷ 45 ∷ m ++ 61 ∷ v) (45 ∷ 45 ∷ []) ≡ false) program.run.options (refl, (refl, (refl, (refl, tt)))) n;
  joined_free = λ n v. each (λ m. is_help (45 ∷ 45 ∷ m ++ 61 ∷ v) ≡ false) program.run.options (refl, (refl, (refl, (refl, tt)))) n;
  option_text = each (λ n. long_of (45 ∷ 45 ∷ n) ≡ Some (n, None)) program.run.options (refl, (refl, (refl, (refl, tt))));
  option_bare = each (λ n. bytes_eq (45 ∷ 45 ∷ n) (45 ∷ 45 ∷ []) ≡ false) program.run.options (refl, (refl, (refl, (refl, tt))));
  option_free = each (λ n. is_help (45 ∷ 45 ∷ n) ≡ false) program.run.options (refl, (refl, (refl, (refl, tt))));
  flag_text = each (λ n. long_of (45 ∷ 45 ∷ n) ≡ Some (n, None)) program.run.flags tt;
  flag_bare = each (λ n. bytes_eq (45 ∷ 45 ∷ n) (45 ∷ 45 ∷ []) ≡ false) program.run.flags tt;
  flag_free = each (λ n. is_help (45 ∷ 45 ∷ n) ≡ false) program.run.flags tt;
}

run_enters : Enters (built program.phpsa) (codes "run") (below (program.command program.run))
unfolding program.phpsa clap_on_literals
run_enters = record {
  first = refl;
  turn = refl;
  enters = λ ws. refl;
  is_met = λ ws. refl;
  settles = refl;
  defaults = refl;
  valid = refl;
}

run_alike : (v w : Values) → v (codes "FILE") ≡ w (codes "FILE") → v (codes "request") ≡ w (codes "request") → v (codes "steps") ≡ w (codes "steps") → v (codes "root") ≡ w (codes "root") → v (codes "stubs") ≡ w (codes "stubs") → asked_run v ≡ asked_run w
run_alike v w e0 e1 e2 e3 e4 = rw (e0, e1, e2, e3, e4) refl

run_known : Known program.run
unfolding program.phpsa clap_on_literals
run_known = record {
  enters = run_enters;
  entered_is = λ ws. refl;
  table = run_table;
  alike = λ v w e. run_alike v w (e.texts (codes "FILE") (inl refl)) (e.texts (codes "request") (inr (inl refl))) (e.texts (codes "steps") (inr (inr (inl refl)))) (e.texts (codes "root") (inr (inr (inr (inl refl))))) (e.texts (codes "stubs") (inr (inr (inr (inr (inl refl))))));
  alone = each (λ n. LeavesAlone n (below (program.command program.run)).rules) (program.run.place ∷ program.run.options) ((inr refl, (inr refl, (inr refl, (inr refl, (inr refl, tt))))), ((inr refl, (inr refl, (inr refl, (inr refl, (inr refl, tt))))), ((inr refl, (inr refl, (inr refl, (inr refl, (inr refl, tt))))), ((inr refl, (inr refl, (inr refl, (inr refl, (inr refl, tt))))), ((inr refl, (inr refl, (inr refl, (inr refl, (inr refl, tt))))), tt)))));
  unset = (refl, (refl, (refl, (refl, (refl, tt)))));
  first = λ ws. refl;
}

-- `page`

page_table : Table (below (program.command program.page)) program.page
unfolding clap_on_literals
page_table = record {
  own = refl;
  valid = λ rows e. rw e refl;
  defaults = refl;
  sees = refl;
  by_index = refl;
  place_id = refl;
  option_long = each (λ n. arg_by_long (below (program.command program.page)).rules n ≡ Some (option_rule n)) program.page.options (refl, (refl, tt));
  option_id = each (λ n. arg_by_id (below (program.command program.page)).rules n ≡ Some (option_rule n)) program.page.options (refl, (refl, tt));
  option_same = each (λ n. bytes_eq n n ≡ true) program.page.options (refl, (refl, tt));
  flag_long = each (λ n. arg_by_long (below (program.command program.page)).rules n ≡ Some (flag_rule n)) program.page.flags tt;
  joined_long = λ n v. each (λ m. long_of (45 ∷ 45 ∷ m ++ 61 ∷ v) ≡ Some (m, Some v)) program.page.options (refl, (refl, tt)) n;
  joined_bare = λ n v. each (λ m. bytes_eq (45 ∷ 45 ∷ m ++ 61 ∷ v) (45 ∷ 45 ∷ []) ≡ false) program.page.options (refl, (refl, tt)) n;
  joined_free = λ n v. each (λ m. is_help (45 ∷ 45 ∷ m ++ 61 ∷ v) ≡ false) program.page.options (refl, (refl, tt)) n;
  option_text = each (λ n. long_of (45 ∷ 45 ∷ n) ≡ Some (n, None)) program.page.options (refl, (refl, tt));
  option_bare = each (λ n. bytes_eq (45 ∷ 45 ∷ n) (45 ∷ 45 ∷ []) ≡ false) program.page.options (refl, (refl, tt));
  option_free = each (λ n. is_help (45 ∷ 45 ∷ n) ≡ false) program.page.options (refl, (refl, tt));
  flag_text = each (λ n. long_of (45 ∷ 45 ∷ n) ≡ Some (n, None)) program.page.flags tt;
  flag_bare = each (λ n. bytes_eq (45 ∷ 45 ∷ n) (45 ∷ 45 ∷ []) ≡ false) program.page.flags tt;
  flag_free = each (λ n. is_help (45 ∷ 45 ∷ n) ≡ false) program.page.flags tt;
}

page_enters : Enters (built program.phpsa) (codes "page") (below (program.command program.page))
unfolding program.phpsa clap_on_literals
page_enters = record {
  first = refl;
  turn = refl;
  enters = λ ws. refl;
  is_met = λ ws. refl;
  settles = refl;
  defaults = refl;
  valid = refl;
}

page_alike : (v w : Values) → v (codes "FILE") ≡ w (codes "FILE") → v (codes "dtd") ≡ w (codes "dtd") → v (codes "root") ≡ w (codes "root") → asked_page v ≡ asked_page w
page_alike v w e0 e1 e2 = rw (e0, e1, e2) refl

page_known : Known program.page
unfolding program.phpsa clap_on_literals
page_known = record {
  enters = page_enters;
  entered_is = λ ws. refl;
  table = page_table;
  alike = λ v w e. page_alike v w (e.texts (codes "FILE") (inl refl)) (e.texts (codes "dtd") (inr (inl refl))) (e.texts (codes "root") (inr (inr (inl refl))));
  alone = each (λ n. LeavesAlone n (below (program.command program.page)).rules) (program.page.place ∷ program.page.options) ((inr refl, (inr refl, (inr refl, tt))), ((inr refl, (inr refl, (inr refl, tt))), ((inr refl, (inr refl, (inr refl, tt))), tt)));
  unset = (refl, (refl, (refl, tt)));
  first = λ ws. refl;
}

-- `grammar`

grammar_table : Table (below (program.command program.grammar)) program.grammar
unfolding clap_on_literals
grammar_table = record {
  own = refl;
  valid = λ rows e. rw e refl;
  defaults = refl;
  sees = refl;
  by_index = refl;
  place_id = refl;
  option_long = each (λ n. arg_by_long (below (program.command program.grammar)).rules n ≡ Some (option_rule n)) program.grammar.options (refl, (refl, tt));
  option_id = each (λ n. arg_by_id (below (program.command program.grammar)).rules n ≡ Some (option_rule n)) program.grammar.options (refl, (refl, tt));
  option_same = each (λ n. bytes_eq n n ≡ true) program.grammar.options (refl, (refl, tt));
  flag_long = each (λ n. arg_by_long (below (program.command program.grammar)).rules n ≡ Some (flag_rule n)) program.grammar.flags tt;
  joined_long = λ n v. each (λ m. long_of (45 ∷ 45 ∷ m ++ 61 ∷ v) ≡ Some (m, Some v)) program.grammar.options (refl, (refl, tt)) n;
  joined_bare = λ n v. each (λ m. bytes_eq (45 ∷ 45 ∷ m ++ 61 ∷ v) (45 ∷ 45 ∷ []) ≡ false) program.grammar.options (refl, (refl, tt)) n;
  joined_free = λ n v. each (λ m. is_help (45 ∷ 45 ∷ m ++ 61 ∷ v) ≡ false) program.grammar.options (refl, (refl, tt)) n;
  option_text = each (λ n. long_of (45 ∷ 45 ∷ n) ≡ Some (n, None)) program.grammar.options (refl, (refl, tt));
  option_bare = each (λ n. bytes_eq (45 ∷ 45 ∷ n) (45 ∷ 45 ∷ []) ≡ false) program.grammar.options (refl, (refl, tt));
  option_free = each (λ n. is_help (45 ∷ 45 ∷ n) ≡ false) program.grammar.options (refl, (refl, tt));
  flag_text = each (λ n. long_of (45 ∷ 45 ∷ n) ≡ Some (n, None)) program.grammar.flags tt;
  flag_bare = each (λ n. bytes_eq (45 ∷ 45 ∷ n) (45 ∷ 45 ∷ []) ≡ false) program.grammar.flags tt;
  flag_free = each (λ n. is_help (45 ∷ 45 ∷ n) ≡ false) program.grammar.flags tt;
}

grammar_enters : Enters (built program.phpsa) (codes "grammar") (below (program.command program.grammar))
unfolding program.phpsa clap_on_literals
grammar_enters = record {
  first = refl;
  turn = refl;
  enters = λ ws. refl;
  is_met = λ ws. refl;
  settles = refl;
  defaults = refl;
  valid = refl;
}

grammar_alike : (v w : Values) → v (codes "FILE") ≡ w (codes "FILE") → v (codes "root") ≡ w (codes "root") → v (codes "stubs") ≡ w (codes "stubs") → asked_grammar v ≡ asked_grammar w
grammar_alike v w e0 e1 e2 = rw (e0, e1, e2) refl

grammar_known : Known program.grammar
unfolding program.phpsa clap_on_literals
grammar_known = record {
  enters = grammar_enters;
  entered_is = λ ws. refl;
  table = grammar_table;
  alike = λ v w e. grammar_alike v w (e.texts (codes "FILE") (inl refl)) (e.texts (codes "root") (inr (inl refl))) (e.texts (codes "stubs") (inr (inr (inl refl))));
  alone = each (λ n. LeavesAlone n (below (program.command program.grammar)).rules) (program.grammar.place ∷ program.grammar.options) ((inr refl, (inr refl, (inr refl, tt))), ((inr refl, (inr refl, (inr refl, tt))), ((inr refl, (inr refl, (inr refl, tt))), tt)));
  unset = (refl, (refl, (refl, tt)));
  first = λ ws. refl;
}

-- `make`

make_table : Table (below (program.command program.make)) program.make
unfolding clap_on_literals
make_table = record {
  own = refl;
  valid = λ rows e. rw e refl;
  defaults = refl;
  sees = refl;
  by_index = refl;
  place_id = refl;
  option_long = each (λ n. arg_by_long (below (program.command program.make)).rules n ≡ Some (option_rule n)) program.make.options tt;
  option_id = each (λ n. arg_by_id (below (program.command program.make)).rules n ≡ Some (option_rule n)) program.make.options tt;
  option_same = each (λ n. bytes_eq n n ≡ true) program.make.options tt;
  flag_long = each (λ n. arg_by_long (below (program.command program.make)).rules n ≡ Some (flag_rule n)) program.make.flags (refl, tt);
  joined_long = λ n v. each (λ m. long_of (45 ∷ 45 ∷ m ++ 61 ∷ v) ≡ Some (m, Some v)) program.make.options tt n;
  joined_bare = λ n v. each (λ m. bytes_eq (45 ∷ 45 ∷ m ++ 61 ∷ v) (45 ∷ 45 ∷ []) ≡ false) program.make.options tt n;
  joined_free = λ n v. each (λ m. is_help (45 ∷ 45 ∷ m ++ 61 ∷ v) ≡ false) program.make.options tt n;
  option_text = each (λ n. long_of (45 ∷ 45 ∷ n) ≡ Some (n, None)) program.make.options tt;
  option_bare = each (λ n. bytes_eq (45 ∷ 45 ∷ n) (45 ∷ 45 ∷ []) ≡ false) program.make.options tt;
  option_free = each (λ n. is_help (45 ∷ 45 ∷ n) ≡ false) program.make.options tt;
  flag_text = each (λ n. long_of (45 ∷ 45 ∷ n) ≡ Some (n, None)) program.make.flags (refl, tt);
  flag_bare = each (λ n. bytes_eq (45 ∷ 45 ∷ n) (45 ∷ 45 ∷ []) ≡ false) program.make.flags (refl, tt);
  flag_free = each (λ n. is_help (45 ∷ 45 ∷ n) ≡ false) program.make.flags (refl, tt);
}

make_enters : Enters (built program.phpsa) (codes "make") (below (program.command program.make))
unfolding program.phpsa clap_on_literals
make_enters = record {
  first = refl;
  turn = refl;
  enters = λ ws. refl;
  is_met = λ ws. refl;
  settles = refl;
  defaults = refl;
  valid = refl;
}

make_alike : (v w : Values) → v (codes "N") ≡ w (codes "N") → is_given (v (codes "check")) ≡ is_given (w (codes "check")) → asked_make v ≡ asked_make w
make_alike v w e0 e1 = rw (e0, e1) refl

make_known : Known program.make
unfolding program.phpsa clap_on_literals
make_known = record {
  enters = make_enters;
  entered_is = λ ws. refl;
  table = make_table;
  alike = λ v w e. make_alike v w (e.texts (codes "N") (inl refl)) (e.flags (codes "check") (inl refl));
  alone = each (λ n. LeavesAlone n (below (program.command program.make)).rules) (program.make.place ∷ program.make.options) ((inr refl, (inl refl, tt)), tt);
  unset = (refl, (refl, tt));
  first = λ ws. refl;
}

-- `site`

site_table : Table (below (program.command program.site)) program.site
unfolding clap_on_literals
site_table = record {
  own = refl;
  valid = λ rows e. rw e refl;
  defaults = refl;
  sees = refl;
  by_index = refl;
  place_id = refl;
  option_long = each (λ n. arg_by_long (below (program.command program.site)).rules n ≡ Some (option_rule n)) program.site.options (refl, (refl, (refl, (refl, tt))));
  option_id = each (λ n. arg_by_id (below (program.command program.site)).rules n ≡ Some (option_rule n)) program.site.options (refl, (refl, (refl, (refl, tt))));
  option_same = each (λ n. bytes_eq n n ≡ true) program.site.options (refl, (refl, (refl, (refl, tt))));
  flag_long = each (λ n. arg_by_long (below (program.command program.site)).rules n ≡ Some (flag_rule n)) program.site.flags (refl, tt);
  joined_long = λ n v. each (λ m. long_of (45 ∷ 45 ∷ m ++ 61 ∷ v) ≡ Some (m, Some v)) program.site.options (refl, (refl, (refl, (refl, tt)))) n;
  joined_bare = λ n v. each (λ m. bytes_eq (45 ∷ 45 ∷ m ++ 61 ∷ v) (45 ∷ 45 ∷ []) ≡ false) program.site.options (refl, (refl, (refl, (refl, tt)))) n;
  joined_free = λ n v. each (λ m. is_help (45 ∷ 45 ∷ m ++ 61 ∷ v) ≡ false) program.site.options (refl, (refl, (refl, (refl, tt)))) n;
  option_text = each (λ n. long_of (45 ∷ 45 ∷ n) ≡ Some (n, None)) program.site.options (refl, (refl, (refl, (refl, tt))));
  option_bare = each (λ n. bytes_eq (45 ∷ 45 ∷ n) (45 ∷ 45 ∷ []) ≡ false) program.site.options (refl, (refl, (refl, (refl, tt))));
  option_free = each (λ n. is_help (45 ∷ 45 ∷ n) ≡ false) program.site.options (refl, (refl, (refl, (refl, tt))));
  flag_text = each (λ n. long_of (45 ∷ 45 ∷ n) ≡ Some (n, None)) program.site.flags (refl, tt);
  flag_bare = each (λ n. bytes_eq (45 ∷ 45 ∷ n) (45 ∷ 45 ∷ []) ≡ false) program.site.flags (refl, tt);
  flag_free = each (λ n. is_help (45 ∷ 45 ∷ n) ≡ false) program.site.flags (refl, tt);
}

site_enters : Enters (built program.phpsa) (codes "site") (below (program.command program.site))
unfolding program.phpsa clap_on_literals
site_enters = record {
  first = refl;
  turn = refl;
  enters = λ ws. refl;
  is_met = λ ws. refl;
  settles = refl;
  defaults = refl;
  valid = refl;
}

site_alike : (v w : Values) → v (codes "FILE") ≡ w (codes "FILE") → v (codes "dtd") ≡ w (codes "dtd") → v (codes "limit") ≡ w (codes "limit") → v (codes "root") ≡ w (codes "root") → v (codes "stubs") ≡ w (codes "stubs") → is_given (v (codes "nesting")) ≡ is_given (w (codes "nesting")) → asked_site v ≡ asked_site w
site_alike v w e0 e1 e2 e3 e4 e5 = rw (e0, e1, e2, e3, e4, e5) refl

site_known : Known program.site
unfolding program.phpsa clap_on_literals
site_known = record {
  enters = site_enters;
  entered_is = λ ws. refl;
  table = site_table;
  alike = λ v w e. site_alike v w (e.texts (codes "FILE") (inl refl)) (e.texts (codes "dtd") (inr (inl refl))) (e.texts (codes "limit") (inr (inr (inl refl)))) (e.texts (codes "root") (inr (inr (inr (inl refl))))) (e.texts (codes "stubs") (inr (inr (inr (inr (inl refl)))))) (e.flags (codes "nesting") (inl refl));
  alone = each (λ n. LeavesAlone n (below (program.command program.site)).rules) (program.site.place ∷ program.site.options) ((inr refl, (inr refl, (inr refl, (inr refl, (inr refl, (inl refl, tt)))))), ((inr refl, (inr refl, (inr refl, (inr refl, (inr refl, (inl refl, tt)))))), ((inr refl, (inr refl, (inr refl, (inr refl, (inr refl, (inl refl, tt)))))), ((inr refl, (inr refl, (inr refl, (inr refl, (inr refl, (inl refl, tt)))))), ((inr refl, (inr refl, (inr refl, (inr refl, (inr refl, (inl refl, tt)))))), tt)))));
  unset = (refl, (refl, (refl, (refl, (refl, (refl, tt))))));
  first = λ ws. refl;
}

-- `match`

match_table : Table (below (program.command program.match_pattern)) program.match_pattern
unfolding clap_on_literals
match_table = record {
  own = refl;
  valid = λ rows e. rw e refl;
  defaults = refl;
  sees = refl;
  by_index = refl;
  place_id = refl;
  option_long = each (λ n. arg_by_long (below (program.command program.match_pattern)).rules n ≡ Some (option_rule n)) program.match_pattern.options (refl, (refl, (refl, tt)));
  option_id = each (λ n. arg_by_id (below (program.command program.match_pattern)).rules n ≡ Some (option_rule n)) program.match_pattern.options (refl, (refl, (refl, tt)));
  option_same = each (λ n. bytes_eq n n ≡ true) program.match_pattern.options (refl, (refl, (refl, tt)));
  flag_long = each (λ n. arg_by_long (below (program.command program.match_pattern)).rules n ≡ Some (flag_rule n)) program.match_pattern.flags tt;
  joined_long = λ n v. each (λ m. long_of (45 ∷ 45 ∷ m ++ 61 ∷ v) ≡ Some (m, Some v)) program.match_pattern.options (refl, (refl, (refl, tt))) n;
  joined_bare = λ n v. each (λ m. bytes_eq (45 ∷ 45 ∷ m ++ 61 ∷ v) (45 ∷ 45 ∷ []) ≡ false) program.match_pattern.options (refl, (refl, (refl, tt))) n;
  joined_free = λ n v. each (λ m. is_help (45 ∷ 45 ∷ m ++ 61 ∷ v) ≡ false) program.match_pattern.options (refl, (refl, (refl, tt))) n;
  option_text = each (λ n. long_of (45 ∷ 45 ∷ n) ≡ Some (n, None)) program.match_pattern.options (refl, (refl, (refl, tt)));
  option_bare = each (λ n. bytes_eq (45 ∷ 45 ∷ n) (45 ∷ 45 ∷ []) ≡ false) program.match_pattern.options (refl, (refl, (refl, tt)));
  option_free = each (λ n. is_help (45 ∷ 45 ∷ n) ≡ false) program.match_pattern.options (refl, (refl, (refl, tt)));
  flag_text = each (λ n. long_of (45 ∷ 45 ∷ n) ≡ Some (n, None)) program.match_pattern.flags tt;
  flag_bare = each (λ n. bytes_eq (45 ∷ 45 ∷ n) (45 ∷ 45 ∷ []) ≡ false) program.match_pattern.flags tt;
  flag_free = each (λ n. is_help (45 ∷ 45 ∷ n) ≡ false) program.match_pattern.flags tt;
}

match_enters : Enters (built program.phpsa) (codes "match") (below (program.command program.match_pattern))
unfolding program.phpsa clap_on_literals
match_enters = record {
  first = refl;
  turn = refl;
  enters = λ ws. refl;
  is_met = λ ws. refl;
  settles = refl;
  defaults = refl;
  valid = refl;
}

match_alike : (v w : Values) → v (codes "FILE") ≡ w (codes "FILE") → v (codes "policy") ≡ w (codes "policy") → v (codes "root") ≡ w (codes "root") → v (codes "stubs") ≡ w (codes "stubs") → asked_match v ≡ asked_match w
match_alike v w e0 e1 e2 e3 = rw (e0, e1, e2, e3) refl

match_known : Known program.match_pattern
unfolding program.phpsa clap_on_literals
match_known = record {
  enters = match_enters;
  entered_is = λ ws. refl;
  table = match_table;
  alike = λ v w e. match_alike v w (e.texts (codes "FILE") (inl refl)) (e.texts (codes "policy") (inr (inl refl))) (e.texts (codes "root") (inr (inr (inl refl)))) (e.texts (codes "stubs") (inr (inr (inr (inl refl)))));
  alone = each (λ n. LeavesAlone n (below (program.command program.match_pattern)).rules) (program.match_pattern.place ∷ program.match_pattern.options) ((inr refl, (inr refl, (inr refl, (inr refl, tt)))), ((inr refl, (inr refl, (inr refl, (inr refl, tt)))), ((inr refl, (inr refl, (inr refl, (inr refl, tt)))), ((inr refl, (inr refl, (inr refl, (inr refl, tt)))), tt))));
  unset = (refl, (refl, (refl, (refl, tt))));
  first = λ ws. refl;
}

-- each command is known
pub known : (row : Command) → IsAmong row commands → Known row
known = each Known commands (check_known, (run_known, (page_known, (grammar_known, (make_known, (site_known, (match_known, tt)))))))
