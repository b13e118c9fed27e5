-- The tables pass the check, by computation. What goes over all states goes by parts of 120 of them.
use Rattle.std.proofs.Common.{◌≡◌, ℕ, zero, suc, Bool, true, List, refl}
use Rattle.std.specs.Prelude.{slice_index_or, take, drop}
use Rattle.std.proofs.lemmas.Bool.{and_from}
use Rattle.lr_tables.specs.declared.step.Step.{Step}
use Rattle.lr_tables.specs.Machine.{entry}
use Rattle.lr_tables.specs.Certificates.{State, no_state, sides, behind, is_sub, closed_of}
use Rattle.lr_tables.specs.Checks.{moves_ok, are_facts, start_ok, states_ok, tables_ok}
use Rattle.lr_tables.specs.FrontChecks.{is_free, is_some, sample_of, are_samples, states_front, rows_enter, fronts_ok, is_certified}
use Rattle.lr_tables.specs.Laws.{AreChecked}
use Rattle.php_grammar.specs.Certificate.{certificate}
use Rattle.php_grammar.specs.Php.{php}
use Rattle.php_grammar.proofs.Parts.{states_in_parts, rows_in_parts}

-- what is left behind so many parts: the symbols that lead to the states, their rows, the states
abbrev accesses_at : ℕ → List ℕ
accesses_at zero = php.accesses
accesses_at (suc k) = behind 120 (accesses_at k)

abbrev rows_at : ℕ → List (List Step)
rows_at zero = php.rows
rows_at (suc k) = drop 120 (rows_at k)

abbrev states_at : ℕ → List State
states_at zero = certificate.states
states_at (suc k) = drop 120 (states_at k)

-- what completeness asks for of states
abbrev okay : List ℕ → List (List Step) → List State → Bool
okay = states_ok php.grammar.lefts php.grammar.rights php.grammar.terminals certificate.facts (sides php.grammar.rules) certificate.states

-- of one part, and of all that is left
abbrev IsPartOkay : ℕ → Type 0
IsPartOkay k = okay (accesses_at k) (rows_at k) (take 120 (states_at k)) ≡ true

abbrev IsRestOkay : ℕ → Type 0
IsRestOkay k = okay (accesses_at k) (rows_at k) (states_at k) ≡ true

okay_on : (k : ℕ) → IsPartOkay k → IsRestOkay (suc k) → IsRestOkay k
okay_on k = states_in_parts php.grammar.lefts php.grammar.rights php.grammar.terminals certificate.facts (sides php.grammar.rules) certificate.states 120 (accesses_at k) (rows_at k) (states_at k)

okay_0 : IsPartOkay 0
unfolding php
okay_0 = refl

okay_1 : IsPartOkay 1
unfolding php
okay_1 = refl

okay_2 : IsPartOkay 2
unfolding php
okay_2 = refl

okay_3 : IsPartOkay 3
unfolding php
okay_3 = refl

okay_4 : IsPartOkay 4
unfolding php
okay_4 = refl

okay_5 : IsPartOkay 5
unfolding php
okay_5 = refl

okay_6 : IsPartOkay 6
unfolding php
okay_6 = refl

okay_7 : IsPartOkay 7
unfolding php
okay_7 = refl

nothing_left : IsRestOkay 8
unfolding php
nothing_left = refl

all_okay : IsRestOkay 0
all_okay = okay_on 0 okay_0 (okay_on 1 okay_1 (okay_on 2 okay_2 (okay_on 3 okay_3 (okay_on 4 okay_4 (okay_on 5 okay_5 (okay_on 6 okay_6 (okay_on 7 okay_7 nothing_left)))))))

-- what the place of an error asks for of rows
abbrev enter : List ℕ → List State → List (List Step) → Bool
enter = rows_enter php.grammar.terminals php.grammar.lefts php.grammar.rights (sides php.grammar.rules) certificate.samples certificate.states

-- of one part, and of all that is left
abbrev IsPartEntered : ℕ → Type 0
IsPartEntered k = enter (accesses_at k) (states_at k) (take 120 (rows_at k)) ≡ true

abbrev IsRestEntered : ℕ → Type 0
IsRestEntered k = enter (accesses_at k) (states_at k) (rows_at k) ≡ true

entered_on : (k : ℕ) → IsPartEntered k → IsRestEntered (suc k) → IsRestEntered k
entered_on k = rows_in_parts php.grammar.terminals php.grammar.lefts php.grammar.rights (sides php.grammar.rules) certificate.samples certificate.states 120 (accesses_at k) (states_at k) (rows_at k)

entered_0 : IsPartEntered 0
unfolding php
entered_0 = refl

entered_1 : IsPartEntered 1
unfolding php
entered_1 = refl

entered_2 : IsPartEntered 2
unfolding php
entered_2 = refl

entered_3 : IsPartEntered 3
unfolding php
entered_3 = refl

entered_4 : IsPartEntered 4
unfolding php
entered_4 = refl

entered_5 : IsPartEntered 5
unfolding php
entered_5 = refl

entered_6 : IsPartEntered 6
unfolding php
entered_6 = refl

entered_7 : IsPartEntered 7
unfolding php
entered_7 = refl

none_left : IsRestEntered 8
unfolding php
none_left = refl

all_entered : IsRestEntered 0
all_entered = entered_on 0 entered_0 (entered_on 1 entered_1 (entered_on 2 entered_2 (entered_on 3 entered_3 (entered_on 4 entered_4 (entered_on 5 entered_5 (entered_on 6 entered_6 (entered_on 7 entered_7 none_left)))))))

-- each step of a row leads where it says
moves : moves_ok php ≡ true
unfolding php
moves = refl

facts_are : are_facts certificate.most php.grammar.terminals certificate.facts (sides php.grammar.rules) ≡ true
unfolding php
facts_are = refl

starts : start_ok php (entry php 0 php.grammar.start) ≡ true
unfolding php
starts = refl

begins : is_sub 1 (closed_of (slice_index_or certificate.states 0 no_state).closed php.grammar.start) ≡ true
unfolding php
begins = refl

tables : tables_ok php certificate.most certificate.facts certificate.states ≡ true
tables = and_from _ _ moves (and_from _ _ facts_are (and_from _ _ starts (and_from _ _ begins all_okay)))

ends_free : is_free php.grammar.lefts 0 ≡ true
unfolding php
ends_free = refl

start_sample : is_some (sample_of certificate.samples php.grammar.start) ≡ true
unfolding php
start_sample = refl

samples_are : are_samples php.grammar.terminals php.grammar.lefts php.grammar.rights (sides php.grammar.rules) certificate.samples ≡ true
unfolding php
samples_are = refl

fronts_are : states_front php.grammar.terminals php.grammar.lefts php.grammar.rights (sides php.grammar.rules) certificate.samples true php.grammar.start php.accesses certificate.states ≡ true
unfolding php
fronts_are = refl

fronts : fronts_ok php certificate.samples certificate.states ≡ true
fronts = and_from _ _ ends_free (and_from _ _ start_sample (and_from _ _ refl (and_from _ _ samples_are (and_from _ _ fronts_are all_entered))))

pub are_good : is_certified php certificate ≡ true
are_good = and_from _ _ tables fronts

pub are_checked : AreChecked php
are_checked = record { certificate = certificate; passes = are_good }
