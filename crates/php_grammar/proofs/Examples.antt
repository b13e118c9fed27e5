-- Small files, which are sentences or where they go wrong, by the PHP manual, "Language Reference".
use Rattle.std.proofs.Common.{◌≡◌, ℕ, Bool, true, false, List, [], ◌∷◌, refl}
use Rattle.lr_tables.specs.Grammars.{IsSentence, IsFirstWrong}
use Rattle.lr_tables.specs.Machine.{Answer, Read, Wrong, Going, run}
use Rattle.lr_tables.proofs.Sound.{is_sound}
use Rattle.lr_tables.proofs.Complete.{moves_of}
use Rattle.lr_tables.proofs.Placed.{is_placed}
use Rattle.php_grammar.specs.declared.rules.TheConstants as terminal
use Rattle.php_grammar.specs.Certificate.{certificate}
use Rattle.php_grammar.specs.Php.{php}
use Rattle.php_grammar.proofs.AreGood.{are_good, are_checked}

-- all is read
abbrev is_read : Answer → Bool
is_read (Read es) = true
is_read (Wrong left) = false
is_read (Going stack left) = false

not_read : {A : Type 0} → false ≡ true → A
not_read h = absurd (cc h)

-- what is read is a sentence
sentence : (answer : Answer) (n : ℕ) (ks : List ℕ) → run php n [] ks ≡ answer → is_read answer ≡ true → IsSentence php.grammar ks
sentence (Read es) n ks is h = (es, is_sound php (moves_of php certificate are_good) n ks es is)
sentence (Wrong left) n ks is h = not_read h
sentence (Going stack left) n ks is h = not_read h

-- an empty file
nothing_is_read : IsSentence php.grammar []
unfolding run php
nothing_is_read = sentence _ 20 [] refl refl

-- !$a = f(); though `=` binds looser than `!` ("Operator Precedence")
abbrev negated : List ℕ
negated = terminal.NOT ∷ terminal.VARIABLE ∷ terminal.ASSIGN ∷ terminal.NAME ∷ terminal.OPEN ∷ terminal.CLOSE ∷ terminal.SEMI ∷ []

negated_is_read : IsSentence php.grammar negated
unfolding run php
negated_is_read = sentence _ 60 negated refl refl

-- 1 < 2 > 1; goes wrong at its second operator, since comparisons are not associative ("Operator Precedence")
compared_is_wrong : IsFirstWrong php.grammar (terminal.NUMBER ∷ terminal.COMPARISON ∷ terminal.NUMBER ∷ terminal.COMPARISON ∷ terminal.NUMBER ∷ terminal.SEMI ∷ []) 3
unfolding run php
compared_is_wrong = is_placed php are_checked 60 _ (terminal.COMPARISON ∷ terminal.NUMBER ∷ terminal.SEMI ∷ []) refl

-- 1 <= 1 == 1; is read, since `==` binds looser ("Operator Precedence")
abbrev equated : List ℕ
equated = terminal.NUMBER ∷ terminal.COMPARISON ∷ terminal.NUMBER ∷ terminal.EQUALITY ∷ terminal.NUMBER ∷ terminal.SEMI ∷ []

equated_is_read : IsSentence php.grammar equated
unfolding run php
equated_is_read = sentence _ 60 equated refl refl

-- f($a,); a comma may end the arguments ("Function arguments")
abbrev comma : List ℕ
comma = terminal.NAME ∷ terminal.OPEN ∷ terminal.VARIABLE ∷ terminal.COMMA ∷ terminal.CLOSE ∷ terminal.SEMI ∷ []

comma_is_read : IsSentence php.grammar comma
unfolding run php
comma_is_read = sentence _ 60 comma refl refl

-- echo $a,; goes wrong behind its comma
echoed_is_wrong : IsFirstWrong php.grammar (terminal.ECHO ∷ terminal.VARIABLE ∷ terminal.COMMA ∷ terminal.SEMI ∷ []) 3
unfolding run php
echoed_is_wrong = is_placed php are_checked 60 _ (terminal.SEMI ∷ []) refl

-- function if goes wrong at `if`: a keyword is no name of a function ("List of Keywords")
keyword_is_wrong : IsFirstWrong php.grammar (terminal.FUNCTION ∷ terminal.IF ∷ terminal.OPEN ∷ terminal.CLOSE ∷ terminal.BEGIN ∷ terminal.FINISH ∷ []) 1
unfolding run php
keyword_is_wrong = is_placed php are_checked 60 _ (terminal.IF ∷ terminal.OPEN ∷ terminal.CLOSE ∷ terminal.BEGIN ∷ terminal.FINISH ∷ []) refl

-- a::if; but of a constant of a class it is one
abbrev constant : List ℕ
constant = terminal.NAME ∷ terminal.SCOPE ∷ terminal.IF ∷ terminal.SEMI ∷ []

constant_is_read : IsSentence php.grammar constant
unfolding run php
constant_is_read = sentence _ 60 constant refl refl

-- if ($a): echo $b; goes wrong at its end, where `endif` is missing ("Alternative syntax for control structures")
open_is_wrong : IsFirstWrong php.grammar (terminal.IF ∷ terminal.OPEN ∷ terminal.VARIABLE ∷ terminal.CLOSE ∷ terminal.COLON ∷ terminal.ECHO ∷ terminal.VARIABLE ∷ terminal.SEMI ∷ []) 8
unfolding run php
open_is_wrong = is_placed php are_checked 60 _ [] refl
