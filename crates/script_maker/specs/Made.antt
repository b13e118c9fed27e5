-- Generated scripts: functions that call one another inside loops, on a page of XHTML 1.0 Strict; this project's own.
use Rattle.std.specs.Prelude.{ℕ, suc, zero, List, [], ◌++◌, ◌+◌, ◌-◌, ◌≤◌, codes, decimal}
use Rattle.script_maker.specs.declared.TheConstants.{FUNCTION_LIMIT}

-- the page in front of what the functions print: the document type of XHTML 1.0 Strict, and all up to the open body
abbrev pub head : List ℕ
head =
    codes "<!DOCTYPE html PUBLIC \"-//W3C//DTD XHTML 1.0 Strict//EN\" \"http://www.w3.org/TR/xhtml1/DTD/xhtml1-strict.dtd\">"
    ++ codes "<html xmlns=\"http://www.w3.org/1999/xhtml\"><head><title>t</title></head><body>"

-- the page behind it
abbrev pub foot : List ℕ
foot = codes "</body></html>"

-- the line of function 0, which prints paragraphs in a division
abbrev pub first_line : List ℕ
first_line = codes "function f0() { echo '<div>'; while (isset($_GET['k0'])) { echo '<p>0</p>'; } echo '</div>'; }\n"

-- the line of a function that calls another one in a loop
abbrev pub line_of : ℕ → ℕ → List ℕ
line_of own called =
    codes "function f" ++ (decimal own ++ (codes "() { echo '<div>'; while (isset($_GET['k" ++ (decimal own ++ (codes "'])) { f"
    ++ (decimal called ++ codes "(); } echo '</div>'; }\n")))))

-- so many lines, from the function that calls this one on
unfoldable pub lines_from : ℕ → ℕ → List ℕ
lines_from called zero = []
lines_from called (suc count) = line_of (called + 1) called ++ lines_from (called + 1) count

-- the lines behind those of the functions: a page whose body is what the last function prints
abbrev pub page_of : ℕ → List ℕ
page_of last = codes "?>" ++ (head ++ (codes "<?php f" ++ (decimal last ++ (codes "(); ?>" ++ foot))))

-- the script with so many functions, of which there is at least one
abbrev pub made : ℕ → List ℕ
made functions = codes "<?php\n" ++ (first_line ++ (lines_from 0 (functions - 1) ++ page_of (functions - 1)))

-- a script has at least one function, and no more than there may be
abbrev pub IsSize : ℕ → Type 0
IsSize functions = (1 ≤ functions) × (functions ≤ FUNCTION_LIMIT)
