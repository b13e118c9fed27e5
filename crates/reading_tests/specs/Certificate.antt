-- What lr_tables checks the tables by. Made by tools/tables.py.
use Rattle.std.specs.Prelude.{ℕ, Bool, true, false, List, [], ◌∷◌}
use Rattle.lr_tables.specs.Certificates.{State, Certificate}

-- of each nonterminal: the terminals that it may begin with, as bits, whether it may be empty, and a weight
abbrev pub facts : List (ℕ × Bool × ℕ)
facts = (114854, true, 6) ∷ (114854, true, 5) ∷ (114854, false, 0) ∷ (8, true, 5) ∷ (114720, false, 2) ∷ (114720, false, 1) ∷ (114720, true, 5) ∷ []

-- of each nonterminal a rule, and tokens that it derives by this rule
abbrev pub samples : List (ℕ × ℕ × List ℕ)
samples = (21, 9, 15 ∷ []) ∷ (17, 0, []) ∷ (23, 20, []) ∷ (22, 16, 15 ∷ []) ∷ (20, 7, []) ∷ (19, 6, 7 ∷ 8 ∷ []) ∷ (18, 1, []) ∷ []

-- of each state its items behind a first symbol, and the nonterminals that begin there, each with what may follow
abbrev pub states : List State
states =
    record { kernel = []; closed = (18, 114855, 0, 0) ∷ (17, 1, 22, 0) ∷ [] } ∷
    record { kernel = []; closed = [] } ∷
    record { kernel = (0, 1, 1) ∷ (2, 1, 114855) ∷ []; closed = (22, 14352, 4, 0) ∷ (19, 114855, 2, 1) ∷ [] } ∷
    record { kernel = (3, 1, 115119) ∷ []; closed = (22, 14864, 9, 0) ∷ (21, 528, 3, 1) ∷ [] } ∷
    record { kernel = (5, 1, 115119) ∷ []; closed = [] } ∷
    record { kernel = (19, 1, 14928) ∷ []; closed = (22, 14400, 19, 1) ∷ [] } ∷
    record { kernel = (6, 1, 115119) ∷ []; closed = (18, 115110, 6, 1) ∷ [] } ∷
    record { kernel = (14, 1, 14928) ∷ []; closed = (22, 14928, 14, 1) ∷ [] } ∷
    record { kernel = (15, 1, 14928) ∷ (16, 1, 14928) ∷ (18, 1, 14928) ∷ []; closed = [] } ∷
    record { kernel = (17, 1, 14928) ∷ []; closed = [] } ∷
    record { kernel = (2, 2, 115111) ∷ []; closed = [] } ∷
    record { kernel = (4, 1, 115119) ∷ (11, 1, 14352) ∷ (12, 1, 14352) ∷ (13, 1, 14352) ∷ []; closed = [] } ∷
    record { kernel = (3, 2, 115119) ∷ (10, 1, 528) ∷ []; closed = [] } ∷
    record { kernel = (9, 1, 592) ∷ (11, 1, 14928) ∷ (12, 1, 14928) ∷ (13, 1, 14928) ∷ []; closed = [] } ∷
    record { kernel = (5, 2, 115119) ∷ []; closed = (22, 14400, 5, 2) ∷ [] } ∷
    record { kernel = (11, 1, 14400) ∷ (12, 1, 14400) ∷ (13, 1, 14400) ∷ (19, 2, 14928) ∷ []; closed = [] } ∷
    record { kernel = (2, 1, 115110) ∷ (6, 2, 115119) ∷ []; closed = (22, 14352, 4, 0) ∷ (19, 115110, 2, 1) ∷ [] } ∷
    record { kernel = (14, 2, 14928) ∷ []; closed = [] } ∷
    record { kernel = (18, 2, 14928) ∷ []; closed = (22, 14912, 9, 0) ∷ (21, 576, 21, 0) ∷ (23, 64, 18, 2) ∷ [] } ∷
    record { kernel = (15, 2, 14928) ∷ []; closed = (22, 14928, 15, 2) ∷ [] } ∷
    record { kernel = (4, 2, 115119) ∷ []; closed = [] } ∷
    record { kernel = (11, 2, 14928) ∷ []; closed = (22, 14928, 11, 2) ∷ [] } ∷
    record { kernel = (12, 2, 14928) ∷ []; closed = (22, 14928, 12, 2) ∷ [] } ∷
    record { kernel = (13, 2, 14928) ∷ []; closed = (22, 14928, 13, 2) ∷ [] } ∷
    record { kernel = (3, 3, 115119) ∷ []; closed = [] } ∷
    record { kernel = (10, 2, 592) ∷ []; closed = (22, 14928, 10, 2) ∷ [] } ∷
    record { kernel = (5, 3, 115119) ∷ (11, 1, 14400) ∷ (12, 1, 14400) ∷ (13, 1, 14400) ∷ []; closed = [] } ∷
    record { kernel = (19, 3, 14928) ∷ []; closed = [] } ∷
    record { kernel = (6, 3, 115119) ∷ []; closed = [] } ∷
    record { kernel = (10, 1, 576) ∷ (21, 1, 64) ∷ []; closed = [] } ∷
    record { kernel = (18, 3, 14928) ∷ []; closed = [] } ∷
    record { kernel = (11, 1, 14928) ∷ (12, 1, 14928) ∷ (13, 1, 14928) ∷ (15, 3, 14928) ∷ []; closed = [] } ∷
    record { kernel = (11, 3, 14928) ∷ (12, 1, 14928) ∷ (13, 1, 14928) ∷ []; closed = [] } ∷
    record { kernel = (12, 3, 14928) ∷ (13, 1, 14928) ∷ []; closed = [] } ∷
    record { kernel = (13, 3, 14928) ∷ []; closed = [] } ∷
    record { kernel = (10, 3, 592) ∷ (11, 1, 14928) ∷ (12, 1, 14928) ∷ (13, 1, 14928) ∷ []; closed = [] } ∷
    record { kernel = (5, 4, 115119) ∷ []; closed = (22, 14352, 4, 0) ∷ (19, 115119, 5, 4) ∷ [] } ∷
    record { kernel = (18, 4, 14928) ∷ []; closed = [] } ∷
    record { kernel = (5, 5, 115119) ∷ []; closed = (20, 115119, 5, 5) ∷ [] } ∷
    record { kernel = (8, 1, 115119) ∷ []; closed = (22, 14352, 4, 0) ∷ (19, 115119, 8, 1) ∷ [] } ∷
    record { kernel = (5, 6, 115119) ∷ []; closed = [] } ∷
    record { kernel = (8, 2, 115119) ∷ []; closed = [] } ∷
    []

-- all of it, with one less than the turns that a token pays for
abbrev pub certificate : Certificate
certificate = record { most = 4; facts = facts; samples = samples; states = states }
