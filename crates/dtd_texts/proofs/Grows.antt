-- The bytes and the references of the replaced text, and the bytes passed over, never grow fewer.
use Rattle.std.proofs.Common.{◌≡◌, ℕ, ◌≤◌, List, subst, arith}
use Rattle.dtd_texts.specs.Places.{Step, goes, declares_parameter, declares_general, declares, leaves_out, refers, refuses, step}
use Rattle.io_edge.specs.Told.{Content}
use Rattle.dtd_texts.specs.Reading.{State, Move, on, opens, omits, stuck, moved, move, enter, leave, Reads, at_end, takes, replaces}

-- none of them is fewer
pub record UpTo (s next : State) : Type 0 where
  pub length : s.length ≤ next.length
  pub references : s.references ≤ next.references
  pub passed : s.passed ≤ next.passed

abbrev UpBy : State → Move → Type 0
UpBy s (on n next) = UpTo s next
UpBy s (opens name n) = Unit {0}
UpBy s omits = Unit {0}
UpBy s stuck = Unit {0}

up_by : (s : State) (x : Step) → UpBy s (moved s x)
up_by s (goes n place) = record { length = omega arith; references = omega arith; passed = omega arith }
up_by s (declares_parameter name source) = record { length = omega arith; references = omega arith; passed = omega arith }
up_by s (declares_general name) = record { length = omega arith; references = omega arith; passed = omega arith }
up_by s (declares text) = record { length = omega arith; references = omega arith; passed = omega arith }
up_by s (refers name n) = tt
up_by s leaves_out = tt
up_by s refuses = tt

move_up : (s next : State) (n : ℕ) (bytes : List ℕ) → move s bytes ≡ on n next → UpTo s next
move_up s next n bytes e = subst (UpBy s) e (up_by s (step s.place bytes))

enter_up : (s : State) (over : ℕ) (file : List ℕ) → UpTo s (enter s over file)
enter_up s over file = record { length = omega arith; references = omega arith; passed = omega arith }

pub leave_up : (s : State) (file : List ℕ) → UpTo s (leave s file)
leave_up s file = record { length = omega arith; references = omega arith; passed = omega arith }

pub and_up : (s next last : State) → UpTo s next → UpTo next last → UpTo s last
and_up s next last a b = record {
  length = omega (arith, a.length, b.length);
  references = omega (arith, a.references, b.references);
  passed = omega (arith, a.passed, b.passed);
}

pub reads_up : {content : Content} {outer : List (List ℕ)} {s last : State} {bytes : List ℕ} → Reads content outer s bytes last → UpTo s last
reads_up at_end = record { length = omega arith; references = omega arith; passed = omega arith }
reads_up (takes {s = s} {next = next} {last = last} e rest) = and_up s next last (move_up _ _ _ _ e) (reads_up rest)
reads_up (replaces {s = s} {inner = inner} {last = last} by e shut is within behind) =
    and_up s (enter s by.over by.file) last (enter_up s by.over by.file)
    (and_up (enter s by.over by.file) inner last (reads_up within) (and_up inner (leave inner s.file) last (leave_up inner s.file) (reads_up behind)))
