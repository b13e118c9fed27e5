use Rattle.std.proofs.Common.{◌≡◌, List, [], true, map, string_bytes, subst, inl, inr}
use Rattle.clap.specs.Words.{Text, takes, fault_of, kind_of}
use Rattle.clap.specs.Kinds.{Kinds, HasKind, IsAmong}
use Rattle.clap.specs.declared.error.Error.{Error}
use Rattle.clap.specs.declared.error.kind.ErrorKind.{ErrorKind}
use Rattle.command_words.specs.Program as spec
use Rattle.command_words.specs.Asked.{AreTaken}
use Rattle.command_words.proofs.Commands.{phpsa_simple}
use Rattle.command_words.proofs.builder.matches_of.Goals as goal

pub returns-in-Ok-clause-rows : goal.returns-in-Ok-clause-rows
returns-in-Ok-clause-rows c = (c.in-Ok.ensures.ok phpsa_simple).1

-- a fault of one of these kinds, none of which is want of memory, is one
no_fault : (kinds : Kinds) (e : Error) → HasKind kinds e → (kind_of e ≡ ErrorKind.OutOfMemory → ⊥) → kinds ≡ [] → ⊥
no_fault kinds e (inl wants) never none = never wants
no_fault kinds e (inr among) never none = let more : IsAmong (kind_of e) [] = subst (IsAmong (kind_of e)) none among in more

never : (words : List Text) (e : Error) → HasKind (fault_of spec.phpsa words) e → (takes spec.phpsa words ≡ true → kind_of e ≡ ErrorKind.OutOfMemory)
    → (kind_of e ≡ ErrorKind.OutOfMemory → ⊥) → AreTaken words → ⊥
never words e has passes other (inl taken) = other (passes taken)
never words e has passes other (inr none) = no_fault (fault_of spec.phpsa words) e has other none

pub returns-in-Err-clause-usage : goal.returns-in-Err-clause-usage
returns-in-Err-clause-usage c =
    λ kept. never (map string_bytes c.args.words.now) c.in-Err.error c.in-Err.ensures.kinds c.in-Err.ensures.err (c.refusal_of.ensures kept)
