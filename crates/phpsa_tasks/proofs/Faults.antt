-- Statuses that tell of faults of the source, and of want of memory.
use Rattle.std.proofs.Common.{◌≡◌, ◌∙◌, [], ◌∷◌, Contains, refl, sym, subst, inl, inr, lit<}
use Rattle.std.specs.Prelude.{◌⊎◌}
use Rattle.program_files.specs.Source.{SourceCall}
use Rattle.phpsa_texts.specs.declared.exit.Exit.{Exit}
use Rattle.phpsa_texts.specs.declared.exit.Exit.TheVariants.{ReadFault, WriteFault, Memory}
use Rattle.phpsa_tasks.specs.Counted.{TellsFaults, FaultsAreTold, IsWanting}
use Rattle.phpsa_tasks.specs.Tasks.{Task, list_check}

-- a status that is this one
pub told_faults : (files : SourceCall) (own status : Exit) → status ≡ own → (own ≡ ReadFault) ⊎ (files.faults' ≡ files.faults) → TellsFaults files status
told_faults files own status is (inl fault) = inl (subst (Contains (ReadFault ∷ WriteFault ∷ Memory ∷ [])) (sym (is ∙ fault)) (0, lit< tt, refl))
told_faults files own status is (inr same) = inr same

pub wanted_faults : (files : SourceCall) → TellsFaults files Memory
wanted_faults files = inl (2, lit< tt, refl)

pub wanted : IsWanting Memory
wanted = (1, lit< tt, refl)

-- a fault that is told by the status is told, whatever the task
pub told_anyhow : (task : Task) (files : SourceCall) (status : Exit) → TellsFaults files status → FaultsAreTold task files status
told_anyhow (list_check file d goal limit) files status told = inr told
told_anyhow _ files status told = told
