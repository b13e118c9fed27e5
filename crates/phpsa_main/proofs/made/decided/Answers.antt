use Rattle.std.proofs.Common.{◌≡◌, ℕ, subst}
use Rattle.io_edge.specs.Told.{Content}
use Rattle.program_files.specs.Source.{source_call}
use Rattle.document_types.specs.DocumentTypes.{strict_type}
use Rattle.document_types.specs.OneFile.{file_alone}
use Rattle.page_decision.specs.declared.goal.Goal.TheVariants.{Valid}
use Rattle.command_words.specs.declared.values.TheConstants.{PAIR_LIMIT}
use Rattle.phpsa_tasks.specs.Subjects.{made_name, made_file, only_script}
use Rattle.phpsa_main.specs.Decided.{Decides}
use Rattle.phpsa_main.proofs.MadeParts.{same_alone}
use Rattle.phpsa_main.proofs.made.decided.Goals as goal

pub returns : goal.returns
returns c =
    let files = c.decide_script.new.files in
    let told : Content = file_alone files.name.now files.text in
    let same : told ≡ only_script c.args.script = same_alone made_name c.args.script told c.decide_script.ensures.stays in (
      files.misses,
      files.reads,
      subst (λ (content : Content). Decides (source_call content 0 0 0 files.misses 0 files.reads) made_file strict_type Valid PAIR_LIMIT c.decide_script.result) same
          (subst (λ (limit : ℕ). Decides (source_call told 0 0 0 files.misses 0 files.reads) made_file strict_type Valid limit c.decide_script.result) c.from.ensures c.decide_script.ensures.decides),
    )
