use Rattle.std.proofs.Common.{arith, subst, sym, ap, ◌∙◌, ◌≡◌, ◌+◌}
use Rattle.site_check.specs.Kept.{file_size, total_size}
use Rattle.site_check.specs.Short.{AreShort}
use Rattle.site_check.proofs.Looking.{size_behind, short_behind, none_is_short}
use Rattle.site_check.proofs.kept_files.KeptFiles.keep_none.Goals as goal

pub invariant_of-self : goal.invariant_of-self
invariant_of-self c =
    let behind : total_size c.insert.new.files.entries ≡ total_size c.args.self.now.files.entries + file_size c.args.file =
    ap total_size c.insert.ensures ∙ size_behind c.args.self.now.files.entries (c.args.name, c.args.file) in
    record {
      counted = omega (arith, behind, c.requires.none, c.args.self.now.counted);
      within = c.args.self.now.within;
      short = subst AreShort (sym c.insert.ensures) (short_behind c.args.self.now.files.entries c.args.name c.args.file c.args.self.now.short (none_is_short c.args.file c.requires.none));
    }
