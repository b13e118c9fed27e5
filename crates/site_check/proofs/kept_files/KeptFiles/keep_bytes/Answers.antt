use Rattle.std.proofs.Common.{arith, subst, sym, ap, ◌∙◌, ◌≡◌, ◌+◌, ◌≤◌, List, ℕ, length}
use Rattle.text_base.specs.declared.limits.TheConstants.{FILE_LIMIT}
use Rattle.site_check.specs.declared.kept_files.KeptFile.TheVariants.{Found}
use Rattle.site_check.specs.Kept.{total_size}
use Rattle.site_check.specs.Short.{AreShort}
use Rattle.site_check.proofs.Looking.{size_behind, short_behind, found_is}
use Rattle.site_check.proofs.kept_files.KeptFiles.keep_bytes.Goals as goal

pub invariant_of-self-2 : goal.invariant_of-self-2
invariant_of-self-2 c =
    let behind : total_size c.insert.new.files.entries ≡ total_size c.args.self.now.files.entries + length c.in_ok-copy.copy =
    ap total_size c.insert.ensures ∙ size_behind c.args.self.now.files.entries (c.args.name, Found c.in_ok-copy.copy) in
    let same : length c.in_ok-copy.copy ≡ length c.args.bytes.now = ap length c.in_ok-copy.ensures in
    let before = c.args.self.now.counted in
    record {
      counted = omega (arith, behind, same, before, c.len-2.ensures);
      within = omega (arith, c.args.self.now.within, c.if-len-self.false, c.len.ensures, c.len-2.ensures);
      short = subst AreShort (sym c.insert.ensures) (short_behind c.args.self.now.files.entries c.args.name (Found c.in_ok-copy.copy) c.args.self.now.short
          (λ bytes e. subst (λ (b : List ℕ). length b ≤ FILE_LIMIT) (sym c.in_ok-copy.ensures ∙ found_is _ _ e) c.requires.short));
    }
