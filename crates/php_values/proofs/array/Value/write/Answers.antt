use Rattle.std.proofs.Common.{◌≡◌, ◌≤◌, ◌⊎◌, Bool, Ok, Err, OnOk, sym, ◌∙◌, ap, subst, arith}
use Rattle.std.specs.Prelude.{IfErr, Result}
use Rattle.plain_values.specs.Plain.{Plain, depth}
use Rattle.plain_values.specs.Paths.{write}
use Rattle.plain_values.specs.declared.fault.Fault.{Fault}
use Rattle.plain_values.specs.declared.fault.Fault.TheVariants.{Memory}
use Rattle.php_values.specs.View.{plain_of, plain_path}
use Rattle.php_values.specs.Writes.{write_if}
use Rattle.php_values.proofs.WriteLaws.{write_as}
use Rattle.php_values.proofs.array.Value.write.Goals as goal

same : (c : goal.After-write_if) → write_if c.fits_below-fits.result (plain_path c.args.path.now) (plain_of c.args.new) (plain_of c.args.self.now) ≡ write (plain_path c.args.path.now) (plain_of c.args.new) (plain_of c.args.self.now)
same c =
    let low : depth (plain_of c.args.self.now) ≤ 1000 = omega (arith, c.depth-deep.ensures.depth, c.depth-deep.ensures.small) in
    ap (λ (b : Bool). write_if b (plain_path c.args.path.now) (plain_of c.args.new) (plain_of c.args.self.now)) c.fits_below-fits.ensures
    ∙ sym (write_as (plain_path c.args.path.now) (plain_of c.args.new) (plain_of c.args.self.now) low)

pub returns-clause-ok : goal.returns-clause-ok
returns-clause-ok c = subst (λ (r : Result Plain Fault). OnOk c.write_if.result (r ≡ Ok (plain_of c.write_if.new.self))) (same c) c.write_if.ensures.ok

pub returns-clause-err : goal.returns-clause-err
returns-clause-err c = subst (λ (r : Result Plain Fault). IfErr c.write_if.result (λ fault. (fault ≡ Memory) ⊎ (r ≡ Err fault))) (same c) c.write_if.ensures.err
