use Rattle.std.proofs.Common.{◌≡◌, ◌++◌, slice_get}
use Rattle.std.specs.Prelude.{replicate}
use Rattle.campl_value.specs.Tree.{Nil}
use Rattle.campl_cells.specs.Wants.{end_at}
use Rattle.campl_parts.specs.Ends.{ends_of}
use Rattle.campl_parts.proofs.plan.called.Goals as goal

pub returns-in-Ok-called_variables : goal.returns-in-Ok-called_variables
returns-in-Ok-called_variables c =
    let v : c.in-Ok-called_variables.variables ≡ c.args.values.now ++ replicate c.args.missing Nil = c.in-Ok-called_variables.ensures in
    let e : ends_of c.in-Ok.ends ≡ (λ n. end_at (ends_of c.args.ends.now) (slice_get c.args.channels.now n)) = c.in-Ok.ensures in
    (λ i. record { block = c.args.block; at = 0; vars = v i; ends = e i })
