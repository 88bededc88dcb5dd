use Rattle.std.proofs.Common.{◌≡◌, ◌≤◌, ◌*◌, ◌-◌, None, vec_len, vec_capacity}
use Rattle.campl_cells.specs.Parts.{written}
use Rattle.campl_cells.specs.Steps.{borne}
use Rattle.campl_parts.specs.Tables.{tips}
use Rattle.campl_steps.specs.Begins.{channels_from}
use Rattle.campl_steps.proofs.start.open.Given as goal

abbrev pub invariant-loop : goal.invariant-loop
invariant-loop l =
    (vec_len l.ends ≡ 2 * l.counter)
    × (2 * l.fn.count ≤ vec_capacity l.ends)
    × (written (borne (channels_from l.counter (l.fn.count - l.counter))) (tips l.ends.items) ≡ written (borne (channels_from 0 l.fn.count)) (λ e. None))
