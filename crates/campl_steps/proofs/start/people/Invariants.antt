use Rattle.std.proofs.Common.{◌≡◌, ◌+◌, ◌*◌, ◌++◌, ◌∷◌, length, map}
use Rattle.campl_cells.specs.Starts.{unborn}
use Rattle.campl_parts.specs.Views.{life_of, proc_of}
use Rattle.campl_steps.specs.Begins.{attending}
use Rattle.campl_steps.proofs.start.people.Given as goal

abbrev pub invariant-loop-service : goal.invariant-loop-service
invariant-loop-service l =
    (goal.iterator-loop-service).can_next l.service-iterator
    × (goal.iterator-loop-service).is_finite l.service-iterator
    × (l.far ≡ 2 * length l.yielded + 1)
    × (length l.yielded + length l.service-iterator.rest.items ≡ length l.fn.services.items)
    × (map proc_of l.processes.items ++ attending (length l.yielded) (map (λ s. s.serving) l.service-iterator.rest.items)
    ≡ unborn (life_of l.fn.life) ∷ attending 0 (map (λ s. s.serving) l.fn.services.items))
