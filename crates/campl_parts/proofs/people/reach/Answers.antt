use Rattle.std.proofs.Common.{◌≡◌, ◌<◌, length, sym, ap, ◌∙◌, Some, option_map, slice_get}
use Rattle.std.proofs.lemmas.Option.{slice_get_read}
use Rattle.campl_cells.specs.Parts.{Proc, put}
use Rattle.campl_cells.specs.Steps.{goes_on}
use Rattle.campl_parts.specs.Standing.{kept_by, reached_kept}
use Rattle.campl_parts.specs.Views.{proc_of}
use Rattle.campl_parts.specs.Tables.{procs}
use Rattle.campl_parts.proofs.Places.{read_set}
use Rattle.campl_parts.proofs.Tabled.{there-below}
use Rattle.campl_parts.proofs.people.reach.Goals as goal

pub returns-clause-goes : goal.returns-clause-goes
returns-clause-goes c q h =
    let ps = c.args.processes.now.items in
    let p = c.args.process in
    let now = c.index_mut.result.now in
    let l : p < length ps = there-below ps p q h in
    let r : slice_get ps p ≡ Some now = slice_get_read ps (length ps) p now (λ i. length ps) l c.index_mut.ensures.value in
    let same : Some q ≡ Some (proc_of now) = sym h ∙ ap (option_map proc_of) r in
    let e : q ≡ proc_of now = cc same in
    read_set (option_map proc_of) ps p c.reach.new.self l ∙ ap (λ (z : Proc). put p (Some z) (procs ps)) (c.reach.ensures ∙ ap (λ (z : Proc). goes_on z (kept_by (reached_kept c.args.reached.at c.args.reached.values.items) z.life)) (sym e))
