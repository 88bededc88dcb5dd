use Rattle.std.proofs.Common.{◌≡◌, ◌<◌, length, length-set, vec_len, sym, ap, ◌∙◌, Some, option_map, slice_get}
use Rattle.std.proofs.lemmas.Option.{slice_get_read}
use Rattle.campl_cells.specs.Parts.{Proc}
use Rattle.campl_cells.specs.Steps.{goes_on, newborn}
use Rattle.campl_parts.specs.Views.{life_of, proc_of}
use Rattle.campl_parts.proofs.Tabled.{child-born, there-below}
use Rattle.campl_parts.proofs.people.bear.Goals as goal

pub returns-clause-goes : goal.returns-clause-goes
returns-clause-goes c q h =
    let ps = c.args.processes.now.items in
    let p = c.args.process in
    let now = c.index_mut.result.now in
    let l : p < length ps = there-below ps p q h in
    let r : slice_get ps p ≡ Some now = slice_get_read ps (length ps) p now (λ i. length ps) l c.index_mut.ensures.value in
    let same : Some q ≡ Some (proc_of now) = sym h ∙ ap (option_map proc_of) r in
    let e : q ≡ proc_of now = cc same in
    child-born ps c.push_reserved.new.self.items c.go_on_bearing-child.new.self c.go_on_bearing-child.result p (vec_len c.args.processes.now)
    (goes_on q (life_of c.args.life)) (newborn p q (life_of c.args.child)) l c.push_reserved.ensures.items c.args.processes.now.ok.0 (length-set ps p c.go_on_bearing-child.new.self)
    (c.go_on_bearing-child.ensures.parent ∙ ap (λ (z : Proc). goes_on z (life_of c.args.life)) (sym e))
    (c.go_on_bearing-child.ensures.child ∙ ap (λ (z : Proc). newborn p z (life_of c.args.child)) (sym e))
