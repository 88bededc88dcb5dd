use Rattle.std.proofs.Common.{subst, sym}
use Rattle.std.proofs.lemmas.Result.{err_from_is_err_and}
use Rattle.std.proofs.lemmas.List.Elements.{recursion_from_All}
use Rattle.campl_plug.specs.Links.{IsWithin}
use Rattle.campl_plug.specs.Tree.{AreReached, IsLeastApart}
use Rattle.campl_plug.specs.Labels.{AreLabels}
use Rattle.campl_plug.proofs.Cycles.{least-apart, all-reached}
use Rattle.campl_plug.proofs.Trees.{exactly}
use Rattle.campl_plug.proofs.OneFault.{tree-has-no-fault}
use Rattle.campl_plug.proofs.tree.tree_order.Goals as goal

pub returns-in-Some-clause-fault : goal.returns-in-Some-clause-fault
returns-in-Some-clause-fault c =
    let are : AreLabels c.args.parts c.args.links.now c.deref.result.now = subst (AreLabels c.args.parts c.args.links.now) (sym c.deref.ensures.value) c.in_ok-labels.ensures.labels in
    (c.in_ok-labels.ensures.tree, least-apart c.args.parts c.args.links.now c.deref.result.now c.in-Some.part c.requires.some are c.in-Some.ensures.apart c.in-Some.ensures.some c.in-Some.ensures.least)

pub returns-clause-tree : goal.returns-clause-tree
returns-clause-tree c =
    let are : AreLabels c.args.parts c.args.links.now c.deref.result.now = subst (AreLabels c.args.parts c.args.links.now) (sym c.deref.ensures.value) c.in_ok-labels.ensures.labels in
    let reached : AreReached c.args.parts c.args.links.now = all-reached c.args.parts c.args.links.now c.deref.result.now c.requires.some are c.in-None.ensures.none in
    record { count = exactly c.args.parts c.args.links.now (recursion_from_All (IsWithin c.args.parts) c.args.links.now c.requires.within) c.requires.some c.in_ok-labels.ensures.tree reached; reached = reached }

pub breadth_first-requires-clause-reached : goal.breadth_first-requires-clause-reached
breadth_first-requires-clause-reached c =
    let are : AreLabels c.args.parts c.args.links.now c.deref.result.now = subst (AreLabels c.args.parts c.args.links.now) (sym c.deref.ensures.value) c.in_ok-labels.ensures.labels in
    all-reached c.args.parts c.args.links.now c.deref.result.now c.requires.some are c.in-None.ensures.none

pub returns-in_err-labels-clause-whole : goal.returns-in_err-labels-clause-whole
returns-in_err-labels-clause-whole c = λ tree.
    let p = err_from_is_err_and c.from_residual.result c.from_residual.ensures.1 in
    rw (p.1, p.2) (tree-has-no-fault c.args.parts c.args.links.now (recursion_from_All (IsWithin c.args.parts) c.args.links.now c.requires.within) c.requires.some tree c.in_err-labels.field-0.0 c.in_err-labels.ensures.cycle)

pub returns-in-Some-clause-whole : goal.returns-in-Some-clause-whole
returns-in-Some-clause-whole c = λ tree.
    let are : AreLabels c.args.parts c.args.links.now c.deref.result.now = subst (AreLabels c.args.parts c.args.links.now) (sym c.deref.ensures.value) c.in_ok-labels.ensures.labels in
    let apart : IsLeastApart c.args.parts c.args.links.now c.in-Some.part = least-apart c.args.parts c.args.links.now c.deref.result.now c.in-Some.part c.requires.some are c.in-Some.ensures.apart c.in-Some.ensures.some c.in-Some.ensures.least in
    absurd (apart.apart (tree.reached c.in-Some.part apart.part))
