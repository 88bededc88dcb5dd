use Rattle.std.proofs.lemmas.List.Elements.{recursion_from_All}
use Rattle.campl_plug.specs.Links.{IsWithin}
use Rattle.campl_plug.proofs.Trees.{tree-has-no-cycle, exactly}
use Rattle.campl_plug.proofs.laws.law_trees_have_no_cycle.Goals as goal

pub returns : goal.returns
returns c = λ k links some within.
    let w = recursion_from_All (IsWithin k) links within in
    ((λ tree. (tree-has-no-cycle k links w some tree, tree.reached)), (λ h. record { count = exactly k links w some h.0 h.1; reached = h.1 }))
