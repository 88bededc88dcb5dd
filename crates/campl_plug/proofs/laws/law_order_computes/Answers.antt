use Rattle.std.proofs.Common.{subst, sym}
use Rattle.std.proofs.lemmas.List.Elements.{recursion_from_All}
use Rattle.campl_plug.specs.Links.{IsWithin}
use Rattle.campl_plug.specs.Order.{IsBreadthFirst}
use Rattle.campl_plug.proofs.OneOrder.{one-order}
use Rattle.campl_plug.specs.TreeOrder.{tree_order_of}
use Rattle.campl_plug.proofs.Ordered.{order-is-breadth-first}
use Rattle.campl_plug.proofs.laws.law_order_computes.Goals as goal

pub returns : goal.returns
returns c = λ k links some all tree order.
    let within = recursion_from_All (IsWithin k) links all in
    let b : IsBreadthFirst k links (tree_order_of k links) = order-is-breadth-first k links within some tree.reached in
    ((λ a. one-order k links within some tree order (tree_order_of k links) a b), (λ e. subst (IsBreadthFirst k links) (sym e) b))
