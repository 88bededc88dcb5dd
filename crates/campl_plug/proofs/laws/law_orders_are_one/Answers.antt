use Rattle.std.proofs.lemmas.List.Elements.{recursion_from_All}
use Rattle.campl_plug.specs.Links.{IsWithin}
use Rattle.campl_plug.proofs.OneOrder.{one-order}
use Rattle.campl_plug.proofs.laws.law_orders_are_one.Goals as goal

pub returns : goal.returns
returns c = λ k links some within tree order other a b. one-order k links (recursion_from_All (IsWithin k) links within) some tree order other a b
