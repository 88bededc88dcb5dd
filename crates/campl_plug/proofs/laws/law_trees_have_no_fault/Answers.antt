use Rattle.std.proofs.lemmas.List.Elements.{recursion_from_All}
use Rattle.campl_plug.specs.Links.{IsWithin}
use Rattle.campl_plug.proofs.OneFault.{tree-has-no-fault}
use Rattle.campl_plug.proofs.laws.law_trees_have_no_fault.Goals as goal

pub returns : goal.returns
returns c = λ k links some within. tree-has-no-fault k links (recursion_from_All (IsWithin k) links within) some
