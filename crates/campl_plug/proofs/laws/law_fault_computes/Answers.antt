use Rattle.std.proofs.lemmas.List.Elements.{recursion_from_All}
use Rattle.campl_plug.specs.Links.{IsWithin}
use Rattle.campl_plug.proofs.Faulted.{tree-exactly, fault-exactly}
use Rattle.campl_plug.proofs.laws.law_fault_computes.Goals as goal

pub returns : goal.returns
returns c = record {
  tree = λ k links some all. tree-exactly k links (recursion_from_All (IsWithin k) links all) some;
  fault = λ k links some all. fault-exactly k links (recursion_from_All (IsWithin k) links all) some;
}
