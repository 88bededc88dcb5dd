use Rattle.std.proofs.lemmas.List.Elements.{recursion_from_All}
use Rattle.campl_plug.specs.Links.{IsWithin}
use Rattle.campl_plug.proofs.Peeled.{starts-at-one, has-one-link-back}
use Rattle.campl_plug.proofs.laws.law_parts_have_one_link_back.Goals as goal

pub returns : goal.returns
returns c = record {
  first = λ k links some within order b. starts-at-one k links order b (recursion_from_All (IsWithin k) links within) some;
  back = λ k links some within tree order b. has-one-link-back k links order b (recursion_from_All (IsWithin k) links within) some tree;
}
