use Rattle.std.proofs.Common.{◌∙◌, ap, drop}
use Rattle.campl_match.specs.Growing.{newest}
use Rattle.campl_match.proofs.Trees.{grown-join}
use Rattle.campl_match.proofs.grown.Grown.join.Goals as goal

pub returns : goal.returns
returns c fit other more e =
    grown-join c.args.self.now.nodes.items _ _ c.args.self.now.sizes c.take_size-other.new.self.sizes _ c.args.asked.now.spot c.in_ok-spot.spot _ c.in_ok-size.size c.take_size-fit.result c.take_size-other.result fit other more
    (ap (λ v. v.items) (c.take_size-other.ensures.nodes ∙ c.take_size-fit.ensures.nodes)) (c.in_ok-spot.ensures ∙ c.as_slice.ensures)
    c.take_size-fit.ensures.size (c.take_size-other.ensures.size ∙ ap newest c.take_size-fit.ensures.left)
    (c.take_size-other.ensures.left ∙ ap (drop 1) c.take_size-fit.ensures.left) c.in_ok-size.ensures
    c.in_ok-add.ensures.nodes c.in_ok-add.ensures.sizes e
