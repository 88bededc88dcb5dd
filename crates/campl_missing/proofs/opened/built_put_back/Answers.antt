use Rattle.std.proofs.Common.{arith}
use Rattle.campl_missing.proofs.Openings.{seen-given, built-seen}
use Rattle.campl_missing.proofs.opened.built_put_back.Goals as goal

pub returns : goal.returns
returns c =
    seen-given c.in_front.result _ _ c.in_front.ensures
    (built-seen c.args.constructor.now c.in_ok-name.name c.args.parts.now c.args.forms.now c.in_ok-first.first c.in_ok-others.others c.min-count.result (omega (arith, c.min-count.ensures)) c.in_ok-name.ensures c.in_ok-first.ensures c.in_ok-others.ensures)
