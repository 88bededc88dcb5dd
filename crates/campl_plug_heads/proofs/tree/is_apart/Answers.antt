use Rattle.std.proofs.Common.{◌-◌}
use Rattle.campl_held.proofs.Told.{refused}
use Rattle.campl_plug_heads.proofs.Told.{apart-of, some-number, stands-at}
use Rattle.campl_plug_heads.proofs.tree.is_apart.Goals as goal

pub returns-in-Some : goal.returns-in-Some
returns-in-Some c = refused _ _ c.apart.result (apart-of c.args.parts.now c.args.number c.in-Some.part.now (some-number c.args.number c.if-number-eq0.false) (stands-at c.args.parts.now (c.args.number - 1) c.in-Some.part.now c.in-Some.ensures.lookup.0 c.in-Some.ensures.lookup.1)) c.apart.ensures
