use Rattle.std.proofs.Common.{◌∙◌, sym}
use Rattle.campl_gen_channels.proofs.Maps.{told-known, told-new}
use Rattle.campl_gen_channels.proofs.channels.put_behind.Goals as goal

pub returns-then-contains_key : goal.returns-then-contains_key
returns-then-contains_key c = told-known c.args.numbers.now.entries c.args.name.now c.args.number (sym c.contains_key.ensures ∙ c.if-contains_key.true)

pub returns : goal.returns
returns c =
    told-new c.args.numbers.now.entries c.insert.new.self.entries c.in_ok-name.name c.args.name.now c.args.number c.in_ok-name.ensures (sym c.contains_key.ensures ∙ c.if-contains_key.false) c.in-Ok.ensures.entries
