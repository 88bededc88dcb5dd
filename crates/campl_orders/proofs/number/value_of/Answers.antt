use Rattle.campl_orders.proofs.Numerals.{too_large}
use Rattle.campl_orders.proofs.number.value_of.Goals as goal

pub returns-in-Err : goal.returns-in-Err
returns-in-Err c = too_large c.args.digits.now c.parse.result c.in-Err.field-0 c.parse.ensures.value.0 c.in-Err.is c.requires
