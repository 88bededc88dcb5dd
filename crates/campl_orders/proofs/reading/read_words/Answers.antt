use Rattle.std.proofs.Common.{map}
use Rattle.std.specs.Prelude.{string_bytes}
use Rattle.campl_orders.specs.Reading.{view}
use Rattle.campl_orders.proofs.Agreement.{reads_order}
use Rattle.campl_orders.proofs.reading.read_words.Goals as goal

pub returns : goal.returns
returns c = reads_order view (map string_bytes c.args.words.now) c.read_order.result c.read_order.ensures
