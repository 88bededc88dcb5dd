use Rattle.std.proofs.Common.{arith, length, sym, ap, ◌∙◌, option_map}
use Rattle.std.specs.VecDeque.{deque_len}
use Rattle.std.proofs.lemmas.Option.{slice_get_read}
use Rattle.campl_cells.specs.Parts.{or_bare}
use Rattle.campl_parts.specs.Views.{tip_of}
use Rattle.campl_parts.proofs.Places.{set-else}
use Rattle.campl_parts.proofs.Tabled.{left-bare}
use Rattle.campl_parts.proofs.wires.leave.Goals as goal

pub returns-clause-left : goal.returns-clause-left
returns-clause-left c = left-bare c.args.ends.now.items c.args.y c.leave.new.self (omega arith) c.leave.ensures.left

pub returns-clause-others : goal.returns-clause-others
returns-clause-others c k n = set-else c.args.ends.now.items c.args.y k c.leave.new.self (λ e. n (sym e))

pub returns-clause-messages : goal.returns-clause-messages
returns-clause-messages c =
    let r = slice_get_read c.args.ends.now.items (length c.args.ends.now.items) c.args.y c.index_mut.result.now (λ i. length c.args.ends.now.items) (omega arith) c.index_mut.ensures.value in
    ap (λ z. z.items) c.leave.ensures.messages ∙ sym (ap (λ o. (or_bare (option_map tip_of o)).inbox) r)

pub returns-clause-count : goal.returns-clause-count
returns-clause-count c n h =
    let r = slice_get_read c.args.ends.now.items (length c.args.ends.now.items) c.args.y c.index_mut.result.now (λ i. length c.args.ends.now.items) (omega arith) c.index_mut.ensures.value in
    ap deque_len c.leave.ensures.messages ∙ h c.index_mut.result.now r
