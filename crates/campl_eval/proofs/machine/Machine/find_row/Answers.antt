use Rattle.std.proofs.Common.{◌∙◌, sym, ap, None, drop}
use Rattle.std.specs.Prelude.{slice_get, option_map}
use Rattle.campl_code.specs.Decisions.{values_at}
use Rattle.campl_code.specs.Machine as m
use Rattle.campl_instructions.specs.View.{view_decision}
use Rattle.campl_eval.specs.View.{code_of, seen, seens}
use Rattle.campl_eval.proofs.Acts.{matches-short, matches-on, row-untold, row-missing, row-goes}
use Rattle.campl_eval.proofs.machine.Machine.find_row.Goals as goal

pub returns-in_default-top : goal.returns-in_default-top
returns-in_default-top c =
    let there = sym (rw c.in-Some.is at (rw c.raw.ensures.same at c.decision.ensures)) in
    matches-short c.args.first c.args.places.now (seen c.args.self.now.frame) (seens c.args.self.now.callers) (slice_get (code_of c.args.program.now).decisions c.args.n) (view_decision c.in-Some.decision.now) there (c.in_default-top.ensures)

pub returns-in_default-find : goal.returns-in_default-find
returns-in_default-find c =
    let there = sym (rw c.in-Some.is at (rw c.raw.ensures.same at c.decision.ensures)) in
    let top = c.in-Some-top.ensures in
    matches-on c.args.first c.args.places.now (seen c.args.self.now.frame) (seens c.args.self.now.callers) (slice_get (code_of c.args.program.now).decisions c.args.n) (view_decision c.in-Some.decision.now) there c.in-Some-top.values.now None top.0 top.1 (c.in_default-find.ensures)

pub returns-in_default-at : goal.returns-in_default-at
returns-in_default-at c =
    let there = sym (rw c.in-Some.is at (rw c.raw.ensures.same at c.decision.ensures)) in
    let top = c.in-Some-top.ensures in
    matches-on c.args.first c.args.places.now (seen c.args.self.now.frame) (seens c.args.self.now.callers) (slice_get (code_of c.args.program.now).decisions c.args.n) (view_decision c.in-Some.decision.now) there
    c.in-Some-top.values.now (option_map (λ ts. (c.in-Some-find.row, ts)) (values_at c.in-Some-top.values.now c.in-Some-find.spots.now)) top.0 top.1 (c.in-Some-find.ensures)
    ∙ row-untold c.args.first c.args.places.now (seen c.args.self.now.frame) (seens c.args.self.now.callers) c.in-Some-find.row (drop c.in-Some.decision.now.width c.args.self.now.frame.operands) (values_at c.in-Some-top.values.now c.in-Some-find.spots.now) (sym (rw c.in_default-at.is at c.at.ensures))

pub returns-in-Missing : goal.returns-in-Missing
returns-in-Missing c =
    let there = sym (rw c.in-Some.is at (rw c.raw.ensures.same at c.decision.ensures)) in
    let top = c.in-Some-top.ensures in
    let set = rw c.in-Missing.is at c.put_row.ensures in
    matches-on c.args.first c.args.places.now (seen c.args.self.now.frame) (seens c.args.self.now.callers) (slice_get (code_of c.args.program.now).decisions c.args.n) (view_decision c.in-Some.decision.now) there
    c.in-Some-top.values.now (option_map (λ ts. (c.in-Some-find.row, ts)) (values_at c.in-Some-top.values.now c.in-Some-find.spots.now)) top.0 top.1 (c.in-Some-find.ensures)
    ∙ row-missing c.args.first c.args.places.now (seen c.args.self.now.frame) (seens c.args.self.now.callers) c.in-Some-find.row (drop c.in-Some.decision.now.width c.args.self.now.frame.operands) (values_at c.in-Some-top.values.now c.in-Some-find.spots.now) set

pub returns-in-Done : goal.returns-in-Done
returns-in-Done c =
    let there = sym (rw c.in-Some.is at (rw c.raw.ensures.same at c.decision.ensures)) in
    let top = c.in-Some-top.ensures in
    let set = rw c.in-Done.is at c.put_row.ensures in
    matches-on c.args.first c.args.places.now (seen c.args.self.now.frame) (seens c.args.self.now.callers) (slice_get (code_of c.args.program.now).decisions c.args.n) (view_decision c.in-Some.decision.now) there
    c.in-Some-top.values.now (option_map (λ ts. (c.in-Some-find.row, ts)) (values_at c.in-Some-top.values.now c.in-Some-find.spots.now)) top.0 top.1 (c.in-Some-find.ensures)
    ∙ row-goes c.args.first c.args.places.now (seen c.args.self.now.frame) (seens c.args.self.now.callers) c.in-Some-find.row c.in-Some-at.to.now (drop c.in-Some.decision.now.width c.args.self.now.frame.operands) c.put_row.new.self (values_at c.in-Some-top.values.now c.in-Some-find.spots.now) set (sym (rw c.in-Some-at.is at c.at.ensures))
    ∙ ap (λ s. m.Goes (seen (record { block = c.args.self.now.frame.block; at = c.in-Some-at.to.now; variables = c.put_row.new.self; operands = s })) (seens c.args.self.now.callers)) (sym c.drop_top.ensures)
