use Rattle.campl_cells.specs.Steps.{IsStill}
use Rattle.campl_eval.specs.View.{code_of}
use Rattle.campl_steps.specs.Configs.{IsMade, IsSame, drawn, parts}
use Rattle.campl_solo.proofs.Trying.{same-on, tried-made, tried-more}
use Rattle.campl_solo.proofs.turn.first_step.Goals as goal

pub returns-in-Ok-Some : goal.returns-in-Ok-Some
returns-in-Ok-Some c =
    let v = c.loop-branch.invariant in
    let code = code_of c.args.program.now in
    let h : IsMade code c.args.number c.loop-branch.branch c.loop-branch.config c.in-Ok-Some.made c.step.new.self = rw c.in-Ok-Some.field-0-is at c.in-Ok-Some.ensures in
    tried-made code c.args.number c.loop-branch.branch c.args.config.now c.loop-branch.config v.same v.still c.in-Ok-Some.made c.step.new.self h

pub loop-branch-preserved : goal.loop-branch-preserved
loop-branch-preserved c =
    let v = c.loop-branch.invariant in
    let code = code_of c.args.program.now in
    let h : IsStill code (drawn c.loop-branch.config) (parts c.loop-branch.config) c.args.number c.loop-branch.branch × IsSame c.loop-branch.config c.step.new.self = rw c.in-Ok-None.field-0-is at c.in-Ok-None.ensures in
    record {
      same = same-on c.args.config.now c.loop-branch.config c.step.new.self v.same h.1;
      still = tried-more code c.args.number c.loop-branch.branch c.args.config.now c.loop-branch.config v.same v.still h.0;
    }
