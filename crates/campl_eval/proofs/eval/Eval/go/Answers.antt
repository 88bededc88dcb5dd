use Rattle.std.proofs.Common.{◌≡◌, ◌+◌, ◌<◌, sym, ◌∙◌, arith, true, false, Bool, List, ap, refl}
use Rattle.campl_code.specs.Frames.{Frame}
use Rattle.campl_code.specs.Machine.{Next, step, Enters}
use Rattle.campl_program.proofs.Onward.{onward-forward}
use Rattle.campl_eval.specs.Turn.{is_entry}
use Rattle.campl_eval.specs.View.{code_of, seen, seens}
use Rattle.campl_eval.proofs.Leaping.{kept, goes-less, enters-less}
use Rattle.campl_eval.proofs.Kept.{same-first, goes, enters, gives-all, too-deep, faulty, pauses}
use Rattle.campl_eval.proofs.eval.Eval.go.Goals.{else-left-eq0-via-then-left-eq0+else-is_at_call, else-left-eq0-via-else-left-eq0}
use Rattle.campl_eval.proofs.eval.Eval.go.Goals as goal

pub returns-then-is_at_call : goal.returns-then-is_at_call
returns-then-is_at_call c = pauses (code_of c.args.program.now) (seen c.args.self.now.machine.frame) (seens c.args.self.now.machine.callers) c.args.calls (seen c.leap.new.self) (seens c.left.self.machine.callers) c.left.left (kept (code_of c.args.program.now) (seens c.left.self.machine.callers) (seen c.args.self.now.machine.frame) (seens c.args.self.now.machine.callers) c.args.calls c.left.left (seen c.left.self.machine.frame) (seen c.leap.new.self) c.in_ok-leap.ensures c.left.invariant.kept) (c.args.self.now.spent + c.args.calls) c.left.self.spent c.left.invariant.room c.if-left-eq0.true (sym c.is_at_call.ensures ∙ c.if-is_at_call.true)

pub left-preserved-in-Goes : goal.left-preserved-in-Goes
left-preserved-in-Goes c = record {
  room = c.left.invariant.room;
  kept = goes (code_of c.args.program.now) (seen c.args.self.now.machine.frame) (seens c.args.self.now.machine.callers) c.args.calls (seen c.leap.new.self) (seens c.left.self.machine.callers) c.left.left (kept (code_of c.args.program.now) (seens c.left.self.machine.callers) (seen c.args.self.now.machine.frame) (seens c.args.self.now.machine.callers) c.args.calls c.left.left (seen c.left.self.machine.frame) (seen c.leap.new.self) c.in_ok-leap.ensures c.left.invariant.kept) (seen c.step.new.self.frame) (seens c.step.new.self.callers) (rw c.in-Goes.is at c.step.ensures);
}

pub left-smaller-in-Goes : goal.left-smaller-in-Goes
left-smaller-in-Goes c = goes-less (code_of c.args.program.now) (seens c.left.self.machine.callers) (onward-forward (code_of c.args.program.now) (rw c.raw-raw.ensures.same at c.raw-raw.ensures.onward)) (seen c.left.self.machine.frame) (seen c.leap.new.self) c.in_ok-leap.ensures (seen c.step.new.self.frame) (seens c.step.new.self.callers) c.left.left (rw c.in-Goes.is at c.step.ensures)

-- a call is entered only where one is left
some_left : (next : Next) (f : Frame) (fs : List Frame) (b : Bool) → next ≡ Enters f fs → b ≡ is_entry next → b ≡ false → ⊥
some_left next f fs b e h n = let t : is_entry next ≡ true = ap is_entry e in cc

left_is : goal.After-self-1 → Type 0
left_is c = 0 < c.left.left

has_left : (c : goal.After-self-1) → left_is c
unfolding left_is
has_left c =
    let e = rw c.in-Entered.is at c.step.ensures in
    elim c.else-left-eq0.branch [
      | else-left-eq0-via-then-left-eq0+else-is_at_call w ↦ absurd (some_left (step (code_of c.args.program.now) (seen c.leap.new.self) (seens c.left.self.machine.callers)) (seen c.step.new.self.frame) (seens c.step.new.self.callers) w.is_at_call.result e w.is_at_call.ensures w.if-is_at_call.false)
      | else-left-eq0-via-else-left-eq0 w ↦ omega (arith, w.if-left-eq0.false)
    ]

pub left-smaller : goal.left-smaller
unfolding left_is
left-smaller c = enters-less (code_of c.args.program.now) (seens c.left.self.machine.callers) (onward-forward (code_of c.args.program.now) (rw c.raw-raw.ensures.same at c.raw-raw.ensures.onward)) (seen c.left.self.machine.frame) (seen c.leap.new.self) c.in_ok-leap.ensures (seen c.step.new.self.frame) (seens c.step.new.self.callers) c.left.left (has_left c) (rw c.in-Entered.is at c.step.ensures)

pub left-preserved : goal.left-preserved
unfolding left_is
left-preserved c = record {
  room = let h : 0 < c.left.left = has_left c in omega (arith, h, c.left.invariant.room);
  kept = enters (code_of c.args.program.now) (seen c.args.self.now.machine.frame) (seens c.args.self.now.machine.callers) c.args.calls (seen c.leap.new.self) (seens c.left.self.machine.callers) c.left.left (kept (code_of c.args.program.now) (seens c.left.self.machine.callers) (seen c.args.self.now.machine.frame) (seens c.args.self.now.machine.callers) c.args.calls c.left.left (seen c.left.self.machine.frame) (seen c.leap.new.self) c.in_ok-leap.ensures c.left.invariant.kept) (seen c.step.new.self.frame) (seens c.step.new.self.callers) (has_left c) (rw c.in-Entered.is at c.step.ensures);
}

pub returns-in-TooDeep : goal.returns-in-TooDeep
returns-in-TooDeep c = too-deep (code_of c.args.program.now) (seen c.args.self.now.machine.frame) (seens c.args.self.now.machine.callers) c.args.calls (seen c.leap.new.self) (seens c.left.self.machine.callers) c.left.left (kept (code_of c.args.program.now) (seens c.left.self.machine.callers) (seen c.args.self.now.machine.frame) (seens c.args.self.now.machine.callers) c.args.calls c.left.left (seen c.left.self.machine.frame) (seen c.leap.new.self) c.in_ok-leap.ensures c.left.invariant.kept) (c.args.self.now.spent + c.args.calls) c.left.self.spent c.left.invariant.room (seen c.step.new.self.frame) (seens c.step.new.self.callers) c.left.self.spent (rw c.in-TooDeep.is at c.step.ensures)

pub returns-in-Faulty : goal.returns-in-Faulty
returns-in-Faulty c = faulty (code_of c.args.program.now) (seen c.args.self.now.machine.frame) (seens c.args.self.now.machine.callers) c.args.calls (seen c.leap.new.self) (seens c.left.self.machine.callers) c.left.left (kept (code_of c.args.program.now) (seens c.left.self.machine.callers) (seen c.args.self.now.machine.frame) (seens c.args.self.now.machine.callers) c.args.calls c.left.left (seen c.left.self.machine.frame) (seen c.leap.new.self) c.in_ok-leap.ensures c.left.invariant.kept) (c.args.self.now.spent + c.args.calls) c.left.self.spent c.left.invariant.room (seen c.step.new.self.frame) (seens c.step.new.self.callers) c.left.self.spent (rw c.in-Faulty.is at c.step.ensures)

pub left-init : goal.left-init
left-init c = record { room = refl; kept = same-first (code_of c.args.program.now) (seen c.args.self.now.machine.frame) (seens c.args.self.now.machine.callers) c.args.calls }

pub returns-in-Gives : goal.returns-in-Gives
returns-in-Gives c = gives-all (code_of c.args.program.now) (seen c.args.self.now.machine.frame) (seens c.args.self.now.machine.callers) c.args.calls (seen c.leap.new.self) (seens c.left.self.machine.callers) c.left.left (kept (code_of c.args.program.now) (seens c.left.self.machine.callers) (seen c.args.self.now.machine.frame) (seens c.args.self.now.machine.callers) c.args.calls c.left.left (seen c.left.self.machine.frame) (seen c.leap.new.self) c.in_ok-leap.ensures c.left.invariant.kept)
    (c.args.self.now.spent + c.args.calls) c.left.self.spent c.left.invariant.room (seen c.step.new.self.frame) (seen c.values.new.self.machine.frame) (seens c.values.new.self.machine.callers) c.values.new.self.spent c.values.result (rw c.in-Gives.is at c.step.ensures) c.values.ensures.values c.values.ensures.at c.values.ensures.variables
