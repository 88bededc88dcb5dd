-- What is kept goes on with more calls, and tells the next command.
use Rattle.std.proofs.Common.{◌≡◌, ◌∙◌, refl, sym, ap, subst, ℕ, List, []}
use Rattle.campl_machine.specs.Names.{Path}
use Rattle.campl_types.specs.World.{World}
use Rattle.campl_meaning.specs.States.{Running}
use Rattle.campl_meaning.specs.Wants.{term_command}
use Rattle.campl_code.specs.Instructions.{Code}
use Rattle.campl_code.specs.Frames.{Frame, frame_at}
use Rattle.campl_code.specs.Runs.{Outcome, Gave, Broke, Pauses, Short, IsOver, run}
use Rattle.campl_code.proofs.Resume.{settled, continues}
use Rattle.campl_code_bodies.specs.Bodies.{StandsFor}
use Rattle.campl_code_bodies.specs.Commands.{Cell, wanted, run_of}
use Rattle.campl_code_bodies.specs.Alike.{CellStands, CommandsAlike}
use Rattle.campl_code_bodies.specs.Kept.{Kept, AtCall, kept_of, IsKept, kept_command, spent_more}
use Rattle.campl_code_bodies.proofs.Doing.{wants-alike}

paused : (o : Outcome) (f : Frame) (fs : List Frame) → IsOver o → AtCall f fs ≡ kept_of o → o ≡ Pauses f fs
paused (Gave at vars vs left) f fs over e = absurd (cc e)
paused (Broke reason left) f fs over e = absurd (cc e)
paused (Pauses g gs) f fs over e = let a : f ≡ g = cc e in let b : fs ≡ gs = cc e in λ i. Pauses (sym a i) (sym b i)
paused Short f fs over e = absurd over

-- the frames that stand before a call go on with m more calls
pub kept-goes : (code : Code) (c : Cell) (f : Frame) (fs : List Frame) (j m : ℕ) → IsKept code c (AtCall f fs) → IsOver (run code j f fs m) → IsKept code (spent_more m c) (kept_of (run code j f fs m))
kept-goes code c f fs j m kept over =
    let r = continues code kept.0 j (frame_at c.block c.at c.vars) [] c.spent m f fs (paused (run_of code kept.0 c) f fs kept.1 kept.2) in
    (r.0, subst IsOver (sym r.1) over, ap kept_of (sym r.1))

wanted-kept : (code : Code) (c : Cell) (p : Path) (branch : ℕ) (o : Outcome) → IsOver o → wanted code c p branch o ≡ kept_command code c p branch (kept_of o)
wanted-kept code c p branch (Gave at vars vs left) over = refl
wanted-kept code c p branch (Broke reason left) over = refl
wanted-kept code c p branch (Pauses f fs) over = refl
wanted-kept code c p branch Short over = absurd over

-- what is kept tells what the process wants
pub kept-wants : (w : World) (code : Code) → StandsFor w code → (p : Path) (branch : ℕ) (c : Cell) (r : Running) (kept : Kept) → CellStands w code c r → IsKept code c kept → CommandsAlike w code (kept_command code c p branch kept) (term_command w p r branch r.term)
kept-wants w code standing p branch c r kept s is =
    let x = wants-alike w code standing p branch c r s in
    let same : run_of code x.0 c ≡ run_of code is.0 c = settled code x.0 is.0 (frame_at c.block c.at c.vars) [] c.spent x.1.0 is.1 in
    let command : wanted code c p branch (run_of code x.0 c) ≡ kept_command code c p branch kept =
    ap (wanted code c p branch) same ∙ wanted-kept code c p branch (run_of code is.0 c) is.1 ∙ ap (kept_command code c p branch) (sym is.2) in
    subst (λ d. CommandsAlike w code d (term_command w p r branch r.term)) command x.1.1
