-- A process whose evaluation says Deep keeps that it broke.
use Rattle.std.proofs.Common.{◌≡◌, ℕ, ◌++◌, true, refl, sym, ap, subst, ◌∙◌, [], ◌∷◌, Some, slice_get}
use Rattle.campl_tree.specs.Plain.Expr.{Expr, Exprs}
use Rattle.campl_tree.specs.Plain.Process.{Body}
use Rattle.campl_types.specs.World.{World}
use Rattle.campl_evaluation.specs.Evaluation.{Deep, Done, and_then, value_of, values_of}
use Rattle.campl_peel.specs.Terms.{Doing, Plugging, Term}
use Rattle.campl_meaning.specs.States.{Running}
use Rattle.campl_progress.specs.Deep.{BodyIsDeep, SaysDeep, TermIsDeep}
use Rattle.campl_code.specs.Frames.{frame_at, frame_size}
use Rattle.campl_code.specs.Instructions as i
use Rattle.campl_code.specs.Instructions.{Block, Code, Instr, blocks}
use Rattle.campl_code.specs.Machine.{is_command}
use Rattle.campl_code.specs.Numbers.{Framed, Numbers}
use Rattle.campl_code.specs.Results.{TooDeep}
use Rattle.campl_code.specs.Runs.{Arrives, Broke, IsOver}
use Rattle.campl_code.specs.Stands.{all_stand, count}
use Rattle.campl_code.proofs.Resume.{settled}
use Rattle.campl_code.proofs.Runs.{arrives}
use Rattle.campl_code_bodies.specs.Alike.{CellStands}
use Rattle.campl_code_bodies.specs.Bodies.{Channels, StandsBody, StandsFor, StandsTerm, case, close, fork, get, go, halt, halt_at, hcase, hput, link, link_neg, only, plug, put, race, split}
use Rattle.campl_code_bodies.specs.Commands.{Cell, run_of}
use Rattle.campl_code_bodies.specs.Kept.{Broken, IsKept, Kept, kept_of}

module _ (w : World) (code : Code) (standing : StandsFor w code) (c : Cell) (blk : Block) (there : slice_get (blocks code) c.block ≡ Some blk) (r : Running) (spent : c.spent ≡ r.spent) where
  -- with enough instructions its expressions break
  abbrev Breaks : Type 0
  Breaks = (n : ℕ) × (left : ℕ) × (run_of code n c ≡ Broke TooDeep left)

  breaks-in : (all : Exprs) (q : ℕ) (x : Instr) (ns : Numbers) → all_stand w code blk.code c.at all ns q → slice_get blk.code q ≡ Some x → is_command x ≡ true → Framed (frame_size code.decisions blk) ns r.variables c.vars →
      (left : ℕ) → values_of w all r.variables r.spent ≡ Deep left → Breaks
  breaks-in all q x ns stands at command framed left deep =
      let a = arrives w code standing.functions all c.block blk c.at q x ns r.variables c.vars there stands at command framed c.spent in
      let e : values_of w all r.variables c.spent ≡ Deep left = ap (values_of w all r.variables) spent ∙ deep in
      (a.0, left, subst (Arrives (frame_size code.decisions blk) (count all) ns r.variables q (run_of code a.0 c)) e a.1)

  only-deep : (a : Expr) (left : ℕ) → value_of w a r.variables r.spent ≡ Deep left → values_of w (only a) r.variables r.spent ≡ Deep left
  only-deep a left e = ap (λ x. and_then x (λ v n. and_then (Done [] n) (λ vs k. Done (v ∷ vs) k))) e

  deep-in : (body : Body) (ns : Numbers) (cs : Channels) → StandsBody w code blk.code c.at body ns cs → Framed (frame_size code.decisions blk) ns r.variables c.vars → BodyIsDeep w r body → Breaks
  deep-in body ns cs (put _ q at a x rest _ _ n run held instr next) f deep = breaks-in (only a) q (i.Put n) ns run instr refl f deep.0 (only-deep a deep.0 deep.1)
  deep-in body ns cs (case _ q at a rows _ _ m base d targets run instr ed s cases) f deep = breaks-in (only a) q (i.Case m base targets) ns run instr refl f deep.0 (only-deep a deep.0 deep.1)
  deep-in body ns cs (go _ q at x args inputs outputs _ _ g ins outs run known hin hout instr) f deep = breaks-in args q (i.Go g (ins ++ outs)) ns run instr refl f deep.0 deep.1
  deep-in body ns cs (get _ q at v x rest _ _ n m run held instr spare next) f deep = absurd deep
  deep-in body ns cs (hput _ q at con x rest _ _ n m run held number instr next) f deep = absurd deep
  deep-in body ns cs (split _ q at x y z rest _ _ n l r run held instr apart spare spare2 next) f deep = absurd deep
  deep-in body ns cs (close _ q at x rest _ _ n run held instr next) f deep = absurd deep
  deep-in body ns cs (halt _ q at _ _ run instr) f deep = absurd deep
  deep-in body ns cs (halt_at _ q at x _ _ n run held instr) f deep = absurd deep
  deep-in body ns cs (hcase _ q at x rows _ _ n targets run held instr none s) f deep = absurd deep
  deep-in body ns cs (fork _ q at x y left z right _ _ n l r to run held instr spare spare2 next child) f deep = absurd deep
  deep-in body ns cs (plug _ at links parts _ _ two s) f deep = absurd deep
  deep-in body ns cs (race _ q at rows _ _ targets run instr s) f deep = absurd deep
  deep-in body ns cs (link _ q at x y _ _ n m run held held2 instr) f deep = absurd deep
  deep-in body ns cs (link_neg _ q at x y _ _ n m run held held2 instr) f deep = absurd deep

  deep-breaks : (term : Term) (ns : Numbers) (cs : Channels) → StandsTerm w code blk.code c.at term ns cs → Framed (frame_size code.decisions blk) ns r.variables c.vars → TermIsDeep w r term → Breaks
  deep-breaks (Doing body) ns cs s f deep = deep-in body ns cs s f deep
  deep-breaks (Plugging links parts) ns cs s f deep = absurd deep

pub deep-kept : (w : World) (code : Code) → StandsFor w code → (c : Cell) (r : Running) (kept : Kept) → CellStands w code c r → IsKept code c kept → SaysDeep w r → kept ≡ Broken
deep-kept w code standing c r kept s is deep =
    let a = deep-breaks w code standing c s.block s.there r s.spent r.term s.numbers s.channels s.term s.variables deep in
    let over : IsOver (run_of code a.0 c) = subst IsOver (sym a.2) tt in
    is.2 ∙ (ap kept_of (settled code is.0 a.0 (frame_at c.block c.at c.vars) [] c.spent is.1 over) ∙ ap kept_of a.2)
