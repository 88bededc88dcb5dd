-- The kind of a step, whatever numbers are drawn.
use Rattle.std.proofs.Common.{◌≡◌, ℕ, List, Option, Some, None, slice_get, refl}
use Rattle.campl_value.specs.Tree.{Tree}
use Rattle.campl_code.specs.Instructions.{Instr, Block, Code, blocks}
use Rattle.campl_code.specs.Instructions as i
use Rattle.campl_code_bodies.specs.Kept.{Kept, Values, AtCall, Broken}
use Rattle.campl_cells.specs.Parts.{Held, Life, Ended, Runs, Serves, Tip}
use Rattle.campl_cells.specs.Wants.{Drawn, Want, at_instruction, behind, in_block, kept_want, wanted, with_found}
use Rattle.campl_cells.specs.Steps.{by_want}
use Rattle.campl_steps.specs.Outlook.{kind_in}

module _ (tip : ℕ → Option Tip) (p : ℕ) (e d d2 : Drawn) where
  -- both are of one kind; what a step bears counts for nothing
  abbrev Same : Want → Want → Type 0
  Same o r = kind_in (by_want tip e p o) ≡ kind_in (by_want tip e p r)

  module _ (code : Code) (h : Held) (block : List Instr) (branch at : ℕ) (vars values : List Tree) where
    found : (o : Option ℕ) (f g : ℕ → Want) → ((a : ℕ) → Same (f a) (g a)) → Same (with_found o f) (with_found o g)
    found None f g s = refl
    found (Some a) f g s = s a

    behind-same : (x : Instr) → Same (behind code d h block branch at vars values x) (behind code d2 h block branch at vars values x)
    behind-same (i.Fork n l r to) = found (h.ends n) _ _ (λ a. refl)
    behind-same (i.Peel n side to) = refl
    behind-same (i.Halt None) = refl
    behind-same (i.Halt (Some n)) = refl
    behind-same x = refl

    there-same : (o : Option Instr) → Same (at_instruction code d h block branch at vars values o) (at_instruction code d2 h block branch at vars values o)
    there-same None = refl
    there-same (Some x) = behind-same x

  block-same : (code : Code) (h : Held) (branch at : ℕ) (vars values : List Tree) (o : Option Block) → Same (in_block code d h branch at vars values o) (in_block code d2 h branch at vars values o)
  block-same code h branch at vars values None = refl
  block-same code h branch at vars values (Some b) = there-same code h b.code branch at vars values (slice_get b.code at)

  kept-same : (code : Code) (h : Held) (branch : ℕ) (o : Kept) → Same (kept_want code d h branch o) (kept_want code d2 h branch o)
  kept-same code h branch (Values at vars values) = block-same code h branch at vars values (slice_get (blocks code) h.block)
  kept-same code h branch (AtCall f fs) = refl
  kept-same code h branch Broken = refl

  pub kinds-same : (code : Code) (life : Life) (branch : ℕ) → Same (wanted code d life branch) (wanted code d2 life branch)
  kinds-same code Ended branch = refl
  kinds-same code (Runs h) branch = kept-same code h branch h.kept
  kinds-same code (Serves x s) branch = refl
