use Rattle.std.proofs.Common.{◌≡◌, List, [], ◌∷◌, refl, true, false, sym, ◌∙◌, reverse}
use Rattle.campl_code.specs.Frames as m
use Rattle.campl_code.specs.Results.{Faulty}
use Rattle.campl_code.specs.Machine.{Gives, Breaks, gives}
use Rattle.campl_eval.specs.View.{has_none, seens}
use Rattle.campl_eval.specs.declared.machine.Frame.{Frame}
use Rattle.campl_eval.proofs.machine.Machine.give.Goals as goal

none : (f : m.Frame) (fs : List Frame) → has_none fs ≡ true → gives f (seens fs) ≡ Gives f (reverse f.stack)
none f [] e = refl
none f (g ∷ gs) e = absurd cc

some : (f : m.Frame) (fs : List Frame) → has_none fs ≡ false → gives f (seens fs) ≡ Breaks Faulty
some f [] e = absurd cc
some f (g ∷ gs) e = refl

pub returns-then-is_empty : goal.returns-then-is_empty
returns-then-is_empty c = none _ _ (sym c.is_empty.ensures ∙ c.if-is_empty.true)

pub returns : goal.returns
returns c = some _ _ (sym c.is_empty.ensures ∙ c.if-is_empty.false)
