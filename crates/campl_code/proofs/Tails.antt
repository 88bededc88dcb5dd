-- A call that is directly followed by a return, with nothing more on the stack, leaves no frame behind.
use Rattle.std.proofs.Common.{◌≡◌, ◌∙◌, ap, ℕ, ◌+◌, Bool, true, List, [], ◌∷◌, Some, if◌then◌else◌}
use Rattle.std.specs.Prelude.{◌&&◌, slice_get}
use Rattle.campl_value.specs.Tree.{Tree}
use Rattle.campl_code.specs.Instructions.{Block, Code}
use Rattle.campl_code.specs.Instructions as i
use Rattle.campl_code.specs.Frames.{Frame}
use Rattle.campl_code.specs.Machine.{Enters, popped, does, enters, enters_with, entry, fetch, is_return, step}

pub tail-call : (code : Code) (f : Frame) (fs : List Frame) (g : ℕ) (b : Block) (args : List Tree) → fetch code f ≡ Some (i.Call g) → slice_get code.functions g ≡ Some b → popped b.variables [] f.stack ≡ Some (args, [])
    → is_return (fetch code (record f { at = f.at + 1; stack = [] })) ≡ true → step code f fs ≡ Enters (entry code g b args) fs
tail-call code f fs g b args e known has next =
    ap (λ o. does code o f fs) e
    ∙ ap (λ o. enters code g o f fs) known
    ∙ ap (λ o. enters_with code g b f fs o) has
    ∙ ap (λ (t : Bool). Enters (entry code g b args) (if t && true then fs else (record f { at = f.at + 1; stack = [] } ∷ fs))) next
