-- What a fault of code tells.
use Rattle.std.specs.Prelude.{◌≡◌, ℕ, suc, Bool, List, [], ◌∷◌, Option, Some, None}
use Rattle.campl_code.specs.Instructions.{Block, Code}
use Rattle.campl_code.specs.Rules.{block_fault, with_block}
use Rattle.campl_rules.specs.declared.rules.CodeFault.{CodeFault}
use Rattle.campl_rules.specs.declared.rules.CodeFault.TheVariants as c

-- it is the first one, unless memory is out
abbrev pub Tells : Option (ℕ × ℕ) → CodeFault → Type 0
Tells first (c.Bad block at) = first ≡ Some (block, at)
Tells first c.OutOfMemory = Unit {0}

-- the first bad instruction of blocks of one kind, which are numbered from there on
abbrev pub first_block : Code → Bool → ℕ → List Block → Option (ℕ × ℕ)
first_block code in_process n [] = None
first_block code in_process n (b ∷ blocks) = with_block n (block_fault code in_process b.code) (first_block code in_process (suc n) blocks)
