-- Lines put together from their parts.
use Rattle.std.proofs.Common.{◌≡◌, List, ◌++◌, append_assoc}

-- brackets to the right and to the left
pub seven_parts : {A : Type 0} (a b c d e f g h : List A) → a ++ (b ++ (c ++ (d ++ (e ++ (f ++ (g ++ h)))))) ≡ a ++ ((b ++ (c ++ (d ++ (e ++ (f ++ g))))) ++ h)
seven_parts a b c d e f g h = simp append_assoc

pub five_parts : {A : Type 0} (a b c d e f : List A) → a ++ (b ++ (c ++ (d ++ (e ++ f)))) ≡ a ++ ((b ++ (c ++ (d ++ e))) ++ f)
five_parts a b c d e f = simp append_assoc
