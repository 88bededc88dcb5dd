-- That nothing is held but certain channels: `simp` shows it with these, once for each name.
use Rattle.std.proofs.Common.{◌≡◌, ◌∙◌, refl, Bool, true, false, List, ◌∷◌, Option, None, if◌then◌else◌}
use Rattle.campl_types.specs.Names.{Name, same_name, is_among}
use Rattle.campl_types.specs.Held.{Channel}
use Rattle.campl_types.proofs.Names.{same-turned}
use Rattle.campl_types.proofs.Truth.{or-none}

-- a name that isn't among some is another than the first, and not among the rest
pub other-than : (x : Name) (xs : List Name) (y : Name) → is_among y (x ∷ xs) ≡ false → same_name x y ≡ false
other-than x xs y i = same-turned x y ∙ (or-none (same_name y x) (is_among y xs) i).0

pub not-in-rest : (x : Name) (xs : List Name) (y : Name) → is_among y (x ∷ xs) ≡ false → is_among y xs ≡ false
not-in-rest x xs y i = (or-none (same_name y x) (is_among y xs) i).1

-- of a name only the newest counts
pub newest : (b : Bool) (c d e : Option Channel) → (if b then c else (if b then d else e)) ≡ (if b then c else e)
newest true c d e = refl
newest false c d e = refl

-- also behind another
pub newest-behind : (b p : Bool) (c d e f : Option Channel) → (if b then c else (if p then d else (if b then e else f))) ≡ (if b then c else (if p then d else f))
newest-behind true p c d e f = refl
newest-behind false true c d e f = refl
newest-behind false false c d e f = refl

-- and what was given up isn't held
pub given-up : (b : Bool) → ◌≡◌ {A = Option Channel} (if b then None else None) None
given-up true = refl
given-up false = refl
