-- Values that are copied one by one.
use Rattle.std.proofs.Common.{◌≡◌, refl, List, [], ◌∷◌, ◌++◌, append_assoc, Option, Some, None, ap}
use Rattle.campl_value.specs.Tree.{Tree}
use Rattle.campl_code.specs.Decisions.{with_first}

-- what is there already, in front of what comes
abbrev pub behind : List Tree → Option (List Tree) → Option (List Tree)
behind copies None = None
behind copies (Some ts) = Some (copies ++ ts)

pub behind-nothing : (o : Option (List Tree)) → behind [] o ≡ o
behind-nothing None = refl
behind-nothing (Some ts) = refl

pub behind-more : (copies : List Tree) (t : Tree) (o : Option (List Tree)) → behind (copies ++ t ∷ []) o ≡ behind copies (with_first (Some t) o)
behind-more copies t None = refl
behind-more copies t (Some ts) = ap Some (append_assoc copies (t ∷ []) ts)

append-nil : (xs : List Tree) → xs ++ [] ≡ xs
append-nil [] = refl
append-nil (x ∷ xs) = ap (λ l. x ∷ l) (append-nil xs)

pub behind-end : (copies : List Tree) → behind copies (Some []) ≡ Some copies
behind-end copies = ap Some (append-nil copies)

pub ruleset copying = (behind-nothing, behind-more, behind-end)
