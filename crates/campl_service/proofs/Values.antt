-- The value of a text.
use Rattle.std.proofs.Common.{◌≡◌, ap, ◌∙◌, ℕ, List, Option, Some}
use Rattle.std.specs.Prelude.{IsSome, is_some}
use Rattle.campl_value.specs.Tree.{Tree, Nil}
use Rattle.campl_value.specs.List.{letters}
use Rattle.campl_value.specs.Text.{chars_of, chars_of_text, letters_of_text}

-- letters before the empty list are a text
pub letters_are : (value nil : Tree) (cs : List ℕ) → value ≡ letters cs nil → nil ≡ Nil → chars_of value ≡ Some cs
letters_are value nil cs e n = ap chars_of (e ∙ (ap (letters cs) n ∙ letters_of_text cs)) ∙ chars_of_text cs

pub is_one : (o : Option (List ℕ)) (cs : List ℕ) → o ≡ Some cs → IsSome o
is_one o cs e = ap is_some e
