-- Texts in pieces, one behind another.
use Rattle.std.proofs.Common.{◌≡◌, refl, ℕ, Bool, true, false, List, [], ◌++◌, append_assoc, if◌then◌else◌}
use Rattle.std.specs.Prelude.{codes}
use Rattle.std.specs.Str.{chars}
use Rattle.std.proofs.lemmas.List.{append-nil, drop_more, drop_all}
use Rattle.campl_shown.specs.Types.{Written}
use Rattle.campl_tree.proofs.Views.{seq_views, chan_views}
use Rattle.campl_names.proofs.Fillings.{found-view}

-- Words

pub spelled-int : chars (codes "Int") ≡ codes "Int"
unfolding chars
spelled-int = refl

pub spelled-char : chars (codes "Char") ≡ codes "Char"
unfolding chars
spelled-char = refl

pub spelled-bool : chars (codes "Bool") ≡ codes "Bool"
unfolding chars
spelled-bool = refl

pub spelled-comma : chars (codes ", ") ≡ codes ", "
unfolding chars
spelled-comma = refl

pub spelled-bar : chars (codes " | ") ≡ codes " | "
unfolding chars
spelled-bar = refl

pub spelled-put : chars (codes "Put(") ≡ codes "Put("
unfolding chars
spelled-put = refl

pub spelled-get : chars (codes "Get(") ≡ codes "Get("
unfolding chars
spelled-get = refl

pub spelled-neg : chars (codes "Neg(") ≡ codes "Neg("
unfolding chars
spelled-neg = refl

pub spelled-top : chars (codes "TopBot") ≡ codes "TopBot"
unfolding chars
spelled-top = refl

pub spelled-tensor : chars (codes " (*) ") ≡ codes " (*) "
unfolding chars
spelled-tensor = refl

pub spelled-par : chars (codes " (+) ") ≡ codes " (+) "
unfolding chars
spelled-par = refl

-- Types by themselves and as operands

-- one text whether or not the type is an operand
pub either-way : (b : Bool) (text : Written) → (if b then text else text) ≡ text
either-way true text = refl
either-way false text = refl

-- two operands, in parentheses where the whole is an operand
pub joined : (b : Bool) (old x sign y : Written)
    → old ++ ((if b then codes "(" else []) ++ x) ++ (sign ++ y ++ (if b then codes ")" else []))
    ≡ old ++ (if b then codes "(" ++ x ++ sign ++ y ++ codes ")" else x ++ sign ++ y)
joined true old x sign y = simp append_assoc refl
joined false old x sign y = simp (append_assoc, append-nil) refl

pub ruleset types = (seq_views, append_assoc, append-nil, spelled-int, spelled-char, spelled-bool)

pub ruleset pieces = (append_assoc, append-nil, spelled-comma, spelled-bar)

pub ruleset arguments = (append_assoc, append-nil, drop_more, drop_all)

pub ruleset standing = (found-view)

pub ruleset channels = (chan_views, append_assoc, append-nil, either-way, joined, spelled-put, spelled-get, spelled-neg, spelled-top, spelled-tensor, spelled-par)
