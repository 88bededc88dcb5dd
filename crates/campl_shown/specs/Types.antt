-- Types as they are written: with one space behind a comma and round `|`, `(*)` and `(+)`, and with
-- parentheses only round an operand of `(*)` or `(+)` that is itself such a type.
use Rattle.std.specs.Prelude.{ℕ, List, [], ◌∷◌, ◌++◌, Option, Some, None, codes}
use Rattle.campl_tree.specs.Plain.SeqType.{SeqType, SeqTypes, Int, Char, Bool, Pair, Named, Variable, no_types, type_then}
use Rattle.campl_tree.specs.Plain.SeqType as s
use Rattle.campl_tree.specs.Plain.ChanType.{ChanType, Put, Get, Tensor, Par, TopBot, Neg}
use Rattle.campl_tree.specs.Plain.ChanType as c
use Rattle.campl_types.specs.Names.{Name, found}
use Rattle.campl_types.specs.Substitution.{Filling}

-- characters
abbrev pub Written : Type 0
Written = List ℕ

-- Sequential types, where a variable is written as the first argument says
abbrev mutual
  pub written : (Name → Written) → SeqType → Written
  written of_variable Int = codes "Int"
  written of_variable Char = codes "Char"
  written of_variable Bool = codes "Bool"
  written of_variable (s.List t) = codes "[" ++ written of_variable t ++ codes "]"
  written of_variable (Pair t u) = codes "(" ++ written of_variable t ++ codes ", " ++ written of_variable u ++ codes ")"
  written of_variable (Named at x ts) = x ++ arguments of_variable ts
  written of_variable (Variable at x) = of_variable x

  -- in parentheses, where there are any
  pub arguments : (Name → Written) → SeqTypes → Written
  arguments of_variable no_types = []
  arguments of_variable (type_then t ts) = codes "(" ++ written of_variable t ++ more_arguments of_variable ts ++ codes ")"

  pub more_arguments : (Name → Written) → SeqTypes → Written
  more_arguments of_variable no_types = []
  more_arguments of_variable (type_then t ts) = codes ", " ++ written of_variable t ++ more_arguments of_variable ts

-- a type as it stands
abbrev pub type_text : SeqType → Written
type_text = written (λ (x : Name). x)

abbrev pub or_unknown : Option SeqType → Written
or_unknown (Some t) = type_text t
or_unknown None = codes "_"

-- a type where each parameter is what it stands for, and `_` where it stands for nothing yet
abbrev pub type_text_at : Filling → SeqType → Written
type_text_at fill = written (λ (x : Name). or_unknown (found x fill))

-- Channel types
abbrev mutual
  pub chan_text : ChanType → Written
  chan_text (Put t x) = codes "Put(" ++ type_text t ++ codes " | " ++ chan_text x ++ codes ")"
  chan_text (Get t x) = codes "Get(" ++ type_text t ++ codes " | " ++ chan_text x ++ codes ")"
  chan_text (Tensor x y) = operand x ++ codes " (*) " ++ operand y
  chan_text (Par x y) = operand x ++ codes " (+) " ++ operand y
  chan_text TopBot = codes "TopBot"
  chan_text (Neg x) = codes "Neg(" ++ chan_text x ++ codes ")"
  chan_text (c.Named at x ts) = x ++ arguments (λ (y : Name). y) ts

  -- in parentheses where it is such a type itself
  pub operand : ChanType → Written
  operand (Put t x) = codes "Put(" ++ type_text t ++ codes " | " ++ chan_text x ++ codes ")"
  operand (Get t x) = codes "Get(" ++ type_text t ++ codes " | " ++ chan_text x ++ codes ")"
  operand (Tensor x y) = codes "(" ++ operand x ++ codes " (*) " ++ operand y ++ codes ")"
  operand (Par x y) = codes "(" ++ operand x ++ codes " (+) " ++ operand y ++ codes ")"
  operand TopBot = codes "TopBot"
  operand (Neg x) = codes "Neg(" ++ chan_text x ++ codes ")"
  operand (c.Named at x ts) = x ++ arguments (λ (y : Name). y) ts
