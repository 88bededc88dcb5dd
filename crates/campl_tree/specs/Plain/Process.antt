-- What a process does, as definitions see it.
use Rattle.std.specs.Prelude.{Bool, List, Option}
use Rattle.campl_tree.specs.declared.place.Place.{Place}
use Rattle.campl_tree.specs.declared.place.Ident.{Ident}
use Rattle.campl_tree.specs.declared.name.Name.{Name}
use Rattle.campl_tree.specs.declared.process.Binder.{Binder}
use Rattle.campl_tree.specs.Plain.ChanType.{ChanType}
use Rattle.campl_tree.specs.Plain.Pattern.{Pattern}
use Rattle.campl_tree.specs.Plain.Expr.{Expr, Exprs}

pub data Action : Type 0 where
  Put : Place → Expr → Ident → Action
  Get : Place → Binder → Ident → Action
  Hput : Place → Ident → Ident → Action
  Split : Place → Ident → Ident → Ident → Action
  Close : Place → Ident → Action

-- a channel that a plug makes
pub record Link : Type 0 where
  pub name : Ident
  pub channel_type : ChanType

-- what a part of a plug begins with
pub record Header : Type 0 where
  pub place : Place
  pub inputs : List Ident
  pub outputs : List Ident

mutual
  -- an action and what follows it, or a last command
  pub data Body : Type 0 where
    Then : Action → Body → Body
    Halt : Place → Option Ident → Body
    Hcase : Place → Ident → HcaseRows → Body
    Fork : Place → Ident → Ident → Body → Ident → Body → Body
    Plug : Place → List Link → Parts → Body
    Race : Place → Branches → Body
    Case : Place → Expr → CaseRows → Body
    Identity : Place → Name → Bool → Ident → Body
    Call : Place → Name → Exprs → List Ident → List Ident → Body

  -- the rows of `hcase`, each a constructor and a body
  pub data HcaseRows : Type 0 where
    no_hcase_rows : HcaseRows
    hcase_row_then : Ident → Body → HcaseRows → HcaseRows

  -- the rows of `race`, each a channel and a body
  pub data Branches : Type 0 where
    no_branches : Branches
    branch_then : Ident → Body → Branches → Branches

  -- the rows of a process's `case`, each a pattern and a body
  pub data CaseRows : Type 0 where
    no_case_rows : CaseRows
    case_row_then : Pattern → Body → CaseRows → CaseRows

  -- the parts of a plug, each a header and a body
  pub data Parts : Type 0 where
    no_parts : Parts
    part_then : Header → Body → Parts → Parts
