-- A body in which the parts of each plug form a tree.
use Rattle.std.specs.Prelude.{List, [], ◌∷◌}
use Rattle.campl_tree.specs.Plain.Process as b
use Rattle.campl_tree.specs.Plain.Process.{Body, HcaseRows, CaseRows, Branches, Parts}
use Rattle.campl_tree.specs.Plain.Decl.{Decl, Data, Protocol, Coprotocol, Function, Process}
use Rattle.campl_peel.specs.Numbered.{PlugIsTree}

abbrev mutual
  pub PlugsAreTrees : Body → Type 0
  PlugsAreTrees (b.Then a rest) = PlugsAreTrees rest
  PlugsAreTrees (b.Halt at x) = Unit {0}
  PlugsAreTrees (b.Hcase at x rows) = RowsHaveTrees rows
  PlugsAreTrees (b.Fork at x y left z right) = PlugsAreTrees left × PlugsAreTrees right
  PlugsAreTrees (b.Plug at links parts) = PlugIsTree links parts × PartsHaveTrees parts
  PlugsAreTrees (b.Race at rows) = BranchesHaveTrees rows
  PlugsAreTrees (b.Case at a rows) = CasesHaveTrees rows
  PlugsAreTrees (b.Identity at x negated y) = Unit {0}
  PlugsAreTrees (b.Call at x args inputs outputs) = Unit {0}

  pub RowsHaveTrees : HcaseRows → Type 0
  RowsHaveTrees b.no_hcase_rows = Unit {0}
  RowsHaveTrees (b.hcase_row_then k body rows) = PlugsAreTrees body × RowsHaveTrees rows

  pub BranchesHaveTrees : Branches → Type 0
  BranchesHaveTrees b.no_branches = Unit {0}
  BranchesHaveTrees (b.branch_then x body rows) = PlugsAreTrees body × BranchesHaveTrees rows

  pub CasesHaveTrees : CaseRows → Type 0
  CasesHaveTrees b.no_case_rows = Unit {0}
  CasesHaveTrees (b.case_row_then p body rows) = PlugsAreTrees body × CasesHaveTrees rows

  pub PartsHaveTrees : Parts → Type 0
  PartsHaveTrees b.no_parts = Unit {0}
  PartsHaveTrees (b.part_then header body parts) = PlugsAreTrees body × PartsHaveTrees parts

abbrev pub DeclHasTrees : Decl → Type 0
DeclHasTrees (Process p) = PlugsAreTrees p.row.body
DeclHasTrees (Data d) = Unit {0}
DeclHasTrees (Protocol d) = Unit {0}
DeclHasTrees (Coprotocol d) = Unit {0}
DeclHasTrees (Function f) = Unit {0}

-- so in each process of these declarations
abbrev pub ProcessesHaveTrees : List Decl → Type 0
ProcessesHaveTrees [] = Unit {0}
ProcessesHaveTrees (d ∷ ds) = DeclHasTrees d × ProcessesHaveTrees ds
