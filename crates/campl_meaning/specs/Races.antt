-- Bodies and sources without a race.
use Rattle.std.specs.Prelude.{◌≡◌, Some}
use Rattle.campl_tree.specs.Plain.Process as b
use Rattle.campl_tree.specs.Plain.Process.{Body, HcaseRows, CaseRows, Branches, Parts}
use Rattle.campl_tree.specs.Plain.Decl.{ProcessDecl}
use Rattle.campl_machine.specs.Names.{Who}
use Rattle.campl_types.specs.Names.{Name}
use Rattle.campl_types.specs.World.{World, process_named}
use Rattle.campl_peel.specs.Terms.{Term, Doing, Plugging}
use Rattle.campl_meaning.specs.States.{State, Runs, Serves}
use Rattle.campl_meaning.specs.Reductions.{Configuration}

abbrev mutual
  pub HasNoRace : Body → Type 0
  HasNoRace (b.Then a rest) = HasNoRace rest
  HasNoRace (b.Halt at x) = Unit {0}
  HasNoRace (b.Hcase at x rows) = RowsHaveNoRace rows
  HasNoRace (b.Fork at x y left z right) = HasNoRace left × HasNoRace right
  HasNoRace (b.Plug at links parts) = PartsHaveNoRace parts
  HasNoRace (b.Race at rows) = ⊥
  HasNoRace (b.Case at a rows) = CasesHaveNoRace rows
  HasNoRace (b.Identity at x negated y) = Unit {0}
  HasNoRace (b.Call at x args inputs outputs) = Unit {0}

  pub RowsHaveNoRace : HcaseRows → Type 0
  RowsHaveNoRace b.no_hcase_rows = Unit {0}
  RowsHaveNoRace (b.hcase_row_then k body rows) = HasNoRace body × RowsHaveNoRace rows

  pub CasesHaveNoRace : CaseRows → Type 0
  CasesHaveNoRace b.no_case_rows = Unit {0}
  CasesHaveNoRace (b.case_row_then p body rows) = HasNoRace body × CasesHaveNoRace rows

  pub PartsHaveNoRace : Parts → Type 0
  PartsHaveNoRace b.no_parts = Unit {0}
  PartsHaveNoRace (b.part_then header body parts) = HasNoRace body × PartsHaveNoRace parts

-- no declared process has one
abbrev pub WorldHasNoRace : World → Type 0
WorldHasNoRace w = (x : Name) (p : ProcessDecl) → process_named w x ≡ Some p → HasNoRace p.row.body

abbrev pub TermHasNoRace : Term → Type 0
TermHasNoRace (Doing body) = HasNoRace body
TermHasNoRace (Plugging links parts) = PartsHaveNoRace parts

abbrev pub StateHasNoRace : State → Type 0
StateHasNoRace (Runs r) = TermHasNoRace r.term
StateHasNoRace (Serves s) = Unit {0}

-- nothing that is there will come to one
abbrev pub IsWithoutRace : Configuration → Type 0
IsWithoutRace c = (who : Who) (s : State) → c.nodes who ≡ Some s → StateHasNoRace s
