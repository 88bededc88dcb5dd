-- Whether a `race` stands in a process.
use Rattle.std.specs.Prelude.{Bool, true, false, ◌||◌, List, [], ◌∷◌}
use Rattle.campl_tree.specs.Plain.Process as b
use Rattle.campl_tree.specs.Plain.Process.{Body, HcaseRows, CaseRows, Parts}
use Rattle.campl_tree.specs.Plain.Decl.{Decl, Data, Protocol, Coprotocol, Function, Process}

abbrev mutual
  -- in a body, or in one of those inside
  pub races : Body → Bool
  races (b.Then a rest) = races rest
  races (b.Halt at x) = false
  races (b.Hcase at x rows) = row_races rows
  races (b.Fork at x y left z right) = races left || races right
  races (b.Plug at links parts) = part_races parts
  races (b.Race at rows) = true
  races (b.Case at a rows) = case_races rows
  races (b.Identity at x negated y) = false
  races (b.Call at x args inputs outputs) = false

  -- in a row of `hcase`
  pub row_races : HcaseRows → Bool
  row_races b.no_hcase_rows = false
  row_races (b.hcase_row_then k body rows) = races body || row_races rows

  -- in a row of `case`
  pub case_races : CaseRows → Bool
  case_races b.no_case_rows = false
  case_races (b.case_row_then p body rows) = races body || case_races rows

  -- in a part of a plug
  pub part_races : Parts → Bool
  part_races b.no_parts = false
  part_races (b.part_then header body parts) = races body || part_races parts

-- in a process that is declared
abbrev pub decl_races : Decl → Bool
decl_races (Process p) = races p.row.body
decl_races (Data d) = false
decl_races (Protocol d) = false
decl_races (Coprotocol d) = false
decl_races (Function f) = false

-- anywhere in declarations
abbrev pub has_race : List Decl → Bool
has_race [] = false
has_race (d ∷ ds) = decl_races d || has_race ds
