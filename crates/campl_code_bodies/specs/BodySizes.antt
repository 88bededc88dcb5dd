-- How many commands a body has.
use Rattle.std.specs.Prelude.{ℕ, suc, ◌+◌, List, [], ◌∷◌}
use Rattle.campl_tree.specs.Plain.Process as b
use Rattle.campl_tree.specs.Plain.Process.{Body, HcaseRows, Branches, CaseRows, Parts, Link, Header}
use Rattle.campl_tree.specs.Plain.Decl.{ProcessDecl}

abbrev mutual
  pub body_size : Body → ℕ
  body_size (b.Then a rest) = suc (body_size rest)
  body_size (b.Halt at x) = 1
  body_size (b.Hcase at x rows) = suc (hcase_size rows)
  body_size (b.Fork at x y left z right) = suc (body_size left + body_size right)
  body_size (b.Plug at links parts) = suc (parts_size parts)
  body_size (b.Race at rows) = suc (race_size rows)
  body_size (b.Case at a rows) = suc (cases_size rows)
  body_size (b.Identity at x negated y) = 1
  body_size (b.Call at x args inputs outputs) = 1

  pub hcase_size : HcaseRows → ℕ
  hcase_size b.no_hcase_rows = 0
  hcase_size (b.hcase_row_then k body rows) = body_size body + hcase_size rows

  pub race_size : Branches → ℕ
  race_size b.no_branches = 0
  race_size (b.branch_then x body rows) = body_size body + race_size rows

  pub cases_size : CaseRows → ℕ
  cases_size b.no_case_rows = 0
  cases_size (b.case_row_then p body rows) = body_size body + cases_size rows

  pub parts_size : Parts → ℕ
  parts_size b.no_parts = 0
  parts_size (b.part_then h body parts) = body_size body + parts_size parts

abbrev pub processes_size : List ProcessDecl → ℕ
processes_size [] = 0
processes_size (d ∷ ds) = body_size d.row.body + processes_size ds
