-- Bodies judged, each command in the order in which its parts are, and then what follows it.
use Rattle.std.specs.Prelude.{not, List, [], ◌∷◌, ◌++◌, length, Some, None}
use Rattle.campl_tree.specs.Plain.SeqType.{SeqType}
use Rattle.campl_tree.specs.Plain.Process as b
use Rattle.campl_tree.specs.Plain.Process.{Body, HcaseRows, Branches, CaseRows, Parts, Link}
use Rattle.campl_types.specs.Names.{Name}
use Rattle.campl_types.specs.World.{World, process_named}
use Rattle.campl_types.specs.Polarity.{Choices}
use Rattle.campl_types.specs.Fits.{Vars}
use Rattle.campl_types.specs.Held.{On}
use Rattle.campl_types.specs.Linear.{bound, body_rows}
use Rattle.campl_types.specs.Free.{is_free}
use Rattle.campl_seqcheck.specs.Judged.{Fine, fine, Judged, Is, and_then}
use Rattle.campl_seqcheck.specs.Fitting.{fit}
use Rattle.campl_seqcheck.specs.Judging as values
use Rattle.campl_linear.specs.Judged.{from_seq}
use Rattle.campl_linear.specs.Holding.{Holding, goes_on, those, given_up, comes}
use Rattle.campl_linear.specs.Channels.{held_at, Used, used, to_put, to_get, to_pick, to_split, to_fork, to_end, to_offer, two_new, none_left, joined}
use Rattle.campl_linear.specs.Rows.{row_names, row_type, rows_offered, each_has_row, some_row, branch_names, branch_count, branches_begin, patterns_fit}
use Rattle.campl_linear.specs.Plugs.{plug_stands, share_of}
use Rattle.campl_linear.specs.Calls.{called}
use Rattle.campl_linear.specs.Faults.{LinFault}
use Rattle.campl_seqcheck.specs.RowPatterns.{exhaustive}

abbrev mutual
  pub judge : World → Vars → Holding → Body → Judged LinFault Fine
  judge w vs held (b.Then (b.Put at a x) rest) =
      and_then (used w at x to_put held) (λ u. and_then (from_seq (values.judge w vs a (Some u.may.0))) (λ _.
      judge w vs (goes_on x.name (On u.side u.may.1) held) rest))
  judge w vs held (b.Then (b.Get at v x) rest) =
      and_then (used w at x to_get held) (λ u. judge w (bound v u.may.0 vs) (goes_on x.name (On u.side u.may.1) held) rest)
  judge w vs held (b.Then (b.Hput at k x) rest) =
      and_then (used w at x (to_pick k.name) held) (λ u. judge w vs (goes_on x.name (On u.side u.may) held) rest)
  judge w vs held (b.Then (b.Split at x y z) rest) =
      and_then (used w at x to_split held) (λ u. and_then (two_new y z (given_up x.name held)) (λ _.
      judge w vs (comes z.name (On u.side u.may.1) (comes y.name (On u.side u.may.0) (given_up x.name held))) rest))
  judge w vs held (b.Then (b.Close at x) rest) = and_then (used w at x to_end held) (λ _. judge w vs (given_up x.name held) rest)
  judge w vs held (b.Halt at None) = none_left at held
  judge w vs held (b.Halt at (Some x)) = and_then (used w at x to_end held) (λ _. none_left at (given_up x.name held))
  judge w vs held (b.Hcase at x rows) =
      and_then (used w at x to_offer held) (λ u. and_then (rows_offered x.name u [] rows) (λ _.
      and_then (each_has_row at u.may (row_names rows)) (λ _. and_then (some_row at x.name u rows) (λ _. judge_rows w vs held x.name u rows))))
  -- each other channel goes to the first body where it is free there, and to the second otherwise
  judge w vs held (b.Fork at x y left z right) =
      and_then (used w at x to_fork held) (λ u. and_then (two_new y z (given_up x.name held)) (λ _.
      and_then (judge w vs (comes y.name (On u.side u.may.0) (those (λ c. is_free c left) (given_up x.name held))) left) (λ _.
      judge w vs (comes z.name (On u.side u.may.1) (those (λ c. not (is_free c left)) (given_up x.name held))) right)))
  judge w vs held (b.Plug at links parts) = and_then (plug_stands at links parts held) (λ _. judge_parts w vs links held parts)
  judge w vs held (b.Race at rows) =
      and_then (branch_count at (length (branch_names rows))) (λ _. and_then (branches_begin w held [] rows) (λ _. judge_branches w vs held rows))
  judge w vs held (b.Case at a rows) =
      and_then (from_seq (values.judge w vs a None)) (λ t. and_then (from_seq (patterns_fit w rows t)) (λ _.
      and_then (from_seq (exhaustive at w (body_rows rows) (t ∷ []))) (λ _. judge_cases w vs held t rows)))
  judge w vs held (b.Identity at x negated y) =
      and_then (held_at (record { place = at; name = x }) held) (λ c. and_then (held_at y held) (λ d.
      and_then (none_left at (given_up y.name (given_up x held))) (λ _. joined at x negated y.name c d)))
  judge w vs held (b.Call at x args inputs outputs) = called w vs held at (process_named w x) args inputs outputs

  -- the bodies of the rows of `hcase`, each with all that is held
  pub judge_rows : World → Vars → Holding → Name → Used Choices → HcaseRows → Judged LinFault Fine
  judge_rows w vs held x u b.no_hcase_rows = Is fine
  judge_rows w vs held x u (b.hcase_row_then k body rows) =
      and_then (row_type k x u) (λ y. and_then (judge w vs (goes_on x (On u.side y) held) body) (λ _. judge_rows w vs held x u rows))

  -- those of branches, each with all that is held
  pub judge_branches : World → Vars → Holding → Branches → Judged LinFault Fine
  judge_branches w vs held b.no_branches = Is fine
  judge_branches w vs held (b.branch_then x body rows) = and_then (judge w vs held body) (λ _. judge_branches w vs held rows)

  -- those of the rows of `case`, each with all that is held and the pattern's variables
  pub judge_cases : World → Vars → Holding → SeqType → CaseRows → Judged LinFault Fine
  judge_cases w vs held t b.no_case_rows = Is fine
  judge_cases w vs held t (b.case_row_then p body rows) =
      and_then (from_seq (fit w [] p t)) (λ xs. and_then (judge w (xs ++ vs) held body) (λ _. judge_cases w vs held t rows))

  -- those of the parts of a plug, each with its share
  pub judge_parts : World → Vars → List Link → Holding → Parts → Judged LinFault Fine
  judge_parts w vs links held b.no_parts = Is fine
  judge_parts w vs links held (b.part_then header body parts) =
      and_then (judge w vs (share_of links held header) body) (λ _. judge_parts w vs links held parts)
