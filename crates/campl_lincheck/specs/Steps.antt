-- Judging in the steps that code takes. The words of Bodies are kept closed here, so that a proof about code sees each
-- command's own equation and not the whole definition.
use Rattle.std.specs.Prelude.{List, [], ◌++◌}
use Rattle.campl_tree.specs.declared.place.Place.{Place}
use Rattle.campl_tree.specs.declared.place.Ident.{Ident}
use Rattle.campl_tree.specs.Plain.SeqType.{SeqType}
use Rattle.campl_tree.specs.Plain.Pattern.{Pattern}
use Rattle.campl_tree.specs.Plain.Expr.{Expr}
use Rattle.campl_tree.specs.Plain.Process.{Body, HcaseRows, Branches, CaseRows, Parts, Link, Header}
use Rattle.campl_types.specs.Names.{Name}
use Rattle.campl_types.specs.World.{World}
use Rattle.campl_types.specs.Polarity.{Choices}
use Rattle.campl_types.specs.Fits.{Vars}
use Rattle.campl_seqcheck.specs.Judged.{Fine, Judged, and_then}
use Rattle.campl_seqcheck.specs.Fitting.{fit}
use Rattle.campl_linear.specs.Faults.{LinFault}
use Rattle.campl_linear.specs.Judged.{from_seq}
use Rattle.campl_linear.specs.Holding.{Holding}
use Rattle.campl_linear.specs.Channels.{Used}
use Rattle.campl_linear.specs.Plugs.{plug_stands, share_of}
use Rattle.campl_linear.specs.Bodies.{judge, judge_rows, judge_branches, judge_cases, judge_parts}
use Rattle.campl_rows.specs.Steps.{offers_stand, row_holding, fork_holding, race_stands, case_stands}

unfoldable pub judged : World → Vars → Holding → Body → Judged LinFault Fine
judged = judge

-- the bodies of rows, branches and parts
unfoldable pub judged_rows : World → Vars → Holding → Name → Used Choices → HcaseRows → Judged LinFault Fine
judged_rows = judge_rows

unfoldable pub judged_branches : World → Vars → Holding → Branches → Judged LinFault Fine
judged_branches = judge_branches

unfoldable pub judged_cases : World → Vars → Holding → SeqType → CaseRows → Judged LinFault Fine
judged_cases = judge_cases

unfoldable pub judged_parts : World → Vars → List Link → Holding → Parts → Judged LinFault Fine
judged_parts = judge_parts

-- `hcase x of` and its rows
abbrev pub judged_hcase : Place → World → Vars → Holding → Ident → HcaseRows → Judged LinFault Fine
judged_hcase at w vs held x rows = and_then (offers_stand w at x rows held) (λ u. judged_rows w vs held x.name u rows)

-- a row, where the channel goes on with what remains
abbrev pub judged_row : World → Vars → Holding → Name → Used Choices → Ident × Body → Judged LinFault Fine
judged_row w vs held x u row = and_then (row_holding x u row.0 held) (λ h. judged w vs h row.1)

-- `fork x as` and its two rows
abbrev pub judged_fork : Place → World → Vars → Holding → Ident → (left right : Ident × Body) → Judged LinFault Fine
judged_fork at w vs held x left right =
    and_then (fork_holding w at x left.0 left.1 right.0 held) (λ h. and_then (judged w vs h.0 left.1) (λ _. judged w vs h.1 right.1))

-- `race` and its rows
abbrev pub judged_race : Place → World → Vars → Holding → Branches → Judged LinFault Fine
judged_race at w vs held rows = and_then (race_stands w at rows held) (λ _. judged_branches w vs held rows)

-- `case e of` and its rows
abbrev pub judged_case : Place → World → Vars → Holding → Expr → CaseRows → Judged LinFault Fine
judged_case at w vs held a rows = and_then (case_stands w vs at a rows) (λ t. judged_cases w vs held t rows)

-- a row, under the variables of its pattern too
abbrev pub judged_case_row : World → Vars → Holding → SeqType → Pattern × Body → Judged LinFault Fine
judged_case_row w vs held t row = and_then (from_seq (fit w [] row.0 t)) (λ xs. judged w (xs ++ vs) held row.1)

-- `plug`, its links and its parts
abbrev pub judged_plug : Place → World → Vars → Holding → List Link → Parts → Judged LinFault Fine
judged_plug at w vs held links parts = and_then (plug_stands at links parts held) (λ _. judged_parts w vs links held parts)

-- a part, with its share
abbrev pub judged_part : World → Vars → List Link → Holding → Header × Body → Judged LinFault Fine
judged_part w vs links held part = judged w vs (share_of links held part.0) part.1
