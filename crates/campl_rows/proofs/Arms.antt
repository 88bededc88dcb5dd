-- The definition's arms for `hcase`, `race`, `case` and `fork`: what stands in the way, and then the bodies.
use Rattle.std.proofs.Common.{◌≡◌, refl, [], ◌∷◌, length, None}
use Rattle.campl_tree.specs.declared.place.Place.{Place}
use Rattle.campl_tree.specs.declared.place.Ident.{Ident}
use Rattle.campl_tree.specs.Plain.SeqType.{SeqType}
use Rattle.campl_tree.specs.Plain.ChanType.{ChanType}
use Rattle.campl_tree.specs.Plain.Expr.{Expr}
use Rattle.campl_tree.specs.Plain.Process as b
use Rattle.campl_tree.specs.Plain.Process.{Body, HcaseRows, Branches, CaseRows}
use Rattle.campl_types.specs.Names.{Name}
use Rattle.campl_types.specs.World.{World}
use Rattle.campl_types.specs.Polarity.{Choices}
use Rattle.campl_types.specs.Fits.{Vars}
use Rattle.campl_types.specs.Held.{On}
use Rattle.campl_types.specs.Linear.{body_rows}
use Rattle.campl_seqcheck.specs.Judged.{Fine, Judged, Is, Fails, and_then}
use Rattle.campl_seqcheck.specs.Judging as values
use Rattle.campl_seqcheck.specs.RowPatterns.{exhaustive}
use Rattle.campl_linear.specs.Faults.{LinFault}
use Rattle.campl_linear.specs.Judged.{from_seq}
use Rattle.campl_linear.specs.Holding.{Holding, given_up, goes_on}
use Rattle.campl_linear.specs.Channels.{Used, used, to_fork, to_offer, two_new}
use Rattle.campl_linear.specs.Rows.{row_names, row_type, rows_offered, each_has_row, some_row, branch_names, branch_count, branches_begin, patterns_fit}
use Rattle.campl_linear.specs.Bodies.{judge, judge_rows, judge_branches, judge_cases}
use Rattle.campl_rows.specs.Steps.{offers_stand, rows_stand, row_holding, race_stands, case_stands, rows_match, fork_holding, left_holding, right_holding}

-- steps regrouped
in-two : {A B : Type 0} (p q : Judged LinFault Fine) (x : A) (next : A → Judged LinFault B)
    → and_then p (λ _. and_then q (λ _. next x)) ≡ and_then (and_then (and_then p (λ _. q)) (λ _. Is x)) next
in-two (Is f) (Is g) x next = refl
in-two (Is f) (Fails fault) x next = refl
in-two (Fails fault) q x next = refl

in-three : {A B : Type 0} (p q r : Judged LinFault Fine) (x : A) (next : A → Judged LinFault B)
    → and_then p (λ _. and_then q (λ _. and_then r (λ _. next x))) ≡ and_then (and_then (and_then p (λ _. and_then q (λ _. r))) (λ _. Is x)) next
in-three (Is f) (Is g) (Is h) x next = refl
in-three (Is f) (Is g) (Fails fault) x next = refl
in-three (Is f) (Fails fault) r x next = refl
in-three (Fails fault) q r x next = refl

module _ (w : World) (vs : Vars) (held : Holding) (at : Place) where
  pub hcase-arm : (x : Ident) (rows : HcaseRows) → judge w vs held (b.Hcase at x rows) ≡ and_then (offers_stand w at x rows held) (λ u. judge_rows w vs held x.name u rows)
  hcase-arm x rows = go (used w at x to_offer held)
    where
      go : (j : Judged LinFault (Used Choices))
          → and_then j (λ u. and_then (rows_offered x.name u [] rows) (λ _. and_then (each_has_row at u.may (row_names rows)) (λ _. and_then (some_row at x.name u rows) (λ _. judge_rows w vs held x.name u rows))))
          ≡ and_then (and_then j (λ u. and_then (rows_stand at x.name u rows) (λ _. Is u))) (λ u. judge_rows w vs held x.name u rows)
      go (Is u) = in-three (rows_offered x.name u [] rows) (each_has_row at u.may (row_names rows)) (some_row at x.name u rows) u (λ u. judge_rows w vs held x.name u rows)
      go (Fails fault) = refl

  pub race-arm : (rows : Branches) → judge w vs held (b.Race at rows) ≡ and_then (race_stands w at rows held) (λ _. judge_branches w vs held rows)
  race-arm rows = go (branch_count at (length (branch_names rows)))
    where
      go : (j : Judged LinFault Fine)
          → and_then j (λ _. and_then (branches_begin w held [] rows) (λ _. judge_branches w vs held rows)) ≡ and_then (and_then j (λ _. branches_begin w held [] rows)) (λ _. judge_branches w vs held rows)
      go (Is f) = refl
      go (Fails fault) = refl

  pub case-arm : (a : Expr) (rows : CaseRows) → judge w vs held (b.Case at a rows) ≡ and_then (case_stands w vs at a rows) (λ t. judge_cases w vs held t rows)
  case-arm a rows = go (from_seq (values.judge w vs a None))
    where
      go : (j : Judged LinFault SeqType)
          → and_then j (λ t. and_then (from_seq (patterns_fit w rows t)) (λ _. and_then (from_seq (exhaustive at w (body_rows rows) (t ∷ []))) (λ _. judge_cases w vs held t rows)))
          ≡ and_then (and_then j (λ t. and_then (rows_match w at t rows) (λ _. Is t))) (λ t. judge_cases w vs held t rows)
      go (Is t) = in-two (from_seq (patterns_fit w rows t)) (from_seq (exhaustive at w (body_rows rows) (t ∷ []))) t (λ t. judge_cases w vs held t rows)
      go (Fails fault) = refl

  module _ (x y : Ident) (left : Body) (z : Ident) (right : Body) where
    abbrev Both : Type 0
    Both = Holding × Holding

    abbrev shares : Used (ChanType × ChanType) → Both
    shares u = (left_holding y.name (On u.side u.may.0) left (given_up x.name held), right_holding z.name (On u.side u.may.1) left (given_up x.name held))

    abbrev bodies : Both → Judged LinFault Fine
    bodies p = and_then (judge w vs p.0 left) (λ _. judge w vs p.1 right)

    new-ends : (u : Used (ChanType × ChanType)) (j : Judged LinFault Fine) → and_then j (λ _. bodies (shares u)) ≡ and_then (and_then j (λ _. Is (shares u))) bodies
    new-ends u (Is f) = refl
    new-ends u (Fails fault) = refl

    forked : (j : Judged LinFault (Used (ChanType × ChanType)))
        → and_then j (λ u. and_then (two_new y z (given_up x.name held)) (λ _. bodies (shares u))) ≡ and_then (and_then j (λ u. and_then (two_new y z (given_up x.name held)) (λ _. Is (shares u)))) bodies
    forked (Is u) = new-ends u (two_new y z (given_up x.name held))
    forked (Fails fault) = refl

    pub fork-arm : judge w vs held (b.Fork at x y left z right) ≡ and_then (fork_holding w at x y left z held) (λ p. and_then (judge w vs p.0 left) (λ _. judge w vs p.1 right))
    fork-arm = forked (used w at x to_fork held)

-- a row of `hcase` and those behind it
pub row-arm : (w : World) (vs : Vars) (held : Holding) (x : Name) (u : Used Choices) (k : Ident) (body : Body) (rows : HcaseRows)
    → judge_rows w vs held x u (b.hcase_row_then k body rows) ≡ and_then (row_holding x u k held) (λ h. and_then (judge w vs h body) (λ _. judge_rows w vs held x u rows))
row-arm w vs held x u k body rows = go (row_type k x u)
  where
    go : (j : Judged LinFault ChanType)
        → and_then j (λ y. and_then (judge w vs (goes_on x (On u.side y) held) body) (λ _. judge_rows w vs held x u rows))
        ≡ and_then (and_then j (λ y. Is (goes_on x (On u.side y) held))) (λ h. and_then (judge w vs h body) (λ _. judge_rows w vs held x u rows))
    go (Is y) = refl
    go (Fails fault) = refl
