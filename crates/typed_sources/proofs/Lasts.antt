-- The last commands of a derivation, and the derivation of a process.
use Rattle.std.proofs.Common.{◌≡◌, refl, Bool, false, not, ◌&&◌, IsTrue, List, [], ◌∷◌, ◌++◌, Some, length, nat_le}
use Rattle.campl_tree.specs.declared.place.Place.{Place}
use Rattle.campl_tree.specs.declared.place.Ident.{Ident}
use Rattle.campl_tree.specs.declared.service.Side.{Side}
use Rattle.campl_tree.specs.declared.service.Side.TheVariants.{Input, Output}
use Rattle.campl_tree.specs.Plain.SeqType.{SeqType}
use Rattle.campl_tree.specs.Plain.ChanType.{ChanType}
use Rattle.campl_tree.specs.Plain.Pattern.{Pattern}
use Rattle.campl_tree.specs.Plain.Expr.{Expr, Exprs}
use Rattle.campl_tree.specs.Plain.Process as b
use Rattle.campl_tree.specs.Plain.Process.{Body, HcaseRows, CaseRows, Branches, Parts, Header, Link}
use Rattle.campl_tree.specs.Plain.Decl.{ProcessDecl}
use Rattle.campl_types.specs.Names.{Name, same_name, is_among, are_distinct, found}
use Rattle.campl_types.specs.World.{World, names_of, process_named}
use Rattle.campl_types.specs.Polarity.{Forks, Offers, Choices, deed}
use Rattle.campl_types.specs.Patterns.{bound_in, bound_by_all}
use Rattle.campl_types.specs.Fits.{Vars, fits}
use Rattle.campl_types.specs.Sequential.{HasType, Found, PartsHaveTypes, AreExhaustive}
use Rattle.campl_types.specs.Held.{On, Held, with, without, only}
use Rattle.campl_types.specs.Headers.{Links, links_in, link_names, share, count}
use Rattle.campl_types.specs.Linear.{RowsAreWellFormed, BranchesAreWellFormed, CasesAreWellFormed, PartsAreWellFormed, ProcessIsTyped, AreNew, HasEachOnce, AreHanded, AreJoined, body_rows, receives_on, most_parts, most_branches, row_variables, row_channels, branch_names}
use Rattle.typed_sources.proofs.Within.{Within, more, kept, shared, of-row, alone, closed, all_held, is_gone, is_plain}
use Rattle.typed_sources.proofs.Divided.{divided, divides, between-is}
use Rattle.typed_sources.proofs.Actions.{Flows}

-- hcase

pub record RowsFlow (w : World) (vs : Vars) (names : List Name) (held : Held) (x : Name) (s : Side) (cs : Choices) (rows : HcaseRows) : Type 0 where
  pub well-formed : Within names held → RowsAreWellFormed w vs held x s cs rows

pub hcase : {w : World} {vs : Vars} {names : List Name} {held : Held} {at : Place} {x : Ident} {k : Ident} {body : Body} {rows : HcaseRows} {s : Side} {u : ChanType} {cs : Choices}
    → held x.name ≡ Some (On s u) → deed w s u ≡ Offers cs → HasEachOnce (b.hcase_row_then k body rows) cs → RowsFlow w vs names held x.name s cs (b.hcase_row_then k body rows)
    → Flows w vs names held (b.Hcase at x (b.hcase_row_then k body rows))
hcase i j once next = record { well-formed = λ h. (_, _, _, i, j, once, next.well-formed h, refl) }

pub no-rows : {w : World} {vs : Vars} {names : List Name} {held : Held} {x : Name} {s : Side} {cs : Choices} → RowsFlow w vs names held x s cs b.no_hcase_rows
no-rows = record { well-formed = λ h. tt }

pub row : {w : World} {vs : Vars} {names : List Name} {held : Held} {x : Name} {s : Side} {cs : Choices} {k : Ident} {body : Body} {rows : HcaseRows} {y : ChanType}
    → found k.name cs ≡ Some y → Flows w vs (x ∷ names) (with x (Some (On s y)) held) body → RowsFlow w vs names held x s cs rows
    → RowsFlow w vs names held x s cs (b.hcase_row_then k body rows)
row i first next = record { well-formed = λ h. (_, i, first.well-formed (more _ h), next.well-formed h) }

-- fork, where the first body keeps these channels and the second has the others

pub fork : {w : World} {vs : Vars} {names : List Name} {held : Held} {at : Place} {x y z : Ident} {left right : Body} {s : Side} {u t r : ChanType} (keeps : List Name)
    → held x.name ≡ Some (On s u) → deed w s u ≡ Forks t r → AreNew x.name y.name z.name held
    → Flows w vs (y.name ∷ x.name ∷ names) (with y.name (Some (On s t)) (only (λ c. is_among c keeps) (without x.name held))) left
    → Flows w vs (z.name ∷ x.name ∷ names) (with z.name (Some (On s r)) (only (λ c. not (is_among c keeps)) (without x.name held))) right
    → Flows w vs names held (b.Fork at x y left z right)
fork keeps i j new first second =
    record {
      well-formed = λ h.
          (λ c. is_among c keeps, (_, _, _, _, i, j, new, first.well-formed (more _ (kept _ (more _ h))), second.well-formed (more _ (kept _ (more _ h)))));
    }

-- plug

pub record PartsFlow (w : World) (vs : Vars) (links : Links) (held : Held) (parts : Parts) : Type 0 where
  pub well-formed : PartsAreWellFormed w vs links held parts

pub plug : {w : World} {vs : Vars} {names : List Name} {held : Held} {at : Place} {links : List Link} {parts : Parts}
    → IsTrue (nat_le 2 (count parts) && nat_le (count parts) most_parts) → IsTrue (are_distinct (link_names links))
    → IsTrue (divides links names held parts)
    → PartsFlow w vs (links_in links) held parts → Flows w vs names held (b.Plug at links parts)
plug {links = links} {parts = parts} many distinct test next =
    record { well-formed = λ h. (between-is 2 (count parts) most_parts many, distinct, divided links parts h test, next.well-formed) }

pub no-parts : {w : World} {vs : Vars} {links : Links} {held : Held} → PartsFlow w vs links held b.no_parts
no-parts = record { well-formed = tt }

pub part : {w : World} {vs : Vars} {links : Links} {held : Held} {header : Header} {body : Body} {parts : Parts}
    → Flows w vs (names_of header.outputs ++ names_of header.inputs) (share links held header) body → PartsFlow w vs links held parts
    → PartsFlow w vs links held (b.part_then header body parts)
part {links = links} {held = held} {header = header} first next =
    record { well-formed = (first.well-formed (shared links held header), next.well-formed) }

-- race

pub record BranchesFlow (w : World) (vs : Vars) (names : List Name) (held : Held) (rows : Branches) : Type 0 where
  pub well-formed : Within names held → BranchesAreWellFormed w vs held rows

pub race : {w : World} {vs : Vars} {names : List Name} {held : Held} {at : Place} {rows : Branches}
    → IsTrue (nat_le 2 (length (branch_names rows)) && nat_le (length (branch_names rows)) most_branches) → IsTrue (are_distinct (branch_names rows))
    → BranchesFlow w vs names held rows → Flows w vs names held (b.Race at rows)
race {rows = rows} many distinct next =
    record { well-formed = λ h. (between-is 2 (length (branch_names rows)) most_branches many, distinct, next.well-formed h) }

pub no-branches : {w : World} {vs : Vars} {names : List Name} {held : Held} → BranchesFlow w vs names held b.no_branches
no-branches = record { well-formed = λ h. tt }

pub branch : {w : World} {vs : Vars} {names : List Name} {held : Held} {x : Ident} {body : Body} {rows : Branches}
    → IsTrue (receives_on x.name body) → Flows w vs names held body → BranchesFlow w vs names held rows
    → BranchesFlow w vs names held (b.branch_then x body rows)
branch receives first next = record { well-formed = λ h. (receives, first.well-formed h, next.well-formed h) }

-- case

pub record CasesFlow (w : World) (vs : Vars) (names : List Name) (held : Held) (t : SeqType) (rows : CaseRows) : Type 0 where
  pub well-formed : Within names held → CasesAreWellFormed w vs held t rows

pub match : {w : World} {vs : Vars} {names : List Name} {held : Held} {at : Place} {a : Expr} {rows : CaseRows} (t : SeqType)
    → HasType Found w vs a t → CasesFlow w vs names held t rows → AreExhaustive w (body_rows rows) (t ∷ [])
    → Flows w vs names held (b.Case at a rows)
match t i next all = record { well-formed = λ h. (t, i, next.well-formed h, all) }

pub no-cases : {w : World} {vs : Vars} {names : List Name} {held : Held} {t : SeqType} → CasesFlow w vs names held t b.no_case_rows
no-cases = record { well-formed = λ h. tt }

pub when : {w : World} {vs : Vars} {names : List Name} {held : Held} {t : SeqType} {p : Pattern} {body : Body} {rows : CaseRows} {xs : Vars}
    → fits w p t ≡ Some xs → IsTrue (are_distinct (bound_in p)) → Flows w (xs ++ vs) names held body → CasesFlow w vs names held t rows
    → CasesFlow w vs names held t (b.case_row_then p body rows)
when i distinct first next = record { well-formed = λ h. (_, i, distinct, first.well-formed h, next.well-formed h) }

-- identity and call

pub join : {w : World} {vs : Vars} {names : List Name} {held : Held} {at : Place} {x : Name} {negated : Bool} {y : Ident} {s : Side} {t : ChanType} {r : Side} {u : ChanType}
    → held x ≡ Some (On s t) → held y.name ≡ Some (On r u) → same_name x y.name ≡ false → AreJoined negated s r t u
    → IsTrue (all_held (is_gone (x ∷ y.name ∷ [])) names held) → Flows w vs names held (b.Identity at x negated y)
join {x = x} {y = y} i j different joined test =
    record { well-formed = λ h. (_, _, _, _, i, j, different, joined, alone (x ∷ y.name ∷ []) h test) }

pub call : {w : World} {vs : Vars} {names : List Name} {held : Held} {at : Place} {x : Name} {args : Exprs} {inputs outputs : List Ident} {p : ProcessDecl}
    → process_named w x ≡ Some p → PartsHaveTypes w vs [] [] p.parameters args
    → AreHanded held Input inputs p.inputs → AreHanded held Output outputs p.outputs
    → IsTrue (are_distinct (names_of inputs ++ names_of outputs)) → IsTrue (all_held (is_gone (names_of inputs ++ names_of outputs)) names held)
    → Flows w vs names held (b.Call at x args inputs outputs)
call {inputs = inputs} {outputs = outputs} i args ins outs distinct test =
    record { well-formed = λ h. (_, i, args, ins, outs, distinct, alone (names_of inputs ++ names_of outputs) h test) }

-- a process, whose row has as many names as its heading has types
pub process : (w : World) (p : ProcessDecl) → IsTrue (are_distinct (bound_by_all p.row.variables ++ names_of p.row.inputs ++ names_of p.row.outputs))
    → length p.row.variables ≡ length p.parameters → length p.row.inputs ≡ length p.inputs → length p.row.outputs ≡ length p.outputs
    → IsTrue (all_held is_plain (names_of p.row.inputs ++ (names_of p.row.outputs ++ [])) (row_channels p))
    → Flows w (row_variables p.row.variables p.parameters) (names_of p.row.inputs ++ (names_of p.row.outputs ++ [])) (row_channels p) p.row.body
    → ProcessIsTyped w p
process w p distinct i j k test body = (distinct, i, j, k, closed (of-row p) test, body.well-formed (of-row p))
