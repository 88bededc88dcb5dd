-- The free names of a well formed body are exactly the channels that are held.
use Rattle.std.proofs.Common.{◌≡◌, ◌∙◌, refl, sym, ap, ◌≤◌, arith, not, ◌&&◌, ◌||◌, Some, None, is_some, true≢false}
use Rattle.std.proofs.Math.Bool.{or-false}
use Rattle.std.proofs.lemmas.Option.{none-some}
use Rattle.campl_tree.specs.declared.service.Side.{Side}
use Rattle.campl_tree.specs.declared.service.Side.TheVariants.{Input, Output}
use Rattle.campl_tree.specs.Plain.SeqType.{SeqType}
use Rattle.campl_tree.specs.Plain.Process as b
use Rattle.campl_tree.specs.Plain.Process.{Body, HcaseRows, CaseRows, Branches, Parts}
use Rattle.campl_types.specs.Names.{Name, is_among}
use Rattle.campl_types.specs.World.{World, names_of}
use Rattle.campl_types.specs.Polarity.{Choices}
use Rattle.campl_types.specs.Fits.{Vars}
use Rattle.campl_types.specs.Held.{Channel, On, Held}
use Rattle.campl_types.specs.Headers.{Links, links_in, link_names, share}
use Rattle.campl_types.specs.Linear.{IsWellFormed, RowsAreWellFormed, BranchesAreWellFormed, CasesAreWellFormed, PartsAreWellFormed}
use Rattle.campl_types.specs.Free.{is_free, is_free_in_rows, is_free_in_branches, is_free_in_cases, is_free_in_parts}
use Rattle.campl_types.proofs.FreeCommands.{named, named-again, still, splits, forks, halts, links, calls, first-row, one-more-row, begun}
use Rattle.campl_types.proofs.FreeParts.{in_headers, no-more-than-header, plugs}

-- a race has two branches
too-few : 2 ≤ 0 → ⊥
too-few h = omega (arith, h)

mutual
  -- a name is free exactly where it is held
  pub names-held : (w : World) (vs : Vars) (held : Held) (body : Body) → IsWellFormed w vs held body → (n : Name)
      → is_free n body ≡ is_some (held n)
  names-held w vs held (b.Then (b.Put at a x) rest) d n = named held n x.name (Some (On d.0 d.3)) (is_free n rest) d.4 (names-held w vs _ rest d.7 n)
  names-held w vs held (b.Then (b.Get at v x) rest) d n = named held n x.name (Some (On d.0 d.3)) (is_free n rest) d.4 (names-held w _ _ rest d.6 n)
  names-held w vs held (b.Then (b.Hput at k x) rest) d n = named held n x.name (Some (On d.0 d.3)) (is_free n rest) d.4 (names-held w vs _ rest d.7 n)
  names-held w vs held (b.Then (b.Split at x y z) rest) d n =
      splits held n x.name y.name z.name (On d.0 d.2) (On d.0 d.3) (is_free n rest) d.4 d.6 (names-held w vs _ rest d.7 n)
  names-held w vs held (b.Then (b.Close at x) rest) d n = named held n x.name None (is_free n rest) d.2 (names-held w vs _ rest d.4 n)
  names-held w vs held (b.Halt at None) d n = sym (ap is_some (d n refl))
  names-held w vs held (b.Halt at (Some x)) d n = halts held n x.name d.2 d.4
  names-held w vs held (b.Hcase at x b.no_hcase_rows) d n = absurd (true≢false (sym d.7))
  names-held w vs held (b.Hcase at x (b.hcase_row_then k body rows)) d n =
      named-again held n x.name _ d.3
      (first-row (is_some (held n)) (is_free n body) (is_free_in_rows n rows)
      (names-held w vs _ body d.6.2 n ∙ still held n x.name _ d.3)
      (rows-name-held w vs held x.name d.0 d.2 rows (On d.0 d.1) d.3 d.6.3 n))
  names-held w vs held (b.Fork at x y left z right) d n =
      forks held n x.name y.name z.name d.0 (On d.1.0 d.1.2) (On d.1.0 d.1.3) (is_free n left) (is_free n right) d.1.4 d.1.6
      (names-held w vs _ left d.1.7 n) (names-held w vs _ right d.1.8 n)
  names-held w vs held (b.Plug at ls parts) d n =
      ap (λ p. not (is_among n (link_names ls)) && p) (parts-name-headers w vs (links_in ls) held parts d.3 n) ∙ plugs ls held parts n (d.2.0 n)
  names-held w vs held (b.Race at b.no_branches) d n = absurd (too-few d.0.0)
  names-held w vs held (b.Race at (b.branch_then x body rows)) d n =
      begun n x.name body (is_free_in_branches n rows) d.2.0
      ∙ first-row (is_some (held n)) (is_free n body) (is_free_in_branches n rows) (names-held w vs held body d.2.1 n)
      (branches-name-held w vs held rows d.2.2 n)
  names-held w vs held (b.Case at a b.no_case_rows) d n = absurd (none-some _ (sym d.3))
  names-held w vs held (b.Case at a (b.case_row_then p body rows)) d n =
      first-row (is_some (held n)) (is_free n body) (is_free_in_cases n rows) (names-held w _ held body d.2.3 n)
      (cases-name-held w vs held d.0 rows d.2.4 n)
  names-held w vs held (b.Identity at x negated y) d n = links held n x y.name d.4 d.5 d.8
  names-held w vs held (b.Call at x args inputs outputs) d n = calls held n Input Output inputs outputs d.0.inputs d.0.outputs d.3 d.4 d.6

  -- the rows of `hcase` name nothing that isn't held
  rows-name-held : (w : World) (vs : Vars) (held : Held) (x : Name) (side : Side) (cs : Choices) (rows : HcaseRows) (d : Channel)
      → held x ≡ Some d → RowsAreWellFormed w vs held x side cs rows → (n : Name) → (is_some (held n) || is_free_in_rows n rows) ≡ is_some (held n)
  rows-name-held w vs held x side cs b.no_hcase_rows d i h n = or-false (is_some (held n))
  rows-name-held w vs held x side cs (b.hcase_row_then k body rows) d i h n =
      one-more-row (is_some (held n)) (is_free n body) (is_free_in_rows n rows) (names-held w vs _ body h.2 n ∙ still held n x _ i)
      (rows-name-held w vs held x side cs rows d i h.3 n)

  -- so do branches
  branches-name-held : (w : World) (vs : Vars) (held : Held) (rows : Branches) → BranchesAreWellFormed w vs held rows → (n : Name)
      → (is_some (held n) || is_free_in_branches n rows) ≡ is_some (held n)
  branches-name-held w vs held b.no_branches h n = or-false (is_some (held n))
  branches-name-held w vs held (b.branch_then x body rows) h n =
      ap (λ p. is_some (held n) || p) (begun n x.name body (is_free_in_branches n rows) h.0)
      ∙ one-more-row (is_some (held n)) (is_free n body) (is_free_in_branches n rows) (names-held w vs held body h.1 n)
      (branches-name-held w vs held rows h.2 n)

  -- and the rows of `case`
  cases-name-held : (w : World) (vs : Vars) (held : Held) (t : SeqType) (rows : CaseRows) → CasesAreWellFormed w vs held t rows → (n : Name)
      → (is_some (held n) || is_free_in_cases n rows) ≡ is_some (held n)
  cases-name-held w vs held t b.no_case_rows h n = or-false (is_some (held n))
  cases-name-held w vs held t (b.case_row_then p body rows) h n =
      one-more-row (is_some (held n)) (is_free n body) (is_free_in_cases n rows) (names-held w _ held body h.3 n)
      (cases-name-held w vs held t rows h.4 n)

  -- each part names what stands in its header
  parts-name-headers : (w : World) (vs : Vars) (ls : Links) (held : Held) (parts : Parts) → PartsAreWellFormed w vs ls held parts → (n : Name)
      → is_free_in_parts n parts ≡ in_headers n parts
  parts-name-headers w vs ls held b.no_parts h n = refl
  parts-name-headers w vs ls held (b.part_then header body parts) h n =
      no-more-than-header (is_among n (names_of header.inputs)) (is_among n (names_of header.outputs)) _ _ (is_free n body) (is_free_in_parts n parts) (in_headers n parts)
      (names-held w vs (share ls held header) body h.0 n) (parts-name-headers w vs ls held parts h.1 n)
