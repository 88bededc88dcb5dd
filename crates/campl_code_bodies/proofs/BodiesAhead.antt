-- The code of bodies jumps onward alone within evaluations.
use Rattle.std.proofs.Common.{◌≡◌, subst, arith, ℕ, zero, suc, ◌+◌, Bool, true, false, not, List, [], ◌∷◌, ◌++◌, Some, None, length, length-append, slice_get}
use Rattle.campl_tree.specs.Plain.Process as b
use Rattle.campl_tree.specs.Plain.Process.{Body, HcaseRows, Branches, CaseRows, Parts, Link, Header}
use Rattle.campl_tree.specs.Plain.Decl.{ProcessDecl}
use Rattle.campl_types.specs.World.{World}
use Rattle.campl_types.specs.Patterns.{bound_in}
use Rattle.campl_types.specs.Free.{is_free}
use Rattle.campl_peel.specs.Numbered.{last_first}
use Rattle.campl_peel.specs.Plugging.{stands_in, links_to, without_link}
use Rattle.campl_peel.specs.Terms.{those}
use Rattle.campl_code.specs.Forward.{Ahead, AllAhead, IsForward}
use Rattle.campl_code.specs.Instructions.{Instr, Block}
use Rattle.campl_code.specs.Numbers.{Numbers, numbered}
use Rattle.campl_code.specs.Stands.{functions_of}
use Rattle.campl_code.specs.CaseDecisions.{cases_in, decisions_of_functions}
use Rattle.campl_code.specs.Generated.{code_of, code_of_all, function_blocks}
use Rattle.campl_code.proofs.Onward.{ahead_append, code_ahead, all_ahead, functions_ahead}
use Rattle.campl_code_bodies.specs.Bodies.{Channels, without, binds, processes_of}
use Rattle.campl_code_bodies.specs.BodyCode.{Maker, hcase_made, race_made, case_made, link_name, link_code, peels_made, body_made}
use Rattle.campl_code_bodies.specs.SourceCode.{process_made, process_block, process_blocks, code_within}

module _ (w : World) where
  abbrev Onward : Maker → Type 0
  Onward make = (body : Body) (base dec free : ℕ) (ns : Numbers) (next : ℕ) (cs : Channels) → AllAhead base (make body base dec free ns next cs).code

  hcase-ahead : (make : Maker) → Onward make → (rows : HcaseRows) (base dec free : ℕ) (ns : Numbers) (next : ℕ) (cs : Channels) → AllAhead base (hcase_made make rows base dec free ns next cs).code
  hcase-ahead make on b.no_hcase_rows base dec free ns next cs = tt
  hcase-ahead make on (b.hcase_row_then k body rows) base dec free ns next cs =
      let m = make body base dec free ns next cs in
      ahead_append m.code (hcase_made make rows (base + length m.code) (dec + length m.decisions) free ns next cs).code base (on body base dec free ns next cs) (hcase-ahead make on rows (base + length m.code) (dec + length m.decisions) free ns next cs)

  race-ahead : (make : Maker) → Onward make → (rows : Branches) (base dec free : ℕ) (ns : Numbers) (next : ℕ) (cs : Channels) → AllAhead base (race_made make rows base dec free ns next cs).code
  race-ahead make on b.no_branches base dec free ns next cs = tt
  race-ahead make on (b.branch_then x body rows) base dec free ns next cs =
      let m = make body base dec free ns next cs in
      ahead_append m.code (race_made make rows (base + length m.code) (dec + length m.decisions) free ns next cs).code base (on body base dec free ns next cs) (race-ahead make on rows (base + length m.code) (dec + length m.decisions) free ns next cs)

  case-ahead : (make : Maker) → Onward make → (rows : CaseRows) (base dec free : ℕ) (ns : Numbers) (next : ℕ) (cs : Channels) → AllAhead base (case_made make rows base dec free ns next cs).code
  case-ahead make on b.no_case_rows base dec free ns next cs = tt
  case-ahead make on (b.case_row_then q body rows) base dec free ns next cs =
      let m = make body base dec (free + length (bound_in q)) (numbered free (bound_in q) ns) next cs in
      ahead_append m.code (case_made make rows (base + length m.code) (dec + length m.decisions) free ns next cs).code base (on body base dec (free + length (bound_in q)) (numbered free (bound_in q) ns) next cs) (case-ahead make on rows (base + length m.code) (dec + length m.decisions) free ns next cs)

  peels-ahead : (make : Maker) → Onward make → (parts : Parts) (links : List Link) (base dec free : ℕ) (ns : Numbers) (next : ℕ) (cs : Channels) → AllAhead base (peels_made make links parts base dec free ns next cs).code
  peels-ahead make on b.no_parts links base dec free ns next cs = tt
  peels-ahead make on (b.part_then h body b.no_parts) links base dec free ns next cs = on body base dec free ns next cs
  peels-ahead make on (b.part_then h body (b.part_then g c parts)) links base dec free ns next cs =
      let l = link_name (links_to (b.part_then g c parts) h links) in
      let rest = peels_made make (without_link l links) (b.part_then g c parts) (base + 1) dec free ns (suc next) ((l, next) ∷ those (λ x. not (stands_in h x)) cs) in
      let to = base + 1 + length rest.code in (
        tt,
        ahead_append rest.code (make body to (dec + length rest.decisions) free ns (suc next) ((l, next) ∷ those (stands_in h) cs)).code (base + 1)
            (peels-ahead make on (b.part_then g c parts) (without_link l links) (base + 1) dec free ns (suc next) ((l, next) ∷ those (λ x. not (stands_in h x)) cs))
            (on body to (dec + length rest.decisions) free ns (suc next) ((l, next) ∷ those (stands_in h) cs)),
      )

  link-ahead : (negated : Bool) (p n m : ℕ) → Ahead p (link_code negated n m)
  link-ahead true p n m = tt
  link-ahead false p n m = tt

  -- an expression's code, a process's instruction, and the rest
  after-one : (z : List Instr) (x : Instr) (rest : List Instr) (base : ℕ) → AllAhead base z → Ahead (base + length z) x → AllAhead (base + length z + 1) rest → AllAhead base ((z ++ x ∷ []) ++ rest)
  after-one z x rest base hz hx hr =
      let len : base + length z + 1 ≡ base + length (z ++ x ∷ []) = omega (arith, length-append z (x ∷ [])) in
      ahead_append (z ++ x ∷ []) rest base (ahead_append z (x ∷ []) base hz (hx, tt)) (subst (λ (n : ℕ). AllAhead n rest) len hr)

  step : (n : ℕ) → Onward (body_made w n) → Onward (body_made w (suc n))
  step n on (b.Then (b.Put at a x) rest) base dec free ns next cs = let z = code_of w false a base dec free ns in after-one z _ (body_made w n rest (base + length z + 1) (dec + cases_in a) free ns next cs).code base (code_ahead w a false base dec free ns) tt (on rest (base + length z + 1) (dec + cases_in a) free ns next cs)
  step n on (b.Then (b.Get at v x) rest) base dec free ns next cs = (tt, on rest (base + 1) dec (suc free) (binds v free ns) next cs)
  step n on (b.Then (b.Hput at k x) rest) base dec free ns next cs = (tt, on rest (base + 1) dec free ns next cs)
  step n on (b.Then (b.Split at x y z) rest) base dec free ns next cs = (tt, on rest (base + 1) dec free ns (suc (suc next)) ((z.name, suc next) ∷ (y.name, next) ∷ without x.name cs))
  step n on (b.Then (b.Close at x) rest) base dec free ns next cs = (tt, on rest (base + 1) dec free ns next (without x.name cs))
  step n on (b.Halt at None) base dec free ns next cs = (tt, tt)
  step n on (b.Halt at (Some x)) base dec free ns next cs = (tt, tt)
  step n on (b.Hcase at x rows) base dec free ns next cs = (tt, hcase-ahead (body_made w n) on rows (base + 1) dec free ns next cs)
  step n on (b.Fork at x y first z second) base dec free ns next cs =
      let cl = (y.name, next) ∷ those (λ c. is_free c first) (without x.name cs) in
      let l = body_made w n first (base + 1) dec free ns (suc (suc next)) cl in
      let to = base + 1 + length l.code in
      let cr = (z.name, suc next) ∷ those (λ c. not (is_free c first)) (without x.name cs) in
      (tt, ahead_append l.code (body_made w n second to (dec + length l.decisions) free ns (suc (suc next)) cr).code (base + 1) (on first (base + 1) dec free ns (suc (suc next)) cl) (on second to (dec + length l.decisions) free ns (suc (suc next)) cr))
  step n on (b.Plug at links parts) base dec free ns next cs = peels-ahead (body_made w n) on (last_first links parts) links base dec free ns next cs
  step n on (b.Race at rows) base dec free ns next cs = (tt, race-ahead (body_made w n) on rows (base + 1) dec free ns next cs)
  step n on (b.Case at a rows) base dec free ns next cs =
      let z = code_of w false a base dec free ns in
      let m = dec + cases_in a in
      after-one z _ (case_made (body_made w n) rows (base + length z + 1) (m + 1) free ns next cs).code base (code_ahead w a false base dec free ns) tt (case-ahead (body_made w n) on rows (base + length z + 1) (m + 1) free ns next cs)
  step n on (b.Identity at x negated y) base dec free ns next cs = (link-ahead negated base _ _, tt)
  step n on (b.Call at x args inputs outputs) base dec free ns next cs = ahead_append (code_of_all w args base dec free ns) _ base (all_ahead w args base dec free ns) (tt, tt)

  body-ahead : (n : ℕ) → Onward (body_made w n)
  body-ahead zero = λ body base dec free ns next cs. tt
  body-ahead (suc n) = step n (body-ahead n)

  processes-ahead : (n : ℕ) (ds : List ProcessDecl) (dec g : ℕ) (c : Block) → slice_get (process_blocks w n ds dec) g ≡ Some c → AllAhead 0 c.code
  processes-ahead n [] dec g c at = absurd (cc at)
  processes-ahead n (d ∷ ds) dec zero c at =
      let same : process_block w n d dec ≡ c = cc at in
      subst (λ (c : Block). AllAhead 0 c.code) same (body-ahead n d.row.body 0 dec (length d.row.variables) _ (length d.row.inputs + length d.row.outputs) _)
  processes-ahead n (d ∷ ds) dec (suc g) c at = processes-ahead n ds (dec + length (process_made w n d dec).decisions) g c at

  append-ahead : (xs ys : List Block) → ((g : ℕ) (c : Block) → slice_get xs g ≡ Some c → AllAhead 0 c.code) → ((g : ℕ) (c : Block) → slice_get ys g ≡ Some c → AllAhead 0 c.code) → (g : ℕ) (c : Block) → slice_get (xs ++ ys) g ≡ Some c → AllAhead 0 c.code
  append-ahead [] ys h k g c at = k g c at
  append-ahead (x ∷ xs) ys h k zero c at = h 0 c at
  append-ahead (x ∷ xs) ys h k (suc g) c at = append-ahead xs ys (λ g c. h (suc g) c) k g c at

  pub source-ahead : (n : ℕ) → IsForward (code_within w n)
  source-ahead n =
      append-ahead (function_blocks w (functions_of w) 0) (process_blocks w n (processes_of w) (length (decisions_of_functions w (functions_of w))))
      (λ g c. functions_ahead w (functions_of w) 0 g c) (processes-ahead n (processes_of w) (length (decisions_of_functions w (functions_of w))))
