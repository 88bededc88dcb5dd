-- The code that is generated for processes, as a function. A plug's parts are laid out in the order of their peels, which
-- isn't the order in the tree: so the recursion is on a number that is at least the body's size.
use Rattle.std.specs.Prelude.{ℕ, zero, suc, ◌+◌, Bool, true, false, not, max, List, [], ◌∷◌, ◌++◌, Option, Some, None, if◌then◌else◌, length, option_map}
use Rattle.campl_tree.specs.declared.place.Ident.{Ident}
use Rattle.campl_tree.specs.Plain.Process as b
use Rattle.campl_tree.specs.Plain.Process.{Body, HcaseRows, Branches, CaseRows, Parts, Link, Header}
use Rattle.campl_tree.specs.Plain.Decl.{Data, Protocol, Coprotocol, Function, Process}
use Rattle.campl_types.specs.Names.{Name, same_name, found}
use Rattle.campl_types.specs.World.{World}
use Rattle.campl_types.specs.Matching.{number_of, is_number}
use Rattle.campl_types.specs.Patterns.{bound_in}
use Rattle.campl_types.specs.Free.{is_free}
use Rattle.campl_types.specs.Linear.{body_rows}
use Rattle.campl_peel.specs.Numbered.{last_first}
use Rattle.campl_peel.specs.Plugging.{stands_in, side_in, links_to, without_link}
use Rattle.campl_peel.specs.Terms.{those}
use Rattle.campl_code.specs.Decisions.{Decision}
use Rattle.campl_code.specs.Instructions.{Instr, Block, Code}
use Rattle.campl_code.specs.Instructions as i
use Rattle.campl_code.specs.Numbers.{Numbers, numbered}
use Rattle.campl_code.specs.Compiled.{decision_for}
use Rattle.campl_code.specs.Generated.{or_zero, code_of, code_of_all}
use Rattle.campl_code.specs.CaseDecisions.{cases_in, decisions_of, decisions_of_all}
use Rattle.campl_code_bodies.specs.Bodies.{Channels, without, binds}

pub record Made : Type 0 where
  pub code : List Instr
  pub decisions : List Decision

abbrev pub prefixed : List Instr → List Decision → Made → Made
prefixed is ds m = record { code = is ++ m.code; decisions = ds ++ m.decisions }

abbrev pub alone : List Instr → List Decision → Made
alone is ds = record { code = is; decisions = ds }

abbrev pub number : Name → Channels → ℕ
number x cs = or_zero (found x cs)

abbrev pub all_numbers : List Ident → Channels → List ℕ
all_numbers [] cs = []
all_numbers (x ∷ xs) cs = number x.name cs ∷ all_numbers xs cs

-- a process's place among the processes
abbrev pub process_number : World → Name → Option ℕ
process_number [] x = None
process_number (Process p ∷ ds) x = if same_name x p.name.name then Some 0 else option_map suc (process_number ds x)
process_number (Function f ∷ ds) x = process_number ds x
process_number (Data d ∷ ds) x = process_number ds x
process_number (Protocol d ∷ ds) x = process_number ds x
process_number (Coprotocol d ∷ ds) x = process_number ds x

-- a body from this place on, with these numbers of the next decision, the next variable and the next channel
abbrev pub Maker : Type 0
Maker = Body → (base dec free : ℕ) → Numbers → (next : ℕ) → Channels → Made

-- Rows: the bodies one behind another, and where they begin

abbrev pub joined : Made → Made → Made
joined m n = record { code = m.code ++ n.code; decisions = m.decisions ++ n.decisions }

abbrev pub hcase_made : Maker → HcaseRows → (base dec free : ℕ) → Numbers → (next : ℕ) → Channels → Made
hcase_made make b.no_hcase_rows base dec free ns next cs = alone [] []
hcase_made make (b.hcase_row_then k body rows) base dec free ns next cs =
    let m = make body base dec free ns next cs in joined m (hcase_made make rows (base + length m.code) (dec + length m.decisions) free ns next cs)

abbrev pub hcase_starts : Maker → HcaseRows → (base dec free : ℕ) → Numbers → (next : ℕ) → Channels → List (Name × ℕ)
hcase_starts make b.no_hcase_rows base dec free ns next cs = []
hcase_starts make (b.hcase_row_then k body rows) base dec free ns next cs =
    let m = make body base dec free ns next cs in (k.name, base) ∷ hcase_starts make rows (base + length m.code) (dec + length m.decisions) free ns next cs

-- the place of the first row whose constructor has this number
abbrev pub start_of : World → List (Name × ℕ) → ℕ → ℕ
start_of w [] n = 0
start_of w (s ∷ starts) n = if is_number (number_of w s.0) n then s.1 else start_of w starts n

-- f of each number from n on
abbrev pub listed : (ℕ → ℕ) → ℕ → ℕ → List ℕ
listed f n zero = []
listed f n (suc more) = f n ∷ listed f (suc n) more

-- one more than the greatest number of a row's constructor
abbrev pub count_hcase : World → HcaseRows → ℕ
count_hcase w b.no_hcase_rows = 0
count_hcase w (b.hcase_row_then k body rows) = max (suc (or_zero (number_of w k.name))) (count_hcase w rows)

abbrev pub race_made : Maker → Branches → (base dec free : ℕ) → Numbers → (next : ℕ) → Channels → Made
race_made make b.no_branches base dec free ns next cs = alone [] []
race_made make (b.branch_then x body rows) base dec free ns next cs =
    let m = make body base dec free ns next cs in joined m (race_made make rows (base + length m.code) (dec + length m.decisions) free ns next cs)

abbrev pub race_starts : Maker → Branches → (base dec free : ℕ) → Numbers → (next : ℕ) → Channels → List ℕ
race_starts make b.no_branches base dec free ns next cs = []
race_starts make (b.branch_then x body rows) base dec free ns next cs =
    let m = make body base dec free ns next cs in base ∷ race_starts make rows (base + length m.code) (dec + length m.decisions) free ns next cs

abbrev pub case_made : Maker → CaseRows → (base dec free : ℕ) → Numbers → (next : ℕ) → Channels → Made
case_made make b.no_case_rows base dec free ns next cs = alone [] []
case_made make (b.case_row_then q body rows) base dec free ns next cs =
    let m = make body base dec (free + length (bound_in q)) (numbered free (bound_in q) ns) next cs in
    joined m (case_made make rows (base + length m.code) (dec + length m.decisions) free ns next cs)

abbrev pub case_starts : Maker → CaseRows → (base dec free : ℕ) → Numbers → (next : ℕ) → Channels → List ℕ
case_starts make b.no_case_rows base dec free ns next cs = []
case_starts make (b.case_row_then q body rows) base dec free ns next cs =
    let m = make body base dec (free + length (bound_in q)) (numbered free (bound_in q) ns) next cs in
    base ∷ case_starts make rows (base + length m.code) (dec + length m.decisions) free ns next cs

-- Plugs: the peel, the rest, and then the child

abbrev pub link_name : List Link → Name
link_name [] = []
link_name (l ∷ links) = l.name.name

abbrev pub peels_made : Maker → List Link → Parts → (base dec free : ℕ) → Numbers → (next : ℕ) → Channels → Made
peels_made make links b.no_parts base dec free ns next cs = alone [] []
peels_made make links (b.part_then h body b.no_parts) base dec free ns next cs = make body base dec free ns next cs
peels_made make links (b.part_then h body (b.part_then g c parts)) base dec free ns next cs =
    let l = link_name (links_to (b.part_then g c parts) h links) in
    let rest = peels_made make (without_link l links) (b.part_then g c parts) (base + 1) dec free ns (suc next) ((l, next) ∷ those (λ x. not (stands_in h x)) cs) in
    let to = base + 1 + length rest.code in
    let child = make body to (dec + length rest.decisions) free ns (suc next) ((l, next) ∷ those (stands_in h) cs) in
    record { code = i.Peel next (side_in h l) to ∷ (rest.code ++ child.code); decisions = rest.decisions ++ child.decisions }

-- One command

abbrev pub link_code : Bool → ℕ → ℕ → Instr
link_code false n m = i.Link n m
link_code true n m = i.LinkNeg n m

abbrev pub command_made : World → Maker → Maker
command_made w make (b.Then (b.Put at a x) rest) base dec free ns next cs =
    let z = code_of w false a base dec free ns in
    prefixed (z ++ i.Put (number x.name cs) ∷ []) (decisions_of w a) (make rest (base + length z + 1) (dec + cases_in a) free ns next cs)
command_made w make (b.Then (b.Get at v x) rest) base dec free ns next cs =
    prefixed (i.Get (number x.name cs) free ∷ []) [] (make rest (base + 1) dec (suc free) (binds v free ns) next cs)
command_made w make (b.Then (b.Hput at k x) rest) base dec free ns next cs =
    prefixed (i.Pick (number x.name cs) (or_zero (number_of w k.name)) ∷ []) [] (make rest (base + 1) dec free ns next cs)
command_made w make (b.Then (b.Split at x y z) rest) base dec free ns next cs =
    prefixed (i.Split (number x.name cs) next (suc next) ∷ []) [] (make rest (base + 1) dec free ns (suc (suc next)) ((z.name, suc next) ∷ (y.name, next) ∷ without x.name cs))
command_made w make (b.Then (b.Close at x) rest) base dec free ns next cs =
    prefixed (i.Close (number x.name cs) ∷ []) [] (make rest (base + 1) dec free ns next (without x.name cs))
command_made w make (b.Halt at None) base dec free ns next cs = alone (i.Halt None ∷ []) []
command_made w make (b.Halt at (Some x)) base dec free ns next cs = alone (i.Halt (Some (number x.name cs)) ∷ []) []
command_made w make (b.Hcase at x rows) base dec free ns next cs =
    prefixed (i.Offer (number x.name cs) (listed (start_of w (hcase_starts make rows (base + 1) dec free ns next cs)) 0 (count_hcase w rows)) ∷ []) []
    (hcase_made make rows (base + 1) dec free ns next cs)
command_made w make (b.Fork at x y left z right) base dec free ns next cs =
    let l = make left (base + 1) dec free ns (suc (suc next)) ((y.name, next) ∷ those (λ c. is_free c left) (without x.name cs)) in
    let to = base + 1 + length l.code in
    let r = make right to (dec + length l.decisions) free ns (suc (suc next)) ((z.name, suc next) ∷ those (λ c. not (is_free c left)) (without x.name cs)) in
    record { code = i.Fork (number x.name cs) next (suc next) to ∷ (l.code ++ r.code); decisions = l.decisions ++ r.decisions }
command_made w make (b.Plug at links parts) base dec free ns next cs = peels_made make links (last_first links parts) base dec free ns next cs
command_made w make (b.Race at rows) base dec free ns next cs =
    prefixed (i.Race (race_starts make rows (base + 1) dec free ns next cs) ∷ []) [] (race_made make rows (base + 1) dec free ns next cs)
command_made w make (b.Case at a rows) base dec free ns next cs =
    let z = code_of w false a base dec free ns in
    let m = dec + cases_in a in
    let q = base + length z + 1 in
    prefixed (z ++ i.Case m free (case_starts make rows q (m + 1) free ns next cs) ∷ []) (decisions_of w a ++ decision_for w 1 (body_rows rows) ∷ [])
    (case_made make rows q (m + 1) free ns next cs)
command_made w make (b.Identity at x negated y) base dec free ns next cs = alone (link_code negated (number x cs) (number y.name cs) ∷ []) []
command_made w make (b.Call at x args inputs outputs) base dec free ns next cs =
    alone (code_of_all w args base dec free ns ++ i.Go (or_zero (process_number w x)) (all_numbers inputs cs ++ all_numbers outputs cs) ∷ []) (decisions_of_all w args)

abbrev pub body_made : World → ℕ → Maker
body_made w zero = λ body base dec free ns next cs. alone [] []
body_made w (suc n) = command_made w (body_made w n)
