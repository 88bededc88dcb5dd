-- Linear typing: a body is well formed under variables, holding exactly these channels. Each command
-- wants its channel at the entry of the polarity table that is its own, and leaves what remains. A body
-- ends holding nothing. At `fork` the channels may be divided in any way that makes both bodies well
-- formed; at `plug` the headers tell how.
use Rattle.std.specs.Prelude.{◌≡◌, ℕ, ◌≤◌, Bool, true, false, not, IsTrue, List, [], ◌∷◌, ◌++◌, Some, None, length}
use Rattle.campl_tree.specs.declared.place.Ident.{Ident}
use Rattle.campl_tree.specs.declared.process.Binder.{Binder}
use Rattle.campl_tree.specs.declared.process.Binder.TheVariants as binder
use Rattle.campl_tree.specs.declared.service.Side.{Side}
use Rattle.campl_tree.specs.declared.service.Side.TheVariants.{Input, Output}
use Rattle.campl_tree.specs.Side.{opposite}
use Rattle.campl_tree.specs.Plain.SeqType.{SeqType}
use Rattle.campl_tree.specs.Plain.ChanType.{ChanType, Neg}
use Rattle.campl_tree.specs.Plain.Process as b
use Rattle.campl_tree.specs.Plain.Process.{Body, Action, HcaseRows, CaseRows, Branches, Parts}
use Rattle.campl_tree.specs.Plain.Decl.{ProcessDecl, Decl, Data, Protocol, Coprotocol, Function, Process}
use Rattle.campl_types.specs.Names.{Name, same_name, all_among, are_distinct, found}
use Rattle.campl_types.specs.SameType.{IsSameChan}
use Rattle.campl_types.specs.World.{World, names_of, process_named}
use Rattle.campl_types.specs.Polarity.{Puts, Gets, Forks, Splits, Picks, Offers, Ends, Choices, deed}
use Rattle.campl_types.specs.Patterns.{bound_in, bound_by_all}
use Rattle.campl_types.specs.Forms.{form_of}
use Rattle.campl_types.specs.Fits.{Vars, fits}
use Rattle.campl_types.specs.Missing.{Row}
use Rattle.campl_types.specs.Sequential.{HasType, Found, Checked, PartsHaveTypes, AreExhaustive}
use Rattle.campl_types.specs.Held.{On, Held, nothing_held, with, without, only, HoldsOnly, HasNoVariables}
use Rattle.campl_types.specs.Headers.{Links, links_in, link_names, Divide, share, count}

-- a plug has 2 to 64 parts, and a race 2 to 16 branches
abbrev pub most_parts : ℕ
most_parts = 64

abbrev pub most_branches : ℕ
most_branches = 16

abbrev pub between : (least n most : ℕ) → Type 0
between least n most = (least ≤ n) × (n ≤ most)

-- what a binder adds to the variables
abbrev pub bound : Binder → SeqType → Vars → Vars
bound (binder.Variable at x) t vs = (x, t) ∷ vs
bound (binder.Wildcard at) t vs = vs

-- the names that two new channels take, where x is given up: different, and neither held
abbrev pub AreNew : Name → Name → Name → Held → Type 0
AreNew x y z held = (without x held y ≡ None) × (without x held z ≡ None) × (same_name y z ≡ false)

-- Rows

abbrev pub choice_names : Choices → List Name
choice_names [] = []
choice_names (c ∷ cs) = c.0 ∷ choice_names cs

abbrev pub row_names : HcaseRows → List Name
row_names b.no_hcase_rows = []
row_names (b.hcase_row_then k body rows) = k.name ∷ row_names rows

-- whether there is a row
abbrev pub has_row : HcaseRows → Bool
has_row b.no_hcase_rows = false
has_row (b.hcase_row_then k body rows) = true

-- each constructor has one row
abbrev pub HasEachOnce : HcaseRows → Choices → Type 0
HasEachOnce rows cs = IsTrue (are_distinct (row_names rows)) × IsTrue (all_among (choice_names cs) (row_names rows))

abbrev pub body_rows : CaseRows → List Row
body_rows b.no_case_rows = []
body_rows (b.case_row_then p body rows) = (form_of p ∷ []) ∷ body_rows rows

abbrev pub branch_names : Branches → List Name
branch_names b.no_branches = []
branch_names (b.branch_then x body rows) = x.name ∷ branch_names rows

-- whether a body begins by receiving on the channel
abbrev pub receives_on : Name → Body → Bool
receives_on x (b.Then (b.Get at v channel) rest) = same_name x channel.name
receives_on x (b.Then (b.Split at channel y z) rest) = same_name x channel.name
receives_on x (b.Hcase at channel rows) = same_name x channel.name
receives_on x _ = false

-- Calls

-- the named channels are held on this side, with the types of the process's heading
abbrev pub AreHanded : Held → Side → List Ident → List ChanType → Type 0
AreHanded held side [] [] = Unit {0}
AreHanded held side (x ∷ xs) (t ∷ ts) = (u : ChanType) × (held x.name ≡ Some (On side u)) × IsSameChan u t × AreHanded held side xs ts
AreHanded held side _ _ = ⊥

-- Identity

-- of one type on opposite sides, or with `neg` of `Neg(T)` and T on one side
abbrev pub AreJoined : Bool → (s r : Side) → (t u : ChanType) → Type 0
AreJoined false s r t u = (r ≡ opposite s) × IsSameChan t u
AreJoined true s r t u = (r ≡ s) × IsSameChan t (Neg u)

-- a fork divides the other channels: its first body has those that are kept, and y; the second has the others, and z
abbrev pub IsDivided : (keep : Name → Bool) → World → Held → (x y z : Name) → (first second : Held → Type 0) → Type 0
IsDivided keep w held x y z first second =
    (s : Side) × (u : ChanType) × (t : ChanType) × (r : ChanType)
    × (held x ≡ Some (On s u)) × (deed w s u ≡ Forks t r) × AreNew x y z held
    × first (with y (Some (On s t)) (only keep (without x held)))
    × second (with z (Some (On s r)) (only (λ c. not (keep c)) (without x held)))

-- Bodies

abbrev mutual
  pub IsWellFormed : World → Vars → Held → Body → Type 0
  IsWellFormed w vs held (b.Then (b.Put at a x) rest) =
      (s : Side) × (u : ChanType) × (t : SeqType) × (y : ChanType)
      × (held x.name ≡ Some (On s u)) × (deed w s u ≡ Puts t y) × HasType Checked w vs a t
      × IsWellFormed w vs (with x.name (Some (On s y)) held) rest
  IsWellFormed w vs held (b.Then (b.Get at v x) rest) =
      (s : Side) × (u : ChanType) × (t : SeqType) × (y : ChanType)
      × (held x.name ≡ Some (On s u)) × (deed w s u ≡ Gets t y)
      × IsWellFormed w (bound v t vs) (with x.name (Some (On s y)) held) rest
  IsWellFormed w vs held (b.Then (b.Hput at k x) rest) =
      (s : Side) × (u : ChanType) × (cs : Choices) × (y : ChanType)
      × (held x.name ≡ Some (On s u)) × (deed w s u ≡ Picks cs) × (found k.name cs ≡ Some y)
      × IsWellFormed w vs (with x.name (Some (On s y)) held) rest
  IsWellFormed w vs held (b.Then (b.Split at x y z) rest) =
      (s : Side) × (u : ChanType) × (t : ChanType) × (r : ChanType)
      × (held x.name ≡ Some (On s u)) × (deed w s u ≡ Splits t r) × AreNew x.name y.name z.name held
      × IsWellFormed w vs (with z.name (Some (On s r)) (with y.name (Some (On s t)) (without x.name held))) rest
  IsWellFormed w vs held (b.Then (b.Close at x) rest) =
      (s : Side) × (u : ChanType) × (held x.name ≡ Some (On s u)) × (deed w s u ≡ Ends)
      × IsWellFormed w vs (without x.name held) rest
  IsWellFormed w vs held (b.Halt at None) = HoldsOnly [] held
  IsWellFormed w vs held (b.Halt at (Some x)) =
      (s : Side) × (u : ChanType) × (held x.name ≡ Some (On s u)) × (deed w s u ≡ Ends) × HoldsOnly (x.name ∷ []) held
  IsWellFormed w vs held (b.Hcase at x rows) =
      (s : Side) × (u : ChanType) × (cs : Choices)
      × (held x.name ≡ Some (On s u)) × (deed w s u ≡ Offers cs) × HasEachOnce rows cs × RowsAreWellFormed w vs held x.name s cs rows × IsTrue (has_row rows)
  IsWellFormed w vs held (b.Fork at x y left z right) =
      (keep : Name → Bool) × IsDivided keep w held x.name y.name z.name (λ h. IsWellFormed w vs h left) (λ h. IsWellFormed w vs h right)
  IsWellFormed w vs held (b.Plug at links parts) =
      between 2 (count parts) most_parts × IsTrue (are_distinct (link_names links)) × Divide (links_in links) held parts
      × PartsAreWellFormed w vs (links_in links) held parts
  IsWellFormed w vs held (b.Race at rows) =
      between 2 (length (branch_names rows)) most_branches × IsTrue (are_distinct (branch_names rows)) × BranchesAreWellFormed w vs held rows
  IsWellFormed w vs held (b.Case at a rows) =
      (t : SeqType) × HasType Found w vs a t × CasesAreWellFormed w vs held t rows × AreExhaustive w (body_rows rows) (t ∷ [])
  IsWellFormed w vs held (b.Identity at x negated y) =
      (s : Side) × (t : ChanType) × (r : Side) × (u : ChanType)
      × (held x ≡ Some (On s t)) × (held y.name ≡ Some (On r u)) × (same_name x y.name ≡ false)
      × AreJoined negated s r t u × HoldsOnly (x ∷ y.name ∷ []) held
  IsWellFormed w vs held (b.Call at x args inputs outputs) =
      (p : ProcessDecl) × (process_named w x ≡ Some p) × PartsHaveTypes w vs [] [] p.parameters args
      × AreHanded held Input inputs p.inputs × AreHanded held Output outputs p.outputs
      × IsTrue (are_distinct (names_of inputs ++ names_of outputs)) × HoldsOnly (names_of inputs ++ names_of outputs) held

  -- the rows of `hcase`, each with all that is held
  pub RowsAreWellFormed : World → Vars → Held → Name → Side → Choices → HcaseRows → Type 0
  RowsAreWellFormed w vs held x s cs b.no_hcase_rows = Unit {0}
  RowsAreWellFormed w vs held x s cs (b.hcase_row_then k body rows) =
      (y : ChanType) × (found k.name cs ≡ Some y) × IsWellFormed w vs (with x (Some (On s y)) held) body
      × RowsAreWellFormed w vs held x s cs rows

  -- the branches of `race`, each with all that is held; each begins by receiving on its channel
  pub BranchesAreWellFormed : World → Vars → Held → Branches → Type 0
  BranchesAreWellFormed w vs held b.no_branches = Unit {0}
  BranchesAreWellFormed w vs held (b.branch_then x body rows) =
      IsTrue (receives_on x.name body) × IsWellFormed w vs held body × BranchesAreWellFormed w vs held rows

  -- the rows of `case`, each with all that is held and the pattern's variables
  pub CasesAreWellFormed : World → Vars → Held → SeqType → CaseRows → Type 0
  CasesAreWellFormed w vs held t b.no_case_rows = Unit {0}
  CasesAreWellFormed w vs held t (b.case_row_then p body rows) =
      (xs : Vars) × (fits w p t ≡ Some xs) × IsTrue (are_distinct (bound_in p))
      × IsWellFormed w (xs ++ vs) held body × CasesAreWellFormed w vs held t rows

  -- the parts of a plug, each with its share
  pub PartsAreWellFormed : World → Vars → Links → Held → Parts → Type 0
  PartsAreWellFormed w vs links held b.no_parts = Unit {0}
  PartsAreWellFormed w vs links held (b.part_then header body parts) =
      IsWellFormed w vs (share links held header) body × PartsAreWellFormed w vs links held parts

-- a plug of these parts and links, however many there are
abbrev pub PlugIsWellFormed : World → Vars → Links → Held → Parts → Type 0
PlugIsWellFormed w vs links held parts = Divide links held parts × PartsAreWellFormed w vs links held parts

-- Processes

-- the variables of a row with the types of the heading, the newest first
abbrev pub row_variables : List Binder → List SeqType → Vars
row_variables [] ts = []
row_variables (v ∷ vs) [] = []
row_variables (v ∷ vs) (t ∷ ts) = row_variables vs ts ++ bound v t []

abbrev pub hold : Side → List Ident → List ChanType → Held → Held
hold side [] ts held = held
hold side (x ∷ xs) [] held = held
hold side (x ∷ xs) (t ∷ ts) held = with x.name (Some (On side t)) (hold side xs ts held)

-- the channels of a process, by the names of its row
abbrev pub row_channels : ProcessDecl → Held
row_channels p = hold Input p.row.inputs p.inputs (hold Output p.row.outputs p.outputs nothing_held)

abbrev pub ProcessIsTyped : World → ProcessDecl → Type 0
ProcessIsTyped w p =
    IsTrue (are_distinct (bound_by_all p.row.variables ++ names_of p.row.inputs ++ names_of p.row.outputs))
    × (length p.row.variables ≡ length p.parameters) × (length p.row.inputs ≡ length p.inputs) × (length p.row.outputs ≡ length p.outputs)
    × HasNoVariables (row_channels p) × IsWellFormed w (row_variables p.row.variables p.parameters) (row_channels p) p.row.body

abbrev DeclIsTyped : World → Decl → Type 0
DeclIsTyped w (Process p) = ProcessIsTyped w p
DeclIsTyped w (Data d) = Unit {0}
DeclIsTyped w (Protocol d) = Unit {0}
DeclIsTyped w (Coprotocol d) = Unit {0}
DeclIsTyped w (Function f) = Unit {0}

-- each process of these declarations is typed
abbrev pub ProcessesAreTyped : World → List Decl → Type 0
ProcessesAreTyped w [] = Unit {0}
ProcessesAreTyped w (d ∷ ds) = DeclIsTyped w d × ProcessesAreTyped w ds
