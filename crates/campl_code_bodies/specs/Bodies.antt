-- Which code stands for a process's body and for a source.
use Rattle.std.specs.Prelude.{◌≡◌, ◌≢◌, ℕ, suc, ◌+◌, Bool, true, false, not, List, [], ◌∷◌, ◌++◌, Option, Some, None, if◌then◌else◌, slice_get, length}
use Rattle.campl_tree.specs.declared.place.Place.{Place}
use Rattle.campl_tree.specs.declared.place.Ident.{Ident}
use Rattle.campl_tree.specs.declared.process.Binder.{Binder}
use Rattle.campl_tree.specs.declared.process.Binder.TheVariants as binder
use Rattle.campl_tree.specs.Plain.Expr as e
use Rattle.campl_tree.specs.Plain.Expr.{Expr, Exprs}
use Rattle.campl_tree.specs.Plain.Pattern.{Pattern}
use Rattle.campl_tree.specs.Plain.Process as b
use Rattle.campl_tree.specs.Plain.Process.{Action, Body, HcaseRows, Branches, CaseRows, Parts, Link, Header}
use Rattle.campl_tree.specs.Plain.Decl.{ProcessDecl, Data, Protocol, Coprotocol, Function, Process}
use Rattle.campl_types.specs.Names.{Name, same_name, found}
use Rattle.campl_types.specs.World.{World, process_named}
use Rattle.campl_types.specs.Matching.{number_of}
use Rattle.campl_types.specs.Patterns.{bound_in}
use Rattle.campl_types.specs.Free.{is_free}
use Rattle.campl_types.specs.Linear.{body_rows}
use Rattle.campl_peel.specs.Numbered.{last_first}
use Rattle.campl_peel.specs.Plugging.{stands_in, side_in, links_to, without_link}
use Rattle.campl_peel.specs.Terms.{Term, Doing, Plugging, those}
use Rattle.campl_types.specs.Matching.{row_picked}
use Rattle.campl_code.specs.Decisions.{Decision, StandsForRows}
use Rattle.campl_code.specs.Instructions.{Instr, Block, Code}
use Rattle.campl_code.specs.Instructions as i
use Rattle.campl_code.specs.Numbers.{Numbers, numbered, Spares}
use Rattle.campl_code.specs.Stands.{count, all_stand, FunctionsStand}

-- the channels that are held, with their numbers, as the ends stand under their names
abbrev pub Channels : Type 0
Channels = List (Name × ℕ)

abbrev pub without : {E : Type 0} → Name → List (Name × E) → List (Name × E)
without x [] = []
without x (c ∷ cs) = if same_name x c.0 then without x cs else c ∷ without x cs

-- no channel has this number
abbrev pub IsSpare : ℕ → Channels → Type 0
IsSpare n [] = Unit {0}
IsSpare n (c ∷ cs) = (n ≢ c.1) × IsSpare n cs

abbrev pub only : Expr → Exprs
only a = e.expr_then a e.no_exprs

-- these channels are held, and have these numbers
abbrev pub are_numbered : List Ident → Channels → List ℕ → Type 0
are_numbered [] cs ns = ns ≡ []
are_numbered (x ∷ xs) cs ns = (n : ℕ) × (more : List ℕ) × (ns ≡ n ∷ more) × (found x.name cs ≡ Some n) × are_numbered xs cs more

-- a variable that a binder binds has the number, which is no other's
abbrev pub binds : Binder → ℕ → Numbers → Numbers
binds (binder.Variable at x) n ns = (x, n) ∷ ns
binds (binder.Wildcard at) n ns = ns

abbrev pub receives_at : Option Instr → Option ℕ
receives_at (Some (i.Get e v)) = Some e
receives_at (Some (i.Offer e rows)) = Some e
receives_at (Some (i.Split e a b)) = Some e
receives_at x = None

-- processes of a world, in order
abbrev pub processes_of : World → List ProcessDecl
processes_of [] = []
processes_of (Process p ∷ ds) = p ∷ processes_of ds
processes_of (Function f ∷ ds) = processes_of ds
processes_of (Data d ∷ ds) = processes_of ds
processes_of (Protocol d ∷ ds) = processes_of ds
processes_of (Coprotocol d ∷ ds) = processes_of ds

-- the process of this name has this number, and takes so many arguments, inputs and outputs
pub record IsCalled (w : World) (x : Name) (g n ins outs : ℕ) : Type 0 where
  pub process : ProcessDecl
  pub named : process_named w x ≡ Some process
  pub numbered : slice_get (processes_of w) g ≡ Some process
  pub arguments : length process.row.variables ≡ n
  pub inputs : length process.row.inputs ≡ ins
  pub outputs : length process.row.outputs ≡ outs

-- more than one part
abbrev pub has_two : Parts → Bool
has_two b.no_parts = false
has_two (b.part_then h body b.no_parts) = false
has_two (b.part_then h body (b.part_then g c parts)) = true

mutual
  -- from this place the code does what the body says, where variables and channels have these numbers
  pub data StandsBody (w : World) (all : Code) (code : List Instr) : ℕ → Body → Numbers → Channels → Type 0 where
    put : (p q : ℕ) (at : Place) (a : Expr) (x : Ident) (rest : Body) (ns : Numbers) (cs : Channels) (n : ℕ)
        → all_stand w all code p (only a) ns q → found x.name cs ≡ Some n → slice_get code q ≡ Some (i.Put n) → StandsBody w all code (q + 1) rest ns cs
        → StandsBody w all code p (b.Then (b.Put at a x) rest) ns cs
    get : (p q : ℕ) (at : Place) (v : Binder) (x : Ident) (rest : Body) (ns : Numbers) (cs : Channels) (n m : ℕ)
        → all_stand w all code p e.no_exprs ns q → found x.name cs ≡ Some n → slice_get code q ≡ Some (i.Get n m) → Spares m 1 ns → StandsBody w all code (q + 1) rest (binds v m ns) cs
        → StandsBody w all code p (b.Then (b.Get at v x) rest) ns cs
    hput : (p q : ℕ) (at : Place) (k x : Ident) (rest : Body) (ns : Numbers) (cs : Channels) (n m : ℕ)
        → all_stand w all code p e.no_exprs ns q → found x.name cs ≡ Some n → number_of w k.name ≡ Some m → slice_get code q ≡ Some (i.Pick n m) → StandsBody w all code (q + 1) rest ns cs
        → StandsBody w all code p (b.Then (b.Hput at k x) rest) ns cs
    split : (p q : ℕ) (at : Place) (x y z : Ident) (rest : Body) (ns : Numbers) (cs : Channels) (n l r : ℕ)
        → all_stand w all code p e.no_exprs ns q → found x.name cs ≡ Some n → slice_get code q ≡ Some (i.Split n l r) → l ≢ r → IsSpare l (without x.name cs) → IsSpare r (without x.name cs)
        → StandsBody w all code (q + 1) rest ns ((z.name, r) ∷ (y.name, l) ∷ without x.name cs)
        → StandsBody w all code p (b.Then (b.Split at x y z) rest) ns cs
    close : (p q : ℕ) (at : Place) (x : Ident) (rest : Body) (ns : Numbers) (cs : Channels) (n : ℕ)
        → all_stand w all code p e.no_exprs ns q → found x.name cs ≡ Some n → slice_get code q ≡ Some (i.Close n) → StandsBody w all code (q + 1) rest ns (without x.name cs)
        → StandsBody w all code p (b.Then (b.Close at x) rest) ns cs
    halt : (p q : ℕ) (at : Place) (ns : Numbers) (cs : Channels)
        → all_stand w all code p e.no_exprs ns q → slice_get code q ≡ Some (i.Halt None)
        → StandsBody w all code p (b.Halt at None) ns cs
    halt_at : (p q : ℕ) (at : Place) (x : Ident) (ns : Numbers) (cs : Channels) (n : ℕ)
        → all_stand w all code p e.no_exprs ns q → found x.name cs ≡ Some n → slice_get code q ≡ Some (i.Halt (Some n))
        → StandsBody w all code p (b.Halt at (Some x)) ns cs
    hcase : (p q : ℕ) (at : Place) (x : Ident) (rows : HcaseRows) (ns : Numbers) (cs : Channels) (n : ℕ) (targets : List ℕ)
        → all_stand w all code p e.no_exprs ns q → found x.name cs ≡ Some n → slice_get code q ≡ Some (i.Offer n targets)
        → ((m : ℕ) → row_picked w m rows ≡ None → slice_get targets m ≡ None) → StandsHcase w all code targets rows ns cs
        → StandsBody w all code p (b.Hcase at x rows) ns cs
    fork : (p q : ℕ) (at : Place) (x y : Ident) (left : Body) (z : Ident) (right : Body) (ns : Numbers) (cs : Channels) (n l r to : ℕ)
        → all_stand w all code p e.no_exprs ns q → found x.name cs ≡ Some n → slice_get code q ≡ Some (i.Fork n l r to)
        → IsSpare l (those (λ c. is_free c left) (without x.name cs)) → IsSpare r (those (λ c. not (is_free c left)) (without x.name cs))
        → StandsBody w all code (q + 1) left ns ((y.name, l) ∷ those (λ c. is_free c left) (without x.name cs))
        → StandsBody w all code to right ns ((z.name, r) ∷ those (λ c. not (is_free c left)) (without x.name cs))
        → StandsBody w all code p (b.Fork at x y left z right) ns cs
    plug : (p : ℕ) (at : Place) (links : List Link) (parts : Parts) (ns : Numbers) (cs : Channels)
        → has_two (last_first links parts) ≡ true → StandsPeels w all code p links (last_first links parts) ns cs
        → StandsBody w all code p (b.Plug at links parts) ns cs
    race : (p q : ℕ) (at : Place) (rows : Branches) (ns : Numbers) (cs : Channels) (targets : List ℕ)
        → all_stand w all code p e.no_exprs ns q → slice_get code q ≡ Some (i.Race targets) → StandsRace w all code targets rows ns cs
        → StandsBody w all code p (b.Race at rows) ns cs
    case : (p q : ℕ) (at : Place) (a : Expr) (rows : CaseRows) (ns : Numbers) (cs : Channels) (m base : ℕ) (d : Decision) (targets : List ℕ)
        → all_stand w all code p (only a) ns q → slice_get code q ≡ Some (i.Case m base targets) → slice_get all.decisions m ≡ Some d → StandsForRows w d (body_rows rows) 1
        → StandsCases w all code targets rows base ns cs
        → StandsBody w all code p (b.Case at a rows) ns cs
    link : (p q : ℕ) (at : Place) (x : Name) (y : Ident) (ns : Numbers) (cs : Channels) (n m : ℕ)
        → all_stand w all code p e.no_exprs ns q → found x cs ≡ Some n → found y.name cs ≡ Some m → slice_get code q ≡ Some (i.Link n m)
        → StandsBody w all code p (b.Identity at x false y) ns cs
    link_neg : (p q : ℕ) (at : Place) (x : Name) (y : Ident) (ns : Numbers) (cs : Channels) (n m : ℕ)
        → all_stand w all code p e.no_exprs ns q → found x cs ≡ Some n → found y.name cs ≡ Some m → slice_get code q ≡ Some (i.LinkNeg n m)
        → StandsBody w all code p (b.Identity at x true y) ns cs
    go : (p q : ℕ) (at : Place) (x : Name) (args : Exprs) (inputs outputs : List Ident) (ns : Numbers) (cs : Channels) (g : ℕ) (ins outs : List ℕ)
        → all_stand w all code p args ns q → IsCalled w x g (count args) (length inputs) (length outputs) → are_numbered inputs cs ins → are_numbered outputs cs outs → slice_get code q ≡ Some (i.Go g (ins ++ outs))
        → StandsBody w all code p (b.Call at x args inputs outputs) ns cs

  -- the c-th target stands for the body of the row with constructor c
  pub data StandsHcase (w : World) (all : Code) (code : List Instr) : List ℕ → HcaseRows → Numbers → Channels → Type 0 where
    no_rows : (targets : List ℕ) (ns : Numbers) (cs : Channels) → StandsHcase w all code targets b.no_hcase_rows ns cs
    row : (targets : List ℕ) (k : Ident) (body : Body) (rows : HcaseRows) (ns : Numbers) (cs : Channels) (m to : ℕ)
        → number_of w k.name ≡ Some m → slice_get targets m ≡ Some to → StandsBody w all code to body ns cs → StandsHcase w all code targets rows ns cs
        → StandsHcase w all code targets (b.hcase_row_then k body rows) ns cs

  -- each branch's place is a receipt on its channel
  pub data StandsRace (w : World) (all : Code) (code : List Instr) : List ℕ → Branches → Numbers → Channels → Type 0 where
    no_branches : (ns : Numbers) (cs : Channels) → StandsRace w all code [] b.no_branches ns cs
    branch : (to : ℕ) (targets : List ℕ) (x : Ident) (body : Body) (rows : Branches) (ns : Numbers) (cs : Channels) (n : ℕ)
        → found x.name cs ≡ Some n → receives_at (slice_get code to) ≡ Some n → StandsBody w all code to body ns cs → StandsRace w all code targets rows ns cs
        → StandsRace w all code (to ∷ targets) (b.branch_then x body rows) ns cs

  -- each row's place
  pub data StandsCases (w : World) (all : Code) (code : List Instr) : List ℕ → CaseRows → ℕ → Numbers → Channels → Type 0 where
    no_cases : (base : ℕ) (ns : Numbers) (cs : Channels) → StandsCases w all code [] b.no_case_rows base ns cs
    case_row : (to : ℕ) (targets : List ℕ) (q : Pattern) (body : Body) (rows : CaseRows) (base : ℕ) (ns : Numbers) (cs : Channels)
        → Spares base (length (bound_in q)) ns → StandsBody w all code to body (numbered base (bound_in q) ns) cs → StandsCases w all code targets rows base ns cs
        → StandsCases w all code (to ∷ targets) (b.case_row_then q body rows) base ns cs

  -- one `peel` for each part but the first, which is the last of these
  pub data StandsPeels (w : World) (all : Code) (code : List Instr) : ℕ → List Link → Parts → Numbers → Channels → Type 0 where
    last : (p : ℕ) (links : List Link) (h : Header) (body : Body) (ns : Numbers) (cs : Channels)
        → StandsBody w all code p body ns cs
        → StandsPeels w all code p links (b.part_then h body b.no_parts) ns cs
    peel : (p q : ℕ) (links : List Link) (h g : Header) (body c : Body) (parts : Parts) (ns : Numbers) (cs : Channels) (l : Link) (more : List Link) (n to : ℕ)
        → all_stand w all code p e.no_exprs ns q → links_to (b.part_then g c parts) h links ≡ l ∷ more → slice_get code q ≡ Some (i.Peel n (side_in h l.name.name) to)
        → IsSpare n (those (stands_in h) cs) → IsSpare n (those (λ x. not (stands_in h x)) cs)
        → StandsBody w all code to body ns ((l.name.name, n) ∷ those (stands_in h) cs)
        → StandsPeels w all code (q + 1) (without_link l.name.name links) (b.part_then g c parts) ns ((l.name.name, n) ∷ those (λ x. not (stands_in h x)) cs)
        → StandsPeels w all code p links (b.part_then h body (b.part_then g c parts)) ns cs

-- a term, also a plug of which parts were peeled
abbrev pub StandsTerm : World → Code → List Instr → ℕ → Term → Numbers → Channels → Type 0
StandsTerm w all code p (Doing body) ns cs = StandsBody w all code p body ns cs
StandsTerm w all code p (Plugging links parts) ns cs = (has_two parts ≡ true) × StandsPeels w all code p links parts ns cs

-- Processes

-- the parameters have the first numbers; the newest stands first
abbrev pub parameter_numbers : ℕ → List Binder → Numbers
parameter_numbers n [] = []
parameter_numbers n (x ∷ xs) = parameter_numbers (suc n) xs ++ binds x n []

-- the channels have the first numbers, in order
abbrev pub channel_numbers : ℕ → List Ident → Channels
channel_numbers n [] = []
channel_numbers n (x ∷ xs) = (x.name, n) ∷ channel_numbers (suc n) xs

pub record StandsForProcess (w : World) (all : Code) (d : ProcessDecl) (c : Block) : Type 0 where
  pub name : c.name ≡ d.name.name
  pub variables : c.variables ≡ length d.row.variables
  pub inputs : c.inputs ≡ length d.row.inputs
  pub outputs : c.outputs ≡ length d.row.outputs
  pub body : StandsBody w all c.code 0 d.row.body (parameter_numbers 0 d.row.variables)
      (channel_numbers 0 d.row.inputs ++ channel_numbers (length d.row.inputs) d.row.outputs)

-- the processes' blocks are those of the processes, in source order
abbrev pub ProcessesStand : World → Code → Type 0
ProcessesStand w all = (g : ℕ) (d : ProcessDecl) → slice_get (processes_of w) g ≡ Some d → (c : Block) × (slice_get all.processes g ≡ Some c) × StandsForProcess w all d c

-- code for a source
pub record StandsFor (w : World) (all : Code) : Type 0 where
  pub functions : FunctionsStand w all
  pub processes : ProcessesStand w all
