-- What holds of each function or process that is declared holds of the one that is found by a name.
use Rattle.std.proofs.Common.{◌≡◌, refl, subst, Bool, true, false, List, [], ◌∷◌, Option, Some, None}
use Rattle.campl_tree.specs.Plain.Decl.{Decl, Data, Protocol, Coprotocol, Function, Process, Program, FunctionDecl, ProcessDecl}
use Rattle.campl_types.specs.Names.{Name, same_name}
use Rattle.campl_types.specs.World.{World, world_of, or_else, where_named, declared_ident, LowerEntry, AFunction, AProcess, lower_entry, lower_named, function_named, process_named}
use Rattle.campl_types.specs.Sequential.{FunctionIsTyped, FunctionsAreTyped}
use Rattle.campl_types.specs.Linear.{ProcessIsTyped, ProcessesAreTyped}
use Rattle.campl_types.specs.Typed.{IsTyped}

abbrev pub OfMaybe : (LowerEntry → Type 0) → Option LowerEntry → Type 0
OfMaybe P None = Unit {0}
OfMaybe P (Some l) = P l

abbrev pub OfEach : (LowerEntry → Type 0) → List Decl → Type 0
OfEach P [] = Unit {0}
OfEach P (d ∷ ds) = OfMaybe P (lower_entry d) × OfEach P ds

pub of-named : (P : LowerEntry → Type 0) (ds : List Decl) (x : Name) → OfEach P ds → OfMaybe P (lower_named ds x)
of-named P [] x h = tt
of-named P (d ∷ ds) x (h, k) = go (same_name x (declared_ident d).name) (lower_entry d) h (of-named P ds x k)
  where
    go : (b : Bool) (o : Option LowerEntry) → OfMaybe P o → OfMaybe P (lower_named ds x) → OfMaybe P (or_else (where_named b o) (lower_named ds x))
    go true (Some l) i later = i
    go true None i later = later
    go false o i later = later

pub of-function : (P : LowerEntry → Type 0) (ds : List Decl) (x : Name) (f : FunctionDecl) → OfEach P ds → function_named ds x ≡ Some f → P (AFunction f)
of-function P ds x f h i = go (lower_named ds x) refl (of-named P ds x h)
  where
    go : (o : Option LowerEntry) → lower_named ds x ≡ o → OfMaybe P o → P (AFunction f)
    go (Some (AFunction g)) e k = let l : g ≡ f = cc (rw e at i) in subst (λ z. P (AFunction z)) l k
    go (Some (AProcess g)) e k = absurd (cc (rw e at i))
    go None e k = absurd (cc (rw e at i))

pub of-process : (P : LowerEntry → Type 0) (ds : List Decl) (x : Name) (p : ProcessDecl) → OfEach P ds → process_named ds x ≡ Some p → P (AProcess p)
of-process P ds x p h i = go (lower_named ds x) refl (of-named P ds x h)
  where
    go : (o : Option LowerEntry) → lower_named ds x ≡ o → OfMaybe P o → P (AProcess p)
    go (Some (AProcess g)) e k = let l : g ≡ p = cc (rw e at i) in subst (λ z. P (AProcess z)) l k
    go (Some (AFunction g)) e k = absurd (cc (rw e at i))
    go None e k = absurd (cc (rw e at i))

-- Typing

abbrev TypedFunction : World → LowerEntry → Type 0
TypedFunction w (AFunction f) = FunctionIsTyped w f
TypedFunction w (AProcess p) = Unit {0}

abbrev TypedProcess : World → LowerEntry → Type 0
TypedProcess w (AFunction f) = Unit {0}
TypedProcess w (AProcess p) = ProcessIsTyped w p

each-function : (w : World) (ds : List Decl) → FunctionsAreTyped w ds → OfEach (TypedFunction w) ds
each-function w [] h = tt
each-function w (Function f ∷ ds) (h, k) = (h, each-function w ds k)
each-function w (Process p ∷ ds) (h, k) = (tt, each-function w ds k)
each-function w (Data d ∷ ds) (h, k) = (tt, each-function w ds k)
each-function w (Protocol d ∷ ds) (h, k) = (tt, each-function w ds k)
each-function w (Coprotocol d ∷ ds) (h, k) = (tt, each-function w ds k)

each-process : (w : World) (ds : List Decl) → ProcessesAreTyped w ds → OfEach (TypedProcess w) ds
each-process w [] h = tt
each-process w (Function f ∷ ds) (h, k) = (tt, each-process w ds k)
each-process w (Process p ∷ ds) (h, k) = (h, each-process w ds k)
each-process w (Data d ∷ ds) (h, k) = (tt, each-process w ds k)
each-process w (Protocol d ∷ ds) (h, k) = (tt, each-process w ds k)
each-process w (Coprotocol d ∷ ds) (h, k) = (tt, each-process w ds k)

-- each function that is found in a typed source is typed
pub function-typed : (source : Program) → IsTyped source → (x : Name) (f : FunctionDecl) → function_named (world_of source) x ≡ Some f → FunctionIsTyped (world_of source) f
function-typed source i x f j = of-function (TypedFunction (world_of source)) (world_of source) x f (tt, (tt, each-function (world_of source) source i.functions)) j

-- so is each process
pub process-typed : (source : Program) → IsTyped source → (x : Name) (p : ProcessDecl) → process_named (world_of source) x ≡ Some p → ProcessIsTyped (world_of source) p
process-typed source i x p j = of-process (TypedProcess (world_of source)) (world_of source) x p (tt, (tt, each-process (world_of source) source i.processes)) j
