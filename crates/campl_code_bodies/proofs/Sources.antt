-- The code that is generated for a source stands for it.
use Rattle.std.proofs.Common.{◌≡◌, refl, subst, arith, ℕ, zero, suc, ◌+◌, ◌≤◌, List, [], ◌∷◌, ◌++◌, Some, length, slice_get}
use Rattle.campl_tree.specs.declared.place.Ident.{Ident}
use Rattle.campl_tree.specs.declared.process.Binder.{Binder}
use Rattle.campl_tree.specs.declared.process.Binder.TheVariants as binder
use Rattle.campl_tree.specs.Plain.Decl.{ProcessDecl, Program}
use Rattle.campl_types.specs.Typed.{IsTyped}
use Rattle.campl_types.specs.World.{World, world_of}
use Rattle.campl_code.specs.Instructions.{Block, Code}
use Rattle.campl_code.specs.Numbers.{Numbers, AllBelow}
use Rattle.campl_code.specs.Stands.{functions_of}
use Rattle.campl_code.specs.CaseDecisions.{decisions_of_functions}
use Rattle.campl_code.proofs.Standing.{HasAt, has_front, has_back, has_all, functions_stand}
use Rattle.campl_code.proofs.Known.{source-known}
use Rattle.campl_code.proofs.Whole.{decided_functions}
use Rattle.campl_code_bodies.specs.Bodies.{binds, parameter_numbers, channel_numbers, processes_of, StandsFor, StandsForProcess}
use Rattle.campl_code_bodies.specs.SourceCode.{process_made, process_block, process_blocks, process_decisions, code_within, first_channels}
use Rattle.campl_code_bodies.specs.BodyNeeds.{ProcessesNeed, ProcessNeeds}
use Rattle.campl_code_bodies.proofs.BodyStands.{body-stands}

below-append : (n : ℕ) (ns ms : Numbers) → AllBelow n ns → AllBelow n ms → AllBelow n (ns ++ ms)
below-append n [] ms h k = k
below-append n (e ∷ ns) ms h k = (h.0, below-append n ns ms h.1 k)

below-channels : (xs : List Ident) (n most : ℕ) → n + length xs ≤ most → AllBelow most (channel_numbers n xs)
below-channels [] n most l = tt
below-channels (x ∷ xs) n most l = (omega (arith, l), below-channels xs (suc n) most (omega (arith, l)))

below-parameters : (xs : List Binder) (n most : ℕ) → n + length xs ≤ most → AllBelow most (parameter_numbers n xs)
below-parameters [] n most l = tt
below-parameters (x ∷ xs) n most l = below-append most (parameter_numbers (suc n) xs) (binds x n []) (below-parameters xs (suc n) most (omega (arith, l))) (one x)
  where
    one : (x : Binder) → AllBelow most (binds x n [])
    one (binder.Variable at y) = (omega (arith, l), tt)
    one (binder.Wildcard at) = tt

process-stands : (w : World) (all : Code) (n : ℕ) (d : ProcessDecl) (dec : ℕ) → ProcessNeeds w n d → HasAt all.decisions dec (process_made w n d dec).decisions → StandsForProcess w all d (process_block w n d dec)
process-stands w all n d dec need h = record {
  name = refl;
  variables = refl;
  inputs = refl;
  outputs = refl;
  body = body-stands w all (process_made w n d dec).code n d.row.body 0 dec (length d.row.variables) (parameter_numbers 0 d.row.variables) (length d.row.inputs + length d.row.outputs) (first_channels d) need
      (has_all (process_made w n d dec).code) h (below-parameters d.row.variables 0 (length d.row.variables) (omega arith))
      (below-append (length d.row.inputs + length d.row.outputs) (channel_numbers 0 d.row.inputs) (channel_numbers (length d.row.inputs) d.row.outputs) (below-channels d.row.inputs 0 (length d.row.inputs + length d.row.outputs) (omega arith)) (below-channels d.row.outputs (length d.row.inputs) (length d.row.inputs + length d.row.outputs) (omega arith)));
}

processes-stand : (w : World) (all : Code) (n : ℕ) (ds : List ProcessDecl) (dec : ℕ) → ProcessesNeed w n ds → HasAt all.decisions dec (process_decisions w n ds dec) → (g : ℕ) (d : ProcessDecl) → slice_get ds g ≡ Some d
    → (b : Block) × (slice_get (process_blocks w n ds dec) g ≡ Some b) × StandsForProcess w all d b
processes-stand w all n [] dec need h g d at = absurd (cc at)
processes-stand w all n (p ∷ ds) dec need h zero d at =
    let same : p ≡ d = cc at in
    let made = process_made w n p dec in
    (process_block w n p dec, refl, subst (λ (d : ProcessDecl). StandsForProcess w all d (process_block w n p dec)) same (process-stands w all n p dec need.0 (has_front all.decisions dec made.decisions (process_decisions w n ds (dec + length made.decisions)) h)))
processes-stand w all n (p ∷ ds) dec need h (suc g) d at =
    let made = process_made w n p dec in
    processes-stand w all n ds (dec + length made.decisions) need.1 (has_back all.decisions dec made.decisions (process_decisions w n ds (dec + length made.decisions)) h) g d at

pub source-stands : (source : Program) → IsTyped source → (n : ℕ) → ProcessesNeed (world_of source) n (processes_of (world_of source)) → StandsFor (world_of source) (code_within (world_of source) n)
source-stands source t n need =
    let w = world_of source in
    let all = code_within w n in
    let ds = decisions_of_functions w (functions_of w) in
    let rest = process_decisions w n (processes_of w) (length ds) in
    let h : HasAt all.decisions 0 (ds ++ rest) = has_all (ds ++ rest) in
    let start : 0 + length ds ≡ length ds = omega arith in
    record {
      functions = functions_stand w all 0 refl (source-known source t) (decided_functions w all.decisions (functions_of w) 0 (has_front all.decisions 0 ds rest h));
      processes = processes-stand w all n (processes_of w) (length ds) need (subst (λ (k : ℕ). HasAt all.decisions k rest) start (has_back all.decisions 0 ds rest h));
    }
