-- The processes at the start stand for the nodes of the code's start.
use Rattle.std.proofs.Common.{◌≡◌, ◌≢◌, ◌≤◌, ◌<◌, ◌⊎◌, inl, ℕ, zero, suc, ◌+◌, Bool, true, false, List, [], ◌∷◌, Option, Some, None, IsSome, IfSome, option_map, length, slice_get, if◌then◌else◌, refl, sym, ap, subst, ◌∙◌, arith}
use Rattle.std.specs.Prelude.{nat_lt}
use Rattle.std.proofs.Math.Path.{fun_ext}
use Rattle.campl_tree.specs.declared.service.ServiceName.{ServiceName}
use Rattle.campl_machine.specs.Names.{Path, End, Who, Process, Service, same_who}
use Rattle.campl_machine.specs.Machine.{update}
use Rattle.campl_types.specs.World.{World}
use Rattle.campl_types.specs.Run.{services_of}
use Rattle.campl_service.specs.Scripts.{Lines}
use Rattle.campl_service.specs.Services.{Serving}
use Rattle.campl_meaning.specs.States as s
use Rattle.campl_meaning.specs.Start as start
use Rattle.campl_code.specs.Instructions.{Block, Code}
use Rattle.campl_code.specs.Frames.{frame_of}
use Rattle.campl_code_bodies.specs.Commands as commands
use Rattle.campl_code_bodies.specs.Commands.{CodeState, RunsCode, Beside}
use Rattle.campl_code_bodies.specs.Kept.{Kept}
use Rattle.campl_code_bodies.specs.Running as running
use Rattle.campl_code_bodies.specs.Running.{beside_nodes, first_cell, code_start}
use Rattle.campl_cells.specs.Parts.{Proc, Tip, near, far, written}
use Rattle.campl_cells.specs.Steps.{borne, KeptAt}
use Rattle.campl_cells.specs.Stands.{StandsFor, IsNode, IsServing, IsBorn, IsEnd, LifeWithin, named_ends}
use Rattle.campl_cells.specs.Starts.{first_ends, service_at, start_process, numbers, start_parts, start_who, start_naming}
use Rattle.campl_cells.proofs.Puts.{if-all, if-then, written-lies}
use Rattle.campl_cells.proofs.Nodes.{NodesStand, who-here, who-else, Births, Bearers}
use Rattle.campl_cells.proofs.Together.{Holding, together}
use Rattle.campl_cells.proofs.Starting.{name, near-named, far-named, from-root, tips-start, ends-there}

abbrev nowhere : Who → Option CodeState
nowhere v = None

serving-here : (n j : ℕ) (serving : Serving) (rest : List (Who × Option CodeState)) → n ≡ j →
    IsServing name (Service j) (far j) serving (update same_who ((Service n, Some (Beside (s.Serves (record { end = start.far n; serving = serving })))) ∷ rest) nowhere (Service j))
serving-here n j serving rest q = record {
  number = j;
  service = refl;
  serves = who-here (Service n) (Service j) (Some (Beside (s.Serves (record { end = start.far n; serving = serving })))) rest nowhere (ap Service q)
      ∙ ap (λ (x : End). Some (Beside (s.Serves (record { end = x; serving = serving })))) (ap start.far q ∙ sym (far-named j));
}

-- each service that stands at a place of the list is the node of its name
services-stand : (code : Code) (n : ℕ) (xs : List ServiceName) (scripts : List Lines) (k j : ℕ) → j ≡ n + k →
    IfSome (service_at j (slice_get (start.attending n xs scripts) k)) (λ q. IsNode code name (Service j) q.steps q.life (update same_who (beside_nodes (start.attending n xs scripts)) nowhere (Service j)))
services-stand code n [] scripts k j e = tt
services-stand code n (x ∷ xs) scripts zero j e =
    serving-here n j _ (beside_nodes (start.attending (suc n) xs _)) (omega (arith, e))
services-stand code n (x ∷ xs) scripts (suc k) j e =
    let apart : n ≢ j = (λ q. let f : ⊥ = omega (arith, e, q) in f) in
    if-then (λ q. IsNode code name (Service j) q.steps q.life (update same_who (beside_nodes (start.attending (suc n) xs _)) nowhere (Service j)))
    (λ q. IsNode code name (Service j) q.steps q.life (update same_who (beside_nodes (start.attending n (x ∷ xs) scripts)) nowhere (Service j)))
    (service_at j (slice_get (start.attending (suc n) xs _) k))
    (λ q i h. subst (λ o. IsNode code name (Service j) q.steps q.life o) (sym (who-else (Service n) (Service j) _ (beside_nodes (start.attending (suc n) xs _)) nowhere (λ r. apart (same-number n j r)))) h)
    (services-stand code (suc n) xs _ k j (omega (arith, e)))
  where
    same-number : (a b : ℕ) → Service a ≡ Service b → a ≡ b
    same-number a b e = cc e

-- and there are no others
no-others : (n : ℕ) (xs : List ServiceName) (scripts : List Lines) (v : Who) → ((k : ℕ) → k < length xs → Service (n + k) ≢ v) → update same_who (beside_nodes (start.attending n xs scripts)) nowhere v ≡ None
no-others n [] scripts v h = refl
no-others n (x ∷ xs) scripts v h =
    who-else (Service n) v _ (beside_nodes (start.attending (suc n) xs _)) nowhere (λ e. h 0 (omega arith) (ap Service (let q : n + 0 ≡ n = omega arith in q) ∙ e))
    ∙ no-others (suc n) xs _ v (λ k l e. h (suc k) (omega (arith, l)) (ap Service (let q : n + suc k ≡ suc n + k = omega arith in q) ∙ e))

-- there are as many as there are names
as-many : (n : ℕ) (xs : List ServiceName) (scripts : List Lines) (k j : ℕ) → k < length xs → IsSome (service_at j (slice_get (start.attending n xs scripts) k))
as-many n [] scripts k j l = absurd (let f : ⊥ = omega (arith, l) in f)
as-many n (x ∷ xs) scripts zero j l = refl
as-many n (x ∷ xs) scripts (suc k) j l = as-many (suc n) xs _ k j (omega (arith, l))

-- each is at the far end of its channel
at-far : (There : ℕ → Type 0) (n : ℕ) (xs : List ServiceName) (scripts : List Lines) (k j : ℕ) → (k < length xs → There (far j)) → IfSome (service_at j (slice_get (start.attending n xs scripts) k)) (λ q. LifeWithin There q.life)
at-far There n [] scripts k j h = tt
at-far There n (x ∷ xs) scripts zero j h = h (omega arith)
at-far There n (x ∷ xs) scripts (suc k) j h = at-far There (suc n) xs _ k j (λ l. h (omega (arith, l)))

one-who : (i j : ℕ) → start_who i ≡ start_who j → i ≡ j
one-who zero zero e = refl
one-who zero (suc j) e = absurd (cc e)
one-who (suc i) zero e = absurd (cc e)
one-who (suc i) (suc j) e = let q : i ≡ j = cc e in ap suc q

lt-of : (a b : ℕ) → nat_lt a b ≡ true → a < b
lt-of a b h = grind arith

module _ (w : World) (code : Code) (g : ℕ) (b : Block) (kept : Kept) (scripts : List Lines) (is : KeptAt code (length code.functions + g) 0 (frame_of code.decisions b []) kept) where
  abbrev process : ℕ → Option Proc
  process = start_process w code g kept scripts

  abbrev nodes : Who → Option CodeState
  nodes = (code_start w code g b scripts).nodes

  abbrev tip : ℕ → Option Tip
  tip = written (borne (numbers 0 (services_of w))) (λ e. None)

  first-named : named_ends name (first_ends (length (services_of w))) ≡ running.first_ends (length (services_of w))
  first-named = fun_ext (λ n. go n (nat_lt n (length (services_of w))))
    where
      go : (n : ℕ) (b : Bool) → option_map name (if b then Some (near n) else None) ≡ (if b then Some (start.near n) else None)
      go n true = ap Some (near-named n)
      go n false = refl

  stands : (i : ℕ) → IfSome (process i) (λ q. IsNode code name (start_who i) q.steps q.life (nodes (start_who i)))
  stands zero = record {
    path = [];
    process = refl;
    at = 0;
    vars = frame_of code.decisions b [];
    spent = 0;
    runs = ap (λ (ends : commands.Ends). Some (RunsCode (record { block = length code.functions + g; at = 0; vars = frame_of code.decisions b []; ends = ends; steps = 0; spent = 0 }))) (sym first-named);
    kept = is;
  }
  stands (suc n) = services-stand code 0 (services_of w) scripts n n (omega arith)

  nodes-start : NodesStand code start_naming process nodes
  nodes-start = record {
    is = stands;
    no_node = λ v h. who-else (Process []) v (Some (RunsCode (first_cell w code g b))) (beside_nodes (start.attending 0 (services_of w) scripts)) nowhere (h 0 refl)
        ∙ no-others 0 (services_of w) scripts v (λ k l e. h (suc k) (as-many 0 (services_of w) scripts k k l) (ap Service (let q : k ≡ 0 + k = omega arith in q) ∙ e));
    one = λ i j hi hj e. one-who i j e;
  }

  births : Births start_naming process
  births zero = λ path e. inl (let q : path ≡ [] = cc e in q)
  births (suc n) = if-all (λ q. (path : Path) → Service n ≡ Process path → (path ≡ []) ⊎ IsBorn start_naming process q path) (process (suc n)) (λ q i path e. absurd (cc e))

  bearers : Bearers start_naming process tip
  bearers e h = record {
    number = 0;
    named = ap Process (sym (from-root 0 e).0);
    made = (let l : (name e).step ≤ 0 = omega (arith, (from-root 0 e).1) in l);
  }

  held : Holding process tip
  held zero = λ k. go k (nat_lt k (length (services_of w))) refl
    where
      go : (k : ℕ) (b : Bool) → nat_lt k (length (services_of w)) ≡ b → IfSome (if b then Some (near k) else None) (IsEnd tip)
      go k true e = written-lies (borne (numbers 0 (services_of w))) (λ e. None) (near k) (ends-there 0 (services_of w) k k (omega arith) (lt-of k (length (services_of w)) e)).0
      go k false e = tt
  held (suc n) = at-far (IsEnd tip) 0 (services_of w) scripts n n
      (λ l. written-lies (borne (numbers 0 (services_of w))) (λ e. None) (far n) (ends-there 0 (services_of w) n n (omega arith) l).1)

  -- the parts at the start stand for the code's start
  pub start-stands : StandsFor code start_naming (start_parts w code g kept scripts) (code_start w code g b scripts)
  start-stands = together code start_naming process tip nodes (code_start w code g b scripts).partner (code_start w code g b scripts).owed nodes-start (tips-start 0 (services_of w)) births bearers held
