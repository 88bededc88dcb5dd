-- The start of the code stands for the start of the source.
use Rattle.std.proofs.Common.{◌≡◌, ◌∙◌, refl, sym, ap, subst, arith, ℕ, suc, ◌+◌, ◌<◌, ◌≤◌, true, List, [], ◌∷◌, ◌++◌, Some, None, if◌then◌else◌, length, length-append, map, slice_get}
use Rattle.std.specs.Prelude.{nat_lt, codes}
use Rattle.std.proofs.lemmas.List.{length-map}
use Rattle.campl_tree.specs.declared.place.Ident.{Ident}
use Rattle.campl_tree.specs.declared.service.Side.{Side}
use Rattle.campl_tree.specs.declared.service.Side.TheVariants.{Input, Output}
use Rattle.campl_tree.specs.declared.service.ServiceName.{ServiceName}
use Rattle.campl_tree.specs.Plain.Decl.{ProcessDecl}
use Rattle.campl_machine.specs.Names.{Process, same_who}
use Rattle.campl_machine.specs.Machine.{update}
use Rattle.campl_types.specs.World.{World, process_named}
use Rattle.campl_types.specs.Run.{services_of, service}
use Rattle.campl_service.specs.Scripts.{Lines}
use Rattle.campl_meaning.specs.Start.{near, holding, attending, running, start}
use Rattle.campl_peel.specs.Terms.{Doing}
use Rattle.campl_code.specs.Instructions.{Code, Block}
use Rattle.campl_code.specs.Frames.{frame_of, frame_size}
use Rattle.campl_code.specs.Numbers.{Framed}
use Rattle.campl_code.proofs.Frames.{frame-length}
use Rattle.campl_code_bodies.specs.Bodies.{channel_numbers, parameter_numbers, StandsForProcess}
use Rattle.campl_code_bodies.specs.Commands.{RunsCode}
use Rattle.campl_code_bodies.specs.Alike.{Channeled, CellStands, StandsState, OptionAlike}
use Rattle.campl_code_bodies.specs.Running.{beside_nodes, first_ends, first_cell, code_start, Stand}
use Rattle.campl_code_bodies.proofs.Ends.{channeled-append, get-behind}
use Rattle.campl_code_bodies.proofs.Lifted.{NodesAlike, update-alike}

lt_true : (a b : ℕ) → a < b → nat_lt a b ≡ true
lt_true a b h = grind arith

channeled-first : (side : Side) (xs : List Ident) (n count : ℕ) → n + length xs ≤ count → Channeled (channel_numbers n xs) (holding n (map (service side) xs)) (first_ends count)
channeled-first side [] n count l = tt
channeled-first side (x ∷ xs) n count l =
    (refl, ap (λ b. if b then Some (near n) else None) (lt_true n count (omega (arith, l))), channeled-first side xs (suc n) count (omega (arith, l)))

holding-append : (xs ys : List ServiceName) (n : ℕ) → holding n (xs ++ ys) ≡ holding n xs ++ holding (n + length xs) ys
holding-append [] ys n = ap (λ (k : ℕ). holding k ys) (omega arith)
holding-append (x ∷ xs) ys n =
    let e = holding-append xs ys (suc n) in
    let up : suc n + length xs ≡ n + suc (length xs) = omega arith in
    (λ i. (x.name, near n) ∷ e i) ∙ ap (λ (k : ℕ). (x.name, near n) ∷ (holding (suc n) xs ++ holding k ys)) up

attending-alike : (w : World) (code : Code) (n : ℕ) (xs : List ServiceName) (scripts : List Lines) → NodesAlike w code (beside_nodes (attending n xs scripts)) (attending n xs scripts)
attending-alike w code n [] scripts = tt
attending-alike w code n (x ∷ xs) scripts = (refl, refl, attending-alike w code (suc n) xs _)

pub starts-alike : (w : World) (code : Code) (d : ProcessDecl) (g : ℕ) (b : Block) (scripts : List Lines) → process_named w (codes "run") ≡ Some d → d.row.variables ≡ [] → slice_get code.processes g ≡ Some b → StandsForProcess w code d b
    → Stand w code (code_start w code g b scripts) (start w scripts)
starts-alike w code d g b scripts named plain at s = record {
  nodes = λ who. subst (λ o. OptionAlike (StandsState w code) (update same_who ((Process [], Some (RunsCode (first_cell w code g b))) ∷ beside_nodes (attending 0 (services_of w) scripts)) (λ who. None) who)
      (update same_who (running o (holding 0 (services_of w)) ++ attending 0 (services_of w) scripts) (λ who. None) who)) (sym named)
      (update-alike w code ((Process [], Some (RunsCode (first_cell w code g b))) ∷ beside_nodes (attending 0 (services_of w) scripts)) (running (Some d) (holding 0 (services_of w)) ++ attending 0 (services_of w) scripts) (λ who. None) (λ who. None)
      (refl, cell, attending-alike w code 0 (services_of w) scripts) (λ who. tt) who);
  partner = λ e. refl;
  owed = λ e. refl;
}
  where
    ins : List ServiceName
    ins = map (service Input) d.row.inputs

    outs : List ServiceName
    outs = map (service Output) d.row.outputs

    listed : services_of w ≡ map (service Input) d.row.inputs ++ map (service Output) d.row.outputs
    listed = rw named refl

    many : length (services_of w) ≡ length d.row.inputs + length d.row.outputs
    many = ap length listed ∙ length-append (map (service Input) d.row.inputs) (map (service Output) d.row.outputs) ∙ ap (λ (n : ℕ). n + length (map (service Output) d.row.outputs)) (length-map d.row.inputs (service Input)) ∙ ap (λ (n : ℕ). length d.row.inputs + n) (length-map d.row.outputs (service Output))

    held : holding 0 (services_of w) ≡ holding 0 (map (service Input) d.row.inputs) ++ holding (length d.row.inputs) (map (service Output) d.row.outputs)
    held =
        let up : 0 + length (map (service Input) d.row.inputs) ≡ length d.row.inputs = omega (arith, length-map d.row.inputs (service Input)) in
        ap (holding 0) listed ∙ holding-append (map (service Input) d.row.inputs) (map (service Output) d.row.outputs) 0 ∙ ap (λ (n : ℕ). holding 0 (map (service Input) d.row.inputs) ++ holding n (map (service Output) d.row.outputs)) up

    cell : CellStands w code (first_cell w code g b) (record { term = Doing d.row.body; variables = []; ends = holding 0 (services_of w); steps = 0; spent = 0 })
    cell = record {
      block = b;
      there = get-behind code.functions code.processes g ∙ at;
      numbers = parameter_numbers 0 d.row.variables;
      channels = channel_numbers 0 d.row.inputs ++ channel_numbers (length d.row.inputs) d.row.outputs;
      term = s.body;
      variables = subst (λ l. Framed (frame_size code.decisions b) (parameter_numbers 0 l) [] (frame_of code.decisions b [])) (sym plain) (record { holds = tt; long = frame-length code.decisions b [] (sym (s.variables ∙ ap length plain)) });
      ends = subst (λ es. Channeled (channel_numbers 0 d.row.inputs ++ channel_numbers (length d.row.inputs) d.row.outputs) es (first_ends (length (services_of w)))) (sym held)
          (channeled-append (channel_numbers 0 d.row.inputs) (channel_numbers (length d.row.inputs) d.row.outputs) (holding 0 (map (service Input) d.row.inputs)) (holding (length d.row.inputs) (map (service Output) d.row.outputs)) (first_ends (length (services_of w)))
          (channeled-first Input d.row.inputs 0 (length (services_of w)) (omega (arith, many))) (channeled-first Output d.row.outputs (length d.row.inputs) (length (services_of w)) (omega (arith, many))));
      steps = refl;
      spent = refl;
    }
