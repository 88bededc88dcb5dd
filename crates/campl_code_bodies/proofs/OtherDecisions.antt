-- Code still stands for a source where its decisions are replaced by others that choose alike.
use Rattle.std.proofs.Common.{ℕ, ◌+◌, not, List, ◌∷◌, ◌++◌, length}
use Rattle.campl_tree.specs.Plain.Expr as e
use Rattle.campl_tree.specs.Plain.Process as b
use Rattle.campl_tree.specs.Plain.Process.{Body, HcaseRows, Branches, CaseRows, Parts, Link}
use Rattle.campl_tree.specs.Plain.Decl.{ProcessDecl}
use Rattle.campl_types.specs.Free.{is_free}
use Rattle.campl_types.specs.Linear.{body_rows}
use Rattle.campl_types.specs.Patterns.{bound_in}
use Rattle.campl_types.specs.World.{World}
use Rattle.campl_peel.specs.Numbered.{last_first}
use Rattle.campl_peel.specs.Plugging.{stands_in, without_link}
use Rattle.campl_peel.specs.Terms.{those}
use Rattle.campl_code.specs.Decisions.{Decision, AllChooseAlike}
use Rattle.campl_code.specs.Instructions.{Instr, Block, Code}
use Rattle.campl_code.specs.Numbers.{Numbers, numbered}
use Rattle.campl_code.proofs.OtherDecisions.{all-too, rows-too, functions-too}
use Rattle.campl_code_bodies.specs.Bodies.{Channels, without, only, binds, StandsBody, put, get, hput, split, close, halt, halt_at, hcase, fork, plug, race, case, link, link_neg, go, StandsHcase, no_rows, row, StandsRace, no_branches, branch, StandsCases, no_cases, case_row, StandsPeels, last, peel, parameter_numbers, channel_numbers, StandsForProcess, StandsFor}

module _ (w : World) (all : Code) (ds : List Decision) (alike : AllChooseAlike all.decisions ds) where
  abbrev other : Code
  other = record all { decisions = ds }

  mutual
    body-too : (code : List Instr) (p : ℕ) (body : Body) (ns : Numbers) (cs : Channels) → StandsBody w all code p body ns cs → StandsBody w other code p body ns cs
    body-too code p body ns cs (put _ q at a x rest _ _ n run held instr next) = put p q at a x rest ns cs n (all-too w all ds alike code p (only a) ns q run) held instr (body-too code (q + 1) rest ns cs next)
    body-too code p body ns cs (get _ q at v x rest _ _ n m run held instr spare next) =
        get p q at v x rest ns cs n m (all-too w all ds alike code p e.no_exprs ns q run) held instr spare (body-too code (q + 1) rest (binds v m ns) cs next)
    body-too code p body ns cs (hput _ q at k x rest _ _ n m run held number instr next) =
        hput p q at k x rest ns cs n m (all-too w all ds alike code p e.no_exprs ns q run) held number instr (body-too code (q + 1) rest ns cs next)
    body-too code p body ns cs (split _ q at x y z rest _ _ n l r run held instr apart left right next) =
        split p q at x y z rest ns cs n l r (all-too w all ds alike code p e.no_exprs ns q run) held instr apart left right
        (body-too code (q + 1) rest ns ((z.name, r) ∷ (y.name, l) ∷ without x.name cs) next)
    body-too code p body ns cs (close _ q at x rest _ _ n run held instr next) =
        close p q at x rest ns cs n (all-too w all ds alike code p e.no_exprs ns q run) held instr (body-too code (q + 1) rest ns (without x.name cs) next)
    body-too code p body ns cs (halt _ q at _ _ run instr) = halt p q at ns cs (all-too w all ds alike code p e.no_exprs ns q run) instr
    body-too code p body ns cs (halt_at _ q at x _ _ n run held instr) = halt_at p q at x ns cs n (all-too w all ds alike code p e.no_exprs ns q run) held instr
    body-too code p body ns cs (hcase _ q at x rows _ _ n targets run held instr none s) =
        hcase p q at x rows ns cs n targets (all-too w all ds alike code p e.no_exprs ns q run) held instr none (hcase-too code targets rows ns cs s)
    body-too code p body ns cs (fork _ q at x y left z right _ _ n l r to run held instr spare spared first second) =
        fork p q at x y left z right ns cs n l r to (all-too w all ds alike code p e.no_exprs ns q run) held instr spare spared
        (body-too code (q + 1) left ns ((y.name, l) ∷ those (λ c. is_free c left) (without x.name cs)) first)
        (body-too code to right ns ((z.name, r) ∷ those (λ c. not (is_free c left)) (without x.name cs)) second)
    body-too code p body ns cs (plug _ at links parts _ _ two s) = plug p at links parts ns cs two (peels-too code p links (last_first links parts) ns cs s)
    body-too code p body ns cs (race _ q at rows _ _ targets run instr s) = race p q at rows ns cs targets (all-too w all ds alike code p e.no_exprs ns q run) instr (race-too code targets rows ns cs s)
    body-too code p body ns cs (case _ q at a rows _ _ m base d targets run instr there finds s) =
        let (x, found, a') = alike m d there in
        case p q at a rows ns cs m base x targets (all-too w all ds alike code p (only a) ns q run) instr found (rows-too w d x (body_rows rows) 1 a' finds) (cases-too code targets rows base ns cs s)
    body-too code p body ns cs (link _ q at x y _ _ n m run held held' instr) = link p q at x y ns cs n m (all-too w all ds alike code p e.no_exprs ns q run) held held' instr
    body-too code p body ns cs (link_neg _ q at x y _ _ n m run held held' instr) = link_neg p q at x y ns cs n m (all-too w all ds alike code p e.no_exprs ns q run) held held' instr
    body-too code p body ns cs (go _ q at x args inputs outputs _ _ g ins outs run called here there instr) =
        go p q at x args inputs outputs ns cs g ins outs (all-too w all ds alike code p args ns q run) called here there instr

    hcase-too : (code : List Instr) (targets : List ℕ) (rows : HcaseRows) (ns : Numbers) (cs : Channels) → StandsHcase w all code targets rows ns cs → StandsHcase w other code targets rows ns cs
    hcase-too code targets rows ns cs (no_rows _ _ _) = no_rows targets ns cs
    hcase-too code targets rows ns cs (row _ k body more _ _ m to number at s later) = row targets k body more ns cs m to number at (body-too code to body ns cs s) (hcase-too code targets more ns cs later)

    race-too : (code : List Instr) (targets : List ℕ) (rows : Branches) (ns : Numbers) (cs : Channels) → StandsRace w all code targets rows ns cs → StandsRace w other code targets rows ns cs
    race-too code targets rows ns cs (no_branches _ _) = no_branches ns cs
    race-too code targets rows ns cs (branch to more x body later _ _ n held receives s rest) = branch to more x body later ns cs n held receives (body-too code to body ns cs s) (race-too code more later ns cs rest)

    cases-too : (code : List Instr) (targets : List ℕ) (rows : CaseRows) (base : ℕ) (ns : Numbers) (cs : Channels) → StandsCases w all code targets rows base ns cs → StandsCases w other code targets rows base ns cs
    cases-too code targets rows base ns cs (no_cases _ _ _) = no_cases base ns cs
    cases-too code targets rows base ns cs (case_row to more q body later _ _ _ spare s rest) =
        case_row to more q body later base ns cs spare (body-too code to body (numbered base (bound_in q) ns) cs s) (cases-too code more later base ns cs rest)

    peels-too : (code : List Instr) (p : ℕ) (links : List Link) (parts : Parts) (ns : Numbers) (cs : Channels) → StandsPeels w all code p links parts ns cs → StandsPeels w other code p links parts ns cs
    peels-too code p links parts ns cs (last _ _ h body _ _ s) = last p links h body ns cs (body-too code p body ns cs s)
    peels-too code p links parts ns cs (peel _ q _ h g body c more _ _ l rest n to run join instr spare spared child s) =
        peel p q links h g body c more ns cs l rest n to (all-too w all ds alike code p e.no_exprs ns q run) join instr spare spared
        (body-too code to body ns ((l.name.name, n) ∷ those (stands_in h) cs) child)
        (peels-too code (q + 1) (without_link l.name.name links) (b.part_then g c more) ns ((l.name.name, n) ∷ those (λ x. not (stands_in h x)) cs) s)

  process-too : (d : ProcessDecl) (c : Block) → StandsForProcess w all d c → StandsForProcess w other d c
  process-too d c s = record {
    name = s.name;
    variables = s.variables;
    inputs = s.inputs;
    outputs = s.outputs;
    body = body-too c.code 0 d.row.body (parameter_numbers 0 d.row.variables) (channel_numbers 0 d.row.inputs ++ channel_numbers (length d.row.inputs) d.row.outputs) s.body;
  }

  pub source-too : StandsFor w all → StandsFor w other
  source-too s = record {
    functions = functions-too w all ds alike s.functions;
    processes = λ g d at. let (c, there, p) = s.processes g d at in (c, there, process-too d c p);
  }
