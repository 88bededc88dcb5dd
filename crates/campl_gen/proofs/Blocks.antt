-- Blocks of processes.
use Rattle.std.proofs.Common.{◌≡◌, ◌∙◌, refl, sym, ap, ℕ, zero, suc, ◌+◌, ◌<◌, ◌≤◌, List, [], ◌∷◌, ◌++◌, map, length, drop, get_or, length-append, append_assoc, arith}
use Rattle.std.proofs.lemmas.List.{drop_all, drop_more}
use Rattle.campl_tree.specs.declared.place.Ident.{Ident}
use Rattle.campl_tree.specs.declared.process.Binder.{Binder}
use Rattle.campl_tree.specs.declared.process.Binder.TheVariants as binder
use Rattle.campl_tree.specs.declared.decl.Decl.{Decl}
use Rattle.campl_tree.specs.Plain.Decl.{ProcessDecl}
use Rattle.campl_tree.specs.View.{view_decl}
use Rattle.campl_types.specs.Names.{Name}
use Rattle.campl_types.specs.World.{World}
use Rattle.campl_code.specs.CaseDecisions.{decisions_of_functions}
use Rattle.campl_code.specs.Decisions.{Decision}
use Rattle.campl_code.specs.Generated.{function_blocks}
use Rattle.campl_code.specs.Instructions.{Instr, Block, Code}
use Rattle.campl_code.specs.Numbers.{Numbers}
use Rattle.campl_code.specs.Stands.{functions_of}
use Rattle.campl_code_bodies.specs.Bodies.{Channels, binds, processes_of, parameter_numbers, channel_numbers}
use Rattle.campl_code_bodies.specs.BodyCode.{Made, body_made}
use Rattle.campl_code_bodies.specs.BodySizes.{body_size, processes_size}
use Rattle.campl_code_bodies.specs.SourceCode.{first_channels, process_made, process_block, process_blocks, process_decisions, code_within}
use Rattle.campl_gen_exprs.specs.Functions.{fresh}
use Rattle.campl_gen_channels.specs.Numbers.{NumbersAlike}
use Rattle.campl_gen_channels.proofs.Alike.{alike-on, alike-itself}
use Rattle.campl_gen_channels.proofs.Maps.{alike-append, alike-so}
use Rattle.campl_gen_bodies.specs.Making.{Making, received, whole, added, built}
use Rattle.campl_gen_bodies.proofs.Alike.{whole-alike}
use Rattle.campl_gen_bodies.proofs.Commands.{built-same}
use Rattle.campl_gen.specs.Blocks.{begun, all_received, process_built, whole_process, block_with, blocks_from, decisions_from}
use Rattle.campl_gen.specs.Generated.{world_code}

-- Lists

pub map-length : {A B : Type 0} (f : A → B) (xs : List A) → length (map f xs) ≡ length xs
map-length f [] = refl
map-length f (x ∷ xs) = ap suc (map-length f xs)

pub ruleset lengths = (map-length)

pub map-more : {A B : Type 0} (f : A → B) (xs : List A) (y : A) → map f (xs ++ y ∷ []) ≡ map f xs ++ f y ∷ []
map-more f [] y = refl
map-more f (x ∷ xs) y = ap (λ (l : List _). f x ∷ l) (map-more f xs y)

pub ruleset views = (map-more)

append-none : {A : Type 0} (xs : List A) → xs ++ [] ≡ xs
append-none [] = refl
append-none (x ∷ xs) = ap (λ (l : List _). x ∷ l) (append-none xs)

drop-at : {A : Type 0} (xs : List A) (n : ℕ) (x : A) → n < length xs → x ≡ get_or xs n x → drop n xs ≡ x ∷ drop (n + 1) xs
drop-at xs n x l is = drop_more xs n x l ∙ ap (λ y. y ∷ drop (n + 1) xs) (sym is)

-- Headings

pub received-at : (vs : List Binder) (n : ℕ) (v : Binder) (s : Making) → n < length vs → v ≡ get_or vs n v → all_received (drop n vs) s ≡ all_received (drop (n + 1) vs) (received v s)
received-at vs n v s l is = ap (λ d. all_received d s) (drop-at vs n v l is)

pub received-end : (vs : List Binder) (n : ℕ) (s : Making) → length vs ≤ n → all_received (drop n vs) s ≡ s
received-end vs n s l = ap (λ d. all_received d s) (drop_all n vs l)

pub heading-held : (ins outs first second : List Ident) (c0 c1 c2 : Channels) (n m : ℕ) → NumbersAlike c1 (c0 ++ channel_numbers n first) → c0 ≡ [] → n ≡ 0 → first ≡ ins → m ≡ n + length first
    → NumbersAlike c2 (c1 ++ channel_numbers m second) → second ≡ outs → NumbersAlike c2 (channel_numbers 0 ins ++ channel_numbers (length ins) outs)
heading-held ins outs first second c0 c1 c2 n m came none zeroth inputs many later outputs =
    let start : c0 ++ channel_numbers n first ≡ channel_numbers 0 ins = ap (λ l. l ++ channel_numbers n first) none ∙ ap (λ k. channel_numbers k first) zeroth ∙ ap (channel_numbers 0) inputs in
    let long : n + length first ≡ length ins = let h : length first ≡ length ins = ap length inputs in omega (arith, h, zeroth) in
    let rest : channel_numbers m second ≡ channel_numbers (length ins) outs = ap (λ k. channel_numbers k second) (many ∙ long) ∙ ap (channel_numbers (length ins)) outputs in
    alike-on c2 (c1 ++ channel_numbers m second) (channel_numbers 0 ins ++ channel_numbers (length ins) outs) later
    (alike-on (c1 ++ channel_numbers m second) (channel_numbers 0 ins ++ channel_numbers m second) (channel_numbers 0 ins ++ channel_numbers (length ins) outs)
    (alike-append c1 (channel_numbers 0 ins) (channel_numbers m second) (alike-on c1 (c0 ++ channel_numbers n first) (channel_numbers 0 ins) came (alike-so (c0 ++ channel_numbers n first) (channel_numbers 0 ins) start)))
    (alike-so (channel_numbers 0 ins ++ channel_numbers m second) (channel_numbers 0 ins ++ channel_numbers (length ins) outs) (ap (λ l. channel_numbers 0 ins ++ l) rest)))

-- A process

-- the parameters have the first numbers
abbrev named : Making → ℕ → Numbers → Making
named s f ns = record s { emission = record s.emission { free = f; numbers = ns } }

binds-more : (v : Binder) (n : ℕ) (ns : Numbers) → binds v n ns ≡ binds v n [] ++ ns
binds-more (binder.Variable at x) n ns = refl
binds-more (binder.Wildcard at) n ns = refl

received-is : (vs : List Binder) (s : Making) → all_received vs s ≡ named s (s.emission.free + length vs) (parameter_numbers s.emission.free vs ++ s.emission.numbers)
received-is [] s = let z : s.emission.free ≡ s.emission.free + 0 = omega arith in ap (λ f. named s f s.emission.numbers) z
received-is (v ∷ vs) s =
    let f = s.emission.free in
    let ns = s.emission.numbers in
    let one : f + 1 ≡ suc f = omega arith in
    let long : suc f + length vs ≡ f + suc (length vs) = omega arith in
    received-is vs (received v s) ∙ ap (λ k. named s (k + length vs) (parameter_numbers k vs ++ binds v f ns)) one ∙ ap (λ k. named s k (parameter_numbers (suc f) vs ++ binds v f ns)) long
    ∙ ap (λ l. named s (f + suc (length vs)) (parameter_numbers (suc f) vs ++ l)) (binds-more v f ns) ∙ ap (λ l. named s (f + suc (length vs)) l) (sym (append_assoc (parameter_numbers (suc f) vs) (binds v f []) ns))

-- from its steps
pub process-done : (w : World) (d : ProcessDecl) (s t u v : Making) (n : ℕ) (ds : Channels) → t ≡ begun s → u ≡ all_received d.row.variables t
    → NumbersAlike ds (channel_numbers 0 d.row.inputs ++ channel_numbers (length d.row.inputs) d.row.outputs) → n ≡ length d.row.inputs + length d.row.outputs → v ≡ built w d.row.body n ds u → v ≡ process_built w d s
process-done w d s t u v n ds begins receives same many is =
    let next = length d.row.inputs + length d.row.outputs in
    is ∙ ap (λ k. built w d.row.body k ds u) many ∙ built-same w d.row.body next ds (first_channels d) u same ∙ ap (built w d.row.body next (first_channels d)) (receives ∙ ap (all_received d.row.variables) begins)

-- its code and its decisions
pub process-so : (w : World) (d : ProcessDecl) (s : Making) → process_built w d s ≡ added (whole_process w d (length s.decisions)) (all_received d.row.variables (begun s))
unfolding built
process-so w d s =
    let vs = d.row.variables in
    let next = length d.row.inputs + length d.row.outputs in
    let cs = first_channels d in
    let t = all_received vs (begun s) in
    let n : 0 + length vs ≡ length vs = omega arith in
    let is : t ≡ named (begun s) (length vs) (parameter_numbers 0 vs) = received-is vs (begun s) ∙ ap (λ k. named (begun s) k (parameter_numbers 0 vs ++ [])) n ∙ ap (named (begun s) (length vs)) (append-none (parameter_numbers 0 vs)) in
    ap (λ (u : Making). added (whole w d.row.body (length u.emission.code) u.emission.decisions u.emission.free u.emission.numbers next cs) t) is

pub process-code : (w : World) (d : ProcessDecl) (s : Making) → (process_built w d s).emission.code ≡ (whole_process w d (length s.decisions)).code
process-code w d s = ap (λ (u : Making). u.emission.code) (process-so w d s) ∙ ap (λ l. l ++ (whole_process w d (length s.decisions)).code) (none d.row.variables (begun s))
  where
    none : (vs : List Binder) (t : Making) → (all_received vs t).emission.code ≡ t.emission.code
    none [] t = refl
    none (v ∷ vs) t = none vs (received v t)

pub process-decisions : (w : World) (d : ProcessDecl) (s : Making) → (process_built w d s).decisions ≡ s.decisions ++ (whole_process w d (length s.decisions)).decisions
process-decisions w d s = ap (λ (u : Making). u.decisions) (process-so w d s) ∙ ap (λ l. l ++ (whole_process w d (length s.decisions)).decisions) (none d.row.variables (begun s))
  where
    none : (vs : List Binder) (t : Making) → (all_received vs t).decisions ≡ t.decisions
    none [] t = refl
    none (v ∷ vs) t = none vs (received v t)

-- Processes in turn

-- one process more
pub block-more : (w : World) (d : ProcessDecl) (ds : List ProcessDecl) (old new : List Block) (before after : List Decision)
    → new ≡ old ++ block_with d (whole_process w d (length before)).code ∷ [] → after ≡ before ++ (whole_process w d (length before)).decisions
    → new ++ blocks_from w ds (length after) ≡ old ++ blocks_from w (d ∷ ds) (length before)
block-more w d ds old new before after is more =
    let m = whole_process w d (length before) in
    ap (λ l. l ++ blocks_from w ds (length after)) is ∙ append_assoc old (block_with d m.code ∷ []) (blocks_from w ds (length after))
    ∙ ap (λ n. old ++ (block_with d m.code ∷ blocks_from w ds n)) (ap length more ∙ length-append before m.decisions)

pub decisions-more : (w : World) (d : ProcessDecl) (ds : List ProcessDecl) (before after : List Decision) → after ≡ before ++ (whole_process w d (length before)).decisions
    → after ++ decisions_from w ds (length after) ≡ before ++ decisions_from w (d ∷ ds) (length before)
decisions-more w d ds before after more =
    let m = whole_process w d (length before) in
    ap (λ n. after ++ decisions_from w ds n) (ap length more ∙ length-append before m.decisions) ∙ ap (λ l. l ++ decisions_from w ds (length before + length m.decisions)) more
    ∙ append_assoc before m.decisions (decisions_from w ds (length before + length m.decisions))

pub processes-at : (ds : List Decl) (n : ℕ) (d : Decl) → n < length ds → d ≡ get_or ds n d → map view_decl (drop n ds) ≡ view_decl d ∷ map view_decl (drop (n + 1) ds)
processes-at ds n d l is = ap (map view_decl) (drop-at ds n d l is)

pub blocks-end : (w : World) (ds : List Decl) (n : ℕ) (old : List Block) (dec : ℕ) → length ds ≤ n → old ++ blocks_from w (processes_of (map view_decl (drop n ds))) dec ≡ old
blocks-end w ds n old dec l = ap (λ x. old ++ blocks_from w (processes_of (map view_decl x)) dec) (drop_all n ds l) ∙ append-none old

pub decisions-end : (w : World) (ds : List Decl) (n : ℕ) (old : List Decision) (dec : ℕ) → length ds ≤ n → old ++ decisions_from w (processes_of (map view_decl (drop n ds))) dec ≡ old
decisions-end w ds n old dec l = ap (λ x. old ++ decisions_from w (processes_of (map view_decl x)) dec) (drop_all n ds l) ∙ append-none old

-- The whole

made-so : (w : World) (n : ℕ) (d : ProcessDecl) (dec : ℕ) → body_size d.row.body ≤ n → process_made w n d dec ≡ whole_process w d dec
made-so w n d dec fits =
    whole-alike w n d.row.body fits 0 dec (length d.row.variables) (parameter_numbers 0 d.row.variables) (length d.row.inputs + length d.row.outputs) (first_channels d) (first_channels d) (alike-itself (first_channels d))

blocks-so : (w : World) (n : ℕ) (ds : List ProcessDecl) (dec : ℕ) → processes_size ds ≤ n → blocks_from w ds dec ≡ process_blocks w n ds dec
blocks-so w n [] dec l = refl
blocks-so w n (d ∷ ds) dec l =
    ap (λ (m : Made). block_with d m.code ∷ blocks_from w ds (dec + length m.decisions)) (sym (made-so w n d dec (omega (arith, l))))
    ∙ ap (λ bs. process_block w n d dec ∷ bs) (blocks-so w n ds (dec + length (process_made w n d dec).decisions) (omega (arith, l)))

decisions-so : (w : World) (n : ℕ) (ds : List ProcessDecl) (dec : ℕ) → processes_size ds ≤ n → decisions_from w ds dec ≡ process_decisions w n ds dec
decisions-so w n [] dec l = refl
decisions-so w n (d ∷ ds) dec l =
    ap (λ (m : Made). m.decisions ++ decisions_from w ds (dec + length m.decisions)) (sym (made-so w n d dec (omega (arith, l))))
    ∙ ap (λ bs. (process_made w n d dec).decisions ++ bs) (decisions-so w n ds (dec + length (process_made w n d dec).decisions) (omega (arith, l)))

-- the three parts are the code of the world
pub world-so : (w : World) (fs bs : List Block) (ds es : List Decision) → fs ≡ function_blocks w (functions_of w) 0 → ds ≡ decisions_of_functions w (functions_of w)
    → bs ≡ blocks_from w (processes_of w) (length ds) → es ≡ ds ++ decisions_from w (processes_of w) (length ds) → ◌≡◌ {A = Code} (record { functions = fs; processes = bs; decisions = es }) (world_code w)
world-so w fs bs ds es e1 e2 e3 e4 =
    let n = processes_size (processes_of w) in
    let own = decisions_of_functions w (functions_of w) in
    ap (λ x. record { functions = x; processes = bs; decisions = es }) e1
    ∙ ap (λ x. record { functions = function_blocks w (functions_of w) 0; processes = x; decisions = es }) (e3 ∙ blocks-so w n (processes_of w) (length ds) (omega arith) ∙ ap (λ l. process_blocks w n (processes_of w) (length l)) e2)
    ∙ ap (λ x. record { functions = function_blocks w (functions_of w) 0; processes = process_blocks w n (processes_of w) (length own); decisions = x })
    (e4 ∙ ap (λ l. l ++ decisions_from w (processes_of w) (length l)) e2 ∙ ap (λ l. own ++ l) (decisions-so w n (processes_of w) (length own) (omega arith)))

pub ruleset wholes = (world-so)
