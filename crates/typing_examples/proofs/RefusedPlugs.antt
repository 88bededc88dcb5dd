-- Plugs and calls of processes that aren't well formed.
use Rattle.std.proofs.Common.{◌≡◌, ℕ, zero, suc, subst, pos, arith, List, [], ◌∷◌, Some, None, codes}
use Rattle.campl_tree.specs.declared.place.Ident.{Ident}
use Rattle.campl_tree.specs.declared.service.Side.TheVariants.{Input, Output}
use Rattle.campl_tree.specs.Plain.ChanType.{TopBot}
use Rattle.campl_tree.specs.Plain.Expr as e
use Rattle.campl_tree.specs.Plain.Process as b
use Rattle.campl_tree.specs.Plain.Decl as d
use Rattle.campl_types.specs.Names.{Name}
use Rattle.campl_types.specs.World.{World, world_of}
use Rattle.campl_types.specs.Prelude.{prelude}
use Rattle.campl_types.specs.Fits.{Vars}
use Rattle.campl_types.specs.Held.{On, Held, nothing_held, with}
use Rattle.campl_types.specs.Headers.{links_in, IsUsed, times_out, times_in}
use Rattle.campl_types.specs.Sequential.{PartsHaveTypes}
use Rattle.campl_types.specs.Linear.{IsWellFormed, AreHanded}
use Rattle.typing_examples.proofs.Sources.{place, ident, protocol}
use Rattle.typing_examples.proofs.Bodies.{ends}

-- Plugs

abbrev c : Ident
c = ident 1 6 (codes "c")

abbrev k : Ident
k = ident 1 20 (codes "k")

abbrev links : List b.Link
links = record { name = c; channel_type = TopBot } ∷ []

-- k is held as an input
abbrev holding : Held
holding = with (codes "k") (Some (On Input TopBot)) nothing_held

-- a part with this header, whose body does nothing here
abbrev part : (inputs outputs : List Ident) → b.Parts → b.Parts
part inputs outputs = b.part_then (record { place = place 2 5; inputs = inputs; outputs = outputs }) (b.Halt (place 2 10) None)

abbrev IsPlug : List b.Link → Held → b.Parts → Type 0
IsPlug ls held parts = IsWellFormed prelude [] held (b.Plug (place 1 1) ls parts)

-- the headers of a well formed plug divide links and channels
used : (ls : List b.Link) (held : Held) (parts : b.Parts) → IsPlug ls held parts → (x : Name) → IsUsed (links_in ls x) (held x) (times_out x parts) (times_in x parts)
used ls held parts (count, names, (uses, differ), all) = uses

-- plug c :: TopBot of
--     => c -> ..
--     => c -> ..
-- has c twice on one side
abbrev both-outputs : b.Parts
both-outputs = part [] (c ∷ []) (part [] (c ∷ []) b.no_parts)

twice-on-one-side : IsPlug links nothing_held both-outputs → ⊥
twice-on-one-side h = cc (used links nothing_held both-outputs h (codes "c")).1

-- plug c :: TopBot of
--     => c -> ..
--     => -> ..
-- has c once
abbrev one-end : b.Parts
one-end = part [] (c ∷ []) (part [] [] b.no_parts)

once : IsPlug links nothing_held one-end → ⊥
once h = cc (used links nothing_held one-end h (codes "c")).1

-- plug c :: TopBot of
--     c => c -> ..
--     => -> ..
-- has both ends in one part
in-one-part : IsPlug links nothing_held (part (c ∷ []) (c ∷ []) (part [] [] b.no_parts)) → ⊥
in-one-part (count, names, (uses, (differ, others)), all) = cc differ

-- plug c :: TopBot of
--     => c -> ..
--     c => -> ..
-- leaves k, which is held, to no part
abbrev ends-of-c : b.Parts
ends-of-c = part [] (c ∷ []) (part (c ∷ []) [] b.no_parts)

in-no-part : IsPlug links holding ends-of-c → ⊥
in-no-part h = cc (used links holding ends-of-c h (codes "k")).1

-- plug c :: TopBot of
--     => c, k -> ..
--     c => -> ..
-- has k on the other side, and where k isn't held it has a name of nothing
abbrev output-k : b.Parts
output-k = part [] (c ∷ k ∷ []) (part (c ∷ []) [] b.no_parts)

other-side : IsPlug links holding output-k → ⊥
other-side h = cc (used links holding output-k h (codes "k")).1

name-of-nothing : IsPlug links nothing_held output-k → ⊥
name-of-nothing h = cc (used links nothing_held output-k h (codes "k")).0

-- plug k :: TopBot of
--     => k -> ..
--     k => -> ..
-- hides k, which is held
abbrev link-k : List b.Link
link-k = record { name = k; channel_type = TopBot } ∷ []

abbrev ends-of-k : b.Parts
ends-of-k = part [] (k ∷ []) (part (k ∷ []) [] b.no_parts)

hides : IsPlug link-k holding ends-of-k → ⊥
hides h = used link-k holding ends-of-k h (codes "k")

-- plug c :: TopBot, c :: TopBot of
--     => c -> ..
--     c => -> ..
links-twice : IsPlug (record { name = c; channel_type = TopBot } ∷ links) nothing_held ends-of-c → ⊥
links-twice (count, names, divided, all) = cc names

-- one part is too few
one-part : IsPlug links nothing_held (part (c ∷ []) (c ∷ []) b.no_parts) → ⊥
one-part ((few, many), names, divided, all) = omega arith

-- and 65 parts are too many
abbrev parts-apart : ℕ → b.Parts
parts-apart zero = b.no_parts
parts-apart (suc n) = part [] [] (parts-apart n)

too-many-parts : IsPlug links nothing_held (parts-apart 65) → ⊥
too-many-parts ((few, many), names, divided, all) = omega arith

-- Calls of the process `ends :: Int | TopBot =>` of Bodies

abbrev w : World
w = world_of (d.Process ends ∷ [])

abbrev seven : e.Exprs
seven = e.expr_then (e.Number (place 1 6) (pos 7)) e.no_exprs

-- the arguments and channels of a well formed call are those of the process that is declared
abbrev Hands : World → Vars → Held → d.ProcessDecl → e.Exprs → (inputs outputs : List Ident) → Type 0
Hands w vs held p args inputs outputs = PartsHaveTypes w vs [] [] p.parameters args × AreHanded held Input inputs p.inputs × AreHanded held Output outputs p.outputs

hands : (held : Held) (args : e.Exprs) (inputs outputs : List Ident) → IsWellFormed w [] held (b.Call (place 1 1) (codes "ends") args inputs outputs) → Hands w [] held ends args inputs outputs
hands held args inputs outputs (p, i, parts, ins, outs, differ, alone) = let same : p ≡ ends = cc i in subst (λ p. Hands w [] held p args inputs outputs) same (parts, ins, outs)

-- ends(7 | k => ), where k is a console
abbrev console-held : Held
console-held = with (codes "k") (Some (On Input (protocol 1 1 (codes "Console")))) nothing_held

other-type : IsWellFormed w [] console-held (b.Call (place 1 1) (codes "ends") seven (k ∷ []) []) → ⊥
other-type h = go (hands console-held seven (k ∷ []) [] h).1
  where
    go : AreHanded console-held Input (k ∷ []) (TopBot ∷ []) → ⊥
    go (u, i, same, rest) = cc (i, same)

-- ends(7 | k => ), where k is an output
abbrev output-held : Held
output-held = with (codes "k") (Some (On Output TopBot)) nothing_held

other-side-handed : IsWellFormed w [] output-held (b.Call (place 1 1) (codes "ends") seven (k ∷ []) []) → ⊥
other-side-handed h = go (hands output-held seven (k ∷ []) [] h).1
  where
    go : AreHanded output-held Input (k ∷ []) (TopBot ∷ []) → ⊥
    go (u, i, same, rest) = cc i

-- ends(7 | => k)
as-output : IsWellFormed w [] output-held (b.Call (place 1 1) (codes "ends") seven [] (k ∷ [])) → ⊥
as-output h = (hands output-held seven [] (k ∷ []) h).1

-- ends( | k => )
no-argument : IsWellFormed w [] holding (b.Call (place 1 1) (codes "ends") e.no_exprs (k ∷ []) []) → ⊥
no-argument h = (hands holding e.no_exprs (k ∷ []) [] h).0

-- ends(7, 7 | k => )
two-arguments : IsWellFormed w [] holding (b.Call (place 1 1) (codes "ends") (e.expr_then (e.Number (place 1 6) (pos 7)) seven) (k ∷ []) []) → ⊥
two-arguments h = (hands holding (e.expr_then (e.Number (place 1 6) (pos 7)) seven) (k ∷ []) [] h).0.1

-- ends(7 | k, k => )
handed-twice : IsWellFormed w [] holding (b.Call (place 1 1) (codes "ends") seven (k ∷ k ∷ []) []) → ⊥
handed-twice h = (hands holding seven (k ∷ k ∷ []) [] h).1.3

-- ends("7" | k => )
text-argument : IsWellFormed w [] holding (b.Call (place 1 1) (codes "ends") (e.expr_then (e.Text (place 1 6) (codes "7")) e.no_exprs) (k ∷ []) []) → ⊥
text-argument h = cc (hands holding (e.expr_then (e.Text (place 1 6) (codes "7")) e.no_exprs) (k ∷ []) [] h).0.0
