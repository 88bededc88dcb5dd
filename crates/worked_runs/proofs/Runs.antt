-- Worked sources, run from their trees to their ends, one at a time: steps and transcripts.
use Rattle.std.proofs.Common.{Option, Some, None, option_map, ◌≡◌, refl, [], ◌∷◌}
use Rattle.std.specs.Prelude.{codes}
use Rattle.campl_machine.specs.Names.{End, Half, First, Second, Process}
use Rattle.campl_types.specs.Names.{Name, found}
use Rattle.typed_sources.specs.PrintsHello.{prints_hello}
use Rattle.typed_sources.specs.HaltsAtOnce.{halts_at_once}
use Rattle.campl_meaning.specs.States.{State, Runs, Serves}
use Rattle.campl_meaning.specs.Reductions.{Configuration}
use Rattle.campl_types.specs.World.{world_of}
use Rattle.campl_service.specs.Transcripts.{Took, Sent, Closed}
use Rattle.campl_meaning.specs.Start.{start}
use Rattle.typed_sources.specs.ReadsALine.{reads_a_line}
use Rattle.typed_sources.specs.SendsAhead.{sends_ahead}
use Rattle.typed_sources.specs.EndsTravel.{ends_travel}
use Rattle.typed_sources.specs.LinksBehindASend.{links_behind_a_send}
use Rattle.typed_sources.specs.LinksThroughNeg.{links_through_neg}
use Rattle.typed_sources.specs.RacesTwoTerminals.{races_two_terminals}
use Rattle.worked_runs.specs.Turns.{gone, run, child, service, told}

-- 1
hello : told (0 ∷ []) (gone 10 (world_of prints_hello) (run ∷ service 0 ∷ []) 0 (start (world_of prints_hello) [])) ≡ (7, (Took (codes "Hello") ∷ Closed ∷ []) ∷ [])
hello = refl

-- 2
halts : told [] (gone 10 (world_of halts_at_once) (run ∷ []) 0 (start (world_of halts_at_once) [])) ≡ (1, [])
halts = refl

-- 3, without a script and with one
waits : told (0 ∷ []) (gone 20 (world_of reads_a_line) (run ∷ service 0 ∷ []) 0 (start (world_of reads_a_line) [])) ≡ (2, [] ∷ [])
waits = refl

reads : told (0 ∷ []) (gone 20 (world_of reads_a_line) (run ∷ service 0 ∷ []) 0 (start (world_of reads_a_line) ((codes "hi" ∷ []) ∷ []))) ≡ (7, (Sent (codes "hi") ∷ Closed ∷ []) ∷ [])
reads = refl

-- 6
ahead : told (0 ∷ 1 ∷ []) (gone 30 (world_of sends_ahead) (run ∷ child 1 ∷ service 0 ∷ service 1 ∷ []) 0 (start (world_of sends_ahead) []))
    ≡ (12, (Took (codes "ahead") ∷ Closed ∷ []) ∷ [] ∷ [])
ahead = refl

-- 10
travel : told (0 ∷ 1 ∷ []) (gone 40 (world_of ends_travel) (run ∷ child 1 ∷ child 2 ∷ service 0 ∷ service 1 ∷ []) 0 (start (world_of ends_travel) []))
    ≡ (25, (Took (codes "left") ∷ Closed ∷ []) ∷ (Took (codes "right") ∷ Closed ∷ []) ∷ [])
travel = refl

-- 11
links : told (0 ∷ []) (gone 40 (world_of links_behind_a_send) (run ∷ child 1 ∷ child 2 ∷ service 0 ∷ []) 0 (start (world_of links_behind_a_send) []))
    ≡ (16, (Took (codes "onetwo") ∷ Closed ∷ []) ∷ [])
links = refl

-- 12
through_neg : told (0 ∷ []) (gone 40 (world_of links_through_neg) (run ∷ child 1 ∷ child 2 ∷ child 3 ∷ child 4 ∷ service 0 ∷ []) 0 (start (world_of links_through_neg) []))
    ≡ (18, (Took (codes "through neg") ∷ Closed ∷ []) ∷ [])
through_neg = refl

-- 13: both lines, and the line of t2 alone, where the second branch is ready
races : told (0 ∷ 1 ∷ 2 ∷ []) (gone 40 (world_of races_two_terminals) (run ∷ (Process [], 1) ∷ service 0 ∷ service 1 ∷ service 2 ∷ []) 0
    (start (world_of races_two_terminals) ([] ∷ (codes "A" ∷ []) ∷ (codes "B" ∷ []) ∷ [])))
    ≡ (23, (Took (codes "AB") ∷ Closed ∷ []) ∷ (Sent (codes "A") ∷ Closed ∷ []) ∷ (Sent (codes "B") ∷ Closed ∷ []) ∷ [])
races = refl

second_branch : told (0 ∷ 1 ∷ 2 ∷ []) (gone 40 (world_of races_two_terminals) (run ∷ (Process [], 1) ∷ service 0 ∷ service 1 ∷ service 2 ∷ []) 0
    (start (world_of races_two_terminals) ([] ∷ [] ∷ (codes "B" ∷ []) ∷ [])))
    ≡ (7, [] ∷ [] ∷ (Sent (codes "B") ∷ []) ∷ [])
second_branch = refl

-- which half a process holds under a name
abbrev half_under : Name → Option State → Option Half
half_under x None = None
half_under x (Some (Runs r)) = option_map (λ (e : End). e.half) (found x r.ends)
half_under x (Some (Serves s)) = None

-- behind the peel of 6, `run` has the link on the output side, and so the first half
behind_peel : Configuration
behind_peel = (gone 1 (world_of sends_ahead) (run ∷ []) 0 (start (world_of sends_ahead) [])).1

output_half : half_under (codes "c") (behind_peel.nodes (Process [])) ≡ Some First
unfolding behind_peel
output_half = refl

input_half : half_under (codes "c") (behind_peel.nodes (child 1).0) ≡ Some Second
unfolding behind_peel
input_half = refl
