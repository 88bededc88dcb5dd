-- Code that runs, from its start to its end: as many steps and the same transcripts as the sources themselves.
use Rattle.std.specs.Prelude.{◌≡◌, refl, [], ◌∷◌, Some, codes}
use Rattle.campl_machine.specs.Names.{Process}
use Rattle.campl_service.specs.Transcripts.{Took, Sent, Closed}
use Rattle.typed_sources.specs.PrintsHello.{prints_hello}
use Rattle.typed_sources.specs.HaltsAtOnce.{halts_at_once}
use Rattle.typed_sources.specs.ReadsALine.{reads_a_line}
use Rattle.typed_sources.specs.EndsTravel.{ends_travel}
use Rattle.typed_sources.specs.LinksBehindASend.{links_behind_a_send}
use Rattle.typed_sources.specs.LinksThroughNeg.{links_through_neg}
use Rattle.typed_sources.specs.RacesTwoTerminals.{races_two_terminals}
use Rattle.generated_sources.specs.Turns.{run, child, service, from_start, told}

hello : told (0 ∷ []) (from_start 10 prints_hello (run ∷ service 0 ∷ []) []) ≡ Some (7, (Took (codes "Hello") ∷ Closed ∷ []) ∷ [])
hello = refl

halts : told [] (from_start 10 halts_at_once (run ∷ []) []) ≡ Some (1, [])
halts = refl

-- without a script and with one
waits : told (0 ∷ []) (from_start 20 reads_a_line (run ∷ service 0 ∷ []) []) ≡ Some (2, [] ∷ [])
waits = refl

reads : told (0 ∷ []) (from_start 20 reads_a_line (run ∷ service 0 ∷ []) ((codes "hi" ∷ []) ∷ [])) ≡ Some (7, (Sent (codes "hi") ∷ Closed ∷ []) ∷ [])
reads = refl

travel : told (0 ∷ 1 ∷ []) (from_start 40 ends_travel (run ∷ child 1 ∷ child 2 ∷ service 0 ∷ service 1 ∷ []) [])
    ≡ Some (25, (Took (codes "left") ∷ Closed ∷ []) ∷ (Took (codes "right") ∷ Closed ∷ []) ∷ [])
travel = refl

-- the second branch of a race, where the first has nothing
second_branch : told (0 ∷ 1 ∷ 2 ∷ []) (from_start 40 races_two_terminals (run ∷ (Process [], 1) ∷ service 0 ∷ service 1 ∷ service 2 ∷ []) ([] ∷ [] ∷ (codes "B" ∷ []) ∷ []))
    ≡ Some (7, [] ∷ [] ∷ (Sent (codes "B") ∷ []) ∷ [])
second_branch = refl

-- and both lines, where it has one: a call with an expression
races : told (0 ∷ 1 ∷ 2 ∷ []) (from_start 40 races_two_terminals (run ∷ (Process [], 1) ∷ service 0 ∷ service 1 ∷ service 2 ∷ []) ([] ∷ (codes "A" ∷ []) ∷ (codes "B" ∷ []) ∷ []))
    ≡ Some (23, (Took (codes "AB") ∷ Closed ∷ []) ∷ (Sent (codes "A") ∷ Closed ∷ []) ∷ (Sent (codes "B") ∷ Closed ∷ []) ∷ [])
races = refl

-- identities, with `neg` and without
links : told (0 ∷ []) (from_start 40 links_behind_a_send (run ∷ child 1 ∷ child 2 ∷ service 0 ∷ []) []) ≡ Some (16, (Took (codes "onetwo") ∷ Closed ∷ []) ∷ [])
links = refl

through_neg : told (0 ∷ []) (from_start 40 links_through_neg (run ∷ child 1 ∷ child 2 ∷ child 3 ∷ child 4 ∷ service 0 ∷ []) []) ≡ Some (18, (Took (codes "through neg") ∷ Closed ∷ []) ∷ [])
through_neg = refl
