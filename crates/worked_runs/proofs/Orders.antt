-- The same runs in another order, services and the youngest process first: as many steps, and the same transcripts.
use Rattle.std.proofs.Common.{◌≡◌, refl, [], ◌∷◌}
use Rattle.std.specs.Prelude.{codes}
use Rattle.typed_sources.specs.PrintsHello.{prints_hello}
use Rattle.typed_sources.specs.ReadsALine.{reads_a_line}
use Rattle.typed_sources.specs.SendsAhead.{sends_ahead}
use Rattle.typed_sources.specs.EndsTravel.{ends_travel}
use Rattle.typed_sources.specs.LinksBehindASend.{links_behind_a_send}
use Rattle.typed_sources.specs.LinksThroughNeg.{links_through_neg}
use Rattle.campl_types.specs.World.{world_of}
use Rattle.campl_service.specs.Transcripts.{Took, Sent, Closed}
use Rattle.campl_meaning.specs.Start.{start}
use Rattle.worked_runs.specs.Turns.{gone, run, child, service, told}

hello : told (0 ∷ []) (gone 10 (world_of prints_hello) (service 0 ∷ run ∷ []) 0 (start (world_of prints_hello) [])) ≡ (7, (Took (codes "Hello") ∷ Closed ∷ []) ∷ [])
hello = refl

reads : told (0 ∷ []) (gone 20 (world_of reads_a_line) (service 0 ∷ run ∷ []) 0 (start (world_of reads_a_line) ((codes "hi" ∷ []) ∷ []))) ≡ (7, (Sent (codes "hi") ∷ Closed ∷ []) ∷ [])
reads = refl

ahead : told (0 ∷ 1 ∷ []) (gone 30 (world_of sends_ahead) (service 1 ∷ service 0 ∷ child 1 ∷ run ∷ []) 0 (start (world_of sends_ahead) []))
    ≡ (12, (Took (codes "ahead") ∷ Closed ∷ []) ∷ [] ∷ [])
ahead = refl

travel : told (0 ∷ 1 ∷ []) (gone 40 (world_of ends_travel) (service 1 ∷ service 0 ∷ child 2 ∷ child 1 ∷ run ∷ []) 0 (start (world_of ends_travel) []))
    ≡ (25, (Took (codes "left") ∷ Closed ∷ []) ∷ (Took (codes "right") ∷ Closed ∷ []) ∷ [])
travel = refl

-- An identity behind a send, first with the receiver waiting already, then with the message under way

waits : told (0 ∷ []) (gone 40 (world_of links_behind_a_send) (service 0 ∷ child 1 ∷ run ∷ child 2 ∷ []) 0 (start (world_of links_behind_a_send) []))
    ≡ (16, (Took (codes "onetwo") ∷ Closed ∷ []) ∷ [])
waits = refl

under-way : told (0 ∷ []) (gone 40 (world_of links_behind_a_send) (service 0 ∷ child 2 ∷ child 1 ∷ run ∷ []) 0 (start (world_of links_behind_a_send) []))
    ≡ (16, (Took (codes "onetwo") ∷ Closed ∷ []) ∷ [])
under-way = refl

-- Identities with `neg` and without, youngest process first, and oldest last but one

negated : told (0 ∷ []) (gone 40 (world_of links_through_neg) (service 0 ∷ child 4 ∷ child 3 ∷ child 2 ∷ child 1 ∷ run ∷ []) 0 (start (world_of links_through_neg) []))
    ≡ (18, (Took (codes "through neg") ∷ Closed ∷ []) ∷ [])
negated = refl

negated-first : told (0 ∷ []) (gone 40 (world_of links_through_neg) (service 0 ∷ child 2 ∷ child 3 ∷ run ∷ child 1 ∷ child 4 ∷ []) 0 (start (world_of links_through_neg) []))
    ≡ (18, (Took (codes "through neg") ∷ Closed ∷ []) ∷ [])
negated-first = refl
