-- What the runs print that finish, and one that awaits a line: the bytes of their output.
use Rattle.std.proofs.Common.{◌≡◌, [], ◌∷◌, refl}
use Rattle.std.specs.Prelude.{codes}
use Rattle.std.specs.Fmt.{digits}
use lib.Utf8
use Rattle.typed_sources.specs.HaltsAtOnce.{halts_at_once}
use Rattle.typed_sources.specs.ReadsALine.{reads_a_line}
use Rattle.typed_sources.specs.SendsAhead.{sends_ahead}
use Rattle.typed_sources.specs.EndsTravel.{ends_travel}
use Rattle.typed_sources.specs.LinksBehindASend.{links_behind_a_send}
use Rattle.typed_sources.specs.LinksThroughNeg.{links_through_neg}
use Rattle.typed_sources.specs.RacesTwoTerminals.{races_two_terminals}
use Rattle.campl_types.specs.World.{world_of}
use Rattle.campl_machine.specs.Names.{Process}
use Rattle.campl_meaning.specs.Reductions.{Configuration}
use Rattle.campl_meaning.specs.Start.{start}
use Rattle.campl_meaning.specs.Ends.{Finished, Awaiting}
use Rattle.campl_meaning.specs.Output.{output_of}
use Rattle.worked_runs.specs.Turns.{gone, run, child, service}

halted : Configuration
halted = (gone 10 (world_of halts_at_once) (run ∷ []) 0 (start (world_of halts_at_once) [])).1

halted-prints : output_of (world_of halts_at_once) halted Finished 1 ≡ codes "finished after 1 steps\n"
unfolding halted digits lib.Utf8.encode
halted-prints = refl

read : Configuration
read = (gone 20 (world_of reads_a_line) (run ∷ service 0 ∷ []) 0 (start (world_of reads_a_line) ((codes "hi" ∷ []) ∷ []))).1

read-prints : output_of (world_of reads_a_line) read Finished 7 ≡ codes "channel console\n< hi\nclosed\nfinished after 7 steps\n"
unfolding read digits lib.Utf8.encode
read-prints = refl

sent : Configuration
sent = (gone 30 (world_of sends_ahead) (run ∷ child 1 ∷ service 0 ∷ service 1 ∷ []) 0 (start (world_of sends_ahead) [])).1

sent-prints : output_of (world_of sends_ahead) sent Awaiting 12 ≡ codes "channel console\n> ahead\nclosed\nchannel term\nawaiting term after 12 steps\n"
unfolding sent digits lib.Utf8.encode
sent-prints = refl

travelled : Configuration
travelled = (gone 40 (world_of ends_travel) (run ∷ child 1 ∷ child 2 ∷ service 0 ∷ service 1 ∷ []) 0 (start (world_of ends_travel) [])).1

travelled-prints : output_of (world_of ends_travel) travelled Finished 25 ≡ codes "channel k1\n> left\nclosed\nchannel k2\n> right\nclosed\nfinished after 25 steps\n"
unfolding travelled digits lib.Utf8.encode
travelled-prints = refl

linked : Configuration
linked = (gone 40 (world_of links_behind_a_send) (run ∷ child 1 ∷ child 2 ∷ service 0 ∷ []) 0 (start (world_of links_behind_a_send) [])).1

linked-prints : output_of (world_of links_behind_a_send) linked Finished 16 ≡ codes "channel console\n> onetwo\nclosed\nfinished after 16 steps\n"
unfolding linked digits lib.Utf8.encode
linked-prints = refl

negated : Configuration
negated = (gone 40 (world_of links_through_neg) (run ∷ child 1 ∷ child 2 ∷ child 3 ∷ child 4 ∷ service 0 ∷ []) 0 (start (world_of links_through_neg) [])).1

negated-prints : output_of (world_of links_through_neg) negated Finished 18 ≡ codes "channel console\n> through neg\nclosed\nfinished after 18 steps\n"
unfolding negated digits lib.Utf8.encode
negated-prints = refl

raced : Configuration
raced = (gone 40 (world_of races_two_terminals) (run ∷ (Process [], 1) ∷ service 0 ∷ service 1 ∷ service 2 ∷ []) 0 (start (world_of races_two_terminals) ([] ∷ (codes "A" ∷ []) ∷ (codes "B" ∷ []) ∷ []))).1

raced-prints : output_of (world_of races_two_terminals) raced Finished 23 ≡ codes "channel console\n> AB\nclosed\nchannel t1\n< A\nclosed\nchannel t2\n< B\nclosed\nfinished after 23 steps\n"
unfolding raced digits lib.Utf8.encode
raced-prints = refl
