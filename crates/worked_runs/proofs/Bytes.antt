-- What runs print that don't finish: a spent script, and a value too deep.
use Rattle.std.proofs.Common.{◌≡◌, [], ◌∷◌, refl}
use Rattle.std.specs.Prelude.{codes}
use Rattle.std.specs.Fmt.{digits}
use lib.Utf8
use Rattle.typed_sources.specs.ReadsALine.{reads_a_line}
use Rattle.typed_sources.specs.RacesTwoTerminals.{races_two_terminals}
use Rattle.campl_types.specs.World.{world_of}
use Rattle.campl_machine.specs.Names.{Process}
use Rattle.campl_meaning.specs.Reductions.{Configuration}
use Rattle.campl_meaning.specs.Start.{start}
use Rattle.campl_meaning.specs.Ends.{Awaiting, Broken}
use Rattle.campl_meaning.specs.Output.{output_of}
use Rattle.worked_runs.specs.Turns.{gone, run, service, told}
use Rattle.worked_runs.specs.Deep.{prints_deep}

-- a line is wanted, and there is none
line-wanted : Configuration
line-wanted = (gone 20 (world_of reads_a_line) (run ∷ service 0 ∷ []) 0 (start (world_of reads_a_line) [])).1

awaits : output_of (world_of reads_a_line) line-wanted Awaiting 2 ≡ codes "channel console\nawaiting console after 2 steps\n"
unfolding line-wanted digits lib.Utf8.encode
awaits = refl

-- behind the second branch of a race its other terminal is wanted no more, and the first one's script is spent
one-line : Configuration
one-line = (gone 40 (world_of races_two_terminals) (run ∷ (Process [], 1) ∷ service 0 ∷ service 1 ∷ service 2 ∷ []) 0 (start (world_of races_two_terminals) ([] ∷ [] ∷ (codes "B" ∷ []) ∷ []))).1

awaits-one : output_of (world_of races_two_terminals) one-line Awaiting 7 ≡ codes "channel console\nchannel t1\nchannel t2\n< B\nawaiting t1 after 7 steps\n"
unfolding one-line digits lib.Utf8.encode
awaits-one = refl

-- a text of 4,096 letters is a list of depth 4,097, so the process that prints it is broken behind the choice to print
too-deep : Configuration
too-deep = (gone 10 (world_of (prints_deep 4096)) (run ∷ service 0 ∷ []) 0 (start (world_of (prints_deep 4096)) [])).1

breaks : told (0 ∷ []) (gone 10 (world_of (prints_deep 4096)) (run ∷ service 0 ∷ []) 0 (start (world_of (prints_deep 4096)) [])) ≡ (2, [] ∷ [])
breaks = refl

broken : output_of (world_of (prints_deep 4096)) too-deep Broken 2 ≡ codes "channel console\nbroken after 2 steps\n"
unfolding too-deep digits lib.Utf8.encode
broken = refl
