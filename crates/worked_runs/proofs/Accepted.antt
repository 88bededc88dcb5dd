-- Accepted sources, by judging them: the laws are of these.
use Rattle.std.proofs.Common.{refl}
use Rattle.typed_sources.specs.PrintsHello.{prints_hello}
use Rattle.typed_sources.specs.ReadsALine.{reads_a_line}
use Rattle.typed_sources.specs.SendsAhead.{sends_ahead}
use Rattle.typed_sources.specs.EndsTravel.{ends_travel}
use Rattle.typed_sources.specs.LinksBehindASend.{links_behind_a_send}
use Rattle.typed_sources.specs.RacesTwoTerminals.{races_two_terminals}
use Rattle.typed_sources.specs.UsesAllCommands.{uses_all_commands}
use Rattle.campl_meaning.specs.Lawful.{IsAccepted}
use Rattle.campl_laws.proofs.Passed.{passed}

pub hello : IsAccepted prints_hello
hello = passed prints_hello refl refl refl

reads : IsAccepted reads_a_line
reads = passed reads_a_line refl refl refl

-- its parts send and take
ahead : IsAccepted sends_ahead
ahead = passed sends_ahead refl refl refl

-- a fork and a split
travel : IsAccepted ends_travel
travel = passed ends_travel refl refl refl

-- an identity
links : IsAccepted links_behind_a_send
links = passed links_behind_a_send refl refl refl

races : IsAccepted races_two_terminals
races = passed races_two_terminals refl refl refl

all : IsAccepted uses_all_commands
all = passed uses_all_commands refl refl refl
