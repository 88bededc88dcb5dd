-- The journal of the run that prints Hello: its entries are a run from the start.
use Rattle.std.proofs.Common.{◌≡◌, List, [], ◌∷◌, refl, Some, None}
use Rattle.std.specs.Prelude.{codes}
use Rattle.campl_machine.specs.Names.{Who, Process, Service}
use Rattle.campl_types.specs.World.{World, world_of}
use Rattle.typed_sources.specs.PrintsHello.{prints_hello}
use Rattle.campl_value.specs.Text.{text_of}
use Rattle.campl_meaning.specs.States as s
use Rattle.campl_meaning.specs.Reductions.{Configuration}
use Rattle.campl_meaning.specs.Start.{start}
use Rattle.campl_meaning.specs.Journals.{Entry, ToldWord, ToldPick, Naming, IsRunOf, IsRunFromStart, naming_at_start, steps_of}
use Rattle.worked_runs.proofs.Entries.{entry, made, then}

-- process 0 is `run`, 1 is the service of its console, and channel 0 has the ends 0 and 1
abbrev picks : Entry
picks = entry 0 s.Pick' (Some 0) (Some (ToldPick 0))

abbrev offers : Entry
offers = entry 1 s.ServePick (Some 1) (Some (ToldPick 0))

abbrev puts : Entry
puts = entry 0 s.Put (Some 0) (Some (ToldWord (text_of (codes "Hello"))))

abbrev gets : Entry
gets = entry 1 s.ServeText (Some 1) (Some (ToldWord (text_of (codes "Hello"))))

abbrev picks-close : Entry
picks-close = entry 0 s.Pick' (Some 0) (Some (ToldPick 2))

abbrev closes : Entry
closes = entry 1 s.ServePick (Some 1) (Some (ToldPick 2))

abbrev halts : Entry
halts = entry 0 s.Halt (Some 0) None

abbrev pub journal : List Entry
journal = picks ∷ offers ∷ puts ∷ gets ∷ picks-close ∷ closes ∷ halts ∷ []

abbrev w : World
w = world_of prints_hello

abbrev names : Naming
names = naming_at_start w

abbrev runs : Who
runs = Process []

abbrev serves : Who
serves = Service 0

-- the configurations between the entries
abbrev at0 : Configuration
at0 = start w []

abbrev at1 : Configuration
at1 = (made w at0 runs).1

abbrev at2 : Configuration
at2 = (made w at1 serves).1

abbrev at3 : Configuration
at3 = (made w at2 runs).1

abbrev at4 : Configuration
at4 = (made w at3 serves).1

abbrev at5 : Configuration
at5 = (made w at4 runs).1

abbrev at6 : Configuration
at6 = (made w at5 serves).1

abbrev at7 : Configuration
at7 = (made w at6 runs).1

over : IsRunOf w names at7 [] names at7
over = (refl, refl)

pub is-run : IsRunFromStart w [] journal at7
is-run = (
  names,
  then w names names names at0 at7 runs picks (offers ∷ puts ∷ gets ∷ picks-close ∷ closes ∷ halts ∷ []) refl refl (record { kind = refl; process = refl; between = names; child = refl; channels = refl; end = refl; second = tt; message = refl })
      (then w names names names at1 at7 serves offers (puts ∷ gets ∷ picks-close ∷ closes ∷ halts ∷ []) refl refl (record { kind = refl; process = refl; between = names; child = refl; channels = refl; end = refl; second = tt; message = refl })
      (then w names names names at2 at7 runs puts (gets ∷ picks-close ∷ closes ∷ halts ∷ []) refl refl (record { kind = refl; process = refl; between = names; child = refl; channels = refl; end = refl; second = tt; message = refl })
      (then w names names names at3 at7 serves gets (picks-close ∷ closes ∷ halts ∷ []) refl refl (record { kind = refl; process = refl; between = names; child = refl; channels = refl; end = refl; second = tt; message = refl })
      (then w names names names at4 at7 runs picks-close (closes ∷ halts ∷ []) refl refl (record { kind = refl; process = refl; between = names; child = refl; channels = refl; end = refl; second = tt; message = refl })
      (then w names names names at5 at7 serves closes (halts ∷ []) refl refl (record { kind = refl; process = refl; between = names; child = refl; channels = refl; end = refl; second = tt; message = refl })
      (then w names names names at6 at7 runs halts ([]) refl refl (record { kind = refl; process = refl; between = names; child = refl; channels = refl; end = refl; second = tt; message = tt })
      over)))))),
)

pub seven : steps_of journal ≡ 7
seven = refl
