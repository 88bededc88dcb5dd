-- The journal of a run with a plug: its first entry bears a child and a channel, which the later ones name.
use Rattle.std.proofs.Common.{◌≡◌, List, [], ◌∷◌, refl, pos, Some, None}
use Rattle.std.specs.Prelude.{codes}
use Rattle.campl_machine.specs.Names.{Who, Process, Service, First, Second}
use Rattle.campl_types.specs.World.{World, world_of}
use Rattle.typed_sources.specs.SendsAhead.{sends_ahead}
use Rattle.campl_value.specs.Tree.{Int}
use Rattle.campl_value.specs.Text.{text_of}
use Rattle.campl_meaning.specs.States as s
use Rattle.campl_meaning.specs.Reductions.{Configuration}
use Rattle.campl_meaning.specs.Start.{start}
use Rattle.campl_meaning.specs.Journals.{Entry, ToldWord, ToldPick, Naming, IsRunOf, IsRunFromStart, naming_at_start, with_child, with_channel, steps_of}
use Rattle.worked_runs.proofs.Entries.{entry, bearing, made, then}

-- process 0 is `run`, 1 and 2 are the services of console and term, 3 is the child. Channels 0 and 1 are those of the services,
-- of which run has the ends 0 and 2, and channel 2 is the link, of which it has the end 4.
abbrev peels : Entry
peels = bearing 0 s.Peel None 3 2

abbrev puts : Entry
puts = entry 0 s.Put (Some 4) (Some (ToldWord (Int (pos 7))))

abbrev closes : Entry
closes = entry 0 s.Close (Some 4) None

abbrev picks : Entry
picks = entry 0 s.Pick' (Some 0) (Some (ToldPick 0))

abbrev prints : Entry
prints = entry 0 s.Put (Some 0) (Some (ToldWord (text_of (codes "ahead"))))

abbrev picks-close : Entry
picks-close = entry 0 s.Pick' (Some 0) (Some (ToldPick 2))

abbrev halts : Entry
halts = entry 0 s.Halt (Some 0) None

abbrev asks : Entry
asks = entry 3 s.Pick' (Some 2) (Some (ToldPick 0))

abbrev offers : Entry
offers = entry 1 s.ServePick (Some 1) (Some (ToldPick 0))

abbrev gets : Entry
gets = entry 1 s.ServeText (Some 1) (Some (ToldWord (text_of (codes "ahead"))))

abbrev ends : Entry
ends = entry 1 s.ServePick (Some 1) (Some (ToldPick 2))

abbrev is-asked : Entry
is-asked = entry 2 s.ServePick (Some 3) (Some (ToldPick 0))

abbrev pub journal : List Entry
journal = peels ∷ puts ∷ closes ∷ picks ∷ prints ∷ picks-close ∷ halts ∷ asks ∷ offers ∷ gets ∷ ends ∷ is-asked ∷ []

abbrev w : World
w = world_of sends_ahead

abbrev runs : Who
runs = Process []

abbrev born : Who
born = Process (record { step = 1; place = 1 } ∷ [])

abbrev console : Who
console = Service 0

abbrev term : Who
term = Service 1

-- the configurations between the entries
abbrev at0 : Configuration
at0 = start w []

abbrev at1 : Configuration
at1 = (made w at0 runs).1

abbrev at2 : Configuration
at2 = (made w at1 runs).1

abbrev at3 : Configuration
at3 = (made w at2 runs).1

abbrev at4 : Configuration
at4 = (made w at3 runs).1

abbrev at5 : Configuration
at5 = (made w at4 runs).1

abbrev at6 : Configuration
at6 = (made w at5 runs).1

abbrev at7 : Configuration
at7 = (made w at6 runs).1

abbrev at8 : Configuration
at8 = (made w at7 born).1

abbrev at9 : Configuration
at9 = (made w at8 console).1

abbrev at10 : Configuration
at10 = (made w at9 console).1

abbrev at11 : Configuration
at11 = (made w at10 console).1

abbrev at12 : Configuration
at12 = (made w at11 term).1

abbrev first : Naming
first = naming_at_start w

abbrev with-born : Naming
with-born = with_child 3 born first

abbrev names : Naming
names = with_channel 2 (record { bearer = []; step = 1; channel = 1; half = First }, record { bearer = []; step = 1; channel = 1; half = Second }) with-born

over : IsRunOf w names at12 [] names at12
over = (refl, refl)

pub is-run : IsRunFromStart w [] journal at12
is-run = (
  names,
  then w first names names at0 at12 runs peels (puts ∷ closes ∷ picks ∷ prints ∷ picks-close ∷ halts ∷ asks ∷ offers ∷ gets ∷ ends ∷ is-asked ∷ []) refl refl (record { kind = refl; process = refl; between = with-born; child = (refl, refl); channels = (refl, refl); end = tt; second = tt; message = tt })
      (then w names names names at1 at12 runs puts (closes ∷ picks ∷ prints ∷ picks-close ∷ halts ∷ asks ∷ offers ∷ gets ∷ ends ∷ is-asked ∷ []) refl refl (record { kind = refl; process = refl; between = names; child = refl; channels = refl; end = refl; second = tt; message = refl })
      (then w names names names at2 at12 runs closes (picks ∷ prints ∷ picks-close ∷ halts ∷ asks ∷ offers ∷ gets ∷ ends ∷ is-asked ∷ []) refl refl (record { kind = refl; process = refl; between = names; child = refl; channels = refl; end = refl; second = tt; message = tt })
      (then w names names names at3 at12 runs picks (prints ∷ picks-close ∷ halts ∷ asks ∷ offers ∷ gets ∷ ends ∷ is-asked ∷ []) refl refl (record { kind = refl; process = refl; between = names; child = refl; channels = refl; end = refl; second = tt; message = refl })
      (then w names names names at4 at12 runs prints (picks-close ∷ halts ∷ asks ∷ offers ∷ gets ∷ ends ∷ is-asked ∷ []) refl refl (record { kind = refl; process = refl; between = names; child = refl; channels = refl; end = refl; second = tt; message = refl })
      (then w names names names at5 at12 runs picks-close (halts ∷ asks ∷ offers ∷ gets ∷ ends ∷ is-asked ∷ []) refl refl (record { kind = refl; process = refl; between = names; child = refl; channels = refl; end = refl; second = tt; message = refl })
      (then w names names names at6 at12 runs halts (asks ∷ offers ∷ gets ∷ ends ∷ is-asked ∷ []) refl refl (record { kind = refl; process = refl; between = names; child = refl; channels = refl; end = refl; second = tt; message = tt })
      (then w names names names at7 at12 born asks (offers ∷ gets ∷ ends ∷ is-asked ∷ []) refl refl (record { kind = refl; process = refl; between = names; child = refl; channels = refl; end = refl; second = tt; message = refl })
      (then w names names names at8 at12 console offers (gets ∷ ends ∷ is-asked ∷ []) refl refl (record { kind = refl; process = refl; between = names; child = refl; channels = refl; end = refl; second = tt; message = refl })
      (then w names names names at9 at12 console gets (ends ∷ is-asked ∷ []) refl refl (record { kind = refl; process = refl; between = names; child = refl; channels = refl; end = refl; second = tt; message = refl })
      (then w names names names at10 at12 console ends (is-asked ∷ []) refl refl (record { kind = refl; process = refl; between = names; child = refl; channels = refl; end = refl; second = tt; message = refl })
      (then w names names names at11 at12 term is-asked ([]) refl refl (record { kind = refl; process = refl; between = names; child = refl; channels = refl; end = refl; second = tt; message = refl })
      over))))))))))),
)

pub twelve : steps_of journal ≡ 12
twelve = refl
