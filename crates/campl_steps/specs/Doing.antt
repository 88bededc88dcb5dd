-- What a step does to the tables of a configuration.
use Rattle.std.specs.Prelude.{◌≡◌, ◌+◌, ◌*◌, ◌<◌, ◌≤◌, ℕ, List, [], ◌∷◌, Option, Some, None, drop, length, slice_get, vec_capacity}
use Rattle.campl_service.specs.Services.{Suits, want}
use Rattle.campl_cells.specs.Parts.{Life, Ended, Mail, Proc, Runs, Serves, Tip, or_bare, owner, written}
use Rattle.campl_cells.specs.Steps.{goes_on, peopled, sent}
use Rattle.campl_parts.specs.declared.part.ProcPart.{ProcPart}
use Rattle.campl_parts.specs.declared.inbox.EndPart.{EndPart}
use Rattle.campl_parts.specs.Serving.{IsRoomy, Says}
use Rattle.campl_parts.specs.Tables.{HasRoomFor, procs, tips}
use Rattle.campl_steps.specs.declared.config.Config.{Config}
use Rattle.campl_steps.specs.Configs.{drawn, more}

-- the end to which a message goes
abbrev pub owners : (ℕ → Option Tip) → Option (ℕ × Mail) → List ℕ
owners tip None = []
owners tip (Some s) = owner tip s.0 ∷ []

-- it is there
abbrev pub IsSendThere : List EndPart → Option (ℕ × Mail) → Type 0
IsSendThere es None = Unit {0}
IsSendThere es (Some s) = owner (tips es) s.0 < length es

-- there is room for a message at that end
abbrev pub HasInbox : List EndPart → Option (ℕ × Mail) → Type 0
HasInbox es None = Unit {0}
HasInbox es (Some s) = HasRoomFor es (owner (tips es) s.0) 1

-- there is room for a child, two channels and this message
pub record HasRoom (c : Config) (send : Option (ℕ × Mail)) : Type 0 where
  pub processes : length c.processes.items < vec_capacity c.processes
  pub ends : length c.ends.items + 4 ≤ vec_capacity c.ends
  pub inbox : HasInbox c.ends.items send

-- p went on as this life and bore this child and so many channels, and these ends were written
pub record Did (old new : Config) (p : ℕ) (life : Life) (child : Option Life) (channels : ℕ) (changes : List (ℕ × Tip)) : Type 0 where
  pub process : (q : Proc) → procs old.processes.items p ≡ Some q
      → procs new.processes.items ≡ written (peopled (drawn old) p q life child) (procs old.processes.items)
  pub tip : tips new.ends.items ≡ written changes (tips old.ends.items)
  pub processes : length new.processes.items ≡ length old.processes.items + more child 1
  pub ends : length new.ends.items ≡ length old.ends.items + 2 * channels

-- the oldest message is taken off an end
abbrev pub taken : (ℕ → Option Tip) → ℕ → List (ℕ × Tip)
taken tip e = (e, record { peer = (or_bare (tip e)).peer; inbox = drop 1 (or_bare (tip e)).inbox }) ∷ []

-- Services

-- the service at this place has the memory of its next step
abbrev pub IsRoomyAt : List ProcPart → ℕ → Type 0
IsRoomyAt ps k = (part : ProcPart) → slice_get ps k ≡ Some part → IsRoomy part.life

-- a service that is given what it waits for
abbrev pub IsGiven : Life → Option Mail → Type 0
IsGiven Ended given = ⊥
IsGiven (Runs h) given = ⊥
IsGiven (Serves e s) given = Suits (want s) given

-- one is there
abbrev pub IsGivenAt : Option Proc → Option Mail → Type 0
IsGivenAt None given = ⊥
IsGivenAt (Some q) given = IsGiven q.life given

-- the service p went on, and of its life this holds
pub record Served (Goes : Life → Life → Type 0) (old new : List ProcPart) (p : ℕ) (q : Proc) : Type 0 where
  pub life : Life
  pub goes : Goes q.life life
  pub process : procs new ≡ written ((p, goes_on q life) ∷ []) (procs old)

-- the service p went on as Goes says, and these ends were written
pub record DidAttend (old new : Config) (p : ℕ) (Goes : Life → Life → Type 0) (changes : List (ℕ × Tip)) : Type 0 where
  pub process : (q : Proc) → procs old.processes.items p ≡ Some q → Served Goes old.processes.items new.processes.items p q
  pub tip : tips new.ends.items ≡ written changes (tips old.ends.items)
  pub processes : length new.processes.items ≡ length old.processes.items
  pub ends : length new.ends.items ≡ length old.ends.items

-- a message that is sent on this end, if one is
abbrev pub on_end : ℕ → Option Mail → Option (ℕ × Mail)
on_end e None = None
on_end e (Some mail) = Some (e, mail)

-- the service p sent what it had to say on this end
pub record DidSay (old new : Config) (p end : ℕ) (changed : List ℕ) : Type 0 where
  pub said : Option Mail
  pub did : DidAttend old new p (Says said) (sent (on_end end said) (tips old.ends.items))
  pub at : changed ≡ owners (tips old.ends.items) (on_end end said)
