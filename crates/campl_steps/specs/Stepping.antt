-- What is made of what was made ready.
use Rattle.std.specs.Prelude.{◌≡◌, ℕ, Bool, true, false, Option, Some, Result, Ok, Err}
use Rattle.std.specs.declared.alloc.AllocError.{AllocError}
use Rattle.campl_code.specs.Instructions.{Code}
use Rattle.campl_cells.specs.Parts.{Proc}
use Rattle.campl_cells.specs.Wants.{wanted}
use Rattle.campl_parts.specs.declared.entry.Entry.{Entry}
use Rattle.campl_parts.specs.Tables.{procs, tips}
use Rattle.campl_steps.specs.declared.config.Config.{Config}
use Rattle.campl_steps.specs.declared.made.Made.{Made}
use Rattle.campl_steps.specs.declared.made.Changed.{Changed}
use Rattle.campl_steps.specs.declared.plan.Ready.{Ready}
use Rattle.campl_steps.specs.declared.plan.Ready.TheVariants as r
use Rattle.campl_steps.specs.Configs.{drawn}
use Rattle.campl_steps.specs.Readiness.{IsReadyFor}

-- the next step of p by the branch i comes to this
pub record ComesTo (code : Code) (p i : ℕ) (c : Config) (what : Ready) : Type 0 where
  pub process : Proc
  pub there : procs c.processes.items p ≡ Some process
  pub ready : IsReadyFor code (tips c.ends.items) (wanted code (drawn c) process.life i) what

-- there is a step
abbrev pub is_step : Ready → Bool
is_step r.Still = false
is_step (r.Moves kind end borne told planned) = true
is_step (r.Looks kind takes end told next) = true
is_step (r.Links end second first_peer second_peer) = true
is_step (r.Hears kind end told message) = true
is_step (r.Says end told) = true

-- a step that was made, with its entry
abbrev pub made_of : Entry → Result Changed AllocError → Result (Option Made) AllocError
made_of entry (Ok changed) = Ok (Some (record { entry = entry; changed = changed }))
made_of entry (Err error) = Err error
