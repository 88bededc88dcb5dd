-- The plain parts that those in memory are seen as.
use Rattle.campl_meaning.specs.States as k
use Rattle.campl_kept.specs.View.{view_kept}
use Rattle.campl_cells.specs.Parts as c
use Rattle.campl_cells.specs.Steps as steps
use Rattle.campl_cells.specs.Wants as wants
use Rattle.campl_parts.specs.declared.entry.Kind.{Kind}
use Rattle.campl_parts.specs.declared.entry.Kind.TheVariants as v
use Rattle.campl_parts.specs.declared.entry.Entry.{Entry}
use Rattle.campl_parts.specs.declared.inbox.EndPart.{EndPart}
use Rattle.campl_parts.specs.declared.part.Running.{Running}
use Rattle.campl_parts.specs.declared.part.Life.{Life}
use Rattle.campl_parts.specs.declared.part.Life.TheVariants as l
use Rattle.campl_parts.specs.declared.part.ProcPart.{ProcPart}
use Rattle.campl_parts.specs.declared.part.Drawn.{Drawn}
use Rattle.campl_parts.specs.Ends.{ends_of}

abbrev pub kind_of : Kind → k.Kind
kind_of v.Work = k.Work
kind_of v.Call = k.Call
kind_of v.Case = k.Case
kind_of v.Put = k.Put
kind_of v.Get = k.Get
kind_of v.Pick = k.Pick'
kind_of v.Offer = k.Offer
kind_of v.Split = k.Split
kind_of v.Fork = k.Fork
kind_of v.Close = k.Close
kind_of v.Halt = k.Halt
kind_of v.Link = k.Link
kind_of v.Peel = k.Peel
kind_of (v.Choose branch) = k.Choose branch
kind_of v.ServePick = k.ServePick
kind_of v.ServeText = k.ServeText
kind_of v.ServeLine = k.ServeLine

abbrev pub tip_of : EndPart → c.Tip
tip_of e = record { peer = e.peer; inbox = e.inbox.items }

abbrev pub held_of : Running → c.Held
held_of r = record { block = r.block; ends = ends_of r.ends; kept = view_kept r.kept }

abbrev pub life_of : Life → c.Life
life_of l.Ended = c.Ended
life_of (l.Runs r) = c.Runs (held_of r.value)
life_of (l.Serves e service) = c.Serves e service.value.serving

abbrev pub proc_of : ProcPart → c.Proc
proc_of p = record { life = life_of p.life; parent = p.parent; born = p.born; steps = p.steps }

abbrev pub drawn_of : Drawn → wants.Drawn
drawn_of d = record { child = d.child; channel = d.channel; channel2 = d.channel2 }

abbrev pub entry_of : Entry → steps.Entry
entry_of e = record {
  process = e.process;
  kind = kind_of e.kind;
  weight = e.weight;
  end = e.end;
  second = e.second;
  message = e.message;
  child = e.child;
  channel = e.channel;
  channel2 = e.channel2;
}
