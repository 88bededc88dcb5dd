-- What code found of a channel that a command names.
use Rattle.std.specs.Prelude.{Option, Some, None}
use Rattle.std.specs.Borrow.{Bor}
use Rattle.campl_tree.specs.declared.types.SeqType as code
use Rattle.campl_tree.specs.declared.types.ChanType as code_chan
use Rattle.campl_tree.specs.Plain.SeqType.{SeqType}
use Rattle.campl_tree.specs.Plain.ChanType.{ChanType}
use Rattle.campl_tree.specs.View.{view_seq, view_chan}
use Rattle.campl_types.specs.World.{World}
use Rattle.campl_types.specs.Polarity.{Choices, Deed, Puts, Gets, Forks, Splits, Picks, Offers, Ends, IsLinked}
use Rattle.campl_seqcheck.specs.Judged.{Fine, fine}
use Rattle.campl_linear.specs.Channels.{Used}
use Rattle.campl_held.specs.Chosen.{view_choices}
use Rattle.campl_held.specs.declared.deeds.Allowed.{Allowed}
use Rattle.campl_held.specs.declared.deeds.Allowed.TheVariants as a
use Rattle.campl_held.specs.declared.channel.HeldChannel.{HeldChannel}
use Rattle.campl_held.specs.declared.used.Message.{Message}
use Rattle.campl_held.specs.declared.used.Halves.{Halves}
use Rattle.campl_held.specs.declared.used.Pick.{Pick}
use Rattle.campl_held.specs.declared.used.Offer.{Offer}

-- the entry of the polarity table
abbrev pub view_allowed : World → Allowed → Deed
view_allowed w (a.Puts t x) = Puts (view_seq t.now) (view_chan x.now)
view_allowed w (a.Gets t x) = Gets (view_seq t.now) (view_chan x.now)
view_allowed w (a.Forks x y) = Forks (view_chan x.now) (view_chan y.now)
view_allowed w (a.Splits x y) = Splits (view_chan x.now) (view_chan y.now)
view_allowed w (a.Picks c) = Picks (view_choices w c)
view_allowed w (a.Offers c) = Offers (view_choices w c)
view_allowed w a.Ends = Ends
view_allowed w a.Linked = IsLinked

-- What a command may do, if it may

-- a value's type and what remains
abbrev pub view_two : Option (Bor code.SeqType × Bor code_chan.ChanType) → Option (SeqType × ChanType)
view_two None = None
view_two (Some p) = Some (view_seq p.0.now, view_chan p.1.now)

-- both halves
abbrev pub view_pair : Option (Bor code_chan.ChanType × Bor code_chan.ChanType) → Option (ChanType × ChanType)
view_pair None = None
view_pair (Some p) = Some (view_chan p.0.now, view_chan p.1.now)

-- nothing remains
abbrev pub view_end : Option (Unit {0}) → Option Fine
view_end None = None
view_end (Some u) = Some fine

-- A channel with what may be done there

-- where a value is sent or received
abbrev pub view_message : Message → Used (SeqType × ChanType)
view_message m = record { side = m.channel.now.side; held_type = view_chan m.channel.now.channel_type; may = (view_seq m.value.now, view_chan m.rest.now) }

-- where it is split, or a process forks
abbrev pub view_halves : Halves → Used (ChanType × ChanType)
view_halves m = record { side = m.channel.now.side; held_type = view_chan m.channel.now.channel_type; may = (view_chan m.first.now, view_chan m.second.now) }

-- where a constructor is sent
abbrev pub view_pick : Pick → Used ChanType
view_pick p = record { side = p.channel.now.side; held_type = view_chan p.channel.now.channel_type; may = view_chan p.rest }

-- where constructors are received
abbrev pub view_offer : World → Offer → Used Choices
view_offer w o = record { side = o.channel.now.side; held_type = view_chan o.channel.now.channel_type; may = view_choices w o.constructors }

-- where it ends
abbrev pub view_ending : Bor HeldChannel → Used Fine
view_ending c = record { side = c.now.side; held_type = view_chan c.now.channel_type; may = fine }
