use Rattle.std.proofs.Common.{map}
use Rattle.campl_tree.specs.View.{view_expr, view_decl}
use Rattle.campl_gen_channels.specs.View.{view_channels}
use Rattle.campl_gen_bodies.specs.View.{view_making}
use Rattle.campl_gen_bodies.proofs.Turns.{put-on, get-on, hput-on, split-on, close-on}
use Rattle.campl_gen_bodies.proofs.actions.act.Goals as goal

pub returns-in_ok-put-in-Put : goal.returns-in_ok-put-in-Put
returns-in_ok-put-in-Put c =
    rw c.in-Put.is
    (put-on (map view_decl c.args.known.now) c.in-Put.field-0 c.args.held.now.next (view_channels c.args.held.now) (view_making c.args.making.now) (view_making c.put.new.making) (view_expr c.in-Put.e) c.in-Put.x c.in_ok-put-in-Put.ensures)

pub returns-in_ok-get-in-Get : goal.returns-in_ok-get-in-Get
returns-in_ok-get-in-Get c =
    rw c.in-Get.is
    (get-on (map view_decl c.args.known.now) c.in-Get.field-0 c.args.held.now.next (view_channels c.args.held.now) (view_making c.args.making.now) (view_making c.get.new.making) c.in-Get.v c.in-Get.x c.in_ok-get-in-Get.ensures)

pub returns-in_ok-hput-in-Hput : goal.returns-in_ok-hput-in-Hput
returns-in_ok-hput-in-Hput c =
    rw c.in-Hput.is
    (hput-on (map view_decl c.args.known.now) c.in-Hput.field-0 c.args.held.now.next (view_channels c.args.held.now) (view_making c.args.making.now) (view_making c.hput.new.making) c.in-Hput.k c.in-Hput.x c.in_ok-hput-in-Hput.ensures)

pub returns-in_ok-split-in-Split : goal.returns-in_ok-split-in-Split
returns-in_ok-split-in-Split c =
    rw c.in-Split.is
    (split-on (map view_decl c.args.known.now) c.in-Split.field-0 c.args.held.now.next (view_channels c.args.held.now) (view_making c.args.making.now) (view_making c.split.new.making) c.in-Split.x c.in-Split.y c.in-Split.z c.split.new.held.next
    (view_channels c.split.new.held) c.in_ok-split-in-Split.ensures.next c.in_ok-split-in-Split.ensures.held c.in_ok-split-in-Split.ensures.made)

pub returns-in_ok-close-in-Close : goal.returns-in_ok-close-in-Close
returns-in_ok-close-in-Close c =
    rw c.in-Close.is
    (close-on (map view_decl c.args.known.now) c.in-Close.field-0 c.args.held.now.next (view_channels c.args.held.now) (view_making c.args.making.now) (view_making c.close.new.making) c.in-Close.x c.close.new.held.next (view_channels c.close.new.held)
    c.in_ok-close-in-Close.ensures.next c.in_ok-close-in-Close.ensures.held c.in_ok-close-in-Close.ensures.made)
