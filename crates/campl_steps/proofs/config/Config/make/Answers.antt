use Rattle.std.proofs.Common.{arith, None, option_map, subst, sym, ◌∙◌}
use Rattle.campl_cells.specs.Steps.{first_of, second_of}
use Rattle.campl_parts.specs.declared.part.Life.{Life}
use Rattle.campl_parts.specs.Views.{kind_of}
use Rattle.campl_steps.specs.Configs.{Stepped}
use Rattle.campl_steps.specs.Readiness.{borne_channels}
use Rattle.campl_steps.specs.Stepping.{ComesTo}
use Rattle.campl_steps.proofs.Arms.{move-send, look-end, link-ends, link-apart, hear-end, hear-given, move-stepped, look-stepped, link-stepped, hear-stepped, say-end, say-stepped}
use Rattle.campl_steps.proofs.config.Config.make.Goals as goal

pub apply_move-requires-clause-send : goal.apply_move-requires-clause-send
apply_move-requires-clause-send c =
    let old = c.args.self.now in
    let (code, i, z) = c.requires.ready in
    move-send old c.requires.wired code c.args.number i c.in-Moves.kind c.in-Moves.end c.in-Moves.borne c.in-Moves.told c.in-Moves.planned (subst (ComesTo code c.args.number i old) c.in-Moves.is z)

pub apply_look-requires-clause-end : goal.apply_look-requires-clause-end
apply_look-requires-clause-end c =
    let old = c.args.self.now in
    let (code, i, z) = c.requires.ready in
    let h = look-end old c.requires.wired code c.args.number i c.in-Looks.kind c.in-Looks.takes c.in-Looks.end c.in-Looks.told c.in-Looks.next (subst (ComesTo code c.args.number i old) c.in-Looks.is z) in
    let l = old.ends.ok.0 in omega (arith, h, l)

pub apply_link-linked-requires-clause-end : goal.apply_link-linked-requires-clause-end
apply_link-linked-requires-clause-end c =
    let old = c.args.self.now in
    let (code, i, z) = c.requires.ready in
    let all = link-ends old c.requires.wired code c.args.number i c.in-Links.end c.in-Links.second c.in-Links.first_peer c.in-Links.second_peer (subst (ComesTo code c.args.number i old) c.in-Links.is z) in
    let h = all.0 in
    let l = old.ends.ok.0 in omega (arith, h, l)

pub apply_link-linked-requires-clause-second : goal.apply_link-linked-requires-clause-second
apply_link-linked-requires-clause-second c =
    let old = c.args.self.now in
    let (code, i, z) = c.requires.ready in
    let all = link-ends old c.requires.wired code c.args.number i c.in-Links.end c.in-Links.second c.in-Links.first_peer c.in-Links.second_peer (subst (ComesTo code c.args.number i old) c.in-Links.is z) in
    let h = all.1 in
    let l = old.ends.ok.0 in omega (arith, h, l)

pub apply_link-linked-requires-clause-first_peer : goal.apply_link-linked-requires-clause-first_peer
apply_link-linked-requires-clause-first_peer c =
    let old = c.args.self.now in
    let (code, i, z) = c.requires.ready in
    let all = link-ends old c.requires.wired code c.args.number i c.in-Links.end c.in-Links.second c.in-Links.first_peer c.in-Links.second_peer (subst (ComesTo code c.args.number i old) c.in-Links.is z) in
    let h = all.2 in
    let l = old.ends.ok.0 in omega (arith, h, l)

pub apply_link-linked-requires-clause-second_peer : goal.apply_link-linked-requires-clause-second_peer
apply_link-linked-requires-clause-second_peer c =
    let old = c.args.self.now in
    let (code, i, z) = c.requires.ready in
    let all = link-ends old c.requires.wired code c.args.number i c.in-Links.end c.in-Links.second c.in-Links.first_peer c.in-Links.second_peer (subst (ComesTo code c.args.number i old) c.in-Links.is z) in
    let h = all.3 in
    let l = old.ends.ok.0 in omega (arith, h, l)

pub apply_link-linked-requires-clause-apart : goal.apply_link-linked-requires-clause-apart
apply_link-linked-requires-clause-apart c =
    let old = c.args.self.now in
    let (code, i, z) = c.requires.ready in
    link-apart old c.requires.wired code c.args.number i c.in-Links.end c.in-Links.second c.in-Links.first_peer c.in-Links.second_peer (subst (ComesTo code c.args.number i old) c.in-Links.is z)

pub apply_hearing-requires-clause-end : goal.apply_hearing-requires-clause-end
apply_hearing-requires-clause-end c =
    let old = c.args.self.now in
    let (code, i, z) = c.requires.ready in
    let h = hear-end old c.requires.wired code c.args.number i c.in-Hears.kind c.in-Hears.end c.in-Hears.told c.in-Hears.message (subst (ComesTo code c.args.number i old) c.in-Hears.is z) in
    let l = old.ends.ok.0 in omega (arith, h, l)

pub apply_hearing-requires-clause-given : goal.apply_hearing-requires-clause-given
apply_hearing-requires-clause-given c =
    let old = c.args.self.now in
    let (code, i, z) = c.requires.ready in
    hear-given old c.requires.wired code c.args.number i c.in-Hears.kind c.in-Hears.end c.in-Hears.told c.in-Hears.message (subst (ComesTo code c.args.number i old) c.in-Hears.is z)

pub apply_saying-requires-clause-end : goal.apply_saying-requires-clause-end
apply_saying-requires-clause-end c =
    let old = c.args.self.now in
    let (code, i, z) = c.requires.ready in
    let h = say-end old c.requires.wired code c.args.number i c.in-Says.end c.in-Says.told (subst (ComesTo code c.args.number i old) c.in-Says.is z) in
    let l = old.ends.ok.0 in omega (arith, h, l)

pub returns-in-Moves : goal.returns-in-Moves
returns-in-Moves c code i z =
    let old = c.args.self.now in
    let p = c.args.number in
    let m = c.in-Moves in
    subst (Stepped code p i old c.apply_move.new.self) (sym c.made.ensures)
    (move-stepped old c.requires.wired code p i m.kind m.end m.borne m.told m.planned (subst (ComesTo code p i old) m.is z) c.apply_move.new.self c.of_move-entry.result c.apply_move.result
    (c.of_move-entry.ensures ∙ (λ j. record {
      process = p;
      kind = kind_of m.kind;
      weight = 1;
      end = m.end;
      second = None;
      message = m.told;
      child = option_map (λ (l : Life). (c.requires.drawn j).child) m.planned.child;
      channel = first_of (borne_channels (c.requires.drawn j) m.borne);
      channel2 = second_of (borne_channels (c.requires.drawn j) m.borne);
    }))
    c.apply_move.ensures.changed c.apply_move.ensures.did c.apply_move.ensures.err)

pub returns-in-Looks : goal.returns-in-Looks
returns-in-Looks c code i z =
    let old = c.args.self.now in
    let p = c.args.number in
    let m = c.in-Looks in
    subst (Stepped code p i old c.apply_look.new.self) (sym c.made-in-Looks.ensures)
    (look-stepped old c.requires.wired code p i m.kind m.takes m.end m.told m.next (subst (ComesTo code p i old) m.is z) c.apply_look.new.self c.at_end-entry.result c.apply_look.result
    c.at_end-entry.ensures c.apply_look.ensures.changed c.apply_look.ensures.did)

pub returns-in-Links : goal.returns-in-Links
returns-in-Links c code i z =
    let old = c.args.self.now in
    let p = c.args.number in
    let m = c.in-Links in
    subst (Stepped code p i old c.apply_link-linked.new.self) (sym c.made-in-Links.ensures)
    (link-stepped old c.requires.wired code p i m.end m.second m.first_peer m.second_peer (subst (ComesTo code p i old) m.is z) c.apply_link-linked.new.self c.of_link-entry.result c.apply_link-linked.result
    c.of_link-entry.ensures c.apply_link-linked.ensures.changed c.apply_link-linked.ensures.did c.apply_link-linked.ensures.err)

pub returns-in-Hears : goal.returns-in-Hears
returns-in-Hears c code i z =
    let old = c.args.self.now in
    let p = c.args.number in
    let m = c.in-Hears in
    subst (Stepped code p i old c.apply_hearing.new.self) (sym c.made-in-Hears.ensures)
    (hear-stepped old c.requires.wired code p i m.kind m.end m.told m.message (subst (ComesTo code p i old) m.is z) c.apply_hearing.new.self c.at_end-entry-in-Hears.result c.apply_hearing.result
    c.at_end-entry-in-Hears.ensures c.apply_hearing.ensures.changed c.apply_hearing.ensures.did c.apply_hearing.ensures.err)

pub returns-in-Says : goal.returns-in-Says
returns-in-Says c code i z =
    let old = c.args.self.now in
    let p = c.args.number in
    let m = c.in-Says in
    subst (Stepped code p i old c.apply_saying.new.self) (sym c.made-in-Says.ensures)
    (say-stepped old c.requires.wired code p i m.end m.told (subst (ComesTo code p i old) m.is z) c.apply_saying.new.self c.at_end-entry-in-Says.result c.apply_saying.result
    c.at_end-entry-in-Says.ensures c.apply_saying.ensures.did c.apply_saying.ensures.err)
