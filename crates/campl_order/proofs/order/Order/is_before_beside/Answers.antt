use Rattle.std.proofs.Common.{◌≡◌, ◌≢◌, ◌<◌, nat_lt, sym, ap, ap₂, subst, subst₂, ◌∙◌}
use Rattle.campl_order.specs.declared.order.Rank.{Rank}
use Rattle.campl_order.specs.Orders.{rank}
use Rattle.campl_order.proofs.Earlier.{Up, parent-i, jump-i, parent-up, jump-up, siblings-decide}
use Rattle.campl_order.proofs.order.Order.is_before_beside.Goals as goal
use Rattle.campl_order.proofs.order.Order.is_before_beside.Goals.{then-near, else-near}

pub up-smaller : goal.up-smaller
up-smaller c =
    let rs = c.args.self.now.ranks.items in
    let v = c.up.invariant in
    let k = c.requires.ranked in
    elim c.if-near.branch [
      | then-near w ↦
          let e : (rank rs c.up.i).jump ≡ c.if-near.i = ap (λ (r : Rank). r.jump) (sym v.left) ∙ sym w.i-is in
          subst (λ x. x < c.up.i) e (jump-i k.0 rs k.1 c.args.a c.args.b c.up.i c.up.j v.up).0
      | else-near w ↦
          let e : (rank rs c.up.i).parent ≡ c.if-near.i = ap (λ (r : Rank). r.parent) (sym v.left) ∙ sym w.i-is in
          subst (λ x. x < c.up.i) e (parent-i k.0 rs k.1 c.args.a c.args.b c.up.i c.up.j v.up).0
    ]

pub up-preserved : goal.up-preserved
up-preserved c =
    let rs = c.args.self.now.ranks.items in
    let v = c.up.invariant in
    let k = c.requires.ranked in
    let next : Up rs c.args.a c.args.b c.if-near.i c.if-near.j = elim c.if-near.branch [
      | then-near w ↦
          let ei : (rank rs c.up.i).jump ≡ c.if-near.i = ap (λ (r : Rank). r.jump) (sym v.left) ∙ sym w.i-is in
          let ej : (rank rs c.up.j).jump ≡ c.if-near.j = ap (λ (r : Rank). r.jump) (sym v.right) ∙ sym w.j-is in
          let h = c.jumps-near.ensures w.if-near.true in
          let ne : (rank rs c.up.i).jump ≢ (rank rs c.up.j).jump = (λ e. h.0 (ap (λ (r : Rank). r.jump) v.left ∙ (e ∙ ap (λ (r : Rank). r.jump) (sym v.right)))) in
          let l : (rank rs (rank rs c.up.i).jump).depth ≡ (rank rs (rank rs c.up.j).jump).depth = ap (λ (r : Rank). (rank rs r.jump).depth) (sym v.left) ∙ (h.1 ∙ ap (λ (r : Rank). (rank rs r.jump).depth) v.right) in
          subst₂ (Up rs c.args.a c.args.b) ei ej (jump-up rs k c.args.a c.args.b c.up.i c.up.j v.up ne l)
      | else-near w ↦
          let ei : (rank rs c.up.i).parent ≡ c.if-near.i = ap (λ (r : Rank). r.parent) (sym v.left) ∙ sym w.i-is in
          let ej : (rank rs c.up.j).parent ≡ c.if-near.j = ap (λ (r : Rank). r.parent) (sym v.right) ∙ sym w.j-is in
          let ne : (rank rs c.up.i).parent ≢ (rank rs c.up.j).parent = (λ e. c.up-test.true (ap (λ (r : Rank). r.parent) v.left ∙ (e ∙ ap (λ (r : Rank). r.parent) (sym v.right)))) in
          subst₂ (Up rs c.args.a c.args.b) ei ej (parent-up rs k c.args.a c.args.b c.up.i c.up.j v.up ne)
    ] in
    record { up = next; left = c.rank-left-in-up.ensures; right = c.rank-right-in-up.ensures }

pub returns : goal.returns
returns c names r =
    let rs = c.args.self.now.ranks.items in
    let v = c.up.invariant in
    ap₂ (λ (x y : Rank). nat_lt x.born y.born) v.left v.right
    ∙ siblings-decide names rs r c.args.a c.args.b c.up.i c.up.j v.up (ap (λ (x : Rank). x.parent) (sym v.left) ∙ (c.up-test.false ∙ ap (λ (x : Rank). x.parent) v.right))
