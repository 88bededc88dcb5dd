use Rattle.std.proofs.Common.{sym, ap, ◌∙◌, ◌-◌, length, take, drop, map, arith}
use Rattle.campl_tree.specs.View.{view_seq, view_decl}
use Rattle.campl_missing.specs.View.{view_rows, view_head, view_heads}
use Rattle.campl_missing.proofs.Depths.{under-deepest, open-falls, closed-falls, behind-falls}
use Rattle.campl_missing.proofs.Missed.{open-answered, closed-answered}
use Rattle.campl_missing.proofs.Slices.{not-empty, first-and-rest}
use Rattle.campl_missing.proofs.search.+missing.Goals as goal

pub first_missing-missing_behind-requires : goal.first_missing-missing_behind-requires
first_missing-missing_behind-requires t c =
    let w = map view_decl c.args.world.now in
    let a = under-deepest view_head w (view_rows c.args.rows.now) (map view_seq c.args.others.now) c.args.heads.now c.loop-head.head-index c.head-item.result (omega (arith, c.loop-head-test.true)) c.head-item.is in
    (omega (arith, a, c.decreases), tt)

pub missing-missing_behind-requires : goal.missing-missing_behind-requires
missing-missing_behind-requires t c =
    let types = c.args.types.now in
    (open-falls (map view_decl c.args.world.now) (view_rows c.args.rows.now) c.first-item.result (take (length types - 1) (drop 1 types)) types t (first-and-rest types c.first-item.result c.in-len1-up.len_at_least c.first-item.is) c.decreases, tt)

pub missing-returns-then-all_open : goal.missing-returns-then-all_open
missing-returns-then-all_open t c =
    let types = c.args.types.now in
    open-answered c.behind_anything.result (map view_decl c.args.world.now) c.args.rows.now c.first-item.result (take (length types - 1) (drop 1 types)) types c.in_ok-found.found
    (first-and-rest types c.first-item.result c.in-len1-up.len_at_least c.first-item.is)
    (not-empty c.is_empty.result (length c.args.rows.now) c.if-is_empty.false c.is_empty.ensures)
    (sym c.all_open.ensures ∙ c.if-all_open.true)
    c.in_ok-found.ensures c.behind_anything.ensures

pub missing-first_missing-requires : goal.missing-first_missing-requires
missing-first_missing-requires t c =
    let types = c.args.types.now in (
      closed-falls (map view_decl c.args.world.now) (view_rows c.args.rows.now) c.first-item.result (take (length types - 1) (drop 1 types)) types (view_heads c.as_slice.result.now) t
          (first-and-rest types c.first-item.result c.in-len1-up.len_at_least c.first-item.is) (sym c.all_open.ensures ∙ c.if-all_open.false) (ap view_heads c.as_slice.ensures ∙ c.in_ok-tried.ensures) c.decreases,
      tt,
    )

pub missing-returns : goal.missing-returns
missing-returns t c =
    let types = c.args.types.now in
    closed-answered c.first_missing.result (map view_decl c.args.world.now) c.args.rows.now c.first-item.result (take (length types - 1) (drop 1 types)) types (view_heads c.as_slice.result.now)
    (first-and-rest types c.first-item.result c.in-len1-up.len_at_least c.first-item.is) (sym c.all_open.ensures ∙ c.if-all_open.false) (ap view_heads c.as_slice.ensures ∙ c.in_ok-tried.ensures) c.first_missing.ensures

pub missing_behind-missing-requires : goal.missing_behind-missing-requires
missing_behind-missing-requires t c = (
  behind-falls (map view_decl c.args.world.now) (view_rows c.args.rows.now) (view_rows c.as_slice.result.now) (map view_seq c.args.others.now) (map view_seq c.as_slice-2.result.now) (view_head c.args.head.now) t
      (ap view_rows c.as_slice.ensures ∙ c.in_ok-kept.ensures) (ap (map view_seq) c.as_slice-2.ensures ∙ c.in_ok-types.ensures) c.decreases,
  tt,
)
